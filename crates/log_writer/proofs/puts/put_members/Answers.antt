use Rattle.std.proofs.Common.{◌≡◌, ◌+◌, ◌++◌, ℕ, List, length, false, IfOk, sym, ◌∙◌, ap, subst, arith, length-append}
use Rattle.std.proofs.lemmas.List.{append-nil}
use Rattle.std.proofs.lemmas.List.Concat.{length-flat_map}
use Rattle.model_base.specs.Batch.{body}
use Rattle.model_base.specs.Batch as model
use Rattle.model_base.specs.Log as log
use Rattle.log_batch.specs.Contents.{Contents}
use Rattle.log_writer.specs.Groups.{bodies_of, record_of_group}
use Rattle.log_writer.specs.Puts.{Puts}
use Rattle.log_writer.proofs.Members.{record_is, only_member}
use Rattle.log_writer.proofs.puts.put_members.Goals as goal

pub returns-clause-put : goal.returns-clause-put
returns-clause-put g c =
    let same : c.new-rest.result ≡ record_of_group c.args.first c.args.members.now =
    c.new-rest.ensures ∙ (append-nil c.bytes-bytes.result.now ∙ (c.bytes-bytes.ensures
    ∙ only_member c.args.members.now c.only-item.result c.args.first (omega arith) c.only-item.is (sym c.sequence.ensures ∙ c.if-sequence-first.true))) in
    subst (λ (bytes : List ℕ). Puts g.D.Disk c.args.disk.now c.put_record.new.disk (log.record_text c.args.number c.args.offset bytes) false c.put_record.result) same c.put_record.ensures.put

pub returns-clause-end : goal.returns-clause-end
returns-clause-end g c =
    let same : c.new-rest.result ≡ record_of_group c.args.first c.args.members.now =
    c.new-rest.ensures ∙ (append-nil c.bytes-bytes.result.now ∙ (c.bytes-bytes.ensures
    ∙ only_member c.args.members.now c.only-item.result c.args.first (omega arith) c.only-item.is (sym c.sequence.ensures ∙ c.if-sequence-first.true))) in
    subst (λ (bytes : List ℕ). IfOk c.put_record.result (λ end. end ≡ c.args.offset + length (log.record_text c.args.number c.args.offset bytes))) same c.put_record.ensures.end

pub put_record-requires-2-clause-whole : goal.put_record-requires-2-clause-whole
put_record-requires-2-clause-whole g c =
    omega (arith, c.bodies_len-len.ensures, ap length c.new-rest-2.ensures, length-append c.group_header-header.result (bodies_of c.args.members.now), length-flat_map (λ (m : Contents). body m.records) c.args.members.now)

pub returns-2-clause-put : goal.returns-2-clause-put
returns-2-clause-put g c =
    let same : c.new-rest-2.result ≡ record_of_group c.args.first c.args.members.now =
    c.new-rest-2.ensures ∙ (ap (λ (l : List ℕ). l ++ bodies_of c.args.members.now) (c.group_header-header.ensures ∙ ap (model.header c.args.first) c.count_of.ensures) ∙ record_is c.args.first c.args.members.now) in
    subst (λ (bytes : List ℕ). Puts g.D.Disk c.args.disk.now c.put_record-2.new.disk (log.record_text c.args.number c.args.offset bytes) false c.put_record-2.result) same c.put_record-2.ensures.put

pub returns-2-clause-end : goal.returns-2-clause-end
returns-2-clause-end g c =
    let same : c.new-rest-2.result ≡ record_of_group c.args.first c.args.members.now =
    c.new-rest-2.ensures ∙ (ap (λ (l : List ℕ). l ++ bodies_of c.args.members.now) (c.group_header-header.ensures ∙ ap (model.header c.args.first) c.count_of.ensures) ∙ record_is c.args.first c.args.members.now) in
    subst (λ (bytes : List ℕ). IfOk c.put_record-2.result (λ end. end ≡ c.args.offset + length (log.record_text c.args.number c.args.offset bytes))) same c.put_record-2.ensures.end
