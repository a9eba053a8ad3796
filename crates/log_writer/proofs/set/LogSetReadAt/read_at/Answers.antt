use Rattle.std.proofs.Common.{◌≡◌, ◌++◌, ◌∷◌, [], IfSome, length, take, drop, refl, sym, subst}
use Rattle.std.specs.List.{AllZip}
use Rattle.base_devices.specs.Disk.{BytesAt}
use Rattle.base_devices.specs.Faults.{HasCause}
use Rattle.log_writer.specs.Reads.{WasRead, faults_in, held_at}
use Rattle.log_writer.specs.ReadLaws.{begun_were_read, held_kept}
use Rattle.log_writer.specs.Sets.{count_in}
use Rattle.log_writer.proofs.Reading.{zip_many}
use Rattle.log_writer.proofs.ReadsIn.{written_over, count_cause}
use Rattle.log_writer.proofs.set.LogSetReadAt.read_at.Goals as goal

pub returns-clause-bytes : goal.returns-clause-bytes
returns-clause-bytes g c =
    let old = c.args.self.now in
    subst (λ l. IfSome (held_at (l ++ old.current ∷ []) old.chosen) (λ file. BytesAt file c.args.at c.read_in.new.buf c.read_in.result)) c.deref_mut.ensures.value c.read_in.ensures.bytes

pub returns-clause-same : goal.returns-clause-same
returns-clause-same g c =
    let old = c.args.self.now in
    let news = c.read_in.new.full in
    let current = c.read_in.new.current in
    let were : AllZip WasRead old.full.items news = subst (λ l. AllZip WasRead l news) c.deref_mut.ensures.value c.read_in.ensures.full in
    let is : take old.full.len (news ++ drop (length news) old.full.items) ≡ news = written_over old.full.len news old.full.items old.full.ok.0 (sym (zip_many WasRead old.full.items news were)) in
    subst (λ l. held_at (l ++ current ∷ []) old.chosen ≡ held_at (old.full.items ++ old.current ∷ []) old.chosen) (sym is)
    (held_kept (old.full.items ++ old.current ∷ []) (news ++ current ∷ []) old.chosen (begun_were_read old.full.items news old.current current were c.read_in.ensures.current))

pub returns-clause-cause : goal.returns-clause-cause
returns-clause-cause g c =
    let old = c.args.self.now in
    let news = c.read_in.new.full in
    let current = c.read_in.new.current in
    let were : AllZip WasRead old.full.items news = subst (λ l. AllZip WasRead l news) c.deref_mut.ensures.value c.read_in.ensures.full in
    let is : take old.full.len (news ++ drop (length news) old.full.items) ≡ news = written_over old.full.len news old.full.items old.full.ok.0 (sym (zip_many WasRead old.full.items news were)) in
    subst (λ l. HasCause (count_in (old.full.items ++ old.current ∷ old.later.items)) (count_in (l ++ current ∷ old.later.items)) c.read_in.result) (sym is)
    (count_cause old.full.items news old.current current old.later.items c.read_in.result
    (subst (λ l. HasCause (faults_in (l ++ old.current ∷ [])) (faults_in (news ++ current ∷ [])) c.read_in.result) c.deref_mut.ensures.value c.read_in.ensures.cause))

pub returns-clause-only : goal.returns-clause-only
returns-clause-only g c =
    let old = c.args.self.now in
    let news = c.read_in.new.full in
    let were : AllZip WasRead old.full.items news = subst (λ l. AllZip WasRead l news) c.deref_mut.ensures.value c.read_in.ensures.full in
    let is : take old.full.len (news ++ drop (length news) old.full.items) ≡ news = written_over old.full.len news old.full.items old.full.ok.0 (sym (zip_many WasRead old.full.items news were)) in
    record {
      was_read = record { full = subst (λ l. AllZip WasRead old.full.items l) (sym is) were; current = c.read_in.ensures.current; later = refl; limit = refl; fault = refl };
      chosen = refl;
    }
