use Rattle.std.proofs.Common.{◌≡◌, ◌+◌, ◌<◌, [], ◌∷◌, ◌++◌, length, ap, sym, ◌∙◌, subst, arith, rules, length-append, flat_map}
use Rattle.model_base.specs.Batch.{count_of, named_by, family_bytes, strings_of, varstring}
use Rattle.log_batch.specs.View.{record_of}
use Rattle.log_batch.proofs.Additions.{counts_once}
use Rattle.log_batch.proofs.OneReading.{Walks, walks_more, walked_all}
use Rattle.log_batch.proofs.records.count_records.Goals as goal

pub loop-rest-preserved : goal.loop-rest-preserved
loop-rest-preserved c =
    let now = c.loop-rest.invariant in
    let rest = c.loop-rest.rest.now in
    let behind = c.in_ok-record.behind.now in
    let first = c.in_ok-record.ensures.spelled in
    let shorter : length behind < length rest = omega (arith, ap length first, length-append (family_bytes (named_by (record_of c.in_ok-record.record)) ++ flat_map varstring (strings_of (record_of c.in_ok-record.record))) behind) in
    let more = walks_more c.args.bytes.now rest c.loop-rest.found (record_of c.in_ok-record.record) behind now.walked c.in_ok-record.ensures.readable first in
    let count : c.from-found.result ≡ count_of (record_of c.in_ok-record.record ∷ []) = c.from-found.ensures ∙ c.sequences_of.ensures in
    record {
      walked = subst (λ n. Walks c.args.bytes.now behind (c.loop-rest.found + n)) (sym count) more;
      few = omega (arith, now.few, shorter, count, counts_once (record_of c.in_ok-record.record));
    }

pub returns-clause-ok : goal.returns-clause-ok
returns-clause-ok c = walked_all c.args.bytes.now c.loop-rest.rest.now c.loop-rest.found c.loop-rest.invariant.walked (search rules)
