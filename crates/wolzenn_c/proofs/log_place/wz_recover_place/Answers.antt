use Rattle.std.proofs.Common.{ℕ, Option, List, refl, sym, subst}
use Rattle.wolzenn_c.specs.declared.codes.WzEnd.{WzEnd}
use Rattle.wolzenn_c.specs.LogPlaces.{KeepsUpTo}
use Rattle.log_in_memory.specs.Readings.{number_of}
use Rattle.wolzenn_c.proofs.LogPlaces.{Reads, kept_from_start, reached}
use Rattle.wolzenn_c.proofs.log_place.wz_recover_place.Goals as goal

-- It comes to what recovery keeps.
pub returns-in-Some-clause-from_start : goal.returns-in-Some-clause-from_start
returns-in-Some-clause-from_start c = λ at_start some.
    let number = number_of c.args.number in
    let named = subst (λ (n : Option ℕ). Reads n c.new-disk.result.bytes.now c.args.place.now c.in-Ok.more) c.log_number.ensures c.in-Ok.ensures.more in
    let reads = subst (λ (l : List ℕ). Reads number l c.args.place.now c.in-Ok.more) c.new-disk.ensures named in (
      refl,
      subst (λ (e : WzEnd). KeepsUpTo number c.args.log.now (reached c.in-Ok.more) e) (sym c.end_of.ensures)
          (kept_from_start number c.args.log.now c.args.place.now c.in-Ok.more c.in-Some.last (c.places.ensures.start number c.args.log.now 0) reads at_start c.in-Some.is),
    )
