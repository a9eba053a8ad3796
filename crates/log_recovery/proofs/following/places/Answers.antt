use Rattle.std.proofs.Common.{List, ℕ, refl, sym, subst, arith, length-append, map}
use Rattle.std.proofs.lemmas.List.{take-append-le}
use Rattle.model_base.specs.Log.{SpellsWhole}
use Rattle.model_base.specs.Recovery.{logged_bytes}
use Rattle.log_recovery.proofs.MoreKept.{keeps_none}
use Rattle.log_recovery.proofs.following.places.Goals as goal

pub returns : goal.returns
returns c = record {
  start = λ number file last. record { keeps = keeps_none last number file; last = refl };
  grown = λ start number file more place before stands.
      let keeps = stands.keeps in
      let within = keeps.within in
      let long = length-append file more in
      record {
        keeps = record {
          within = omega (arith, within, long);
          spelled = subst (λ (l : List ℕ). SpellsWhole number l (map logged_bytes before)) (sym (take-append-le place.at file more within)) keeps.spelled;
          are_batches = keeps.are_batches;
          in_order = keeps.in_order;
        };
        last = stands.last;
      };
}
