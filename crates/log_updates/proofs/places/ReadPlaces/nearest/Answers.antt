use Rattle.std.proofs.Common.{◌≡◌, ◌<◌, ◌⊎◌, inl, inr, ⊎_elim, Contains, take, sym, ◌∙◌, subst}
use Rattle.std.proofs.lemmas.List.{take_all}
use Rattle.std.proofs.lemmas.List.Elements.{Contains-get_or}
use Rattle.std.specs.List.{AllByRecursion}
use Rattle.log_updates.specs.declared.places.LogPlace.{LogPlace}
use Rattle.log_updates.specs.Places.{first_place}
use Rattle.log_updates.proofs.Nearest.{IsNoLater, none_later, one_more}
use Rattle.log_updates.proofs.places.ReadPlaces.nearest.Goals as goal

pub loop-place-init : goal.loop-place-init
loop-place-init c = record { one_of = inl c.start-nearest.ensures.first; last = tt }

pub loop-place-preserved : goal.loop-place-preserved
loop-place-preserved c =
    let places = c.deref-place-items.result.now in
    let i = c.loop-place.place-index in
    let old = c.loop-place.invariant in
    let new = c.nearer-nearest in
    record {
      one_of = ⊎_elim
          (λ same. subst (λ (p : LogPlace). (p ≡ first_place) ⊎ (Contains places p × (p.last < c.args.since))) (sym same) old.one_of)
          (λ is. inr (subst (λ (p : LogPlace). Contains places p) (sym is.0) (Contains-get_or places i _ c.loop-place-test.true), is.1))
          new.ensures.one_of;
      last = one_more (IsNoLater c.args.since new.result.last) places i _
          (none_later c.args.since c.loop-place.nearest.last new.result.last (take i places) new.ensures.later old.last) c.loop-place-test.true new.ensures.last;
    }

pub returns-clause-one_of : goal.returns-clause-one_of
returns-clause-one_of c =
    let nearest = c.loop-place.nearest in
    subst (λ l. (nearest ≡ first_place) ⊎ (Contains l nearest × (nearest.last < c.args.since))) (c.deref-place-items.ensures.value ∙ c.self.view_is) c.loop-place.invariant.one_of

pub returns-clause-last : goal.returns-clause-last
returns-clause-last c =
    let places = c.deref-place-items.result.now in
    subst (λ l. AllByRecursion (IsNoLater c.args.since c.loop-place.nearest.last) l) (take_all c.loop-place.place-index places c.loop-place-test.false ∙ (c.deref-place-items.ensures.value ∙ c.self.view_is)) c.loop-place.invariant.last
