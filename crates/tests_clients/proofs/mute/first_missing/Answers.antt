use Rattle.std.proofs.Common.{◌≡◌, ℕ, suc, ◌+◌, ◌<◌, nat_le, Bool, cond, Option, Some, List, ◌∷◌, length, map, drop, get_or, ap, sym, ◌∙◌, add-one, drop-cons}
use Rattle.std.proofs.lemmas.Bool.{le-leb, lt-leb}
use Rattle.std.proofs.lemmas.List.{drop_all}
use Rattle.base_bytes.specs.declared.answers.Place.{Place}
use Rattle.model_base.specs.Progress.{first_missing}
use Rattle.tests_clients.proofs.mute.first_missing.Goals as goal

abbrev missing_of : ℕ → List Place → Option ℕ
missing_of families places = first_missing families (map (λ (p : Place). p.family) places)

-- the first missing family of the places from this one on
from_place : (families : ℕ) (places : List Place) (i : ℕ) (x : Place) → i < length places → x ≡ get_or places i x
    → missing_of families (drop i places) ≡ cond (nat_le families x.family) (Some x.family) (missing_of families (drop (i + 1) places))
from_place families places i x within is = rw add-one (ap (missing_of families) (drop-cons places i x within ∙ ap (λ (y : Place). y ∷ drop (suc i) places) (sym is)))

pub loop-place-preserved : goal.loop-place-preserved
loop-place-preserved c =
    let places = c.args.places.now in
    let place = c.place-item.result in
    let i = c.loop-place.place-index in
    c.loop-place.invariant
    ∙ (from_place c.args.families places i place c.loop-place-test.true c.place-item.is
    ∙ ap (λ (b : Bool). cond b (Some place.family) (missing_of c.args.families (drop (i + 1) places))) (lt-leb c.args.families place.family c.if-place-families.false))

pub returns-then-place-families : goal.returns-then-place-families
returns-then-place-families c =
    let places = c.args.places.now in
    let place = c.place-item.result in
    let i = c.loop-place.place-index in
    sym (c.loop-place.invariant
    ∙ (from_place c.args.families places i place c.loop-place-test.true c.place-item.is
    ∙ ap (λ (b : Bool). cond b (Some place.family) (missing_of c.args.families (drop (i + 1) places))) (le-leb c.args.families place.family c.if-place-families.true)))

pub returns : goal.returns
returns c = sym (c.loop-place.invariant ∙ ap (missing_of c.args.families) (drop_all c.loop-place.place-index c.args.places.now c.loop-place-test.false))
