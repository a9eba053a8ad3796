-- Where reading finds no record, there is none.
use Rattle.std.proofs.Common.{Option, ◌≡◌, ℕ, List, [], ◌∷◌, ◌++◌, sym, ◌∙◌, ap, subst, append_assoc}
use Rattle.model_base.specs.declared.log.Damage.{Damage}
use Rattle.model_base.specs.declared.log.EndReason.{EndReason}
use Rattle.model_base.specs.Log.{Fragment, AreOneRecord, kinds_of}
use Rattle.model_base.specs.Reading.{fragment, nothing, damage, AreBegun, HasFragments, ReadingEnds, clean, broken, bad_order, unfinished}
use Rattle.log_laws.proofs.Placed.{begins}
use Rattle.log_recovery.proofs.Standing.{goes_on}

not_nothing : (f : Fragment) → nothing ≡ fragment f → ⊥
not_nothing f e = cc

not_damage : (d : Damage) (f : Fragment) → damage d ≡ fragment f → ⊥
not_damage d f e = cc

-- the next fragment of a record is in no wrong place
in_order : (fs g later : List Fragment) (f h : Fragment) → AreOneRecord (kinds_of g) → g ≡ fs ++ h ∷ later → fragment f ≡ fragment h → (AreBegun (kinds_of (fs ++ f ∷ [])) → ⊥) → (AreOneRecord (kinds_of (fs ++ f ∷ [])) → ⊥) → ⊥
in_order fs g [] f h one parts seen not_begun not_one =
    let same : h ≡ f = cc in
    not_one (subst (λ l. AreOneRecord (kinds_of l)) (parts ∙ ap (λ (x : Fragment). fs ++ x ∷ []) same) one)
in_order fs g (p ∷ later) f h one parts seen not_begun not_one =
    let same : h ≡ f = cc in
    let split : g ≡ (fs ++ f ∷ []) ++ p ∷ later = parts ∙ ap (λ (x : Fragment). fs ++ x ∷ p ∷ later) same ∙ sym (append_assoc fs (f ∷ []) (p ∷ later)) in
    not_begun (begins (fs ++ f ∷ []) p later (subst (λ l. AreOneRecord (kinds_of l)) split one))

-- Where reading finds no record, there is none.
pub none_stands : (number : Option ℕ) (file : List ℕ) (offset at : ℕ) (why : EndReason) (g : List Fragment) → ReadingEnds number file offset at why → AreOneRecord (kinds_of g) → HasFragments number file offset g → ⊥
none_stands number file offset at why g (clean comes) one stands =
    let on = goes_on number file offset [] g _ comes one stands in not_nothing on.f on.sees
none_stands number file offset at why g (broken {d = d} fs comes) one stands =
    let on = goes_on number file offset fs g _ comes one stands in not_damage d on.f on.sees
none_stands number file offset at why g (bad_order {f = f} fs comes not_begun not_one) one stands =
    let on = goes_on number file offset fs g _ comes one stands in in_order fs g on.later f on.f one on.parts on.sees not_begun not_one
none_stands number file offset at why g (unfinished f fs comes) one stands =
    let on = goes_on number file offset (f ∷ fs) g _ comes one stands in not_nothing on.f on.sees
