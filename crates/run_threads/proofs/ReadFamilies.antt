-- What a read's answer says of the families that it names.
use Rattle.std.proofs.Common.{◌≡◌, ℕ, List, [], ◌∷◌, map, Option, Some, None, Result, Ok, Err, MatchOption, IsOkUnless, refl, sym, ap, ◌∙◌}
use Rattle.base_bytes.specs.declared.answers.Place.{Place}
use Rattle.model_base.specs.declared.key.Key.{Key}
use Rattle.model_base.specs.declared.write.ReadRefused.{ReadRefused}
use Rattle.model_base.specs.declared.write.ReadRefused.TheVariants as no
use Rattle.model_base.specs.Map.{Pairs, key_at, value_at}
use Rattle.model_base.specs.Progress.{first_missing}
use Rattle.model_base.specs.Trace.{Settings}
use Rattle.engine_calls.specs.Reading.{IsOfFamilies}

-- what is said of an answer, where this is the first family that there isn't, if there is one
abbrev Says : {A : Type 0} → Option ℕ → Result A ReadRefused → Type 0
Says missing result = MatchOption missing (IsOkUnless result no.NoMemory) (λ family. result ≡ Err (no.NoFamily family))

no_value : {A : Type 0} (x : A) (e : ReadRefused) → ◌≡◌ {A = Result A ReadRefused} (Ok x) (Err e) → ⊥
no_value x e is = cc

same_family : {A : Type 0} (f g : ℕ) → ◌≡◌ {A = Result A ReadRefused} (Err (no.NoFamily f)) (Err (no.NoFamily g)) → f ≡ g
same_family f g is = cc

memory_or_family : {A : Type 0} (f : ℕ) → ◌≡◌ {A = Result A ReadRefused} (Err no.NoMemory) (Err (no.NoFamily f)) → ⊥
memory_or_family f is = cc

family_or_memory : (f : ℕ) → ◌≡◌ {A = ReadRefused} (no.NoFamily f) no.NoMemory → ⊥
family_or_memory f is = cc

-- where it is answered, or there was no memory, the families are there
pub all_there : {A : Type 0} (settings : Settings) (named : List ℕ) (x : A) → IsOfFamilies {A = A} settings named (Ok x) → first_missing settings.families named ≡ None
all_there {A = A} settings named x says = by_missing (first_missing settings.families named) says
  where
    by_missing : (missing : Option ℕ) → Says {A = A} missing (Ok x) → missing ≡ None
    by_missing None says = refl
    by_missing (Some family) says = absurd (no_value x (no.NoFamily family) says)

pub there_but_no_memory : (A : Type 0) (settings : Settings) (named : List ℕ) → IsOfFamilies {A = A} settings named (Err no.NoMemory) → first_missing settings.families named ≡ None
there_but_no_memory A settings named says = by_missing (first_missing settings.families named) says
  where
    by_missing : (missing : Option ℕ) → Says {A = A} missing (Err no.NoMemory) → missing ≡ None
    by_missing None says = refl
    by_missing (Some family) says = absurd (memory_or_family {A = A} family says)

-- where it is refused for a family, this is the first one that there isn't
pub first_is_missing : (A : Type 0) (settings : Settings) (named : List ℕ) (family : ℕ) → IsOfFamilies {A = A} settings named (Err (no.NoFamily family)) → first_missing settings.families named ≡ Some family
first_is_missing A settings named family says = by_missing (first_missing settings.families named) says
  where
    by_missing : (missing : Option ℕ) → Says {A = A} missing (Err (no.NoFamily family)) → missing ≡ Some family
    by_missing None says = absurd (family_or_memory family says)
    by_missing (Some other) says = ap Some (sym (same_family {A = A} family other says))

-- Keys at their places

abbrev keys_at : List Place → List Key
keys_at places = map (λ (p : Place). key_at p.family p.key) places

pub families_at : (places : List Place) (keys : List Key) → keys_at places ≡ keys → map (λ (p : Place). p.family) places ≡ map (λ (k : Key). k.family) keys
families_at places keys are = each places ∙ ap (map (λ (k : Key). k.family)) are
  where
    each : (ps : List Place) → map (λ (p : Place). p.family) ps ≡ map (λ (k : Key). k.family) (keys_at ps)
    each [] = refl
    each (p ∷ ps) = ap (λ (l : List ℕ). p.family ∷ l) (each ps)

pub values_at : (m : Pairs) (places : List Place) (keys : List Key) → keys_at places ≡ keys → map (λ (p : Place). value_at m (key_at p.family p.key)) places ≡ map (value_at m) keys
values_at m places keys are = each places ∙ ap (map (value_at m)) are
  where
    each : (ps : List Place) → map (λ (p : Place). value_at m (key_at p.family p.key)) ps ≡ map (value_at m) (keys_at ps)
    each [] = refl
    each (p ∷ ps) = ap (λ (l : List (Option (List ℕ))). value_at m (key_at p.family p.key) ∷ l) (each ps)
