-- Places of a file, and what is seen there.
use Rattle.std.proofs.Common.{◌≡◌, ℕ, ◌+◌, ◌-◌, ◌<◌, ◌≤◌, Bool, true, false, cond, List, length, take, drop, Option, Some, None, nat_lt, ◌==◌, ◌&&◌, refl, sym, ◌∙◌, ap, subst, arith}
use Rattle.std.proofs.lemmas.Bool.{ltb-true}
use Rattle.std.proofs.lemmas.List.{get_or-take, drop-take, take-take}
use Rattle.std.proofs.lemmas.Nat.{mod_below}
use Rattle.std.specs.Int.{w16, from_le_bytes}
use Rattle.model_base.specs.declared.log.Damage.{Damage}
use Rattle.model_base.specs.declared.log.EndReason.TheVariants as ends
use Rattle.model_base.specs.Log.{Fragment, header_len, kind_code, room}
use Rattle.model_base.specs.Reading.{Seen, Next, fragment, nothing, damage, seen_at, next_seen, behind_zeros, kind_of_code, length_field, type_field}
use Rattle.log_block.proofs.Types.{own_code}
use Rattle.log_recovery_laws.proofs.SeenFragment.{IsFragment, fragment_is}
use Rattle.log_scan.specs.Resuming.{fragment_len, next_block, there, after_damage, is_compressed, resumes_at}

pub some_header : (number : Option ℕ) → 6 < header_len number
some_header None = omega arith
some_header (Some n) = omega arith

pub place_there : (file : List ℕ) (place next : ℕ) → there file place ≡ Some next → (place ≡ next) × (next < length file)
place_there file place next e = by_test (nat_lt place (length file)) refl e
  where
    by_test : (b : Bool) → nat_lt place (length file) ≡ b → cond b (Some place) None ≡ Some next → (place ≡ next) × (next < length file)
    by_test true less h = let same : place ≡ next = cc in (same, subst (λ (n : ℕ). n < length file) same (ltb-true place (length file) less))
    by_test false less h = absurd (cc)

-- where reading is tried again after damage, the log doesn't begin as a compressed one there
pub resumes_there : (number : Option ℕ) (file : List ℕ) (at next : ℕ) (d : Damage) → resumes_at number file at (ends.Broken d) ≡ Some next
    → ((at == 0 && is_compressed file) ≡ false) × (there file (after_damage number file at) ≡ Some next)
resumes_there number file at next d e = by_test (at == 0 && is_compressed file) refl e
  where
    by_test : (b : Bool) → (at == 0 && is_compressed file) ≡ b → cond b None (there file (after_damage number file at)) ≡ Some next
        → ((at == 0 && is_compressed file) ≡ false) × (there file (after_damage number file at) ≡ Some next)
    by_test true is h = absurd (cc)
    by_test false is h = (is, h)

pub after_damage_later : (number : Option ℕ) (file : List ℕ) (at : ℕ) → at < after_damage number file at
after_damage_later number file at = by_choice _
  where
    by_choice : (b : Bool) → at < cond b (at + fragment_len number (drop at file)) (next_block at)
    by_choice true = omega (arith, some_header number)
    by_choice false = omega (arith, mod_below at 32768 (omega arith))

-- what is seen next isn't before the place from which it is looked for
pub next_after : (number : Option ℕ) (file : List ℕ) (offset at : ℕ) (seen : Seen) → record { at = at; seen = seen } ≡ next_seen number file offset → offset ≤ at
next_after number file offset at seen e = subst (λ (n : Next). offset ≤ n.at) (sym e) (by_seen (seen_at number file offset))
  where
    by_seen : (s : Seen) → offset ≤ (behind_zeros number file offset s).at
    by_seen nothing = omega arith
    by_seen (damage d) = omega arith
    by_seen (fragment f) = omega arith

-- the fragment that is seen next is seen at its place
pub seen_there : (number : Option ℕ) (file : List ℕ) (offset at : ℕ) (f : Fragment) → record { at = at; seen = fragment f } ≡ next_seen number file offset → seen_at number file at ≡ fragment f
seen_there number file offset at f e = by_seen (seen_at number file offset) refl e
  where
    by_seen : (s : Seen) → seen_at number file offset ≡ s → record { at = at; seen = fragment f } ≡ behind_zeros number file offset s → seen_at number file at ≡ fragment f
    by_seen nothing seen h = ap (seen_at number file) (ap (λ (n : Next). n.at) h) ∙ sym (ap (λ (n : Next). n.seen) h)
    by_seen (damage d) seen h = let wrong : fragment f ≡ damage d = ap (λ (n : Next). n.seen) h in absurd (cc)
    by_seen (fragment g) seen h = ap (seen_at number file) (ap (λ (n : Next). n.at) h) ∙ (seen ∙ sym (ap (λ (n : Next). n.seen) h))

-- and so is damage
pub damage_there : (number : Option ℕ) (file : List ℕ) (offset at : ℕ) (d : Damage) → record { at = at; seen = damage d } ≡ next_seen number file offset → seen_at number file at ≡ damage d
damage_there number file offset at d e = by_seen (seen_at number file offset) refl e
  where
    by_seen : (s : Seen) → seen_at number file offset ≡ s → record { at = at; seen = damage d } ≡ behind_zeros number file offset s → seen_at number file at ≡ damage d
    by_seen nothing seen h = ap (seen_at number file) (ap (λ (n : Next). n.at) h) ∙ sym (ap (λ (n : Next). n.seen) h)
    by_seen (damage c) seen h = ap (seen_at number file) (ap (λ (n : Next). n.at) h) ∙ (seen ∙ sym (ap (λ (n : Next). n.seen) h))
    by_seen (fragment g) seen h = let wrong : damage d ≡ fragment g = ap (λ (n : Next). n.seen) h in absurd (cc)

-- the fields of a header are in its front
pub type_in_front : (n : ℕ) (bytes : List ℕ) → 7 ≤ n → type_field (take n bytes) ≡ type_field bytes
type_in_front n bytes enough = get_or-take n bytes 6 0 (omega (arith, enough))

pub length_in_front : (n : ℕ) (bytes : List ℕ) → 6 ≤ n → length_field (take n bytes) ≡ length_field bytes
length_in_front n bytes enough =
    let split : n ≡ 4 + (n - 4) = omega (arith, enough) in
    ap (λ (l : List ℕ). from_le_bytes w16 (take 2 l)) (ap (λ (m : ℕ). drop 4 (take m bytes)) split ∙ drop-take 4 (n - 4) bytes)
    ∙ ap (from_le_bytes w16) (take-take 2 (n - 4) (drop 4 bytes) (omega (arith, enough)))

-- what holds of the bytes from a place on where a fragment is seen
pub fragment_there : (number : Option ℕ) (file : List ℕ) (at : ℕ) (f : Fragment) → seen_at number file at ≡ fragment f → IsFragment number (room at) (take (room at) (drop at file)) f
fragment_there number file at f seen = fragment_is number (room at) (take (room at) (drop at file)) f seen

-- its type is in the header there
pub type_there : (number : Option ℕ) (file : List ℕ) (at : ℕ) (f : Fragment) → seen_at number file at ≡ fragment f → type_field (drop at file) ≡ kind_code number f.kind
type_there number file at f seen =
    let is = fragment_there number file at f seen in
    sym (type_in_front (room at) (drop at file) (omega (arith, is.room, some_header number))) ∙ is.code

-- and so is its kind
pub kind_there : (number : Option ℕ) (file : List ℕ) (at : ℕ) (f : Fragment) → seen_at number file at ≡ fragment f → kind_of_code number (type_field (drop at file)) ≡ Some f.kind
kind_there number file at f seen = ap (kind_of_code number) (type_there number file at f seen) ∙ own_code number f.kind
