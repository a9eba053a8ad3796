-- A group is the longest that the rule of grouping allows.
use Rattle.std.proofs.Common.{◌≡◌, ℕ, ◌+◌, ◌<◌, ◌≤◌, Bool, true, false, not, ◌&&◌, ◌||◌, nat_le, List, ◌∷◌, length, take, slice_get, Some, sym, refl, ap, ◌∙◌, arith}
use Rattle.std.specs.Option.{option_map_or}
use Rattle.std.proofs.lemmas.Bool.Decides.{nat_tests}
use Rattle.std.proofs.lemmas.Option.{slice_get_within}
use Rattle.model_base.specs.declared.group.Item.{Item}
use Rattle.model_base.specs.Grouping.{cap, size_of, fits, fits_at, group_len, same_bool}
use Rattle.line_grouping.specs.LongestGroup.{MayJoin, IsLongestGroup}
use Rattle.line_grouping.proofs.Places.{group_len-by_front, group_len-within, joined_fit, next_unfit}

sync_test : (a b : Bool) → (not a || b) ≡ true → a ≡ true → b ≡ true
sync_test true b h e = h
sync_test false b h e = cc

same_test : (a b : Bool) → same_bool a b ≡ true → a ≡ b
same_test true true h = refl
same_test true false h = cc
same_test false true h = cc
same_test false false h = refl

not_true : (a : Bool) → not a ≡ true → a ≡ false
not_true true h = cc
not_true false h = refl

true_not : (a : Bool) → a ≡ false → not a ≡ true
true_not true e = cc
true_not false e = refl

and_both : (a b : Bool) → (a && b) ≡ true → (a ≡ true) × (b ≡ true)
and_both true b h = (refl, h)
and_both false b h = cc

-- a writer that passes the test may join
pub fits_means : (max : ℕ) (leader : Item) (total : ℕ) (i : Item) → fits max leader total i ≡ true → MayJoin max leader total i
fits_means max leader total i h =
    let a = and_both _ _ h in
    let b = and_both _ _ a.0 in
    let d = and_both _ _ b.0 in
    let e = and_both _ _ d.0 in
    let f = and_both _ _ e.0 in
    let test : nat_le total (cap max leader) ≡ true = a.1 in
    record {
      leader_takes = not_true leader.alone f.0;
      not_alone = not_true i.alone f.1;
      sync = sync_test i.options.sync leader.options.sync e.1;
      no_slowdown = same_test i.options.no_slowdown leader.options.no_slowdown d.1;
      no_log = same_test i.options.no_log leader.options.no_log b.1;
      within = grind (arith, nat_tests);
    }

sync_true : (a b : Bool) → (a ≡ true → b ≡ true) → (not a || b) ≡ true
sync_true true b h = h refl
sync_true false b h = refl

same_true : (a b : Bool) → a ≡ b → same_bool a b ≡ true
same_true true true e = refl
same_true true false e = cc
same_true false true e = cc
same_true false false e = refl

all_true : (a b c d e f : Bool) → a ≡ true → b ≡ true → c ≡ true → d ≡ true → e ≡ true → f ≡ true → (a && b && c && d && e && f) ≡ true
all_true a b c d e f ea eb ec ed ee ef = rw (ea, eb, ec, ed, ee, ef)

pub fits_from : (max : ℕ) (leader : Item) (total : ℕ) (i : Item) → MayJoin max leader total i → fits max leader total i ≡ true
fits_from max leader total i may =
    let within : total ≤ cap max leader = may.within in
    let test : nat_le total (cap max leader) ≡ true = grind (arith, nat_tests) in
    all_true _ _ _ _ _ _ (true_not leader.alone may.leader_takes) (true_not i.alone may.not_alone) (sync_true i.options.sync leader.options.sync may.sync) (same_true _ _ may.no_slowdown) (same_true _ _ may.no_log) test

at_place : (max : ℕ) (leader : Item) (behind : List Item) (place : ℕ) (i : Item) → slice_get (leader ∷ behind) place ≡ Some i
    → fits_at max (leader ∷ behind) place ≡ fits max leader (size_of (take (place + 1) (leader ∷ behind))) i
at_place max leader behind place i there = ap (λ o. option_map_or (fits max leader (size_of (take (place + 1) (leader ∷ behind)))) o false) there

pub longest : (max : ℕ) (leader : Item) (behind : List Item) → IsLongestGroup max leader behind (group_len max (leader ∷ behind))
longest max leader behind = record {
  leader_in = omega (arith, group_len-by_front max (leader ∷ behind));
  within = group_len-within max (leader ∷ behind) (omega arith);
  joined = λ place i some below there. fits_means max leader (size_of (take (place + 1) (leader ∷ behind))) i (sym (at_place max leader behind place i there) ∙ joined_fit max (leader ∷ behind) place some below);
  refused = λ i there may.
      let place : ℕ = group_len max (leader ∷ behind) in
      let lt : place < length (leader ∷ behind) = slice_get_within (leader ∷ behind) place i there in
      let yes : fits_at max (leader ∷ behind) place ≡ true = at_place max leader behind place i there ∙ fits_from max leader (size_of (take (place + 1) (leader ∷ behind))) i may in
      let no : fits_at max (leader ∷ behind) place ≡ false = next_unfit max (leader ∷ behind) lt in
      cc;
}
