-- Bytes are those of at most one list of keys, and of at most one list of commands.
use Rattle.std.proofs.Common.{◌≡◌, ℕ, List, [], ◌∷◌, ◌++◌, length, refl, sym, ap, ◌∙◌}
use Rattle.std.specs.Prelude.{Some, None}
use Rattle.std.specs.List.{AllByRecursion, AllByRecursion-prop}
use Rattle.std.specs.Coded.{le_prop, Coded-set, coded_ℕ, coded_list}
use mathlib.Core.HLevel.{is_prop→PathP}
use Rattle.model_base.specs.declared.key.Key.{Key}
use Rattle.model_base.specs.Calls.{Command}
use Rattle.run_command_list.specs.Layout.{bytes_of_keys, bytes_of, body}
use Rattle.run_command_list.specs.Contents.{words_of, keys_of, commits_in, IsSmall, AreSmall, Fits, AreKeys, AreCommands, IsList}
use Rattle.run_command_list.specs.Reading.{Read, read_byte, read_keys, read_command}
use Rattle.run_command_list.specs.ReadBack.{keys_back, command_back}

-- where two reads give the same, they read the same thing and leave the same bytes after it
pub one_read : {A : Type 0} (p q : A × List ℕ) → Some p ≡ Some q → (p.0 ≡ q.0) × (p.1 ≡ q.1)
one_read {A} p q same = (ap (λ (r : A × List ℕ). r.0) pairs, ap (λ (r : A × List ℕ). r.1) pairs) where
  pairs : p ≡ q
  pairs = cc

pub one_keys : (a b : List Key) → AreSmall a → AreSmall b → length a ≡ length b
    → bytes_of_keys a ≡ bytes_of_keys b → a ≡ b
one_keys a b small_a small_b as_many same =
    (one_read {A = List Key} (a, []) (b, []) (sym (keys_back a [] small_a)
    ∙ ap (λ (n : ℕ). read_keys n (bytes_of_keys a ++ [])) as_many
    ∙ ap (λ (l : List ℕ). read_keys (length b) (l ++ [])) same ∙ keys_back b [] small_b)).0

no_bytes : (c : Command) (x : List ℕ) → Fits c → [] ≡ bytes_of c ++ x → ⊥
unfolding read_command read_byte
no_bytes c x fits same = absurd (nothing (ap read_command same ∙ command_back c x fits)) where
  nothing : ◌≡◌ {A = Read Command} None (Some (c, x)) → ⊥
  nothing e = cc

pub one_body : (a b : List Command) → AllByRecursion Fits a → AllByRecursion Fits b → body a ≡ body b → a ≡ b
one_body [] [] fit_a fit_b same = refl
one_body [] (d ∷ b) fit_a fit_b same = absurd (no_bytes d (body b) fit_b.0 same)
one_body (c ∷ a) [] fit_a fit_b same = absurd (no_bytes c (body a) fit_a.0 (sym same))
one_body (c ∷ a) (d ∷ b) fit_a fit_b same =
    let first = one_read {A = Command} (c, body a) (d, body b)
    (sym (command_back c (body a) fit_a.0) ∙ ap read_command same ∙ command_back d (body b) fit_b.0) in
    let rest = one_body a b fit_a.1 fit_b.1 first.1 in
    ap (λ (v : Command). v ∷ a) first.0 ∙ ap (λ (l : List Command). d ∷ l) rest

IsSmall-prop : (key : Key) → IsProp (IsSmall key)
IsSmall-prop key x y = λ i. (le_prop x.0 y.0 i, le_prop x.1 y.1 i)

AreSmall-prop : (keys : List Key) → IsProp (AreSmall keys)
AreSmall-prop keys x y = AllByRecursion-prop IsSmall IsSmall-prop keys x y

Fits-prop : (c : Command) → IsProp (Fits c)
Fits-prop c x y = λ i. record {
  words = AllByRecursion-prop _ (λ w. le_prop) (words_of c) x.words y.words i;
  keys = AreSmall-prop (keys_of c) x.keys y.keys i;
  count = le_prop x.count y.count i;
  rate = le_prop x.rate y.rate i;
}

-- bytes with this count are those of one list of keys only
pub same_keys : (bytes : List ℕ) (count : ℕ) (x y : AreKeys bytes count) → x.keys ≡ y.keys
same_keys bytes count x y =
    one_keys x.keys y.keys x.small y.small (sym x.counted ∙ y.counted) (sym x.spelled ∙ y.spelled)

pub AreKeys-prop : (bytes : List ℕ) (count : ℕ) → IsProp (AreKeys bytes count)
AreKeys-prop bytes count x y = λ i. record {
  keys = same_keys bytes count x y i;
  small = is_prop→PathP (λ j. AreSmall (same_keys bytes count x y j))
      (λ j. AreSmall-prop (same_keys bytes count x y j)) x.small y.small i;
  counted = is_prop→PathP (λ j. count ≡ length (same_keys bytes count x y j))
      (λ j. Coded-set coded_ℕ count (length (same_keys bytes count x y j))) x.counted y.counted i;
  spelled = is_prop→PathP (λ j. bytes ≡ bytes_of_keys (same_keys bytes count x y j))
      (λ j. Coded-set (coded_list coded_ℕ) bytes (bytes_of_keys (same_keys bytes count x y j))) x.spelled y.spelled i;
}

pub same_commands : (bytes : List ℕ) (x y : AreCommands bytes) → x.commands ≡ y.commands
same_commands bytes x y = one_body x.commands y.commands x.fit y.fit (sym x.spelled ∙ y.spelled)

pub AreCommands-prop : (bytes : List ℕ) → IsProp (AreCommands bytes)
AreCommands-prop bytes x y = λ i. record {
  commands = same_commands bytes x y i;
  fit = is_prop→PathP (λ j. AllByRecursion Fits (same_commands bytes x y j))
      (λ j. AllByRecursion-prop Fits Fits-prop (same_commands bytes x y j)) x.fit y.fit i;
  spelled = is_prop→PathP (λ j. bytes ≡ body (same_commands bytes x y j))
      (λ j. Coded-set (coded_list coded_ℕ) bytes (body (same_commands bytes x y j))) x.spelled y.spelled i;
}

pub IsList-prop : (bytes : List ℕ) (len commits : ℕ) → IsProp (IsList bytes len commits)
IsList-prop bytes len commits x y = λ i. record {
  are = AreCommands-prop bytes x.are y.are i;
  len_is = is_prop→PathP (λ j. len ≡ length (AreCommands-prop bytes x.are y.are j).commands)
      (λ j. Coded-set coded_ℕ len (length (AreCommands-prop bytes x.are y.are j).commands)) x.len_is y.len_is i;
  commits_is = is_prop→PathP (λ j. commits ≡ commits_in (AreCommands-prop bytes x.are y.are j).commands)
      (λ j. Coded-set coded_ℕ commits (commits_in (AreCommands-prop bytes x.are y.are j).commands))
      x.commits_is y.commits_is i;
}
