-- What one more command changes in a list.
use Rattle.std.proofs.Common.{◌≡◌, ℕ, ◌+◌, ◌<◌, ◌≤◌, List, [], ◌∷◌, ◌++◌, length, sym, ap, ◌∙◌, arith, append-nil, length-append}
use Rattle.std.proofs.lemmas.Grind.{flat_map-append, common_steps}
use Rattle.std.proofs.lemmas.List.Sums.{count_by-le-length}
use Rattle.std.specs.Prelude.{Result, Ok, Err, is_err, OnOk, Some, None, true, false}
use Rattle.std.specs.List.{AllByRecursion}
use Rattle.model_base.specs.declared.key.Key.{Key}
use Rattle.model_base.specs.Batch.{value, deletion, single_deletion, log_data}
use Rattle.model_base.specs.Calls.{Command, add, clear, commit, get, many, scan, updates, stop, unstop, slow, unslow}
use Rattle.run_command_list.specs.Layout.{bytes_of_keys, bytes_of, body}
use Rattle.run_command_list.specs.Contents.{is_commit, commits_in, AreSmall, Fits, AreKeys, AreCommands, IsList}
use Rattle.run_command_list.specs.OneList.{same_keys, one_body}

pub keys_are : (bytes : List ℕ) (count : ℕ) (h : AreKeys bytes count) (keys : List Key) → AreSmall keys → count ≡ length keys → bytes ≡ bytes_of_keys keys → h.keys ≡ keys
keys_are bytes count h keys small counted spelled = same_keys bytes count h (record { keys = keys; small = small; counted = counted; spelled = spelled })

pub commands_are : (bytes : List ℕ) (h : AreCommands bytes) (commands : List Command) → AllByRecursion Fits commands → bytes ≡ body commands → h.commands ≡ commands
commands_are bytes h commands fit spelled = one_body h.commands commands h.fit fit (sym h.spelled ∙ spelled)

pub body-added : (commands : List Command) (c : Command) → body (commands ++ c ∷ []) ≡ body commands ++ bytes_of c
body-added commands c = flat_map-append bytes_of commands (c ∷ []) ∙ ap (λ (l : List ℕ). body commands ++ l) (append-nil (bytes_of c))

pub commits-added : (commands : List Command) (c : Command) → commits_in (commands ++ c ∷ []) ≡ commits_in commands + commits_in (c ∷ [])
commits-added commands c = grind (arith, common_steps)

pub all_fit : (commands : List Command) (c : Command) → AllByRecursion Fits commands → Fits c → AllByRecursion Fits (commands ++ c ∷ [])
all_fit [] c fit one = (one, tt)
all_fit (d ∷ commands) c fit one = (fit.0, all_fit commands c fit.1 one)

-- Each command has at least one byte.
pub some_bytes : (c : Command) → 0 < length (bytes_of c)
some_bytes (add (value None k v)) = omega arith
some_bytes (add (value (Some f) k v)) = omega arith
some_bytes (add (deletion None k)) = omega arith
some_bytes (add (deletion (Some f) k)) = omega arith
some_bytes (add (single_deletion None k)) = omega arith
some_bytes (add (single_deletion (Some f) k)) = omega arith
some_bytes (add (log_data t)) = omega arith
some_bytes clear = omega arith
some_bytes (commit o) = omega arith
some_bytes (get k) = omega arith
some_bytes (many ks) = omega arith
some_bytes (scan f lo hi) = omega arith
some_bytes (updates n) = omega arith
some_bytes stop = omega arith
some_bytes unstop = omega arith
some_bytes (slow rate) = omega arith
some_bytes unslow = omega arith

-- So there are no more commands than bytes.
pub few_commands : (commands : List Command) → length commands ≤ length (body commands)
few_commands [] = omega arith
few_commands (c ∷ commands) = omega (arith, some_bytes c, few_commands commands, length-append (bytes_of c) (body commands))

pub small_len : (bytes : List ℕ) (len commits : ℕ) → IsList bytes len commits → (len ≤ length bytes) × (commits ≤ len)
small_len bytes len commits h = (
  omega (arith, h.len_is, few_commands h.are.commands, ap length h.are.spelled),
  omega (arith, h.len_is, h.commits_is, count_by-le-length is_commit h.are.commands),
)

-- the list with one more command
pub with_command : (old now : List ℕ) (len commits more : ℕ) (h : IsList old len commits) (c : Command) → Fits c → now ≡ old ++ bytes_of c → more ≡ commits_in (c ∷ []) → IsList now (len + 1) (commits + more)
with_command old now len commits more h c fits is is_more = record {
  are = record {
    commands = h.are.commands ++ c ∷ [];
    fit = all_fit h.are.commands c h.are.fit fits;
    spelled = is ∙ ap (λ (l : List ℕ). l ++ bytes_of c) h.are.spelled ∙ sym (body-added h.are.commands c);
  };
  len_is = omega (arith, h.len_is, length-append h.are.commands (c ∷ []));
  commits_is = omega (arith, h.commits_is, is_more, commits-added h.are.commands c);
}

-- its commands
pub with_command_are : (old now : List ℕ) (len commits : ℕ) (h : IsList old len commits) (c : Command) → Fits c → now ≡ old ++ bytes_of c → (k : AreCommands now) → k.commands ≡ h.are.commands ++ c ∷ []
with_command_are old now len commits h c fits is k =
    commands_are now k (h.are.commands ++ c ∷ []) (all_fit h.are.commands c h.are.fit fits)
    (is ∙ ap (λ (l : List ℕ). l ++ bytes_of c) h.are.spelled ∙ sym (body-added h.are.commands c))

-- what holds where there is no error
pub on_ok : {T E : Type 0} (r : Result T E) (P : Type 0) → is_err r ≡ false → OnOk r P → P
on_ok (Ok x) P ok holds = holds
on_ok (Err e) P ok holds = absurd (no ok) where
  no : true ≡ false → ⊥
  no e = cc
