-- The parts of a text between separators.
use Rattle.std.proofs.Common.{◌≡◌, ℕ, ◌-◌, ◌+◌, ◌<◌, ◌≤◌, Bool, true, false, cond, eqb, List, ◌∷◌, [], length, take, drop, Some, None, Option, Err, is_some, option_copied, codes, Bor, refl, ◌∙◌, arith}
use Rattle.std.specs.List.{list_all, slice_split, onto_first, position, position_or_len}
use Rattle.std.specs.Str.{bytes_eq}
use Rattle.model_base.specs.declared.script.ScriptFault.TheVariants.{Form}
use Rattle.model_base.specs.Calls.{commit}
use Rattle.model_base.specs.Script as model
use Rattle.run_scripts.specs.ScriptLines.{behind_word}
use Rattle.run_scripts.specs.ScriptWords.{alone, parts_of}
use Rattle.std.proofs.lemmas.Bool.{ltb-true, ltb-false}
use Rattle.std.proofs.lemmas.List.{take_rest}
use Rattle.std.proofs.lemmas.Slice.Eq.{bytes_eq-Decides}
use Rattle.std.proofs.lemmas.List.Sums.{fails_before_first}
use Rattle.std.proofs.lemmas.List.Splits.{slice_split_first, slice_split_none}

-- where a choice gave a place, its test was true, and the place is the one that it had
some_from_cond : (b : Bool) (m n : ℕ) → Some m ≡ cond b (Some n) None → (b ≡ true) × (m ≡ n)
some_from_cond true m n h = (refl, cc)
some_from_cond false m n h = cc

-- where a choice gave no place, its test was false
none_from_cond : (b : Bool) (n : ℕ) → None ≡ cond b (Some n) None → b ≡ false
none_from_cond true n h = cc
none_from_cond false n h = refl

-- a text that is cut at the first separator
pub slice_split-found : (p : ℕ → Bool) (text : List ℕ) (at : ℕ) → Some at ≡ position p text → slice_split p text ≡ take at text ∷ slice_split p (take (length text - (at + 1)) (drop (at + 1) text))
slice_split-found p text at found =
    let parts = some_from_cond _ _ _ found in
    let inside : position_or_len p text < length text = ltb-true _ _ parts.0 in
    let first = slice_split_first p text 0 inside in
    rw (take_rest text (at + 1), parts.1) first

-- a text without a separator is one part
pub slice_split-not_found : (p : ℕ → Bool) (text : List ℕ) → None ≡ position p text → slice_split p text ≡ text ∷ []
slice_split-not_found p text found =
    let past : length text ≤ position_or_len p text = ltb-false _ _ (none_from_cond _ _ found) in
    slice_split_none p text (λ k d h. fails_before_first p text k d (omega arith))

-- when a byte is put onto the first part, there is at least one part
onto_first-cons : (b : ℕ) (parts : List (List ℕ)) → (part : List ℕ) × (rest : List (List ℕ)) × (onto_first b parts ≡ part ∷ rest)
onto_first-cons b [] = (b ∷ [], [], refl)
onto_first-cons b (part ∷ parts) = (b ∷ part, parts, refl)

-- a text has at least one part
pub slice_split-cons : (p : ℕ → Bool) (text : List ℕ) → (part : List ℕ) × (parts : List (List ℕ)) × (slice_split p text ≡ part ∷ parts)
slice_split-cons p [] = ([], [], refl)
slice_split-cons p (b ∷ bs) = elim (p b) as (λ v. (part : List ℕ) × (parts : List (List ℕ)) × (cond v ([] ∷ slice_split p bs) (onto_first b (slice_split p bs)) ≡ part ∷ parts)) [ true ↦ ([], slice_split p bs, refl) | false ↦ onto_first-cons b (slice_split p bs) ]

-- a word with more after it is not alone
pub alone-more : (rest : List ℕ) (word : List ℕ) (behind : Option (Bor (List ℕ))) → is_some behind ≡ true → slice_split (λ b. eqb b 32) rest ≡ word ∷ parts_of 32 (option_copied behind) → None ≡ alone (slice_split (λ b. eqb b 32) rest)
alone-more rest word None some parts = cc
alone-more rest word (Some text) some parts =
    let more = slice_split-cons (λ b. eqb b 32) text.now in
    rw (parts, more.2) refl

-- nothing may come after a word that must be alone
no_word-more : (line : model.Line) (rest : Option (Bor (List ℕ))) → is_some rest ≡ true → model.no_word line (parts_of 32 (option_copied rest)) ≡ Err Form
no_word-more line None some = cc
no_word-more line (Some text) some =
    let more = slice_split-cons (λ b. eqb b 32) text.now in
    rw more.2 refl

-- so it doesn't matter there whether what comes after it is words
no_word-words : (line : model.Line) (words : Bool) (ws : List (List ℕ)) → words ≡ list_all model.is_word ws → cond words (model.no_word line ws) (Err Form) ≡ model.no_word line ws
no_word-words line words [] is = rw is refl
no_word-words line true (w ∷ ws) is = refl
no_word-words line false (w ∷ ws) is = refl

pub behind_word-no_word : (line : model.Line) (rest : Option (Bor (List ℕ))) → is_some rest ≡ true → behind_word (model.no_word line) (parts_of 32 (option_copied rest)) ≡ Err Form
behind_word-no_word line rest some = no_word-words line _ (parts_of 32 (option_copied rest)) refl ∙ no_word-more line rest some

-- a flag is a word
flag_taken : (flag : List ℕ) (ws : List (List ℕ)) → model.is_word flag ≡ true → list_all model.is_word ws ≡ list_all model.is_word (model.behind_first (model.is_first flag ws) ws)
flag_taken flag [] word = refl
flag_taken flag (w ∷ ws) word = by_first (bytes_eq w flag) (bytes_eq-Decides w flag).0
  where
    by_first : (first : Bool) → (first ≡ true → w ≡ flag) → list_all model.is_word (w ∷ ws) ≡ list_all model.is_word (model.behind_first first (w ∷ ws))
    by_first true is = rw (is refl, word) refl
    by_first false is = refl

-- what a commit with these flags is read as, given what is left after them
abbrev pub left_of_commit : Bool → Bool → Bool → List (List ℕ) → model.Read model.Line
left_of_commit sync no_log no_slowdown rest = model.no_word (model.command (commit (record { sync = sync; no_log = no_log; no_slowdown = no_slowdown }))) rest

flags_are_words : (ws : List (List ℕ)) → behind_word model.commit_flags ws ≡ model.commit_flags ws
flags_are_words ws =
    let behind_sync = model.behind_first (model.is_first (codes "sync") ws) ws in
    let behind_log = model.behind_first (model.is_first (codes "nolog") behind_sync) behind_sync in
    no_word-words _ _ (model.behind_first (model.is_first (codes "noslow") behind_log) behind_log) (flag_taken (codes "sync") ws refl ∙ flag_taken (codes "nolog") behind_sync refl ∙ flag_taken (codes "noslow") behind_log refl)

pub flags_read : (ws behind_sync behind_log rest : List (List ℕ)) (sync no_log no_slowdown : Bool) → sync ≡ model.is_first (codes "sync") ws → behind_sync ≡ model.behind_first sync ws → no_log ≡ model.is_first (codes "nolog") behind_sync → behind_log ≡ model.behind_first no_log behind_sync
    → no_slowdown ≡ model.is_first (codes "noslow") behind_log → rest ≡ model.behind_first no_slowdown behind_log → behind_word model.commit_flags ws ≡ left_of_commit sync no_log no_slowdown rest
flags_read ws behind_sync behind_log rest sync no_log no_slowdown is_sync is_behind_sync is_no_log is_behind_log is_no_slowdown is_rest =
    flags_are_words ws ∙ rw (is_rest, is_no_slowdown, is_behind_log, is_no_log, is_behind_sync, is_sync) refl

-- something is left after the flags
pub flags_read-more : (ws : List (List ℕ)) (rest : Option (Bor (List ℕ))) (sync no_log no_slowdown : Bool) → behind_word model.commit_flags ws ≡ left_of_commit sync no_log no_slowdown (parts_of 32 (option_copied rest)) → is_some rest ≡ true
    → behind_word model.commit_flags ws ≡ Err Form
flags_read-more ws rest sync no_log no_slowdown is some = is ∙ no_word-more _ rest some

-- nothing is left after the flags
pub flags_read-none : (ws : List (List ℕ)) (rest : Option (Bor (List ℕ))) (sync no_log no_slowdown : Bool) → behind_word model.commit_flags ws ≡ left_of_commit sync no_log no_slowdown (parts_of 32 (option_copied rest)) → is_some rest ≡ false
    → behind_word model.commit_flags ws ≡ left_of_commit sync no_log no_slowdown []
flags_read-none ws None sync no_log no_slowdown is none = is
flags_read-none ws (Some text) sync no_log no_slowdown is none = cc
