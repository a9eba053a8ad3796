-- The text of a script: lines of words, and what each line says.
use Rattle.std.specs.Prelude.{ℕ, ◌+◌, ◌-◌, ◌*◌, ◌^◌, Bool, true, false, not, ◌&&◌, List, [], ◌∷◌, ◌++◌, length, map, fold, Option, Some, None, Result, Ok, Err, codes, decimal, bytes_eq, nat_lt, nat_le, ◌==◌, if◌then◌else◌, option_map, option_and_then}
use Rattle.std.specs.List.{list_all, slice_split, enumerate_from}
use Rattle.model_base.specs.declared.limits.TheConstants.{MAX_CLIENTS, TEXT_LIMIT}
use Rattle.model_base.specs.declared.script.ScriptFault.{ScriptFault}
use Rattle.model_base.specs.declared.script.ScriptFault.TheVariants.{Long, Byte, Word, Form, Client, Clients, NoClient, NoSchedule}
use Rattle.model_base.specs.Batch.{value, deletion, single_deletion, log_data}
use Rattle.model_base.specs.Map.{Key, named, key_at}
use Rattle.model_base.specs.Calls.{Command, add, clear, commit, get, many, scan, updates, stop, unstop, slow, unslow}

-- Lines and words

-- the last line may end without a line feed
abbrev pub without_empty_end : List (List ℕ) → List (List ℕ)
without_empty_end [] = []
without_empty_end ([] ∷ []) = []
without_empty_end ((b ∷ bs) ∷ []) = (b ∷ bs) ∷ []
without_empty_end (l ∷ m ∷ ls) = l ∷ without_empty_end (m ∷ ls)

abbrev pub lines_of : List ℕ → List (List ℕ)
lines_of text = without_empty_end (slice_split (λ b. b == 10) text)

-- empty lines and lines that begin with `#` are skipped
abbrev pub is_passed_over : List ℕ → Bool
is_passed_over [] = true
is_passed_over (b ∷ bs) = b == 35

-- all bytes are spaces or printing characters
abbrev pub are_plain : List ℕ → Bool
are_plain bytes = list_all (λ b. nat_le 0x20 b && nat_le b 0x7e) bytes

abbrev pub word_limit : ℕ
word_limit = 1024

abbrev pub is_word : List ℕ → Bool
is_word w = nat_le 1 (length w) && nat_le (length w) word_limit

-- a number is written as its decimal digits, and is below 2 ^ 64
abbrev pub value_of_digits : List ℕ → ℕ
value_of_digits w = fold (λ n d. 10 * n + (d - 48)) 0 w

abbrev pub number_of : List ℕ → Option ℕ
number_of w = let n = value_of_digits w in if bytes_eq w (decimal n) && nat_lt n (2 ^ 64) then Some n else None

-- A line of a script: it begins a client's section, or it is a command
pub data Line : Type 0 where
  section : ℕ → Line
  command : Command → Line

abbrev pub Read : Type 0 → Type 0
Read A = Result A ScriptFault

infixl 10 ◌>>=◌
abbrev pub ◌>>=◌ : {A B : Type 0} → Read A → (A → Read B) → Read B
(Ok x) >>= f = f x
(Err fault) >>= f = Err fault

abbrev pub or_form : {A : Type 0} → Option A → Read A
or_form None = Err Form
or_form (Some x) = Ok x

abbrev pub no_word : Line → List (List ℕ) → Read Line
no_word line [] = Ok line
no_word line (w ∷ ws) = Err Form

abbrev pub one_word : (List ℕ → Line) → List (List ℕ) → Read Line
one_word line (w ∷ []) = Ok (line w)
one_word line [] = Err Form
one_word line (w ∷ v ∷ ws) = Err Form

abbrev pub one_number : (ℕ → Line) → List (List ℕ) → Read Line
one_number line (w ∷ []) = or_form (option_map line (number_of w))
one_number line [] = Err Form
one_number line (w ∷ v ∷ ws) = Err Form

abbrev pub two_words : (List ℕ → List ℕ → Line) → List (List ℕ) → Read Line
two_words line (w ∷ v ∷ []) = Ok (line w v)
two_words line [] = Err Form
two_words line (w ∷ []) = Err Form
two_words line (w ∷ v ∷ u ∷ ws) = Err Form

-- a family's number is below 2 ^ 32
abbrev pub family_number : List ℕ → Option ℕ
family_number w = option_and_then (λ n. if nat_lt n (2 ^ 32) then Some n else None) (number_of w)

-- a family's number, and words that are read by that number
abbrev pub in_family : (ℕ → List (List ℕ) → Read Line) → List (List ℕ) → Read Line
in_family rest [] = Err Form
in_family rest (w ∷ ws) = or_form (family_number w) >>= λ family. rest family ws

-- a key and others
abbrev pub with_keys : Option ℕ → List ℕ → Option (List Key) → Option (List Key)
with_keys None w keys = None
with_keys (Some family) w keys = option_map (λ ks. key_at family w ∷ ks) keys

-- keys, each after its family's number
abbrev pub keys_in_families : List (List ℕ) → Option (List Key)
keys_in_families [] = Some []
keys_in_families (f ∷ []) = None
keys_in_families (f ∷ w ∷ ws) = with_keys (family_number f) w (keys_in_families ws)

abbrev pub some_keys : (List Key → Line) → List (List ℕ) → Read Line
some_keys line [] = Err Form
some_keys line (w ∷ ws) = or_form (option_map line (keys_in_families (w ∷ ws)))

abbrev pub some_words : (List (List ℕ) → Line) → List (List ℕ) → Read Line
some_words line [] = Err Form
some_words line (w ∷ ws) = Ok (line (w ∷ ws))

-- the flags `sync`, `nolog` and `noslow`, each there or not, in this order
abbrev pub is_first : List ℕ → List (List ℕ) → Bool
is_first w [] = false
is_first w (v ∷ vs) = bytes_eq v w

abbrev pub behind_first : Bool → List (List ℕ) → List (List ℕ)
behind_first true (v ∷ vs) = vs
behind_first there vs = vs

abbrev pub commit_flags : List (List ℕ) → Read Line
commit_flags ws =
    let sync = is_first (codes "sync") ws in let after_sync = behind_first sync ws in
    let no_log = is_first (codes "nolog") after_sync in let after_no_log = behind_first no_log after_sync in
    let no_slowdown = is_first (codes "noslow") after_no_log in let rest = behind_first no_slowdown after_no_log in
    no_word (command (commit (record { sync = sync; no_log = no_log; no_slowdown = no_slowdown }))) rest

-- a command's word, and how the words after it are read
pub record CommandForm : Type 0 where
  pub word : List ℕ
  pub rest : List (List ℕ) → Read Line

-- reads: of several keys at once, and of all keys in a range
abbrev pub read_forms : List CommandForm
read_forms =
    record { word = codes "many"; rest = some_words (λ ks. command (many (map (key_at 0) ks))) }
    ∷ record { word = codes "scan"; rest = two_words (λ lo hi. command (scan 0 lo hi)) }
    ∷ []

-- records of keys in families, and reads of them
abbrev pub family_forms : List CommandForm
family_forms =
    record { word = codes "fput"; rest = in_family (λ f. two_words (λ k v. command (add (value (named f) k v)))) }
    ∷ record { word = codes "fdel"; rest = in_family (λ f. one_word (λ k. command (add (deletion (named f) k)))) }
    ∷ record {
      word = codes "fsdel";
      rest = in_family (λ f. one_word (λ k. command (add (single_deletion (named f) k))));
    }
    ∷ record { word = codes "fget"; rest = in_family (λ f. one_word (λ k. command (get (key_at f k)))) }
    ∷ record { word = codes "fmany"; rest = some_keys (λ ks. command (many ks)) }
    ∷ record { word = codes "fscan"; rest = in_family (λ f. two_words (λ lo hi. command (scan f lo hi))) }
    ∷ []

-- the log's records from a sequence on
abbrev pub update_forms : List CommandForm
update_forms = record { word = codes "updates"; rest = one_number (λ s. command (updates s)) } ∷ []

-- the tokens of the write controller
abbrev pub token_forms : List CommandForm
token_forms =
    record { word = codes "stop"; rest = no_word (command stop) }
    ∷ record { word = codes "unstop"; rest = no_word (command unstop) }
    ∷ record { word = codes "slow"; rest = one_number (λ r. command (slow r)) }
    ∷ record { word = codes "unslow"; rest = no_word (command unslow) }
    ∷ []

-- records of every kind, `clear`, `commit` with its flags, and every read, of the log too
abbrev pub client_forms : List CommandForm
client_forms =
    record { word = codes "client"; rest = one_number section }
    ∷ record { word = codes "put"; rest = two_words (λ k v. command (add (value None k v))) }
    ∷ record { word = codes "del"; rest = one_word (λ k. command (add (deletion None k))) }
    ∷ record { word = codes "sdel"; rest = one_word (λ k. command (add (single_deletion None k))) }
    ∷ record { word = codes "note"; rest = one_word (λ t. command (add (log_data t))) }
    ∷ record { word = codes "clear"; rest = no_word (command clear) }
    ∷ record { word = codes "commit"; rest = commit_flags }
    ∷ record { word = codes "get"; rest = one_word (λ k. command (get (key_at 0 k))) }
    ∷ read_forms ++ (family_forms ++ update_forms)

-- every line that a client's section may have
abbrev pub whole_forms : List CommandForm
whole_forms = client_forms ++ token_forms

-- The words of a line, read by the form that has its first word. A first word that is no command is the fault, before
-- the other words are looked at.
abbrev pub by_form : List CommandForm → List ℕ → List (List ℕ) → Read Line
by_form [] w ws = Err Word
by_form (f ∷ fs) w ws = if bytes_eq w f.word then (if list_all is_word ws then f.rest ws else Err Form)
    else by_form fs w ws

abbrev pub by_words : List CommandForm → List (List ℕ) → Read Line
by_words fs [] = Err Word
by_words fs (w ∷ ws) = by_form fs w ws

abbrev pub words_of : List ℕ → List (List ℕ)
words_of line = slice_split (λ b. b == 32) line

abbrev pub line_of : List CommandForm → List ℕ → Read Line
line_of fs line = if are_plain line then by_words fs (words_of line) else Err Byte

-- A script: the commands of each client
abbrev pub Script : Type 0
Script = List (List Command)

-- a command after those of the last client
abbrev pub add_to_last : Script → Command → Script
add_to_last [] c = []
add_to_last (cs ∷ []) c = (cs ++ c ∷ []) ∷ []
add_to_last (cs ∷ ds ∷ rest) c = cs ∷ add_to_last (ds ∷ rest) c

abbrev pub with_section : ℕ → Script → ℕ → Read Script
with_section most script n =
    if not (n == length script + 1) then Err Client
    else if n == most + 1 then Err Clients else Ok (script ++ [] ∷ [])

abbrev pub with_command : Script → Command → Read Script
with_command [] c = Err Client
with_command (cs ∷ rest) c = Ok (add_to_last (cs ∷ rest) c)

-- What a script may say: its greatest length, the most clients, and the forms of its lines.
pub record Grammar : Type 0 where
  pub text_limit : ℕ
  pub client_limit : ℕ
  pub forms : List CommandForm

-- the grammar that has every form of line
abbrev pub whole_grammar : Grammar
whole_grammar = record { text_limit = TEXT_LIMIT; client_limit = MAX_CLIENTS; forms = whole_forms }

abbrev pub with_line : ℕ → Script → Line → Read Script
with_line most script (section n) = with_section most script n
with_line most script (command c) = with_command script c

-- a fault, and the number of its line; 0 where the fault is the whole text's
pub record Fault : Type 0 where
  pub line : ℕ
  pub kind : ScriptFault

abbrev pub at_line : {A : Type 0} → ℕ → Read A → Result A Fault
at_line n (Ok x) = Ok x
at_line n (Err kind) = Err (record { line = n; kind = kind })

-- one more line, with its number, after the lines before it
abbrev pub after_line : Grammar → Result Script Fault → ℕ × List ℕ → Result Script Fault
after_line g (Err fault) l = Err fault
after_line g (Ok script) l = if is_passed_over l.1 then Ok script
    else at_line l.0 (line_of g.forms l.1 >>= with_line g.client_limit script)

abbrev pub lines_read : Grammar → List ℕ → Result Script Fault
lines_read g text = fold (after_line g) (Ok []) (enumerate_from 1 (lines_of text))

-- at the end: a text without a client is a fault
abbrev pub with_client : Result Script Fault → Result Script Fault
with_client (Err fault) = Err fault
with_client (Ok []) = Err (record { line = 0; kind = NoClient })
with_client (Ok (cs ∷ rest)) = Ok (cs ∷ rest)

-- What a script says, or its first fault. First of all a text that is too long is refused.
abbrev pub script_of : Grammar → List ℕ → Result Script Fault
script_of g text = if nat_lt g.text_limit (length text) then Err (record { line = 0; kind = Long })
    else with_client (lines_read g text)

-- the word that is printed for each kind of fault
abbrev pub fault_word : ScriptFault → List ℕ
fault_word Long = codes "long"
fault_word Byte = codes "byte"
fault_word Word = codes "word"
fault_word Form = codes "form"
fault_word Client = codes "client"
fault_word Clients = codes "clients"
fault_word NoClient = codes "none"
fault_word NoSchedule = codes "schedule"
