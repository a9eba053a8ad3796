-- What the words of a call ask for, by what clap makes of them.
use Rattle.std.specs.Prelude.{◌≡◌, ℕ, Bool, true, false, List, Option, None, String, string_bytes, map, codes, bytes_eq, option_and_then, option_map, if◌then◌else◌, IsSomeAnd, ⊤}
use Rattle.std.specs.declared.alloc.Global.{Global}
use Rattle.clap.specs.Words.{IsAmong, Text, fault_of, first_of, kind_of, subcommand_of}
use Rattle.clap.specs.declared.error.Error.{Error}
use Rattle.clap.specs.declared.error.kind.ErrorKind.{ErrorKind}
use Rattle.clap.specs.declared.error.kind.ErrorKind.TheVariants.{OutOfMemory}
use Rattle.log_recovery.specs.declared.modes.Mode.{Mode}
use Rattle.list_words.specs.Texts.{Texts, flag_in, is_taken, log_number_in, number_in}
use Rattle.list_text.specs.declared.form.Form.{Form}
use Rattle.list_words.specs.Definition.{wzlog}
use Rattle.list_words.specs.declared.invocation.Invocation.{Invocation}
use Rattle.list_words.specs.declared.invocation.Invocation.TheVariants as invocation
use Rattle.list_words.specs.declared.invocation.ListWords.{ListWords}
use Rattle.list_words.specs.declared.invocation.StateWords.{StateWords}
use Rattle.list_words.specs.declared.invocation.WordsError.{WordsError}
use Rattle.list_words.specs.declared.invocation.WordsError.TheVariants as error
pub use Rattle.list_words.specs.Texts.{mode_of, texts_in}

-- what `list` and `scan` are asked for: the log's path; its number, if it is said; the sequences from which and to
-- which records are shown; a key as it is spelled, if only its operations are shown; the form; whether counts are shown
-- in place of records; and whether reading goes on after damage
pub record ListAsked : Type 0 where
  pub log : Text
  pub number : Option ℕ
  pub from : ℕ
  pub to : ℕ
  pub key : Option Text
  pub form : Form
  pub summary : Bool
  pub scan : Bool

-- what `state` is asked for: the log's path; its number, if it is said; which ends are accepted; and the form
pub record StateAsked : Type 0 where
  pub log : Text
  pub number : Option ℕ
  pub mode : Mode
  pub form : Form

pub data Asked : Type 0 where
  list : ListAsked → Asked
  state : StateAsked → Asked

-- ---- by the texts that are read for options

abbrev pub form_in : Texts → Option Form
form_in texts = option_and_then (λ json. option_map (λ text. record { json = json; text = text })
    (flag_in (codes "text") texts)) (flag_in (codes "json") texts)

abbrev pub list_by : Bool → Texts → Option ListAsked
list_by scan texts =
    option_and_then (λ log. option_and_then (λ from. option_and_then (λ to. option_and_then (λ form.
    option_map (λ summary. record {
      log = log;
      number = log_number_in texts;
      from = from;
      to = to;
      key = texts.written (codes "key");
      form = form;
      summary = summary;
      scan = scan;
    })
    (flag_in (codes "summary") texts)) (form_in texts)) (number_in (codes "to") texts))
    (number_in (codes "from") texts)) (texts.written (codes "LOG"))

abbrev pub state_by : Texts → Option StateAsked
state_by texts =
    option_and_then (λ log. option_and_then (λ mode. option_map (λ form. record {
      log = log;
      number = log_number_in texts;
      mode = mode;
      form = form;
    }) (form_in texts))
    (option_and_then mode_of (texts.written (codes "mode")))) (texts.written (codes "LOG"))

abbrev pub asked_by : Text → Texts → Option Asked
asked_by name texts =
    if bytes_eq name (codes "list") then option_map list (list_by false texts)
    else if bytes_eq name (codes "scan") then option_map list (list_by true texts)
    else if bytes_eq name (codes "state") then option_map state (state_by texts) else None

-- ---- what words ask for

-- what the matches ask for, where clap takes the words
unfoldable pub asked_in : List Text → Option Asked
asked_in words = if is_taken (fault_of wzlog words)
    then option_and_then (λ p. asked_by p.0 (texts_in p.1)) (subcommand_of wzlog words) else None

-- what the words say, byte for byte
abbrev pub texts_of : List (String Global) → List Text
texts_of words = map (λ w. string_bytes w) words

-- what the words ask for: the program's name, the command, and the log's path with options
abbrev pub asked_of : List (String Global) → Option Asked
asked_of words = asked_in (texts_of words)

-- ---- what the values of the code show

abbrev pub shown_list : ListWords → ListAsked
shown_list w = record {
  log = w.log.now;
  number = w.number;
  from = w.from;
  to = w.to;
  key = option_map (λ k. k.now) w.key;
  form = w.form;
  summary = w.summary;
  scan = w.scan;
}

abbrev pub shown_state : StateWords → StateAsked
shown_state w = record { log = w.log.now; number = w.number; mode = w.mode; form = w.form }

abbrev pub shown_asked : Invocation → Asked
shown_asked (invocation.List words) = list (shown_list words)
shown_asked (invocation.State words) = state (shown_state words)

abbrev pub log_of : Invocation → Text
log_of (invocation.List words) = words.log.now
log_of (invocation.State words) = words.log.now

-- an error of clap's is a refusal of the words, except where there was no memory
abbrev pub refusal_of : ErrorKind → Error → WordsError
refusal_of OutOfMemory why = error.NoMemory
refusal_of _ why = error.Refused why

-- the word that clap has for `--mode`
abbrev pub mode_word : List Text → Option Text
mode_word words = option_and_then (λ p. first_of (codes "mode") p.1) (subcommand_of wzlog words)

-- Why words are refused: clap refuses them, or shows its help or version, and its error has a kind that clap's own
-- definition gives for them; or clap takes them, and the word of `--mode` is the name of no mode. Memory may always be
-- wanting.
abbrev pub IsRefusedFor : WordsError → List Text → Type 0
IsRefusedFor (error.Refused why) words = IsAmong (kind_of why) (fault_of wzlog words)
IsRefusedFor error.NoMode words =
    (is_taken (fault_of wzlog words) ≡ true) × IsSomeAnd (mode_word words) (λ word. mode_of word ≡ None)
IsRefusedFor error.NoMemory words = ⊤
