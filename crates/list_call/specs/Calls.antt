-- What a call promises of each command, by its status and by what the file and the sink tell.
use Rattle.std.specs.Prelude.{◌≡◌, ◌⊎◌, ℕ, Bool, true, false, List, take, Option, Some, None, Result, Ok, Err, option_map, ⊤}
use Rattle.std.specs.Option.{option_or}
use Rattle.std.specs.Io.KnownBytes.{Appends}
use Rattle.base_devices.specs.Faults.{Rose}
use Rattle.model_base.specs.Recovery.{Recovered, IsRecovered}
use Rattle.log_recovery.specs.Modes.{Accepts}
use Rattle.log_recovery.specs.Recovering.{ShowsRecovered}
use Rattle.log_recovery.specs.declared.recovery.Recovered as code
use Rattle.log_scan.specs.Resuming.{own_number}
use Rattle.list_text.specs.Keys.{key_in}
use Rattle.list_text.specs.declared.form.Form.{Form}
use Rattle.list_text.specs.declared.keys.KeyError.{KeyError}
use Rattle.list_text.specs.declared.keys.KeyError.TheVariants.{NotAKey}
use Rattle.list_log.specs.Texts.{IsListing, IsListingFront}
use Rattle.list_log.specs.Totals.{IsSummary}
use Rattle.list_log.specs.Wanted as wanted
use Rattle.list_log.specs.declared.settings.Settings.{Settings}
use Rattle.list_log.specs.declared.showing.Shown.{Shown}
use Rattle.list_log.specs.declared.showing.Shown.TheVariants as shown
use Rattle.list_words.specs.declared.invocation.Invocation.{Invocation}
use Rattle.list_words.specs.declared.invocation.Invocation.TheVariants as asked
use Rattle.list_words.specs.declared.invocation.ListWords.{ListWords}
use Rattle.list_words.specs.declared.invocation.StateWords.{StateWords}
use Rattle.list_call.specs.StateTexts.{state_text}
use Rattle.list_call.specs.declared.status.Status.{Status}
use Rattle.list_call.specs.declared.status.Status.TheVariants as status

-- ---- the number

-- the number with which a log is read: the one that is said, and otherwise the one in its first header, if it has one
-- and reads with it
abbrev pub number_for : Option ℕ → List ℕ → Option ℕ
number_for said file = option_or said (own_number file)

-- ---- `list` and `scan`

-- a spelling may give no key
abbrev given_or_none : Option (Option (List ℕ)) → Option (Option (List ℕ))
given_or_none None = Some None
given_or_none (Some None) = None
given_or_none (Some (Some key)) = Some (Some key)

-- the key that is asked for, if one is; `None` if it isn't spelled right
abbrev pub key_asked : ListWords → Option (Option (List ℕ))
key_asked words = given_or_none (option_map (λ word. key_in words.form word.now) words.key)

abbrev pub IsKey : ListWords → Result (Option (List ℕ)) KeyError → Type 0
IsKey words (Ok key) = key_asked words ≡ Some key
IsKey words (Err NotAKey) = key_asked words ≡ None
IsKey words (Err other) = ⊤

-- these settings are what the words ask for
pub record AreAsked (words : ListWords) (settings : Settings) : Type 0 where
  pub form : settings.form ≡ words.form
  pub from : settings.from ≡ words.from
  pub to : settings.to ≡ words.to
  pub key : key_asked words ≡ Some (wanted.key_in settings)
  pub scan : settings.scan ≡ words.scan

-- the text of the counts, or that of the records
abbrev pub IsTextOf : Bool → Settings → Option ℕ → List ℕ → List ℕ → Type 0
IsTextOf true settings number file text = IsSummary settings number file text
IsTextOf false settings number file text = IsListing settings number file text

-- this is the whole text of what is shown of a file, read with this number or with none
pub record IsWhole (words : ListWords) (number : Option ℕ) (file text : List ℕ) : Type 0 where
  pub settings : Settings
  pub are : AreAsked words settings
  pub is : IsTextOf words.summary settings number file text

-- this is the text of its first records, whole lines; of counts nothing is written before the end
pub record IsPart (words : ListWords) (number : Option ℕ) (file text : List ℕ) : Type 0 where
  pub settings : Settings
  pub are : AreAsked words settings
  pub of_records : words.summary ≡ false
  pub is : IsListingFront settings number file text

module _ (words : ListWords) (number : Option ℕ) (file : List ℕ) (before after : Option (List ℕ)) where
  -- all of it was written
  pub record WritesAll : Type 0 where
    pub text : List ℕ
    pub is : IsWhole words number file text
    pub written : Appends before after text

  -- its first records were, or nothing
  pub record WritesPart : Type 0 where
    pub text : List ℕ
    pub is : IsPart words number file text
    pub written : Appends before after text

  abbrev pub WritesFront : Type 0
  WritesFront = (after ≡ before) ⊎ WritesPart

  -- the sink failed, and took a part of one of these texts
  pub record WritesBroken : Type 0 where
    pub text : List ℕ
    pub is : IsWhole words number file text ⊎ IsPart words number file text
    pub n : ℕ
    pub written : Appends before after (take n text)

  -- what was written, by how showing ended
  abbrev pub WritesBy : Shown → Type 0
  WritesBy (shown.All at why) = WritesAll
  WritesBy (shown.Fault count) = WritesFront
  WritesBy shown.SinkFailed = WritesBroken
  WritesBy shown.NoMemory = WritesFront

-- the status with which showing a log ended
abbrev pub status_of : Shown → Status
status_of (shown.All at why) = status.Done
status_of (shown.Fault count) = status.Disk
status_of shown.SinkFailed = status.Sink
status_of shown.NoMemory = status.Memory

-- What was written, by the status. Words whose key isn't spelled right write nothing.
abbrev pub WritesList : ListWords → List ℕ → Option (List ℕ) → Option (List ℕ) → Status → Type 0
WritesList words file before after status.Done = WritesAll words (number_for words.number file) file before after
WritesList words file before after status.Words = (key_asked words ≡ None) × (after ≡ before)
WritesList words file before after status.Disk = WritesFront words (number_for words.number file) file before after
WritesList words file before after status.Sink = WritesBroken words (number_for words.number file) file before after
WritesList words file before after status.Memory = WritesFront words (number_for words.number file) file before after
WritesList words file before after status.Damage = ⊥

-- ---- `state`

-- this is the text of what is recovered of a file, read with this number or with none, and the mode accepts its end
pub record IsState (words : StateWords) (number : Option ℕ) (file text : List ℕ) : Type 0 where
  pub recovered : Recovered
  pub is : IsRecovered number file recovered
  pub accepted : Accepts number words.mode file recovered.at recovered.why
  pub text_is : text ≡ state_text words.form recovered

-- recovery of the file, read with this number or with none, ends like this, and the mode doesn't accept that
pub record IsRefused (words : StateWords) (number : Option ℕ) (file : List ℕ) : Type 0 where
  pub recovered : Recovered
  pub is : IsRecovered number file recovered
  pub refused : Accepts number words.mode file recovered.at recovered.why → ⊥

module _ (words : StateWords) (number : Option ℕ) (file : List ℕ) (before after : Option (List ℕ)) where
  -- what was written of a file that is read with this number or with none, by the status
  abbrev pub WritesStateBy : Status → Type 0
  WritesStateBy status.Done = (text : List ℕ) × IsState words number file text × Appends before after text
  WritesStateBy status.Sink =
      (text : List ℕ) × IsState words number file text × ((n : ℕ) × Appends before after (take n text))
  WritesStateBy status.Memory = after ≡ before
  WritesStateBy status.Disk = after ≡ before
  WritesStateBy status.Damage = IsRefused words number file × (after ≡ before)
  WritesStateBy status.Words = ⊥

-- the same of a file that is read with the number for it
abbrev pub WritesState : StateWords → List ℕ → Option (List ℕ) → Option (List ℕ) → Status → Type 0
WritesState words file before after given = WritesStateBy words (number_for words.number file) file before after given

-- this text tells what is recovered
abbrev pub Tells : Form → code.Recovered → List ℕ → Type 0
Tells form value text = (r : Recovered) → ShowsRecovered value r → text ≡ state_text form r

-- the text of what is recovered was written, or a part of it if the sink failed, or there was no memory for it
abbrev pub WritesRecovered : Form → code.Recovered → Option (List ℕ) → Option (List ℕ) → ℕ → ℕ → Status → Type 0
WritesRecovered form value before after failed fails status.Done =
    (text : List ℕ) × Tells form value text × Appends before after text × (fails ≡ failed)
WritesRecovered form value before after failed fails status.Sink =
    (text : List ℕ) × Tells form value text × ((n : ℕ) × Appends before after (take n text)) × Rose failed fails
WritesRecovered form value before after failed fails status.Memory = (after ≡ before) × (fails ≡ failed)
WritesRecovered form value before after failed fails other = ⊥

-- ---- the call

abbrev pub WritesAsked : Invocation → List ℕ → Option (List ℕ) → Option (List ℕ) → Status → Type 0
WritesAsked (asked.List words) file before after given = WritesList words file before after given
WritesAsked (asked.State words) file before after given = WritesState words file before after given

-- 3: the file failed. 5: the sink did. At each other status neither did, by how many calls of each had failed before
-- and have failed now.
abbrev pub HasCauses : ℕ → ℕ → ℕ → ℕ → Status → Type 0
HasCauses file_before file_now sink_before sink_now status.Disk =
    Rose file_before file_now × (sink_now ≡ sink_before)
HasCauses file_before file_now sink_before sink_now status.Sink =
    (file_now ≡ file_before) × Rose sink_before sink_now
HasCauses file_before file_now sink_before sink_now other =
    (file_now ≡ file_before) × (sink_now ≡ sink_before)
