-- The whole of what is shown of a log, or of why it isn't whole.
use Rattle.std.specs.Prelude.{◌≡◌, ◌⊎◌, ℕ, List, take, Option, Some, None}
use Rattle.std.specs.Io.KnownBytes.{Appends}
use Rattle.base_devices.specs.Faults.{Rose}
use Rattle.list_log.specs.Texts.{IsListing, IsListingFront}
use Rattle.list_log.specs.declared.listing.Listed.{Listed}
use Rattle.list_log.specs.declared.listing.Listed.TheVariants as listed
use Rattle.list_log.specs.declared.settings.Settings.{Settings}
use Rattle.list_log.specs.declared.showing.Shown.{Shown}
use Rattle.list_log.specs.declared.showing.Shown.TheVariants as shown

-- What was written: the whole text; or if the disk failed or memory ran out, that of the first items, whole lines, or
-- nothing; or if the sink failed, a part of one of these texts.
abbrev pub AnswersShowing : Settings → Option ℕ → List ℕ → Option (List ℕ) → Option (List ℕ) → Shown → Type 0
AnswersShowing settings number file before after (shown.All at why) = (text : List ℕ)
    × (is : IsListing settings number file text) × (is.scan.at ≡ at) × (is.scan.why ≡ why) × Appends before after text
AnswersShowing settings number file before after (shown.Fault count) =
    (text : List ℕ) × IsListingFront settings number file text × Appends before after text
AnswersShowing settings number file before after shown.NoMemory = (after ≡ before)
    ⊎ ((text : List ℕ) × IsListingFront settings number file text × Appends before after text)
AnswersShowing settings number file before after shown.SinkFailed = (text : List ℕ) × (n : ℕ)
    × (IsListing settings number file text ⊎ IsListingFront settings number file text)
    × Appends before after (take n text)

abbrev pub HasShownCauses : ℕ → ℕ → ℕ → ℕ → Shown → Type 0
HasShownCauses disk_before disk_now sink_before sink_now (shown.All at why) =
    (disk_now ≡ disk_before) × (sink_now ≡ sink_before)
HasShownCauses disk_before disk_now sink_before sink_now (shown.Fault count) =
    Rose disk_before count × (count ≡ disk_now) × (sink_now ≡ sink_before)
HasShownCauses disk_before disk_now sink_before sink_now shown.SinkFailed =
    (disk_now ≡ disk_before) × Rose sink_before sink_now
HasShownCauses disk_before disk_now sink_before sink_now shown.NoMemory =
    (disk_now ≡ disk_before) × (sink_now ≡ sink_before)

-- how a listing ended with a step, if it did
abbrev pub ended : Listed → Option Shown
ended listed.More = None
ended (listed.End at why) = Some (shown.All at why)
ended (listed.Fault count) = Some (shown.Fault count)
ended listed.SinkFailed = Some shown.SinkFailed
ended listed.NoMemory = Some shown.NoMemory
