-- Reads of a log, one after another, and what they leave as it was.
use Rattle.std.proofs.Common.{◌≡◌, ℕ, zero, suc, ◌+◌, ◌-◌, ◌^◌, ◌<◌, ◌≤◌, min, List, [], ◌∷◌, ◌++◌, length, map, sum, slice_get, Option, Some, refl, sym, ◌∙◌, ap, arith, length-append}
use Rattle.std.proofs.lemmas.List.{length-map}
use Rattle.std.specs.List.{AllZip}
use Rattle.base_devices.specs.OnlyReads.{none_read, more_read}
use Rattle.base_devices.specs.declared.disk.Disk.{Ghosts}
use Rattle.log_writer.specs.declared.writer.LogWriter.{LogWriter}
use Rattle.log_writer.specs.declared.set.LogSet.{LogSet}
use Rattle.log_writer.specs.Adding.{GroupCall}
use Rattle.log_writer.specs.Words.{disk_of, len_of}
use Rattle.log_writer.specs.ReadableLogs.{HasBytes, no_bytes, IsOneFile, AreSetFiles, ChosenWasRead, chosen_held}
use Rattle.log_writer.specs.Reads.{front_of, WasRead, held_in, held_at}
use Rattle.log_writer.specs.SetFaultLaws.{set_read_counts}
use Rattle.log_writer.specs.Sets.{count_in, full_of, current_of, later_of, logs_of, chosen_of, begun_in, len_in, SetWasRead, WroteSet}
use Rattle.log_writer.specs.Sets as sets
use Rattle.log_writer.specs.Written.{Wrote, no_call, one_more, read}

pub one_log : 0 < 1
one_log = omega (arith)

module _ {D : Type 0} {ghosts : Ghosts D} where
  -- no read
  pub not_read : (log : LogWriter D ghosts) → WasRead log log
  not_read log = record { number = refl; len = refl; fault = refl; room = refl; disk = none_read ghosts (disk_of log) }

  pub read_on : (a b c : LogWriter D ghosts) → WasRead a b → WasRead b c → WasRead a c
  read_on a b c first second = record {
    number = second.number ∙ first.number;
    len = second.len ∙ first.len;
    fault = second.fault ∙ first.fault;
    room = second.room ∙ first.room;
    disk = more_read ghosts (disk_of a) (disk_of b) (disk_of c) first.disk second.disk;
  }

  -- the log has the same bytes
  pub read_keeps : (a b : LogWriter D ghosts) → WasRead a b → held_in b ≡ held_in a
  read_keeps a b r = λ i. front_of (r.len i) (r.disk.same i)

  pub read_counts : (a b : LogWriter D ghosts) → WasRead a b → ghosts.faults (disk_of a) ≤ ghosts.faults (disk_of b)
  read_counts a b r = r.disk.later

  -- the same of several logs
  pub none_were_read : (logs : List (LogWriter D ghosts)) → AllZip WasRead logs logs
  none_were_read [] = tt
  none_were_read (log ∷ logs) = (not_read log, none_were_read logs)

  pub were_read_on : (xs ys zs : List (LogWriter D ghosts)) → AllZip WasRead xs ys → AllZip WasRead ys zs → AllZip WasRead xs zs
  were_read_on [] [] [] first second = tt
  were_read_on [] [] (c ∷ zs) first second = absurd second
  were_read_on [] (b ∷ ys) zs first second = absurd first
  were_read_on (a ∷ xs) [] zs first second = absurd first
  were_read_on (a ∷ xs) (b ∷ ys) [] first second = absurd second
  were_read_on (a ∷ xs) (b ∷ ys) (c ∷ zs) first second = (read_on a b c first.0 second.0, were_read_on xs ys zs first.1 second.1)

  pub held_kept : (xs ys : List (LogWriter D ghosts)) (k : ℕ) → AllZip WasRead xs ys → held_at ys k ≡ held_at xs k
  held_kept [] [] k all = refl
  held_kept [] (b ∷ ys) k all = absurd all
  held_kept (a ∷ xs) [] k all = absurd all
  held_kept (a ∷ xs) (b ∷ ys) zero all = read_keeps a b all.0
  held_kept (a ∷ xs) (b ∷ ys) (suc k) all = held_kept xs ys k all.1

  -- and of a set
  pub set_not_read : (set : LogSet D ghosts) → SetWasRead set set
  set_not_read set = record { full = none_were_read (full_of set); current = not_read (current_of set); later = refl; limit = refl; fault = refl }

  pub set_read_on : (a b c : LogSet D ghosts) → SetWasRead a b → SetWasRead b c → SetWasRead a c
  set_read_on a b c first second = record {
    full = were_read_on (full_of a) (full_of b) (full_of c) first.full second.full;
    current = read_on (current_of a) (current_of b) (current_of c) first.current second.current;
    later = second.later ∙ first.later;
    limit = second.limit ∙ first.limit;
    fault = second.fault ∙ first.fault;
  }

  pub begun_were_read : (xs ys : List (LogWriter D ghosts)) (a b : LogWriter D ghosts) → AllZip WasRead xs ys → WasRead a b → AllZip WasRead (xs ++ a ∷ []) (ys ++ b ∷ [])
  begun_were_read [] [] a b all one = (one, tt)
  begun_were_read [] (y ∷ ys) a b all one = absurd all
  begun_were_read (x ∷ xs) [] a b all one = absurd all
  begun_were_read (x ∷ xs) (y ∷ ys) a b all one = (all.0, begun_were_read xs ys a b all.1 one)

  -- the logs of a set that have begun
  pub set_begun_read : (a b : LogSet D ghosts) → SetWasRead a b → AllZip WasRead (begun_in a) (begun_in b)
  set_begun_read a b r = begun_were_read (full_of a) (full_of b) (current_of a) (current_of b) r.full r.current

  -- where the same log stays chosen
  pub chosen_not_read : (set : LogSet D ghosts) → ChosenWasRead set set
  chosen_not_read set = record { was_read = set_not_read set; chosen = refl }

  pub chosen_read_on : (a b c : LogSet D ghosts) → ChosenWasRead a b → ChosenWasRead b c → ChosenWasRead a c
  chosen_read_on a b c first second = record { was_read = set_read_on a b c first.was_read second.was_read; chosen = second.chosen ∙ first.chosen }

  pub chosen_keeps : (a b : LogSet D ghosts) → ChosenWasRead a b → chosen_held b ≡ chosen_held a
  chosen_keeps a b r = ap (held_at (begun_in b)) r.chosen ∙ held_kept (begun_in a) (begun_in b) (chosen_of a) (set_begun_read a b r.was_read)

  pub chosen_counts : (a b : LogSet D ghosts) → ChosenWasRead a b → count_in (logs_of a) ≤ count_in (logs_of b)
  chosen_counts a b r = set_read_counts a b r.was_read

  -- Which bytes a log, or a set, has.

  same_bytes : (a b : LogWriter D ghosts) (file : List ℕ) → WasRead a b → HasBytes a file → HasBytes b file
  same_bytes a b file r has = read_keeps a b r ∙ has

  same_files : (xs ys : List (LogWriter D ghosts)) (files : List (List ℕ)) → AllZip WasRead xs ys → AllZip HasBytes xs files → AllZip HasBytes ys files
  same_files [] [] files all have = have
  same_files [] (b ∷ ys) files all have = absurd all
  same_files (a ∷ xs) [] files all have = absurd all
  same_files (a ∷ xs) (b ∷ ys) [] all have = absurd have
  same_files (a ∷ xs) (b ∷ ys) (f ∷ files) all have = (same_bytes a b f all.0 have.0, same_files xs ys files all.1 have.1)

  pub one_file_kept : (a b : LogWriter D ghosts) (files : List (List ℕ)) → WasRead a b → IsOneFile a files → IsOneFile b files
  one_file_kept a b files r is = record { file = is.file; has = same_bytes a b is.file r is.has; only = is.only }

  pub set_files_kept : (a b : LogSet D ghosts) (files : List (List ℕ)) → SetWasRead a b → AreSetFiles a files → AreSetFiles b files
  set_files_kept a b files r are = record {
    begun = are.begun;
    have = same_files (begun_in a) (begun_in b) are.begun (set_begun_read a b r) are.have;
    all = are.all ∙ ap (λ (l : List (LogWriter D ghosts)). are.begun ++ map no_bytes l) (sym r.later);
  }

  -- Which of them is read.

  pub one_file_held : (log : LogWriter D ghosts) (files : List (List ℕ)) → IsOneFile log files → held_in log ≡ slice_get files 0
  one_file_held log files is = is.has ∙ ap (λ (l : List (List ℕ)). slice_get l 0) (sym is.only)

  nothing_there : (logs : List (LogWriter D ghosts)) (k : ℕ) → k < length logs → ◌≡◌ {A = Option (List ℕ)} (Some []) (slice_get (map no_bytes logs) k)
  nothing_there [] k within = absurd (omega (arith, within))
  nothing_there (log ∷ logs) zero within = refl
  nothing_there (log ∷ logs) (suc k) within = nothing_there logs k (omega (arith, within))

  held_there : (logs : List (LogWriter D ghosts)) (files : List (List ℕ)) (others : List (LogWriter D ghosts)) (k : ℕ) → AllZip HasBytes logs files → k < length logs + length others
      → held_at logs k ≡ slice_get (files ++ map no_bytes others) k
  held_there [] [] others k have within = nothing_there others k (omega (arith, within))
  held_there [] (f ∷ files) others k have within = absurd have
  held_there (log ∷ logs) [] others k have within = absurd have
  held_there (log ∷ logs) (f ∷ files) others zero have within = have.0
  held_there (log ∷ logs) (f ∷ files) others (suc k) have within = held_there logs files others k have.1 (omega (arith, within))

  pub set_file_held : (set : LogSet D ghosts) (files : List (List ℕ)) → AreSetFiles set files → chosen_of set < length (logs_of set) → chosen_held set ≡ slice_get files (chosen_of set)
  set_file_held set files are within =
      let many : length (logs_of set) ≡ length (begun_in set) + length (later_of set) =
      omega (arith, length-append (full_of set) (current_of set ∷ later_of set), length-append (full_of set) (current_of set ∷ [])) in
      held_there (begun_in set) are.begun (later_of set) (chosen_of set) are.have (omega (arith, within, many)) ∙ ap (λ (l : List (List ℕ)). slice_get l (chosen_of set)) (sym are.all)

  -- How many they are.

  as_many : (logs : List (LogWriter D ghosts)) (files : List (List ℕ)) → AllZip HasBytes logs files → length files ≡ length logs
  as_many [] [] have = refl
  as_many [] (f ∷ files) have = absurd have
  as_many (log ∷ logs) [] have = absurd have
  as_many (log ∷ logs) (f ∷ files) have = let rest = as_many logs files have.1 in omega (arith, rest)

  pub one_file_many : (log : LogWriter D ghosts) (files : List (List ℕ)) → IsOneFile log files → length files ≡ 1
  one_file_many log files is = ap length is.only

  pub set_files_many : (set : LogSet D ghosts) (files : List (List ℕ)) → AreSetFiles set files → length files ≡ length (logs_of set)
  set_files_many set files are =
      omega (
        arith,
        ap length are.all,
        length-append are.begun (map no_bytes (later_of set)),
        length-map (later_of set) no_bytes,
        as_many (begun_in set) are.begun are.have,
        length-append (full_of set) (current_of set ∷ later_of set),
        length-append (full_of set) (current_of set ∷ []),
      )

  pub set_some_logs : (set : LogSet D ghosts) → 0 < length (logs_of set)
  set_some_logs set = omega (arith, length-append (full_of set) (current_of set ∷ later_of set))

  -- reading comes after the calls
  pub read_later : (opened a b : LogWriter D ghosts) (calls : List GroupCall) → Wrote opened calls a → WasRead a b → Wrote opened calls b
  read_later opened a b calls wrote r = read wrote r

  pub set_read_later : (opened a b : LogSet D ghosts) (calls : List GroupCall) → WroteSet opened calls a → SetWasRead a b → WroteSet opened calls b
  set_read_later opened a b calls wrote r = sets.read wrote r

  -- where no call was made, a log was only read
  read_if_none : (old : LogWriter D ghosts) (calls : List GroupCall) (new : LogWriter D ghosts) → Wrote old calls new → calls ≡ [] → WasRead old new
  read_if_none old calls new no_call none = not_read old
  read_if_none old calls new (one_more {calls = before} c wrote adds) none = absurd (omega (arith, ap length none, length-append before (c ∷ [])))
  read_if_none old calls new (read {now = now} wrote r) none = read_on old now new (read_if_none old calls now wrote none) r

  pub only_read : (old new : LogWriter D ghosts) → Wrote old [] new → WasRead old new
  only_read old new wrote = read_if_none old [] new wrote refl

  set_read_if_none : (old : LogSet D ghosts) (calls : List GroupCall) (new : LogSet D ghosts) → WroteSet old calls new → calls ≡ [] → SetWasRead old new
  set_read_if_none old calls new sets.no_call none = set_not_read old
  set_read_if_none old calls new (sets.one_more {calls = before} c wrote adds) none = absurd (omega (arith, ap length none, length-append before (c ∷ [])))
  set_read_if_none old calls new (sets.read {now = now} wrote r) none = set_read_on old now new (set_read_if_none old calls now wrote none) r

  pub set_only_read : (old new : LogSet D ghosts) → WroteSet old [] new → SetWasRead old new
  set_only_read old new wrote = set_read_if_none old [] new wrote refl

  -- the set has as many logs, which are as long, and its count of faults doesn't fall
  same_many : (xs ys : List (LogWriter D ghosts)) → AllZip WasRead xs ys → length ys ≡ length xs
  same_many [] [] all = refl
  same_many [] (b ∷ ys) all = absurd all
  same_many (a ∷ xs) [] all = absurd all
  same_many (a ∷ xs) (b ∷ ys) all = let rest = same_many xs ys all.1 in omega (arith, rest)

  pub set_as_many : (a b : LogSet D ghosts) → SetWasRead a b → length (logs_of b) ≡ length (logs_of a)
  set_as_many a b r =
      omega (arith, same_many (full_of a) (full_of b) r.full, ap length r.later, length-append (full_of a) (current_of a ∷ later_of a), length-append (full_of b) (current_of b ∷ later_of b))

  same_lens : (xs ys : List (LogWriter D ghosts)) → AllZip WasRead xs ys → map (λ (log : LogWriter D ghosts). len_of log) ys ≡ map (λ (log : LogWriter D ghosts). len_of log) xs
  same_lens [] [] all = refl
  same_lens [] (b ∷ ys) all = absurd all
  same_lens (a ∷ xs) [] all = absurd all
  same_lens (a ∷ xs) (b ∷ ys) all = λ i. all.0.len i ∷ same_lens xs ys all.1 i

  pub set_as_long : (a b : LogSet D ghosts) → SetWasRead a b → len_in b ≡ len_in a
  set_as_long a b r = ap (λ (lens : List ℕ). min (sum lens) (2 ^ 64 - 1)) (same_lens (begun_in a) (begun_in b) (set_begun_read a b r))

  pub set_counts : (a b : LogSet D ghosts) → SetWasRead a b → count_in (logs_of a) ≤ count_in (logs_of b)
  set_counts a b r = set_read_counts a b r
