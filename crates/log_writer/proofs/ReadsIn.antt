-- A read of one of several logs.
use Rattle.std.proofs.Common.{◌≡◌, ℕ, zero, suc, ◌+◌, ◌-◌, ◌<◌, ◌≤◌, List, [], ◌∷◌, ◌++◌, length, get_or, take, drop, map, set, sum_by, Option, IfSome, Result, Ok, Err, refl, sym, ◌∙◌, ap, subst, arith}
use Rattle.std.proofs.Math.Seq.{take-append_seam}
use Rattle.std.proofs.lemmas.List.Sums.{sum_by-cons, sum_by-append}
use Rattle.std.specs.List.{AllZip}
use Rattle.base_devices.specs.Disk.{BytesAt}
use Rattle.base_devices.specs.Faults.{Rose, HasCause}
use Rattle.base_devices.specs.declared.disk.Disk.{Ghosts}
use Rattle.log_writer.specs.declared.writer.LogWriter.{LogWriter}
use Rattle.log_writer.specs.Words.{disk_of, len_of}
use Rattle.log_writer.specs.Reads.{WasRead, held_in, held_at, faults_in}
use Rattle.log_writer.specs.ReadLaws.{not_read, none_were_read}
use Rattle.log_writer.specs.Sets.{count_in}

-- a count of faults of which another one is a part
cause_in_sum : {T E : Type 0} (before now rest : ℕ) (r : Result T E) → HasCause before now r → HasCause (before + rest) (now + rest) r
cause_in_sum before now rest (Ok x) cause = record { later = omega (arith, cause.later); once = omega (arith, cause.once); failed = tt; worked = ap (λ (n : ℕ). n + rest) cause.worked }
cause_in_sum before now rest (Err e) cause =
    let rose : Rose before now = cause.failed in
    record { later = omega (arith, cause.later); once = omega (arith, cause.once); failed = omega (arith, cause.later, rose); worked = tt }

cause_at : {T E : Type 0} (a b before now : ℕ) (r : Result T E) → a ≡ before → b ≡ now → HasCause a b r → HasCause before now r
cause_at a b before now r same_before same_now cause = subst (λ (z : ℕ × ℕ). HasCause z.0 z.1 r) (λ i. (same_before i, same_now i)) cause

-- what a `Vec` has once these elements were written over its own, as many as they were
pub written_over : {A : Type 0} (len : ℕ) (news items : List A) → len ≡ length items → length news ≡ length items → take len (news ++ drop (length news) items) ≡ news
written_over {A} len news items long many =
    let all : len ≡ length news = omega (arith, long, many) in
    ap (λ (n : ℕ). take n (news ++ drop (length news) items)) all ∙ take-append_seam news (drop (length news) items)

module _ {D : Type 0} {ghosts : Ghosts D} where
  -- One of those that are full is read.

  held_there : (logs others : List (LogWriter D ghosts)) (k : ℕ) (log : LogWriter D ghosts) → k < length logs → log ≡ get_or logs k log → held_in log ≡ held_at (logs ++ others) k
  held_there [] others k log within is = absurd (omega (arith, within))
  held_there (l ∷ logs) others zero log within is = ap (λ (x : LogWriter D ghosts). held_in x) is
  held_there (l ∷ logs) others (suc k) log within is = held_there logs others k log (omega (arith, within)) is

  pub full_bytes : {E : Type 0} (full : List (LogWriter D ghosts)) (current : LogWriter D ghosts) (which : ℕ) (log : LogWriter D ghosts) (at : ℕ) (buf : List ℕ) (r : Result ℕ E) → which < length full → log ≡ get_or full which log → IfSome (held_in log) (λ file. BytesAt file at buf r)
      → IfSome (held_at (full ++ current ∷ []) which) (λ file. BytesAt file at buf r)
  full_bytes full current which log at buf r within is reads = subst (λ (held : Option (List ℕ)). IfSome held (λ file. BytesAt file at buf r)) (held_there full (current ∷ []) which log within is) reads

  pub full_were_read : (logs : List (LogWriter D ghosts)) (k : ℕ) (log new : LogWriter D ghosts) → k < length logs → log ≡ get_or logs k log → WasRead log new → AllZip WasRead logs (set logs k new)
  full_were_read [] k log new within is r = absurd (omega (arith, within))
  full_were_read (l ∷ logs) zero log new within is r = (subst (λ (x : LogWriter D ghosts). WasRead x new) is r, none_were_read logs)
  full_were_read (l ∷ logs) (suc k) log new within is r = (not_read l, full_were_read logs k log new (omega (arith, within)) is r)

  pub full_lens : (logs : List (LogWriter D ghosts)) (k : ℕ) (log new : LogWriter D ghosts) → k < length logs → log ≡ get_or logs k log → WasRead log new → map (λ (l : LogWriter D ghosts). len_of l) (set logs k new) ≡ map (λ (l : LogWriter D ghosts). len_of l) logs
  full_lens [] k log new within is r = absurd (omega (arith, within))
  full_lens (l ∷ logs) zero log new within is r = ap (λ (n : ℕ). n ∷ map (λ (l : LogWriter D ghosts). len_of l) logs) (r.len ∙ ap (λ (x : LogWriter D ghosts). len_of x) is)
  full_lens (l ∷ logs) (suc k) log new within is r = ap (λ (lens : List ℕ). len_of l ∷ lens) (full_lens logs k log new (omega (arith, within)) is r)

  -- the count of all these disks, and what of it isn't the one disk's
  record InSum (logs others : List (LogWriter D ghosts)) (k : ℕ) (log new : LogWriter D ghosts) : Type 0 where
    rest : ℕ
    before : ghosts.faults (disk_of log) + rest ≡ faults_in (logs ++ others)
    now : ghosts.faults (disk_of new) + rest ≡ faults_in (set logs k new ++ others)

  in_sum : (logs others : List (LogWriter D ghosts)) (k : ℕ) (log new : LogWriter D ghosts) → k < length logs → log ≡ get_or logs k log → InSum logs others k log new
  in_sum [] others k log new within is = absurd (omega (arith, within))
  in_sum (l ∷ logs) others zero log new within is =
      let f : LogWriter D ghosts → ℕ = λ x. ghosts.faults (disk_of x) in
      let same : f log ≡ f l = ap f is in
      record {
        rest = faults_in (logs ++ others);
        before = omega (arith, same, sum_by-cons f l (logs ++ others));
        now = sym (sum_by-cons f new (logs ++ others));
      }
  in_sum (l ∷ logs) others (suc k) log new within is =
      let f : LogWriter D ghosts → ℕ = λ x. ghosts.faults (disk_of x) in
      let s = in_sum logs others k log new (omega (arith, within)) is in
      record {
        rest = f l + s.rest;
        before = omega (arith, s.before, sum_by-cons f l (logs ++ others));
        now = omega (arith, s.now, sum_by-cons f l (set logs k new ++ others));
      }

  pub full_cause : {T E : Type 0} (full : List (LogWriter D ghosts)) (current : LogWriter D ghosts) (which : ℕ) (log new : LogWriter D ghosts) (r : Result T E) → which < length full → log ≡ get_or full which log
      → HasCause (ghosts.faults (disk_of log)) (ghosts.faults (disk_of new)) r → HasCause (faults_in (full ++ current ∷ [])) (faults_in (set full which new ++ current ∷ [])) r
  full_cause full current which log new r within is cause =
      let s = in_sum full (current ∷ []) which log new within is in
      let before : ℕ = ghosts.faults (disk_of log) in
      let now : ℕ = ghosts.faults (disk_of new) in
      cause_at (before + s.rest) (now + s.rest) (faults_in (full ++ current ∷ [])) (faults_in (set full which new ++ current ∷ [])) r s.before s.now (cause_in_sum before now s.rest r cause)

  -- What comes after them is read.

  held_behind : (logs others : List (LogWriter D ghosts)) (k : ℕ) → length logs ≤ k → held_at others (k - length logs) ≡ held_at (logs ++ others) k
  held_behind [] others k past = let e : k - 0 ≡ k = omega arith in ap (held_at others) e
  held_behind (l ∷ logs) others zero past = absurd (omega (arith, past))
  held_behind (l ∷ logs) others (suc k) past =
      let e : suc k - length (l ∷ logs) ≡ k - length logs = omega arith in
      ap (held_at others) e ∙ held_behind logs others k (omega (arith, past))

  pub current_bytes : {E : Type 0} (full : List (LogWriter D ghosts)) (current : LogWriter D ghosts) (which at : ℕ) (buf : List ℕ) (r : Result ℕ E) → length full ≤ which → IfSome (held_at (current ∷ []) (which - length full)) (λ file. BytesAt file at buf r)
      → IfSome (held_at (full ++ current ∷ []) which) (λ file. BytesAt file at buf r)
  current_bytes full current which at buf r past reads = subst (λ (held : Option (List ℕ)). IfSome held (λ file. BytesAt file at buf r)) (held_behind full (current ∷ []) which past) reads

  -- the one log is read, or what comes after it
  pub only_bytes : {E : Type 0} (log : LogWriter D ghosts) (which at : ℕ) (buf : List ℕ) (r : Result ℕ E) → which ≡ 0 → IfSome (held_in log) (λ file. BytesAt file at buf r) → IfSome (held_at (log ∷ []) which) (λ file. BytesAt file at buf r)
  only_bytes log which at buf r first reads = subst (λ (k : ℕ). IfSome (held_at (log ∷ []) k) (λ file. BytesAt file at buf r)) (sym first) reads

  pub no_more_bytes : (log : LogWriter D ghosts) (which at : ℕ) (buf : List ℕ) → 0 < which → IfSome (held_at (log ∷ []) which) (λ file. BytesAt {E = Unit {0}} file at buf (Ok 0))
  no_more_bytes log zero at buf some = absurd (omega (arith, some))
  no_more_bytes log (suc k) at buf some = (omega (arith), refl)

  pub current_cause : {T E : Type 0} (full : List (LogWriter D ghosts)) (old new : LogWriter D ghosts) (r : Result T E) → HasCause (ghosts.faults (disk_of old)) (ghosts.faults (disk_of new)) r → HasCause (faults_in (full ++ old ∷ [])) (faults_in (full ++ new ∷ [])) r
  current_cause full old new r cause =
      let f : LogWriter D ghosts → ℕ = λ log. ghosts.faults (disk_of log) in
      let split : (log : LogWriter D ghosts) → f log + sum_by f full ≡ faults_in (full ++ log ∷ []) = λ log. omega (arith, sum_by-append f full (log ∷ []), sum_by-cons f log []) in
      cause_at (f old + sum_by f full) (f new + sum_by f full) (faults_in (full ++ old ∷ [])) (faults_in (full ++ new ∷ [])) r (split old) (split new) (cause_in_sum (f old) (f new) (sum_by f full) r cause)

  in_two : (logs : List (LogWriter D ghosts)) (log : LogWriter D ghosts) (later : List (LogWriter D ghosts)) → faults_in (logs ++ log ∷ later) ≡ faults_in (logs ++ log ∷ []) + faults_in later
  in_two logs log later =
      let f : LogWriter D ghosts → ℕ = λ l. ghosts.faults (disk_of l) in
      omega (arith, sum_by-append f logs (log ∷ later), sum_by-append f logs (log ∷ []), sum_by-cons f log later, sum_by-cons f log [])

  -- the count of all disks, some of which are not read
  pub count_cause : {T E : Type 0} (olds news : List (LogWriter D ghosts)) (old new : LogWriter D ghosts) (later : List (LogWriter D ghosts)) (r : Result T E) → HasCause (faults_in (olds ++ old ∷ [])) (faults_in (news ++ new ∷ [])) r
      → HasCause (count_in (olds ++ old ∷ later)) (count_in (news ++ new ∷ later)) r
  count_cause olds news old new later (Ok x) cause =
      let before = in_two olds old later in
      let now = in_two news new later in
      record { later = omega (arith, cause.later, before, now); once = omega (arith, cause.once, before, now); failed = tt; worked = omega (arith, cause.worked, before, now) }
  count_cause olds news old new later (Err e) cause =
      let before = in_two olds old later in
      let now = in_two news new later in
      let rose : Rose (faults_in (olds ++ old ∷ [])) (faults_in (news ++ new ∷ [])) = cause.failed in
      record { later = omega (arith, cause.later, before, now); once = omega (arith, cause.once, before, now); failed = omega (arith, cause.later, rose, before, now); worked = tt }
