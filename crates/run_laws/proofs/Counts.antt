-- How many sequences a history takes, and that no client takes more sequences than it adds records.
use Rattle.std.proofs.Common.{◌≡◌, ℕ, ◌+◌, ◌≤◌, List, [], ◌∷◌, ◌++◌, length, sum_by, Option, Some, None, refl, ap, subst, arith, length-append}
use Rattle.std.proofs.lemmas.List.Sums.{sum_by-cons, sum_by-append, sum_by_push, count_by-le-length}
use Rattle.model_base.specs.Batch.{Record, is_counted, count_of}
use Rattle.model_base.specs.History.{Entry, IsHistory, last_sequence, last_of, IsBoundary}
use Rattle.model_base.specs.Attempts.{Attempt, WriteStatus, succeeded, slowed, faulted, full}
use Rattle.model_base.specs.Groups.{IsStatus, AreStatuses}
use Rattle.model_base.specs.Trace.{Trace, Settings}
use Rattle.model_base.specs.Progress.{Progress, fresh, next_entry}
use Rattle.model_base.specs.Runs.{Run, commands_of, IsTranscript}
use Rattle.model_base.specs.Calls.{Command, add, Call}
use Rattle.run_laws.proofs.Progresses.{Moves, stays, adds, clears, accepts, refuses, moves, run_of}
use Rattle.run_laws.proofs.Plain.{IsSound, AreSound}

-- The history

abbrev pub sequences_of : List Entry → ℕ
sequences_of entries = sum_by (λ (e : Entry). e.count) entries

pub last_is : (start : ℕ) (entries : List Entry) → IsHistory start entries → last_sequence start entries ≡ start + sequences_of entries
last_is start [] h = omega arith
last_is start (e ∷ entries) h =
    let some = h.0.some in let first = h.0.first in
    omega (arith, some, first, last_is (last_of e) entries h.1, sum_by-cons (λ (e : Entry). e.count) e entries)

front_is : (start : ℕ) (front rest : List Entry) → IsHistory start (front ++ rest) → IsHistory start front
front_is start [] rest h = tt
front_is start (e ∷ front) rest h = (h.0, front_is (last_of e) front rest h.1)

-- no boundary is above the last of these sequences
pub boundary_within : (start : ℕ) (entries : List Entry) (last : ℕ) → IsHistory start entries → IsBoundary start entries last → last ≤ start + sequences_of entries
boundary_within start entries last h b =
    let front = b.0 in let up_to = b.1 in
    let all = ap sequences_of up_to.split in let ends = up_to.ends in
    omega (arith, all, ends, last_is start front (front_is start front up_to.rest (subst (IsHistory start) up_to.split h)), sum_by-append (λ (e : Entry). e.count) front up_to.rest)

pub counted : (start : ℕ) (entries : List Entry) → IsHistory start entries → sequences_of entries ≡ sum_by (λ (e : Entry). count_of e.records) entries
counted start [] h = refl
counted start (e ∷ entries) h =
    let first = h.0.counted in
    omega (arith, first, counted (last_of e) entries h.1, sum_by-cons (λ (e : Entry). e.count) e entries, sum_by-cons (λ (e : Entry). count_of e.records) e entries)

-- if there was no fault, the statuses are sound
sound_one : (most : ℕ) (trace : Trace) (fault : Option ℕ) (status : WriteStatus) → fault ≡ None → ((last : ℕ) → IsBoundary trace.start trace.entries last → last ≤ most)
    → IsStatus trace fault status → IsSound most status
sound_one most trace fault succeeded none within is = tt
sound_one most trace fault slowed none within is = tt
sound_one most trace fault (faulted count) none within is = let e : fault ≡ Some count = is in cc
sound_one most trace fault (full last) none within is = within last is

pub sound : (most : ℕ) (trace : Trace) (fault : Option ℕ) (attempts : List Attempt) → fault ≡ None → ((last : ℕ) → IsBoundary trace.start trace.entries last → last ≤ most)
    → AreStatuses trace fault attempts → AreSound most attempts
sound most trace fault [] none within are = tt
sound most trace fault (h ∷ attempts) none within are = (sound_one most trace fault h.status none within are.0, sound most trace fault attempts none within are.1)

-- A client's sequences

abbrev adds_one : Command → ℕ
adds_one (add r) = 1
adds_one other = 0

-- how many records commands add
abbrev pub additions : List Command → ℕ
additions commands = sum_by adds_one commands

abbrev weight : Progress → ℕ
weight p = sequences_of p.mine + length p.pending

weight_at : (q : Progress) (pending : List Record) (mine : List Entry) → q.pending ≡ pending → q.mine ≡ mine → weight q ≡ sequences_of mine + length pending
weight_at q pending mine e f = let long = ap length e in let sum = ap sequences_of f in omega arith

weighs : (client : ℕ) (p : Progress) (command : Command) (q : Progress) → Moves client p command q → weight q ≤ weight p + adds_one command
weighs client p command q (stays e f g) = omega (arith, weight_at q _ _ e f)
weighs client p command q (adds r is e f g) = let one = ap adds_one is in omega (arith, one, weight_at q _ _ e f, length-append p.pending (r ∷ []))
weighs client p command q (clears e f g) = omega (arith, weight_at q _ _ e f)
weighs client p command q (accepts how first place decided e f g) =
    omega (arith, weight_at q _ _ e f, sum_by_push (λ (e : Entry). e.count) p.mine (next_entry client p.mine how first p.pending), count_by-le-length is_counted p.pending)
weighs client p command q (refuses how fate e f g) = omega (arith, weight_at q _ _ e f)

weighs_run : (settings : Settings) (trace : Trace) (client : ℕ) (p : Progress) (calls : List Call) (q : Progress) → Run settings trace client p calls q → weight q ≤ weight p + additions (commands_of calls)
weighs_run settings trace client p [] q run = let same = ap weight run in omega arith
weighs_run settings trace client p (c ∷ calls) q run =
    omega (arith, weighs_run settings trace client run.0 calls q run.2, weighs client p c.command run.0 (moves settings trace client p c.command c.reply run.0 run.1.replies), sum_by-cons adds_one c.command (commands_of calls))

-- a client takes no more sequences than it adds records
pub takes : (settings : Settings) (trace : Trace) (client : ℕ) (commands : List Command) (calls : List Call) (end : Progress) → IsTranscript settings trace client commands calls end → sequences_of end.mine ≤ additions commands
takes settings trace client commands calls end is =
    let r = run_of settings trace client commands calls end is in let all = ap additions r.of_commands in
    omega (arith, weighs_run settings trace client fresh r.calls end r.run, all, sum_by-append adds_one (commands_of r.calls) r.rest)

pub additions-append : (commands more : List Command) → additions (commands ++ more) ≡ additions commands + additions more
additions-append commands more = sum_by-append adds_one commands more

pub additions-cons : (r : Record) (commands : List Command) → additions (add r ∷ commands) ≡ 1 + additions commands
additions-cons r commands = sum_by-cons adds_one (add r) commands
