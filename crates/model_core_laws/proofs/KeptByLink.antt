-- Linking a batch keeps the core's law.
use Rattle.std.proofs.Common.{◌≡◌, ℕ, ◌+◌, ◌<◌, ◌≤◌, Bool, true, false, cond, inl, inr, ◌==◌, List, [], ◌∷◌, ◌++◌, map, Option, Some, None, is_some, IsSome, if◌then◌else◌, refl, ap, sym, ◌∙◌, subst, arith, append_assoc}
use Rattle.std.specs.List.{AllByRecursion}
use Rattle.std.proofs.lemmas.Bool.{ne_eqb, eqb-false, cond-true, cond-false}
use Rattle.std.proofs.lemmas.List.{map-append}
use Rattle.model_base.specs.declared.write.WriteOptions.{WriteOptions}
use Rattle.model_base.specs.declared.write.Refusal.{Refusal}
use Rattle.model_base.specs.declared.write.Refusal.TheVariants as no
use Rattle.model_base.specs.Batch.{Record, count_of}
use Rattle.model_base.specs.Progress.{early_refusal}
use Rattle.model_base.specs.Calls.{Command, commit, updates, refused}
use Rattle.model_core.specs.declared.event.Event.TheVariants.{Link}
use Rattle.model_core.specs.Core.{Options, Writer, Client, LogPhase, free, led, built, stalled, in_log, marked, handed, State, client_at, with_client, next_call, after_reply, refusal_of, refusal_in, may_link, plain_options, among}
use Rattle.model_core.specs.Step.{link, link_call, link_with, link_read}
use Rattle.model_core.specs.CoreLaw.{IsCore, HasWork, Keeps, LedIsFirst, writers_in, hand, in_order, waiting_clients}
use Rattle.model_core_laws.proofs.Clients.{ahead_idle, replaced, still_there, once_after, places}
use Rattle.model_core_laws.proofs.KeptByRead.{kept_idle}
use Rattle.model_core_laws.proofs.Lists.{all_weaker, all_append}
use Rattle.model_core_laws.proofs.Tables.{all_fewer, times, times_cons, times_here, there_append, times_among, waiting_parts, when_some}

-- a batch that isn't refused has something to write
something : (families batch_bytes : ℕ) (records : List Record) (how : WriteOptions) → early_refusal families batch_bytes false records how ≡ None → 0 < count_of records
something families batch_bytes records how none = by (count_of records == 0) refl none
  where
    by : (b : Bool) → (count_of records == 0) ≡ b → early_refusal families batch_bytes false records how ≡ None → 0 < count_of records
    by true is e = absurd (let f : early_refusal families batch_bytes false records how ≡ Some no.Empty = cond-true (count_of records == 0) (Some no.Empty) _ is in cc)
    by false is e = let f = eqb-false (count_of records) 0 is in omega (arith, f)

-- the client that leads the log stays first
still_first : (log : LogPhase) (queue : List Writer) (w : Writer) → LedIsFirst log queue → LedIsFirst log (queue ++ w ∷ [])
still_first (led c) [] w first = absurd (cc)
still_first (led c) (v ∷ queue) w first = first
still_first free queue w first = tt
still_first (built ws) queue w first = tt
still_first (stalled ws) queue w first = tt
still_first (in_log ws) queue w first = tt
still_first (marked ws) queue w first = tt
still_first (handed c) queue w first = tt

-- a client that is nowhere in the list isn't among it
not_among : (c : ℕ) (cs : List ℕ) → times c cs ≡ 0 → among c cs ≡ false
not_among c cs none = by (among c cs) refl
  where
    by : (b : Bool) → among c cs ≡ b → among c cs ≡ false
    by true is = absurd (let some = times_among c cs is in omega arith)
    by false is = is

-- a commit that isn't refused passed the checks
pub none_early : (log : LogPhase) (how : WriteOptions) (early : Option Refusal) → refusal_in log how early ≡ None → early ≡ None
none_early log how None e = refl
none_early log how (Some why) e = e

-- a client that was idle now waits after the others
module _ (o : Options) (s : State) (c : ℕ) (old client : Client) (how : WriteOptions) (records : List Record) (since : Option ℕ) (is : client_at s c ≡ Some old) (idle : old.idle ≡ true)
    (some : since ≡ None → 0 < count_of records) (core : IsCore o s) where
  abbrev writer : Writer
  writer = record { client = c; options = how; records = records; since = since; answer = None }

  abbrev waits : Client
  waits = record client { idle = false }

  abbrev after : State
  after = record (with_client s c waits) { queue = s.queue ++ writer ∷ [] }

  one_more : (n : ℕ) → times n (waiting_clients after) ≡ times n (waiting_clients s) + times n (c ∷ [])
  one_more n =
      let a = waiting_parts n after in
      let b = waiting_parts n s in
      let d = there_append n s.queue (writer ∷ []) in
      omega arith

  none_before : times c (waiting_clients s) ≡ 0
  none_before = core.once c old is ∙ ap (λ b. if b then 0 else 1) idle

  one_now : times c (waiting_clients after) ≡ 1
  one_now = let a = one_more c in let b = none_before in let d = times_here c [] in omega arith

  others : (n : ℕ) (other : Client) → (c ≡ n → ⊥) → client_at s n ≡ Some other → times n (waiting_clients after) ≡ (if other.idle then 0 else 1)
  others n other apart at = same ∙ core.once n other at
    where
      same : times n (waiting_clients after) ≡ times n (waiting_clients s)
      same =
          let a = one_more n in
          let b = times_cons n c [] in
          let d : cond {A = ℕ} (c == n) 1 0 ≡ 0 = cond-false {A = ℕ} (c == n) 1 0 (ne_eqb c n apart) in
          omega arith

  within : AllByRecursion (λ n. IsSome (client_at after n)) (waiting_clients after)
  within = all_fewer (λ n. IsSome (client_at after n)) (c ∷ waiting_clients s) (waiting_clients after) fewer
      (ap is_some (replaced s c old waits is), all_weaker _ _ (still_there s c old waits is) (waiting_clients s) core.clients)
    where
      fewer : (n : ℕ) → times n (waiting_clients after) ≤ times n (c ∷ waiting_clients s)
      fewer n = let a = one_more n in let b = times_cons n c (waiting_clients s) in let d = times_cons n c [] in omega arith

  linking : IsCore o after
  linking =
      places o s (with_client s c waits).clients (s.queue ++ writer ∷ []) s.leaving
      (once_after s after c old waits is refl one_now others)
      within
      (still_first s.log s.queue writer core.led_is_first)
      (subst (λ ws. AllByRecursion HasWork ws) (append_assoc (hand s.log) s.queue (writer ∷ []))
      (all_append _ (hand s.log ++ s.queue) (writer ∷ []) core.counted (some, tt)))
      core

  order : in_order after ≡ in_order s ++ c ∷ []
  order = ap (map (λ (w : Writer). w.client)) (sym (append_assoc (writers_in s.second ++ hand s.log) s.queue (writer ∷ []))) ∙ map-append (λ (w : Writer). w.client) ((writers_in s.second ++ hand s.log) ++ s.queue) (writer ∷ [])

  keeps_linking : Keeps (Link c) s after
  keeps_linking = record { order = inr (order, not_among c (waiting_clients s) none_before); log_failed = λ was. (refl, was) }

pub kept_by_link : (o : Options) (s t : State) (c : ℕ) → IsCore o s → link o s c (client_at s c) ≡ Some t → IsCore o t × Keeps (Link c) s t
kept_by_link o s t c core e = by_client (client_at s c) refl e
  where
    by_refusal : (old client : Client) → client_at s c ≡ Some old → old.idle ≡ true → client.idle ≡ true → (how : WriteOptions) (why : Option Refusal) → refusal_in s.log how (refusal_of o how client.added) ≡ why → link_with o s c client how why ≡ t → IsCore o t × Keeps (Link c) s t
    by_refusal old client is was now how (Some why) refusal e = subst (λ (x : State). IsCore o x × Keeps (Link c) s x) e
        ((kept_idle o s c old (after_reply client (commit how) (refused why)) is was refl core).0, record { order = inl refl; log_failed = λ failed. (refl, failed) })
    by_refusal old client is was now how None refusal e =
        let some = something o.families o.batch_bytes client.added how (none_early s.log how (refusal_of o how client.added) refusal) in
        subst (λ (x : State). IsCore o x × Keeps (Link c) s x) e (linking o s c old client how client.added None is was (λ _. some) core, keeps_linking o s c old client how client.added None is was (λ _. some) core)

    by_call : (old client : Client) → client_at s c ≡ Some old → old.idle ≡ true → client.idle ≡ true → (call : Option Command) → link_call o s c client call ≡ Some t → IsCore o t × Keeps (Link c) s t
    by_call old client is was now (Some (commit how)) e =
        let why = refusal_in s.log how (refusal_of o how client.added) in
        by_refusal old client is was now how why refl (when_some (may_link s.log why) (link_with o s c client how why) t e).1
    by_call old client is was now (Some (updates n)) e =
        let h = when_some (may_link s.log None) (link_read s c client n) t e in
        let none : Some n ≡ None → 0 < count_of [] = λ never. absurd (cc) in
        subst (λ (x : State). IsCore o x × Keeps (Link c) s x) h.1
        (linking o s c old client plain_options [] (Some n) is was none core, keeps_linking o s c old client plain_options [] (Some n) is was none core)
    by_call old client is was now (Some other) e = absurd (cc)
    by_call old client is was now None e = absurd (cc)

    by_idle : (client : Client) → client_at s c ≡ Some client → (b : Bool) → client.idle ≡ b → (if b then link_call o s c (next_call client).client (next_call client).call else None) ≡ Some t → IsCore o t × Keeps (Link c) s t
    by_idle client is true idle e = by_call client (next_call client).client is idle (ahead_idle client.calls client.added client.left client ∙ idle) (next_call client).call e
    by_idle client is false idle e = absurd (cc)

    by_client : (client : Option Client) → client_at s c ≡ client → link o s c client ≡ Some t → IsCore o t × Keeps (Link c) s t
    by_client None is e = absurd (cc)
    by_client (Some client) is e = by_idle client is client.idle refl e
