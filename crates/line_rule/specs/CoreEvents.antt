-- The events of the list, and of the second one, as events of the write path's core: the two lists are the half of the
-- core that has the writers.
use Rattle.std.specs.Prelude.{◌≡◌, ◌⊎◌, is_some, ℕ, List, [], ◌∷◌, ◌++◌, map, reverse, Option as Answer, Some, ◌==◌, true, false, find, None}
use Rattle.model_core.specs.declared.event.Event.{Event as CoreEvent}
use Rattle.model_core.specs.declared.event.Event.TheVariants as core
use Rattle.model_base.specs.Calls.{Reply as CoreReply, commit, updates, refused}
use Rattle.model_core.specs.Core.{Options, Writer, LogPhase, free as nobody, led, built as in_hand, stalled, in_log, State as CoreState, item_of as item_of_writer, Client, marked, handed, client_at, with_client, next_call, after_reply, refusal_of, stall_refusal, plain_options, is_alone, with_runs}
use Rattle.model_core.specs.Halves.{ListHalf, list_half_of}
use Rattle.line_rule.specs.declared.view.QueuedWriter.{QueuedWriter}
use Rattle.line_rule.specs.declared.view.Handling.{Handling}
use Rattle.line_rule.specs.Events.{LogHolder, free, elected, grouped, halted}
use Rattle.line_rule.specs.Grouping.{item_of}
use Rattle.line_rule.specs.Chain.{all_answers}
use Rattle.std.specs.List.{AllZip}
use mathlib.Core.Option.{Option, none, some}
use Rattle.model_base.specs.declared.write.WriteOptions.{WriteOptions}
use Rattle.model_core.specs.CoreLaw.{writers_in}
use Rattle.model_core.specs.Step.{step}
use Rattle.line_rule.specs.declared.view.Squad.{Squad}
use Rattle.line_rule.specs.Standing.{Lead2, level, ahead, line_of}
use Rattle.line_rule.specs.SecondList.{IsPut}
use Rattle.line_rule.specs.Steps.{Lists, IsExit}

-- `writer_of` gives the core's writer for each writer of the list
module _ {Request : Type 0} (writer_of : QueuedWriter Request → Writer) where
  -- both are of the same client
  abbrev pub IsSame : Type 0
  IsSame = (e : QueuedWriter Request) → (writer_of e).client ≡ e.by

  -- the writers of this queue have the same items in the core
  abbrev pub HasItems : List (QueuedWriter Request) → Type 0
  HasItems [] = Unit {0}
  HasItems (e ∷ es) = (item_of_writer (writer_of e) ≡ item_of e.code) × HasItems es

  -- a queue in the core's order, the oldest writer first
  abbrev pub core_queue : List (QueuedWriter Request) → List Writer
  core_queue es = map writer_of (reverse es)

  abbrev pub core_log : LogHolder Request → LogPhase
  core_log free = nobody
  core_log (elected c) = led c
  core_log (grouped own group) = in_hand (core_queue (group ++ own ∷ []))
  core_log (halted own group) = stalled (core_queue (group ++ own ∷ []))

-- the client and the answer of a writer of the core
abbrev pub answer_of : Writer → ℕ × Answer CoreReply
answer_of w = (w.client, w.answer)

module _ {Request Reply : Type 0} (reply_of : Reply → CoreReply) where
  -- the client and the answer of a handling
  abbrev pub answer_in : Handling Request Reply → ℕ × Answer CoreReply
  answer_in h = (h.by, Some (reply_of h.reply))

  -- the writers are those of these handlings, with these replies, in the same order
  abbrev pub HasReplies : List (Handling Request Reply) → List Writer → Type 0
  HasReplies hs ws = map answer_of ws ≡ map answer_in hs

  -- each handling has this reply
  abbrev pub AllHave : CoreReply → List (Handling Request Reply) → Type 0
  AllHave reply [] = Unit {0}
  AllHave reply (h ∷ hs) = (reply_of h.reply ≡ reply) × AllHave reply hs

  -- own's group leaves the list, with the answers of these writers
  abbrev pub LeavesWith : List Writer → QueuedWriter Request → Lists Request Reply → Lists Request Reply → Type 0
  LeavesWith ws own a b = (p : Reply) × (gs : List (QueuedWriter Request × Reply)) × IsExit own p gs a b
      × HasReplies (all_answers own p gs) ws

  -- own's group leaves the list, each member with this reply
  abbrev pub AllLeaveWith : CoreReply → QueuedWriter Request → Lists Request Reply → Lists Request Reply → Type 0
  AllLeaveWith reply own a b = (p : Reply) × (gs : List (QueuedWriter Request × Reply)) × IsExit own p gs a b
      × AllHave reply (all_answers own p gs)

-- the same elements in any order: the first of one list is somewhere in the other, and so are the rest among the
-- others
abbrev pub IsRearranged : {A : Type 0} → List A → List A → Type 0
IsRearranged {A} [] ys = ys ≡ []
IsRearranged {A} (x ∷ xs) ys = (before after : List A) × (ys ≡ before ++ x ∷ after) × IsRearranged xs (before ++ after)

abbrev pub without_answer : Writer → Writer
without_answer w = record w { answer = None }

-- the group in hand, where it is already in the core's second queue
abbrev pub group_handed_on : LogPhase → List Writer → List Writer
group_handed_on nobody ws = []
group_handed_on (led c) ws = []
group_handed_on (in_hand vs) ws = []
group_handed_on (stalled vs) ws = []
group_handed_on (in_log vs) ws = []
group_handed_on (marked vs) ws = []
group_handed_on (handed c) ws = ws

-- the core's writers are those of these entries, whatever answers they have
abbrev pub IsGroupOf : {Request : Type 0} → (QueuedWriter Request → Writer) → List (QueuedWriter Request) → List Writer
    → Type 0
IsGroupOf writer_of es ws = map without_answer ws ≡ map without_answer (core_queue writer_of es)

-- no group is between the lists, or in both
abbrev pub IsSettled : {Request Reply : Type 0} → Lead2 → (ℕ → Option (Squad Request Reply)) → Type 0
IsSettled lead apart = (lead ≡ level) × ((k : ℕ) → apart k ≡ none)

module _ {Request Reply : Type 0} (writer_of : QueuedWriter Request → Writer) where
  -- the core's second queue is the groups of the second list, the oldest first
  abbrev pub HasGroups : List (Squad Request Reply) → List (List Writer) → Type 0
  HasGroups groups second = AllZip (λ g ws. IsGroupOf writer_of (line_of g) ws) (reverse groups) second

  -- in the core the log is with the same holder, and no group is logged
  abbrev pub IsUnlogged : LogHolder Request → Lead2 → (ℕ → Option (Squad Request Reply)) → List Writer → LogPhase
      → Type 0
  IsUnlogged held lead apart ws phase = (phase ≡ core_log writer_of held) × (ws ≡ []) × IsSettled lead apart

  -- a writer that leads alone has read the log, and has its answer
  abbrev pub HasRead : LogHolder Request → Lead2 → (ℕ → Option (Squad Request Reply)) → List Writer → Type 0
  HasRead held lead apart vs = (own : QueuedWriter Request) × (reply : CoreReply) × (held ≡ grouped own [])
      × (is_some (writer_of own).since ≡ true) × (vs ≡ record (writer_of own) { answer = Some reply } ∷ [])
      × IsSettled lead apart

  -- Where the core's log is, by what the lists show: ws are the writers of the group in hand once it is logged. A
  -- logged group is marked while it is apart from both lists, and handed on while its leader is ahead.
  abbrev pub IsLogOf : LogHolder Request → Lead2 → (ℕ → Option (Squad Request Reply)) → List Writer → LogPhase → Type 0
  IsLogOf held lead apart ws nobody = IsUnlogged held lead apart ws nobody
  IsLogOf held lead apart ws (led c) = IsUnlogged held lead apart ws (led c)
  IsLogOf held lead apart ws (in_hand vs) = IsUnlogged held lead apart ws (in_hand vs)
      ⊎ HasRead held lead apart vs
  IsLogOf held lead apart ws (stalled vs) = IsUnlogged held lead apart ws (stalled vs)
  IsLogOf held lead apart ws (in_log vs) = (vs ≡ ws)
      × ((own : QueuedWriter Request) × (group : List (QueuedWriter Request)) × (held ≡ grouped own group)
      × IsGroupOf writer_of (group ++ own ∷ []) ws) × IsSettled lead apart
  IsLogOf held lead apart ws (marked vs) = (vs ≡ ws) × (lead ≡ level)
      × ((g : Squad Request Reply) × (held ≡ grouped g.own g.rest) × IsGroupOf writer_of (line_of g) ws
      × IsPut g.own.by (some g) (λ _. none) apart)
  IsLogOf held lead apart ws (handed c) = (lead ≡ ahead c) × ((k : ℕ) → apart k ≡ none)
      × ((own : QueuedWriter Request) × (group : List (QueuedWriter Request)) × (held ≡ grouped own group)
      × (own.by ≡ c)
      × IsGroupOf writer_of (group ++ own ∷ []) ws)

module _ {Request Reply : Type 0} (writer_of : QueuedWriter Request → Writer) (reply_of : Reply → CoreReply) where
  -- The core has the same queue, the log where the lists show it, and the same groups in its second queue. A client
  -- whose request is handled and that hasn't got its reply yet is in that second queue or has left, with that reply as
  -- its answer. In addition to these there is the group that is handed on: the list handles it when its leader gives
  -- the log on.
  pub record IsCoreOf (ws : List Writer) (l : Lists Request Reply) (half : ListHalf) : Type 0 where
    pub queue : half.queue ≡ core_queue writer_of l.0.0
    pub log : IsLogOf writer_of l.0.1 l.1.1 l.1.2 ws half.log
    pub second : HasGroups writer_of l.1.0 half.second
    pub owed : IsRearranged (map (answer_in reply_of) l.0.3 ++ map answer_of (group_handed_on half.log ws))
        (map answer_of (half.leaving ++ writers_in half.second))

  -- the core's writers are of the same clients as the list's, and the core's state fits both lists
  abbrev pub StandsAs : List Writer → Lists Request Reply → CoreState → Type 0
  StandsAs ws l s = IsSame writer_of × IsCoreOf ws l (list_half_of s)

  -- the event may come in the core, and takes it to a state that fits these lists
  abbrev pub IsTaken : Options → CoreEvent → CoreState → List Writer → Lists Request Reply → Type 0
  IsTaken o event s ws l = (new : CoreState) × (step o s event ≡ Some new)
      × IsCoreOf ws l (list_half_of new)

-- the client is idle, its next call is a commit that no check refuses, and this is its writer
abbrev pub IsCommit : Options → CoreState → ℕ → Writer → Type 0
IsCommit o s c w = (client : Client) × (how : WriteOptions) × (client_at s c ≡ Some client) × (client.idle ≡ true)
    × ((next_call client).call ≡ Some (commit how)) × (refusal_of o how (next_call client).client.added ≡ None)
    × (w ≡ record { client = c; options = how; records = (next_call client).client.added; since = None; answer = None })

-- the client is idle, its next call is a read of the log, and this is its writer
abbrev pub IsUpdates : CoreState → ℕ → Writer → Type 0
IsUpdates s c w = (client : Client) × (n : ℕ) × (client_at s c ≡ Some client) × (client.idle ≡ true)
    × ((next_call client).call ≡ Some (updates n))
    × (w ≡ record { client = c; options = plain_options; records = []; since = Some n; answer = None })

-- the core's `link` of this writer refuses its commit, since writes are stalled, and moves nothing but its client
abbrev pub IsRefusedAtOnce : Options → CoreState → ℕ → Writer → Type 0
IsRefusedAtOnce o s c w = (client : Client) × (client_at s c ≡ Some client)
    × (step o s (core.Link c) ≡ Some (with_client s c
    (after_reply (next_call client).client (commit w.options) (refused (stall_refusal 1 0)))))

-- the client is there, and has left with this answer
abbrev pub HasLeft : CoreState → ℕ → CoreReply → Type 0
HasLeft s c reply = (w : Writer) × (client : Client) × (client_at s c ≡ Some client)
    × (find (λ (x : Writer). x.client == c) s.leaving ≡ Some w) × (w.answer ≡ Some reply)

-- a group of writes is in hand, no append has failed, and these are the group's writers, with their runs
abbrev pub IsToLog : CoreState → List Writer → Type 0
IsToLog s ws = (built : List Writer) × (s.log ≡ in_hand built) × (s.log_failed ≡ false) × (is_alone built ≡ false)
    × (ws ≡ with_runs s.assigned built)
