-- Runs of calls: what holds in a trace holds in a longer one; and one more call.
use Rattle.std.proofs.Common.{IfSome, ◌≡◌, ℕ, ◌≤◌, ◌<◌, ◌+◌, length, Bool, true, false, Option, Some, None, List, [], ◌∷◌, ◌++◌, map, take, MatchOption, refl, ap, sym, ◌∙◌, subst, arith, append_assoc}
use mathlib.Core.List.{IsPrefix}
use Rattle.model_base.specs.declared.write.WriteOptions.{WriteOptions}
use Rattle.model_base.specs.declared.write.Refusal.{Refusal}
use Rattle.model_base.specs.declared.write.Refusal.TheVariants as no
use Rattle.model_base.specs.Map.{Key, Pairs}
use Rattle.model_base.specs.History.{Entry, IsUpTo, last_sequence, map_over}
use Rattle.model_base.specs.Recovery.{Logged}
use Rattle.model_base.specs.Since.{LogRead, records_in, since}
use Rattle.model_base.specs.Controller.{ControllerCall, Action, Look}
use Rattle.model_base.specs.Trace.{Trace, Begins, Settings}
use Rattle.model_base.specs.Batch.{Record}
use Rattle.model_base.specs.Attempts.{Fate}
use Rattle.model_base.specs.LogContents.{GroupCall, IsLoggedBy}
use Rattle.model_base.specs.Tokens.{tokens_of, holds_stop, shown_by_tokens, said_in}
use Rattle.model_base.specs.Progress.{Progress, fresh, first_missing, early_refusal}
use Rattle.model_base.specs.Replies.{IsLater, WasHeldUp, LooksAway, IsTold, MayRefuse, IsKeptOut, WentToGroup, IsAccepted, IsAttempted, ReadsAt, IsDone, Gets, GetsMany, Scans, IfThere, IsLogRead, ReadsLog, Updates, Stops, Unstops, Slows, Unslows, Replies, Stays}
use Rattle.model_base.specs.Runs.{Step, Run, IsTranscript, whole, cut_off}
use Rattle.model_base.specs.Calls.{Command, add, clear, commit, get, many, scan, updates, stop, unstop, slow, unslow, Reply, accepted, refused, found, found_each, rows, updates_found, read_failed, done, held, not_held, Call}
use Rattle.model_base.proofs.Prefixes.{prefix_at, prefix_length, prefix_take, prefix_trans}

-- A longer trace

pub later_in : (xs ys : List ControllerCall) → IsPrefix xs ys → (known place : ℕ) (t : ControllerCall) → IsLater xs known place t → IsLater ys known place t
later_in xs ys p known place t s = record { later = s.later; there = prefix_at xs ys p place t s.there }

-- who was held up before a place of a history was so before each later place of a longer one
pub held_up_in : (xs ys : List ControllerCall) → IsPrefix xs ys → (by place later : ℕ) → place ≤ later → WasHeldUp xs by place → WasHeldUp ys by later
held_up_in xs ys p by place later le s = record {
  at = s.at;
  now = s.now;
  bytes = s.bytes;
  told = s.told;
  there = prefix_at xs ys p s.at _ s.there;
  before = (let b = s.before in omega (arith, b, le));
  holds_up = s.holds_up;
}

away_in : (xs ys : List ControllerCall) → IsPrefix xs ys → (stopping : Bool) (client by place : ℕ) (numbers : Look) → LooksAway stopping xs client by place numbers → LooksAway stopping ys client by place numbers
away_in xs ys p true client by place numbers s = s
away_in xs ys p false client by place numbers s = record { leader = s.leader; other = s.other; stalled = held_up_in xs ys p s.leader place place (omega arith) s.stalled; looked = s.looked; shown = s.shown }

told_in : (xs ys : List ControllerCall) → IsPrefix xs ys → (stopping : Bool) (client knew knows : ℕ) (numbers : Look) (fate : Option Fate) → IsTold xs stopping client knew knows numbers fate → IsTold ys stopping client knew knows numbers fate
told_in xs ys p stopping client knew knows numbers None s = (s.0, s.1, later_in xs ys p knew s.1 _ s.2, s.3, away_in xs ys p stopping client s.0 s.1 numbers s.4)
told_in xs ys p stopping client knew knows numbers (Some fate) s = (s.0, s.1, s.2, later_in xs ys p knew fate.place _ s.3, s.4, s.5, s.6)

-- a refusal that is right stays so in the longer history, even for a client that was shown less
pub refuse_in : (xs ys : List ControllerCall) → IsPrefix xs ys → (client : ℕ) (p : Progress) (shown knows : ℕ) → shown ≤ p.seen_up_to → (how : WriteOptions) (why : Refusal) (fate : Option Fate)
    → MayRefuse xs client p knows how why fate → MayRefuse ys client (record p { seen_up_to = shown }) knows how why fate
refuse_in xs ys pre client p shown knows low how (no.Incomplete a b c) fate s = (s.0, told_in xs ys pre (holds_stop p.asked) client p.known knows _ fate s.1)
refuse_in xs ys pre client p shown knows low how (no.LogFault c) fate s = s
refuse_in xs ys pre client p shown knows low how (no.SequenceFull l) fate s = (s.0, s.1, (let seen = s.2 in omega (arith, low, seen)), s.3, s.4, s.5)
refuse_in xs ys pre client p shown knows low how no.Empty fate s = s
refuse_in xs ys pre client p shown knows low how (no.TooLarge n) fate s = s
refuse_in xs ys pre client p shown knows low how no.SyncWithoutLog fate s = s
refuse_in xs ys pre client p shown knows low how no.SelfStop fate s = s
refuse_in xs ys pre client p shown knows low how (no.NoFamily f) fate s = s
refuse_in xs ys pre client p shown knows low how no.NoMemory fate s = s

-- a commit of a client that holds no stop token may be in a group
pub not_kept_out : (asked : List Action) (fate : Fate) → holds_stop asked ≡ false → IsKeptOut asked (Some fate)
not_kept_out asked fate free = λ stopping. absurd (cc (free, stopping))

-- a batch that one of the first calls wrote was written by one of all calls
pub logged_in : (xs ys : List GroupCall) → IsPrefix xs ys → (knew knows first : ℕ) (records : List Record) (sync : Bool) → IsLoggedBy xs knew knows first records sync → IsLoggedBy ys knew knows first records sync
logged_in xs ys p knew knows first records sync s = record { place = s.place; call = s.call; there = prefix_at xs ys p s.place s.call s.there; later = s.later; known = s.known; wrote = s.wrote }

-- what was said of the first calls of a history holds of those of a longer one
pub unseen_in : (xs ys : List ControllerCall) → IsPrefix xs ys → (decided first : ℕ) → decided ≤ length xs → shown_by_tokens (take decided xs) < first → shown_by_tokens (take decided ys) < first
unseen_in xs ys p decided first within s = subst (λ (l : List ControllerCall). shown_by_tokens l < first) (sym (prefix_take xs ys p decided within)) s

pub said_same : (xs ys : List ControllerCall) → IsPrefix xs ys → (place shown : ℕ) → place < length xs → shown ≤ said_in (take (place + 1) xs) → shown ≤ said_in (take (place + 1) ys)
said_same xs ys p place shown within s = subst (λ (l : List ControllerCall). shown ≤ said_in l) (sym (prefix_take xs ys p (place + 1) (omega (arith, within)))) s

-- how a commit went in its group is right in the longer history too, even for a client that was shown less
pub went_in : (xs ys : List ControllerCall) → IsPrefix xs ys → (knew knows less shown : ℕ) → less ≤ shown → knows ≤ length xs → (fate : Option Fate)
    → IfSome fate (WentToGroup xs knew knows shown) → IfSome fate (WentToGroup ys knew knows less)
went_in xs ys p knew knows less shown low within None s = tt
went_in xs ys p knew knows less shown low within (Some fate) s = record {
  asked = s.asked;
  said = (let seen = s.asked.1 in let known = s.asked.2 in let said = said_same xs ys p fate.place shown (omega (arith, seen, known, within)) s.said in omega (arith, low, said));
}

-- what follows where there is no early refusal
in_none : {A : Type 0} (X Y : Type 0) (Q : A → Type 0) (o : Option A) → (X → Y) → MatchOption o X Q → MatchOption o Y Q
in_none X Y Q None f s = f s
in_none X Y Q (Some a) f s = s

module _ (v w : Trace) (b : Begins v w) where
  attempted_in : (client : ℕ) (p : Progress) (how : WriteOptions) (r : Reply) (q : Progress) → q.known ≤ length v.controller_calls → IsAttempted v client p how r q → IsAttempted w client p how r q
  attempted_in client p how (accepted x y rs) q within s = record {
    batch = s.batch;
    run = s.run;
    above = s.above;
    behind = s.behind;
    alive = s.alive;
    free = s.free;
    place = s.place;
    decided = s.decided;
    asked = s.asked;
    said = said_same v.controller_calls w.controller_calls b.controller_calls s.place p.seen_up_to (let seen = s.asked.1 in let known = s.asked.2 in omega (arith, seen, known, within)) s.said;
    unseen = unseen_in v.controller_calls w.controller_calls b.controller_calls s.decided x (let known = s.asked.2 in omega (arith, known, within)) s.unseen;
    logged = λ to_log. logged_in v.log_calls w.log_calls b.log_calls p.logged q.logged x p.pending how.sync (s.logged to_log);
    after = s.after;
  }
  attempted_in client p how (refused why) q within s = (s.0, refuse_in v.controller_calls w.controller_calls b.controller_calls client p p.seen_up_to q.known (omega arith) how why s.0 s.1, s.2, s.3, went_in v.controller_calls w.controller_calls b.controller_calls p.known q.known p.seen_up_to p.seen_up_to (omega arith) within s.0 s.4)
  attempted_in client p how _ q within s = absurd s

  up_to_in : (at : ℕ) (front : List Entry) → IsUpTo v.start v.entries at front → IsUpTo w.start w.entries at front
  up_to_in at front s =
      let rest = b.entries.0 in
      record {
        rest = s.rest ++ rest;
        split = sym b.entries.1 ∙ (ap (λ xs. xs ++ rest) s.split ∙ append_assoc front s.rest rest);
        ends = s.ends ∙ ap (λ n. last_sequence n front) b.start;
      }

  reads_in : (p : Progress) (at : ℕ) (answers : Pairs → Type 0) (q : Progress) → ReadsAt v p at answers q → ReadsAt w p at answers q
  reads_in p at answers q s = record {
    front = s.front;
    is_front = up_to_in at s.front s.is_front;
    not_below = s.not_below;
    answer = subst (λ m. answers (map_over m s.front)) b.opening s.answer;
    after = s.after;
  }

  gets_in : (p : Progress) (key : Key) (r : Reply) (q : Progress) → Gets v p key r q → Gets w p key r q
  gets_in p key (found at x) q s = reads_in p at _ q s
  gets_in p key _ q s = absurd s

  many_in : (p : Progress) (keys : List Key) (r : Reply) (q : Progress) → GetsMany v p keys r q → GetsMany w p keys r q
  many_in p keys (found_each at xs) q s = reads_in p at _ q s
  many_in p keys _ q s = absurd s

  scans_in : (p : Progress) (family : ℕ) (lo hi : List ℕ) (r : Reply) (q : Progress) → Scans v p family lo hi r q → Scans w p family lo hi r q
  scans_in p family lo hi (rows at xs) q s = reads_in p at _ q s
  scans_in p family lo hi _ q s = absurd s

  there_in : (settings : Settings) (named : List ℕ) (p : Progress) (r : Reply) (q : Progress) (X Y : Type 0) → (X → Y) → IfThere settings named p r q X → IfThere settings named p r q Y
  there_in settings named p r q X Y f s = in_none {A = ℕ} X Y (λ family. (r ≡ refused (no.NoFamily family)) × Stays p q) (first_missing settings.families named) f s

  log_read_in : (r : LogRead) → IsLogRead v r → IsLogRead w r
  log_read_in r s = record {
    front = s.front;
    is_front = up_to_in r.at s.front s.is_front;
    groups = s.groups;
    in_log = prefix_trans s.groups v.logged w.logged s.in_log b.logged;
    up_to = s.up_to;
    answer = subst (λ (k : Option (List Logged)). IfSome k (λ kept. r.records ≡ since r.since r.at (records_in kept s.groups))) b.kept s.answer;
  }

  reads_log_in : (p : Progress) (n at : ℕ) (records : List (List ℕ)) (q : Progress) → ReadsLog v p n at records q → ReadsLog w p n at records q
  reads_log_in p n at records q s = record { reads = reads_in p at _ q s.reads; right = log_read_in _ s.right }

  updates_in : (settings : Settings) (p : Progress) (n : ℕ) (r : Reply) (q : Progress) → Updates settings v p n r q → Updates settings w p n r q
  updates_in settings p n (updates_found at records) q s = (s.0, reads_log_in p n at records q s.1)
  updates_in settings p n (read_failed count) q s = s
  updates_in settings p n (refused why) q s = s
  updates_in settings p n _ q s = absurd s

  done_in : (client : ℕ) (p : Progress) (a : Action) (q : Progress) → q.known ≤ length v.controller_calls → IsDone v client p a q → IsDone w client p a q
  done_in client p a q within s =
      let known = s.known in let later = s.hears.later in record {
        place = s.place;
        is_later = later_in v.controller_calls w.controller_calls b.controller_calls p.known s.place _ s.is_later;
        had = s.had;
        said = said_same v.controller_calls w.controller_calls b.controller_calls s.place p.seen_up_to (omega (arith, known, later, within)) s.said;
        heard_at = s.heard_at;
        most = s.most;
        hears = later_in v.controller_calls w.controller_calls b.controller_calls (s.place + 1) s.heard_at _ s.hears;
        known = s.known;
        after = s.after;
      }

  stops_in : (client : ℕ) (p : Progress) (r : Reply) (q : Progress) → q.known ≤ length v.controller_calls → Stops v client p r q → Stops w client p r q
  stops_in client p done q within s = (s.0, s.1, done_in client p _ q within s.2)
  stops_in client p held q within s = s
  stops_in client p _ q within s = absurd s

  unstops_in : (client : ℕ) (p : Progress) (r : Reply) (q : Progress) → q.known ≤ length v.controller_calls → Unstops v client p r q → Unstops w client p r q
  unstops_in client p done q within s = (s.0, s.1, done_in client p _ q within s.2)
  unstops_in client p not_held q within s = s
  unstops_in client p _ q within s = absurd s

  slows_in : (client : ℕ) (p : Progress) (rate : ℕ) (r : Reply) (q : Progress) → q.known ≤ length v.controller_calls → Slows v client p rate r q → Slows w client p rate r q
  slows_in client p rate done q within s = (s.0, s.1, done_in client p _ q within s.2)
  slows_in client p rate held q within s = s
  slows_in client p rate _ q within s = absurd s

  unslows_in : (client : ℕ) (p : Progress) (r : Reply) (q : Progress) → q.known ≤ length v.controller_calls → Unslows v client p r q → Unslows w client p r q
  unslows_in client p done q within s = (s.0, s.1, done_in client p _ q within s.2)
  unslows_in client p not_held q within s = s
  unslows_in client p _ q within s = absurd s

  replies_in : (settings : Settings) (client : ℕ) (p : Progress) (c : Command) (r : Reply) (q : Progress) → q.known ≤ length v.controller_calls → Replies settings v client p c r q → Replies settings w client p c r q
  replies_in settings client p (add x) r q within s = s
  replies_in settings client p clear r q within s = s
  replies_in settings client p (commit how) r q within s = in_none {A = Refusal} _ _ (λ why. (r ≡ refused why) × Stays p q) (early_refusal settings.families settings.batch_bytes (holds_stop p.asked) p.pending how) (attempted_in client p how r q within) s
  replies_in settings client p (get key) r q within s = there_in settings (key.family ∷ []) p r q _ _ (gets_in p key r q) s
  replies_in settings client p (many keys) r q within s = there_in settings (map (λ (k : Key). k.family) keys) p r q _ _ (many_in p keys r q) s
  replies_in settings client p (scan family lo hi) r q within s = there_in settings (family ∷ []) p r q _ _ (scans_in p family lo hi r q) s
  replies_in settings client p (updates n) r q within s = updates_in settings p n r q s
  replies_in settings client p stop r q within s = stops_in client p r q within s
  replies_in settings client p unstop r q within s = unstops_in client p r q within s
  replies_in settings client p (slow rate) r q within s = slows_in client p rate r q within s
  replies_in settings client p unslow r q within s = unslows_in client p r q within s

  pub step_in : (settings : Settings) (client : ℕ) (p : Progress) (c : Command) (r : Reply) (q : Progress) → Step settings v client p c r q → Step settings w client p c r q
  step_in settings client p c r q s = record {
    replies = replies_in settings client p c r q s.within s.replies;
    rises = s.rises;
    within = (let n = s.within in let m = prefix_length v.controller_calls w.controller_calls b.controller_calls in omega arith);
    tokens = ap (tokens_of client) (prefix_take v.controller_calls w.controller_calls b.controller_calls q.known s.within) ∙ s.tokens;
    logs_rise = s.logs_rise;
    logs_within = (let n = s.logs_within in let m = prefix_length v.log_calls w.log_calls b.log_calls in omega arith);
  }

  -- a run of calls in a trace is one in each longer trace too
  pub run_in : (settings : Settings) (client : ℕ) (p : Progress) (calls : List Call) (q : Progress) → Run settings v client p calls q → Run settings w client p calls q
  run_in settings client p [] q s = s
  run_in settings client p (c ∷ calls) q s = (s.0, step_in settings client p c.command c.reply s.0 s.1, run_in settings client s.0 calls q s.2)

  pub transcript_in : (settings : Settings) (client : ℕ) (commands : List Command) (calls : List Call) (end : Progress) → IsTranscript settings v client commands calls end → IsTranscript settings w client commands calls end
  transcript_in settings client commands calls end (whole all run) = whole all (run_in settings client fresh calls end run)
  transcript_in settings client commands calls end (cut_off front last rest are from run lacks) = cut_off front last rest are from (run_in settings client fresh front end run) lacks

-- One more call

pub run_more : (settings : Settings) (v : Trace) (client : ℕ) (p : Progress) (calls : List Call) (m : Progress) (c : Call) (q : Progress)
    → Run settings v client p calls m → Step settings v client m c.command c.reply q → Run settings v client p (calls ++ c ∷ []) q
run_more settings v client p [] m c q s t = (q, subst (λ (x : Progress). Step settings v client x c.command c.reply q) s t, refl)
run_more settings v client p (d ∷ calls) m c q s t = (s.0, s.1, run_more settings v client s.0 calls m c q s.2 t)
