-- Each call, by what it says of its client, is a step of the client, in each trace of which the client may have seen
-- what it has seen.
use Rattle.std.proofs.Common.{◌≡◌, ◌⊎◌, inl, inr, ℕ, ◌+◌, ◌≤◌, ◌<◌, Bool, true, false, if◌then◌else◌, Option, Some, None, List, [], ◌∷◌, ◌++◌, length, map, max, take, MatchOption, refl, ap, sym, ◌∙◌, subst, arith, append-nil}
use Rattle.std.proofs.lemmas.Option.{slice_get_cases}
use Rattle.std.proofs.Math.Seq.{take-length}
use Rattle.model_base.specs.declared.write.WriteOptions.{WriteOptions}
use Rattle.model_base.specs.declared.write.Refusal.{Refusal}
use Rattle.model_base.specs.declared.write.Refusal.TheVariants.{Empty, TooLarge, SyncWithoutLog, SelfStop, NoMemory, NoFamily}
use Rattle.model_base.specs.Batch.{Record, count_of, size_of_batch}
use Rattle.model_base.specs.declared.key.Key.{Key}
use Rattle.model_base.specs.Map.{Pairs, Rows, value_at, rows_within}
use Rattle.model_base.specs.History.{Entry}
use Rattle.model_base.specs.Controller as controller
use Rattle.model_base.specs.Controller.{ControllerCall, Action}
use Rattle.model_base.specs.Tokens.{tokens_of, holds_stop, holds_slow, said_in}
use Rattle.model_base.specs.Trace.{Trace, Settings}
use Rattle.model_base.specs.Attempts.{Attempt}
use Rattle.std.specs.List.{AllByRecursion}
use mathlib.Core.List.{IsPrefix}
use Rattle.std.specs.Option.{option_map_or}
use Rattle.model_base.specs.Outcomes.{read_fault_of}
use Rattle.model_base.specs.Progress.{Progress, families_in, first_missing, early_refusal}
use Rattle.model_base.specs.Replies.{IsAttempted, IsLogRead, ReadsAt, Gets, GetsMany, Scans, IfThere, Replies, Stays, IsDone}
use Rattle.model_base.specs.Calls.{Command, add, clear, commit, get, many, scan, updates, stop, unstop, slow, unslow, Reply, quiet, accepted, refused, found, found_each, rows, updates_found, read_failed, done, held, not_held}
use Rattle.model_base.specs.LogContents.{IsLoggedBy}
use Rattle.model_base.proofs.Prefixes.{prefix_length, prefix_take}
use Rattle.model_base.proofs.Runs.{later_in, refuse_in, said_same, unseen_in, went_in}
use Rattle.model_accounts.specs.Sights.{WasLogged, last_seen, Sees, Saw, InEachTrace}
use Rattle.model_accounts.specs.Accounts.{Account, progress_at, KnowsOwnTokens, Keeps, IsLogged, Wrote, IsRefused, Refuses, Reads, ReadsLog, FailsToRead, Asks}
use Rattle.model_accounts.specs.ClientRuns.{Goes, Lacks}
use Rattle.model_accounts.proofs.Seeing.{sees_self, last_rises, seen_ends, seen_map}

-- a progress, given by its parts
stands_by : (w : Account) (pending : List Record) (seen_up_to : ℕ) (mine : List Entry) (asked : List Action) (attempts : List Attempt) → w.mine ≡ mine → w.asked ≡ asked → w.attempts ≡ attempts
    → progress_at w pending seen_up_to ≡ record { pending = pending; mine = mine; asked = asked; attempts = attempts; seen_up_to = seen_up_to; known = length w.seen.controller_calls; logged = w.seen.logged }
stands_by w pending seen_up_to mine asked attempts m a h = rw (m, a, h) refl

stays : (v w : Account) → Keeps v w → (pending : List Record) (seen_up_to : ℕ) → Stays (progress_at v pending seen_up_to) (progress_at w pending seen_up_to)
stays v w k pending seen_up_to = stands_by w pending seen_up_to v.mine v.asked v.attempts k.mine k.asked k.attempts

-- a reply that is no fault of a read adds none
none_more : (v w : Account) (more : List ℕ) → more ≡ [] → w.read_faults ≡ v.read_faults → w.read_faults ≡ v.read_faults ++ more
none_more v w more none same = same ∙ (sym (append-nil v.read_faults) ∙ ap (λ ns. v.read_faults ++ ns) (sym none))

no_more : (v w : Account) → w.read_faults ≡ v.read_faults → w.read_faults ≡ v.read_faults ++ []
no_more v w same = none_more v w [] refl same

-- a step, from the replies that may come
goes_by : (settings : Settings) (v : Account) (before : List Record) (command : Command) (reply : Reply) (w : Account) (after : List Record) → w.number ≡ v.number → w.read_faults ≡ v.read_faults ++ read_fault_of reply → Sees v.seen w.seen → KnowsOwnTokens w
    → ((shown : ℕ) → shown ≤ last_seen v.seen → (seen_up_to : ℕ) × (seen_up_to ≤ last_seen w.seen)
    × InEachTrace w.seen (λ trace. Replies settings trace v.number (progress_at v before shown) command reply (progress_at w after seen_up_to)))
    → Goes settings v before command reply w after
goes_by settings v before command reply w after number faults seen tokens right = record {
  number = number;
  read_faults = faults;
  seen = seen;
  tokens = tokens;
  step = λ shown low. (
      let r = right shown low in (
        r.0,
        r.1,
        λ trace is_history saw. record {
          replies = r.2 trace is_history saw;
          rises = prefix_length v.seen.controller_calls w.seen.controller_calls seen.controller_calls;
          within = prefix_length w.seen.controller_calls trace.controller_calls saw.controller_calls;
          tokens = known_tokens trace saw ∙ ap (λ n. tokens_of n w.seen.controller_calls) (sym number) ∙ tokens;
          logs_rise = seen.logged;
          logs_within = saw.logged;
        },
      ));
}
  where
    -- what the client knows of the controller is what it has seen of it
    known_tokens : (trace : Trace) → Saw w.seen trace → tokens_of v.number (take (length w.seen.controller_calls) trace.controller_calls) ≡ tokens_of v.number w.seen.controller_calls
    known_tokens trace saw = ap (tokens_of v.number) (prefix_take w.seen.controller_calls trace.controller_calls saw.controller_calls (length w.seen.controller_calls) (omega arith) ∙ take-length w.seen.controller_calls)

-- what holds of all elements holds of the last one
at_end : {A : Type 0} (P : A → Type 0) (xs : List A) (x : A) → AllByRecursion P (xs ++ x ∷ []) → P x
at_end P [] x all = all.0
at_end P (y ∷ xs) x all = at_end P xs x all.1

-- one of the trace's calls wrote the batch
logged_by : (v w : Account) (records : List Record) (sync : Bool) (first : ℕ) → IsLogged v w records sync first → (trace : Trace) → Saw w.seen trace → IsLoggedBy trace.log_calls v.seen.logged w.seen.logged first records sync
logged_by v w records sync first is trace saw = at_end (WasLogged trace.log_calls) v.seen.batches _ (subst (AllByRecursion (WasLogged trace.log_calls)) is saw.batches)

-- calls that say all that was seen say no less than what the client was shown
said_at_least_shown : (shown : ℕ) (xs ys : List ControllerCall) → IsPrefix xs ys → (place seen : ℕ) → shown ≤ seen → place < length xs → seen ≤ said_in (take (place + 1) xs) → shown ≤ said_in (take (place + 1) ys)
said_at_least_shown shown xs ys p place seen low within said = said_same xs ys p place shown within (omega (arith, low, said))

module _ (settings : Settings) (v : Account) (pending : List Record) where
  pub goes_add : (r : Record) → KnowsOwnTokens v → Goes settings v pending (add r) quiet v (pending ++ r ∷ [])
  goes_add r tokens = goes_by settings v pending (add r) quiet v (pending ++ r ∷ []) refl (sym (append-nil v.read_faults)) (sees_self v.seen) tokens (λ shown low. (shown, low, λ trace is_history saw. refl))

  pub goes_clear : KnowsOwnTokens v → Goes settings v pending clear quiet v []
  goes_clear tokens = goes_by settings v pending clear quiet v [] refl (sym (append-nil v.read_faults)) (sees_self v.seen) tokens (λ shown low. (shown, low, λ trace is_history saw. refl))

  -- a commit that may be refused at once: `early` is that refusal, if there is one
  abbrev Committed : Trace → WriteOptions → Reply → Progress → Progress → Option Refusal → Type 0
  Committed trace how reply p q early = MatchOption early (IsAttempted trace v.number p how reply q) (λ why. (reply ≡ refused why) × Stays p q)

  pub goes_accepted : (how : WriteOptions) (first last group_last : ℕ) (w : Account) → last + 1 ≡ first + count_of pending → Wrote settings v pending how first group_last w
      → Goes settings v pending (commit how) (accepted first last pending) w []
  goes_accepted how first last group_last w run wrote =
      let rises = last_rises v.seen w.seen wrote.seen in
      goes_by settings v pending (commit how) (accepted first last pending) w [] wrote.number (no_more v w wrote.read_faults) wrote.seen wrote.tokens (λ shown low. (
        max shown last,
        (let b = wrote.within in let c = wrote.reached in omega (arith, rises, low, b, c, run)),
        λ trace is_history saw. subst (Committed trace how (accepted first last pending) (progress_at v pending shown) (progress_at w [] (max shown last))) (sym wrote.passed) (record {
          batch = refl;
          run = run;
          above = (let a = wrote.above in omega (arith, low, a));
          behind = wrote.behind;
          alive = wrote.alive;
          free = wrote.free;
          place = wrote.place;
          decided = wrote.decided;
          asked = wrote.within_call;
          said = said_at_least_shown shown w.seen.controller_calls trace.controller_calls saw.controller_calls wrote.place (last_seen v.seen) low (let seen = wrote.within_call.1 in let known = wrote.within_call.2 in omega (arith, seen, known)) wrote.said;
          unseen = unseen_in w.seen.controller_calls trace.controller_calls saw.controller_calls wrote.decided first wrote.within_call.2 wrote.unseen;
          logged = λ to_log. logged_by v w pending how.sync first (wrote.logged to_log) trace saw;
          after = stands_by w [] (max shown last) _ _ _ wrote.mine wrote.asked wrote.attempts;
        }),
      ))

  pub goes_refused : (how : WriteOptions) (why : Refusal) (w : Account) → (why ≡ NoMemory → ⊥) → Refuses settings v pending how why w → Goes settings v pending (commit how) (refused why) w pending
  goes_refused how why w other refuses = by_check (early_refusal settings.families settings.batch_bytes (holds_stop v.asked) pending how) refl refuses
    where
      by_check : (o : Option Refusal) → early_refusal settings.families settings.batch_bytes (holds_stop v.asked) pending how ≡ o
          → MatchOption o (((why ≡ NoMemory) × Keeps v w) ⊎ IsRefused v pending how why w) (λ (early : Refusal). (why ≡ early) × Keeps v w) → Goes settings v pending (commit how) (refused why) w pending
      by_check None e (inl short) = absurd (other short.0)
      by_check None e (inr r) =
          let rises = last_rises v.seen w.seen r.seen in
          goes_by settings v pending (commit how) (refused why) w pending r.number (no_more v w r.read_faults) r.seen r.tokens (λ shown low. (
            shown,
            omega (arith, rises, low),
            λ trace is_history saw. subst (Committed trace how (refused why) (progress_at v pending shown) (progress_at w pending shown)) (sym e) (
              r.fate,
              refuse_in w.seen.controller_calls trace.controller_calls saw.controller_calls v.number (progress_at v pending (last_seen v.seen)) shown (length w.seen.controller_calls) low how why r.fate r.may,
              stands_by w pending shown _ _ _ r.mine r.asked r.attempts,
              r.kept_out,
              went_in w.seen.controller_calls trace.controller_calls saw.controller_calls (length v.seen.controller_calls) (length w.seen.controller_calls) shown (last_seen v.seen) low (omega arith) r.fate r.in_group,
            ),
          ))
      by_check (Some early) e s =
          let rises = last_rises v.seen w.seen s.1.seen in
          goes_by settings v pending (commit how) (refused why) w pending s.1.number (no_more v w s.1.read_faults) s.1.seen s.1.tokens (λ shown low. (
            shown,
            omega (arith, rises, low),
            λ trace is_history saw. subst (Committed trace how (refused why) (progress_at v pending shown) (progress_at w pending shown)) (sym e) (ap refused s.0, stays v w s.1 pending shown),
          ))

  -- a read's answer is that of what the client has now seen published
  reads_end : (w : Account) (at : ℕ) (answers : Pairs → Type 0) → Keeps v w → Reads at answers w → (shown : ℕ) → shown ≤ last_seen v.seen
      → InEachTrace w.seen (λ trace. ReadsAt trace (progress_at v pending shown) at answers (progress_at w pending at))
  reads_end w at answers k r shown low trace is_history saw = record {
    front = saw.entries;
    is_front = record { rest = saw.begins.0; split = sym saw.begins.1; ends = r.at_is ∙ seen_ends w.seen trace is_history saw };
    not_below = (let rises = last_rises v.seen w.seen k.seen in let is = r.at_is in omega (arith, rises, low, is));
    answer = subst answers (seen_map w.seen trace is_history saw) r.answer;
    after = stands_by w pending at _ _ _ k.mine k.asked k.attempts;
  }

  -- a read, whose answer makes this reply
  read_on : (c : Command) (reply : Reply) (w : Account) (at : ℕ) (answers : Pairs → Type 0) → read_fault_of reply ≡ [] → Keeps v w → Reads at answers w
      → ((trace : Trace) (shown : ℕ) → ReadsAt trace (progress_at v pending shown) at answers (progress_at w pending at) → Replies settings trace v.number (progress_at v pending shown) c reply (progress_at w pending at))
      → Goes settings v pending c reply w pending
  read_on c reply w at answers none k r right = goes_by settings v pending c reply w pending k.number (none_more v w (read_fault_of reply) none k.read_faults) k.seen k.tokens (λ shown low. (
    at,
    (let is = r.at_is in omega (arith, is)),
    λ trace is_history saw. right trace shown (reads_end w at answers k r shown low trace is_history saw),
  ))

  -- a read of families that are all there, and of one that isn't
  all_there : (named : List ℕ) (p : Progress) (reply : Reply) (q : Progress) (answered : Type 0) → first_missing settings.families named ≡ None → answered → IfThere settings named p reply q answered
  all_there named p reply q answered there is = subst (λ missing. MatchOption missing answered (λ family. (reply ≡ refused (NoFamily family)) × Stays p q)) (sym there) is

  one_missing : (named : List ℕ) (family : ℕ) (p q : Progress) (answered : Type 0) → first_missing settings.families named ≡ Some family → Stays p q → IfThere settings named p (refused (NoFamily family)) q answered
  one_missing named family p q answered missing same = subst (λ m. MatchOption m answered (λ other. (refused (NoFamily family) ≡ refused (NoFamily other)) × Stays p q)) (sym missing) (refl, same)

  pub goes_get : (key : Key) (at : ℕ) (value : Option (List ℕ)) (w : Account) → first_missing settings.families (key.family ∷ []) ≡ None → Keeps v w → Reads at (λ m. value ≡ value_at m key) w → Goes settings v pending (get key) (found at value) w pending
  goes_get key at value w there k r = read_on (get key) (found at value) w at (λ m. value ≡ value_at m key) refl k r
      (λ trace shown h. all_there (key.family ∷ []) (progress_at v pending shown) (found at value) (progress_at w pending at) (Gets trace (progress_at v pending shown) key (found at value) (progress_at w pending at)) there h)

  pub goes_many : (keys : List Key) (at : ℕ) (values : List (Option (List ℕ))) (w : Account) → first_missing settings.families (map (λ (x : Key). x.family) keys) ≡ None → Keeps v w → Reads at (λ m. values ≡ map (value_at m) keys) w → Goes settings v pending (many keys) (found_each at values) w pending
  goes_many keys at values w there k r = read_on (many keys) (found_each at values) w at (λ m. values ≡ map (value_at m) keys) refl k r
      (λ trace shown h. all_there (map (λ (x : Key). x.family) keys) (progress_at v pending shown) (found_each at values) (progress_at w pending at) (GetsMany trace (progress_at v pending shown) keys (found_each at values) (progress_at w pending at)) there h)

  pub goes_scan : (family : ℕ) (lo hi : List ℕ) (at : ℕ) (pairs : Rows) (w : Account) → first_missing settings.families (family ∷ []) ≡ None → Keeps v w → Reads at (λ m. pairs ≡ rows_within family lo hi m) w → Goes settings v pending (scan family lo hi) (rows at pairs) w pending
  goes_scan family lo hi at pairs w there k r = read_on (scan family lo hi) (rows at pairs) w at (λ m. pairs ≡ rows_within family lo hi m) refl k r
      (λ trace shown h. all_there (family ∷ []) (progress_at v pending shown) (rows at pairs) (progress_at w pending at) (Scans trace (progress_at v pending shown) family lo hi (rows at pairs) (progress_at w pending at)) there h)

  -- a read that is refused changes nothing, and shows nothing more
  read_refused : (c : Command) (named : List ℕ) (family : ℕ) (w : Account) (answered : Trace → Progress → Progress → Type 0) → first_missing settings.families named ≡ Some family → Keeps v w
      → ((trace : Trace) (p q : Progress) → IfThere settings named p (refused (NoFamily family)) q (answered trace p q) → Replies settings trace v.number p c (refused (NoFamily family)) q)
      → Goes settings v pending c (refused (NoFamily family)) w pending
  read_refused c named family w answered missing k right = goes_by settings v pending c (refused (NoFamily family)) w pending k.number (no_more v w k.read_faults) k.seen k.tokens (λ shown low. (
    shown,
    (let rises = last_rises v.seen w.seen k.seen in omega (arith, rises, low)),
    λ trace is_history saw. right trace (progress_at v pending shown) (progress_at w pending shown)
        (one_missing named family (progress_at v pending shown) (progress_at w pending shown) (answered trace (progress_at v pending shown) (progress_at w pending shown)) missing (stays v w k pending shown)),
  ))

  pub goes_get_refused : (key : Key) (family : ℕ) (w : Account) → first_missing settings.families (key.family ∷ []) ≡ Some family → Keeps v w → Goes settings v pending (get key) (refused (NoFamily family)) w pending
  goes_get_refused key family w missing k = read_refused (get key) (key.family ∷ []) family w (λ trace p q. Gets trace p key (refused (NoFamily family)) q) missing k (λ trace p q s. s)

  pub goes_many_refused : (keys : List Key) (family : ℕ) (w : Account) → first_missing settings.families (map (λ (x : Key). x.family) keys) ≡ Some family → Keeps v w → Goes settings v pending (many keys) (refused (NoFamily family)) w pending
  goes_many_refused keys family w missing k = read_refused (many keys) (map (λ (x : Key). x.family) keys) family w (λ trace p q. GetsMany trace p keys (refused (NoFamily family)) q) missing k (λ trace p q s. s)

  pub goes_scan_refused : (named : ℕ) (lo hi : List ℕ) (family : ℕ) (w : Account) → first_missing settings.families (named ∷ []) ≡ Some family → Keeps v w → Goes settings v pending (scan named lo hi) (refused (NoFamily family)) w pending
  goes_scan_refused named lo hi family w missing k = read_refused (scan named lo hi) (named ∷ []) family w (λ trace p q. Scans trace p named lo hi (refused (NoFamily family)) q) missing k (λ trace p q s. s)

  -- a call of the controller that was answered `done`; then the client has heard up to which sequence it is shown what is
  -- published
  asks_done : (a : Action) (w : Account) (k : Asks v a w) → (shown : ℕ) → shown ≤ last_seen v.seen → InEachTrace w.seen (λ trace. IsDone trace v.number (progress_at v pending shown) a (progress_at w pending (max shown k.most)))
  asks_done a w k shown low trace is_history saw =
      let within : k.heard_at < length w.seen.controller_calls = elim (slice_get_cases w.seen.controller_calls k.heard_at).1 [
        | inl there ↦ there.1
        | inr gone ↦ absurd (cc (k.hears.there, gone.1))
      ] in
      let later = k.hears.later in let had = k.had in record {
        place = k.place;
        is_later = later_in w.seen.controller_calls trace.controller_calls saw.controller_calls (length v.seen.controller_calls) k.place _ k.is_later;
        had = omega (arith, low, had);
        said = said_at_least_shown shown w.seen.controller_calls trace.controller_calls saw.controller_calls k.place (last_seen v.seen) low (omega (arith, later, within)) k.said;
        heard_at = k.heard_at;
        most = k.most;
        hears = later_in w.seen.controller_calls trace.controller_calls saw.controller_calls (k.place + 1) k.heard_at _ k.hears;
        known = within;
        after = stands_by w pending (max shown k.most) _ _ _ k.mine k.asked k.attempts;
      }

  -- the client called the controller
  done_on : (c : Command) (a : Action) (w : Account) → read_fault_of done ≡ [] → (k : Asks v a w)
      → ((trace : Trace) (p q : Progress) → IsDone trace v.number p a q → p.asked ≡ v.asked → Replies settings trace v.number p c done q) → Goes settings v pending c done w pending
  done_on c a w none k right = goes_by settings v pending c done w pending k.number (none_more v w (read_fault_of done) none k.read_faults) k.seen k.tokens (λ shown low. (
    max shown k.most,
    (let rises = last_rises v.seen w.seen k.seen in let reached = k.reached in omega (arith, rises, low, reached)),
    λ trace is_history saw. right trace (progress_at v pending shown) (progress_at w pending (max shown k.most)) (asks_done a w k shown low trace is_history saw) refl,
  ))

  -- the client changed nothing, and was shown no more
  asked_on : (c : Command) (r : Reply) (w : Account) → w.number ≡ v.number → w.read_faults ≡ v.read_faults ++ read_fault_of r → Sees v.seen w.seen → KnowsOwnTokens w
      → ((shown : ℕ) → shown ≤ last_seen v.seen → InEachTrace w.seen (λ trace. Replies settings trace v.number (progress_at v pending shown) c r (progress_at w pending shown))) → Goes settings v pending c r w pending
  asked_on c r w number faults seen tokens right = goes_by settings v pending c r w pending number faults seen tokens (λ shown low. (shown, (let rises = last_rises v.seen w.seen seen in omega (arith, rises, low)), right shown low))

  pub goes_stop : (w : Account) (shown : ℕ) → holds_stop v.asked ≡ false → Asks v (controller.stop shown) w → Goes settings v pending stop done w pending
  goes_stop w said h k = done_on stop (controller.stop said) w refl k (λ trace p q is same. (subst (λ (l : List Action). holds_stop l ≡ false) (sym same) h, said, is))

  pub goes_stop_held : (w : Account) → holds_stop v.asked ≡ true → Keeps v w → Goes settings v pending stop held w pending
  goes_stop_held w h k = asked_on stop held w k.number (no_more v w k.read_faults) k.seen k.tokens (λ shown low trace is_history saw. (h, stays v w k pending shown))

  pub goes_unstop : (w : Account) (shown : ℕ) → holds_stop v.asked ≡ true → Asks v (controller.unstop shown) w → Goes settings v pending unstop done w pending
  goes_unstop w said h k = done_on unstop (controller.unstop said) w refl k (λ trace p q is same. (subst (λ (l : List Action). holds_stop l ≡ true) (sym same) h, said, is))

  pub goes_unstop_not_held : (w : Account) → holds_stop v.asked ≡ false → Keeps v w → Goes settings v pending unstop not_held w pending
  goes_unstop_not_held w h k = asked_on unstop not_held w k.number (no_more v w k.read_faults) k.seen k.tokens (λ shown low trace is_history saw. (h, stays v w k pending shown))

  pub goes_slow : (rate : ℕ) (w : Account) (shown : ℕ) → holds_slow v.asked ≡ false → Asks v (controller.slow rate shown) w → Goes settings v pending (slow rate) done w pending
  goes_slow rate w said h k = done_on (slow rate) (controller.slow rate said) w refl k (λ trace p q is same. (subst (λ (l : List Action). holds_slow l ≡ false) (sym same) h, said, is))

  pub goes_slow_held : (rate : ℕ) (w : Account) → holds_slow v.asked ≡ true → Keeps v w → Goes settings v pending (slow rate) held w pending
  goes_slow_held rate w h k = asked_on (slow rate) held w k.number (no_more v w k.read_faults) k.seen k.tokens (λ shown low trace is_history saw. (h, stays v w k pending shown))

  pub goes_unslow : (w : Account) (shown : ℕ) → holds_slow v.asked ≡ true → Asks v (controller.unslow shown) w → Goes settings v pending unslow done w pending
  goes_unslow w said h k = done_on unslow (controller.unslow said) w refl k (λ trace p q is same. (subst (λ (l : List Action). holds_slow l ≡ true) (sym same) h, said, is))

  pub goes_unslow_not_held : (w : Account) → holds_slow v.asked ≡ false → Keeps v w → Goes settings v pending unslow not_held w pending
  goes_unslow_not_held w h k = asked_on unslow not_held w k.number (no_more v w k.read_faults) k.seen k.tokens (λ shown low trace is_history saw. (h, stays v w k pending shown))

  -- A read of the log

  pub goes_updates : (s at : ℕ) (records : List (List ℕ)) (w : Account) → holds_stop v.asked ≡ false → ReadsLog v s at records w → Goes settings v pending (updates s) (updates_found at records) w pending
  goes_updates s at records w free k = goes_by settings v pending (updates s) (updates_found at records) w pending k.number (no_more v w k.read_faults) k.seen k.tokens (λ shown low. (
    at,
    (let is = k.at_is in omega (arith, is)),
    λ trace is_history saw. (
      free,
      record {
        reads = record {
          front = saw.entries;
          is_front = record { rest = saw.begins.0; split = sym saw.begins.1; ends = k.at_is ∙ seen_ends w.seen trace is_history saw };
          not_below = (let rises = last_rises v.seen w.seen k.seen in let is = k.at_is in omega (arith, rises, low, is));
          answer = tt;
          after = stands_by w pending at _ _ _ k.mine k.asked k.attempts;
        };
        right = at_end (IsLogRead trace) v.seen.log_reads (record { since = s; at = at; records = records }) (subst (AllByRecursion (IsLogRead trace)) k.read saw.log_reads);
      },
    ),
  ))

  pub goes_read_failed : (s count : ℕ) (w : Account) → holds_stop v.asked ≡ false → FailsToRead settings v count w → Goes settings v pending (updates s) (read_failed count) w pending
  goes_read_failed s count w free k =
      asked_on (updates s) (read_failed count) w k.number k.read_faults k.seen k.tokens (λ shown low trace is_history saw. (free, k.rose, stands_by w pending shown _ _ _ k.mine k.asked k.attempts))

  pub goes_updates_refused : (s : ℕ) (w : Account) → holds_stop v.asked ≡ true → Keeps v w → Goes settings v pending (updates s) (refused SelfStop) w pending
  goes_updates_refused s w h k = asked_on (updates s) (refused SelfStop) w k.number (no_more v w k.read_faults) k.seen k.tokens (λ shown low trace is_history saw. (refl, h, stays v w k pending shown))

  pub lacks_updates : (s : ℕ) (w : Account) → holds_stop v.asked ≡ false → Keeps v w → Lacks settings v pending (updates s) w
  lacks_updates s w free k = record { keeps = k; may = λ shown. free }

-- a commit finds no memory only after the early checks, and that changes nothing

none_is_memory : (b : Bool) (x y : Option Refusal) → (x ≡ Some NoMemory → ⊥) → (y ≡ Some NoMemory → ⊥) → (if b then x else y) ≡ Some NoMemory → ⊥
none_is_memory true x y p q e = p e
none_is_memory false x y p q e = q e

family_is_other : (missing : Option ℕ) (x : Option Refusal) → (x ≡ Some NoMemory → ⊥) → option_map_or (λ family. Some (NoFamily family)) missing x ≡ Some NoMemory → ⊥
family_is_other None x p e = p e
family_is_other (Some family) x p e = absurd (cc e)

early_is_other : (families batch_bytes : ℕ) (stopping : Bool) (records : List Record) (how : WriteOptions) → early_refusal families batch_bytes stopping records how ≡ Some NoMemory → ⊥
early_is_other families batch_bytes stopping records how =
    let empty : Some Empty ≡ Some NoMemory → ⊥ = λ e. absurd (cc e) in
    let large : Some (TooLarge (size_of_batch records)) ≡ Some NoMemory → ⊥ = λ e. absurd (cc e) in
    let both : Some SyncWithoutLog ≡ Some NoMemory → ⊥ = λ e. absurd (cc e) in
    let self : Some SelfStop ≡ Some NoMemory → ⊥ = λ e. absurd (cc e) in
    let nothing : Option Refusal = None in
    let none : nothing ≡ Some NoMemory → ⊥ = λ e. absurd (cc e) in
    none_is_memory _ _ _ empty (none_is_memory _ _ _ large (none_is_memory _ _ _ both
    (family_is_other (first_missing families (families_in records)) _ (none_is_memory _ _ _ self none))))

lacked : (settings : Settings) (v : Account) (pending : List Record) (how : WriteOptions) (w : Account) → Refuses settings v pending how NoMemory w
    → (early_refusal settings.families settings.batch_bytes (holds_stop v.asked) pending how ≡ None) × Keeps v w
lacked settings v pending how w refuses = by_check (early_refusal settings.families settings.batch_bytes (holds_stop v.asked) pending how) refl refuses
  where
    by_check : (o : Option Refusal) → early_refusal settings.families settings.batch_bytes (holds_stop v.asked) pending how ≡ o
        → MatchOption o (((NoMemory ≡ NoMemory) × Keeps v w) ⊎ IsRefused v pending how NoMemory w) (λ (early : Refusal). (NoMemory ≡ early) × Keeps v w)
        → (early_refusal settings.families settings.batch_bytes (holds_stop v.asked) pending how ≡ None) × Keeps v w
    by_check None e (inl short) = (e, short.1)
    by_check None e (inr r) = absurd r.may
    by_check (Some early) e s = absurd (early_is_other settings.families settings.batch_bytes (holds_stop v.asked) pending how (e ∙ ap Some (sym s.0)))

pub lacks_commit : (settings : Settings) (v : Account) (pending : List Record) (how : WriteOptions) (w : Account) → Refuses settings v pending how NoMemory w → Lacks settings v pending (commit how) w
lacks_commit settings v pending how w refuses = let l = lacked settings v pending how w refuses in record { keeps = l.1; may = λ shown. l.0 }
