-- A client whose seat or pass has seen more, and its account then.
use Rattle.std.proofs.Common.{◌≡◌, ℕ, ◌-◌, ◌≤◌, Bool, true, false, List, [], ◌++◌, Option, None, Result, Ok, Err, IfOk, length, arith, refl, ap, sym, ◌∙◌, subst, append-nil}
use Rattle.std.specs.List.{AllByRecursion}
use mathlib.Core.List.{IsPrefix}
use Rattle.log_writer.specs.declared.group_log.GroupLog.{Ghosts}
use Rattle.model_base.specs.Controller.{ControllerCall, Action, Look, opening, unstop, unslow}
use Rattle.crossbeam_utils.specs.Seq.{cell_view}
use Rattle.model_base.specs.Groups.{is_delay}
use Rattle.model_base.specs.Map.{Pairs}
use Rattle.model_base.specs.Tokens.{tokens_of}
use Rattle.model_base.proofs.Prefixes.{prefix_self}
use Rattle.table_rule.specs.Histories.{Begins, In, last_of, map_after}
use Rattle.table_calls.specs.Account.{Learns}
use Rattle.model_accounts.specs.Accounts.{Keeps, Reads as ReadsAtEnd}
use Rattle.model_accounts.proofs.Seeing.{seen_of_all}
use Rattle.engine_controller.specs.declared.pass.Pass.{Pass}
use Rattle.engine_controller.specs.Delays.{delays_of, place_if}
use Rattle.engine_controller.specs.Passes.{IsPassOf, EndsWith, GoesOn, GivesBack as GivesBackIn, asked_by, seen_by, token_in, client_of as pass_client}
use Rattle.engine_controller.specs.Rule.{seen_in}
use Rattle.engine_controller.proofs.Histories.{legal_from}
use Rattle.engine_controller.proofs.Account.{ends_begins, ends_tokens, goes_begins, goes_tokens}
use Rattle.engine_controller.proofs.Places.{ends_delays, goes_delays}
use Rattle.engine_rule.specs.Asked.{place_of}
use Rattle.engine_rule.specs.Commits.{Commit}
use Rattle.engine_rule.specs.Entries.{SeesMore}
use Rattle.engine_rule.specs.Reading.{reads_in}
use Rattle.engine_groups.specs.Meaning.{Meaning}
use Rattle.engine_groups.specs.declared.engine.GroupEngine.{GroupEngine}
use Rattle.engine_groups.specs.declared.engine.EngineClient.{EngineClient}
use Rattle.engine_groups.specs.Clients.{IsClientOf, IsIdle, map_at_opening, account_in, own_answers, own_commits, told_of}
use Rattle.engine_groups.proofs.Answered.{begins_self, last_later}
use Rattle.engine_groups.proofs.AtEnds.{ends_on}

-- a client that gives back its tokens has seen no less after that, and asked for no delay
pub back_begins : (b : Bool) (client : ℕ) (seen : List ControllerCall) (action : Action) (after : List ControllerCall) → GivesBackIn b client seen action after → IsPrefix seen after
back_begins true client seen action after h = ends_begins client seen action None after h
back_begins false client seen action after h = subst (λ (l : List ControllerCall). IsPrefix seen l) (sym h) (prefix_self seen)

back_no_delays : (b : Bool) (client : ℕ) (seen : List ControllerCall) (action : Action) (after : List ControllerCall) → is_delay action ≡ false → GivesBackIn b client seen action after → delays_of client after ≡ delays_of client seen
back_no_delays true client seen action after still h = ends_delays client seen action None after h ∙ (ap (λ (d : Bool). delays_of client seen ++ place_if d (length after - 1)) still ∙ append-nil (delays_of client seen))
back_no_delays false client seen action after still h = ap (delays_of client) h

-- a pass that learned nothing
pub goes_nowhere : (k : ℕ) (pass : Pass) → GoesOn k (seen_by pass) (seen_by pass)
goes_nowhere k pass = record { between = []; is = sym (append-nil (seen_by pass)); others = tt; legal = legal_from opening (seen_in (cell_view pass.seat)) }

-- its envelope went away, or came back
pub envelope_moved : {D T C G S U P : Type 0} {ghosts : Ghosts D} (meaning : Meaning T S U P) (e : GroupEngine D T C G S U P ghosts) (c : EngineClient D T C S U P ghosts) (envelope : Option (Unit {0})) → IsIdle meaning e c → IsIdle meaning e (record c { envelope = envelope })
envelope_moved meaning e c envelope idle = let s = idle.seated in record {
  seated = record {
    is_engine = s.is_engine;
    writer = s.writer;
    number = s.number;
    seat = s.seat;
    ready = s.ready;
    seat_number = s.seat_number;
    start = s.start;
    table = s.table;
    pass = s.pass;
    pass_number = s.pass_number;
    can_lead = record { lists = s.can_lead.lists; layout = s.can_lead.layout };
  };
  out = idle.out;
  has_asked = idle.has_asked;
}

module _ {D T C G S U P : Type 0} {ghosts : Ghosts D} (meaning : Meaning T S U P) (e : GroupEngine D T C G S U P ghosts) (c : EngineClient D T C S U P ghosts) (fits : IsClientOf meaning e c) where
  -- its seat has seen more
  pub seat_moved : (seat : S) → meaning.ours e.table seat → Learns (meaning.opening e.table).start (meaning.account c.seat) (meaning.account seat) → IsClientOf meaning e (record c { seat = seat })
  seat_moved seat our learns = let s = fits.idle.seated in record {
    idle = record {
      seated = record {
        is_engine = s.is_engine;
        writer = s.writer;
        number = s.number;
        seat = our;
        ready = record { idle = learns.stage ∙ s.ready.idle; none_launched = learns.launched ∙ s.ready.none_launched };
        seat_number = learns.number ∙ s.seat_number;
        start = s.start;
        table = s.table;
        pass = s.pass;
        pass_number = s.pass_number;
        can_lead = record { lists = s.can_lead.lists; layout = s.can_lead.layout };
      };
      out = fits.idle.out;
      has_asked = fits.idle.has_asked;
    };
    at_ends = ends_on (meaning.opening e.table).start (meaning.account c.seat).seen (meaning.account seat).seen (reads_in (own_answers (told_of c))) learns.seen fits.at_ends;
    envelope = fits.envelope;
  }

  pub seat_keeps : (seat : S) → Begins (meaning.account c.seat).seen (meaning.account seat).seen → Keeps (account_in meaning c) (account_in meaning (record c { seat = seat }))
  seat_keeps seat seen = record {
    number = refl;
    mine = refl;
    ends = refl;
    asked = refl;
    attempts = refl;
    read_faults = refl;
    seen = record { start = refl; opening = refl; published = seen; controller_calls = prefix_self (seen_by c.pass); log_reads = prefix_self _; logged = omega arith; batches = prefix_self _ };
    tokens = refl;
  }

  -- what the seat read is true as of the end of what the client has seen
  pub seat_reads : {A B : Type 0} (r : Result A B) (at : A → ℕ) (answers : A → Pairs → Type 0) (seat : S) → IfOk r (λ x. at x ≡ last_of (meaning.opening e.table).start (meaning.account seat).seen)
      → IfOk r (λ x. answers x (map_after (meaning.opening e.table).base (meaning.account seat).seen)) → IfOk r (λ x. ReadsAtEnd (at x) (answers x) (account_in meaning (record c { seat = seat })))
  seat_reads (Ok x) at answers seat is answer = record {
    at_is = is ∙ ap (λ (start : ℕ). last_of start (meaning.account seat).seen) (sym fits.idle.seated.start);
    answer = subst (answers x) (seen_of_all (account_in meaning (record c { seat = seat })).seen (meaning.opening e.table).base (ap (map_at_opening meaning) fits.idle.seated.table)) answer;
  }
  seat_reads (Err x) at answers seat is answer = tt

  -- its pass has seen more, with no delay of its own
  pub pass_moved : (pass : Pass) → IsPassOf e.controller pass → pass_client pass ≡ pass_client c.pass → delays_of c.number (seen_by pass) ≡ delays_of c.number (seen_by c.pass) → IsClientOf meaning e (record c { pass = pass })
  pass_moved pass own same delays = let s = fits.idle.seated in record {
    idle = record {
      seated = record {
        is_engine = s.is_engine;
        writer = s.writer;
        number = s.number;
        seat = s.seat;
        ready = s.ready;
        seat_number = s.seat_number;
        start = s.start;
        table = s.table;
        pass = own;
        pass_number = same ∙ s.pass_number;
        can_lead = record { lists = s.can_lead.lists; layout = s.can_lead.layout };
      };
      out = fits.idle.out;
      has_asked = subst (AllByRecursion (λ (place : ℕ). (x : Commit) × In x (own_commits c.number (told_of c)) × (place_of x ≡ place))) (sym delays) fits.idle.has_asked;
    };
    at_ends = fits.at_ends;
    envelope = fits.envelope;
  }

  -- the tokens, by the client's number
  pub same_tokens : asked_by c.pass ≡ tokens_of c.number (seen_by c.pass)
  same_tokens = ap (λ (k : ℕ). tokens_of k (seen_by c.pass)) fits.idle.seated.pass_number

  -- what its seat found is no less than what the client had seen before
  pub seen_before : (seat : S) (shown : ℕ) → Begins (meaning.account c.seat).seen (meaning.account seat).seen → shown ≡ last_of (meaning.opening e.table).start (meaning.account seat).seen
      → last_of c.start (meaning.account c.seat).seen ≤ shown
  seen_before seat shown more is =
      let later = last_later (meaning.opening e.table).start (meaning.account c.seat).seen (meaning.account seat).seen more in
      let same = ap (λ (n : ℕ). last_of n (meaning.account c.seat).seen) fits.idle.seated.start in
      omega (arith, later, same, is)

  -- it saw nothing new of the controller and asked for nothing
  pub pass_keeps : (pass : Pass) → seen_by pass ≡ seen_by c.pass → Keeps (account_in meaning c) (account_in meaning (record c { pass = pass }))
  pass_keeps pass same = record {
    number = refl;
    mine = refl;
    ends = refl;
    asked = ap (tokens_of c.number) same;
    attempts = refl;
    read_faults = refl;
    seen = record { start = refl; opening = refl; published = begins_self (meaning.account c.seat).seen; controller_calls = subst (IsPrefix (seen_by c.pass)) (sym same) (prefix_self (seen_by c.pass)); log_reads = prefix_self _; logged = omega arith; batches = prefix_self _ };
    tokens = refl;
  }

  -- it made a call that isn't a delay
  no_delays : (pass : Pass) (action : Action) (told : Option Look) → EndsWith (pass_client c.pass) (seen_by c.pass) action told (seen_by pass) → is_delay action ≡ false → delays_of c.number (seen_by pass) ≡ delays_of c.number (seen_by c.pass)
  no_delays pass action told ends still =
      let own = subst (λ (k : ℕ). EndsWith k (seen_by c.pass) action told (seen_by pass)) fits.idle.seated.pass_number ends in
      ends_delays c.number (seen_by c.pass) action told (seen_by pass) own ∙ (ap (λ (b : Bool). delays_of c.number (seen_by c.pass) ++ place_if b (length (seen_by pass) - 1)) still ∙ append-nil (delays_of c.number (seen_by c.pass)))

  -- it made such a call, and is a client of the engine still
  pub call_moved : (pass : Pass) (action : Action) (told : Option Look) → IsPassOf e.controller pass → pass_client pass ≡ pass_client c.pass → EndsWith (pass_client c.pass) (seen_by c.pass) action told (seen_by pass) → is_delay action ≡ false
      → IsClientOf meaning e (record c { pass = pass })
  call_moved pass action told own same ends still = pass_moved pass own same (no_delays pass action told ends still)

  -- the call took no token and gave none back, and its seat has seen more
  pub call_keeps : (seat : S) → Begins (meaning.account c.seat).seen (meaning.account seat).seen → (pass : Pass) (action : Action) (told : Option Look) → EndsWith (pass_client c.pass) (seen_by c.pass) action told (seen_by pass) → token_in action ≡ []
      → Keeps (account_in meaning c) (account_in meaning (record c { seat = seat; pass = pass }))
  call_keeps seat more pass action told ends none =
      let own = subst (λ (k : ℕ). EndsWith k (seen_by c.pass) action told (seen_by pass)) fits.idle.seated.pass_number ends in record {
        number = refl;
        mine = refl;
        ends = refl;
        asked = ends_tokens c.number (seen_by c.pass) action told (seen_by pass) own ∙ (ap (λ (l : List Action). tokens_of c.number (seen_by c.pass) ++ l) none ∙ append-nil (tokens_of c.number (seen_by c.pass)));
        attempts = refl;
        read_faults = refl;
        seen = record { start = refl; opening = refl; published = more; controller_calls = ends_begins c.number (seen_by c.pass) action told (seen_by pass) own; log_reads = prefix_self _; logged = omega arith; batches = prefix_self _ };
        tokens = refl;
      }

  -- it gave back what it held
  module _ (shown : ℕ) (pass : Pass) (middle : List ControllerCall) (a b : Bool) (first : GivesBackIn a (pass_client c.pass) (seen_by c.pass) (unstop shown) middle) (second : GivesBackIn b (pass_client c.pass) middle (unslow shown) (seen_by pass)) where
    back_delays : (k : ℕ) → k ≡ c.number → GivesBackIn a k (seen_by c.pass) (unstop shown) middle → GivesBackIn b k middle (unslow shown) (seen_by pass) → delays_of c.number (seen_by pass) ≡ delays_of c.number (seen_by c.pass)
    back_delays k is f s = subst (λ (n : ℕ). delays_of n (seen_by pass) ≡ delays_of n (seen_by c.pass)) is
        (back_no_delays b k middle (unslow shown) (seen_by pass) refl s ∙ back_no_delays a k (seen_by c.pass) (unstop shown) middle refl f)

    pub end_moved : IsPassOf e.controller pass → pass_client pass ≡ pass_client c.pass → IsClientOf meaning e (record c { pass = pass })
    end_moved own same = pass_moved pass own same (back_delays (pass_client c.pass) fits.idle.seated.pass_number first second)

  -- its pass has seen more of others' calls
  module _ (pass : Pass) (goes : GoesOn (pass_client c.pass) (seen_by c.pass) (seen_by pass)) where
    pub goes_own : GoesOn c.number (seen_by c.pass) (seen_by pass)
    goes_own = subst (λ (k : ℕ). GoesOn k (seen_by c.pass) (seen_by pass)) fits.idle.seated.pass_number goes

    pub learn_moved : IsPassOf e.controller pass → pass_client pass ≡ pass_client c.pass → IsClientOf meaning e (record c { pass = pass })
    learn_moved own same = pass_moved pass own same (goes_delays c.number (seen_by c.pass) (seen_by pass) goes_own)

    pub learn_sees : SeesMore c.number (seen_by c.pass) (seen_by pass)
    learn_sees = record { begins = goes_begins c.number (seen_by c.pass) (seen_by pass) goes_own; tokens = goes_tokens c.number (seen_by c.pass) (seen_by pass) goes_own }
