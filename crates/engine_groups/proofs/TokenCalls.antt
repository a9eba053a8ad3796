-- A client's call that takes a token or gives one back: before it the client says what it has seen published, and after
-- it the client hears what was said. At its end it says so too, and then gives back what it holds.
use Rattle.std.specs.Prelude.{if◌then◌else◌}
use Rattle.std.specs.List.{AllByRecursion}
use Rattle.std.proofs.Common.{◌≡◌, ℕ, ◌+◌, ◌≤◌, Bool, true, false, List, [], ◌∷◌, ◌++◌, None, Result, Ok, Err, OnErr, take, length, arith, refl, ap, sym, ◌∙◌, subst}
use Rattle.std.proofs.Math.Seq.{take-length}
use mathlib.Core.List.{IsPrefix}
use Rattle.log_writer.specs.declared.group_log.GroupLog.{Ghosts}
use Rattle.model_base.specs.Controller.{ControllerCall, Action, unstop, unslow, say, hear}
use Rattle.model_base.specs.Tokens.{tokens_of, holds_stop, holds_slow, given_back, shown_by_token, said_in}
use Rattle.model_base.specs.Replies.{IsGivenBack}
use Rattle.model_base.proofs.Prefixes.{prefix_at, prefix_length, prefix_self, prefix_take, prefix_trans}
use Rattle.model_base.proofs.Shown.{said_in_fewer}
use Rattle.model_accounts.specs.Accounts.{Account, Asks, GivesBack, Keeps}
use Rattle.model_accounts.specs.Sights.{Sees, last_seen}
use Rattle.model_accounts.proofs.Seeing.{last_rises, sees_on}
use Rattle.engine_controller.specs.declared.pass.Pass.{Pass}
use Rattle.engine_controller.specs.Passes.{EndsWith, GivesBack as GivesBackIn, IsLast, asked_by, seen_by, token_in, client_of as pass_client}
use Rattle.engine_controller.proofs.Account.{ends_begins, ends_last, ends_tokens}
use Rattle.engine_parts.proofs.Saying.{said_last}
use Rattle.engine_groups.specs.Meaning.{Meaning}
use Rattle.engine_groups.specs.declared.engine.GroupEngine.{GroupEngine}
use Rattle.engine_groups.specs.declared.engine.EngineClient.{EngineClient}
use Rattle.engine_groups.specs.Clients.{IsClientOf, account_in}
use Rattle.engine_groups.proofs.Answered.{begins_self}
use Rattle.engine_groups.proofs.ClientMoves.{back_begins, pass_keeps, same_tokens}

-- what holds anyway holds where the call was refused
on_err : {A B P : Type 0} (r : Result A B) → P → OnErr r P
on_err (Ok x) p = tt
on_err (Err e) p = p

keeps_on : (u v w : Account) → Keeps u v → Keeps v w → Keeps u w
keeps_on u v w a b = record {
  number = b.number ∙ a.number;
  mine = b.mine ∙ a.mine;
  ends = b.ends ∙ a.ends;
  asked = b.asked ∙ a.asked;
  attempts = b.attempts ∙ a.attempts;
  read_faults = b.read_faults ∙ a.read_faults;
  seen = sees_on u.seen v.seen w.seen a.seen b.seen;
  tokens = b.tokens;
}

-- A token is given back after `said`, which a client that knew of `known` has seen then.
gave_one : (client seen : ℕ) (known said before after all : List ControllerCall) (action : Action) → IsPrefix known said → seen ≤ said_in said → IsPrefix said before → EndsWith client before action None after → IsPrefix after all
    → IsGivenBack all client (length known) seen action
gave_one client seen known said before after all action more low since ends rest =
    let called = ends_last client before action None after ends in
    let later = called.is_later.later in let few = prefix_length known said more in let fewer = prefix_length said before since in
    let front : IsPrefix said all = prefix_trans said after all (prefix_trans said before after since (ends_begins client before action None after ends)) rest in
    let first : take (length said) all ≡ said = prefix_take said all front (length said) (omega arith) ∙ take-length said in
    let is : said_in (take (length said) all) ≡ said_in said = ap said_in first in
    let less = said_in_fewer 0 all (length said) (called.place + 1) (omega (arith, fewer, later)) in
    record {
      place = called.place;
      is_later = record { later = omega (arith, few, fewer, later); there = prefix_at after all rest called.place _ called.is_later.there };
      said = omega (arith, low, is, less);
    }

-- so are all tokens that a client holds at its end
gave_both : (client seen shown : ℕ) (known said middle all : List ControllerCall) → IsPrefix known said → seen ≤ said_in said → (a b : Bool) → GivesBackIn a client said (unstop shown) middle → GivesBackIn b client middle (unslow shown) all
    → AllByRecursion (IsGivenBack all client (length known) seen) ((if a then unstop shown ∷ [] else []) ++ (if b then unslow shown ∷ [] else []))
gave_both client seen shown known said middle all more low true true first second = (
  gave_one client seen known said said middle all (unstop shown) more low (prefix_self said) first (ends_begins client middle (unslow shown) None all second),
  (gave_one client seen known said middle all all (unslow shown) more low (ends_begins client said (unstop shown) None middle first) second (prefix_self all), tt),
)
gave_both client seen shown known said middle all more low true false first second =
    (gave_one client seen known said said middle all (unstop shown) more low (prefix_self said) first (subst (IsPrefix middle) (sym second) (prefix_self middle)), tt)
gave_both client seen shown known said middle all more low false true first second =
    (gave_one client seen known said middle all all (unslow shown) more low (subst (IsPrefix said) (sym first) (prefix_self said)) second (prefix_self all), tt)
gave_both client seen shown known said middle all more low false false first second = tt

-- The client is `u` before the call. It is `v` once it has said what it had seen, with the number `shown`.
module _ {D T C G S U P : Type 0} {ghosts : Ghosts D} (meaning : Meaning T S U P) (e : GroupEngine D T C G S U P ghosts) (u v : EngineClient D T C S U P ghosts) (before : Keeps (account_in meaning u) (account_in meaning v)) (fits : IsClientOf meaning e v) where
  -- whether it holds a token is what it was before
  held_before : (holds : List Action → Bool) (b : Bool) → holds (asked_by v.pass) ≡ b → holds (account_in meaning u).asked ≡ b
  held_before holds b held = ap holds (sym before.asked) ∙ (ap holds (sym (same_tokens meaning e v fits)) ∙ held)

  -- the call was refused, and nothing was called
  pub refused : {A B : Type 0} (r : Result A B) (holds : List Action → Bool) (b : Bool) (pass : Pass) → holds (asked_by v.pass) ≡ b → seen_by pass ≡ seen_by v.pass
      → OnErr r ((holds (account_in meaning u).asked ≡ b) × Keeps (account_in meaning u) (account_in meaning (record v { pass = pass })))
  refused r holds b pass held same = on_err r (
    held_before holds b held,
    keeps_on (account_in meaning u) (account_in meaning v) (account_in meaning (record v { pass = pass })) before (pass_keeps meaning e v fits pass same),
  )

  -- Its pass is `pass` after the call, and it is `w` once it has heard what was said.
  module _ (shown : ℕ) (had : last_seen (account_in meaning u).seen ≤ shown) (has : shown ≤ last_seen (account_in meaning v).seen) (says : EndsWith (pass_client u.pass) (seen_by u.pass) (say shown) None (seen_by v.pass)) (pass : Pass) (same : pass_client pass ≡ pass_client v.pass) (action : Action) (ends : EndsWith (pass_client v.pass) (seen_by v.pass) action None (seen_by pass))
      (w : EngineClient D T C S U P ghosts) (after : Keeps (account_in meaning (record v { pass = pass })) (account_in meaning w)) (heard : (most : ℕ) × EndsWith (pass_client pass) (seen_by pass) (hear most) None (seen_by w.pass) × (most ≤ last_seen (account_in meaning w).seen)) where
    own : pass_client v.pass ≡ u.number
    own = fits.idle.seated.pass_number ∙ before.number

    own_ends : EndsWith u.number (seen_by v.pass) action None (seen_by pass)
    own_ends = subst (λ (k : ℕ). EndsWith k (seen_by v.pass) action None (seen_by pass)) own ends

    called : IsLast u.number (seen_by v.pass) action None (seen_by pass)
    called = ends_last u.number (seen_by v.pass) action None (seen_by pass) own_ends

    hears : IsLast u.number (seen_by pass) (hear heard.0) None (seen_by w.pass)
    hears = ends_last u.number (seen_by pass) (hear heard.0) None (seen_by w.pass) (subst (λ (k : ℕ). EndsWith k (seen_by pass) (hear heard.0) None (seen_by w.pass)) (same ∙ own) heard.1)

    front : IsPrefix (seen_by v.pass) (seen_by pass)
    front = ends_begins u.number (seen_by v.pass) action None (seen_by pass) own_ends

    all : IsPrefix (seen_by pass) (seen_by w.pass)
    all = after.seen.controller_calls

    call_sees : Sees (account_in meaning v).seen (account_in meaning (record v { pass = pass })).seen
    call_sees = record { start = refl; opening = refl; published = begins_self (meaning.account v.seat).seen; controller_calls = front; log_reads = prefix_self _; logged = omega arith; batches = prefix_self _ }

    -- the call is after what was said, and so what all calls up to it say is no less
    said_by_then : last_seen (account_in meaning u).seen ≤ said_in (take (called.place + 1) (seen_by w.pass))
    said_by_then =
        let n : ℕ = length (seen_by v.pass) in let calls : List ControllerCall = seen_by w.pass in
        let first : take n calls ≡ seen_by v.pass = prefix_take (seen_by v.pass) calls (prefix_trans (seen_by v.pass) (seen_by pass) calls front all) n (omega arith) ∙ take-length (seen_by v.pass) in
        let is : said_in (take n calls) ≡ said_in (seen_by v.pass) = ap said_in first in
        let later = called.is_later.later in
        let fewer : said_in (take n calls) ≤ said_in (take (called.place + 1) calls) = said_in_fewer 0 calls n (called.place + 1) (omega (arith, later)) in
        let said = said_last (pass_client u.pass) shown (seen_by u.pass) (seen_by v.pass) says in
        omega (arith, had, said, is, fewer)

    asks : token_in action ≡ action ∷ [] → shown_by_token action ≡ shown → Asks (account_in meaning u) action (account_in meaning w)
    asks is number =
        let own_number = subst (λ (k : ℕ). EndsWith k (seen_by v.pass) action None (seen_by pass)) fits.idle.seated.pass_number ends in
        let one = ends_tokens v.number (seen_by v.pass) action None (seen_by pass) own_number ∙ ap (λ (l : List Action). tokens_of v.number (seen_by v.pass) ++ l) is in
        let known = prefix_length (seen_by u.pass) (seen_by v.pass) before.seen.controller_calls in
        let later = called.is_later.later in let last = called.last in let heard_later = hears.is_later.later in
        record {
          number = after.number ∙ before.number;
          mine = after.mine ∙ before.mine;
          ends = after.ends ∙ before.ends;
          asked = after.asked ∙ (one ∙ ap (λ (l : List Action). l ++ action ∷ []) before.asked);
          attempts = after.attempts ∙ before.attempts;
          read_faults = after.read_faults ∙ before.read_faults;
          seen = sees_on (account_in meaning u).seen (account_in meaning v).seen (account_in meaning w).seen before.seen
              (sees_on (account_in meaning v).seen (account_in meaning (record v { pass = pass })).seen (account_in meaning w).seen call_sees after.seen);
          tokens = after.tokens;
          place = called.place;
          is_later = record { later = omega (arith, known, later); there = prefix_at (seen_by pass) (seen_by w.pass) all called.place _ called.is_later.there };
          had = omega (arith, had, number);
          has = (let rises = last_rises (account_in meaning (record v { pass = pass })).seen (account_in meaning w).seen after.seen in omega (arith, has, number, rises));
          said = said_by_then;
          heard_at = hears.place;
          most = heard.0;
          hears = record { later = omega (arith, last, heard_later); there = hears.is_later.there };
          reached = heard.2;
        }

    -- and what it says of the tokens that the client held before
    pub asks_if : (holds : List Action → Bool) (b : Bool) → token_in action ≡ action ∷ [] → shown_by_token action ≡ shown → holds (asked_by v.pass) ≡ b
        → (holds (account_in meaning u).asked ≡ b) × Asks (account_in meaning u) action (account_in meaning w)
    asks_if holds b is number held = (held_before holds b held, asks is number)

  -- It gave back what it held.
  module _ (shown : ℕ) (had : last_seen (account_in meaning u).seen ≤ shown) (has : shown ≤ last_seen (account_in meaning v).seen) (says : EndsWith (pass_client u.pass) (seen_by u.pass) (say shown) None (seen_by v.pass)) (pass : Pass) (same : pass_client pass ≡ pass_client v.pass)
      (tokens : asked_by pass ≡ asked_by v.pass ++ given_back (asked_by v.pass) shown) (middle : List ControllerCall) (first : GivesBackIn (holds_stop (asked_by v.pass)) (pass_client v.pass) (seen_by v.pass) (unstop shown) middle) (second : GivesBackIn (holds_slow (asked_by v.pass)) (pass_client v.pass) middle (unslow shown) (seen_by pass)) where
    -- what it held before is what its pass says
    held_then : asked_by v.pass ≡ (account_in meaning u).asked
    held_then = same_tokens meaning e v fits ∙ before.asked

    given : AllByRecursion (IsGivenBack (seen_by pass) u.number (length (seen_by u.pass)) (last_seen (account_in meaning u).seen)) (given_back (account_in meaning u).asked shown)
    given =
        let said = said_last (pass_client u.pass) shown (seen_by u.pass) (seen_by v.pass) says in
        subst (λ (k : ℕ). AllByRecursion (IsGivenBack (seen_by pass) k (length (seen_by u.pass)) (last_seen (account_in meaning u).seen)) (given_back (account_in meaning u).asked shown)) (fits.idle.seated.pass_number ∙ before.number)
        (subst (λ (l : List Action). AllByRecursion (IsGivenBack (seen_by pass) (pass_client v.pass) (length (seen_by u.pass)) (last_seen (account_in meaning u).seen)) (given_back l shown)) held_then
        (gave_both (pass_client v.pass) (last_seen (account_in meaning u).seen) shown (seen_by u.pass) (seen_by v.pass) middle (seen_by pass) before.seen.controller_calls (omega (arith, had, said)) (holds_stop (asked_by v.pass)) (holds_slow (asked_by v.pass)) first second))

    pub end_gives : GivesBack (account_in meaning u) (account_in meaning (record v { pass = pass }))
    end_gives = record {
      number = before.number;
      mine = before.mine;
      ends = before.ends;
      shown = shown;
      had = had;
      has = has;
      said = given;
      asked = ap (λ (k : ℕ). tokens_of k (seen_by pass)) (sym (same ∙ fits.idle.seated.pass_number)) ∙ (tokens ∙ ap (λ (l : List Action). l ++ given_back l shown) held_then);
      attempts = before.attempts;
      read_faults = before.read_faults;
      seen = sees_on (account_in meaning u).seen (account_in meaning v).seen (account_in meaning (record v { pass = pass })).seen before.seen (record {
        start = refl;
        opening = refl;
        published = begins_self (meaning.account v.seat).seen;
        controller_calls = prefix_trans (seen_by v.pass) middle (seen_by pass) (back_begins (holds_stop (asked_by v.pass)) (pass_client v.pass) (seen_by v.pass) (unstop shown) middle first) (back_begins (holds_slow (asked_by v.pass)) (pass_client v.pass) middle (unslow shown) (seen_by pass) second);
        log_reads = prefix_self _;
        logged = omega arith;
        batches = prefix_self _;
      });
      tokens = refl;
    }
