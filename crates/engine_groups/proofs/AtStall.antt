-- A client whose request was linked or turned away, and what it concludes where it met a stall.
use Rattle.std.proofs.Common.{◌≡◌, ℕ, zero, suc, ◌≤◌, List, [], ◌∷◌, ◌++◌, Some, Result, Ok, Err, IfOk, IfErr, length, slice_get, inr, refl, sym, ap, ◌∙◌, subst, arith}
use Rattle.std.specs.List.{AllByRecursion}
use mathlib.Core.List.{IsPrefix}
use Rattle.log_writer.specs.declared.group_log.GroupLog.{Ghosts}
use Rattle.model_base.specs.Controller as calls
use Rattle.model_base.specs.Controller.{ControllerCall, Look}
use Rattle.model_base.specs.Replies.{IsLater, MetStall}
use Rattle.model_base.proofs.Prefixes.{prefix_at, prefix_length, prefix_trans}
use Rattle.model_base.proofs.Runs.{later_in, held_up_in}
use Rattle.table_rule.specs.Histories.{In}
use Rattle.line_writers.specs.Seats.{client_of, Belongs}
use Rattle.engine_controller.specs.Delays.{delays_of}
use Rattle.engine_controller.specs.Passes.{seen_by, AreOfOthers, GoesOn, IsPassOf, client_of as pass_client}
use Rattle.engine_rule.specs.Asked.{HasAsked, place_of}
use Rattle.engine_rule.specs.Commits.{Commit}
use Rattle.engine_rule.specs.Entries.{SeesMore}
use Rattle.engine_parts.specs.declared.requests.Request.{Request}
use Rattle.engine_parts.specs.declared.requests.Answer.{Answer}
use Rattle.engine_parts.specs.Asking.{OnlyLooks}
use Rattle.engine_parts.specs.Handled.{LookedInStall}
use Rattle.engine_groups.specs.Meaning.{Meaning}
use Rattle.engine_groups.specs.declared.engine.GroupEngine.{GroupEngine}
use Rattle.engine_groups.specs.declared.engine.EngineClient.{EngineClient}
use Rattle.engine_groups.specs.Clients.{IsSeated, own_commits, told_of}

pub if_ok : {A B : Type 0} (P : A → Type 0) (r : Result A B) → ((e : B) → r ≡ Err e → ⊥) → IfOk r P → (x : A) × P x
if_ok P (Ok x) none h = (x, h)
if_ok P (Err e) none h = absurd (none e refl)

pub if_err : {A B : Type 0} (P : B → Type 0) (r : Result A B) (e : B) → r ≡ Err e → IfErr r P → P e
if_err P r e is h = subst (λ z. IfErr z P) is h

-- Looks

pub looks_on : (k : ℕ) (a b c : List ControllerCall) → OnlyLooks k a b → OnlyLooks k b c → OnlyLooks k a c
looks_on k a b c f g = record { begins = prefix_trans a b c f.begins g.begins; tokens = g.tokens ∙ f.tokens; delays = g.delays ∙ f.delays }

pub looks_see : (k : ℕ) (a b : List ControllerCall) → OnlyLooks k a b → SeesMore k a b
looks_see k a b o = record { begins = o.begins; tokens = o.tokens }

-- A client whose writer and pass moved on, while it was in no list

module _ {D T C G S U P : Type 0} {ghosts : Ghosts D} (meaning : Meaning T S U P) (e : GroupEngine D T C G S U P ghosts) (c d : EngineClient D T C S U P ghosts) (same : d ≡ record c { writer = d.writer; pass = d.pass }) where
  pub seated_on : IsSeated meaning e c → Belongs e.list d.writer → client_of d.writer ≡ client_of c.writer → IsPassOf e.controller d.pass → pass_client d.pass ≡ pass_client c.pass → IsSeated meaning e d
  seated_on s belongs client own pass = subst (IsSeated meaning e) (sym same) (record {
    is_engine = s.is_engine;
    writer = belongs;
    number = client ∙ s.number;
    seat = s.seat;
    ready = s.ready;
    seat_number = s.seat_number;
    start = s.start;
    table = s.table;
    pass = own;
    pass_number = pass ∙ s.pass_number;
    can_lead = record { lists = s.can_lead.lists; layout = s.can_lead.layout };
  })

  -- it asked for no delay
  pub asked_on : told_of d ≡ told_of c → delays_of c.number (seen_by d.pass) ≡ delays_of c.number (seen_by c.pass) → HasAsked c.number (own_commits c.number (told_of c)) (seen_by c.pass) → HasAsked d.number (own_commits d.number (told_of d)) (seen_by d.pass)
  asked_on told delays h =
      let own = own_commits c.number (told_of c) in
      let late : HasAsked c.number own (seen_by d.pass) = subst (AllByRecursion (λ (place : ℕ). (x : Commit) × In x own × (place_of x ≡ place))) (sym delays) h in
      subst (λ (z : ℕ × List (Request × Answer)). HasAsked z.0 (own_commits z.0 z.1) (seen_by d.pass)) (λ i. (sym (ap (λ (x : EngineClient D T C S U P ghosts). x.number) same) i, sym told i)) late

-- What was seen of a stall

all_at : {A : Type 0} (P : A → Type 0) (xs : List A) (i : ℕ) (x : A) → AllByRecursion P xs → slice_get xs i ≡ Some x → P x
all_at P [] i x h e = absurd (cc e)
all_at P (y ∷ xs) zero x h e = let is : y ≡ x = cc e in subst P is h.0
all_at P (y ∷ xs) (suc i) x h e = all_at P xs i x h.1 e

-- a call behind what the client had seen is another client's, where only others called since
others_behind : (k : ℕ) (seen between : List ControllerCall) (i : ℕ) (t : ControllerCall) → length seen ≤ i → AreOfOthers k between → slice_get (seen ++ between) i ≡ Some t → t.client ≡ k → ⊥
others_behind k [] between i t late others e = all_at (λ (x : ControllerCall). x.client ≡ k → ⊥) between i t others e
others_behind k (s ∷ seen) between zero t late others e = absurd (omega (arith, late))
others_behind k (s ∷ seen) between (suc i) t late others e = others_behind k seen between i t (omega (arith, late)) others e

-- A leader's look at a stall, where the client has seen only calls of others since it linked its request, with a note
-- of all that it had seen: so the leader is another client.
pub met_leader : (k : ℕ) (noted seen after told : List ControllerCall) (numbers : Look) → noted ≡ seen → GoesOn k seen after → IsPrefix told after → (looked : LookedInStall noted told numbers) → calls.ShowTokens numbers → MetStall after k looked.by looked.place numbers
met_leader k noted seen after told numbers is on front looked shown =
    let call : ControllerCall = record { client = looked.by; action = calls.look; told = Some numbers } in
    let there : slice_get (seen ++ on.between) looked.place ≡ Some call = ap (λ (xs : List ControllerCall). slice_get xs looked.place) (sym on.is) ∙ prefix_at told after front looked.place call looked.is_later.there in
    let late = looked.is_later.later in let same = ap (λ (xs : List ControllerCall). length xs) is in record {
      leader = looked.by;
      other = others_behind k seen on.between looked.place call (omega (arith, late, same)) on.others there;
      stalled = held_up_in told after front looked.by looked.place looked.place (omega arith) looked.stalled;
      looked = inr refl;
      shown = shown;
    }

-- that look is after all that the client knew before it linked its request
pub leader_later : (known noted seen after told : List ControllerCall) (numbers : Look) → noted ≡ seen → IsPrefix known seen → IsPrefix told after → (looked : LookedInStall noted told numbers)
    → IsLater after (length known) looked.place (record { client = looked.by; action = calls.look; told = Some numbers })
leader_later known noted seen after told numbers is front told_front looked =
    let low = prefix_length known seen front in let late = looked.is_later.later in let same = ap (λ (xs : List ControllerCall). length xs) is in
    later_in told after told_front (length known) looked.place _ (record { later = omega (arith, low, late, same); there = looked.is_later.there })

-- a client that was turned away has met a stall, also in what it has seen since
pub met_self : (k : ℕ) (seen after : List ControllerCall) (place : ℕ) (numbers : Look) → IsPrefix seen after → MetStall seen k k place numbers → MetStall after k k place numbers
met_self k seen after place numbers front m = record { leader = m.leader; other = m.other; stalled = held_up_in seen after front m.leader place place (omega arith) m.stalled; looked = m.looked; shown = m.shown }
