-- What follows from the parts of an engine that are handed in when it is closed.
use Rattle.std.proofs.Common.{◌≡◌, inl, inr, ℕ, zero, suc, ◌+◌, ◌-◌, map, slice_get, List, [], ◌∷◌, Option, Some, IfSome, length, refl, ap, sym, ◌∙◌, subst, ⊎_elim, arith}
use Rattle.std.specs.Option.{option_map}
use Rattle.std.specs.List.{AllByRecursion}
use Rattle.std.proofs.lemmas.Option.{slice_get-map, slice_get_cases}
use Rattle.std.proofs.lemmas.List.{length-map}
use Rattle.log_writer.specs.declared.group_log.GroupLog.{Ghosts}
use Rattle.model_base.specs.Attempts.{Attempt}
use Rattle.model_base.specs.Controller.{ControllerCall}
use Rattle.model_base.specs.Groups.{Group}
use Rattle.model_base.specs.LogContents.{GroupCall}
use Rattle.model_base.specs.Recovery.{Logged}
use Rattle.model_base.specs.Since.{LogRead}
use Rattle.model_base.specs.Trace.{Trace}
use Rattle.table_rule.specs.declared.content.MemberVersions.{MemberVersions}
use Rattle.table_rule.specs.Histories.{In}
use Rattle.table_calls.specs.Account.{IsReady, IsClosing as IsTableClosing}
use Rattle.line_rule.specs.declared.view.Handling.{Handling}
use Rattle.line_rule.specs.Chain.{of}
use Rattle.line_writers.specs.Seats.{table_of, clients_of, answers_told, AllOut, HasClient, AllThere, Merged}
use Rattle.engine_groups.specs.Meaning.{Meaning}
use Rattle.engine_parts.specs.declared.requests.Request.{Request}
use Rattle.engine_parts.specs.declared.requests.Answer.{Answer}
use Rattle.engine_groups.specs.declared.engine.GroupEngine.{GroupEngine}
use Rattle.engine_groups.specs.declared.engine.EngineClient.{EngineClient}
use Rattle.model_accounts.specs.Accounts.{Account}
use Rattle.model_accounts.specs.Closing.{AreOurs}
use Rattle.model_runs.specs.Written.{WritesLog}
use Rattle.engine_controller.specs.declared.pass.Pass.{Pass}
use Rattle.engine_controller.specs.declared.pass.Passes.{Passes}
use Rattle.engine_controller.specs.Passes.{seen_by, AreAll, IsHistoryOf, IsOthersOf, IsPassOf, client_of as pass_client}
use Rattle.engine_groups.specs.Clients.{IsClientOf, IsEngine, map_at_opening, account_in, own_answers, own_commits, own_sights, pass_in, seat_in, writer_in}
use Rattle.engine_parts.specs.Handled.{commits_in, reads_handled, sights_in}
use Rattle.engine_rule.specs.Asked.{HasAsked}
use Rattle.engine_rule.specs.Commits.{Commit, commits_of}
use Rattle.engine_rule.specs.Entries.{account_of, AreCallsOf, HasPart}
use Rattle.engine_rule.specs.LogSights.{sights_of}
use Rattle.engine_rule.specs.Reading.{IsAtEnd, IsRight, ReadAnswer, answers_of, reads_in}
use Rattle.engine_groups.proofs.Told.{commits_told, reads_told, sights_told}

each_all : {C : Type 0} (P : C → Type 0) (cs : List C) → ((i : ℕ) (c : C) → slice_get cs i ≡ Some c → P c) → AllByRecursion P cs
each_all P [] h = tt
each_all P (c ∷ cs) h = (h 0 c refl, each_all P cs (λ i x e. h (suc i) x e))

pub in_map : {A B : Type 0} (f : A → B) (x : A) (xs : List A) → In x xs → In (f x) (map f xs)
in_map f x [] h = absurd h
in_map f x (y ∷ ys) h = ⊎_elim (λ (e : y ≡ x). inl (ap f e)) (λ (t : In x ys). inr (in_map f x ys t)) h

in_at : {A : Type 0} (xs : List A) (i : ℕ) (x : A) → slice_get xs i ≡ Some x → In x xs
in_at [] i x e = absurd (cc)
in_at (y ∷ ys) zero x e = inl (cc)
in_at (y ∷ ys) (suc i) x e = inr (in_at ys i x e)

from_map : {A B : Type 0} (f : A → B) (P : A → Type 0) (xs : List A) → AllByRecursion P xs → (y : B) → In y (map f xs) → (x : A) × P x × (f x ≡ y)
from_map f P [] h y is = absurd is
from_map f P (x ∷ xs) h y is = ⊎_elim (λ (e : f x ≡ y). (x, h.0, e)) (λ (t : In y (map f xs)). from_map f P xs h.1 y t) is

module _ {D T C G S U P : Type 0} {ghosts : Ghosts D} (meaning : Meaning T S U P) (e : GroupEngine D T C G S U P ghosts) (cs : List (EngineClient D T C S U P ghosts))
    (all : AreOurs (IsClientOf meaning e) (account_in meaning) (clients_of e.list) cs) where
  abbrev fit : (i : ℕ) (c : EngineClient D T C S U P ghosts) → slice_get cs i ≡ Some c → IsClientOf meaning e c
  fit i c at = (all.each i c at).0

  pub is_engine : IsEngine meaning e
  is_engine = elim (slice_get_cases cs 0).1 [
    | inl there ↦ (fit 0 there.0 there.2).idle.seated.is_engine
    | inr gone ↦ absurd (let some = e.list.some in let n = all.number_of in let none = gone.0 in omega (arith, some, n, none))
  ]

  pub all_fit : AllByRecursion (IsClientOf meaning e) cs
  all_fit = each_all (IsClientOf meaning e) cs fit

  out_of : (xs : List (EngineClient D T C S U P ghosts)) → AllByRecursion (IsClientOf meaning e) xs → AllOut (table_of e.list) (map writer_in xs)
  out_of [] h = tt
  out_of (c ∷ xs) h = (h.0.idle.seated.writer.0, h.0.idle.out, out_of xs h.1)

  pub all_out : AllOut (table_of e.list) (map writer_in cs)
  all_out = out_of cs all_fit

  has_at : (xs : List (EngineClient D T C S U P ghosts)) (i : ℕ) (c : EngineClient D T C S U P ghosts) → slice_get xs i ≡ Some c → HasClient c.writer.client (map writer_in xs)
  has_at [] i c at = absurd (cc)
  has_at (x ∷ xs) zero c at = inl (let is : x ≡ c = cc in ap (λ (z : EngineClient D T C S U P ghosts). z.writer.client) is)
  has_at (x ∷ xs) (suc i) c at = inr (has_at xs i c at)

  pub all_there : AllThere (clients_of e.list) (map writer_in cs)
  all_there k low high = elim (slice_get_cases cs (k - 1)).1 [
    | inl there ↦ (
        let is : there.0.writer.client ≡ k = (fit (k - 1) there.0 there.2).idle.seated.number ∙ ((all.each (k - 1) there.0 there.2).1 ∙ (let n : k - 1 + 1 ≡ k = omega (arith, low) in n)) in
        subst (λ (j : ℕ). HasClient j (map writer_in cs)) is (has_at cs (k - 1) there.0 there.2))
    | inr gone ↦ absurd (let a = gone.0 in let n = all.number_of in omega (arith, a, n, low, high))
  ]

  pub seats_ready : (seat : S) → In seat (map seat_in cs) → meaning.ours e.table seat × IsReady (meaning.account seat)
  seats_ready seat is = let t = from_map seat_in (IsClientOf meaning e) cs all_fit seat is in (subst (λ (s : S). meaning.ours e.table s × IsReady (meaning.account s)) t.2 (t.1.idle.seated.seat, t.1.idle.seated.ready))

  pass_at : (i : ℕ) (p : Pass) → slice_get (map pass_in cs) i ≡ Some p → IsPassOf e.controller p × (pass_client p ≡ i + 1)
  pass_at i p at = elim (slice_get_cases cs i).1 [
    | inl there ↦ (
        let f = fit i there.0 there.2 in
        let is : pass_in there.0 ≡ p = cc (sym (slice_get-map pass_in cs i) ∙ at, ap (option_map pass_in) there.2) in
        subst (λ (x : Pass). IsPassOf e.controller x × (pass_client x ≡ i + 1)) is (f.idle.seated.pass, f.idle.seated.pass_number ∙ (all.each i there.0 there.2).1))
    | inr gone ↦ absurd (cc (sym (slice_get-map pass_in cs i) ∙ at, ap (option_map pass_in) gone.1))
  ]

  pub passes_number : length (map pass_in cs) ≡ clients_of e.list
  passes_number = length-map cs pass_in ∙ all.number_of

  -- all passes are there
  pub all_passes : (passes : Passes) → passes.clients.items ≡ map pass_in cs → IsOthersOf e.controller passes.others → AreAll e.controller passes
  all_passes passes are others = record {
    number = ap length are ∙ (passes_number ∙ sym is_engine.controller_clients);
    each = λ i p at. pass_at i p (ap (λ (l : List Pass). slice_get l i) (sym are) ∙ at);
    others_are = others;
  }

  merged_at : (handled : List (Handling Request Answer)) (xs : List (EngineClient D T C S U P ghosts)) → Merged handled (map writer_in xs) → (i : ℕ) (c : EngineClient D T C S U P ghosts) → slice_get xs i ≡ Some c → of c.writer.client handled ≡ answers_told c.writer
  merged_at handled [] m i c at = absurd (cc)
  merged_at handled (x ∷ xs) m zero c at = let is : x ≡ c = cc in subst (λ (z : EngineClient D T C S U P ghosts). of z.writer.client handled ≡ answers_told z.writer) is m.0
  merged_at handled (x ∷ xs) m (suc i) c at = merged_at handled xs m.1 i c at

  pub accounts_number : length (map (account_in meaning) cs) ≡ clients_of e.list
  accounts_number = length-map cs (account_in meaning) ∙ all.number_of

  module _ (calls : List ControllerCall) (whole : IsHistoryOf (map pass_in cs) calls) where
    -- the controller's one history has only the clients' calls
    pub are_calls : AreCallsOf (clients_of e.list) calls
    are_calls = subst (λ n. AreCallsOf n calls) passes_number whole.clients

    module _ (handled : List (Handling Request Answer)) (published : List (List MemberVersions))
        (merged : Merged handled (map writer_in cs)) (seen : IsTableClosing (meaning.opening e.table).start published (map meaning.account (map seat_in cs))) where
      part : (i : ℕ) (c : EngineClient D T C S U P ghosts) → slice_get cs i ≡ Some c → HasPart (meaning.opening e.table).start (map_at_opening meaning e.table) (commits_in handled) (sights_in handled) (reads_handled handled) published calls i (account_in meaning c)
      part i c at =
          let f = fit i c at in
          let number : c.number ≡ i + 1 = (all.each i c at).1 in
          let own : own_commits c.number (answers_told c.writer) ≡ commits_of (i + 1) (commits_in handled) =
          ap (own_commits c.number) (sym (ap (λ k. of k handled) (sym f.idle.seated.number) ∙ merged_at handled cs merged i c at)) ∙ (sym (commits_told c.number handled) ∙ ap (λ k. commits_of k (commits_in handled)) number) in
          let sights : own_sights c.number (answers_told c.writer) ≡ sights_of (i + 1) (sights_in handled) =
          ap (own_sights c.number) (sym (ap (λ k. of k handled) (sym f.idle.seated.number) ∙ merged_at handled cs merged i c at)) ∙ (sym (sights_told c.number handled) ∙ ap (λ k. sights_of k (sights_in handled)) number) in
          let answers : own_answers (answers_told c.writer) ≡ answers_of (i + 1) (reads_handled handled) =
          ap own_answers (sym (ap (λ k. of k handled) (sym f.idle.seated.number) ∙ merged_at handled cs merged i c at)) ∙ (sym (reads_told c.number handled) ∙ ap (λ k. answers_of k (reads_handled handled)) number) in
          record {
            seen = (meaning.account c.seat).seen;
            begins = seen.each (meaning.account c.seat) (in_map meaning.account c.seat (map seat_in cs) (in_map seat_in c cs (in_at cs i c at)));
            known = seen_by c.pass;
            goes_on = whole.each i c.pass (slice_get-map pass_in cs i ∙ ap (option_map pass_in) at);
            has_asked = subst (λ (z : ℕ × List Commit). HasAsked z.0 z.1 (seen_by c.pass)) (λ j. (number j, own j)) f.idle.has_asked;
            at_ends = subst (λ (l : List ReadAnswer). AllByRecursion (IsAtEnd (meaning.opening e.table).start (meaning.account c.seat).seen) (reads_in l)) answers f.at_ends;
            is = (λ j. account_of (f.idle.seated.start j) (map_at_opening meaning (f.idle.seated.table j)) (number j) (own j) (sights j) (answers j) (meaning.account c.seat).seen (seen_by c.pass));
          }

      -- each client's account is its part of the whole
      pub parts : (i : ℕ) (a : Account) → slice_get (map (account_in meaning) cs) i ≡ Some a → HasPart (meaning.opening e.table).start (map_at_opening meaning e.table) (commits_in handled) (sights_in handled) (reads_handled handled) published calls i a
      parts i a at = elim (slice_get_cases cs i).1 [
        | inl there ↦ (
            let is : account_in meaning there.0 ≡ a = cc (sym (slice_get-map (account_in meaning) cs i) ∙ at, ap (option_map (account_in meaning)) there.2) in
            subst (HasPart (meaning.opening e.table).start (map_at_opening meaning e.table) (commits_in handled) (sights_in handled) (reads_handled handled) published calls i) is (part i there.0 there.2))
        | inr gone ↦ absurd (cc (sym (slice_get-map (account_in meaning) cs i) ∙ at, ap (option_map (account_in meaning)) gone.1))
      ]

-- a log that was written by exactly these calls was written by calls for which `wrote` holds, since it holds for these
pub written_by : (group_bytes : ℕ) (wrote : List GroupCall → Type 0) (calls : List GroupCall) (trace : Trace) (attempts : List (List Attempt)) (groups : List Group) (fault : Option ℕ)
    → wrote calls → WritesLog group_bytes (λ (made : List GroupCall). made ≡ calls) trace attempts groups fault → WritesLog group_bytes wrote trace attempts groups fault
written_by group_bytes wrote calls trace attempts groups fault by w = record {
  parts = w.parts;
  calls = w.calls;
  lost = w.lost;
  cut = w.cut;
  runs = w.runs;
  each = w.each;
  logged = w.logged;
  none_else = w.none_else;
  by = subst wrote (sym w.by) by;
  log = w.log;
  rise = w.rise;
  in_turn = w.in_turn;
  by_leaders = w.by_leaders;
  made = w.made;
  are_made = w.are_made;
  by_groups = w.by_groups;
  of_first = w.of_first;
  dead = w.dead;
}

-- what reads gave that is right for each list of batches which the log had is right for this one
pub right_where : (had : List Logged → Type 0) (kept : Option (List Logged)) (last : ℕ) (calls : List GroupCall) (reads : List LogRead) → IfSome kept had → AllByRecursion (IsRight had last calls) reads → AllByRecursion (IsRight (λ batches. kept ≡ Some batches) last calls) reads
right_where had kept last calls [] is all = tt
right_where had kept last calls (r ∷ reads) is all = (
  record { low = all.0.low; answer = λ batches e. all.0.answer batches (subst (λ (o : Option (List Logged)). IfSome o had) e is) },
  right_where had kept last calls reads is all.1,
)
