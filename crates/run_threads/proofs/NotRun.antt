-- Where no client has called anything, the closed log was written by no call.
use Rattle.std.proofs.Common.{◌≡◌, ℕ, suc, ◌+◌, ◌-◌, ◌<◌, ◌≤◌, Option, Some, None, List, [], ◌∷◌, ◌++◌, length, map, flat_map, slice_get, refl, ap, sym, ◌∙◌, subst, inl, inr, arith, Vec, Global}
use Rattle.std.specs.List.{AllByRecursion, AllZip}
use Rattle.std.specs.Option.{option_map}
use Rattle.std.proofs.lemmas.Option.{slice_get-map, slice_get_cases}
use Rattle.model_base.specs.Batch.{Record}
use Rattle.model_base.specs.Map.{Pairs}
use Rattle.model_base.specs.History.{Entry, last_sequence, logged_entries}
use Rattle.model_base.specs.Recovery.{Logged}
use Rattle.model_base.specs.Settings.{with_kept}
use Rattle.model_base.specs.Trace.{Trace, Settings}
use Rattle.model_base.specs.Attempts.{Attempt}
use Rattle.model_base.specs.Groups.{Group, Member, IsCommit}
use Rattle.model_base.specs.LogContents.{GroupCall}
use Rattle.model_base.specs.Outcomes.{entries_of_client}
use Rattle.model_runs.specs.Lost.{IsLost}
use Rattle.model_accounts.specs.Accounts.{Account, newcomer}
use Rattle.model_accounts.specs.Closing.{IsClosing, all_attempts, all_read_faults}
use Rattle.model_runs.specs.Written.{WroteEntries, AreLost, WritesLog}
use Rattle.run_threads.specs.Jobs.{AreNew}
use Rattle.run_threads.proofs.Fibres.{same}

-- where no client has an entry, there is none
no_entries : (clients : ℕ) (entries : List Entry) → AllByRecursion (λ (e : Entry). (1 ≤ e.client) × (e.client ≤ clients)) entries
    → ((i : ℕ) → i < clients → entries_of_client (i + 1) entries ≡ []) → entries ≡ []
no_entries clients [] named none = refl
no_entries clients (e ∷ es) named none =
    let low = named.0.0 in
    let high = named.0.1 in
    let i = e.client - 1 in
    let of_it : e.client ≡ i + 1 = omega arith in
    let its = rw (same e.client (i + 1) of_it) at (none i (omega arith)) in
    absurd (cc its)

-- each call wrote entries, so without entries there was no call
no_calls : (parts : List (List Entry)) (calls : List GroupCall) → flat_map (λ part. part) parts ≡ [] → AllZip WroteEntries parts calls → calls ≡ []
no_calls [] [] cut each = refl
no_calls [] (c ∷ calls) cut each = absurd each
no_calls (part ∷ parts) [] cut each = refl
no_calls ([] ∷ parts) (c ∷ calls) cut each = absurd (cc each.0.some)
no_calls ((e ∷ es) ∷ parts) (c ∷ calls) cut each = absurd (cc cut)

-- a lost group has a member, whose commit a leader took in hand
no_commit : (attempts : List (List Attempt)) → ((i : ℕ) (own : List Attempt) → slice_get attempts i ≡ Some own → own ≡ []) → (m : Member) → IsCommit attempts m → ⊥
no_commit attempts idle m is =
    let none = idle is.number is.commits is.of_client in
    let at = subst (λ (own : List Attempt). slice_get own m.call ≡ Some is.attempt) none is.there in
    absurd (cc at)

no_member : (attempts : List (List Attempt)) (count : ℕ) → ((i : ℕ) (own : List Attempt) → slice_get attempts i ≡ Some own → own ≡ [])
    → (members : List Member) (all : List (List Record)) → 0 < length members → AllZip (IsLost attempts count) members all → ⊥
no_member attempts count idle [] all some each = absurd (omega (arith, some))
no_member attempts count idle (m ∷ members) [] some each = absurd each
no_member attempts count idle (m ∷ members) (records ∷ all) some each = no_commit attempts idle m each.0.stands

no_lost : (group_bytes : ℕ) (attempts : List (List Attempt)) (fault : Option ℕ) (last : ℕ) (lost : List GroupCall)
    → ((i : ℕ) (own : List Attempt) → slice_get attempts i ≡ Some own → own ≡ []) → AreLost group_bytes attempts fault last lost → lost ≡ []
no_lost group_bytes attempts None last lost idle are = are
no_lost group_bytes attempts (Some count) last lost idle are =
    let group = are.2.batches in
    absurd (no_member attempts count idle group.members group.all group.is_group.some group.each)

-- none of these clients has called anything
abbrev pub AreNewcomers : ℕ → Pairs → List Account → Type 0
AreNewcomers start opening accounts = (i : ℕ) (a : Account) → slice_get accounts i ≡ Some a → a ≡ newcomer start opening (i + 1)

-- clients that were handed back as they came
pub handed_back : {C : Type 0} (P : List C → Type 0) (given back : Vec C Global) → back ≡ given → P given.items → P back.items
handed_back {C = C} P given back is holds = subst (λ (v : Vec C Global). P v.items) (sym is) holds

pub newcomers : {C : Type 0} (account : C → Account) (start : ℕ) (opening : Pairs) (clients : List C) → AreNew account start opening clients → AreNewcomers start opening (map account clients)
newcomers account start opening clients new i a at =
    let e = slice_get-map account clients i in
    elim (slice_get_cases clients i).1 [
      | inl w ↦ (let is : account w.0 ≡ a = cc (sym e ∙ at, ap (option_map account) w.2) in sym is ∙ new.each i w.0 w.2)
      | inr w ↦ absurd (cc (sym e ∙ at, ap (option_map account) w.1))
    ]

all_idle : (start : ℕ) (opening : Pairs) (accounts : List Account) → AreNewcomers start opening accounts → (i : ℕ) (own : List Attempt) → slice_get (all_attempts accounts) i ≡ Some own → own ≡ []
all_idle start opening accounts new i own at =
    let e = slice_get-map (λ (a : Account). a.attempts) accounts i in
    elim (slice_get_cases accounts i).1 [
      | inl w ↦ (let is : (w.0).attempts ≡ own = cc (sym e ∙ at, ap (option_map (λ (a : Account). a.attempts)) w.2) in sym is ∙ ap (λ (a : Account). a.attempts) (new i w.0 w.2))
      | inr w ↦ absurd (cc (sym e ∙ at, ap (option_map (λ (a : Account). a.attempts)) w.1))
    ]

module _ (settings : Settings) (kept : Option (List Logged)) (ended : ℕ) (trace : Trace) (groups : List Group) (accounts : List Account) (last : ℕ) (fault : Option ℕ) (closing : IsClosing (with_kept kept settings) ended trace groups accounts last fault)
    (start : ℕ) (opening : Pairs) (count : length accounts ≡ settings.clients) (new : AreNewcomers start opening accounts) where
  none_written : trace.entries ≡ []
  none_written = no_entries settings.clients trace.entries closing.is_trace.clients (λ i within.
      elim (slice_get_cases accounts i).1 [
        | inl w ↦ (
            let is = new i w.0 w.2 in
            let part = closing.each i w.0 w.2 in
            ap (λ (a : Account). entries_of_client a.number trace.entries) (sym is) ∙ part.accepted ∙ ap (λ (a : Account). a.mine) is)
        | inr w ↦ (let over = w.0 in absurd (omega (arith, count)))
      ])

  log_by_no_call : (wrote : List GroupCall → Type 0) → WritesLog settings.group_bytes wrote trace (all_attempts accounts) groups fault → wrote []
  log_by_no_call wrote writes =
      let cut : flat_map (λ part. part) writes.parts ≡ [] = writes.cut ∙ ap logged_entries none_written in
      let calls : writes.calls ≡ [] = no_calls writes.parts writes.calls cut writes.each in
      let lost : writes.lost ≡ [] = no_lost settings.group_bytes (all_attempts accounts) fault _ writes.lost (all_idle start opening accounts new) writes.none_else in
      let both : writes.calls ++ writes.lost ≡ [] = ap (λ (cs : List GroupCall). cs ++ writes.lost) calls ∙ lost in
      subst wrote both writes.by

  -- no group of theirs was lost, so the log has no fault
  no_fault : (f : Option ℕ) (lost : List GroupCall) → AreLost settings.group_bytes (all_attempts accounts) f (last_sequence trace.start trace.entries) lost → f ≡ None
  no_fault None lost are = refl
  no_fault (Some count) lost are =
      let group = are.2.batches in
      absurd (no_member (all_attempts accounts) count (all_idle start opening accounts new) group.members group.all group.is_group.some group.each)

  -- nor did a read of theirs fail
  no_read_faults : (vs : List Account) → ((i : ℕ) (a : Account) → slice_get vs i ≡ Some a → a.read_faults ≡ []) → all_read_faults vs ≡ []
  no_read_faults [] none = refl
  no_read_faults (a ∷ vs) none = ap (λ ns. ns ++ all_read_faults vs) (none 0 a refl) ∙ no_read_faults vs (λ i b at. none (suc i) b at)

  -- it was written by no call, and no fault was counted
  pub log_untouched : (wrote : List GroupCall → Type 0) → WritesLog settings.group_bytes wrote trace (all_attempts accounts) groups fault → wrote [] × (ended ≡ settings.opened)
  log_untouched wrote writes = (
    log_by_no_call wrote writes,
    closing.counted (no_fault fault writes.lost writes.none_else) (no_read_faults accounts (λ i a at. ap (λ (b : Account). b.read_faults) (new i a at))),
  )
