-- Logs of two clients' commits, in one group or in two.
use Rattle.std.proofs.Common.{◌≡◌, ℕ, ◌+◌, ◌<◌, Bool, true, false, List, [], ◌∷◌, ◌++◌, map, Option, Some, None, get_or, slice_get, refl, ap, sym, ◌∙◌, subst, arith, append-nil}
use Rattle.std.specs.Prelude.{nat_le, if◌then◌else◌}
use Rattle.std.specs.List.{AllByRecursion, AllZip}
use Rattle.std.proofs.Math.Dec.{lit≤, lit<}
use Rattle.model_base.specs.Varint.{varint_within}
use Rattle.model_base.specs.Batch.{Record, value, deletion, single_deletion, log_data, count_of}
use Rattle.model_base.specs.History.{Entry, max_sequence, logged_entries, last_sequence}
use Rattle.model_base.specs.Trace.{Trace}
use Rattle.model_base.specs.Attempts.{Attempt, succeeded, faulted}
use Rattle.model_base.specs.Controller.{ControllerCall, delay}
use Rattle.model_base.specs.Groups.{Group, Member}
use Rattle.model_base.specs.LogContents.{GroupCall}
use Rattle.model_runs.specs.Lost.{batches_that_fit}
use Rattle.model_runs.specs.Parts.{AreParts, name_of, names_made}
use Rattle.model_runs.specs.Groups.{IsAskedByLeader, IsOfFirstLost, batches_in, is_kept_out, logged_groups, leader_syncs}
use Rattle.model_runs.specs.Written.{AreLost, IsLostCall, WritesLog, WroteEntries}
use Rattle.model_runs.specs.Examples.{put_a, put_b, call_of}
use Rattle.model_runs.specs.GroupExamples.{plain, ended, member_of, alone_at, delays_by, turned_round, pair_entries, pair_commits, in_one_group, in_two_groups, one_call_for_both, a_call_for_each, three_commits, pair_then_one, one_then_pair, failed_call, kept_out, fault_ignored, lost_then_kept_out, kept_out_then_lost, kept_out_entry, faulted_kept_out, both_faulted, kept_out_first}

-- Calls that worked

pub one_group : (group_bytes : ℕ) (trace : Trace) → trace.entries ≡ pair_entries → trace.logged ≡ pair_entries ∷ [] → trace.log_calls ≡ one_call_for_both false → trace.controller_calls ≡ delays_by (1 ∷ [])
    → WritesLog group_bytes (λ calls. calls ≡ one_call_for_both false) trace (pair_commits succeeded) in_one_group None
one_group group_bytes trace entries logged log asked = record {
  parts = pair_entries ∷ [];
  calls = one_call_for_both false;
  lost = [];
  cut = sym (ap logged_entries entries);
  runs = ((record { counted = refl; some = lit≤ tt; first = refl; fits = lit≤ tt }, tt), tt);
  each = (record { some = refl; apart = (((λ same. absurd (cc same)), tt), (tt, tt)); batches = refl; synced = ((λ to_sync. absurd (cc to_sync)), ((λ to_sync. absurd (cc to_sync)), tt)); ok = refl }, tt);
  logged = sym logged;
  none_else = refl;
  by = refl;
  log = sym log;
  rise = (tt, tt);
  in_turn = (((λ same. absurd (cc same)), tt), (tt, tt));
  by_leaders = subst (λ (calls : List ControllerCall). AllByRecursion (IsAskedByLeader calls) in_one_group) (sym asked) (record { leader = _; call = _; leads = refl; there = refl; by = refl }, tt);
  made = pair_entries ∷ [];
  are_made = record { cut = sym entries; made = (refl, tt) };
  by_groups = record { parts_are = refl; syncs_are = refl };
  of_first = tt;
  dead = ((λ dead. absurd (cc dead)), tt);
}

-- the only group made all entries
made_by_one : (attempts : List (List Attempt)) (g : Group) (entries : List Entry) (made : List (List Entry)) → AreParts attempts (g ∷ []) entries made → made ≡ entries ∷ []
made_by_one attempts g entries [] are = absurd are.made
made_by_one attempts g entries (part ∷ []) are = ap (λ p. p ∷ []) (sym (append-nil part) ∙ are.cut)
made_by_one attempts g entries (part ∷ other ∷ made) are = absurd (are.made).1

module _ (group_bytes : ℕ) (wrote : List GroupCall → Type 0) (trace : Trace) (fault : Option ℕ) (entries : trace.entries ≡ pair_entries) (w : WritesLog group_bytes wrote trace (pair_commits succeeded) in_one_group fault) where
  made_is : w.made ≡ pair_entries ∷ []
  made_is = subst (λ es. w.made ≡ es ∷ []) entries (made_by_one (pair_commits succeeded) _ trace.entries w.made w.are_made)

  part_is : w.parts ≡ pair_entries ∷ []
  part_is = w.by_groups.parts_are ∙ ap (λ made. map (λ (g : Group × List Entry). g.1) (logged_groups in_one_group made)) made_is

  sync_is : map (λ (c : GroupCall). c.sync) w.calls ≡ false ∷ []
  sync_is = w.by_groups.syncs_are ∙ ap (λ made. map (λ (g : Group × List Entry). leader_syncs g.0.members) (logged_groups in_one_group made)) made_is

-- the first call wrote both batches, so it isn't the call for the first one
not_alone : (parts : List (List Entry)) (calls lost : List GroupCall) → parts ≡ pair_entries ∷ [] → AllZip WroteEntries parts calls → calls ++ lost ≡ a_call_for_each → ⊥
not_alone [] calls lost is each by = cc is
not_alone (part ∷ parts) [] lost is each by = absurd each
not_alone (part ∷ parts) (c ∷ calls) lost is each by =
    let both : c.batches ≡ put_a ∷ put_b ∷ [] = (each.0).batches ∙ ap (map (λ (e : Entry). e.records)) (head_is part parts is) in
    let one : c.batches ≡ put_a ∷ [] = ap (λ (x : GroupCall). x.batches) (call_is c calls by) in
    let same : put_a ∷ put_b ∷ [] ≡ put_a ∷ [] = sym both ∙ one in
    cc same
  where
    head_is : (part : List Entry) (parts : List (List Entry)) → part ∷ parts ≡ pair_entries ∷ [] → part ≡ pair_entries
    head_is part parts is = cc is

    call_is : (c : GroupCall) (calls : List GroupCall) → c ∷ (calls ++ lost) ≡ a_call_for_each → c ≡ call_of 1 (put_a ∷ []) false None
    call_is c calls by = cc by

pub each_alone : (group_bytes : ℕ) (trace : Trace) (fault : Option ℕ) → trace.entries ≡ pair_entries → WritesLog group_bytes (λ calls. calls ≡ a_call_for_each) trace (pair_commits succeeded) in_one_group fault → ⊥
each_alone group_bytes trace fault entries w = not_alone w.parts w.calls w.lost (part_is group_bytes (λ calls. calls ≡ a_call_for_each) trace fault entries w) w.each w.by

-- the only call didn't sync
not_synced : (calls lost : List GroupCall) → map (λ (c : GroupCall). c.sync) calls ≡ false ∷ [] → calls ++ lost ≡ one_call_for_both true → ⊥
not_synced [] lost syncs by = cc syncs
not_synced (c ∷ calls) lost syncs by =
    let no : c.sync ≡ false = cc syncs in
    let yes : c.sync ≡ true = cc by in
    cc (no, yes)

pub synced_unasked : (group_bytes : ℕ) (trace : Trace) (fault : Option ℕ) → trace.entries ≡ pair_entries → WritesLog group_bytes (λ calls. calls ≡ one_call_for_both true) trace (pair_commits succeeded) in_one_group fault → ⊥
synced_unasked group_bytes trace fault entries w = not_synced w.calls w.lost (sync_is group_bytes (λ calls. calls ≡ one_call_for_both true) trace fault entries w) w.by

-- each of the two groups has a part of its own
abbrev MadeEach : List (List Entry) → Type 0
MadeEach made = AllZip (λ (g : Group) (part : List Entry). map name_of part ≡ names_made (pair_commits succeeded) g) (in_two_groups 0 1) made

two_syncs : (made : List (List Entry)) → MadeEach made → map (λ (g : Group × List Entry). leader_syncs g.0.members) (logged_groups (in_two_groups 0 1) made) ≡ false ∷ false ∷ []
two_syncs [] each = absurd each
two_syncs (p ∷ []) each = absurd each.1
two_syncs ([] ∷ q ∷ made) each = absurd (cc each.0)
two_syncs ((x ∷ p) ∷ [] ∷ made) each = absurd (cc each.1.0)
two_syncs ((x ∷ p) ∷ (y ∷ q) ∷ []) each = refl
two_syncs ((x ∷ p) ∷ (y ∷ q) ∷ r ∷ made) each = absurd each.1.1

not_in_one : (calls lost : List GroupCall) → map (λ (c : GroupCall). c.sync) calls ≡ false ∷ false ∷ [] → calls ++ lost ≡ one_call_for_both false → ⊥
not_in_one [] lost syncs by = cc syncs
not_in_one (c ∷ []) lost syncs by = cc syncs
not_in_one (c ∷ d ∷ calls) lost syncs by = cc by

pub two_groups_in_one_record : (group_bytes : ℕ) (trace : Trace) (fault : Option ℕ) → WritesLog group_bytes (λ calls. calls ≡ one_call_for_both false) trace (pair_commits succeeded) (in_two_groups 0 1) fault → ⊥
two_groups_in_one_record group_bytes trace fault w = not_in_one w.calls w.lost (w.by_groups.syncs_are ∙ two_syncs w.made w.are_made.made) w.by

pub asked_by_another : (group_bytes : ℕ) (calls : List GroupCall) (trace : Trace) (fault : Option ℕ) → trace.controller_calls ≡ delays_by (2 ∷ []) → WritesLog group_bytes (λ made. made ≡ calls) trace (pair_commits succeeded) in_one_group fault → ⊥
asked_by_another group_bytes calls trace fault asked w =
    let l = w.by_leaders.0 in
    let leader : Some (member_of 1 0 (ended succeeded plain put_a)) ≡ Some l.leader = l.leads in
    let first : member_of 1 0 (ended succeeded plain put_a) ≡ l.leader = cc leader in
    let one : 1 ≡ (l.leader).client = ap (λ (m : Member). m.client) first in
    let there : Some (record { client = 2; action = delay 0 0; told = None }) ≡ Some l.call = ap (λ (cs : List ControllerCall). slice_get cs 0) (sym asked) ∙ l.there in
    let call : record { client = 2; action = delay 0 0; told = None } ≡ l.call = cc there in
    let two : 2 ≡ (l.call).client = ap (λ (t : ControllerCall). t.client) call in
    let by = l.by in
    absurd (omega (arith, one, two, by))

pub out_of_order : (group_bytes : ℕ) (calls : List GroupCall) (trace : Trace) (attempts : List (List Attempt)) (fault : Option ℕ) → WritesLog group_bytes (λ made. made ≡ calls) trace attempts (in_two_groups 1 0) fault → ⊥
out_of_order group_bytes calls trace attempts fault w = let later : 1 < 0 = w.rise.0.0 in absurd (omega (arith, later))

-- each of the two groups made as many entries as it has members
abbrev MadeByThree : List (List Entry) → Type 0
MadeByThree made = AllZip (λ (g : Group) (part : List Entry). map name_of part ≡ names_made three_commits g) pair_then_one made

-- so the first logged part has two entries
first_has_two : (made : List (List Entry)) → MadeByThree made
    → (e f : Entry) × (rest : List (List Entry)) × (map (λ (g : Group × List Entry). g.1) (logged_groups pair_then_one made) ≡ (e ∷ f ∷ []) ∷ rest)
first_has_two [] each = absurd each
first_has_two (p ∷ []) each = absurd each.1
first_has_two ([] ∷ q ∷ made) each = absurd (cc each.0)
first_has_two ((x ∷ []) ∷ q ∷ made) each = absurd (cc each.0)
first_has_two ((x ∷ y ∷ z ∷ p) ∷ q ∷ made) each = absurd (cc each.0)
first_has_two ((x ∷ y ∷ []) ∷ q ∷ r ∷ made) each = absurd each.1.1
first_has_two ((x ∷ y ∷ []) ∷ [] ∷ []) each = absurd (cc each.1.0)
first_has_two ((x ∷ y ∷ []) ∷ (u ∷ q) ∷ []) each = (x, y, (u ∷ q) ∷ [], refl)

-- and the first call wrote one batch only
not_for_two : (e f : Entry) (rest parts : List (List Entry)) (calls lost : List GroupCall) → parts ≡ (e ∷ f ∷ []) ∷ rest → AllZip WroteEntries parts calls → calls ++ lost ≡ one_then_pair → ⊥
not_for_two e f rest [] calls lost is each by = cc is
not_for_two e f rest (part ∷ parts) [] lost is each by = absurd each
not_for_two e f rest (part ∷ parts) (c ∷ calls) lost is each by =
    let two : c.batches ≡ e.records ∷ f.records ∷ [] = (each.0).batches ∙ ap (map (λ (e : Entry). e.records)) (head_is part parts is) in
    let one : c.batches ≡ put_a ∷ [] = ap (λ (x : GroupCall). x.batches) (call_is c calls by) in
    let same : e.records ∷ f.records ∷ [] ≡ put_a ∷ [] = sym two ∙ one in
    cc same
  where
    head_is : (part : List Entry) (parts : List (List Entry)) → part ∷ parts ≡ (e ∷ f ∷ []) ∷ rest → part ≡ e ∷ f ∷ []
    head_is part parts is = cc is

    call_is : (c : GroupCall) (calls : List GroupCall) → c ∷ (calls ++ lost) ≡ one_then_pair → c ≡ call_of 1 (put_a ∷ []) false None
    call_is c calls by = cc by

pub member_of_another_group : (group_bytes : ℕ) (trace : Trace) (fault : Option ℕ) → WritesLog group_bytes (λ calls. calls ≡ one_then_pair) trace three_commits pair_then_one fault → ⊥
member_of_another_group group_bytes trace fault w =
    let two = first_has_two w.made w.are_made.made in
    not_for_two two.0 two.1 two.2 w.parts w.calls w.lost (w.by_groups.parts_are ∙ two.3) w.each w.by

pub out_of_turn : (group_bytes : ℕ) (calls : List GroupCall) (trace : Trace) (attempts : List (List Attempt)) (fault : Option ℕ) → WritesLog group_bytes (λ made. made ≡ calls) trace attempts turned_round fault → ⊥
out_of_turn group_bytes calls trace attempts fault w = let earlier : 1 < 0 = w.in_turn.0.0 refl in absurd (omega (arith, earlier))

-- Calls that failed

pub first_lost : (trace : Trace) → trace.start ≡ 0 → trace.entries ≡ [] → trace.logged ≡ [] → trace.log_calls ≡ failed_call 1 put_a false → trace.controller_calls ≡ delays_by (1 ∷ 2 ∷ [])
    → WritesLog 1048576 (λ calls. calls ≡ failed_call 1 put_a false) trace (pair_commits (faulted 1)) (in_two_groups 0 1) (Some 1)
unfolding varint_within
first_lost trace start entries logged log asked =
    let last : last_sequence trace.start trace.entries ≡ 0 = (λ i. last_sequence (start i) (entries i)) in record {
      parts = [];
      calls = [];
      lost = failed_call 1 put_a false;
      cut = sym (ap logged_entries entries);
      runs = tt;
      each = tt;
      logged = sym logged;
      none_else = (
        call_of 1 (put_a ∷ []) false (Some 1),
        refl,
        subst (λ n. IsLostCall 1048576 (pair_commits (faulted 1)) 1 n (call_of 1 (put_a ∷ []) false (Some 1))) (sym last) (record {
          failed = refl;
          first = refl;
          batches = record {
            members = member_of 1 0 (ended (faulted 1) plain put_a) ∷ [];
            is_group = record { some = lit≤ tt; whole = refl; of_others = (tt, tt) };
            all = put_a ∷ [];
            each = (
              record {
                stands = record { number = 0; commits = ended (faulted 1) plain put_a ∷ []; attempt = ended (faulted 1) plain put_a; client = refl; of_client = refl; there = refl; item = refl };
                records_are = refl;
                to_log = refl;
                status = refl;
              },
              tt,
            );
            batches_are = refl;
            some = lit≤ tt;
          };
        }),
      );
      by = refl;
      log = sym log;
      rise = ((lit< tt, tt), (tt, tt));
      in_turn = (((λ same. absurd (cc same)), tt), (tt, tt));
      by_leaders = subst (λ (calls : List ControllerCall). AllByRecursion (IsAskedByLeader calls) (in_two_groups 0 1)) (sym asked) (
        record { leader = _; call = _; leads = refl; there = refl; by = refl },
        (record { leader = _; call = _; leads = refl; there = refl; by = refl }, tt),
      );
      made = [] ∷ [] ∷ [];
      are_made = record { cut = sym entries; made = (refl, (refl, tt)) };
      by_groups = record { parts_are = refl; syncs_are = refl };
      of_first = (
        subst (λ n. IsOfFirstLost (pair_commits (faulted 1)) (in_two_groups 0 1) n (call_of 1 (put_a ∷ []) false (Some 1))) (sym last) (record {
          group = alone_at 0 (member_of 1 0 (ended succeeded plain put_a));
          first = refl;
          to_log = refl;
          batches = refl;
          sync = refl;
        }),
        tt,
      );
      dead = ((λ dead. (tt, tt)), ((λ dead. (tt, tt)), tt));
    }

-- a call that failed, where it is the only one, wrote no part
only_lost : (x : GroupCall) → x.failed ≡ Some 1 → (parts : List (List Entry)) (calls lost : List GroupCall) → AllZip WroteEntries parts calls → calls ++ lost ≡ x ∷ [] → lost ≡ x ∷ []
only_lost x failed parts [] lost each by = by
only_lost x failed [] (c ∷ calls) lost each by = absurd each
only_lost x failed (part ∷ parts) (c ∷ calls) lost each by =
    let is : c ≡ x = cc by in
    let same : c.failed ≡ Some 1 = ap (λ (y : GroupCall). y.failed) is ∙ failed in
    absurd (cc (same, (each.0).ok))

-- it was made for client 1's commit
of_the_first : (last : ℕ) (c : GroupCall) → IsOfFirstLost (pair_commits (faulted 1)) (in_two_groups 0 1) last c → (c.batches ≡ batches_that_fit last (put_a ∷ [])) × (c.sync ≡ false)
of_the_first last c of =
    let group : alone_at 0 (member_of 1 0 (ended succeeded plain put_a)) ≡ of.group = cc of.first in
    subst (λ (g : Group). (c.batches ≡ batches_that_fit last (batches_in (pair_commits (faulted 1)) g)) × (c.sync ≡ leader_syncs g.members)) (sym group) (of.batches, of.sync)

module _ (x : GroupCall) (failed : x.failed ≡ Some 1) (group_bytes : ℕ) (trace : Trace) (fault : Option ℕ) (w : WritesLog group_bytes (λ calls. calls ≡ x ∷ []) trace (pair_commits (faulted 1)) (in_two_groups 0 1) fault) where
  lost_is : w.lost ≡ x ∷ []
  lost_is = only_lost x failed w.parts w.calls w.lost w.each w.by

  lost_for : (x.batches ≡ batches_that_fit (last_sequence trace.start trace.entries) (put_a ∷ [])) × (x.sync ≡ false)
  lost_for =
      let last = last_sequence trace.start trace.entries in
      of_the_first last x (subst (AllByRecursion (IsOfFirstLost (pair_commits (faulted 1)) (in_two_groups 0 1) last)) lost_is w.of_first).0

-- the key of a batch's first record
abbrev key_of : List Record → List ℕ
key_of [] = []
key_of (value family key v ∷ records) = key
key_of (deletion family key ∷ records) = key
key_of (single_deletion family key ∷ records) = key
key_of (log_data blob ∷ records) = blob

abbrev first_of_batches : List (List Record) → List Record
first_of_batches [] = []
first_of_batches (records ∷ batches) = records

-- client 2's batch isn't client 1's, nor none
not_second : (last : ℕ) → put_b ∷ [] ≡ batches_that_fit last (put_a ∷ []) → ⊥
not_second last is = by (nat_le (last + count_of put_a) max_sequence) is
  where
    by : (b : Bool) → put_b ∷ [] ≡ (if b then put_a ∷ [] else []) → ⊥
    by true is =
        let batch : put_b ≡ put_a = ap first_of_batches is in
        let byte : 98 ≡ 97 = ap (λ (records : List Record). get_or (key_of records) 0 0) batch in
        absurd (omega (arith, byte))
    by false is = cc is

pub second_lost : (group_bytes : ℕ) (trace : Trace) (fault : Option ℕ) → WritesLog group_bytes (λ calls. calls ≡ failed_call 1 put_b false) trace (pair_commits (faulted 1)) (in_two_groups 0 1) fault → ⊥
second_lost group_bytes trace fault w =
    not_second (last_sequence trace.start trace.entries) (lost_for (call_of 1 (put_b ∷ []) false (Some 1)) refl group_bytes trace fault w).0

pub lost_with_a_sync : (group_bytes : ℕ) (trace : Trace) (fault : Option ℕ) → WritesLog group_bytes (λ calls. calls ≡ failed_call 1 put_a true) trace (pair_commits (faulted 1)) (in_two_groups 0 1) fault → ⊥
lost_with_a_sync group_bytes trace fault w = cc (lost_for (call_of 1 (put_a ∷ []) true (Some 1)) refl group_bytes trace fault w).1

-- the call that failed was to write right after the last sequence given
not_later : (group_bytes : ℕ) (attempts : List (List Attempt)) (fault : Option ℕ) (last : ℕ) (x : GroupCall) → last ≡ 0 → x.first ≡ 2 → AreLost group_bytes attempts fault last (x ∷ []) → ⊥
not_later group_bytes attempts None last x none later are = cc are
not_later group_bytes attempts (Some count) last x none later are =
    let is : x ≡ are.0 = cc are.1 in
    let first : x.first ≡ last + 1 = ap (λ (y : GroupCall). y.first) is ∙ (are.2).first in
    absurd (omega (arith, first, none, later))

pub lost_later : (group_bytes : ℕ) (trace : Trace) (groups : List Group) (fault : Option ℕ) → trace.start ≡ 0 → trace.entries ≡ [] → WritesLog group_bytes (λ calls. calls ≡ failed_call 2 put_a false) trace (pair_commits (faulted 1)) groups fault → ⊥
lost_later group_bytes trace groups fault start entries w =
    let x = call_of 2 (put_a ∷ []) false (Some 1) in
    let last = last_sequence trace.start trace.entries in
    let lost : w.lost ≡ x ∷ [] = only_lost x refl w.parts w.calls w.lost w.each w.by in
    not_later group_bytes (pair_commits (faulted 1)) fault last x (λ i. last_sequence (start i) (entries i)) refl (subst (AreLost group_bytes (pair_commits (faulted 1)) fault last) lost w.none_else)

-- the first group that was answered the fault is the one that its leader kept out of the log
not_kept_out : (last : ℕ) (c : GroupCall) → IsOfFirstLost both_faulted kept_out_first last c → ⊥
not_kept_out last c of =
    let group : alone_at 0 (member_of 1 0 faulted_kept_out) ≡ of.group = cc of.first in
    let kept : is_kept_out ((of.group).members) ≡ true = ap (λ (g : Group). is_kept_out g.members) (sym group) in
    cc (sym kept ∙ of.to_log)

pub lost_though_kept_out : (group_bytes : ℕ) (trace : Trace) (fault : Option ℕ) → WritesLog group_bytes (λ calls. calls ≡ failed_call 1 put_a false) trace both_faulted kept_out_first fault → ⊥
lost_though_kept_out group_bytes trace fault w =
    let x = call_of 1 (put_a ∷ []) false (Some 1) in
    let last = last_sequence trace.start trace.entries in
    let lost : w.lost ≡ x ∷ [] = only_lost x refl w.parts w.calls w.lost w.each w.by in
    not_kept_out last x (subst (AllByRecursion (IsOfFirstLost both_faulted kept_out_first last)) lost w.of_first).0

pub written_after_a_fault : (group_bytes : ℕ) (calls : List GroupCall) (trace : Trace) (fault : Option ℕ) → WritesLog group_bytes (λ made. made ≡ calls) trace fault_ignored lost_then_kept_out fault → ⊥
written_after_a_fault group_bytes calls trace fault w = (w.dead.1.0 refl).0

pub kept_out_before_the_fault : (trace : Trace) → trace.start ≡ 0 → trace.entries ≡ kept_out_entry ∷ [] → trace.logged ≡ [] → trace.log_calls ≡ failed_call 2 put_a false → trace.controller_calls ≡ delays_by (2 ∷ 1 ∷ [])
    → WritesLog 1048576 (λ calls. calls ≡ failed_call 2 put_a false) trace fault_ignored kept_out_then_lost (Some 1)
unfolding varint_within
kept_out_before_the_fault trace start entries logged log asked =
    let last : last_sequence trace.start trace.entries ≡ 1 = (λ i. last_sequence (start i) (entries i)) in record {
      parts = [];
      calls = [];
      lost = failed_call 2 put_a false;
      cut = sym (ap logged_entries entries);
      runs = tt;
      each = tt;
      logged = sym logged;
      log = sym log;
      none_else = (
        call_of 2 (put_a ∷ []) false (Some 1),
        refl,
        subst (λ n. IsLostCall 1048576 fault_ignored 1 n (call_of 2 (put_a ∷ []) false (Some 1))) (sym last) (record {
          failed = refl;
          first = refl;
          batches = record {
            members = member_of 1 0 (ended (faulted 1) plain put_a) ∷ [];
            is_group = record { some = lit≤ tt; whole = refl; of_others = (tt, tt) };
            all = put_a ∷ [];
            each = (
              record {
                stands = record { number = 0; commits = ended (faulted 1) plain put_a ∷ []; attempt = ended (faulted 1) plain put_a; client = refl; of_client = refl; there = refl; item = refl };
                records_are = refl;
                to_log = refl;
                status = refl;
              },
              tt,
            );
            batches_are = refl;
            some = lit≤ tt;
          };
        }),
      );
      by = refl;
      rise = ((lit< tt, tt), (tt, tt));
      in_turn = (((λ same. absurd (cc same)), tt), (tt, tt));
      by_leaders = subst (λ (calls : List ControllerCall). AllByRecursion (IsAskedByLeader calls) kept_out_then_lost) (sym asked) (
        record { leader = _; call = _; leads = refl; there = refl; by = refl },
        (record { leader = _; call = _; leads = refl; there = refl; by = refl }, tt),
      );
      made = (kept_out_entry ∷ []) ∷ [] ∷ [];
      are_made = record { cut = sym entries; made = (refl, (refl, tt)) };
      by_groups = record { parts_are = refl; syncs_are = refl };
      of_first = (
        subst (λ n. IsOfFirstLost fault_ignored kept_out_then_lost n (call_of 2 (put_a ∷ []) false (Some 1))) (sym last) (record {
          group = alone_at 1 (member_of 1 0 (ended (faulted 1) plain put_a));
          first = refl;
          to_log = refl;
          batches = refl;
          sync = refl;
        }),
        tt,
      );
      dead = ((λ dead. absurd (cc dead)), ((λ dead. (tt, tt)), tt));
    }
