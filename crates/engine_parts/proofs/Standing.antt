-- Each way in which a leader's work may end keeps the law of log and table.
use Rattle.std.proofs.Common.{◌≡◌, ◌⊎◌, inl, inr, ℕ, ◌+◌, ◌≤◌, map, List, [], ◌∷◌, ◌++◌, Option, Some, None, length, refl, ap, sym, ◌∙◌, subst, ⊎_elim, arith, length-append}
use Rattle.std.specs.List.{AllByRecursion}
use Rattle.log_writer.specs.declared.group_log.GroupLog.{Ghosts}
use Rattle.model_base.specs.History.{max_sequence}
use Rattle.model_base.specs.Controller.{ControllerCall, Look}
use Rattle.engine_parts.specs.declared.log.OpenLog.{OpenLog}
use Rattle.engine_parts.specs.Logs.{fault_of, Wrote, Adds}
use Rattle.model_base.specs.LogContents.{GroupCall}
use Rattle.table_rule.specs.declared.content.MemberVersions.{MemberVersions}
use Rattle.table_rule.specs.Histories.{last_of}
use Rattle.table_rule.proofs.Images.{images_versions}
use Rattle.line_rule.specs.declared.view.Handling.{Handling}
use Rattle.engine_parts.specs.declared.requests.Request.{Request}
use Rattle.engine_parts.specs.declared.requests.Delay.{Delay}
use Rattle.engine_parts.specs.declared.requests.Answer.{Answer}
use Rattle.engine_parts.specs.Handled.{commit_requests_of, failures, handled_with, replies_of, reads_handled, seen_at, went_at, sights_in, commits_in}
use Rattle.engine_parts.specs.LogLaw.{Covers}
use Rattle.engine_rule.specs.Commits.{Commit}
use Rattle.engine_rule.specs.Consistent.{AreConsistent, Publishes}
use Rattle.engine_rule.specs.Entries.{versions_made}
use Rattle.engine_rule.specs.LogCalls.{SyncsFor, WritesBatches}
use Rattle.engine_rule.specs.Plans.{AreLawful, AreUnlogged, ComesAfter, CommitRequest, IsAskedFor, IsWholeGroup, ProceedsWith, batches_from, last_with_all, versions_from}
use Rattle.engine_rule.specs.LogSights.{worked_in, sights_with, sights_without, ShowTheLog}
use Rattle.engine_rule.proofs.LogSights.{shown_failed, shown_with, shown_without, worked_more, worked_no_more}
use Rattle.engine_parts.proofs.Replies.{commits_failed, commits_planned, sights_failed, sights_planned}
use Rattle.engine_rule.proofs.Reaching.{last_bound, versions_length}
use Rattle.engine_rule.proofs.Steps.{consistent_accepted, consistent_after_fault, consistent_with_fault}
use Rattle.engine_rule.proofs.Plans.{versions_runs}
use Rattle.log_updates.specs.declared.places.LogPlace.{LogPlace}
use Rattle.engine_parts.proofs.Commits.{Writes, commits_append, sights_append}
use Rattle.engine_parts.proofs.Places.{MayBeginAt, PlacesStay, begin_all_on, places_added}
use Rattle.engine_parts.proofs.ReadsLaw.{ReadsStand, with_call, with_failed_call, with_no_call, with_writes}

-- the log stays as it was, since there was nothing to write; or one call that worked wrote the batches, and is counted
abbrev pub LogsOn : {D : Type 0} {ghosts : Ghosts D} → ℕ → List CommitRequest → ℕ → ℕ → OpenLog D ghosts → OpenLog D ghosts → Type 0
LogsOn last asks made made' old new = ((new ≡ old) × (AreUnlogged asks ⊎ (batches_from last asks ≡ [])) × (made' ≡ made))
    ⊎ ((c : GroupCall) × Adds c old new × WritesBatches last asks c × SyncsFor asks c.sync × (c.failed ≡ None) × (made' ≡ made + 1))

module _ {D : Type 0} {ghosts : Ghosts D} {T U : Type 0} (our_turn : T → U → Type 0) (history : U → List (List MemberVersions)) (table : T) (opened : OpenLog D ghosts) (start clients group_bytes : ℕ) where
  abbrev pub Stands : List ControllerCall → OpenLog D ghosts → List LogPlace → U → ℕ → ℕ → List (Handling Request Answer) → Type 0
  Stands asked log places turn last made hs = Covers our_turn history table opened start clients group_bytes asked log places turn last made hs

  module _ (asked : List ControllerCall) (log : OpenLog D ghosts) (places : List LogPlace) (turn : U) (last made : ℕ) (hs : List (Handling Request Answer)) (s : Stands asked log places turn last made hs) where
    pub last_low : start ≤ max_sequence → last ≤ max_sequence
    last_low low = subst (λ n. n ≤ max_sequence) (sym s.consistent.last_is) (last_bound start None (commits_in hs) s.consistent.answered low)

    -- the published history ends at the sequence given last
    pub history_end : last_of start (history turn) ≡ last
    history_end = ap (λ vs. start + length vs) (sym (images_versions versions_made (commits_in hs) (history turn) s.consistent.images)) ∙ (versions_length start None (commits_in hs) s.consistent.answered ∙ sym s.consistent.last_is)

    -- what the law says of reads of the log
    pub reads_now : ReadsStand opened start clients s.calls log last (reads_handled hs)
    reads_now = record { right = s.right; readers = s.readers; counted = s.counted }

    -- a whole group of writes, whose leader asked for its delay after the leaders before it, and which goes on with what the
    -- leader has seen
    module _ (xs : List (ℕ × Request)) (own : AllByRecursion Writes xs) (lawful : AreLawful clients (commit_requests_of xs)) (whole : IsWholeGroup group_bytes (commit_requests_of xs)) (delay : Delay) (numbers : Look)
        (is_asked : IsAskedFor (commit_requests_of xs) numbers (seen_at delay)) (comes : ComesAfter asked (seen_at delay)) (proceeds : ProceedsWith (commit_requests_of xs) numbers (seen_at delay) (went_at delay)) where
      abbrev pub went : List ControllerCall
      went = went_at delay

      -- no member got a run, and the answers show as many calls of the log as the ones before
      failed_shown : (n : ℕ) (calls : List GroupCall) → delay.made ≡ length (worked_in calls) → ShowTheLog (worked_in calls) (sights_in hs ++ sights_without (length (worked_in calls)) (commit_requests_of xs))
          → ShowTheLog (worked_in calls) (sights_in (hs ++ handled_with xs (failures delay n xs)))
      failed_shown n calls counts h =
          subst (ShowTheLog (worked_in calls)) (sym (sights_append hs (handled_with xs (failures delay n xs)) ∙ ap (λ l. sights_in hs ++ l) (sights_failed delay n xs own ∙ ap (λ m. sights_without m (commit_requests_of xs)) counts))) h

      -- its members whose runs fit have them
      written_shown : (end : ℕ) (calls : List GroupCall) → delay.made ≡ length (worked_in calls) → ShowTheLog (worked_in calls) (sights_in hs ++ sights_with (length (worked_in calls)) last (commit_requests_of xs))
          → ShowTheLog (worked_in calls) (sights_in (hs ++ handled_with xs (replies_of delay last end xs)))
      written_shown end calls counts h =
          subst (ShowTheLog (worked_in calls)) (sym (sights_append hs (handled_with xs (replies_of delay last end xs)) ∙ ap (λ l. sights_in hs ++ l) (sights_planned delay last end xs own ∙ ap (λ m. sights_with m last (commit_requests_of xs)) counts))) h

      pub stands_dead : (n : ℕ) → fault_of log ≡ Some n → delay.made ≡ made → Stands went log places turn last made (hs ++ handled_with xs (failures delay n xs))
      stands_dead n dead counts =
          let old = subst (λ f. AreConsistent start clients group_bytes asked (commits_in hs) last f (history turn) s.calls) dead s.consistent in
          let new = consistent_after_fault start clients group_bytes (commits_in hs) last (history turn) s.calls (commit_requests_of xs) asked (seen_at delay) numbers lawful whole is_asked comes went proceeds n old in
          let commits = commits_append hs (handled_with xs (failures delay n xs)) ∙ ap (λ l. commits_in hs ++ l) (commits_failed delay n xs own) in
          let reads = with_writes opened start clients s.calls log last hs xs (failures delay n xs) own reads_now in
          record {
            our = s.our;
            calls = s.calls;
            wrote = s.wrote;
            consistent = subst (λ (z : List Commit × Option ℕ). AreConsistent start clients group_bytes went z.0 last z.1 (history turn) s.calls) (λ i. (sym commits i, sym dead i)) new;
            made_is = s.made_is;
            shown = failed_shown n s.calls (counts ∙ s.made_is) (shown_without s.calls (sights_in hs) (commit_requests_of xs) whole.of_others s.shown);
            right = reads.right;
            readers = reads.readers;
            counted = reads.counted;
            begins = s.begins;
          }

      pub stands_failed : PlacesStay → fault_of log ≡ None → (n : ℕ) (c : GroupCall) (log' : OpenLog D ghosts) → Adds c log log' → WritesBatches last (commit_requests_of xs) c → c.failed ≡ Some n → delay.made ≡ made
          → Stands went log' places turn last made (hs ++ handled_with xs (failures delay n xs))
      stands_failed stay alive n c log' adds writes failed_is counts =
          let old = subst (λ f. AreConsistent start clients group_bytes asked (commits_in hs) last f (history turn) s.calls) alive s.consistent in
          let new = consistent_with_fault start clients group_bytes (commits_in hs) last (history turn) s.calls (commit_requests_of xs) asked (seen_at delay) numbers lawful whole is_asked comes went proceeds n old c writes failed_is in
          let commits = commits_append hs (handled_with xs (failures delay n xs)) ∙ ap (λ l. commits_in hs ++ l) (commits_failed delay n xs own) in
          let same : made ≡ length (worked_in (s.calls ++ c ∷ [])) = s.made_is ∙ ap length (sym (worked_no_more s.calls c n failed_is)) in
          let stops : fault_of log' ≡ Some n = adds.fault alive ∙ failed_is in
          let reads = with_writes opened start clients (s.calls ++ c ∷ []) log' last hs xs (failures delay n xs) own
          (with_failed_call opened start clients s.calls c log log' last n (reads_handled hs) failed_is alive adds reads_now) in
          record {
            our = s.our;
            calls = s.calls ++ c ∷ [];
            wrote = adds.wrote opened s.calls s.wrote;
            consistent = subst (λ (z : List Commit × Option ℕ). AreConsistent start clients group_bytes went z.0 last z.1 (history turn) (s.calls ++ c ∷ [])) (λ i. (sym commits i, sym stops i)) new;
            made_is = same;
            shown = failed_shown n (s.calls ++ c ∷ []) (counts ∙ same) (shown_failed s.calls c n (sights_in hs) (commit_requests_of xs) failed_is whole.of_others s.shown);
            right = reads.right;
            readers = reads.readers;
            counted = reads.counted;
            begins = begin_all_on opened start log log' (places_added opened start stay s.calls c log log' s.wrote adds) places s.begins;
          }

      pub stands_written : PlacesStay → fault_of log ≡ None → (log' : OpenLog D ghosts) (turn' : U) (made' : ℕ) → our_turn table turn' → delay.made ≡ made' → LogsOn last (commit_requests_of xs) made made' log log' → Publishes (versions_from last (commit_requests_of xs)) (history turn) (history turn')
          → Stands went log' places turn' (last_with_all last (commit_requests_of xs)) made' (hs ++ handled_with xs (replies_of delay last (last_with_all last (commit_requests_of xs)) xs))
      stands_written stay alive log' turn' made' our counts logs published =
          let old = subst (λ f. AreConsistent start clients group_bytes asked (commits_in hs) last f (history turn) s.calls) alive s.consistent in
          let end = last_with_all last (commit_requests_of xs) in
          let rises : last ≤ end = (let ends = (versions_runs last (commit_requests_of xs)).1 in omega (arith, ends)) in
          let commits = commits_append hs (handled_with xs (replies_of delay last end xs)) ∙ ap (λ l. commits_in hs ++ l) (commits_planned delay last end xs own) in
          ⊎_elim
          (λ (t : (log' ≡ log) × (AreUnlogged (commit_requests_of xs) ⊎ (batches_from last (commit_requests_of xs) ≡ [])) × (made' ≡ made)).
          let new = consistent_accepted start clients group_bytes asked (seen_at delay) went (commits_in hs) last (history turn) s.calls old (commit_requests_of xs) lawful numbers whole is_asked comes proceeds (history turn') s.calls published (inl (refl, t.1)) in
          let reads = with_writes opened start clients s.calls log' end hs xs (replies_of delay last end xs) own
          (subst (λ (l : OpenLog D ghosts). ReadsStand opened start clients s.calls l end (reads_handled hs)) (sym t.0) (with_no_call opened start clients s.calls log last end (reads_handled hs) rises reads_now)) in
          record {
            our = our;
            calls = s.calls;
            wrote = subst (Wrote opened s.calls) (sym t.0) s.wrote;
            consistent = subst (λ (z : List Commit × Option ℕ). AreConsistent start clients group_bytes went z.0 end z.1 (history turn') s.calls) (λ i. (sym commits i, sym (ap fault_of t.0 ∙ alive) i)) new;
            made_is = t.2 ∙ s.made_is;
            shown = written_shown end s.calls (counts ∙ (t.2 ∙ s.made_is)) (shown_with last (commit_requests_of xs) s.calls s.calls (sights_in hs) whole.of_others (inl (refl, t.1)) s.shown);
            right = reads.right;
            readers = reads.readers;
            counted = reads.counted;
            begins = subst (λ (l : OpenLog D ghosts). MayBeginAt opened start l places) (sym t.0) s.begins;
          })
          (λ (t : (c : GroupCall) × Adds c log log' × WritesBatches last (commit_requests_of xs) c × SyncsFor (commit_requests_of xs) c.sync × (c.failed ≡ None) × (made' ≡ made + 1)).
          let c = t.0 in
          let one_more : length (worked_in (s.calls ++ c ∷ [])) ≡ length (worked_in s.calls) + 1 = ap length (worked_more s.calls c t.4) ∙ length-append (worked_in s.calls) (c ∷ []) in
          let same : made' ≡ length (worked_in (s.calls ++ c ∷ [])) = (let now = t.5 in let was = s.made_is in omega (arith, now, was, one_more)) in
          let grows : fault_of log' ≡ None = t.1.fault alive ∙ t.4 in
          let new = consistent_accepted start clients group_bytes asked (seen_at delay) went (commits_in hs) last (history turn) s.calls old (commit_requests_of xs) lawful numbers whole is_asked comes proceeds (history turn') (s.calls ++ c ∷ []) published (inr (c, refl, t.2, t.3, t.4)) in
          let reads = with_writes opened start clients (s.calls ++ c ∷ []) log' end hs xs (replies_of delay last end xs) own
          (with_call opened start clients s.calls c log log' last end (reads_handled hs) rises t.2.first alive t.1 reads_now) in
          record {
            our = our;
            calls = s.calls ++ c ∷ [];
            wrote = t.1.wrote opened s.calls s.wrote;
            consistent = subst (λ (z : List Commit × Option ℕ). AreConsistent start clients group_bytes went z.0 end z.1 (history turn') (s.calls ++ c ∷ [])) (λ i. (sym commits i, sym grows i)) new;
            made_is = same;
            shown = written_shown end (s.calls ++ c ∷ []) (counts ∙ same) (shown_with last (commit_requests_of xs) s.calls (s.calls ++ c ∷ []) (sights_in hs) whole.of_others (inr (c, refl, t.2, t.3, t.4)) s.shown);
            right = reads.right;
            readers = reads.readers;
            counted = reads.counted;
            begins = begin_all_on opened start log log' (places_added opened start stay s.calls c log log' s.wrote t.1) places s.begins;
          })
          logs

pub none_of : {A B : Type 0} (f : A → B) (xs : List A) → map f xs ≡ [] → xs ≡ []
none_of f [] e = refl
none_of f (x ∷ xs) e = absurd (cc)
