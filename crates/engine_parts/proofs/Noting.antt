-- Replies that a leader gives its notes: all but their notes stays as it was.
use Rattle.std.proofs.Common.{◌≡◌, ℕ, zero, suc, ◌<◌, ◌++◌, List, [], ◌∷◌, Option, Some, None, map, take, drop, set, get_or, length, refl, ap, sym, ◌∙◌, subst, arith, append-nil}
use Rattle.std.proofs.lemmas.List.{drop_all, take_all}
use Rattle.std.specs.List.{AllByRecursion, AllZip}
use mathlib.Core.List.{IsPrefix}
use Rattle.log_writer.specs.declared.group_log.GroupLog.{Ghosts}
use Rattle.model_base.specs.Controller.{ControllerCall}
use Rattle.table_rule.specs.declared.content.MemberVersions.{MemberVersions}
use Rattle.line_rule.specs.declared.view.Handling.{Handling}
use Rattle.log_updates.specs.declared.places.LogPlace.{LogPlace}
use Rattle.table_nodes.specs.declared.parts.MemberNodes.{MemberNodes}
use Rattle.engine_controller.specs.declared.controller.Controller.{Controller}
use Rattle.engine_controller.specs.Noted.{Noted}
use Rattle.engine_rule.specs.Commits.{Commit}
use Rattle.engine_rule.specs.Consistent.{AreConsistent}
use Rattle.engine_rule.specs.LogSights.{LogSight, worked_in, ShowTheLog}
use Rattle.engine_rule.specs.Reading.{AnsweredRead}
use Rattle.engine_parts.specs.declared.log.OpenLog.{OpenLog}
use Rattle.engine_parts.specs.declared.requests.Request.{Request}
use Rattle.engine_parts.specs.declared.requests.Answer.{Answer}
use Rattle.engine_parts.specs.Handled.{HandsBack, InOrder, IsNotedAs, IsReplyAt, NotesAll, answer_if, answer_in, commit_if, commit_of, commits_in, handled_with, read_by, reads_handled, reads_of, seen_for, went_for, sight_if, sight_of, sights_in}
use Rattle.engine_parts.specs.LogLaw.{Covers}
use Rattle.engine_parts.specs.Logs.{fault_of}
use Rattle.engine_parts.specs.Staged.{HasNoRun, IsStaged}
use Rattle.engine_parts.proofs.Commits.{commits_append, reads_append, sights_append}
use Rattle.engine_parts.proofs.ReadsLaw.{ReadsStand}
use Rattle.engine_parts.proofs.Staging.{HaveNoRuns}

-- A list whose first elements are done, and the others as they were

pub half_done : {X : Type 0} (R : X → X → Type 0) (xs : List X) (i : ℕ) (ys done : List X) (d : X) → i < length xs → ys ≡ done ++ drop i xs → AllZip R (take i xs) done → get_or ys i d ≡ get_or xs i d
half_done R [] i ys done d h is zip = absurd (omega (arith, h))
half_done R (x ∷ xs) zero ys [] d h is zip = ap (λ l. get_or l 0 d) is
half_done R (x ∷ xs) zero ys (w ∷ done) d h is zip = absurd zip
half_done R (x ∷ xs) (suc i) ys [] d h is zip = absurd zip
half_done R (x ∷ xs) (suc i) ys (w ∷ done) d h is zip = ap (λ l. get_or l (suc i) d) is ∙ half_done R xs i (done ++ drop i xs) done d (omega (arith, h)) refl zip.1

-- one more is done
done_next : {X : Type 0} (R : X → X → Type 0) (xs : List X) (i : ℕ) (ys done : List X) (z d : X) → i < length xs → ys ≡ done ++ drop i xs → AllZip R (take i xs) done → R (get_or xs i d) z
    → (more : List X) × (set ys i z ≡ more ++ drop (suc i) xs) × AllZip R (take (suc i) xs) more
done_next R [] i ys done z d h is zip r = absurd (omega (arith, h))
done_next R (x ∷ xs) zero ys [] z d h is zip r = (z ∷ [], ap (λ l. set l 0 z) is, (r, tt))
done_next R (x ∷ xs) zero ys (w ∷ done) z d h is zip r = absurd zip
done_next R (x ∷ xs) (suc i) ys [] z d h is zip r = absurd zip
done_next R (x ∷ xs) (suc i) ys (w ∷ done) z d h is zip r =
    let rest = done_next R xs i (done ++ drop i xs) done z d (omega (arith, h)) refl zip.1 r in
    (w ∷ rest.0, ap (λ l. set l (suc i) z) is ∙ ap (λ l. w ∷ l) rest.1, (zip.0, rest.2))

pub one_done : {X : Type 0} (R : X → X → Type 0) (xs : List X) (i n : ℕ) (ys done : List X) (z d : X) → n ≡ suc i → i < length xs → ys ≡ done ++ drop i xs → AllZip R (take i xs) done → R (get_or xs i d) z
    → (more : List X) × (set ys i z ≡ more ++ drop n xs) × AllZip R (take n xs) more
one_done {X = X} R xs i n ys done z d next h is zip r =
    subst (λ (m : ℕ). (more : List X) × (set ys i z ≡ more ++ drop m xs) × AllZip R (take m xs) more) (sym next) (done_next R xs i ys done z d h is zip r)

-- What stays as it was

-- a note changes no answer to a read
answer_with_note : (since : Option ℕ) (p : Answer) (note : Noted) → answer_if since (record p { note = Some note }) ≡ answer_if since p
answer_with_note None p note = refl
answer_with_note (Some n) p note = refl

module _ {C : Type 0} (controller : Controller C) (seen : List ControllerCall) where
  abbrev AreNoted : List (ℕ × Answer) → List (ℕ × Answer) → Type 0
  AreNoted ys zs = AllZip (IsNotedAs controller seen) ys zs

  same_count : (ys zs : List (ℕ × Answer)) → AreNoted ys zs → length zs ≡ length ys
  same_count [] [] zip = refl
  same_count [] (z ∷ zs) zip = absurd zip
  same_count (y ∷ ys) [] zip = absurd zip
  same_count (y ∷ ys) (z ∷ zs) zip = ap suc (same_count ys zs zip.1)

  -- once the replies with their notes are put back, the list is all of them
  pub put_noted : (ys new : List (ℕ × Answer)) (len : ℕ) → len ≡ length ys → AreNoted ys new → take len (new ++ drop (length new) ys) ≡ new
  put_noted ys new len l zip =
      let n = same_count ys new zip in
      ap (λ (t : List (ℕ × Answer)). take len (new ++ t)) (drop_all (length new) ys (omega (arith, n))) ∙ (ap (take len) (append-nil new) ∙ take_all len new (omega (arith, n, l)))

  pub noted_order : (requests : List (ℕ × Request)) (ys zs : List (ℕ × Answer)) → AreNoted ys zs → InOrder requests ys → InOrder requests zs
  noted_order [] [] [] zip h = tt
  noted_order [] [] (z ∷ zs) zip h = absurd zip
  noted_order [] (y ∷ ys) zs zip h = absurd h
  noted_order (x ∷ requests) [] zs zip h = absurd h
  noted_order (x ∷ requests) (y ∷ ys) [] zip h = absurd zip
  noted_order (x ∷ requests) (y ∷ ys) (z ∷ zs) zip h = (zip.0.0 ∙ h.0, noted_order requests ys zs zip.1 h.1)

  pub noted_back : (requests : List (ℕ × Request)) (ys zs : List (ℕ × Answer)) → AreNoted ys zs → AllByRecursion HandsBack (handled_with requests ys) → AllByRecursion HandsBack (handled_with requests zs)
  noted_back [] ys zs zip h = tt
  noted_back (x ∷ requests) ys [] zip h = tt
  noted_back (x ∷ requests) [] (z ∷ zs) zip h = absurd zip
  noted_back (x ∷ requests) (y ∷ ys) (z ∷ zs) zip h =
      (subst (λ (p : Answer). HandsBack (record { by = x.0; asked = x.1; reply = p })) (sym zip.0.2) h.0, noted_back requests ys zs zip.1 h.1)

  pub noted_commits : (requests : List (ℕ × Request)) (ys zs : List (ℕ × Answer)) → AreNoted ys zs → commits_in (handled_with requests zs) ≡ commits_in (handled_with requests ys)
  noted_commits [] ys zs zip = refl
  noted_commits (x ∷ requests) [] [] zip = refl
  noted_commits (x ∷ requests) [] (z ∷ zs) zip = absurd zip
  noted_commits (x ∷ requests) (y ∷ ys) [] zip = absurd zip
  noted_commits (x ∷ requests) (y ∷ ys) (z ∷ zs) zip =
      λ i. commit_if x.1.since (commit_of (record { by = x.0; asked = x.1; reply = zip.0.2 i })) ++ noted_commits requests ys zs zip.1 i

  pub noted_sights : (requests : List (ℕ × Request)) (ys zs : List (ℕ × Answer)) → AreNoted ys zs → sights_in (handled_with requests zs) ≡ sights_in (handled_with requests ys)
  noted_sights [] ys zs zip = refl
  noted_sights (x ∷ requests) [] [] zip = refl
  noted_sights (x ∷ requests) [] (z ∷ zs) zip = absurd zip
  noted_sights (x ∷ requests) (y ∷ ys) [] zip = absurd zip
  noted_sights (x ∷ requests) (y ∷ ys) (z ∷ zs) zip =
      λ i. sight_if x.1.since (sight_of (record { by = x.0; asked = x.1; reply = zip.0.2 i })) ++ noted_sights requests ys zs zip.1 i

  pub noted_reads : (requests : List (ℕ × Request)) (ys zs : List (ℕ × Answer)) → AreNoted ys zs → reads_handled (handled_with requests zs) ≡ reads_handled (handled_with requests ys)
  noted_reads [] ys zs zip = refl
  noted_reads (x ∷ requests) [] [] zip = refl
  noted_reads (x ∷ requests) [] (z ∷ zs) zip = absurd zip
  noted_reads (x ∷ requests) (y ∷ ys) [] zip = absurd zip
  noted_reads (x ∷ requests) (y ∷ ys) (z ∷ zs) zip =
      (λ i. reads_of (record { by = x.0; asked = x.1; reply = zip.0.2 i }) ++ noted_reads requests ys zs zip.1 i)
      ∙ ap (λ l. map (read_by x.0) l ++ reads_handled (handled_with requests ys)) (answer_with_note x.1.since y.1 zip.0.1)

  pub noted_at : (known : List ControllerCall) (ys zs : List (ℕ × Answer)) → AreNoted ys zs → AllByRecursion (IsReplyAt known) ys → AllByRecursion (IsReplyAt known) zs
  noted_at known ys [] zip h = tt
  noted_at known [] (z ∷ zs) zip h = absurd zip
  noted_at known (y ∷ ys) (z ∷ zs) zip h = (ap seen_for zip.0.2 ∙ h.0, noted_at known ys zs zip.1 h.1)

  pub noted_runs : (ys zs : List (ℕ × Answer)) → AreNoted ys zs → HaveNoRuns ys → HaveNoRuns zs
  noted_runs ys [] zip h = tt
  noted_runs [] (z ∷ zs) zip h = absurd zip
  noted_runs (y ∷ ys) (z ∷ zs) zip h = (subst (λ (p : Answer). HasNoRun (answer_in p.answer)) (sym zip.0.2) h.0, noted_runs ys zs zip.1 h.1)

  pub noted_staged : (leader clients last now : ℕ) (end : Option ℕ) (beside : List ℕ) (parts : List MemberNodes) (ys zs : List (ℕ × Answer)) → AreNoted ys zs → IsStaged leader clients last now end beside parts ys → IsStaged leader clients last now end beside parts zs
  noted_staged leader clients last now None beside parts ys zs zip h = (h.0, h.1, noted_runs ys zs zip h.2)
  noted_staged leader clients last now (Some end) beside parts ys zs zip h = h

  -- each noted reply shows all that its leader had seen when the group went on or was refused
  pub notes_all : (y z : ℕ × Answer) → IsNotedAs controller seen y z → IsPrefix (went_for y.1) seen → NotesAll controller (went_for z.1) z.1
  notes_all y z n begins = (
    n.1,
    ap (λ (p : Answer). p.note) n.2,
    n.3,
    subst (λ (w : List ControllerCall × List ControllerCall). IsPrefix w.0 w.1) (λ i. (sym (ap went_for n.2) i, sym n.4 i)) begins,
  )

  -- The law of log and table

  pub noted_stands : {D : Type 0} {ghosts : Ghosts D} {T U : Type 0} (our_turn : T → U → Type 0) (history : U → List (List MemberVersions)) (opened : OpenLog D ghosts) (log : OpenLog D ghosts) (places : List LogPlace) (turn : U) (last made : ℕ)
      (table : T) (start clients group_bytes : ℕ) (asked : List ControllerCall) (hs : List (Handling Request Answer)) (requests : List (ℕ × Request)) (ys zs : List (ℕ × Answer)) → AreNoted ys zs
      → Covers our_turn history table opened start clients group_bytes asked log places turn last made (hs ++ handled_with requests ys)
      → Covers our_turn history table opened start clients group_bytes asked log places turn last made (hs ++ handled_with requests zs)
  noted_stands our_turn history opened log places turn last made table start clients group_bytes asked hs requests ys zs zip s =
      let same : commits_in (hs ++ handled_with requests ys) ≡ commits_in (hs ++ handled_with requests zs) =
      commits_append hs (handled_with requests ys) ∙ (ap (λ (l : List Commit). commits_in hs ++ l) (sym (noted_commits requests ys zs zip)) ∙ sym (commits_append hs (handled_with requests zs))) in
      let same_sights : sights_in (hs ++ handled_with requests ys) ≡ sights_in (hs ++ handled_with requests zs) =
      sights_append hs (handled_with requests ys) ∙ (ap (λ (l : List LogSight). sights_in hs ++ l) (sym (noted_sights requests ys zs zip)) ∙ sym (sights_append hs (handled_with requests zs))) in
      let same_reads : reads_handled (hs ++ handled_with requests ys) ≡ reads_handled (hs ++ handled_with requests zs) =
      reads_append hs (handled_with requests ys) ∙ (ap (λ (l : List AnsweredRead). reads_handled hs ++ l) (sym (noted_reads requests ys zs zip)) ∙ sym (reads_append hs (handled_with requests zs))) in
      let were : ReadsStand opened start clients s.calls log last (reads_handled (hs ++ handled_with requests ys)) = record { right = s.right; readers = s.readers; counted = s.counted } in
      let reads = subst (ReadsStand opened start clients s.calls log last) same_reads were in
      record {
        our = s.our;
        calls = s.calls;
        wrote = s.wrote;
        consistent = subst (λ (cs : List Commit). AreConsistent start clients group_bytes asked cs last (fault_of log) (history turn) s.calls) same s.consistent;
        made_is = s.made_is;
        shown = subst (ShowTheLog (worked_in s.calls)) same_sights s.shown;
        right = reads.right;
        readers = reads.readers;
        counted = reads.counted;
        begins = s.begins;
      }
