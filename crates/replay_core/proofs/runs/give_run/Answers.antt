use Rattle.std.proofs.Common.{◌≡◌, ◌+◌, ◌≤◌, ◌^◌, ◌-◌, ◌==◌, ◌++◌, ◌∷◌, [], ℕ, List, Some, map, take, vec_len, sym, ap, ◌∙◌, subst, arith}
use Rattle.std.specs.Prelude.{count_by, vec_capacity}
use Rattle.model_base.specs.declared.write.Refusal.{Refusal}
use Rattle.log_batch.specs.declared.run.Run.{Run}
use Rattle.model_core.specs.Core as core
use Rattle.replay_core.specs.declared.writer.Writer.{Writer}
use Rattle.replay_core.specs.declared.writer.Answer.TheVariants.{Accepted, Refused}
use Rattle.replay_core.specs.Runs.{GotRuns}
use Rattle.replay_core.specs.Shown.{CoreEntry, shown_entry}
use Rattle.replay_core.proofs.RunLemmas.{got_run, got_refusal, ordinal_is, new_entry, run_behind}
use Rattle.replay_core.proofs.OrdinalLemmas.{prefix_push}
use Rattle.replay_core.proofs.runs.give_run.Goals as goal

pub returns-clause-got : goal.returns-clause-got
returns-clause-got c = λ plans s counted e room.
    let w = c.args.writer.now in
    let last : ℕ = c.args.last in
    let front : List CoreEntry = c.args.entries.now.items in
    let before : List CoreEntry = take c.args.before front in
    let run = c.in-Ok.run' in
    let first : run.first ≡ last + 1 = c.in-Ok.ensures.first in
    let end : run.last ≡ last + w.count = c.in-Ok.ensures.last in
    let is : run ≡ run_behind last w = λ i. record { first = first i; last = end i } in
    let fits : last + w.count ≤ 2 ^ 56 - 1 = omega (arith, c.in-Ok.ensures.fits, end) in
    let n : ℕ = c.accepted_before.result in
    let counted_before : n ≡ count_by (λ (e : CoreEntry). e.client == w.client) before = c.accepted_before.ensures.counted ∙ ap (λ es. count_by (λ (e : CoreEntry). e.client == w.client) (take c.args.before es)) c.deref.ensures.value in
    let nth : n + 1 ≡ core.ordinal_at s w.client = ordinal_is plans s w.client n before e counted_before in
    let pushed : c.push_within.new.items.items ≡ front ++ new_entry (n + 1) last w ∷ [] =
    c.push_within.ensures.pushed room
    ∙ ap (λ flag. front ++ record { client = w.client; ordinal = n + 1; run = run; flag = flag; batch = w.batch } ∷ []) c.flag_of.ensures
    ∙ ap (λ (k : Run). front ++ record (new_entry (n + 1) last w) { run = k } ∷ []) is in
    let v : Run → Writer = λ k. record { client = w.client; options = w.options; batch = w.batch; count = w.count; since = w.since; answer = Some (Accepted k) } in
    let G : List CoreEntry → Run → Type 0 = λ es k. GotRuns plans s (map (shown_entry plans) front) last (w ∷ []) (v k ∷ []) es k.last in
    let new : List CoreEntry = c.push_within.new.items.items in
    let P : List CoreEntry → Type 0 = λ es. G es (run_behind last w) in
    subst (G new) (sym is) (subst P (sym pushed) (got_run plans s last (n + 1) w front counted fits nth))

pub returns-clause-front : goal.returns-clause-front
returns-clause-front c =
    let old = c.args.entries.now in
    prefix_push c.args.before (vec_len old) (vec_capacity old) old.items c.push_within.new.items.items _ (omega (arith, c.requires.known, old.ok.0)) c.push_within.ensures.pushed c.push_within.ensures.full

pub returns-in-Err-clause-got : goal.returns-in-Err-clause-got
returns-in-Err-clause-got c = λ plans s counted e room.
    let w = c.args.writer.now in
    let entries : List CoreEntry = c.args.entries.now.items in
    let v : Refusal → Writer = λ y. record { client = w.client; options = w.options; batch = w.batch; count = w.count; since = w.since; answer = Some (Refused y) } in
    let P : Refusal → Type 0 = λ y. GotRuns plans s (map (shown_entry plans) entries) c.args.last (w ∷ []) (v y ∷ []) entries c.args.last in
    subst P (sym c.in-Err.ensures.full) (got_refusal plans s c.args.last w entries counted (omega (arith, c.in-Err.ensures.passed)))
