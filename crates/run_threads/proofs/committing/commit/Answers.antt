use Rattle.std.proofs.Common.{◌≡◌, ◌++◌, [], List, refl, ap, sym, ◌∙◌, subst, arith, inr}
use Rattle.std.proofs.lemmas.List.{append-nil}
use Rattle.model_base.specs.declared.write.Refusal.TheVariants.{Empty}
use Rattle.model_base.specs.Calls as calls
use Rattle.model_base.specs.History.{Entry}
use Rattle.log_batch.specs.Contents.{Contents}
use Rattle.run_batches.specs.declared.accepted.AcceptedBatch.{AcceptedBatch}
use Rattle.run_threads.specs.declared.batches.CurrentBatch.{CurrentBatch}
use Rattle.run_threads.specs.declared.batches.CurrentBatch.TheVariants.{Pending}
use Rattle.run_threads.specs.Answers.{records_in, last_accepted, ShowsAccepted}
use Rattle.run_threads.proofs.Entries.{kept_more, refused_entries}
use Rattle.run_threads.proofs.Hands.{none_pending, kept_with_pending}
use Rattle.run_threads.proofs.committing.commit.Goals as goal

-- no batch is in the making
pub returns-in_default-clause-answers : goal.returns-in_default-clause-answers
returns-in_default-clause-answers g c =
    let settings = g.E.Engine.settings c.args.engine.now in
    let v = g.E.Engine.account c.args.client.now in
    let current = c.replace.result in
    let none = none_pending current c.in_default.not-Pending in
    rw (← c.replace.ensures.value, none) (record {
      reply = calls.refused Empty;
      shows = refl;
      goes = c.commits_are_steps.ensures.refused settings v [] c.args.options Empty v (λ e. absurd (cc e))
          (refl, record { number = refl; mine = refl; ends = refl; asked = refl; attempts = refl; read_faults = refl; seen = c.earlier_sights.ensures.same v.seen; tokens = g.E.Engine.own_tokens c.args.engine.now c.args.client.now c.requires.belongs });
    })

pub returns-in-Ok-clause-answers : goal.returns-in-Ok-clause-answers
returns-in-Ok-clause-answers g c =
    let settings = g.E.Engine.settings c.args.engine.now in
    let v = g.E.Engine.account c.args.client.now in
    let w = g.E.Engine.account c.write.new.client in
    let batch = c.in-Pending.batch in
    let receipt = c.in-Ok.receipt in
    let was : c.args.batches.now.current ≡ Pending batch = cc (c.replace.ensures.value, c.in-Pending.is) in
    let wrote = c.in-Ok.ensures.ok in
    rw was (record {
      reply = calls.accepted receipt.run.first receipt.run.last batch.records;
      shows = (batch.records, refl);
      goes = c.commits_are_steps.ensures.accepted settings v batch.records c.args.options receipt.run.first receipt.run.last receipt.group_last w c.in-Ok.ensures.back.1 wrote;
    })

pub returns-in-Ok-clause-entries : goal.returns-in-Ok-clause-entries
returns-in-Ok-clause-entries g c =
    let v = g.E.Engine.account c.args.client.now in
    let batch = c.in-Pending.batch in
    let receipt = c.in-Ok.receipt in
    let list = c.args.batches.now.list in
    let was : c.args.batches.now.current ≡ Pending batch = cc (c.replace.ensures.value, c.in-Pending.is) in
    let wrote = c.in-Ok.ensures.ok in
    let counted = c.in-Ok.ensures.back.1 in
    let before = subst (λ (l : List (AcceptedBatch Contents)). ShowsAccepted v.number l v.mine) (kept_with_pending list c.args.batches.now.current batch was) c.requires.entries in
    rw wrote.mine (kept_more v.number receipt.run.first v.mine c.args.options batch.records list (record { flag = c.flag_of.result; batch = receipt.batch }) before c.flag_of.ensures c.in-Ok.ensures.back.0 wrote.some (let small = c.has_64_bits.ensures in omega (arith, counted, small)))

pub returns-in-NoMemory-clause-answers : goal.returns-in-NoMemory-clause-answers
returns-in-NoMemory-clause-answers g c =
    let was : c.args.batches.now.current ≡ Pending c.in-Pending.batch = cc (c.replace.ensures.value, c.in-Pending.is) in
    rw was (c.commits_are_steps.ensures.out_of_memory (g.E.Engine.settings c.args.engine.now) (g.E.Engine.account c.args.client.now) c.in-Pending.batch.records c.args.options (g.E.Engine.account c.write.new.client)
    (rw c.in-NoMemory.is at c.in-Err.ensures.err))

pub returns-in_default-why : goal.returns-in_default-why
returns-in_default-why g c =
    let settings = g.E.Engine.settings c.args.engine.now in
    let v = g.E.Engine.account c.args.client.now in
    let w = g.E.Engine.account c.write.new.client in
    let batch = c.in-Pending.batch in
    let why = c.in-Err.refused.why in
    let was : c.args.batches.now.current ≡ Pending batch = cc (c.replace.ensures.value, c.in-Pending.is) in
    let back : Pending c.in-Err.refused.batch ≡ c.args.batches.now.current = ap Pending c.in-Err.ensures.unchanged ∙ sym was in
    let refuses = c.in-Err.ensures.err in
    let list = c.args.batches.now.list in
    record {
      belongs = c.in-Err.ensures.belongs;
      answers = rw (c.in-Err.ensures.unchanged, was) (record {
        reply = calls.refused why;
        shows = refl;
        goes = c.commits_are_steps.ensures.refused settings v batch.records c.args.options why w c.in_default-why.not-NoMemory refuses;
      });
      left = inr (ap records_in back ∙ sym (append-nil (records_in c.args.batches.now.current)));
      entries = subst (λ (mine : List Entry). ShowsAccepted v.number (list ++ []) mine) (sym (refused_entries settings v batch.records c.args.options why w refuses))
          (subst (λ (a : CurrentBatch). ShowsAccepted v.number (list ++ last_accepted a) v.mine) (sym back) c.requires.entries);
    }
