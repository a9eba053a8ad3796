use Rattle.std.proofs.Common.{◌∷◌, [], refl, sym, subst}
use Rattle.model_base.specs.declared.write.Refusal.TheVariants.{NoFamily}
use Rattle.model_base.specs.Map.{key_at}
use Rattle.model_base.specs.Calls as calls
use Rattle.base_bytes.specs.Answers.{found_value}
use Rattle.base_bytes.specs.declared.answers.Read.{Read}
use Rattle.run_outcome.specs.Shows.{ShowsReply}
use Rattle.run_outcome.specs.declared.reply.Reply.{Reply}
use Rattle.run_outcome.proofs.Replies.{shows_found}
use Rattle.run_threads.proofs.ReadFamilies.{all_there, there_but_no_memory, first_is_missing}
use Rattle.run_threads.proofs.reading.get.Goals as goal

pub returns-in-Ok-clause-answers : goal.returns-in-Ok-clause-answers
returns-in-Ok-clause-answers g c = λ pending.
    let settings = g.E.Engine.settings c.args.engine.now in
    let v = g.E.Engine.account c.args.client.now in
    let w = g.E.Engine.account c.get_in.new.client in
    let read = c.in-Ok.read in
    let said = c.in-Ok.ensures in
    record {
      reply = calls.found read.at (found_value read.value);
      shows = subst (λ (r : Reply). ShowsReply r (record { command = calls.get (key_at c.args.family c.args.key.now); reply = calls.found read.at (found_value read.value) }))
          (sym c.found.ensures) (shows_found read.at (found_value read.value) _ refl);
      goes = c.reads_are_steps.ensures.get settings v pending (key_at c.args.family c.args.key.now) read.at (found_value read.value) w
          (all_there settings (c.args.family ∷ []) read said.family) said.keeps said.ok;
    }

pub returns-in-Err-NoMemory-clause-answers : goal.returns-in-Err-NoMemory-clause-answers
returns-in-Err-NoMemory-clause-answers g c = λ pending.
    let settings = g.E.Engine.settings c.args.engine.now in
    record { keeps = c.in-Err-NoMemory.ensures.keeps; may = λ shown. there_but_no_memory Read settings (c.args.family ∷ []) (rw c.in-Err-NoMemory.field-0-is at c.in-Err-NoMemory.ensures.family) }

pub returns-in-Err-NoFamily-clause-answers : goal.returns-in-Err-NoFamily-clause-answers
returns-in-Err-NoFamily-clause-answers g c = λ pending.
    let settings = g.E.Engine.settings c.args.engine.now in
    let v = g.E.Engine.account c.args.client.now in
    let w = g.E.Engine.account c.get_in.new.client in
    let family = c.in-Err-NoFamily.family in
    let said = c.in-Err-NoFamily.ensures in
    record {
      reply = calls.refused (NoFamily family);
      shows = refl;
      goes = c.refused_reads_are_steps.ensures.get settings v pending (key_at c.args.family c.args.key.now) family w
          (first_is_missing Read settings (c.args.family ∷ []) family (rw c.in-Err-NoFamily.field-0-is at said.family)) said.keeps;
    }
