-- The keys are read at their places.
use Rattle.std.proofs.Common.{◌≡◌, map, refl, sym, ◌∙◌, subst}
use Rattle.std.proofs.lemmas.Result.{err_from_is_err_and}
use Rattle.base_bytes.specs.declared.answers.Place.{Place}
use Rattle.base_bytes.specs.declared.answers.Reads.{Reads as FoundReads}
use Rattle.model_base.specs.declared.write.Refusal.TheVariants.{NoFamily}
use Rattle.model_base.specs.Map.{Pairs, key_at}
use Rattle.model_base.specs.Calls as calls
use Rattle.model_accounts.specs.Accounts.{Reads}
use Rattle.run_threads.proofs.ReadFamilies.{all_there, there_but_no_memory, first_is_missing, families_at, values_at}
use Rattle.run_threads.proofs.reading.get_many.Goals as goal

-- the first missing family is found before the keys are copied
pub returns-in-Some-clause-answers : goal.returns-in-Some-clause-answers
returns-in-Some-clause-answers g c = λ pending.
    let settings = g.E.Engine.settings c.args.engine.now in
    let v = g.E.Engine.account c.args.client.now in
    let family = c.in-Some.family in
    record {
      reply = calls.refused (NoFamily family);
      shows = refl;
      goes = c.refused_reads_are_steps.ensures.many settings v pending c.args.keys family v
          (sym (rw c.families.ensures at c.missing_family.ensures) ∙ c.in-Some.is)
          (record { number = refl; mine = refl; ends = refl; asked = refl; attempts = refl; read_faults = refl; seen = c.earlier_sights.ensures.same v.seen; tokens = g.E.Engine.own_tokens c.args.engine.now c.args.client.now c.requires });
    }

-- there is no memory for the copies
pub returns-in_err-places-clause-answers : goal.returns-in_err-places-clause-answers
returns-in_err-places-clause-answers g c = λ pending.
    let v = g.E.Engine.account c.args.client.now in
    let exit = err_from_is_err_and c.from_residual.result c.from_residual.ensures.1 in
    rw exit.1 (record {
      keeps = record { number = refl; mine = refl; ends = refl; asked = refl; attempts = refl; read_faults = refl; seen = c.earlier_sights.ensures.same v.seen; tokens = g.E.Engine.own_tokens c.args.engine.now c.args.client.now c.requires };
      may = λ shown. sym (rw c.families.ensures at c.missing_family.ensures) ∙ c.in_default.is;
    })

pub returns-in-Ok-clause-answers : goal.returns-in-Ok-clause-answers
returns-in-Ok-clause-answers g c = λ pending.
    let settings = g.E.Engine.settings c.args.engine.now in
    let v = g.E.Engine.account c.args.client.now in
    let w = g.E.Engine.account c.get_many_in.new.client in
    let places = c.as_slice.result.now in
    let keys = c.args.keys in
    let reads = c.in-Ok.reads in
    let said = c.in-Ok.ensures in
    let are : map (λ (p : Place). key_at p.family p.key) places ≡ keys = rw c.as_slice.ensures.value c.in_ok-places.ensures in
    let there = all_there settings (map (λ (p : Place). p.family) places) reads said.family in
    record {
      reply = calls.found_each reads.at reads.values;
      shows = refl;
      goes = c.reads_are_steps.ensures.many settings v pending keys reads.at reads.values w (rw (families_at places keys are) at there) said.keeps
          (subst (λ (answers : Pairs → Type 0). Reads reads.at answers w) (λ i m. reads.values ≡ values_at m places keys are i) said.ok);
    }

pub returns-in-Err-NoMemory-clause-answers : goal.returns-in-Err-NoMemory-clause-answers
returns-in-Err-NoMemory-clause-answers g c = λ pending.
    let settings = g.E.Engine.settings c.args.engine.now in
    let places = c.as_slice.result.now in
    let are : map (λ (p : Place). key_at p.family p.key) places ≡ c.args.keys = rw c.as_slice.ensures.value c.in_ok-places.ensures in
    let there = there_but_no_memory FoundReads settings (map (λ (p : Place). p.family) places) (rw c.in-Err-NoMemory.field-0-is at c.in-Err-NoMemory.ensures.family) in
    record { keeps = c.in-Err-NoMemory.ensures.keeps; may = λ shown. rw (families_at places c.args.keys are) at there }

pub returns-clause-answers : goal.returns-clause-answers
returns-clause-answers g c = λ pending.
    let settings = g.E.Engine.settings c.args.engine.now in
    let v = g.E.Engine.account c.args.client.now in
    let w = g.E.Engine.account c.get_many_in.new.client in
    let places = c.as_slice.result.now in
    let family = c.in-Err-NoFamily.family in
    let said = c.in-Err-NoFamily.ensures in
    let are : map (λ (p : Place). key_at p.family p.key) places ≡ c.args.keys = rw c.as_slice.ensures.value c.in_ok-places.ensures in
    let first = first_is_missing FoundReads settings (map (λ (p : Place). p.family) places) family (rw c.in-Err-NoFamily.field-0-is at said.family) in
    record {
      reply = calls.refused (NoFamily family);
      shows = refl;
      goes = c.refused_reads_are_steps.ensures.many settings v pending c.args.keys family w (rw (families_at places c.args.keys are) at first) said.keeps;
    }
