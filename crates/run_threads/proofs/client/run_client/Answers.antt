use Rattle.std.proofs.Common.{◌≡◌, ℕ, ◌∷◌, [], ◌++◌, List, length, ap, sym, ◌∙◌, subst, arith, refl, append_assoc}
use Rattle.std.proofs.lemmas.List.{append-nil}
use Rattle.model_base.specs.Calls.{Command}
use Rattle.run_command_list.specs.Views.{command_of}
use Rattle.run_threads.specs.Answers.{records_in, accepted_in, ShowsAccepted, HasRoom}
use Rattle.run_threads.specs.Transcripts.{HasGone, through, short}
use Rattle.run_threads.proofs.Rooms.{has_room, fits_still}
use Rattle.run_threads.proofs.Going.{gone_none, gone_more, has_told}
use Rattle.run_threads.proofs.client.run_client.Goals as goal

pub loop-command-init : goal.loop-command-init
loop-command-init g c =
    let settings = g.E.Engine.settings c.args.engine.now in
    let number = c.args.number in
    let all : c.into_iter-command-iterator.result ≡ c.args.commands.now = c.into_iter-command-iterator.ensures.into_iter_gives ∙ c.commands-command-items.ensures.value in
    let empty = c.requires.empty in
    let none = c.requires.no_batches in
    record {
      belongs = c.requires.belongs;
      gone = record {
        done = [];
        splits = all;
        gone = rw (c.requires.new, c.requires.none, none.1) (gone_none settings number _ refl (c.calls_one_after_another.ensures.no_call settings settings.start settings.opening number));
      };
      accepted = rw (c.requires.new, none.0) tt;
      fits = rw (none.1, all) c.requires.fits;
      count = omega (arith, ap length all);
      told = omega (arith, empty, ap length all);
      room = c.requires.room;
    }

pub loop-command-preserved : goal.loop-command-preserved
loop-command-preserved g c =
    let settings = g.E.Engine.settings c.args.engine.now in
    let command = command_of c.in-Some.command in
    let left = c.next.new.self in
    let first : c.loop-command.command-iterator ≡ command ∷ left = c.in-Some.ensures.steps in
    let pending = records_in c.loop-command.batches.current in
    let before = g.E.Engine.account c.loop-command.client in
    let w = g.E.Engine.account c.answer.new.client in
    let after = records_in c.answer.new.batches.current in
    let so_far = c.loop-command.invariant.gone in
    let gone = so_far.gone in
    let goes = c.in-Ok.ensures.answers in
    let fits = subst (HasRoom pending) first c.loop-command.invariant.fits in
    let count = c.loop-command.invariant.count in
    let told = c.loop-command.invariant.told in
    record {
      belongs = c.in-Ok.ensures.belongs;
      gone = record {
        done = so_far.done ++ command ∷ [];
        splits = append_assoc so_far.done (command ∷ []) left ∙ (ap (λ (l : List Command). so_far.done ++ l) (sym first) ∙ so_far.splits);
        gone = rw c.tell-in-loop-command.ensures.items
            (gone_more settings c.args.number so_far.done c.loop-command.replies.items before pending gone command c.in-Ok.told w after goes
            (c.calls_one_after_another.ensures.one_more settings gone.calls before pending command goes.reply w after gone.went goes.goes));
      };
      accepted = subst (λ (n : ℕ). ShowsAccepted n (accepted_in c.answer.new.batches) w.mine) gone.number c.in-Ok.ensures.entries;
      fits = fits_still pending command left fits after c.in-Ok.ensures.left;
      count = omega (arith, count, ap length first);
      told = omega (arith, c.tell-in-loop-command.ensures.len, told, ap length first);
      room = omega (arith, c.tell-in-loop-command.ensures.capacity, c.loop-command.invariant.room);
    }

pub answer-requires : goal.answer-requires
answer-requires g c =
    let command = command_of c.in-Some.command in
    let left = c.next.new.self in
    let first : c.loop-command.command-iterator ≡ command ∷ left = c.in-Some.ensures.steps in
    let pending = records_in c.loop-command.batches.current in
    let mine = (g.E.Engine.account c.loop-command.client).mine in
    record {
      belongs = c.loop-command.invariant.belongs;
      entries = subst (λ (n : ℕ). ShowsAccepted n (accepted_in c.loop-command.batches) mine) (sym c.loop-command.invariant.gone.gone.number) c.loop-command.invariant.accepted;
      fits = has_room pending command left (subst (HasRoom pending) first c.loop-command.invariant.fits);
    }

pub returns-in_default-clause-told : goal.returns-in_default-clause-told
returns-in_default-clause-told g c =
    let settings = g.E.Engine.settings c.args.engine.now in
    let so_far = c.loop-command.invariant.gone in
    let stopped = short so_far.done (command_of c.in-Some.command) c.next.new.self c.loop-command.replies.items (records_in c.loop-command.batches.current) (g.E.Engine.account c.loop-command.client)
    (sym so_far.splits ∙ ap (λ (l : List Command). so_far.done ++ l) c.in-Some.ensures.steps) c.tell.ensures.items so_far.gone c.in_default.ensures.answers in
    has_told settings c.args.number c.args.commands.now c.tell.new.replies.items (g.E.Engine.account c.answer.new.client) (g.E.Engine.account c.end.new.client)
    (c.runs_end.ensures.whole settings) (c.runs_end.ensures.cut_off settings) stopped c.end.ensures.back

pub returns-in_default-clause-accepted : goal.returns-in_default-clause-accepted
returns-in_default-clause-accepted g c =
    rw c.end.ensures.back.mine (subst (λ (n : ℕ). ShowsAccepted n (accepted_in c.answer.new.batches) (g.E.Engine.account c.answer.new.client).mine) c.loop-command.invariant.gone.gone.number c.in_default.ensures.entries)

pub returns-clause-told : goal.returns-clause-told
returns-clause-told g c =
    let settings = g.E.Engine.settings c.args.engine.now in
    let so_far = c.loop-command.invariant.gone in
    let all : so_far.done ≡ c.args.commands.now = sym (append-nil so_far.done) ∙ (ap (λ (l : List Command). so_far.done ++ l) (sym c.in-None.ensures.steps.0) ∙ so_far.splits) in
    let gone = subst (λ (l : List Command). HasGone settings c.args.number l c.loop-command.replies.items (g.E.Engine.account c.loop-command.client) (records_in c.loop-command.batches.current)) all so_far.gone in
    has_told settings c.args.number c.args.commands.now c.loop-command.replies.items (g.E.Engine.account c.loop-command.client) (g.E.Engine.account c.end-2.new.client)
    (c.runs_end.ensures.whole settings) (c.runs_end.ensures.cut_off settings) (through (records_in c.loop-command.batches.current) gone) c.end-2.ensures.back
