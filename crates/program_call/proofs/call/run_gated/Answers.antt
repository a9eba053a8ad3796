-- What is promised over a list of one disk is promised over the disk.
use Rattle.std.proofs.Common.{◌≡◌, ℕ, ◌<◌, min, [], ◌∷◌, ◌++◌, length, refl, ap, sym, ◌∙◌, subst, arith}
use Rattle.log_writer.proofs.Beginning.{leaves_before}
use Rattle.program_call.specs.Answers.{AnswersRun, AnswersGenerate, AnswersRecover}
use Rattle.program_call.specs.Asking.{AskToRun, AskToRecoverLogs}
use Rattle.program_call.specs.Carrying.{RecoversSeveral}
use Rattle.program_call.specs.OneLog.{log_of_run, log_of_generated, log_to_recover}
use Rattle.program_call.specs.SeveralLogs.{logs_to_recover}
use Rattle.program_call.proofs.Answering.{none_answers}
use Rattle.program_call.proofs.Carried.{none_generated, none_replayed}
use Rattle.program_call.proofs.Leaving.{all_unread, none_counted, untouched_alone}
use Rattle.program_call.proofs.OfOne.{nothing_of_one, of_first, of_front, only_one, replay_of_one}
use Rattle.program_call.proofs.Recoveries.{recovers_none}
use Rattle.program_call.proofs.call.run_gated.Goals as goal

-- of one disk no more than one are used
first_used : (logs used : ℕ) → used ≡ min logs 1 → 1 < logs → used ≡ 1
first_used logs used is more = omega (arith, is, more)

-- There is no memory for the list of disks. The disk's laws hold wherever a thread may run, and so in this one.
pub returns-in_default-clause-run : goal.returns-in_default-clause-run
returns-in_default-clause-run g c = λ options start mode ask.
    let disk = c.args.disk in
    let laws = g.met.D.Disk g.world.𝓛 g.world.𝓜 g.world.𝓡 ((λ s x. x), (λ x. x), (λ x. x), λ x. x) in
    let end = c.end_with in
    rw end.ensures.disk (none_answers g.S.Source g.K.Sink c.args.source.now c.args.source.now c.args.sink.now c.args.sink.now (log_of_run g.D.Disk options start mode disk disk) end.result.status end.ensures.status refl refl refl
    (untouched_alone g.D.Disk laws.only_now options start mode disk) refl)

pub returns-in_default-clause-generate : goal.returns-in_default-clause-generate
returns-in_default-clause-generate g c = λ seed clients batches families ask.
    let laws = g.met.D.Disk g.world.𝓛 g.world.𝓜 g.world.𝓡 ((λ s x. x), (λ x. x), (λ x. x), λ x. x) in
    let end = c.end_with in
    rw end.ensures.disk (refl, none_generated g.D.Disk g.K.Sink c.args.sink.now end.result.status end.ensures.status laws.only_now c.args.disk families seed clients batches)

pub returns-in_default-clause-recover : goal.returns-in_default-clause-recover
returns-in_default-clause-recover g c = λ number mode ask.
    let disk = c.args.disk in
    let laws = g.met.D.Disk g.world.𝓛 g.world.𝓜 g.world.𝓡 ((λ s x. x), (λ x. x), (λ x. x), λ x. x) in
    let end = c.end_with in
    rw end.ensures.disk (
      refl,
      recovers_none g.K.Sink c.args.sink.now c.args.sink.now (log_to_recover g.D.Disk number mode disk disk) end.result.status end.ensures.status refl
          (refl, leaves_before g.D.Disk disk (laws.only_now disk)) refl,
    )

pub returns-in_default-clause-recover_logs : goal.returns-in_default-clause-recover_logs
returns-in_default-clause-recover_logs g c = λ mode used ask.
    let disk = c.args.disk in
    let laws = g.met.D.Disk g.world.𝓛 g.world.𝓜 g.world.𝓡 ((λ s x. x), (λ x. x), (λ x. x), λ x. x) in
    let end = c.end_with in
    rw end.ensures.disk (
      refl,
      recovers_none g.K.Sink c.args.sink.now c.args.sink.now (logs_to_recover g.D.Disk mode (disk ∷ []) (disk ∷ [])) end.result.status end.ensures.status refl
          (all_unread g.D.Disk laws.only_now (disk ∷ []) 1 (omega arith) (omega arith)) (none_counted g.D.Disk.faults (disk ∷ [])),
    )

pub returns-in_default-clause-replay : goal.returns-in_default-clause-replay
returns-in_default-clause-replay g c = λ options ask.
    let laws = g.met.D.Disk g.world.𝓛 g.world.𝓜 g.world.𝓡 ((λ s x. x), (λ x. x), (λ x. x), λ x. x) in
    let end = c.end_with in
    rw end.ensures.disk (none_replayed g.S.Source g.D.Disk g.K.Sink c.args.source.now c.args.sink.now end.result.status end.ensures.status laws.only_now c.args.disk options)

-- The list has one disk, before the call and after it.
pub returns-clause-nothing : goal.returns-clause-nothing
returns-clause-nothing g c = λ ask.
    let olds = c.push_reserved.new.self.items in
    let news = c.run_many_gated-status.result.disks.items in
    let ended = c.take_last-disk.result in
    let was = c.push_reserved.ensures.items ∙ ap (λ xs. xs ++ c.args.disk ∷ []) c.in-Ok.ensures.items in
    let is = only_one news c.take_last-disk.new.self.items ended c.take_last-disk.ensures.items (c.run_many_gated-status.ensures.number ∙ ap length was) in
    nothing_of_one olds news c.args.disk ended was is g.S.Source g.K.Sink _ _ _ _ _ (c.run_many_gated-status.ensures.nothing ask)

pub returns-clause-run : goal.returns-clause-run
returns-clause-run g c = λ options start mode ask.
    let olds = c.push_reserved.new.self.items in
    let news = c.run_many_gated-status.result.disks.items in
    let ended = c.take_last-disk.result in
    let was = c.push_reserved.ensures.items ∙ ap (λ xs. xs ++ c.args.disk ∷ []) c.in-Ok.ensures.items in
    let one = ap length was in
    let is = only_one news c.take_last-disk.new.self.items ended c.take_last-disk.ensures.items (c.run_many_gated-status.ensures.number ∙ one) in
    of_first olds news c.args.disk ended was is (λ x y. AnswersRun g.S.Source g.K.Sink c.args.source.now c.run_many_gated-status.new.source c.args.sink.now c.run_many_gated-status.new.sink (log_of_run g.D.Disk options start mode x y) c.run_many_gated-status.result.status)
    (c.run_many_gated-status.ensures.run options start mode (subst (λ m. AskToRun c.args.words.now m options start mode) (sym one) ask))

pub returns-clause-generate : goal.returns-clause-generate
returns-clause-generate g c = λ seed clients batches families ask.
    let olds = c.push_reserved.new.self.items in
    let news = c.run_many_gated-status.result.disks.items in
    let ended = c.take_last-disk.result in
    let was = c.push_reserved.ensures.items ∙ ap (λ xs. xs ++ c.args.disk ∷ []) c.in-Ok.ensures.items in
    let is = only_one news c.take_last-disk.new.self.items ended c.take_last-disk.ensures.items (c.run_many_gated-status.ensures.number ∙ ap length was) in
    of_first olds news c.args.disk ended was is (λ x y. AnswersGenerate g.S.Source g.K.Sink c.args.source.now c.run_many_gated-status.new.source c.args.sink.now c.run_many_gated-status.new.sink (log_of_generated g.D.Disk families x y) seed clients batches c.run_many_gated-status.result.status)
    (c.run_many_gated-status.ensures.generate seed clients batches families ask)

pub returns-clause-recover : goal.returns-clause-recover
returns-clause-recover g c = λ number mode ask.
    let olds = c.push_reserved.new.self.items in
    let news = c.run_many_gated-status.result.disks.items in
    let ended = c.take_last-disk.result in
    let was = c.push_reserved.ensures.items ∙ ap (λ xs. xs ++ c.args.disk ∷ []) c.in-Ok.ensures.items in
    let is = only_one news c.take_last-disk.new.self.items ended c.take_last-disk.ensures.items (c.run_many_gated-status.ensures.number ∙ ap length was) in
    of_first olds news c.args.disk ended was is (λ x y. AnswersRecover g.S.Source g.K.Sink c.args.source.now c.run_many_gated-status.new.source c.args.sink.now c.run_many_gated-status.new.sink (log_to_recover g.D.Disk number mode x y) c.run_many_gated-status.result.status)
    (c.run_many_gated-status.ensures.recover number mode ask)

pub returns-clause-recover_logs : goal.returns-clause-recover_logs
returns-clause-recover_logs g c = λ mode used ask.
    let olds = c.push_reserved.new.self.items in
    let news = c.run_many_gated-status.result.disks.items in
    let ended = c.take_last-disk.result in
    let was = c.push_reserved.ensures.items ∙ ap (λ xs. xs ++ c.args.disk ∷ []) c.in-Ok.ensures.items in
    let one = ap length was in
    let is = only_one news c.take_last-disk.new.self.items ended c.take_last-disk.ensures.items (c.run_many_gated-status.ensures.number ∙ one) in
    let more = ask.2.2 in
    let used_is = ask.2.3 in
    let front = subst (λ u. RecoversSeveral g.S.Source g.D.Disk g.K.Sink c.args.source.now c.run_many_gated-status.new.source c.args.sink.now c.run_many_gated-status.new.sink olds news c.run_many_gated-status.result.status mode u) (first_used ask.2.0 used used_is more)
    (c.run_many_gated-status.ensures.recover_logs mode used (subst (λ m. AskToRecoverLogs c.args.words.now m mode used) (sym one) ask)) in
    of_front olds news c.args.disk ended was is (λ xs ys. AnswersRecover g.S.Source g.K.Sink c.args.source.now c.run_many_gated-status.new.source c.args.sink.now c.run_many_gated-status.new.sink (logs_to_recover g.D.Disk mode xs ys) c.run_many_gated-status.result.status) front

pub returns-clause-replay : goal.returns-clause-replay
returns-clause-replay g c = λ options ask.
    let olds = c.push_reserved.new.self.items in
    let news = c.run_many_gated-status.result.disks.items in
    let ended = c.take_last-disk.result in
    let was = c.push_reserved.ensures.items ∙ ap (λ xs. xs ++ c.args.disk ∷ []) c.in-Ok.ensures.items in
    let is = only_one news c.take_last-disk.new.self.items ended c.take_last-disk.ensures.items (c.run_many_gated-status.ensures.number ∙ ap length was) in
    replay_of_one olds news c.args.disk ended was is g.S.Source g.K.Sink _ _ _ _ _ options (c.run_many_gated-status.ensures.replay options ask)
