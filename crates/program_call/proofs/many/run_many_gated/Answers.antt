-- Lawful words ask for what is carried out, and for nothing else. Unlawful ones ask for nothing.
use Rattle.std.proofs.Common.{length, refl}
use Rattle.program_call.specs.Asking.{IsToRun, IsToRunLogs, IsToGenerate, IsToRecover, IsToRecoverLogs, IsToReplay}
use Rattle.program_call.proofs.Carried.{asked_generate, asked_recover, asked_recover_logs, asked_replay, asked_run, asked_run_logs, none_asked, not_nothing, nothing_else, of_asked}
use Rattle.program_call.proofs.many.run_many_gated.Goals as goal

pub returns-in-Ok-clause-nothing : goal.returns-in-Ok-clause-nothing
returns-in-Ok-clause-nothing g c = λ asked. absurd (not_nothing _ _ c.in-Ok.ensures.ok asked)

pub returns-in-Ok-clause-run : goal.returns-in-Ok-clause-run
returns-in-Ok-clause-run g c = λ options start mode ask.
    asked_run _ _ _ _ _ _ _ _ _ _ c.in-Ok.asked c.carry_out.ensures.answers options start mode
    (of_asked _ c.in-Ok.asked (λ asked. IsToRun asked (length c.args.disks.items) options start mode) c.in-Ok.ensures.ok ask)

pub returns-in-Ok-clause-run_logs : goal.returns-in-Ok-clause-run_logs
returns-in-Ok-clause-run_logs g c = λ options used limit ask.
    asked_run_logs _ _ _ _ _ _ _ _ _ _ c.in-Ok.asked c.carry_out.ensures.answers options used limit
    (of_asked _ c.in-Ok.asked (λ asked. IsToRunLogs asked (length c.args.disks.items) options used limit) c.in-Ok.ensures.ok ask)

pub returns-in-Ok-clause-generate : goal.returns-in-Ok-clause-generate
returns-in-Ok-clause-generate g c = λ seed clients batches families ask.
    asked_generate _ _ _ _ _ _ _ _ _ _ c.in-Ok.asked c.carry_out.ensures.answers seed clients batches families
    (of_asked _ c.in-Ok.asked (λ asked. IsToGenerate asked seed clients batches families) c.in-Ok.ensures.ok ask)

pub returns-in-Ok-clause-recover : goal.returns-in-Ok-clause-recover
returns-in-Ok-clause-recover g c = λ number mode ask.
    asked_recover _ _ _ _ _ _ _ _ _ _ c.in-Ok.asked c.carry_out.ensures.answers number mode
    (of_asked _ c.in-Ok.asked (λ asked. IsToRecover asked number mode) c.in-Ok.ensures.ok ask)

pub returns-in-Ok-clause-recover_logs : goal.returns-in-Ok-clause-recover_logs
returns-in-Ok-clause-recover_logs g c = λ mode used ask.
    asked_recover_logs _ _ _ _ _ _ _ _ _ _ c.in-Ok.asked c.carry_out.ensures.answers mode used
    (of_asked _ c.in-Ok.asked (λ asked. IsToRecoverLogs asked (length c.args.disks.items) mode used) c.in-Ok.ensures.ok ask)

pub returns-in-Ok-clause-replay : goal.returns-in-Ok-clause-replay
returns-in-Ok-clause-replay g c = λ options ask.
    asked_replay _ _ _ _ _ _ _ _ _ _ c.in-Ok.asked c.carry_out.ensures.answers options
    (of_asked _ c.in-Ok.asked (λ asked. IsToReplay asked options) c.in-Ok.ensures.ok ask)

pub returns-in-Err-Usage-clause-run : goal.returns-in-Err-Usage-clause-run
returns-in-Err-Usage-clause-run g c = λ options start mode ask. absurd (nothing_else _ _ ((rw c.in-Err-Usage.field-0-is at c.in-Err-Usage.ensures.usage) refl) ask)

pub returns-in-Err-Usage-clause-run_logs : goal.returns-in-Err-Usage-clause-run_logs
returns-in-Err-Usage-clause-run_logs g c = λ options used limit ask. absurd (nothing_else _ _ ((rw c.in-Err-Usage.field-0-is at c.in-Err-Usage.ensures.usage) refl) ask)

pub returns-in-Err-Usage-clause-generate : goal.returns-in-Err-Usage-clause-generate
returns-in-Err-Usage-clause-generate g c = λ seed clients batches families ask. absurd (nothing_else _ _ ((rw c.in-Err-Usage.field-0-is at c.in-Err-Usage.ensures.usage) refl) ask)

pub returns-in-Err-Usage-clause-recover : goal.returns-in-Err-Usage-clause-recover
returns-in-Err-Usage-clause-recover g c = λ number mode ask. absurd (nothing_else _ _ ((rw c.in-Err-Usage.field-0-is at c.in-Err-Usage.ensures.usage) refl) ask)

pub returns-in-Err-Usage-clause-recover_logs : goal.returns-in-Err-Usage-clause-recover_logs
returns-in-Err-Usage-clause-recover_logs g c = λ mode used ask. absurd (nothing_else _ _ ((rw c.in-Err-Usage.field-0-is at c.in-Err-Usage.ensures.usage) refl) ask)

pub returns-in-Err-Usage-clause-replay : goal.returns-in-Err-Usage-clause-replay
returns-in-Err-Usage-clause-replay g c = λ options ask. absurd (nothing_else _ _ ((rw c.in-Err-Usage.field-0-is at c.in-Err-Usage.ensures.usage) refl) ask)

-- The disk's laws hold wherever a thread may run, and so in this one.
pub returns-clause-run : goal.returns-clause-run
returns-clause-run g c = λ options start mode ask.
    let laws = g.met.D.Disk g.world.𝓛 g.world.𝓜 g.world.𝓡 ((λ s x. x), (λ x. x), (λ x. x), λ x. x) in
    let end = c.end_many-in-Err-NoMemory in
    let none = none_asked g.S.Source g.D.Disk g.K.Sink c.args.source.now c.args.sink.now end.result.status end.ensures.status laws.only_now c.args.disks.items c.requires.0 ask.0 in
    rw end.ensures.disks (asked_run _ _ _ _ _ _ _ _ _ _ ask.0 none options start mode ask.2)

pub returns-clause-run_logs : goal.returns-clause-run_logs
returns-clause-run_logs g c = λ options used limit ask.
    let laws = g.met.D.Disk g.world.𝓛 g.world.𝓜 g.world.𝓡 ((λ s x. x), (λ x. x), (λ x. x), λ x. x) in
    let end = c.end_many-in-Err-NoMemory in
    let none = none_asked g.S.Source g.D.Disk g.K.Sink c.args.source.now c.args.sink.now end.result.status end.ensures.status laws.only_now c.args.disks.items c.requires.0 ask.0 in
    rw end.ensures.disks (asked_run_logs _ _ _ _ _ _ _ _ _ _ ask.0 none options used limit ask.2)

pub returns-clause-generate : goal.returns-clause-generate
returns-clause-generate g c = λ seed clients batches families ask.
    let laws = g.met.D.Disk g.world.𝓛 g.world.𝓜 g.world.𝓡 ((λ s x. x), (λ x. x), (λ x. x), λ x. x) in
    let end = c.end_many-in-Err-NoMemory in
    let none = none_asked g.S.Source g.D.Disk g.K.Sink c.args.source.now c.args.sink.now end.result.status end.ensures.status laws.only_now c.args.disks.items c.requires.0 ask.0 in
    rw end.ensures.disks (asked_generate _ _ _ _ _ _ _ _ _ _ ask.0 none seed clients batches families ask.2)

pub returns-clause-recover : goal.returns-clause-recover
returns-clause-recover g c = λ number mode ask.
    let laws = g.met.D.Disk g.world.𝓛 g.world.𝓜 g.world.𝓡 ((λ s x. x), (λ x. x), (λ x. x), λ x. x) in
    let end = c.end_many-in-Err-NoMemory in
    let none = none_asked g.S.Source g.D.Disk g.K.Sink c.args.source.now c.args.sink.now end.result.status end.ensures.status laws.only_now c.args.disks.items c.requires.0 ask.0 in
    rw end.ensures.disks (asked_recover _ _ _ _ _ _ _ _ _ _ ask.0 none number mode ask.2)

pub returns-clause-recover_logs : goal.returns-clause-recover_logs
returns-clause-recover_logs g c = λ mode used ask.
    let laws = g.met.D.Disk g.world.𝓛 g.world.𝓜 g.world.𝓡 ((λ s x. x), (λ x. x), (λ x. x), λ x. x) in
    let end = c.end_many-in-Err-NoMemory in
    let none = none_asked g.S.Source g.D.Disk g.K.Sink c.args.source.now c.args.sink.now end.result.status end.ensures.status laws.only_now c.args.disks.items c.requires.0 ask.0 in
    rw end.ensures.disks (asked_recover_logs _ _ _ _ _ _ _ _ _ _ ask.0 none mode used ask.2)

pub returns-clause-replay : goal.returns-clause-replay
returns-clause-replay g c = λ options ask.
    let laws = g.met.D.Disk g.world.𝓛 g.world.𝓜 g.world.𝓡 ((λ s x. x), (λ x. x), (λ x. x), λ x. x) in
    let end = c.end_many-in-Err-NoMemory in
    let none = none_asked g.S.Source g.D.Disk g.K.Sink c.args.source.now c.args.sink.now end.result.status end.ensures.status laws.only_now c.args.disks.items c.requires.0 ask.0 in
    rw end.ensures.disks (asked_replay _ _ _ _ _ _ _ _ _ _ ask.0 none options ask.2)
