-- What is printed of a schedule, and where none was read.
use Rattle.std.proofs.Common.{◌≡◌, inl, inr, Err, IfSome}
use Rattle.model_core.specs.Schedule as model
use Rattle.run_scripts.specs.Schedules.{schedule_of}
use Rattle.run_scripts.specs.ReplayLanguage.{replay_grammar, event_words}
use Rattle.program_call.specs.Reading.{IsScheduleError}
use Rattle.program_call.proofs.ReplayEndings.{replays_front, replays_whole, replay_counted, replay_completes}
use Rattle.program_call.proofs.Unread.{source_failed, fault_said, unread_stood, unread_counted, unread_schedule_completes, unread_is_not_run}
use Rattle.program_call.proofs.replaying.replay.Goals as goal

pub returns-in-Ok-clause-replayed_prefix : goal.returns-in-Ok-clause-replayed_prefix
returns-in-Ok-clause-replayed_prefix g c =
    replays_front c.args.options (schedule_of c.in-Ok.schedule) c.replay_schedule-replayed.result (g.K.Sink.faults c.args.sink.now) (g.K.Sink.faults c.tell_replay.new.sink)
    c.end_with.result.status c.tell_replay.result (g.S.Source.left c.args.source.now) (g.K.Sink.taken c.args.sink.now) (g.K.Sink.taken c.tell_replay.new.sink)
    c.end_with.ensures.status c.in-Ok.ensures.schedule.said c.replay_schedule-replayed.ensures c.tell_replay.ensures

pub returns-in-Ok-clause-replayed : goal.returns-in-Ok-clause-replayed
returns-in-Ok-clause-replayed g c =
    replays_whole c.args.options (schedule_of c.in-Ok.schedule) c.replay_schedule-replayed.result (g.K.Sink.faults c.args.sink.now) (g.K.Sink.faults c.tell_replay.new.sink)
    c.end_with.result.status c.tell_replay.result (g.S.Source.left c.args.source.now) (g.K.Sink.taken c.args.sink.now) (g.K.Sink.taken c.tell_replay.new.sink)
    c.end_with.ensures.status c.in-Ok.ensures.schedule.said c.replay_schedule-replayed.ensures c.tell_replay.ensures

pub returns-in-Ok-clause-no_fault : goal.returns-in-Ok-clause-no_fault
returns-in-Ok-clause-no_fault g c =
    replay_counted c.replay_schedule-replayed.result (g.K.Sink.faults c.args.sink.now) (g.K.Sink.faults c.tell_replay.new.sink) c.end_with.result.status c.tell_replay.result
    (g.K.Sink.taken c.args.sink.now) (g.K.Sink.taken c.tell_replay.new.sink) c.end_with.ensures.status c.tell_replay.ensures

pub returns-in-Err-clause-no_fault : goal.returns-in-Err-clause-no_fault
returns-in-Err-clause-no_fault g c =
    unread_counted (g.K.Sink.faults c.args.sink.now) (g.K.Sink.faults c.tell_read_error.new.sink) c.end_with-in-Err.result.status (g.K.Sink.taken c.args.sink.now) (g.K.Sink.taken c.tell_read_error.new.sink)
    c.tell_read_error.result c.end_with-in-Err.ensures.status c.in-Err.error c.tell_read_error.ensures

pub returns-in-Err-clause-source_fault_is_told : goal.returns-in-Err-clause-source_fault_is_told
returns-in-Err-clause-source_fault_is_told g c =
    unread_stood (g.S.Source.faults c.args.source.now) (g.S.Source.faults c.read_schedule.new.source) (g.K.Sink.faults c.args.sink.now) (g.K.Sink.faults c.tell_read_error.new.sink) c.end_with-in-Err.result.status
    (g.K.Sink.taken c.args.sink.now) (g.K.Sink.taken c.tell_read_error.new.sink) c.tell_read_error.result c.end_with-in-Err.ensures.status c.in-Err.error c.in-Err.ensures.counted c.tell_read_error.ensures

pub returns-in-Err-clause-source : goal.returns-in-Err-clause-source
returns-in-Err-clause-source g c =
    let left = g.S.Source.left c.args.source.now in
    let failed = g.S.Source.faults c.args.source.now in
    let fails = g.S.Source.faults c.read_schedule.new.source in
    source_failed (IsScheduleError left failed fails) failed fails (λ count error. error) (g.K.Sink.taken c.args.sink.now) (g.K.Sink.taken c.tell_read_error.new.sink)
    (g.K.Sink.faults c.args.sink.now) (g.K.Sink.faults c.tell_read_error.new.sink) c.end_with-in-Err.result.status c.tell_read_error.result c.end_with-in-Err.ensures.status c.in-Err.error
    c.in-Err.ensures.error c.tell_read_error.ensures

pub returns-in-Err-clause-schedule : goal.returns-in-Err-clause-schedule
returns-in-Err-clause-schedule g c =
    let left = g.S.Source.left c.args.source.now in
    let failed = g.S.Source.faults c.args.source.now in
    let fails = g.S.Source.faults c.read_schedule.new.source in
    fault_said (IsScheduleError left failed fails) (λ f. IfSome left (λ text. model.schedule_of replay_grammar event_words text ≡ Err f)) (λ line kind error. error) (g.K.Sink.taken c.args.sink.now) (g.K.Sink.taken c.tell_read_error.new.sink)
    (g.K.Sink.faults c.args.sink.now) (g.K.Sink.faults c.tell_read_error.new.sink) c.end_with-in-Err.result.status c.tell_read_error.result c.end_with-in-Err.ensures.status c.in-Err.error
    c.in-Err.ensures.error c.tell_read_error.ensures

pub returns-in-Ok-clause-completes : goal.returns-in-Ok-clause-completes
returns-in-Ok-clause-completes g c = λ source_fault_is_told sink_stood.
    replay_completes (g.S.Source.left c.args.source.now) c.replay_schedule-replayed.result (g.K.Sink.faults c.args.sink.now) (g.K.Sink.faults c.tell_replay.new.sink) c.end_with.result.status c.tell_replay.result
    (g.K.Sink.taken c.args.sink.now) (g.K.Sink.taken c.tell_replay.new.sink) c.end_with.ensures.status c.tell_replay.ensures sink_stood

pub returns-in-Err-clause-completes : goal.returns-in-Err-clause-completes
returns-in-Err-clause-completes g c = λ source_fault_is_told sink_stood.
    unread_schedule_completes (g.S.Source.left c.args.source.now) (g.S.Source.faults c.args.source.now) (g.S.Source.faults c.read_schedule.new.source) (g.K.Sink.faults c.args.sink.now) (g.K.Sink.faults c.tell_read_error.new.sink)
    c.end_with-in-Err.result.status (g.K.Sink.taken c.args.sink.now) (g.K.Sink.taken c.tell_read_error.new.sink) c.tell_read_error.result c.end_with-in-Err.ensures.status c.in-Err.error c.in-Err.ensures.error c.tell_read_error.ensures source_fault_is_told

pub returns-in-Err-clause-replayed : goal.returns-in-Err-clause-replayed
returns-in-Err-clause-replayed g c = λ zero.
    absurd (unread_is_not_run (g.K.Sink.faults c.args.sink.now) (g.K.Sink.faults c.tell_read_error.new.sink) c.end_with-in-Err.result.status (g.K.Sink.taken c.args.sink.now) (g.K.Sink.taken c.tell_read_error.new.sink)
    c.tell_read_error.result c.end_with-in-Err.ensures.status c.in-Err.error c.tell_read_error.ensures (inl zero))

pub returns-in-Err-clause-replayed_prefix : goal.returns-in-Err-clause-replayed_prefix
returns-in-Err-clause-replayed_prefix g c = λ five.
    absurd (unread_is_not_run (g.K.Sink.faults c.args.sink.now) (g.K.Sink.faults c.tell_read_error.new.sink) c.end_with-in-Err.result.status (g.K.Sink.taken c.args.sink.now) (g.K.Sink.taken c.tell_read_error.new.sink)
    c.tell_read_error.result c.end_with-in-Err.ensures.status c.in-Err.error c.tell_read_error.ensures (inr five))
