use Rattle.std.proofs.Common.{◌++◌, ◌∙◌}
use Rattle.log_writer.specs.ReadableLogs.{batches_by}
use Rattle.log_updates.specs.Places.{HasAll}
use Rattle.engine_parts.specs.Handled.{commits_in}
use Rattle.engine_parts.specs.Logs.{fault_of}
use Rattle.engine_parts.proofs.LogOrder.{all_in_order, updates_are}
use Rattle.engine_parts.proofs.LogReading.{read_not, read_on, reads_well}
use Rattle.engine_parts.proofs.log_reading.read_log.Goals as goal

pub updates_of_logs-requires-clause-there : goal.updates_of_logs-requires-clause-there
updates_of_logs-requires-clause-there g c =
    let path = c.args.path.now in let log = path.log.log in let S = c.requires.stands in
    (reads_well S.0 S.1 path.log path.places path.last path.made S.2 (g.met.Log.ReadableLog.some_logs log) g.met.Log.ReadableLog.known g.met.Log.ReadableLog.as_many c.places_stay.ensures.first c.args.since c.nearest-from.result c.nearest-from.ensures.one_of).there

pub updates_of_logs-requires-clause-small : goal.updates_of_logs-requires-clause-small
updates_of_logs-requires-clause-small g c =
    let path = c.args.path.now in let log = path.log.log in let S = c.requires.stands in
    (reads_well S.0 S.1 path.log path.places path.last path.made S.2 (g.met.Log.ReadableLog.some_logs log) g.met.Log.ReadableLog.known g.met.Log.ReadableLog.as_many c.places_stay.ensures.first c.args.since c.nearest-from.result c.nearest-from.ensures.one_of).small

pub returns-in-Ok-clause-right : goal.returns-in-Ok-clause-right
returns-in-Ok-clause-right g c = λ clients past is low.
    let path = c.args.path.now in let log = path.log.log in let number = g.Log.GroupLog.number log in
    let well = reads_well clients past path.log path.places path.last path.made is (g.met.Log.ReadableLog.some_logs log) g.met.Log.ReadableLog.known g.met.Log.ReadableLog.as_many c.places_stay.ensures.first c.args.since c.nearest-from.result c.nearest-from.ensures.one_of in
    record {
      low = low;
      answer = λ batches had.
          let e = well.ends batches had in
          let ordered = all_in_order past.start clients past.group_bytes past.asked (commits_in past.handled) path.last (fault_of path.log) past.published is.calls is.consistent batches had.in_order had.up_to in
          let all : HasAll number e.0 c.args.since c.args.at (batches ++ batches_by is.calls) c.in-Ok.field-0 =
          c.in-Ok.ensures.updates past.opened.log batches is.calls e.0 e.2 had.keeps is.wrote e.1 ordered e.3 (e.4 c.args.at) in
          c.from_vec.ensures ∙ (all.records ∙ updates_are c.args.since c.args.at batches is.calls);
    }

pub returns-in-Ok-clause-begins : goal.returns-in-Ok-clause-begins
returns-in-Ok-clause-begins g c = λ clients past is.
    let path = c.args.path.now in let log = path.log.log in let now = c.updates_of_logs.new.log in
    let stays = c.in-Ok.ensures.stays in
    let well = reads_well clients past path.log path.places path.last path.made is (g.met.Log.ReadableLog.some_logs log) g.met.Log.ReadableLog.known g.met.Log.ReadableLog.as_many c.places_stay.ensures.first c.args.since c.nearest-from.result c.nearest-from.ensures.one_of in
    read_on clients past path.log _ path.places path.last path.made is (g.met.Log.ReadableLog.stays_many log now stays) (g.met.Log.ReadableLog.stays_number log now stays) (λ files holds. g.met.Log.ReadableLog.stays_held log now files stays holds) c.args.since c.args.at c.nearest-from.result well
    c.in-Ok.field-0 c.in-Ok.ensures.place.0 c.in-Ok.ensures.place.1 (c.in-Ok.ensures.fixed well.fixed) (λ batches had files before holds ordered stands none. c.in-Ok.ensures.updates past.opened.log batches is.calls files before had.keeps is.wrote holds ordered stands none)
    c.args.client c.reach.new.self c.reach.ensures.reach c.reach.ensures.none

pub returns-in-Err-Fault-clause-begins : goal.returns-in-Err-Fault-clause-begins
returns-in-Err-Fault-clause-begins g c = λ clients past is.
    let path = c.args.path.now in let log = path.log.log in let now = c.updates_of_logs.new.log in
    let stays = c.in-Err-Fault.ensures.stays in
    read_not clients past path.log _ path.places path.last path.made is (g.met.Log.ReadableLog.stays_many log now stays) (g.met.Log.ReadableLog.stays_number log now stays) (λ files holds. g.met.Log.ReadableLog.stays_held log now files stays holds)

pub returns-in-Err-NoMemory-clause-begins : goal.returns-in-Err-NoMemory-clause-begins
returns-in-Err-NoMemory-clause-begins g c = λ clients past is.
    let path = c.args.path.now in let log = path.log.log in let now = c.updates_of_logs.new.log in
    let stays = c.in-Err-NoMemory.ensures.stays in
    read_not clients past path.log _ path.places path.last path.made is (g.met.Log.ReadableLog.stays_many log now stays) (g.met.Log.ReadableLog.stays_number log now stays) (λ files holds. g.met.Log.ReadableLog.stays_held log now files stays holds)
