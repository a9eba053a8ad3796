-- Threads may share a write path over a log that may be moved to a thread, and its clients may be moved to threads.
-- For a struct with few fields the check finds this by itself; here it gives up.
use denote.RattleType.{RattleType}
use denote.Struct.Declared.{shape, fields}
use denote.Enum.Declared.{shape as variants}
use denote.Param.Send.{IsSend, IsSync, AllSend, AllSync, struct_send, struct_sync, enum_send, recorded_send, recorded_sync, sendable}
use Rattle.std.proofs.Crossing.{crosses, Vec-send}
use Rattle.std.specs.contracts.result.Result as result_row
use Rattle.std.proofs.alloc.Global.TheSendSync as heap
use Rattle.log_writer.specs.declared.group_log.GroupLog.{Ghosts}
use Rattle.engine_calls.proofs.answers.Receipt.TheSendSync as receipt
use Rattle.engine_calls.proofs.answers.Refused.TheSendSync as refused
use Rattle.engine_calls.specs.contracts.answers.Since as since_row
use Rattle.engine_calls.proofs.answers.Since.TheSendSync as since
use Rattle.engine_calls.specs.contracts.answers.SinceRefused as since_refused_row
use Rattle.engine_calls.proofs.answers.SinceRefused.TheSendSync as since_refused
use Rattle.engine_controller.proofs.controller.Controller.TheSendSync as controller
use Rattle.engine_controller.proofs.pass.Pass.TheSendSync as pass
use Rattle.engine_controller.proofs.pass.Note.TheSendSync as note
use Rattle.model_base.proofs.write.WriteOptions.TheSendSync as options
use Rattle.log_batch.proofs.batch.Batch.TheSendSync as batch
use Rattle.table_nodes.specs.contracts.node.Nodes as nodes
use Rattle.table_tree.specs.contracts.tree.Tree as tree
use Rattle.table_nodes.specs.contracts.gathered.GatheredNodes as gathered
use Rattle.table_nodes.specs.contracts.parts.Parts as parts
use Rattle.table_nodes.specs.contracts.parts.MemberNodes as part
use Rattle.table_steps.specs.contracts.seat.TableSeat as seat_row
use Rattle.table_steps.specs.contracts.launching.Turn as turn_row
use Rattle.table_memory.specs.contracts.memory_table.MemoryTable as table
use Rattle.table_memory.specs.contracts.calls.MemoryTableTableNodesParts.TheImpl as table_ghosts
use Rattle.table_memory.proofs.Crossing.{nodes_send, seat_send, turn_send, table_sync}
use Rattle.line_writers.proofs.line_writers.WriterList.TheSendSync as list
use Rattle.line_writers.proofs.writer.Writer.TheSendSync as writer
use Rattle.line_writers.proofs.room.Lists.TheSendSync as lists
use Rattle.engine_parts.specs.contracts.requests.Request as request
use Rattle.engine_parts.specs.contracts.requests.Answer as answer_row
use Rattle.engine_parts.specs.contracts.envelope.Letter as letter
use Rattle.engine_parts.specs.contracts.envelope.Envelope as envelope
use Rattle.engine_parts.specs.contracts.envelope.SealedRequest as sealed_request
use Rattle.engine_parts.specs.contracts.envelope.SealedAnswer as sealed_answer
use Rattle.engine_groups.specs.contracts.leader.Leadership as leader_row
use Rattle.engine_groups.specs.contracts.leader.Right as right_row
use Rattle.engine_groups.specs.contracts.leader.EngineAtOpening as about_row
use Rattle.engine_parts.specs.contracts.layout.Layout as layout
use Rattle.engine_groups.specs.contracts.engine.GroupEngine as engine
use Rattle.engine_groups.specs.contracts.engine.EngineClient as client
use Rattle.engine_parts.specs.contracts.envelope.SealedRequestHasGroupingItem.TheImpl as itemized
use Rattle.engine_parts.specs.contracts.envelope.SealedAnswerGivesRun.TheImpl as given
use Rattle.engine_groups.specs.contracts.leader.LeadershipLogOfGroupsSealedRequestSealedAnswerRight.TheImpl as ledger
use Rattle.engine_groups.proofs.leader.Leadership.TheSendSync as leader
use Rattle.engine_groups.proofs.leader.Right.TheSendSync as right
use Rattle.engine_parts.specs.contracts.numbering.Numbering as numbering

request_fields : AllSend (fields request.the_type)
request_fields = (batch.the_send, (nodes_send, (options.the_field_send, (search (sendable, note.the_send), (search sendable, (search sendable, tt))))))

read_send : IsSend (result_row.the_row since_row.the_row since_refused_row.the_row)
read_send = search (sendable, since.the_send, since_refused.the_send) depth 12

answer_fields : AllSend (fields answer_row.the_type)
answer_fields = (search (sendable, receipt.the_send, refused.the_send), (search crosses, (search (sendable, note.the_send), (search (sendable, read_send), tt))))

letter_send : IsSend letter.the_row
letter_send = let C = letter.the_type in recorded_send letter.the_field.row C.D C.to C.to_one (enum_send (variants C) (tt, ((struct_send (shape request.the_type) request_fields, tt), ((struct_send (shape answer_row.the_type) answer_fields, tt), tt))))

envelope_send : IsSend envelope.the_row
envelope_send = search (sendable, crosses, letter_send) depth 9

sealed_request_send : IsSend sealed_request.the_row
sealed_request_send = search (sendable, crosses, letter_send) depth 9

sealed_answer_send : IsSend sealed_answer.the_row
sealed_answer_send = search (sendable, crosses, letter_send) depth 9

numbering_send : IsSend numbering.the_row
numbering_send = search (sendable, batch.the_send, envelope_send) depth 9

gathered_send : IsSend gathered.the_row
gathered_send = search (sendable, nodes_send) depth 9

part_fields : AllSend (fields part.the_type)
part_fields = (search sendable, (gathered_send, tt))

part_send : IsSend part.the_row
part_send = let C = part.the_type in recorded_send part.the_field.row C.D C.to C.to_one (struct_send (shape C) part_fields)

parts_send : IsSend parts.the_row
parts_send = search (sendable, Vec-send, part_send) depth 9

layout_fields : AllSend (fields layout.the_type)
layout_fields = (Vec-send _ numbering_send, (Vec-send _ batch.the_send, (parts_send, (search (sendable, Vec-send), tt))))

abbrev S : RattleType
S = seat_row.the_row tree.the_row nodes.the_row

abbrev U : RattleType
U = turn_row.the_row tree.the_row nodes.the_row

module _ (D C G : RattleType) (ghosts : Ghosts (RattleType.Denot D)) (log_send : IsSend D) (clock_send : IsSend C) where
  abbrev H : RattleType
  H = leader_row.the_row D table.the_row C S U nodes.the_row ghosts

  leader_send : IsSend H
  leader_send = leader.the_send D table.the_row C S U nodes.the_row ghosts log_send clock_send turn_send

  abbrev M : RattleType
  M = right_row.the_row table.the_row S U nodes.the_row

  right_send : IsSend M
  right_send = right.the_send table.the_row S U nodes.the_row turn_send

  pub client_send : IsSend (client.the_row D table.the_row C S U nodes.the_row ghosts)
  client_send =
      let K = client.the_type D table.the_row C S U nodes.the_row ghosts in
      let all : AllSend (fields K) = (search sendable, (search sendable, (search sendable, (writer.the_field_send sealed_request.the_row sealed_answer.the_row H M sealed_request_send sealed_answer_send leader_send right_send, (seat_send, (pass.the_field_send, (lists.the_field_send sealed_request.the_row sealed_answer.the_row sealed_request_send sealed_answer_send, (struct_send (shape layout.the_type) layout_fields, (search (sendable, envelope_send) depth 9, tt))))))))) in
      recorded_send (client.the_field D table.the_row C S U nodes.the_row ghosts).row K.D K.to K.to_one (struct_send (shape K) all)

  pub engine_sync : IsSync G → IsSync (engine.the_row D table.the_row C G S U nodes.the_row ghosts table_ghosts.ghosts)
  engine_sync gate_sync =
      let K = engine.the_type D table.the_row C G S U nodes.the_row ghosts table_ghosts.ghosts in
      let all : AllSync (fields K) = (list.the_field_sync sealed_request.the_row sealed_answer.the_row H M (about_row.the_row D table.the_row C ghosts) itemized.ghosts given.ghosts (ledger.ghosts D table.the_row C S U nodes.the_row ghosts ledger.no_dict table_ghosts.ghosts ledger.no_dict) sealed_request_send sealed_answer_send leader_send right_send, (table_sync, (controller.the_field_sync C, (gate_sync, (heap.the_field_sync, (search sendable, (search sendable, tt))))))) in
      recorded_sync (engine.the_field D table.the_row C G S U nodes.the_row ghosts table_ghosts.ghosts).row K.D K.to K.to_one (struct_sync (shape K) all)
