-- Each client moves to a thread of its own, and the threads share the table.
use mathlib.Core.List.{[], ◌∷◌}
use Rattle.std.proofs.Common.{sym, subst}
use mir.Syntax.{erased}
use denote.Exit.{yes}
use denote.RattleType.{RattleType}
use denote.Struct.Tuple.{Tuple, tuple_type, tuple_field}
use denote.Struct.Declared.{shape, fields}
use denote.Param.Send.{IsSend, IsSync, AllSend, AllSync, struct_send, struct_sync, recorded_send, recorded_sync, shr_sync, param_send, arg_send, sendable}
use Rattle.std.proofs.Crossing.{crosses}
use Rattle.std.proofs.alloc.Global.TheSendSync as heap
use Rattle.tests_table.specs.Clients.{MayPlay}
use Rattle.tests_table.specs.declared.tests.at_once.Player.{Player}
use Rattle.tests_table.specs.contracts.tests.at_once.Player as player
use Rattle.table_memory.proofs.Crossing.{seat_field_send, turn_field_send, table_sync}
use Rattle.tests_table.proofs.tests.at_once.play_at_once.Goals as goal

player_fields : AllSend (fields player.the_type)
player_fields = (seat_field_send, (search (sendable, crosses, turn_field_send) depth 9, (search sendable, tt)))

player_send : IsSend player.the_row
player_send = let C = player.the_type in recorded_send player.the_field.row C.D C.to C.to_one (struct_send (shape C) player_fields)

-- threads may share a closure with three captures where they may share each of the three
closure_sync : (A B C : RattleType) → IsSync A → IsSync B → IsSync C → IsSync (Tuple (A ∷ B ∷ C ∷ []))
closure_sync A B C a b c =
    let T = tuple_type (A ∷ B ∷ C ∷ []) in
    let all : AllSync (fields T) = (a, (b, (c, tt))) in
    recorded_sync (tuple_field (A ∷ B ∷ C ∷ [])).row T.D T.to T.to_one (struct_sync (shape T) all)

pub for_each_mut-requires-send-T : goal.for_each_mut-requires-send-T
for_each_mut-requires-send-T g c κs within = param_send 1 _ (arg_send _ yes _ player_send)

pub for_each_mut-requires-sync-F : goal.for_each_mut-requires-sync-F
for_each_mut-requires-sync-F g c κs within = record { shared = λ x b o κ. (closure_sync _ _ _ (shr_sync erased _ _ c.type_bounds.sync-R) (shr_sync erased [] _ heap.the_sync) (shr_sync erased _ _ table_sync)).shared x b o κ }

pub for_each_mut-requires-clause-accepts : goal.for_each_mut-requires-clause-accepts
for_each_mut-requires-clause-accepts g c κs within = λ i p lt is.
    (c.requires.opening, subst (λ (x : Player). MayPlay c.args.table.now x.seat x.turn) (sym is) (c.requires.players i p.now lt))
