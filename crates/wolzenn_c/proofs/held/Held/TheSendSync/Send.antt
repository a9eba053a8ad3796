-- What is held may go to another thread: each object may, and any thread may give its block back to the heap.
use base.Fraction.{full_share}
use base.Shift.{Keyless}
use mir.Raw.{raw}
use denote.Builtin.{RawPtr}
use denote.Memory.{lone}
use denote.Exit.{Exit, unchanged, leaves, hidden, under}
use denote.RattleType.{RattleType}
use denote.RawPtr.{Ptr, block_ptr, null_ptr, lies_at}
use denote.Struct.Struct.{exits_of}
use denote.Struct.Owning.{shape, fields, to}
use denote.Param.Send.{IsSend, Quiet, AllSend, part_keyless, owning_send, struct_send, sendable}
use Rattle.std.specs.Prelude.{Option, Some, None}
use Rattle.std.proofs.Crossing.{frees}
use Rattle.wolzenn_c.specs.Holding.{held_owns}
use Rattle.wolzenn_c.specs.contracts.object.Object as object
use Rattle.wolzenn_c.proofs.object.Object.TheSendSync as object_crosses
use Rattle.wolzenn_c.specs.contracts.held.Held as held

-- The next two are those of the kit's boxes.
quiet : {D X : Type 0} (to : D → X) (e : Exit X) → Quiet e → Quiet (hidden (under to e))
quiet to unchanged q = λ x w. tt
quiet to (leaves L l S s r₀) q = λ d. q (to d)

lies : (R : RattleType) → IsSend R → (p : Ptr) (x : R.Denot) → Keyless (lies_at R full_share p x)
lies R s (block_ptr b o) x = part_keyless R s full_share x b o
lies R s null_ptr x = tt

pub object_send : IsSend object.the_row
object_send = object_crosses.the_send

pointer_send : IsSend RawPtr
pointer_send = search sendable

owned : (p : Ptr) (x : Option object.the_row.Denot) → Keyless (held_owns object.the_row p x)
owned p None = tt
owned p (Some y) = (lies object.the_row object_send p y, frees.frees (record { memory = record { seal = tt } }) (raw (lone object.the_row.mir)) p)

pub send : IsSend held.the_row
send =
    let O = held.the_type in
    let all : AllSend (fields O) = (pointer_send, tt) in
    owning_send O all (λ d. owned d.at d.object) (λ k. quiet (to O) (exits_of k (fields O)) ((struct_send (shape O) all).leaving k))
