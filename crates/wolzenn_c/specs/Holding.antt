-- What a handle owns: the object behind its pointer, if it holds one.
use Rattle.std.specs.Prelude.{Option, Some, None}
use mir.Syntax.{Ty}
use base.Fml.{Fml, ftrue}
use denote.RattleType.{RattleType}
use denote.RawPtr.{Ptr}
use denote.Struct.Codes.{codes}
use Rattle.std.specs.List.Sorted.{IsStrictlySortedBy-prop}
use Rattle.std.specs.Box.Ownership.{box_owns}
use Rattle.std.specs.contracts.impls.GlobalAllocator.TheImpl.{ghosts}

-- the right to free a block of the heap
abbrev pub chunk : Ty → Ptr → Fml
chunk ty at = ghosts.dealloc_token (record { memory = record { seal = tt } }) ty at

abbrev pub held_owns : (R : RattleType) → Ptr → Option R.Denot → Fml
held_owns R p None = ftrue
held_owns R p (Some x) = box_owns chunk R p x

-- how the fields of what is held are told apart, facts of an order among them
pub ruleset holdable = (codes, IsStrictlySortedBy-prop)
