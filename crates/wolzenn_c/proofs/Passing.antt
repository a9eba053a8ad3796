-- What is passed for an object on the heap to a call of `Box` over any types. Assumes `Logic`.
--     Item, Heap              the rows of an object and of the heap as they are passed, with their laws `item_laws`
--                             and `heap_laws`
--     item_drops, heap_drops  how a value of each is dropped
--     Boxed                   the two together, as the steps for boxes take them
--     lets_go                 an object is dropped as such a call needs it
use Rattle.std.proofs.Common.{[], ◌∷◌, refl}
use seplogic.Ra.Ura.{Ura}
use mir.Raw.{raw as bare}
use mir.Syntax.{Symbol, Dict, impl, method, no_args, tcons, tnil, dnil}
use prog.Model.{Model}
use prog.Wired.{Wired}
use types.Logic.{Logic}
use contract.Running.{Running}
use denote.Exit.{no}
use denote.RattleType.{RattleType}
use denote.Param.{arg, layout}
use denote.Param.Laws.{Laws, arg_laws}
use denote.Param.Glue.{Met}
use denote.Triple.Carry.{AllWithin}
use denote.Triple.Clauses.{Lasts, lasts, at_exit}
use denote.Triple.Walked.{Fit}
use borrow.Fn.Glue.{glue_ps, glue_by}
use borrow.Fn.Impl.{via_longer, method_Known}
use borrow.Fn.Kinds.{ended_of, stays, r_unit}
use borrow.Fn.Run.{Over}
use borrow.Fn.World.{World}
use Rattle.std.proofs.BoxSteps.Form.{Bx}
use Rattle.std.specs.contracts.alloc.Global as heap
use Rattle.std.proofs.alloc.Global.TheLaws as of_heap
use Rattle.std.specs.contracts.impls.GlobalAllocator.TheImpl.{ghosts, dict}
use Rattle.wolzenn_c.specs.contracts.object.Object as object
use Rattle.wolzenn_c.proofs.object.Object.TheLaws as of_object
use Rattle.wolzenn_c.proofs.wolzenn_c++object++Object+Destruct.drop.Kinds as kinds
use Rattle.wolzenn_c.proofs.wolzenn_c++object++Object+Destruct.drop.Met.{met}
use Rattle.wolzenn_c.proofs.wolzenn_c++object++Object+Destruct.drop.Reads as reads
use Rattle.wolzenn_c.proofs.wolzenn_c++object++Object+Destruct.drop.Symbol as symbol

-- a row as it is passed for a type parameter
abbrev passed : RattleType → RattleType
passed R = arg (bare (layout R)) no R

abbrev pub Item : RattleType
Item = passed object.the_row

abbrev pub item_laws : Laws Item
item_laws = arg_laws (bare (layout object.the_row)) no object.the_row of_object.the_row_laws refl

abbrev pub item_drops : Dict
item_drops = impl ("wolzenn_c::wolzenn_c++object++Object+Destruct::drop" ∷ []) tnil dnil

abbrev pub Heap : RattleType
Heap = passed heap.the_row

abbrev pub heap_laws : Laws Heap
heap_laws = arg_laws (bare (layout heap.the_row)) no heap.the_row of_heap.the_row_laws refl

-- the drop of a value that needs no drop
abbrev pub none : Symbol
none = "wolzenn_c::Destruct++none::drop"

abbrev pub heap_drops : Dict
heap_drops = impl (none ∷ []) (tcons (layout Heap) tnil) dnil

abbrev pub Boxed : Bx
Boxed = record {
  row = Item;
  laws = item_laws;
  al = record { row = Heap; laws = heap_laws; g = ghosts; d = dict; drops = heap_drops };
}

pub lets_go : {M : Type 1} (𝓤 : Ura M) (𝓛 : Logic 𝓤) (𝓜 : Model 𝓤 𝓛.H) (𝓡 : Running 𝓤 𝓛.H 𝓜)
    → Wired 𝓡.env symbol.code → Met 𝓛 𝓜 𝓡 𝓡.env Item item_drops
lets_go {M} 𝓤 𝓛 𝓜 𝓡 wired =
    let w : World = record { M = M; 𝓤 = 𝓤; 𝓛 = 𝓛; 𝓜 = 𝓜; 𝓡 = 𝓡 } in let En = ended_of 0 kinds.ps kinds.r in
    glue_by Item item_laws w item_drops 𝓡.env (λ κs a. Lasts En tt a) (λ κs a. lasts En tt a)
    (λ κs a x ws. Fit En (stays kinds.ps) tt a ws × reads.Learnt tt a x (at_exit En tt a ws))
    (λ κs a. AllWithin 1 (κs.0, tt) (Item.lives, tt) × Unit {0}) 0 tt (λ κs a h. ((h, tt), tt))
    (via_longer 𝓛 (Over 𝓛 𝓜 𝓡 𝓡.env) 1 (glue_ps Item item_laws) r_unit (λ κs a. Lasts En tt a) (λ κs a. lasts En tt a)
    (λ κs a x ws. Fit En (stays kinds.ps) tt a ws × reads.Learnt tt a x (at_exit En tt a ws))
    (λ κs a. AllWithin 1 (κs.0, tt) (Item.lives, tt) × Unit {0}) (method item_drops 0 no_args) 0 tt (λ κs. tt) (λ κs a. reads.Asked tt a) (λ κs a p. (tt, tt))
    (λ κs bd within a vss qs. method_Known 0 kinds.ps kinds.r reads.requires reads.ensures reads.Asked reads.Learnt reads.known w symbol.name (method item_drops 0 no_args)
    (symbol.as_method 𝓡.env wired (method item_drops 0 no_args) refl) (met 𝓤 𝓛 𝓜 𝓡 wired) ((tt, qs, tt, a, vss), tt)))
