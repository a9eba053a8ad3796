-- The machine values of a box and of a `Held`. Assumes `Logic`.
use Rattle.std.proofs.Common.{◌≡◌, Option, None, Some, ℕ, List, [], ◌∷◌, ◌++◌, refl, subst}
use lib.Dec.{T}
use mathlib.Core.Bool.{true, ◌&&◌}
use seplogic.Ra.Ura.{Ura}
use mir.Raw.{raw as bare}
use mir.Val.{Val, vptr, vstruct, vcons, vnil, of_list, has_ty, WT}
use base.Logic.{never, fst∗}
use types.Logic.{Logic, sem}
use types.Kit.{Item, Goal, Seq, Step, step, ‵, ◌$◌, drop, fsplit, fjoin, fpick, fpack, feq_i, feq_l}
use denote.RattleType.{RattleType, Valss}
use denote.Builtin.{RawPtr}
use denote.Memory.{lone}
use denote.RawPtr.{Ptr, block_ptr, null_ptr, ptr_val, in_a_block}
use denote.Steps.{nothing}
use denote.Param.{layout}
use denote.Struct.Struct.{within}
use denote.Struct.Owning.{shape}
use Rattle.std.proofs.cell.Inside.{Good}
use Rattle.std.proofs.ResultValues.{and_tt}
use Rattle.std.specs.Box.Ownership.{box_owns}
use Rattle.wolzenn_c.specs.contracts.held.Held as held
use Rattle.wolzenn_c.specs.contracts.object.Object as object
use Rattle.wolzenn_c.specs.Holding.{chunk, held_owns}

-- a pointer together with a handle has its type, if the handle has its own
pub box_good : (Z : RattleType) (b o : ℕ) (h : Val) → Good (layout Z) h
    → T (has_ty (layout Z) h && true) × WT (vstruct (vcons (vptr b o) (vcons h vnil)))
box_good Z b o h fits = (and_tt (has_ty (layout Z) h) fits.0, (tt, (fits.1, tt)))

-- a pointer alone in a struct
abbrev pub alone : Val → Val
alone v = vstruct (vcons v vnil)

module _ {M : Type 1} {𝓤 : Ura M} {𝓛 : Logic 𝓤} {K : Type 0} {Γ : List (Item 𝓤)} {G : Goal 𝓤 𝓛.H} where
  -- a pointer and what it owns are a `Held`
  pub held_in : K → (p : Ptr) (x : Option object.the_row.Denot)
      → Step K 𝓛 (‵ (held.the_row.own_val (record { at = p; object = x }) (alone (ptr_val p) ∷ [])) ∷ Γ) G (‵ (held_owns object.the_row p x) ∷ Γ) G
  held_in t p x = step (λ s. let v : Val = alone (ptr_val p) in
      nothing t $ feq_i t (List Val) (ptr_val p ∷ []) (ptr_val p ∷ []) refl $ fjoin t $ feq_i t (List Val) (v ∷ []) (v ∷ []) refl $ fjoin t $
      fpack t (Valss (RawPtr ∷ [])) (within (shape held.the_type) (p, tt) (v ∷ [])) (ptr_val p ∷ [], tt) $ fjoin t $ s)

  -- and a `Held` is a pointer and what it owns
  pub held_out : K → (d : held.the_row.Denot) (vs : List Val)
      → (vs ≡ alone (ptr_val d.at) ∷ [] → Seq K 𝓛 (‵ (held_owns object.the_row d.at d.object) ∷ Γ) G)
      → Seq K 𝓛 (‵ (held.the_row.own_val d vs) ∷ Γ) G
  held_out t d vs k =
      fsplit t $ fpick t (λ vss. fsplit t $ feq_l t (λ ev. fsplit t $ feq_l t (λ ep. drop t $
      k (subst (λ (ps : List Val). vs ≡ vstruct (of_list (ps ++ [])) ∷ []) ep ev))))

  -- where there is an object, the pointer leads to it
  pub held_some : K → (p : Ptr) (x : Option object.the_row.Denot) → (x ≡ None → ⊥)
      → ((b o : ℕ) (y : object.the_row.Denot) → p ≡ block_ptr b o → x ≡ Some y
      → Seq K 𝓛 (‵ (box_owns chunk object.the_row (block_ptr b o) y) ∷ Γ) G)
      → Seq K 𝓛 (‵ (held_owns object.the_row p x) ∷ Γ) G
  held_some t p None ne k = absurd (ne refl)
  held_some t p (Some y) ne k =
      in_a_block t p (λ q. box_owns chunk object.the_row q y) (fst∗ 𝓤 (never 𝓤) (sem 𝓛 (chunk (bare (lone object.the_row.mir)) null_ptr)))
      (λ b o e. k b o y e refl)
