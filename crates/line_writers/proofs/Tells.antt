-- How a leader tells its members that their replies are there.
use Rattle.std.proofs.Common.{◌≡◌, ℕ, suc, ◌+◌, ◌-◌, ◌<◌, ◌≤◌, List, [], ◌∷◌, ◌++◌, length, get_or, refl, sym, ap, ◌∙◌, subst, arith, append_assoc, length-append}
use Rattle.line_rule.specs.declared.view.QueuedWriter.{QueuedWriter}
use Rattle.line_rule.specs.declared.content.LineSlot.TheVariants.{Told}
use Rattle.line_rule.specs.declared.view.LineStage.TheVariants.{Settling}
use Rattle.line_rule.specs.Chain.{Within, heads}
use Rattle.line_rule.specs.Plays.{Sat, At, debt, slots_of}
use Rattle.line_rule.specs.Rule.{hold}
use Rattle.line_rule.proofs.Enters.{one_hold}
use Rattle.line_rule.proofs.Settles.{one_debt}
use Rattle.line_writers.specs.Roles.{bys}

pub record Telling {Request Reply Log Right : Type 0} (n c : ℕ) (was now : Sat Request Reply Log Right) (members : List ℕ) (count : ℕ) : Type 0 where
  pub mine : List (Request × Reply)
  pub gs : List (QueuedWriter Request × Reply)
  pub own : QueuedWriter Request
  pub p : Reply
  pub rest : List (QueuedWriter Request × Reply)
  pub done : List (QueuedWriter Request)
  pub began : At c (Settling (debt gs own p)) mine was
  pub reads : At c (Settling (debt rest own p)) mine now
  pub holds : now.1 ≡ slots_of rest ((c, Told p) ∷ [])
  pub members_are : members ≡ bys (done ++ (heads rest ++ own ∷ []))
  pub counted : length done ≡ count
  pub within : Within n (heads rest)

pub length-bys : {Request : Type 0} (l : List (QueuedWriter Request)) → length (bys l) ≡ length l
length-bys [] = refl
length-bys (e ∷ es) = ap suc (length-bys es)

pub some_by : {Request : Type 0} (l : List (QueuedWriter Request)) (x : QueuedWriter Request) → 0 < length (bys (l ++ x ∷ []))
some_by [] x = omega arith
some_by (e ∷ es) x = omega arith

by_at : {Request : Type 0} (a : List (QueuedWriter Request)) (x : QueuedWriter Request) (b : List (QueuedWriter Request)) (d : ℕ) → get_or (bys (a ++ x ∷ b)) (length a) d ≡ x.by
by_at [] x b d = refl
by_at (e ∷ es) x b d = by_at es x b d

module _ {Request Reply Log Right : Type 0} (n c : ℕ) (was : Sat Request Reply Log Right) (members : List ℕ) where
  pub tells_first : (mine : List (Request × Reply)) (gs : List (QueuedWriter Request × Reply)) (own : QueuedWriter Request) (p : Reply) → At c (Settling (debt gs own p)) mine was → was.1 ≡ slots_of gs ((c, Told p) ∷ []) → members ≡ bys (heads gs ++ own ∷ []) → Within n (heads gs) → Telling n c was was members 0
  tells_first mine gs own p at slot are ok = record { mine = mine; gs = gs; own = own; p = p; rest = gs; done = []; began = at; reads = at; holds = slot; members_are = are; counted = refl; within = ok }

  module _ (now : Sat Request Reply Log Right) (count : ℕ) (v : Telling n c was now members count) where
    long : length members ≡ count + length (heads v.rest) + 1
    long = let k = v.counted in ap length v.members_are ∙ (length-bys (v.done ++ (heads v.rest ++ v.own ∷ [])) ∙ (length-append v.done (heads v.rest ++ v.own ∷ []) ∙ omega (arith, length-append (heads v.rest) (v.own ∷ []))))

    next_of : (rest : List (QueuedWriter Request × Reply)) → 0 < length (heads rest) → (g : QueuedWriter Request × Reply) × (gs : List (QueuedWriter Request × Reply)) × (rest ≡ g ∷ gs)
    next_of [] lo = absurd (omega arith)
    next_of (g ∷ gs) lo = (g, gs, refl)

    pub tells_next : count < length members - 1 → (g : QueuedWriter Request × Reply) × (gs : List (QueuedWriter Request × Reply)) × (v.rest ≡ g ∷ gs)
    tells_next more = let l = long in next_of v.rest (omega arith)

    pub tells_all : (count < length members - 1 → ⊥) → v.rest ≡ []
    tells_all no_more = let l = long in nil v.rest (λ lo. no_more (omega arith))
      where
        nil : (rest : List (QueuedWriter Request × Reply)) → (0 < length (heads rest) → ⊥) → rest ≡ []
        nil [] un = refl
        nil (g ∷ gs) un = absurd (un (omega arith))

    module _ (g : QueuedWriter Request × Reply) (gs : List (QueuedWriter Request × Reply)) (is : v.rest ≡ g ∷ gs) where
      pub member_is : (d : ℕ) → get_or members count d ≡ g.0.by
      member_is d = (λ i. get_or (v.members_are i) (sym v.counted i) d) ∙ (ap (λ r. get_or (bys (v.done ++ (heads r ++ v.own ∷ []))) (length v.done) d) is ∙ by_at v.done g.0 (heads gs ++ v.own ∷ []) d)

      pub member_in : (0 < g.0.by) × (g.0.by ≤ n)
      member_in = let w = subst (λ r. Within n (heads r)) is v.within in (w.0, w.1)

      pub tells_more : (now' : Sat Request Reply Log Right) → At c (Settling (debt gs v.own v.p)) v.mine now' → now'.1 ≡ slots_of gs ((c, Told v.p) ∷ []) → Telling n c was now' members (count + 1)
      tells_more now' at slot = record {
        mine = v.mine;
        gs = v.gs;
        own = v.own;
        p = v.p;
        rest = gs;
        done = v.done ++ g.0 ∷ [];
        began = v.began;
        reads = at;
        holds = slot;
        members_are = v.members_are ∙ (ap (λ r. bys (v.done ++ (heads r ++ v.own ∷ []))) is ∙ ap bys (sym (append_assoc v.done (g.0 ∷ []) (heads gs ++ v.own ∷ []))));
        counted = (let k = v.counted in omega (arith, length-append v.done (g.0 ∷ [])));
        within = (subst (λ r. Within n (heads r)) is v.within).2;
      }

  module _ (now : Sat Request Reply Log Right) (count : ℕ) (v : Telling n c was now members count) where
    pub tells_end : v.rest ≡ [] → (mine : List (Request × Reply)) (gs : List (QueuedWriter Request × Reply)) (own : QueuedWriter Request) (p : Reply) → At c (Settling (debt gs own p)) mine was → At c (Settling (debt [] own p)) mine now × (now.1 ≡ (c, Told p) ∷ [])
    tells_end nil mine gs own p at =
        let e = one_hold c c (Settling (debt v.gs v.own v.p)) (Settling (debt gs own p)) v.mine mine was.0 v.began at in
        let b = one_debt (debt v.gs v.own v.p) (debt gs own p) e.1 in
        (v.reads ∙ (λ i. hold c (Settling (debt (nil i) v.own v.p)) v.mine ∷ []) ∙ (λ i. hold c (Settling (debt [] (b i).own (b i).reply)) (e.2 i) ∷ []), v.holds ∙ ap (λ r. slots_of r ((c, Told v.p) ∷ [])) nil ∙ (λ i. (c, Told (b i).reply) ∷ []))
