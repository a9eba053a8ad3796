-- How a leader takes the requests of its group.
use Rattle.std.proofs.Common.{◌≡◌, ℕ, ◌+◌, ◌/◌, ◌<◌, ◌≤◌, true, false, cond, List, [], ◌∷◌, ◌++◌, length, get_or, reverse, refl, sym, ap, ◌∙◌, subst, arith, append_assoc, append-nil, length-append}
use Rattle.std.proofs.lemmas.List.{append_cancel_right}
use Rattle.line_rule.specs.declared.view.QueuedWriter.{QueuedWriter}
use Rattle.line_rule.specs.declared.view.Handling.{Handling}
use Rattle.line_rule.specs.declared.view.Lead.{Lead}
use Rattle.line_rule.specs.declared.content.LineSlot.TheVariants.{Empty}
use Rattle.line_rule.specs.declared.view.LineStage.TheVariants.{Leading}
use Rattle.line_rule.specs.declared.view.LineEvent.{LineEvent}
use Rattle.line_rule.specs.Events.{HasBuilt}
use Rattle.line_rule.specs.Chain.{newest, pairs, Within}
use Rattle.model_base.specs.declared.group.Item.{Item}
use Rattle.model_base.specs.Grouping.{fits}
use Rattle.line_rule.specs.Grouping.{item_of, codes, IsWhole}
use Rattle.line_rule.proofs.Fitting.{fitting, fits_next, codes_back, of_group}
use Rattle.line_rule.specs.Rule.{hold}
use Rattle.line_rule.specs.Plays.{Sat, At, AllBelow, lead_at_build, lead_with_one_more, blanks}
use Rattle.line_rule.proofs.Groups.{within_at}
use Rattle.line_rule.proofs.Enters.{one_hold}
use Rattle.line_rule.proofs.Leads.{one_lead, same_last}
use Rattle.line_rule.specs.Members.{asks}
use Rattle.line_writers.specs.Roles.{bys, lead_with_group, past_in, NextIs, Gathering, Grouped}

heads_of : {A : Type 0} → A → List A → A
heads_of d [] = d
heads_of d (x ∷ xs) = x

others_of : {A : Type 0} → List A → List A
others_of [] = []
others_of (x ∷ xs) = xs

pub no_items : {A : Type 0} (l : List A) → length l ≡ 0 → l ≡ []
no_items [] is = refl
no_items (x ∷ xs) is = absurd (omega arith)

module _ {Request : Type 0} where
  no_pairs : (es : List (QueuedWriter Request)) → pairs es ≡ [] → es ≡ []
  no_pairs [] is = refl
  no_pairs (e ∷ es) is = absurd (cc)

  -- what is popped from the walk's list is the oldest writer of the walk
  pub pops : (es : List (QueuedWriter Request)) (l : List (ℕ × ℕ)) (b k : ℕ) → pairs es ≡ l ++ (b, k) ∷ [] → (pre : List (QueuedWriter Request)) × (x : QueuedWriter Request) × (es ≡ pre ++ x ∷ []) × (l ≡ pairs pre) × (x.by ≡ b) × (x.code ≡ k)
  unfolding heads_of others_of
  pops [] [] b k is = absurd (cc)
  pops [] (y ∷ ys) b k is = absurd (cc)
  pops (e ∷ es) [] b k is =
      let none = no_pairs es (ap others_of is) in let top = ap (heads_of (b, k)) is in
      ([], e, ap (λ z. e ∷ z) none, refl, ap (λ (z : ℕ × ℕ). z.0) top, ap (λ (z : ℕ × ℕ). z.1) top)
  pops (e ∷ es) (y ∷ ys) b k is =
      let t = pops es ys b k (ap others_of is) in let top = ap (heads_of y) is in
      (e ∷ t.0, t.1, ap (λ z. e ∷ z) t.2, (λ i. sym top i ∷ t.3 i), t.4, t.5)

  within_back : (n : ℕ) (a b : List (QueuedWriter Request)) → Within n (a ++ b) → Within n b
  within_back n [] b ok = ok
  within_back n (e ∷ es) b ok = within_back n es b ok.2

same_tail : {A : Type 0} (a b c d : List A) → a ++ b ≡ c ++ d → length b ≡ length d → b ≡ d
unfolding others_of
same_tail [] b [] d e len = e
same_tail [] b (y ∷ ys) d e len = absurd (omega (arith, ap length e, length-append ys d))
same_tail (x ∷ xs) b [] d e len = absurd (omega (arith, ap length e, length-append xs b))
same_tail (x ∷ xs) b (y ∷ ys) d e len = same_tail xs b ys d (ap others_of e) len

-- the test of a code is the test of the item that it encodes
pub fits_as : (max leader sum code : ℕ) (lead writer : Item) → lead ≡ item_of leader → writer ≡ item_of code → fits_next max leader sum code ≡ fits max lead (sum + writer.size) writer
fits_as max leader sum code lead writer a b = sym (λ i. fits max (a i) (sum + (b i).size) (b i))

module _ {Request Reply Log Right : Type 0} (law : Request → ℕ → Type 0) (n max leader c : ℕ) (was : Sat Request Reply Log Right) where
  abbrev pub gathering : QueuedWriter Request → List (Handling Request Reply) → List (LineEvent Request Reply) → List (QueuedWriter Request) → List (QueuedWriter Request) → List (QueuedWriter Request) → Lead Request Reply
  gathering own seen past w group tk = record { own = own; walk = w; group = group; taken = tk; seen = seen; past = past }

  abbrev pub full : Lead Request Reply → Lead Request Reply
  full l = record { own = l.own; walk = l.walk; group = l.group; taken = l.group; seen = l.seen; past = l.past }

  pub record Gathered (now : Sat Request Reply Log Right) (walk : List (ℕ × ℕ)) (asked : List (ℕ × Request)) (sum : ℕ) : Type 0 where
    pub own : QueuedWriter Request
    pub group : List (QueuedWriter Request)
    pub left : List (QueuedWriter Request)
    pub seen : List (Handling Request Reply)
    pub past : List (LineEvent Request Reply)
    pub mine : List (Request × Reply)
    pub pre : List (QueuedWriter Request)
    pub tk : List (QueuedWriter Request)
    pub began : At c (Leading (lead_at_build own seen past (left ++ (group ++ own ∷ [])) group)) mine was
    pub reads : At c (Leading (gathering own seen past (left ++ (group ++ own ∷ [])) group tk)) mine now
    pub by : own.by ≡ c
    pub lead_code : own.code ≡ leader
    pub is_group : IsWhole law max own group left
    pub built : HasBuilt max own group left seen past
    pub queue : left ++ group ≡ pre ++ tk
    pub within : Within n (left ++ group)
    pub holds : now.1 ≡ blanks (bys tk) ((c, Empty) ∷ (0, Empty) ∷ [])
    pub walk_is : walk ≡ pairs pre
    pub asked_is : asked ≡ asks own tk
    pub fit : fitting max leader ((leader / 16)) (reverse (codes (left ++ group))) ≡ length tk + fitting max leader sum (reverse (codes pre))

  pub gathers : (walk : List (ℕ × ℕ)) (asked : List (ℕ × Request)) → Gathering law n max leader c was walk asked → Gathered was walk asked (leader / 16)
  gathers walk asked h = record {
    own = h.0;
    group = h.1;
    left = h.2;
    seen = h.3;
    mine = h.4;
    pre = h.2 ++ h.1;
    tk = [];
    past = h.5;
    began = h.6;
    reads = h.6;
    by = h.7;
    lead_code = h.8;
    is_group = h.9;
    built = h.14;
    queue = sym (append-nil (h.2 ++ h.1));
    within = h.10;
    holds = h.13;
    walk_is = h.11;
    asked_is = h.12 ∙ (λ i. (sym h.7 i, h.0.asked) ∷ []);
    fit = omega arith;
  }

  module _ (now : Sat Request Reply Log Right) (walk : List (ℕ × ℕ)) (asked : List (ℕ × Request)) (sum : ℕ) (v : Gathered now walk asked sum) where
    -- where no more is taken, the group is whole
    pub stops : length v.group ≡ length v.tk → (own : QueuedWriter Request) (group left : List (QueuedWriter Request)) (seen : List (Handling Request Reply)) (past : List (LineEvent Request Reply)) (mine : List (Request × Reply)) → At c (Leading (lead_at_build own seen past (left ++ (group ++ own ∷ [])) group)) mine was → HasBuilt max own group left seen past → IsWhole law max own group left → 0 < c
        → Grouped law n max c own group left seen mine now × (asked ≡ asks own group)
    stops len own group left seen past mine at built whole lo =
        let W : List (QueuedWriter Request) = v.left ++ (v.group ++ v.own ∷ []) in
        let e = one_hold c c (Leading (lead_at_build v.own v.seen v.past W v.group)) (Leading (lead_at_build own seen past (left ++ (group ++ own ∷ [])) group)) v.mine mine was.0 v.began at in
        let l = one_lead (lead_at_build v.own v.seen v.past W v.group) (lead_at_build own seen past (left ++ (group ++ own ∷ [])) group) e.1 in
        let tk : v.group ≡ v.tk = same_tail v.left v.group v.pre v.tk v.queue len in
        let own_is : v.own ≡ own = ap (λ (z : Lead Request Reply). z.own) l in
        let group_is : v.tk ≡ group = sym tk ∙ ap (λ (z : Lead Request Reply). z.group) l in
        let here : At c (Leading (lead_with_group own seen past left group)) mine now = v.reads ∙ ((λ i. hold c (Leading (gathering v.own v.seen v.past W v.group (sym tk i))) v.mine ∷ []) ∙ (λ i. hold c (Leading (full (l i))) (e.2 i) ∷ [])) in
        let known : past_in now.0 ≡ past = ap past_in here in (
          (
            (left, subst (λ z. At c (Leading (lead_with_group own seen z left group)) mine now) (sym known) here),
            ap (λ (z : QueuedWriter Request). z.by) (sym own_is) ∙ v.by,
            lo,
            subst (Within n) (tk ∙ group_is) (within_back n v.left v.group v.within),
            whole,
            v.holds ∙ ap (λ z. blanks (bys z) ((c, Empty) ∷ (0, Empty) ∷ [])) group_is,
            subst (HasBuilt max own group left seen) (sym known) built,
          ),
          v.asked_is ∙ (λ i. asks (own_is i) (group_is i)),
        )

    length_is : length v.group ≡ length v.tk + fitting max leader sum (reverse (codes v.pre))
    length_is = of_group max v.own v.group v.left v.is_group.0 ∙ (ap (λ (k : ℕ). fitting max k (k / 16) (reverse (codes (v.left ++ v.group)))) v.lead_code ∙ v.fit)

    pub stops_empty : walk ≡ [] → length v.group ≡ length v.tk
    stops_empty nil = let none : v.pre ≡ [] = no_pairs v.pre (sym v.walk_is ∙ nil) in length_is ∙ (ap (λ z. length v.tk + fitting max leader sum (reverse (codes z))) none ∙ omega arith)

    module _ (rest : List (ℕ × ℕ)) (b k : ℕ) (popped : walk ≡ rest ++ (b, k) ∷ []) where
      abbrev pub top : (pre : List (QueuedWriter Request)) × (x : QueuedWriter Request) × (v.pre ≡ pre ++ x ∷ []) × (rest ≡ pairs pre) × (x.by ≡ b) × (x.code ≡ k)
      top = pops v.pre rest b k (sym v.walk_is ∙ popped)

      next_fit : fitting max leader sum (reverse (codes v.pre)) ≡ cond (fits_next max leader sum k) (fitting max leader (sum + k / 16) (reverse (codes top.0)) + 1) 0
      next_fit = ap (λ z. fitting max leader sum (reverse (codes z))) top.2 ∙ (ap (fitting max leader sum) (codes_back top.0 top.1) ∙ ap (λ (j : ℕ). fitting max leader sum (j ∷ reverse (codes top.0))) top.5)

      pub stops_full : fits_next max leader sum k ≡ false → length v.group ≡ length v.tk
      stops_full no_more = length_is ∙ (ap (λ z. length v.tk + z) (next_fit ∙ ap (λ z. cond z (fitting max leader (sum + k / 16) (reverse (codes top.0)) + 1) 0) no_more) ∙ omega arith)

      walk_parts : v.left ++ (v.group ++ v.own ∷ []) ≡ top.0 ++ top.1 ∷ (v.tk ++ v.own ∷ [])
      walk_parts = sym (append_assoc v.left v.group (v.own ∷ [])) ∙ (ap (λ z. z ++ v.own ∷ []) (v.queue ∙ ap (λ z. z ++ v.tk) top.2) ∙ (append_assoc (top.0 ++ top.1 ∷ []) v.tk (v.own ∷ []) ∙ append_assoc top.0 (top.1 ∷ []) (v.tk ++ v.own ∷ [])))

      pub next_is : NextIs c (gathering v.own v.seen v.past (v.left ++ (v.group ++ v.own ∷ [])) v.group v.tk) v.mine top.0 top.1 now
      next_is = (v.reads, walk_parts)

      pub next_range : (0 < b) × (b ≤ n)
      next_range = let w = within_at n top.0 top.1 v.tk (subst (Within n) (v.queue ∙ (ap (λ z. z ++ v.tk) top.2 ∙ append_assoc top.0 (top.1 ∷ []) v.tk)) v.within) in subst (λ (j : ℕ). (0 < j) × (j ≤ n)) top.4 w

      pub goes_on : (now' : Sat Request Reply Log Right) (q : Request) → fits_next max leader sum k ≡ true → At c (Leading (lead_with_one_more (gathering v.own v.seen v.past (v.left ++ (v.group ++ v.own ∷ [])) v.group v.tk) top.1)) v.mine now' → now'.1 ≡ (top.1.by, Empty) ∷ now.1 → q ≡ top.1.asked
          → Gathered now' rest (asked ++ (b, q) ∷ []) (sum + k / 16)
      goes_on now' q more at slots is = record {
        own = v.own;
        group = v.group;
        left = v.left;
        seen = v.seen;
        past = v.past;
        mine = v.mine;
        pre = top.0;
        tk = top.1 ∷ v.tk;
        began = v.began;
        reads = at;
        by = v.by;
        lead_code = v.lead_code;
        is_group = v.is_group;
        built = v.built;
        queue = v.queue ∙ (ap (λ z. z ++ v.tk) top.2 ∙ append_assoc top.0 (top.1 ∷ []) v.tk);
        within = v.within;
        holds = slots ∙ ap (λ z. (top.1.by, Empty) ∷ z) v.holds;
        walk_is = top.3;
        asked_is = (λ i. v.asked_is i ++ (sym top.4 i, is i) ∷ []);
        fit = v.fit ∙ (ap (λ z. length v.tk + z) (next_fit ∙ ap (λ z. cond z (fitting max leader (sum + k / 16) (reverse (codes top.0)) + 1) 0) more) ∙ omega arith);
      }

-- the leader is the oldest of the walk
pub leader_last : {Request : Type 0} (left group : List (QueuedWriter Request)) (own : QueuedWriter Request) (rest : List (ℕ × ℕ)) (b k : ℕ) → pairs (left ++ (group ++ own ∷ [])) ≡ rest ++ (b, k) ∷ [] → (rest ≡ pairs (left ++ group)) × (own.by ≡ b) × (own.code ≡ k)
leader_last {Request} left group own rest b k is =
    let t = pops (left ++ (group ++ own ∷ [])) rest b k is in
    let both : (left ++ group) ++ own ∷ [] ≡ t.0 ++ t.1 ∷ [] = append_assoc left group (own ∷ []) ∙ t.2 in
    let own_is : own ≡ t.1 = same_last (left ++ group) t.0 own t.1 both in
    let pre_is : left ++ group ≡ t.0 = append_cancel_right (left ++ group) t.0 (own ∷ []) (both ∙ ap (λ z. t.0 ++ z ∷ []) (sym own_is)) in
    (t.3 ∙ ap pairs (sym pre_is), ap (λ (e : QueuedWriter Request). e.by) own_is ∙ t.4, ap (λ (e : QueuedWriter Request). e.code) own_is ∙ t.5)

pub not_empty : {Request : Type 0} (left group : List (QueuedWriter Request)) (own : QueuedWriter Request) → pairs (left ++ (group ++ own ∷ [])) ≡ [] → ⊥
not_empty [] [] own is = absurd (cc)
not_empty [] (e ∷ es) own is = absurd (cc)
not_empty (e ∷ es) group own is = absurd (cc)

pub within_of : {Request : Type 0} (n slots : ℕ) (a b : List (QueuedWriter Request)) → slots ≡ n + 2 → AllBelow slots (a ++ b) → Within n a
within_of n slots [] b e ok = tt
within_of n slots (x ∷ xs) b e ok = let h = ok.1 in (ok.0, omega arith, within_of n slots xs b e ok.2)

pub newest_is : {Request : Type 0} (l : List (QueuedWriter Request)) (o : QueuedWriter Request) (d : ℕ) → get_or (bys (l ++ o ∷ [])) 0 d ≡ newest (l ++ o ∷ [])
newest_is [] o d = refl
newest_is (e ∷ es) o d = refl
