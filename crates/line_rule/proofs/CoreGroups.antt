-- What the events of the lists share: a group's writers, and what is owed.
use Rattle.std.proofs.Common.{◌≡◌, ◌≢◌, ℕ, ◌+◌, eqb, eq-eqb, ne_eqb, Bool, true, false, not, cond, ◌⊎◌, inl, inr, List, [], ◌∷◌, ◌++◌, map, filter, reverse, drop, if◌then◌else◌, Option as Answer, Some, refl, sym, ap, ◌∙◌, subst, append-nil, append_assoc, eqb-true}
use Rattle.std.specs.List.{AllZip}
use Rattle.std.specs.Prelude.{nat_le, find}
use Rattle.std.proofs.lemmas.List.{reverse-append}
use Rattle.std.proofs.lemmas.List.Concat.{flat_map-append}
use Rattle.std.proofs.lemmas.List.Elements.{filter-append}
use Rattle.std.proofs.lemmas.Slice.Zip.{all_zipped_more}
use native.Mathlib.Decide.{ℕ_discrete}
use mathlib.Core.Option.{Option, none, some}
use Rattle.model_base.specs.Calls.{Reply as CoreReply}
use Rattle.model_base.specs.Batch.{count_of}
use Rattle.model_base.specs.History.{max_sequence}
use Rattle.model_core.specs.Core.{Writer, leads, with_runs, first_group}
use Rattle.model_core.specs.CoreLaw.{writers_in}
use Rattle.line_rule.specs.declared.view.QueuedWriter.{QueuedWriter}
use Rattle.line_rule.specs.declared.view.Handling.{Handling}
use Rattle.line_rule.specs.declared.view.Squad.{Squad}
use Rattle.line_rule.specs.Chain.{Absent, of}
use Rattle.line_rule.specs.CoreEvents.{IsSame, core_queue, answer_of, answer_in, IsRearranged, without_answer, IsGroupOf, HasGroups}
use Rattle.line_rule.specs.SecondList.{IsPut}
use Rattle.line_rule.specs.Standing.{line_of, flat}
use Rattle.line_rule.proofs.Groups.{absent_append, absent_front, absent_back}

-- A group's writers

leads_else : (c : ℕ) (ws : List Writer) → leads c (map without_answer ws) ≡ leads c ws
leads_else c [] = refl
leads_else c (w ∷ ws) = refl

module _ {Request : Type 0} (writer_of : QueuedWriter Request → Writer) where
  pub first_leads : IsSame writer_of → (own : QueuedWriter Request) (group : List (QueuedWriter Request)) → leads own.by (core_queue writer_of (group ++ own ∷ [])) ≡ true
  first_leads same own group = ap (λ l. leads own.by (map writer_of l)) (reverse-append group (own ∷ [])) ∙ eq-eqb (writer_of own).client own.by (same own)

  -- a group's leader is its first writer
  pub group_leads : IsSame writer_of → (own : QueuedWriter Request) (group : List (QueuedWriter Request)) (ws : List Writer) → IsGroupOf writer_of (group ++ own ∷ []) ws → leads own.by ws ≡ true
  group_leads same own group ws is =
      let c : ℕ = own.by in
      sym (leads_else c ws) ∙ (ap (leads c) is ∙ (leads_else c (core_queue writer_of (group ++ own ∷ [])) ∙ first_leads same own group))

-- a writer that is given a run, or another answer, is the same writer without its answer
run_or_none : (b : Bool) (a r : Answer CoreReply) (w : Writer) (vs us ws : List Writer) → map without_answer vs ≡ map without_answer ws → map without_answer us ≡ map without_answer ws
    → map without_answer (if b then record w { answer = a } ∷ vs else record w { answer = r } ∷ us) ≡ map without_answer (w ∷ ws)
run_or_none true a r w vs us ws x y i = without_answer w ∷ x i
run_or_none false a r w vs us ws x y i = without_answer w ∷ y i

pub runs_kept : (last : ℕ) (ws : List Writer) → map without_answer (with_runs last ws) ≡ map without_answer ws
runs_kept last [] = refl
runs_kept last (w ∷ ws) = run_or_none (nat_le (last + count_of w.records) max_sequence) _ _ w _ _ ws (runs_kept (last + count_of w.records) ws) (runs_kept last ws)

-- The groups of the second queue

pub joined_more : (wss : List (List Writer)) (ws : List Writer) → writers_in (wss ++ ws ∷ []) ≡ writers_in wss ++ ws
joined_more wss ws = flat_map-append (λ (ws : List Writer). ws) wss (ws ∷ []) ∙ ap (λ l. writers_in wss ++ l) (append-nil ws)

module _ {Request Reply : Type 0} (writer_of : QueuedWriter Request → Writer) where
  abbrev pub Same : Squad Request Reply → List Writer → Type 0
  Same g ws = IsGroupOf writer_of (line_of g) ws

  -- one more group is added at the end
  pub groups_more : (g : Squad Request Reply) (gs : List (Squad Request Reply)) (wss : List (List Writer)) (ws : List Writer) → HasGroups writer_of gs wss → Same g ws → HasGroups writer_of (g ∷ gs) (wss ++ ws ∷ [])
  groups_more g gs wss ws all one = subst (λ l. AllZip Same l (wss ++ ws ∷ [])) (sym (reverse-append (g ∷ []) gs)) (all_zipped_more Same (reverse gs) wss g ws all one)

  front : (g : Squad Request Reply) (gs : List (Squad Request Reply)) (wss : List (List Writer)) → AllZip Same (g ∷ gs) wss → Same g (first_group wss) × AllZip Same gs (drop 1 wss) × (writers_in wss ≡ first_group wss ++ writers_in (drop 1 wss))
  front g gs [] all = absurd all
  front g gs (ws ∷ wss) all = (all.0, all.1, refl)

  -- the oldest group of the list is the first of the queue
  pub groups_first : (g : Squad Request Reply) (gs : List (Squad Request Reply)) (wss : List (List Writer)) → HasGroups writer_of (gs ++ g ∷ []) wss → Same g (first_group wss) × HasGroups writer_of gs (drop 1 wss) × (writers_in wss ≡ first_group wss ++ writers_in (drop 1 wss))
  groups_first g gs wss all = front g (reverse gs) wss (subst (λ l. AllZip Same l wss) (reverse-append gs (g ∷ [])) all)

-- a client that has a group apart is the only one that has one
module _ {Request Reply : Type 0} where
  pub only_put : (c d : ℕ) (g f : Squad Request Reply) (apart : ℕ → Option (Squad Request Reply)) → IsPut d (some f) (λ _. none) apart → apart c ≡ some g → c ≡ d
  only_put c d g f apart put here = go (ℕ_discrete c d)
    where
      go : Dec (c ≡ d) → c ≡ d
      go (yes e) = e
      go (no ne) = let bad : none ≡ some g = sym (put.1 c ne) ∙ here in absurd (cc)

  pub none_now : (c d : ℕ) (f : Squad Request Reply) (was now : ℕ → Option (Squad Request Reply)) → IsPut d (some f) (λ _. none) was → c ≡ d → IsPut c none was now → (k : ℕ) → now k ≡ none
  none_now c d f was now put same gone k = go (ℕ_discrete k c)
    where
      go : Dec (k ≡ c) → now k ≡ none
      go (yes e) = ap now e ∙ gone.0
      go (no ne) = gone.1 k ne ∙ put.1 k (λ e. ne (e ∙ sym same))

-- What is owed

abbrev tail_of : {A : Type 0} → List A → List A
tail_of [] = []
tail_of (x ∷ xs) = xs

abbrev head_or : {A : Type 0} → A → List A → A
head_or d [] = d
head_or d (x ∷ xs) = x

module _ {A : Type 0} where
  pub rearranged_as : (a b c d : List A) → c ≡ a → d ≡ b → IsRearranged a b → IsRearranged c d
  rearranged_as a b c d left right is = subst (λ l. IsRearranged l d) (sym left) (subst (IsRearranged a) (sym right) is)

  itself : (a : List A) → IsRearranged a a
  itself [] = refl
  itself (x ∷ a) = ([], a, refl, itself a)

  pub rearranged_more : (a b more : List A) → IsRearranged a b → IsRearranged (a ++ more) (b ++ more)
  rearranged_more [] b more is = subst (λ l. IsRearranged more (l ++ more)) (sym is) (itself more)
  rearranged_more (x ∷ a) b more is =
      (is.0, is.1 ++ more, ap (λ l. l ++ more) is.2 ∙ append_assoc is.0 (x ∷ is.1) more, subst (IsRearranged (a ++ more)) (append_assoc is.0 is.1 more) (rearranged_more a (is.0 ++ is.1) more is.3))

  -- an element of two lists is of the one or of the other
  abbrev Splits : List A → List A → List A → A → List A → Type 0
  Splits b c before x after = ((t : List A) × (b ≡ before ++ x ∷ t) × (after ≡ t ++ c)) ⊎ ((t : List A) × (c ≡ t ++ x ∷ after) × (before ≡ b ++ t))

  splits : (b c before : List A) (x : A) (after : List A) → b ++ c ≡ before ++ x ∷ after → Splits b c before x after
  splits [] c before x after is = inr (before, is, refl)
  splits (y ∷ b) c [] x after is = inl (b, (λ i. head_or y (is i) ∷ b), sym (ap tail_of is))
  splits (y ∷ b) c (z ∷ before) x after is = go (splits b c before x after (ap tail_of is))
    where
      go : Splits b c before x after → Splits (y ∷ b) c (z ∷ before) x after
      go (inl h) = inl (h.0, (λ i. head_or y (is i) ∷ h.1 i), h.2)
      go (inr h) = inr (h.0, h.1, (λ i. head_or y (sym is i) ∷ h.2 i))

  -- more elements in both lists, in one of them before its last part
  pub rearranged_within : (a b c more : List A) → IsRearranged a (b ++ c) → IsRearranged (a ++ more) ((b ++ more) ++ c)
  rearranged_within [] [] c more is = subst (λ l. IsRearranged more (more ++ l)) (sym is) (subst (IsRearranged more) (sym (append-nil more)) (itself more))
  rearranged_within [] (y ∷ b) c more is = absurd (cc)
  rearranged_within (x ∷ a) b c more is = go (splits b c is.0 x is.1 is.2) (λ f g r. rearranged_within a f g more r)
    where
      go : Splits b c is.0 x is.1 → ((f g : List A) → IsRearranged a (f ++ g) → IsRearranged (a ++ more) ((f ++ more) ++ g)) → IsRearranged (x ∷ (a ++ more)) ((b ++ more) ++ c)
      go (inl h) again =
          let rest = again (is.0 ++ h.0) c (subst (IsRearranged a) (ap (λ l. is.0 ++ l) h.2 ∙ sym (append_assoc is.0 h.0 c)) is.3) in (
            is.0,
            (h.0 ++ more) ++ c,
            ap (λ l. (l ++ more) ++ c) h.1 ∙ (ap (λ l. l ++ c) (append_assoc is.0 (x ∷ h.0) more) ∙ append_assoc is.0 (x ∷ (h.0 ++ more)) c),
            subst (IsRearranged (a ++ more)) (ap (λ l. l ++ c) (append_assoc is.0 h.0 more) ∙ append_assoc is.0 (h.0 ++ more) c) rest,
          )
      go (inr h) again =
          let rest = again b (h.0 ++ is.1) (subst (IsRearranged a) (ap (λ l. l ++ is.1) h.2 ∙ append_assoc b h.0 is.1) is.3) in
          ((b ++ more) ++ h.0, is.1, ap (λ l. (b ++ more) ++ l) h.1 ∙ sym (append_assoc (b ++ more) h.0 (x ∷ is.1)), subst (IsRearranged (a ++ more)) (sym (append_assoc (b ++ more) h.0 is.1)) rest)

  one_filtered : (keep : Bool) (x : A) (a before after : List A) → IsRearranged a (before ++ after) → IsRearranged (cond keep (x ∷ a) a) (before ++ cond keep (x ∷ after) after)
  one_filtered true x a before after is = (before, after, refl, is)
  one_filtered false x a before after is = is

  pub rearranged_filter : (keep : A → Bool) (a b : List A) → IsRearranged a b → IsRearranged (filter keep a) (filter keep b)
  rearranged_filter keep [] b is = ap (filter keep) is
  rearranged_filter keep (x ∷ a) b is =
      subst (IsRearranged (filter keep (x ∷ a))) (sym (ap (filter keep) is.2 ∙ filter-append keep is.0 (x ∷ is.1)))
      (one_filtered (keep x) x (filter keep a) (filter keep is.0) (filter keep is.1) (subst (IsRearranged (filter keep a)) (filter-append keep is.0 is.1) (rearranged_filter keep a (is.0 ++ is.1) is.3)))

  none_both : (a b : List A) → a ++ b ≡ [] → (a ≡ []) × (b ≡ [])
  none_both [] b is = (refl, is)
  none_both (x ∷ a) b is = absurd (cc)

  -- a rearrangement of one element is that element alone
  pub rearranged_one : (x : A) (b : List A) → IsRearranged (x ∷ []) b → b ≡ x ∷ []
  rearranged_one x b is = let none = none_both is.0 is.1 is.3 in is.2 ∙ (λ i. none.0 i ++ x ∷ none.1 i)

-- A client that gets its reply is in no group

abbrev pub Out : ℕ → List Writer → Type 0
Out c [] = Unit {0}
Out c (w ∷ ws) = (w.client ≢ c) × Out c ws

pub out_both : (c : ℕ) (ws vs : List Writer) → Out c ws → Out c vs → Out c (ws ++ vs)
out_both c [] vs x y = y
out_both c (w ∷ ws) vs x y = (x.0, out_both c ws vs x.1 y)

out_plain : (c : ℕ) (ws : List Writer) → Out c (map without_answer ws) → Out c ws
out_plain c [] out = tt
out_plain c (w ∷ ws) out = (out.0, out_plain c ws out.1)

plain_out : (c : ℕ) (ws : List Writer) → Out c ws → Out c (map without_answer ws)
plain_out c [] out = tt
plain_out c (w ∷ ws) out = (out.0, plain_out c ws out.1)

abbrev pub stays : ℕ → ℕ × Answer CoreReply → Bool
stays c x = not (eqb x.0 c)

pub out_stays : (c : ℕ) (ws : List Writer) → Out c ws → filter (stays c) (map answer_of ws) ≡ map answer_of ws
out_stays c [] out = refl
out_stays c (w ∷ ws) out = ap (λ b. cond (not b) (answer_of w ∷ filter (stays c) (map answer_of ws)) (filter (stays c) (map answer_of ws))) (ne_eqb w.client c out.0) ∙ ap (λ l. answer_of w ∷ l) (out_stays c ws out.1)

-- whether an answer is this client's
abbrev pub belongs : ℕ → ℕ × Answer CoreReply → Bool
belongs c x = eqb x.0 c

pub out_own : (c : ℕ) (ws : List Writer) → Out c ws → filter (belongs c) (map answer_of ws) ≡ []
out_own c [] out = refl
out_own c (w ∷ ws) out = ap (λ b. cond b (answer_of w ∷ filter (belongs c) (map answer_of ws)) (filter (belongs c) (map answer_of ws))) (ne_eqb w.client c out.0) ∙ out_own c ws out.1

pub found_first : (c : ℕ) (ws : List Writer) (y : ℕ × Answer CoreReply) (rest : List (ℕ × Answer CoreReply)) → filter (belongs c) (map answer_of ws) ≡ y ∷ rest → (w : Writer) × (find (λ (x : Writer). eqb x.client c) ws ≡ Some w) × (answer_of w ≡ y)
found_first c [] y rest is = absurd (cc)
found_first c (w ∷ ws) y rest is = go (eqb w.client c) is (λ later. found_first c ws y rest later)
  where
    go : (b : Bool) → cond b (answer_of w ∷ filter (belongs c) (map answer_of ws)) (filter (belongs c) (map answer_of ws)) ≡ y ∷ rest → (filter (belongs c) (map answer_of ws) ≡ y ∷ rest → (x : Writer) × (find (λ (x : Writer). eqb x.client c) ws ≡ Some x) × (answer_of x ≡ y)) → (x : Writer) × (cond b (Some w) (find (λ (x : Writer). eqb x.client c) ws) ≡ Some x) × (answer_of x ≡ y)
    go true is again = (w, refl, ap (head_or y) is)
    go false is again = again is

module _ {Request Reply : Type 0} (reply_of : Reply → CoreReply) (c : ℕ) where
  abbrev pub own_answer : Request × Reply → ℕ × Answer CoreReply
  own_answer x = (c, Some (reply_of x.1))

  pub own_replies : (hs : List (Handling Request Reply)) → filter (belongs c) (map (answer_in reply_of) hs) ≡ map own_answer (of c hs)
  own_replies [] = refl
  own_replies (h ∷ hs) = go (eqb h.by c) refl (own_replies hs)
    where
      go : (b : Bool) → eqb h.by c ≡ b → filter (belongs c) (map (answer_in reply_of) hs) ≡ map own_answer (of c hs) → cond b (answer_in reply_of h ∷ filter (belongs c) (map (answer_in reply_of) hs)) (filter (belongs c) (map (answer_in reply_of) hs)) ≡ map own_answer (cond b ((h.asked, h.reply) ∷ of c hs) (of c hs))
      go true is more = λ i. (eqb-true h.by c is i, Some (reply_of h.reply)) ∷ more i
      go false is more = more

module _ {Request : Type 0} (writer_of : QueuedWriter Request → Writer) (same : IsSame writer_of) where
  pub absent_writers : (c : ℕ) (es : List (QueuedWriter Request)) → Absent c es → Out c (map writer_of es)
  absent_writers c [] out = tt
  absent_writers c (e ∷ es) out = ((λ is. out.0 (sym (same e) ∙ is)), absent_writers c es out.1)

  pub absent_back_to_front : (c : ℕ) (es : List (QueuedWriter Request)) → Absent c es → Absent c (reverse es)
  absent_back_to_front c [] out = tt
  absent_back_to_front c (e ∷ es) out = subst (Absent c) (sym (reverse-append (e ∷ []) es)) (absent_append c (reverse es) (e ∷ []) (absent_back_to_front c es out.1) (out.0, tt))

  pub group_out : (c : ℕ) (es : List (QueuedWriter Request)) (ws : List Writer) → Absent c es → IsGroupOf writer_of es ws → Out c ws
  group_out c es ws out is = out_plain c ws (subst (Out c) (sym is) (plain_out c (core_queue writer_of es) (absent_writers c (reverse es) (absent_back_to_front c es out))))

module _ {Request Reply : Type 0} (writer_of : QueuedWriter Request → Writer) (same : IsSame writer_of) (c : ℕ) where
  abbrev AllOut : List (Squad Request Reply) → Type 0
  AllOut [] = Unit {0}
  AllOut (g ∷ gs) = Absent c (line_of g) × AllOut gs

  all_out_both : (gs fs : List (Squad Request Reply)) → AllOut gs → AllOut fs → AllOut (gs ++ fs)
  all_out_both [] fs x y = y
  all_out_both (g ∷ gs) fs x y = (x.0, all_out_both gs fs x.1 y)

  all_out : (gs : List (Squad Request Reply)) → Absent c (flat gs) → AllOut (reverse gs)
  all_out [] out = tt
  all_out (g ∷ gs) out = subst AllOut (sym (reverse-append (g ∷ []) gs)) (all_out_both (reverse gs) (g ∷ []) (all_out gs (absent_back c (line_of g) (flat gs) out)) (absent_front c (line_of g) (flat gs) out, tt))

  out_of : (gs : List (Squad Request Reply)) (wss : List (List Writer)) → AllOut gs → AllZip (Same writer_of) gs wss → Out c (writers_in wss)
  out_of [] [] out all = tt
  out_of [] (ws ∷ wss) out all = absurd all
  out_of (g ∷ gs) [] out all = absurd all
  out_of (g ∷ gs) (ws ∷ wss) out all = out_both c ws (writers_in wss) (group_out writer_of same c (line_of g) ws out.0 all.0) (out_of gs wss out.1 all.1)

  pub groups_out : (gs : List (Squad Request Reply)) (wss : List (List Writer)) → Absent c (flat gs) → HasGroups writer_of gs wss → Out c (writers_in wss)
  groups_out gs wss out all = out_of (reverse gs) wss (all_out gs out) all
