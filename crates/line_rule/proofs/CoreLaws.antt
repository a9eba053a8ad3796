-- A group that is built is the core's.
use Rattle.std.proofs.Common.{◌≡◌, ℕ, List, [], ◌∷◌, ◌++◌, length, map, reverse, take, drop, refl, sym, ap, ◌∙◌, subst}
use Rattle.std.proofs.lemmas.List.{reverse-append, map-append, length-map, length-reverse}
use Rattle.std.proofs.Math.Seq.{take-append_seam, drop-append_seam}
use Rattle.model_base.specs.Grouping.{group_len}
use Rattle.model_core.specs.Core.{Options, Writer, State, item_of as item_of_writer}
use Rattle.model_core.specs.Step.{group_size}
use Rattle.line_rule.specs.declared.view.QueuedWriter.{QueuedWriter}
use Rattle.line_rule.specs.Chain.{AllCoded}
use Rattle.model_base.specs.declared.group.Item.{Item}
use Rattle.line_rule.specs.CoreEvents.{HasItems, core_queue}
use Rattle.line_rule.specs.Events.{Core, builds, Enabled}
use Rattle.line_rule.specs.Grouping.{item_of, code_of, code_by, codes, items}

-- a writer made of client and request has its entry's item
pub coded_items : {Request : Type 0} → ((i : Item) → item_of (code_of i) ≡ i) → (of_request : Request → Item) (writer : ℕ → Request → Writer) → ((c : ℕ) (q : Request) → ((writer c q).client ≡ c) × (item_of_writer (writer c q) ≡ of_request q)) → (queue : List (QueuedWriter Request)) → AllCoded (λ q code. code ≡ code_by of_request q) queue → HasItems (λ e. writer e.by e.asked) queue
coded_items back of_request writer is [] coded = tt
coded_items back of_request writer is (e ∷ es) coded = ((is e.by e.asked).1 ∙ sym (ap item_of coded.0 ∙ back (of_request e.asked)), coded_items back of_request writer is es coded.1)

module _ {Request Reply : Type 0} (writer_of : QueuedWriter Request → Writer) (o : Options) (s : State) (k : Core Request Reply) where
  queue_more : (a b : List (QueuedWriter Request)) → core_queue writer_of (a ++ b) ≡ core_queue writer_of b ++ core_queue writer_of a
  queue_more a b = ap (map writer_of) (reverse-append a b) ∙ map-append writer_of (reverse b) (reverse a)

  length-queue : (a : List (QueuedWriter Request)) → length (core_queue writer_of a) ≡ length a
  length-queue a = length-map (reverse a) writer_of ∙ length-reverse a

  reverse_codes : (q : List (QueuedWriter Request)) → reverse (codes q) ≡ map (λ (e : QueuedWriter Request). e.code) (reverse q)
  reverse_codes [] = refl
  reverse_codes (e ∷ es) = reverse-append (e.code ∷ []) (codes es) ∙ (ap (λ l. l ++ e.code ∷ []) (reverse_codes es)
      ∙ sym (ap (map (λ (e : QueuedWriter Request). e.code)) (reverse-append (e ∷ []) es) ∙ map-append (λ (e : QueuedWriter Request). e.code) (reverse es) (e ∷ [])))

  items_both : (a b : List (QueuedWriter Request)) → HasItems writer_of a → HasItems writer_of b → HasItems writer_of (a ++ b)
  items_both [] b x y = y
  items_both (e ∷ a) b x y = (x.0, items_both a b x.1 y)

  items_back : (q : List (QueuedWriter Request)) → HasItems writer_of q → HasItems writer_of (reverse q)
  items_back [] has = tt
  items_back (e ∷ es) has = subst (HasItems writer_of) (sym (reverse-append (e ∷ []) es)) (items_both (reverse es) (e ∷ []) (items_back es has.1) (has.0, tt))

  items_core : (es : List (QueuedWriter Request)) → HasItems writer_of es → map item_of_writer (map writer_of es) ≡ map item_of (map (λ (e : QueuedWriter Request). e.code) es)
  items_core [] has = refl
  items_core (e ∷ es) has = λ i. has.0 i ∷ items_core es has.1 i

  same_items : (q : List (QueuedWriter Request)) → HasItems writer_of q → map item_of_writer (core_queue writer_of q) ≡ items q
  same_items q has = items_core (reverse q) (items_back q has) ∙ ap (map item_of) (sym (reverse_codes q))

  -- a group is the front of the core's queue, and the others are left
  pub builds_core : (own : QueuedWriter Request) (group left : List (QueuedWriter Request)) → s.queue ≡ core_queue writer_of k.0 → HasItems writer_of k.0 → Enabled k (builds o.group_bytes own group left)
      → (take (group_size o s) s.queue ≡ core_queue writer_of (group ++ own ∷ [])) × (drop (group_size o s) s.queue ≡ core_queue writer_of left)
  builds_core own group left is has may =
      let whole : List (QueuedWriter Request) = group ++ own ∷ [] in
      let size : group_size o s ≡ length (core_queue writer_of whole) =
      ap (λ q. group_len o.group_bytes (map item_of_writer q)) is ∙ (ap (group_len o.group_bytes) (same_items k.0 has ∙ ap items may.1) ∙ (sym may.2 ∙ sym (length-queue whole))) in
      let parts : s.queue ≡ core_queue writer_of whole ++ core_queue writer_of left = is ∙ (ap (core_queue writer_of) may.1 ∙ queue_more left whole) in (
        (λ i. take (size i) (parts i)) ∙ take-append_seam (core_queue writer_of whole) (core_queue writer_of left),
        (λ i. drop (size i) (parts i)) ∙ drop-append_seam (core_queue writer_of whole) (core_queue writer_of left),
      )
