-- A group of which each member gets the same answer.
use Rattle.std.proofs.Common.{◌≡◌, ℕ, List, [], ◌∷◌, ◌++◌, map, reverse, Option, Some, refl, sym, ap, ◌∙◌}
use Rattle.std.proofs.lemmas.List.{reverse-append}
use Rattle.model_base.specs.Calls.{Reply as CoreReply}
use Rattle.model_core.specs.Core.{Writer, all_answered}
use Rattle.line_rule.specs.declared.view.QueuedWriter.{QueuedWriter}
use Rattle.line_rule.specs.declared.view.Handling.{Handling}
use Rattle.line_rule.specs.CoreEvents.{IsSame, core_queue, answer_of, answer_in, HasReplies, AllHave}
use Rattle.line_rule.specs.Events.{IsOfGroup, was_for, wrote}

module _ {Request Reply : Type 0} (reply_of : Reply → CoreReply) where
  abbrev given : CoreReply → ℕ × Request → ℕ × Option CoreReply
  given reply x = (x.0, Some reply)

  all_given : (reply : CoreReply) (hs : List (Handling Request Reply)) → AllHave reply_of reply hs → map (answer_in reply_of) hs ≡ map (given reply) (map was_for hs)
  all_given reply [] ok = refl
  all_given reply (h ∷ hs) ok = λ i. (h.by, Some (ok.0 i)) ∷ all_given reply hs ok.1 i

  module _ (writer_of : QueuedWriter Request → Writer) where
    writers_given : IsSame writer_of → (reply : CoreReply) (es : List (QueuedWriter Request)) → map answer_of (all_answered reply (map writer_of es)) ≡ map (given reply) (map wrote es)
    writers_given same reply [] = refl
    writers_given same reply (e ∷ es) = λ i. (same e i, Some reply) ∷ writers_given same reply es i

    pub group_given : IsSame writer_of → (reply : CoreReply) (own : QueuedWriter Request) (group : List (QueuedWriter Request)) (new : List (Handling Request Reply)) → IsOfGroup own group new → AllHave reply_of reply new → HasReplies reply_of new (all_answered reply (core_queue writer_of (group ++ own ∷ [])))
    group_given same reply own group new theirs ok = writers_given same reply (reverse (group ++ own ∷ [])) ∙ (ap (λ l. map (given reply) (map wrote l)) (reverse-append group (own ∷ []))
        ∙ (ap (map (given reply)) (sym theirs) ∙ sym (all_given reply new ok)))
