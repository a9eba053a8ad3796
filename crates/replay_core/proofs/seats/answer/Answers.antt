use Rattle.std.proofs.Common.{◌≡◌, ℕ, ◌+◌, ◌-◌, ◌<◌, List, [], ◌∷◌, ◌++◌, length, vec_len, refl, sym, ap, ◌∙◌, subst, arith}
use Rattle.std.specs.Prelude.{if◌then◌else◌, vec_capacity}
use Rattle.std.proofs.lemmas.List.{length-drop}
use Rattle.model_base.specs.Calls.{Reply}
use Rattle.model_core.specs.Core as core
use Rattle.replay_plans.specs.Answers.{answers_of}
use Rattle.replay_core.specs.Replies.{AreReplies}
use Rattle.replay_core.specs.declared.writer.CoreReply.{CoreReply}
use Rattle.replay_core.proofs.ClientLemmas.{reply_more}
use Rattle.replay_core.proofs.SmallLemmas.{small_ahead}
use Rattle.replay_core.proofs.seats.answer.Goals as goal

pub returns : goal.returns
returns c = λ plan client command r is idle ahead there reply answer.
    let seat = c.args.seat.now in
    let a = c.args.ahead in
    let next = core.next_call client in
    let none : ◌≡◌ {A = ℕ} (if client.idle then 0 else 1) 0 = ap (λ b. if b then 0 else 1) idle in
    let len : vec_len seat.replies ≡ length seat.replies.items = seat.replies.ok.0 in
    let old_left : length client.left ≡ length plan - seat.next = ap length is.left ∙ length-drop seat.next plan in
    let new_left : length (next.client.left) ≡ length plan - a.next = ap length ahead.left ∙ length-drop a.next plan in
    let on : a.next ≡ a.call + 1 = ahead.goes_on there in
    let free : vec_len seat.replies < vec_capacity seat.replies = omega (arith, is.room, none, len, old_left, there, ahead.onward) in
    let pushed : c.push_within.new.items.items ≡ seat.replies.items ++ c.args.reply ∷ [] = c.push_within.ensures.pushed free in
    let P : List CoreReply → Type 0 = λ xs. AreReplies xs (answers_of (next.client.calls ++ record { command = command; reply = r } ∷ [])) in
    let Q : List Reply → Type 0 = λ rs. AreReplies seat.replies.items rs in
    let before : AreReplies seat.replies.items (answers_of next.client.calls) = subst Q (sym ahead.answers) is.replies in
    record {
      left = ahead.left;
      begun = omega (arith, on, ahead.begun);
      within = omega (arith, on, there);
      added = ahead.added ∙ sym ahead.later;
      small = small_ahead client.calls client.added client.left client is.small;
      idle = refl;
      replies = subst P (sym pushed) (reply_more seat.replies.items next.client.calls c.args.reply command r before reply answer);
      room = omega (arith, is.room, none, len, old_left, new_left, there, on, ahead.onward, c.push_within.ensures.len free, c.push_within.ensures.capacity, c.push_within.new.items.ok.0);
    }
