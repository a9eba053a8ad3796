use Rattle.std.proofs.Common.{◌≡◌, ℕ, ◌<◌, List, [], ◌∷◌, ◌++◌, length, vec_len, refl, sym, ap, subst, arith}
use Rattle.std.specs.Prelude.{if◌then◌else◌, vec_capacity}
use Rattle.replay_plans.specs.Answers.{answers_of}
use Rattle.replay_core.specs.Replies.{AreReplies}
use Rattle.replay_core.specs.declared.writer.CoreReply.{CoreReply}
use Rattle.replay_core.proofs.ClientLemmas.{reply_more}
use Rattle.replay_core.proofs.seats.told.Goals as goal

pub returns : goal.returns
returns c = λ plan client command r is busy reply answer.
    let seat = c.args.seat.now in
    let one : ◌≡◌ {A = ℕ} (if client.idle then 0 else 1) 1 = ap (λ b. if b then 0 else 1) busy in
    let len : vec_len seat.replies ≡ length seat.replies.items = seat.replies.ok.0 in
    let free : vec_len seat.replies < vec_capacity seat.replies = omega (arith, is.room, one, len) in
    let pushed : c.push_within.new.items.items ≡ seat.replies.items ++ c.args.reply ∷ [] = c.push_within.ensures.pushed free in
    let P : List CoreReply → Type 0 = λ xs. AreReplies xs (answers_of (client.calls ++ record { command = command; reply = r } ∷ [])) in
    record {
      left = is.left;
      begun = is.begun;
      within = is.within;
      added = is.added;
      small = is.small;
      idle = refl;
      replies = subst P (sym pushed) (reply_more seat.replies.items client.calls c.args.reply command r is.replies reply answer);
      room = omega (arith, is.room, one, len, c.push_within.ensures.len free, c.push_within.ensures.capacity, c.push_within.new.items.ok.0);
    }
