use Rattle.std.proofs.Common.{◌≡◌, ℕ, ◌+◌, ◌-◌, List, length, refl, sym, ap, ◌∙◌, subst, arith}
use Rattle.std.specs.Prelude.{if◌then◌else◌}
use Rattle.std.proofs.lemmas.List.{length-drop}
use Rattle.model_base.specs.Calls.{Reply}
use Rattle.model_core.specs.Core as core
use Rattle.replay_core.specs.Replies.{AreReplies}
use Rattle.replay_core.proofs.SmallLemmas.{small_ahead}
use Rattle.replay_core.proofs.seats.wait.Goals as goal

pub returns : goal.returns
returns c = λ plan client is idle ahead there.
    let seat = c.args.seat.now in
    let a = c.args.ahead in
    let next = core.next_call client in
    let none : ◌≡◌ {A = ℕ} (if client.idle then 0 else 1) 0 = ap (λ b. if b then 0 else 1) idle in
    let old_left : length client.left ≡ length plan - seat.next = ap length is.left ∙ length-drop seat.next plan in
    let new_left : length (next.client.left) ≡ length plan - a.next = ap length ahead.left ∙ length-drop a.next plan in
    let on : a.next ≡ a.call + 1 = ahead.goes_on there in
    let Q : List Reply → Type 0 = λ rs. AreReplies seat.replies.items rs in
    record {
      left = ahead.left;
      begun = omega (arith, on, ahead.begun);
      within = omega (arith, on, there);
      added = ahead.added ∙ sym ahead.later;
      small = small_ahead client.calls client.added client.left client is.small;
      idle = refl;
      replies = subst Q (sym ahead.answers) is.replies;
      room = omega (arith, is.room, none, old_left, new_left, there, on, ahead.onward);
    }
