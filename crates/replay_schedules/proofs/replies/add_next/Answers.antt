use Rattle.std.proofs.Common.{◌≡◌, length, slice_get, Some, None, ◌∙◌, sym, subst, arith}
use Rattle.run_command_list.specs.Views.{command_of}
use Rattle.replay_schedules.proofs.ReplayedClients.{reply_at, no_reply_at, none_at}
use Rattle.replay_schedules.proofs.replies.add_next.Goals as goal

pub returns-in_ok-push-clause-replies : goal.returns-in_ok-push-clause-replies
returns-in_ok-push-clause-replies c = λ o s is_core shows reads.
    let replies = c.args.replies.now.items in
    let told = c.args.told.now in
    let len : c.len.result ≡ length replies = omega arith in
    let here : slice_get told c.len.result ≡ Some c.in-Some.next = sym c.reply_at.ensures ∙ c.in-Some.is in
    let at : slice_get told (length replies) ≡ Some c.in-Some.next = subst (λ n. slice_get told n ≡ Some c.in-Some.next) len here in
    let is = sym (c.in_ok-reply.ensures.reply o s is_core shows reads) ∙ c.in-Some-2.is in
    reply_at s (command_of c.args.command.now) told replies c.push.new.self.items c.in-Some.next c.in-Some-2.reply at is c.in_ok-push.ensures.items

pub returns-in_default-2-clause-replies : goal.returns-in_default-2-clause-replies
returns-in_default-2-clause-replies c = λ o s is_core shows reads.
    let replies = c.args.replies.now.items in
    let told = c.args.told.now in
    let len : c.len.result ≡ length replies = omega arith in
    let here : slice_get told c.len.result ≡ Some c.in-Some.next = sym c.reply_at.ensures ∙ c.in-Some.is in
    let at : slice_get told (length replies) ≡ Some c.in-Some.next = subst (λ n. slice_get told n ≡ Some c.in-Some.next) len here in
    let is = sym (c.in_ok-reply.ensures.reply o s is_core shows reads) ∙ c.in_default-2.is in
    no_reply_at s (command_of c.args.command.now) told replies c.in-Some.next at is

pub returns-in_default-clause-replies : goal.returns-in_default-clause-replies
returns-in_default-clause-replies c = λ o s is_core shows reads.
    let replies = c.args.replies.now.items in
    let told = c.args.told.now in
    let len : c.len.result ≡ length replies = omega arith in
    let here : slice_get told c.len.result ≡ None = sym c.reply_at.ensures ∙ c.in_default.is in
    none_at s (command_of c.args.command.now) told replies (length replies) (subst (λ n. slice_get told n ≡ None) len here)
