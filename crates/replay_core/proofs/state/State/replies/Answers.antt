use Rattle.std.proofs.Common.{◌≡◌, ◌⊎◌, ◌<◌, ℕ, length, subst, arith}
use Rattle.replay_core.proofs.ReplyLemmas.{no_replies, replies_are}
use Rattle.replay_core.proofs.ShowsLemmas.{mirrors}
use Rattle.replay_core.proofs.state.State.replies.Goals as goal

pub returns : goal.returns
returns c = λ o s shown.
    let r = c.args.self.now in
    let m = mirrors r o s shown in
    let within : c.in-Some.place < length r.plans.items = omega (arith, c.in-Some.ensures.1) in
    replies_are r.plans.items r.seats.items s c.args.client c.in-Some.place c.index.result.now c.deref.result.now m.clients c.in-Some.ensures.0 within c.index.ensures c.deref.ensures.value

pub returns-in_default : goal.returns-in_default
returns-in_default c = λ o s shown.
    let r = c.args.self.now in
    let m = mirrors r o s shown in
    let P : ℕ → Type 0 = λ n. (c.args.client ≡ 0) ⊎ (n < c.args.client) in
    no_replies r.plans.items r.seats.items s c.args.client m.clients (subst P r.plans.ok.0 c.in_default.ensures)
