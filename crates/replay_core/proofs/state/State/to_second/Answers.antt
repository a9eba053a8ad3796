use Rattle.std.proofs.Common.{◌≡◌, ◌+◌, ◌<◌, true, List, [], ◌∷◌, ◌++◌, take, drop, vec_len, refl, sym, ◌∙◌, ap, add-zero, arith}
use Rattle.std.specs.Prelude.{vec_capacity}
use Rattle.model_core.specs.Core as core
use Rattle.replay_core.specs.Leads.{leads_front}
use Rattle.replay_core.specs.Phases.{is_marked}
use Rattle.replay_core.specs.Mirrors.{answers_in_hand}
use Rattle.replay_core.proofs.Events.{first_fails, second_fails, both_hold}
use Rattle.replay_core.proofs.LogEvents.{second_is, marked_answered, leads_some, line_of, hand_of}
use Rattle.replay_core.specs.Shown.{groups_of_lengths, total}
use Rattle.replay_core.proofs.Line.{cut_push, sum_push}
use Rattle.replay_core.proofs.state.State.to_second.Goals as goal

pub returns-then-not-is_marked-clause-steps : goal.returns-then-not-is_marked-clause-steps
returns-then-not-is_marked-clause-steps c = λ o s is_core m.
    let r = c.args.self.now in
    first_fails _ _ _ o _ s r (second_is o r s c.args.client m) (sym c.is_marked.ensures ∙ c.if-not-is_marked.true) m

pub returns-then-not-leads_hand-clause-steps : goal.returns-then-not-leads_hand-clause-steps
returns-then-not-leads_hand-clause-steps c = λ o s is_core m.
    let r = c.args.self.now in
    second_fails _ _ _ o _ s r (second_is o r s c.args.client m) (sym c.leads_hand.ensures ∙ c.if-not-leads_hand.true) m

pub returns-clause-steps : goal.returns-clause-steps
returns-clause-steps c = λ o s is_core m.
    let r = c.args.self.now in
    let marked : is_marked r.log ≡ true = sym c.is_marked.ensures ∙ c.if-not-is_marked.false in
    let leads : leads_front c.args.client r.in_second r.in_hand r.linked.items ≡ true = sym c.leads_hand.ensures ∙ c.if-not-leads_hand.false in
    let some : 0 < r.in_hand = leads_some c.args.client r.in_second r.in_hand r.linked.items leads in
    let all : answers_in_hand r.log r.in_hand ≡ r.in_hand = marked_answered r.log r.in_hand marked in
    let space : vec_len r.second < vec_capacity r.second = omega (arith, m.room.second, some, r.groups_wait) in
    let pushed : c.push_within.new.items.items ≡ r.second.items ++ r.in_hand ∷ [] = c.push_within.ensures.pushed space in
    let ws : List core.Writer = line_of r in
    both_hold _ _ _ o _ s _ (second_is o r s c.args.client m) marked leads (record {
      options = m.options;
      clients = m.clients;
      line = record {
        second_sum = ap (λ n. n + r.in_hand) m.line.second_sum ∙ sym (sum_push r.second.items r.in_hand) ∙ ap total (sym pushed);
        second_groups = ap (λ gs. gs ++ hand_of r ∷ []) m.line.second_groups
            ∙ ap (λ n. groups_of_lengths r.second.items ws ++ take r.in_hand (drop n ws) ∷ []) m.line.second_sum
            ∙ sym (cut_push r.second.items r.in_hand ws) ∙ ap (λ ns. groups_of_lengths ns ws) (sym pushed);
        hand = refl;
        no_hand = λ e. refl;
        queue = m.line.queue ∙ ap (λ n. drop n ws) (sym (add-zero (r.in_second + r.in_hand)));
      };
      writers = m.writers;
      table = m.table;
      leaving = m.leaving;
      entries = m.entries;
      groups = m.groups;
      assigned = m.assigned;
      log_failed = m.log_failed;
      last = m.last;
      room = record {
        linked = m.room.linked;
        items = m.room.items;
        second = omega (arith, m.room.second, some, c.push_within.ensures.len space, c.push_within.ensures.capacity);
        entries = omega (arith, m.room.entries, all);
        groups = m.room.groups;
        group_room = m.room.group_room;
      };
    })
