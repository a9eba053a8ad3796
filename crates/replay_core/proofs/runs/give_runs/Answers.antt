use Rattle.std.proofs.Common.{◌≡◌, ◌<◌, ℕ, List, length, take, vec_len, refl, sym, ap, ◌∙◌, subst, arith, rules}
use Rattle.std.specs.Prelude.{vec_capacity}
use Rattle.std.proofs.Math.Seq.{take-length}
use Rattle.replay_core.specs.declared.writer.Writer.{Writer}
use Rattle.replay_core.specs.Runs.{GotRuns, without_answer}
use Rattle.replay_core.proofs.RunLemmas.{got_none, next_got, set_alike, rest_more, same_at, counted_at, counted_same, entries_before}
use Rattle.replay_core.proofs.runs.give_runs.Goals as goal

pub loop-writer-init : goal.loop-writer-init
loop-writer-init c = record {
  got = λ plans s counted e room. got_none plans s c.args.last c.args.entries.now.items e;
  rest = refl;
  writers = refl;
  same_len = refl;
  fits = omega (arith, c.requires.last_fits);
  front = ap (λ n. take n c.args.entries.now.items) c.args.entries.now.ok.0 ∙ take-length c.args.entries.now.items;
  lower = omega arith;
  upper = omega arith;
  capacity = refl;
}

pub loop-writer-preserved : goal.loop-writer-preserved
loop-writer-preserved c =
    let i : ℕ = c.loop-writer.writer-index in
    let old : List Writer = c.args.group.now in
    let now : List Writer = c.loop-writer.group in
    let inv = c.loop-writer.invariant in
    let lt : i < length old = omega arith in
    let lt_now : i < length now = omega (arith, inv.same_len) in
    let before_is : c.len-before.result ≡ vec_len c.args.entries.now = c.len-before.ensures in
    record {
      got = λ plans s counted e room.
          let so_far = inv.got plans s counted e room in
          let same = same_at now old i _ inv.rest in
          let is_counted = counted_same plans _ _ same (counted_at plans old i _ counted lt) in
          let len : vec_len c.args.entries.now ≡ length c.args.entries.now.items = c.args.entries.now.ok.0 in
          let n_is : c.len-before.result ≡ length c.args.entries.now.items = omega (arith, c.len-before.ensures, len) in
          let before = entries_before plans s c.args.entries.now.items c.loop-writer.entries.items _ c.len-before.result e n_is so_far.listed in
          let free : vec_len c.loop-writer.entries < vec_capacity c.loop-writer.entries = omega (arith, inv.upper, inv.capacity, lt, room) in
          next_got plans s c.args.last i old now c.loop-writer.entries.items c.loop-writer.given _ c.give_run-given.new.writer _ c.give_run-given.new.entries.items c.give_run-given.result
          lt lt_now same so_far (c.give_run-given.ensures.got plans s is_counted before free);
      rest = rest_more now old i c.give_run-given.new.writer inv.rest;
      writers = set_alike without_answer now i c.give_run-given.new.writer _ lt_now c.give_run-given.ensures.writer ∙ inv.writers;
      same_len = search rules;
      fits = c.give_run-given.ensures.fits;
      front = ap (λ n. take n c.give_run-given.new.entries.items) (sym before_is) ∙ c.give_run-given.ensures.front ∙ ap (λ n. take n c.loop-writer.entries.items) before_is ∙ inv.front;
      lower = omega (arith, inv.lower, c.give_run-given.ensures.lower);
      upper = omega (arith, inv.upper, c.give_run-given.ensures.upper);
      capacity = c.give_run-given.ensures.capacity ∙ inv.capacity;
    }

pub returns-clause-got : goal.returns-clause-got
returns-clause-got c = λ plans s counted e room.
    let old : List Writer = c.args.group.now in
    let now : List Writer = c.loop-writer.group in
    let n : ℕ = c.loop-writer.writer-index in
    let inv = c.loop-writer.invariant in
    let end : n ≡ length old = omega (arith, c.loop-writer-test.false, c.loop-writer.auto.writer-index-end) in
    let whole : take n old ≡ old = ap (λ k. take k old) end ∙ take-length old in
    let whole_now : take n now ≡ now = ap (λ k. take k now) (end ∙ sym inv.same_len) ∙ take-length now in
    let P : List Writer → Type 0 = λ ws. GotRuns plans s s.entries c.args.last ws now c.loop-writer.entries.items c.loop-writer.given in
    let Q : List Writer → Type 0 = λ ws. GotRuns plans s s.entries c.args.last (take n old) ws c.loop-writer.entries.items c.loop-writer.given in
    subst P whole (subst Q whole_now (inv.got plans s counted e room))
