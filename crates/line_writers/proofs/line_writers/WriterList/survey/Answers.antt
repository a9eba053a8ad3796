use Rattle.line_rule.specs.Chain.{older_at}
use Rattle.std.proofs.Common.{ℕ, ◌+◌, ◌≤◌, List, sym, ap, ◌∙◌, subst, refl, arith}
use Rattle.line_rule.specs.Chain.{pairs}
use Rattle.line_rule.specs.Plays.{SeesTo}
use Rattle.line_rule.proofs.Leads.{traces}
use Rattle.line_writers.proofs.Surveys.{Surveyed, surveys, next_below, goes_on, all_read, one_walk, codes_fit}
use Rattle.line_writers.specs.Roles.{CodesFit}
use Rattle.line_writers.proofs.line_writers.WriterList.survey.Goals as goal

pub loop-step-init : goal.loop-step-init
loop-step-init g c =
    let k : ℕ = c.args.writer.now.client in let slots : ℕ = c.args.self.now.table.shared.table_id.slots in
    let v = surveys c.args.end k slots c.args.writer.now.seat.me c.args.first c.requires.read in
    record {
      client = refl;
      table = refl;
      me = refl;
      room = refl;
      len = c.requires.seat.1;
      codes = subst CodesFit (sym c.requires.seat.2) tt;
      so_far = subst (λ (l : List (ℕ × ℕ)). Surveyed c.args.end k slots c.args.writer.now.seat.me c.args.first l 0) (sym c.requires.seat.2) v;
    }

pub older_word-requires : goal.older_word-requires
older_word-requires g c = let z = c.args.self.now.sized in let b = next_below _ _ _ _ _ _ _ c.loop-step.invariant.so_far in omega arith

pub load-word-requires : goal.load-word-requires
load-word-requires g c =
    let w = c.older_word.ensures in let z = c.args.self.now.sized in let b = next_below _ _ _ _ _ _ _ c.loop-step.invariant.so_far in
    (c.loop-step.invariant.table ∙ c.requires.seat.0, omega arith, traces _ _ _ _ c.loop-step.writer.seat.me c.older_word.result)

pub push_reserved-requires : goal.push_reserved-requires
push_reserved-requires g c = let a = c.loop-step.invariant.len in let b = c.loop-step.invariant.room in let d = c.requires.seat.3 in omega arith

pub returns-then-at-end-clause-seat : goal.returns-then-at-end-clause-seat
returns-then-at-end-clause-seat g c = let v = c.loop-step.invariant in (c.load-word.ensures.0 ∙ v.table, v.client, c.load-word.ensures.2.0 ∙ v.me, c.push_reserved.ensures.capacity ∙ v.room)

pub returns-then-at-end-clause-walk : goal.returns-then-at-end-clause-walk
returns-then-at-end-clause-walk g c line at =
    let v = c.loop-step.invariant.so_far in let k : ℕ = c.args.writer.now.client in let slots : ℕ = c.args.self.now.table.shared.table_id.slots in let z = c.args.self.now.sized in
    let word = c.load-word.ensures.2.1 c.args.end k v.walk v.pre v.x v.post v.reads v.parts (c.older_word.ensures ∙ ap older_at v.at_is) in let few : slots ≤ 256 = omega arith in
    let same = one_walk c.args.end k c.loop-step.writer.seat.me v.walk line v.reads (subst (λ m. SeesTo c.args.end k m line) (sym c.loop-step.invariant.me) at) in
    c.push_reserved.ensures.items ∙ all_read c.args.end k slots c.loop-step.writer.seat.me c.loop-step.at c.loop-step.step c.loop-step.walk.items v c.of-older.result.client c.of-older.result.code few c.of-older.ensures.byte (sym c.of-older.ensures.whole ∙ word) c.if-at-end.true ∙ ap pairs same

pub loop-step-preserved : goal.loop-step-preserved
loop-step-preserved g c =
    let v = c.loop-step.invariant.so_far in let k : ℕ = c.args.writer.now.client in let slots : ℕ = c.args.self.now.table.shared.table_id.slots in let z = c.args.self.now.sized in
    let word = c.load-word.ensures.2.1 c.args.end k v.walk v.pre v.x v.post v.reads v.parts (c.older_word.ensures ∙ ap older_at v.at_is) in let few : slots ≤ 256 = omega arith in
    let next = goes_on c.args.end k slots c.loop-step.writer.seat.me c.loop-step.at c.loop-step.step c.loop-step.walk.items v c.of-older.result.client c.of-older.result.code few c.of-older.ensures.byte (sym c.of-older.ensures.whole ∙ word) c.load-word.new.seat.me c.load-word.ensures.2.0 c.if-at-end.false in
    record {
      client = c.loop-step.invariant.client;
      table = c.load-word.ensures.0 ∙ c.loop-step.invariant.table;
      me = c.load-word.ensures.2.0 ∙ c.loop-step.invariant.me;
      room = c.push_reserved.ensures.capacity ∙ c.loop-step.invariant.room;
      len = (let a = c.loop-step.invariant.len in let b = c.push_reserved.ensures.len in omega arith);
      codes = subst CodesFit (sym c.push_reserved.ensures.items) (codes_fit c.loop-step.walk.items c.loop-step.at c.of-older.result.code c.loop-step.invariant.codes c.of-older.ensures.fits);
      so_far = subst (λ (l : List (ℕ × ℕ)). Surveyed c.args.end k slots c.load-word.new.seat.me c.of-older.result.client l (c.loop-step.step + 1)) (sym c.push_reserved.ensures.items) next;
    }

pub returns-then-at-end-clause-codes : goal.returns-then-at-end-clause-codes
returns-then-at-end-clause-codes g c = subst CodesFit (sym c.push_reserved.ensures.items) (codes_fit c.loop-step.walk.items c.loop-step.at c.of-older.result.code c.loop-step.invariant.codes c.of-older.ensures.fits)
