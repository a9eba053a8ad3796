use Rattle.std.proofs.Common.{◌≡◌, ◌+◌, ◌≤◌, inl, inr, ℕ, length, true, Option, option_and_then, sym, ◌∙◌, ap, subst, arith}
use Rattle.log_reader.specs.Damaged.{is_damaged}
use Rattle.log_reader.specs.Opens.{starts_at}
use Rattle.log_reader.specs.Reader.{Follows}
use Rattle.log_reader.proofs.FromDisk.{if_one}
use Rattle.log_scan.specs.Resuming.{there, after_damage}
use Rattle.log_scan.proofs.Resumed.{IsRest, rest_len, damage_past, damage_next, if_all}
use Rattle.log_scan.proofs.resuming.after_damage.Goals as goal

pub returns-then-len-left-clause-place : goal.returns-then-len-left-clause-place
returns-then-len-left-clause-place g c =
    let number = c.args.number in
    let rest = c.rest-rest.result.now in
    let at = c.place-at.result in
    if_all (g.R.ReadAt.held c.args.disk.now) _
    (λ file follows.
    let is = subst (λ (n : ℕ). IsRest file n rest) (sym c.place-at.ensures) (c.rest-rest.ensures.bytes file follows c.requires.block c.requires.going) in
    ap (λ (o : Option ℕ). option_and_then (there file) o) c.next_block.ensures
    ∙ (damage_next number file rest at c.len_in-len.result is c.len_in-len.ensures (inl c.if-len-left.true)
    ∙ ap (λ (n : ℕ). there file (after_damage number file n)) c.place-at.ensures))

pub returns-then-branch-clause-place : goal.returns-then-branch-clause-place
returns-then-branch-clause-place g c =
    let number = c.args.number in
    let rest = c.rest-rest.result.now in
    let at = c.place-at.result in
    let len = c.len_in-len.result in
    if_one (g.R.ReadAt.held c.args.disk.now) (λ file. Follows file c.args.reader.now → c.in_ok-is_damaged_at.field-0 ≡ is_damaged c.args.reader.now.number file (at + len)) _ c.in_ok-is_damaged_at.ensures.is
    (λ file damaged follows.
    let is = subst (λ (n : ℕ). IsRest file n rest) (sym c.place-at.ensures) (c.rest-rest.ensures.bytes file follows c.requires.block c.requires.going) in
    let yes : is_damaged number file (at + len) ≡ true = ap (λ (n : Option ℕ). is_damaged n file (at + len)) (sym c.requires.numbered) ∙ (sym (damaged follows) ∙ c.if-branch.true) in
    ap (λ (o : Option ℕ). option_and_then (there file) o) c.next_block-then-branch.ensures
    ∙ (damage_next number file rest at len is c.len_in-len.ensures (inr yes)
    ∙ ap (λ (n : ℕ). there file (after_damage number file n)) c.place-at.ensures))

pub returns-then-branch-clause-follows : goal.returns-then-branch-clause-follows
returns-then-branch-clause-follows g c =
    let rest = c.rest-rest.result.now in
    let at = c.place-at.result in
    if_one (g.R.ReadAt.held c.args.disk.now) (λ file. Follows file c.args.reader.now → starts_at (at + c.len_in-len.result) ≤ length file → Follows file c.is_damaged_at.new.self) _ c.in_ok-is_damaged_at.ensures.follows
    (λ file stays follows.
    let is = subst (λ (n : ℕ). IsRest file n rest) (sym c.place-at.ensures) (c.rest-rest.ensures.bytes file follows c.requires.block c.requires.going) in
    stays follows (omega (arith, rest_len file rest at is, c.len_in-len.ensures, c.if-len-left.false)))

pub returns-else-branch-clause-place : goal.returns-else-branch-clause-place
returns-else-branch-clause-place g c =
    let number = c.args.number in
    let rest = c.rest-rest.result.now in
    let at = c.place-at.result in
    let len = c.len_in-len.result in
    if_one (g.R.ReadAt.held c.args.disk.now) (λ file. Follows file c.args.reader.now → c.in_ok-is_damaged_at.field-0 ≡ is_damaged c.args.reader.now.number file (at + len)) _ c.in_ok-is_damaged_at.ensures.is
    (λ file damaged follows.
    let is = subst (λ (n : ℕ). IsRest file n rest) (sym c.place-at.ensures) (c.rest-rest.ensures.bytes file follows c.requires.block c.requires.going) in
    damage_past number file rest at len is c.len_in-len.ensures (omega (arith, c.len_in-len.ensures, c.if-len-left.false))
    (ap (λ (n : Option ℕ). is_damaged n file (at + len)) (sym c.requires.numbered) ∙ (sym (damaged follows) ∙ c.if-branch.false))
    ∙ ap (λ (n : ℕ). there file (after_damage number file n)) c.place-at.ensures)

pub returns-else-branch-clause-follows : goal.returns-else-branch-clause-follows
returns-else-branch-clause-follows g c =
    let rest = c.rest-rest.result.now in
    let at = c.place-at.result in
    if_one (g.R.ReadAt.held c.args.disk.now) (λ file. Follows file c.args.reader.now → starts_at (at + c.len_in-len.result) ≤ length file → Follows file c.is_damaged_at.new.self) _ c.in_ok-is_damaged_at.ensures.follows
    (λ file stays follows.
    let is = subst (λ (n : ℕ). IsRest file n rest) (sym c.place-at.ensures) (c.rest-rest.ensures.bytes file follows c.requires.block c.requires.going) in
    stays follows (omega (arith, rest_len file rest at is, c.len_in-len.ensures, c.if-len-left.false)))
