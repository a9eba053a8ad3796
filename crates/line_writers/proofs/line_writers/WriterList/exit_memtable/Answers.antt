use Rattle.std.proofs.Common.{◌≡◌, ℕ, ◌+◌, ◌<◌, ◌≤◌, [], ◌∷◌, ◌++◌, length, get_or, sym, ap, ◌∙◌, subst, arith}
use Rattle.line_rule.specs.declared.content.LineSlot.TheVariants.{Told, TheRight}
use Rattle.line_rule.specs.declared.view.LineStage.TheVariants.{Idle, Settling}
use Rattle.line_rule.specs.declared.view.Back.TheVariants.{Serving}
use Rattle.line_rule.specs.Chain.{newest, heads}
use Rattle.line_rule.specs.Plays.{At, AtWith, debt, slots_of}
use Rattle.line_rule.specs.Rule.{hold}
use Rattle.line_rule.specs.Standing.{line_of}
use Rattle.line_writers.specs.Seats.{answers_told, told_in_first}
use Rattle.line_writers.specs.Roles.{bys}
use Rattle.line_writers.specs.Second.{squad}
use Rattle.line_rule.proofs.Onward.{one_hold_at}
use Rattle.line_rule.proofs.Settles.{one_debt}
use Rattle.line_writers.proofs.Gathers.{newest_is}
use Rattle.line_writers.proofs.Tells.{some_by, length-bys}
use Rattle.line_writers.proofs.line_writers.WriterList.exit_memtable.Goals as goal

pub put_right-requires-clause-held : goal.put_right-requires-clause-held
put_right-requires-clause-held g c = (_, c.requires.serves.1.4.1)

pub index-requires : goal.index-requires
index-requires g c = let o = c.requires.serves.1 in let l = some_by (heads o.0.rest) o.0.own in let e : length c.args.room.now.members.items ≡ length (bys (heads o.0.rest ++ o.0.own ∷ [])) = ap length o.6.3 in omega arith

pub pass_on-requires-clause-ready : goal.pass_on-requires-clause-ready
pass_on-requires-clause-ready g c =
    let o = c.requires.serves.1 in let k : ℕ = c.args.writer.now.client in let d = o.0 in let sq = squad d o.1 o.2 in
    let e1 : c.put_right.new.writer.client ≡ k = c.put_right.ensures.seat.1 in
    let slots1 = c.put_right.ensures.put (slots_of d.rest ((k, Told d.reply) ∷ [])) o.4.1 in
    let at1 = subst (λ (j : ℕ). AtWith j (Settling d) o.3 (Serving sq []) c.put_right.new.writer.seat.me) (sym e1) (c.put_right.ensures.seat.2 ∙ o.4.0) in
    let got : ℕ = c.index.result.now in
    let first : got ≡ newest (line_of sq) = c.index.ensures ∙ (λ i. get_or (o.6.3 i) 0 got) ∙ newest_is (heads d.rest) d.own got in
    let count : length c.args.room.now.members.items ≡ length (line_of sq) = ap length o.6.3 ∙ length-bys (heads d.rest ++ d.own ∷ []) in
    (d, o.3, sq, [], c.args.right, slots_of d.rest ((k, Told d.reply) ∷ []), at1, slots1, (first, o.5, (let l = c.len.ensures in omega (arith, count))))

pub tell_all-requires-clause-owed : goal.tell_all-requires-clause-owed
tell_all-requires-clause-owed g c =
    let o = c.requires.serves.1 in let k : ℕ = c.args.writer.now.client in let d = o.0 in let sq = squad d o.1 o.2 in
    let e1 : c.put_right.new.writer.client ≡ k = c.put_right.ensures.seat.1 in
    let slots1 = c.put_right.ensures.put (slots_of d.rest ((k, Told d.reply) ∷ [])) o.4.1 in
    let at1 = subst (λ (j : ℕ). AtWith j (Settling d) o.3 (Serving sq []) c.put_right.new.writer.seat.me) (sym e1) (c.put_right.ensures.seat.2 ∙ o.4.0) in
    let ps = c.pass_on.ensures.passed d o.3 sq [] (c.args.self.now.clients + 1, TheRight c.args.right) (slots_of d.rest ((k, Told d.reply) ∷ [])) at1 slots1 in
    let e2 : c.pass_on.new.writer.client ≡ c.put_right.new.writer.client = c.pass_on.ensures.seat.1 in
    let at3 = subst (λ (j : ℕ). At j (Settling d) o.3 c.pass_on.new.writer.seat.me) (sym e2) ps.0 in
    let slots3 = ps.1 ∙ (λ i. slots_of d.rest ((sym (e2 ∙ e1) i, Told d.reply) ∷ [])) in
    (o.3, d.rest, d.own, d.reply, (at3, slots3), c.as_slice.ensures.value ∙ o.6.3, o.6.4)

pub retire-requires-clause-owed : goal.retire-requires-clause-owed
retire-requires-clause-owed g c =
    let o = c.requires.serves.1 in let k : ℕ = c.args.writer.now.client in let d = o.0 in let sq = squad d o.1 o.2 in
    let e1 : c.put_right.new.writer.client ≡ k = c.put_right.ensures.seat.1 in
    let slots1 = c.put_right.ensures.put (slots_of d.rest ((k, Told d.reply) ∷ [])) o.4.1 in
    let at1 = subst (λ (j : ℕ). AtWith j (Settling d) o.3 (Serving sq []) c.put_right.new.writer.seat.me) (sym e1) (c.put_right.ensures.seat.2 ∙ o.4.0) in
    let ps = c.pass_on.ensures.passed d o.3 sq [] (c.args.self.now.clients + 1, TheRight c.args.right) (slots_of d.rest ((k, Told d.reply) ∷ [])) at1 slots1 in
    let e2 : c.pass_on.new.writer.client ≡ c.put_right.new.writer.client = c.pass_on.ensures.seat.1 in
    let at3 = subst (λ (j : ℕ). At j (Settling d) o.3 c.pass_on.new.writer.seat.me) (sym e2) ps.0 in
    let slots3 = ps.1 ∙ (λ i. slots_of d.rest ((sym (e2 ∙ e1) i, Told d.reply) ∷ [])) in
    let t = c.tell_all.ensures.told o.3 d.rest d.own d.reply (at3, slots3) in
    let e4 : c.tell_all.new.writer.client ≡ c.pass_on.new.writer.client = c.tell_all.ensures.seat.1 in
    let at4 = subst (λ (j : ℕ). At j (Settling (debt [] d.own d.reply)) o.3 c.tell_all.new.writer.seat.me) (sym e4) t.0 in
    let slots4 = t.1 ∙ (λ i. (sym e4 i, Told d.reply) ∷ []) in
    (o.3, d.own, d.reply, (at4, slots4))

pub returns-clause-out : goal.returns-clause-out
returns-clause-out g c =
    let o = c.requires.serves.1 in let k : ℕ = c.args.writer.now.client in let d = o.0 in let sq = squad d o.1 o.2 in
    let e1 : c.put_right.new.writer.client ≡ k = c.put_right.ensures.seat.1 in
    let slots1 = c.put_right.ensures.put (slots_of d.rest ((k, Told d.reply) ∷ [])) o.4.1 in
    let at1 = subst (λ (j : ℕ). AtWith j (Settling d) o.3 (Serving sq []) c.put_right.new.writer.seat.me) (sym e1) (c.put_right.ensures.seat.2 ∙ o.4.0) in
    let ps = c.pass_on.ensures.passed d o.3 sq [] (c.args.self.now.clients + 1, TheRight c.args.right) (slots_of d.rest ((k, Told d.reply) ∷ [])) at1 slots1 in
    let e2 : c.pass_on.new.writer.client ≡ c.put_right.new.writer.client = c.pass_on.ensures.seat.1 in
    let at3 = subst (λ (j : ℕ). At j (Settling d) o.3 c.pass_on.new.writer.seat.me) (sym e2) ps.0 in
    let slots3 = ps.1 ∙ (λ i. slots_of d.rest ((sym (e2 ∙ e1) i, Told d.reply) ∷ [])) in
    let t = c.tell_all.ensures.told o.3 d.rest d.own d.reply (at3, slots3) in
    let e4 : c.tell_all.new.writer.client ≡ c.pass_on.new.writer.client = c.tell_all.ensures.seat.1 in
    let at4 = subst (λ (j : ℕ). At j (Settling (debt [] d.own d.reply)) o.3 c.tell_all.new.writer.seat.me) (sym e4) t.0 in
    let slots4 = t.1 ∙ (λ i. (sym e4 i, Told d.reply) ∷ []) in
    let r = c.retire.ensures.idle o.3 d.own d.reply (at4, slots4) in
    let e5 : c.retire.new.writer.client ≡ k = c.retire.ensures.seat.1 ∙ e4 ∙ e2 ∙ e1 in
    let told_is : answers_told c.retire.new.writer ≡ o.3 ++ (d.own.asked, d.reply) ∷ [] = ap told_in_first r.0 in (
      (r.0 ∙ (λ i. hold (sym c.retire.ensures.seat.1 i) Idle (sym told_is i) ∷ []), r.1),
      λ d2 from to mine has.
          let same = one_hold_at k k (Settling d) (Settling d2) o.3 mine (Serving sq []) (Serving (squad d2 from to) []) c.args.writer.now.seat.me.0 o.4.0 has.0 in
          let b = one_debt d d2 same.1 in
          (told_is ∙ (λ i. same.2 i ++ ((b i).own.asked, (b i).reply) ∷ []), r.2 ∙ (λ i. (b i).reply)),
    )

pub returns-clause-client : goal.returns-clause-client
returns-clause-client g c =
    let e : c.retire.new.writer.client ≡ c.args.writer.now.client = c.retire.ensures.seat.1 ∙ (c.tell_all.ensures.seat.1 ∙ (c.pass_on.ensures.seat.1 ∙ c.put_right.ensures.seat.1)) in
    let table = c.retire.ensures.seat.0 ∙ c.tell_all.ensures.seat.0 ∙ c.pass_on.ensures.seat.0 ∙ c.put_right.ensures.seat.0 ∙ c.requires.serves.0.0 in
    (e, (table, subst (λ (j : ℕ). 0 < j) (sym e) c.requires.serves.0.1, subst (λ (j : ℕ). j ≤ c.args.self.now.clients) (sym e) c.requires.serves.0.2))
