use Rattle.std.proofs.Common.{◌≡◌, ◌-◌, ◌∷◌, length, sym, ◌∙◌, ap, arith, rules}
use Rattle.model_base.specs.Map.{key_at}
use Rattle.run_command_list.specs.Contents.{AreKeys}
use Rattle.run_command_list.specs.OneList.{same_keys}
use Rattle.run_command_list.proofs.Left.{no_key, behind_key}
use Rattle.run_command_list.proofs.keys.KeysIterator.next.Goals as goal

pub returns-in_err-family-clause-steps : goal.returns-in_err-family-clause-steps
returns-in_err-family-clause-steps c =
    let old = c.self.inside in
    let none = sym c.self.view_is ∙ no_key old.bytes.now old.count old.are (search rules) in
    rw c.from_residual.ensures (none, none)

pub overflow_sub-self : goal.overflow_sub-self
overflow_sub-self c =
    let old = c.self.inside in
    let behind = behind_key old.bytes.now old.count old.are (key_at c.in_ok-family.family c.in_ok-family.key.now) c.in_ok-family.rest.now c.in_ok-family.ensures.read in
    omega (arith, old.are.counted, ap length behind.1)

pub invariant_of-self-inside : goal.invariant_of-self-inside
invariant_of-self-inside c =
    let old = c.self.inside in
    ((behind_key old.bytes.now old.count old.are (key_at c.in_ok-family.family c.in_ok-family.key.now) c.in_ok-family.rest.now c.in_ok-family.ensures.read).0, tt)

pub returns-clause-steps : goal.returns-clause-steps
returns-clause-steps c =
    let old = c.self.inside in
    let behind = behind_key old.bytes.now old.count old.are (key_at c.in_ok-family.family c.in_ok-family.key.now) c.in_ok-family.rest.now c.in_ok-family.ensures.read in
    let are : (h : AreKeys c.in_ok-family.rest.now (old.count - 1)) → h.keys ≡ behind.0.keys = λ h. same_keys c.in_ok-family.rest.now (old.count - 1) h behind.0 in
    rw are (sym c.self.view_is ∙ behind.1)

pub returns-clause-goes : goal.returns-clause-goes
returns-clause-goes c =
    let old = c.self.inside in
    let behind = behind_key old.bytes.now old.count old.are (key_at c.in_ok-family.family c.in_ok-family.key.now) c.in_ok-family.rest.now c.in_ok-family.ensures.read in
    let are : (h : AreKeys c.in_ok-family.rest.now (old.count - 1)) → h.keys ≡ behind.0.keys = λ h. same_keys c.in_ok-family.rest.now (old.count - 1) h behind.0 in
    let first : c.args.self.now ≡ (key_at c.in_ok-family.family c.in_ok-family.key.now) ∷ behind.0.keys = sym c.self.view_is ∙ behind.1 in
    rw (are, first) (record { on = λ _. (tt, tt, omega arith); keeps = tt; rests = λ _. tt })
