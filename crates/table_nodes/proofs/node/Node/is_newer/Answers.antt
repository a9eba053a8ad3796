-- A version that isn't of the key, or is above the sequence, is passed; another one is compared with what was found.
use Rattle.std.proofs.Common.{Some, None, sym, ap, ◌∙◌}
use Rattle.std.specs.Option.{option_copied, option_map}
use Rattle.model_base.specs.declared.key.Key.{Key}
use Rattle.table_nodes.specs.Nodes.{at_key, version_of}
use Rattle.table_nodes.proofs.Seen.{passed_later, passed_key, compared, apart_from_test, same_from_test}
use Rattle.table_nodes.proofs.node.Node.is_newer.Goals as goal
use Rattle.table_nodes.proofs.node.Node.is_newer.Goals.{then-self-at-via-then-self-at, then-self-at-via-else-self-at+then-family, then-self-at-via-else-self-at+else-family+then-ne}

pub returns-then-self-at : goal.returns-then-self-at
returns-then-self-at c =
    let key = at_key c.args.family c.args.key.now in let v = version_of c.args.self.now in
    let found = option_map version_of (option_copied c.args.other) in
    elim c.then-self-at.branch [
      | then-self-at-via-then-self-at w ↦ passed_later key c.args.at v found w.if-self-at.true
      | then-self-at-via-else-self-at+then-family w ↦ passed_key key c.args.at v found (λ e. w.if-family.true (w.family.ensures ∙ sym (ap (λ (k : Key). k.family) e)))
      | then-self-at-via-else-self-at+else-family+then-ne w ↦
          passed_key key c.args.at v found (λ e. apart_from_test w.key.result.now c.args.key.now (w.if-ne.ensures {u = tt}) (w.key.ensures ∙ sym (ap (λ (k : Key). k.bytes) e)))
    ]

pub returns-in-Some : goal.returns-in-Some
returns-in-Some c =
    let key = at_key c.args.family c.args.key.now in let v = version_of c.args.self.now in
    let w = version_of c.in-Some.other.now in
    let family = sym c.if-family.false ∙ c.family.ensures in
    let bytes = sym (same_from_test c.key.result.now c.args.key.now (c.if-ne.ensures {u = tt})) ∙ c.key.ensures in
    rw c.in-Some.is (compared key c.args.at v (Some w) (λ i. record { family = family i; bytes = bytes i }) c.if-self-at.false)

pub returns-in-None : goal.returns-in-None
returns-in-None c =
    let key = at_key c.args.family c.args.key.now in let v = version_of c.args.self.now in
    let family = sym c.if-family.false ∙ c.family.ensures in
    let bytes = sym (same_from_test c.key.result.now c.args.key.now (c.if-ne.ensures {u = tt})) ∙ c.key.ensures in
    rw c.in-None.is (compared key c.args.at v None (λ i. record { family = family i; bytes = bytes i }) c.if-self-at.false)
