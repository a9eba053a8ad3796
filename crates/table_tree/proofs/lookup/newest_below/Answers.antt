-- The key's chain has the key's newest version.
use Rattle.std.proofs.Common.{sym, ap, ◌∙◌, subst}
use Rattle.table_nodes.specs.Nodes.{at_key, chain_of}
use Rattle.table_tree.specs.Newest.{chain_at, newest_in}
use Rattle.table_tree.specs.Shapes.{chains_below}
use Rattle.table_nodes.specs.Chains.{AreFalling}
use Rattle.table_tree.proofs.Falling.{falling_found}
use Rattle.table_tree.proofs.Finding.{newest_chain}
use Rattle.table_tree.proofs.lookup.newest_below.Goals as goal

pub returns-in-Some-find : goal.returns-in-Some-find
returns-in-Some-find c =
    let key = at_key c.args.family c.args.key.now in
    c.newest_up_to.ensures ∙ ap (newest_in c.args.at) (c.in-Some-find.ensures {u = tt})
    ∙ ap (λ cs. newest_in c.args.at (chain_at key cs)) (sym (ap chains_below c.in-Some.is))
    ∙ sym (newest_chain key c.args.at (chains_below c.args.root.now) c.requires.keyed)

pub returns-in-None : goal.returns-in-None
returns-in-None c =
    let key = at_key c.args.family c.args.key.now in
    ap (newest_in c.args.at) (c.in-None.ensures {u = tt})
    ∙ ap (λ cs. newest_in c.args.at (chain_at key cs)) (sym (ap chains_below c.in-Some.is))
    ∙ sym (newest_chain key c.args.at (chains_below c.args.root.now) c.requires.keyed)

pub newest_up_to-requires : goal.newest_up_to-requires
newest_up_to-requires c =
    let key = at_key c.args.family c.args.key.now in
    falling_found key c.in-Some.page.chains (chain_of c.in-Some-find.node.now) (subst AreFalling (ap chains_below c.in-Some.is) c.requires.falling)
    (sym (c.in-Some-find.ensures {u = tt}))
