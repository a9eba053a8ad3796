-- The reversed nodes with one in front, reversed again, are the nodes with one after them.
use Rattle.std.proofs.Common.{List, [], ◌∷◌, ◌++◌, reverse, ap, ◌∙◌}
use Rattle.std.proofs.lemmas.List.{reverse-append, reverse-reverse}
use Rattle.table_rule.specs.declared.content.Version.{Version}
use Rattle.table_nodes.specs.Nodes.{version_of}
use Rattle.table_nodes.proofs.node.Nodes.push_back.Goals as goal

pub returns : goal.returns
returns c =
    let v = version_of c.args.node.value in
    let old = c.args.self.now in
    c.reversed.ensures ∙ ap reverse (c.push_front.ensures ∙ ap (λ (l : List Version). v ∷ l) (c.reversed-turned.ensures ∙ ap reverse c.replace.ensures.value))
    ∙ reverse-append (v ∷ []) (reverse old) ∙ ap (λ (l : List Version). l ++ v ∷ []) (reverse-reverse old)
