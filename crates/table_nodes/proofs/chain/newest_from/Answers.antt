-- A step goes to what is after the children where all of them are above the sequence, or else to the children.
use Rattle.std.proofs.Common.{◌≡◌, ◌<◌, ◌≤◌, Some, List, ◌∷◌, ◌++◌, sym, ap, ◌∙◌, subst, rules}
use Rattle.std.specs.Option.{option_copied, option_map}
use Rattle.table_rule.specs.declared.content.Version.{Version}
use Rattle.table_nodes.specs.Chains.{Falls}
use Rattle.table_nodes.specs.Newest.{first_up_to}
use Rattle.table_nodes.specs.Nodes.{version_of, versions_on}
use Rattle.table_nodes.proofs.Forests.{or_else, went_after, kept_best, falls_below, falls_after}
use Rattle.table_nodes.proofs.chain.newest_from.Goals as goal

pub loop-rest-preserved-then-next-at : goal.loop-rest-preserved-then-next-at
loop-rest-preserved-then-next-at c =
    let at = c.args.at in let n = c.in-Some.node.now in let w = c.in-Some-next.next.now in
    let v = version_of n in let x = version_of w in
    let children = n.links.children in let more = w.links.children ++ w.links.next in
    let best = option_map version_of (option_copied c.loop-rest.best) in
    let here : versions_on (option_copied c.loop-rest.rest) ≡ v ∷ (children ++ n.links.next) = search rules in
    let after : n.links.next ≡ x ∷ more = search rules in
    let all : versions_on (option_copied c.loop-rest.rest) ≡ v ∷ (children ++ x ∷ more) = here ∙ ap (λ (l : List Version). v ∷ (children ++ l)) after in
    let falls : Falls (v ∷ (children ++ x ∷ more)) = subst Falls all c.loop-rest.invariant.falls in
    let high : at < v.sequence = search rules in
    let higher : at < x.sequence = search rules in
    record {
      falls = falls_after v children (x ∷ more) falls;
      same =
          went_after at v children best x more falls high higher
          ∙ ap (λ (l : List Version). or_else (first_up_to at l) best) (sym all) ∙ c.loop-rest.invariant.same;
    }

pub loop-rest-preserved : goal.loop-rest-preserved
loop-rest-preserved c =
    let at = c.args.at in let n = c.in-Some.node.now in let w = c.in-Some-next.next.now in
    let v = version_of n in let x = version_of w in
    let children = n.links.children in let more = w.links.children ++ w.links.next in
    let best = option_map version_of (option_copied c.loop-rest.best) in
    let here : versions_on (option_copied c.loop-rest.rest) ≡ v ∷ (children ++ n.links.next) = search rules in
    let after : n.links.next ≡ x ∷ more = search rules in
    let all : versions_on (option_copied c.loop-rest.rest) ≡ v ∷ (children ++ x ∷ more) = here ∙ ap (λ (l : List Version). v ∷ (children ++ l)) after in
    let falls : Falls (v ∷ (children ++ x ∷ more)) = subst Falls all c.loop-rest.invariant.falls in
    let high : at < v.sequence = search rules in
    let low : x.sequence ≤ at = search rules in
    let below : versions_on (option_copied c.children-rest-else-next-at.result) ≡ children = c.children-rest-else-next-at.ensures in
    record {
      falls = subst Falls (sym below) (falls_below v children (x ∷ more) falls);
      same =
          ap (λ (l : List Version). or_else (first_up_to at l) (Some x)) below ∙ kept_best at v children best x more high low
          ∙ ap (λ (l : List Version). or_else (first_up_to at l) best) (sym all) ∙ c.loop-rest.invariant.same;
    }
