use Rattle.std.proofs.Common.{◌≡◌, ◌+◌, ◌-◌, List, ◌∷◌, ◌++◌, ℕ, length, reverse, sym, ap, ◌∙◌, arith}
use Rattle.table_rule.specs.declared.content.Version.{Version}
use Rattle.table_nodes.specs.Batches.{number_from}
use Rattle.table_nodes.specs.Nodes.{version_of}
use Rattle.table_nodes.specs.declared.node.Node.{Node}
use Rattle.table_nodes.proofs.Numbering.{numbered_more}
use Rattle.table_nodes.proofs.node.Nodes.number.Goals as goal

pub loop-node-preserved : goal.loop-node-preserved
loop-node-preserved c =
    let first = c.args.first in let rest = c.pop.new.self in let numbered = c.loop-node.numbered in let v = version_of c.in-Some.node.value in
    let split : c.loop-node.self ≡ v ∷ rest = c.in-Some.ensures in
    let next : first + length rest ≡ c.loop-node.sequence - 1 = omega (arith, ap length split, c.loop-node.invariant.next) in
    let pushed : c.push_front.new.self ≡ record v { sequence = first + length rest } ∷ numbered =
    c.push_front.ensures ∙ ap (λ (n : Node). record (version_of n) { sequence = c.loop-node.sequence - 1 } ∷ numbered) c.deref_mut.ensures.value ∙ ap (λ (n : ℕ). record v { sequence = n } ∷ numbered) (sym next) in
    record {
      all =
          ap (λ (l : List Version). number_from first (reverse rest) ++ l) pushed ∙ numbered_more first v rest numbered
          ∙ ap (λ (l : List Version). number_from first (reverse l) ++ numbered) (sym split) ∙ c.loop-node.invariant.all;
      next = next;
    }
