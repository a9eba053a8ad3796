use Rattle.table_steps.proofs.seat.TableSeat.add.Given as goal

abbrev pub ghosts-add : goal.ghosts-add
ghosts-add g a = record { versions = g.NodeList.Versioned.versions a.nodes }
