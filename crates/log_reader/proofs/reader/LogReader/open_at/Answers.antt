use Rattle.std.proofs.Common.{◌≡◌, ◌≤◌, length, arith}
use Rattle.log_reader.specs.Opens.{starts_at}
use Rattle.log_reader.specs.Reader.{Follows}
use Rattle.log_reader.proofs.FromDisk.{if_both}
use Rattle.log_reader.proofs.reader.LogReader.open_at.Goals as goal

pub returns-in-Ok-clause-there : goal.returns-in-Ok-clause-there
returns-in-Ok-clause-there g c =
    let place = c.args.place in
    let reader = c.in_ok-reader.reader in
    let new = c.go_to.new.self in
    if_both (g.R.ReadAt.held c.args.disk.now) (λ file. Follows file reader → place ≤ length file → new.place ≡ place) (λ file. Follows file reader → starts_at place ≤ length file → Follows file new) _
    c.in-Ok.ensures.there c.in-Ok.ensures.follows
    (λ file there follows inside. let on = c.in_ok-reader.ensures.follows file in (there on inside, follows on (omega (arith, inside))))
