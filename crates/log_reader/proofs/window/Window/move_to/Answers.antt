use Rattle.log_reader.specs.Windows.{IsOn, HasBytes}
use Rattle.log_reader.proofs.FromDisk.{if_one}
use Rattle.log_reader.proofs.window.Window.move_to.Goals as goal

pub returns-in_err-fill-clause-bytes : goal.returns-in_err-fill-clause-bytes
returns-in_err-fill-clause-bytes g c =
    if_one (g.R.ReadAt.held c.args.disk.now) (λ file. HasBytes file c.enter.new.self → HasBytes file c.fill.new.self) _ c.in_err-fill.ensures.bytes
    (λ file bytes on. bytes (c.enter.ensures.bytes file on))

pub returns-in_err-fill-clause-on : goal.returns-in_err-fill-clause-on
returns-in_err-fill-clause-on g c =
    if_one (g.R.ReadAt.held c.args.disk.now) (λ file. IsOn file c.enter.new.self → IsOn file c.fill.new.self) _ c.in_err-fill.ensures.on
    (λ file stays on inside. stays (c.enter.ensures.on file on inside))

pub returns-clause-bytes : goal.returns-clause-bytes
returns-clause-bytes g c =
    if_one (g.R.ReadAt.held c.args.disk.now) (λ file. HasBytes file c.enter.new.self → HasBytes file c.fill.new.self) _ c.in_ok-fill.ensures.bytes
    (λ file bytes on. bytes (c.enter.ensures.bytes file on))

pub returns-clause-on : goal.returns-clause-on
returns-clause-on g c =
    if_one (g.R.ReadAt.held c.args.disk.now) (λ file. IsOn file c.enter.new.self → IsOn file c.fill.new.self) _ c.in_ok-fill.ensures.on
    (λ file stays on inside. let is = stays (c.enter.ensures.on file on inside) in record { in_file = is.in_file; block = is.block })
