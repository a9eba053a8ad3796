use Rattle.std.proofs.Common.{◌≡◌, ℕ, List, min, length, take, drop, arith}
use Rattle.std.proofs.lemmas.Grind.{common_steps}
use Rattle.base_devices.proofs.Reading.{reads_front, rest_kept}
use Rattle.base_devices.proofs.mem_source.MemSourceSource.read.Goals as goal

pub returns-clause-bytes : goal.returns-clause-bytes
returns-clause-bytes c =
    let source = c.args.self.now in
    let rest : List ℕ = drop source.at source.bytes.items in
    let copied : c.copy_from_slice.new.self ≡ take c.min-n.result rest = grind (arith, common_steps, c.copy_from_slice.ensures.after) in
    let most : c.min.result ≡ min (length rest) (length c.args.buf.now) = grind (arith, common_steps, c.min.ensures) in
    reads_front source.bytes.items c.args.buf.now c.copy_from_slice.new.self source.at c.min-n.result c.min.result source.piece copied most c.min-n.ensures source.gives

pub returns-clause-rest : goal.returns-clause-rest
returns-clause-rest c =
    let source = c.args.self.now in
    let rest : List ℕ = drop source.at source.bytes.items in
    let copied : c.copy_from_slice.new.self ≡ take c.min-n.result rest = grind (arith, common_steps, c.copy_from_slice.ensures.after) in
    let most : c.min.result ≡ min (length rest) (length c.args.buf.now) = grind (arith, common_steps, c.min.ensures) in
    rest_kept rest c.copy_from_slice.new.self c.args.buf.now c.min-n.result copied (omega (arith, most, c.min-n.ensures))
