use Rattle.std.proofs.Common.{◌≡◌, ℕ, ◌+◌, ◌-◌, ◌++◌, List, length, take, drop, ◌∙◌, sym, ap, arith, length-take, length-drop}
use Rattle.model_base.specs.Log as log
use Rattle.log_writer.proofs.Pieces.{header_len_is}
use Rattle.log_writer.proofs.Filling.{part_there, filled}
use Rattle.log_writer.proofs.puts.fill.Goals as goal

pub returns-clause-filled : goal.returns-clause-filled
returns-clause-filled c =
    let old = c.args.block.now in
    let len = c.args.len in
    let number = c.args.number in
    let start = c.header_len-start.result in
    let part = c.move_to.new.part in
    let front : List ℕ = take start old in
    let behind : List ℕ = drop (start + len - start) (drop start old) in
    let header = c.header-header.result in
    let start_is : start ≡ log.header_len number = c.header_len-start.ensures in
    let front_len : length front ≡ start = omega (arith, length-take start old, c.requires.room, c.requires.fits, start_is) in
    let room : length (take (start + len - start) (drop start old)) ≡ len = omega (arith, length-take (start + len - start) (drop start old), length-drop start old, c.requires.room, c.requires.fits, start_is) in
    let len_is : length part ≡ len = c.move_to.auto.part ∙ room in
    let moved : part ≡ take len c.args.rest.now = c.move_to.ensures.moved ∙ ap (λ (n : ℕ). take n c.args.rest.now) room in
    let count : start + len - start ≡ len = omega arith in
    let seen : take (start + len - start) (drop start (front ++ (part ++ behind))) ≡ part = ap (λ (n : ℕ). take n (drop start (front ++ (part ++ behind)))) count ∙ part_there front part behind start len front_len len_is in
    let header_is : header ≡ log.header number c.args.kind (take len c.args.rest.now) = c.header-header.ensures ∙ ap (log.header number c.args.kind) (seen ∙ moved) in
    let slice_is : c.as_slice.result.now ≡ header = c.as_slice.ensures in
    let header_len : 0 + length c.as_slice.result.now ≡ start = omega (arith, ap length (slice_is ∙ header_is), header_len_is number c.args.kind (take len c.args.rest.now), start_is) in
    ap (λ (n : ℕ). take (n + len) c.set_at.new.bytes) (sym start_is)
    ∙ (filled front part behind c.as_slice.result.now c.set_at.new.bytes (0 + length c.as_slice.result.now) start len front_len len_is header_len c.set_at.ensures.there c.set_at.ensures.behind
    ∙ (ap (λ (l : List ℕ). l ++ part) (slice_is ∙ header_is) ∙ ap (λ (l : List ℕ). log.header number c.args.kind (take len c.args.rest.now) ++ l) moved))
