-- Three pieces, one after another.
use Rattle.std.proofs.Common.{◌≡◌, ◌++◌}
use Rattle.std.specs.Prelude.{codes}
use Rattle.list_text.specs.Lines.{field, json_why, two}
use Rattle.list_text.proofs.Pieces.{if_ok, three_pieces}
use Rattle.list_text.proofs.between.put_json_unread.Goals as goal

pub returns : goal.returns
returns c =
    let u = c.args.unread in
    let numbers = two (codes "{\"unread\":[") u.from (codes ",") u.to in
    let first : c.put_two.new.text ≡ c.args.text.now ++ numbers = rw (c.from-from.ensures, c.from-to.ensures) at c.in_ok-put_two.ensures in
    if_ok c.put_json_why.result _ _ c.put_json_why.ensures
    (three_pieces c.args.text.now numbers (field (codes "],\"at\":") u.at) (json_why u.why) c.put_two.new.text c.put_field.new.text c.put_json_why.new.text first c.in_ok-put_field.ensures)
