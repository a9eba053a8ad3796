-- The name with the number, and the end of the line.
use Rattle.std.proofs.Common.{◌++◌}
use Rattle.std.specs.Prelude.{codes}
use Rattle.list_text.specs.Lines.{field}
use Rattle.list_text.proofs.Pieces.{if_ok, two_pieces}
use Rattle.list_text.proofs.summary.put_records.Goals as goal

pub returns-in_ok-put_field : goal.returns-in_ok-put_field
returns-in_ok-put_field c =
    if_ok c.append.result _ _ c.append.ensures.ok
    (two_pieces c.args.text.now (field (codes "{\"records\":") c.args.count) (codes "}\n") c.put_field.new.text c.append.new.self (field (codes "records ") c.args.count ++ codes "\n") c.args.form.json c.if-form.true c.in_ok-put_field.ensures)
