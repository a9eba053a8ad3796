-- The forms of which the rows say what they show.
use Rattle.std.specs.Prelude.{true, false}
use Rattle.list_text.specs.declared.form.Form.{Form}

abbrev pub plain_hex : Form
plain_hex = record { json = false; text = false }

abbrev pub plain_text : Form
plain_text = record { json = false; text = true }

abbrev pub json_hex : Form
json_hex = record { json = true; text = false }

abbrev pub json_text : Form
json_text = record { json = true; text = true }
