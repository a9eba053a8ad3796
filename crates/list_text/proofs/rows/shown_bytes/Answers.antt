use Rattle.std.proofs.Common.{refl}
use Rattle.list_text.proofs.rows.shown_bytes.Goals as goal

pub returns : goal.returns
returns c = record { hex = refl; nothing = refl; text = refl; escapes = refl; no_text = refl; json_hex = refl; json_text = refl }
