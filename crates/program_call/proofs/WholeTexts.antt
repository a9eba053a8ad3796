-- A text that is a script was read to its end.
use Rattle.std.proofs.Common.{◌≡◌, ℕ, ◌≤◌, Bool, true, false, cond, nat_lt, List, [], ◌++◌, length, Option, Some, None, Ok, Err, IfSome, refl, ap, ◌∙◌, arith, append-nil}
use Rattle.std.proofs.lemmas.Bool.{ltb-false}
use Rattle.model_base.specs.declared.limits.TheConstants.{MAX_CLIENTS, TEXT_LIMIT}
use Rattle.model_base.specs.declared.script.ScriptFault.TheVariants.{Long}
use Rattle.model_base.specs.Script as model
use Rattle.model_base.specs.Script.{script_of, whole_grammar, lines_read, with_client}
use Rattle.run_scripts.specs.declared.script.Script.{Script}
use Rattle.run_scripts.specs.Scripts.{commands_of, FitsBatches}
use Rattle.program_call.specs.Reading.{HasRead, HasScript}

-- a longer text has a fault
said_len : (text : List ℕ) (s : model.Script) → script_of whole_grammar text ≡ Ok s → length text ≤ TEXT_LIMIT
said_len text s e = by_test (nat_lt TEXT_LIMIT (length text)) refl e
  where
    by_test : (b : Bool) → nat_lt TEXT_LIMIT (length text) ≡ b → cond b (Err (record { line = 0; kind = Long })) (with_client (lines_read whole_grammar text)) ≡ Ok s → length text ≤ TEXT_LIMIT
    by_test true is e = absurd (cc e)
    by_test false is e = let a = ltb-false TEXT_LIMIT (length text) is in omega (arith, a)

whole : (old new : Option (List ℕ)) (text : List ℕ) (s : model.Script) → HasRead old new text → length text ≤ TEXT_LIMIT → script_of whole_grammar text ≡ Ok s
    → IfSome old (λ t. script_of whole_grammar t ≡ Ok s)
whole None new text s has short e = tt
whole (Some xs) None text s has short e = absurd has.consumed
whole (Some xs) (Some ys) text s has short e =
    let none : ys ≡ [] = has.whole short in
    let same : xs ≡ text = has.consumed ∙ ap (λ r. text ++ r) none ∙ append-nil text in
    ap (script_of whole_grammar) same ∙ e

pub has_script : (old new : Option (List ℕ)) (text : List ℕ) (s : Script) → HasRead old new text → script_of whole_grammar text ≡ Ok (commands_of s)
    → (1 ≤ length s.clients.items) × (length s.clients.items ≤ MAX_CLIENTS) → FitsBatches s → HasScript old new s
has_script old new text s has e clients fits =
    let short = said_len text (commands_of s) e in
    record { said = whole old new text (commands_of s) has short e; ended = has.whole short; clients = clients; fits = fits }
