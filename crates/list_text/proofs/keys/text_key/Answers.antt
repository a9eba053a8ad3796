-- One more byte of the text is spelled.
use Rattle.std.proofs.Common.{sym, subst, List, ℕ, ◌≡◌, ◌++◌}
use Rattle.std.specs.Prelude.{option_map}
use Rattle.list_text.specs.Keys as keys
use Rattle.list_text.proofs.Spelling.{one_more}
use Rattle.list_text.proofs.keys.text_key.Goals as goal

pub loop-rest-preserved : goal.loop-rest-preserved
loop-rest-preserved c =
    subst (λ (key : List ℕ). option_map (λ (bytes : List ℕ). key ++ bytes) (keys.text_key c.in_ok-byte.behind.now) ≡ keys.text_key c.args.text.now) (sym c.in_ok-append.ensures.ok)
    (one_more c.loop-rest.key c.in_ok-byte.byte (keys.text_key c.args.text.now) (keys.text_key c.loop-rest.rest.now) (keys.text_key c.in_ok-byte.behind.now) c.loop-rest.invariant c.in_ok-byte.ensures.ok)
