-- What a history says, once a call in it says a sequence.
use Rattle.std.proofs.Common.{◌≡◌, ℕ, ◌≤◌, max, None, List, [], ◌∷◌, ◌++◌, sym, ap, ◌∙◌, arith}
use Rattle.std.proofs.lemmas.List.Sums.{fold-append}
use mathlib.Core.List.{IsPrefix}
use Rattle.model_base.specs.Controller.{ControllerCall, say}
use Rattle.model_base.specs.Tokens.{said_by, said_in}
use Rattle.model_base.proofs.Shown.{said_at_least}
use Rattle.engine_controller.specs.Passes.{EndsWith}

-- in more calls it is no less
pub said_in_prefix : (xs ys : List ControllerCall) → IsPrefix xs ys → said_in xs ≤ said_in ys
said_in_prefix xs ys p =
    let whole = ap said_in (sym p.1) ∙ fold-append (λ most (t : ControllerCall). max most (said_by t.action)) 0 xs p.0 in
    let more = said_at_least (said_in xs) p.0 in
    omega (arith, whole, more)

-- a history that ends with a call that says a sequence says no less
pub said_last : (client most : ℕ) (seen after : List ControllerCall) → EndsWith client seen (say most) None after → most ≤ said_in after
said_last client most seen after e =
    let before : List ControllerCall = seen ++ e.between in
    let whole : said_in after ≡ max (said_in before) most = ap said_in e.is ∙ fold-append (λ most (t : ControllerCall). max most (said_by t.action)) 0 before (record { client = client; action = say most; told = None } ∷ []) in
    omega (arith, whole)
