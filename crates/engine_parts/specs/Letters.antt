-- What is in an envelope.
use Rattle.std.specs.Prelude.{◌≡◌, Bool, true, false}
use Rattle.std.proofs.Common.{sym}
use Rattle.std.proofs.lemmas.Bool.{true≢false}
use Rattle.engine_parts.specs.declared.requests.Request.{Request}
use Rattle.engine_parts.specs.declared.requests.Answer.{Answer}
use Rattle.engine_parts.specs.declared.envelope.Letter.{Letter}
use Rattle.engine_parts.specs.declared.envelope.Letter.TheVariants.{Nothing, Asked, Told}

abbrev pub is_asked : Letter → Bool
is_asked Nothing = false
is_asked (Asked request) = true
is_asked (Told answer) = false

abbrev pub is_told : Letter → Bool
is_told Nothing = false
is_told (Asked request) = false
is_told (Told answer) = true

-- the request, where there is one
abbrev pub asked_in : (letter : Letter) → is_asked letter ≡ true → Request
asked_in Nothing not = absurd (true≢false (sym not))
asked_in (Asked request) is = request
asked_in (Told answer) not = absurd (true≢false (sym not))

-- the answer, where there is one
abbrev pub told_in : (letter : Letter) → is_told letter ≡ true → Answer
told_in Nothing not = absurd (true≢false (sym not))
told_in (Asked request) not = absurd (true≢false (sym not))
told_in (Told answer) is = answer
