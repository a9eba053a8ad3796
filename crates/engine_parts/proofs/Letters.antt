-- The request or the answer that is known to be in an envelope.
use Rattle.std.proofs.Common.{◌≡◌, true}
use Rattle.engine_parts.specs.declared.requests.Request.{Request}
use Rattle.engine_parts.specs.declared.envelope.Letter.{Letter}
use Rattle.engine_parts.specs.declared.envelope.Letter.TheVariants.{Nothing, Asked, Told}
use Rattle.engine_parts.specs.declared.requests.Answer.{Answer}
use Rattle.engine_parts.specs.Letters.{is_asked, asked_in, is_told, told_in}

pub request_is : (letter : Letter) (asked : is_asked letter ≡ true) (q : Request) → letter ≡ Asked q → asked_in letter asked ≡ q
request_is Nothing asked q is = absurd (cc)
request_is (Asked p) asked q is = cc
request_is (Told p) asked q is = absurd (cc)

pub answer_is : (letter : Letter) (told : is_told letter ≡ true) (p : Answer) → letter ≡ Told p → told_in letter told ≡ p
answer_is Nothing told p is = absurd (cc)
answer_is (Asked q) told p is = absurd (cc)
answer_is (Told r) told p is = cc
