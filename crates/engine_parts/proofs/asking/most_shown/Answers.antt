use Rattle.std.proofs.Common.{◌≡◌, ◌≤◌, ◌<◌, ◌+◌, ◌∙◌, ℕ, List, ap, arith, get_or, length, max, sym, take}
use Rattle.std.proofs.lemmas.List.{take_all}
use Rattle.engine_parts.specs.declared.requests.Request.{Request}
use Rattle.engine_parts.specs.Asking.{greatest_shown}
use Rattle.engine_parts.proofs.Views.{shown_more}
use Rattle.engine_parts.proofs.asking.most_shown.Goals as goal

pub loop-i-preserved : goal.loop-i-preserved
loop-i-preserved c =
    let v = c.loop-i.invariant in let xs : List (ℕ × Request) = c.args.requests.now in let i : ℕ = c.loop-i.i in
    let h : i < length xs = c.loop-i-test.true in
    let x0 : ℕ × Request = c.index-requests-i.result in
    let most : ℕ = c.loop-i.most in
    let shown : c.as_request.result.now.shown ≡ (get_or xs i x0).1.shown = ap (λ (q : Request). q.shown) c.as_request.ensures in
    let greater : c.max-most.result ≡ max most c.as_request.result.now.shown = c.max-most.ensures in
    record {
      in_range = (let next : i + 1 ≤ length xs = omega (arith, h) in next);
      most = greater ∙ (ap (max most) shown ∙ (ap (λ (n : ℕ). max n (get_or xs i x0).1.shown) v.most ∙ sym (shown_more xs i x0 h)));
    }

pub returns : goal.returns
returns c =
    let v = c.loop-i.invariant in let xs : List (ℕ × Request) = c.args.requests.now in
    let past = c.loop-i-test.false in
    let end : length xs ≤ c.loop-i.i = omega (arith, past) in
    v.most ∙ ap greatest_shown (take_all c.loop-i.i xs end)
