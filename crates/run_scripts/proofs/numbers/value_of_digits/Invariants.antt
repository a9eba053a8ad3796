use Rattle.std.proofs.Common.{◌≡◌, ◌+◌, ◌-◌, ◌*◌, ◌^◌, ◌<◌, fold, drop}
use Rattle.run_scripts.proofs.numbers.value_of_digits.Given as goal

abbrev pub invariant-loop-byte : goal.invariant-loop-byte
invariant-loop-byte l = record {
  fits : l.value < 2 ^ 64;
  goes_on : fold (λ n d. 10 * n + (d - 48)) l.value (drop l.byte-index l.word) ≡ fold (λ n d. 10 * n + (d - 48)) 0 l.word;
}
