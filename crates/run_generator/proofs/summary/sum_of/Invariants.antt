use Rattle.std.proofs.Common.{◌≡◌, ◌+◌, ◌*◌, ◌≤◌, length}
use Rattle.run_generator.specs.Values.{have_numbers, sum_of_values}
use Rattle.run_generator.proofs.summary.sum_of.Given as goal

-- what is summed up and what is left are the whole sum, and each value so far is below 2 ^ 64
abbrev pub invariant-loop-value : goal.invariant-loop-value
invariant-loop-value l = record {
  goes_on : l.sum + sum_of_values l.value-iterator ≡ sum_of_values l.map;
  numbers : have_numbers l.value-iterator ≡ have_numbers l.map;
  small : l.sum + 18446744073709551615 * length l.value-iterator ≤ 18446744073709551615 * length l.map;
}
