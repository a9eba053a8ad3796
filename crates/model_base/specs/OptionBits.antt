-- The options of a commit as a number: `sync` is 1, `nolog` 2 and `noslow` 4.
use Rattle.std.specs.Prelude.{ℕ, ◌+◌, ◌*◌, ◌/◌, ◌%◌, ◌==◌, Bool, true, false}
use Rattle.model_base.specs.declared.write.WriteOptions.{WriteOptions}

abbrev pub bit_of : Bool → ℕ
bit_of true = 1
bit_of false = 0

abbrev pub option_bits : WriteOptions → ℕ
option_bits options = bit_of options.sync + 2 * bit_of options.no_log + 4 * bit_of options.no_slowdown

-- the options that the three lowest bits of a number encode
abbrev pub options_of_bits : ℕ → WriteOptions
options_of_bits bits = record {
  sync = bits % 2 == 1;
  no_log = bits / 2 % 2 == 1;
  no_slowdown = bits / 4 % 2 == 1;
}
