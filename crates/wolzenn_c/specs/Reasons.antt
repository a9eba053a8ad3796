-- Reasons in numbers.
use Rattle.std.specs.Prelude.{ℕ}
use Rattle.model_base.specs.declared.log.Damage.{Damage}
use Rattle.model_base.specs.declared.log.Damage.TheVariants as damage
use Rattle.model_base.specs.declared.log.EndReason.{EndReason}
use Rattle.model_base.specs.declared.log.EndReason.TheVariants as ends
use Rattle.wolzenn_c.specs.declared.codes.WzEnd.{WzEnd}

-- the code of a damage
abbrev pub damage_code : Damage → ℕ
damage_code damage.ShortHeader = 2
damage_code damage.Zeros = 3
damage_code damage.BadLength = 4
damage_code (damage.BadType kind) = 5
damage_code damage.BadChecksum = 6
damage_code damage.BadTrailer = 7
damage_code (damage.OldLog number) = 8

-- the code of a reason
abbrev pub reason_code : EndReason → ℕ
reason_code ends.Clean = 1
reason_code (ends.Broken d) = damage_code d
reason_code ends.BadOrder = 9
reason_code ends.Unfinished = 10
reason_code ends.Short = 11
reason_code ends.BadVarint = 12
reason_code (ends.Tag tag) = 13
reason_code (ends.Count said found) = 14
reason_code (ends.Order first last) = 15
reason_code (ends.High first count) = 16

-- a damage's own number, 0 where it has none
abbrev pub damage_number : Damage → ℕ
damage_number damage.ShortHeader = 0
damage_number damage.Zeros = 0
damage_number damage.BadLength = 0
damage_number (damage.BadType kind) = kind
damage_number damage.BadChecksum = 0
damage_number damage.BadTrailer = 0
damage_number (damage.OldLog number) = number

-- a reason's own numbers, 0 where it has none
abbrev pub numbers_of : EndReason → ℕ × ℕ
numbers_of ends.Clean = (0, 0)
numbers_of (ends.Broken d) = (damage_number d, 0)
numbers_of ends.BadOrder = (0, 0)
numbers_of ends.Unfinished = (0, 0)
numbers_of ends.Short = (0, 0)
numbers_of ends.BadVarint = (0, 0)
numbers_of (ends.Tag tag) = (tag, 0)
numbers_of (ends.Count said found) = (said, found)
numbers_of (ends.Order first last) = (first, last)
numbers_of (ends.High first count) = (first, count)

-- an end in numbers
abbrev pub end_of : ℕ → EndReason → WzEnd
end_of at why =
    record { at = at; why = reason_code why; first = (numbers_of why).0; second = (numbers_of why).1 }
