-- The lines in which a log is shown, plain or as JSON. A plain line is words, and an operation's begins with two
-- spaces. In JSON a line is an object, and a record's has its operations in it.
use Rattle.std.specs.Prelude.{ℕ, List, [], ◌∷◌, ◌++◌, Bool, true, false, flat_map, codes, decimal, Option, Some, None, if◌then◌else◌}
use Rattle.std.specs.List.{join_with_byte}
use Rattle.model_base.specs.declared.batch.BatchError.{BatchError}
use Rattle.model_base.specs.declared.batch.BatchError.TheVariants as error
use Rattle.model_base.specs.declared.log.Damage.{Damage}
use Rattle.model_base.specs.declared.log.EndReason.{EndReason}
use Rattle.model_base.specs.declared.log.EndReason.TheVariants as ends
use Rattle.model_base.specs.Text.{damage_words, end_words}
use Rattle.batch_operations.specs.Operations.{Operation}
use Rattle.batch_operations.specs.Shown.{ShownRecord}
use Rattle.batch_operations.specs.declared.head.Head.{Head}
use Rattle.log_scan.specs.declared.scanner.Unread.{Unread}
use Rattle.list_text.specs.Words.{word}
use Rattle.list_text.specs.Kinds.{kind_word}
use Rattle.list_text.specs.declared.form.Form.{Form}
use Rattle.list_text.specs.declared.form.RecordPlace.{RecordPlace}

-- ---- words

-- a name and a number
abbrev pub field : List ℕ → ℕ → List ℕ
field name number = name ++ decimal number

-- the reason for which bytes are no operation, as a reason for which recovery ends
abbrev pub reason_of : BatchError → EndReason
reason_of error.Short = ends.Short
reason_of error.BadVarint = ends.BadVarint
reason_of (error.Tag tag) = ends.Tag tag
reason_of (error.Count said found) = ends.Count said found

-- why reading ended, in the words of `recover`, with one space between them
abbrev pub reason : EndReason → List ℕ
reason why = join_with_byte 32 (end_words why)

abbrev pub damage_reason : Damage → List ℕ
damage_reason damage = join_with_byte 32 (damage_words damage)

-- ---- a record

-- a part that is there if a value is
abbrev if_some : {T : Type 0} → (T → List ℕ) → Option T → List ℕ
if_some part None = []
if_some part (Some value) = part value

-- where a record is, and how many bytes it has, each after its name
abbrev pub place_fields : List ℕ → List ℕ → List ℕ → RecordPlace → List ℕ
place_fields start_name end_name size_name place =
    field start_name place.start ++ field end_name place.end ++ field size_name place.size

-- what a record's head says, if it has one
abbrev pub head_fields : List ℕ → List ℕ → Option Head → List ℕ
head_fields sequence_name count_name head =
    if_some (λ (h : Head). field sequence_name h.sequence ++ field count_name h.count) head

abbrev pub plain_front : RecordPlace → Option Head → List ℕ
plain_front place head = place_fields (codes "record ") (codes " ") (codes " size ") place
    ++ head_fields (codes " sequence ") (codes " count ") head ++ codes "\n"

abbrev pub json_front : RecordPlace → Option Head → List ℕ
json_front place head = place_fields (codes "{\"record\":") (codes ",\"end\":") (codes ",\"size\":") place
    ++ head_fields (codes ",\"sequence\":") (codes ",\"count\":") head ++ codes ",\"operations\":["

abbrev pub record_front : Form → RecordPlace → Option Head → List ℕ
record_front form place head = if form.json then json_front place head else plain_front place head

-- the family that an operation names, if it names one, after this name
abbrev pub family_field : List ℕ → Option ℕ → List ℕ
family_field name family = if_some (field name) family

abbrev pub named_string : Form → List ℕ → List ℕ → List ℕ
named_string form name string = name ++ word form string

-- the strings of an operation, each after its name; there are two at most
abbrev pub named_strings : Form → List ℕ → List ℕ → List (List ℕ) → List ℕ
named_strings form first_name second_name [] = []
named_strings form first_name second_name (first ∷ []) = named_string form first_name first
named_strings form first_name second_name (first ∷ second ∷ others) =
    named_string form first_name first ++ named_string form second_name second

abbrev pub plain_operation : Form → Operation → List ℕ
plain_operation form o = codes "  " ++ kind_word o.tag ++ family_field (codes " family ") o.family
    ++ named_strings form (codes " ") (codes " ") o.strings ++ codes "\n"

abbrev pub json_operation : Form → Operation → List ℕ
json_operation form o = field (codes "{\"tag\":") o.tag ++ codes ",\"kind\":\"" ++ kind_word o.tag ++ codes "\""
    ++ family_field (codes ",\"family\":") o.family
    ++ named_strings form (codes ",\"key\":") (codes ",\"value\":") o.strings ++ codes "}"

-- in JSON a comma comes before each operation, except before a record's first one
abbrev pub comma : Bool → List ℕ
comma is_first = if is_first then [] else codes ","

abbrev pub operation_text : Form → Bool → Operation → List ℕ
operation_text form is_first o = if form.json then comma is_first ++ json_operation form o
    else plain_operation form o

abbrev pub operations_text : Form → List Operation → List ℕ
operations_text form [] = []
operations_text form (o ∷ operations) =
    operation_text form true o ++ flat_map (operation_text form false) operations

abbrev pub record_back : Form → Option BatchError → List ℕ
record_back form fault = if form.json
    then codes "]" ++ if_some (λ e. codes ",\"fault\":\"" ++ reason (reason_of e) ++ codes "\"") fault ++ codes "}\n"
    else if_some (λ e. codes "  fault " ++ reason (reason_of e) ++ codes "\n") fault

-- a record: where it is, how many bytes it has, and what it shows
abbrev pub record_text : Form → RecordPlace → ShownRecord → List ℕ
record_text form place shown =
    record_front form place shown.head ++ operations_text form shown.operations
    ++ record_back form shown.fault

-- ---- between records, and at the end

abbrev pub plain_why : EndReason → List ℕ
plain_why why = codes " " ++ reason why ++ codes "\n"

abbrev pub json_why : EndReason → List ℕ
json_why why = codes ",\"why\":\"" ++ reason why ++ codes "\"}\n"

abbrev pub two : List ℕ → ℕ → List ℕ → ℕ → List ℕ
two before first between second = before ++ decimal first ++ between ++ decimal second

abbrev pub scan_front : Form → List ℕ
scan_front form = if form.json then codes "{\"shown\":\"not recovered\"}\n"
    else codes "shown, not recovered: what follows damage may be of another history\n"

-- no record before has the sequences from the first to the last
abbrev pub gap_line : Form → ℕ → ℕ → List ℕ
gap_line form first last = if form.json then two (codes "{\"gap\":[") first (codes ",") last ++ codes "]}\n"
    else two (codes "gap ") first (codes " ") last ++ codes "\n"

-- a record's first sequence isn't above the last one before it
abbrev pub order_line : Form → ℕ → ℕ → List ℕ
order_line form first last = if form.json then two (codes "{\"order\":[") first (codes ",") last ++ codes "]}\n"
    else two (codes "order ") first (codes " ") last ++ codes "\n"

abbrev pub json_unread : Unread → List ℕ
json_unread u = two (codes "{\"unread\":[") u.from (codes ",") u.to ++ field (codes "],\"at\":") u.at ++ json_why u.why

abbrev pub plain_unread : Unread → List ℕ
plain_unread u = two (codes "unread ") u.from (codes " ") u.to ++ field (codes " ") u.at ++ plain_why u.why

abbrev pub unread_line : Form → Unread → List ℕ
unread_line form u = if form.json then json_unread u else plain_unread u

abbrev pub end_line : Form → ℕ → EndReason → List ℕ
end_line form at why = if form.json then field (codes "{\"end\":") at ++ json_why why
    else field (codes "end ") at ++ plain_why why

-- ---- counts in place of records

abbrev pub records_line : Form → ℕ → List ℕ
records_line form count = if form.json then field (codes "{\"records\":") count ++ codes "}\n"
    else field (codes "records ") count ++ codes "\n"

abbrev pub sequences_line : Form → Option (ℕ × ℕ) → List ℕ
sequences_line form None = if form.json then codes "{\"sequences\":[]}\n" else codes "sequences none\n"
sequences_line form (Some s) = if form.json
    then two (codes "{\"sequences\":[") s.0 (codes ",") s.1 ++ codes "]}\n"
    else two (codes "sequences ") s.0 (codes " ") s.1 ++ codes "\n"

abbrev pub count_line : Form → ℕ → Option ℕ → ℕ → List ℕ
count_line form tag family count = if form.json
    then codes "{\"kind\":\"" ++ kind_word tag ++ codes "\"" ++ family_field (codes ",\"family\":") family
    ++ field (codes ",\"count\":") count ++ codes "}\n"
    else kind_word tag ++ family_field (codes " family ") family ++ field (codes " ") count ++ codes "\n"

abbrev pub stretches_line : Form → ℕ → ℕ → List ℕ
stretches_line form count bytes = if form.json
    then field (codes "{\"unread\":") count ++ field (codes ",\"bytes\":") bytes ++ codes "}\n"
    else field (codes "unread ") count ++ field (codes " ") bytes ++ codes "\n"
