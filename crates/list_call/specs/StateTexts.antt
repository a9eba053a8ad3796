-- The text of what a log recovers, in each form. The plain one with hexadecimal digits is that of `recover`.
use Rattle.std.specs.Prelude.{ℕ, ◌==◌, List, [], ◌++◌, length, map, flat_map, codes, decimal, if◌then◌else◌}
use Rattle.model_base.specs.Map.{Pairs}
use Rattle.model_base.specs.declared.key.Key.{Key}
use Rattle.model_base.specs.Recovery.{Recovered, recovered_last, recovered_map}
use Rattle.log_recovery.specs.Keeping.{note_of}
use Rattle.log_recovery.specs.declared.kept.GroupNote.{GroupNote}
use Rattle.list_text.specs.Lines.{end_line}
use Rattle.list_text.specs.Words.{word}
use Rattle.list_text.specs.declared.form.Form.{Form}

-- one text in JSON, and another one otherwise
abbrev pub part : Form → List ℕ → List ℕ → List ℕ
part form json plain = if form.json then json else plain

-- such a text and a number
abbrev pub value : Form → List ℕ → List ℕ → ℕ → List ℕ
value form json plain number = part form json plain ++ decimal number

-- how many records are kept
abbrev pub count_line : Form → ℕ → List ℕ
count_line form count = value form (codes "{\"groups\":") (codes "groups ") count
    ++ part form (codes "}\n") (codes "\n")

-- a record that is kept: its first sequence, how many operations it has, and how many bytes
abbrev pub group_line : Form → GroupNote → List ℕ
group_line form g = value form (codes "{\"sequence\":") [] g.first
    ++ value form (codes ",\"count\":") (codes " ") g.count
    ++ value form (codes ",\"size\":") (codes " ") g.size ++ part form (codes "}\n") (codes "\n")

abbrev pub groups_text : Form → List GroupNote → List ℕ
groups_text form groups = count_line form (length groups) ++ flat_map (group_line form) groups

-- the last sequence, and how many keys there are
abbrev pub state_line : Form → ℕ → ℕ → List ℕ
state_line form last keys = value form (codes "{\"last\":") (codes "state ") last
    ++ value form (codes ",\"keys\":") (codes " ") keys ++ part form (codes "}\n") (codes "\n")

-- the number of a key's family, unless it is the default one
abbrev pub family_text : Form → ℕ → List ℕ
family_text form family = if family == 0 then []
    else value form (codes "\"family\":") [] family ++ part form (codes ",") (codes " ")

-- a key and its value
abbrev pub pair_line : Form → Key × List ℕ → List ℕ
pair_line form p = part form (codes "{") [] ++ family_text form p.0.family ++ part form (codes "\"key\":") []
    ++ word form p.0.bytes ++ part form (codes ",\"value\":") (codes " ") ++ word form p.1
    ++ part form (codes "}\n") (codes "\n")

abbrev pub map_text : Form → ℕ → Pairs → List ℕ
map_text form last pairs = state_line form last (length pairs) ++ flat_map (pair_line form) pairs

-- the records that are kept, the map, and where and why recovery ends
abbrev pub state_text : Form → Recovered → List ℕ
state_text form r = groups_text form (map note_of r.batches) ++ map_text form (recovered_last r) (recovered_map r)
    ++ end_line form r.at r.why
