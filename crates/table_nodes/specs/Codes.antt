-- Codes of versions, and of lists of them, by which a proof tells values apart.
use Rattle.std.specs.Prelude.{ℕ, List, Option, refl}
use Rattle.std.specs.Coded.{Coded, code_by, coded×, coded_ℕ, coded_list, coded_option}
use Rattle.model_base.specs.declared.key.Key.{Key}
use Rattle.table_rule.specs.declared.content.Version.{Version}
use Rattle.table_nodes.specs.Chains.{Chain}
use Rattle.table_nodes.specs.Following.{Following}

-- what a version says of its key
abbrev pub Saying : Type 0
Saying = Option (List ℕ) × ℕ

abbrev pub key_code : Coded Key
key_code =
    code_by (ℕ × List ℕ) (coded× coded_ℕ (coded_list coded_ℕ)) (λ (k : Key). (k.family, k.bytes))
    (λ p. record { family = p.0; bytes = p.1 }) (λ _. refl)

abbrev pub version_code : Coded Version
version_code =
    code_by (Key × Saying) (coded× key_code (coded× (coded_option (coded_list coded_ℕ)) coded_ℕ))
    (λ (v : Version). (v.key, (v.value, v.sequence))) (λ p. record { key = p.0; value = p.1.0; sequence = p.1.1 })
    (λ _. refl)

abbrev pub versions_code : Coded (List Version)
versions_code = coded_list version_code

abbrev pub chain_code : Coded Chain
chain_code =
    code_by (Version × List Version) (coded× version_code versions_code) (λ (c : Chain). (c.newest, c.older))
    (λ p. record { newest = p.0; older = p.1 }) (λ _. refl)

abbrev pub following_code : Coded Following
following_code =
    code_by (List Version × List Version) (coded× versions_code versions_code)
    (λ (f : Following). (f.children, f.next)) (λ p. record { children = p.0; next = p.1 }) (λ _. refl)
