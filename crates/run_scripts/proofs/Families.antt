-- What is read of a line that names families.
use Rattle.std.proofs.Common.{◌≡◌, ℕ, ◌<◌, ◌^◌, ◌&&◌, ◌==◌, Bool, true, false, cond, nat_lt, List, [], ◌∷◌, ◌++◌, map, Option, Some, None, is_some, option_map, option_copied, Bor, Ok, Err, decimal, refl, sym, ap, ◌∙◌, subst, append-nil, append_assoc}
use Rattle.std.specs.List.{list_all, AllByRecursion}
use Rattle.std.specs.Prelude.{option_and_then, bytes_eq}
use Rattle.std.proofs.lemmas.Bool.{ltb-true}
use Rattle.std.proofs.lemmas.Slice.Eq.{bytes_eq-Decides}
use Rattle.model_base.specs.declared.key.Key.{Key}
use Rattle.model_base.specs.declared.script.ScriptFault.TheVariants.{Form}
use Rattle.model_base.specs.Map.{key_at}
use Rattle.model_base.specs.Script as model
use Rattle.model_base.specs.Script.{◌>>=◌, number_of, value_of_digits, family_number, is_word}
use Rattle.run_scripts.specs.Scripts.{IsShort}
use Rattle.run_scripts.specs.ScriptWords.{parts_of}
use Rattle.run_scripts.specs.ScriptLines.{behind_word, family_first, key_first, default_keys, family_keys}
use Rattle.run_scripts.proofs.ScriptParts.{slice_split-cons}

-- A number's text is its digits

number_spelled : (w : List ℕ) (n : ℕ) → number_of w ≡ Some n → w ≡ decimal n
number_spelled w n is = by_tests (bytes_eq w (decimal (value_of_digits w))) (bytes_eq-Decides w (decimal (value_of_digits w))).0 (nat_lt (value_of_digits w) (2 ^ 64)) is
  where
    value : Some (value_of_digits w) ≡ Some n → value_of_digits w ≡ n
    value e = cc

    by_tests : (b : Bool) → (b ≡ true → w ≡ decimal (value_of_digits w)) → (c : Bool) → cond (b && c) (Some (value_of_digits w)) None ≡ Some n → w ≡ decimal n
    by_tests true same true some = same refl ∙ ap decimal (value some)
    by_tests true same false some = absurd (cc some)
    by_tests false same c some = absurd (cc some)

same_some : (m n : ℕ) → Some m ≡ Some n → m ≡ n
same_some m n e = cc

pub family_spelled : (w : List ℕ) (f : ℕ) → family_number w ≡ Some f → (w ≡ decimal f) × (f < 2 ^ 32)
family_spelled w f is = by_number (number_of w) refl is
  where
    by_size : (n : ℕ) (small : Bool) → nat_lt n (2 ^ 32) ≡ small → number_of w ≡ Some n → cond small (Some n) None ≡ Some f → (w ≡ decimal f) × (f < 2 ^ 32)
    by_size n true less number some = (number_spelled w f (number ∙ some), subst (λ (m : ℕ). m < 2 ^ 32) (same_some n f some) (ltb-true n (2 ^ 32) less))
    by_size n false less number some = absurd (cc some)

    by_number : (number : Option ℕ) → number_of w ≡ number → option_and_then (λ n. cond (nat_lt n (2 ^ 32)) (Some n) None) number ≡ Some f → (w ≡ decimal f) × (f < 2 ^ 32)
    by_number None number some = absurd (cc some)
    by_number (Some n) number some = by_size n (nat_lt n (2 ^ 32)) refl number some

-- whatever the words are, the form is wrong
form_anyway : (words : Bool) → ◌≡◌ {A = model.Read model.Line} (cond words (Err Form) (Err Form)) (Err Form)
form_anyway true = refl
form_anyway false = refl

-- The words behind a family's number are read in that family.

abbrev pub family_then : (ℕ → List (List ℕ) → model.Read model.Line) → Option (ℕ × List (List ℕ)) → model.Read model.Line
family_then rest None = Err Form
family_then rest (Some p) = behind_word (rest p.0) p.1

pub in_family_read : (rest : ℕ → List (List ℕ) → model.Read model.Line) (ws : List (List ℕ)) → behind_word (model.in_family rest) ws ≡ family_then rest (family_first ws)
in_family_read rest [] = refl
in_family_read rest (w ∷ ws) = by_word (is_word w) (family_number w)
  where
    by_word : (word : Bool) (family : Option ℕ)
        → cond (word && list_all is_word ws) (model.or_form family >>= λ f. rest f ws) (Err Form) ≡ family_then rest (cond word (option_map (λ f. (f, ws)) family) None)
    by_word false family = refl
    by_word true (Some f) = refl
    by_word true None = form_anyway (list_all is_word ws)

-- what is left of a line begins with a family's number
pub read_in : (rest : ℕ → List (List ℕ) → model.Read model.Line) (ws behind : List (List ℕ)) (family : ℕ) → Some (family, behind) ≡ family_first ws → behind_word (model.in_family rest) ws ≡ behind_word (rest family) behind
read_in rest ws behind family first = in_family_read rest ws ∙ ap (family_then rest) (sym first)

-- and it doesn't
pub not_in : (rest : ℕ → List (List ℕ) → model.Read model.Line) (ws : List (List ℕ)) → ◌≡◌ {A = Option (ℕ × List (List ℕ))} None (family_first ws) → behind_word (model.in_family rest) ws ≡ Err Form
not_in rest ws first = in_family_read rest ws ∙ ap (family_then rest) (sym first)

-- Keys that are read one after another

-- the keys before those that are read
abbrev pub with_more : List Key → model.Read (List Key) → model.Read (List Key)
with_more keys more = more >>= λ others. Ok (keys ++ others)

abbrev keys_then : Option (Key × List (List ℕ)) → model.Read (List Key)
keys_then None = Err Form
keys_then (Some p) = with_more (p.0 ∷ []) (family_keys p.1)

default_more : (w : List ℕ) (ws : List (List ℕ)) → is_word w ≡ true → default_keys (w ∷ ws) ≡ with_more (key_at 0 w ∷ []) (default_keys ws)
default_more w ws word = rw word (by_words (list_all is_word ws))
  where
    by_words : (b : Bool) → ◌≡◌ {A = model.Read (List Key)} (cond b (Ok (key_at 0 w ∷ map (key_at 0) ws)) (Err Form)) (with_more (key_at 0 w ∷ []) (cond b (Ok (map (key_at 0) ws)) (Err Form)))
    by_words true = refl
    by_words false = refl

no_default : (w : List ℕ) (ws : List (List ℕ)) → is_word w ≡ false → default_keys (w ∷ ws) ≡ Err Form
no_default w ws word = rw word refl

family_more : (w : List ℕ) (ws : List (List ℕ)) → family_keys (w ∷ ws) ≡ keys_then (key_first (w ∷ ws))
family_more f [] = alone (is_word f)
  where
    alone : (b : Bool) → ◌≡◌ {A = model.Read (List Key)} (cond (b && true) (Err Form) (Err Form)) (Err Form)
    alone true = refl
    alone false = refl
family_more f (w ∷ ws) = by_words (is_word f) (is_word w) (family_number f)
  where
    no_family : (b : Bool) → ◌≡◌ {A = model.Read (List Key)} (cond b (Err Form) (Err Form)) (Err Form)
    no_family true = refl
    no_family false = refl

    one_more : (family : ℕ) (b : Bool) (keys : Option (List Key))
        → ◌≡◌ {A = model.Read (List Key)} (cond b (model.or_form (option_map (λ ks. key_at family w ∷ ks) keys)) (Err Form)) (with_more (key_at family w ∷ []) (cond b (model.or_form keys) (Err Form)))
    one_more family true (Some keys) = refl
    one_more family true None = refl
    one_more family false keys = refl

    by_words : (a b : Bool) (family : Option ℕ)
        → cond (a && (b && list_all is_word ws)) (model.or_form (model.with_keys family w (model.keys_in_families ws))) (Err Form) ≡ keys_then (cond (a && b) (option_map (λ number. (key_at number w, ws)) family) None)
    by_words false b family = refl
    by_words true false family = refl
    by_words true true None = no_family (list_all is_word ws)
    by_words true true (Some family) = one_more family (list_all is_word ws) (model.keys_in_families ws)

append_more : (keys ones : List Key) (r : model.Read (List Key)) → with_more keys (with_more ones r) ≡ with_more (keys ++ ones) r
append_more keys ones (Ok others) = ap (λ (l : List Key). Ok l) (sym (append_assoc keys ones others))
append_more keys ones (Err kind) = refl

-- one word more, which is a key of the default family
pub default_read : (whole : model.Read (List Key)) (keys now : List Key) (word : List ℕ) (behind parts : List (List ℕ)) → whole ≡ with_more keys (default_keys parts) → parts ≡ word ∷ behind → is_word word ≡ true
    → now ≡ keys ++ key_at 0 word ∷ [] → whole ≡ with_more now (default_keys behind)
default_read whole keys now word behind parts is split is_one is_now =
    is ∙ ap (λ (ws : List (List ℕ)). with_more keys (default_keys ws)) split ∙ ap (with_more keys) (default_more word behind is_one) ∙ append_more keys (key_at 0 word ∷ []) (default_keys behind)
    ∙ ap (λ (ks : List Key). with_more ks (default_keys behind)) (sym is_now)

pub no_default_read : (whole : model.Read (List Key)) (keys : List Key) (word : List ℕ) (behind parts : List (List ℕ)) → whole ≡ with_more keys (default_keys parts) → parts ≡ word ∷ behind → is_word word ≡ false → whole ≡ Err Form
no_default_read whole keys word behind parts is split is_none = is ∙ ap (λ (ws : List (List ℕ)). with_more keys (default_keys ws)) split ∙ ap (with_more keys) (no_default word behind is_none)

-- one key more after its family's number
pub family_read : (whole : model.Read (List Key)) (keys now : List Key) (text : List ℕ) (k : Key) (behind : List (List ℕ)) → whole ≡ with_more keys (family_keys (parts_of 32 (Some text))) → Some (k, behind) ≡ key_first (parts_of 32 (Some text))
    → now ≡ keys ++ k ∷ [] → whole ≡ with_more now (family_keys behind)
family_read whole keys now text k behind is first is_now =
    let parts = slice_split-cons (λ b. b == 32) text in
    let more : family_keys (parts_of 32 (Some text)) ≡ keys_then (key_first (parts_of 32 (Some text))) = rw parts.2 (family_more parts.0 parts.1) in
    is ∙ ap (with_more keys) (more ∙ ap keys_then (sym first)) ∙ append_more keys (k ∷ []) (family_keys behind) ∙ ap (λ (ks : List Key). with_more ks (family_keys behind)) (sym is_now)

pub no_family_read : (whole : model.Read (List Key)) (keys : List Key) (text : List ℕ) → whole ≡ with_more keys (family_keys (parts_of 32 (Some text))) → ◌≡◌ {A = Option (Key × List (List ℕ))} None (key_first (parts_of 32 (Some text))) → whole ≡ Err Form
no_family_read whole keys text is first =
    let parts = slice_split-cons (λ b. b == 32) text in
    let more : family_keys (parts_of 32 (Some text)) ≡ keys_then (key_first (parts_of 32 (Some text))) = rw parts.2 (family_more parts.0 parts.1) in
    is ∙ ap (with_more keys) (more ∙ ap keys_then (sym first))

-- no word is left
pub all_read : (whole : model.Read (List Key)) (keys : List Key) → whole ≡ Ok (keys ++ []) → whole ≡ Ok keys
all_read whole keys is = is ∙ ap (λ (l : List Key). Ok l) (append-nil keys)

-- What the line says, where the keys are read

abbrev pub said_of : (List Key → model.Line) → model.Read (List Key) → model.Read model.Line
said_of line keys = keys >>= λ ks. Ok (line ks)

pub default_keys_said : (line : List Key → model.Line) (text : List ℕ) → behind_word (model.some_words (λ ws. line (map (key_at 0) ws))) (parts_of 32 (Some text)) ≡ said_of line (default_keys (parts_of 32 (Some text)))
default_keys_said line text =
    let parts = slice_split-cons (λ b. b == 32) text in
    rw parts.2 (by_words (list_all is_word (parts.0 ∷ parts.1)) (parts.0 ∷ parts.1))
  where
    by_words : (b : Bool) (ws : List (List ℕ)) → ◌≡◌ {A = model.Read model.Line} (cond b (Ok (line (map (key_at 0) ws))) (Err Form)) (said_of line (cond b (Ok (map (key_at 0) ws)) (Err Form)))
    by_words true ws = refl
    by_words false ws = refl

pub family_keys_said : (line : List Key → model.Line) (text : List ℕ) → behind_word (model.some_keys line) (parts_of 32 (Some text)) ≡ said_of line (family_keys (parts_of 32 (Some text)))
family_keys_said line text =
    let parts = slice_split-cons (λ b. b == 32) text in
    rw parts.2 (by_words (list_all is_word (parts.0 ∷ parts.1)) (model.keys_in_families (parts.0 ∷ parts.1)))
  where
    by_words : (b : Bool) (keys : Option (List Key)) → ◌≡◌ {A = model.Read model.Line} (cond b (model.or_form (option_map line keys)) (Err Form)) (said_of line (cond b (model.or_form keys) (Err Form)))
    by_words true (Some keys) = refl
    by_words true None = refl
    by_words false keys = refl

-- the same where something is left of the line
pub default_said : (line : List Key → model.Line) (rest : Option (Bor (List ℕ))) (keys : List Key) → is_some rest ≡ true → default_keys (parts_of 32 (option_copied rest)) ≡ Ok keys
    → behind_word (model.some_words (λ ws. line (map (key_at 0) ws))) (parts_of 32 (option_copied rest)) ≡ Ok (line keys)
default_said line None keys some is = absurd (cc some)
default_said line (Some text) keys some is = default_keys_said line text.now ∙ ap (said_of line) is

pub family_said : (line : List Key → model.Line) (rest : Option (Bor (List ℕ))) (keys : List Key) → is_some rest ≡ true → family_keys (parts_of 32 (option_copied rest)) ≡ Ok keys
    → behind_word (model.some_keys line) (parts_of 32 (option_copied rest)) ≡ Ok (line keys)
family_said line None keys some is = absurd (cc some)
family_said line (Some text) keys some is = family_keys_said line text.now ∙ ap (said_of line) is

-- each key is short, and so is one more
pub all_short : (keys : List Key) (k : Key) → AllByRecursion (λ (key : Key). IsShort key.bytes) keys → IsShort k.bytes → AllByRecursion (λ (key : Key). IsShort key.bytes) (keys ++ k ∷ [])
all_short [] k short one = (one, tt)
all_short (first ∷ keys) k short one = (short.0, all_short keys k short.1 one)
