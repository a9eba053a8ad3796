-- The operations of bytes, one after another: those so far, and what is appended of them.
use Rattle.std.proofs.Common.{◌≡◌, ℕ, ◌+◌, ◌<◌, ◌≤◌, Bool, true, false, not, ◌||◌, cond, List, [], ◌∷◌, ◌++◌, length, Option, Some, None, refl, sym, ◌∙◌, ap, append_assoc, append-nil, length-append, flat_map, filter, arith}
use Rattle.std.specs.List.{AllByRecursion, list_any}
use Rattle.std.specs.Int.{from_bool}
use Rattle.std.proofs.lemmas.List.Elements.{filter-append}
use Rattle.std.proofs.lemmas.List.Folds.{list_any-append}
use Rattle.std.proofs.lemmas.List.Sums.{sum_by-append}
use Rattle.model_base.specs.declared.batch.BatchError.{BatchError}
use Rattle.batch_operations.specs.Operations.{Operation, body, count_of, is_counted, IsOperation, NoOperation, operation_bytes}
use Rattle.list_text.specs.Lines.{operation_text, operations_text}
use Rattle.list_text.specs.declared.form.Form.{Form}
use Rattle.list_log.specs.Texts.{TellsBody, count_fault, wanted_text}
use Rattle.list_log.specs.Wanted.{is_wanted, key_in}
use Rattle.list_log.specs.declared.settings.Settings.{Settings}

-- The bytes are operations, and then the rest. Of the operations `found` count, those that are shown are appended, and
-- `any` says whether there are some.
pub record Told (settings : Settings) (bytes rest old text : List ℕ) (found : ℕ) (any : Bool) : Type 0 where
  pub operations : List Operation
  pub are : AllByRecursion IsOperation operations
  pub spelled : bytes ≡ body operations ++ rest
  pub counted : found ≡ count_of operations
  pub text_is : text ≡ old ++ operations_text settings.form (filter (is_wanted (key_in settings)) operations)
  pub any_is : any ≡ list_any (is_wanted (key_in settings)) operations

-- none so far
pub told_none : (settings : Settings) (bytes old : List ℕ) → Told settings bytes bytes old old 0 false
told_none settings bytes old = record { operations = []; are = tt; spelled = refl; counted = refl; text_is = sym (append-nil old); any_is = refl }

-- what holds of each of a list and of one more element
pub all_more : {X : Type 0} (P : X → Type 0) (xs : List X) (x : X) → AllByRecursion P xs → P x → AllByRecursion P (xs ++ x ∷ [])
all_more P [] x all one = (one, tt)
all_more P (y ∷ xs) x all one = (all.0, all_more P xs x all.1 one)

-- the bytes of operations and of one more
pub body_more : (operations : List Operation) (o : Operation) (behind : List ℕ) → body operations ++ (operation_bytes o ++ behind) ≡ body (operations ++ o ∷ []) ++ behind
body_more [] o behind = sym (ap (λ (l : List ℕ). l ++ behind) (append-nil (operation_bytes o)))
body_more (p ∷ operations) o behind =
    append_assoc (operation_bytes p) (body operations) (operation_bytes o ++ behind)
    ∙ (ap (λ (l : List ℕ). operation_bytes p ++ l) (body_more operations o behind) ∙ sym (append_assoc (operation_bytes p) (body (operations ++ o ∷ [])) behind))

-- an operation has a byte at least
pub shorter : (o : Operation) (rest behind : List ℕ) → rest ≡ operation_bytes o ++ behind → length behind < length rest
shorter o rest behind split =
    let whole : length rest ≡ length (operation_bytes o) + length behind = ap length split ∙ length-append (operation_bytes o) behind in
    omega (arith, whole)

abbrev pub is_empty : {X : Type 0} → List X → Bool
is_empty [] = true
is_empty (x ∷ xs) = false

-- the text of operations and of one more: it is the first one exactly if there was none
text_more : (form : Form) (operations : List Operation) (o : Operation) → operations_text form (operations ++ o ∷ []) ≡ operations_text form operations ++ operation_text form (is_empty operations) o
text_more form [] o = append-nil (operation_text form true o)
text_more form (p ∷ operations) o = ap (λ (l : List ℕ). operation_text form true p ++ l) (more operations) ∙ sym (append_assoc (operation_text form true p) (flat_map (operation_text form false) operations) (operation_text form false o))
  where
    more : (xs : List Operation) → flat_map (operation_text form false) (xs ++ o ∷ []) ≡ flat_map (operation_text form false) xs ++ operation_text form false o
    more [] = append-nil (operation_text form false o)
    more (x ∷ xs) = ap (λ (l : List ℕ). operation_text form false x ++ l) (more xs) ∙ sym (append_assoc (operation_text form false x) (flat_map (operation_text form false) xs) (operation_text form false o))

text_by : (form : Form) (shown : List Operation) (b : Bool) (o : Operation) → operations_text form (shown ++ cond b (o ∷ []) []) ≡ operations_text form shown ++ cond b (operation_text form (is_empty shown) o) []
text_by form shown true o = text_more form shown o
text_by form shown false o = ap (operations_text form) (append-nil shown) ∙ sym (append-nil (operations_text form shown))

-- none passes exactly if those that pass are none
pub none_passes : {X : Type 0} (passes : X → Bool) (xs : List X) → is_empty (filter passes xs) ≡ not (list_any passes xs)
none_passes passes [] = refl
none_passes passes (x ∷ xs) = go (passes x) (none_passes passes xs)
  where
    go : (b : Bool) → is_empty (filter passes xs) ≡ not (list_any passes xs) → is_empty (cond b (x ∷ filter passes xs) (filter passes xs)) ≡ not (b || list_any passes xs)
    go true rest = refl
    go false rest = rest

pub or_none : (a b : Bool) → (a || (b || false)) ≡ (a || b)
or_none true b = refl
or_none false true = refl
or_none false false = refl

-- one more operation
pub told_more : (settings : Settings) (bytes rest behind old text now : List ℕ) (found plus : ℕ) (any some : Bool) (o : Operation) → Told settings bytes rest old text found any
    → rest ≡ operation_bytes o ++ behind → IsOperation o → plus ≡ cond (is_counted o) 1 0 → some ≡ (any || is_wanted (key_in settings) o) → now ≡ text ++ wanted_text settings any o
    → Told settings bytes behind old now (found + plus) some
told_more settings bytes rest behind old text now found plus any some o told split is plus_is some_is now_is =
    let wanted = is_wanted (key_in settings) in
    let form = settings.form in
    let ops = told.operations in
    let before = filter wanted ops in
    let first : is_empty before ≡ not any = none_passes wanted ops ∙ ap not (sym told.any_is) in
    let appended : operations_text form (filter wanted (ops ++ o ∷ [])) ≡ operations_text form before ++ wanted_text settings any o =
    ap (operations_text form) (filter-append wanted ops (o ∷ []))
    ∙ (text_by form before (wanted o) o ∙ ap (λ (b : Bool). operations_text form before ++ cond (wanted o) (operation_text form b o) []) first) in
    record {
      operations = ops ++ o ∷ [];
      are = all_more IsOperation ops o told.are is;
      spelled = told.spelled ∙ (ap (λ (l : List ℕ). body ops ++ l) split ∙ body_more ops o behind);
      counted = let sum = sum_by-append (λ (p : Operation). cond (is_counted p) 1 0) ops (o ∷ []) in omega (arith, sum, told.counted, plus_is);
      text_is = now_is ∙ (ap (λ (t : List ℕ). t ++ wanted_text settings any o) told.text_is ∙ (append_assoc old (operations_text form before) (wanted_text settings any o) ∙ ap (λ (t : List ℕ). old ++ t) (sym appended)));
      any_is = some_is ∙ (ap (λ (b : Bool). b || wanted o) told.any_is ∙ (sym (or_none (list_any wanted ops) (wanted o)) ∙ sym (list_any-append wanted ops (o ∷ []))));
    }

-- a counted operation adds one
pub plus_one : (b : Bool) (plus : ℕ) → plus ≡ from_bool b → plus ≡ cond b 1 0
plus_one true plus is = is
plus_one false plus is = is

pub at_most_one : (b : Bool) (plus : ℕ) → plus ≡ cond b 1 0 → plus ≤ 1
at_most_one true plus is = omega (arith, is)
at_most_one false plus is = omega (arith, is)

-- something that is no operation comes
pub tells_some : (settings : Settings) (said : ℕ) (bytes rest old text : List ℕ) (found : ℕ) (any : Bool) (e : BatchError) → Told settings bytes rest old text found any → NoOperation rest e
    → TellsBody settings said bytes old text any (Some e)
tells_some settings said bytes rest old text found any e told wrong =
    record { operations = told.operations; broken = Some e; have = record { rest = rest; are = told.are; spelled = told.spelled; ends = wrong }; text = told.text_is; any_is = told.any_is; fault_is = refl }

-- the bytes end there
pub tells_all : (settings : Settings) (said : ℕ) (bytes rest old text : List ℕ) (found : ℕ) (any : Bool) (fault : Option BatchError) → Told settings bytes rest old text found any → length rest ≡ 0
    → fault ≡ count_fault said found → TellsBody settings said bytes old text any fault
tells_all settings said bytes [] old text found any fault told empty is =
    record { operations = told.operations; broken = None; have = record { rest = []; are = told.are; spelled = told.spelled; ends = refl }; text = told.text_is; any_is = told.any_is; fault_is = is ∙ ap (count_fault said) told.counted }
tells_all settings said bytes (b ∷ rest) old text found any fault told empty is = absurd (omega (arith, empty))
