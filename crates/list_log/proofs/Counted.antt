-- The operations of bytes, one after another: those so far are counted.
use Rattle.std.proofs.Common.{◌≡◌, ℕ, ◌+◌, ◌<◌, ◌≤◌, Bool, true, false, not, ◌&&◌, ◌||◌, cond, List, [], ◌∷◌, ◌++◌, length, drop, Option, Some, None, is_some, refl, sym, ◌∙◌, ap, append-nil, filter, arith}
use Rattle.std.specs.List.{AllByRecursion, list_any}
use Rattle.std.specs.Option.{option_or}
use Rattle.std.proofs.lemmas.List.Elements.{filter-append}
use Rattle.std.proofs.lemmas.List.Folds.{list_any-append}
use Rattle.std.proofs.lemmas.List.Sums.{fold-append}
use Rattle.model_base.specs.declared.batch.BatchError.{BatchError}
use Rattle.batch_operations.specs.Operations.{Operation, body, IsOperation, NoOperation, operation_bytes}
use Rattle.batch_operations.specs.Shown.{ShownRecord, Shows, short, shown_short, sequence_in, count_in}
use Rattle.batch_operations.specs.declared.head.Head.{Head}
use Rattle.list_log.specs.Texts.{shown_of}
use Rattle.list_log.specs.Totals.{CountsBody, CountsBatch, all_counted, at_most, counted, with_head, with_record, with_wanted}
use Rattle.list_log.specs.Wanted.{is_in_range, is_wanted, key_in}
use Rattle.list_log.specs.declared.settings.Settings.{Settings}
use Rattle.list_log.specs.declared.tallies.Tally.{Tally}
use Rattle.list_log.specs.declared.totals.Totals.{Totals}
use Rattle.list_log.proofs.Bodies.{all_more, body_more, is_empty, none_passes, or_none}
use Rattle.list_log.proofs.Records.{Keys, Somewhat, asks, asks_all, asks_none, not_first, not_second, pick, shows_whole}

pub record Counted (settings : Settings) (bytes rest : List ℕ) (old new : Totals) (any : Bool) : Type 0 where
  pub operations : List Operation
  pub are : AllByRecursion IsOperation operations
  pub spelled : bytes ≡ body operations ++ rest
  pub new_is : new ≡ record old { tallies = all_counted (filter (is_wanted (key_in settings)) operations) old.tallies }
  pub any_is : any ≡ list_any (is_wanted (key_in settings)) operations

-- none so far
pub counted_none : (settings : Settings) (bytes : List ℕ) (old : Totals) → Counted settings bytes bytes old old false
counted_none settings bytes old = record { operations = []; are = tt; spelled = refl; new_is = refl; any_is = refl }

counts_by : (ops : List Operation) (b : Bool) (o : Operation) (ts : List Tally) → all_counted (ops ++ cond b (o ∷ []) []) ts ≡ cond b (counted o.tag o.family (all_counted ops ts)) (all_counted ops ts)
counts_by ops true o ts = fold-append (λ (l : List Tally) (p : Operation). counted p.tag p.family l) ts ops (o ∷ [])
counts_by ops false o ts = ap (λ (l : List Operation). all_counted l ts) (append-nil ops)

-- one more operation
pub counted_more : (settings : Settings) (bytes rest behind : List ℕ) (old new now : Totals) (any some : Bool) (o : Operation) → Counted settings bytes rest old new any → rest ≡ operation_bytes o ++ behind → IsOperation o
    → some ≡ (any || is_wanted (key_in settings) o) → now ≡ record new { tallies = with_wanted settings o new.tallies } → Counted settings bytes behind old now some
counted_more settings bytes rest behind old new now any some o so_far split is some_is now_is =
    let wanted = is_wanted (key_in settings) in
    let ops = so_far.operations in
    let all : all_counted (filter wanted (ops ++ o ∷ [])) old.tallies ≡ with_wanted settings o (all_counted (filter wanted ops) old.tallies) =
    ap (λ (l : List Operation). all_counted l old.tallies) (filter-append wanted ops (o ∷ [])) ∙ counts_by (filter wanted ops) (wanted o) o old.tallies in
    record {
      operations = ops ++ o ∷ [];
      are = all_more IsOperation ops o so_far.are is;
      spelled = so_far.spelled ∙ (ap (λ (l : List ℕ). body ops ++ l) split ∙ body_more ops o behind);
      new_is = now_is ∙ (ap (λ (t : Totals). record t { tallies = with_wanted settings o t.tallies }) so_far.new_is ∙ ap (λ (l : List Tally). record old { tallies = l }) (sym all));
      any_is = some_is ∙ (ap (λ (b : Bool). b || wanted o) so_far.any_is ∙ (sym (or_none (list_any wanted ops) (wanted o)) ∙ sym (list_any-append wanted ops (o ∷ []))));
    }

-- something that is no operation comes
pub counts_some : (settings : Settings) (bytes rest : List ℕ) (old new : Totals) (any : Bool) (e : BatchError) → Counted settings bytes rest old new any → NoOperation rest e → CountsBody settings bytes old new any
counts_some settings bytes rest old new any e so_far wrong =
    record { operations = so_far.operations; broken = Some e; have = record { rest = rest; are = so_far.are; spelled = so_far.spelled; ends = wrong }; new_is = so_far.new_is; any_is = so_far.any_is }

-- the bytes end there
pub counts_all : (settings : Settings) (bytes rest : List ℕ) (old new : Totals) (any : Bool) → Counted settings bytes rest old new any → length rest ≡ 0 → CountsBody settings bytes old new any
counts_all settings bytes [] old new any so_far empty =
    record { operations = so_far.operations; broken = None; have = record { rest = []; are = so_far.are; spelled = so_far.spelled; ends = refl }; new_is = so_far.new_is; any_is = so_far.any_is }
counts_all settings bytes (b ∷ rest) old new any so_far empty = absurd (omega (arith, empty))

-- ---- a record with a head

-- one that would be shown
pub batch_counted : (settings : Settings) (head : Head) (bytes : List ℕ) (old mid new : Totals) (any : Bool) → is_in_range settings.from settings.to (Some head) ≡ true → CountsBody settings bytes old mid any
    → (is_some settings.key && not any) ≡ false → new ≡ with_head (Some head) mid → CountsBatch settings head bytes old new
batch_counted settings head bytes old mid new any in_range counts kept new_is = record {
  operations = counts.operations;
  broken = counts.broken;
  have = counts.have;
  new_is = new_is ∙ (ap (with_head (Some head)) counts.new_is ∙ sym (pick _ _ _ old in_range (asks_all settings.key counts.operations any counts.any_is kept)));
}

not_any : (some any : Bool) → (some && not any) ≡ true → any ≡ false
not_any true true e = absurd (cc e)
not_any true false e = refl
not_any false any e = absurd (cc e)

none : {X : Type 0} (xs : List X) → is_empty xs ≡ true → xs ≡ []
none [] e = refl
none (x ∷ xs) e = absurd (cc e)

-- one that has no operation about the key
pub batch_left_out : (settings : Settings) (head : Head) (bytes : List ℕ) (old new : Totals) (any : Bool) → CountsBody settings bytes old new any → (is_some settings.key && not any) ≡ true
    → CountsBatch settings head bytes old new
batch_left_out settings head bytes old new any counts out =
    let wanted = is_wanted (key_in settings) in
    let no_any : list_any wanted counts.operations ≡ false = sym counts.any_is ∙ not_any (is_some settings.key) any out in
    let no_operation : filter wanted counts.operations ≡ [] = none (filter wanted counts.operations) (none_passes wanted counts.operations ∙ ap not no_any) in
    let same : new ≡ old = counts.new_is ∙ ap (λ (l : List Operation). record old { tallies = all_counted l old.tallies }) no_operation in
    record {
      operations = counts.operations;
      broken = counts.broken;
      have = counts.have;
      new_is = same ∙ sym (not_second (is_in_range settings.from settings.to (Some head)) _ _ old (asks_none settings.key counts.operations any counts.any_is out));
    }

-- one that isn't in the range
pub batch_out_of_range : (settings : Settings) (head : Head) (bytes : List ℕ) (old : Totals) → Somewhat bytes → is_in_range settings.from settings.to (Some head) ≡ false → CountsBatch settings head bytes old old
batch_out_of_range settings head bytes old have out =
    record { operations = have.0; broken = have.1; have = have.2; new_is = sym (not_first (is_in_range settings.from settings.to (Some head)) _ _ old out) }

abbrev Counts : Settings → List ℕ → Totals → Totals → Type 0
Counts settings bytes old new = (shown : ShownRecord) × Shows bytes shown × (new ≡ with_record settings shown old)

pub counts_head : (settings : Settings) (bytes rest : List ℕ) (old new : Totals) (head : Head) → head.sequence ≡ sequence_in bytes → head.count ≡ count_in bytes → rest ≡ drop 12 bytes → 12 ≤ length bytes
    → CountsBatch settings head rest old new → Counts settings bytes old new
counts_head settings bytes rest old new head sequence count rest_is long counts =
    (shown_of head counts.operations counts.broken, shows_whole bytes rest head counts.operations counts.broken sequence count rest_is long counts.have, counts.new_is)

-- ---- one without

pub counts_short : (settings : Settings) (bytes : List ℕ) (old new : Totals) → length bytes < 12 → new ≡ with_record settings shown_short old → Counts settings bytes old new
counts_short settings bytes old new few new_is = (shown_short, short few, new_is)

or_nothing : {T : Type 0} (o : Option T) → o ≡ option_or o None
or_nothing None = refl
or_nothing (Some x) = refl

asked : (key : Keys) → is_some key ≡ true → asks key [] ≡ false
asked None e = absurd (cc e)
asked (Some k) e = refl

unasked : (key : Keys) → is_some key ≡ false → asks key [] ≡ true
unasked None e = refl
unasked (Some k) e = absurd (cc e)

pub short_left_out : (settings : Settings) (old : Totals) → is_some settings.key ≡ true → old ≡ with_record settings shown_short old
short_left_out settings old some = sym (not_second true _ _ old (asked settings.key some))

pub short_counted : (settings : Settings) (old : Totals) → is_some settings.key ≡ false → record old { records = at_most (old.records + 1) } ≡ with_record settings shown_short old
short_counted settings old none =
    ap (λ (first : Option ℕ). record old { records = at_most (old.records + 1); first = first }) (or_nothing old.first) ∙ sym (pick true _ _ old refl (unasked settings.key none))
