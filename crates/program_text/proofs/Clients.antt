-- The sections of clients, from the first on, and the lines of batches.
use Rattle.std.proofs.Common.{◌≡◌, ℕ, ◌+◌, ◌<◌, ◌≤◌, List, [], ◌∷◌, ◌++◌, length, take, get_or, Some, slice_get, Vec, sym, ◌∙◌, ap, arith}
use Rattle.std.specs.List.{enumerate_from}
use Rattle.std.specs.declared.alloc.Global.{Global}
use Rattle.std.proofs.lemmas.List.{take_more}
use Rattle.std.proofs.lemmas.Option.{slice_get_within, get_or_from_slice_get}
use Rattle.std.proofs.lemmas.List.FromFn.{length-enumerate_from, get_or-enumerate_from}
use Rattle.model_base.specs.Batch.{batch}
use Rattle.log_batch.specs.Contents.{Contents}
use Rattle.run_outcome.specs.declared.history_entry.HistoryEntry.{HistoryEntry}
use Rattle.run_outcome.specs.declared.reply.Reply.{Reply}
use Rattle.program_text.specs.ShownText.{line_of, entry_line}

-- the first `i + 1` items are the first `i` and the item at the place `i`
pub item_more : {A : Type 0} (xs : List A) (i : ℕ) (x : A) → i < length xs → x ≡ get_or xs i x → take (i + 1) xs ≡ take i xs ++ x ∷ []
item_more xs i x here is = take_more xs i x here ∙ ap (λ y. take i xs ++ y ∷ []) (sym is)

pub place_more : {A : Type 0} (xs : List A) (i : ℕ) (x : A) → slice_get xs i ≡ Some x → take (i + 1) xs ≡ take i xs ++ x ∷ []
place_more xs i x is = take_more xs i x (slice_get_within xs i x is) ∙ ap (λ y. take i xs ++ y ∷ []) (get_or_from_slice_get xs i x x is)

-- one client more
pub client_more : (xs : List (Vec Reply Global)) (i : ℕ) (x : Vec Reply Global) → i < length xs → x ≡ get_or xs i x → take (i + 1) (enumerate_from 1 xs) ≡ take i (enumerate_from 1 xs) ++ (i + 1, x) ∷ []
client_more xs i x lt is =
    let numbered = enumerate_from 1 xs in
    let here : get_or numbered i (0, x) ≡ (i + 1, x) = get_or-enumerate_from 1 xs i (0, x) lt ∙ ap (λ n. (n, get_or xs i x)) (omega arith) ∙ ap (λ v. (i + 1, v)) (sym is) in
    take_more numbered i (0, x) (omega (arith, length-enumerate_from 1 xs)) ∙ ap (λ p. take i numbered ++ p ∷ []) here

-- and all of them
pub clients_end : (xs : List (Vec Reply Global)) (i : ℕ) → length xs ≤ i → length (enumerate_from 1 xs) ≤ i
clients_end xs i le = omega (arith, length-enumerate_from 1 xs)

-- a batch's line, with the batch's own bytes
pub entry_same : (x : HistoryEntry Contents) (bytes : List ℕ) → bytes ≡ batch x.batch.sequence x.batch.records → line_of x bytes ≡ entry_line x
entry_same x bytes is = ap (λ b. line_of x b) is
