-- From what the clients and the closing say to a legal outcome.
use Rattle.std.proofs.Common.{◌≡◌, ℕ, zero, suc, ◌+◌, ◌≤◌, Option, Some, List, [], ◌∷◌, length, map, slice_get, refl, ap, sym, ◌∙◌, subst, inl, inr, Vec, Global}
use Rattle.std.specs.List.{AllByRecursion, AllZip}
use Rattle.std.specs.Option.{option_map}
use Rattle.std.proofs.lemmas.Option.{slice_get-map, slice_get_cases}
use Rattle.std.proofs.lemmas.Slice.Zip.{AllZip-long}
use Rattle.model_base.specs.History as history
use Rattle.model_base.specs.Recovery.{Logged}
use Rattle.model_base.specs.Settings.{with_kept}
use Rattle.model_base.specs.Trace.{Trace, Settings}
use Rattle.model_base.specs.Groups.{Group}
use Rattle.model_base.specs.Calls as calls
use Rattle.model_base.specs.LogContents.{GroupCall}
use Rattle.model_base.specs.Map.{Pairs}
use Rattle.model_base.specs.Outcomes.{IsLegalIn, outcome_of, entries_of_client}
use Rattle.log_batch.specs.Contents.{Contents}
use Rattle.run_batches.specs.declared.accepted.AcceptedBatch.{AcceptedBatch}
use Rattle.run_outcome.specs.declared.reply.Reply.{Reply}
use Rattle.run_outcome.specs.declared.history_entry.HistoryEntry.{HistoryEntry}
use Rattle.model_accounts.specs.Accounts.{Account}
use Rattle.model_accounts.specs.Closing.{AreOurs, IsClosing, all_attempts}
use Rattle.model_accounts.specs.ClientRuns as clients
use Rattle.model_runs.specs.Written.{WritesLog}
use Rattle.run_threads.specs.declared.batches.ClientBatches.{ClientBatches}
use Rattle.run_threads.specs.Answers.{accepted_in, ShowsEntries, ShowsAccepted}
use Rattle.run_threads.specs.Jobs.{HaveReplied, HaveEntries}
use Rattle.run_threads.specs.declared.run.ClientsEnd.TheVariants.{Told}
use Rattle.run_threads.specs.Histories.{MakeUp}
use Rattle.run_threads.specs.Runs.{HaveRun, ComesTo}

-- what is at this place of another list, and is related to the element
record Beside {A B : Type 0} (R : A → B → Type 0) (x : A) (ys : List B) (i : ℕ) : Type 0 where
  pub other : B
  pub at : slice_get ys i ≡ Some other
  pub related : R x other

beside : {A B : Type 0} (R : A → B → Type 0) (xs : List A) (ys : List B) (i : ℕ) (x : A) → AllZip R xs ys → slice_get xs i ≡ Some x → Beside R x ys i
beside R [] [] i x all at = absurd (cc at)
beside R [] (v ∷ ys) i x all at = absurd all
beside R (u ∷ xs) [] i x all at = absurd all
beside R (u ∷ xs) (v ∷ ys) zero x all at = let same : u ≡ x = cc at in record { other = v; at = refl; related = subst (λ w. R w v) same all.0 }
beside R (u ∷ xs) (v ∷ ys) (suc i) x all at = let rest = beside R xs ys i x all.1 at in record { other = rest.other; at = rest.at; related = rest.related }

-- where `R` relates what `f` gives for each element of a list to another list, it relates the mapped list to it
zip_mapped : {A B C : Type 0} (f : A → B) (R : B → C → Type 0) (xs : List A) (ys : List C) → AllZip (λ x y. R (f x) y) xs ys → AllZip R (map f xs) ys
zip_mapped f R [] [] all = tt
zip_mapped f R [] (y ∷ ys) all = absurd all
zip_mapped f R (x ∷ xs) [] all = absurd all
zip_mapped f R (x ∷ xs) (y ∷ ys) all = (all.0, zip_mapped f R xs ys all.1)

-- each account has batches
pub as_many : (batches : List ClientBatches) (accounts : List Account) → HaveEntries batches accounts → length batches ≡ length accounts
as_many batches accounts have = sym (AllZip-long (λ (b : ClientBatches) (a : Account). ShowsAccepted a.number (accepted_in b) a.mine) batches accounts have)

-- the numbers of the clients' accounts
pub number_at : {C : Type 0} (belongs : C → Type 0) (account : C → Account) (n : ℕ) (clients : List C) → AreOurs belongs account n clients
    → (i : ℕ) (a : Account) → slice_get (map account clients) i ≡ Some a → a.number ≡ i + 1
number_at belongs account n clients ours i a at =
    let e = slice_get-map account clients i in
    elim (slice_get_cases clients i).1 [
      | inl w ↦ (let is : account w.0 ≡ a = cc (sym e ∙ at, ap (option_map account) w.2) in ap (λ (b : Account). b.number) (sym is) ∙ (ours.each i w.0 w.2).1)
      | inr w ↦ absurd (cc (sym e ∙ at, ap (option_map account) w.1))
    ]

module _ {L : Type 0} (settings : Settings) (kept : Option (List Logged)) (wrote : List GroupCall → L → Type 0) (fault : L → Option ℕ) (faults : L → ℕ) (log : L) (trace : Trace) (groups : List Group) (accounts : List Account) (last : ℕ)
    (closing : IsClosing (with_kept kept settings) (faults log) trace groups accounts last (fault log)) where
  -- the clients' batches make up the trace's history
  pub makes_up : (batches : List ClientBatches) → HaveEntries batches accounts → length accounts ≡ settings.clients
      → ((i : ℕ) (a : Account) → slice_get accounts i ≡ Some a → a.number ≡ i + 1) → MakeUp trace.start (map accepted_in batches) trace.entries
  makes_up batches have count number =
      let Shows = λ (kept : List (AcceptedBatch Contents)) (a : Account). ShowsAccepted a.number kept a.mine in
      let accepted = map accepted_in batches in
      let shown : AllZip Shows accepted accounts = zip_mapped accepted_in Shows batches accounts have in
      record {
        is_history = closing.is_trace.entries;
        clients = subst (λ (n : ℕ). AllByRecursion (λ (e : history.Entry). (1 ≤ e.client) × (e.client ≤ n)) trace.entries)
            (sym count ∙ AllZip-long Shows accepted accounts shown) closing.is_trace.clients;
        each = λ i kept at.
            let b = beside Shows accepted accounts i kept shown at in
            let part = closing.each i b.other b.at in
            let is = number i b.other b.at in
            let own : b.other.mine ≡ entries_of_client (i + 1) trace.entries = sym part.accepted ∙ ap (λ n. entries_of_client n trace.entries) is in
            subst (ShowsAccepted (i + 1) kept) own (subst (λ (n : ℕ). ShowsAccepted n kept b.other.mine) is b.related);
      }

  -- the clients' replies show a legal outcome of the trace, whether its values are at hand or not
  module _ (script : List (List calls.Command)) (replies : Vec (Vec Reply Global) Global) (told : HaveReplied settings script replies.items accounts)
      (legal : (transcripts : List (List calls.Call)) (log_lens : List ℕ) → clients.HaveRun settings script transcripts accounts
      → (is : IsLegalIn (with_kept kept settings) (faults log) script trace (all_attempts accounts) (outcome_of trace transcripts last log_lens (fault log))) × (is.groups ≡ groups))
      (writes : WritesLog settings.group_bytes (λ calls. wrote calls log) trace (all_attempts accounts) groups (fault log)) where
    pub have_run : HaveRun (with_kept kept settings) script wrote fault faults log last
    have_run = record {
      trace = trace;
      attempts = all_attempts accounts;
      groups = groups;
      transcripts = told.transcripts;
      writes = writes;
      legal = λ log_lens. (legal told.transcripts log_lens told.run).0;
      of_groups = λ log_lens. (legal told.transcripts log_lens told.run).1;
    }

    pub have_told : (shown : List (HistoryEntry Contents)) (state : Pairs) → ShowsEntries shown trace.entries → state ≡ history.map_over trace.opening trace.entries
        → ComesTo (with_kept kept settings) script wrote fault faults (Told log last replies shown state)
    unfolding have_run
    have_told shown state shows is = (
      have_run,
      λ full_lens log_len. record {
        transcripts = told.show;
        history = shows;
        last = refl;
        state = sym is;
        log_lens = refl;
        fault = refl;
      },
    )
