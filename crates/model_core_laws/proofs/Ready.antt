-- A client between two of its calls, and its calls one by one.
use Rattle.std.proofs.Common.{◌||◌, ◌&&◌, ◌==◌, nat_lt, if◌then◌else◌, ◌≡◌, ℕ, ◌≤◌, false, ◌⊎◌, inl, inr, List, [], ◌∷◌, ◌++◌, fold, Option, Some, None, MatchOption, refl, ap, sym, ◌∙◌, subst, append_assoc, true, Bool}
use Rattle.std.specs.Option.{option_map_or}
use Rattle.std.proofs.lemmas.Bool.{or_cases}
use Rattle.std.proofs.lemmas.List.{map-append}
use Rattle.std.proofs.lemmas.List.Folds.{list_any-append}
use Rattle.model_base.specs.declared.write.Refusal.{Refusal}
use Rattle.model_base.specs.declared.write.Refusal.TheVariants as no
use Rattle.model_base.specs.declared.write.WriteOptions.{WriteOptions}
use Rattle.model_base.specs.Batch.{Record, count_of, size_of_batch}
use Rattle.model_base.specs.Progress.{added_by, batch_after, families_in, first_missing, early_refusal}
use Rattle.model_base.specs.Runs.{commands_of}
use Rattle.model_base.specs.Outcomes.{entries_of_client}
use Rattle.model_base.specs.Calls.{Command, add, clear, commit, get, many, scan, updates, stop, unstop, slow, unslow, Reply, quiet, refused, Call}
use Rattle.model_core.specs.Core.{Options, Client, State, Ahead, ahead}
use Rattle.model_core.specs.Replies.{is_log_fault, knows_log_failed, seen_up_to, seen_with, entries_told, entries_by, MayReply, IsHandled, AreRight}

fold_push : {A B : Type 0} (f : B → A → B) (b : B) (xs : List A) (x : A) → fold f b (xs ++ x ∷ []) ≡ f (fold f b xs) x
fold_push f b [] x = refl
fold_push f b (y ∷ xs) x = fold_push f (f b y) xs x

nothing_before : {A : Type 0} (xs : List A) (x : A) (ys : List A) → [] ≡ xs ++ x ∷ ys → ⊥
nothing_before [] x ys e = cc
nothing_before (y ∷ xs) x ys e = cc

split_push : {A : Type 0} (xs : List A) (x : A) (before : List A) (y : A) (after : List A) → xs ++ x ∷ [] ≡ before ++ y ∷ after → ((before ≡ xs) × (x ≡ y)) ⊎ ((rest : List A) × (xs ≡ before ++ y ∷ rest))
split_push [] x [] y after e = inl (refl, cc)
split_push [] x (b ∷ before) y after e = let f : [] ≡ before ++ y ∷ after = cc in absurd (nothing_before before y after f)
split_push (z ∷ xs) x [] y after e = inr (xs, let f : z ≡ y = cc in ap (λ w. w ∷ xs) f)
split_push {A = A} (z ∷ xs) x (b ∷ before) y after e =
    let f : z ≡ b = cc in let g : xs ++ x ∷ [] ≡ before ++ y ∷ after = cc in
    elim (split_push xs x before y after g) as (λ _. ((b ∷ before ≡ z ∷ xs) × (x ≡ y)) ⊎ ((rest : List A) × (z ∷ xs ≡ b ∷ (before ++ y ∷ rest)))) [
      | inl h ↦ (let i : b ∷ before ≡ z ∷ xs = cc (h.0, f) in inl (i, h.1))
      | inr h ↦ (let i : z ∷ xs ≡ b ∷ (before ++ y ∷ h.0) = cc (h.1, f) in inr (h.0, i))
    ]

pub right_push : (o : Options) (s : State) (calls : List Call) (call : Call) → AreRight o s calls → MayReply o s calls call.command call.reply → AreRight o s (calls ++ call ∷ [])
right_push o s calls call right may before c after e = by (split_push calls call before c after e)
  where
    by : ((before ≡ calls) × (call ≡ c)) ⊎ ((rest : List Call) × (calls ≡ before ++ c ∷ rest)) → MayReply o s before c.command c.reply
    by (inl h) = subst (λ (c : Call). MayReply o s before c.command c.reply) h.1 (subst (λ calls. MayReply o s calls call.command call.reply) (sym h.0) may)
    by (inr h) = right before c h.0 h.1

-- the batch is what was added since the last `ok` or `clear`, the replies are right, none showed more than is
-- published, and all entries of the client are answered
pub record IsReady (o : Options) (s : State) (c : ℕ) (calls : List Call) (added : List Record) : Type 0 where
  pub batch : added ≡ batch_after calls
  pub right : AreRight o s calls
  pub seen_published : seen_up_to calls ≤ s.last
  pub log_failed : knows_log_failed calls ≡ true → s.log_failed ≡ true
  pub entries : entries_of_client c s.entries ≡ entries_told c calls

pub ready_push : (o : Options) (s : State) (c : ℕ) (calls : List Call) (call : Call) (added : List Record) → AreRight o s calls → MayReply o s calls call.command call.reply
    → added ≡ added_by (batch_after calls) call.command call.reply → seen_with (seen_up_to calls) call.reply ≤ s.last → (knows_log_failed calls ≡ true → s.log_failed ≡ true) → (is_log_fault call.reply ≡ true → s.log_failed ≡ true) → entries_of_client c s.entries ≡ entries_by c (entries_told c calls) call.command call.reply
    → IsReady o s c (calls ++ call ∷ []) added
ready_push o s c calls call added right may batch seen_published log_failed fault entries = record {
  batch = batch ∙ sym (fold_push (λ records (c : Call). added_by records c.command c.reply) [] calls call);
  right = right_push o s calls call right may;
  seen_published = subst (λ n. n ≤ s.last) (sym (fold_push (λ seen (c : Call). seen_with seen c.reply) 0 calls call)) seen_published;
  log_failed = λ knows. elim (or_cases (knows_log_failed calls) (is_log_fault call.reply || false) (sym (list_any-append (λ (c : Call). is_log_fault c.reply) calls (call ∷ [])) ∙ knows)) as (λ _. s.log_failed ≡ true) [
    | inl before ↦ log_failed before
    | inr now ↦ elim (or_cases (is_log_fault call.reply) false now) as (λ _. s.log_failed ≡ true) [ inl told ↦ fault told | inr never ↦ absurd (cc) ]
  ];
  entries = entries ∙ sym (fold_push (λ mine (x : Call). entries_by c mine x.command x.reply) [] calls call);
}

-- a line that is done on the way to the next call
pub asked_push : (calls : List Call) (call : Call) (left : List Command) → commands_of calls ++ call.command ∷ left ≡ commands_of (calls ++ call ∷ []) ++ left
asked_push calls call left = sym (ap (λ cs. cs ++ left) (map-append (λ (c : Call). c.command) calls (call ∷ [])) ∙ append_assoc (commands_of calls) (call.command ∷ []) left)

-- a client on its way to its next call
pub record IsAhead (o : Options) (s : State) (c : ℕ) (lines : List Command) (a : Ahead) : Type 0 where
  pub ready : IsReady o s c a.client.calls a.client.added
  pub asked : (command : Command) → a.call ≡ Some command → lines ≡ commands_of a.client.calls ++ command ∷ a.client.left

stops_at : (o : Options) (s : State) (c : ℕ) (lines : List Command) (calls : List Call) (added : List Record) (command : Command) (left : List Command) (client : Client) → IsReady o s c calls added
    → lines ≡ commands_of calls ++ command ∷ left → IsAhead o s c lines (record { call = Some command; client = record client { left = left; added = added; calls = calls } })
stops_at o s c lines calls added command left client ready asked = record { ready = ready; asked = λ next e. (let f : command ≡ next = cc in subst (λ next. lines ≡ commands_of calls ++ next ∷ left) f asked) }

pub goes_ahead : (o : Options) (s : State) (c : ℕ) (lines : List Command) (calls : List Call) (added : List Record) (left : List Command) (client : Client) → IsReady o s c calls added
    → lines ≡ commands_of calls ++ left → IsAhead o s c lines (ahead calls added left client)
goes_ahead o s c lines calls added [] client ready asked = record { ready = ready; asked = λ command e. absurd (cc e) }
goes_ahead o s c lines calls added (add r ∷ left) client ready asked = goes_ahead o s c lines (calls ++ record { command = add r; reply = quiet } ∷ []) (added ++ r ∷ []) left client
    (ready_push o s c calls (record { command = add r; reply = quiet }) (added ++ r ∷ []) ready.right refl (ap (λ records. records ++ r ∷ []) ready.batch) ready.seen_published ready.log_failed (λ told. absurd (cc)) ready.entries)
    (asked ∙ asked_push calls (record { command = add r; reply = quiet }) left)
goes_ahead o s c lines calls added (clear ∷ left) client ready asked = goes_ahead o s c lines (calls ++ record { command = clear; reply = quiet } ∷ []) [] left client
    (ready_push o s c calls (record { command = clear; reply = quiet }) [] ready.right refl refl ready.seen_published ready.log_failed (λ told. absurd (cc)) ready.entries)
    (asked ∙ asked_push calls (record { command = clear; reply = quiet }) left)
goes_ahead o s c lines calls added (commit how ∷ left) client ready asked = stops_at o s c lines calls added (commit how) left client ready asked
goes_ahead o s c lines calls added (get key ∷ left) client ready asked = stops_at o s c lines calls added (get key) left client ready asked
goes_ahead o s c lines calls added (many keys ∷ left) client ready asked = stops_at o s c lines calls added (many keys) left client ready asked
goes_ahead o s c lines calls added (scan family lo hi ∷ left) client ready asked = stops_at o s c lines calls added (scan family lo hi) left client ready asked
goes_ahead o s c lines calls added (updates n ∷ left) client ready asked = stops_at o s c lines calls added (updates n) left client ready asked
goes_ahead o s c lines calls added (stop ∷ left) client ready asked = stops_at o s c lines calls added stop left client ready asked
goes_ahead o s c lines calls added (unstop ∷ left) client ready asked = stops_at o s c lines calls added unstop left client ready asked
goes_ahead o s c lines calls added (slow rate ∷ left) client ready asked = stops_at o s c lines calls added (slow rate) left client ready asked
goes_ahead o s c lines calls added (unslow ∷ left) client ready asked = stops_at o s c lines calls added unslow left client ready asked

-- an early refusal isn't for the log's fault
pub early_other : (families max : ℕ) (records : List Record) (how : WriteOptions) (why : Refusal) → early_refusal families max false records how ≡ Some why → is_log_fault (refused why) ≡ false
early_other families max records how why e = by (count_of records == 0) (nat_lt max (size_of_batch records)) (how.sync && how.no_log) (size_of_batch records) (first_missing families (families_in records)) e
  where
    by : (a b c : Bool) (size : ℕ) (missing : Option ℕ)
        → (if a then Some no.Empty else (if b then Some (no.TooLarge size) else (if c then Some no.SyncWithoutLog else option_map_or (λ family. Some (no.NoFamily family)) missing None))) ≡ Some why
        → is_log_fault (refused why) ≡ false
    by true b c size missing e = let f : no.Empty ≡ why = cc in subst (λ why. is_log_fault (refused why) ≡ false) f refl
    by false true c size missing e = let f : no.TooLarge size ≡ why = cc in subst (λ why. is_log_fault (refused why) ≡ false) f refl
    by false false true size missing e = let f : no.SyncWithoutLog ≡ why = cc in subst (λ why. is_log_fault (refused why) ≡ false) f refl
    by false false false size (Some family) e = let f : no.NoFamily family ≡ why = cc in subst (λ why. is_log_fault (refused why) ≡ false) f refl
    by false false false size None e = absurd (cc)

-- the reply of a commit, by what the early checks say of the batch
pub commit_refused : (o : Options) (s : State) (calls : List Call) (added : List Record) (how : WriteOptions) (why : Refusal) → added ≡ batch_after calls → early_refusal o.families o.batch_bytes false added how ≡ Some why
    → MayReply o s calls (commit how) (refused why)
commit_refused o s calls added how why e early = by (early_refusal o.families o.batch_bytes false (batch_after calls) how) (subst (λ records. early_refusal o.families o.batch_bytes false records how ≡ Some why) e early)
  where
    by : (found : Option Refusal) → found ≡ Some why → MatchOption found (IsHandled o s calls how (refused why)) (λ why'. refused why ≡ refused why')
    by None f = absurd (cc)
    by (Some other) f = let g : other ≡ why = cc in ap refused (sym g)

pub commit_handled : (o : Options) (s : State) (calls : List Call) (added : List Record) (how : WriteOptions) (reply : Reply) → added ≡ batch_after calls → early_refusal o.families o.batch_bytes false added how ≡ None
    → IsHandled o s calls how reply → MayReply o s calls (commit how) reply
commit_handled o s calls added how reply e early handled = by (early_refusal o.families o.batch_bytes false (batch_after calls) how) (subst (λ records. early_refusal o.families o.batch_bytes false records how ≡ None) e early)
  where
    by : (found : Option Refusal) → found ≡ None → MatchOption found (IsHandled o s calls how reply) (λ why. reply ≡ refused why)
    by None f = handled
    by (Some why) f = absurd (cc)
