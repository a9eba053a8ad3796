-- What the engine's calls promise of its clients, in the words of `Callers`.
use Rattle.std.proofs.Common.{◌≡◌, ℕ, ◌+◌, inl, inr, List, ◌++◌, length, take, drop, Option, Some, None, MatchOption, subst, sym, ap, ◌∙◌}
use Rattle.std.proofs.Math.Seq.{take-append_seam}
use Rattle.std.specs.Vec.{with_items}
use Rattle.std.proofs.lemmas.Option.{slice_get-get_or, slice_get_within, get_or_from_slice_get}
use Rattle.log_writer.specs.declared.group_log.GroupLog.{Ghosts}
use Rattle.model_base.specs.declared.write.WriteOptions.{WriteOptions}
use Rattle.model_base.specs.declared.write.Refusal.{Refusal}
use Rattle.model_base.specs.Batch.{Record}
use Rattle.model_base.specs.Trace.{Settings}
use Rattle.model_base.specs.Tokens.{holds_stop}
use Rattle.model_base.specs.Progress.{early_refusal}
use Rattle.model_accounts.specs.Accounts.{Account, Keeps, Refuses, IsRefusedLate}
use Rattle.model_accounts.specs.Closing.{AreOurs}
use Rattle.engine_groups.specs.Clients.{account_in}
use Rattle.table_memory.specs.Meaning.{memory_table}
use Rattle.tests_engine.specs.Callers.{Path, Member, Members, MayCall, IsCaller, AllMayCall, AreAll}

-- a client that is refused keeps its number
pub refused_number : (s : Settings) (v : Account) (rs : List Record) (how : WriteOptions) (why : Refusal) (w : Account) → Refuses s v rs how why w → w.number ≡ v.number
refused_number s v rs how why w = by_early (early_refusal s.families s.batch_bytes (holds_stop v.asked) rs how)
  where
    by_early : (early : Option Refusal) → MatchOption early (IsRefusedLate v rs how why w) (λ (e : Refusal). (why ≡ e) × Keeps v w) → w.number ≡ v.number
    by_early None late = elim late [ inl kept ↦ kept.1.number | inr refused ↦ refused.number ]
    by_early (Some e) early = early.1.number

-- a `Vec` has just the new items after a write to its whole slice
whole_slice : {X : Type 0} (n : ℕ) (new old : List X) → length new ≡ n → take n (new ++ drop (length new) old) ≡ new
whole_slice n new old count = subst (λ k. take k (new ++ drop (length new) old) ≡ new) count (take-append_seam new (drop (length new) old))

module _ {D : Type 0} {ghosts : Ghosts D} (e : Path D ghosts) where
  -- clients that are all the engine's may all call it, and the other way round
  pub from_ours : (n : ℕ) (cs : List (Member D ghosts)) → AreOurs (MayCall e) (account_in memory_table) n cs → AllMayCall e cs
  from_ours n cs ours = record { each = λ i d lt. let h = ours.each i _ (slice_get-get_or cs i d lt) in record { belongs = h.0; number = h.1 } }

  pub to_ours : (n : ℕ) (cs : List (Member D ghosts)) → AllMayCall e cs → length cs ≡ n → AreOurs (MayCall e) (account_in memory_table) n cs
  to_ours n cs all len = record {
    number_of = len;
    each = λ i c at. let h = subst (IsCaller e (i + 1)) (get_or_from_slice_get cs i c c at) (all.each i c (slice_get_within cs i c at)) in (h.belongs, h.number);
  }

  -- after calls they are still all its clients
  pub all_after : (all : Members D ghosts) (new : List (Member D ghosts)) → AreAll e all → AllMayCall e new → length new ≡ length all.clients.items → AreAll e (record { clients = with_items all.clients new; room = all.room })
  all_after all new a may same =
      let whole = whole_slice all.clients.len new all.clients.items (same ∙ sym all.clients.ok.0) in
      record { may = subst (AllMayCall e) (sym whole) may; len = ap length whole ∙ (same ∙ a.len); room = a.room }
