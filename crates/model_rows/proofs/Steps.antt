-- What a client's calls in a transcript say of the client.
use Rattle.std.proofs.Common.{◌≡◌, ℕ, List, fold, Some, None, Option, MatchOption, ap, ◌∙◌, subst}
use Rattle.std.proofs.lemmas.List.Sums.{fold-append}
use Rattle.model_base.specs.declared.write.WriteOptions.{WriteOptions}
use Rattle.model_base.specs.declared.write.Refusal.{Refusal}
use Rattle.model_base.specs.declared.write.Refusal.TheVariants as no
use Rattle.model_base.specs.Batch.{Record}
use Rattle.model_base.specs.Calls.{Command, Reply, quiet, accepted, refused, no_memory, Call}
use Rattle.model_base.specs.Trace.{Trace, Settings}
use Rattle.model_base.specs.Tokens.{holds_stop}
use Rattle.model_base.specs.Progress.{Progress, fresh, first_missing, early_refusal}
use Rattle.model_base.specs.Replies.{IsAccepted, IsAttempted, Commits, IfThere, Stays}
use Rattle.model_base.specs.Runs.{Run, IsTranscript, whole, cut_off}

-- the last reply of some calls
abbrev pub last_reply : List Call → Reply
last_reply calls = fold (λ (r : Reply) (c : Call). c.reply) quiet calls

-- calls that end in another reply than `no memory` weren't cut off
pub run_of : (settings : Settings) (trace : Trace) (client : ℕ) (commands : List Command) (calls : List Call) (end : Progress) → (last_reply calls ≡ no_memory → ⊥) → IsTranscript settings trace client commands calls end
    → Run settings trace client fresh calls end
run_of settings trace client commands calls end other (whole same run) = run
run_of settings trace client commands calls end other (cut_off front last rest split same run lacks) =
    absurd (other (ap last_reply split ∙ fold-append (λ (r : Reply) (c : Call). c.reply) quiet front _))

module _ (settings : Settings) (trace : Trace) (client : ℕ) (p : Progress) (how : WriteOptions) where
  by_checks : (a b : ℕ) (own : List Record) (q : Progress) (early : Option Refusal)
      → MatchOption early (IsAttempted trace client p how (accepted a b own) q) (λ why. (accepted a b own ≡ refused why) × Stays p q) → IsAccepted trace.controller_calls trace.log_calls client p how a b own q
  by_checks a b own q None s = s
  by_checks a b own q (Some why) s = absurd (cc s.0)

  -- a commit that was answered `ok`
  pub is_accepted : (a b : ℕ) (own : List Record) (q : Progress) → Commits settings trace client p how (accepted a b own) q → IsAccepted trace.controller_calls trace.log_calls client p how a b own q
  is_accepted a b own q s = by_checks a b own q (early_refusal settings.families settings.batch_bytes (holds_stop p.asked) p.pending how) s

  -- a commit that passed the checks
  pub is_attempted : (reply : Reply) (q : Progress) → early_refusal settings.families settings.batch_bytes (holds_stop p.asked) p.pending how ≡ None → Commits settings trace client p how reply q → IsAttempted trace client p how reply q
  is_attempted reply q none s = subst (λ early. MatchOption early (IsAttempted trace client p how reply q) (λ why. (reply ≡ refused why) × Stays p q)) none s

-- a read of families that are all there
pub is_answered : (settings : Settings) (named : List ℕ) (p : Progress) (reply : Reply) (q : Progress) (X : Type 0) → first_missing settings.families named ≡ None → IfThere settings named p reply q X → X
is_answered settings named p reply q X none s = subst (λ missing. MatchOption missing X (λ family. (reply ≡ refused (no.NoFamily family)) × Stays p q)) none s
