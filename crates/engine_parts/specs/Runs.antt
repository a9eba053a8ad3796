-- The run that a reply gives, and how an answer relates to what is published.
use Rattle.std.specs.Prelude.{◌≡◌, ℕ, ◌<◌, ◌≤◌, Result, Ok, Err}
use Rattle.model_base.specs.declared.write.Refusal.TheVariants.{SequenceFull}
use Rattle.engine_calls.specs.declared.answers.Receipt.{Receipt}
use Rattle.engine_calls.specs.declared.answers.Refused.{Refused}
use Rattle.engine_parts.specs.declared.requests.Answer.{Answer}
use Rattle.engine_parts.specs.Items.{run_in}

-- the first sequence and the count that a reply gives
abbrev pub run_of : Answer → ℕ × ℕ
run_of p = run_in p.answer

-- a run is above this sequence; where there was no room for one, the last sequence given isn't below this sequence
abbrev pub IsAbove : ℕ → Result Receipt Refused → Type 0
IsAbove shown (Ok receipt) = shown < receipt.run.first
IsAbove shown (Err refused) = (last : ℕ) → refused.why ≡ SequenceFull last → shown ≤ last
