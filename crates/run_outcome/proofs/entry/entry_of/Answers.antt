use Rattle.std.specs.Prelude.{Some}
use Rattle.std.proofs.Common.{◌≡◌, ℕ, ◌+◌, ◌-◌, ◌^◌, min, ap, sym, ◌∙◌}
use Rattle.model_base.specs.Batch.{count_of}
use Rattle.log_batch.specs.Contents.{Contents}
use Rattle.run_batches.specs.declared.accepted.AcceptedBatch.{AcceptedBatch}
use Rattle.run_outcome.specs.Histories.{last_in, entry_of}
use Rattle.run_outcome.proofs.Entries.{entries_of-at}
use Rattle.run_outcome.proofs.entry.entry_of.Goals as goal

made : (client ordinal first last : ℕ) (kept : AcceptedBatch Contents) → first ≡ kept.batch.sequence → last ≡ last_in kept.batch
    → entry_of client ordinal kept ≡ record { client = client; ordinal = ordinal; run = record { first = first; last = last }; flag = kept.flag; batch = kept.batch }
made client ordinal first last kept begins ends = λ i. record { client = client; ordinal = ordinal; run = record { first = sym begins i; last = sym ends i }; flag = kept.flag; batch = kept.batch }

pub returns : goal.returns
returns c =
    let kept = c.get-flag.result in
    let first = c.sequence-first.ensures in
    let behind : c.saturating_sub.result ≡ count_of kept.batch.records - 1 = c.saturating_sub.ensures ∙ ap (λ n. n - 1) (c.from.ensures ∙ c.count.ensures) in
    let last : c.saturating_add.result ≡ last_in kept.batch = c.saturating_add.ensures ∙ (ap (λ n. min (n + c.saturating_sub.result) (2 ^ 64 - 1)) first ∙ ap (λ n. min (kept.batch.sequence + n) (2 ^ 64 - 1)) behind) in
    entries_of-at c.args.client c.args.list.now c.args.at kept c.get-flag.ensures ∙ ap Some (made c.args.client (c.args.at + 1) c.sequence-first.result c.saturating_add.result kept first last)
