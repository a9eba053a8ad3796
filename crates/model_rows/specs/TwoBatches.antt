-- A log of two batches, or two logs of one each, and what they recover.
use Rattle.std.specs.Prelude.{ℕ, List, [], ◌∷◌, map}
use Rattle.model_base.specs.declared.log.EndReason.TheVariants.{Clean}
use Rattle.model_base.specs.Log.{text, plain_log}
use Rattle.model_base.specs.Recovery.{Logged, logged_bytes, Recovered}
use Rattle.model_base.specs.RecoveredLogs.{RecoveredLogs}
use Rattle.model_rows.specs.Examples.{put_a1, put_b2}

-- `put a 1` and `put b 2`, committed one after the other
abbrev pub two_batches : List Logged
two_batches = record { first = 1; records = put_a1 ∷ [] } ∷ record { first = 2; records = put_b2 ∷ [] } ∷ []

-- each in a record of its own
abbrev pub log_of_two : List ℕ
log_of_two = text plain_log (map logged_bytes two_batches)

abbrev pub both_recovered : Recovered
both_recovered = record { batches = two_batches; kept = 48; at = 48; why = Clean }

abbrev pub none_recovered : Recovered
none_recovered = record { batches = []; kept = 0; at = 0; why = Clean }

-- each in a log of its own
abbrev pub in_two_logs : List (List ℕ)
in_two_logs = map (λ b. text plain_log (logged_bytes b ∷ [])) two_batches

-- recovery ends in the second log
abbrev pub both_logs_recovered : RecoveredLogs
both_logs_recovered = record { batches = two_batches; log = 2; kept = 24; at = 24; why = Clean }
