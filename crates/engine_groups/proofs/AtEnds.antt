-- A client's reads of the log were at ends of what it has seen published.
use Rattle.std.proofs.Common.{ℕ, List, [], ◌∷◌, ◌++◌, Option, Some, None, Result, Ok, Err}
use Rattle.std.specs.List.{AllByRecursion}
use Rattle.model_base.specs.Since.{LogRead}
use Rattle.table_rule.specs.declared.content.MemberVersions.{MemberVersions}
use Rattle.table_rule.specs.Histories.{Begins, last_of}
use Rattle.engine_calls.specs.declared.answers.Since.{Since}
use Rattle.engine_calls.specs.declared.answers.SinceRefused.{SinceRefused}
use Rattle.engine_calls.specs.declared.answers.SinceRefused.TheVariants.{SelfStop, NoMemory, ReadFault}
use Rattle.engine_rule.specs.Reading.{IsAtEnd, ReadAnswer, gave, broke, lacked, reads_in, reads_with}
use Rattle.engine_parts.specs.Handled.{read_answer}
use Rattle.engine_parts.specs.ReadAnswers.{HasReadTo}
use Rattle.engine_groups.proofs.Answered.{begins_on, begins_self}

-- they still are once it has seen more
pub ends_on : (start : ℕ) (seen now : List (List MemberVersions)) (reads : List LogRead) → Begins seen now → AllByRecursion (IsAtEnd start seen) reads → AllByRecursion (IsAtEnd start now) reads
ends_on start seen now [] more h = tt
ends_on start seen now (r ∷ reads) more h = (record { shown = h.0.shown; begins = begins_on h.0.shown seen now h.0.begins more; at = h.0.at }, ends_on start seen now reads more h.1)

-- one more answer
pub ends_more : (start : ℕ) (seen : List (List MemberVersions)) (answers : List ReadAnswer) (a : ReadAnswer) → AllByRecursion (IsAtEnd start seen) (reads_in answers) → AllByRecursion (IsAtEnd start seen) (reads_with a) → AllByRecursion (IsAtEnd start seen) (reads_in (answers ++ a ∷ []))
ends_more start seen [] (gave r) h own = own
ends_more start seen [] (broke count) h own = tt
ends_more start seen [] lacked h own = tt
ends_more start seen (gave r ∷ answers) a h own = (h.0, ends_more start seen answers a h.1 own)
ends_more start seen (broke count ∷ answers) a h own = ends_more start seen answers a h own
ends_more start seen (lacked ∷ answers) a h own = ends_more start seen answers a h own

-- a read up to the end of what it has seen
pub ends_read : (before start since : ℕ) (seen : List (List MemberVersions)) (read : Option (Result Since SinceRefused)) → HasReadTo before (last_of start seen) read → AllByRecursion (IsAtEnd start seen) (reads_with (read_answer since read))
ends_read before start since seen None h = absurd h
ends_read before start since seen (Some (Ok r)) h = (record { shown = seen; begins = begins_self seen; at = h }, tt)
ends_read before start since seen (Some (Err SelfStop)) h = absurd h
ends_read before start since seen (Some (Err NoMemory)) h = tt
ends_read before start since seen (Some (Err (ReadFault count))) h = tt
