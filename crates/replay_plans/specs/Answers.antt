-- Which replies of a client's calls are answers.
use Rattle.std.specs.Prelude.{List, filter_map, Option, Some, None}
use Rattle.model_base.specs.Calls.{Reply, quiet, accepted, refused, found, found_each, rows, updates_found, read_failed, done, held, not_held, no_memory, Call}

-- all replies but `quiet`; on the core these are the replies to commits and reads
abbrev pub is_answer : Reply → Option Reply
is_answer quiet = None
is_answer (accepted first last records) = Some (accepted first last records)
is_answer (refused why) = Some (refused why)
is_answer (found at v) = Some (found at v)
is_answer (found_each at vs) = Some (found_each at vs)
is_answer (rows at pairs) = Some (rows at pairs)
is_answer (updates_found at records) = Some (updates_found at records)
is_answer (read_failed count) = Some (read_failed count)
is_answer done = Some done
is_answer held = Some held
is_answer not_held = Some not_held
is_answer no_memory = Some no_memory

abbrev pub answers_of : List Call → List Reply
answers_of calls = filter_map (λ (c : Call). is_answer c.reply) calls
