use Rattle.std.proofs.Common.{option_copied}
use Rattle.run_scripts.specs.ScriptWords.{parts_of}
use Rattle.run_scripts.proofs.ScriptParts.{flags_read, flags_read-more, flags_read-none}
use Rattle.run_scripts.proofs.lines.read_commit.Goals as goal

pub returns-then-is_some-clause-line : goal.returns-then-is_some-clause-line
returns-then-is_some-clause-line c =
    let sync = c.take_flag-sync in
    let no_log = c.take_flag-no_log in
    let no_slowdown = c.take_flag-no_slowdown in
    let words = parts_of 32 (option_copied c.args.rest) in
    let read = flags_read words (parts_of 32 (option_copied sync.result.1)) (parts_of 32 (option_copied no_log.result.1)) (parts_of 32 (option_copied no_slowdown.result.1)) sync.result.0 no_log.result.0 no_slowdown.result.0
    sync.ensures.flag sync.ensures.behind no_log.ensures.flag no_log.ensures.behind no_slowdown.ensures.flag no_slowdown.ensures.behind in
    flags_read-more words no_slowdown.result.1 sync.result.0 no_log.result.0 no_slowdown.result.0 read (cc)

pub returns-clause-line : goal.returns-clause-line
returns-clause-line c =
    let sync = c.take_flag-sync in
    let no_log = c.take_flag-no_log in
    let no_slowdown = c.take_flag-no_slowdown in
    let words = parts_of 32 (option_copied c.args.rest) in
    let read = flags_read words (parts_of 32 (option_copied sync.result.1)) (parts_of 32 (option_copied no_log.result.1)) (parts_of 32 (option_copied no_slowdown.result.1)) sync.result.0 no_log.result.0 no_slowdown.result.0
    sync.ensures.flag sync.ensures.behind no_log.ensures.flag no_log.ensures.behind no_slowdown.ensures.flag no_slowdown.ensures.behind in
    flags_read-none words no_slowdown.result.1 sync.result.0 no_log.result.0 no_slowdown.result.0 read (cc)
