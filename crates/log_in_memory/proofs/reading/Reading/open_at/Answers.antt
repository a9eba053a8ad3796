use Rattle.std.proofs.Common.{◌≡◌, ◌≤◌, length, subst}
use Rattle.log_reader.specs.Reader.{Follows}
use Rattle.log_in_memory.proofs.reading.Reading.open_at.Goals as goal

pub returns-in-Ok-clause-there : goal.returns-in-Ok-clause-there
returns-in-Ok-clause-there c =
    let there = subst (λ l. c.args.place ≤ length l → (c.in-Ok.reader.place ≡ c.args.place) × Follows l c.in-Ok.reader) c.new-disk.ensures c.in-Ok.ensures.there in
    (there c.requires).0

pub returns-in-Ok-clause-follows : goal.returns-in-Ok-clause-follows
returns-in-Ok-clause-follows c =
    let there = subst (λ l. c.args.place ≤ length l → (c.in-Ok.reader.place ≡ c.args.place) × Follows l c.in-Ok.reader) c.new-disk.ensures c.in-Ok.ensures.there in
    (there c.requires).1
