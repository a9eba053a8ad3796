-- The part is one of the launched group, and the count says whether it is the last to finish.
use Rattle.std.proofs.Common.{◌∙◌, subst}
use Rattle.table_calls.specs.declared.finished.Finished.{Finished}
use Rattle.table_calls.specs.Account.{Counts}
use Rattle.table_memory.specs.Meaning.{account_of}
use Rattle.tests_table.proofs.tests.tables.complete.Goals as goal

pub publish-requires-clause-last_one : goal.publish-requires-clause-last_one
publish-requires-clause-last_one g c =
    let t = c.take-part.ensures.taken in
    let i = c.insert.ensures.stored t.launched t.steps.stage_is in
    let f = (subst (λ (x : Finished). Counts (account_of c.insert.new.seat) t.launched x (account_of c.finish.new.seat)) c.in-Last.is (c.finish.ensures.counted t.launched i.stage_is)).steps in
    (t.launched, f.stage_is)

pub returns-in-Last-clause-same : goal.returns-in-Last-clause-same
returns-in-Last-clause-same g c =
    let t = c.take-part.ensures.taken in
    let i = c.insert.ensures.stored t.launched t.steps.stage_is in
    let f = (subst (λ (x : Finished). Counts (account_of c.insert.new.seat) t.launched x (account_of c.finish.new.seat)) c.in-Last.is (c.finish.ensures.counted t.launched i.stage_is)).steps in
    let p = c.publish.ensures.published t.launched f.stage_is in
    (p.launched_is ∙ f.launched ∙ i.launched ∙ t.steps.launched, p.number ∙ f.number ∙ i.number ∙ t.steps.number)

pub returns-in-Last-clause-idle : goal.returns-in-Last-clause-idle
returns-in-Last-clause-idle g c =
    let t = c.take-part.ensures.taken in
    let i = c.insert.ensures.stored t.launched t.steps.stage_is in
    let f = (subst (λ (x : Finished). Counts (account_of c.insert.new.seat) t.launched x (account_of c.finish.new.seat)) c.in-Last.is (c.finish.ensures.counted t.launched i.stage_is)).steps in
    (c.publish.ensures.published t.launched f.stage_is).stage_is

pub returns-in-Others-clause-same : goal.returns-in-Others-clause-same
returns-in-Others-clause-same g c =
    let t = c.take-part.ensures.taken in
    let i = c.insert.ensures.stored t.launched t.steps.stage_is in
    let f = (subst (λ (x : Finished). Counts (account_of c.insert.new.seat) t.launched x (account_of c.finish.new.seat)) c.in-Others.is (c.finish.ensures.counted t.launched i.stage_is)).steps in
    (f.launched ∙ i.launched ∙ t.steps.launched, f.number ∙ i.number ∙ t.steps.number)

pub returns-in-Others-clause-idle : goal.returns-in-Others-clause-idle
returns-in-Others-clause-idle g c =
    let t = c.take-part.ensures.taken in
    let i = c.insert.ensures.stored t.launched t.steps.stage_is in
    let f = (subst (λ (x : Finished). Counts (account_of c.insert.new.seat) t.launched x (account_of c.finish.new.seat)) c.in-Others.is (c.finish.ensures.counted t.launched i.stage_is)).steps in
    f.stage_is
