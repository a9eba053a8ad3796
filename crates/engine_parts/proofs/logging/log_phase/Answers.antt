use Rattle.std.proofs.Common.{rules, ◌≡◌, ◌<◌, ◌≤◌, ◌+◌, ℕ, Bool, true, false, List, [], ◌∷◌, ◌++◌, map, None, length, vec_capacity, inl, inr, refl, sym, ap, ◌∙◌, subst, arith}
use Rattle.log_batch.specs.Contents.{Contents}
use Rattle.engine_parts.specs.Logs.{fault_of}
use Rattle.log_writer.specs.Adding.{call_of, count_of_fault}
use Rattle.log_writer.specs.Groups.{counts_of, body_lens_of}
use Rattle.table_rule.specs.declared.content.MemberVersions.{MemberVersions}
use Rattle.table_nodes.specs.Parts.{Members, group_of}
use Rattle.engine_parts.proofs.logging.log_phase.Goals as goal
use Rattle.engine_parts.specs.declared.requests.Request.{Request}
use Rattle.engine_parts.specs.declared.requests.Delay.{Delay}
use Rattle.engine_parts.specs.Handled.{commit_requests_of, handled_with, replies_of, went_at}
use Rattle.engine_parts.specs.Numbering.{AreHelpers, batches_of, others_in}
use Rattle.engine_parts.specs.Staged.{MayLaunch}
use Rattle.engine_rule.specs.Plans.{batches_from, versions_from}
use Rattle.engine_rule.proofs.Plans.{versions_runs}
use Rattle.engine_parts.proofs.Logged.{empty_list, head_is, layout_enough, layout_faulted, layout_room, layout_written, logs_on, no_versions, none_is, none_left, ok_is, pays_faulted, pays_written, same_length, some_of, some_versions, to_log, writes}
use Rattle.engine_parts.proofs.Replies.{batches_are}
use Rattle.engine_parts.proofs.Sizes.{are_small, counts_reach}
use Rattle.engine_parts.proofs.Staging.{HaveNoRuns, may_launch, no_runs, no_runs_failed, stays}
use Rattle.engine_parts.proofs.Standing.{Stands, stands_dead, stands_failed, stands_written}

-- the law of the log alone
abbrev our_log : Unit {0} → List (List MemberVersions) → Type 0
our_log t u = Unit {0}

abbrev as_is : List (List MemberVersions) → List (List MemberVersions)
as_is u = u

-- the delay with this number of calls that have worked
abbrev counted : Delay → ℕ → Delay
counted delay made = record delay { made = made }

pub returns-in-Some-clause-path : goal.returns-in-Some-clause-path
returns-in-Some-clause-path g c past goes s =
    let went = went_at c.args.delay.now in
    let opened = past.opened in let start = past.start in let gb = past.group_bytes in let asked = past.asked in let published = past.published in let hs = past.handled in
    let led = goes.led in let numbers = goes.numbers in let comes = goes.comes_after in let is_asked = goes.asked_for in let proceeds = goes.proceeds in
    let xs = c.args.requests.now.items in let h = c.args.path.now in let clients = c.args.layout.now.parts.clients in
    subst (λ ys. Stands our_log as_is tt opened start clients gb went h.log h.places published h.last h.made (hs ++ handled_with xs ys)) (sym c.refuse_all.ensures.replies)
    (stands_dead our_log as_is tt opened start clients gb asked h.log h.places published h.last h.made hs s xs led.writes led.lawful led.whole (counted c.args.delay.now c.args.path.now.made) numbers is_asked comes proceeds c.in-Some.count (sym c.fault.ensures ∙ c.in-Some.is) refl)

pub returns-in-Some-clause-replies : goal.returns-in-Some-clause-replies
returns-in-Some-clause-replies g c = pays_faulted (counted c.args.delay.now c.args.path.now.made) c.in-Some.count c.args.requests.now.items c.refuse_all.new.replies.items c.refuse_all.ensures.replies

pub answer_layout-requires-clause-enough : goal.answer_layout-requires-clause-enough
answer_layout-requires-clause-enough g c =
    let d = c.drop_parts.ensures.others in let n = c.lay_out-end.ensures in
    layout_enough c.args.path.now.last c.args.requests.now.items c.drop_parts.new.self.numberings.items c.drop_parts.new.self.batches.items (ap (λ v. v.items) d.0 ∙ n.numberings) (ap (λ v. v.items) d.1 ∙ n.batches)

pub answer_layout-requires-clause-room : goal.answer_layout-requires-clause-room
answer_layout-requires-clause-room g c =
    let d = c.drop_parts.ensures.others in let n = c.lay_out-end.ensures in
    layout_room c.args.path.now.last (vec_capacity c.args.replies.now) c.args.requests.now.items c.drop_parts.new.self.numberings.items (ap (λ v. v.items) d.0 ∙ n.numberings) c.requires.replies.1

pub returns-then-is_empty-clause-path : goal.returns-then-is_empty-clause-path
returns-then-is_empty-clause-path g c past goes s =
    let went = went_at c.args.delay.now in
    let opened = past.opened in let start = past.start in let gb = past.group_bytes in let asked = past.asked in let published = past.published in let hs = past.handled in
    let led = goes.led in let numbers = goes.numbers in let comes = goes.comes_after in let is_asked = goes.asked_for in let proceeds = goes.proceeds in
    let xs = c.args.requests.now.items in let h = c.args.path.now in let clients = c.args.layout.now.parts.clients in let n = c.lay_out-end.ensures in
    let d = c.drop_parts.ensures.others in
    let none : c.lay_out-end.new.batches.items ≡ [] = empty_list c.lay_out-end.new.batches.items (sym c.lay_out-end.new.batches.ok.0 ∙ none_left _ (sym c.is_empty.ensures ∙ c.if-is_empty.true)) in
    let no_batches : batches_from h.last (commit_requests_of xs) ≡ [] = sym (batches_are h.last xs) ∙ ap (map (λ (b : Contents). b.records)) (sym n.batches ∙ none) in
    let alive : fault_of h.log ≡ None = sym c.fault.ensures ∙ none_is c.fault.result c.in_default.not-Some in
    let replies = c.answer_layout.ensures.replies ∙ layout_written (counted c.args.delay.now c.args.path.now.made) h.last c.lay_out-end.result xs c.drop_parts.new.self.numberings.items c.drop_parts.new.self.batches.items (ap (λ v. v.items) d.0 ∙ n.numberings) (ap (λ v. v.items) d.1 ∙ n.batches) in
    subst (λ (z : ℕ × List _). Stands our_log as_is tt opened start clients gb went h.log h.places published z.0 h.made (hs ++ handled_with xs z.1)) (λ i. (sym n.reached i, sym (replies ∙ ap (λ m. replies_of (counted c.args.delay.now c.args.path.now.made) h.last m xs) n.reached) i))
    (stands_written our_log as_is tt opened start clients gb asked h.log h.places published h.last h.made hs s xs led.writes led.lawful led.whole (counted c.args.delay.now c.args.path.now.made) numbers is_asked comes proceeds c.places_stay.ensures.stay alive h.log published h.made s.our refl (inl (refl, inr no_batches, refl)) (inl (no_versions h.last (commit_requests_of xs) no_batches, refl)))

pub returns-then-is_empty-clause-replies : goal.returns-then-is_empty-clause-replies
returns-then-is_empty-clause-replies g c =
    let d = c.drop_parts.ensures.others in let n = c.lay_out-end.ensures in let h = c.args.path.now in let clients = c.args.layout.now.parts.clients in let xs = c.args.requests.now.items in
    pays_written (counted c.args.delay.now c.args.path.now.made) h.last c.lay_out-end.result xs c.answer_layout.new.replies.items (c.answer_layout.ensures.replies ∙ layout_written (counted c.args.delay.now c.args.path.now.made) h.last c.lay_out-end.result xs c.drop_parts.new.self.numberings.items c.drop_parts.new.self.batches.items (ap (λ v. v.items) d.0 ∙ n.numberings) (ap (λ v. v.items) d.1 ∙ n.batches))

pub log_group-requires-clause-counts : goal.log_group-requires-clause-counts
log_group-requires-clause-counts g c =
    let xs = c.args.requests.now.items in let s = are_small c.args.path.now.last xs in let e = ap counts_of (c.as_slice.ensures.value ∙ c.lay_out-end.ensures.batches) in let few = c.requires.few in
    omega (arith, s.0, e, few)

pub log_group-requires-clause-run : goal.log_group-requires-clause-run
log_group-requires-clause-run g c =
    let h = c.args.path.now in
    let r = counts_reach h.last c.args.requests.now.items c.requires.last in let e = ap counts_of (c.as_slice.ensures.value ∙ c.lay_out-end.ensures.batches) in
    omega (arith, r.0, r.1, e)

pub log_group-requires-clause-lens : goal.log_group-requires-clause-lens
log_group-requires-clause-lens g c =
    let xs = c.args.requests.now.items in let s = are_small c.args.path.now.last xs in let e = ap body_lens_of (c.as_slice.ensures.value ∙ c.lay_out-end.ensures.batches) in let few = c.requires.few in
    omega (arith, s.1, e, few)

pub answer_layout-requires-in-Err-clause-enough : goal.answer_layout-requires-in-Err-clause-enough
answer_layout-requires-in-Err-clause-enough g c =
    let d = c.drop_parts-in-Err.ensures.others in let n = c.lay_out-end.ensures in
    layout_enough c.args.path.now.last c.args.requests.now.items c.drop_parts-in-Err.new.self.numberings.items c.drop_parts-in-Err.new.self.batches.items (ap (λ v. v.items) d.0 ∙ n.numberings) (ap (λ v. v.items) d.1 ∙ n.batches)

pub answer_layout-requires-in-Err-clause-room : goal.answer_layout-requires-in-Err-clause-room
answer_layout-requires-in-Err-clause-room g c =
    let d = c.drop_parts-in-Err.ensures.others in let n = c.lay_out-end.ensures in
    layout_room c.args.path.now.last (vec_capacity c.args.replies.now) c.args.requests.now.items c.drop_parts-in-Err.new.self.numberings.items (ap (λ v. v.items) d.0 ∙ n.numberings) c.requires.replies.1

pub returns-in-Err-clause-path : goal.returns-in-Err-clause-path
returns-in-Err-clause-path g c past goes s =
    let went = went_at c.args.delay.now in
    let opened = past.opened in let start = past.start in let gb = past.group_bytes in let asked = past.asked in let published = past.published in let hs = past.handled in
    let led = goes.led in let numbers = goes.numbers in let comes = goes.comes_after in let is_asked = goes.asked_for in let proceeds = goes.proceeds in
    let xs = c.args.requests.now.items in let h = c.args.path.now in let clients = c.args.layout.now.parts.clients in let n = c.lay_out-end.ensures in
    let d = c.drop_parts-in-Err.ensures.others in
    let alive : fault_of h.log ≡ None = sym c.fault.ensures ∙ none_is c.fault.result c.in_default.not-Some in
    let are : c.as_slice.result.now ≡ batches_of h.last xs = c.as_slice.ensures.value ∙ n.batches in
    let some : 0 < length c.as_slice.result.now = subst (λ (m : ℕ). 0 < m) (c.lay_out-end.new.batches.ok.0 ∙ ap length (sym c.as_slice.ensures.value)) (some_of _ (sym c.is_empty.ensures ∙ c.if-is_empty.false)) in
    let same : c.as_request.result.now.options ≡ led.first.1.options = ap (λ (q : Request). q.options) c.as_request.ensures ∙ ap (λ (x : ℕ × _). x.1.options) (c.index.ensures ∙ head_is xs led.rest led.first c.index.result.now led.leads) in
    let log = to_log gb clients h.last xs led c.as_request.result.now.options same c.as_slice.result.now are some h.log c.log_group.new.log c.log_group.result c.log_group.ensures.skipped c.log_group.ensures.adds in
    let off = log c.in-Err.field-0 c.in-Err.is in
    let w = writes gb clients h.last xs led c.as_request.result.now.options same c.as_slice.result.now are some h.log c.log_group.new.log c.log_group.result c.log_group.ensures.skipped c.log_group.ensures.adds off in
    let replies = c.answer_layout-in-Err.ensures.replies ∙ layout_faulted (counted c.args.delay.now c.args.path.now.made) h.last c.in-Err.field-0.count xs c.drop_parts-in-Err.new.self.numberings.items c.drop_parts-in-Err.new.self.batches.items (ap (λ v. v.items) d.0 ∙ n.numberings) (ap (λ v. v.items) d.1 ∙ n.batches) in
    subst (λ ys. Stands our_log as_is tt opened start clients gb went c.log_group.new.log h.places published h.last h.made (hs ++ handled_with xs ys)) (sym replies)
    (stands_failed our_log as_is tt opened start clients gb asked h.log h.places published h.last h.made hs s xs led.writes led.lawful led.whole (counted c.args.delay.now c.args.path.now.made) numbers is_asked comes proceeds c.places_stay.ensures.stay alive c.in-Err.field-0.count (call_of (h.last + 1) c.as_slice.result.now c.as_request.result.now.options.sync c.log_group.result) c.log_group.new.log (c.log_group.ensures.adds off) w (ap count_of_fault c.in-Err.is ∙ search rules) refl)

pub returns-in-Err-clause-replies : goal.returns-in-Err-clause-replies
returns-in-Err-clause-replies g c =
    let d = c.drop_parts-in-Err.ensures.others in let n = c.lay_out-end.ensures in let h = c.args.path.now in let clients = c.args.layout.now.parts.clients in let xs = c.args.requests.now.items in
    pays_faulted (counted c.args.delay.now c.args.path.now.made) c.in-Err.field-0.count xs c.answer_layout-in-Err.new.replies.items (c.answer_layout-in-Err.ensures.replies ∙ layout_faulted (counted c.args.delay.now c.args.path.now.made) h.last c.in-Err.field-0.count xs c.drop_parts-in-Err.new.self.numberings.items c.drop_parts-in-Err.new.self.batches.items (ap (λ v. v.items) d.0 ∙ n.numberings) (ap (λ v. v.items) d.1 ∙ n.batches))

pub answer_layout-requires-2-clause-enough : goal.answer_layout-requires-2-clause-enough
answer_layout-requires-2-clause-enough g c =
    let n = c.lay_out-end.ensures in
    layout_enough c.args.path.now.last c.args.requests.now.items c.lay_out-end.new.numberings.items c.lay_out-end.new.batches.items n.numberings n.batches

pub answer_layout-requires-2-clause-room : goal.answer_layout-requires-2-clause-room
answer_layout-requires-2-clause-room g c = layout_room c.args.path.now.last (vec_capacity c.args.replies.now) c.args.requests.now.items c.lay_out-end.new.numberings.items c.lay_out-end.ensures.numberings c.requires.replies.1

pub returns-clause-path : goal.returns-clause-path
returns-clause-path g c past goes s =
    let went = went_at c.args.delay.now in
    let opened = past.opened in let start = past.start in let gb = past.group_bytes in let asked = past.asked in let published = past.published in let hs = past.handled in
    let led = goes.led in let numbers = goes.numbers in let comes = goes.comes_after in let is_asked = goes.asked_for in let proceeds = goes.proceeds in
    let xs = c.args.requests.now.items in let h = c.args.path.now in let clients = c.args.layout.now.parts.clients in let n = c.lay_out-end.ensures in
    let alive : fault_of h.log ≡ None = sym c.fault.ensures ∙ none_is c.fault.result c.in_default.not-Some in
    let are : c.as_slice.result.now ≡ batches_of h.last xs = c.as_slice.ensures.value ∙ n.batches in
    let some : 0 < length c.as_slice.result.now = subst (λ (m : ℕ). 0 < m) (c.lay_out-end.new.batches.ok.0 ∙ ap length (sym c.as_slice.ensures.value)) (some_of _ (sym c.is_empty.ensures ∙ c.if-is_empty.false)) in
    let same : c.as_request.result.now.options ≡ led.first.1.options = ap (λ (q : Request). q.options) c.as_request.ensures ∙ ap (λ (x : ℕ × _). x.1.options) (c.index.ensures ∙ head_is xs led.rest led.first c.index.result.now led.leads) in
    let ok = ok_is c.log_group.result c.in_default-log_group.not-Err in
    let on = logs_on gb clients h.last xs led c.as_request.result.now.options same c.as_slice.result.now are some h.log c.log_group.new.log c.log_group.result c.log_group.ensures.skipped c.log_group.ensures.adds h.made c.made_with-path.result c.made_with-path.ensures.unlogged c.made_with-path.ensures.logged ok.0 ok.1 in
    let from = ap (map (λ (b : Contents). b.records)) are ∙ batches_are h.last xs in
    let some_batches : 0 < length (batches_from h.last (commit_requests_of xs)) = subst (λ (m : ℕ). 0 < m) (same_length (λ (b : Contents). b.records) c.as_slice.result.now (batches_from h.last (commit_requests_of xs)) from) some in
    let vs = versions_from h.last (commit_requests_of xs) in
    let some_vs : 0 < length vs = some_versions clients h.last (commit_requests_of xs) led.lawful some_batches in
    let are_parts = n.parts.0 in let same_parts = c.answer_layout-2.ensures.taken.2 in
    let replies = c.answer_layout-2.ensures.replies ∙ layout_written (counted c.args.delay.now c.made_with-path.result) h.last c.lay_out-end.result xs c.lay_out-end.new.numberings.items c.lay_out-end.new.batches.items n.numberings n.batches in
    subst (λ (z : ℕ × List _ × Members). Stands our_log as_is tt opened start clients gb went c.log_group.new.log h.places (published ++ group_of z.2.parts ∷ []) z.0 c.made_with-path.result (hs ++ handled_with xs z.1)) (λ i. (sym n.reached i, sym (replies ∙ ap (λ m. replies_of (counted c.args.delay.now c.made_with-path.result) h.last m xs) n.reached) i, sym same_parts i))
    (stands_written our_log as_is tt opened start clients gb asked h.log h.places published h.last h.made hs s xs led.writes led.lawful led.whole (counted c.args.delay.now c.made_with-path.result) numbers is_asked comes proceeds c.places_stay.ensures.stay alive c.log_group.new.log (published ++ group_of c.lay_out-end.new.parts.parts ∷ []) c.made_with-path.result tt refl on (inr (group_of c.lay_out-end.new.parts.parts, refl, are_parts.versions_are)))

pub returns-clause-replies : goal.returns-clause-replies
returns-clause-replies g c =
    let n = c.lay_out-end.ensures in let h = c.args.path.now in let clients = c.args.layout.now.parts.clients in let xs = c.args.requests.now.items in
    pays_written (counted c.args.delay.now c.made_with-path.result) h.last c.lay_out-end.result xs c.answer_layout-2.new.replies.items (c.answer_layout-2.ensures.replies ∙ layout_written (counted c.args.delay.now c.made_with-path.result) h.last c.lay_out-end.result xs c.lay_out-end.new.numberings.items c.lay_out-end.new.batches.items n.numberings n.batches)

pub returns-in-Some-clause-staged : goal.returns-in-Some-clause-staged
returns-in-Some-clause-staged g c =
    (c.requires.layout.0.2, refl, subst HaveNoRuns (sym c.refuse_all.ensures.replies) (no_runs_failed (counted c.args.delay.now c.args.path.now.made) c.in-Some.count c.args.requests.now.items))

pub returns-then-is_empty-clause-staged : goal.returns-then-is_empty-clause-staged
returns-then-is_empty-clause-staged g c =
    let xs = c.args.requests.now.items in let h = c.args.path.now in let n = c.lay_out-end.ensures in let d = c.drop_parts.ensures in let a = c.answer_layout.ensures in
    let none : c.lay_out-end.new.batches.items ≡ [] = empty_list c.lay_out-end.new.batches.items (sym c.lay_out-end.new.batches.ok.0 ∙ none_left _ (sym c.is_empty.ensures ∙ c.if-is_empty.true)) in
    let no_batches : batches_from h.last (commit_requests_of xs) ≡ [] = sym (batches_are h.last xs) ∙ ap (map (λ (b : Contents). b.records)) (sym n.batches ∙ none) in
    let replies = a.replies ∙ layout_written (counted c.args.delay.now c.args.path.now.made) h.last c.lay_out-end.result xs c.drop_parts.new.self.numberings.items c.drop_parts.new.self.batches.items (ap (λ v. v.items) d.others.0 ∙ n.numberings) (ap (λ v. v.items) d.others.1 ∙ n.batches) in
    (ap (λ (p : Members). p.parts) a.taken.2 ∙ d.parts.0, n.reached ∙ stays h.last (commit_requests_of xs) (no_versions h.last (commit_requests_of xs) no_batches), subst HaveNoRuns (sym replies) (no_runs (counted c.args.delay.now c.args.path.now.made) h.last c.lay_out-end.result xs no_batches))

pub returns-in-Err-clause-staged : goal.returns-in-Err-clause-staged
returns-in-Err-clause-staged g c =
    let xs = c.args.requests.now.items in let h = c.args.path.now in let n = c.lay_out-end.ensures in let d = c.drop_parts-in-Err.ensures in let a = c.answer_layout-in-Err.ensures in
    let replies = a.replies ∙ layout_faulted (counted c.args.delay.now c.args.path.now.made) h.last c.in-Err.field-0.count xs c.drop_parts-in-Err.new.self.numberings.items c.drop_parts-in-Err.new.self.batches.items (ap (λ v. v.items) d.others.0 ∙ n.numberings) (ap (λ v. v.items) d.others.1 ∙ n.batches) in
    (ap (λ (p : Members). p.parts) a.taken.2 ∙ d.parts.0, refl, subst HaveNoRuns (sym replies) (no_runs_failed (counted c.args.delay.now c.args.path.now.made) c.in-Err.field-0.count xs))

pub returns-clause-staged : goal.returns-clause-staged
returns-clause-staged g c =
    let xs = c.args.requests.now.items in let h = c.args.path.now in let n = c.lay_out-end.ensures in let led = c.requires.group.1 in let clients = c.args.layout.now.parts.clients in
    let are : c.as_slice.result.now ≡ batches_of h.last xs = c.as_slice.ensures.value ∙ n.batches in
    let some : 0 < length c.as_slice.result.now = subst (λ (m : ℕ). 0 < m) (c.lay_out-end.new.batches.ok.0 ∙ ap length (sym c.as_slice.ensures.value)) (some_of _ (sym c.is_empty.ensures ∙ c.if-is_empty.false)) in
    let from = ap (map (λ (b : Contents). b.records)) are ∙ batches_are h.last xs in
    let some_batches : 0 < length (batches_from h.last (commit_requests_of xs)) = subst (λ (m : ℕ). 0 < m) (same_length (λ (b : Contents). b.records) c.as_slice.result.now (batches_from h.last (commit_requests_of xs)) from) some in
    let some_vs : 0 < length (versions_from h.last (commit_requests_of xs)) = some_versions clients h.last (commit_requests_of xs) led.lawful some_batches in (
      refl,
      subst (λ (z : Members × List ℕ). MayLaunch c.args.leader clients h.last c.lay_out-end.result z.1 (group_of z.0.parts)) (λ i. (sym c.answer_layout-2.ensures.taken.2 i, (sym c.answer_layout-2.ensures.taken.3 i).items))
          (may_launch c.args.leader clients h.last c.lay_out-end.result (commit_requests_of xs) c.lay_out-end.new.members.items (group_of c.lay_out-end.new.parts.parts) n.parts.0 some_vs n.reached),
    )

pub returns-clause-beside : goal.returns-clause-beside
returns-clause-beside g c = subst (λ v. AreHelpers c.args.apart (others_in c.args.requests.now.items) v.items) (sym c.answer_layout-2.ensures.taken.3) c.lay_out-end.ensures.beside

-- the number of calls is no larger than the last sequence, before and after the call is counted
counted_within : (no_log : Bool) (made now last end : ℕ) → (no_log ≡ true → now ≡ made) → (no_log ≡ false → now ≡ made + 1) → made ≤ last → last < end → now ≤ end
counted_within true made now last end not_counted counted_one few more = let is = not_counted refl in omega (arith, is, few, more)
counted_within false made now last end not_counted counted_one few more = let is = counted_one refl in omega (arith, is, few, more)

pub invariant_of-path : goal.invariant_of-path
invariant_of-path g c =
    let xs = c.args.requests.now.items in let h = c.args.path.now in let n = c.lay_out-end.ensures in
    let ends = (versions_runs h.last (commit_requests_of xs)).1 in let few = h.few in let reached = n.reached in
    omega (arith, ends, few, reached)

pub invariant_of-path-2 : goal.invariant_of-path-2
invariant_of-path-2 g c =
    let xs = c.args.requests.now.items in let h = c.args.path.now in let n = c.lay_out-end.ensures in let led = c.requires.group.1 in let clients = c.args.layout.now.parts.clients in
    let are : c.as_slice.result.now ≡ batches_of h.last xs = c.as_slice.ensures.value ∙ n.batches in
    let some : 0 < length c.as_slice.result.now = subst (λ (m : ℕ). 0 < m) (c.lay_out-end.new.batches.ok.0 ∙ ap length (sym c.as_slice.ensures.value)) (some_of _ (sym c.is_empty.ensures ∙ c.if-is_empty.false)) in
    let from = ap (map (λ (b : Contents). b.records)) are ∙ batches_are h.last xs in
    let some_batches : 0 < length (batches_from h.last (commit_requests_of xs)) = subst (λ (m : ℕ). 0 < m) (same_length (λ (b : Contents). b.records) c.as_slice.result.now (batches_from h.last (commit_requests_of xs)) from) some in
    let some_vs : 0 < length (versions_from h.last (commit_requests_of xs)) = some_versions clients h.last (commit_requests_of xs) led.lawful some_batches in
    let ends = (versions_runs h.last (commit_requests_of xs)).1 in let reached = n.reached in
    record { few = counted_within c.as_request.result.now.options.no_log h.made c.made_with-path.result h.last c.lay_out-end.result c.made_with-path.ensures.unlogged c.made_with-path.ensures.logged h.few (omega (arith, ends, reached, some_vs)) }
