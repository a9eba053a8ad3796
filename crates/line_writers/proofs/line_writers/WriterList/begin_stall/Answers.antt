use Rattle.std.proofs.Common.{◌≡◌, ℕ, ◌+◌, ◌-◌, ◌<◌, ◌≤◌, [], ◌∷◌, ◌++◌, length, reverse, refl, sym, ap, ◌∙◌, subst, inl, arith, length-append}
use Rattle.line_rule.specs.declared.view.Lead.{Lead}
use Rattle.line_rule.specs.declared.view.LineStage.TheVariants.{Leading, Stalling}
use Rattle.line_rule.specs.declared.view.Stall.TheVariants.{Stopped}
use Rattle.line_rule.specs.declared.content.LineSlot.TheVariants.{Empty}
use Rattle.line_rule.specs.Chain.{pairs}
use Rattle.line_rule.specs.Plays.{At, blanks, in_hand}
use Rattle.line_rule.proofs.Enters.{one_hold}
use Rattle.line_rule.proofs.Leads.{one_lead}
use Rattle.line_writers.specs.Roles.{bys, lead_with_group, past_in, CodesFit, HasRead}
use Rattle.line_writers.specs.Seats.{answers_told}
use Rattle.line_writers.proofs.Gathers.{within_of}
use Rattle.line_writers.proofs.Surveys.{length-pairs}
use Rattle.line_writers.proofs.Halts.{reads_stopped, length-asks, queue_only, codes_first, codes_back, passed_none}
use Rattle.line_writers.proofs.line_writers.WriterList.begin_stall.Goals as goal

pub survey-requires-clause-read : goal.survey-requires-clause-read
survey-requires-clause-read g c =
    let o = c.requires.group.1 in let k : ℕ = c.args.writer.now.client in let slots : ℕ = c.args.self.now.table.shared.table_id.slots in let has = o.4 in
    let lead : Lead g.row.Request.Denot g.row.Reply.Denot = lead_with_group o.0 o.3 (past_in c.args.writer.now.seat.me.0) has.0.0 o.1 in let mine = answers_told c.args.writer.now in
    let s = c.put_stall-newest.ensures.stopped lead mine has.0.1 in
    subst (λ (j : ℕ). HasRead 0 slots j c.put_stall-newest.result c.put_stall-newest.new.writer.seat.me) (sym c.put_stall-newest.ensures.seat.1) (reads_stopped slots c.put_stall-newest.result k lead mine c.args.writer.now.seat.me c.put_stall-newest.new.writer.seat.me s)

pub overflow_sub-len : goal.overflow_sub-len
overflow_sub-len g c =
    let o = c.requires.group.1 in let has = o.4 in
    let lead : Lead g.row.Request.Denot g.row.Reply.Denot = lead_with_group o.0 o.3 (past_in c.args.writer.now.seat.me.0) has.0.0 o.1 in let mine = answers_told c.args.writer.now in
    let s = c.put_stall-newest.ensures.stopped lead mine has.0.1 in let members = o.1 ++ o.0 ∷ [] in
    let at1 = subst (λ (j : ℕ). At j (Stalling (lead_with_group o.0 o.3 lead.past s.0 o.1) (Stopped c.put_stall-newest.result)) mine c.put_stall-newest.new.writer.seat.me) (sym c.put_stall-newest.ensures.seat.1) s.1 in
    let items : c.survey.new.walk.items ≡ pairs (s.0 ++ members) = c.survey.ensures.walk (s.0 ++ members) (inl (refl, (_, mine, at1, refl))) in
    let long : length c.survey.new.walk.items ≡ length s.0 + length members = ap length items ∙ (length-pairs (s.0 ++ members) ∙ length-append s.0 members) in
    let count : length c.args.requests.now.list.items ≡ length members = o.5 ∙ length-asks o.0 o.1 in
    let l = c.len.ensures in let l2 = c.len-2.ensures in omega (arith, long, count)

pub returns-clause-stalled : goal.returns-clause-stalled
returns-clause-stalled g c =
    let b = c.requires.group.0 in let n : ℕ = c.args.self.now.clients in let slots : ℕ = c.args.self.now.table.shared.table_id.slots in let z = c.args.self.now.sized in
    let k : ℕ = c.args.writer.now.client in let e1 : c.put_stall-newest.new.writer.client ≡ k = c.put_stall-newest.ensures.seat.1 in let e2 : c.survey.new.writer.client ≡ k = c.survey.ensures.seat.1 ∙ e1 in (
      (c.survey.ensures.seat.0 ∙ c.put_stall-newest.ensures.seat.0 ∙ b.0, subst (λ (j : ℕ). 0 < j) (sym e2) b.1, subst (λ (j : ℕ). j ≤ n) (sym e2) b.2),
      λ own group left seen has.
          let o = c.requires.group.1 in let mine = answers_told c.args.writer.now in let past = past_in c.args.writer.now.seat.me.0 in
          let lead : Lead g.row.Request.Denot g.row.Reply.Denot = lead_with_group own seen past has.0.0 group in
          let first : Lead g.row.Request.Denot g.row.Reply.Denot = lead_with_group o.0 o.3 past o.4.0.0 o.1 in
          let same : first ≡ lead = one_lead first lead (one_hold k k (Leading first) (Leading lead) mine mine c.args.writer.now.seat.me.0 o.4.0.1 has.0.1).1 in
          let s = c.put_stall-newest.ensures.stopped lead mine has.0.1 in let members = group ++ own ∷ [] in
          let at1 = subst (λ (j : ℕ). At j (Stalling (lead_with_group own seen past s.0 group) (Stopped c.put_stall-newest.result)) mine c.put_stall-newest.new.writer.seat.me) (sym e1) s.1 in
          let items : c.survey.new.walk.items ≡ pairs (s.0 ++ members) = c.survey.ensures.walk (s.0 ++ members) (inl (refl, (_, mine, at1, refl))) in
          let count : length c.args.requests.now.list.items ≡ length members = o.5 ∙ (length-asks o.0 o.1 ∙ ap (λ (x : Lead g.row.Request.Denot g.row.Reply.Denot). length (in_hand x)) same) in
          let long : length c.survey.new.walk.items ≡ length s.0 + length members = ap length items ∙ (length-pairs (s.0 ++ members) ∙ length-append s.0 members) in
          let short : c.len.result - c.len-2.result ≡ length s.0 = (let l = c.len.ensures in let l2 = c.len-2.ensures in omega (arith, long, count)) in
          let cut : c.truncate.new.self.items ≡ pairs s.0 = c.truncate.ensures.items ∙ queue_only s.0 members c.survey.new.walk.items (c.len.result - c.len-2.result) items short in
          let turned : c.reverse.new.self.items ≡ reverse (pairs s.0) = c.reverse.ensures.items ∙ ap reverse cut in
          let room = c.requires.room in
          let me = c.survey.ensures.seat.2 in (
            s.0,
            (
              (
                (
                  turned,
                  subst CodesFit (sym turned) (codes_back (pairs s.0) (codes_first s.0 members (subst CodesFit items c.survey.ensures.codes))),
                  subst (λ (j : ℕ). n ≤ j) (sym (c.reverse.ensures.capacity ∙ c.truncate.ensures.capacity ∙ c.survey.ensures.seat.3)) room.2,
                  room.3,
                  room.4,
                  room.5,
                ),
                passed_none s.0,
                s.3,
              ),
              record {
                past = past;
                at = subst (λ (j : ℕ). At j (Stalling (lead_with_group own seen past s.0 group) (Stopped c.put_stall-newest.result)) mine c.survey.new.writer.seat.me) (sym e2) (ap (λ m. m.0) me ∙ s.1);
                own_by = has.1 ∙ sym e2;
                is_client = subst (λ (j : ℕ). 0 < j) (sym e2) b.1;
                members = has.3;
                whole = has.4;
                slots = ap (λ m. m.1) me ∙ s.2 ∙ has.5 ∙ (λ i. blanks (bys group) ((sym e2 i, Empty) ∷ (0, Empty) ∷ []));
                built = has.6;
                queued = within_of n slots s.0 members (omega arith) s.5;
              },
            ),
          ),
    )
