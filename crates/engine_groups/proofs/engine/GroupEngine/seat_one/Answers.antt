use Rattle.std.proofs.Common.{◌≡◌, ℕ, ◌<◌, ◌≤◌, List, [], ◌∷◌, refl, sym, ap, ◌∙◌, subst}
use Rattle.std.specs.List.{AllByRecursion}
use Rattle.line_rule.specs.declared.view.LineStage.TheVariants.{Idle}
use Rattle.line_rule.specs.Rule.{hold}
use Rattle.line_writers.specs.Seats.{answers_told, told_in_first, clients_of}
use Rattle.engine_rule.specs.Asked.{HasAsked}
use Rattle.engine_rule.specs.Entries.{account_of}
use Rattle.engine_rule.specs.Reading.{IsAtEnd, reads_in}
use Rattle.engine_parts.specs.declared.requests.Request.{Request}
use Rattle.engine_parts.specs.declared.requests.Answer.{Answer}
use Rattle.engine_groups.specs.Clients.{own_answers, own_commits, own_sights, map_at_opening}
use Rattle.engine_groups.proofs.engine.GroupEngine.seat_one.Goals as goal

pub returns : goal.returns
returns g c =
    let w = c.args.writer in let r = c.requires in let n : ℕ = c.args.number in let set = r.engine.0 in
    let at = r.writer.3 in
    let none : answers_told w ≡ [] = ap (λ m. told_in_first m.0) at in
    record {
      is_client = record {
        idle = record {
          seated = record {
            is_engine = set;
            writer = (r.writer.2, subst (λ k. 0 < k) (sym r.writer.0) r.number.0, subst (λ k. k ≤ clients_of c.args.self.now.list) (sym r.writer.0) r.number.1);
            number = r.writer.0;
            seat = r.seat.0;
            ready = r.seat.1;
            seat_number = r.seat.3;
            start = r.engine.1;
            table = c.of.ensures;
            pass = r.pass.own;
            pass_number = r.pass.client;
            can_lead = record { lists = r.room.0; layout = r.room.1 };
          };
          out = (ap (λ m. m.0) at ∙ (λ i. hold (sym r.writer.0 i) Idle (sym none i) ∷ []), ap (λ m. m.1) at);
          has_asked = subst (HasAsked n (own_commits n (answers_told w))) (sym r.pass.unseen) tt;
        };
        at_ends = subst (λ (mine : List (Request × Answer)). AllByRecursion (IsAtEnd (g.Versions.Table.opening c.args.self.now.table).start (g.Versions.Table.account c.args.seat).seen) (reads_in (own_answers mine))) (sym none) tt;
        envelope = refl;
      };
      new = (λ i. account_of (r.engine.1 i) (map_at_opening g.Versions.Table (c.of.ensures i)) n (own_commits n (none i)) (own_sights n (none i)) (own_answers (none i)) (r.seat.2 i) (r.pass.unseen i));
    }
