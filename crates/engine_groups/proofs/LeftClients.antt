-- A client that has left its group.
use Rattle.std.proofs.Common.{◌≡◌, ℕ, List, [], ◌∷◌, ◌++◌, sym, ap, ◌∙◌, subst}
use Rattle.log_writer.specs.declared.group_log.GroupLog.{Ghosts}
use Rattle.table_calls.specs.Account.{IsReady}
use Rattle.line_rule.specs.declared.view.QueuedWriter.{QueuedWriter}
use Rattle.line_rule.specs.declared.view.Handling.{Handling}
use Rattle.line_rule.specs.Chain.{all_answers}
use Rattle.line_writers.specs.Rooms.{AreReady}
use Rattle.line_writers.specs.Seats.{client_of, clients_of, answers_told, Belongs, IsOut}
use Rattle.engine_controller.specs.Passes.{seen_by, IsPassOf, client_of as pass_client}
use Rattle.engine_rule.specs.Asked.{HasAsked}
use Rattle.engine_groups.specs.Meaning.{Meaning}
use Rattle.engine_groups.specs.declared.engine.GroupEngine.{GroupEngine}
use Rattle.engine_groups.specs.declared.engine.EngineClient.{EngineClient}
use Rattle.engine_parts.specs.declared.layout.Layout.{Layout}
use Rattle.engine_parts.specs.declared.requests.Request.{Request}
use Rattle.engine_parts.specs.declared.requests.Answer.{Answer}
use Rattle.engine_groups.specs.Clients.{IsIdle, opened_log, own_commits}
use Rattle.engine_parts.specs.Layout.{IsLaid, IsRoomy}
use Rattle.engine_groups.specs.Leaving.{HasAnswered, HasAnsweredGroup}
use Rattle.engine_groups.proofs.Leads.{of_engine}

pub roomy : (n : ℕ) (layout : Layout) → IsLaid n layout → layout.parts.parts ≡ [] → IsRoomy n layout
roomy n layout l none = record { clear = (l.no_numberings, l.no_batches, none, l.clients_are); numberings = l.numberings; batches = l.batches; members = l.members }

module _ {D T C G S U P : Type 0} {ghosts : Ghosts D} (meaning : Meaning T S U P) (e : GroupEngine D T C G S U P ghosts)
    (number start : ℕ) (mine : List (Request × Answer)) (own : QueuedWriter Request) (seen : List (Handling Request Answer)) (w : EngineClient D T C S U P ghosts) (last : ℕ) (l : HasAnsweredGroup meaning e number start mine own seen w last) where
  pub left_client : (w' : EngineClient D T C S U P ghosts) → w'.number ≡ w.number → w'.start ≡ w.start → w'.table ≡ w.table → Belongs e.list w'.writer → client_of w'.writer ≡ client_of w.writer → IsOut w'.writer → answers_told w'.writer ≡ mine ++ (own.asked, l.p) ∷ []
      → meaning.ours e.table w'.seat → IsReady (meaning.account w'.seat) → (meaning.account w'.seat).number ≡ (meaning.account w.seat).number → w'.pass ≡ w.pass → AreReady (clients_of e.list) w'.lists → IsRoomy (clients_of e.list) w'.layout
      → IsIdle meaning e w'
  left_client w' same_number same_start same_table belongs client out told_now seat ready seat_number pass lists layout =
      let q = l.seats in record {
        seated = record {
          is_engine = q.is_engine;
          writer = belongs;
          number = client ∙ (l.client ∙ (sym l.number_is ∙ sym same_number));
          seat = seat;
          ready = ready;
          seat_number = seat_number ∙ (q.seat_number ∙ sym same_number);
          start = same_start ∙ (l.start_is ∙ l.starts);
          table = ap (λ t. t.value) same_table ∙ l.table_is;
          pass = subst (λ p. IsPassOf e.controller p) (sym pass) q.pass;
          pass_number = ap pass_client pass ∙ (q.pass_number ∙ sym same_number);
          can_lead = record { lists = lists; layout = layout };
        };
        out = out;
        has_asked = subst (λ (z : ℕ × List (Request × Answer) × _). HasAsked z.0 (own_commits z.0 z.1) (seen_by z.2)) (λ i. (sym (same_number ∙ l.number_is) i, sym told_now i, sym pass i)) l.has_asked;
      }

  pub has_answered : (p : Answer) (now : List (Request × Answer)) → now ≡ mine ++ (own.asked, l.p) ∷ [] → p ≡ l.p → HasAnswered e.controller (opened_log e) (meaning.opening e.table).start number mine own.asked p now
  has_answered p now told_now same = record {
    told_now = told_now ∙ (λ i. mine ++ (own.asked, sym same i) ∷ []);
    handled = seen ++ all_answers own l.p l.gs;
    are_handled = of_engine meaning e l.seats.is_engine.controller l.seats.is_engine.start (seen ++ all_answers own l.p l.gs) l.kept;
    own = l.own_now ∙ (λ i. mine ++ (own.asked, sym same i) ∷ []);
  }
