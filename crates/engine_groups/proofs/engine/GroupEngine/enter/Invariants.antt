-- The request is in no list, and its note shows all that the client has seen. The client has only looked.
use Rattle.std.proofs.Common.{◌≡◌, Some}
use Rattle.line_writers.specs.Seats.{client_of, Belongs, IsOut, answers_told}
use Rattle.engine_controller.specs.Noted.{Noted}
use Rattle.engine_controller.specs.Passes.{seen_by, seen_by_note, IsNoteOf, IsPassOf, client_of as pass_client}
use Rattle.engine_parts.specs.Asking.{OnlyLooks}
use Rattle.engine_groups.proofs.engine.GroupEngine.enter.Given as goal

abbrev pub invariant-loop : goal.invariant-loop
invariant-loop g l = record {
  next : (goal.iterator-loop g).can_next l.iterator';
  finite : (goal.iterator-loop g).is_finite l.iterator';
  same : l.client ≡ record l.fn.client { writer = l.client.writer; pass = l.client.pass };
  belongs : Belongs l.self.list l.client.writer;
  writer_client : client_of l.client.writer ≡ client_of l.fn.client.writer;
  out : IsOut l.client.writer;
  told : answers_told l.client.writer ≡ answers_told l.fn.client.writer;
  own : IsPassOf l.self.controller l.client.pass;
  pass : pass_client l.client.pass ≡ pass_client l.fn.client.pass;
  looks : OnlyLooks l.fn.client.number (seen_by l.fn.client.pass) (seen_by l.client.pass);
  note : Noted;
  is_note : IsNoteOf l.self.controller note;
  noted : seen_by_note note ≡ seen_by l.client.pass;
  request : l.request ≡ record l.fn.request { note = Some note };
}
