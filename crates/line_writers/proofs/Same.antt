-- What a writer is after a step that has changed nothing, or only that it is about to link.
use Rattle.std.proofs.Common.{◌≡◌, List, sym, ap, subst}
use mathlib.Core.Path.{Path}
use Rattle.atomic_table.specs.declared.shared.Seat.{Seat}
use Rattle.line_writers.specs.declared.writer.Writer.{Writer}
use Rattle.line_writers.specs.declared.linking.Linking.{Linking}
use Rattle.line_writers.specs.declared.linking.Linking.TheVariants.{Linked, Missed, Stalled}
use Rattle.line_writers.specs.Seats.{told_in_first, answers_told, IsEntering}

pub same_seat : {S V : Type 0} (a b : Seat S V) → a.table_id ≡ b.table_id → a.id ≡ b.id → a.me ≡ b.me → a ≡ b
same_seat a b t n m = λ i. record { marker = a.marker; table_id = t i; id = n i; me = m i }

module _ {Request Reply Log Right : Type 0} where
  pub same_writer : (a b : Writer Request Reply Log Right) → a.client ≡ b.client → a.task ≡ b.task → a.seat ≡ b.seat → a ≡ b
  same_writer a b c t s = λ i. record { client = c i; task = t i; seat = s i }

  -- the answers that it was told are those that its view shows
  pub shows_told : (q : Request) (mine : List (Request × Reply)) (w : Writer Request Reply Log Right) → IsEntering q mine w → IsEntering q (answers_told w) w × (answers_told w ≡ mine)
  shows_told q mine w e = let told = ap told_in_first e.1 in (subst (λ m. IsEntering q m w) (sym told) e, told)

-- a try that missed, or found writes stalled, isn't one that linked
pub missed : Path Linking Missed Linked → ⊥
missed e = absurd (cc)

pub stalled : Path Linking Stalled Linked → ⊥
stalled e = absurd (cc)
