-- A state whose facts were proved anew is the same state.
use Rattle.std.proofs.Common.{◌≡◌, ◌+◌, ◌-◌, ◌^◌, ◌≤◌, vec_len}
use Rattle.std.specs.Coded.{le_prop, Coded-set, coded_ℕ}
use Rattle.replay_core.specs.Ordinals.{AreCounts}
use Rattle.replay_core.specs.declared.state.State.{State}

pub same_state : (r : State) (items : vec_len r.items ≡ vec_len r.linked) (groups : r.in_second + r.in_hand ≤ vec_len r.linked) (seats : vec_len r.seats ≡ vec_len r.plans)
    (marks : vec_len r.marks ≡ vec_len r.plans) (done : vec_len r.done ≡ vec_len r.plans) (fits : r.assigned ≤ 2 ^ 56 - 1) (counted : AreCounts r.accepted.items r.entries.items)
    → record r { one_item_each = items; groups_wait = groups; one_seat_each = seats; one_mark_each = marks; one_done_each = done; assigned_fits = fits; entries_counted = counted } ≡ r
same_state r items groups seats marks done fits counted = λ i. record r {
  one_item_each = Coded-set coded_ℕ (vec_len r.items) (vec_len r.linked) items r.one_item_each i;
  groups_wait = le_prop groups r.groups_wait i;
  one_seat_each = Coded-set coded_ℕ (vec_len r.seats) (vec_len r.plans) seats r.one_seat_each i;
  one_mark_each = Coded-set coded_ℕ (vec_len r.marks) (vec_len r.plans) marks r.one_mark_each i;
  one_done_each = Coded-set coded_ℕ (vec_len r.done) (vec_len r.plans) done r.one_done_each i;
  assigned_fits = le_prop fits r.assigned_fits i;
  entries_counted = λ c n is. Coded-set coded_ℕ n _ (counted c n is) (r.entries_counted c n is) i;
}
