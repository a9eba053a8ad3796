-- The law holds at the opening.
use Rattle.std.proofs.Common.{◌≡◌, ℕ, zero, suc, List, [], ◌∷◌, map, true, Some, slice_get, filter, refl, ap, sym}
use Rattle.model_base.specs.Calls.{Command}
use Rattle.model_core.specs.Core.{Options, Client, opening_state, idle_client, client_at, has_run, table_group, still}
use Rattle.model_core.specs.CoreLaw.{IsCore, HasInserted}
use Rattle.model_core_laws.proofs.Lists.{all_of}

idle_at : (plans : List (List Command)) (i : ℕ) (client : Client) → slice_get (map idle_client plans) i ≡ Some client → client.idle ≡ true
idle_at [] i client is = absurd (cc)
idle_at (p ∷ plans) zero client is = let e : idle_client p ≡ client = cc in ap (λ (c : Client). c.idle) (sym e)
idle_at (p ∷ plans) (suc i) client is = idle_at plans i client is

all_idle : (o : Options) (plans : List (List Command)) (c : ℕ) (client : Client) → client_at (opening_state o plans) c ≡ Some client → client.idle ≡ true
all_idle o plans zero client is = absurd (cc)
all_idle o plans (suc c) client is = idle_at plans c client is

pub opening : (o : Options) (plans : List (List Command)) → IsCore o (opening_state o plans)
opening o plans = record {
  once = λ c client is. rw (all_idle o plans c client is) refl;
  clients = tt;
  led_is_first = tt;
  single_stage = λ e. refl;
  unmarked = λ e. tt;
  counted = tt;
  alone = tt;
  one_log_flag = tt;
  is_history = tt;
  assigned = refl;
  front = [];
  is_boundary = record { rest = []; split = refl; ends = refl };
  ahead = tt;
  in_table = tt;
  from_entries = tt;
  is_table = tt;
  has_inserted = all_of (HasInserted [] still) (λ w. tt) (filter has_run (table_group o (opening_state o plans)));
  parts = [];
  cut = refl;
  groups = refl;
  none_empty = tt;
  runs = tt;
  at_boundary = record { before = []; cut = refl; ahead = []; each = tt; all = refl; as_one = tt; split = refl };
}
