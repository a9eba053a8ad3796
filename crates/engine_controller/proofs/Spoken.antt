-- What a client's own steps on the board leave of its pass, and what it says and hears by a call.
use Rattle.std.proofs.Common.{◌≡◌, ℕ, ◌+◌, ◌≤◌, false, List, [], ◌∷◌, ◌++◌, Some, sym, ap, ◌∙◌, refl, subst, inl, inr, ⊎_elim, arith}
use Rattle.std.specs.Prelude.{slice_get}
use Rattle.std.specs.List.{AllByRecursion}
use Rattle.atomic_table.specs.Seated.{TableId}
use Rattle.crossbeam_utils.specs.Seq.{cell_view}
use Rattle.model_base.specs.Tokens.{tokens_of, holds_stop, holds_slow, shown_by_tokens}
use Rattle.engine_board.specs.declared.Announcer.{Announcer}
use Rattle.engine_board.specs.declared.rule.Announced.{Announced}
use Rattle.engine_board.specs.declared.rule.Gathered.{Gathered}
use Rattle.engine_board.specs.declared.rule.BoardView.{BoardView}
use Rattle.engine_board.specs.Board.{In, newcomer, both}
use Rattle.engine_controller.specs.declared.controller.Controller.{Controller}
use Rattle.engine_controller.specs.declared.pass.Pass.{Pass}
use Rattle.engine_controller.specs.declared.numbers.Action.{Action}
use Rattle.engine_controller.specs.declared.numbers.Action.TheVariants.{Say, Hear}
use Rattle.engine_controller.specs.declared.rule.Observer.{Observer}
use Rattle.engine_controller.specs.Rule.{marked_of, client_view, client_in, seen_in, history_of, tokens_in}
use Rattle.engine_controller.specs.Passes.{client_of, seen_by, calls_seen, board_of, own_front, IsAnnounced, AreGathered, IsPassOf, HasAnnounced, HasGathered}
use Rattle.engine_controller.proofs.Totals.{all_map, each_snoc}
use Rattle.engine_controller.proofs.Owned.{IsSaid, IsHeard}
use Rattle.engine_controller.proofs.Tellings.{client_view_is}

module _ {A : Type 0} where
  pub in_left : (a : A) (xs ys : List A) → In a xs → In a (xs ++ ys)
  in_left a [] ys h = absurd h
  in_left a (x ∷ xs) ys h = ⊎_elim (λ (e : x ≡ a). inl e) (λ (t : In a xs). inr (in_left a xs ys t)) h

  pub in_right : (a : A) (xs ys : List A) → In a ys → In a (xs ++ ys)
  in_right a [] ys h = h
  in_right a (x ∷ xs) ys h = inr (in_right a xs ys h)

-- all that the first view announced and gathered, the second one did
pub record Grows (v w : BoardView) : Type 0 where
  pub announced : (a : Announced) → In a v.announced → In a w.announced
  pub gathered : (g : Gathered) → In g v.gathered → In g w.gathered

pub grows_to : (v w : BoardView) (announced : List Announced) (gathered : List Gathered) → w.announced ≡ v.announced ++ announced → w.gathered ≡ v.gathered ++ gathered → Grows v w
grows_to v w announced gathered p q = record {
  announced = λ a h. subst (In a) (sym p) (in_left a v.announced announced h);
  gathered = λ g h. subst (In g) (sym q) (in_left g v.gathered gathered h);
}

-- The client's own steps on the board

module _ {C : Type 0} (controller : Controller C) (p : Pass) (board : Announcer) (said : ℕ) (own : IsPassOf controller p)
    (table : board.seat.table_id ≡ p.board.seat.table_id) (alone : board.seat.me.1 ≡ p.board.seat.me.1) (raised : said ≡ board.seat.me.0.raised)
    (marked : board.seat.me.0.marked ≤ p.tokens) (grows : Grows (board_of p) board.seat.me.0) where
  pub own_board : IsPassOf controller (record p { board = board; said = said }) × (client_of (record p { board = board; said = said }) ≡ client_of p)
  own_board = (
    record {
      cell = own.cell;
      view = own.view;
      number = own.number;
      stopping = own.stopping;
      slowing = own.slowing;
      shown = own.shown;
      board = table ∙ own.board;
      alone = alone ∙ own.alone;
      said = raised;
      marked = marked;
      tokens = own.tokens;
      announced = all_map (IsAnnounced (client_of p) (board_of p)) (IsAnnounced (client_of p) board.seat.me.0)
          (λ c h same shown mark is. let k = h same shown mark is in (k.0, grows.announced _ k.1, k.2)) (calls_seen p) own.announced;
      heard = λ at most e. grows.gathered _ (own.heard at most e);
    },
    refl,
  )

-- What a call says or hears

abbrev shown_in : Action → ℕ
shown_in (Say shown marked) = shown
shown_in other = 0

abbrev most_in : Action → ℕ
most_in (Hear most) = most
most_in other = 0

pub says_it : (p : Pass) (shown marked : ℕ) → HasAnnounced p shown marked → IsSaid p (Say shown marked)
says_it p shown marked h same shown' marked' e =
    let low : shown' ≡ shown = sym (ap shown_in e) in
    let mark : marked ≡ marked' = ap marked_of e in
    (h.0, subst (λ (n : ℕ). In (record { mark = n; said = h.0 }) (board_of p).announced) mark h.1, subst (λ (n : ℕ). n ≤ h.0) (sym low) h.2)

pub says_no_hearing : (p : Pass) (shown marked : ℕ) → IsHeard p (Say shown marked)
says_no_hearing p shown marked most e = absurd (cc (e))

pub hears_it : (p : Pass) (most : ℕ) → HasGathered p most → IsHeard p (Hear most)
hears_it p most h most' e =
    let same : most ≡ most' = ap most_in e in
    subst (λ (n : ℕ). In (record { mark = p.tokens; found = n }) (board_of p).gathered) same h

pub hears_no_saying : (p : Pass) (most : ℕ) → IsSaid p (Hear most)
hears_no_saying p most same shown marked e = absurd (cc (e))

-- Opening

-- a client's pass as it is opened, for the cell and the board of these tables
abbrev pub IsFresh : TableId → TableId → ℕ → Pass → Type 0
IsFresh cell board i p = (p.seat.table_id ≡ cell) × (cell_view p.seat ≡ client_view (i + 1) []) × (p.number ≡ i + 1) × (p.stopping ≡ false) × (p.slowing ≡ false) × (p.shown ≡ 0)
    × (p.board.seat.table_id ≡ board) × (p.board.seat.me ≡ (newcomer, [])) × (p.said ≡ 0) × (p.tokens ≡ 0)

pub own_fresh : {C : Type 0} (controller : Controller C) (i : ℕ) (p : Pass) → IsFresh controller.cell.table.shared.table_id controller.board.words.shared.table_id i p
    → IsPassOf controller p × (client_of p ≡ i + 1) × (seen_by p ≡ [])
own_fresh controller i p own =
    let is = own.1 in
    let board : board_of p ≡ newcomer = ap (λ m. m.0) own.7 in (
      record {
        cell = own.0;
        view = client_view_is (cell_view p.seat) (i + 1) [] is;
        number = own.2 ∙ sym (ap client_in is);
        stopping = own.3 ∙ sym (ap (λ v. holds_stop (tokens_of (client_in v) (history_of (seen_in v)))) is);
        slowing = own.4 ∙ sym (ap (λ v. holds_slow (tokens_of (client_in v) (history_of (seen_in v)))) is);
        shown = own.5 ∙ sym (ap (λ v. shown_by_tokens (history_of (seen_in v))) is);
        board = own.6;
        alone = ap (λ m. m.1) own.7;
        said = own.8 ∙ sym (ap (λ (b : BoardView). b.raised) board);
        marked = subst (λ (b : BoardView). b.marked ≤ p.tokens) (sym board) (omega arith);
        tokens = own.9 ∙ sym (ap (λ v. tokens_in (own_front (client_in v) (seen_in v))) is);
        announced = subst (λ (v : List Observer). AllByRecursion (IsAnnounced (client_in v) (board_of p)) (seen_in v)) (sym is) tt;
        heard = subst (λ (v : List Observer). AreGathered (client_in v) (board_of p) (seen_in v)) (sym is) (λ at most e. absurd (cc (e)));
      },
      ap client_in is,
      ap (λ v. history_of (seen_in v)) is,
    )

-- Closing

-- a client takes in what another one knows of the board
pub grows_both : (v w after : BoardView) → after ≡ both v w → Grows v after × Grows w after
grows_both v w after is = (
  record { announced = λ a h. subst (λ (b : BoardView). In a b.announced) (sym is) (in_left a v.announced w.announced h); gathered = λ g h. subst (λ (b : BoardView). In g b.gathered) (sym is) (in_left g v.gathered w.gathered h) },
  record { announced = λ a h. subst (λ (b : BoardView). In a b.announced) (sym is) (in_right a v.announced w.announced h); gathered = λ g h. subst (λ (b : BoardView). In g b.gathered) (sym is) (in_right g v.gathered w.gathered h) },
)

-- what the passes so far announced and gathered is known, and then that of the next one too
pub grows_next : (taken : List Pass) (p : Pass) (v after : BoardView) → after ≡ both v (board_of p) → ((i : ℕ) (q : Pass) → slice_get taken i ≡ Some q → Grows (board_of q) v)
    → (i : ℕ) (q : Pass) → slice_get (taken ++ p ∷ []) i ≡ Some q → Grows (board_of q) after
grows_next taken p v after is all =
    let more = grows_both v (board_of p) after is in
    each_snoc (λ i (q : Pass). Grows (board_of q) after) taken (taken ++ p ∷ []) p refl (λ i q e. let was = all i q e in record { announced = λ a h. more.0.announced a (was.announced a h); gathered = λ g h. more.0.gathered g (was.gathered g h) }) more.1
