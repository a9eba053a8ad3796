-- What a client's pass is after a step of its own: it is a pass of the same controller, and of the same client.
use Rattle.std.proofs.Common.{◌≡◌, ◌≢◌, ℕ, ◌+◌, ◌<◌, ◌≤◌, Bool, true, false, true≢false, List, [], ◌∷◌, ◌++◌, length, Some, sym, ap, ◌∙◌, refl, subst, arith, ⊎_elim}
use Rattle.std.proofs.lemmas.List.{append-nil, take-append-le, take_at}
use Rattle.std.specs.Prelude.{slice_get, ◌&&◌, if◌then◌else◌}
use Rattle.std.specs.List.{AllByRecursion}
use Rattle.crossbeam_utils.specs.Seq.{cell_view}
use Rattle.model_base.specs.Tokens.{is_token, stop_after, slow_after, holds_stop, holds_slow, shown_by_tokens}
use Rattle.engine_board.specs.declared.rule.BoardView.{BoardView}
use Rattle.engine_board.specs.Board.{In}
use Rattle.engine_controller.specs.declared.controller.Controller.{Controller}
use Rattle.engine_controller.specs.declared.pass.Pass.{Pass}
use Rattle.engine_controller.specs.declared.rule.Call.{Call}
use Rattle.engine_controller.specs.declared.rule.Observer.{Observer}
use Rattle.engine_controller.specs.declared.numbers.Numbers.{Numbers}
use Rattle.engine_controller.specs.declared.numbers.Action.{Action}
use Rattle.engine_controller.specs.declared.numbers.Action.TheVariants.{Say, Hear}
use Rattle.engine_controller.specs.Numbers.{action_of, shown_after, token_weight}
use Rattle.engine_controller.specs.Rule.{call, client_view, client_in, seen_in, shown_at, tokens_in, AreNotOf, IsClientView, Makes}
use Rattle.engine_controller.specs.Passes.{client_of, seen_by, calls_seen, board_of, own_front, IsAnnounced, AreGathered, IsPassOf}
use Rattle.engine_controller.proofs.Totals.{all_append, all_map, all_at, get_append, get_snoc, get_within}
use Rattle.engine_controller.proofs.Counted.{is_own_token, HasNoToken, counted_append, counted_more, front_behind, front_token, front_fewer}
use Rattle.engine_controller.proofs.Asked.{same_client, other_client}
use Rattle.engine_controller.proofs.Tellings.{Follows, follows_client, follows_view, follows_asked, made_client, made_view, made_stop, made_slow, made_shown}

-- What a client announced and gathered, and the calls that it has seen

-- calls of others are no token calls of the client's
pub others_have_none : (c : ℕ) (calls : List Call) → AreNotOf c calls → HasNoToken c calls
others_have_none c calls others = all_map (λ (k : Call). k.client ≢ c) (λ (k : Call). is_own_token c k ≡ false) (λ k n. ap (λ (b : Bool). b && is_token (action_of k.action)) (other_client k.client c n)) calls others

-- a look at the board by this mark has found this
abbrev IsFound : BoardView → ℕ → ℕ → Type 0
IsFound board mark most = In (record { mark = mark; found = most }) board.gathered

module _ (c : ℕ) (board : BoardView) (seen : List Call) where
  announced_behind : (rest : List Call) → AllByRecursion (IsAnnounced c board) seen → AreNotOf c rest → AllByRecursion (IsAnnounced c board) (seen ++ rest)
  announced_behind rest a others = all_append (IsAnnounced c board) seen rest a (all_map (λ (k : Call). k.client ≢ c) (IsAnnounced c board) (λ k n same. absurd (n same)) rest others)

  gathered_behind : (rest : List Call) → AreGathered c board seen → AreNotOf c rest → AreGathered c board (seen ++ rest)
  gathered_behind rest g others at most e =
      ⊎_elim
      (λ (t : (at < length seen) × (slice_get seen at ≡ Some (call c (Hear most)))).
      let low = t.0 in
      subst (λ (l : List Call). IsFound board (tokens_in (own_front c l)) most) (sym (take-append-le at seen rest (omega (arith, low)))) (g at most t.1))
      (λ (t : (j : ℕ) × (at ≡ length seen + j) × (slice_get rest j ≡ Some (call c (Hear most)))).
      absurd (all_at (λ (k : Call). k.client ≢ c) rest others t.0 (call c (Hear most)) t.2 refl))
      (get_append seen rest (call c (Hear most)) at e)

  gathered_more : (a : Action) → AreGathered c board seen → ((most : ℕ) → a ≡ Hear most → IsFound board (tokens_in (own_front c seen)) most) → AreGathered c board (seen ++ call c a ∷ [])
  gathered_more a g last at most e =
      ⊎_elim
      (λ (was : slice_get seen at ≡ Some (call c (Hear most))).
      let low = get_within seen (call c (Hear most)) at was in
      subst (λ (l : List Call). IsFound board (tokens_in (own_front c l)) most) (sym (take-append-le at seen (call c a ∷ []) (omega (arith, low)))) (g at most was))
      (λ (t : (at ≡ length seen) × (call c a ≡ call c (Hear most))).
      subst (λ (l : List Call). IsFound board (tokens_in (own_front c l)) most) (sym (take_at seen (call c a ∷ []) at (sym t.0))) (last most (ap (λ (k : Call). k.action) t.1)))
      (get_snoc seen (call c a) (call c (Hear most)) at e)

-- Calls of others

module _ {C : Type 0} (controller : Controller C) (p q : Pass) (own : IsPassOf controller p) (cell : q.seat.table_id ≡ controller.cell.table.shared.table_id)
    (f : Follows (cell_view p.seat) (cell_view q.seat)) (shown : q.shown ≡ shown_by_tokens (seen_by q)) (is : q ≡ record p { seat = q.seat; shown = q.shown }) where
  follows_client_is : client_of q ≡ client_of p
  follows_client_is = follows_client _ _ f

  follows_seen : calls_seen q ≡ calls_seen p ++ f.between
  follows_seen = ap seen_in f.view

  follows_tokens : q.tokens ≡ tokens_in (own_front (client_of q) (calls_seen q))
  follows_tokens =
      ap (λ (r : Pass). r.tokens) is ∙ own.tokens
      ∙ sym ((λ i. tokens_in (own_front (follows_client_is i) (follows_seen i))) ∙ ap tokens_in (front_behind (client_of p) (calls_seen p) f.between (others_have_none (client_of p) f.between f.others)))

  -- the history went on by calls of others, and the client has seen them
  pub own_follows : IsPassOf controller q × (client_of q ≡ client_of p)
  own_follows = (
    record {
      cell = cell;
      view = follows_view _ _ f;
      number = ap (λ (r : Pass). r.number) is ∙ own.number ∙ sym follows_client_is;
      stopping = ap (λ (r : Pass). r.stopping) is ∙ own.stopping ∙ sym (ap holds_stop (follows_asked _ _ f));
      slowing = ap (λ (r : Pass). r.slowing) is ∙ own.slowing ∙ sym (ap holds_slow (follows_asked _ _ f));
      shown = shown;
      board = ap (λ (r : Pass). r.board.seat.table_id) is ∙ own.board;
      alone = ap (λ (r : Pass). r.board.seat.me.1) is ∙ own.alone;
      said = ap (λ (r : Pass). r.said) is ∙ own.said ∙ sym (ap (λ (r : Pass). (board_of r).raised) is);
      marked = subst (λ (r : Pass). (board_of r).marked ≤ r.tokens) (sym is) own.marked;
      tokens = follows_tokens;
      announced = subst (λ (r : Pass). AllByRecursion (IsAnnounced (client_of q) (board_of r)) (calls_seen q)) (sym is)
          (subst (λ (c : ℕ). AllByRecursion (IsAnnounced c (board_of p)) (calls_seen q)) (sym follows_client_is)
          (subst (AllByRecursion (IsAnnounced (client_of p) (board_of p))) (sym follows_seen) (announced_behind (client_of p) (board_of p) (calls_seen p) f.between own.announced f.others)));
      heard = subst (λ (r : Pass). AreGathered (client_of q) (board_of r) (calls_seen q)) (sym is)
          (subst (λ (c : ℕ). AreGathered c (board_of p) (calls_seen q)) (sym follows_client_is)
          (subst (AreGathered (client_of p) (board_of p)) (sym follows_seen) (gathered_behind (client_of p) (board_of p) (calls_seen p) f.between own.heard f.others)));
    },
    follows_client_is,
  )

pub same_follows : (v w : List Observer) → IsClientView v → w ≡ v → Follows v w
same_follows v w client same = record {
  between = [];
  view = same ∙ client ∙ ap (client_view (client_in v)) (sym (append-nil (seen_in v)));
  others = tt;
}

-- the client knows what it knew
pub own_same : {C : Type 0} (controller : Controller C) (p q : Pass) → IsPassOf controller p → q.seat.table_id ≡ p.seat.table_id → cell_view q.seat ≡ cell_view p.seat → q ≡ record p { seat = q.seat }
    → IsPassOf controller q × (client_of q ≡ client_of p)
own_same controller p q own cell same is =
    own_follows controller p q own (cell ∙ own.cell) (same_follows _ _ own.view same)
    (ap (λ (r : Pass). r.shown) is ∙ own.shown ∙ sym (ap (λ (v : List Observer). shown_at (seen_in v)) same))
    (is ∙ (λ i. record p { seat = q.seat; shown = sym (ap (λ (r : Pass). r.shown) is) i }))

-- A call of its own

-- the client neither says nor hears anything by this call
abbrev pub is_quiet : Action → Bool
is_quiet (Say shown marked) = false
is_quiet (Hear most) = false
is_quiet other = true

-- what the client says by a call of its own it has announced
abbrev pub IsSaid : Pass → Action → Type 0
IsSaid p a = IsAnnounced (client_of p) (board_of p) (call (client_of p) a)

-- what the client hears by a call of its own it has gathered, after its newest token call
abbrev pub IsHeard : Pass → Action → Type 0
IsHeard p a = (most : ℕ) → a ≡ Hear most → In (record { mark = p.tokens; found = most }) (board_of p).gathered

module _ {C : Type 0} (controller : Controller C) (p q : Pass) (a : Action) (x : Numbers) (own : IsPassOf controller p) (cell : q.seat.table_id ≡ controller.cell.table.shared.table_id)
    (m : Makes a (cell_view p.seat) x (cell_view q.seat)) (shown : q.shown ≡ shown_after x.shown (action_of a)) (tokens : q.tokens ≡ (if is_token (action_of a) then x.tokens + 1 else p.tokens))
    (is : q ≡ record p { seat = q.seat; stopping = stop_after p.stopping (action_of a); slowing = slow_after p.slowing (action_of a); shown = q.shown; tokens = q.tokens }) where
  client_is : client_of q ≡ client_of p
  client_is = made_client _ _ _ _ m

  abbrev before : List Call
  before = calls_seen p ++ m.between

  seen_is : calls_seen q ≡ before ++ call (client_of p) a ∷ []
  seen_is = ap seen_in m.view

  before_front : own_front (client_of p) before ≡ own_front (client_of p) (calls_seen p)
  before_front = front_behind (client_of p) (calls_seen p) m.between (others_have_none (client_of p) m.between m.others)

  -- the token calls up to the newest one were no more than there are now
  tokens_before : p.tokens ≤ x.tokens
  tokens_before =
      let counted = own.tokens in
      let fewer = front_fewer (client_of p) (calls_seen p) in
      let both = counted_append (calls_seen p) m.between in
      let found = m.tokens in
      omega (arith, counted, fewer, both, found)

  tokens_more : p.tokens ≤ q.tokens
  tokens_more = more (is_token (action_of a)) tokens
    where
      more : (b : Bool) → q.tokens ≡ (if b then x.tokens + 1 else p.tokens) → p.tokens ≤ q.tokens
      more true t = let low = tokens_before in omega (arith, t, low)
      more false t = omega (arith, t)

  tokens_are : q.tokens ≡ tokens_in (own_front (client_of p) (before ++ call (client_of p) a ∷ []))
  tokens_are = counted (is_token (action_of a)) refl tokens
    where
      counted : (b : Bool) → is_token (action_of a) ≡ b → q.tokens ≡ (if b then x.tokens + 1 else p.tokens) → q.tokens ≡ tokens_in (own_front (client_of p) (before ++ call (client_of p) a ∷ []))
      counted true e t =
          let one : token_weight (action_of a) ≡ 1 = ap (λ (b : Bool). if b then 1 else 0) e in
          let more = counted_more before (client_of p) a in
          let found = m.tokens in
          let all : q.tokens ≡ tokens_in (before ++ call (client_of p) a ∷ []) = omega (arith, t, one, more, found) in
          all ∙ sym (ap tokens_in (front_token (client_of p) before (call (client_of p) a) ((λ i. same_client (client_of p) i && e i))))
      counted false e t =
          t ∙ own.tokens ∙ sym (ap tokens_in (front_behind (client_of p) before (call (client_of p) a ∷ []) ((λ i. same_client (client_of p) i && e i), tt) ∙ before_front))

  -- the client has made a call, which is the last one that it has seen
  pub own_calls_with : IsSaid p a → IsHeard p a → IsPassOf controller q × (client_of q ≡ client_of p)
  own_calls_with says hears = (
    record {
      cell = cell;
      view = made_view _ _ _ _ m;
      number = ap (λ (r : Pass). r.number) is ∙ own.number ∙ sym client_is;
      stopping = ap (λ (r : Pass). r.stopping) is ∙ ap (λ (b : Bool). stop_after b (action_of a)) own.stopping ∙ sym (made_stop _ _ _ _ m);
      slowing = ap (λ (r : Pass). r.slowing) is ∙ ap (λ (b : Bool). slow_after b (action_of a)) own.slowing ∙ sym (made_slow _ _ _ _ m);
      shown = shown ∙ sym (made_shown _ _ _ _ m);
      board = ap (λ (r : Pass). r.board.seat.table_id) is ∙ own.board;
      alone = ap (λ (r : Pass). r.board.seat.me.1) is ∙ own.alone;
      said = ap (λ (r : Pass). r.said) is ∙ own.said ∙ sym (ap (λ (r : Pass). (board_of r).raised) is);
      marked =
          let same : (board_of q).marked ≡ (board_of p).marked = ap (λ (r : Pass). (board_of r).marked) is in
          let low = own.marked in
          let more = tokens_more in
          omega (arith, same, low, more);
      tokens = tokens_are ∙ sym (λ i. tokens_in (own_front (client_is i) (seen_is i)));
      announced = subst (λ (r : Pass). AllByRecursion (IsAnnounced (client_of q) (board_of r)) (calls_seen q)) (sym is)
          (subst (λ (c : ℕ). AllByRecursion (IsAnnounced c (board_of p)) (calls_seen q)) (sym client_is)
          (subst (AllByRecursion (IsAnnounced (client_of p) (board_of p))) (sym seen_is)
          (all_append (IsAnnounced (client_of p) (board_of p)) before (call (client_of p) a ∷ []) (announced_behind (client_of p) (board_of p) (calls_seen p) m.between own.announced m.others) (says, tt))));
      heard = subst (λ (r : Pass). AreGathered (client_of q) (board_of r) (calls_seen q)) (sym is)
          (subst (λ (c : ℕ). AreGathered c (board_of p) (calls_seen q)) (sym client_is)
          (subst (AreGathered (client_of p) (board_of p)) (sym seen_is)
          (gathered_more (client_of p) (board_of p) before a (gathered_behind (client_of p) (board_of p) (calls_seen p) m.between own.heard m.others)
          (λ most e. subst (λ (n : ℕ). IsFound (board_of p) n most) (own.tokens ∙ sym (ap tokens_in before_front)) (hears most e)))));
    },
    client_is,
  )

  pub own_calls : is_quiet a ≡ true → IsPassOf controller q × (client_of q ≡ client_of p)
  own_calls quiet = own_calls_with
      (λ same n mark e. absurd (true≢false (sym quiet ∙ ap is_quiet e)))
      (λ most e. absurd (true≢false (sym quiet ∙ ap is_quiet e)))
