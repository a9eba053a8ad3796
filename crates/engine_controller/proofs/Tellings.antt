-- What a step shows to a view, in the words of the contracts.
use Rattle.std.proofs.Common.{◌≡◌, ◌≢◌, ℕ, List, [], ◌∷◌, ◌++◌, sym, ap, ◌∙◌, refl, subst, append_assoc}
use Rattle.std.specs.Prelude.{◌==◌, false, Some}
use Rattle.std.specs.List.{AllByRecursion}
use mathlib.Core.List.{IsPrefix}
use Rattle.model_base.specs.Controller as controller
use Rattle.model_base.specs.Controller.{ControllerCall, answer}
use Rattle.model_base.specs.Tokens.{holds_stop, holds_slow, stop_after, slow_after, shown_by_tokens}
use Rattle.engine_controller.specs.declared.numbers.Numbers.{Numbers}
use Rattle.engine_controller.specs.declared.numbers.Action.{Action}
use Rattle.engine_controller.specs.declared.rule.Call.{Call}
use Rattle.engine_controller.specs.declared.rule.Observer.{Observer}
use Rattle.engine_controller.specs.Numbers.{numbers_of, action_of, shown_after}
use Rattle.engine_controller.specs.Rule.{numbers_at, held_up_at, shown_at, tokens_in, history_from, history_of, asked_in, call, observer, client_view, client_in, seen_in, IsClientView, AreNotOf, Sees, Makes}
use Rattle.engine_controller.specs.Passes.{GoesOn, EndsWith, token_in}
use Rattle.engine_controller.proofs.Totals.{all_append, all_map}
use Rattle.engine_controller.proofs.Histories.{history_append, legal_from, others_from, history_prefix, shown_more}
use Rattle.engine_controller.specs.declared.rule.Caller.TheVariants.{Nobody, Client}
use Rattle.engine_controller.proofs.Asked.{other_client, asked_behind, asked_more, stop_held, slow_held}

pub client_view_is : (w : List Observer) (c : ℕ) (seen : List Call) → w ≡ client_view c seen → IsClientView w
client_view_is w c seen e = subst IsClientView (sym e) refl

asked_of_others : (c : ℕ) (seen between : List Call) → AreNotOf c between → asked_in c (seen ++ between) ≡ asked_in c seen
asked_of_others c seen between a = asked_behind c seen between (all_map (λ (k : Call). k.client ≢ c) (λ (k : Call). (k.client == c) ≡ false) (λ k n. other_client k.client c n) between a)

pub goes_on : (c : ℕ) (seen between : List Call) → AreNotOf c between → GoesOn c (history_of seen) (history_of (seen ++ between))
goes_on c seen between a = record {
  between = history_from (numbers_at seen) between;
  is = history_append controller.opening seen between;
  others = others_from c (numbers_at seen) between a;
  legal = legal_from controller.opening (seen ++ between);
}

ends_with : (c : ℕ) (seen between : List Call) (a : Action) → AreNotOf c between
    → EndsWith c (history_of seen) (action_of a) (answer (numbers_at (seen ++ between)) (action_of a)) (history_of ((seen ++ between) ++ call c a ∷ []))
ends_with c seen between a others = record {
  between = history_from (numbers_at seen) between;
  is = history_append controller.opening (seen ++ between) (call c a ∷ []) ∙ ap (λ ts. ts ++ history_from (numbers_at (seen ++ between)) (call c a ∷ [])) (history_append controller.opening seen between);
  others = others_from c (numbers_at seen) between others;
  legal = legal_from controller.opening ((seen ++ between) ++ call c a ∷ []);
}

-- a client's view goes on by calls of others
pub record Follows (v w : List Observer) : Type 0 where
  pub between : List Call
  pub view : w ≡ client_view (client_in v) (seen_in v ++ between)
  pub others : AreNotOf (client_in v) between

pub sees_follows : (v w : List Observer) (x y : Numbers) → Sees v x y w → Follows v w
sees_follows v w x y s = record { between = s.between; view = s.view; others = s.others }

pub follows_trans : (v w u : List Observer) → Follows v w → Follows w u → Follows v u
follows_trans v w u f g =
    let client : client_in w ≡ client_in v = ap client_in f.view in
    let seen : seen_in w ≡ seen_in v ++ f.between = ap seen_in f.view in
    record {
      between = f.between ++ g.between;
      view = g.view ∙ (λ i. client_view (client i) (seen i ++ g.between)) ∙ ap (client_view (client_in v)) (append_assoc (seen_in v) f.between g.between);
      others = all_append (λ (k : Call). k.client ≢ client_in v) f.between g.between f.others (subst (λ c. AreNotOf c g.between) client g.others);
    }

module _ (v w : List Observer) (f : Follows v w) where
  pub follows_client : client_in w ≡ client_in v
  follows_client = ap client_in f.view

  pub follows_view : IsClientView w
  follows_view = client_view_is w (client_in v) (seen_in v ++ f.between) f.view

  pub follows_asked : asked_in (client_in w) (seen_in w) ≡ asked_in (client_in v) (seen_in v)
  follows_asked = (λ i. asked_in (client_in (f.view i)) (seen_in (f.view i))) ∙ asked_of_others (client_in v) (seen_in v) f.between f.others

  pub follows_goes : GoesOn (client_in v) (history_of (seen_in v)) (history_of (seen_in w))
  follows_goes = subst (λ l. GoesOn (client_in v) (history_of (seen_in v)) (history_of l)) (sym (ap seen_in f.view)) (goes_on (client_in v) (seen_in v) f.between f.others)

pub follows_makes : (v w u : List Observer) (a : Action) (x : Numbers) → Follows v w → Makes a w x u → Makes a v x u
follows_makes v w u a x f m =
    let client : client_in w ≡ client_in v = ap client_in f.view in
    let seen : seen_in w ≡ seen_in v ++ f.between = ap seen_in f.view in
    let all : seen_in w ++ m.between ≡ seen_in v ++ (f.between ++ m.between) = ap (λ l. l ++ m.between) seen ∙ append_assoc (seen_in v) f.between m.between in
    record {
      between = f.between ++ m.between;
      view = m.view ∙ (λ i. client_view (client i) (all i ++ call (client i) a ∷ []));
      others = all_append (λ (k : Call). k.client ≢ client_in v) f.between m.between f.others (subst (λ c. AreNotOf c m.between) client m.others);
      numbers = m.numbers ∙ ap numbers_at all;
      held_up = m.held_up ∙ ap held_up_at all;
      shown = m.shown ∙ ap shown_at all;
      tokens = m.tokens ∙ ap tokens_in all;
      own_stop = λ holds. m.own_stop (ap holds_stop (follows_asked v w f) ∙ holds);
    }

module _ (a : Action) (v : List Observer) (x : Numbers) (w : List Observer) (m : Makes a v x w) where
  pub made_client : client_in w ≡ client_in v
  made_client = ap client_in m.view

  pub made_view : IsClientView w
  made_view = client_view_is w (client_in v) ((seen_in v ++ m.between) ++ call (client_in v) a ∷ []) m.view

  made_asked : asked_in (client_in w) (seen_in w) ≡ asked_in (client_in v) (seen_in v) ++ token_in (action_of a)
  made_asked =
      (λ i. asked_in (client_in (m.view i)) (seen_in (m.view i))) ∙ asked_more (client_in v) (seen_in v ++ m.between) a
      ∙ ap (λ l. l ++ token_in (action_of a)) (asked_of_others (client_in v) (seen_in v) m.between m.others)

  pub made_stop : holds_stop (asked_in (client_in w) (seen_in w)) ≡ stop_after (holds_stop (asked_in (client_in v) (seen_in v))) (action_of a)
  made_stop = ap holds_stop made_asked ∙ stop_held a (asked_in (client_in v) (seen_in v))

  pub made_slow : holds_slow (asked_in (client_in w) (seen_in w)) ≡ slow_after (holds_slow (asked_in (client_in v) (seen_in v))) (action_of a)
  made_slow = ap holds_slow made_asked ∙ slow_held a (asked_in (client_in v) (seen_in v))

  -- the greatest number of the token calls, after this call
  pub made_shown : shown_by_tokens (history_of (seen_in w)) ≡ shown_after x.shown (action_of a)
  made_shown =
      ap (λ (u : List Observer). shown_at (seen_in u)) m.view ∙ shown_more (seen_in v ++ m.between) (client_in v) a
      ∙ ap (λ n. shown_after n (action_of a)) (sym m.shown)

  pub made_ends : EndsWith (client_in v) (history_of (seen_in v)) (action_of a) (answer (numbers_of x) (action_of a)) (history_of (seen_in w))
  made_ends =
      subst (λ l. EndsWith (client_in v) (history_of (seen_in v)) (action_of a) (answer (numbers_of x) (action_of a)) (history_of l)) (sym (ap seen_in m.view))
      (subst (λ n. EndsWith (client_in v) (history_of (seen_in v)) (action_of a) (answer n (action_of a)) (history_of ((seen_in v ++ m.between) ++ call (client_in v) a ∷ []))) (sym m.numbers)
      (ends_with (client_in v) (seen_in v) m.between a m.others))

-- what a load found is the greatest number of the token calls that are now seen
pub sees_shown : (v : List Observer) (x y : Numbers) (w : List Observer) → Sees v x y w → x.shown ≡ shown_by_tokens (history_of (seen_in w))
sees_shown v x y w s = s.shown ∙ sym (ap (λ (u : List Observer). shown_at (seen_in u)) s.view)

-- the answer that a call returns is the one that the history has for it
pub ends_told : (c : ℕ) (seen : List ControllerCall) (a : controller.Action) (told answered : controller.Look) (after : List ControllerCall)
    → answered ≡ told → EndsWith c seen a (Some told) after → EndsWith c seen a (Some answered) after
ends_told c seen a told answered after is e = subst (λ l. EndsWith c seen a (Some l) after) (sym is) e

-- A pass takes in a note

module _ (p n v : List Observer) (client : IsClientView p) (note : n ≡ observer Nobody (seen_in n) ∷ []) (joined : v ≡ p ++ n) where
  pub joined_is : v ≡ observer (Client (client_in p)) (seen_in p) ∷ observer Nobody (seen_in n) ∷ []
  joined_is = joined ∙ (λ i. client i ++ note i)

  pub learns : (w : List Observer) (x y : Numbers) → Sees v x y w → Follows p w
  learns w x y s = record {
    between = s.between;
    view = s.view ∙ (λ i. client_view (client_in (joined_is i)) (seen_in (joined_is i) ++ s.between));
    others = subst (λ (u : List Observer). AreNotOf (client_in u) s.between) joined_is s.others;
  }

  pub learns_note : (w : List Observer) (x y : Numbers) → Sees v x y w → IsPrefix (history_of (seen_in n)) (history_of (seen_in w))
  learns_note w x y s =
      let known = subst (λ (u : List Observer). AllByRecursion (λ (t : Observer). IsPrefix t.seen (seen_in u ++ s.between)) u) joined_is s.known in
      let is : seen_in w ≡ seen_in p ++ s.between = ap seen_in s.view ∙ (λ i. seen_in (joined_is i) ++ s.between) in
      subst (λ (l : List Call). IsPrefix (history_of (seen_in n)) (history_of l)) (sym is) (history_prefix (seen_in n) (seen_in p ++ s.between) known.1.0)
