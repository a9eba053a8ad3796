-- What a leader's pass has seen of the write controller while the leader asks for its group.
use Rattle.std.proofs.Common.{◌≡◌, ◌≢◌, inr, ℕ, zero, suc, ◌+◌, ◌<◌, ◌≤◌, false, List, [], ◌∷◌, ◌++◌, fold, map, max, take, drop, reverse, get_or, Option, Some, None, IfSome, length, refl, sym, ap, ◌∙◌, subst, arith, append_assoc, append-nil, length-append}
use Rattle.std.specs.List.{AllByRecursion, AllZip}
use Rattle.std.proofs.Props.{props}
use Rattle.std.proofs.lemmas.List.{take_more}
use Rattle.std.proofs.lemmas.List.Sums.{fold-append}
use mathlib.Core.List.{IsPrefix}
use Rattle.model_base.specs.declared.limits.TheConstants.{MAX_SIZE}
use Rattle.model_base.specs.Controller as controller
use Rattle.model_base.specs.Controller.{ControllerCall, Look, IsLegal, look, delay, say}
use Rattle.model_base.specs.Batch.{count_of, size_of_batch}
use Rattle.model_base.specs.Grouping.{size_of}
use Rattle.model_base.specs.Tokens.{tokens_of, said_in}
use Rattle.table_rule.specs.Batches.{new_versions}
use Rattle.table_rule.specs.declared.content.Version.{Version}
use Rattle.engine_controller.specs.Delays.{delays_of}
use Rattle.engine_controller.specs.Passes.{GoesOn, EndsWith, seen_by}
use Rattle.engine_controller.specs.Noted.{Noted}
use Rattle.engine_controller.specs.declared.pass.Pass.{Pass}
use Rattle.engine_controller.specs.Rule.{seen_in}
use Rattle.crossbeam_utils.specs.Seq.{cell_view}
use Rattle.engine_controller.proofs.Account.{ends_begins, ends_last, ends_tokens}
use Rattle.engine_controller.proofs.Places.{ends_delays}
use Rattle.engine_controller.proofs.Histories.{legal_from}
use Rattle.engine_rule.specs.Plans.{CommitRequest, item_of_request, LetsProceed}
use Rattle.engine_rule.proofs.OneGroup.{all_append, prefix_trans}
use Rattle.engine_parts.specs.declared.requests.Delay.{Delay}
use Rattle.engine_parts.specs.declared.requests.Request.{Request}
use Rattle.engine_parts.specs.declared.requests.Answer.{Answer}
use Rattle.engine_parts.specs.Handled.{IsDelayed, IsHeldUp, commit_request_of, commit_requests_of, noted_in}
use Rattle.engine_parts.specs.Asking.{all_seen, greatest_shown, HasAskedFor, HasLearned, OnlyLooks}

-- Histories that go on

-- what a pass has seen is legal
pub legal_seen : (pass : Pass) → IsLegal (seen_by pass)
legal_seen pass = legal_from controller.opening (seen_in (cell_view pass.seat))

pub prefix_same : {X : Type 0} (xs : List X) → IsPrefix xs xs
prefix_same xs = ([], append-nil xs)

pub goes_none : (client : ℕ) (seen : List ControllerCall) → IsLegal seen → GoesOn client seen seen
goes_none client seen legal = record { between = []; is = sym (append-nil seen); others = tt; legal = legal }

pub goes_on : (client : ℕ) (before middle after : List ControllerCall) → GoesOn client before middle → GoesOn client middle after → GoesOn client before after
goes_on client before middle after g h = record {
  between = g.between ++ h.between;
  is = h.is ∙ (ap (λ l. l ++ h.between) g.is ∙ append_assoc before g.between h.between);
  others = all_append (λ (t : ControllerCall). t.client ≢ client) g.between h.between g.others h.others;
  legal = h.legal;
}

-- What members had seen

abbrev pub Saw : List ControllerCall → ℕ × Request → Type 0
Saw after x = IsPrefix (noted_in x.1.note) after

-- these calls end with a delay that was asked for the member, after all that its note shows, and say no less than what
-- its client had been shown
abbrev pub WasAsked : List ControllerCall → Look → ℕ × Request → Type 0
WasAsked known numbers x = IsDelayed (noted_in x.1.note) known numbers × (x.1.shown ≤ said_in known)

pub members_on : (middle after : List ControllerCall) → IsPrefix middle after → (requests : List (ℕ × Request)) → AllByRecursion (Saw middle) requests → AllByRecursion (Saw after) requests
members_on middle after p [] h = tt
members_on middle after p (x ∷ requests) h = (prefix_trans (noted_in x.1.note) middle after h.0 p, members_on middle after p requests h.1)

pub learned_none : (client : ℕ) (seen : List ControllerCall) → IsLegal seen → HasLearned client seen [] seen
learned_none client seen legal = record { goes_on = goes_none client seen legal; members = tt }

pub learned_more : (client : ℕ) (seen middle after : List ControllerCall) (requests : List (ℕ × Request)) (x : ℕ × Request) → HasLearned client seen requests middle → GoesOn client middle after → Saw after x
    → HasLearned client seen (requests ++ x ∷ []) after
learned_more client seen middle after requests x l g saw = record {
  goes_on = goes_on client seen middle after l.goes_on g;
  members = all_append (Saw after) requests (x ∷ []) (members_on middle after (g.between, sym g.is) requests l.members) (saw, tt);
}

-- a member without a note adds nothing to learn
pub learned_nothing : (client : ℕ) (seen middle : List ControllerCall) (requests : List (ℕ × Request)) (x : ℕ × Request) → HasLearned client seen requests middle → x.1.note ≡ None
    → HasLearned client seen (requests ++ x ∷ []) middle
learned_nothing client seen middle requests x l none = record {
  goes_on = l.goes_on;
  members = all_append (Saw middle) requests (x ∷ []) l.members (subst (λ (o : Option Noted). IsPrefix (noted_in o) middle) (sym none) (middle, refl), tt);
}

-- a request after its note was taken
abbrev pub unnoted : ℕ × Request → ℕ × Request
unnoted x = (x.0, record x.1 { note = None })

-- a request stays the same whichever proofs it has of its own facts
versions_prop : (a b : List Version) → IsProp (a ≡ b)
versions_prop a b = hlevel props

low_prop : (m n : ℕ) → IsProp (m ≤ n)
low_prop m n = hlevel props

none_prop : (m n : ℕ) → IsProp (m ≡ n)
none_prop m n = hlevel props

-- a write has at least one record that counts, and a read of the log has none
pub write_counts : (q : Request) → q.since ≡ None → 1 ≤ count_of q.batch.records
write_counts q is = q.some is

pub read_counts : (q : Request) (since : ℕ) → q.since ≡ Some since → count_of q.batch.records ≡ 0
read_counts q since is = q.none since is

abbrev pub noting : (q : Request) → Option Noted → q.nodes ≡ reverse (new_versions q.batch.records) → (q.since ≡ None → 1 ≤ count_of q.batch.records) → ((since : ℕ) → q.since ≡ Some since → count_of q.batch.records ≡ 0) → size_of_batch q.batch.records ≤ MAX_SIZE → Request
noting q n m s z l = record { batch = q.batch; nodes = q.nodes; options = q.options; note = n; since = q.since; shown = q.shown; made_of = m; some = s; none = z; small = l }

-- the request with this note
pub noting_as : (q : Request) (n o : Option Noted) (m : q.nodes ≡ reverse (new_versions q.batch.records)) (s : q.since ≡ None → 1 ≤ count_of q.batch.records) (z : (since : ℕ) → q.since ≡ Some since → count_of q.batch.records ≡ 0) (l : size_of_batch q.batch.records ≤ MAX_SIZE) → n ≡ o → noting q n m s z l ≡ record q { note = o }
noting_as q n o m s z l is = λ i. record {
  batch = q.batch;
  nodes = q.nodes;
  options = q.options;
  note = is i;
  since = q.since;
  shown = q.shown;
  made_of = versions_prop q.nodes (reverse (new_versions q.batch.records)) m q.made_of i;
  some = λ write. low_prop 1 (count_of q.batch.records) (s write) (q.some write) i;
  none = λ since read. none_prop (count_of q.batch.records) 0 (z since read) (q.none since read) i;
  small = low_prop (size_of_batch q.batch.records) MAX_SIZE l q.small i;
}

pub half_at : {X : Type 0} (f : X → X) (xs : List X) (i : ℕ) (d : X) → i < length xs → get_or (map f (take i xs) ++ drop i xs) i d ≡ get_or xs i d
half_at f [] i d h = absurd (omega arith)
half_at f (x ∷ xs) zero d h = refl
half_at f (x ∷ xs) (suc i) d h = half_at f xs i d (omega (arith, h))

pub all_at : {X : Type 0} (P : X → Type 0) (xs : List X) (i : ℕ) (d : X) → i < length xs → AllByRecursion P xs → P (get_or xs i d)
all_at P [] i d h a = absurd (omega arith)
all_at P (x ∷ xs) zero d h a = a.0
all_at P (x ∷ xs) (suc i) d h a = all_at P xs i d (omega (arith, h)) a.1

pub some_holds : {X : Type 0} (P : X → Type 0) (o : Option X) (x : X) → o ≡ Some x → IfSome o P → P x
some_holds P o x is h = subst (λ o. IfSome o P) is h

-- What members had been shown

abbrev pub HadAtMost : ℕ → ℕ × Request → Type 0
HadAtMost most x = x.1.shown ≤ most

-- the greatest of a number and those of the members
abbrev pub shown_from : ℕ → List (ℕ × Request) → ℕ
shown_from most requests = fold (λ most (x : ℕ × Request). max most x.1.shown) most requests

-- one more member is looked at
pub shown_more : (requests : List (ℕ × Request)) (i : ℕ) (d : ℕ × Request) → i < length requests → greatest_shown (take (i + 1) requests) ≡ max (greatest_shown (take i requests)) (get_or requests i d).1.shown
shown_more requests i d h = ap greatest_shown (take_more requests i d h) ∙ fold-append (λ most (x : ℕ × Request). max most x.1.shown) 0 (take i requests) (get_or requests i d ∷ [])

-- taking the notes changes nothing of it
shown_unseen : (most : ℕ) (requests : List (ℕ × Request)) → shown_from most (all_seen requests) ≡ shown_from most requests
shown_unseen most [] = refl
shown_unseen most (x ∷ requests) = shown_unseen (max most x.1.shown) requests

shown_at_least : (most : ℕ) (requests : List (ℕ × Request)) → most ≤ shown_from most requests
shown_at_least most [] = omega arith
shown_at_least most (x ∷ requests) = let rest = shown_at_least (max most x.1.shown) requests in omega (arith, rest)

-- no member had been shown more
pub shown_by_all : (most : ℕ) (requests : List (ℕ × Request)) → AllByRecursion (HadAtMost (shown_from most requests)) requests
shown_by_all most [] = tt
shown_by_all most (x ∷ requests) = ((let rest = shown_at_least (max most x.1.shown) requests in omega (arith, rest)), shown_by_all (max most x.1.shown) requests)

-- The delay

pub unseen_commits : (requests : List (ℕ × Request)) → commit_requests_of (all_seen requests) ≡ commit_requests_of requests
unseen_commits [] = refl
unseen_commits (x ∷ requests) = ap (λ l. commit_request_of x ∷ l) (unseen_commits requests)

pub asked_for : (client : ℕ) (seen first second third after asked : List ControllerCall) (requests new : List (ℕ × Request)) (numbers : Look) (most now bytes : ℕ) → GoesOn client seen first → IsPrefix asked first → HasLearned client first requests second
    → new ≡ all_seen requests → most ≡ greatest_shown new → EndsWith client second (say most) None third
    → bytes ≡ size_of (map item_of_request (commit_requests_of new)) → EndsWith client third (delay now bytes) (Some numbers) after → HasAskedFor client seen asked requests numbers after
asked_for client seen first second third after asked requests new numbers most now bytes g p l new_is most_is says bytes_is e =
    let greatest : most ≡ greatest_shown requests = most_is ∙ (ap greatest_shown new_is ∙ shown_unseen 0 requests) in
    let size : bytes ≡ size_of (map item_of_request (commit_requests_of requests)) = bytes_is ∙ ap (λ (cs : List CommitRequest). size_of (map item_of_request cs)) (ap commit_requests_of new_is ∙ unseen_commits requests) in
    record {
      learned = second;
      goes_on = goes_on client seen first second g l.goes_on;
      leaders = prefix_trans asked first second p (l.goes_on.between, sym l.goes_on.is);
      members = l.members;
      said = third;
      says = subst (λ (n : ℕ). EndsWith client second (say n) None third) greatest says;
      now = now;
      asks = subst (λ (b : ℕ). EndsWith client third (delay now b) (Some numbers) after) size e;
    }

-- Looks

pub only_none : (client : ℕ) (seen : List ControllerCall) → OnlyLooks client seen seen
only_none client seen = record { begins = prefix_same seen; tokens = refl; delays = refl }

pub only_more : (client : ℕ) (seen middle after : List ControllerCall) (told : Option Look) → OnlyLooks client seen middle → EndsWith client middle look told after → OnlyLooks client seen after
only_more client seen middle after told o e = record {
  begins = prefix_trans seen middle after o.begins (ends_begins client middle look told after e);
  tokens = ends_tokens client middle look told after e ∙ (append-nil (tokens_of client middle) ∙ o.tokens);
  delays = ends_delays client middle look told after e ∙ (append-nil (delays_of client middle) ∙ o.delays);
}

-- a look that shows no stop lets a group that may wait go on
pub looked_free : (client : ℕ) (known middle after : List ControllerCall) (first numbers : Look) → IsPrefix known middle → EndsWith client middle look (Some numbers) after → numbers.stops ≡ 0 → LetsProceed client first known after false
looked_free client known middle after first numbers p e free =
    let last = ends_last client middle look (Some numbers) after e in
    inr record {
      place = last.place;
      numbers = numbers;
      is_later = record { later = (let l = ap length p.1 in let n = length-append known p.0 in let m = last.is_later.later in omega (arith, l, n, m)); there = last.is_later.there };
      free = free;
    }

-- Lists

pub zip_snoc : {A B : Type 0} (R : A → B → Type 0) (xs : List A) (ys : List B) (x : A) (y : B) → AllZip R xs ys → R x y → AllZip R (xs ++ x ∷ []) (ys ++ y ∷ [])
zip_snoc R [] [] x y h r = (r, tt)
zip_snoc R [] (z ∷ ys) x y h r = absurd h
zip_snoc R (w ∷ xs) [] x y h r = absurd h
zip_snoc R (w ∷ xs) (z ∷ ys) x y h r = (h.0, zip_snoc R xs ys x y h.1 r)

-- one more member is refused
pub held_more : (d : Delay) (n : Look) (all requests left : List (ℕ × Request)) (replies now : List (ℕ × Answer)) (x : ℕ × Request) (y : ℕ × Answer)
    → (taken : List (ℕ × Request)) × (taken ++ requests ≡ all) × AllZip (IsHeldUp d n) taken replies
    → requests ≡ x ∷ left → now ≡ replies ++ y ∷ [] → IsHeldUp d n x y → (taken : List (ℕ × Request)) × (taken ++ left ≡ all) × AllZip (IsHeldUp d n) taken now
held_more d n all requests left replies now x y t first put held = (
  t.0 ++ x ∷ [],
  append_assoc t.0 (x ∷ []) left ∙ (ap (λ (l : List (ℕ × Request)). t.0 ++ l) (sym first) ∙ t.1),
  subst (AllZip (IsHeldUp d n) (t.0 ++ x ∷ [])) (sym put) (zip_snoc (IsHeldUp d n) t.0 replies x y t.2 held),
)
