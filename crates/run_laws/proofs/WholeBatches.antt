-- Reads see whole batches.
use Rattle.std.proofs.Common.{◌≡◌, ◌⊎◌, ℕ, ◌+◌, ◌<◌, List, [], ◌∷◌, ◌++◌, map, Option, Some, None, MatchOption, refl, sym, ap, ◌∙◌, subst, inl, inr, arith}
use Rattle.std.specs.Prelude.{Bool, IsTrue}
use Rattle.std.specs.List.{AllByRecursion}
use Rattle.model_base.specs.declared.key.Key.{Key}
use Rattle.model_base.specs.declared.write.Refusal.{Refusal}
use Rattle.model_base.specs.declared.write.Refusal.TheVariants as no
use Rattle.model_base.specs.Map.{Pairs, Rows, value_at, rows_within, after_records}
use Rattle.model_base.specs.History.{Entry, Follows, IsHistory, IsUpTo, last_of, last_sequence, map_over}
use Rattle.model_base.specs.Calls.{Command, get, many, scan, Reply, refused, found, found_each, rows, no_memory, Outcome}
use Rattle.model_base.specs.Trace.{Trace, Settings}
use Rattle.model_base.specs.Progress.{Progress}
use Rattle.model_base.specs.Replies.{Replies, ReadsAt, Stays}
use Rattle.model_base.specs.Outcomes.{IsLegal}
use Rattle.model_base.specs.Script.{Script}
use Rattle.run_laws.proofs.Counts.{last_is}
use Rattle.run_laws.proofs.Splits.{comes_to}
use Rattle.run_laws.proofs.LegalRoom as history
use Rattle.run_laws.specs.WholeBatches.{IsAnswered, IsMapAt, Keeps, IsKept}

-- ---- the batches up to a sequence

history_front : (start : ℕ) (front rest : List Entry) → IsHistory start (front ++ rest) → IsHistory start front
history_front start [] rest is = tt
history_front start (e ∷ front) rest is = (is.0, history_front (last_of e) front rest is.1)

-- a history with an entry ends above its start
rises : (start : ℕ) (e : Entry) (front rest : List Entry) → IsHistory start (e ∷ front ++ rest) → start < last_sequence (last_of e) front
rises start e front rest is =
    let follows : Follows start e = is.0 in
    let some = follows.some in let first = follows.first in
    let last = last_is (last_of e) front (history_front (last_of e) front rest is.1) in
    omega (arith, some, first, last)

one_front : (start : ℕ) (f r g s : List Entry) → f ++ r ≡ g ++ s → IsHistory start (f ++ r) → last_sequence start f ≡ last_sequence start g → f ≡ g
one_front start [] r [] s e is same = refl
one_front start [] r (d ∷ g) s e is same =
    let up = rises start d g s (subst (λ (es : List Entry). IsHistory start es) e is) in absurd (omega (arith, up, same))
one_front start (c ∷ f) r [] s e is same =
    let up = rises start c f r is in absurd (omega (arith, up, same))
one_front start (c ∷ f) r (d ∷ g) s e is same =
    let head : c ≡ d = cc in
    let tail : f ++ r ≡ g ++ s = cc in
    let last = same ∙ ap (λ (x : Entry). last_sequence (last_of x) g) (sym head) in
    ap (λ (es : List Entry). c ∷ es) (one_front (last_of c) f r g s tail is.1 last) ∙ ap (λ (x : Entry). x ∷ g) head

-- ---- what each batch keeps

after_all : (holds : Pairs → Bool) (entries : List Entry) (m : Pairs) → AllByRecursion (Keeps holds) entries → IsTrue (holds m) → IsTrue (holds (map_over m entries))
after_all holds [] m all is = is
after_all holds (e ∷ es) m all is = after_all holds es (after_records m e.records) all.1 (all.0 m is)

in_front : (Q : Entry → Type 0) (front rest : List Entry) → AllByRecursion Q (front ++ rest) → AllByRecursion Q front
in_front Q [] rest all = tt
in_front Q (e ∷ es) rest all = (all.0, in_front Q es rest all.1)

pub kept : (settings : Settings) (o : Outcome) (at : ℕ) (m : Pairs) (holds : Pairs → Bool) → IsKept settings o holds → IsMapAt settings o at m → IsTrue (holds m)
kept settings o at m holds keeps is =
    let all = subst (λ (es : List Entry). AllByRecursion (Keeps holds) es) is.up_to.split keeps.by_each in
    subst (λ (n : Pairs). IsTrue (holds n)) (sym is.is_after) (after_all holds is.front settings.opening (in_front (Keeps holds) is.front is.up_to.rest all) keeps.before)

-- ---- how a read is answered

-- a read that isn't refused is of families that there are
answered : (reply : Reply) (apart : (why : Refusal) → reply ≡ refused why → ⊥) (missing : Option ℕ) (p q : Progress) (A : Type 0)
    → MatchOption missing A (λ family. (reply ≡ refused (no.NoFamily family)) × Stays p q) → A
answered reply apart None p q A a = a
answered reply apart (Some family) p q A r = absurd (apart (no.NoFamily family) r.0)

module _ (settings : Settings) (ended : ℕ) (script : Script) (o : Outcome) (legal : IsLegal settings ended script o) where
  abbrev trace : Trace
  trace = legal.trace

  -- the client's progress before and after a reply other than `no memory`
  reply_of : (client : ℕ) (command : Command) (reply : Reply) → IsAnswered o client command reply
      → ((p : Progress) × (q : Progress) × Replies settings trace (client + 1) p command reply q) ⊎ (reply ≡ no_memory)
  reply_of client command reply is =
      let t = history.right_of settings ended script o legal client is.calls is.there in
      elim (comes_to settings trace (client + 1) t.commands is.calls is.before (record { command = command; reply = reply }) is.after t.right.end is.split t.right.is_transcript) [
        | inl c ↦ inl (c.at, c.next, c.step.replies)
        | inr lacks ↦ inr lacks
      ]

  -- the map that a read saw, by the outcome's history
  seen : (A : Pairs → Type 0) (p q : Progress) (at : ℕ) → ReadsAt trace p at A q → (m : Pairs) × IsMapAt settings o at m × A m
  seen A p q at r =
      let l = legal.legal in
      let up_to : IsUpTo settings.start o.history at r.front = record {
        rest = r.is_front.rest;
        split = l.history ∙ r.is_front.split;
        ends = r.is_front.ends ∙ ap (λ (n : ℕ). last_sequence n r.front) l.is_trace.start;
      } in
      (map_over settings.opening r.front, record { front = r.front; up_to = up_to; is_after = refl }, subst (λ (m : Pairs). A (map_over m r.front)) l.is_trace.opening r.answer)

  is_history : IsHistory settings.start o.history
  is_history =
      let l = legal.legal in
      subst (λ (n : ℕ). IsHistory n o.history) l.is_trace.start (subst (λ (es : List Entry). IsHistory trace.start es) (sym l.history) l.is_trace.entries)

  same_map : (at : ℕ) (m n : Pairs) → IsMapAt settings o at m → IsMapAt settings o at n → m ≡ n
  same_map at m n a b =
      let is = subst (λ (es : List Entry). IsHistory settings.start es) a.up_to.split is_history in
      let front = one_front settings.start a.front a.up_to.rest b.front b.up_to.rest (sym a.up_to.split ∙ b.up_to.split) is (sym a.up_to.ends ∙ b.up_to.ends) in
      a.is_after ∙ ap (λ (es : List Entry). map_over settings.opening es) front ∙ sym b.is_after

pub many_by : (settings : Settings) (ended : ℕ) (script : Script) (o : Outcome) (client at : ℕ) (keys : List Key) (values : List (Option (List ℕ)))
    → IsLegal settings ended script o → IsAnswered o client (many keys) (found_each at values) → (m : Pairs) × IsMapAt settings o at m × (values ≡ map (value_at m) keys)
many_by settings ended script o client at keys values legal is =
    elim (reply_of settings ended script o legal client (many keys) (found_each at values) is) [
      | inl r ↦ seen settings ended script o legal (λ m. values ≡ map (value_at m) keys) r.0 r.1 at (answered (found_each at values) (λ why e. cc e) _ r.0 r.1 _ r.2)
      | inr lacks ↦ absurd (cc lacks)
    ]

pub get_by : (settings : Settings) (ended : ℕ) (script : Script) (o : Outcome) (client at : ℕ) (key : Key) (value : Option (List ℕ))
    → IsLegal settings ended script o → IsAnswered o client (get key) (found at value) → (m : Pairs) × IsMapAt settings o at m × (value ≡ value_at m key)
get_by settings ended script o client at key value legal is =
    elim (reply_of settings ended script o legal client (get key) (found at value) is) [
      | inl r ↦ seen settings ended script o legal (λ m. value ≡ value_at m key) r.0 r.1 at (answered (found at value) (λ why e. cc e) _ r.0 r.1 _ r.2)
      | inr lacks ↦ absurd (cc lacks)
    ]

pub scan_by : (settings : Settings) (ended : ℕ) (script : Script) (o : Outcome) (client at family : ℕ) (lo hi : List ℕ) (pairs : Rows)
    → IsLegal settings ended script o → IsAnswered o client (scan family lo hi) (rows at pairs) → (m : Pairs) × IsMapAt settings o at m × (pairs ≡ rows_within family lo hi m)
scan_by settings ended script o client at family lo hi pairs legal is =
    elim (reply_of settings ended script o legal client (scan family lo hi) (rows at pairs) is) [
      | inl r ↦ seen settings ended script o legal (λ m. pairs ≡ rows_within family lo hi m) r.0 r.1 at (answered (rows at pairs) (λ why e. cc e) _ r.0 r.1 _ r.2)
      | inr lacks ↦ absurd (cc lacks)
    ]

pub same_by : (settings : Settings) (ended : ℕ) (script : Script) (o : Outcome) (at : ℕ) (m n : Pairs)
    → IsLegal settings ended script o → IsMapAt settings o at m → IsMapAt settings o at n → m ≡ n
same_by settings ended script o at m n legal a b = same_map settings ended script o legal at m n a b
