-- What the words of the newest writer say, and which writers of the queue wait, while writes are stalled or aren't.
use Rattle.std.proofs.Common.{◌≡◌, ◌≢◌, ℕ, ◌<◌, ◌≤◌, List, [], ◌∷◌, ◌⊎◌, inl, inr, get_or, refl, sym, ap, ◌∙◌, subst, arith}
use Rattle.line_rule.specs.declared.view.QueuedWriter.{QueuedWriter}
use Rattle.line_rule.specs.declared.view.Stall.{Stall}
use Rattle.line_rule.specs.declared.view.Stall.TheVariants.{Aimed, Stopped, Holds as Held, Owes}
use Rattle.line_rule.specs.Chain.{Absent, Within, newest_from}
use Rattle.line_rule.specs.Events.{LogHolder, halted, IsRunning, IsNotWith}
use Rattle.line_rule.specs.Standing.{Phase, linked, held, dropped, Pause, calm, aimed, stopped, holding, owing, Names, Mode, open_, waits, led, built, cut, marked, base_of, pause_of}
use Rattle.line_rule.specs.Rule.{AllQueued, OwesTo, Shows, held_in}
use Rattle.line_rule.proofs.Chains.{put, put_at, linked_change}
use Rattle.line_rule.proofs.Groups.{linked_out, absent_append}
use Rattle.line_rule.specs.declared.words.TheConstants.{STALL}

-- the words of the newest writer stay
pub names_stay : {Request : Type 0} (words ws : List ℕ) (k : ℕ) (t : Pause Request) → get_or ws 0 0 ≡ get_or words 0 0 → get_or ws 3 0 ≡ get_or words 3 0 → Names words k t → Names ws k t
names_stay words ws k calm a b ok = a ∙ ok
names_stay words ws k (aimed w) a b ok = (a ∙ ok.0, b ∙ ok.1)
names_stay words ws k (stopped w) a b ok = (a ∙ ok.0, b ∙ ok.1, ok.2)
names_stay words ws k (holding w x) a b ok = (a ∙ ok.0, b ∙ ok.1, ok.2)
names_stay words ws k (owing w x) a b ok = (a ∙ ok.0, b ∙ ok.1, ok.2)

-- where the word 0 isn't the marker of a stall, it names the newest writer
pub names_free : {Request : Type 0} (words : List ℕ) (k : ℕ) (t : Pause Request) → get_or words 0 0 ≢ STALL → Names words k t → get_or words 0 0 ≡ k
names_free words k calm ne ok = ok
names_free words k (aimed w) ne ok = ok.0
names_free words k (stopped w) ne ok = absurd (ne ok.0)
names_free words k (holding w x) ne ok = absurd (ne ok.0)
names_free words k (owing w x) ne ok = absurd (ne ok.0)

-- another writer comes
pub names_grow : {Request : Type 0} (words ws : List ℕ) (k c : ℕ) (t : Pause Request) → get_or words 0 0 ≢ STALL → get_or ws 0 0 ≡ c → get_or ws 3 0 ≡ get_or words 3 0 → Names words k t → Names ws c t
names_grow words ws k c calm ne a b ok = a
names_grow words ws k c (aimed w) ne a b ok = (a, b ∙ ok.1)
names_grow words ws k c (stopped w) ne a b ok = absurd (ne ok.0)
names_grow words ws k c (holding w x) ne a b ok = absurd (ne ok.0)
names_grow words ws k c (owing w x) ne a b ok = absurd (ne ok.0)

-- where nobody stalls writes, the word 0 names the newest writer
pub first_calm : {Request : Type 0} (words : List ℕ) (line : List (QueuedWriter Request)) (mode now : Mode Request) → mode ≡ now → pause_of now ≡ calm → Names words (newest_from (base_of mode) line) (pause_of mode) → get_or words 0 0 ≡ newest_from (base_of mode) line
first_calm words line mode now is none ok = subst (Names words (newest_from (base_of mode) line)) (ap pause_of is ∙ none) ok

-- the word 0 is below 256
pub names_small : {Request : Type 0} (words : List ℕ) (k : ℕ) (t : Pause Request) → Names words k t → (get_or words 0 0 ≡ k) ⊎ (get_or words 0 0 ≡ STALL)
names_small words k calm ok = inl ok
names_small words k (aimed w) ok = inl ok.0
names_small words k (stopped w) ok = inr ok.0
names_small words k (holding w x) ok = inr ok.0
names_small words k (owing w x) ok = inr ok.0

module _ {Request Reply : Type 0} where
  -- the queue, where one client moves
  pub queued_change : (phase : ℕ → Phase Request Reply) (due due' : ℕ → List (Request × Reply)) (m : ℕ) (ph : Phase Request Reply) (c : ℕ) (queue : List (QueuedWriter Request)) (t : Pause Request) → ((e : QueuedWriter Request) → phase m ≡ linked e → ph ≡ linked e)
      → ((e : QueuedWriter Request) → phase m ≡ held c e → ph ≡ held c e) → ((k : ℕ) → due k ≡ [] → due' k ≡ []) → AllQueued phase due c queue t → AllQueued (put phase m ph) due' c queue t
  queued_change phase due due' m ph c queue calm to_k to_g nil ok = linked_change phase m ph queue to_k ok
  queued_change phase due due' m ph c queue (aimed w) to_k to_g nil ok = linked_change phase m ph queue to_k ok
  queued_change phase due due' m ph c queue (stopped w) to_k to_g nil ok = linked_change phase m ph queue to_k ok
  queued_change phase due due' m ph c queue (holding w x) to_k to_g nil ok =
      (ok.0, ok.1, ok.2, linked_change phase m ph ok.0 to_k ok.3, linked_change phase m ph ok.1 to_k ok.4, put_at phase m ph (λ k f. phase k ≡ held c x → f ≡ held c x) x.by (λ is here. to_g x (ap phase (sym is) ∙ here)) (λ _ here. here) ok.5, nil x.by ok.6)
  queued_change phase due due' m ph c queue (owing w x) to_k to_g nil ok = linked_change phase m ph queue to_k ok

  -- a client that isn't linked, and whose request isn't with the leader, isn't in the queue
  pub queued_out : (phase : ℕ → Phase Request Reply) (due : ℕ → List (Request × Reply)) (c k : ℕ) (queue : List (QueuedWriter Request)) (t : Pause Request) → ((e : QueuedWriter Request) → phase k ≡ linked e → ⊥) → ((e : QueuedWriter Request) → phase k ≡ held c e → due k ≡ [] → ⊥)
      → AllQueued phase due c queue t → Absent k queue
  queued_out phase due c k queue calm no_l no_t ok = linked_out phase k queue no_l ok
  queued_out phase due c k queue (aimed w) no_l no_t ok = linked_out phase k queue no_l ok
  queued_out phase due c k queue (stopped w) no_l no_t ok = linked_out phase k queue no_l ok
  queued_out phase due c k queue (holding w x) no_l no_t ok =
      subst (Absent k) (sym ok.2) (absent_append k ok.0 (x ∷ ok.1) (linked_out phase k ok.0 no_l ok.3) ((λ e. no_t x (ap phase (sym e) ∙ ok.5) (ap due (sym e) ∙ ok.6)), linked_out phase k ok.1 no_l ok.4))
  queued_out phase due c k queue (owing w x) no_l no_t ok = linked_out phase k queue no_l ok

  pub queued_grows : (phase : ℕ → Phase Request Reply) (due : ℕ → List (Request × Reply)) (c : ℕ) (e0 : QueuedWriter Request) (queue : List (QueuedWriter Request)) (t : Pause Request) → phase e0.by ≡ linked e0 → AllQueued phase due c queue t → AllQueued phase due c (e0 ∷ queue) t
  queued_grows phase due c e0 queue calm here ok = (here, ok)
  queued_grows phase due c e0 queue (aimed w) here ok = (here, ok)
  queued_grows phase due c e0 queue (stopped w) here ok = (here, ok)
  queued_grows phase due c e0 queue (holding w x) here ok = (e0 ∷ ok.0, ok.1, ap (λ l. e0 ∷ l) ok.2, (here, ok.3), ok.4, ok.5, ok.6)
  queued_grows phase due c e0 queue (owing w x) here ok = (here, ok)

  -- a leader still owes what it owed
  pub owes_stay : (phase phase' : ℕ → Phase Request Reply) (k : ℕ) (t : Stall Request Reply) → ((x : QueuedWriter Request) (p : Reply) → phase x.by ≡ dropped k x p → phase' x.by ≡ dropped k x p) → OwesTo phase k t → OwesTo phase' k t
  owes_stay phase phase' k (Aimed w) to ok = tt
  owes_stay phase phase' k (Stopped w) to ok = tt
  owes_stay phase phase' k (Held w x) to ok = tt
  owes_stay phase phase' k (Owes w x p) to ok = to x p ok

module _ {Request : Type 0} where
  -- whoever isn't of the group isn't with the log
  pub not_with : (c : ℕ) (own : QueuedWriter Request) (g : List (QueuedWriter Request)) (t : Pause Request) → Absent c (own ∷ g) → IsNotWith c (held_in t own g)
  not_with c own g calm out = out
  not_with c own g (aimed w) out = out
  not_with c own g (stopped w) out = out
  not_with c own g (holding w x) out = out
  not_with c own g (owing w x) out = out

  runs_in : (words : List ℕ) (k : ℕ) (own : QueuedWriter Request) (g : List (QueuedWriter Request)) (t : Pause Request) → get_or words 0 0 ≢ STALL → Names words k t → IsRunning (held_in t own g)
  runs_in words k own g calm ne ok = tt
  runs_in words k own g (aimed w) ne ok = tt
  runs_in words k own g (stopped w) ne ok = absurd (ne ok.0)
  runs_in words k own g (holding w x) ne ok = absurd (ne ok.0)
  runs_in words k own g (owing w x) ne ok = absurd (ne ok.0)

  -- where the word 0 isn't the marker, nobody stalls writes
  pub running : (words : List ℕ) (k : ℕ) (line queue : List (QueuedWriter Request)) (log : LogHolder Request) → get_or words 0 0 ≢ STALL → (mode : Mode Request) → Names words k (pause_of mode) → Shows line queue log mode → IsRunning log
  running words k line queue log ne open_ ok sh = subst IsRunning (sym sh.1) tt
  running words k line queue log ne (waits c) ok sh = subst IsRunning (sym sh.1) tt
  running words k line queue log ne (led c) ok sh = subst IsRunning (sym sh.1) tt
  running words k line queue log ne (built c g t) ok sh = subst IsRunning (sym sh.1) (runs_in words k sh.0.0 g t ne ok)
  running words k line queue log ne (cut c w) ok sh = subst IsRunning (sym sh.1.2) tt
  running words k line queue log ne (marked c) ok sh = subst IsRunning (sym sh.1.2) tt

  -- no writer of the list has the number of the marker
  pub newest_unmarked : (n : ℕ) (mode : Mode Request) (line : List (QueuedWriter Request)) → n < STALL → Within n line → newest_from (base_of mode) line ≢ STALL
  newest_unmarked n mode (e ∷ es) few ok = λ is. let hi : e.by ≤ n = ok.1 in omega arith
  newest_unmarked n open_ [] few ok = λ is. omega arith
  newest_unmarked n (waits c) [] few ok = λ is. omega arith
  newest_unmarked n (led c) [] few ok = λ is. omega arith
  newest_unmarked n (built c g t) [] few ok = λ is. omega arith
  newest_unmarked n (cut c w) [] few ok = λ is. omega arith
  newest_unmarked n (marked c) [] few ok = λ is. omega arith

  halts_in : (words : List ℕ) (k : ℕ) (own : QueuedWriter Request) (g : List (QueuedWriter Request)) (t : Pause Request) → k ≢ STALL → get_or words 0 0 ≡ STALL → Names words k t → held_in t own g ≡ halted own g
  halts_in words k own g calm ne is ok = absurd (ne (sym ok ∙ is))
  halts_in words k own g (aimed w) ne is ok = absurd (ne (sym ok.0 ∙ is))
  halts_in words k own g (stopped w) ne is ok = refl
  halts_in words k own g (holding w x) ne is ok = refl
  halts_in words k own g (owing w x) ne is ok = refl

  -- where the word 0 is the marker, a leader stalls writes
  pub halting : (words : List ℕ) (k : ℕ) (line queue : List (QueuedWriter Request)) (log : LogHolder Request) → k ≢ STALL → get_or words 0 0 ≡ STALL → (mode : Mode Request) → Names words k (pause_of mode) → Shows line queue log mode
      → (own : QueuedWriter Request) × (group : List (QueuedWriter Request)) × (log ≡ halted own group)
  halting words k line queue log ne is open_ ok sh = absurd (ne (sym ok ∙ is))
  halting words k line queue log ne is (waits c) ok sh = absurd (ne (sym ok ∙ is))
  halting words k line queue log ne is (led c) ok sh = absurd (ne (sym ok ∙ is))
  halting words k line queue log ne is (built c g t) ok sh = (sh.0.0, g, sh.1 ∙ halts_in words k sh.0.0 g t ne is ok)
  halting words k line queue log ne is (cut c w) ok sh = absurd (ne (sym ok ∙ is))
  halting words k line queue log ne is (marked c) ok sh = absurd (ne (sym ok ∙ is))
