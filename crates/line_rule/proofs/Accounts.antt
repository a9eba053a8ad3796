-- What each step of the list does to the account: an event, two events, or nothing.
use mathlib.Core.Path.{Path}
use Rattle.std.proofs.Common.{◌≡◌, ℕ, true, false, List, [], ◌∷◌, ◌++◌, refl, sym, ap, ◌∙◌, subst}
use Rattle.std.proofs.lemmas.List.{append_cancel_right}
use Rattle.line_rule.specs.declared.view.QueuedWriter.{QueuedWriter}
use Rattle.line_rule.specs.declared.view.Handling.{Handling}
use Rattle.line_rule.specs.Grouping.{IsGroup}
use Rattle.line_rule.specs.Chain.{of, Absent, handling}
use Rattle.line_rule.specs.Events.{LineEvent, comes, elects, builds, stalls, drops, resumes, exits, completes, is_hasty, LogHolder, free, elected, grouped, halted, Core, Enabled, after, IsBounded, IsOfGroup, without, IsNotWith, IsAway, IsRunning}
use Rattle.line_rule.specs.Standing.{Pause, calm, aimed, stopped, holding, owing, Mode, open_, waits, led, built, cut, marked}
use Rattle.line_rule.specs.Rule.{Shows, held_in, Account}
use Rattle.line_rule.specs.Steps.{Stays, Happens}

same_own : {A : Type 0} (a b t : List A) (x y : A) → a ++ (t ++ x ∷ []) ≡ b ++ (t ++ y ∷ []) → x ≡ y → a ≡ b
same_own a b t x y e is = append_cancel_right a b (t ++ x ∷ []) (e ∙ ap (λ z. b ++ (t ++ z ∷ [])) (sym is))

last_or : {A : Type 0} → A → List A → A
last_or d [] = d
last_or d (x ∷ xs) = last_or x xs

last_or-end : {A : Type 0} (d : A) (xs ys : List A) (x : A) → last_or d (xs ++ (ys ++ x ∷ [])) ≡ x
unfolding last_or
last_or-end d [] [] x = refl
last_or-end d [] (y ∷ ys) x = last_or-end y [] ys x
last_or-end d (y ∷ xs) ys x = last_or-end y xs ys x

same_end : {A : Type 0} (a b t : List A) (x y : A) → a ++ (t ++ x ∷ []) ≡ b ++ (t ++ y ∷ []) → x ≡ y
same_end a b t x y e = sym (last_or-end x a t x) ∙ (ap (last_or x) e ∙ last_or-end x b t y)

module _ {Request Reply : Type 0} where
  module _ (bound : ℕ) (line : List (QueuedWriter Request)) (hs : List (Handling Request Reply)) (mode : Mode Request) (k : Account bound line hs mode) where
    -- the account after an event
    abbrev next : (v : LineEvent Request Reply) (line' : List (QueuedWriter Request)) (hs' : List (Handling Request Reply)) (mode' : Mode Request) (queue : List (QueuedWriter Request)) (log : LogHolder Request) (owed : List (Handling Request Reply)) → Happens v (k.queue, k.log, hs, k.owing) (queue, log, hs', owed) → Shows line' queue log mode' → IsBounded bound v → Account bound line' hs' mode'
    next v line' hs' mode' queue log owed came shows small = record {
      events = v ∷ k.events;
      queue = queue;
      log = log;
      owing = owed;
      legal = (small, subst (λ (z : Core Request Reply). Enabled z v) (sym k.ran) came.0, k.legal);
      ran = ap (λ z. after z v) k.ran ∙ sym came.1;
      shows = shows;
    }

    -- the same account, for a list that shows another line and mode
    abbrev same : (line' : List (QueuedWriter Request)) (mode' : Mode Request) → Shows line' k.queue k.log mode' → Account bound line' hs mode'
    same line' mode' shows = record { events = k.events; queue = k.queue; log = k.log; owing = k.owing; legal = k.legal; ran = k.ran; shows = shows }

    abbrev Next : LineEvent Request Reply → List (QueuedWriter Request) → List (Handling Request Reply) → Mode Request → Type 0
    Next v line' hs' mode' = (k' : Account bound line' hs' mode') × Happens v (k.queue, k.log, hs, k.owing) (k'.queue, k'.log, hs', k'.owing) × (k'.events ≡ v ∷ k.events)

    abbrev Same : List (QueuedWriter Request) → Mode Request → Type 0
    Same line' mode' = (k' : Account bound line' hs mode') × Stays {A = Core Request Reply} (k.queue, k.log, hs, k.owing) (k'.queue, k'.log, hs, k'.owing) × (k'.events ≡ k.events)

    -- the account stays, and the log is with own's group
    abbrev Cut : QueuedWriter Request → List (QueuedWriter Request) → List (QueuedWriter Request) → Mode Request → Type 0
    Cut own g line' mode' = (k' : Account bound line' hs mode') × Stays {A = Core Request Reply} (k.queue, k.log, hs, k.owing) (k'.queue, k'.log, hs, k'.owing) × (k'.log ≡ grouped own g) × (k'.events ≡ k.events)

    more_shows : (e : QueuedWriter Request) (m : Mode Request) → (m ≡ open_ → ⊥) → Shows line k.queue k.log m → Shows (e ∷ line) (e ∷ k.queue) k.log m
    more_shows e open_ ne ok = absurd (ne refl)
    more_shows e (waits c) ne ok = (ap (λ l. e ∷ l) ok.0, ok.1)
    more_shows e (led c) ne ok = (ap (λ l. e ∷ l) ok.0, ok.1)
    more_shows e (built c g t) ne ok = ((ok.0.0, ap (λ l. e ∷ l) ok.0.1), ok.1)
    more_shows e (cut c w) ne ok = (ap (λ l. e ∷ l) ok.0, ok.1)
    more_shows e (marked c) ne ok = (ap (λ l. e ∷ l) ok.0, ok.1)

    pub comes_more : (e : QueuedWriter Request) → (mode ≡ open_ → ⊥) → IsAway e.by (k.queue, k.log, hs, k.owing) → IsRunning k.log → Next (comes e) (e ∷ line) hs mode
    comes_more e ne away runs = (next (comes e) (e ∷ line) hs mode (e ∷ k.queue) k.log k.owing ((away, runs), refl) (more_shows e mode ne k.shows) tt, ((away, runs), refl), refl)

    -- the first writer comes and leads
    pub comes_first : (e : QueuedWriter Request) → line ≡ [] → mode ≡ open_ → of e.by k.owing ≡ []
        → (k' : Account bound (e ∷ []) hs (led e.by)) × ((linked : Core Request Reply) × Happens (comes e) (k.queue, k.log, hs, k.owing) linked × Happens (elects e) linked (k'.queue, k'.log, hs, k'.owing)) × (k'.events ≡ elects e ∷ comes e ∷ k.events)
    comes_first e nil is none_owed =
        let sh : Shows line k.queue k.log open_ = subst (Shows line k.queue k.log) is k.shows in
        let none_there : k.queue ≡ [] = sym sh.0 ∙ nil in
        let away : IsAway e.by (k.queue, k.log, hs, k.owing) = (subst (Absent e.by) (sym none_there) tt, subst (IsNotWith e.by) (sym sh.1) tt, none_owed) in
        let runs : IsRunning k.log = subst IsRunning (sym sh.1) tt in
        let may : Enabled (e ∷ k.queue, k.log, hs, k.owing) (elects e) = (sh.1, ([], ap (λ l. e ∷ l) none_there)) in (
          record {
            events = elects e ∷ comes e ∷ k.events;
            queue = e ∷ k.queue;
            log = elected e.by;
            owing = k.owing;
            legal = (tt, subst (λ (z : Core Request Reply). Enabled (after z (comes e)) (elects e)) (sym k.ran) may, (tt, subst (λ (z : Core Request Reply). Enabled z (comes e)) (sym k.ran) (away, runs), k.legal));
            ran = ap (λ z. after (after z (comes e)) (elects e)) k.ran;
            shows = (ap (λ l. e ∷ l) (sym none_there), refl);
          },
          ((e ∷ k.queue, k.log, hs, k.owing), ((away, runs), refl), (may, refl)),
          refl,
        )

    pub leads_now : (c : ℕ) (e : QueuedWriter Request) (q : List (QueuedWriter Request)) → mode ≡ waits c → e.by ≡ c → line ≡ q ++ e ∷ [] → Next (elects e) line hs (led c)
    leads_now c e q is by_c parts =
        let sh : Shows line k.queue k.log (waits c) = subst (Shows line k.queue k.log) is k.shows in
        let came : Happens (elects e) (k.queue, k.log, hs, k.owing) (k.queue, elected e.by, hs, k.owing) = ((sh.1, (q, sym sh.0 ∙ parts)), refl) in
        (next (elects e) line hs (led c) k.queue (elected e.by) k.owing came (sh.0, ap elected by_c) tt, came, refl)

    pub builds_now : (c : ℕ) (own : QueuedWriter Request) (group left : List (QueuedWriter Request)) → mode ≡ led c → own.by ≡ c → line ≡ left ++ (group ++ own ∷ []) → IsGroup bound own group left → Next (builds bound own group left) line hs (built c group calm)
    builds_now c own group left is by_c parts whole =
        let sh : Shows line k.queue k.log (led c) = subst (Shows line k.queue k.log) is k.shows in
        let came : Happens (builds bound own group left) (k.queue, k.log, hs, k.owing) (left, grouped own group, hs, k.owing) = ((sh.1 ∙ ap elected (sym by_c), sym sh.0 ∙ parts, whole), refl) in
        (next (builds bound own group left) line hs (built c group calm) left (grouped own group) k.owing came ((own, parts), refl) refl, came, refl)

    -- whose group it is, and which writers come after it
    parts_as : (c : ℕ) (g : List (QueuedWriter Request)) (own : QueuedWriter Request) (q : List (QueuedWriter Request)) → mode ≡ built c g calm → line ≡ q ++ (g ++ own ∷ []) → (k.queue ≡ q) × (k.log ≡ grouped own g)
    parts_as c g own q is parts =
        let sh : Shows line k.queue k.log (built c g calm) = subst (Shows line k.queue k.log) is k.shows in
        let both : k.queue ++ (g ++ sh.0.0 ∷ []) ≡ q ++ (g ++ own ∷ []) = sym sh.0.1 ∙ parts in
        let same_one : sh.0.0 ≡ own = same_end k.queue q g sh.0.0 own both in
        (same_own k.queue q g sh.0.0 own both same_one, sh.1 ∙ ap (λ e. grouped e g) same_one)

    pub leaves_now : (c : ℕ) (g : List (QueuedWriter Request)) (own : QueuedWriter Request) (new : List (Handling Request Reply)) → mode ≡ built c g calm → line ≡ g ++ own ∷ [] → IsOfGroup own g new → Next (exits new) [] (hs ++ new) open_
    leaves_now c g own new is parts theirs =
        let t = parts_as c g own [] is parts in
        let came : Happens (exits new) (k.queue, k.log, hs, k.owing) (k.queue, free, hs ++ new, k.owing ++ new) = ((own, g, t.1, theirs), refl) in
        (next (exits new) [] (hs ++ new) open_ k.queue free (k.owing ++ new) came (sym t.0, refl) tt, came, refl)

    -- the group is cut off
    pub cuts_now : (c w : ℕ) (g : List (QueuedWriter Request)) (own : QueuedWriter Request) (q : List (QueuedWriter Request)) → mode ≡ built c g calm → line ≡ q ++ (g ++ own ∷ []) → Cut own g q (cut c w)
    cuts_now c w g own q is parts = let t = parts_as c g own q is parts in (same q (cut c w) (sym t.0, (own, g, t.1)), refl, t.1, refl)

    pub marks_now : (c : ℕ) (g : List (QueuedWriter Request)) (own : QueuedWriter Request) → mode ≡ built c g calm → line ≡ g ++ own ∷ [] → Cut own g [] (marked c)
    marks_now c g own is parts = let t = parts_as c g own [] is parts in (same [] (marked c) (sym t.0, (own, g, t.1)), refl, t.1, refl)

    pub recuts_now : (c w : ℕ) → mode ≡ marked c → Same line (cut c w)
    recuts_now c w is = (same line (cut c w) (subst (Shows line k.queue k.log) is k.shows), refl, refl)

    -- the account stays, where the mode is only written in another way
    pub stays_now : (mode' : Mode Request) → mode ≡ mode' → Same line mode'
    stays_now mode' is = (same line mode' (subst (Shows line k.queue k.log) is k.shows), refl, refl)

    -- the same, where the pause's stage changes but not whether writes are stalled
    pub restays_now : (c : ℕ) (g : List (QueuedWriter Request)) (t t' : Pause Request) → mode ≡ built c g t → ((own : QueuedWriter Request) (es : List (QueuedWriter Request)) → Path (LogHolder Request) (held_in t own es) (held_in t' own es)) → Same line (built c g t')
    restays_now c g t t' is alike =
        let sh : Shows line k.queue k.log (built c g t) = subst (Shows line k.queue k.log) is k.shows in
        (same line (built c g t') (sh.0, sh.1 ∙ alike sh.0.0 g), refl, refl)

    -- whose group it is, where its leader stalls writes or may
    pub parts_in : (c : ℕ) (g : List (QueuedWriter Request)) (t : Pause Request) (own : QueuedWriter Request) (q : List (QueuedWriter Request)) → mode ≡ built c g t → line ≡ q ++ (g ++ own ∷ []) → (k.queue ≡ q) × (k.log ≡ held_in t own g)
    parts_in c g t own q is parts =
        let sh : Shows line k.queue k.log (built c g t) = subst (Shows line k.queue k.log) is k.shows in
        let both : k.queue ++ (g ++ sh.0.0 ∷ []) ≡ q ++ (g ++ own ∷ []) = sym sh.0.1 ∙ parts in
        let same_one : sh.0.0 ≡ own = same_end k.queue q g sh.0.0 own both in
        (same_own k.queue q g sh.0.0 own both same_one, sh.1 ∙ ap (λ e. held_in t e g) same_one)

    -- writes are stalled
    pub stalls_now : (c w : ℕ) (g : List (QueuedWriter Request)) (own : QueuedWriter Request) (q : List (QueuedWriter Request)) → mode ≡ built c g (aimed w) → line ≡ q ++ (g ++ own ∷ []) → is_hasty own.code ≡ false → Next (stalls own g) line hs (built c g (stopped w))
    stalls_now c w g own q is parts slow =
        let t = parts_in c g (aimed w) own q is parts in
        let came : Happens (stalls own g) (k.queue, k.log, hs, k.owing) (k.queue, halted own g, hs, k.owing) = ((t.1, slow), refl) in
        (next (stalls own g) line hs (built c g (stopped w)) k.queue (halted own g) k.owing came ((own, parts ∙ (λ i. sym t.0 i ++ (g ++ own ∷ []))), refl) tt, came, refl)

    -- and are no longer
    pub resumes_now : (c w : ℕ) (g : List (QueuedWriter Request)) (own : QueuedWriter Request) (q : List (QueuedWriter Request)) → mode ≡ built c g (stopped w) → line ≡ q ++ (g ++ own ∷ []) → Next (resumes own g) line hs (built c g calm)
    resumes_now c w g own q is parts =
        let t = parts_in c g (stopped w) own q is parts in
        let came : Happens (resumes own g) (k.queue, k.log, hs, k.owing) (k.queue, grouped own g, hs, k.owing) = (t.1, refl) in
        (next (resumes own g) line hs (built c g calm) k.queue (grouped own g) k.owing came ((own, parts ∙ (λ i. sym t.0 i ++ (g ++ own ∷ []))), refl) tt, came, refl)

    -- a writer leaves the queue
    pub drops_now : (c w w' : ℕ) (x : QueuedWriter Request) (g newer older : List (QueuedWriter Request)) (own : QueuedWriter Request) (p : Reply) → mode ≡ built c g (holding w x) → line ≡ (newer ++ x ∷ older) ++ (g ++ own ∷ []) → Absent x.by (newer ++ older) → is_hasty x.code ≡ true → Next (drops newer x older p) ((newer ++ older) ++ (g ++ own ∷ [])) hs (built c g (owing w' x))
    drops_now c w w' x g newer older own p is parts out hasty =
        let t = parts_in c g (holding w x) own (newer ++ x ∷ older) is parts in
        let came : Happens (drops newer x older p) (k.queue, k.log, hs, k.owing) (newer ++ older, k.log, hs, k.owing ++ handling x p ∷ []) = (((own, g, t.1), t.0, out, hasty), refl) in
        (next (drops newer x older p) ((newer ++ older) ++ (g ++ own ∷ [])) hs (built c g (owing w' x)) (newer ++ older) k.log (k.owing ++ handling x p ∷ []) came ((own, refl), t.1) tt, came, refl)

    pub wakes_now : (c w : ℕ) (own : QueuedWriter Request) (g : List (QueuedWriter Request)) (new : List (Handling Request Reply)) → mode ≡ cut c w → k.log ≡ grouped own g → IsOfGroup own g new → Next (exits new) line (hs ++ new) (waits w)
    wakes_now c w own g new is has theirs =
        let sh : Shows line k.queue k.log (cut c w) = subst (Shows line k.queue k.log) is k.shows in
        let came : Happens (exits new) (k.queue, k.log, hs, k.owing) (k.queue, free, hs ++ new, k.owing ++ new) = ((own, g, has, theirs), refl) in
        (next (exits new) line (hs ++ new) (waits w) k.queue free (k.owing ++ new) came (sh.0, refl) tt, came, refl)

    pub frees_now : (c : ℕ) (own : QueuedWriter Request) (g : List (QueuedWriter Request)) (new : List (Handling Request Reply)) → mode ≡ marked c → line ≡ [] → k.log ≡ grouped own g → IsOfGroup own g new → Next (exits new) [] (hs ++ new) open_
    frees_now c own g new is nil has theirs =
        let sh : Shows line k.queue k.log (marked c) = subst (Shows line k.queue k.log) is k.shows in
        let came : Happens (exits new) (k.queue, k.log, hs, k.owing) (k.queue, free, hs ++ new, k.owing ++ new) = ((own, g, has, theirs), refl) in
        (next (exits new) [] (hs ++ new) open_ k.queue free (k.owing ++ new) came (sym nil ∙ sh.0, refl) tt, came, refl)

    -- a client gets its reply
    pub completes_now : (h : Handling Request Reply) → of h.by k.owing ≡ (h.asked, h.reply) ∷ [] → Next (completes h) line hs mode
    completes_now h owed =
        let came : Happens (completes h) (k.queue, k.log, hs, k.owing) (k.queue, k.log, hs, without h.by k.owing) = (owed, refl) in
        (next (completes h) line hs mode k.queue k.log (without h.by k.owing) came k.shows tt, came, refl)

  abbrev pub opens_now : (bound : ℕ) → Account {Request = Request} {Reply = Reply} bound [] [] open_
  opens_now bound = record { events = []; queue = []; log = free; owing = []; legal = tt; ran = refl; shows = (refl, refl) }
