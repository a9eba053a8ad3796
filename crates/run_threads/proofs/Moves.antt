-- From clients to jobs, and back.
use Rattle.std.proofs.Common.{◌≡◌, ℕ, zero, suc, ◌+◌, ◌^◌, ◌<◌, ◌≤◌, Some, List, [], ◌∷◌, ◌++◌, length, map, take, drop, get_or, slice_get, refl, ap, sym, ◌∙◌, subst, arith, length-append, Vec, vec_len, vec_capacity, inl, inr, ◌⊎◌}
use Rattle.std.proofs.lemmas.Option.{slice_get-map, slice_get_cases, slice_get-get_or}
use Rattle.std.proofs.lemmas.List.{length-map, get_or_push, get_or_append_left}
use Rattle.std.proofs.Math.ListN.{get_or-map}
use Rattle.std.proofs.Math.Seq.{take-append_seam}
use Rattle.std.specs.Option.{option_map}
use Rattle.std.specs.List.{AllZip, AllByRecursion}
use Rattle.std.specs.declared.alloc.Global.{Global}
use Rattle.std.proofs.lemmas.Bool.{cases_lt}
use Rattle.model_base.specs.declared.limits.TheConstants.{MAX_SIZE}
use Rattle.model_base.specs.Batch.{size_of_batch}
use Rattle.model_base.specs.Trace.{Settings}
use Rattle.model_base.specs.Calls.{Command, Call}
use Rattle.run_outcome.specs.declared.reply.Reply.{Reply}
use Rattle.run_outcome.specs.Shows.{ShowsReplies}
use Rattle.run_scripts.specs.Scripts.{additions_of}
use Rattle.model_accounts.specs.Accounts.{Account}
use Rattle.model_accounts.specs.Closing.{AreOurs}
use Rattle.model_accounts.specs.ClientRuns.{HasRun}
use Rattle.run_threads.specs.declared.batches.ClientBatches.{ClientBatches}
use Rattle.run_threads.specs.declared.jobs.Job.{Job}
use Rattle.run_threads.specs.Answers.{accepted_in, ShowsAccepted}
use Rattle.run_threads.specs.Transcripts.{HasReplied}
use Rattle.run_threads.specs.Parts.{client_of, replies_of, batches_of}
use Rattle.run_threads.specs.Jobs.{FitBatches, AreNew, HaveReplied, HaveEntries, AreNone, IsRoom, AreReady, AreDone}
use Rattle.run_threads.proofs.Lists.{all_at}

below_or_at : (i n : ℕ) → i < n + 1 → (i < n) ⊎ (i ≡ n)
below_or_at i n h = elim (cases_lt i n) [ inl lt ↦ inl lt | inr ge ↦ inr (omega arith) ]

-- one more list with room
pub room_more : (script : List (List Command)) (room : List (Vec Reply Global)) (commands : List Command) (one : Vec Reply Global)
    → IsRoom script room → one.items ≡ [] → vec_len one ≡ 0 → length commands ≤ vec_capacity one → IsRoom (script ++ commands ∷ []) (room ++ one ∷ [])
room_more script room commands one so_far none no_items enough =
    let count = so_far.count in
    let longer : length (script ++ commands ∷ []) ≡ length script + 1 = length-append script (commands ∷ []) in
    record {
      count = omega (arith, length-append room (one ∷ []));
      each = λ i d h. elim (below_or_at i (length script) (omega (arith, longer))) [
        | inl less ↦ (let less' : i < length room = omega arith in rw (get_or_append_left room (one ∷ []) d i less') (so_far.each i d less))
        | inr is ↦ rw (get_or_push room one d i (count ∙ sym is)) (none, no_items)
      ];
      fits = λ i d v h. elim (below_or_at i (length script) (omega (arith, longer))) [
        | inl less ↦ (let less' : i < length room = omega arith in rw (get_or_append_left room (one ∷ []) d i less', get_or_append_left script (commands ∷ []) v i less) (so_far.fits i d v less))
        | inr is ↦ rw (get_or_push room one d i (count ∙ sym is), get_or_push script commands v i (sym is)) enough
      ];
    }

-- what the jobs at each place show of the lists that they are taken apart into
module _ {A B : Type 0} (R : A → B → Type 0) where
  pub zip_each : {J : Type 0} (jobs : List J) (f : J → A) (h : J → B) → ((i : ℕ) (d : J) → i < length jobs → R (f (get_or jobs i d)) (h (get_or jobs i d))) → AllZip R (map f jobs) (map h jobs)
  zip_each [] f h each = tt
  zip_each (j ∷ jobs) f h each = (each 0 j (omega arith), zip_each jobs f h (λ i d less. each (suc i) d (omega (arith, less))))

map_both : {A B D : Type 0} (f : B → D) (h : A → B) (xs : List A) → map f (map h xs) ≡ map (λ x. f (h x)) xs
map_both f h [] = refl
map_both f h (x ∷ xs) = ap (λ ys. f (h x) ∷ ys) (map_both f h xs)

module _ {C : Type 0} (belongs : C → Type 0) (account : C → Account) (settings : Settings) (script : List (List Command)) where
  pub ready_all : (clients : List C) (replies : List (Vec Reply Global)) (jobs : List (Job C))
      → AreOurs belongs account settings.clients clients → AreNew account settings.start settings.opening clients → length script ≡ settings.clients → length script < 2 ^ 32 → FitBatches script
      → IsRoom script replies → AllByRecursion AreNone (map batches_of jobs)
      → map client_of jobs ≡ clients → map replies_of jobs ≡ replies → AreReady belongs account settings script jobs
  ready_all clients replies jobs ours new many few fit for_replies no_batches from_clients from_replies = record {
    each = λ i d h.
        let j = get_or jobs i d in
        let count : length jobs ≡ length clients = sym (length-map jobs client_of) ∙ ap length from_clients in
        let total = ours.number_of in
        let inside : i < length script = omega arith in
        let at : slice_get clients i ≡ Some j.client = sym (ap (λ cs. slice_get cs i) from_clients) ∙ (slice_get-map client_of jobs i ∙ ap (option_map client_of) (slice_get-get_or jobs i d h)) in
        let told : get_or replies i d.replies ≡ j.replies = sym (ap (λ r. get_or r i d.replies) from_replies) ∙ get_or-map replies_of jobs i d in
        let no_replies = rw told at (for_replies.each i d.replies inside) in
        let as_many = length-map jobs batches_of in
        record {
          within = inside;
          few = omega (arith, few, inside);
          ours = (ours.each i j.client at).0;
          new = new.each i j.client at;
          none = no_replies.0;
          empty = no_replies.1;
          no_batches = subst AreNone (get_or-map batches_of jobs i d) (all_at AreNone (map batches_of jobs) i d.batches no_batches (omega (arith, as_many, h)));
          fits = λ v. all_at (λ (cs : List Command). size_of_batch (additions_of cs) ≤ MAX_SIZE) script i v fit inside;
          room = λ v. rw told at (for_replies.fits i d.replies v inside);
        };
  }

  -- the job from which a client comes
  record Origin (jobs : List (Job C)) (i : ℕ) (c : C) : Type 0 where
    pub from : Job C
    pub within : i < length jobs
    pub is : get_or jobs i from ≡ from
    pub gives : from.client ≡ c

  origin : (jobs : List (Job C)) (i : ℕ) (c : C) → slice_get (map client_of jobs) i ≡ Some c → Origin jobs i c
  origin jobs i c h =
      let e = slice_get-map client_of jobs i in
      elim (slice_get_cases jobs i).1 [
        | inl w ↦ record { from = w.0; within = w.1; is = w.3; gives = cc (sym e ∙ h, ap (option_map client_of) w.2) }
        | inr w ↦ absurd (cc (sym e ∙ h, ap (option_map client_of) w.1))
      ]

  pub done_ours : (jobs : List (Job C)) (clients : List C) → AreDone belongs account settings script jobs → length jobs ≡ settings.clients → clients ≡ map client_of jobs
      → AreOurs belongs account settings.clients clients
  done_ours jobs clients done count are = record {
    number_of = ap length are ∙ (length-map jobs client_of ∙ count);
    each = λ i c h.
        let o = origin jobs i c (sym (ap (λ cs. slice_get cs i) are) ∙ h) in
        let d = rw o.is at (done.each i o.from o.within) in
        (subst belongs o.gives d.ours, ap (λ x. (account x).number) (sym o.gives) ∙ d.number);
  }

  pub done_entries : (jobs : List (Job C)) (clients : List C) (batches : List ClientBatches) → AreDone belongs account settings script jobs
      → clients ≡ map client_of jobs → batches ≡ map batches_of jobs → HaveEntries batches (map account clients)
  done_entries jobs clients batches done are batches_are =
      rw (are, batches_are, map_both account client_of jobs)
      (zip_each (λ (b : ClientBatches) (a : Account). ShowsAccepted a.number (accepted_in b) a.mine) jobs batches_of (λ (j : Job C). account (client_of j))
      (λ i d less. (let d' = done.each i d less in subst (λ (n : ℕ). ShowsAccepted n (accepted_in (get_or jobs i d).batches) (account (get_or jobs i d).client).mine) (sym d'.number) d'.accepted)))

  -- the transcripts of the clients from the one with the number `n + 1` on
  record Collected (n : ℕ) (jobs : List (Job C)) (rest : List (List Command)) : Type 0 where
    pub transcripts : List (List Call)
    pub count : length transcripts ≡ length rest
    pub show : AllZip (λ v. ShowsReplies v.items) (map replies_of jobs) transcripts
    pub each : (i k : ℕ) (commands : List Command) (made : List Call) (a : Account) → k ≡ n + i + 1
        → slice_get rest i ≡ Some commands → slice_get transcripts i ≡ Some made → slice_get (map account (map client_of jobs)) i ≡ Some a
        → HasRun settings k commands made a

  same_run : (k l : ℕ) (commands some : List Command) (made own : List Call) (a b : Account) → k ≡ l → Some some ≡ Some commands → Some own ≡ Some made → Some b ≡ Some a
      → HasRun settings l some own b → HasRun settings k commands made a
  same_run k l commands some made own a b is e f h run =
      let e' : some ≡ commands = cc e in let f' : own ≡ made = cc f in let h' : b ≡ a = cc h in rw (is, ← e', ← f', ← h') run

  abbrev TellsEach : ℕ → List (Job C) → List (List Command) → Type 0
  TellsEach n jobs rest = (i k : ℕ) (d : Job C) (v : List Command) → i < length jobs → k ≡ n + i + 1
      → HasReplied settings k (get_or rest i v) (get_or jobs i d).replies.items (account (get_or jobs i d).client)

  collect : (n : ℕ) (jobs : List (Job C)) (rest : List (List Command)) → length jobs ≡ length rest → TellsEach n jobs rest → Collected n jobs rest
  collect n [] [] same told = record { transcripts = []; count = refl; show = tt; each = λ i k commands made a is h f b. absurd (cc h) }
  collect n [] (s ∷ rest) same told = absurd (omega (arith, same))
  collect n (j ∷ jobs) [] same told = absurd (omega (arith, same))
  collect n (j ∷ jobs) (s ∷ rest) same told =
      let first = told 0 (n + 1) j s (omega arith) (omega arith) in
      let others = collect (n + 1) jobs rest (omega (arith, same)) (λ i k d v less is. told (suc i) k d v (omega (arith, less)) (omega (arith, is))) in
      record {
        transcripts = first.calls ∷ others.transcripts;
        count = ap suc others.count;
        show = (first.shows, others.show);
        each = λ i k commands made a is h f b. each_at first.calls others.transcripts first.run others.each i k commands made a is h f b;
      }
    where
      each_at : (own : List Call) (transcripts : List (List Call)) → HasRun settings (n + 1) s own (account j.client)
          → ((i k : ℕ) (commands : List Command) (made : List Call) (a : Account) → k ≡ n + 1 + i + 1
          → slice_get rest i ≡ Some commands → slice_get transcripts i ≡ Some made → slice_get (map account (map client_of jobs)) i ≡ Some a → HasRun settings k commands made a)
          → (i k : ℕ) (commands : List Command) (made : List Call) (a : Account) → k ≡ n + i + 1
          → slice_get (s ∷ rest) i ≡ Some commands → slice_get (own ∷ transcripts) i ≡ Some made → slice_get (map account (map client_of (j ∷ jobs))) i ≡ Some a
          → HasRun settings k commands made a
      each_at own transcripts run others zero k commands made a is h f b = same_run k (n + 1) commands s made own a (account j.client) (omega (arith, is)) h f b run
      each_at own transcripts run others (suc i) k commands made a is h f b = others i k commands made a (omega (arith, is)) h f b

  pub done_told : (jobs : List (Job C)) (clients : List C) (replies : List (Vec Reply Global)) → AreDone belongs account settings script jobs → length jobs ≡ length script
      → clients ≡ map client_of jobs → replies ≡ map replies_of jobs → HaveReplied settings script replies (map account clients)
  done_told jobs clients replies done same are replies_are =
      let all = collect 0 jobs script same (λ i k d v less is. (let here : k ≡ i + 1 = omega (arith, is) in rw here ((done.each i d less).told v))) in
      rw (are, replies_are) (record {
        transcripts = all.transcripts;
        show = all.show;
        run = record {
          clients = length-map (map client_of jobs) account ∙ (length-map jobs client_of ∙ same);
          transcripts_of = all.count;
          each = λ i commands made a h f b. all.each i (i + 1) commands made a (omega arith) h f b;
        };
      })

-- what a `Vec` has after a write to its whole slice
pub whole_slice : {X : Type 0} (n : ℕ) (new old : List X) → length new ≡ n → take n (new ++ drop (length new) old) ≡ new
whole_slice n new old count = subst (λ k. take k (new ++ drop (length new) old) ≡ new) count (take-append_seam new (drop (length new) old))

-- as many jobs as clients
pub jobs_count : {C : Type 0} (jobs : List (Job C)) (clients : List C) → map client_of jobs ≡ clients → length jobs ≡ length clients
jobs_count jobs clients e = sym (length-map jobs client_of) ∙ ap length e
