-- Logs that are recovered one after another are recovered by the definition for several logs.
use Rattle.std.proofs.Common.{◌≡◌, ◌≢◌, ◌⊎◌, inl, inr, ℕ, ◌+◌, Bool, true, false, List, [], ◌∷◌, ◌++◌, fold, map, Option, Some, None, MatchOption, refl, sym, ◌∙◌, ap, subst, append_assoc, arith}
use Rattle.std.proofs.lemmas.List.Sums.{fold-append}
use Rattle.model_base.specs.declared.log.EndReason.{EndReason}
use Rattle.model_base.specs.declared.log.EndReason.TheVariants as ends
use Rattle.model_base.specs.Log.{plain_log}
use Rattle.model_base.specs.Map.{Pairs, after_records}
use Rattle.model_base.specs.Recovery.{Logged, Recovered, IsRecovered, last_after, last_sequence}
use Rattle.model_base.specs.RecoveredLogs as several
use Rattle.model_base.specs.RecoveredLogs.{IsRecoveredAfter, RecoveredLogs, in_first, after_log, AreRecoveredAfter, last_of_logs}
use Rattle.log_recovery.specs.declared.modes.Mode.{Mode}
use Rattle.log_recovery.specs.declared.recovery.Recovered.{Recovered as Shown}
use Rattle.log_recovery.specs.Recovering.{HasRecovered}
use Rattle.log_in_memory.specs.declared.recovery_pairs.RecoveryPairs.{RecoveryPairs}
use Rattle.wolzenn_c.specs.declared.codes.TheConstants.{DONE, END, RANGE}
use Rattle.wolzenn_c.specs.declared.recovery.WzRecovered.{WzRecovered}
use Rattle.wolzenn_c.specs.declared.object.Object.{Object}
use Rattle.wolzenn_c.specs.MoreLogs.{IsOneMore, RecoversMore}
use Rattle.wolzenn_c.specs.Objects.{as_recovered}
use Rattle.wolzenn_c.specs.SeveralLogs.{Numbered, is_whole, is_whole_log, AreRecoveredInTurn, ends_here, goes_on, IsOfLogs, HoldsLogs}

-- ---- logs without numbers

-- only one of their ends is whole
clean_is : (kept at : ℕ) (why : EndReason) → is_whole plain_log kept at why ≡ true → why ≡ ends.Clean
clean_is kept at ends.Clean is = refl
clean_is kept at (ends.Broken d) is = absurd (cc)
clean_is kept at ends.BadOrder is = absurd (cc)
clean_is kept at ends.Unfinished is = absurd (cc)
clean_is kept at ends.Short is = absurd (cc)
clean_is kept at ends.BadVarint is = absurd (cc)
clean_is kept at (ends.Tag t) is = absurd (cc)
clean_is kept at (ends.Count said found) is = absurd (cc)
clean_is kept at (ends.Order first last) is = absurd (cc)
clean_is kept at (ends.High first count) is = absurd (cc)

whole_if_clean : (r : Recovered) → r.why ≡ ends.Clean → is_whole_log plain_log r ≡ true
whole_if_clean r clean = ap (λ (w : EndReason). is_whole plain_log r.kept r.at w) clean

-- a log without a number
abbrev pub plain : List ℕ → Numbered
plain file = (plain_log, file)

none_numbered : (files : List (List ℕ)) → map plain files ≡ [] → files ≡ []
none_numbered [] none = refl
none_numbered (file ∷ files) none = absurd (cc)

pub without_numbers : (last : ℕ) (files : List (List ℕ)) (s : RecoveredLogs) (whole : Bool) → AreRecoveredInTurn last (map plain files) s whole → AreRecoveredAfter plain_log last files s
without_numbers last [] s whole are = elim are [ ]
without_numbers last (file ∷ files) s whole (ends_here r is stops) = several.ends_here r is (λ clean. none_numbered files (stops (whole_if_clean r clean)))
without_numbers last (file ∷ files) s whole (goes_on r t is end later) = several.goes_on r t is (clean_is r.kept r.at r.why end) (without_numbers (last_sequence last r.batches) files t whole later)

-- ---- one log

after_nothing : (number : Option ℕ) (file : List ℕ) (r : Recovered) → IsRecovered number file r → IsRecoveredAfter 0 number file r
after_nothing number file r is = record {
  keeps = record { within = is.keeps.within; spelled = is.keeps.spelled; are_batches = is.keeps.are_batches; in_order = is.keeps.in_order };
  most = λ kept bs k. is.most kept bs (record { within = k.within; spelled = k.spelled; are_batches = k.are_batches; in_order = k.in_order });
  ends = is.ends;
}

-- whether a log is whole, by what is shown of it
whole_as : (number : Option ℕ) (kept at : ℕ) (why : EndReason) (r : Recovered) → kept ≡ r.kept → at ≡ r.at → why ≡ r.why → is_whole number kept at why ≡ is_whole_log number r
whole_as number kept at why r k a w = ap (λ (n : ℕ). is_whole number n at why) k ∙ (ap (λ (n : ℕ). is_whole number r.kept n why) a ∙ ap (λ (x : EndReason). is_whole number r.kept r.at x) w)

pub first_log : (number : Option ℕ) (file : List ℕ) (shown : Shown) (held : RecoveryPairs) → HasRecovered number file shown → held.pairs.items ≡ shown.map → held.last ≡ shown.last
    → held.goes_on ≡ is_whole number shown.kept shown.end.at shown.end.why → IsOfLogs ((number, file) ∷ []) held
first_log number file shown held has pairs last goes =
    let r = has.recovered in
    let whole : is_whole_log number r ≡ held.goes_on = sym (goes ∙ whole_as number shown.kept shown.end.at shown.end.why r has.shows.kept has.shows.at has.shows.why) in
    record {
      recovered = in_first r;
      are = subst (λ (b : Bool). AreRecoveredInTurn 0 ((number, file) ∷ []) (in_first r) b) whole (ends_here r (after_nothing number file r has.is) (λ _. refl));
      pairs_are = pairs ∙ has.shows.map_is;
      last_is = last ∙ has.shows.last;
    }

-- ---- one more log

-- what is recovered then
abbrev with_log : RecoveredLogs → Recovered → RecoveredLogs
with_log s r = record { batches = s.batches ++ r.batches; log = s.log + 1; kept = r.kept; at = r.at; why = r.why }

-- the same, where the batches are these
abbrev with_batches : RecoveredLogs → List Logged → RecoveredLogs
with_batches s bs = record s { batches = bs }

goes_on_in : (last : ℕ) (logs : List Numbered) (s : RecoveredLogs) (whole : Bool) (number : Option ℕ) (file : List ℕ) (r : Recovered) → AreRecoveredInTurn last logs s whole → whole ≡ true → IsRecoveredAfter (last_sequence last s.batches) number file r
    → AreRecoveredInTurn last (logs ++ (number, file) ∷ []) (with_log s r) (is_whole_log number r)
goes_on_in last logs s whole number file r (ends_here {number = n} {file = first} {later = later} q is stops) so more =
    subst (λ (l : List Numbered). AreRecoveredInTurn last ((n, first) ∷ (l ++ (number, file) ∷ [])) (with_log (in_first q) r) (is_whole_log number r)) (sym (stops so))
    (goes_on q (in_first r) is so (ends_here r more (λ _. refl)))
goes_on_in last logs s whole number file r (goes_on {number = n} {file = first} {later = later} q t is end later_are) so more =
    let from = last_sequence last q.batches in
    let after : IsRecoveredAfter (last_sequence from t.batches) number file r = subst (λ (k : ℕ). IsRecoveredAfter k number file r) (fold-append last_after last q.batches t.batches) more in
    let on = goes_on q (with_log t r) is end (goes_on_in from later t whole number file r later_are so after) in
    subst (λ (bs : List Logged). AreRecoveredInTurn last ((n, first) ∷ (later ++ (number, file) ∷ [])) (with_batches (with_log (after_log q t) r) bs) (is_whole_log number r)) (sym (append_assoc q.batches t.batches r.batches)) on

-- no later log changes what is recovered where recovery ended
ends_in : (last : ℕ) (logs : List Numbered) (s : RecoveredLogs) (whole : Bool) (log : Numbered) → AreRecoveredInTurn last logs s whole → whole ≡ false → AreRecoveredInTurn last (logs ++ log ∷ []) s whole
ends_in last logs s whole log (ends_here q is stops) not_so = ends_here q is (λ so. let both : true ≡ false = sym so ∙ not_so in absurd (cc))
ends_in last logs s whole log (goes_on {later = later} q t is end later_are) not_so = goes_on q t is end (ends_in (last_sequence last q.batches) later t whole log later_are not_so)

-- the map of all batches
abbrev applied : Pairs → List Logged → Pairs
applied m bs = fold (λ (p : Pairs) (b : Logged). after_records p b.records) m bs

one_more_held : (number : Option ℕ) (mode : Mode) (file : List ℕ) (before after : RecoveryPairs) (summary : WzRecovered) (logs : List Numbered) → IsOneMore number mode file before after summary → before.goes_on ≡ true → IsOfLogs logs before
    → IsOfLogs (logs ++ (number, file) ∷ []) after
one_more_held number mode file before after summary logs more goes of =
    let s = of.recovered in let r = more.recovered in
    let is : IsRecoveredAfter (last_of_logs s) number file r = subst (λ (n : ℕ). IsRecoveredAfter n number file r) of.last_is more.is in
    record {
      recovered = with_log s r;
      are = subst (λ (b : Bool). AreRecoveredInTurn 0 (logs ++ (number, file) ∷ []) (with_log s r) b) (sym more.goes_on) (goes_on_in 0 logs s before.goes_on number file r of.are goes is);
      pairs_are = more.pairs_are ∙ (ap (λ (m : Pairs). applied m r.batches) of.pairs_are ∙ sym (fold-append (λ (p : Pairs) (b : Logged). after_records p b.records) [] s.batches r.batches));
      last_is = more.last_is ∙ (ap (λ (n : ℕ). last_sequence n r.batches) of.last_is ∙ sym (fold-append last_after 0 s.batches r.batches));
    }

none_more_held : (log : Numbered) (before : RecoveryPairs) (logs : List Numbered) → before.goes_on ≡ false → IsOfLogs logs before → IsOfLogs (logs ++ log ∷ []) before
none_more_held log before logs stops of = record {
  recovered = of.recovered;
  are = ends_in 0 logs of.recovered before.goes_on log of.are stops;
  pairs_are = of.pairs_are;
  last_is = of.last_is;
}

-- ---- by the answer of the call

-- whether recovery goes on is known by the answer
goes_by_done : (b : Bool) (code : ℕ) → (b ≡ false → code ≡ END) → code ≡ DONE → b ≡ true
goes_by_done true code ended done = refl
goes_by_done false code ended done = let end = ended refl in absurd (omega (arith, end, done))

stops_by_end : (b : Bool) (code : ℕ) → (b ≡ true → (code ≡ DONE) ⊎ (code ≡ 1) ⊎ (code ≡ 6)) → code ≡ END → b ≡ false
stops_by_end false code codes end = refl
stops_by_end true code codes end = absurd (by (codes refl))
  where
    by : (code ≡ DONE) ⊎ (code ≡ 1) ⊎ (code ≡ 6) → ⊥
    by (inl d) = omega (arith, d, end)
    by (inr (inl d)) = omega (arith, d, end)
    by (inr (inr d)) = omega (arith, d, end)

-- what a call with this mode, if there is one, gives
abbrev pub Gives : Option ℕ → Option Mode → List ℕ → RecoveryPairs → ℕ → Option RecoveryPairs → WzRecovered → Type 0
Gives number mode file before code after summary = MatchOption mode (code ≡ RANGE) (λ m. RecoversMore number m file before code after summary)

-- what the handle holds after an answer that isn't DONE doesn't matter to it
pub gives_else : (number : Option ℕ) (mode : Option Mode) (file : List ℕ) (before : RecoveryPairs) (code : ℕ) (after other : Option RecoveryPairs) (summary : WzRecovered) → code ≢ DONE → Gives number mode file before code after summary → Gives number mode file before code other summary
gives_else number None file before code after other summary not gives = gives
gives_else number (Some m) file before code after other summary not gives = record { ended = gives.ended; codes = gives.codes; done = λ done. absurd (not done); damage = gives.damage }

held_done : (number : Option ℕ) (file : List ℕ) (logs : List Numbered) (mode : Mode) (before : RecoveryPairs) (summary : WzRecovered) (after : Option RecoveryPairs) → MatchOption after ⊥ (λ held. IsOneMore number mode file before held summary)
    → before.goes_on ≡ true → IsOfLogs logs before → HoldsLogs (logs ++ (number, file) ∷ []) after
held_done number file logs mode before summary None more goes of = more
held_done number file logs mode before summary (Some after) more goes of = one_more_held number mode file before after summary logs more goes of

pub logs_hold : (number : Option ℕ) (mode : Option Mode) (file : List ℕ) (logs : List Numbered) (before : RecoveryPairs) (code : ℕ) (after : Option RecoveryPairs) (summary : WzRecovered) → Gives number mode file before code after summary
    → (code ≢ DONE → after ≡ Some before) → (code ≡ DONE) ⊎ (code ≡ END) → IsOfLogs logs before → HoldsLogs (logs ++ (number, file) ∷ []) after
logs_hold number None file logs before code after summary gives same (inl done) of = absurd (omega (arith, gives, done))
logs_hold number None file logs before code after summary gives same (inr end) of = absurd (omega (arith, gives, end))
logs_hold number (Some m) file logs before code after summary gives same (inl done) of =
    held_done number file logs m before summary after (gives.done done) (goes_by_done before.goes_on code gives.ended done) of
logs_hold number (Some m) file logs before code after summary gives same (inr end) of =
    let other : code ≢ DONE = λ done. omega (arith, end, done) in
    subst (λ (h : Option RecoveryPairs). HoldsLogs (logs ++ (number, file) ∷ []) h) (sym (same other))
    (none_more_held (number, file) before logs (stops_by_end before.goes_on code gives.codes end) of)

-- ---- by the object that the handle held

module _ (logs : List Numbered) (object at : Object) (old : Option Object) (there : at ≡ object) (old_is : old ≡ Some object) where
  -- it is no recovery
  pub no_logs : ◌≡◌ {A = Option RecoveryPairs} None (as_recovered (Some at)) → HoldsLogs logs (as_recovered old) → ⊥
  no_logs none holds = subst (λ (h : Option RecoveryPairs). HoldsLogs logs h) (ap as_recovered old_is ∙ sym (none ∙ ap (λ (o : Object). as_recovered (Some o)) there)) holds

  module _ (number : Option ℕ) (mode : Option Mode) (file : List ℕ) (before : RecoveryPairs) (code : ℕ) (after : Option RecoveryPairs) (summary : WzRecovered)
      (is : ◌≡◌ {A = Option RecoveryPairs} (Some before) (as_recovered (Some at))) (gives : Gives number mode file before code after summary) where
    held : as_recovered (Some object) ≡ Some before
    held = sym (is ∙ ap (λ (o : Object). as_recovered (Some o)) there)

    of_logs : HoldsLogs logs (as_recovered old) → IsOfLogs logs before
    of_logs holds = subst (λ (h : Option RecoveryPairs). HoldsLogs logs h) (ap as_recovered old_is ∙ held) holds

    -- the object is put back
    pub logs_put_back : (new : Option Object) (answer : ℕ) → new ≡ Some object → answer ≡ code → (answer ≡ DONE → ⊥) → (answer ≡ DONE) ⊎ (answer ≡ END) → HoldsLogs logs (as_recovered old)
        → HoldsLogs (logs ++ (number, file) ∷ []) (as_recovered new)
    logs_put_back new answer new_is answer_is not_done which holds =
        let other : code ≢ DONE = λ done. not_done (answer_is ∙ done) in
        let same : as_recovered new ≡ Some before = ap as_recovered new_is ∙ held in
        logs_hold number mode file logs before code (as_recovered new) summary (gives_else number mode file before code after (as_recovered new) summary other gives) (λ _. same)
        (subst (λ (n : ℕ). (n ≡ DONE) ⊎ (n ≡ END)) answer_is which) (of_logs holds)

    -- another one was put
    pub logs_put : (new : Option RecoveryPairs) (answer : ℕ) → new ≡ after → answer ≡ code → answer ≡ DONE → HoldsLogs logs (as_recovered old) → HoldsLogs (logs ++ (number, file) ∷ []) new
    logs_put new answer new_is answer_is done holds =
        let is_done : code ≡ DONE = sym answer_is ∙ done in
        subst (λ (h : Option RecoveryPairs). HoldsLogs (logs ++ (number, file) ∷ []) h) (sym new_is)
        (logs_hold number mode file logs before code after summary gives (λ other. absurd (other is_done)) (inl is_done) (of_logs holds))
