-- Places in logs that are written on.
use Rattle.std.proofs.Common.{◌≡◌, ◌⊎◌, inl, inr, ⊎_elim, ℕ, ◌<◌, ◌≤◌, List, [], ◌∷◌, ◌++◌, length, map, Option, sym, ◌∙◌, ap, subst, arith, append-nil, length-append}
use Rattle.std.proofs.lemmas.List.{take-append-le}
use Rattle.std.specs.List.{AllByRecursion}
use Rattle.model_base.specs.Log.{SpellsWhole}
use Rattle.model_base.specs.Recovery.{Logged, logged_bytes, last_sequence}
use Rattle.log_recovery.specs.declared.following.Place.{Place}
use Rattle.log_recovery.specs.Following.{StandsAt}
use Rattle.log_writer.specs.GoOn.{GoOn}
use Rattle.log_updates.specs.declared.places.LogPlace.{LogPlace}
use Rattle.log_updates.specs.Places.{IsFixed, StandsIn}

-- A place in a file is the end of the same batches when more bytes come after the file.
stays_at : (start : ℕ) (number : Option ℕ) (file more : List ℕ) (place : Place) (here : List Logged) → StandsAt start number file place here → StandsAt start number (file ++ more) place here
stays_at start number file more place here st = record {
  keeps = record {
    within = let within = st.keeps.within in omega (arith, within, length-append file more);
    spelled = subst (λ (l : List ℕ). SpellsWhole number l (map logged_bytes here)) (sym (take-append-le place.at file more st.keeps.within)) st.keeps.spelled;
    are_batches = st.keeps.are_batches;
    in_order = st.keeps.in_order;
  };
  last = st.last;
}

abbrev AreEmpty : List (List ℕ) → Type 0
AreEmpty files = AllByRecursion (λ (file : List ℕ). file ≡ []) files

one_empty : (firsts : List (List ℕ)) (file : List ℕ) (others : List (List ℕ)) → AreEmpty (firsts ++ file ∷ others) → file ≡ []
one_empty [] file others empty = empty.0
one_empty (f ∷ firsts) file others empty = one_empty firsts file others empty.1

-- The file comes after these ones in the logs that were written on, perhaps with more bytes.
record IsThere (later firsts : List (List ℕ)) (file : List ℕ) : Type 0 where
  more : List ℕ
  others : List (List ℕ)
  cut : later ≡ firsts ++ (file ++ more) ∷ others

-- So it is with each file that had bytes, and with the first one.
is_there : (full : List (List ℕ)) (current : List ℕ) (none : List (List ℕ)) (more : List ℕ) (after firsts : List (List ℕ)) (file : List ℕ) (others : List (List ℕ)) → firsts ++ file ∷ others ≡ full ++ current ∷ none → AreEmpty none
    → ((file ≡ []) × (0 < length firsts)) ⊎ IsThere (full ++ (current ++ more) ∷ after) firsts file
is_there [] current none more after [] file others e empty =
    let head : file ≡ current = cc in
    inr (record { more = more; others = after; cut = ap (λ (f : List ℕ). (f ++ more) ∷ after) (sym head) })
is_there [] current none more after (f ∷ firsts) file others e empty =
    let tail : firsts ++ file ∷ others ≡ none = cc in
    inl (one_empty firsts file others (subst AreEmpty (sym tail) empty), omega arith)
is_there (g ∷ full) current none more after [] file others e empty =
    let head : file ≡ g = cc in
    let rest : List (List ℕ) = full ++ (current ++ more) ∷ after in
    inr (record { more = []; others = rest; cut = ap (λ (f : List ℕ). f ∷ rest) (sym head ∙ sym (append-nil file)) })
is_there (g ∷ full) current none more after (f ∷ firsts) file others e empty =
    let head : f ≡ g = cc in
    let tail : firsts ++ file ∷ others ≡ full ++ current ∷ none = cc in
    ⊎_elim
    (λ bare. inl (bare.0, omega arith))
    (λ there. inr (record { more = there.more; others = there.others; cut = λ i. sym head i ∷ there.cut i }))
    (is_there full current none more after firsts file others tail empty)

-- A place that is fixed isn't in a later file that has no bytes.
not_bare : (which at many long : ℕ) → (which ≡ 0) ⊎ (0 < at) → which ≡ many → 0 < many → at ≤ long → long ≡ 0 → ⊥
not_bare which at many long (inl first) is some within none = omega (arith, first, is, some)
not_bare which at many long (inr past) is some within none = omega (arith, past, within, none)

pub place_stays : (number : Option ℕ) (files later : List (List ℕ)) (place : LogPlace) (before : List Logged) → GoOn files later → IsFixed place → StandsIn number files place before → StandsIn number later place before
place_stays number files later place before on fixed st = ⊎_elim
    (λ bare. absurd (not_bare place.log place.at (length st.firsts) (length st.file) fixed st.which bare.1 st.stands.keeps.within (ap length bare.0)))
    (λ there. record {
      firsts = st.firsts;
      file = st.file ++ there.more;
      others = there.others;
      cut = on.after ∙ there.cut;
      which = st.which;
      earlier = st.earlier;
      here = st.here;
      all = st.all;
      whole = st.whole;
      stands = stays_at (last_sequence 0 st.earlier) number st.file there.more (record { at = place.at; last = place.last }) st.here st.stands;
    })
    (is_there on.full on.current on.none on.more on.others st.firsts st.file st.others (sym st.cut ∙ on.before) on.empty)
