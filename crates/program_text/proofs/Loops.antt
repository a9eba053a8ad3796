-- Texts that a loop puts, one item after another.
use Rattle.std.proofs.Common.{◌≡◌, ℕ, ◌+◌, ◌≤◌, Bool, true, List, [], ◌∷◌, ◌++◌, length, take, drop, Option, Some, None, refl, sym, ap, ◌∙◌, subst, append_assoc, append-nil, take-append-drop}
use Rattle.std.specs.Prelude.{flat_map, is_none}
use Rattle.std.proofs.lemmas.Bool.{false≢true}
use Rattle.std.proofs.lemmas.List.{take_all, flat_map_more}
use Rattle.std.proofs.lemmas.Grind.{flat_map-append}
use Rattle.base_devices.specs.declared.sink.Sink.{Ghosts}
use Rattle.program_printing.specs.Printing.{IsPrinted, Puts}
use Rattle.program_printing.proofs.Putting.{failed_put, then_put}

-- the printer says that a write has failed
pub failed_is : (p : Option (List ℕ)) (said : Bool) → said ≡ is_none p → said ≡ true → p ≡ None
failed_is None said is so = refl
failed_is (Some w) said is so = absurd (false≢true (sym is ∙ so))

-- the text of one item more was put, of those that were left
pub next_of : {A : Type 0} (f : A → List ℕ) (done : List ℕ) (left rest : List A) (x : A) (all : List ℕ) → left ≡ x ∷ rest → done ++ flat_map f left ≡ all → (done ++ f x) ++ flat_map f rest ≡ all
next_of f done left rest x all first whole = append_assoc done (f x) (flat_map f rest) ∙ sym (ap (λ xs. done ++ flat_map f xs) first) ∙ whole

-- none is left
pub none_left : {A : Type 0} (f : A → List ℕ) (done : List ℕ) (left : List A) (all : List ℕ) → left ≡ [] → done ++ flat_map f left ≡ all → done ≡ all
none_left f done left all none whole = sym (append-nil done) ∙ sym (ap (λ xs. done ++ flat_map f xs) none) ∙ whole

module _ {K : Type 0} (sink : Ghosts K) where
  -- the same text
  pub as_text : (start now : K) (p : Option (List ℕ)) (xs ys : List ℕ) → xs ≡ ys → IsPrinted sink start p now xs → IsPrinted sink start p now ys
  as_text start now p xs ys is has = subst (IsPrinted sink start p now) is has

  -- one item more
  pub one_more : {A : Type 0} (f : A → List ℕ) (p q r : Option (List ℕ)) (a b c : K) (xs : List A) (i : ℕ) (x : A) → take (i + 1) xs ≡ take i xs ++ x ∷ []
      → Puts sink p a q b (flat_map f (take i xs)) → Puts sink q b r c (f x) → Puts sink p a r c (flat_map f (take (i + 1) xs))
  one_more f p q r a b c xs i x more so_far next start text is =
      as_text start c r _ _ (flat_map_more f text (take i xs) x ∙ ap (λ ys. text ++ flat_map f ys) (sym more)) (next start _ (so_far start text is))

  -- all items
  pub all_put : {A : Type 0} (f : A → List ℕ) (p q : Option (List ℕ)) (a b : K) (xs : List A) (i : ℕ) → length xs ≤ i → Puts sink p a q b (flat_map f (take i xs)) → Puts sink p a q b (flat_map f xs)
  all_put f p q a b xs i le so_far = subst (λ ys. Puts sink p a q b (flat_map f ys)) (take_all i xs le) so_far

  -- once a write has failed, whatever is left may be put
  pub ended_early : (p q : Option (List ℕ)) (a b : K) (done rest all : List ℕ) → q ≡ None → done ++ rest ≡ all → Puts sink p a q b done → Puts sink p a q b all
  ended_early p q a b done rest all failed is so_far =
      subst (Puts sink p a q b) is (then_put sink p q q a b b done rest so_far (subst (λ o. Puts sink o b o b rest) (sym failed) (failed_put sink b rest)))

  pub early_of : {A : Type 0} (f : A → List ℕ) (p q : Option (List ℕ)) (a b : K) (xs : List A) (i : ℕ) → q ≡ None → Puts sink p a q b (flat_map f (take i xs)) → Puts sink p a q b (flat_map f xs)
  early_of f p q a b xs i failed so_far =
      ended_early p q a b (flat_map f (take i xs)) (flat_map f (drop i xs)) (flat_map f xs) failed
      (sym (flat_map-append f (take i xs) (drop i xs)) ∙ ap (flat_map f) (take-append-drop i xs)) so_far
