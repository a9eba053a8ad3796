-- How a leader reads the list.
use Rattle.std.proofs.Common.{◌≡◌, ◌≢◌, ℕ, suc, ◌+◌, ◌^◌, ◌<◌, ◌≤◌, List, [], ◌∷◌, ◌++◌, length, get_or, refl, sym, ap, ◌∙◌, subst, inl, inr, arith, append_assoc, length-append}
use Rattle.line_rule.specs.declared.view.QueuedWriter.{QueuedWriter}
use Rattle.line_rule.specs.declared.view.Lead.{Lead}
use Rattle.line_rule.specs.declared.view.LineStage.{LineStage}
use Rattle.line_rule.specs.declared.view.LineStage.TheVariants.{Idle, Preparing, Waiting, Helping, Fresh, Leading, Stalling, Cutting, Marking, Settling, Collecting}
use Rattle.line_rule.specs.declared.view.Back.TheVariants.{Away, Serving}
use Rattle.line_rule.specs.Chain.{pack, newest, newest_from, pairs}
use Rattle.line_rule.specs.Plays.{Sat, AllBelow, ReadsQueue, SeesTo}
use Rattle.line_rule.proofs.Leads.{lead_in}
use Rattle.line_rule.proofs.Onward.{one_hold_at}
use Rattle.line_rule.proofs.Serves.{walk_of}
use Rattle.line_writers.specs.Roles.{HasRead, CodesFit}

-- the writers before x are read, and x is read next
pub record Surveyed {Request Reply Log Right : Type 0} (end c slots : ℕ) (now : Sat Request Reply Log Right) (at : ℕ) (items : List (ℕ × ℕ)) (count : ℕ) : Type 0 where
  pub walk : List (QueuedWriter Request)
  pub pre : List (QueuedWriter Request)
  pub x : QueuedWriter Request
  pub post : List (QueuedWriter Request)
  pub reads : SeesTo end c now walk
  pub parts : walk ≡ pre ++ x ∷ post
  pub at_is : at ≡ x.by
  pub items_are : items ≡ pairs pre
  pub counted : length pre ≡ count
  pub short : length walk + 1 < slots
  pub below : AllBelow slots walk

pub codes_fit : (l : List (ℕ × ℕ)) (b k : ℕ) → CodesFit l → k < 2 ^ 56 → CodesFit (l ++ (b, k) ∷ [])
codes_fit [] b k ok small = (small, tt)
codes_fit (x ∷ xs) b k ok small = (ok.0, codes_fit xs b k ok.1 small)

pub code_fits : {Request : Type 0} (pre : List (QueuedWriter Request)) (x : QueuedWriter Request) (post : List (QueuedWriter Request)) → CodesFit (pairs (pre ++ x ∷ post)) → x.code < 2 ^ 56
code_fits [] x post ok = ok.0
code_fits (e ∷ es) x post ok = code_fits es x post ok.1

-- the pair after those of the writers before x is that of x
pub pair_at : {Request : Type 0} (pre : List (QueuedWriter Request)) (x : QueuedWriter Request) (post : List (QueuedWriter Request)) (d : ℕ × ℕ) → get_or (pairs (pre ++ x ∷ post)) (length pre) d ≡ (x.by, x.code)
pair_at [] x post d = refl
pair_at (e ∷ es) x post d = pair_at es x post d

pub length-pairs : {Request : Type 0} (l : List (QueuedWriter Request)) → length (pairs l) ≡ length l
length-pairs [] = refl
length-pairs (e ∷ es) = ap suc (length-pairs es)

-- where the newest writer isn't the group's, another writer came after the group
pub oldest_newer : {Request : Type 0} (queue t : List (QueuedWriter Request)) (o : QueuedWriter Request) (found old : ℕ) → found ≡ newest (queue ++ (t ++ o ∷ [])) → old ≡ newest (t ++ o ∷ []) → found ≢ old → (pre : List (QueuedWriter Request)) × (x : QueuedWriter Request) × (queue ≡ pre ++ x ∷ [])
oldest_newer {Request} [] t o found old a b ne = absurd (ne (a ∙ sym b))
oldest_newer {Request} (e ∷ es) t o found old a b ne = last_one e es
  where
    last_one : (e : QueuedWriter Request) (es : List (QueuedWriter Request)) → (pre : List (QueuedWriter Request)) × (x : QueuedWriter Request) × (e ∷ es ≡ pre ++ x ∷ [])
    last_one e [] = ([], e, refl)
    last_one e (f ∷ fs) = let r = last_one f fs in (e ∷ r.0, r.1, ap (λ l. e ∷ l) r.2)

pub pairs-append : {Request : Type 0} (a b : List (QueuedWriter Request)) → pairs (a ++ b) ≡ pairs a ++ pairs b
pairs-append [] b = refl
pairs-append (e ∷ es) b = ap (λ l. (e.by, e.code) ∷ l) (pairs-append es b)

pub below_at : {Request : Type 0} (slots : ℕ) (a : List (QueuedWriter Request)) (x : QueuedWriter Request) (b : List (QueuedWriter Request)) → AllBelow slots (a ++ x ∷ b) → (0 < x.by) × (x.by + 1 < slots) × AllBelow slots b
below_at slots [] x b ok = (ok.0, ok.1, ok.2)
below_at slots (e ∷ es) x b ok = below_at slots es x b ok.2

-- there is a newest writer
pub some_newest : {Request : Type 0} (a t : List (QueuedWriter Request)) (o : QueuedWriter Request) → (x : QueuedWriter Request) × (post : List (QueuedWriter Request)) × (a ++ (t ++ o ∷ []) ≡ x ∷ post)
some_newest [] [] o = (o, [], refl)
some_newest [] (e ∷ es) o = (e, es ++ o ∷ [], refl)
some_newest (e ∷ es) t o = (e, es ++ (t ++ o ∷ []), refl)

none_left : {Request : Type 0} (end slots : ℕ) (post : List (QueuedWriter Request)) → ((k : ℕ) → 0 < k → k + 1 < slots → k ≢ end) → AllBelow slots post → newest_from end post ≡ end → post ≡ []
none_left end slots [] apart ok is = refl
none_left end slots (e ∷ es) apart ok is = absurd (apart e.by ok.0 ok.1 is)

one_left : {Request : Type 0} (end : ℕ) (post : List (QueuedWriter Request)) → newest_from end post ≢ end → (y : QueuedWriter Request) × (more : List (QueuedWriter Request)) × (post ≡ y ∷ more)
one_left end [] ne = absurd (ne refl)
one_left end (e ∷ es) ne = (e, es, refl)

newest_byte : {Request : Type 0} (end slots : ℕ) (post : List (QueuedWriter Request)) → end < 256 → slots ≤ 256 → AllBelow slots post → newest_from end post < 256
newest_byte end slots [] small few ok = small
newest_byte end slots (e ∷ es) small few ok = let a = ok.1 in omega arith

-- the end is no client's number, and fits into a byte
at_end : {Request Reply Log Right : Type 0} (end c slots : ℕ) (m : Sat Request Reply Log Right) (walk : List (QueuedWriter Request)) → slots ≤ 256 → SeesTo end c m walk → (end < 256) × ((k : ℕ) → 0 < k → k + 1 < slots → k ≢ end)
at_end end c slots m walk few (inl h) = let z = h.0 in (omega arith, λ k lo hi e. omega arith)
at_end end c slots m walk few (inr (inl h)) = let z = h.0 in (omega arith, λ k lo hi e. omega arith)
at_end end c slots m walk few (inr (inr h)) = let z = h.0 in (omega arith, λ k lo hi e. omega arith)

reads_one : {Request Reply : Type 0} (st : LineStage Request Reply) (a b : List (QueuedWriter Request)) → ReadsQueue st a → ReadsQueue st b → a ≡ b
reads_one Idle a b i j = absurd i
reads_one (Preparing w) a b i j = absurd i
reads_one (Waiting q past) a b i j = absurd i
reads_one (Helping q) a b i j = absurd i
reads_one (Fresh own seen) a b i j = absurd i
reads_one (Leading lead) a b i j = sym i ∙ j
reads_one (Stalling lead t) a b i j = sym i ∙ j
reads_one (Cutting lead e) a b i j = absurd i
reads_one (Marking lead) a b i j = absurd i
reads_one (Settling debt) a b i j = absurd i
reads_one Collecting a b i j = absurd i

-- two walks that the leader has read are the same
pub one_walk : {Request Reply Log Right : Type 0} (end c : ℕ) (m : Sat Request Reply Log Right) (a b : List (QueuedWriter Request)) → SeesTo end c m a → SeesTo end c m b → a ≡ b
one_walk end c m a b (inl u) (inl v) = let x = u.1 in let y = v.1 in
    let e = one_hold_at c c x.0 y.0 x.1 y.1 Away Away m.0 x.2 y.2 in reads_one y.0 a b (subst (λ st. ReadsQueue st a) e.1 x.3) y.3
one_walk end c m a b (inl u) (inr (inl v)) = let z = u.0 in let w = v.0 in absurd (omega arith)
one_walk end c m a b (inl u) (inr (inr v)) = let x = u.1 in let y = v.1 in
    let e = one_hold_at c c x.0 y.0 x.1 y.1 Away (Serving y.2 b) m.0 x.2 y.3 in let bad = e.3 in absurd (cc)
one_walk end c m a b (inr (inl u)) (inl v) = let z = u.0 in let w = v.0 in absurd (omega arith)
one_walk end c m a b (inr (inl u)) (inr (inl v)) = let x = u.1 in let y = v.1 in
    let e = one_hold_at c c (Marking x.0) (Marking y.0) x.1 y.1 x.2 y.2 m.0 x.3 y.3 in sym x.4 ∙ (ap (λ (l : Lead _ _). l.walk) (ap (lead_in x.0) e.1) ∙ y.4)
one_walk end c m a b (inr (inl u)) (inr (inr v)) = let z = u.0 in let w = v.0 in absurd (omega arith)
one_walk end c m a b (inr (inr u)) (inl v) = let x = u.1 in let y = v.1 in
    let e = one_hold_at c c x.0 y.0 x.1 y.1 (Serving x.2 a) Away m.0 x.3 y.2 in let bad = e.3 in absurd (cc)
one_walk end c m a b (inr (inr u)) (inr (inl v)) = let z = u.0 in let w = v.0 in absurd (omega arith)
one_walk end c m a b (inr (inr u)) (inr (inr v)) = let x = u.1 in let y = v.1 in
    let e = one_hold_at c c x.0 y.0 x.1 y.1 (Serving x.2 a) (Serving y.2 b) m.0 x.3 y.3 in ap (walk_of a) e.3

module _ {Request Reply Log Right : Type 0} (end c slots : ℕ) (now : Sat Request Reply Log Right) where
  pub surveys : (at : ℕ) → HasRead end slots c at now → Surveyed end c slots now at [] 0
  surveys at h = record { walk = h.0; pre = []; x = h.1; post = h.2; reads = h.3; parts = h.4; at_is = h.5; items_are = refl; counted = refl; short = h.6; below = h.7 }

  module _ (at count : ℕ) (items : List (ℕ × ℕ)) (v : Surveyed end c slots now at items count) where
    pub next_below : (at + 1 < slots) × (count + 2 < slots)
    next_below =
        let b = below_at slots v.pre v.x v.post (subst (AllBelow slots) v.parts v.below) in let b1 = b.1 in let is = v.at_is in let k = v.counted in let sh = v.short in
        (omega arith, omega (arith, ap length v.parts, length-append v.pre (v.x ∷ v.post)))

    module _ (client code : ℕ) (few : slots ≤ 256) (byte : client < 256) (is_word : pack client code ≡ pack (newest_from end v.post) v.x.code) where
      halves : (client ≡ newest_from end v.post) × (code ≡ v.x.code)
      halves =
          let b = below_at slots v.pre v.x v.post (subst (AllBelow slots) v.parts v.below) in
          let least : newest_from end v.post < 256 = newest_byte end slots v.post (at_end end c slots now v.walk few v.reads).0 few b.2 in (omega arith, omega arith)

      read : items ++ (at, code) ∷ [] ≡ pairs (v.pre ++ v.x ∷ [])
      read = (λ i. v.items_are i ++ (v.at_is i, halves.1 i) ∷ []) ∙ sym (pairs-append v.pre (v.x ∷ []))

      pub goes_on : (now' : Sat Request Reply Log Right) → now' ≡ now → client ≢ end → Surveyed end c slots now' client (items ++ (at, code) ∷ []) (count + 1)
      goes_on now' same ne =
          let f = one_left end v.post (λ e. ne (halves.0 ∙ e)) in
          record {
            walk = v.walk;
            pre = v.pre ++ v.x ∷ [];
            x = f.0;
            post = f.1;
            reads = subst (λ m. SeesTo end c m v.walk) (sym same) v.reads;
            parts = v.parts ∙ (ap (λ l. v.pre ++ v.x ∷ l) f.2 ∙ sym (append_assoc v.pre (v.x ∷ []) (f.0 ∷ f.1)));
            at_is = halves.0 ∙ ap (newest_from end) f.2;
            items_are = read;
            counted = (let k = v.counted in omega (arith, length-append v.pre (v.x ∷ [])));
            short = v.short;
            below = v.below;
          }

      pub all_read : client ≡ end → items ++ (at, code) ∷ [] ≡ pairs v.walk
      all_read z =
          let b = below_at slots v.pre v.x v.post (subst (AllBelow slots) v.parts v.below) in
          read ∙ ap pairs (ap (λ l. v.pre ++ v.x ∷ l) (sym (none_left end slots v.post (at_end end c slots now v.walk few v.reads).1 b.2 (sym halves.0 ∙ z))) ∙ sym v.parts)
