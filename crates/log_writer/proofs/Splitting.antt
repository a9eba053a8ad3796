-- Which calls wrote which log of a set.
use Rattle.std.proofs.Common.{◌≡◌, ℕ, List, [], ◌∷◌, ◌++◌, flat_map, Option, Some, None, IfSome, refl, sym, ◌∙◌, ap, subst, append_assoc, append-nil}
use Rattle.std.proofs.lemmas.Grind.{flat_map-append}
use Rattle.std.specs.List.{AllZip}
use Rattle.base_devices.specs.declared.disk.Disk.{Ghosts}
use Rattle.log_writer.specs.declared.writer.LogWriter.{LogWriter}
use Rattle.log_writer.specs.declared.set.LogSet.{LogSet}
use Rattle.log_writer.specs.Words.{disk_of}
use Rattle.log_writer.specs.Adding.{GroupCall}
use Rattle.log_writer.specs.Reads.{WasRead}
use Rattle.log_writer.specs.ReadLaws.{not_read, none_were_read, were_read_on}
use Rattle.log_writer.specs.Written.{no_call, one_more, read, if_worked, first_fault}
use Rattle.log_writer.specs.Sets.{counted, full_of, current_of, later_of, fault_in, GoesOn, AddsHere, AddsOver, here, next, stuck, AddsTo, SetWasRead, WroteSet}
use Rattle.log_writer.specs.Sets as sets
use Rattle.log_writer.specs.SetSplits.{IsSameCall, until_fault, IsFilled, AreFilled, IsSplit}
use Rattle.log_writer.proofs.Calls.{first_more, none_more}
use Rattle.log_writer.proofs.Reading.{zip_cut, all_filled_then_read}
use Rattle.log_writer.proofs.Setting.{stuck_adds}

pub zip_more : {A B : Type 0} (R : A → B → Type 0) (xs : List A) (ys : List B) (x : A) (y : B) → AllZip R xs ys → R x y → AllZip R (xs ++ x ∷ []) (ys ++ y ∷ [])
zip_more R [] [] x y all one = (one, tt)
zip_more R [] (b ∷ ys) x y all one = absurd all
zip_more R (a ∷ xs) [] x y all one = absurd all
zip_more R (a ∷ xs) (b ∷ ys) x y all one = (all.0, zip_more R xs ys x y all.1 one)

-- where no call failed, the next one counts too; where one failed, it doesn't
pub until_more : (calls : List GroupCall) (c : GroupCall) → first_fault calls ≡ None → until_fault (calls ++ c ∷ []) ≡ until_fault calls ++ c ∷ []
until_more [] c none = alone c.failed
  where
    alone : (f : Option ℕ) → c ∷ if_worked f [] [] ≡ c ∷ []
    alone None = refl
    alone (Some n) = refl
until_more (d ∷ calls) c none = with_failed d.failed none (until_more calls c)
  where
    with_failed : (f : Option ℕ) → if_worked f (first_fault calls) f ≡ None → (first_fault calls ≡ None → until_fault (calls ++ c ∷ []) ≡ until_fault calls ++ c ∷ [])
        → d ∷ if_worked f (until_fault (calls ++ c ∷ [])) [] ≡ (d ∷ if_worked f (until_fault calls) []) ++ c ∷ []
    with_failed None none more = ap (λ (l : List GroupCall). d ∷ l) (more none)
    with_failed (Some n) none more = absurd (cc)

pub until_none : (calls : List GroupCall) (c : GroupCall) (n : ℕ) → first_fault calls ≡ Some n → until_fault (calls ++ c ∷ []) ≡ until_fault calls
until_none [] c n failed = absurd (cc)
until_none (d ∷ calls) c n failed = with_failed d.failed failed (until_none calls c n)
  where
    with_failed : (f : Option ℕ) → if_worked f (first_fault calls) f ≡ Some n → (first_fault calls ≡ Some n → until_fault (calls ++ c ∷ []) ≡ until_fault calls)
        → d ∷ if_worked f (until_fault (calls ++ c ∷ [])) [] ≡ d ∷ if_worked f (until_fault calls) []
    with_failed None e later = ap (λ (l : List GroupCall). d ∷ l) (later e)
    with_failed (Some k) e later = refl

module _ {D : Type 0} {ghosts : Ghosts D} where
  pub filled_more : (olds : List (LogWriter D ghosts)) (parts : List (List GroupCall)) (news : List (LogWriter D ghosts)) (old : LogWriter D ghosts) (calls : List GroupCall) (new : LogWriter D ghosts) → AreFilled olds parts news → IsFilled old calls new
      → AreFilled (olds ++ old ∷ []) (parts ++ calls ∷ []) (news ++ new ∷ [])
  filled_more [] [] [] old calls new all one = (one, tt)
  filled_more [] [] (n ∷ news) old calls new all one = absurd all
  filled_more [] (p ∷ parts) news old calls new all one = absurd all
  filled_more (o ∷ olds) [] news old calls new all one = absurd all
  filled_more (o ∷ olds) (p ∷ parts) [] old calls new all one = absurd all
  filled_more (o ∷ olds) (p ∷ parts) (n ∷ news) old calls new all one = (all.0, filled_more olds parts news old calls new all.1 one)

  -- the group went into the current log
  unfoldable pub more_here : (old : LogSet D ghosts) (calls : List GroupCall) (now new : LogSet D ghosts) (c : GroupCall) → IsSplit old calls now → fault_in now ≡ None → AddsHere c now new → IsSplit old (calls ++ c ∷ []) new
  more_here old calls now new c s alive a =
      let none : first_fault calls ≡ None = sym s.fault ∙ alive in
      let d : GroupCall = counted (ghosts.faults (disk_of (current_of new))) c in
      record {
        started = s.started;
        last = s.last;
        begun = s.begun ∙ ap (λ (l : List (LogWriter D ghosts)). s.started ++ s.last ∷ l) (sym a.later);
        kept = s.kept;
        were_read = s.were_read;
        filled = s.filled;
        full = a.full ∙ s.full;
        parts = s.parts;
        are_filled = s.are_filled;
        own = s.own ++ d ∷ [];
        wrote = one_more d s.wrote a.adds;
        same = subst (λ (z : List GroupCall × List GroupCall). AllZip IsSameCall z.0 z.1) (λ i. (sym (until_more calls c none) i, append_assoc (flat_map (λ (part : List GroupCall). part) s.parts) s.own (d ∷ []) i))
            (zip_more IsSameCall (until_fault calls) (flat_map (λ (part : List GroupCall). part) s.parts ++ s.own) c d s.same (ghosts.faults (disk_of (current_of new)), refl));
        fault = a.fault ∙ sym (first_more calls c none);
      }

  -- the current log was filled, and the group went into the next one
  unfoldable pub more_next : (old : LogSet D ghosts) (calls : List GroupCall) (now between new : LogSet D ghosts) (c : GroupCall) → IsSplit old calls now → fault_in now ≡ None → GoesOn now between → AddsHere c between new → IsSplit old (calls ++ c ∷ []) new
  more_next old calls now between new c s alive g a =
      let none : first_fault calls ≡ None = sym s.fault ∙ alive in
      let d : GroupCall = counted (ghosts.faults (disk_of (current_of new))) c in
      let flat : flat_map (λ (part : List GroupCall). part) (s.parts ++ s.own ∷ []) ≡ flat_map (λ (part : List GroupCall). part) s.parts ++ s.own =
      flat_map-append (λ (part : List GroupCall). part) s.parts (s.own ∷ []) ∙ ap (λ (l : List GroupCall). flat_map (λ (part : List GroupCall). part) s.parts ++ l) (append-nil s.own) in
      record {
        started = s.started ++ s.last ∷ [];
        last = current_of between;
        begun = s.begun ∙ (ap (λ (l : List (LogWriter D ghosts)). s.started ++ s.last ∷ l) (g.later ∙ ap (λ (l : List (LogWriter D ghosts)). current_of between ∷ l) (sym a.later)) ∙ sym (append_assoc s.started (s.last ∷ []) (current_of between ∷ later_of new)));
        kept = s.kept;
        were_read = s.were_read;
        filled = s.filled ++ g.synced ∷ [];
        full = a.full ∙ (g.full ∙ (ap (λ (l : List (LogWriter D ghosts)). l ++ g.synced ∷ []) s.full ∙ append_assoc s.kept s.filled (g.synced ∷ [])));
        parts = s.parts ++ s.own ∷ [];
        are_filled = filled_more s.started s.parts s.filled s.last s.own g.synced s.are_filled (record {
          written = current_of now;
          wrote = s.wrote;
          alive = now.alive alive;
          synced = g.synced;
          syncs = g.syncs;
          was_read = not_read g.synced;
        });
        own = d ∷ [];
        wrote = one_more d no_call a.adds;
        same = subst (λ (z : List GroupCall × List GroupCall). AllZip IsSameCall z.0 z.1) (λ i. (sym (until_more calls c none) i, ap (λ (l : List GroupCall). l ++ d ∷ []) (sym flat) i))
            (zip_more IsSameCall (until_fault calls) (flat_map (λ (part : List GroupCall). part) s.parts ++ s.own) c d s.same (ghosts.faults (disk_of (current_of new)), refl));
        fault = a.fault ∙ sym (first_more calls c none);
      }

  -- after a fault nothing is done
  unfoldable pub more_dead : (old : LogSet D ghosts) (calls : List GroupCall) (now : LogSet D ghosts) (c : GroupCall) (count : ℕ) → IsSplit old calls now → fault_in now ≡ Some count → IsSplit old (calls ++ c ∷ []) now
  more_dead old calls now c count s dead =
      let failed : first_fault calls ≡ Some count = sym s.fault ∙ dead in
      record {
        started = s.started;
        last = s.last;
        begun = s.begun;
        kept = s.kept;
        were_read = s.were_read;
        filled = s.filled;
        full = s.full;
        parts = s.parts;
        are_filled = s.are_filled;
        own = s.own;
        wrote = s.wrote;
        same = subst (λ (l : List GroupCall). AllZip IsSameCall l (flat_map (λ (part : List GroupCall). part) s.parts ++ s.own)) (sym (until_none calls c count failed)) s.same;
        fault = s.fault ∙ sym (none_more calls (c ∷ []) count failed).fault;
      }

  split_more : (old : LogSet D ghosts) (calls : List GroupCall) (now new : LogSet D ghosts) (c : GroupCall) → IsSplit old calls now → AddsTo c now new → IsSplit old (calls ++ c ∷ []) new
  split_more old calls now new c s adds = by_fault (fault_in now) refl adds.dead
    where
      by_over : fault_in now ≡ None → AddsOver c now new → IsSplit old (calls ++ c ∷ []) new
      by_over alive (here room a) = more_here old calls now new c s alive a
      by_over alive (next between g a) = more_next old calls now between new c s alive g a
      by_over alive (stuck count failed is) = more_here old calls now new c s alive (stuck_adds c now new count alive failed is)

      by_fault : (f : Option ℕ) → fault_in now ≡ f → IfSome f (λ count. (c.failed ≡ Some count) × (new ≡ now)) → IsSplit old (calls ++ c ∷ []) new
      by_fault None alive kept = by_over alive (adds.put alive)
      by_fault (Some count) dead kept = subst (λ (set : LogSet D ghosts). IsSplit old (calls ++ c ∷ []) set) (sym kept.1) (more_dead old calls now c count s dead)

  -- the logs were read
  unfoldable pub split_read : (old : LogSet D ghosts) (calls : List GroupCall) (now new : LogSet D ghosts) → IsSplit old calls now → SetWasRead now new → IsSplit old calls new
  split_read old calls now new s r =
      let p = zip_cut WasRead s.kept s.filled (full_of new) (subst (λ (l : List (LogWriter D ghosts)). AllZip WasRead l (full_of new)) s.full r.full) in
      record {
        started = s.started;
        last = s.last;
        begun = s.begun ∙ ap (λ (l : List (LogWriter D ghosts)). s.started ++ s.last ∷ l) (sym r.later);
        kept = p.first;
        were_read = were_read_on (full_of old) s.kept p.first s.were_read p.of_front;
        filled = p.others;
        full = p.cut;
        parts = s.parts;
        are_filled = all_filled_then_read s.started s.parts s.filled p.others s.are_filled p.of_back;
        own = s.own;
        wrote = read s.wrote r.current;
        same = s.same;
        fault = r.fault ∙ s.fault;
      }

  -- no calls
  unfoldable pub split_none : (old : LogSet D ghosts) → fault_in old ≡ None → IsSplit old [] old
  split_none old alive = record {
    started = [];
    last = current_of old;
    begun = refl;
    kept = full_of old;
    were_read = none_were_read (full_of old);
    filled = [];
    full = sym (append-nil (full_of old));
    parts = [];
    are_filled = tt;
    own = [];
    wrote = no_call;
    same = tt;
    fault = alive;
  }

  pub split_so : (old : LogSet D ghosts) (calls : List GroupCall) (new : LogSet D ghosts) → fault_in old ≡ None → WroteSet old calls new → IsSplit old calls new
  split_so old calls new alive sets.no_call = split_none old alive
  split_so old calls new alive (sets.one_more {calls = before} {now = now} c wrote adds) = split_more old before now new c (split_so old before now alive wrote) adds
  split_so old calls new alive (sets.read {now = now} wrote r) = split_read old calls now new (split_so old calls now alive wrote) r
