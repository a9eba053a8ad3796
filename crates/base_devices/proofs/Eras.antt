-- How an append, a rewind or a cut, and a sync that ends an era change what a disk in memory tells of crashes.
use Rattle.std.proofs.Common.{◌≡◌, ◌⊎◌, inl, inr, ⊎_elim, ℕ, zero, suc, ◌+◌, ◌-◌, ◌≤◌, min, Bool, true, false, List, [], ◌∷◌, ◌++◌, length, take, drop, map, Some, sym, ◌∙◌, ap, subst, arith, length-append, length-take, append_assoc, refl}
use Rattle.std.proofs.Math.Seq.{take-append-add}
use Rattle.std.proofs.lemmas.List.{take-take, take-append-le, drop-append-le, take-append-drop, drop-map, length-map}
use Rattle.std.specs.List.{AllByRecursion}
use Rattle.base_devices.specs.declared.mem_disk.Era.{Era}
use Rattle.base_devices.specs.Disk.{IsImage, Elapses, put_at}
use Rattle.base_devices.specs.Eras.{disk_with, disk_in, WasImage, set_out_era, told_from}

-- what is told since the moment t by a disk with this content, the content at the last rewind or cut, the era that
-- goes on and those that have ended
abbrev pub Since : List ℕ → List ℕ → Era → List Era → ℕ → List ℕ → Type 0
Since content before era eras t image = IsImage (disk_with content era) image ⊎ WasImage content before (drop t eras) image

-- the place of each era is at most this one
abbrev pub ArePlaced : ℕ → List Era → Type 0
ArePlaced place eras = AllByRecursion (λ (era : Era). era.place ≤ place) eras

placed_drop : (place t : ℕ) (eras : List Era) → ArePlaced place eras → ArePlaced place (drop t eras)
placed_drop place zero eras h = h
placed_drop place (suc t) [] h = h
placed_drop place (suc t) (era ∷ eras) h = placed_drop place t eras h.1

-- the images of a disk depend only on the safe ones of its bytes
image_by_safe : (a b : List ℕ) (era : Era) (image : List ℕ) → take era.synced a ≡ take era.synced b → IsImage (disk_with a era) image → IsImage (disk_with b era) image
image_by_safe a b era image e is = record { synced = is.synced ∙ e; no_shorter = is.no_shorter; no_longer = is.no_longer }

-- if two lists have a prefix in common, they have each shorter prefix in common
take_fewer : (a b : List ℕ) (n m : ℕ) → n ≤ m → take m a ≡ take m b → take n a ≡ take n b
take_fewer a b n m le e = sym (take-take n m a le) ∙ ap (λ (l : List ℕ). take n l) e ∙ take-take n m b le

-- if no more bytes are safe, and writes reached as far or farther, there are the same images and perhaps more
image_more : (content new : List ℕ) (old now : Era) (image : List ℕ) → now.synced ≤ old.synced → old.reach ≤ now.reach → take now.synced new ≡ take now.synced content
    → IsImage (disk_with content old) image → IsImage (disk_with new now) image
image_more content new old now image fewer farther e is = record {
  synced = take_fewer image content now.synced old.synced fewer is.synced ∙ sym e;
  no_shorter = omega (arith, is.no_shorter, fewer);
  no_longer = omega (arith, is.no_longer, farther);
}

-- the images of the eras that have ended stay the same, as long as the bytes before the eras' places do
was_same : (content new before : List ℕ) (place : ℕ) (eras : List Era) (image : List ℕ) → take place content ≡ take place new → ArePlaced place eras → WasImage content before eras image → WasImage new before eras image
was_same content new before place [] image e h was = was
was_same content new before place (era ∷ eras) image e h (inl is) =
    inl (subst (λ (l : List ℕ). IsImage (disk_with (l ++ drop era.place before) era) image) (take_fewer content new era.place place h.0 e) is)
was_same content new before place (era ∷ eras) image e h (inr was) = inr (was_same content new before place eras image e h.1 was)

-- an append, whether it works or fails
pub elapses_append : (content new before : List ℕ) (old now : Era) (forgot : Bool) (eras : List Era) → take old.place content ≡ take old.place new → now.synced ≡ min old.synced old.place → old.reach ≤ now.reach → ArePlaced old.place eras
    → Elapses (length eras) (length eras) (told_from forgot eras) (told_from forgot eras) (Since content before old eras) (Since new before now eras) (Some (disk_with new now))
elapses_append content new before old now forgot eras e fewer farther placed = record {
  later = omega arith;
  forgets = omega arith;
  nothing_else = λ t image from le since. ⊎_elim (λ is. inr is) (λ was. inl (inr (was_same new content before old.place (drop t eras) image (sym e) (placed_drop old.place t eras placed) was))) since;
  keeps = λ t image from le past. ⊎_elim (λ is. inl (image_more content new old now image (omega (arith, fewer)) farther (take_fewer new content now.synced old.place (omega (arith, fewer)) (sym e)) is))
      (λ was. inr (was_same content new before old.place (drop t eras) image e (placed_drop old.place t eras placed) was)) past;
}

-- a piece that is put at a place leaves the bytes before it
pub put_keeps : (content new piece : List ℕ) (place : ℕ) → new ≡ put_at place piece content → place ≤ length content → take place content ≡ take place new
put_keeps content new piece place is le =
    sym (ap (λ (l : List ℕ). take place l) (is ∙ append_assoc (take place content) piece (drop (place + length piece) content)) ∙ take-append-le place (take place content) (piece ++ drop (place + length piece) content) (omega (arith, length-take place content, le)) ∙ take-take place place content (omega arith))

-- the safe bytes of each era are all before its place
abbrev pub AreAhead : List Era → Type 0
AreAhead eras = AllByRecursion (λ (era : Era). era.synced ≤ era.place) eras

ahead_drop : (t : ℕ) (eras : List Era) → AreAhead eras → AreAhead (drop t eras)
ahead_drop zero eras h = h
ahead_drop (suc t) [] h = h
ahead_drop (suc t) (era ∷ eras) h = ahead_drop t eras h.1

-- the safe bytes of such an era are the first bytes of the content
ahead_safe : (content before : List ℕ) (place : ℕ) (era : Era) → place ≤ length content → era.place ≤ place → era.synced ≤ era.place
    → take era.synced (take era.place content ++ drop era.place before) ≡ take era.synced content
ahead_safe content before place era within placed ahead =
    take-append-le era.synced (take era.place content) (drop era.place before) (omega (arith, length-take era.place content, within, placed, ahead))
    ∙ take-take era.synced era.place content ahead

-- so the eras keep their images if the content is kept as the bytes after the place
was_turned : (content new before : List ℕ) (place : ℕ) (eras : List Era) (image : List ℕ) → place ≤ length content → ArePlaced place eras → AreAhead eras
    → WasImage content before eras image → WasImage new content (map set_out_era eras) image
was_turned content new before place [] image within placed ahead was = was
was_turned content new before place (era ∷ eras) image within placed ahead (inl is) =
    let e = ahead_safe content before place era within placed.0 ahead.0 in
    inl (record { synced = is.synced ∙ e; no_shorter = is.no_shorter; no_longer = is.no_longer })
was_turned content new before place (era ∷ eras) image within placed ahead (inr was) = inr (was_turned content new before place eras image within placed.1 ahead.1 was)

was_unturned : (content new before : List ℕ) (place : ℕ) (eras : List Era) (image : List ℕ) → place ≤ length content → ArePlaced place eras → AreAhead eras
    → WasImage new content (map set_out_era eras) image → WasImage content before eras image
was_unturned content new before place [] image within placed ahead was = was
was_unturned content new before place (era ∷ eras) image within placed ahead (inl is) =
    let e = ahead_safe content before place era within placed.0 ahead.0 in
    inl (record { synced = is.synced ∙ sym e; no_shorter = is.no_shorter; no_longer = is.no_longer })
was_unturned content new before place (era ∷ eras) image within placed ahead (inr was) = inr (was_unturned content new before place eras image within placed.1 ahead.1 was)

-- a rewind or a cut, which keeps the content as the bytes after the place, or forgets the eras
elapses_turn : (content new before : List ℕ) (old now : Era) (forgot forgets : Bool) (eras : List Era) → old.place ≤ length content → now.synced ≤ old.synced → old.reach ≤ now.reach
    → take now.synced new ≡ take now.synced content → ArePlaced old.place eras → (forgets ≡ false → (forgot ≡ false) × AreAhead eras)
    → Elapses (length eras) (length (map set_out_era eras)) (told_from forgot eras) (told_from forgets (map set_out_era eras)) (Since content before old eras) (Since new content now (map set_out_era eras)) (Some (disk_with new now))
elapses_turn content new before old now forgot true eras within fewer farther e placed kept = record {
  later = omega (arith, length-map eras set_out_era);
  forgets = forgets_all forgot;
  nothing_else = λ t image from le since. absurd (omega (arith, from, le, length-map eras set_out_era));
  keeps = λ t image from le past. absurd (omega (arith, from, le, length-map eras set_out_era));
}
  where
    forgets_all : (b : Bool) → told_from b eras ≤ length (map set_out_era eras) + 1
    forgets_all false = omega (arith, length-map eras set_out_era)
    forgets_all true = omega (arith, length-map eras set_out_era)
elapses_turn content new before old now forgot false eras within fewer farther e placed kept =
    let ahead = (kept refl).1 in
    record {
      later = omega (arith, length-map eras set_out_era);
      forgets = subst (λ b. told_from b eras ≤ 0) (sym (kept refl).0) (omega arith);
      nothing_else = λ t image from le since. ⊎_elim (λ is. inr is)
          (λ was. inl (inr (was_unturned content new before old.place (drop t eras) image within (placed_drop old.place t eras placed) (ahead_drop t eras ahead) (subst (λ (l : List Era). WasImage new content l image) (drop-map set_out_era t eras) was)))) since;
      keeps = λ t image from le past. ⊎_elim (λ is. inl (image_more content new old now image fewer farther e is))
          (λ was. inr (subst (λ (l : List Era). WasImage new content l image) (sym (drop-map set_out_era t eras)) (was_turned content new before old.place (drop t eras) image within (placed_drop old.place t eras placed) (ahead_drop t eras ahead) was))) past;
    }

-- `elapses_turn`, from what the disk has after the turn
pub elapses_turned : (content new before kept : List ℕ) (old now : Era) (forgot forgets : Bool) (eras news : List Era) → kept ≡ content → news ≡ map set_out_era eras → old.place ≤ length content → now.synced ≤ old.synced → old.reach ≤ now.reach
    → take now.synced new ≡ take now.synced content → ArePlaced old.place eras → (forgets ≡ false → (forgot ≡ false) × AreAhead eras)
    → Elapses (length eras) (length news) (told_from forgot eras) (told_from forgets news) (Since content before old eras) (Since new kept now news) (Some (disk_with new now))
elapses_turned content new before kept old now forgot forgets eras news is_kept out within fewer farther e placed tells =
    let P : List ℕ → List Era → Type 0 = λ bytes list. Elapses (length eras) (length list) (told_from forgot eras) (told_from forgets list) (Since content before old eras) (Since new bytes now list) (Some (disk_with new now)) in
    subst (λ bytes. P bytes news) (sym is_kept) (subst (λ list. P content list) (sym out) (elapses_turn content new before old now forgot forgets eras within fewer farther e placed tells))

-- an image of these eras and one more is an image of these eras, or of that one
was_split : (content before : List ℕ) (eras : List Era) (era : Era) (image : List ℕ) → WasImage content before (eras ++ era ∷ []) image → WasImage content before eras image ⊎ IsImage (disk_in content before era) image
was_split content before [] era image (inl is) = inr is
was_split content before [] era image (inr was) = inl was
was_split content before (x ∷ eras) era image (inl is) = inl (inl is)
was_split content before (x ∷ eras) era image (inr was) = ⊎_elim (λ earlier. inl (inr earlier)) (λ is. inr is) (was_split content before eras era image was)

was_more : (content before : List ℕ) (eras : List Era) (era : Era) (image : List ℕ) → WasImage content before eras image → WasImage content before (eras ++ era ∷ []) image
was_more content before [] era image was = absurd was
was_more content before (x ∷ eras) era image (inl is) = inl is
was_more content before (x ∷ eras) era image (inr was) = inr (was_more content before eras era image was)

was_last : (content before : List ℕ) (eras : List Era) (era : Era) (image : List ℕ) → IsImage (disk_in content before era) image → WasImage content before (eras ++ era ∷ []) image
was_last content before [] era image is = inl is
was_last content before (x ∷ eras) era image is = inr (was_last content before eras era image is)

-- if the bytes after the era's place are those of `before`, the safe bytes are those that the disk has at the era's
-- end
safe_at_end : (content before : List ℕ) (era : Era) → era.synced ≤ length content → era.place ≤ length content → drop era.place content ≡ take (length content - era.place) (drop era.place before)
    → take era.synced content ≡ take era.synced (take era.place content ++ drop era.place before)
safe_at_end content before era safe placed behind =
    let front : List ℕ = take era.place content in
    let n : ℕ = length content - era.place in
    let whole : length front + n ≡ length content = omega (arith, length-take era.place content, placed) in
    let first : take (length content) (front ++ drop era.place before) ≡ content =
    ap (λ k. take k (front ++ drop era.place before)) (sym whole) ∙ take-append-add front (drop era.place before) n
    ∙ ap (λ (l : List ℕ). front ++ l) (sym behind) ∙ take-append-drop era.place content in
    ap (λ (l : List ℕ). take era.synced l) (sym first) ∙ take-take era.synced (length content) (front ++ drop era.place before) safe

-- a sync: the era joins those that have ended, and the next one begins
pub elapses_sync : (content before : List ℕ) (era next : Era) (forgot : Bool) (eras news : List Era) → news ≡ eras ++ era ∷ []
    → era.synced ≤ length content → era.place ≤ length content → drop era.place content ≡ take (length content - era.place) (drop era.place before)
    → Elapses (length eras) (length news) (told_from forgot eras) (told_from forgot news) (Since content before era eras) (Since content before next news) (Some (disk_with content next))
elapses_sync content before era next forgot eras news e safe placed behind =
    let P : List Era → Type 0 = λ list. Elapses (length eras) (length list) (told_from forgot eras) (told_from forgot list) (Since content before era eras) (Since content before next list) (Some (disk_with content next)) in
    subst P (sym e) (record {
      later = omega (arith, length-append eras (era ∷ []));
      forgets = forgets forgot;
      nothing_else = λ t image from le since. ⊎_elim (λ is. inr is) (λ was. inl (split t image le was)) since;
      keeps = λ t image from le past. ⊎_elim (λ is. inr (joined t image le (was_last content before (drop t eras) era image (image_by_safe content (take era.place content ++ drop era.place before) era image at_end is))))
          (λ was. inr (joined t image le (was_more content before (drop t eras) era image was))) past;
    })
  where
    at_end : take era.synced content ≡ take era.synced (take era.place content ++ drop era.place before)
    at_end = safe_at_end content before era safe placed behind

    forgets : (b : Bool) → told_from b eras ≤ told_from b (eras ++ era ∷ [])
    forgets false = omega arith
    forgets true = omega (arith, length-append eras (era ∷ []))

    split : (t : ℕ) (image : List ℕ) → t ≤ length eras → WasImage content before (drop t (eras ++ era ∷ [])) image → Since content before era eras t image
    split t image le was =
        ⊎_elim (λ earlier. inr earlier) (λ is. inl (image_by_safe (take era.place content ++ drop era.place before) content era image (sym at_end) is))
        (was_split content before (drop t eras) era image (subst (λ list. WasImage content before list image) (drop-append-le t eras (era ∷ []) le) was))

    joined : (t : ℕ) (image : List ℕ) → t ≤ length eras → WasImage content before (drop t eras ++ era ∷ []) image → WasImage content before (drop t (eras ++ era ∷ [])) image
    joined t image le was = subst (λ list. WasImage content before list image) (sym (drop-append-le t eras (era ∷ []) le)) was
