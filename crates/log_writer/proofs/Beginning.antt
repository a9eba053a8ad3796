-- How a log begins on a disk.
use Rattle.std.proofs.Common.{◌≡◌, ◌⊎◌, inl, inr, ⊎_elim, ℕ, ◌≤◌, List, [], length, take, min, Option, Some, None, Result, Ok, Err, MatchResult, IfSome, OnOk, refl, sym, ◌∙◌, ap, subst, arith, length-take}
use Rattle.std.proofs.Math.Seq.{take-take}
use Rattle.std.proofs.lemmas.List.{take_all}
use Rattle.std.specs.Result.{IsErr}
use Rattle.base_devices.specs.Disk.{Disk, IsDisk, IsImage, all_safe, rewound, Rewound, cut_at, Cut, made_safe, Synced, Told, TimePasses}
use Rattle.base_devices.specs.Faults.{HasCause}
use Rattle.base_devices.specs.declared.disk.Disk.{Ghosts}
use Rattle.model_base.specs.Log.{Beginning, new_log}
use Rattle.log_writer.specs.declared.writer.LogWriter.{LogWriter}
use Rattle.log_writer.specs.Words.{disk_of}
use Rattle.log_writer.specs.Opening.{MayBeLeftOf, SpellsInFront, LeavesOf, LeavesAsBefore, HasOpened, HasReused, HasResumed, HasKeptBytes, HasBegun, Keeps}
use Rattle.log_writer.proofs.Putting.{told_so, leaves_so, leaves_more, leaves_time, more_cause}
use Rattle.log_writer.proofs.Surviving.{Laws}

-- An image of a disk that has as much safe as the first one, and no greater reach, may be left of the first one.
lowered : (x d : Disk) (sure : ℕ) (image : List ℕ) → min x.synced sure ≤ d.synced → take (min x.synced sure) d.content ≡ take (min x.synced sure) x.content → d.reach ≤ x.reach → IsImage d image → IsImage (record x { synced = min x.synced sure }) image
lowered x d sure image safe same reach is = record {
  synced = sym (take-take (min x.synced sure) d.synced image safe) ∙ (ap (take (min x.synced sure)) is.synced ∙ (take-take (min x.synced sure) d.synced d.content safe ∙ same));
  no_shorter = omega (arith, safe, is.no_shorter);
  no_longer = omega (arith, reach, is.no_longer);
}

lowered_self : (x : Disk) (sure : ℕ) (image : List ℕ) → IsImage x image → IsImage (record x { synced = min x.synced sure }) image
lowered_self x sure image is = lowered x x sure image (omega arith) refl (omega arith) is

pub left_of_self : (told : Option Disk) (sure : ℕ) (image : List ℕ) → IfSome told (λ d. IsImage d image) → MayBeLeftOf told sure image
left_of_self None sure image is = tt
left_of_self (Some x) sure image is = lowered_self x sure image is

-- What a crash at any moment of a rewind leaves.

rewound_image : {T E : Type 0} (x y : Disk) (r : Result T E) (image : List ℕ) → Rewound x y r → IsImage y image → IsImage x image
rewound_image x y (Ok t) image e is = let same = subst (λ (d : Disk). IsImage d image) e is in record { synced = same.synced; no_shorter = same.no_shorter; no_longer = same.no_longer }
rewound_image x y (Err f) image either is = ⊎_elim (λ e. subst (λ (d : Disk). IsImage d image) e is)
    (λ e. let same = subst (λ (d : Disk). IsImage d image) e is in record { synced = same.synced; no_shorter = same.no_shorter; no_longer = same.no_longer }) either

told_image : {T E : Type 0} (a b : Option Disk) (r : Result T E) (image : List ℕ) → Told a b (λ x y. Rewound x y r) → IfSome b (λ d. IsImage d image) → IfSome a (λ d. IsImage d image)
told_image None b r image told is = tt
told_image (Some x) None r image told is = absurd told
told_image (Some x) (Some y) r image told is = rewound_image x y r image told is

pub rewind_leaves : {D T E : Type 0} (ghosts : Ghosts D) (a b : D) (r : Result T E)
    → ((image : List ℕ) → ghosts.from a ≤ ghosts.moment a → ghosts.since a (ghosts.moment a) image → IfSome (ghosts.told a) (λ d. IsImage d image))
    → Told (ghosts.told a) (ghosts.told b) (λ x y. Rewound x y r) → TimePasses ghosts.told ghosts.moment ghosts.from ghosts.since a b → LeavesAsBefore ghosts a b
rewind_leaves ghosts a b r only told time =
    leaves_time ghosts a b (λ image. IfSome (ghosts.told a) (λ d. IsImage d image)) only time (λ image is. is) (λ image is. told_image (ghosts.told a) (ghosts.told b) r image told is)

-- where nothing is done, a crash leaves what it might have left before
pub leaves_before : {D : Type 0} (ghosts : Ghosts D) (a : D) → ((image : List ℕ) → ghosts.from a ≤ ghosts.moment a → ghosts.since a (ghosts.moment a) image → IfSome (ghosts.told a) (λ d. IsImage d image)) → LeavesAsBefore ghosts a a
leaves_before ghosts a only = record { later = omega arith; forgets = omega arith; each = λ image known s. only image known s; before = λ t image known le s. inl s }

pub leaves_before_of : {D : Type 0} (ghosts : Ghosts D) (a b : D) (sure : ℕ) → LeavesAsBefore ghosts a b → LeavesOf ghosts a b sure
leaves_before_of ghosts a b sure leaves =
    leaves_so ghosts.moment ghosts.from ghosts.since (λ image. IfSome (ghosts.told a) (λ d. IsImage d image)) (MayBeLeftOf (ghosts.told a) sure) a b leaves (left_of_self (ghosts.told a) sure)

-- What a crash at any moment of a cut leaves.

cut_image : {T E : Type 0} (x y : Disk) (kept : ℕ) (r : Result T E) (image : List ℕ) → Cut x y kept r → IsImage y image → IsImage (record x { synced = min x.synced kept }) image
cut_image x y kept r image cut is = by_result r cut
  where
    of_cut : y ≡ cut_at kept x → IsImage (record x { synced = min x.synced kept }) image
    of_cut e = lowered x (cut_at kept x) kept image (omega arith) (take-take (min x.synced kept) kept x.content (omega arith)) (omega arith) (subst (λ (d : Disk). IsImage d image) e is)

    of_self : y ≡ x → IsImage (record x { synced = min x.synced kept }) image
    of_self e = lowered_self x kept image (subst (λ (d : Disk). IsImage d image) e is)

    by_result : {T E : Type 0} (r : Result T E) → Cut x y kept r → IsImage (record x { synced = min x.synced kept }) image
    by_result (Ok t) e = of_cut e
    by_result (Err f) either = ⊎_elim of_self of_cut either

told_cut_image : {T E : Type 0} (a b : Option Disk) (kept : ℕ) (r : Result T E) (image : List ℕ) → Told a b (λ x y. Cut x y kept r) → IfSome b (λ d. IsImage d image) → MayBeLeftOf a kept image
told_cut_image None b kept r image told is = tt
told_cut_image (Some x) None kept r image told is = absurd told
told_cut_image (Some x) (Some y) kept r image told is = cut_image x y kept r image told is

cut_leaves : {D T E : Type 0} (ghosts : Ghosts D) (a b : D) (kept : ℕ) (r : Result T E)
    → ((image : List ℕ) → ghosts.from a ≤ ghosts.moment a → ghosts.since a (ghosts.moment a) image → IfSome (ghosts.told a) (λ d. IsImage d image))
    → Told (ghosts.told a) (ghosts.told b) (λ x y. Cut x y kept r) → TimePasses ghosts.told ghosts.moment ghosts.from ghosts.since a b → LeavesOf ghosts a b kept
cut_leaves ghosts a b kept r only told time =
    leaves_time ghosts a b (MayBeLeftOf (ghosts.told a) kept) only time (left_of_self (ghosts.told a) kept) (λ image is. told_cut_image (ghosts.told a) (ghosts.told b) kept r image told is)

pub cut_fails : {D T U E F : Type 0} (ghosts : Ghosts D) (a b : D) (kept : ℕ) (e : E) (r : Result U F)
    → ((image : List ℕ) → ghosts.from a ≤ ghosts.moment a → ghosts.since a (ghosts.moment a) image → IfSome (ghosts.told a) (λ d. IsImage d image)) → IsErr r
    → Told (ghosts.told a) (ghosts.told b) (λ x y. Cut {T = T} x y kept (Err e)) → TimePasses ghosts.told ghosts.moment ghosts.from ghosts.since a b
    → HasCause {T = T} (ghosts.faults a) (ghosts.faults b) (Err e) → Keeps ghosts a b kept r
cut_fails ghosts a b kept e (Ok t) only failed told time cause = absurd (cc)
cut_fails {T = T} ghosts a b kept e (Err f) only failed told time cause = record {
  told = told_so (ghosts.told a) (ghosts.told b) told (λ x y p. p);
  counted = tt;
  cause = record { later = cause.later; once = cause.once; failed = cause.failed; worked = tt };
  crash = cut_leaves {T = T} ghosts a b kept (Err e) only told time;
}

-- And with a sync after the cut.

all_kept : (x : Disk) (kept : ℕ) → kept ≤ length x.content → made_safe (cut_at kept x) ≡ all_safe (take kept x.content)
all_kept x kept within =
    let len : kept ≡ length (take kept x.content) = omega (arith, length-take kept x.content, within) in
    ap (λ (n : ℕ). record { content = take kept x.content; synced = length (take kept x.content); reach = length (take kept x.content); place = n }) len

kept_image : {T E : Type 0} (x y z : Disk) (kept : ℕ) (r : Result T E) (image : List ℕ) → IsDisk x → y ≡ cut_at kept x → Synced y z r → IsImage z image → IsImage (record x { synced = min x.synced kept }) image
kept_image x y z kept r image is_disk cut sync is = by_result r sync
  where
    same : take (min x.synced kept) (take kept x.content) ≡ take (min x.synced kept) x.content
    same = take-take (min x.synced kept) kept x.content (omega arith)

    by_result : {T E : Type 0} (r : Result T E) → Synced y z r → IsImage (record x { synced = min x.synced kept }) image
    by_result (Ok t) e =
        lowered x (made_safe (cut_at kept x)) kept image (omega (arith, is_disk.synced, length-take kept x.content)) same (omega (arith, is_disk.within, length-take kept x.content))
        (subst (λ (d : Disk). IsImage d image) (e ∙ ap made_safe cut) is)
    by_result (Err f) e = lowered x (cut_at kept x) kept image (omega arith) same (omega arith) (subst (λ (d : Disk). IsImage d image) (e ∙ cut) is)

told_kept_image : {T E : Type 0} (a b c : Option Disk) (kept : ℕ) (r : Result T E) (image : List ℕ) → IfSome a IsDisk → Told a b (λ x y. y ≡ cut_at kept x) → Told b c (λ y z. Synced y z r) → IfSome c (λ d. IsImage d image) → MayBeLeftOf a kept image
told_kept_image None b c kept r image is_disk cut sync is = tt
told_kept_image (Some x) None c kept r image is_disk cut sync is = absurd cut
told_kept_image (Some x) (Some y) None kept r image is_disk cut sync is = absurd sync
told_kept_image (Some x) (Some y) (Some z) kept r image is_disk cut sync is = kept_image x y z kept r image is_disk cut sync is

told_between : (a b : Option Disk) (kept : ℕ) (image : List ℕ) → Told a b (λ x y. y ≡ cut_at kept x) → IfSome b (λ d. IsImage d image) → MayBeLeftOf a kept image
told_between None b kept image cut is = tt
told_between (Some x) None kept image cut is = absurd cut
told_between (Some x) (Some y) kept image cut is =
    lowered x (cut_at kept x) kept image (omega arith) (take-take (min x.synced kept) kept x.content (omega arith)) (omega arith) (subst (λ (d : Disk). IsImage d image) cut is)

kept_told : {T E : Type 0} (x y z : Disk) (kept : ℕ) (r : Result T E) → kept ≤ length x.content → y ≡ cut_at kept x → Synced y z r → MatchResult r (λ _. z ≡ all_safe (take kept x.content)) (λ _. (z ≡ x) ⊎ (z ≡ cut_at kept x))
kept_told x y z kept (Ok t) within cut sync = sync ∙ (ap made_safe cut ∙ all_kept x kept within)
kept_told x y z kept (Err e) within cut sync = inr (sync ∙ cut)

told_kept : {T E : Type 0} (a b c : Option Disk) (kept : ℕ) (r : Result T E) → IfSome a (λ d. kept ≤ length d.content) → Told a b (λ x y. y ≡ cut_at kept x) → Told b c (λ y z. Synced y z r)
    → Told a c (λ x z. MatchResult r (λ _. z ≡ all_safe (take kept x.content)) (λ _. (z ≡ x) ⊎ (z ≡ cut_at kept x)))
told_kept None None None kept r within cut sync = tt
told_kept None None (Some z) kept r within cut sync = absurd sync
told_kept None (Some y) c kept r within cut sync = absurd cut
told_kept (Some x) None c kept r within cut sync = absurd cut
told_kept (Some x) (Some y) None kept r within cut sync = absurd sync
told_kept (Some x) (Some y) (Some z) kept r within cut sync = kept_told x y z kept r within cut sync

kept_counted : {T E : Type 0} (r : Result T E) (kept before now : ℕ) → before ≡ kept → now ≡ before → OnOk r (now ≡ kept)
kept_counted (Ok t) kept before now first second = second ∙ first
kept_counted (Err e) kept before now first second = tt

pub cut_synced : {D S T E : Type 0} (ghosts : Ghosts D) (a b c : D) (kept : ℕ) (s : S) (r : Result T E) → Laws ghosts → IfSome (ghosts.told a) (λ d. kept ≤ length d.content)
    → Told (ghosts.told a) (ghosts.told b) (λ x y. y ≡ cut_at kept x) → ghosts.added b ≡ kept → TimePasses ghosts.told ghosts.moment ghosts.from ghosts.since a b → HasCause {T = S} {E = E} (ghosts.faults a) (ghosts.faults b) (Ok s)
    → Told (ghosts.told b) (ghosts.told c) (λ y z. Synced y z r) → ghosts.added c ≡ ghosts.added b → TimePasses ghosts.told ghosts.moment ghosts.from ghosts.since b c → HasCause (ghosts.faults b) (ghosts.faults c) r
    → Keeps ghosts a c kept r
cut_synced {S = S} {E = E} ghosts a b c kept s r laws within cut counted time cause sync same later again = record {
  told = told_kept (ghosts.told a) (ghosts.told b) (ghosts.told c) kept r within cut sync;
  counted = kept_counted r kept (ghosts.added b) (ghosts.added c) counted same;
  cause = more_cause (ghosts.faults a) (ghosts.faults b) (ghosts.faults c) s r cause again;
  crash =
      let P : List ℕ → Type 0 = MayBeLeftOf (ghosts.told a) kept in
      leaves_more ghosts.moment ghosts.from ghosts.since P P a b c
      (leaves_time ghosts a b P (laws.only_now a) time (left_of_self (ghosts.told a) kept) (λ image is. told_between (ghosts.told a) (ghosts.told b) kept image cut is))
      (leaves_time ghosts b c P (laws.only_now b) later (λ image is. told_between (ghosts.told a) (ghosts.told b) kept image cut is)
      (λ image is. told_kept_image (ghosts.told a) (ghosts.told b) (ghosts.told c) kept r image (laws.is_disk a) cut sync is))
      (λ image left. left);
}

-- The three ways in which a log begins.

empty_behind : (a now : Option Disk) → IfSome a IsDisk → IfSome a (λ d. d.content ≡ []) → now ≡ a → Told a now (HasKeptBytes new_log)
empty_behind None now is empty same = subst (λ (t : Option Disk). Told None t (HasKeptBytes new_log)) (sym same) tt
empty_behind (Some x) now is empty same =
    let place : x.place ≡ 0 = omega (arith, is.placed, ap length empty) in
    subst (λ (t : Option Disk). Told (Some x) t (HasKeptBytes new_log)) (sym same) (record {
      place = place;
      kept = ap (λ (n : ℕ). take n x.content) place;
      safe = omega arith;
      reach = omega arith;
    })

left_same : (a now : Option Disk) (sure : ℕ) (image : List ℕ) → now ≡ a → IfSome now (λ d. IsImage d image) → MayBeLeftOf a sure image
left_same a now sure image same is = left_of_self a sure image (subst (λ (t : Option Disk). IfSome t (λ d. IsImage d image)) same is)

rewound_behind : (n : ℕ) (x y : Disk) → y ≡ rewound x → HasKeptBytes (record { number = Some n; kept = [] }) x y
rewound_behind n x y e =
    let place : y.place ≡ 0 = ap (λ (d : Disk). d.place) e in
    let reach : y.reach ≡ x.reach = ap (λ (d : Disk). d.reach) e in
    record { place = place; kept = ap (λ (k : ℕ). take k y.content) place; safe = omega arith; reach = omega (arith, reach) }

kept_behind : (b : Beginning) (x y : Disk) → IsDisk x → take (length b.kept) x.content ≡ b.kept → y ≡ all_safe (take (length b.kept) x.content) → HasKeptBytes b x y
kept_behind b x y is kept e =
    let len : length (take (length b.kept) x.content) ≡ length b.kept = ap length kept in
    let content : y.content ≡ b.kept = ap (λ (d : Disk). d.content) e ∙ kept in
    let place : y.place ≡ length b.kept = ap (λ (d : Disk). d.place) e ∙ len in
    let synced : y.synced ≡ length (take (length b.kept) x.content) = ap (λ (d : Disk). d.synced) e in
    let reach : y.reach ≡ length (take (length b.kept) x.content) = ap (λ (d : Disk). d.reach) e in
    record {
      place = place;
      kept = ap (take y.place) content ∙ take_all y.place b.kept (omega (arith, place));
      safe = omega (arith, synced, len);
      reach = omega (arith, reach, length-take (length b.kept) x.content, is.within);
    }

told_kept_behind : (b : Beginning) (a now : Option Disk) → IfSome a IsDisk → IfSome a (λ d. take (length b.kept) d.content ≡ b.kept) → Told a now (λ x y. y ≡ all_safe (take (length b.kept) x.content)) → Told a now (HasKeptBytes b)
told_kept_behind b None None is kept told = tt
told_kept_behind b None (Some y) is kept told = told
told_kept_behind b (Some x) None is kept told = told
told_kept_behind b (Some x) (Some y) is kept told = kept_behind b x y is kept told

module _ {D : Type 0} {ghosts : Ghosts D} (laws : Laws ghosts) where
  pub opened_begins : (disk : D) (log : LogWriter D ghosts) → HasOpened disk log → HasBegun new_log disk log
  opened_begins disk log opened = record {
    told = empty_behind (ghosts.told disk) (ghosts.told (disk_of log)) (laws.is_disk disk) opened.empty (opened.looked_at).same;
    number_is = opened.number;
    len = opened.len;
    fault = opened.fault;
    no_fault = opened.no_fault;
    crash = leaves_time ghosts disk (disk_of log) (MayBeLeftOf (ghosts.told disk) 0) (laws.only_now disk) (opened.looked_at).time (left_of_self (ghosts.told disk) 0)
        (λ image is. left_same (ghosts.told disk) (ghosts.told (disk_of log)) 0 image (opened.looked_at).same is);
  }

  pub reused_begins : (disk : D) (n : ℕ) (log : LogWriter D ghosts) → HasReused disk n log → HasBegun (record { number = Some n; kept = [] }) disk log
  reused_begins disk n log reused = record {
    told = told_so (ghosts.told disk) (ghosts.told (disk_of log)) reused.told (λ x y e. rewound_behind n x y e);
    number_is = reused.number_is;
    len = reused.len;
    fault = reused.fault;
    no_fault = reused.no_fault;
    crash = leaves_before_of ghosts disk (disk_of log) 0 reused.crash;
  }

  pub resumed_begins : (disk : D) (b : Beginning) (log : LogWriter D ghosts) → HasResumed disk (length b.kept) b.number log → IfSome (ghosts.told disk) (λ d. take (length b.kept) d.content ≡ b.kept) → HasBegun b disk log
  resumed_begins disk b log resumed kept = record {
    told = told_kept_behind b (ghosts.told disk) (ghosts.told (disk_of log)) (laws.is_disk disk) kept resumed.told;
    number_is = resumed.number_is;
    len = resumed.len;
    fault = resumed.fault;
    no_fault = resumed.no_fault;
    crash = resumed.crash;
  }

-- Where the disk's place is once the log has begun.

pub empty_place : (told : Option Disk) → IfSome told IsDisk → IfSome told (λ d. length d.content ≡ 0) → IfSome told (λ d. d.place ≡ 0)
empty_place None is empty = tt
empty_place (Some d) is empty = omega (arith, is.placed, empty)

pub rewound_place : (told now : Option Disk) → Told told now (λ x y. y ≡ rewound x) → IfSome now (λ d. d.place ≡ 0)
rewound_place None None rewind = tt
rewound_place None (Some y) rewind = absurd rewind
rewound_place (Some x) None rewind = tt
rewound_place (Some x) (Some y) rewind = ap (λ (d : Disk). d.place) rewind

pub in_content : (told : Option Disk) (number : Option ℕ) (kept : ℕ) → IfSome told (λ d. SpellsInFront number kept d.content) → IfSome told (λ d. kept ≤ length d.content)
in_content None number kept spells = tt
in_content (Some d) number kept spells = spells.within

pub kept_place : (told now : Option Disk) (kept : ℕ) → IfSome told (λ d. kept ≤ length d.content) → Told told now (λ x y. y ≡ all_safe (take kept x.content)) → IfSome now (λ d. d.place ≡ kept)
kept_place None None kept within same = tt
kept_place None (Some y) kept within same = absurd same
kept_place (Some x) None kept within same = tt
kept_place (Some x) (Some y) kept within same =
    let place : y.place ≡ length (take kept x.content) = ap (λ (d : Disk). d.place) same in omega (arith, place, length-take kept x.content, within)

-- where nothing is done, a disk tells the same
pub unchanged : (R : Disk → Disk → Type 0) (told : Option Disk) → ((x : Disk) → R x x) → Told told told R
unchanged R None r = tt
unchanged R (Some x) r = r x
