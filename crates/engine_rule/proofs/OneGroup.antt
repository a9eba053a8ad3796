-- One more group, for which its leader asked the controller for a delay.
use Rattle.std.proofs.Common.{◌≡◌, inl, inr, ℕ, ◌+◌, ◌<◌, Bool, true, false, nat_le, map, List, [], ◌∷◌, ◌++◌, flat_map, length, refl, ap, sym, ◌∙◌, subst, arith, append_assoc, append-nil, length-append}
use Rattle.std.specs.List.{AllByRecursion}
use Rattle.std.proofs.lemmas.Grind.{flat_map-append}
use mathlib.Core.List.{IsPrefix}
use Rattle.model_base.specs.Batch.{Record, count_of}
use Rattle.model_base.specs.Controller.{ControllerCall, HoldUp, Look}
use Rattle.model_base.specs.History.{max_sequence}
use Rattle.model_base.proofs.Prefixes.{prefix_length, prefix_self}
pub use Rattle.model_base.proofs.Prefixes.{prefix_trans}
use Rattle.engine_rule.specs.Commits.{Answer, Commit, Heard, NamesEnd, accepted, held_up, failed, no_room, last_after_all}
use Rattle.engine_rule.specs.Plans.{ComesAfter, CommitRequest, IsAskedFor, IsWholeGroup, MayNotWait, ProceedsWith, all_failed, all_held_up, answer_with, commit_of_request, last_with, last_with_all, commits_of_plan}
use Rattle.engine_rule.specs.Asked.{AreInGroups, AreTogether, FailTogether, IsHeldUp, IsLedGroup, LedGroup, NameEnds, Rise, is_failed, is_held_up, request_of}
use Rattle.engine_rule.proofs.Chains.{end_append}
use Rattle.engine_rule.proofs.Plans.{planned_end}

pub all_append : {X : Type 0} (P : X → Type 0) (xs ys : List X) → AllByRecursion P xs → AllByRecursion P ys → AllByRecursion P (xs ++ ys)
all_append P [] ys a b = b
all_append P (x ∷ xs) ys a b = (a.0, all_append P xs ys a.1 b)

rise_more : (groups : List LedGroup) (g : LedGroup) → Rise groups → AllByRecursion (λ (h : LedGroup). length h.went < length g.known) groups → Rise (groups ++ g ∷ [])
rise_more [] g r below = (tt, tt)
rise_more (h ∷ groups) g r below = (all_append (λ (i : LedGroup). length h.went < length i.known) groups (g ∷ []) r.0 (below.0, tt), rise_more groups g r.1 below.1)

-- the group's accepted members name what is given last after the group
abbrev pub NameEnd : ℕ → List Commit → Type 0
NameEnd end cs = AllByRecursion (λ (c : Commit). NamesEnd end c.answer) cs

ends_more : (last : ℕ) (groups : List LedGroup) (g : LedGroup) → NameEnds last groups → NameEnd (last_after_all (last_after_all last (flat_map (λ (h : LedGroup). h.commits) groups)) g.commits) g.commits → NameEnds last (groups ++ g ∷ [])
ends_more last [] g r now = (now, tt)
ends_more last (h ∷ groups) g r now = (
  r.0,
  ends_more (last_after_all last h.commits) groups g r.1
      (subst (λ n. NameEnd (last_after_all n g.commits) g.commits) (end_append last h.commits (flat_map (λ (i : LedGroup). i.commits) groups)) now),
)

-- these commits and those of one more group are in the groups with that one
abbrev pub OneMoreGroup : ℕ → ℕ → List Commit → List LedGroup → LedGroup → Type 0
OneMoreGroup start group_bytes cs groups g = (k : AreInGroups start group_bytes g.went (cs ++ g.commits)) × (k.groups ≡ groups ++ g ∷ [])

-- what the leaders before had seen is a beginning of what this leader had seen when it asked, and is shorter
module _ (asked known went : List ControllerCall) (comes : ComesAfter asked known) (goes : IsPrefix known went) where
  begins : IsPrefix asked known
  begins = (comes.more ++ comes.call ∷ [], sym (append_assoc asked comes.more (comes.call ∷ [])) ∙ sym comes.is)

  shorter : (seen : List ControllerCall) → IsPrefix seen asked → length seen < length known
  shorter seen p =
      let a = prefix_length seen asked p in
      let l = ap length comes.is ∙ length-append (asked ++ comes.more) (comes.call ∷ []) in
      let m = length-append asked comes.more in
      let one : length (comes.call ∷ []) ≡ 1 = refl in
      omega (arith, a, l, m, one)

  seen_later : (groups : List LedGroup) → AllByRecursion (λ (g : LedGroup). IsPrefix g.went asked) groups → AllByRecursion (λ (g : LedGroup). IsPrefix g.went went) groups
  seen_later [] h = tt
  seen_later (g ∷ groups) h = (prefix_trans g.went asked went h.0 (prefix_trans asked known went begins goes), seen_later groups h.1)

  all_shorter : (groups : List LedGroup) → AllByRecursion (λ (g : LedGroup). IsPrefix g.went asked) groups → AllByRecursion (λ (g : LedGroup). length g.went < length known) groups
  all_shorter [] h = tt
  all_shorter (g ∷ groups) h = (shorter g.went h.0, all_shorter groups h.1)

  group_more : (start group_bytes : ℕ) (cs new : List Commit) (k : AreInGroups start group_bytes asked cs) → IsLedGroup group_bytes (record { known = known; went = went; commits = new })
      → NameEnd (last_after_all (last_after_all start cs) new) new → OneMoreGroup start group_bytes cs k.groups (record { known = known; went = went; commits = new })
  group_more start group_bytes cs new k led named =
      let g : LedGroup = record { known = known; went = went; commits = new } in (
        record {
          groups = k.groups ++ g ∷ [];
          cut = flat_map-append (λ (h : LedGroup). h.commits) k.groups (g ∷ []) ∙ (λ i. k.cut i ++ append-nil new i);
          each = all_append (IsLedGroup group_bytes) k.groups (g ∷ []) k.each (led, tt);
          seen = all_append (λ (h : LedGroup). IsPrefix h.went went) k.groups (g ∷ []) (seen_later k.groups k.seen) (prefix_self went, tt);
          rise = rise_more k.groups g k.rise (all_shorter k.groups k.seen);
          name_ends = ends_more start k.groups g k.name_ends (subst (λ ds. NameEnd (last_after_all (last_after_all start ds) new) new) (sym k.cut) named);
        },
        refl,
      )

-- where the leader gives runs, each answer is an accepted one or says that there was no room
planned_not : (test : Answer → Bool) → ((first end : ℕ) → test (accepted first end) ≡ false) → ((at : ℕ) → test (no_room at) ≡ false) → (last end : ℕ) (records : List Record) → test (answer_with last end records) ≡ false
planned_not test given none last end records = by (nat_le (last + count_of records) max_sequence) refl
  where
    by : (b : Bool) → nat_le (last + count_of records) max_sequence ≡ b → test (answer_with last end records) ≡ false
    by true t = rw t (given (last + 1) end)
    by false t = rw t (none last)

-- and the accepted answers name the group's end
plan_named : (last end : ℕ) (records : List Record) → NamesEnd end (answer_with last end records)
plan_named last end records = by (nat_le (last + count_of records) max_sequence) refl
  where
    by : (b : Bool) → nat_le (last + count_of records) max_sequence ≡ b → NamesEnd end (answer_with last end records)
    by true t = rw t refl
    by false t = rw t tt

-- where no member is held up, there are no numbers of a hold-up to check
not_told : (numbers : Look) (cs : List Commit) → AllByRecursion (λ (c : Commit). is_held_up c.answer ≡ false) cs → AllByRecursion (IsHeldUp numbers) cs
not_told numbers [] h = tt
not_told numbers (c ∷ cs) h = ((λ told e. let is : true ≡ false = ap is_held_up (sym e) ∙ h.0 in absurd (cc)), not_told numbers cs h.1)

module _ (heard : Heard) where
  planned_are : (last end : ℕ) (rs : List CommitRequest) → map request_of (commits_of_plan heard last end rs) ≡ rs
  planned_are last end [] = refl
  planned_are last end (q ∷ rs) = ap (λ l. q ∷ l) (planned_are (last_with last q.records) end rs)

  planned_same : (last end : ℕ) (rs : List CommitRequest) → AllByRecursion (λ (c : Commit). c.heard ≡ heard) (commits_of_plan heard last end rs)
  planned_same last end [] = tt
  planned_same last end (q ∷ rs) = (refl, planned_same (last_with last q.records) end rs)

  planned_alike : (test : Answer → Bool) → ((first end : ℕ) → test (accepted first end) ≡ false) → ((at : ℕ) → test (no_room at) ≡ false) → (last end : ℕ) (rs : List CommitRequest)
      → AllByRecursion (λ (c : Commit). test c.answer ≡ false) (commits_of_plan heard last end rs)
  planned_alike test given none last end [] = tt
  planned_alike test given none last end (q ∷ rs) = (planned_not test given none last end q.records, planned_alike test given none (last_with last q.records) end rs)

  planned_named : (last end : ℕ) (rs : List CommitRequest) → NameEnd end (commits_of_plan heard last end rs)
  planned_named last end [] = tt
  planned_named last end (q ∷ rs) = (plan_named last end q.records, planned_named (last_with last q.records) end rs)

  -- commits that all have the same answer still have the requests that they were made of
  alike_are : (v : Answer) (rs : List CommitRequest) → map request_of (map (λ (q : CommitRequest). commit_of_request heard q v) rs) ≡ rs
  alike_are v [] = refl
  alike_are v (q ∷ rs) = ap (λ l. q ∷ l) (alike_are v rs)

  alike_same : (v : Answer) (rs : List CommitRequest) → AllByRecursion (λ (c : Commit). c.heard ≡ heard) (map (λ (q : CommitRequest). commit_of_request heard q v) rs)
  alike_same v [] = tt
  alike_same v (q ∷ rs) = (refl, alike_same v rs)

  alike_answers : (test : Answer → Bool) (v : Answer) (b : Bool) → test v ≡ b → (rs : List CommitRequest) → AllByRecursion (λ (c : Commit). test c.answer ≡ b) (map (λ (q : CommitRequest). commit_of_request heard q v) rs)
  alike_answers test v b is [] = tt
  alike_answers test v b is (q ∷ rs) = (is, alike_answers test v b is rs)

  alike_named : (v : Answer) (end : ℕ) → NamesEnd end v → (rs : List CommitRequest) → NameEnd end (map (λ (q : CommitRequest). commit_of_request heard q v) rs)
  alike_named v end named [] = tt
  alike_named v end named (q ∷ rs) = (named, alike_named v end named rs)

held_held : (known : List ControllerCall) (numbers : Look) → HoldUp numbers → (rs : List CommitRequest) → MayNotWait rs → AllByRecursion (IsHeldUp numbers) (all_held_up known numbers rs)
held_held known numbers hold [] may = tt
held_held known numbers hold (q ∷ rs) may = ((λ told e. (cc (e), hold, may.0)), held_held known numbers hold rs may.1)

module _ (start group_bytes : ℕ) (cs : List Commit) (asked known : List ControllerCall) (numbers : Look) (k : AreInGroups start group_bytes asked cs) (requests : List CommitRequest) (whole : IsWholeGroup group_bytes requests)
    (is_asked : IsAskedFor requests numbers known) (comes : ComesAfter asked known) where
  abbrev pub heard_with : List ControllerCall → Heard
  heard_with went = record { known = known; went = went }

  abbrev pub with_these : List ControllerCall → List Commit → LedGroup
  with_these went new = record { known = known; went = went; commits = new }

  with_group : (went : List ControllerCall) (new : List Commit) → map request_of new ≡ requests → AllByRecursion (λ (c : Commit). c.heard ≡ heard_with went) new → AllByRecursion (IsHeldUp numbers) new
      → AreTogether (with_these went new) numbers → FailTogether new → IsPrefix known went → NameEnd (last_after_all (last_after_all start cs) new) new → OneMoreGroup start group_bytes cs k.groups (with_these went new)
  with_group went new are same held together fail goes named = group_more asked known went comes goes start group_bytes cs new k (record {
    numbers = numbers;
    asked = subst (λ rs. IsAskedFor rs numbers known) (sym are) is_asked;
    is_group = subst (IsWholeGroup group_bytes) (sym are) whole;
    same = same;
    are_held_up = held;
    together = together;
    fail = fail;
    seen_since = goes;
  }) named

  -- a group that goes on, where no member is held up, is one more of the groups
  going_on : (went : List ControllerCall) → ProceedsWith requests numbers known went → (new : List Commit) → map request_of new ≡ requests → AllByRecursion (λ (c : Commit). c.heard ≡ heard_with went) new
      → AllByRecursion (λ (c : Commit). is_held_up c.answer ≡ false) new → FailTogether new → NameEnd (last_after_all (last_after_all start cs) new) new → OneMoreGroup start group_bytes cs k.groups (with_these went new)
  going_on went proceeds new are same free fail named = with_group went new are same (not_told numbers new free) (inr (free, subst (λ rs. ProceedsWith rs numbers known went) (sym are) proceeds)) fail proceeds.begins named

  pub in_groups_planned : (went : List ControllerCall) → ProceedsWith requests numbers known went → (last : ℕ) → last ≡ last_after_all start cs → OneMoreGroup start group_bytes cs k.groups (with_these went (commits_of_plan (heard_with went) last (last_with_all last requests) requests))
  in_groups_planned went proceeds last is =
      let end = last_with_all last requests in
      going_on went proceeds (commits_of_plan (heard_with went) last end requests) (planned_are (heard_with went) last end requests) (planned_same (heard_with went) last end requests)
      (planned_alike (heard_with went) is_held_up (λ first ends. refl) (λ at. refl) last end requests) (inr (planned_alike (heard_with went) is_failed (λ first ends. refl) (λ at. refl) last end requests))
      (subst (λ n. NameEnd n (commits_of_plan (heard_with went) last end requests)) (sym (planned_end (heard_with went) last end requests) ∙ ap (λ n. last_after_all n (commits_of_plan (heard_with went) last end requests)) is) (planned_named (heard_with went) last end requests))

  pub in_groups_failed : (went : List ControllerCall) → ProceedsWith requests numbers known went → (n : ℕ) → OneMoreGroup start group_bytes cs k.groups (with_these went (all_failed (heard_with went) n requests))
  in_groups_failed went proceeds n =
      going_on went proceeds (all_failed (heard_with went) n requests) (alike_are (heard_with went) (failed n) requests) (alike_same (heard_with went) (failed n) requests) (alike_answers (heard_with went) is_held_up (failed n) false refl requests)
      (inl (alike_answers (heard_with went) is_failed (failed n) true refl requests))
      (alike_named (heard_with went) (failed n) (last_after_all (last_after_all start cs) (all_failed (heard_with went) n requests)) tt requests)

  pub in_groups_held_up : HoldUp numbers → MayNotWait requests → OneMoreGroup start group_bytes cs k.groups (with_these known (all_held_up known numbers requests))
  in_groups_held_up hold may =
      with_group known (all_held_up known numbers requests) (alike_are (heard_with known) (held_up numbers) requests) (alike_same (heard_with known) (held_up numbers) requests) (held_held known numbers hold requests may)
      (inl (alike_answers (heard_with known) is_held_up (held_up numbers) true refl requests)) (inr (alike_answers (heard_with known) is_failed (held_up numbers) false refl requests)) (prefix_self known)
      (alike_named (heard_with known) (held_up numbers) (last_after_all (last_after_all start cs) (all_held_up known numbers requests)) tt requests)
