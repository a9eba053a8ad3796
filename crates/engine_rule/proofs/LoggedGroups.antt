-- The log's calls go by the groups: one more group, and one more call or none.
use Rattle.std.proofs.Common.{◌≡◌, ◌-◌, Bool, true, false, cond, filter, map, List, [], ◌∷◌, ◌++◌, length, refl, ap, sym, ◌∙◌, append_assoc, append-nil}
use Rattle.std.specs.Prelude.{if◌then◌else◌}
use Rattle.std.proofs.lemmas.List.{map-append}
use Rattle.model_base.specs.History.{Entry}
use Rattle.model_base.specs.Groups.{Group}
use Rattle.model_base.specs.LogContents.{GroupCall}
use Rattle.model_runs.specs.Groups.{LogsGroups, has_entries, is_in_log, is_kept_out, leader_syncs, logged_groups}
use Rattle.model_accounts.specs.Led.{Taken, groups_after, members_after}
use Rattle.engine_rule.specs.Commits.{Commit}
use Rattle.engine_rule.specs.Asked.{LedGroup, commits_in}
use Rattle.engine_rule.specs.Entries.{entries_after, entries_of}
use Rattle.engine_rule.specs.LogCalls.{led_of, outcome_groups, parts_after, taken_of}

abbrev pub LogsLed : List LedGroup → List (List Entry) → List GroupCall → Type 0
LogsLed groups parts calls = LogsGroups (outcome_groups groups) (parts_after [] groups) parts calls

-- one more group, after these commits: the group of the outcome, and the entries that it makes
abbrev pub group_at : List Taken → LedGroup → Group
group_at before g = record { place = length g.known - 1; members = members_after before (map taken_of g.commits) }

abbrev pub made_after : List Commit → LedGroup → List Entry
made_after cs g = entries_after (entries_of cs) g.commits

abbrev entries_in : Group × List Entry → List Entry
entries_in g = g.1

abbrev sync_of : Group × List Entry → Bool
sync_of g = leader_syncs g.0.members

abbrev logged : List Taken → List Commit → List LedGroup → List (Group × List Entry)
logged before cs groups = logged_groups (groups_after before (map led_of groups)) (parts_after cs groups)

logged_more : (before : List Taken) (cs : List Commit) (groups : List LedGroup) (g : LedGroup) (all : List Commit) → cs ++ commits_in groups ≡ all
    → (earlier : List Taken) × (logged before cs (groups ++ g ∷ []) ≡ logged before cs groups ++ filter is_in_log ((group_at earlier g, made_after all g) ∷ []))
logged_more before cs [] g all is = (before, ap (λ ds. filter is_in_log ((group_at before g, made_after ds g) ∷ [])) (sym (append-nil cs) ∙ is))
logged_more before cs (h ∷ groups) g all is =
    let more = logged_more (before ++ map taken_of h.commits) (cs ++ h.commits) groups g all (append_assoc cs h.commits (commits_in groups) ∙ is) in
    (more.0, one (is_in_log (group_at before h, made_after cs h)) (group_at before h, made_after cs h) _ _ _ more.1)
  where
    one : (b : Bool) (x : Group × List Entry) (all old new : List (Group × List Entry)) → all ≡ old ++ new → cond b (x ∷ all) all ≡ cond b (x ∷ old) old ++ new
    one true x all old new e = ap (λ l. x ∷ l) e
    one false x all old new e = e

module _ (groups : List LedGroup) (g : LedGroup) (cs : List Commit) (cut : commits_in groups ≡ cs) (parts : List (List Entry)) (calls : List GroupCall) (logs : LogsLed groups parts calls) where
  pub not_logged : ((before : List Taken) → is_in_log (group_at before g, made_after cs g) ≡ false) → LogsLed (groups ++ g ∷ []) parts calls
  not_logged out =
      let more = logged_more [] [] groups g cs cut in
      let same : logged [] [] (groups ++ g ∷ []) ≡ logged [] [] groups =
      more.1 ∙ (ap (λ b. logged [] [] groups ++ cond b ((group_at more.0 g, made_after cs g) ∷ []) []) (out more.0) ∙ append-nil (logged [] [] groups)) in
      record { parts_are = logs.parts_are ∙ ap (map entries_in) (sym same); syncs_are = logs.syncs_are ∙ ap (map sync_of) (sym same) }

  pub one_logged : (c : GroupCall) → ((before : List Taken) → is_in_log (group_at before g, made_after cs g) ≡ true) → ((before : List Taken) → c.sync ≡ leader_syncs (members_after before (map taken_of g.commits)))
      → LogsLed (groups ++ g ∷ []) (parts ++ made_after cs g ∷ []) (calls ++ c ∷ [])
  one_logged c within sync =
      let more = logged_more [] [] groups g cs cut in
      let x : Group × List Entry = (group_at more.0 g, made_after cs g) in
      let one : logged [] [] (groups ++ g ∷ []) ≡ logged [] [] groups ++ x ∷ [] = more.1 ∙ ap (λ b. logged [] [] groups ++ cond b (x ∷ []) []) (within more.0) in
      record {
        parts_are = ap (λ l. l ++ made_after cs g ∷ []) logs.parts_are ∙ (sym (map-append entries_in (logged [] [] groups) (x ∷ [])) ∙ ap (map entries_in) (sym one));
        syncs_are = map-append (λ (d : GroupCall). d.sync) calls (c ∷ []) ∙ ((λ i. logs.syncs_are i ++ sync more.0 i ∷ []) ∙ (sym (map-append sync_of (logged [] [] groups) (x ∷ [])) ∙ ap (map sync_of) (sym one)));
      }

-- a group that made no entries isn't in the log, nor is one whose leader kept it out
pub none_made : (x : Group) (part : List Entry) → part ≡ [] → is_in_log (x, part) ≡ false
none_made x part none = by (is_kept_out x.members) (ap has_entries none)
  where
    by : (b : Bool) → has_entries part ≡ false → (if b then false else has_entries part) ≡ false
    by true is = refl
    by false is = is

pub left_out : (x : Group) (part : List Entry) → is_kept_out x.members ≡ true → is_in_log (x, part) ≡ false
left_out x part out = ap (λ b. if b then false else has_entries part) out

pub goes_in : (x : Group) (part : List Entry) → is_kept_out x.members ≡ false → has_entries part ≡ true → is_in_log (x, part) ≡ true
goes_in x part stays some = ap (λ b. if b then false else has_entries part) stays ∙ some
