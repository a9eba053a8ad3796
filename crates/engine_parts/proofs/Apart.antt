-- Parts that are apart: each member with a run has its own.
use Rattle.std.proofs.Common.{◌≡◌, ◌≢◌, ⊎_elim, ℕ, ◌+◌, ◌≤◌, Bool, true, false, cond, not, nat_le, nat_lt, ◌==◌, List, [], ◌∷◌, ◌++◌, length, refl, ap, sym, ◌∙◌, subst, arith, append-nil, length-append}
use Rattle.std.specs.Prelude.{Result, Ok, Err, is_ok, IfOk}
use Rattle.std.specs.List.{AllByRecursion}
use Rattle.std.proofs.lemmas.Bool.{ne_eqb, eq-eqb, le-leb, lt-ltb, le-ltb}
use Rattle.std.proofs.lemmas.List.Elements.{filter-append}
use Rattle.model_base.specs.declared.write.Refusal.{Refusal}
use Rattle.model_base.specs.Batch.{Record, count_of}
use Rattle.model_base.specs.History.{max_sequence}
use Rattle.log_batch.specs.declared.run.Run.{Run}
use Rattle.table_rule.specs.declared.content.MemberVersions.{MemberVersions}
use Rattle.table_rule.specs.declared.content.Version.{Version}
use Rattle.table_rule.specs.Batches.{new_versions, number_from}
use Rattle.table_rule.specs.Histories.{Apart, Members, versions_in}
use Rattle.table_nodes.specs.declared.parts.MemberNodes.{MemberNodes}
use Rattle.table_nodes.specs.Parts.{group_of, with_part}
use Rattle.engine_rule.specs.Parts.{HaveParts, members_of}
use Rattle.engine_rule.specs.Plans.{AreLawful, CommitRequest, last_with, versions_from}
use Rattle.engine_stage_laws.specs.Served.{part_at, parts_from}
use Rattle.engine_stage_laws.proofs.Parts.{parts_members, parts_versions}
use Rattle.engine_parts.specs.declared.requests.Request.{Request}
use Rattle.engine_parts.specs.Handled.{commit_request_of, commit_requests_of}
use Rattle.engine_parts.specs.Led.{IsLedGroup, LeadsBy}
use Rattle.engine_parts.specs.Numbering.{AreParts, HasVersions, others_than, parts_with}
use Rattle.engine_parts.proofs.Replies.{map_append}

-- where there is a run, it fits
pub run_fits : (last count : ℕ) (r : Result Run Refusal) → is_ok r ≡ true → IfOk r (λ (run : Run). run.last ≡ last + count) → IfOk r (λ (run : Run). run.last ≤ max_sequence) → last + count ≤ max_sequence
run_fits last count (Ok run) ok end fits = let e : run.last ≡ last + count = end in let f : run.last ≤ max_sequence = fits in omega (arith, e, f)
run_fits last count (Err why) ok end fits = absurd (cc ok)

-- a member that has no part yet gets one after the others
with_new : (parts : List MemberNodes) (m : ℕ) (vs : List Version) → Apart m (group_of parts) → group_of (with_part parts m vs) ≡ group_of parts ++ record { member = m; versions = vs } ∷ []
with_new [] m vs out = refl
with_new (p ∷ ps) m vs out = rw (ne_eqb p.member m out.0) (ap (λ l. record { member = p.member; versions = p.nodes } ∷ l) (with_new ps m vs out.1))

pub more_parts : (parts : List MemberNodes) (at client : ℕ) (q : Request) → Apart client (group_of parts) → group_of (parts_with client at q.batch.records parts) ≡ group_of parts ++ part_at at (commit_request_of (client, q))
more_parts parts at client q out = by (nat_le (at + count_of q.batch.records) max_sequence) refl
  where
    by : (b : Bool) → nat_le (at + count_of q.batch.records) max_sequence ≡ b → group_of (parts_with client at q.batch.records parts) ≡ group_of parts ++ part_at at (commit_request_of (client, q))
    by true e = rw e (with_new parts client (number_from (at + 1) (new_versions q.batch.records)) out)
    by false e = rw e (sym (append-nil (group_of parts)))

apart_append : (m : ℕ) (ps qs : List MemberVersions) → Apart m ps → Apart m qs → Apart m (ps ++ qs)
apart_append m [] qs a b = b
apart_append m (p ∷ ps) qs a b = (a.0, apart_append m ps qs a.1 b)

apart_at : (m at : ℕ) (q : CommitRequest) → q.client ≢ m → Apart m (part_at at q)
apart_at m at q other = by (nat_le (at + count_of q.records) max_sequence) refl
  where
    by : (b : Bool) → nat_le (at + count_of q.records) max_sequence ≡ b → Apart m (part_at at q)
    by true e = rw e (other, tt)
    by false e = rw e tt

-- none of the requests that are left has a part
abbrev pub AreLeft : List MemberNodes → List CommitRequest → Type 0
AreLeft parts rest = AllByRecursion (λ (r : CommitRequest). Apart r.client (group_of parts)) rest

left_by : (at : ℕ) (ps qs : List MemberVersions) (q : CommitRequest) (rest : List CommitRequest) → qs ≡ ps ++ part_at at q → AllByRecursion (λ (r : CommitRequest). q.client ≢ r.client) rest → AllByRecursion (λ (r : CommitRequest). Apart r.client ps) rest
    → AllByRecursion (λ (r : CommitRequest). Apart r.client qs) rest
left_by at ps qs q [] is others h = tt
left_by at ps qs q (r ∷ rest) is others h = (subst (Apart r.client) (sym is) (apart_append r.client ps (part_at at q) h.0 (apart_at r.client at q others.0)), left_by at ps qs q rest is others.1 h.1)

pub still_left : (at : ℕ) (parts now : List MemberNodes) (q : CommitRequest) (rest : List CommitRequest) → group_of now ≡ group_of parts ++ part_at at q → AllByRecursion (λ (r : CommitRequest). q.client ≢ r.client) rest → AreLeft parts rest → AreLeft now rest
still_left at parts now q rest is others h = left_by at (group_of parts) (group_of now) q rest is others h

pub none_has : (rest : List CommitRequest) → AreLeft [] rest
none_has [] = tt
none_has (r ∷ rest) = (tt, none_has rest)

-- The members that have a part are noted, except the leader.
pub grew : (at : ℕ) (records : List Record) → 1 ≤ count_of records → nat_lt at (last_with at records) ≡ nat_le (at + count_of records) max_sequence
grew at records some = by (nat_le (at + count_of records) max_sequence) refl
  where
    by : (b : Bool) → nat_le (at + count_of records) max_sequence ≡ b → nat_lt at (last_with at records) ≡ nat_le (at + count_of records) max_sequence
    by true e = rw e (lt-ltb at (at + count_of records) (omega (arith, some)))
    by false e = rw e (le-ltb at at (omega arith))

member_at : (at : ℕ) (q : CommitRequest) → members_of (part_at at q) ≡ cond (nat_le (at + count_of q.records) max_sequence) (q.client ∷ []) []
member_at at q = by (nat_le (at + count_of q.records) max_sequence) refl
  where
    by : (b : Bool) → nat_le (at + count_of q.records) max_sequence ≡ b → members_of (part_at at q) ≡ cond (nat_le (at + count_of q.records) max_sequence) (q.client ∷ []) []
    by true e = rw e refl
    by false e = rw e refl

pub noted_more : (leader at : ℕ) (parts now : List MemberVersions) (q : CommitRequest) (members noted : List ℕ) (b : Bool) → now ≡ parts ++ part_at at q → members ≡ others_than leader (members_of parts) → b ≡ nat_le (at + count_of q.records) max_sequence
    → noted ≡ members ++ others_than leader (cond b (q.client ∷ []) []) → noted ≡ others_than leader (members_of now)
noted_more leader at parts now q members noted b is were grown are =
    let beside : others_than leader (cond b (q.client ∷ []) []) ≡ others_than leader (members_of (part_at at q)) = ap (λ t. others_than leader (cond t (q.client ∷ []) [])) grown ∙ ap (others_than leader) (sym (member_at at q)) in
    are ∙ ((λ i. were i ++ beside i) ∙ (sym (filter-append (λ (m : ℕ). not (m == leader)) (members_of parts) (members_of (part_at at q))) ∙ (ap (others_than leader) (sym (map_append (λ (p : MemberVersions). p.member) parts (part_at at q))) ∙ ap (λ l. others_than leader (members_of l)) (sym is))))

most_one : (leader client : ℕ) (b : Bool) → length (others_than leader (cond b (client ∷ []) [])) ≤ 1
most_one leader client false = omega arith
most_one leader client true = by (client == leader)
  where
    by : (c : Bool) → length (cond (not c) (client ∷ []) []) ≤ 1
    by true = omega arith
    by false = omega arith

pub noted_most : (leader client : ℕ) (members noted : List ℕ) (b : Bool) → noted ≡ members ++ others_than leader (cond b (client ∷ []) []) → length noted ≤ length members + 1
noted_most leader client members noted b are =
    let l = ap length are ∙ length-append members (others_than leader (cond b (client ∷ []) [])) in
    let one = most_one leader client b in
    omega (arith, l, one)

-- the others are all members of the parts, without the leader, where it has a part
others_all : (leader : ℕ) (ps : List MemberVersions) → Apart leader ps → others_than leader (members_of ps) ≡ members_of ps
others_all leader [] out = refl
others_all leader (p ∷ ps) out = rw (ne_eqb p.member leader out.0) (ap (λ l. p.member ∷ l) (others_all leader ps out.1))

each_first : (clients leader : ℕ) (p : MemberVersions) (ps : List MemberVersions) → p.member ≡ leader → Members clients (p ∷ ps) → HaveParts leader (others_than leader (members_of (p ∷ ps))) (p ∷ ps)
each_first clients leader p ps is members = rw (eq-eqb p.member leader is) (λ i. is i ∷ sym (others_all leader ps (subst (λ m. Apart m ps) is members.2)) i)

each_at : (clients leader last : ℕ) (q : CommitRequest) (more : List MemberVersions) → q.client ≡ leader → last + count_of q.records ≤ max_sequence → Members clients (part_at last q ++ more) → HaveParts leader (others_than leader (members_of (part_at last q ++ more))) (part_at last q ++ more)
each_at clients leader last q more is fits members =
    let e : part_at last q ≡ record { member = q.client; versions = number_from (last + 1) (new_versions q.records) } ∷ [] = rw (le-leb (last + count_of q.records) max_sequence fits) refl in
    subst (λ l. HaveParts leader (others_than leader (members_of (l ++ more))) (l ++ more)) (sym e)
    (each_first clients leader (record { member = q.client; versions = number_from (last + 1) (new_versions q.records) }) more is (subst (λ l. Members clients (l ++ more)) e members))

each_from : (clients leader last : ℕ) (xs : List (ℕ × Request)) (x : ℕ × Request) (rest : List (ℕ × Request)) → xs ≡ x ∷ rest → LeadsBy leader xs → last + count_of x.1.batch.records ≤ max_sequence → Members clients (parts_from last (commit_requests_of xs))
    → HaveParts leader (others_than leader (members_of (parts_from last (commit_requests_of xs)))) (parts_from last (commit_requests_of xs))
each_from clients leader last xs x rest is leads fits members =
    subst (λ l. HaveParts leader (others_than leader (members_of (parts_from last (commit_requests_of l)))) (parts_from last (commit_requests_of l))) (sym is)
    (each_at clients leader last (commit_request_of x) (parts_from (last_with last x.1.batch.records) (commit_requests_of rest)) (subst (LeadsBy leader) is leads) fits (subst (λ l. Members clients (parts_from last (commit_requests_of l))) is members))

pub apart_parts : (group_bytes clients leader last : ℕ) (xs : List (ℕ × Request)) (led : IsLedGroup group_bytes clients xs) (parts : List MemberVersions) (noted : List ℕ) → LeadsBy leader xs → last + count_of led.first.1.batch.records ≤ max_sequence
    → parts ≡ parts_from last (commit_requests_of xs) → noted ≡ others_than leader (members_of parts) → AreParts leader clients noted (versions_from last (commit_requests_of xs)) parts
apart_parts group_bytes clients leader last xs led parts noted leads fits is are =
    let members = parts_members clients last (commit_requests_of xs) led.lawful led.whole.of_others in
    subst (λ (z : List ℕ × List MemberVersions). AreParts leader clients z.0 (versions_from last (commit_requests_of xs)) z.1) (λ i. (sym (are ∙ ap (λ l. others_than leader (members_of l)) is) i, sym is i)) (record {
      versions_are = parts_versions last (commit_requests_of xs);
      members = members;
      each = λ some. each_from clients leader last xs led.first led.rest led.leads leads fits members;
    })

-- the leader has everything in one part
pub one_part : (leader clients : ℕ) (vs : List Version) (parts : List MemberNodes) (noted : List ℕ) → 1 ≤ leader → leader ≤ clients → HasVersions leader vs parts → noted ≡ [] → AreParts leader clients noted vs (group_of parts)
one_part leader clients vs parts noted low high h none = ⊎_elim
    (λ (t : (vs ≡ []) × (parts ≡ [])). record {
      versions_are = ap (λ ps. versions_in (group_of ps)) t.1 ∙ sym t.0;
      members = subst (λ ps. Members clients (group_of ps)) (sym t.1) tt;
      each = λ some. absurd (let empty : length vs ≡ 0 = ap length t.0 in omega (arith, empty, some));
    })
    (λ (is : parts ≡ record { member = leader; nodes = vs } ∷ []). record {
      versions_are = ap (λ ps. versions_in (group_of ps)) is ∙ append-nil vs;
      members = subst (λ ps. Members clients (group_of ps)) (sym is) (omega (arith, low), high, tt, tt);
      each = λ some. ap (λ ps. members_of (group_of ps)) is ∙ ap (λ l. leader ∷ l) (sym none);
    })
    h

pub leader_within : (group_bytes clients leader : ℕ) (xs : List (ℕ × Request)) → IsLedGroup group_bytes clients xs → LeadsBy leader xs → (1 ≤ leader) × (leader ≤ clients)
leader_within group_bytes clients leader xs led leads =
    let own : led.first.0 ≡ leader = subst (LeadsBy leader) led.leads leads in
    let lawful = subst (λ l. AreLawful clients (commit_requests_of l)) led.leads led.lawful in
    subst (λ m. (1 ≤ m) × (m ≤ clients)) own (lawful.0.1, lawful.0.2)
