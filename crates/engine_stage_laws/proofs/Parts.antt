-- The parts of a group are its members' own versions, and no member is there twice.
use Rattle.std.proofs.Common.{◌≡◌, ◌≢◌, ℕ, ◌+◌, ◌≤◌, Bool, true, false, nat_le, List, [], ◌∷◌, ◌++◌, refl, ap, sym, ◌∙◌, arith, append-nil, append_assoc}
use Rattle.std.specs.List.{AllByRecursion}
use Rattle.model_base.specs.Batch.{count_of}
use Rattle.model_base.specs.History.{max_sequence}
use Rattle.table_rule.specs.declared.content.MemberVersions.{MemberVersions}
use Rattle.table_rule.specs.Batches.{new_versions, number_from}
use Rattle.table_rule.specs.Histories.{Apart, Members, versions_in}
use Rattle.engine_rule.specs.Plans.{AreLawful, CommitRequest, HaveOwnClients, last_with, versions_at, versions_from}
use Rattle.engine_stage_laws.specs.Served.{part_at, parts_from}

versions_append : (ps qs : List MemberVersions) → versions_in (ps ++ qs) ≡ versions_in ps ++ versions_in qs
versions_append [] qs = refl
versions_append (p ∷ ps) qs = ap (λ l. p.versions ++ l) (versions_append ps qs) ∙ sym (append_assoc p.versions (versions_in ps) (versions_in qs))

part_versions : (last : ℕ) (q : CommitRequest) → versions_in (part_at last q) ≡ versions_at last q.records
part_versions last q = by (nat_le (last + count_of q.records) max_sequence) refl
  where
    by : (b : Bool) → nat_le (last + count_of q.records) max_sequence ≡ b → versions_in (part_at last q) ≡ versions_at last q.records
    by true e = rw e (append-nil (number_from (last + 1) (new_versions q.records)))
    by false e = rw e refl

pub parts_versions : (last : ℕ) (requests : List CommitRequest) → versions_in (parts_from last requests) ≡ versions_from last requests
parts_versions last [] = refl
parts_versions last (q ∷ requests) = versions_append (part_at last q) (parts_from (last_with last q.records) requests) ∙ (λ i. part_versions last q i ++ parts_versions (last_with last q.records) requests i)

part_apart : (m last : ℕ) (q : CommitRequest) (more : List MemberVersions) → q.client ≢ m → Apart m more → Apart m (part_at last q ++ more)
part_apart m last q more other apart = by (nat_le (last + count_of q.records) max_sequence) refl
  where
    by : (b : Bool) → nat_le (last + count_of q.records) max_sequence ≡ b → Apart m (part_at last q ++ more)
    by true e = rw e (other, apart)
    by false e = rw e apart

parts_apart : (m last : ℕ) (requests : List CommitRequest) → AllByRecursion (λ (q : CommitRequest). m ≢ q.client) requests → Apart m (parts_from last requests)
parts_apart m last [] others = tt
parts_apart m last (q ∷ requests) others = part_apart m last q (parts_from (last_with last q.records) requests) (λ e. others.0 (sym e)) (parts_apart m (last_with last q.records) requests others.1)

part_members : (n last : ℕ) (q : CommitRequest) (more : List MemberVersions) → 1 ≤ q.client → q.client ≤ n → Apart q.client more → Members n more → Members n (part_at last q ++ more)
part_members n last q more low high apart members = by (nat_le (last + count_of q.records) max_sequence) refl
  where
    by : (b : Bool) → nat_le (last + count_of q.records) max_sequence ≡ b → Members n (part_at last q ++ more)
    by true e = rw e (omega (arith, low), high, apart, members)
    by false e = rw e members

pub parts_members : (n last : ℕ) (requests : List CommitRequest) → AreLawful n requests → HaveOwnClients requests → Members n (parts_from last requests)
parts_members n last [] lawful own = tt
parts_members n last (q ∷ requests) lawful own = part_members n last q (parts_from (last_with last q.records) requests) lawful.0.1 lawful.0.2 (parts_apart q.client (last_with last q.records) requests own.0) (parts_members n (last_with last q.records) requests lawful.1 own.1)
