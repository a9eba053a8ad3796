-- What the list's grouping says of the requests that a leader has.
use Rattle.std.proofs.Common.{◌≡◌, ◌≢◌, ℕ, zero, suc, ◌<◌, ◌≤◌, true, false, map, slice_get, is_some, Option, None, Some, List, [], ◌∷◌, ◌++◌, length, reverse, take, refl, ap, sym, ◌∙◌, subst, arith, length-append}
use Rattle.std.specs.List.{AllByRecursion}
use Rattle.std.proofs.lemmas.List.{reverse-append, map-append}
use Rattle.model_base.specs.declared.group.Item.{Item}
use Rattle.model_base.specs.Grouping.{group_len}
use Rattle.line_grouping.proofs.Longest.{longest}
use Rattle.model_accounts.proofs.Wholes.{whole_of_queue}
use Rattle.line_rule.specs.declared.view.QueuedWriter.{QueuedWriter}
use Rattle.line_rule.specs.Chain.{Absent, Distinct, Within, AllCoded}
use Rattle.line_rule.specs.Grouping.{code_of, code_by, item_of, codes, items, IsWhole}
use Rattle.line_rule.specs.Members.{asks}
use Rattle.engine_rule.specs.Plans.{CommitRequest, item_of_request, AreLawful, HaveOwnClients}
use Rattle.engine_parts.specs.declared.requests.Request.{Request}
use Rattle.engine_parts.specs.Items.{item_with}
use Rattle.engine_parts.specs.Handled.{commit_request_of, commit_requests_of}
use Rattle.engine_parts.specs.Led.{IsLedGroup}
use Rattle.engine_parts.specs.ReadAnswers.{IsOneRead}
use Rattle.engine_parts.proofs.Commits.{Writes}
use Rattle.engine_parts.proofs.Views.{write_counts}

abbrev pub item_in : Request → Item
item_in q = item_with q.since q.batch.records q.options

abbrev item_at : ℕ × Request → Item
item_at x = item_in x.1

-- the requests of the members, in the order of their links
rev_asks : List (QueuedWriter Request) → List (ℕ × Request)
rev_asks [] = []
rev_asks (e ∷ es) = rev_asks es ++ (e.by, e.asked) ∷ []

asks_are : (own : QueuedWriter Request) (group : List (QueuedWriter Request)) → asks own group ≡ (own.by, own.asked) ∷ rev_asks group
unfolding rev_asks
asks_are own [] = refl
asks_are own (e ∷ es) = ap (λ l. l ++ (e.by, e.asked) ∷ []) (asks_are own es)

map_snoc : {A B : Type 0} (f : A → B) (xs : List A) (x : A) → map f (xs ++ x ∷ []) ≡ map f xs ++ f x ∷ []
map_snoc f [] x = refl
map_snoc f (y ∷ ys) x = ap (λ l. f y ∷ l) (map_snoc f ys x)

map_size : {A B : Type 0} (f : A → B) (xs : List A) → length (map f xs) ≡ length xs
map_size f [] = refl
map_size f (x ∷ xs) = ap suc (map_size f xs)

codes_append : (xs ys : List (QueuedWriter Request)) → codes (xs ++ ys) ≡ codes xs ++ codes ys
codes_append [] ys = refl
codes_append (x ∷ xs) ys = ap (λ l. x.code ∷ l) (codes_append xs ys)

take_front : {A : Type 0} (xs ys : List A) → take (length xs) (xs ++ ys) ≡ xs
take_front [] ys = refl
take_front (x ∷ xs) ys = ap (λ l. x ∷ l) (take_front xs ys)

asks_size : (own : QueuedWriter Request) (group : List (QueuedWriter Request)) → length (map item_at (asks own group)) ≡ length (group ++ own ∷ [])
asks_size own [] = refl
asks_size own (e ∷ es) = ap length (map_snoc item_at (asks own es) (e.by, e.asked)) ∙ (length-append (map item_at (asks own es)) (item_at (e.by, e.asked) ∷ []) ∙ (let h = asks_size own es in omega (arith, h)))

-- provided that each code that is asked for is the code of the request's item
module _ (law : (item : Item) → item_of (code_of item) ≡ item) {wanted : Request → ℕ → Type 0} (coded : (q : Request) (code : ℕ) → wanted q code → code ≡ code_by item_in q) where
  -- the items of a group, from its codes
  items_are : (own : QueuedWriter Request) (group : List (QueuedWriter Request)) → AllCoded wanted (group ++ own ∷ []) → items (group ++ own ∷ []) ≡ map item_at (asks own group)
  items_are own [] h = ap (λ i. i ∷ []) (ap item_of (coded own.asked own.code h.0) ∙ law (item_in own.asked))
  items_are own (e ∷ es) h =
      let one : item_of e.code ≡ item_in e.asked = ap item_of (coded e.asked e.code h.0) ∙ law (item_in e.asked) in
      ap (map item_of) (reverse-append (e.code ∷ []) (codes (es ++ own ∷ [])))
      ∙ (map_snoc item_of (reverse (codes (es ++ own ∷ []))) e.code ∙ ((λ i. items_are own es h.1 i ++ one i ∷ []) ∙ sym (map_snoc item_at (asks own es) (e.by, e.asked))))

  -- the members are a whole group by themselves
  whole_group : (max : ℕ) (own : QueuedWriter Request) (group left : List (QueuedWriter Request)) → IsWhole wanted max own group left → group_len max (map item_at (asks own group)) ≡ length (map item_at (asks own group))
  whole_group max own group left whole =
      let mine : List Item = map item_at (asks own group) in
      let queue : List Item = items (left ++ (group ++ own ∷ [])) in
      let is : queue ≡ mine ++ items left =
      ap (λ cs. map item_of (reverse cs)) (codes_append left (group ++ own ∷ []))
      ∙ (ap (map item_of) (reverse-append (codes left) (codes (group ++ own ∷ []))) ∙ (map-append item_of (reverse (codes (group ++ own ∷ []))) (reverse (codes left)) ∙ ap (λ l. l ++ items left) (items_are own group whole.2))) in
      let n : group_len max queue ≡ length mine = sym (asks_size own group ∙ whole.0) in
      let cut : take (group_len max queue) queue ≡ mine = (λ i. take (n i) (is i)) ∙ take_front mine (items left) in
      let some : 0 < length queue = (let l = ap length is ∙ length-append mine (items left) in let s = asks_size own group in let g = length-append group (own ∷ []) in omega (arith, l, s, g)) in
      subst (λ l. group_len max l ≡ length l) cut (whole_of_queue max queue some)

-- Each member's options agree with its leader's

get_in : {A : Type 0} (xs : List A) (k : ℕ) (x : A) → slice_get xs k ≡ Some x → k < length xs
get_in [] k x e = absurd (cc)
get_in (y ∷ ys) zero x e = omega arith
get_in (y ∷ ys) (suc k) x e = let h = get_in ys k x e in omega (arith, h)

all_each : {A : Type 0} (P : A → Type 0) (xs : List A) → ((k : ℕ) (x : A) → slice_get xs k ≡ Some x → P x) → AllByRecursion P xs
all_each P [] h = tt
all_each P (x ∷ xs) h = (h 0 x refl, all_each P xs (λ k y e. h (suc k) y e))

joins : (max : ℕ) (leader : Item) (behind : List Item) → group_len max (leader ∷ behind) ≡ length (leader ∷ behind) → AllByRecursion (λ (i : Item). (i.options.no_log ≡ leader.options.no_log) × (i.options.sync ≡ true → leader.options.sync ≡ true) × (i.options.no_slowdown ≡ leader.options.no_slowdown)) behind
joins max leader behind len =
    let l = longest max leader behind in
    all_each (λ (i : Item). (i.options.no_log ≡ leader.options.no_log) × (i.options.sync ≡ true → leader.options.sync ≡ true) × (i.options.no_slowdown ≡ leader.options.no_slowdown)) behind
    (λ k i e. let j = l.joined (suc k) i (omega arith) (let h = get_in behind k i e in omega (arith, h, len)) e in (j.no_log, j.sync, j.no_slowdown))

-- and so do the options of the requests
of_requests : (leader : Item) (ts : List (ℕ × Request)) → AllByRecursion (λ (i : Item). (i.options.no_log ≡ leader.options.no_log) × (i.options.sync ≡ true → leader.options.sync ≡ true) × (i.options.no_slowdown ≡ leader.options.no_slowdown)) (map item_at ts)
    → AllByRecursion (λ (a : CommitRequest). (a.options.no_log ≡ leader.options.no_log) × (a.options.sync ≡ true → leader.options.sync ≡ true) × (a.options.no_slowdown ≡ leader.options.no_slowdown)) (commit_requests_of ts)
of_requests leader [] h = tt
of_requests leader (x ∷ ts) h = (h.0, of_requests leader ts h.1)

weaker : {A : Type 0} (P Q : A → Type 0) → ((x : A) → P x → Q x) → (xs : List A) → AllByRecursion P xs → AllByRecursion Q xs
weaker P Q f [] h = tt
weaker P Q f (x ∷ xs) h = (f x h.0, weaker P Q f xs h.1)

-- No two requests are of the same client

all_snoc : {A : Type 0} (P : A → Type 0) (xs : List A) (x : A) → AllByRecursion P xs → P x → AllByRecursion P (xs ++ x ∷ [])
all_snoc P [] x h p = (p, tt)
all_snoc P (y ∷ ys) x h p = (h.0, all_snoc P ys x h.1 p)

apart_snoc : (asks : List CommitRequest) (a : CommitRequest) → HaveOwnClients asks → AllByRecursion (λ (b : CommitRequest). b.client ≢ a.client) asks → HaveOwnClients (asks ++ a ∷ [])
apart_snoc [] a h k = (tt, tt)
apart_snoc (b ∷ asks) a h k = (all_snoc (λ (c : CommitRequest). b.client ≢ c.client) asks a h.0 k.0, apart_snoc asks a h.1 k.1)

absent_asks : (k : ℕ) (group : List (QueuedWriter Request)) → Absent k group → AllByRecursion (λ (b : CommitRequest). b.client ≢ k) (commit_requests_of (rev_asks group))
unfolding rev_asks
absent_asks k [] h = tt
absent_asks k (e ∷ es) h = subst (AllByRecursion (λ (b : CommitRequest). b.client ≢ k)) (sym (map_snoc commit_request_of (rev_asks es) (e.by, e.asked))) (all_snoc (λ (b : CommitRequest). b.client ≢ k) (commit_requests_of (rev_asks es)) (commit_request_of (e.by, e.asked)) (absent_asks k es h.1) h.0)

apart_asks : (group : List (QueuedWriter Request)) → Distinct group → HaveOwnClients (commit_requests_of (rev_asks group))
unfolding rev_asks
apart_asks [] h = tt
apart_asks (e ∷ es) h = subst HaveOwnClients (sym (map_snoc commit_request_of (rev_asks es) (e.by, e.asked))) (apart_snoc (commit_requests_of (rev_asks es)) (commit_request_of (e.by, e.asked)) (apart_asks es h.1) (absent_asks e.by es h.0))

absent_front : (k : ℕ) (es fs : List (QueuedWriter Request)) → Absent k (es ++ fs) → Absent k es × Absent k fs
absent_front k [] fs h = (tt, h)
absent_front k (e ∷ es) fs h = let t = absent_front k es fs h.1 in ((h.0, t.0), t.1)

distinct_own : (group : List (QueuedWriter Request)) (own : QueuedWriter Request) → Distinct (group ++ own ∷ []) → Distinct group × Absent own.by group
distinct_own [] own h = (tt, tt)
distinct_own (e ∷ es) own h = let t = distinct_own es own h.1 in let a = absent_front e.by es (own ∷ []) h.0 in ((a.0, t.0), ((λ is. a.1.0 (sym is)), t.1))

other_way : (k : ℕ) (asks : List CommitRequest) → AllByRecursion (λ (b : CommitRequest). b.client ≢ k) asks → AllByRecursion (λ (b : CommitRequest). k ≢ b.client) asks
other_way k [] h = tt
other_way k (a ∷ asks) h = ((λ e. h.0 (sym e)), other_way k asks h.1)

-- each member has a client's number
abbrev HasNumber : ℕ → ℕ × Request → Type 0
HasNumber n x = (1 ≤ x.0) × (x.0 ≤ n)

numbers_asks : (n : ℕ) (group : List (QueuedWriter Request)) → Within n group → AllByRecursion (HasNumber n) (rev_asks group)
unfolding rev_asks
numbers_asks n [] h = tt
numbers_asks n (e ∷ es) h = all_snoc (HasNumber n) (rev_asks es) (e.by, e.asked) (numbers_asks n es h.2) (h.0, h.1)

lawful_writes : (n : ℕ) (xs : List (ℕ × Request)) → AllByRecursion Writes xs → AllByRecursion (HasNumber n) xs → AreLawful n (commit_requests_of xs)
lawful_writes n [] writes numbers = tt
lawful_writes n (x ∷ xs) writes numbers = ((write_counts x.1 writes.0, numbers.0.0, numbers.0.1), lawful_writes n xs writes.1 numbers.1)

-- Who leads a group of writes leads no reads of the log

not_some : (o : Option ℕ) → is_some o ≡ false → o ≡ None
not_some None e = refl
not_some (Some n) e = absurd (cc)

together : (max : ℕ) (leader : Item) (behind : List Item) → group_len max (leader ∷ behind) ≡ length (leader ∷ behind) → AllByRecursion (λ (i : Item). i.alone ≡ false) behind
together max leader behind len =
    let l = longest max leader behind in
    all_each (λ (i : Item). i.alone ≡ false) behind (λ k i e. (l.joined (suc k) i (omega arith) (let h = get_in behind k i e in omega (arith, h, len)) e).not_alone)

all_write : (xs : List (ℕ × Request)) → AllByRecursion (λ (i : Item). i.alone ≡ false) (map item_at xs) → AllByRecursion Writes xs
all_write [] h = tt
all_write (x ∷ xs) h = (not_some x.1.since h.0, all_write xs h.1)

-- grouping sees the same of a write and of its request
map_map : (xs : List (ℕ × Request)) → AllByRecursion Writes xs → map item_of_request (commit_requests_of xs) ≡ map item_at xs
map_map [] writes = refl
map_map (x ∷ xs) writes = λ i. item_with (sym writes.0 i) x.1.batch.records x.1.options ∷ map_map xs writes.1 i

-- and who leads a read of the log leads nothing else
none_join : (max : ℕ) (leader : Item) (behind : List Item) → leader.alone ≡ true → group_len max (leader ∷ behind) ≡ length (leader ∷ behind) → behind ≡ []
none_join max leader [] alone len = refl
none_join max leader (i ∷ behind) alone len = absurd (let join = (longest max leader (i ∷ behind)).joined 1 i (omega arith) (omega (arith, len)) refl in let takes = join.leader_takes in cc)

none_asked : (xs : List (ℕ × Request)) → map item_at xs ≡ [] → xs ≡ []
none_asked [] e = refl
none_asked (x ∷ xs) e = absurd (cc)

pub led_of : ((item : Item) → item_of (code_of item) ≡ item) → {wanted : Request → ℕ → Type 0} → ((q : Request) (code : ℕ) → wanted q code → code ≡ code_by item_in q) → (max n : ℕ) (own : QueuedWriter Request) (group left : List (QueuedWriter Request)) → own.asked.since ≡ None → IsWhole wanted max own group left → 0 < own.by → own.by ≤ n → Within n group → IsLedGroup max n (asks own group)
led_of law coded max n own group left write whole low high within =
    let leader : ℕ × Request = (own.by, own.asked) in let ts : List (ℕ × Request) = rev_asks group in
    let is : asks own group ≡ leader ∷ ts = asks_are own group in
    let len : group_len max (item_at leader ∷ map item_at ts) ≡ length (item_at leader ∷ map item_at ts) = subst (λ l. group_len max (map item_at l) ≡ length (map item_at l)) is (whole_group law coded max own group left whole) in
    let flags = of_requests (item_at leader) ts (joins max (item_at leader) (map item_at ts) len) in
    let d = distinct_own group own whole.1 in
    let writes : AllByRecursion Writes (leader ∷ ts) = (write, all_write ts (together max (item_at leader) (map item_at ts) len)) in
    let items_of : map item_of_request (commit_requests_of (leader ∷ ts)) ≡ item_at leader ∷ map item_at ts = map_map (leader ∷ ts) writes in
    subst (IsLedGroup max n) (sym is) record {
      first = leader;
      rest = ts;
      leads = refl;
      lawful = lawful_writes n (leader ∷ ts) writes ((low, high), numbers_asks n group within);
      whole = record {
        some = omega arith;
        whole = ap (group_len max) items_of ∙ (len ∙ (sym (ap length items_of) ∙ map_size item_of_request (commit_requests_of (leader ∷ ts))));
        of_others = (other_way own.by (commit_requests_of ts) (absent_asks own.by group d.1), apart_asks group d.0);
      };
      logged = λ e. (e, weaker (λ (a : CommitRequest). (a.options.no_log ≡ own.asked.options.no_log) × (a.options.sync ≡ true → own.asked.options.sync ≡ true) × (a.options.no_slowdown ≡ own.asked.options.no_slowdown)) (λ (a : CommitRequest). a.options.no_log ≡ false) (λ a t. t.0 ∙ e) (commit_requests_of ts) flags);
      unlogged = λ e. (e, weaker (λ (a : CommitRequest). (a.options.no_log ≡ own.asked.options.no_log) × (a.options.sync ≡ true → own.asked.options.sync ≡ true) × (a.options.no_slowdown ≡ own.asked.options.no_slowdown)) (λ (a : CommitRequest). a.options.no_log ≡ true) (λ a t. t.0 ∙ e) (commit_requests_of ts) flags);
      syncs = ((λ e. e), weaker (λ (a : CommitRequest). (a.options.no_log ≡ own.asked.options.no_log) × (a.options.sync ≡ true → own.asked.options.sync ≡ true) × (a.options.no_slowdown ≡ own.asked.options.no_slowdown)) (λ (a : CommitRequest). a.options.sync ≡ true → own.asked.options.sync ≡ true) (λ a t. t.1) (commit_requests_of ts) flags);
      writes = writes;
      slowdown = (refl, weaker (λ (a : CommitRequest). (a.options.no_log ≡ own.asked.options.no_log) × (a.options.sync ≡ true → own.asked.options.sync ≡ true) × (a.options.no_slowdown ≡ own.asked.options.no_slowdown)) (λ (a : CommitRequest). a.options.no_slowdown ≡ own.asked.options.no_slowdown) (λ a t. t.2) (commit_requests_of ts) flags);
    }

pub read_of : ((item : Item) → item_of (code_of item) ≡ item) → {wanted : Request → ℕ → Type 0} → ((q : Request) (code : ℕ) → wanted q code → code ≡ code_by item_in q) → (max n : ℕ) (own : QueuedWriter Request) (group left : List (QueuedWriter Request)) (since : ℕ) → own.asked.since ≡ Some since
    → IsWhole wanted max own group left → 0 < own.by → own.by ≤ n → IsOneRead n (asks own group)
read_of law coded max n own group left since reads whole low high =
    let leader : ℕ × Request = (own.by, own.asked) in let ts : List (ℕ × Request) = rev_asks group in
    let is : asks own group ≡ leader ∷ ts = asks_are own group in
    let len : group_len max (item_at leader ∷ map item_at ts) ≡ length (item_at leader ∷ map item_at ts) = subst (λ l. group_len max (map item_at l) ≡ length (map item_at l)) is (whole_group law coded max own group left whole) in
    let none : ts ≡ [] = none_asked ts (none_join max (item_at leader) (map item_at ts) (ap (λ (o : Option ℕ). is_some o) reads) len) in
    record { client = own.by; request = own.asked; is = is ∙ ap (λ l. leader ∷ l) none; since = since; reads = reads; low = low; high = high }
