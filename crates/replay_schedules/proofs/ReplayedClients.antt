-- The replies of a schedule's clients are those of the machine's clients.
use Rattle.std.proofs.Common.{◌≡◌, ◌⊎◌, inl, inr, ℕ, zero, suc, ◌+◌, ◌<◌, ◌≤◌, true, false, List, [], ◌∷◌, ◌++◌, length, map, take_while, nat_le, drop, get_or, Option, Some, None, slice_get, Vec, refl, ap, sym, ◌∙◌, subst, arith, append_assoc, append-nil, length-append}
use Rattle.std.specs.Prelude.{MatchOption, ⊤}
use Rattle.std.specs.List.{AllByRecursion, AllZip}
use Rattle.std.specs.Option.{option_map_or}
use Rattle.std.specs.declared.alloc.Global.{Global}
use Rattle.std.proofs.lemmas.Bool.{lt-leb, le-leb}
use Rattle.std.proofs.lemmas.List.{at_drop_more, at_drop_all, drop-drop}
use Rattle.std.proofs.lemmas.List.Sums.{take_while-cons}
use Rattle.std.proofs.lemmas.Option.{MatchOption-at_some, same_Some, slice_get_read, slice_get_within, get_or_from_slice_get}
use Rattle.model_base.specs.declared.write.Refusal.{Refusal}
use Rattle.model_base.specs.declared.write.WriteOptions.{WriteOptions}
use Rattle.model_base.specs.Map.{rows_within, value_at}
use Rattle.model_base.specs.History.{Entry, IsHistory, IsUpTo, last_sequence, last_of, map_of}
use Rattle.model_base.specs.declared.key.Key.{Key}
use Rattle.model_base.specs.declared.write.Refusal.TheVariants.{NoFamily}
use Rattle.model_base.specs.Progress.{first_missing, early_refusal, batch_after}
use Rattle.model_base.specs.Calls as calls
use Rattle.model_base.specs.Calls.{Command, add, clear, commit, get, many, scan, updates}
use Rattle.model_base.specs.Since.{records_in, since}
use Rattle.model_base.specs.Runs.{commands_of}
use Rattle.model_core.specs.Core.{Options, Client, State, log_groups}
use Rattle.model_core.specs.CoreLaw.{IsCore}
use Rattle.model_core.specs.Replies.{AreRight, AreRepliesOf, IsAnswered, IsHandled, MayReply, Gets, GetsMany, Scans, Updates}
use Rattle.model_core_laws.proofs.Histories.{history_rises, history_front}
use Rattle.model_core_laws.proofs.ReadLog.{same_given}
use Rattle.run_outcome.specs.declared.reply.Reply.{Reply}
use Rattle.run_outcome.proofs.Replies.{shows_found}
use Rattle.run_scripts.specs.Scripts.{IsClientsCommand}
use Rattle.replay_plans.specs.declared.plan.ClientPlan.{ClientPlan}
use Rattle.replay_core.specs.declared.writer.CoreReply.{CoreReply}
use Rattle.replay_core.specs.declared.writer.CoreReply.TheVariants.{Accepted, Refused, ReadAt}
use Rattle.replay_plans.specs.Answers.{answers_of}
use Rattle.replay_core.specs.Replies.{AreReplies}
use Rattle.replay_schedules.specs.Maps.{map_up_to}
use Rattle.run_outcome.specs.Shows.{ShowsReply, ShowsReplies}
use Rattle.replay_schedules.specs.Replaying.{reply_by, first_reply, replies_by, next_reply, IsTranscript, AreTranscripts}

-- A read's map

-- the entries up to the last sequence of a history's front are that front
up_to_front : (start : ℕ) (front rest : List Entry) (last : ℕ) → IsHistory start (front ++ rest) → last ≡ last_sequence start front → take_while (λ (x : Entry). nat_le (last_of x) last) (front ++ rest) ≡ front
up_to_front start [] [] last history ends = refl
up_to_front start [] (x ∷ rest) last history ends =
    let a = history.0.first in let b = history.0.some in let past : nat_le (last_of x) last ≡ false = lt-leb (last_of x) last (omega (arith, a, b, ends)) in
    take_while-cons (λ (x : Entry). nat_le (last_of x) last) x rest ∙ rw past refl
up_to_front start (x ∷ front) rest last history ends =
    let rises = history_rises (last_of x) front (history_front (last_of x) front rest history.1) in let up_to : nat_le (last_of x) last ≡ true = le-leb (last_of x) last (omega (arith, rises, ends)) in
    take_while-cons (λ (x : Entry). nat_le (last_of x) last) x (front ++ rest) ∙ rw up_to (ap (λ xs. x ∷ xs) (up_to_front (last_of x) front rest last history.1 ends))

map_at : (start : ℕ) (entries front : List Entry) (at : ℕ) → IsHistory start entries → IsUpTo start entries at front → map_of front ≡ map_up_to at entries
map_at start entries front at history up =
    let whole : IsHistory start (front ++ up.rest) = subst (IsHistory start) up.split history in
    sym (ap map_of (ap (take_while (λ (x : Entry). nat_le (last_of x) at)) up.split ∙ up_to_front start front up.rest at whole up.ends))

-- One client

-- a reply that a command may get
abbrev IsTold : State → Command → calls.Reply → Type 0
IsTold s (add r) calls.quiet = ⊤
IsTold s clear calls.quiet = ⊤
IsTold s (commit how) (calls.accepted a b records) = ⊤
IsTold s (commit how) (calls.refused why) = ⊤
IsTold s (get key) (calls.refused why) = ⊤
IsTold s (many keys) (calls.refused why) = ⊤
IsTold s (scan family lo hi) (calls.refused why) = ⊤
IsTold s (get key) (calls.found at v) = v ≡ value_at (map_up_to at s.entries) key
IsTold s (many keys) (calls.found_each at vs) = vs ≡ map (value_at (map_up_to at s.entries)) keys
IsTold s (scan family lo hi) (calls.rows at pairs) = pairs ≡ rows_within family lo hi (map_up_to at s.entries)
IsTold s (updates n) (calls.updates_found at records) = records ≡ since n at (records_in [] (log_groups s))
IsTold s x r = ⊥

attempts : (o : Options) (s : State) (before : List calls.Call) (how : WriteOptions) (r : calls.Reply) → IsHandled o s before how r → IsTold s (commit how) r
attempts o s before how (calls.accepted a b records) is = tt
attempts o s before how (calls.refused why) is = tt
attempts o s before how other is = absurd is

committed : (o : Options) (s : State) (before : List calls.Call) (how : WriteOptions) (r : calls.Reply) (early : Option Refusal)
    → MatchOption early (IsHandled o s before how r) (λ why. r ≡ calls.refused why) → IsTold s (commit how) r
committed o s before how r None is = attempts o s before how r is
committed o s before how r (Some why) is = subst (IsTold s (commit how)) (sym is) tt

got : (o : Options) (s : State) (before : List calls.Call) (key : Key) (r : calls.Reply) → IsHistory o.start s.entries → Gets o s before key r → IsTold s (get key) r
got o s before key (calls.found at v) history is = is.answer ∙ ap (λ m. value_at m key) (map_at o.start s.entries is.front at history is.is_front)
got o s before key other history is = absurd is

got_many : (o : Options) (s : State) (before : List calls.Call) (keys : List Key) (r : calls.Reply) → IsHistory o.start s.entries → GetsMany o s before keys r → IsTold s (many keys) r
got_many o s before keys (calls.found_each at vs) history is = is.answer ∙ ap (λ m. map (value_at m) keys) (map_at o.start s.entries is.front at history is.is_front)
got_many o s before keys other history is = absurd is

scanned : (o : Options) (s : State) (before : List calls.Call) (family : ℕ) (lo hi : List ℕ) (r : calls.Reply) → IsHistory o.start s.entries → Scans o s before family lo hi r → IsTold s (scan family lo hi) r
scanned o s before family lo hi (calls.rows at pairs) history is = is.answer ∙ ap (λ m. rows_within family lo hi m) (map_at o.start s.entries is.front at history is.is_front)
scanned o s before family lo hi other history is = absurd is

read : (o : Options) (s : State) (before : List calls.Call) (n : ℕ) (r : calls.Reply) → IsCore o s → Updates o s before n r → IsTold s (updates n) r
read o s before n (calls.updates_found at records) core is = is.answer ∙ sym (same_given o s n at is.reads.front is.groups core is.reads.is_front is.in_log is.up_to)
read o s before n other core is = absurd is

-- a read is answered, or it is refused for a family that there isn't
if_there : (s : State) (x : Command) (r : calls.Reply) (missing : Option ℕ) (answered : Type 0) → ((family : ℕ) → IsTold s x (calls.refused (NoFamily family))) → (answered → IsTold s x r)
    → MatchOption missing answered (λ family. r ≡ calls.refused (NoFamily family)) → IsTold s x r
if_there s x r None answered refuses answers is = answers is
if_there s x r (Some family) answered refuses answers is = subst (IsTold s x) (sym is) (refuses family)

told_of : (o : Options) (s : State) (before : List calls.Call) (x : Command) (r : calls.Reply) → IsCore o s → IsClientsCommand x → MayReply o s before x r → IsTold s x r
told_of o s before (add a) r core said may = subst (IsTold s (add a)) (sym may) tt
told_of o s before clear r core said may = subst (IsTold s clear) (sym may) tt
told_of o s before (commit how) r core said may = committed o s before how r (early_refusal o.families o.batch_bytes false (batch_after before) how) may
told_of o s before (get key) r core said may =
    if_there s (get key) r (first_missing o.families (key.family ∷ [])) (Gets o s before key r) (λ family. tt) (got o s before key r core.is_history) may
told_of o s before (many keys) r core said may =
    if_there s (many keys) r (first_missing o.families (map (λ (k : Key). k.family) keys)) (GetsMany o s before keys r) (λ family. tt) (got_many o s before keys r core.is_history) may
told_of o s before (scan family lo hi) r core said may =
    if_there s (scan family lo hi) r (first_missing o.families (family ∷ [])) (Scans o s before family lo hi r) (λ other. tt) (scanned o s before family lo hi r core.is_history) may
told_of o s before (updates n) r core said may = read o s before n r core may
told_of o s before other r core said may = absurd said

none_told : (s : State) (xs : List Command) → replies_by s xs [] ≡ []
none_told s [] = refl
none_told s (add r ∷ xs) = none_told s xs
none_told s (other ∷ xs) = none_told s xs

-- one call more, where the calls after it are shown
one_shown : (s : State) (x : Command) (xs : List Command) (command : calls.Command) (r : calls.Reply) (cs : List calls.Call) (told : List CoreReply) → IsTold s x r
    → AreReplies told (answers_of (record { command = command; reply = r } ∷ cs))
    → ((left : List CoreReply) → AreReplies left (answers_of cs) → ShowsReplies (replies_by s xs left) cs)
    → ShowsReplies (replies_by s (x ∷ xs) told) (record { command = command; reply = r } ∷ cs)
one_shown s (add a) xs command calls.quiet cs told is are rest = rest told are
one_shown s clear xs command calls.quiet cs told is are rest = rest told are
one_shown s (commit how) xs command (calls.accepted a b records) cs (Accepted run ∷ ts) is are rest = let e : (run.first ≡ a) × (run.last ≡ b) = are.0 in ((records, cc (e.0, e.1)), rest ts are.1)
one_shown s (commit how) xs command (calls.accepted a b records) cs (t ∷ ts) is are rest = absurd are.0
one_shown s (commit how) xs command (calls.accepted a b records) cs [] is are rest = absurd are
one_shown s (commit how) xs command (calls.refused why) cs (Refused w ∷ ts) is are rest = let e : w ≡ why = are.0 in (ap calls.refused (sym e), rest ts are.1)
one_shown s (commit how) xs command (calls.refused why) cs (t ∷ ts) is are rest = absurd are.0
one_shown s (commit how) xs command (calls.refused why) cs [] is are rest = absurd are
one_shown s (get key) xs command (calls.found at v) cs (ReadAt n ∷ ts) is are rest = (
  shows_found n (value_at (map_up_to n s.entries) key) (record { command = command; reply = calls.found at v })
      (subst (λ m. calls.found at v ≡ calls.found m (value_at (map_up_to m s.entries) key)) (sym are.0) (ap (calls.found at) is)),
  rest ts are.1,
)
one_shown s (get key) xs command (calls.found at v) cs (t ∷ ts) is are rest = absurd are.0
one_shown s (get key) xs command (calls.found at v) cs [] is are rest = absurd are
one_shown s (many keys) xs command (calls.found_each at vs) cs (ReadAt n ∷ ts) is are rest =
    (subst (λ m. calls.found_each at vs ≡ calls.found_each m (map (value_at (map_up_to m s.entries)) keys)) (sym are.0) (ap (calls.found_each at) is), rest ts are.1)
one_shown s (many keys) xs command (calls.found_each at vs) cs (t ∷ ts) is are rest = absurd are.0
one_shown s (many keys) xs command (calls.found_each at vs) cs [] is are rest = absurd are
one_shown s (scan family lo hi) xs command (calls.rows at pairs) cs (ReadAt n ∷ ts) is are rest =
    (subst (λ m. calls.rows at pairs ≡ calls.rows m (rows_within family lo hi (map_up_to m s.entries))) (sym are.0) (ap (calls.rows at) is), rest ts are.1)
one_shown s (scan family lo hi) xs command (calls.rows at pairs) cs (t ∷ ts) is are rest = absurd are.0
one_shown s (scan family lo hi) xs command (calls.rows at pairs) cs [] is are rest = absurd are
one_shown s (updates n) xs command (calls.updates_found at records) cs (ReadAt k ∷ ts) is are rest =
    (subst (λ m. calls.updates_found at records ≡ calls.updates_found m (since n m (records_in [] (log_groups s)))) (sym are.0) (ap (calls.updates_found at) is), rest ts are.1)
one_shown s (updates n) xs command (calls.updates_found at records) cs (t ∷ ts) is are rest = absurd are.0
one_shown s (updates n) xs command (calls.updates_found at records) cs [] is are rest = absurd are
one_shown s (get key) xs command (calls.refused why) cs (Refused w ∷ ts) is are rest = let e : w ≡ why = are.0 in (ap calls.refused (sym e), rest ts are.1)
one_shown s (get key) xs command (calls.refused why) cs (t ∷ ts) is are rest = absurd are.0
one_shown s (get key) xs command (calls.refused why) cs [] is are rest = absurd are
one_shown s (many keys) xs command (calls.refused why) cs (Refused w ∷ ts) is are rest = let e : w ≡ why = are.0 in (ap calls.refused (sym e), rest ts are.1)
one_shown s (many keys) xs command (calls.refused why) cs (t ∷ ts) is are rest = absurd are.0
one_shown s (many keys) xs command (calls.refused why) cs [] is are rest = absurd are
one_shown s (scan family lo hi) xs command (calls.refused why) cs (Refused w ∷ ts) is are rest = let e : w ≡ why = are.0 in (ap calls.refused (sym e), rest ts are.1)
one_shown s (scan family lo hi) xs command (calls.refused why) cs (t ∷ ts) is are rest = absurd are.0
one_shown s (scan family lo hi) xs command (calls.refused why) cs [] is are rest = absurd are
one_shown s x xs command r cs told is are rest = absurd is

told_shown : (o : Options) (s : State) (whole before cs : List calls.Call) (xs : List Command) (rest : List calls.Command) (told : List CoreReply) → IsCore o s → AreRight o s whole
    → AllByRecursion IsClientsCommand xs → whole ≡ before ++ cs → xs ≡ commands_of cs ++ rest → AreReplies told (answers_of cs) → ShowsReplies (replies_by s xs told) cs
told_shown o s whole before [] xs rest [] core right said split same are = subst (λ rs. AllZip ShowsReply rs []) (sym (none_told s xs)) tt
told_shown o s whole before [] xs rest (t ∷ ts) core right said split same are = absurd are
told_shown o s whole before (c ∷ cs) [] rest told core right said split same are = absurd (cc same)
told_shown o s whole before (c ∷ cs) (x ∷ xs) rest told core right said split same are =
    let first : c.command ≡ x = cc same in
    let others : xs ≡ commands_of cs ++ rest = cc same in
    let next : whole ≡ (before ++ c ∷ []) ++ cs = split ∙ sym (append_assoc before (c ∷ []) cs) in
    let may : MayReply o s before x c.reply = subst (λ command. MayReply o s before command c.reply) first (right before c cs split) in
    one_shown s x xs c.command c.reply cs told (told_of o s before x c.reply core said.0 may) are
    (λ left all. told_shown o s whole (before ++ c ∷ []) cs xs rest left core right said.1 next others all)

client_shown : (o : Options) (s : State) (n : ℕ) (commands : List Command) (replies : List Reply) (client : Client) → IsCore o s → AllByRecursion IsClientsCommand commands
    → slice_get s.clients n ≡ Some client → IsAnswered o s (suc n) commands client → IsTranscript s (suc n) commands replies → ShowsReplies replies client.calls
client_shown o s n commands replies client core said there answered t =
    let are : AreReplies t.told (answers_of client.calls) = MatchOption-at_some (t.told ≡ []) (λ (c : Client). AreReplies t.told (answers_of c.calls)) client there t.is_told in
    subst (λ rs. ShowsReplies rs client.calls) (sym t.replies_are) (told_shown o s client.calls [] client.calls commands answered.rest t.told core answered.right said refl answered.asked are)

-- All clients

all_shown : (ts : List (Vec Reply Global)) (cs : List Client) → length ts ≡ length cs
    → ((i : ℕ) (v : Vec Reply Global) (client : Client) → slice_get ts i ≡ Some v → slice_get cs i ≡ Some client → ShowsReplies v.items client.calls)
    → AllZip (λ (v : Vec Reply Global). ShowsReplies v.items) ts (map (λ (c : Client). c.calls) cs)
all_shown [] [] e each = tt
all_shown [] (c ∷ cs) e each = absurd (omega (arith, e))
all_shown (t ∷ ts) [] e each = absurd (omega (arith, e))
all_shown (t ∷ ts) (c ∷ cs) e each = (each 0 t c refl refl, all_shown ts cs (omega (arith, e)) (λ i v client a b. each (suc i) v client a b))

some_at : {A : Type 0} (xs : List A) (i : ℕ) → i < length xs → (x : A) × (slice_get xs i ≡ Some x)
some_at [] i lt = absurd (omega (arith, lt))
some_at (x ∷ xs) zero lt = (x, refl)
some_at (x ∷ xs) (suc i) lt = some_at xs i (omega (arith, lt))

-- each command is one that a script may have
abbrev pub AreSaid : ClientPlan → Type 0
AreSaid plan = AllByRecursion IsClientsCommand plan

all_at : {A : Type 0} (P : A → Type 0) (xs : List A) (i : ℕ) (x : A) → AllByRecursion P xs → slice_get xs i ≡ Some x → P x
all_at P [] i x all e = absurd (cc e)
all_at P (y ∷ xs) zero x all e = subst P (same_Some y x e) all.0
all_at P (y ∷ xs) (suc i) x all e = all_at P xs i x all.1 e

pub transcripts_shown : (o : Options) (s : State) (clients : List ClientPlan) (ts : List (Vec Reply Global)) → IsCore o s → AllByRecursion AreSaid clients → AreRepliesOf o clients s
    → AreTranscripts s clients (length clients) ts → AllZip (λ (v : Vec Reply Global). ShowsReplies v.items) ts (map (λ (c : Client). c.calls) s.clients)
transcripts_shown o s clients ts core said of t = all_shown ts s.clients (t.each ∙ sym of.count) each
  where
    each : (i : ℕ) (v : Vec Reply Global) (client : Client) → slice_get ts i ≡ Some v → slice_get s.clients i ≡ Some client → ShowsReplies v.items client.calls
    each i v client at there =
        let within = slice_get_within ts i v at in
        let found : (x : ClientPlan) × (slice_get clients i ≡ Some x) = some_at clients i (omega (arith, within, t.each)) in
        client_shown o s i found.0 v.items client core (all_at AreSaid clients i found.0 said found.1) there (of.each (suc i) found.0 client found.1 there)
        (t.right i found.0 v found.1 at)

push_get : {A : Type 0} (xs : List A) (y z : A) (k : ℕ) → slice_get (xs ++ y ∷ []) k ≡ Some z → (slice_get xs k ≡ Some z) ⊎ ((k ≡ length xs) × (y ≡ z))
push_get [] y z zero e = inr (refl, cc e)
push_get [] y z (suc k) e = absurd (cc e)
push_get (x ∷ xs) y z zero e = inl e
push_get (x ∷ xs) y z (suc k) e = elim (push_get xs y z k e) [ inl there ↦ inl there | inr last ↦ inr (ap suc last.0, last.1) ]

-- one client more
pub transcript_more : (s : State) (clients : List ClientPlan) (ts : List (Vec Reply Global)) (i : ℕ) (x : ClientPlan) (v : Vec Reply Global) → i < length clients → x ≡ get_or clients i x
    → AreTranscripts s clients i ts → IsTranscript s (i + 1) x v.items → AreTranscripts s clients (i + 1) (ts ++ v ∷ [])
transcript_more s clients ts i x v here is t new = record {
  each = omega (arith, t.each, length-append ts (v ∷ []));
  right = right;
}
  where
    right : (k : ℕ) (plan : ClientPlan) (replies : Vec Reply Global) → slice_get clients k ≡ Some plan → slice_get (ts ++ v ∷ []) k ≡ Some replies → IsTranscript s (suc k) plan replies.items
    right k plan replies found at = elim (push_get ts v replies k at) [
      | inl there ↦ t.right k plan replies found there
      | inr last ↦
          let place : k ≡ i = last.0 ∙ t.each in
          let next : i + 1 ≡ suc k = omega (arith, place) in
          let same : x ≡ plan = same_Some x plan (sym (slice_get_read clients (length clients) i x refl here is) ∙ ap (slice_get clients) (sym place) ∙ found) in
          subst (λ n. IsTranscript s n plan replies.items) next (subst (λ (c : ClientPlan). IsTranscript s (i + 1) c replies.items) same (subst (λ (r : Vec Reply Global). IsTranscript s (i + 1) x r.items) last.1 new))
    ]

-- One client's replies

abbrev one : Reply → List Reply
one said = said ∷ []

-- the reply at a place is the first of those from there on
first_at : (s : State) (command : Command) (told : List CoreReply) (n : ℕ) (t : CoreReply) → slice_get told n ≡ Some t → first_reply s command (drop n told) ≡ option_map_or one (reply_by s command t) []
first_at s command [] zero t e = absurd (cc e)
first_at s command [] (suc n) t e = absurd (cc e)
first_at s command (r ∷ rs) zero t e = let same : r ≡ t = same_Some r t e in ap (λ x. option_map_or one (reply_by s command x) []) same
first_at s command (r ∷ rs) (suc n) t e = first_at s command rs n t e

-- the replies with this one more end with the first of the replies that were left
pub reply_at : (s : State) (command : Command) (told : List CoreReply) (replies new : List Reply) (t : CoreReply) (r : Reply) → slice_get told (length replies) ≡ Some t → reply_by s command t ≡ Some r → new ≡ replies ++ r ∷ []
    → new ≡ replies ++ first_reply s command (drop (length replies) told)
reply_at s command told replies new t r at is e =
    e ∙ ap (λ (rs : List Reply). replies ++ rs) (sym (first_at s command told (length replies) t at ∙ ap (λ (said : Option Reply). option_map_or one said []) is))

pub no_reply_at : (s : State) (command : Command) (told : List CoreReply) (replies : List Reply) (t : CoreReply) → slice_get told (length replies) ≡ Some t → reply_by s command t ≡ None
    → replies ≡ replies ++ first_reply s command (drop (length replies) told)
no_reply_at s command told replies t at is =
    sym (append-nil replies) ∙ ap (λ (rs : List Reply). replies ++ rs) (sym (first_at s command told (length replies) t at ∙ ap (λ (said : Option Reply). option_map_or one said []) is))

pub none_at : (s : State) (command : Command) (told : List CoreReply) (replies : List Reply) (n : ℕ) → slice_get told n ≡ None → replies ≡ replies ++ first_reply s command (drop n told)
none_at s command [] replies zero e = sym (append-nil replies)
none_at s command [] replies (suc n) e = sym (append-nil replies)
none_at s command (r ∷ rs) replies zero e = absurd (cc e)
none_at s command (r ∷ rs) replies (suc n) e = none_at s command rs replies n e

-- one command more
pub reply_more : (s : State) (commands : List Command) (told : List CoreReply) (replies new : List Reply) (i : ℕ) (x : Command) → slice_get commands i ≡ Some x
    → replies ++ replies_by s (drop i commands) (drop (length replies) told) ≡ replies_by s commands told → new ≡ replies ++ next_reply s (drop (length replies) told) x
    → new ++ replies_by s (drop (i + 1) commands) (drop (length new) told) ≡ replies_by s commands told
reply_more s commands told replies new i x here so_far e =
    let left : List CoreReply = drop (length replies) told in
    let r : List Reply = next_reply s left x in
    let at : drop i commands ≡ x ∷ drop (i + 1) commands = at_drop_more (λ (cs : List Command). cs) commands i x (slice_get_within commands i x here) ∙ ap (λ y. y ∷ drop (i + 1) commands) (get_or_from_slice_get commands i x x here) in
    let len : length new ≡ length replies + length r = ap length e ∙ length-append replies r in
    let behind : drop (length new) told ≡ drop (length r) left = ap (λ n. drop n told) len ∙ sym (drop-drop (length r) (length replies) told) in
    ap (λ (l : List CoreReply). new ++ replies_by s (drop (i + 1) commands) l) behind ∙ ap (λ (n : List Reply). n ++ replies_by s (drop (i + 1) commands) (drop (length r) left)) e
    ∙ append_assoc replies r (replies_by s (drop (i + 1) commands) (drop (length r) left)) ∙ ap (λ (cs : List Command). replies ++ replies_by s cs left) (sym at) ∙ so_far

pub replies_all : (s : State) (commands : List Command) (told : List CoreReply) (replies : List Reply) (i : ℕ) → length commands ≤ i
    → replies ++ replies_by s (drop i commands) (drop (length replies) told) ≡ replies_by s commands told → replies ≡ replies_by s commands told
replies_all s commands told replies i past so_far =
    sym (append-nil replies) ∙ ap (λ (cs : List Command). replies ++ replies_by s cs (drop (length replies) told)) (sym (at_drop_all (λ (cs : List Command). cs) commands i past)) ∙ so_far
