-- Whether a client ran out of memory: what its replies show, and what the calls of an outcome are.
use Rattle.std.proofs.Common.{◌≡◌, ℕ, zero, suc, Bool, true, false, ◌||◌, List, [], ◌∷◌, Some, Vec, refl, ap, sym, ◌∙◌}
use Rattle.std.specs.Prelude.{slice_get}
use Rattle.std.specs.List.{AllByRecursion, AllZip, list_any}
use Rattle.std.specs.declared.alloc.Global.{Global}
use Rattle.model_base.specs.Calls as calls
use Rattle.model_base.specs.Map.{Pairs}
use Rattle.model_base.specs.Runs.{NoneWithoutMemory}
use Rattle.run_outcome.specs.declared.reply.Reply.{Reply}
use Rattle.run_outcome.specs.declared.reply.Reply.TheVariants as reply
use Rattle.run_outcome.specs.declared.outcome.Outcome.{Outcome}
use Rattle.run_outcome.specs.Shows.{ShowsReply, ShowsReplies, ShowsOutcome, with_replies, lacks_memory, ran_short}
use Rattle.program_call.specs.Outcomes.{LacksMemory}

-- If no reply says `no memory`, no call found none

neither : (a b : Bool) → (a || b) ≡ false → (a ≡ false) × (b ≡ false)
neither true b e = absurd (cc e)
neither false b e = (refl, e)

other_reply : (r : Reply) (c : calls.Call) → ShowsReply r c → lacks_memory r ≡ false → c.reply ≡ calls.no_memory → ⊥
other_reply (reply.Accepted run) c shows lacks e = cc (shows.1, e)
other_reply (reply.Refused why) c shows lacks e = cc (shows, e)
other_reply (reply.Found at v) c shows lacks e = cc (shows, e)
other_reply (reply.Nothing at) c shows lacks e = cc (shows, e)
other_reply (reply.FoundEach at vs) c shows lacks e = cc (shows, e)
other_reply (reply.Rows at rows) c shows lacks e = cc (shows, e)
other_reply (reply.Updates at records) c shows lacks e = cc (shows, e)
other_reply (reply.ReadFault count) c shows lacks e = cc (shows, e)
other_reply reply.Done c shows lacks e = cc (shows, e)
other_reply reply.Held c shows lacks e = cc (shows, e)
other_reply reply.NotHeld c shows lacks e = cc (shows, e)
other_reply reply.NoMemory c shows lacks e = cc lacks

none_lack : (rs : List Reply) (cs : List calls.Call) → AllZip ShowsReply rs cs → list_any lacks_memory rs ≡ false → NoneWithoutMemory cs
none_lack [] [] shows lacks = tt
none_lack [] (c ∷ cs) shows lacks = absurd shows
none_lack (r ∷ rs) [] shows lacks = absurd shows
none_lack (r ∷ rs) (c ∷ cs) shows lacks =
    let both = neither (lacks_memory r) (list_any lacks_memory rs) lacks in
    (other_reply r c shows.0 both.0, none_lack rs cs shows.1 both.1)

-- a call without a reply isn't one that found no memory either
call_whole : (command : calls.Command) (r : calls.Reply) (cs : List calls.Call) → (NoneWithoutMemory (with_replies cs) → NoneWithoutMemory cs)
    → NoneWithoutMemory (with_replies (record { command = command; reply = r } ∷ cs)) → NoneWithoutMemory (record { command = command; reply = r } ∷ cs)
call_whole command calls.quiet cs rest none = ((λ e. cc e), rest none)
call_whole command r cs rest none = (none.0, rest none.1)

calls_whole : (cs : List calls.Call) → NoneWithoutMemory (with_replies cs) → NoneWithoutMemory cs
calls_whole [] none = tt
calls_whole (c ∷ cs) none = call_whole c.command c.reply cs (calls_whole cs) none

pub all_whole : (vs : List (Vec Reply Global)) (cs : List (List calls.Call)) → AllZip (λ (v : Vec Reply Global). ShowsReplies v.items) vs cs
    → list_any (λ (v : Vec Reply Global). list_any lacks_memory v.items) vs ≡ false → AllByRecursion NoneWithoutMemory cs
all_whole [] [] shows lacks = tt
all_whole [] (c ∷ cs) shows lacks = absurd shows
all_whole (v ∷ vs) [] shows lacks = absurd shows
all_whole (v ∷ vs) (c ∷ cs) shows lacks =
    let both = neither (list_any lacks_memory v.items) (list_any (λ (w : Vec Reply Global). list_any lacks_memory w.items) vs) lacks in
    (calls_whole c (none_lack v.items (with_replies c) shows.0 both.0), all_whole vs cs shows.1 both.1)

-- If a reply says `no memory`, a call found none

this_reply : (r : Reply) (c : calls.Call) → ShowsReply r c → lacks_memory r ≡ true → c.reply ≡ calls.no_memory
this_reply (reply.Accepted run) c shows lacks = absurd (cc lacks)
this_reply (reply.Refused why) c shows lacks = absurd (cc lacks)
this_reply (reply.Found at v) c shows lacks = absurd (cc lacks)
this_reply (reply.Nothing at) c shows lacks = absurd (cc lacks)
this_reply (reply.FoundEach at vs) c shows lacks = absurd (cc lacks)
this_reply (reply.Rows at rows) c shows lacks = absurd (cc lacks)
this_reply (reply.Updates at records) c shows lacks = absurd (cc lacks)
this_reply (reply.ReadFault count) c shows lacks = absurd (cc lacks)
this_reply reply.Done c shows lacks = absurd (cc lacks)
this_reply reply.Held c shows lacks = absurd (cc lacks)
this_reply reply.NotHeld c shows lacks = absurd (cc lacks)
this_reply reply.NoMemory c shows lacks = shows

record Lacks (cs : List calls.Call) : Type 0 where
  place : ℕ
  call : calls.Call
  there : slice_get cs place ≡ Some call
  reply : call.reply ≡ calls.no_memory

behind : (c : calls.Call) (cs : List calls.Call) → Lacks cs → Lacks (c ∷ cs)
behind c cs found = record { place = suc found.place; call = found.call; there = found.there; reply = found.reply }

one_lacks : (rs : List Reply) (cs : List calls.Call) → AllZip ShowsReply rs cs → list_any lacks_memory rs ≡ true → Lacks cs
one_lacks [] cs shows lacks = absurd (cc lacks)
one_lacks (r ∷ rs) [] shows lacks = absurd shows
one_lacks (r ∷ rs) (c ∷ cs) shows lacks = by (lacks_memory r) refl (λ e. one_lacks rs cs shows.1 (ap (λ b. b || list_any lacks_memory rs) (sym e) ∙ lacks))
  where
    by : (b : Bool) → lacks_memory r ≡ b → (lacks_memory r ≡ false → Lacks cs) → Lacks (c ∷ cs)
    by true e later = record { place = 0; call = c; there = refl; reply = this_reply r c shows.0 e }
    by false e later = behind c cs (later e)

-- a call among those that have a reply is among all calls
call_lacks : (command : calls.Command) (r : calls.Reply) (cs : List calls.Call) → (Lacks (with_replies cs) → Lacks cs) → (place : ℕ) (call : calls.Call)
    → slice_get (with_replies (record { command = command; reply = r } ∷ cs)) place ≡ Some call → call.reply ≡ calls.no_memory → Lacks (record { command = command; reply = r } ∷ cs)
call_lacks command calls.quiet cs rest place call there is = behind _ cs (rest (record { place = place; call = call; there = there; reply = is }))
call_lacks command r cs rest zero call there is = record { place = 0; call = call; there = there; reply = is }
call_lacks command r cs rest (suc place) call there is = behind _ cs (rest (record { place = place; call = call; there = there; reply = is }))

calls_lack : (cs : List calls.Call) → Lacks (with_replies cs) → Lacks cs
calls_lack [] found = found
calls_lack (c ∷ cs) found = call_lacks c.command c.reply cs (calls_lack cs) found.place found.call found.there found.reply

record ClientLacks (ts : List (List calls.Call)) : Type 0 where
  client : ℕ
  transcript : List calls.Call
  of_client : slice_get ts client ≡ Some transcript
  lacks : Lacks transcript

abbrev any_lacks : List (Vec Reply Global) → Bool
any_lacks vs = list_any (λ (v : Vec Reply Global). list_any lacks_memory v.items) vs

client_lacks : (vs : List (Vec Reply Global)) (ts : List (List calls.Call)) → AllZip (λ (v : Vec Reply Global). ShowsReplies v.items) vs ts → any_lacks vs ≡ true → ClientLacks ts
client_lacks [] ts shows lacks = absurd (cc lacks)
client_lacks (v ∷ vs) [] shows lacks = absurd shows
client_lacks (v ∷ vs) (t ∷ ts) shows lacks = by (list_any lacks_memory v.items) refl (λ e. client_lacks vs ts shows.1 (ap (λ b. b || any_lacks vs) (sym e) ∙ lacks))
  where
    by : (b : Bool) → list_any lacks_memory v.items ≡ b → (list_any lacks_memory v.items ≡ false → ClientLacks ts) → ClientLacks (t ∷ ts)
    by true e later = record { client = 0; transcript = t; of_client = refl; lacks = calls_lack t (one_lacks v.items (with_replies t) shows.0 e) }
    by false e later = let rest = later e in record { client = suc rest.client; transcript = rest.transcript; of_client = rest.of_client; lacks = rest.lacks }

pub short_of : (shown : Outcome Pairs) (o : calls.Outcome) → ShowsOutcome shown o → ran_short shown ≡ true → LacksMemory o
short_of shown o shows lacks =
    let found = client_lacks shown.transcripts.items o.transcripts shows.transcripts lacks in
    record {
      client = found.client;
      transcript = found.transcript;
      of_client = found.of_client;
      place = found.lacks.place;
      call = found.lacks.call;
      there = found.lacks.there;
      reply = found.lacks.reply;
    }
