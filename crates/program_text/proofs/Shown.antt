-- The text of a run's values is the text of what they show.
use Rattle.std.proofs.Common.{◌≡◌, ℕ, suc, ◌+◌, List, [], ◌∷◌, ◌++◌, length, Vec, refl, sym, ◌∙◌, ap}
use Rattle.std.specs.Prelude.{flat_map, decimal, codes}
use Rattle.std.specs.List.{AllZip, enumerate_from}
use Rattle.std.specs.declared.alloc.Global.{Global}
use Rattle.model_base.specs.History as history
use Rattle.model_base.specs.Map.{Pairs}
use Rattle.log_batch.specs.Contents.{Contents}
use Rattle.model_base.specs.Calls as calls
use Rattle.model_base.specs.Text.{line, reply_text, client_text, entry_text, history_text, outcome_text}
use Rattle.run_outcome.specs.declared.reply.Reply.{Reply}
use Rattle.run_outcome.specs.declared.reply.Reply.TheVariants.{Accepted, Refused, Found, Nothing, FoundEach, Rows, Updates, ReadFault, Done, Held, NotHeld, NoMemory}
use Rattle.run_outcome.specs.declared.history_entry.HistoryEntry.{HistoryEntry}
use Rattle.run_outcome.specs.declared.outcome.Outcome.{Outcome}
use Rattle.run_outcome.specs.Shows.{ShowsReply, ShowsReplies, with_replies, ShowsEntry, ShowsOutcome}
use Rattle.program_text.specs.ShownText.{reply_line, client_lines, entry_line, history_lines, shown_text}

reply_shown : (r : Reply) (c : calls.Call) → ShowsReply r c → reply_line r ≡ reply_text c.reply
reply_shown (Accepted run) c e = sym (ap reply_text e.1)
reply_shown (Refused why) c e = sym (ap reply_text e)
reply_shown (Found at value) c e = sym (ap reply_text e)
reply_shown (Nothing at) c e = sym (ap reply_text e)
reply_shown (FoundEach at values) c e = sym (ap reply_text e)
reply_shown (Rows at rows) c e = sym (ap reply_text e)
reply_shown (Updates at records) c e = sym (ap reply_text e)
reply_shown (ReadFault count) c e = sym (ap reply_text e)
reply_shown Done c e = sym (ap reply_text e)
reply_shown Held c e = sym (ap reply_text e)
reply_shown NotHeld c e = sym (ap reply_text e)
reply_shown NoMemory c e = sym (ap reply_text e)

abbrev texts : List calls.Call → List ℕ
texts cs = flat_map (λ (c : calls.Call). reply_text c.reply) cs

-- the text of replies, in order
lines_shown : (rs : List Reply) (cs : List calls.Call) → AllZip ShowsReply rs cs → flat_map reply_line rs ≡ texts cs
lines_shown [] [] all = refl
lines_shown [] (c ∷ cs) all = absurd all
lines_shown (r ∷ rs) [] all = absurd all
lines_shown (r ∷ rs) (c ∷ cs) all = rw (reply_shown r c all.0) (ap (λ t. reply_text c.reply ++ t) (lines_shown rs cs all.1))

-- a call that has no reply has no text
call_text : (command : calls.Command) (r : calls.Reply) (cs : List calls.Call) → texts (with_replies cs) ≡ texts cs
    → texts (with_replies (record { command = command; reply = r } ∷ cs)) ≡ texts (record { command = command; reply = r } ∷ cs)
call_text command calls.quiet cs same = same
call_text command r cs same = ap (λ t. reply_text r ++ t) same

quiet_texts : (cs : List calls.Call) → texts (with_replies cs) ≡ texts cs
quiet_texts [] = refl
quiet_texts (c ∷ cs) = call_text c.command c.reply cs (quiet_texts cs)

replies_shown : (rs : List Reply) (cs : List calls.Call) → ShowsReplies rs cs → flat_map reply_line rs ≡ texts cs
replies_shown rs cs all = lines_shown rs (with_replies cs) all ∙ quiet_texts cs

-- the text of clients, from a number on
pub clients_shown : (n : ℕ) (xs : List (Vec Reply Global)) (ys : List (List calls.Call)) → AllZip (λ v. ShowsReplies v.items) xs ys → flat_map client_lines (enumerate_from n xs) ≡ flat_map client_text (enumerate_from n ys)
clients_shown n [] [] all = refl
clients_shown n [] (y ∷ ys) all = absurd all
clients_shown n (x ∷ xs) [] all = absurd all
clients_shown n (x ∷ xs) (y ∷ ys) all =
    ap (λ t. line (codes "client" ∷ decimal n ∷ []) ++ t ++ flat_map client_lines (enumerate_from (n + 1) xs)) (replies_shown x.items y all.0)
    ∙ ap (λ t. client_text (n, y) ++ t) (clients_shown (n + 1) xs ys all.1)

entry_shown : (s : HistoryEntry Contents) (e : history.Entry) → ShowsEntry s e → entry_line s ≡ entry_text e
entry_shown s e shows = rw (shows.last, shows.batch, shows.client, shows.ordinal, shows.first, shows.flag) refl

-- the text of batches, in order
entries_shown : (ss : List (HistoryEntry Contents)) (es : List history.Entry) → AllZip ShowsEntry ss es → flat_map entry_line ss ≡ flat_map entry_text es
entries_shown [] [] all = refl
entries_shown [] (e ∷ es) all = absurd all
entries_shown (s ∷ ss) [] all = absurd all
entries_shown (s ∷ ss) (e ∷ es) all = rw (entry_shown s e all.0) (ap (λ t. entry_text e ++ t) (entries_shown ss es all.1))

length_shown : (ss : List (HistoryEntry Contents)) (es : List history.Entry) → AllZip ShowsEntry ss es → length ss ≡ length es
length_shown [] [] all = refl
length_shown [] (e ∷ es) all = absurd all
length_shown (s ∷ ss) [] all = absurd all
length_shown (s ∷ ss) (e ∷ es) all = ap suc (length_shown ss es all.1)

pub history_shown : (ss : List (HistoryEntry Contents)) (es : List history.Entry) → AllZip ShowsEntry ss es → history_lines ss ≡ history_text es
history_shown ss es all = rw (length_shown ss es all, entries_shown ss es all) refl

-- the text of the whole outcome
pub outcome_shown : (v : Outcome Pairs) (o : calls.Outcome) → ShowsOutcome v o → shown_text v ≡ outcome_text o
outcome_shown v o shows = rw (clients_shown 1 _ _ shows.transcripts, history_shown _ _ shows.history, ← shows.last, ← shows.state, ← shows.log_lens, ← shows.fault) refl
