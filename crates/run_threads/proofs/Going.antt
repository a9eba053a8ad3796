-- A client on its way through its commands, and at their end.
use Rattle.std.proofs.Common.{◌≡◌, ℕ, Option, Some, None, List, [], ◌∷◌, ◌++◌, option_to_list, refl, ap, sym, ◌∙◌, subst, append_assoc}
use Rattle.std.proofs.lemmas.List.{map-append, append-nil}
use Rattle.model_base.specs.Batch.{Record}
use Rattle.model_base.specs.Trace.{Settings}
use Rattle.model_base.specs.Runs.{commands_of}
use Rattle.model_base.specs.Calls.{Command, Call, no_memory}
use Rattle.run_outcome.specs.declared.reply.Reply.{Reply}
use Rattle.run_outcome.specs.declared.reply.Reply.TheVariants.{NoMemory}
use Rattle.run_outcome.specs.Shows.{ShowsReplies}
use Rattle.run_outcome.proofs.Replies.{told_more, told_still}
use Rattle.model_accounts.specs.Accounts.{Account, GivesBack}
use Rattle.model_accounts.specs.ClientRuns.{Lacks, Went, HasRun, with_call}
use Rattle.run_threads.specs.Answers.{ShowsTold, GoesOn}
use Rattle.run_threads.specs.Transcripts.{HasGone, HasStopped, through, short, HasReplied}

pub gone_none : (settings : Settings) (client : ℕ) (a : Account) → a.number ≡ client → Went settings [] a [] → HasGone settings client [] [] a []
gone_none settings client a number went = record { calls = []; are = refl; shows = tt; number = number; went = went }

commands_more : (calls : List Call) (c : Call) → commands_of (calls ++ c ∷ []) ≡ commands_of calls ++ c.command ∷ []
commands_more calls c = map-append (λ (x : Call). x.command) calls (c ∷ [])

-- the replies so far, with the reply to one more call, if it has one
told_next : (replies : List Reply) (cs : List Call) (told : Option Reply) (c : Call) → ShowsReplies replies cs → ShowsTold told c → ShowsReplies (replies ++ option_to_list told) (cs ++ c ∷ [])
told_next replies cs None c so_far none = rw (append-nil replies) (told_still replies cs c so_far none)
told_next replies cs (Some reply) c so_far shows = told_more replies cs reply c so_far shows

pub gone_more : (settings : Settings) (client : ℕ) (done : List Command) (told : List Reply) (v : Account) (before : List Record) (gone : HasGone settings client done told v before)
    (c : Command) (r : Option Reply) (w : Account) (after : List Record) (goes : GoesOn settings v before c r w after)
    → Went settings (with_call gone.calls c goes.reply) w after → HasGone settings client (done ++ c ∷ []) (told ++ option_to_list r) w after
gone_more settings client done told v before gone c r w after goes went = record {
  calls = with_call gone.calls c goes.reply;
  are = commands_more gone.calls (record { command = c; reply = goes.reply }) ∙ ap (λ (cs : List Command). cs ++ c ∷ []) gone.are;
  shows = told_next told gone.calls r (record { command = c; reply = goes.reply }) gone.shows goes.shows;
  number = goes.goes.number ∙ gone.number;
  went = went;
}

-- the commands before those that are left were answered, and the client got the replies
pub record HaveGone (settings : Settings) (client : ℕ) (commands left : List Command) (told : List Reply) (a : Account)
    (pending : List Record) : Type 0 where
  pub done : List Command
  pub splits : done ++ left ≡ commands
  pub gone : HasGone settings client done told a pending

-- the laws of how a client's run ends
abbrev pub EndsWhole : Settings → Type 0
EndsWhole settings = (calls : List Call) (v : Account) (pending : List Record) (w : Account) → Went settings calls v pending → GivesBack v w
    → HasRun settings v.number (commands_of calls) calls w

abbrev pub EndsShort : Settings → Type 0
EndsShort settings = (calls : List Call) (v : Account) (pending : List Record) (last : Command) (rest : List Command) (u w : Account) → Went settings calls v pending
    → Lacks settings v pending last u → GivesBack u w → HasRun settings v.number (commands_of (with_call calls last no_memory) ++ rest) (with_call calls last no_memory) w

pub has_told : (settings : Settings) (client : ℕ) (commands : List Command) (told : List Reply) (u w : Account) → EndsWhole settings → EndsShort settings
    → HasStopped settings client commands told u → GivesBack u w → HasReplied settings client commands told w
has_told settings client commands told u w whole cut (through pending gone) back = record {
  calls = gone.calls;
  shows = gone.shows;
  run = subst (λ (n : ℕ). HasRun settings n commands gone.calls w) gone.number (subst (λ (cs : List Command). HasRun settings u.number cs gone.calls w) gone.are (whole gone.calls u pending w gone.went back));
}
has_told settings client commands told u w whole cut (short done last rest answered pending v split are gone lacks) back =
    let all = with_call gone.calls last no_memory in
    let same : commands_of all ++ rest ≡ commands =
    ap (λ (cs : List Command). cs ++ rest) (commands_more gone.calls (record { command = last; reply = no_memory }) ∙ ap (λ (cs : List Command). cs ++ last ∷ []) gone.are) ∙ (append_assoc done (last ∷ []) rest ∙ sym split) in
    record {
      calls = all;
      shows = rw are (told_more answered gone.calls NoMemory (record { command = last; reply = no_memory }) gone.shows refl);
      run = subst (λ (n : ℕ). HasRun settings n commands all w) gone.number (subst (λ (cs : List Command). HasRun settings v.number cs all w) same (cut gone.calls v pending last rest u w gone.went lacks back));
    }
