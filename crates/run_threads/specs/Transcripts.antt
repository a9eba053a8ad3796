-- What all commands of a client result in.
use Rattle.std.specs.Prelude.{◌≡◌, ℕ, List, [], ◌∷◌, ◌++◌}
use Rattle.model_base.specs.Batch.{Record}
use Rattle.model_base.specs.Trace.{Settings}
use Rattle.model_base.specs.Runs.{commands_of}
use Rattle.model_base.specs.Calls.{Command, Call}
use Rattle.run_outcome.specs.declared.reply.Reply.{Reply}
use Rattle.run_outcome.specs.declared.reply.Reply.TheVariants.{NoMemory}
use Rattle.run_outcome.specs.Shows.{ShowsReplies}
use Rattle.model_accounts.specs.Accounts.{Account}
use Rattle.model_accounts.specs.ClientRuns.{Lacks, Went, HasRun}

-- these commands were answered, and the client got the replies
pub record HasGone (settings : Settings) (client : ℕ) (commands : List Command) (told : List Reply) (a : Account)
    (pending : List Record) : Type 0 where
  pub calls : List Call
  pub are : commands_of calls ≡ commands
  pub shows : ShowsReplies told calls
  pub number : a.number ≡ client
  pub went : Went settings calls a pending

-- all commands were answered, or one found no memory
pub data HasStopped (settings : Settings) (client : ℕ) (commands : List Command) (told : List Reply)
    (a : Account) : Type 0 where
  through : (pending : List Record) → HasGone settings client commands told a pending
      → HasStopped settings client commands told a
  short : (done : List Command) (last : Command) (rest : List Command) (answered : List Reply) (pending : List Record)
      (v : Account) → commands ≡ done ++ last ∷ rest → told ≡ answered ++ NoMemory ∷ []
      → HasGone settings client done answered v pending → Lacks settings v pending last a
      → HasStopped settings client commands told a

-- the client has run its commands, and its replies show how
pub record HasReplied (settings : Settings) (client : ℕ) (commands : List Command) (told : List Reply)
    (a : Account) : Type 0 where
  pub calls : List Call
  pub shows : ShowsReplies told calls
  pub run : HasRun settings client commands calls a
