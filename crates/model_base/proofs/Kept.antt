-- What a client may be told doesn't depend on which batches the log had kept: only what its reads of the log give does,
-- and that is said of the trace.
use Rattle.std.proofs.Common.{ℕ, Option, List, [], ◌∷◌}
use Rattle.model_base.specs.Calls.{Command, add, clear, commit, get, many, scan, updates, stop, unstop, slow, unslow, Reply, refused, updates_found, read_failed, Call}
use Rattle.model_base.specs.Progress.{Progress, fresh}
use Rattle.model_base.specs.Recovery.{Logged}
use Rattle.model_base.specs.Replies.{Replies, Updates, MayFindNoMemory}
use Rattle.model_base.specs.Runs.{Run, IsTranscript, whole, cut_off}
use Rattle.model_base.specs.Settings.{with_kept}
use Rattle.model_base.specs.Trace.{Trace, Settings}

module _ (kept : Option (List Logged)) (settings : Settings) where
  updates_with : (trace : Trace) (p : Progress) (n : ℕ) (r : Reply) (q : Progress) → Updates settings trace p n r q → Updates (with_kept kept settings) trace p n r q
  updates_with trace p n (updates_found at records) q s = s
  updates_with trace p n (refused why) q s = s
  updates_with trace p n (read_failed count) q s = s
  updates_with trace p n _ q s = absurd s

  replies_with : (trace : Trace) (client : ℕ) (p : Progress) (c : Command) (r : Reply) (q : Progress) → Replies settings trace client p c r q → Replies (with_kept kept settings) trace client p c r q
  replies_with trace client p (add x) r q s = s
  replies_with trace client p clear r q s = s
  replies_with trace client p (commit how) r q s = s
  replies_with trace client p (get key) r q s = s
  replies_with trace client p (many keys) r q s = s
  replies_with trace client p (scan family lo hi) r q s = s
  replies_with trace client p (updates n) r q s = updates_with trace p n r q s
  replies_with trace client p stop r q s = s
  replies_with trace client p unstop r q s = s
  replies_with trace client p (slow rate) r q s = s
  replies_with trace client p unslow r q s = s

  run_with : (trace : Trace) (client : ℕ) (p : Progress) (calls : List Call) (q : Progress) → Run settings trace client p calls q → Run (with_kept kept settings) trace client p calls q
  run_with trace client p [] q s = s
  run_with trace client p (c ∷ calls) q s = (
    s.0,
    record { replies = replies_with trace client p c.command c.reply s.0 s.1.replies; rises = s.1.rises; within = s.1.within; tokens = s.1.tokens; logs_rise = s.1.logs_rise; logs_within = s.1.logs_within },
    run_with trace client s.0 calls q s.2,
  )

  lacks_with : (p : Progress) (c : Command) → MayFindNoMemory settings p c → MayFindNoMemory (with_kept kept settings) p c
  lacks_with p (add x) s = s
  lacks_with p clear s = s
  lacks_with p (commit how) s = s
  lacks_with p (get key) s = s
  lacks_with p (many keys) s = s
  lacks_with p (scan family lo hi) s = s
  lacks_with p (updates n) s = s
  lacks_with p stop s = s
  lacks_with p unstop s = s
  lacks_with p (slow rate) s = s
  lacks_with p unslow s = s

  pub transcript_with : (trace : Trace) (client : ℕ) (commands : List Command) (calls : List Call) (end : Progress) → IsTranscript settings trace client commands calls end → IsTranscript (with_kept kept settings) trace client commands calls end
  transcript_with trace client commands calls end (whole all run) = whole all (run_with trace client fresh calls end run)
  transcript_with trace client commands calls end (cut_off front last rest are from run lacks) = cut_off front last rest are from (run_with trace client fresh front end run) (lacks_with end last lacks)
