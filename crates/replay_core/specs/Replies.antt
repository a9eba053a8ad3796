-- A client's replies to its commits and reads: in short in the code, in full in the machine of events.
use Rattle.std.specs.Prelude.{◌≡◌, ℕ, List, [], ◌∷◌, Option, Some, None}
use Rattle.model_base.specs.declared.write.Refusal.TheVariants.{NoFamily}
use Rattle.model_base.specs.Calls.{Reply, accepted, refused, found, found_each, rows, updates_found}
use Rattle.replay_core.specs.declared.writer.CoreReply.{CoreReply}
use Rattle.replay_core.specs.declared.writer.CoreReply.TheVariants.{Accepted, Refused, ReadAt}

-- a reply in short and in full
abbrev pub IsReply : CoreReply → Reply → Type 0
IsReply (Accepted run) (accepted first last records) = (run.first ≡ first) × (run.last ≡ last)
IsReply (Refused why) (refused r) = why ≡ r
IsReply (ReadAt n) (found at v) = n ≡ at
IsReply (ReadAt n) (found_each at vs) = n ≡ at
IsReply (ReadAt n) (rows at pairs) = n ≡ at
IsReply (ReadAt n) (updates_found at records) = n ≡ at
IsReply (Accepted run) other = ⊥
IsReply (Refused why) other = ⊥
IsReply (ReadAt n) other = ⊥

-- the reply to a read at this published sequence, where this is the first family that it names and that there isn't
abbrev pub reply_at : ℕ → Option ℕ → CoreReply
reply_at n None = ReadAt n
reply_at n (Some family) = Refused (NoFamily family)

abbrev pub AreReplies : List CoreReply → List Reply → Type 0
AreReplies [] [] = Unit {0}
AreReplies [] (r ∷ rs) = ⊥
AreReplies (x ∷ xs) [] = ⊥
AreReplies (x ∷ xs) (r ∷ rs) = IsReply x r × AreReplies xs rs
