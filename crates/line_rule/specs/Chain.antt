-- The list of writers as plain data, newest first.
use Rattle.std.specs.Prelude.{◌≡◌, ◌≢◌, ℕ, ◌+◌, ◌*◌, ◌<◌, ◌≤◌, ◌==◌, List, [], ◌∷◌, ◌++◌, cond, slice_index}
use Rattle.line_rule.specs.declared.view.QueuedWriter.{QueuedWriter}
use Rattle.line_rule.specs.declared.view.Handling.{Handling}

abbrev pub state_at : ℕ → ℕ
state_at i = 2 * i + 2

abbrev pub older_at : ℕ → ℕ
older_at i = 2 * i + 3

-- the word of an older link: the older writer's number, and the code of the writer itself
abbrev pub pack : ℕ → ℕ → ℕ
pack older code = older + 256 * code

module _ {Request : Type 0} where
  -- the newest writer, or b where there is none
  abbrev pub newest_from : ℕ → List (QueuedWriter Request) → ℕ
  newest_from b [] = b
  newest_from b (e ∷ es) = e.by

  abbrev pub newest : List (QueuedWriter Request) → ℕ
  newest l = newest_from 0 l

  -- each writer's link names the next older one, and the oldest one's names b
  abbrev pub LinksFrom : ℕ → List ℕ → List (QueuedWriter Request) → Type 0
  LinksFrom b words [] = Unit {0}
  LinksFrom b words (e ∷ es) = (slice_index words (older_at e.by) ≡ pack (newest_from b es) e.code)
      × LinksFrom b words es

  abbrev pub Links : List ℕ → List (QueuedWriter Request) → Type 0
  Links words l = LinksFrom 0 words l

  abbrev pub pairs : List (QueuedWriter Request) → List (ℕ × ℕ)
  pairs [] = []
  pairs (e ∷ es) = (e.by, e.code) ∷ pairs es

  abbrev pub Absent : ℕ → List (QueuedWriter Request) → Type 0
  Absent k [] = Unit {0}
  Absent k (e ∷ es) = (e.by ≢ k) × Absent k es

  -- no writer of the one list is in the other
  abbrev pub AllAbsent : List (QueuedWriter Request) → List (QueuedWriter Request) → Type 0
  AllAbsent [] others = Unit {0}
  AllAbsent (e ∷ es) others = Absent e.by others × AllAbsent es others

  abbrev pub Distinct : List (QueuedWriter Request) → Type 0
  Distinct [] = Unit {0}
  Distinct (e ∷ es) = Absent e.by es × Distinct es

  -- each writer's request and code are as is asked of them
  abbrev pub AllCoded : (Request → ℕ → Type 0) → List (QueuedWriter Request) → Type 0
  AllCoded asks [] = Unit {0}
  AllCoded asks (e ∷ es) = asks e.asked e.code × AllCoded asks es

  -- each writer has a client's number
  abbrev pub Within : ℕ → List (QueuedWriter Request) → Type 0
  Within n [] = Unit {0}
  Within n (e ∷ es) = (0 < e.by) × (e.by ≤ n) × Within n es

  abbrev pub Oldest : List (QueuedWriter Request) → QueuedWriter Request → Type 0
  Oldest chain e = (newer : List (QueuedWriter Request)) × (chain ≡ newer ++ e ∷ [])

  -- the walk is the older end of the chain
  abbrev pub EndsWith : List (QueuedWriter Request) → List (QueuedWriter Request) → Type 0
  EndsWith chain walk = (newer : List (QueuedWriter Request)) × (chain ≡ newer ++ walk)

-- what was handled for one client
abbrev pub of : {Request Reply : Type 0} → ℕ → List (Handling Request Reply) → List (Request × Reply)
of k [] = []
of k (h ∷ hs) = cond (h.by == k) ((h.asked, h.reply) ∷ of k hs) (of k hs)

-- a group is its members with their replies, newest first, without the leader
module _ {Request Reply : Type 0} where
  abbrev pub heads : List (QueuedWriter Request × Reply) → List (QueuedWriter Request)
  heads [] = []
  heads (g ∷ gs) = g.0 ∷ heads gs

  abbrev pub handling : QueuedWriter Request → Reply → Handling Request Reply
  handling e p = record { by = e.by; asked = e.asked; reply = p }

  -- what a group has handled, in link order
  abbrev pub answers : List (QueuedWriter Request × Reply) → List (Handling Request Reply)
  answers [] = []
  answers (g ∷ gs) = answers gs ++ handling g.0 g.1 ∷ []

  abbrev pub all_answers : QueuedWriter Request → Reply → List (QueuedWriter Request × Reply)
      → List (Handling Request Reply)
  all_answers own p gs = handling own p ∷ answers gs
