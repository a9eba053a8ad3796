-- What a leader's lists have room for.
use Rattle.std.specs.Prelude.{◌≡◌, ℕ, ◌≤◌, List, [], ◌∷◌, vec_len, vec_capacity}
use Rattle.line_writers.specs.declared.room.Room.{Room}
use Rattle.line_writers.specs.declared.room.Requests.{Requests}
use Rattle.line_writers.specs.declared.room.Replies.{Replies}
use Rattle.line_writers.specs.declared.room.Lists.{Lists}

-- the room is empty, and large enough for all clients
abbrev pub HasRoom : ℕ → Room → Type 0
HasRoom n room = (vec_len room.walk ≡ 0) × (room.walk.items ≡ []) × (n ≤ vec_capacity room.walk)
    × (vec_len room.members ≡ 0) × (room.members.items ≡ []) × (n ≤ vec_capacity room.members)

-- there are no requests yet, and there is room for those of all clients
abbrev pub TakesRequests : {Request : Type 0} → ℕ → Requests Request → Type 0
TakesRequests n requests = (vec_len requests.list ≡ 0) × (requests.list.items ≡ []) × (n ≤ vec_capacity requests.list)

-- there are no replies yet, and there is room for those to all clients
abbrev pub TakesReplies : {Reply : Type 0} → ℕ → Replies Reply → Type 0
TakesReplies n replies = (vec_len replies.list ≡ 0) × (replies.list.items ≡ []) × (n ≤ vec_capacity replies.list)

module _ {Request Reply : Type 0} where
  abbrev pub AreReady : ℕ → Lists Request Reply → Type 0
  AreReady n lists = TakesRequests n lists.requests × TakesReplies n lists.replies × HasRoom n lists.room

  abbrev pub AllReady : ℕ → List (Lists Request Reply) → Type 0
  AllReady n [] = Unit {0}
  AllReady n (x ∷ xs) = AreReady n x × AllReady n xs
