-- Which writers form a group: `WriteThread::EnterAsBatchGroupLeader` of RocksDB's db/write_thread.cc.
use Rattle.std.specs.Prelude.{ℕ, ◌+◌, ◌-◌, ◌/◌, Bool, true, false, not, ◌&&◌, ◌||◌, List, [], ◌∷◌, length, take, sum_by, take_while, slice_get, nat_le, if◌then◌else◌}
use Rattle.std.specs.Option.{option_map_or}
use Rattle.std.specs.List.{range_with_len}
use Rattle.model_base.specs.declared.group.Item.{Item}

-- the most bytes of a group with this leader: a small leader doesn't wait for a large group
abbrev pub cap : ℕ → Item → ℕ
cap max leader = if nat_le leader.size (max / 8) then leader.size + max / 8 else max

abbrev pub same_bool : Bool → Bool → Bool
same_bool true b = b
same_bool false b = not b

abbrev pub size_of : List Item → ℕ
size_of items = sum_by (λ i. i.size) items

-- The writer i may join the leader's group, where `total` is the sum of the sizes from the leader up to this writer.
-- One that goes alone is there a writer without a batch (`w->batch == nullptr`).
abbrev pub fits : ℕ → Item → ℕ → Item → Bool
fits max leader total i = not leader.alone && not i.alone && (not i.options.sync || leader.options.sync)
    && same_bool i.options.no_slowdown leader.options.no_slowdown
    && same_bool i.options.no_log leader.options.no_log && nat_le total (cap max leader)

-- the writer at this place of the queue (from 0) may join the group; the queue's first writer is the leader
abbrev pub fits_at : ℕ → List Item → ℕ → Bool
fits_at max [] place = false
fits_at max (leader ∷ items) place =
    option_map_or (fits max leader (size_of (take (place + 1) (leader ∷ items))))
    (slice_get (leader ∷ items) place) false

-- how many writers of a queue go together: the greatest n up to its length such that those at 1 to n - 1 all fit (an
-- empty queue counts as one writer)
abbrev pub group_len : ℕ → List Item → ℕ
group_len max queue = 1 + length (take_while (fits_at max queue) (range_with_len 1 (length queue - 1)))
