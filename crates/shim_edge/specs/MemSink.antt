-- A sink in memory, as contracts see it.
use Rattle.std.specs.Prelude.{ℕ, ◌+◌, ◌<◌, ◌≤◌, List, length, Contains, ◌⊎◌}

-- A sink in memory with limited room, with what is counted of its writes. Writes of given numbers fail.
pub record SinkInMemory : Type 0 where
  -- the bytes that were taken
  pub taken : List ℕ
  -- how many bytes have room in all, with those that were taken
  pub room : ℕ
  -- the most bytes that one write takes
  pub most : ℕ
  -- the numbers of the writes that fail, counted from 0
  pub failing : List ℕ
  -- how many writes there were, up to the end of a u64
  pub calls : ℕ
  -- how many of them failed, up to the end of a u64
  pub faults : ℕ

-- the next write is to fail, or the taken bytes and this many more pass the room
abbrev pub RefusesWrite : SinkInMemory → ℕ → Type 0
RefusesWrite memory count = Contains memory.failing memory.calls ⊎ (memory.room < length memory.taken + count)

-- The taken bytes lie within the room, the room within the capacity, and a write takes something.
pub record IsWithinRoom (taken room capacity most : ℕ) : Type 0 where
  pub taken_in_room : taken ≤ room
  pub room_in_capacity : room ≤ capacity
  pub takes_some : 1 ≤ most
