-- How processes and channels are named, and their orders.
use Rattle.std.specs.Prelude.{ℕ, Bool, List, ◌&&◌, eqb}
use Rattle.std.specs.Ordering.{ordering_then, nat_cmp}
use Rattle.std.specs.Cmp.Lexicographic.{pointwise, slice_cmp}
use Rattle.std.specs.declared.cmp.Ordering.{Ordering}

-- A process is named by the forks and branches that lead to it from the root.
abbrev pub Path : Type 0
Path = List (ℕ × ℕ)

-- A channel is named by its home, which is the path of the process that made it, and by its number among those that this one made.
pub record Channel : Type 0 where
  pub home : Path
  pub serial : ℕ

-- a channel, and beside it the number of the name by which it is printed
pub record NamedChannel : Type 0 where
  pub channel : Channel
  pub name : ℕ

abbrev pub same_pair : ℕ × ℕ → ℕ × ℕ → Bool
same_pair a b = eqb a.0 b.0 && eqb a.1 b.1

abbrev pub same_path : Path → Path → Bool
same_path = pointwise same_pair

-- whether two channels have the same home and the same serial number; the name by which a channel is printed isn't compared
abbrev pub same_channel : Channel → Channel → Bool
same_channel a b = same_path a.home b.home && eqb a.serial b.serial

-- by the first numbers, and then by the second
abbrev pub pair_order : ℕ × ℕ → ℕ × ℕ → Ordering
pair_order a b = ordering_then (nat_cmp a.0 b.0) (nat_cmp a.1 b.1)

-- pair by pair, and a path before those that go on from it
abbrev pub path_order : Path → Path → Ordering
path_order = slice_cmp pair_order

-- by home, and then by serial
abbrev pub channel_order : Channel → Channel → Ordering
channel_order a b = ordering_then (path_order a.home b.home) (nat_cmp a.serial b.serial)
