-- The waits as the code finds them in the order of a walk.
use Rattle.std.specs.Prelude.{List, [], ◌∷◌, cond}
use Rattle.std.specs.FinMap as finite
use Rattle.shim_base.specs.Paths.{Path, NamedChannel, path_order}

-- the map with a wait of the process of this path at this channel; if the path has one, that stays
abbrev pub with_wait : finite.FinMap path_order NamedChannel → Path → NamedChannel → finite.FinMap path_order NamedChannel
with_wait m p c = cond (finite.contains_key m p) m (finite.insert m p c)

-- these waits are added, one after another
abbrev pub with_waits : finite.FinMap path_order NamedChannel → List (Path × NamedChannel) → finite.FinMap path_order NamedChannel
with_waits m [] = m
with_waits m (w ∷ ws) = with_waits (with_wait m w.0 w.1) ws
