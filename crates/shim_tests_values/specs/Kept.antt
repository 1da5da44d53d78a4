-- Children of a process that do steps before they are given back.
use Rattle.std.specs.Prelude.{List, ◌∷◌, ◌++◌}
use Rattle.shim_local.specs.Process.{Ops}

-- wherever the first state is among the children of a parent, the second may be in its place
abbrev pub StaysChild : {S : Type 0} → Ops S → S → S → Type 0
StaysChild {S} o k m = (parent : S) (before after : List S) → o.born parent (before ++ k ∷ after) → o.born parent (before ++ m ∷ after)

-- if the first list is the children of a parent, so is the second, whichever parent that is
abbrev pub StayChildren : {S : Type 0} → Ops S → List S → List S → Type 0
StayChildren {S} o ks ms = (parent : S) → o.born parent ks → o.born parent ms
