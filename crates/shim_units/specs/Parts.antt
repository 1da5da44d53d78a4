-- What the definitions collect from a part of a function's text: its uses, sharing places, exceptions and declarations, and its form in a unit.
use Rattle.std.specs.Prelude.{ℕ, List, [], ◌∷◌, ◌++◌}
use Rattle.shim_scopes.specs.declared.tree.RFunction.{RFunction}
use Rattle.shim_units.specs.declared.found.Use.{Use}
use Rattle.shim_units.specs.declared.found.Given.{Given}
use Rattle.shim_units.specs.declared.unit.Unit.{Unit as UnitOf}
use Rattle.shim_units.specs.declared.slot_map.SlotMap.{SlotMap}

-- a place that the sharing rule speaks of: a fork, with the uses of variables in each of its branches, or a call, with its arguments; each with its line
pub data SharingPlace : Type 0 where
  Fork : ℕ → List (List Use) → SharingPlace
  Called : ℕ → List Given → SharingPlace

-- the function that a part stands in, with all functions of the program: its number, its name, and the number that the first unit lifted out of it has
pub record LiftContext : Type 0 where
  pub functions : List RFunction
  pub function : RFunction
  pub number : ℕ
  pub name : List ℕ
  pub first : ℕ

-- the tree that a part becomes in its unit, and the units that are lifted out of the part, in the order of their first tokens
pub record Lifted (T : Type 0) : Type 0 where
  pub tree : T
  pub units : List UnitOf

-- how a part is lifted, from its function, its unit's slot map and the number of the next unit
abbrev pub Lifts : Type 0 → Type 0
Lifts T = LiftContext → SlotMap → ℕ → Lifted T

-- What a part holds, in textual order: the uses of variables in it and the places that the sharing rule speaks of, by the functions that may be called; the exceptions that it throws or passes on; the variables that it declares and the exceptions of its `try` statements, without those in block branches; and its form in a unit.
pub record Part (T : Type 0) : Type 0 where
  pub uses : List RFunction → List Use
  pub places : List RFunction → List SharingPlace
  pub raises : List ℕ
  pub declares : List ℕ
  pub tries : List ℕ
  pub lift : Lifts T

-- The uses of variables in the parts, in one list, in the order of the parts. `all_places`, `all_raises`, `all_declares` and `all_tries` are the same of the other lists of a part.
abbrev pub all_uses : {T : Type 0} → List RFunction → List (Part T) → List Use
all_uses fs [] = []
all_uses fs (p ∷ ps) = p.uses fs ++ all_uses fs ps

abbrev pub all_places : {T : Type 0} → List RFunction → List (Part T) → List SharingPlace
all_places fs [] = []
all_places fs (p ∷ ps) = p.places fs ++ all_places fs ps

abbrev pub all_raises : {T : Type 0} → List (Part T) → List ℕ
all_raises [] = []
all_raises (p ∷ ps) = p.raises ++ all_raises ps

abbrev pub all_declares : {T : Type 0} → List (Part T) → List ℕ
all_declares [] = []
all_declares (p ∷ ps) = p.declares ++ all_declares ps

abbrev pub all_tries : {T : Type 0} → List (Part T) → List ℕ
all_tries [] = []
all_tries (p ∷ ps) = p.tries ++ all_tries ps

-- the uses of variables in each of the parts, one list for each part
abbrev pub each_uses : {T : Type 0} → List RFunction → List (Part T) → List (List Use)
each_uses fs [] = []
each_uses fs (p ∷ ps) = p.uses fs ∷ each_uses fs ps
