-- The innermost of the things around a place that have a name.
use Rattle.std.specs.Prelude.{◌≡◌, ◌≢◌, ℕ, List, [], ◌∷◌, ◌++◌}
use Rattle.shim_scopes.specs.declared.scope.LocalDeclaration.{LocalDeclaration}
use Rattle.shim_scopes.specs.declared.scope.Handled.{Handled}

-- none of these has the name
abbrev pub HasNone : {T : Type 0} → (T → List ℕ) → List ℕ → List T → Type 0
HasNone name x [] = Unit {0}
HasNone name x (t ∷ ts) = (name t ≢ x) × HasNone name x ts

-- Of what is `around`, the outermost first, `at` has the name `x`, and none further in has that name.
pub record IsInnermost {T : Type 0} (name : T → List ℕ) (x : List ℕ) (around : List T) (at : T) : Type 0 where
  pub outer : List T
  pub inner : List T
  pub whole : around ≡ outer ++ at ∷ inner
  pub named : name at ≡ x
  pub none : HasNone name x inner

abbrev pub exception_name : Handled → List ℕ
exception_name h = h.name

-- the innermost exception that has the name has this number
abbrev pub IsNumberOfInnermost : List ℕ → List Handled → ℕ → Type 0
IsNumberOfInnermost x around number = (at : Handled) × IsInnermost exception_name x around at × (at.number ≡ number)

abbrev pub local_name : LocalDeclaration → List ℕ
local_name l = l.name

-- the innermost declaration that has the name has this slot
abbrev pub IsSlotOfInnermost : List ℕ → List LocalDeclaration → ℕ → Type 0
IsSlotOfInnermost x around slot = (at : LocalDeclaration) × IsInnermost local_name x around at × (at.bound.slot ≡ slot)
