-- The innermost of the declarations around a place that have a name.
use Rattle.std.specs.Prelude.{◌≡◌, ◌≢◌, ℕ, List, [], ◌∷◌, ◌++◌}
use Rattle.shim_scopes.specs.declared.scope.Bound.{Bound}
use Rattle.shim_scopes.specs.declared.scope.LocalDeclaration.{LocalDeclaration}

-- none of these declarations has the name
abbrev pub HasNone : List ℕ → List LocalDeclaration → Type 0
HasNone x [] = Unit {0}
HasNone x (l ∷ ls) = (l.name ≢ x) × HasNone x ls

-- Of the declarations `around`, the outermost first, `at` has the name `x` and the slot and sort of `b`. No declaration further in has the name.
pub record IsInnermost (x : List ℕ) (around : List LocalDeclaration) (b : Bound) : Type 0 where
  pub outer : List LocalDeclaration
  pub at : LocalDeclaration
  pub inner : List LocalDeclaration
  pub whole : around ≡ outer ++ at ∷ inner
  pub named : at.name ≡ x
  pub bound : at.bound ≡ b
  pub none : HasNone x inner
