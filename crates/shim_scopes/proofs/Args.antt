-- Arguments beside parameters.
use Rattle.std.proofs.Common.{◌≡◌, refl, List, [], ◌∷◌, None}
use Rattle.shim_syntax.specs.declared.tree.Param.{Param}
use Rattle.shim_scopes.specs.declared.scope.LocalDeclaration.{LocalDeclaration}
use Rattle.shim_scopes.specs.Calls.{wrong_in_all}

pub none_left : (around : List LocalDeclaration) (ps : List Param) → wrong_in_all around ps [] ≡ None
none_left around [] = refl
none_left around (p ∷ ps) = refl
