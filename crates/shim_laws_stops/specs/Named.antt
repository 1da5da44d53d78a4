-- That the variables at which a process waits, those that it reads or stores in and those that it hands on have locations, and that a fork has a branch.
use Rattle.std.specs.Prelude.{◌≡◌, ℕ, true, List, [], ◌∷◌, ◌++◌, Option, Some, slice_get}
use Rattle.shim_semantics.specs.Nodes.{Live}
use Rattle.shim_semantics.specs.Places.{at}
use Rattle.shim_semantics.specs.Trees.{Tree}
use Rattle.shim_scopes.specs.declared.tree.UExpr.{UExpr}
use Rattle.shim_scopes.specs.declared.tree.UParam.{UParam}
use Rattle.shim_units.specs.declared.unit.Arg.{Arg}
use Rattle.shim_units.specs.declared.unit.Arg.TheVariants.{Ref, Pass, Fresh}
use Rattle.shim_units.specs.declared.unit.UBranch.{UBranch}
use Rattle.shim_units.specs.declared.unit.UCall.{UCall}
use Rattle.shim_units.specs.declared.unit.UStmt.{UStmt}
use Rattle.shim_units.specs.declared.unit.UWhat.{UWhat, UWhat-F, out-UWhat}
use Rattle.shim_units.specs.Lifting.{is_among}
use Rattle.shim_process.specs.Locations.{Location, at_number}
use Rattle.shim_process.specs.Todo.{next_stmt}
use Rattle.shim_process.specs.LocalState.{LocalState, unit_at}
use Rattle.shim_laws_stops.specs.InScope.{is_number, variables_read, variables_in_option}

-- there is a location
abbrev pub IsThere : Option Location → Type 0
IsThere o = (x : Location) × (o ≡ Some x)

-- the statement that is next for the process does this
abbrev pub IsAtStmt : LocalState → UWhat-F UWhat UStmt → Type 0
IsAtStmt l w = (s : UStmt) × (next_stmt l.frame.todo ≡ Some s) × (out-UWhat s.what ≡ w)

-- the variable of this slot has a location: the frame in which the process is has a number for the slot, and the location of that number is there
abbrev pub HasItsLocation : LocalState → ℕ → Type 0
HasItsLocation l x = (n : ℕ) × (slice_get l.frame.slots x ≡ Some n) × IsThere (at_number l.locations n)

-- a live process of the tree
abbrev pub IsLiveIn : Tree LocalState → LocalState → Type 0
IsLiveIn t l = (q : List ℕ) × (at q t.root ≡ Some (Live l))

-- `next x;`, `next x = e;` and `y = next x;`
pub data IsNextOf (x : ℕ) : UWhat-F UWhat UStmt → Type 0 where
  next : IsNextOf x (UWhat-F.Next x)
  next_assign : (e : UExpr) → IsNextOf x (UWhat-F.NextAssign x e)
  assign_next : (y : ℕ) → IsNextOf x (UWhat-F.AssignNext y x)

-- the variable of each `next` at which a live process stands has a location
abbrev pub NextsHaveLocations : Tree LocalState → Type 0
NextsHaveLocations t = (l : LocalState) (w : UWhat-F UWhat UStmt) (x : ℕ) → IsLiveIn t l → IsAtStmt l w → IsNextOf x w → HasItsLocation l x

-- the variables whose values arguments take: those of their expressions, and each that is given as a copy
abbrev pub arguments_read : List Arg → List ℕ
arguments_read [] = []
arguments_read (Ref x ∷ rest) = arguments_read rest
arguments_read (Pass x ∷ rest) = x ∷ arguments_read rest
arguments_read (Fresh e ∷ rest) = variables_read e ++ arguments_read rest

-- the variables whose values the arguments of the branches take
abbrev pub branches_read : List UBranch → List ℕ
branches_read [] = []
branches_read (b ∷ branches) = arguments_read b.call.args ++ branches_read branches

-- The variables that a process which stands at this statement may read or store in; at a loop it stands at the test. What a declaration declares isn't among them.
abbrev pub variables_at : UWhat-F UWhat UStmt → List ℕ
variables_at (UWhat-F.Declare t x e) = variables_in_option e
variables_at (UWhat-F.Assign x e) = x ∷ variables_read e
variables_at (UWhat-F.Next x) = x ∷ []
variables_at (UWhat-F.NextAssign x e) = x ∷ variables_read e
variables_at (UWhat-F.AssignNext x y) = x ∷ y ∷ []
variables_at (UWhat-F.Get x i) = x ∷ []
variables_at (UWhat-F.Put o e) = variables_read e
variables_at (UWhat-F.If e first second) = variables_read e
variables_at (UWhat-F.While e body) = variables_read e
variables_at (UWhat-F.For first test step body) = variables_in_option test
variables_at (UWhat-F.Call c) = arguments_read c.args
variables_at (UWhat-F.Throw x e) = variables_in_option e
variables_at (UWhat-F.Par branches) = branches_read branches
variables_at _ = []

-- each variable that is read or stored in at the statement at which a live process stands has a location
abbrev pub VariablesHaveLocations : Tree LocalState → Type 0
VariablesHaveLocations t = (l : LocalState) (w : UWhat-F UWhat UStmt) (x : ℕ) → IsLiveIn t l → IsAtStmt l w → is_among (variables_at w) x ≡ true → HasItsLocation l x

-- each fork at which a live process stands has a branch
abbrev pub ForksHaveBranches : Tree LocalState → Type 0
ForksHaveBranches t = (l : LocalState) (branches : List UBranch) → IsLiveIn t l → IsAtStmt l (UWhat-F.Par branches) → branches ≡ [] → ⊥

-- A variable that is given by reference has its location, where its parameter is a number. A variable that is given as a copy has its location. Of an expression nothing is asked.
abbrev pub ArgumentHasLocation : LocalState → UParam → Arg → Type 0
ArgumentHasLocation l p (Ref x) = is_number (Some p.sort) ≡ true → HasItsLocation l x
ArgumentHasLocation l p (Pass x) = HasItsLocation l x
ArgumentHasLocation l p (Fresh e) = Unit {0}

-- there is one argument for each parameter, and each argument has its location (`ArgumentHasLocation`)
abbrev pub AllHaveLocations : LocalState → List UParam → List Arg → Type 0
AllHaveLocations l [] [] = Unit {0}
AllHaveLocations l [] (a ∷ rest) = ⊥
AllHaveLocations l (p ∷ ps) [] = ⊥
AllHaveLocations l (p ∷ ps) (a ∷ rest) = ArgumentHasLocation l p a × AllHaveLocations l ps rest

-- the arguments of the call have their locations, and there is one for each parameter
abbrev pub CallHasLocations : LocalState → UCall → Type 0
CallHasLocations l c = AllHaveLocations l (unit_at l.program c.unit).params c.args

-- the same of the call of each branch
abbrev pub BranchesHaveLocations : LocalState → List UBranch → Type 0
BranchesHaveLocations l [] = Unit {0}
BranchesHaveLocations l (b ∷ branches) = CallHasLocations l b.call × BranchesHaveLocations l branches

-- The arguments of each branch of a fork at which a live process stands have their locations (`ArgumentHasLocation`), one for each parameter. So have those of a call.
pub record ArgumentsHaveLocations (t : Tree LocalState) : Type 0 where
  pub forks : (l : LocalState) (branches : List UBranch) → IsLiveIn t l → IsAtStmt l (UWhat-F.Par branches) → BranchesHaveLocations l branches
  pub calls : (l : LocalState) (c : UCall) → IsLiveIn t l → IsAtStmt l (UWhat-F.Call c) → CallHasLocations l c
