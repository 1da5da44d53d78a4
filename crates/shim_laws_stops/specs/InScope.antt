-- What binding gives the units of a program: each variable or stream that a statement names, in its expressions, too, is in scope and of the kind that is asked for. No call gives a slot by reference twice, no fork gives a slot by reference to two branches, and each fork has a branch.
use Rattle.std.specs.Prelude.{◌≡◌, ℕ, Bool, true, false, not, ◌&&◌, List, [], ◌∷◌, ◌++◌, Option, Some, None, length, map, slice_get}
use Rattle.shim_syntax.specs.declared.tree.Sort.{Sort}
use Rattle.shim_syntax.specs.declared.tree.Sort.TheVariants.{Value, Input, Output}
use Rattle.shim_scopes.specs.declared.tree.UExpr.{UExpr, UExpr-F, fold-UExpr}
use Rattle.shim_scopes.specs.declared.tree.UParam.{UParam}
use Rattle.shim_units.specs.declared.form.Form.{Form}
use Rattle.shim_units.specs.declared.unit.Unit.{Unit as UnitOf}
use Rattle.shim_units.specs.declared.unit.Arg.{Arg}
use Rattle.shim_units.specs.declared.unit.Arg.TheVariants.{Ref, Pass, Fresh}
use Rattle.shim_units.specs.declared.unit.UBranch.{UBranch}
use Rattle.shim_units.specs.declared.unit.UCall.{UCall}
use Rattle.shim_units.specs.declared.unit.UStmt.{UStmt, fold-UStmt}
use Rattle.shim_units.specs.declared.unit.UWhat.{UWhat-F}
use Rattle.shim_units.specs.Lifting.{is_among}
use Rattle.shim_units.specs.Own.{some_slot}
use Rattle.shim_units.specs.Units.{upto}
use Rattle.shim_process.specs.LocalState.{unit_at}

-- what a slot holds

-- a slot of the sort holds a number; `is_input_at` and `is_output_at` are the same of the input and of the output
abbrev pub is_number : Option Sort → Bool
is_number (Some (Value t)) = true
is_number (Some Input) = false
is_number (Some Output) = false
is_number None = false

abbrev pub is_input_at : Option Sort → Bool
is_input_at (Some (Value t)) = false
is_input_at (Some Input) = true
is_input_at (Some Output) = false
is_input_at None = false

abbrev pub is_output_at : Option Sort → Bool
is_output_at (Some (Value t)) = false
is_output_at (Some Input) = false
is_output_at (Some Output) = true
is_output_at None = false

-- a slot of the second sort holds what the first sort says: a number, the input or the output
abbrev pub same_kind : Sort → Option Sort → Bool
same_kind (Value t) o = is_number o
same_kind Input o = is_input_at o
same_kind Output o = is_output_at o

-- the slot is among these, and holds a number
abbrev pub has_number : UnitOf → List ℕ → ℕ → Bool
has_number u xs x = is_among xs x && is_number (slice_get u.slots x)

-- the same of a slot that holds the input; `has_output` of one that holds the output
abbrev pub has_input : UnitOf → List ℕ → ℕ → Bool
has_input u xs x = is_among xs x && is_input_at (slice_get u.slots x)

abbrev pub has_output : UnitOf → List ℕ → ℕ → Bool
has_output u xs x = is_among xs x && is_output_at (slice_get u.slots x)

-- expressions

-- the variables that an expression reads, from those of its parts
abbrev pub variables_step : UExpr-F (List ℕ) → List ℕ
variables_step (UExpr-F.Number n) = []
variables_step (UExpr-F.Var x) = x ∷ []
variables_step (UExpr-F.Unary op a) = a
variables_step (UExpr-F.Binary op a b) = a ++ b

-- the variables that the expression reads
unfoldable pub variables_read : UExpr → List ℕ
variables_read = fold-UExpr (List ℕ) variables_step

-- the variables that an expression reads, and none where there is no expression
abbrev pub variables_in_option : Option UExpr → List ℕ
variables_in_option None = []
variables_in_option (Some e) = variables_read e

-- each of the second list is among the first, and holds a number
abbrev pub have_numbers : UnitOf → List ℕ → List ℕ → Bool
have_numbers u xs [] = true
have_numbers u xs (y ∷ ys) = has_number u xs y && have_numbers u xs ys

-- each variable that the expression reads is in scope and holds a number
abbrev pub reads_right : UnitOf → List ℕ → UExpr → Bool
reads_right u xs e = have_numbers u xs (variables_read e)

-- the same of an expression that may be absent
abbrev pub option_right : UnitOf → List ℕ → Option UExpr → Bool
option_right u xs e = have_numbers u xs (variables_in_option e)

-- arguments

-- what the argument names is among these slots, and the argument is of its parameter's kind
abbrev pub argument_right : UnitOf → List ℕ → UParam → Arg → Bool
argument_right u xs p (Ref x) = is_among xs x && same_kind p.sort (slice_get u.slots x)
argument_right u xs p (Pass x) = is_number (Some p.sort) && has_number u xs x
argument_right u xs p (Fresh e) = is_number (Some p.sort) && reads_right u xs e

-- there is an argument for each parameter, and each is right
abbrev pub arguments_right : UnitOf → List ℕ → List UParam → List Arg → Bool
arguments_right u xs [] [] = true
arguments_right u xs [] (a ∷ rest) = false
arguments_right u xs (p ∷ ps) [] = false
arguments_right u xs (p ∷ ps) (a ∷ rest) = argument_right u xs p a && arguments_right u xs ps rest

-- the slots that arguments give by reference
abbrev pub references : List Arg → List ℕ
references [] = []
references (Ref x ∷ rest) = x ∷ references rest
references (Pass x ∷ rest) = references rest
references (Fresh e ∷ rest) = references rest

-- no number is in the list twice
abbrev pub distinct : List ℕ → Bool
distinct [] = true
distinct (x ∷ xs) = not (is_among xs x) && distinct xs

-- an argument for each parameter, of its kind and in scope, and none given by reference twice
abbrev pub call_right : Form → UnitOf → List ℕ → UCall → Bool
call_right program u xs c = arguments_right u xs (unit_at program c.unit).params c.args && distinct (references c.args)

-- the call of each branch is right
abbrev pub all_calls_right : Form → UnitOf → List ℕ → List UBranch → Bool
all_calls_right program u xs [] = true
all_calls_right program u xs (b ∷ branches) = call_right program u xs b.call && all_calls_right program u xs branches

-- none of the second list is one of the first
abbrev pub are_apart : List ℕ → List ℕ → Bool
are_apart xs [] = true
are_apart xs (y ∷ ys) = not (is_among xs y) && are_apart xs ys

-- none of the slots is given by reference to one of the branches
abbrev pub apart_from_all : List ℕ → List UBranch → Bool
apart_from_all xs [] = true
apart_from_all xs (b ∷ branches) = are_apart xs (references b.call.args) && apart_from_all xs branches

-- no slot is given by reference to two branches
abbrev pub branches_apart : List UBranch → Bool
branches_apart [] = true
branches_apart (b ∷ branches) = apart_from_all (references b.call.args) branches && branches_apart branches

-- there is a branch
abbrev pub are_some : List UBranch → Bool
are_some [] = false
are_some (b ∷ branches) = true

-- statements

-- whether something is right where these slots are in scope, and the slots that it puts into the scope of what follows it
pub record Scoped : Type 0 where
  pub right : List ℕ → Bool
  pub declares : List ℕ

-- each of them is right where these slots are in scope, with those that the earlier ones declare
abbrev pub all_right : List Scoped → List ℕ → Bool
all_right [] xs = true
all_right (c ∷ cs) xs = c.right xs && all_right cs (c.declares ++ xs)

abbrev pub all_declare : List Scoped → List ℕ
all_declare [] = []
all_declare (c ∷ cs) = c.declares ++ all_declare cs

-- what declares nothing, and is right by the function of the slots in scope
abbrev pub declares_none : (List ℕ → Bool) → Scoped
declares_none right = record { right = right; declares = [] }

-- whether a statement is right, and what it declares, from the same of the statements in it
abbrev pub what_scoped : Form → UnitOf → UWhat-F Scoped Scoped → Scoped
what_scoped program u (UWhat-F.Declare t x e) = record { right = λ xs. option_right u xs e; declares = x ∷ [] }
what_scoped program u (UWhat-F.Assign x e) = declares_none (λ xs. has_number u xs x && reads_right u xs e)
what_scoped program u (UWhat-F.Next x) = declares_none (λ xs. has_number u xs x)
what_scoped program u (UWhat-F.NextAssign x e) = declares_none (λ xs. has_number u xs x && reads_right u xs e)
what_scoped program u (UWhat-F.AssignNext x y) = declares_none (λ xs. has_number u xs x && has_number u xs y)
what_scoped program u (UWhat-F.Get x i) = declares_none (λ xs. has_number u xs x && has_input u xs i)
what_scoped program u (UWhat-F.Put o e) = declares_none (λ xs. has_output u xs o && reads_right u xs e)
what_scoped program u (UWhat-F.If e first second) = declares_none (λ xs. reads_right u xs e && (all_right first xs && all_right second xs))
what_scoped program u (UWhat-F.While e body) = declares_none (λ xs. reads_right u xs e && all_right body xs)
what_scoped program u (UWhat-F.For first test step body) =
    declares_none (λ xs. all_right first xs && (option_right u (all_declare first ++ xs) test && (all_right step (all_declare first ++ xs) && all_right body (all_declare first ++ xs))))
what_scoped program u (UWhat-F.Block body) = declares_none (λ xs. all_right body xs)
what_scoped program u (UWhat-F.Call c) = declares_none (λ xs. call_right program u xs c)
what_scoped program u (UWhat-F.Try body x y handler) = declares_none (λ xs. all_right body xs && all_right handler (some_slot y ++ xs))
what_scoped program u (UWhat-F.Throw x e) = declares_none (λ xs. option_right u xs e)
what_scoped program u (UWhat-F.Par branches) = declares_none (λ xs. are_some branches && (branches_apart branches && all_calls_right program u xs branches))

-- whether a statement of the unit is right, and what it declares
abbrev pub scoped : Form → UnitOf → UStmt → Scoped
scoped program u = fold-UStmt Scoped Scoped (what_scoped program u) (λ s. s.what)

-- each of the statements of the unit is right where these slots are in scope before the first
abbrev pub all_scoped : Form → UnitOf → List UStmt → List ℕ → Bool
all_scoped program u ss = all_right (map (scoped program u) ss)

-- units

abbrev pub all_numbers : List Sort → Bool
all_numbers [] = true
all_numbers (s ∷ ss) = is_number (Some s) && all_numbers ss

-- the first slots hold what the parameters say, and those after them numbers
abbrev pub slots_right : List UParam → List Sort → Bool
slots_right [] ss = all_numbers ss
slots_right (p ∷ ps) [] = false
slots_right (p ∷ ps) (s ∷ ss) = same_kind p.sort (Some s) && slots_right ps ss

-- The slots of the unit hold what `slots_right` asks for. Its statements are right where its parameters are in scope.
abbrev pub unit_scoped : Form → UnitOf → Bool
unit_scoped program u = slots_right u.params u.slots && all_scoped program u u.body (upto (length u.params))

-- each unit of the program is right where its parameters are in scope
abbrev pub AllInScope : Form → Type 0
AllInScope program = (n : ℕ) → unit_scoped program (unit_at program n) ≡ true
