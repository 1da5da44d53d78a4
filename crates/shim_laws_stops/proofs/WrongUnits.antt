-- Units and calls as wrong liftings would make them, and a frame with too few numbers: the definitions of the laws refuse each of them.
use Rattle.std.proofs.Common.{◌≡◌, ◌∙◌, ℕ, true, false, ◌&&◌, nat_eq, List, [], ◌∷◌, Some, None, slice_get, refl, sym, ap}
use Rattle.shim_base.specs.declared.types.Ty.TheVariants as ty
use Rattle.shim_syntax.specs.declared.tree.Sort.{Sort}
use Rattle.shim_syntax.specs.declared.tree.Sort.TheVariants.{Value, Output}
use Rattle.shim_scopes.specs.declared.tree.UExpr.TheVariants as to
use Rattle.shim_scopes.specs.declared.tree.UParam.{UParam}
use Rattle.shim_units.specs.declared.form.Form.{Form}
use Rattle.shim_units.specs.declared.unit.Unit.{Unit as UnitOf}
use Rattle.shim_units.specs.declared.unit.Arg.{Arg}
use Rattle.shim_units.specs.declared.unit.Arg.TheVariants.{Ref}
use Rattle.shim_units.specs.declared.unit.UBranch.{UBranch}
use Rattle.shim_units.specs.declared.unit.UCall.{UCall}
use Rattle.shim_units.specs.declared.unit.UWhat.TheVariants.{Next, Throw, While}
use Rattle.shim_process.specs.Locations.{Location, at_number}
use Rattle.shim_process.specs.LocalState.{LocalState, unit_at, number_of, location_of}
use Rattle.shim_laws_stops.specs.InForce.{hands_on, throws}
use Rattle.shim_laws_stops.specs.InScope.{has_input, have_numbers, reads_right, Scoped, scoped, argument_right, arguments_right, references, distinct, branches_apart, unit_scoped}
use Rattle.shim_laws_stops.specs.Named.{IsThere, HasItsLocation}
use Rattle.shim_laws_stops.proofs.ScopeReads.{variables_variable}
use Rattle.shim_laws_stops.proofs.ScopeSteps.{in_line, in_next, in_while}
use Rattle.shim_laws_stops.proofs.ThrowSteps.{throws_line, throws_throw}

abbrev param : Sort → UParam
param sort = record { sort = sort; by_ref = true; name = 0 }

-- the unit of the branch `next x;`, with these parameters, where the first slot is `x`
abbrev next_unit : List UParam → UnitOf
next_unit params = record {
  title = [];
  function = 0;
  params = params;
  slots = Value ty.Int32 ∷ [];
  slot_names = 0 ∷ [];
  throws = 0;
  tries = [];
  body = record { line = 1; what = Next 0 } ∷ [];
}

abbrev call : List Arg → List ℕ → UCall
call args throws = record { unit = 1; args = args; throws = throws }

abbrev branch : List Arg → UBranch
branch args = record { line = 1; call = call args [] }

module _ (program : Form) where
  -- with its parameter it is right
  pub with_parameter : unit_scoped program (next_unit (param (Value ty.Int32) ∷ [])) ≡ true
  with_parameter =
      ap (λ (z : Scoped). z.right (0 ∷ []) && true) (in_line program (next_unit (param (Value ty.Int32) ∷ [])) 1 (Next 0) ∙ in_next program (next_unit (param (Value ty.Int32) ∷ [])) 0)

  -- a branch's parameter left out
  pub without_parameter : unit_scoped program (next_unit []) ≡ false
  without_parameter = ap (λ (z : Scoped). z.right [] && true) (in_line program (next_unit []) 1 (Next 0) ∙ in_next program (next_unit []) 0)

  -- a parameter without its argument, and an argument without its parameter
  pub without_argument : (u : UnitOf) (xs : List ℕ) (p : UParam) → arguments_right u xs (p ∷ []) [] ≡ false
  without_argument u xs p = refl

  pub with_one_more : (u : UnitOf) (xs : List ℕ) (a : Arg) → arguments_right u xs [] (a ∷ []) ≡ false
  with_one_more u xs a = refl

  -- a slot taken twice, by one branch and by two
  pub taken_twice : distinct (references (Ref 0 ∷ Ref 0 ∷ [])) ≡ false
  taken_twice = refl

  pub taken_by_two : branches_apart (branch (Ref 0 ∷ []) ∷ branch (Ref 0 ∷ []) ∷ []) ≡ false
  taken_by_two = refl

  -- the output given for a number
  pub as_number : (u : UnitOf) (xs : List ℕ) → argument_right (record u { slots = Output ∷ [] }) (0 ∷ xs) (param (Value ty.Int32)) (Ref 0) ≡ false
  as_number u xs = refl

  -- a variable read that isn't in scope, in a test, and a stream read
  pub read_elsewhere : (u : UnitOf) → (scoped program u (record { line = 1; what = While (to.Var 0) [] })).right [] ≡ false
  read_elsewhere u = ap (λ (z : Scoped). z.right []) (in_line program u 1 (While (to.Var 0) []) ∙ in_while program u (to.Var 0) []) ∙ ap (λ ys. have_numbers u [] ys && true) (variables_variable 0)

  pub read_stream : (u : UnitOf) → reads_right (record u { slots = Output ∷ [] }) (0 ∷ []) (to.Var 0) ≡ false
  read_stream u = ap (have_numbers (record u { slots = Output ∷ [] }) (0 ∷ [])) (variables_variable 0)

  -- the output at a `get`
  pub got_from_output : (u : UnitOf) → has_input (record u { slots = Output ∷ [] }) (0 ∷ []) 0 ≡ false
  got_from_output u = refl

  -- an exception thrown that isn't in force: the unit is given one, which has number 0
  pub thrown_in_force : throws program (record { line = 1; what = Throw 0 None }) (0 ∷ []) ≡ true
  thrown_in_force = throws_line program 1 (Throw 0 None) (0 ∷ []) ∙ throws_throw program 0 None (0 ∷ [])

  pub thrown_elsewhere : throws program (record { line = 1; what = Throw 1 None }) (0 ∷ []) ≡ false
  thrown_elsewhere = throws_line program 1 (Throw 1 None) (0 ∷ []) ∙ throws_throw program 1 None (0 ∷ [])

  -- and one that is passed on under a number that isn't in force, or not at all
  pub passed_elsewhere : hands_on program (call [] (1 ∷ [])) (0 ∷ []) ≡ false
  passed_elsewhere = refl

  pub not_passed : (xs : List ℕ) → (unit_at program 1).throws ≡ 1 → hands_on program (call [] []) xs ≡ false
  not_passed xs e = ap (λ n. nat_eq 0 n) e

  -- under another number that is in force it isn't noticed: both are alike to the definition
  pub passed_as_another : hands_on program (call [] (0 ∷ [])) (1 ∷ 0 ∷ []) ≡ hands_on program (call [] (1 ∷ [])) (1 ∷ 0 ∷ [])
  passed_as_another = refl

-- a frame that has a number for its first slot alone: the look-up of the second slot finds location 0, which is the first one's, and yet the second has no location
pub found_by_default : (x : Location) → IsThere (location_of (Some x ∷ []) (0 ∷ []) 1)
unfolding number_of at_number
found_by_default x = (x, refl)

pub past_the_frame : (l : LocalState) → l.frame.slots ≡ 0 ∷ [] → HasItsLocation l 1 → ⊥
past_the_frame l slots h = cc (sym (ap (λ numbers. slice_get numbers 1) slots) ∙ h.1)
