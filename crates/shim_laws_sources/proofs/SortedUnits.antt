-- In the units of an accepted program each declaration has its sort: in those of its functions, and in those that are lifted out of them.
use Rattle.std.proofs.Common.{ℕ, zero, suc, ◌+◌, List, [], ◌∷◌, ◌++◌, length, Some, None, slice_get, refl, subst}
use Rattle.std.proofs.Math.Logic.{∥∥₁_elim}
use Rattle.std.specs.Coded.{Coded-set, coded_option}
use Rattle.shim_syntax.specs.contracts.tree.Sort as sort
use Rattle.shim_syntax.specs.declared.tree.Sort.{Sort}
use Rattle.shim_scopes.specs.declared.form.Form.{Form as Resolved}
use Rattle.shim_scopes.specs.declared.tree.RFunction.{RFunction}
use Rattle.shim_scopes.specs.Resolving.{IsFormOfText}
use Rattle.shim_units.specs.declared.form.Form.{Form}
use Rattle.shim_units.specs.declared.unit.Unit.{Unit as UnitOf}
use Rattle.shim_units.specs.declared.unit.UStmt.{UStmt}
use Rattle.shim_units.specs.declared.unit.UWhat.{UWhat, UWhat-F}
use Rattle.shim_units.specs.OfText.{IsUnitsOfText, IsAcceptedForm}
use Rattle.shim_units.specs.Parts.{LiftContext}
use Rattle.shim_units.specs.PartFold.{declares_in}
use Rattle.shim_units.specs.Units.{upto, name_or_mark, function_slot_map, lift_function, lift_functions, lifted}
use Rattle.shim_process.specs.LocalState.{unit_or, unit_at}
use Rattle.shim_laws_binding.proofs.Lists.{Each, each_of_both}
use Rattle.shim_laws_sources.specs.DeclaredSorts.{HasItsSort, HasDeclaredSorts}
use Rattle.shim_laws_sources.proofs.SortedStmts.{UnitIsSorted, none_sorted}
use Rattle.shim_laws_sources.proofs.SortedParts.{second_among}
use Rattle.shim_laws_sources.proofs.SortedBodies.{FunctionSorted, program_sorted}

-- what is so of each unit is so of the unit of any number
sorted_at : (us : List UnitOf) (n : ℕ) → Each UnitIsSorted us → UnitIsSorted (unit_or (slice_get us n))
sorted_at [] n h = none_sorted []
sorted_at (u ∷ us) zero h = h.0
sorted_at (u ∷ us) (suc n) h = sorted_at us n h.1

-- the units of some functions, and what is lifted out of them
record FunctionsSorted (names : List (List ℕ)) (all : List RFunction) (number next : ℕ) (fs : List RFunction) : Type 0 where
  own : Each UnitIsSorted (lift_functions names all number next fs).own
  lifted : Each UnitIsSorted (lift_functions names all number next fs).lifted

functions_sorted : (names : List (List ℕ)) (all : List RFunction) (number next : ℕ) (fs : List RFunction) → Each FunctionSorted fs → FunctionsSorted names all number next fs
functions_sorted names all number next [] h = record { own = tt; lifted = tt }
functions_sorted names all number next (f ∷ fs) h =
    let context : LiftContext = record { functions = all; function = f; number = number; name = name_or_mark names f.name; first = next } in
    let r = lift_function names all number next f in
    let m : ℕ = next + length r.lifted in
    let rest = lift_functions names all (number + 1) m fs in
    let more = functions_sorted names all (number + 1) m fs h.1 in
    record {
      own = (h.0.tree context (function_slot_map f) next refl (second_among (upto (length f.params)) (declares_in f.body)), more.own);
      lifted = each_of_both UnitIsSorted r.lifted rest.lifted (h.0.units context (function_slot_map f) next refl) more.lifted;
    }

lifted_sorted : (p : Resolved) → IsFormOfText p → HasDeclaredSorts (lifted p)
unfolding unit_at
lifted_sorted p t n =
    let r = lift_functions p.names p.functions 0 (length p.functions) p.functions in
    let sorted = functions_sorted p.names p.functions 0 (length p.functions) p.functions (program_sorted t.program p t.meant) in
    sorted_at (r.own ++ r.lifted) n (each_of_both UnitIsSorted r.own r.lifted sorted.own sorted.lifted)

-- it is a proposition, so it follows from what is truncated
sort_prop : (slots : List Sort) (x : UWhat-F UWhat UStmt) → IsProp (HasItsSort slots x)
sort_prop slots (UWhat-F.Declare t x e) = Coded-set (coded_option sort.the_row.coded) _ _
sort_prop slots (UWhat-F.Try body x (Some y) handler) = Coded-set (coded_option sort.the_row.coded) _ _
sort_prop slots (UWhat-F.Try body x None handler) = hlevel
sort_prop slots _ = hlevel

units_of_text : (form : Form) → IsUnitsOfText form → HasDeclaredSorts form
units_of_text form k n s i = ∥∥₁_elim k.of_text (sort_prop _ _) (λ t. subst HasDeclaredSorts k.meant (lifted_sorted k.resolved t) n s i)

pub declared_slots_have_their_sorts : (form : Form) → IsAcceptedForm form → HasDeclaredSorts form
declared_slots_have_their_sorts form k n s i = ∥∥₁_elim k.of_text (sort_prop _ _) (λ u. units_of_text form u n s i)
