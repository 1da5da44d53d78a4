-- The units of a program that has a text are few and small.
use Rattle.std.proofs.Common.{ℕ, zero, suc, ◌+◌, ◌*◌, ◌^◌, ◌≡◌, ◌≤◌, ◌<◌, inl, inr, List, [], ◌∷◌, Option, Some, None, Ok, length, slice_get, subst, arith, length-append}
use Rattle.std.proofs.lemmas.Bool.{cases_lt}
use Rattle.std.proofs.lemmas.Grind.{not_there}
use Rattle.shim_scopes.specs.declared.tree.RFunction.{RFunction}
use Rattle.shim_scopes.specs.declared.form.Form.{Form as Resolved}
use Rattle.shim_scopes.specs.Resolving.{IsFormOfText}
use Rattle.shim_syntax.proofs.ByteSizes.{size_is_bounded}
use Rattle.shim_sharing.specs.declared.fault.ShareFault.{ShareFault}
use Rattle.shim_units.specs.declared.form.Form.{Form}
use Rattle.shim_units.specs.declared.unit.Unit.{Unit as UnitOf}
use Rattle.shim_units.specs.OfText.{IsUnitsOfText, IsAcceptedForm}
use Rattle.shim_sharing.specs.Accepting.{unless_refused, accepted}
use Rattle.shim_units.specs.PartFold.{declares_in}
use Rattle.shim_units.specs.Parts.{LiftContext}
use Rattle.shim_units.specs.Sizes.{extent, function_size, functions_size, unit_size, units_size, units_points, AreSmall, AreFit}
use Rattle.shim_sharing.specs.Refusals.{refusal}
use Rattle.shim_units.specs.Units.{upto, name_or_mark, throws_of, function_slot_map, lift_function, lift_functions, lifted}
use Rattle.shim_sharing.proofs.TextLocals.{program_read}
use Rattle.shim_sharing.proofs.BoundSizes.{HasFewSlots, HaveFewSlots, program_within}
use Rattle.shim_sharing.specs.Room.{FunctionsHaveRoom}
use Rattle.shim_sharing.proofs.FunctionSizes.{function_points}
use Rattle.shim_sharing.proofs.LiftedSizes.{body_within, joined_sizes, joined_points}
use Rattle.shim_units.proofs.Counting.{upto_length}

module _ (names : List (List ℕ)) (all : List RFunction) where
  abbrev context_of : ℕ → ℕ → RFunction → LiftContext
  context_of number next f = record { functions = all; function = f; number = number; name = name_or_mark names f.name; first = next }

  slots_within : (f : RFunction) → HasFewSlots f → length (function_slot_map f).slots + (extent f.body).forked ≤ 96
  slots_within f few = omega (arith, few, upto_length (length f.params), length-append (upto (length f.params)) (declares_in f.body), (body_within f.body).declares)

  function_sizes : (number next : ℕ) (f : RFunction) → HasFewSlots f
      → unit_size (lift_function names all number next f).own + units_size (lift_function names all number next f).lifted ≤ 194 * function_size f
  function_sizes number next f few =
      omega (arith, (body_within f.body).lifts.size (context_of number next f) (function_slot_map f) next (slots_within f few))

  functions_points : (number next : ℕ) (fs : List RFunction)
      → units_points (lift_functions names all number next fs).own + units_points (lift_functions names all number next fs).lifted
      + (length (lift_functions names all number next fs).own + length (lift_functions names all number next fs).lifted) ≤ functions_size fs
  functions_points number next [] = omega arith
  functions_points number next (f ∷ fs) =
      let r = lift_function names all number next f in
      let rest = lift_functions names all (number + 1) (next + length r.lifted) fs in
      omega (arith, function_points names all number next f, functions_points (number + 1) (next + length r.lifted) fs, joined_points r.lifted rest.lifted, length-append r.lifted rest.lifted)

  functions_sizes : (number next : ℕ) (fs : List RFunction) → HaveFewSlots fs
      → units_size (lift_functions names all number next fs).own + units_size (lift_functions names all number next fs).lifted ≤ 194 * functions_size fs
  functions_sizes number next [] few = omega arith
  functions_sizes number next (f ∷ fs) few =
      let r = lift_function names all number next f in
      let rest = lift_functions names all (number + 1) (next + length r.lifted) fs in
      omega (arith, function_sizes number next f few.0, functions_sizes (number + 1) (next + length r.lifted) fs few.1, joined_sizes r.lifted rest.lifted)

pub functions_within_text : (p : Resolved) → IsFormOfText p → functions_size p.functions ≤ 1048577
functions_within_text p h = omega (arith, (program_within h.program p h.meant).size, size_is_bounded h.program h.has)

pub lifted_small : (p : Resolved) → IsFormOfText p → AreSmall (lifted p).units
lifted_small p h =
    let smaller = program_within h.program p h.meant in
    let few : HaveFewSlots p.functions = smaller.slots (program_read h.has.text.derives) in
    let r = lift_functions p.names p.functions 0 (length p.functions) p.functions in
    let points = functions_points p.names p.functions 0 (length p.functions) p.functions in
    let sizes = functions_sizes p.names p.functions 0 (length p.functions) p.functions few in
    let most : functions_size p.functions ≤ 1048577 = functions_within_text p h in
    record {
      count = omega (arith, most, points, length-append r.own r.lifted);
      points = omega (arith, most, points, joined_points r.own r.lifted);
      size = omega (arith, most, sizes, joined_sizes r.own r.lifted);
    }

pub its_form : (o : Option ShareFault) (made form : Form) → unless_refused o made ≡ Ok form → made ≡ form
its_form None made form h = cc
its_form (Some fault) made form h = absurd (cc)

pub accepted_small : (p : Resolved) (form : Form) → IsFormOfText p → accepted p ≡ Ok form → AreSmall form.units
accepted_small p form h is = subst (λ (f : Form). AreSmall f.units) (its_form (refusal p) (lifted p) form is) (lifted_small p h)

-- what is truncated says which of two numbers is the lesser
pub below : {A : Type 0} (m n : ℕ) → ∥ A ∥₁ → (A → m < n) → m < n
below m n a so = elim (cases_lt m n) [ inl less ↦ less | inr not_less ↦ absurd (not_there a (λ x. omega (arith, so x))) ]

small : {A : Type 0} (us : List UnitOf) → ∥ A ∥₁ → (A → AreSmall us) → AreSmall us
small us a so = record {
  count = below _ _ a (λ x. (so x).count);
  points = below _ _ a (λ x. (so x).points);
  size = below _ _ a (λ x. (so x).size);
}

-- the units that are kept
kept_small : (form : Form) → ∥ IsUnitsOfText form ∥₁ → AreSmall form.units
kept_small form h = small form.units h (λ (k : IsUnitsOfText form). small form.units k.of_text (λ t. subst (λ (f : Form). AreSmall f.units) k.meant (lifted_small k.resolved t)))

fit_within : (us : List UnitOf) → units_points us < 2 ^ 31 → AreFit us
fit_within [] h = tt
fit_within (u ∷ us) h = (omega (arith, h), fit_within us (omega (arith, h)))

kept_fit : (form : Form) → ∥ IsUnitsOfText form ∥₁ → AreFit form.units
kept_fit form h = fit_within form.units (omega (arith, (kept_small form h).points))

throws_within : (fs : List RFunction) (n : ℕ) → length (throws_of (slice_get fs n)) ≤ functions_size fs
throws_within [] n = omega arith
throws_within (f ∷ fs) zero = omega arith
throws_within (f ∷ fs) (suc n) = omega (arith, throws_within fs n)

lifted_throws : (p : Resolved) → IsFormOfText p → length (lifted p).main_throws < 2 ^ 21
lifted_throws p h = omega (arith, throws_within p.functions p.main, functions_within_text p h)

kept_throws : (form : Form) → ∥ IsUnitsOfText form ∥₁ → length form.main_throws < 2 ^ 21
kept_throws form h = below _ _ h (λ (k : IsUnitsOfText form). below _ _ k.of_text (λ t. subst (λ (f : Form). length f.main_throws < 2 ^ 21) k.meant (lifted_throws k.resolved t)))

pub kept : (form : Form) → ∥ IsUnitsOfText form ∥₁ → IsAcceptedForm form
kept form h = record { of_text = h; fit = kept_fit form h; few = kept_throws form h }

-- the numbers that lifting takes

functions_counted : (fs : List RFunction) → length fs ≤ functions_size fs
functions_counted [] = omega arith
functions_counted (f ∷ fs) = omega (arith, functions_counted fs)

pub program_has_room : (p : Resolved) → ∥ IsFormOfText p ∥₁ → FunctionsHaveRoom (length p.functions) p.functions
program_has_room p h = record { fits = below _ _ h (λ (t : IsFormOfText p). omega (arith, functions_within_text p t, functions_counted p.functions)) }

pub functions_have_room : (n : ℕ) (fs : List RFunction) → FunctionsHaveRoom n fs → FunctionsHaveRoom 0 fs
functions_have_room n fs h = record { fits = omega (arith, h.fits) }
