-- The units of an accepted program use slots of their own: those of its functions, and those that are lifted out of them.
use Rattle.std.proofs.Common.{ℕ, zero, suc, ◌+◌, ◌≤◌, ◌≡◌, ◌∙◌, Bool, true, inl, inr, List, [], ◌∷◌, ◌++◌, Some, Ok, length, slice_get, refl, sym, ap, subst, arith, length-append, append_assoc}
use Rattle.std.proofs.lemmas.Bool.{cases_Bool, true≢false}
use Rattle.std.proofs.lemmas.Grind.{not_there}
use Rattle.std.proofs.lemmas.List.{length-map}
use Rattle.shim_syntax.specs.declared.tree.Program.{Program}
use Rattle.shim_scopes.specs.declared.form.Form.{Form as Resolved}
use Rattle.shim_scopes.specs.declared.tree.RCall.{RCall}
use Rattle.shim_scopes.specs.declared.tree.RFunction.{RFunction}
use Rattle.shim_scopes.specs.Functions.{bind_program}
use Rattle.shim_units.specs.declared.form.Form.{Form}
use Rattle.shim_units.specs.declared.unit.Unit.{Unit as UnitOf}
use Rattle.shim_units.specs.Lifting.{sort_of, is_among}
use Rattle.shim_process.specs.LocalState.{unit_or, unit_at}
use Rattle.shim_units.specs.PartFold.{declares_in}
use Rattle.shim_units.specs.OfText.{IsUnitsOfText, IsAcceptedForm}
use Rattle.shim_units.specs.Parts.{LiftContext}
use Rattle.shim_units.specs.Units.{upto, name_or_mark, function_slot_map, lift_function, lift_functions, lifted}
use Rattle.shim_laws_binding.specs.HandedOn.{HandsOn, calls_among}
use Rattle.shim_laws_binding.specs.Naming.{naming_of}
use Rattle.shim_laws_binding.proofs.Lists.{Each, each_of_both}
use Rattle.shim_laws_binding.proofs.NamedFunctions.{calls_hand_on_what_is_thrown}
use Rattle.shim_process.specs.OwnSlots.{all_fit, UsesOwnSlots}
use Rattle.shim_laws_sources.proofs.Lists.{each_weaker, each_by_two, each_of_all, at_length, at_first}
use Rattle.shim_laws_sources.proofs.Placing.{all_among, not_upto, own_place}
use Rattle.shim_laws_sources.proofs.Lifting.{StandFrom, stand_first, stand_from, IsGiven, FitsWell, IsOwn}
use Rattle.shim_laws_sources.proofs.LiftedFits.{body_fits}
use Rattle.shim_laws_sources.proofs.BoundSlots.{IsAfterParams, program_behind}
use Rattle.shim_units.proofs.Counting.{upto_length}

-- units that stand after others in a form stand from the number of these on
all_stand : (form : Form) (n : ℕ) (us vs : List UnitOf) → n ≡ length us → form.units ≡ us ++ vs → StandFrom form n vs
unfolding unit_at
all_stand form n us [] same e = tt
all_stand form n us (v ∷ vs) same e = (
  ap (λ k. unit_or (slice_get form.units k)) same ∙ ap (λ l. unit_or (slice_get l (length us))) e ∙ ap unit_or (at_length us v vs),
  all_stand form (n + 1) (us ++ v ∷ []) vs (omega (arith, same, length-append us (v ∷ []))) (e ∙ sym (append_assoc us (v ∷ []) vs)),
)

-- what fits of each unit fits of the unit of any number
fit_at : (form : Form) (us : List UnitOf) (n : ℕ) → Each (FitsWell form) us → FitsWell form (unit_or (slice_get us n))
fit_at form [] n h = refl
fit_at form (u ∷ us) zero h = h.0
fit_at form (u ∷ us) (suc n) h = fit_at form us n h.1

module _ (form : Form) (names : List (List ℕ)) (all : List RFunction) where
  abbrev context_of : ℕ → ℕ → RFunction → LiftContext
  context_of number next f = record { functions = all; function = f; number = number; name = name_or_mark names f.name; first = next }

  own_in_function : (number next : ℕ) (f : RFunction) → IsAfterParams f → Each (IsOwn form (lift_function names all number next f).own (function_slot_map f)) (declares_in f.body)
  own_in_function number next f behind =
      let u : UnitOf = (lift_function names all number next f).own in
      each_by_two (λ y. length f.params ≤ y) (λ y. is_among (declares_in f.body) y ≡ true) (IsOwn form u (function_slot_map f))
      (λ y from among. own_place u (upto (length f.params)) (declares_in f.body) y (sym (upto_length (length f.params)))
      (length-map (upto (length f.params) ++ declares_in f.body) (sort_of f)) (not_upto (length f.params) y from) among)
      (declares_in f.body) behind (all_among (declares_in f.body))

  abbrev AreGiven : RFunction → Type 0
  AreGiven f = Each (IsGiven form) (calls_among f.body)

  -- the units of some functions, and what is lifted out of them
  record FunctionsFit (number next : ℕ) (fs : List RFunction) : Type 0 where
    own : Each (FitsWell form) (lift_functions names all number next fs).own
    lifted : Each (FitsWell form) (lift_functions names all number next fs).lifted

  functions_fit : (number next : ℕ) (fs : List RFunction) → Each IsAfterParams fs → Each AreGiven fs → StandFrom form next (lift_functions names all number next fs).lifted → FunctionsFit number next fs
  functions_fit number next [] behind given stand = record { own = tt; lifted = tt }
  functions_fit number next (f ∷ fs) behind given stand =
      let r = lift_function names all number next f in
      let m : ℕ = next + length r.lifted in
      let rest = lift_functions names all (number + 1) m fs in
      let fit = body_fits form f.body in
      let here = stand_first form next r.lifted rest.lifted stand in
      let more = functions_fit (number + 1) m fs behind.1 given.1 (stand_from form next m r.lifted rest.lifted refl stand) in
      record {
        own = (fit.lifts.tree (context_of number next f) (function_slot_map f) next r.own (own_in_function number next f behind.0) given.0 here, more.own);
        lifted = each_of_both (FitsWell form) r.lifted rest.lifted (fit.lifts.units (context_of number next f) (function_slot_map f) next given.0 here) more.lifted;
      }

-- each function has a unit of its own, with its parameters, at its number

own_length : (names : List (List ℕ)) (all : List RFunction) (number next : ℕ) (fs : List RFunction) → length (lift_functions names all number next fs).own ≡ length fs
own_length names all number next [] = refl
own_length names all number next (f ∷ fs) =
    let next' : ℕ = next + length (lift_function names all number next f).lifted in
    ap suc (own_length names all (number + 1) next' fs)

record HasUnit (us : List UnitOf) (n : ℕ) (f : RFunction) : Type 0 where
  unit : UnitOf
  there : slice_get us n ≡ Some unit
  params : unit.params ≡ f.params

has_unit : (names : List (List ℕ)) (all : List RFunction) (number next : ℕ) (fs : List RFunction) (n : ℕ) (f : RFunction) → slice_get fs n ≡ Some f → HasUnit (lift_functions names all number next fs).own n f
has_unit names all number next [] n f e = absurd (cc e)
has_unit names all number next (g ∷ fs) zero f e =
    let same : g ≡ f = cc e in
    record { unit = (lift_function names all number next g).own; there = refl; params = ap (λ (h : RFunction). h.params) same }
has_unit names all number next (g ∷ fs) (suc n) f e =
    let next' : ℕ = next + length (lift_function names all number next g).lifted in
    let h = has_unit names all (number + 1) next' fs n f e in
    record { unit = h.unit; there = h.there; params = h.params }

call_given : (p : Resolved) (f : RFunction) (c : RCall) → HandsOn p (naming_of p f) c → IsGiven (lifted p) c
unfolding unit_at
call_given p f c h =
    let r = lift_functions p.names p.functions 0 (length p.functions) p.functions in
    let u = has_unit p.names p.functions 0 (length p.functions) p.functions c.function h.callee h.called in
    let at : slice_get (r.own ++ r.lifted) c.function ≡ Some u.unit = at_first r.own r.lifted c.function u.unit u.there in
    h.arguments ∙ sym (ap length u.params) ∙ sym (ap (λ o. length (unit_or o).params) at)

uses_at : (form : Form) (n : ℕ) → Each (FitsWell form) form.units → FitsWell form (unit_at form n)
unfolding unit_at
uses_at form n h = fit_at form form.units n h

-- those of what a program is bound to
pub lifted_use_own : (program : Program) (p : Resolved) → bind_program program ≡ Ok p → UsesOwnSlots (lifted p)
lifted_use_own program p bound n =
    let r = lift_functions p.names p.functions 0 (length p.functions) p.functions in
    let handed = each_of_all _ p.functions (calls_hand_on_what_is_thrown program p bound) in
    let given = each_weaker _ (AreGiven (lifted p) p.names p.functions) (λ f calls. each_weaker (HandsOn p (naming_of p f)) (IsGiven (lifted p)) (call_given p f) (calls_among f.body) (each_of_all (HandsOn p (naming_of p f)) (calls_among f.body) calls)) p.functions handed in
    let stand = all_stand (lifted p) (length p.functions) r.own r.lifted (sym (own_length p.names p.functions 0 (length p.functions) p.functions)) refl in
    let fit = functions_fit (lifted p) p.names p.functions 0 (length p.functions) p.functions (program_behind program p bound) given stand in
    uses_at (lifted p) n (each_of_both (FitsWell (lifted p)) r.own r.lifted fit.own fit.lifted)

-- what is truncated says whether a test passes
passes : {A : Type 0} (b : Bool) → ∥ A ∥₁ → (A → b ≡ true) → b ≡ true
passes b a so = elim (cases_Bool b) [ inl e ↦ e | inr e ↦ absurd (not_there a (λ x. true≢false (sym (so x) ∙ e))) ]

units_of_text : (form : Form) (k : IsUnitsOfText form) (n : ℕ) → all_fit form (unit_at form n) (unit_at form n).body ≡ true
units_of_text form k n = passes _ k.of_text (λ t. subst (λ (f : Form). all_fit f (unit_at f n) (unit_at f n).body ≡ true) k.meant (lifted_use_own t.program k.resolved t.meant n))

pub units_use_slots_of_their_own : (form : Form) → IsAcceptedForm form → UsesOwnSlots form
units_use_slots_of_their_own form k n = passes _ k.of_text (λ u. units_of_text form u n)
