-- `main` takes streams alone, and each once.
use Rattle.std.proofs.Common.{ℕ, zero, suc, ◌≡◌, ◌∙◌, Bool, true, false, not, ◌&&◌, ◌||◌, List, [], ◌∷◌, ◌++◌, Some, None, Ok, length, map, slice_get, refl, ap, subst}
use Rattle.std.specs.Prelude.{codes}
use Rattle.std.specs.Str.{bytes_eq}
use Rattle.std.proofs.lemmas.Slice.Eq.{bytes_eq-Decides}
use Rattle.shim_syntax.specs.declared.tree.Function.{Function}
use Rattle.shim_syntax.specs.declared.tree.Param.{Param}
use Rattle.shim_syntax.specs.declared.tree.Sort.{Sort}
use Rattle.shim_syntax.specs.declared.tree.Sort.TheVariants.{Value, Input, Output}
use Rattle.shim_syntax.specs.Names.{Texts, name_index, param_names}
use Rattle.shim_scopes.specs.declared.fault.ScopeKind.TheVariants.{Twice, MainParameters}
use Rattle.shim_scopes.specs.declared.form.Form.{Form as Resolved}
use Rattle.shim_scopes.specs.declared.tree.RFunction.{RFunction}
use Rattle.shim_scopes.specs.declared.tree.UParam.{UParam}
use Rattle.shim_scopes.specs.Functions.{suits_main, wrong_main, name_in, twice_after, bind_function, bind_functions}
use Rattle.shim_scopes.specs.Resolving.{IsFormOfText}
use Rattle.shim_scopes.specs.Statements.{Whole}
use Rattle.shim_units.specs.declared.form.Form.{Form}
use Rattle.shim_units.specs.OfText.{IsUnitsOfText, IsAcceptedForm}
use Rattle.shim_units.specs.Units.{lift_functions, lifted}
use Rattle.shim_process.specs.LocalState.{unit_or, unit_at}
use Rattle.shim_laws_binding.proofs.Bound.{asked}
use Rattle.shim_laws_binding.proofs.Lists.{Each}
use Rattle.shim_laws_binding.proofs.ScopeFunctions.{names_mean_the_innermost}
use Rattle.shim_laws_binding.proofs.TextOrderLemmas.{whole_of, is_form, slots_are_in_text_order}
use Rattle.shim_laws_sources.proofs.Lists.{at_first}
use Rattle.shim_scopes.proofs.Refusals.{passed, first_ok}
use Rattle.shim_laws_stops.proofs.ScopeBinding.{condition_holds}
use Rattle.shim_base.proofs.Facts.{some_same, second_holds}
use Rattle.shim_laws_stops.specs.InScope.{is_number}
use Rattle.shim_laws_stops.proofs.ScopeUnits.{each_at}
use Rattle.shim_laws_stops.proofs.ThrowUnits.{has_unit, in_order_at, passes}

-- a stream that didn't come before, and what follows
abbrev pub stream_then : Sort → Bool → Bool → (Bool → Bool → Bool) → Bool
stream_then (Value t) input output rest = false
stream_then Input input output rest = not input && rest true output
stream_then Output input output rest = not output && rest input true

-- these take streams alone, and each once, whatever came before
abbrev pub streams_once : Bool → Bool → List UParam → Bool
streams_once input output [] = true
streams_once input output (p ∷ ps) = stream_then p.sort input output (λ i o. streams_once i o ps)

same_step : (s : Sort) (input output : Bool) (f g : Bool → Bool → Bool) → ((i o : Bool) → f i o ≡ true → g i o ≡ true)
    → elim s [ Value t ↦ false | Input ↦ not input && f true output | Output ↦ not output && f input true ] ≡ true → stream_then s input output g ≡ true
same_step (Value t) input output f g h e = absurd (cc e)
same_step Input input output f g h e = both input (f true output) (g true output) (h true output) e
  where
    both : (a b c : Bool) → (b ≡ true → c ≡ true) → (not a && b) ≡ true → (not a && c) ≡ true
    both true b c h e = absurd (cc e)
    both false b c h e = h e
same_step Output input output f g h e = both output (f input true) (g input true) (h input true) e
  where
    both : (a b c : Bool) → (b ≡ true → c ≡ true) → (not a && b) ≡ true → (not a && c) ≡ true
    both true b c h e = absurd (cc e)
    both false b c h e = h e

suited : (names : Texts) (ps : List Param) (input output : Bool) → suits_main input output ps ≡ true
    → streams_once input output (map (λ (p : Param). let q : UParam = record { sort = p.sort; by_ref = p.by_ref; name = name_index names p.name } in q) ps) ≡ true
suited names [] input output h = refl
suited names (p ∷ ps) input output h = same_step p.sort input output (λ i o. suits_main i o ps) _ (λ i o k. suited names ps i o k) h

-- no function that is bound is a `main` of other parameters
not_wrong : (w : Whole) (earlier : Texts) (f : Function) (r : RFunction) → bind_function w earlier f ≡ Ok r → wrong_main f ≡ None
unfolding bind_function
not_wrong w earlier f r h =
    let p = passed f.line Twice (name_in earlier f.name) _ r h in
    let q = passed f.line Twice (twice_after [] (param_names f.params)) _ r p in
    let s = passed f.line Twice (twice_after [] f.throws) _ r q in
    asked f.line MainParameters (wrong_main f) _ r s

none_wrong : (w : Whole) (earlier : Texts) (fs : List Function) (rs : List RFunction) → bind_functions w earlier fs ≡ Ok rs → Each (λ (f : Function). wrong_main f ≡ None) fs
none_wrong w earlier [] rs e = tt
none_wrong w earlier (f ∷ fs) rs e =
    let p = first_ok (bind_function w earlier f) _ rs e in
    let q = first_ok (bind_functions w (earlier ++ f.name ∷ []) fs) _ rs p.2 in
    (not_wrong w earlier f p.0 p.1, none_wrong w (earlier ++ f.name ∷ []) fs q.0 q.1)

unless_main : (a b : Bool) → (not a || b) ≡ true → a ≡ true → b ≡ true
unless_main true b h k = h
unless_main false b h k = absurd (cc k)

main_suits : (f : Function) → wrong_main f ≡ None → f.name ≡ codes "main" → suits_main false false f.params ≡ true
main_suits f none named =
    unless_main (bytes_eq f.name (codes "main")) (suits_main false false f.params) (condition_holds f.name (not (bytes_eq f.name (codes "main")) || suits_main false false f.params) none) ((bytes_eq-Decides f.name (codes "main")).1 named)

lifted_streams : (p : Resolved) → IsFormOfText p → streams_once false false (unit_at (lifted p) (lifted p).main).params ≡ true
unfolding unit_at
lifted_streams p t =
    let r = lift_functions p.names p.functions 0 (length p.functions) p.functions in
    let order = slots_are_in_text_order t.program p t.meant in
    let bound = names_mean_the_innermost t.program p t.meant in
    let g = in_order_at p.names t.program.functions p.functions p.main bound.main order bound.begins in
    let u = has_unit p.names p.functions 0 (length p.functions) p.functions p.main g.function g.there in
    let at : slice_get (r.own ++ r.lifted) p.main ≡ Some u.unit = at_first r.own r.lifted p.main u.unit u.there in
    let none = each_at (λ (f : Function). wrong_main f ≡ None) t.program.functions p.main bound.main (none_wrong (whole_of t.program) [] t.program.functions p.functions (is_form t.program p t.meant).bound) bound.begins in
    ap (λ o. streams_once false false (unit_or o).params) at ∙ ap (streams_once false false) (u.params ∙ g.order.params) ∙ suited p.names bound.main.params false false (main_suits bound.main none bound.named)

streams_of_text : (form : Form) → IsUnitsOfText form → streams_once false false (unit_at form form.main).params ≡ true
streams_of_text form k = passes _ k.of_text (λ t. subst (λ (f : Form). streams_once false false (unit_at f f.main).params ≡ true) k.meant (lifted_streams k.resolved t))

pub main_streams : (form : Form) → IsAcceptedForm form → streams_once false false (unit_at form form.main).params ≡ true
main_streams form k = passes _ k.of_text (λ u. streams_of_text form u)

-- so no parameter of it is a number

rest_once : (s : Sort) (a b : Bool) (f : Bool → Bool → Bool) → stream_then s a b f ≡ true → (is_number (Some s) ≡ true → ⊥) × ((i : Bool) × (o : Bool) × (f i o ≡ true))
rest_once (Value t) a b f h = absurd (cc h)
rest_once Input a b f h = (λ n. cc n, (true, b, second_holds (not a) (f true b) h))
rest_once Output a b f h = (λ n. cc n, (a, true, second_holds (not b) (f a true) h))

pub no_number : (ps : List UParam) (a b : Bool) (i : ℕ) (p : UParam) → streams_once a b ps ≡ true → slice_get ps i ≡ Some p → is_number (Some p.sort) ≡ true → ⊥
no_number [] a b i p h e n = cc e
no_number (q ∷ ps) a b zero p h e n = (rest_once q.sort a b (λ i o. streams_once i o ps) h).0 (ap (λ (z : UParam). is_number (Some z.sort)) (some_same q p e) ∙ n)
no_number (q ∷ ps) a b (suc i) p h e n = let w = rest_once q.sort a b (λ i o. streams_once i o ps) h in no_number ps w.1.0 w.1.1 i p w.1.2 e n
