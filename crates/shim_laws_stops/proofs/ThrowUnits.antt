-- The units of an accepted program throw and hand on what is in force: those of its functions, and those that are lifted out of them.
use Rattle.std.proofs.Common.{ℕ, zero, suc, ◌+◌, ◌<◌, ◌≡◌, ◌∙◌, Bool, true, inl, inr, List, [], ◌∷◌, ◌++◌, Some, length, nat_eq, eq-eqb, eqb-true, slice_get, refl, sym, ap, subst, arith, length-append, append_assoc}
use Rattle.std.proofs.lemmas.Bool.{cases_Bool, true≢false}
use Rattle.std.proofs.lemmas.Grind.{not_there}
use Rattle.std.proofs.lemmas.List.{length-map}
use Rattle.shim_syntax.specs.declared.tree.Function.{Function}
use Rattle.shim_syntax.specs.Names.{Texts, name_index}
use Rattle.shim_scopes.specs.declared.form.Form.{Form as Resolved}
use Rattle.shim_scopes.specs.declared.tree.RFunction.{RFunction}
use Rattle.shim_scopes.specs.Resolving.{IsFormOfText}
use Rattle.shim_units.specs.declared.form.Form.{Form}
use Rattle.shim_units.specs.declared.unit.Unit.{Unit as UnitOf}
use Rattle.shim_units.specs.declared.slot_map.SlotMap.{SlotMap}
use Rattle.shim_units.specs.Moving.{slot_index_of}
use Rattle.shim_units.specs.OfText.{IsUnitsOfText, IsAcceptedForm}
use Rattle.shim_units.specs.Parts.{LiftContext}
use Rattle.shim_units.specs.PartFold.{tries_in, raises_in}
use Rattle.shim_units.specs.Units.{upto, name_or_mark, function_slot_map, lift_function, lift_functions, lifted, throws_of}
use Rattle.shim_units.proofs.Counting.{upto_length}
use Rattle.shim_process.specs.LocalState.{unit_or, unit_at}
use Rattle.shim_laws_binding.specs.LexicalScope.{Pairwise, body_begins, throws_around, BindsFunction}
use Rattle.shim_laws_binding.specs.TextOrder.{AreInTextOrder, IsInTextOrder}
use Rattle.shim_laws_binding.proofs.Lists.{Each, each_of_both}
use Rattle.shim_laws_binding.proofs.ScopeFunctions.{names_mean_the_innermost}
use Rattle.shim_laws_binding.proofs.TextOrderLemmas.{slots_are_in_text_order}
use Rattle.shim_laws_sources.proofs.Lists.{at_length, at_first}
use Rattle.shim_laws_sources.proofs.Lifting.{StandFrom, stand_first, stand_from}
use Rattle.shim_laws_stops.specs.InForce.{ThrowsInForce, AllInForce}
use Rattle.shim_laws_stops.proofs.Among.{Among, none_among, among_cases, among_first, among_second, among_either, placed_first, among_upto, under_upto}
use Rattle.shim_laws_stops.proofs.ThrowLifting.{Stands}
use Rattle.shim_laws_stops.proofs.ThrowParts.{numbers, HaveUnits, BodyThrows, stmts_right}

-- units that stand after others in a form stand from the number of these on
pub all_stand : (form : Form) (n : ℕ) (us vs : List UnitOf) → n ≡ length us → form.units ≡ us ++ vs → StandFrom form n vs
unfolding unit_at
all_stand form n us [] same e = tt
all_stand form n us (v ∷ vs) same e = (
  ap (λ k. unit_or (slice_get form.units k)) same ∙ ap (λ l. unit_or (slice_get l (length us))) e ∙ ap unit_or (at_length us v vs),
  all_stand form (n + 1) (us ++ v ∷ []) vs (omega (arith, same, length-append us (v ∷ []))) (e ∙ sym (append_assoc us (v ∷ []) vs)),
)

-- each function has a unit of its own, with its parameters and its `throws`, at its number

pub own_length : (names : List (List ℕ)) (all : List RFunction) (number next : ℕ) (fs : List RFunction) → length (lift_functions names all number next fs).own ≡ length fs
own_length names all number next [] = refl
own_length names all number next (f ∷ fs) =
    let next' : ℕ = next + length (lift_function names all number next f).lifted in
    ap suc (own_length names all (number + 1) next' fs)

pub record HasUnit (us : List UnitOf) (n : ℕ) (f : RFunction) : Type 0 where
  pub unit : UnitOf
  pub there : slice_get us n ≡ Some unit
  pub throws : unit.throws ≡ length f.throws
  pub params : unit.params ≡ f.params

pub has_unit : (names : List (List ℕ)) (all : List RFunction) (number next : ℕ) (fs : List RFunction) (n : ℕ) (f : RFunction) → slice_get fs n ≡ Some f → HasUnit (lift_functions names all number next fs).own n f
has_unit names all number next [] n f e = absurd (cc e)
has_unit names all number next (g ∷ fs) zero f e =
    let same : g ≡ f = cc e in
    record { unit = (lift_function names all number next g).own; there = refl; throws = ap (λ (h : RFunction). length h.throws) same; params = ap (λ (h : RFunction). h.params) same }
has_unit names all number next (g ∷ fs) (suc n) f e =
    let next' : ℕ = next + length (lift_function names all number next g).lifted in
    let h = has_unit names all (number + 1) next' fs n f e in
    record { unit = h.unit; there = h.there; throws = h.throws; params = h.params }

-- the function of the form that stands where one of the text does
pub record InOrderAt (names : Texts) (rs : List RFunction) (n : ℕ) (f : Function) : Type 0 where
  pub function : RFunction
  pub there : slice_get rs n ≡ Some function
  pub order : IsInTextOrder names f function

pub in_order_at : (names : Texts) (fs : List Function) (rs : List RFunction) (n : ℕ) (f : Function) → AreInTextOrder names fs rs → slice_get fs n ≡ Some f → InOrderAt names rs n f
in_order_at names [] [] n f h e = absurd (cc e)
in_order_at names [] (r ∷ rs) n f h e = absurd h
in_order_at names (g ∷ fs) [] n f h e = absurd h
in_order_at names (g ∷ fs) (r ∷ rs) zero f h e = let same : g ≡ f = cc e in record { function = r; there = refl; order = subst (λ (x : Function). IsInTextOrder names x r) same h.0 }
in_order_at names (g ∷ fs) (r ∷ rs) (suc n) f h e = let w = in_order_at names fs rs n f h.1 e in record { function = w.function; there = w.there; order = w.order }

pub as_many_throws : (names : Texts) (f : Function) (r : RFunction) → IsInTextOrder names f r → length r.throws ≡ length f.throws
as_many_throws names f r h = ap length h.throws ∙ length-map f.throws (name_index names)

have_units : (p : Resolved) (fs : List Function) → AreInTextOrder p.names fs p.functions → HaveUnits (lifted p) fs
unfolding unit_at
have_units p fs order n f e =
    let r = lift_functions p.names p.functions 0 (length p.functions) p.functions in
    let g = in_order_at p.names fs p.functions n f order e in
    let u = has_unit p.names p.functions 0 (length p.functions) p.functions n g.function g.there in
    let at : slice_get (r.own ++ r.lifted) n ≡ Some u.unit = at_first r.own r.lifted n u.unit u.there in
    ap (λ o. (unit_or o).throws) at ∙ u.throws ∙ as_many_throws p.names f g.function g.order

-- where a body begins its `throws` are in force

throws_under : (n : ℕ) (xs : Texts) (x : ℕ) → Among (numbers (throws_around n xs)) x → x < n + length xs
throws_under n [] x h = none_among x h
throws_under n (t ∷ xs) x h = elim (among_cases n (numbers (throws_around (suc n) xs)) x h) [
  | inl e ↦ omega (arith, e)
  | inr k ↦ let w = throws_under (suc n) xs x k in omega (arith, w)
]

begins : (k : ℕ) (xs : Texts) (hi : ℕ) (rs ts slots : List ℕ) → k ≡ length xs → Stands (numbers (throws_around 0 xs)) (length xs) hi rs ts (record { slots = slots; exceptions = upto k ++ ts }) (upto k)
begins k xs hi rs ts slots same =
    let first : (x : ℕ) → Among (numbers (throws_around 0 xs)) x → Among (upto k) x = λ x h. let w = throws_under 0 xs x h in among_upto k x (omega (arith, w, same)) in
    let long : length (upto k) ≡ k = upto_length k in
    record {
      there = λ x h r. among_first (upto k) ts x (first x h);
      known = λ x h r. let w = placed_first (upto k) ts x (first x h) in among_upto k (slot_index_of (upto k ++ ts) x) (omega (arith, w, long));
      own = λ x t. among_second (upto k) ts x t;
      alone = λ x a b. elim (among_either (upto k) ts x a) [
        | inl u ↦ let w = under_upto k x u in let from = b.from in absurd (omega (arith, w, from, same))
        | inr t ↦ t
      ];
    }

module _ (form : Form) (names : List (List ℕ)) (all : List RFunction) where
  -- the units of some functions, and what is lifted out of them
  record FunctionsRight (number next : ℕ) (fs : List RFunction) : Type 0 where
    own : Each (ThrowsInForce form) (lift_functions names all number next fs).own
    lifted : Each (ThrowsInForce form) (lift_functions names all number next fs).lifted

  functions_right : (functions : List Function) → HaveUnits form functions → (number next : ℕ) (gs : List Function) (fs : List RFunction) → Pairwise (BindsFunction functions) gs fs → AreInTextOrder names gs fs
      → StandFrom form next (lift_functions names all number next fs).lifted → FunctionsRight number next fs
  functions_right functions units number next [] [] bound order stand = record { own = tt; lifted = tt }
  functions_right functions units number next [] (f ∷ fs) bound order stand = absurd bound
  functions_right functions units number next (g ∷ gs) [] bound order stand = absurd bound
  functions_right functions units number next (g ∷ gs) (f ∷ fs) bound order stand =
      let context : LiftContext = record { functions = all; function = f; number = number; name = name_or_mark names f.name; first = next } in
      let r = lift_function names all number next f in
      let m : ℕ = next + length r.lifted in
      let rest = lift_functions names all (number + 1) m fs in
      let body : BodyThrows form (body_begins g) bound.0.end f.body = stmts_right form functions units bound.0.body in
      let many : length f.throws ≡ length g.throws = as_many_throws names g f order.0 in
      let w : SlotMap = function_slot_map f in
      let xs : List ℕ = upto (length f.throws) in
      let here = begins (length f.throws) g.throws bound.0.end.exceptions (raises_in f.body) (tries_in f.body) w.slots many in
      let in_force = stand_first form next r.lifted rest.lifted stand in
      let more = functions_right functions units (number + 1) m gs fs bound.1 order.1 (stand_from form next m r.lifted rest.lifted refl stand) in
      record {
        own = (body.lifts.tree context w next xs here in_force, more.own);
        lifted = each_of_both (ThrowsInForce form) r.lifted rest.lifted (body.lifts.units context w next xs here in_force) more.lifted;
      }

right_at : (form : Form) (us : List UnitOf) (n : ℕ) → Each (ThrowsInForce form) us → ThrowsInForce form (unit_or (slice_get us n))
right_at form [] n h = refl
right_at form (u ∷ us) zero h = h.0
right_at form (u ∷ us) (suc n) h = right_at form us n h.1

lifted_right : (p : Resolved) → IsFormOfText p → AllInForce (lifted p)
unfolding unit_at
lifted_right p t n =
    let r = lift_functions p.names p.functions 0 (length p.functions) p.functions in
    let order = slots_are_in_text_order t.program p t.meant in
    let bound = names_mean_the_innermost t.program p t.meant in
    let stand = all_stand (lifted p) (length p.functions) r.own r.lifted (sym (own_length p.names p.functions 0 (length p.functions) p.functions)) refl in
    let right = functions_right (lifted p) p.names p.functions t.program.functions (have_units p t.program.functions order) 0 (length p.functions) t.program.functions p.functions bound.functions order stand in
    right_at (lifted p) (r.own ++ r.lifted) n (each_of_both (ThrowsInForce (lifted p)) r.own r.lifted right.own right.lifted)

-- what is truncated says whether a test passes
pub passes : {A : Type 0} (b : Bool) → ∥ A ∥₁ → (A → b ≡ true) → b ≡ true
passes b a so = elim (cases_Bool b) [ inl e ↦ e | inr e ↦ absurd (not_there a (λ x. true≢false (sym (so x) ∙ e))) ]

right_of_text : (form : Form) → IsUnitsOfText form → AllInForce form
right_of_text form k n = passes _ k.of_text (λ t. subst (λ (f : Form). ThrowsInForce f (unit_at f n)) k.meant (lifted_right k.resolved t n))

pub all_in_force : (form : Form) → IsAcceptedForm form → AllInForce form
all_in_force form k n = passes _ k.of_text (λ u. right_of_text form u n)

-- `main` is given an exception for each name that it throws

lifted_main : (p : Resolved) → IsFormOfText p → length (lifted p).main_throws ≡ (unit_at (lifted p) (lifted p).main).throws
unfolding unit_at
lifted_main p t =
    let r = lift_functions p.names p.functions 0 (length p.functions) p.functions in
    let order = slots_are_in_text_order t.program p t.meant in
    let bound = names_mean_the_innermost t.program p t.meant in
    let g = in_order_at p.names t.program.functions p.functions p.main bound.main order bound.begins in
    let u = has_unit p.names p.functions 0 (length p.functions) p.functions p.main g.function g.there in
    let at : slice_get (r.own ++ r.lifted) p.main ≡ Some u.unit = at_first r.own r.lifted p.main u.unit u.there in
    ap (λ o. length (throws_of o)) g.there ∙ sym u.throws ∙ sym (ap (λ o. (unit_or o).throws) at)

main_of_text : (form : Form) → IsUnitsOfText form → nat_eq (length form.main_throws) (unit_at form form.main).throws ≡ true
main_of_text form k = passes _ k.of_text (λ t. subst (λ (f : Form). nat_eq (length f.main_throws) (unit_at f f.main).throws ≡ true) k.meant (eq-eqb _ _ (lifted_main k.resolved t)))

pub main_given : (form : Form) → IsAcceptedForm form → length form.main_throws ≡ (unit_at form form.main).throws
main_given form k = eqb-true _ _ (passes _ k.of_text (λ u. main_of_text form u))
