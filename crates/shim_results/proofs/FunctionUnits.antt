-- The units of functions stand at the numbers of their functions, and what is lifted out of them after them all: so the count of the former is that of the functions.
use Rattle.std.proofs.Common.{ℕ, ◌+◌, ◌<◌, ◌≤◌, ◌≡◌, ◌∙◌, Bool, List, [], ◌∷◌, ◌++◌, Option, None, Some, Result, Ok, Err, length, eq-eqb, ne_eqb, refl, sym, ap, arith, if◌then◌else◌}
use Rattle.shim_syntax.specs.Names.{Texts, with_functions}
use Rattle.shim_syntax.specs.declared.Function.{Function}
use Rattle.shim_syntax.specs.declared.Program.{Program}
use Rattle.shim_scopes.specs.declared.form.Form.{Form as Resolved}
use Rattle.shim_scopes.specs.declared.tree.RFunction.{RFunction}
use Rattle.shim_scopes.specs.declared.tree.RStmt.{RStmt}
use Rattle.shim_scopes.specs.Functions.{bind_function, bind_functions, bind_program, main_of}
use Rattle.shim_scopes.specs.Refusals.{Refusal}
use Rattle.shim_scopes.specs.Statements.{Whole}
use Rattle.shim_scopes.proofs.Refusals.{first_ok}
use Rattle.shim_units.specs.declared.form.Form.{Form}
use Rattle.shim_units.specs.declared.slot_map.SlotMap.{SlotMap}
use Rattle.shim_units.specs.declared.unit.Unit.{Unit as UnitOf}
use Rattle.shim_units.specs.Parts.{LiftContext, Lifts}
use Rattle.shim_units.specs.Lifting.{branch_inner}
use Rattle.shim_units.specs.PartFold.{lift_in}
use Rattle.shim_units.specs.Units.{lift_function, lift_functions, lifted}
use Rattle.shim_units.proofs.LiftInduction.{body_holds}
use Rattle.shim_sharing.specs.declared.ShareFault.{ShareFault}
use Rattle.shim_sharing.specs.Accepting.{unless_refused}
use Rattle.shim_sharing.specs.Refusals.{refusal}
use Rattle.shim_front_end.specs.Source.{Source, bound, checked, sharing_result}
use Rattle.shim_results.specs.SourceActions.{functions_from}

-- all of these units belong to the function of this number
abbrev AreOf : ℕ → List UnitOf → Type 0
AreOf n [] = Unit {0}
AreOf n (u ∷ us) = (u.function ≡ n) × AreOf n us

are_both : (n : ℕ) (us vs : List UnitOf) → AreOf n us → AreOf n vs → AreOf n (us ++ vs)
are_both n [] vs h k = k
are_both n (u ∷ us) vs h k = (h.0, are_both n us vs h.1 k)

-- what is lifted out of a part belongs to the function in which the part stands
abbrev StaysIn : {T : Type 0} → Lifts T → Type 0
StaysIn f = (context : LiftContext) (w : SlotMap) (n : ℕ) → AreOf context.number (f context w n).units

-- so is the text of a function
body_stays : (body : List RStmt) → StaysIn (lift_in body)
body_stays = body_holds (λ T f. StaysIn f) (λ T f context w n. tt) (λ S T g f h. h)
    (λ R S T g f h a b context w n. let p = f context w n in are_both context.number p.units (h context w (n + length p.units)).units (a context w n) (b context w (n + length p.units)))
    (λ body h context w n. (refl, h context (branch_inner context body w) (n + 1)))

-- all of these units belong to functions below this number
abbrev AreBelow : ℕ → List UnitOf → Type 0
AreBelow m [] = Unit {0}
AreBelow m (u ∷ us) = (u.function < m) × AreBelow m us

below_both : (m n : ℕ) (us vs : List UnitOf) → n < m → AreOf n us → AreBelow m vs → AreBelow m (us ++ vs)
below_both m n [] vs less h k = k
below_both m n (u ∷ us) vs less h k = (omega (arith, less, h.0), below_both m n us vs less h.1 k)

lifted_below : (names : Texts) (all : List RFunction) (number next m : ℕ) (fs : List RFunction) → number + length fs ≤ m → AreBelow m (lift_functions names all number next fs).lifted
lifted_below names all number next m [] few = tt
lifted_below names all number next m (f ∷ fs) few =
    let r = lift_function names all number next f in
    below_both m number r.lifted (lift_functions names all (number + 1) (next + length r.lifted) fs).lifted (omega (arith, few)) (body_stays f.body _ _ next)
    (lifted_below names all (number + 1) (next + length r.lifted) m fs (omega (arith, few)))

-- after the functions' own units no unit stands at its function's number
none_more : (m : ℕ) (us : List UnitOf) → AreBelow m us → functions_from m us ≡ m
none_more m [] h = refl
none_more m (u ∷ us) h = ap (λ (b : Bool). if b then functions_from (m + 1) us else m) (ne_eqb u.function m (λ e. omega (arith, e, h.0)))

own_counted : (names : Texts) (all : List RFunction) (number next : ℕ) (fs : List RFunction) (rest : List UnitOf)
    → functions_from number ((lift_functions names all number next fs).own ++ rest) ≡ functions_from (number + length fs) rest
own_counted names all number next [] rest = ap (λ (k : ℕ). functions_from k rest) (omega arith)
own_counted names all number next (f ∷ fs) rest =
    let r = lift_function names all number next f in
    let more = (lift_functions names all (number + 1) (next + length r.lifted) fs).own ++ rest in
    ap (λ (b : Bool). if b then functions_from (number + 1) more else number) (eq-eqb number number refl)
    ∙ own_counted names all (number + 1) (next + length r.lifted) fs rest
    ∙ ap (λ (k : ℕ). functions_from k rest) (omega arith)

-- of a resolved program
counted : (p : Resolved) → functions_from 0 (lifted p).units ≡ length p.functions
counted p =
    let m = length p.functions in
    let r = lift_functions p.names p.functions 0 m p.functions in
    own_counted p.names p.functions 0 m p.functions r.lifted ∙ ap (λ (k : ℕ). functions_from k r.lifted) (omega arith) ∙ none_more m r.lifted (lifted_below p.names p.functions 0 m m p.functions (omega arith))

as_many : (w : Whole) (earlier : Texts) (fs : List Function) (rs : List RFunction) → bind_functions w earlier fs ≡ Ok rs → length rs ≡ length fs
as_many w earlier [] rs e = let none : [] ≡ rs = cc in sym (ap (λ (l : List RFunction). length l) none)
as_many w earlier (f ∷ fs) rs e =
    let p = first_ok (bind_function w earlier f) _ rs e in
    let q = first_ok (bind_functions w (earlier ++ f.name ∷ []) fs) _ rs p.2 in
    let same : p.0 ∷ q.0 ≡ rs = cc in
    let rest : length q.0 ≡ length fs = as_many w (earlier ++ f.name ∷ []) fs q.0 q.1 in
    let all : length (p.0 ∷ q.0) ≡ length rs = ap (λ (l : List RFunction). length l) same in
    omega (arith, rest, all)

bound_as_many : (p : Program) (form : Resolved) → bind_program p ≡ Ok form → length form.functions ≡ length p.functions
bound_as_many p form e =
    let w : Whole = record { functions = p.functions; names = with_functions p.functions [] } in
    let fs = first_ok (bind_functions w [] p.functions) _ form e in
    let main = first_ok (main_of p.functions) _ form fs.2 in
    let f : Resolved = record { functions = fs.0; names = with_functions p.functions []; main = main.0 } in
    let same : f ≡ form = cc in
    let size : length fs.0 ≡ length form.functions = ap (λ (g : Resolved). length g.functions) same in
    sym size ∙ as_many w [] p.functions fs.0 fs.1

-- what is accepted is lifted
lifted_if_shared : (o : Option ShareFault) (made source : Form) → sharing_result (unless_refused o made) ≡ Ok source → made ≡ source
lifted_if_shared None made source e = cc
lifted_if_shared (Some fault) made source e = absurd (cc)

counted_if_bound : (p : Program) (r : Result Resolved Refusal) (source : Source) → bind_program p ≡ r → bound r ≡ Ok source → functions_from 0 source.units ≡ length p.functions
counted_if_bound p (Ok form) source is e =
    let made : lifted form ≡ source = lifted_if_shared (refusal form) (lifted form) source e in
    sym (ap (λ (s : Source). functions_from 0 s.units) made) ∙ counted form ∙ bound_as_many p form is
counted_if_bound p (Err r) source is e = absurd (cc)

pub functions_are_counted : (p : Program) (source : Source) → checked p ≡ Ok source → functions_from 0 source.units ≡ length p.functions
functions_are_counted p source e = counted_if_bound p (bind_program p) source refl e
