-- A function's slots and exceptions are what it declares, in the order of the text.
use Rattle.std.proofs.Common.{◌≡◌, List, [], ◌∷◌, ◌++◌, Ok, length, map, refl, sym, subst}
use Rattle.std.proofs.lemmas.List.{append-nil}
use Rattle.shim_syntax.specs.declared.tree.Param.{Param}
use Rattle.shim_syntax.specs.declared.tree.Function.{Function}
use Rattle.shim_syntax.specs.declared.tree.Program.{Program}
use Rattle.shim_scopes.specs.declared.fault.ScopeKind.TheVariants.{Twice, MainParameters}
use Rattle.shim_scopes.specs.declared.form.Form.{Form}
use Rattle.shim_scopes.specs.declared.tree.RFunction.{RFunction}
use Rattle.shim_scopes.specs.declared.tree.RStmt.{RStmt}
use Rattle.shim_syntax.specs.Names.{Texts, with_functions, param_names}
use Rattle.shim_scopes.specs.Statements.{Whole, Around, Before, BoundTo, local_of}
use Rattle.shim_scopes.specs.Functions.{name_in, twice_after, wrong_main, with_param, params_from, handled_from, function_begin, made_function, bind_function, bind_functions, bind_program, main_of}
use Rattle.shim_scopes.specs.Bodies.{bind_stmts}
use Rattle.shim_laws_binding.specs.TextOrder.{declarations_in, tries_among, declared_param, IsInTextOrder, AreInTextOrder}
use Rattle.shim_laws_binding.proofs.Growth.{IsGrown, unchanged, grown_twice, body_grows}
use Rattle.shim_scopes.proofs.Refusals.{passed, first_ok}

one_param : (names : Texts) (b : Before) (p : Param) → IsGrown names [] (declared_param p ∷ []) [] b (with_param names b p)
one_param names b p = record { own = record { more = local_of p.name p.sort (length b.slots) ∷ []; whole = refl }; slots = refl; slot_names = refl; tries = sym (append-nil b.tries) }

pub params_grow : (names : Texts) (ps : List Param) (b : Before) → IsGrown names [] (map declared_param ps) [] b (params_from names b ps)
params_grow names [] b = unchanged names b
params_grow names (p ∷ ps) b =
    grown_twice names [] [] (declared_param p ∷ []) (map declared_param ps) [] [] b (with_param names b p) (params_from names (with_param names b p) ps) (one_param names b p) (params_grow names ps (with_param names b p))

-- what encloses the body of a function
abbrev pub around_body : Function → Around
around_body f = record { outer = []; handled = handled_from [] f.throws; throws = length f.throws }

-- the body of a function that is bound, and what it is bound to
pub record IsMade (w : Whole) (f : Function) (r : RFunction) : Type 0 where
  pub body : BoundTo (List RStmt)
  pub bound : bind_stmts w f.body (around_body f) (params_from w.names function_begin f.params) ≡ Ok body
  pub made : made_function w f body ≡ r

pub is_made : (w : Whole) (earlier : Texts) (f : Function) (r : RFunction) → bind_function w earlier f ≡ Ok r → IsMade w f r
unfolding bind_function
is_made w earlier f r h =
    let p = passed f.line Twice (name_in earlier f.name) _ r h in
    let q = passed f.line Twice (twice_after [] (param_names f.params)) _ r p in
    let s = passed f.line Twice (twice_after [] f.throws) _ r q in
    let t = passed f.line MainParameters (wrong_main f) _ r s in
    let b = first_ok (bind_stmts w f.body (around_body f) (params_from w.names function_begin f.params)) _ r t in
    let same : made_function w f b.0 ≡ r = cc in
    record { body = b.0; bound = b.1; made = same }

abbrev pub all_grown : (w : Whole) (f : Function) (r : BoundTo (List RStmt)) → bind_stmts w f.body (around_body f) (params_from w.names function_begin f.params) ≡ Ok r
    → IsGrown w.names [] (map declared_param f.params ++ declarations_in f.body) (tries_among f.body) function_begin r.before
all_grown w f r e =
    grown_twice w.names [] _ (map declared_param f.params) (declarations_in f.body) [] (tries_among f.body) function_begin (params_from w.names function_begin f.params) r.before
    (params_grow w.names f.params function_begin) (body_grows w f.body (around_body f) (params_from w.names function_begin f.params) r e)

pub function_in_order : (w : Whole) (f : Function) (r : RFunction) → IsMade w f r → IsInTextOrder w.names f r
function_in_order w f r m =
    let g = all_grown w f m.body m.bound in
    subst (λ (x : RFunction). IsInTextOrder w.names f x) m.made
    (record { line = refl; name = refl; slots = g.slots; slot_names = g.slot_names; throws = refl; tries = g.tries; params = refl })

functions_in_order : (w : Whole) (earlier : Texts) (fs : List Function) (rs : List RFunction) → bind_functions w earlier fs ≡ Ok rs → AreInTextOrder w.names fs rs
functions_in_order w earlier [] rs e = let none : [] ≡ rs = cc in subst (λ (l : List RFunction). AreInTextOrder w.names [] l) none tt
functions_in_order w earlier (f ∷ fs) rs e =
    let p = first_ok (bind_function w earlier f) _ rs e in
    let q = first_ok (bind_functions w (earlier ++ f.name ∷ []) fs) _ rs p.2 in
    let same : p.0 ∷ q.0 ≡ rs = cc in
    subst (λ (l : List RFunction). AreInTextOrder w.names (f ∷ fs) l) same
    (function_in_order w f p.0 (is_made w earlier f p.0 p.1), functions_in_order w (earlier ++ f.name ∷ []) fs q.0 q.1)

abbrev pub whole_of : Program → Whole
whole_of p = record { functions = p.functions; names = with_functions p.functions [] }

-- the functions of a program that is bound
pub record IsForm (p : Program) (form : Form) : Type 0 where
  pub main : main_of p.functions ≡ Ok form.main
  pub bound : bind_functions (whole_of p) [] p.functions ≡ Ok form.functions
  pub names : with_functions p.functions [] ≡ form.names

pub is_form : (p : Program) (form : Form) → bind_program p ≡ Ok form → IsForm p form
is_form p form e =
    let fs = first_ok (bind_functions (whole_of p) [] p.functions) _ form e in
    let main = first_ok (main_of p.functions) _ form fs.2 in
    let f : Form = record { functions = fs.0; names = with_functions p.functions []; main = main.0 } in
    let same : f ≡ form = cc in
    subst (λ (g : Form). IsForm p g) same (record { main = main.1; bound = fs.1; names = refl })

pub slots_are_in_text_order : (p : Program) (form : Form) → bind_program p ≡ Ok form → AreInTextOrder form.names p.functions form.functions
slots_are_in_text_order p form e =
    let f = is_form p form e in
    subst (λ (names : Texts). AreInTextOrder names p.functions form.functions) f.names (functions_in_order (whole_of p) [] p.functions form.functions f.bound)
