-- The names put back in the form of a program give the program.
use Rattle.std.proofs.Common.{Some, zero, ℕ, suc, ◌+◌, ◌≡◌, ◌∙◌, List, [], ◌∷◌, ◌++◌, Ok, length, map, refl, sym, ap, subst, arith, length-append}
use Rattle.std.specs.Prelude.{slice_get, All}
use Rattle.std.proofs.lemmas.List.{length-map, map-append}
use Rattle.std.proofs.lemmas.List.Elements.{All-nil, All-cons}
use Rattle.shim_syntax.specs.declared.tree.Param.{Param}
use Rattle.shim_syntax.specs.declared.tree.Stmt.{Stmt}
use Rattle.shim_syntax.specs.declared.tree.Function.{Function}
use Rattle.shim_syntax.specs.declared.tree.Program.{Program}
use Rattle.shim_scopes.specs.declared.form.Form.{Form}
use Rattle.shim_scopes.specs.declared.scope.Handled.{Handled}
use Rattle.shim_scopes.specs.declared.tree.RFunction.{RFunction}
use Rattle.shim_scopes.specs.declared.tree.RStmt.{RStmt}
use Rattle.shim_syntax.specs.Names.{Texts, name_index, param_names}
use Rattle.shim_syntax.specs.Occurrences.{concatenated, in_stmt, in_function, identifiers}
use Rattle.shim_scopes.specs.Statements.{Whole, Before, BoundTo, local_of}
use Rattle.shim_scopes.specs.Functions.{placed_param, with_param, params_from, placed_params, handled_from, numbers_of, function_begin, made_function, bind_function, bind_functions, bind_program}
use Rattle.shim_scopes.specs.Calls.{function_number}
use Rattle.shim_scopes.specs.Bodies.{bind_stmts}
use Rattle.shim_scopes.specs.declared.tree.RCall.{RCall}
use Rattle.shim_laws_binding.specs.Naming.{name_at, names_at, param_named, naming_of, function_named, functions_named}
use Rattle.shim_laws_binding.specs.TextOrder.{Declarations, declarations_in, tries_among, declared_param, all_declarations, numbers_of_declared}
use Rattle.shim_laws_binding.specs.HandedOn.{calls_among, HandsOn, AllHandOn}
use Rattle.shim_laws_binding.proofs.TextOrderLemmas.{params_grow, around_body, IsMade, is_made, all_grown, is_form}
use Rattle.shim_laws_binding.proofs.Lists.{all_of_each, Each, each_of_both, each_of_first, each_of_second, AreFrom, earlier, later}
use Rattle.shim_laws_binding.proofs.Known.{function_stands_at, IsKnown, function_at, identifiers_known, known_back}
use Rattle.shim_laws_binding.proofs.NamedExprs.{VariableNamed, ExceptionNamed}
use Rattle.shim_laws_binding.proofs.NamedSteps.{stmts_named}
use Rattle.shim_laws_binding.proofs.NamedParts.{bodies, HoldsOfCalls, IsBack, declared_name, own_name, IsNamed, AreToCome, FunctionsNamed, next_to_come}
use Rattle.shim_laws_binding.proofs.NamedStmts.{body_back}
use Rattle.shim_laws_binding.proofs.Occurring.{DeclaredSo, body_passes}
use Rattle.shim_scopes.proofs.Refusals.{first_ok}

-- after one more element each place is one further
one_further : {T : Type 0} (name : T → List ℕ) (x : List ℕ) (names : Texts) (at : ℕ) (ts : List T) → AreFrom name (name_at names) at ts → AreFrom name (name_at (x ∷ names)) (suc at) ts
one_further name x names at [] h = tt
one_further name x names at (t ∷ ts) h = (h.0, one_further name x names (suc at) ts h.1)

-- the names of a list stand in it from the first place on
from_first : {T : Type 0} (name : T → List ℕ) (ts : List T) → AreFrom name (name_at (map name ts)) 0 ts
from_first name [] = tt
from_first name (t ∷ ts) = (refl, one_further name (name t) (map name ts) 0 ts (from_first name ts))

from_first_own : (xs : Texts) → AreFrom own_name (name_at xs) 0 xs
from_first_own [] = tt
from_first_own (x ∷ xs) = (refl, one_further own_name x xs 0 xs (from_first_own xs))

params_named : (variable : ℕ → List ℕ) (names : Texts) (ps : List Param) (b : Before) → Each (VariableNamed variable) b.own → AreFrom declared_name variable (length b.slots) (map declared_param ps)
    → Each (VariableNamed variable) (params_from names b ps).own
params_named variable names [] b own h = own
params_named variable names (p ∷ ps) b own h =
    let longer : suc (length b.slots) ≡ length (with_param names b p).slots = omega (arith, length-append b.slots (p.sort ∷ [])) in
    params_named variable names ps (with_param names b p) (each_of_both (VariableNamed variable) b.own (local_of p.name p.sort (length b.slots) ∷ []) own (h.0, tt))
    (subst (λ i. AreFrom declared_name variable i (map declared_param ps)) longer h.1)

abbrev handled_at : List ℕ → ℕ → Handled
handled_at x number = record { name = x; number = number }

throws_named : (exception : ℕ → List ℕ) (xs : Texts) (around : List Handled) → Each (ExceptionNamed exception) around → AreFrom own_name exception (length around) xs
    → Each (ExceptionNamed exception) (handled_from around xs)
throws_named exception [] around own h = own
throws_named exception (x ∷ xs) around own h =
    let longer : suc (length around) ≡ length (around ++ handled_at x (length around) ∷ []) = omega (arith, length-append around (handled_at x (length around) ∷ [])) in
    throws_named exception xs (around ++ handled_at x (length around) ∷ []) (each_of_both (ExceptionNamed exception) around (handled_at x (length around) ∷ []) own (h.0, tt))
    (subst (λ i. AreFrom own_name exception i xs) longer h.1)

declared_known : (names : Texts) (ds : Declarations) → Each (DeclaredSo (IsKnown names)) ds → names_at names (numbers_of_declared names ds) ≡ map declared_name ds
declared_known names [] h = refl
declared_known names (d ∷ ds) h = ap (λ y. y ∷ names_at names (numbers_of_declared names ds)) h.0 ∙ ap (λ ys. d.name ∷ ys) (declared_known names ds h.1)

params_known : (names : Texts) (ps : List Param) → Each (IsKnown names) (param_names ps) → Each (DeclaredSo (IsKnown names)) (map declared_param ps)
params_known names [] h = tt
params_known names (p ∷ ps) h = (h.0, params_known names ps h.1)

params_back : (names : Texts) (ps : List Param) → Each (IsKnown names) (param_names ps) → map (param_named names) (placed_params names ps) ≡ ps
params_back names [] h = refl
params_back names (p ∷ ps) h =
    ap (λ (x : List ℕ). let q : Param = record { sort = p.sort; by_ref = p.by_ref; name = x } in q ∷ map (param_named names) (placed_params names ps)) h.0 ∙ ap (λ qs. p ∷ qs) (params_back names ps h.1)

-- the identifiers of a function, each at its number
record AllKnown (names : Texts) (f : Function) : Type 0 where
  name : IsKnown names f.name
  params : Each (IsKnown names) (param_names f.params)
  throws : Each (IsKnown names) f.throws
  declared : Each (DeclaredSo (IsKnown names)) (declarations_in f.body)
  tries : Each (IsKnown names) (tries_among f.body)

function_known : (names : Texts) (f : Function) → Each (IsKnown names) (in_function f) → AllKnown names f
function_known names f h =
    let behind_params = each_of_second (IsKnown names) (param_names f.params) (f.throws ++ concatenated (map in_stmt f.body)) h.1 in
    let body = body_passes (IsKnown names) f.body (each_of_second (IsKnown names) f.throws (concatenated (map in_stmt f.body)) behind_params) in
    record {
      name = h.0;
      params = each_of_first (IsKnown names) (param_names f.params) (f.throws ++ concatenated (map in_stmt f.body)) h.1;
      throws = each_of_first (IsKnown names) f.throws (concatenated (map in_stmt f.body)) behind_params;
      declared = body.0;
      tries = body.1;
    }

-- the name of each function is that at its number
abbrev function_names : List Function → Texts
function_names fs = map (λ (f : Function). f.name) fs

abbrev form_names : Texts → List RFunction → Texts
form_names names rs = names_at names (map (λ (r : RFunction). r.name) rs)

function_names_back : (w : Whole) (earlier : Texts) (fs : List Function) (rs : List RFunction) → Each (IsKnown w.names) (identifiers fs) → bind_functions w earlier fs ≡ Ok rs → form_names w.names rs ≡ function_names fs
function_names_back w earlier [] rs h e = let none : [] ≡ rs = cc in ap (form_names w.names) (sym none)
function_names_back w earlier (f ∷ fs) rs h e =
    let p = first_ok (bind_function w earlier f) _ rs e in
    let q = first_ok (bind_functions w (earlier ++ f.name ∷ []) fs) _ rs p.2 in
    let same : p.0 ∷ q.0 ≡ rs = cc in
    let m = is_made w earlier f p.0 p.1 in
    let named : name_at w.names p.0.name ≡ f.name = ap (λ (r : RFunction). name_at w.names r.name) (sym m.made) ∙ (each_of_first (IsKnown w.names) (in_function f) (identifiers fs) h).0 in
    ap (form_names w.names) (sym same) ∙ ap (λ y. y ∷ form_names w.names q.0) named
    ∙ ap (λ ys. f.name ∷ ys) (function_names_back w (earlier ++ f.name ∷ []) fs q.0 (each_of_second (IsKnown w.names) (in_function f) (identifiers fs) h) q.1)

-- the form of the function at a place, and what it was made of
record IsAt (w : Whole) (rs : List RFunction) (place : ℕ) (f : Function) : Type 0 where
  form : RFunction
  there : slice_get rs place ≡ Some form
  made : IsMade w f form
  known : AllKnown w.names f

made_at : (w : Whole) (earlier : Texts) (gs : List Function) (rs : List RFunction) (place : ℕ) (f : Function)
    → Each (IsKnown w.names) (identifiers gs) → bind_functions w earlier gs ≡ Ok rs → slice_get gs place ≡ Some f → IsAt w rs place f
made_at w earlier [] rs place f h e at = absurd (cc at)
made_at w earlier (g ∷ gs) rs zero f h e at =
    let p = first_ok (bind_function w earlier g) _ rs e in
    let q = first_ok (bind_functions w (earlier ++ g.name ∷ []) gs) _ rs p.2 in
    let same : p.0 ∷ q.0 ≡ rs = cc in
    let this : g ≡ f = cc at in
    let first : IsAt w (p.0 ∷ q.0) zero g = record { form = p.0; there = refl; made = is_made w earlier g p.0 p.1; known = function_known w.names g (each_of_first (IsKnown w.names) (in_function g) (identifiers gs) h) } in
    subst (λ (x : Function). IsAt w rs zero x) this (subst (λ (l : List RFunction). IsAt w l zero g) same first)
made_at w earlier (g ∷ gs) rs (suc place) f h e at =
    let p = first_ok (bind_function w earlier g) _ rs e in
    let q = first_ok (bind_functions w (earlier ++ g.name ∷ []) gs) _ rs p.2 in
    let same : p.0 ∷ q.0 ≡ rs = cc in
    let further = made_at w (earlier ++ g.name ∷ []) gs q.0 place f (each_of_second (IsKnown w.names) (in_function g) (identifiers gs) h) q.1 at in
    let behind : IsAt w (p.0 ∷ q.0) (suc place) f = record { form = further.form; there = further.there; made = further.made; known = further.known } in
    subst (λ (l : List RFunction). IsAt w l (suc place) f) same behind

-- the names of the program and of its form
abbrev with_names : List Function → Form → Whole
with_names fs form = record { functions = fs; names = form.names }

module _ (fs : List Function) (form : Form) (known : Each (IsKnown form.names) (identifiers fs)) (bound : bind_functions (with_names fs form) [] fs ≡ Ok form.functions) where
  -- what holds of each call of a function
  abbrev Handed : RFunction → RCall → Type 0
  Handed r = HandsOn form (naming_of form r)

  functions_are_named : (r : RFunction) → FunctionsNamed (naming_of form r) (Handed r) (with_names fs form)
  functions_are_named r x f e =
      ap (λ (names : Texts). name_at names (function_number fs x)) (function_names_back (with_names fs form) [] fs form.functions known bound) ∙ function_at fs x f e

  calls_hand_on : (r : RFunction) → HoldsOfCalls (naming_of form r) (Handed r) (with_names fs form)
  calls_hand_on r f x c found number arguments exceptions =
      let at = made_at (with_names fs form) [] fs form.functions (function_number fs x) f known bound (function_stands_at fs x f found) in
      let thrown : names_at form.names at.form.throws ≡ f.throws = ap (λ (g : RFunction). names_at form.names g.throws) (sym at.made.made) ∙ known_back form.names f.throws at.known.throws in
      let taken : length at.form.params ≡ length f.params = ap (λ (g : RFunction). length g.params) (sym at.made.made) ∙ length-map f.params (placed_param form.names) in
      record { callee = at.form; called = ap (slice_get form.functions) number ∙ at.there; arguments = arguments ∙ sym taken; exceptions = exceptions ∙ sym thrown }

  abbrev exceptions : Function → Texts
  exceptions f = f.throws ++ tries_among f.body

  body_is_back : (f : Function) (body : BoundTo (List RStmt)) → AllKnown form.names f
      → bind_stmts (with_names fs form) f.body (around_body f) (params_from form.names function_begin f.params) ≡ Ok body
      → IsBack (naming_of form (made_function (with_names fs form) f body)) (Handed (made_function (with_names fs form) f body)) (bodies (naming_of form (made_function (with_names fs form) f body))) f.body body
  body_is_back f body k e =
      let names = form.names in
      let r = made_function (with_names fs form) f body in
      let n = naming_of form r in
      let g = all_grown (with_names fs form) f body e in
      let slots : names_at names body.before.slot_names ≡ map declared_name (all_declarations f) =
      ap (names_at names) g.slot_names ∙ declared_known names (all_declarations f) (each_of_both (DeclaredSo (IsKnown names)) (map declared_param f.params) (declarations_in f.body) (params_known names f.params k.params) k.declared) in
      let numbers : map (name_index names) f.throws ++ body.before.tries ≡ map (name_index names) (exceptions f) =
      ap (λ ts. map (name_index names) f.throws ++ ts) g.tries ∙ sym (map-append (name_index names) f.throws (tries_among f.body)) in
      let raised : names_at names (map (name_index names) f.throws ++ body.before.tries) ≡ exceptions f =
      ap (names_at names) numbers ∙ known_back names (exceptions f) (each_of_both (IsKnown names) f.throws (tries_among f.body) k.throws k.tries) in
      let variables : AreFrom declared_name n.variable 0 (all_declarations f) =
      subst (λ (xs : Texts). AreFrom declared_name (name_at xs) 0 (all_declarations f)) (sym slots) (from_first declared_name (all_declarations f)) in
      let in_turn : AreFrom own_name n.exception 0 (exceptions f) =
      subst (λ (xs : Texts). AreFrom own_name (name_at xs) 0 (exceptions f)) (sym raised) (from_first_own (exceptions f)) in
      let place : length f.throws + 0 ≡ 0 + length f.throws = omega arith in
      let to_come : AreToCome n (around_body f) function_begin (all_declarations f) (tries_among f.body) =
      record { slots = variables; tries = later own_name n.exception 0 f.throws (tries_among f.body) (length f.throws + 0) place in_turn } in
      let behind = next_to_come n names [] (around_body f) function_begin (params_from names function_begin f.params) (map declared_param f.params) (declarations_in f.body) [] (tries_among f.body)
      (params_grow names f.params function_begin) to_come in
      let named : IsNamed n (around_body f) (params_from names function_begin f.params) = record {
        outer = tt;
        own = params_named n.variable names f.params function_begin tt (earlier declared_name n.variable 0 (map declared_param f.params) (declarations_in f.body) variables);
        handled = throws_named n.exception f.throws [] tt (earlier own_name n.exception 0 f.throws (tries_among f.body) in_turn);
      } in
      body_back n (Handed r) (with_names fs form) (functions_are_named r) (calls_hand_on r) f.body (around_body f) (params_from names function_begin f.params) body e named behind

  function_is_back : (f : Function) (r : RFunction) → AllKnown form.names f → IsMade (with_names fs form) f r → function_named form r ≡ f
  function_is_back f r k m =
      let names = form.names in
      let made = made_function (with_names fs form) f m.body in
      let body = stmts_named (naming_of form made) m.body.tree in
      ap (function_named form) (sym m.made)
      ∙ ap (λ (x : List ℕ). let g : Function = record { line = f.line; name = x; params = map (param_named names) (placed_params names f.params); throws = names_at names (numbers_of names f.throws); body = body } in g) k.name
      ∙ ap (λ (ps : List Param). let g : Function = record { line = f.line; name = f.name; params = ps; throws = names_at names (numbers_of names f.throws); body = body } in g) (params_back names f.params k.params)
      ∙ ap (λ (xs : Texts). let g : Function = record { line = f.line; name = f.name; params = f.params; throws = xs; body = body } in g) (known_back names f.throws k.throws)
      ∙ ap (λ (b : List Stmt). let g : Function = record { line = f.line; name = f.name; params = f.params; throws = f.throws; body = b } in g) (body_is_back f m.body k m.bound).tree

  functions_are_back : (earlier : Texts) (gs : List Function) (rs : List RFunction) → Each (IsKnown form.names) (identifiers gs) → bind_functions (with_names fs form) earlier gs ≡ Ok rs → map (function_named form) rs ≡ gs
  functions_are_back earlier [] rs h e = let none : [] ≡ rs = cc in ap (map (function_named form)) (sym none)
  functions_are_back earlier (g ∷ gs) rs h e =
      let p = first_ok (bind_function (with_names fs form) earlier g) _ rs e in
      let q = first_ok (bind_functions (with_names fs form) (earlier ++ g.name ∷ []) gs) _ rs p.2 in
      let same : p.0 ∷ q.0 ≡ rs = cc in
      let m = is_made (with_names fs form) earlier g p.0 p.1 in
      ap (map (function_named form)) (sym same)
      ∙ ap (λ y. y ∷ map (function_named form) q.0) (function_is_back g p.0 (function_known form.names g (each_of_first (IsKnown form.names) (in_function g) (identifiers gs) h)) m)
      ∙ ap (λ ys. g ∷ ys) (functions_are_back (earlier ++ g.name ∷ []) gs q.0 (each_of_second (IsKnown form.names) (in_function g) (identifiers gs) h) q.1)

  function_hands_on : (f : Function) (r : RFunction) → AllKnown form.names f → IsMade (with_names fs form) f r → All (Handed r) (calls_among r.body)
  function_hands_on f r k m =
      let made = made_function (with_names fs form) f m.body in
      subst (λ (g : RFunction). All (Handed g) (calls_among g.body)) m.made (all_of_each (Handed made) (calls_among m.body.tree) (body_is_back f m.body k m.bound).calls)

  functions_hand_on : (earlier : Texts) (gs : List Function) (rs : List RFunction) → Each (IsKnown form.names) (identifiers gs) → bind_functions (with_names fs form) earlier gs ≡ Ok rs
      → All (λ (r : RFunction). All (Handed r) (calls_among r.body)) rs
  functions_hand_on earlier [] rs h e =
      let none : [] ≡ rs = cc in subst (λ (l : List RFunction). All (λ (r : RFunction). All (Handed r) (calls_among r.body)) l) none (All-nil (λ (r : RFunction). All (Handed r) (calls_among r.body)))
  functions_hand_on earlier (g ∷ gs) rs h e =
      let p = first_ok (bind_function (with_names fs form) earlier g) _ rs e in
      let q = first_ok (bind_functions (with_names fs form) (earlier ++ g.name ∷ []) gs) _ rs p.2 in
      let same : p.0 ∷ q.0 ≡ rs = cc in
      let m = is_made (with_names fs form) earlier g p.0 p.1 in
      subst (λ (l : List RFunction). All (λ (r : RFunction). All (Handed r) (calls_among r.body)) l) same
      (All-cons (λ (r : RFunction). All (Handed r) (calls_among r.body)) p.0 q.0
      (function_hands_on g p.0 (function_known form.names g (each_of_first (IsKnown form.names) (in_function g) (identifiers gs) h)) m)
      (functions_hand_on (earlier ++ g.name ∷ []) gs q.0 (each_of_second (IsKnown form.names) (in_function g) (identifiers gs) h) q.1))

-- the form of a program, with its own list of names
record IsFormOf (p : Program) (form : Form) : Type 0 where
  known : Each (IsKnown form.names) (identifiers p.functions)
  bound : bind_functions (with_names p.functions form) [] p.functions ≡ Ok form.functions

is_form_of : (p : Program) (form : Form) → bind_program p ≡ Ok form → IsFormOf p form
is_form_of p form e =
    let f = is_form p form e in
    record {
      known = subst (λ (names : Texts). Each (IsKnown names) (identifiers p.functions)) f.names (identifiers_known p.functions);
      bound = subst (λ (names : Texts). let w : Whole = record { functions = p.functions; names = names } in bind_functions w [] p.functions ≡ Ok form.functions) f.names f.bound;
    }

pub names_put_back_give_the_functions : (p : Program) (form : Form) → bind_program p ≡ Ok form → functions_named form ≡ p.functions
names_put_back_give_the_functions p form e = let f = is_form_of p form e in functions_are_back p.functions form f.known f.bound [] p.functions form.functions f.known f.bound

pub calls_hand_on_what_is_thrown : (p : Program) (form : Form) → bind_program p ≡ Ok form → AllHandOn form
calls_hand_on_what_is_thrown p form e = let f = is_form_of p form e in functions_hand_on p.functions form f.known f.bound [] p.functions form.functions f.known f.bound
