-- A program binds as before with its names replaced.
use Rattle.std.proofs.Common.{ℕ, ◌≡◌, ◌∙◌, List, [], ◌∷◌, ◌++◌, Option, Some, None, Result, Ok, Err, Bool, true, false, not, ◌&&◌, ◌||◌, map, length, refl, sym, ap}
use Rattle.std.specs.Prelude.{position, codes}
use Rattle.std.specs.List.{find}
use Rattle.std.specs.Option.{option_map}
use Rattle.std.specs.Str.{bytes_eq}
use Rattle.std.proofs.lemmas.List.{map-append, length-map}
use Rattle.shim_syntax.specs.declared.tree.Sort.{Sort}
use Rattle.shim_syntax.specs.declared.tree.Sort.TheVariants.{Value, Input, Output}
use Rattle.shim_syntax.specs.declared.tree.Param.{Param}
use Rattle.shim_syntax.specs.declared.tree.Function.{Function}
use Rattle.shim_syntax.specs.declared.tree.Program.{Program}
use Rattle.shim_syntax.specs.Names.{Texts, name_index, param_names, with_functions}
use Rattle.shim_scopes.specs.declared.tree.RStmt.{RStmt}
use Rattle.shim_scopes.specs.declared.tree.UParam.{UParam}
use Rattle.shim_scopes.specs.declared.tree.RFunction.{RFunction}
use Rattle.shim_scopes.specs.declared.form.Form.{Form}
use Rattle.shim_scopes.specs.declared.fault.ScopeKind.TheVariants.{Twice, NoMain, MainParameters}
use Rattle.shim_scopes.specs.declared.scope.Handled.{Handled}
use Rattle.shim_scopes.specs.Refusals.{Refusal, and_then}
use Rattle.shim_scopes.specs.Statements.{Whole, Around, Before, BoundTo}
use Rattle.shim_scopes.specs.Calls.{if_false}
use Rattle.shim_scopes.specs.Bodies.{bind_stmts}
use Rattle.shim_scopes.specs.Functions.{if_name, name_in, twice_after, suits_main, wrong_main, with_param, params_from, placed_param, placed_params, handled_from, numbers_of, function_begin, made_function, bind_function, bind_functions, main_at, main_of, bind_program}
use Rattle.shim_up.specs.Renaming.{Renaming, renamed_stmt, renamed_param, renamed_function, renamed_functions, renamed}
use Rattle.shim_laws_up.specs.Around.{handled_renamed, whole_renamed, around_renamed, before_renamed, bound_renamed, answer_renamed, form_renamed}
use Rattle.shim_laws_up.proofs.Around.{refused, followed}
use Rattle.shim_laws_up.proofs.Names.{both_or, declared_name_same, position_same, number_of_same}
use Rattle.shim_laws_up.proofs.Statements.{declared_same}
use Rattle.shim_laws_up.proofs.Calls.{if_false_renamed}
use Rattle.shim_laws_up.proofs.Bodies.{body_follows}
use Rattle.shim_laws_up.proofs.Identifiers.{names_renamed}

module _ (f : Renaming) (same : (x y : List ℕ) → bytes_eq (f x) (f y) ≡ bytes_eq x y) (main : f (codes "main") ≡ codes "main") where
  if_name_renamed : (x : List ℕ) (o : Option (List ℕ)) → if_name (f x) (option_map f o) ≡ option_map f (if_name x o)
  if_name_renamed x None = refl
  if_name_renamed x (Some n) = refl

  name_in_same : (seen : Texts) (x : List ℕ) → name_in (map f seen) (f x) ≡ option_map f (name_in seen x)
  name_in_same seen x = ap (if_name (f x)) (declared_name_same f same seen x) ∙ if_name_renamed x (find (λ n. bytes_eq n x) seen)

  twice_same : (seen xs : Texts) → twice_after (map f seen) (map f xs) ≡ option_map f (twice_after seen xs)
  twice_same seen [] = refl
  twice_same seen (x ∷ xs) = both_or f _ _ _ _ (name_in_same seen x) (ap (λ l. twice_after l (map f xs)) (sym (map-append f seen (x ∷ []))) ∙ twice_same (seen ++ x ∷ []) xs)

  param_names_same : (ps : List Param) → param_names (map (renamed_param f) ps) ≡ map f (param_names ps)
  param_names_same [] = refl
  param_names_same (p ∷ ps) = ap (λ xs. f p.name ∷ xs) (param_names_same ps)

  abbrev by_sort : Bool → Bool → List Param → Sort → Bool
  by_sort input output ps (Value ty) = false
  by_sort input output ps Input = not input && suits_main true output ps
  by_sort input output ps Output = not output && suits_main input true ps

  suits_by : (input output : Bool) (ps : List Param) → ((i o : Bool) → suits_main i o (map (renamed_param f) ps) ≡ suits_main i o ps) → (s : Sort)
      → by_sort input output (map (renamed_param f) ps) s ≡ by_sort input output ps s
  suits_by input output ps each (Value ty) = refl
  suits_by input output ps each Input = ap (λ b. not input && b) (each true output)
  suits_by input output ps each Output = ap (λ b. not output && b) (each input true)

  suits_same : (input output : Bool) (ps : List Param) → suits_main input output (map (renamed_param f) ps) ≡ suits_main input output ps
  suits_same input output [] = refl
  suits_same input output (p ∷ ps) = suits_by input output ps (λ i o. suits_same i o ps) p.sort

  is_main_same : (x : List ℕ) → bytes_eq (f x) (codes "main") ≡ bytes_eq x (codes "main")
  is_main_same x = ap (λ y. bytes_eq (f x) y) (sym main) ∙ same x (codes "main")

  wrong_main_same : (g : Function) → wrong_main (renamed_function f g) ≡ option_map f (wrong_main g)
  wrong_main_same g =
      ap (λ b. if_false (f g.name) (not b || suits_main false false (map (renamed_param f) g.params))) (is_main_same g.name)
      ∙ ap (λ b. if_false (f g.name) (not (bytes_eq g.name (codes "main")) || b)) (suits_same false false g.params)
      ∙ if_false_renamed f same g.name (not (bytes_eq g.name (codes "main")) || suits_main false false g.params)

  params_same : (names : Texts) (b : Before) (ps : List Param) → params_from (map f names) (before_renamed f b) (map (renamed_param f) ps) ≡ before_renamed f (params_from names b ps)
  params_same names b [] = refl
  params_same names b (p ∷ ps) = ap (λ c. params_from (map f names) c (map (renamed_param f) ps)) (declared_same f same names p.name p.sort b) ∙ params_same names (with_param names b p) ps

  handled_same : (around : List Handled) (xs : Texts) → handled_from (map (handled_renamed f) around) (map f xs) ≡ map (handled_renamed f) (handled_from around xs)
  handled_same around [] = refl
  handled_same around (x ∷ xs) =
      ap (λ (n : ℕ). handled_from (map (handled_renamed f) around ++ record { name = f x; number = n } ∷ []) (map f xs)) (length-map around (handled_renamed f))
      ∙ ap (λ hs. handled_from hs (map f xs)) (sym (map-append (handled_renamed f) around (record { name = x; number = length around } ∷ [])))
      ∙ handled_same (around ++ record { name = x; number = length around } ∷ []) xs

  numbers_same : (names xs : Texts) → numbers_of (map f names) (map f xs) ≡ numbers_of names xs
  numbers_same names [] = refl
  numbers_same names (x ∷ xs) = ap (λ (n : ℕ). n ∷ numbers_of (map f names) (map f xs)) (number_of_same f same names x) ∙ ap (λ (ns : List ℕ). name_index names x ∷ ns) (numbers_same names xs)

  placed_same : (names : Texts) (ps : List Param) → placed_params (map f names) (map (renamed_param f) ps) ≡ placed_params names ps
  placed_same names [] = refl
  placed_same names (p ∷ ps) =
      ap (λ (n : ℕ). let u : UParam = record { sort = p.sort; by_ref = p.by_ref; name = n } in u ∷ placed_params (map f names) (map (renamed_param f) ps)) (number_of_same f same names p.name)
      ∙ ap (λ us. placed_param names p ∷ us) (placed_same names ps)

  abbrev made : Function → BoundTo (List RStmt) → ℕ → List UParam → List ℕ → RFunction
  made g r name params throws = record {
    line = g.line;
    name = name;
    params = params;
    slots = r.before.slots;
    slot_names = r.before.slot_names;
    throws = throws;
    tries = r.before.tries;
    body = r.tree;
  }

  made_same : (w : Whole) (g : Function) (r : BoundTo (List RStmt)) → made_function (whole_renamed f w) (renamed_function f g) (bound_renamed f r) ≡ made_function w g r
  made_same w g r =
      ap (λ (n : ℕ). made g r n (placed_params (map f w.names) (map (renamed_param f) g.params)) (numbers_of (map f w.names) (map f g.throws))) (number_of_same f same w.names g.name)
      ∙ ap (λ us. made g r (name_index w.names g.name) us (numbers_of (map f w.names) (map f g.throws))) (placed_same w.names g.params)
      ∙ ap (λ (ns : List ℕ). made g r (name_index w.names g.name) (placed_params w.names g.params) ns) (numbers_same w.names g.throws)

  abbrev around_body : Texts → Around
  around_body xs = record { outer = []; handled = handled_from [] xs; throws = length xs }

  around_same : (xs : Texts) → around_body (map f xs) ≡ around_renamed f (around_body xs)
  around_same xs =
      ap (λ hs. let a : Around = record { outer = []; handled = hs; throws = length (map f xs) } in a) (handled_same [] xs)
      ∙ ap (λ (n : ℕ). let a : Around = record { outer = []; handled = map (handled_renamed f) (handled_from [] xs); throws = n } in a) (length-map xs f)

  function_follows : (w : Whole) (earlier : Texts) (g : Function) → bind_function (whole_renamed f w) (map f earlier) (renamed_function f g) ≡ answer_renamed f (λ (r : RFunction). r) (bind_function w earlier g)
  unfolding bind_function
  function_follows w earlier g =
      refused f (λ (r : RFunction). r) g.line Twice _ _ _ _ (name_in_same earlier g.name)
      (refused f (λ (r : RFunction). r) g.line Twice _ _ _ _ (ap (twice_after []) (param_names_same g.params) ∙ twice_same [] (param_names g.params))
      (refused f (λ (r : RFunction). r) g.line Twice _ _ _ _ (twice_same [] g.throws)
      (refused f (λ (r : RFunction). r) g.line MainParameters _ _ _ _ (wrong_main_same g)
      (followed f (bound_renamed f) (λ (r : RFunction). r) (bind_stmts w g.body (around_body g.throws) (params_from w.names function_begin g.params)) _ _ _
      (ap (λ a. bind_stmts (whole_renamed f w) (map (renamed_stmt f) g.body) a (params_from (map f w.names) function_begin (map (renamed_param f) g.params))) (around_same g.throws)
      ∙ ap (λ b. bind_stmts (whole_renamed f w) (map (renamed_stmt f) g.body) (around_renamed f (around_body g.throws)) b) (params_same w.names function_begin g.params)
      ∙ body_follows f same w g.body (around_body g.throws) (params_from w.names function_begin g.params))
      (λ r. ap Ok (made_same w g r))))))

  functions_follow : (w : Whole) (earlier : Texts) (fs : List Function)
      → bind_functions (whole_renamed f w) (map f earlier) (renamed_functions f fs) ≡ answer_renamed f (λ (r : List RFunction). r) (bind_functions w earlier fs)
  functions_follow w earlier [] = refl
  functions_follow w earlier (g ∷ fs) =
      followed f (λ (r : RFunction). r) (λ (r : List RFunction). r) (bind_function w earlier g) _ _ _ (function_follows w earlier g) (λ r.
      followed f (λ (r : List RFunction). r) (λ (r : List RFunction). r) (bind_functions w (earlier ++ g.name ∷ []) fs) _ _ _
      (ap (λ l. bind_functions (whole_renamed f w) l (renamed_functions f fs)) (sym (map-append f earlier (g.name ∷ []))) ∙ functions_follow w (earlier ++ g.name ∷ []) fs) (λ rs. refl))

  main_at_renamed : (o : Option ℕ) → main_at o ≡ answer_renamed f (λ (n : ℕ). n) (main_at o)
  main_at_renamed None = ap (λ x. let r : Refusal = record { line = 1; kind = NoMain; name = x } in Err r) (sym main)
  main_at_renamed (Some n) = refl

  main_follows : (fs : List Function) → main_of (renamed_functions f fs) ≡ answer_renamed f (λ (n : ℕ). n) (main_of fs)
  main_follows fs =
      ap (λ x. main_at (position (λ (g : Function). bytes_eq g.name x) (renamed_functions f fs))) (sym main)
      ∙ ap main_at (position_same f same (λ (g : Function). g.name) (λ (g : Function). g.name) (renamed_function f) (λ g. refl) (codes "main") fs)
      ∙ main_at_renamed (position (λ (g : Function). bytes_eq g.name (codes "main")) fs)

  abbrev rest : List Function → Texts → Result Form Refusal
  rest fs names =
      and_then (bind_functions (record { functions = fs; names = names }) [] fs) (λ rs. and_then (main_of fs) (λ main. Ok (record { functions = rs; names = names; main = main })))

  rest_follows : (fs : List Function) (names : Texts) → rest (renamed_functions f fs) (map f names) ≡ answer_renamed f (form_renamed f) (rest fs names)
  rest_follows fs names =
      followed f (λ (r : List RFunction). r) (form_renamed f) (bind_functions (record { functions = fs; names = names }) [] fs) _ _ _ (functions_follow (record { functions = fs; names = names }) [] fs) (λ rs.
      followed f (λ (n : ℕ). n) (form_renamed f) (main_of fs) _ _ _ (main_follows fs) (λ n. refl))

  -- the whole program
  pub program_follows : (p : Program) → bind_program (renamed f p) ≡ answer_renamed f (form_renamed f) (bind_program p)
  program_follows p = ap (λ names. rest (renamed_functions f p.functions) names) (names_renamed f same p.functions) ∙ rest_follows p.functions (with_functions p.functions [])
