-- What the functions of a program are bound to, and the whole program. The functions are examined in textual order, each header before its body, and `main` is looked for last.
use Rattle.std.specs.Prelude.{ℕ, List, [], ◌∷◌, ◌++◌, Option, Some, None, Result, Ok, Err, Bool, true, false, map, length, position, codes, ◌&&◌, ◌||◌, not}
use Rattle.std.specs.List.{find}
use Rattle.std.specs.Option.{option_or}
use Rattle.std.specs.Str.{bytes_eq}
use Rattle.shim_syntax.specs.declared.tree.Sort.TheVariants.{Value, Input, Output}
use Rattle.shim_syntax.specs.declared.tree.Param.{Param}
use Rattle.shim_syntax.specs.declared.tree.Function.{Function}
use Rattle.shim_syntax.specs.declared.tree.Program.{Program}
use Rattle.shim_scopes.specs.declared.tree.RStmt.{RStmt}
use Rattle.shim_scopes.specs.declared.tree.UParam.{UParam}
use Rattle.shim_scopes.specs.declared.tree.RFunction.{RFunction}
use Rattle.shim_scopes.specs.declared.form.Form.{Form}
use Rattle.shim_scopes.specs.declared.fault.ScopeKind.TheVariants.{Twice, NoMain, MainParameters}
use Rattle.shim_scopes.specs.declared.scope.Handled.{Handled}
use Rattle.shim_syntax.specs.Names.{Texts, name_index, param_names, with_functions}
use Rattle.shim_scopes.specs.Refusals.{Refusal, and_then, refused_for}
use Rattle.shim_scopes.specs.Statements.{Whole, Before, BoundTo, with_declaration}
use Rattle.shim_scopes.specs.Calls.{if_false}
use Rattle.shim_scopes.specs.Bodies.{bind_stmts}

-- the name `x`, where there is a name
abbrev pub if_name : List ℕ → Option (List ℕ) → Option (List ℕ)
if_name x None = None
if_name x (Some n) = Some x

-- the name, where it is among those of `seen`
abbrev pub name_in : Texts → List ℕ → Option (List ℕ)
name_in seen x = if_name x (find (λ n. bytes_eq n x) seen)

-- the leftmost name of a list that stands among `seen` or earlier in the list
abbrev pub twice_after : Texts → Texts → Option (List ℕ)
twice_after seen [] = None
twice_after seen (x ∷ xs) = option_or (name_in seen x) (twice_after (seen ++ x ∷ []) xs)

-- Whether these may be further parameters of `main`, which takes at most one input stream, one output stream and nothing else. `input` and `output` say which of the two came before.
abbrev pub suits_main : Bool → Bool → List Param → Bool
suits_main input output [] = true
suits_main input output (p ∷ ps) = elim p.sort [
  | Value ty ↦ false
  | Input ↦ not input && suits_main true output ps
  | Output ↦ not output && suits_main input true ps
]

-- the name of the function, where it is `main` with parameters that `main` may not take
abbrev pub wrong_main : Function → Option (List ℕ)
wrong_main f = if_false f.name (not (bytes_eq f.name (codes "main")) || suits_main false false f.params)

-- what is before the next place once the parameter has the next slot
abbrev pub with_param : Texts → Before → Param → Before
with_param names b p = with_declaration names p.name p.sort b

-- the same of some parameters, in their order
abbrev pub params_from : Texts → Before → List Param → Before
params_from names b [] = b
params_from names b (p ∷ ps) = params_from names (with_param names b p) ps

-- a parameter with the number of its name in place of the name
abbrev pub placed_param : Texts → Param → UParam
placed_param names p = record { sort = p.sort; by_ref = p.by_ref; name = name_index names p.name }

abbrev pub placed_params : Texts → List Param → List UParam
placed_params names ps = map (placed_param names) ps

-- The exceptions around, and after them one for each name. The number of each new one is how many precede it.
abbrev pub handled_from : List Handled → Texts → List Handled
handled_from around [] = around
handled_from around (x ∷ xs) = handled_from (around ++ record { name = x; number = length around } ∷ []) xs

-- the number of each of these names among `names`
abbrev pub numbers_of : Texts → Texts → List ℕ
numbers_of names xs = map (name_index names) xs

-- what is before the first parameter of a function: no declaration and no `try`
abbrev pub function_begin : Before
function_begin = record { own = []; slots = []; slot_names = []; tries = [] }

-- the form of a function, by what its body is bound to
abbrev pub made_function : Whole → Function → BoundTo (List RStmt) → RFunction
made_function w f r = record {
  line = f.line;
  name = name_index w.names f.name;
  params = placed_params w.names f.params;
  slots = r.before.slots;
  slot_names = r.before.slot_names;
  throws = numbers_of w.names f.throws;
  tries = r.before.tries;
  body = r.tree;
}

-- The form of a function, or its first place that is refused; `earlier` are the names of the functions before it. The body's own block begins with the parameters, and it may not declare their names again.
unfoldable pub bind_function : Whole → Texts → Function → Result RFunction Refusal
bind_function w earlier f =
    refused_for f.line Twice (name_in earlier f.name)
    (refused_for f.line Twice (twice_after [] (param_names f.params))
    (refused_for f.line Twice (twice_after [] f.throws)
    (refused_for f.line MainParameters (wrong_main f)
    (and_then (bind_stmts w f.body
    (record { outer = []; handled = handled_from [] f.throws; throws = length f.throws })
    (params_from w.names function_begin f.params))
    (λ r. Ok (made_function w f r))))))

-- the forms of the functions that follow those named `earlier`, or the first place in them that is refused
abbrev pub bind_functions : Whole → Texts → List Function → Result (List RFunction) Refusal
bind_functions w earlier [] = Ok []
bind_functions w earlier (f ∷ fs) =
    and_then (bind_function w earlier f) (λ r. and_then (bind_functions w (earlier ++ f.name ∷ []) fs) (λ rs. Ok (r ∷ rs)))

-- the number of `main`, or the refusal of a program that has none
abbrev pub main_at : Option ℕ → Result ℕ Refusal
main_at None = Err (record { line = 1; kind = NoMain; name = codes "main" })
main_at (Some main) = Ok main

-- the number of the first function named `main`, or the refusal where there is none
abbrev pub main_of : List Function → Result ℕ Refusal
main_of fs = main_at (position (λ (f : Function). bytes_eq f.name (codes "main")) fs)

-- the resolved form of a program, or the first of its places that is refused
abbrev pub bind_program : Program → Result Form Refusal
bind_program p =
    let names = with_functions p.functions [] in
    and_then (bind_functions (record { functions = p.functions; names = names }) [] p.functions) (λ fs.
    and_then (main_of p.functions) (λ main.
    Ok (record { functions = fs; names = names; main = main })))
