-- A call binds as before with its names replaced.
use Rattle.std.proofs.Common.{ℕ, ◌≡◌, ◌∙◌, List, [], ◌∷◌, Option, Some, None, Result, Ok, Bool, true, false, map, length, refl, ap}
use Rattle.std.specs.Prelude.{nat_eq, position}
use Rattle.std.specs.Option.{option_map}
use Rattle.std.specs.Str.{bytes_eq}
use Rattle.std.proofs.lemmas.List.{length-map}
use Rattle.shim_syntax.specs.declared.tree.Expr.{Expr}
use Rattle.shim_syntax.specs.declared.tree.Call.{Call as CallOf}
use Rattle.shim_syntax.specs.declared.tree.Param.{Param}
use Rattle.shim_syntax.specs.declared.tree.Function.{Function}
use Rattle.shim_scopes.specs.declared.tree.RCall.{RCall}
use Rattle.shim_scopes.specs.declared.tree.UExpr.{UExpr}
use Rattle.shim_scopes.specs.declared.fault.ScopeKind.TheVariants.{UnknownName, UnknownException, Arity, WrongKind}
use Rattle.shim_scopes.specs.declared.scope.Bound.{Bound}
use Rattle.shim_scopes.specs.declared.scope.LocalDeclaration.{LocalDeclaration}
use Rattle.shim_scopes.specs.declared.scope.Handled.{Handled}
use Rattle.shim_syntax.specs.Names.{Texts, position_else}
use Rattle.shim_scopes.specs.Binding.{binding_of, bare, unknown_in_all, placed_all, exception_number}
use Rattle.shim_scopes.specs.Refusals.{Refusal}
use Rattle.shim_scopes.specs.Statements.{Whole, Around, Before, visible}
use Rattle.shim_scopes.specs.Calls.{function_number, function_of, unhandled_of_all, sort_fits, if_false, wrong_ref, wrong_by, wrong_in_all, bind_known, bind_call, bind_called}
use Rattle.shim_up.specs.Renaming.{Renaming, renamed_expr, renamed_call, renamed_param, renamed_function, renamed_functions}
use Rattle.shim_laws_up.specs.Around.{local_renamed, handled_renamed, whole_renamed, around_renamed, before_renamed, bound_renamed, answer_renamed, Follows}
use Rattle.shim_laws_up.proofs.Around.{refused, followed}
use Rattle.shim_laws_up.proofs.Names.{both_or, find_same, position_same, binding_same, unhandled_same, number_same}
use Rattle.shim_laws_up.proofs.Exprs.{expr_is, all_unknown, all_placed}
use Rattle.shim_laws_up.proofs.Statements.{seen}

module _ (f : Renaming) (same : (x y : List ℕ) → bytes_eq (f x) (f y) ≡ bytes_eq x y) where
  abbrev locals : List LocalDeclaration → List LocalDeclaration
  locals around = map (local_renamed f) around

  function_of_same : (fs : List Function) (x : List ℕ) → function_of (renamed_functions f fs) (f x) ≡ option_map (renamed_function f) (function_of fs x)
  function_of_same fs x = find_same f same (λ (g : Function). g.name) (λ (g : Function). g.name) (renamed_function f) (λ g. refl) x fs

  function_number_same : (fs : List Function) (x : List ℕ) → function_number (renamed_functions f fs) (f x) ≡ function_number fs x
  function_number_same fs x =
      ap (λ (o : Option ℕ). position_else (length (renamed_functions f fs)) o) (position_same f same (λ (g : Function). g.name) (λ (g : Function). g.name) (renamed_function f) (λ g. refl) x fs)
      ∙ ap (λ (l : ℕ). position_else l (position (λ (g : Function). bytes_eq g.name x) fs)) (length-map fs (renamed_function f))

  unhandled_all_same : (around : List Handled) (xs : Texts) → unhandled_of_all (map (handled_renamed f) around) (map f xs) ≡ option_map f (unhandled_of_all around xs)
  unhandled_all_same around [] = refl
  unhandled_all_same around (x ∷ xs) = both_or f _ _ _ _ (unhandled_same f same around x) (unhandled_all_same around xs)

  numbers_same : (around : List Handled) (xs : Texts) → map (exception_number (map (handled_renamed f) around)) (map f xs) ≡ map (exception_number around) xs
  numbers_same around [] = refl
  numbers_same around (x ∷ xs) = ap (λ (n : ℕ). n ∷ map (exception_number (map (handled_renamed f) around)) (map f xs)) (number_same f same around x) ∙ ap (λ (ns : List ℕ). exception_number around x ∷ ns) (numbers_same around xs)

  pub if_false_renamed : (x : List ℕ) (b : Bool) → if_false (f x) b ≡ option_map f (if_false x b)
  if_false_renamed x true = refl
  if_false_renamed x false = refl

  wrong_ref_same : (around : List LocalDeclaration) (p : Param) (o : Option (List ℕ)) → wrong_ref (locals around) (renamed_param f p) (option_map f o) ≡ option_map f (wrong_ref around p o)
  wrong_ref_same around p None = refl
  wrong_ref_same around p (Some x) = ap (λ (o : Option Bound). if_false (f x) (sort_fits p.sort o)) (binding_same f same around x) ∙ if_false_renamed x (sort_fits p.sort (binding_of x around))

  wrong_by_same : (r : Bool) (around : List LocalDeclaration) (p : Param) (e : Expr) → wrong_by r (locals around) (renamed_param f p) (renamed_expr f e) ≡ option_map f (wrong_by r around p e)
  wrong_by_same true around p e = ap (wrong_ref (locals around) (renamed_param f p)) ((expr_is f same e).bare) ∙ wrong_ref_same around p (bare e)
  wrong_by_same false around p e = (expr_is f same e).stream around

  wrong_all_same : (around : List LocalDeclaration) (ps : List Param) (es : List Expr) → wrong_in_all (locals around) (map (renamed_param f) ps) (map (renamed_expr f) es) ≡ option_map f (wrong_in_all around ps es)
  wrong_all_same around [] es = refl
  wrong_all_same around (p ∷ ps) [] = refl
  wrong_all_same around (p ∷ ps) (e ∷ es) = both_or f _ _ _ _ (wrong_by_same p.by_ref around p e) (wrong_all_same around ps es)

  counts_same : (es : List Expr) (ps : List Param) → nat_eq (length (map (renamed_expr f) es)) (length (map (renamed_param f) ps)) ≡ nat_eq (length es) (length ps)
  counts_same es ps = ap (λ (n : ℕ). nat_eq n (length (map (renamed_param f) ps))) (length-map es (renamed_expr f)) ∙ ap (λ (n : ℕ). nat_eq (length es) n) (length-map ps (renamed_param f))

  seen_by : Around → Before → List LocalDeclaration
  seen_by a b = visible (around_renamed f a) (before_renamed f b)

  known_follows : (o : Option Function) (fs : List Function) (c : CallOf) (line : ℕ) (a : Around) (b : Before)
      → bind_known (option_map (renamed_function f) o) (renamed_functions f fs) (renamed_call f c) line (around_renamed f a) (before_renamed f b) ≡ answer_renamed f (λ (r : RCall). r) (bind_known o fs c line a b)
  known_follows None fs c line a b = refl
  known_follows (Some g) fs c line a b =
      refused f (λ (r : RCall). r) line UnknownException _ _ _ _ (unhandled_all_same a.handled g.throws)
      (refused f (λ (r : RCall). r) line Arity _ _ _ _ (ap (if_false (f c.function)) (counts_same c.args g.params) ∙ if_false_renamed c.function (nat_eq (length c.args) (length g.params)))
      (refused f (λ (r : RCall). r) line WrongKind _ _ _ _ (ap (λ ls. wrong_in_all ls (map (renamed_param f) g.params) (map (renamed_expr f) c.args)) (seen f same a b) ∙ wrong_all_same (visible a b) g.params c.args)
      (ap (λ (n : ℕ). let r : RCall = record { function = n; args = placed_all (visible (around_renamed f a) (before_renamed f b)) (map (renamed_expr f) c.args); throws = map (exception_number (map (handled_renamed f) a.handled)) (map f g.throws) } in answer r) (function_number_same fs c.function)
      ∙ ap (λ (us : List UExpr). let r : RCall = record { function = function_number fs c.function; args = us; throws = map (exception_number (map (handled_renamed f) a.handled)) (map f g.throws) } in answer r)
      (ap (λ ls. placed_all ls (map (renamed_expr f) c.args)) (seen f same a b) ∙ all_placed f same (visible a b) c.args)
      ∙ ap (λ (ns : List ℕ). let r : RCall = record { function = function_number fs c.function; args = placed_all (visible a b) c.args; throws = ns } in answer r) (numbers_same a.handled g.throws)))) where
        answer : RCall → Result RCall Refusal
        answer r = Ok r

  call_follows : (w : Whole) (c : CallOf) (line : ℕ) (a : Around) (b : Before) → bind_call (whole_renamed f w) (renamed_call f c) line (around_renamed f a) (before_renamed f b) ≡ answer_renamed f (λ (r : RCall). r) (bind_call w c line a b)
  call_follows w c line a b =
      refused f (λ (r : RCall). r) line UnknownName _ _ _ _ (ap (λ ls. unknown_in_all ls (map (renamed_expr f) c.args)) (seen f same a b) ∙ all_unknown f same (visible a b) c.args)
      (ap (λ (o : Option Function). bind_known o (renamed_functions f w.functions) (renamed_call f c) line (around_renamed f a) (before_renamed f b)) (function_of_same w.functions c.function)
      ∙ known_follows (function_of w.functions c.function) w.functions c line a b)

  pub called_follows : {T : Type 0} (g : RCall → T) (w : Whole) (c : CallOf) (line : ℕ) → Follows f (bind_called g w c line) (bind_called g (whole_renamed f w) (renamed_call f c) line)
  called_follows g w c line a b = followed f (λ (r : RCall). r) (bound_renamed f) (bind_call w c line a b) _ _ _ (call_follows w c line a b) (λ r. refl)
