-- The functions of a bound program are bound by the rules of lexical scope.
use Rattle.std.proofs.Common.{ℕ, suc, ◌+◌, ◌≡◌, ◌∙◌, List, [], ◌∷◌, ◌++◌, Ok, length, refl, sym, ap, subst, arith, append_assoc, length-append, Option, Some, None, true}
use Rattle.std.proofs.lemmas.List.{append-nil, length-map}
use Rattle.std.specs.Prelude.{codes, slice_get, position}
use Rattle.std.specs.Str.{bytes_eq}
use Rattle.std.proofs.lemmas.Slice.Eq.{bytes_eq-Decides}
use Rattle.shim_syntax.specs.declared.tree.Param.{Param}
use Rattle.shim_syntax.specs.declared.tree.Function.{Function}
use Rattle.shim_syntax.specs.declared.tree.Program.{Program}
use Rattle.shim_scopes.specs.declared.form.Form.{Form}
use Rattle.shim_scopes.specs.declared.scope.Handled.{Handled}
use Rattle.shim_scopes.specs.declared.tree.RFunction.{RFunction}
use Rattle.shim_syntax.specs.Names.{Texts, name_index}
use Rattle.shim_scopes.specs.Statements.{Whole, Before, local_of}
use Rattle.shim_scopes.specs.Functions.{with_param, params_from, handled_from, function_begin, bind_function, bind_functions, bind_program, main_at}
use Rattle.shim_laws_binding.specs.LexicalScope.{Pairwise, Point, params_around, throws_around, body_begins, BindsStmts, BindsFunction, BindsProgram}
use Rattle.shim_laws_binding.proofs.Known.{position_stands}
use Rattle.shim_laws_binding.proofs.ScopeExprs.{point}
use Rattle.shim_laws_binding.proofs.ScopeParts.{same_point}
use Rattle.shim_laws_binding.proofs.ScopeStmts.{body_by_rules}
use Rattle.shim_laws_binding.proofs.TextOrderLemmas.{around_body, IsMade, is_made, whole_of, is_form}
use Rattle.shim_scopes.proofs.Refusals.{first_ok}

-- what the parameters add to what stands before them
record WithParams (names : Texts) (b : Before) (ps : List Param) : Type 0 where
  own : (params_from names b ps).own ≡ b.own ++ params_around (length b.slots) ps
  slots : length (params_from names b ps).slots ≡ length b.slots + length ps
  tries : (params_from names b ps).tries ≡ b.tries

with_params : (names : Texts) (ps : List Param) (b : Before) → WithParams names b ps
with_params names [] b = record { own = sym (append-nil b.own); slots = omega arith; tries = refl }
with_params names (p ∷ ps) b =
    let longer : length (with_param names b p).slots ≡ suc (length b.slots) = omega (arith, length-append b.slots (p.sort ∷ [])) in
    let rest = with_params names ps (with_param names b p) in
    record {
      own = rest.own ∙ ap (λ i. (with_param names b p).own ++ params_around i ps) longer
          ∙ append_assoc b.own (local_of p.name p.sort (length b.slots) ∷ []) (params_around (suc (length b.slots)) ps);
      slots = omega (arith, rest.slots, longer);
      tries = rest.tries;
    }

abbrev handled_at : List ℕ → ℕ → Handled
handled_at x number = record { name = x; number = number }

with_throws : (xs : Texts) (around : List Handled) → handled_from around xs ≡ around ++ throws_around (length around) xs
with_throws [] around = sym (append-nil around)
with_throws (x ∷ xs) around =
    let longer : length (around ++ handled_at x (length around) ∷ []) ≡ suc (length around) = omega (arith, length-append around (handled_at x (length around) ∷ [])) in
    with_throws xs (around ++ handled_at x (length around) ∷ []) ∙ ap (λ i. (around ++ handled_at x (length around) ∷ []) ++ throws_around i xs) longer
    ∙ append_assoc around (handled_at x (length around) ∷ []) (throws_around (suc (length around)) xs)

point_begins : (names : Texts) (f : Function) → point (around_body f) (params_from names function_begin f.params) ≡ body_begins f
point_begins names f =
    let p = with_params names f.params function_begin in
    same_point (params_from names function_begin f.params).own (params_around 0 f.params) (handled_from [] f.throws) (throws_around 0 f.throws)
    (length (params_from names function_begin f.params).slots) (length f.params) (length f.throws + length (params_from names function_begin f.params).tries) (length f.throws)
    p.own (with_throws f.throws []) (omega (arith, p.slots)) (omega (arith, ap length p.tries))

function_bound : (w : Whole) (f : Function) (r : RFunction) → IsMade w f r → BindsFunction w.functions f r
function_bound w f r m =
    let before = params_from w.names function_begin f.params in
    let body = subst (λ (x : Point). BindsStmts w.functions x f.body m.body.tree (point (around_body f) m.body.before)) (point_begins w.names f) (body_by_rules w f.body (around_body f) before m.body m.bound) in
    subst (λ (x : RFunction). BindsFunction w.functions f x) m.made
    (record { end = point (around_body f) m.body.before; body = body; slots = refl; exceptions = omega (arith, length-map f.throws (name_index w.names)) })

functions_bound : (w : Whole) (earlier : Texts) (fs : List Function) (rs : List RFunction) → bind_functions w earlier fs ≡ Ok rs → Pairwise (BindsFunction w.functions) fs rs
functions_bound w earlier [] rs e = let none : [] ≡ rs = cc in subst (λ (l : List RFunction). Pairwise (BindsFunction w.functions) [] l) none tt
functions_bound w earlier (f ∷ fs) rs e =
    let p = first_ok (bind_function w earlier f) _ rs e in
    let q = first_ok (bind_functions w (earlier ++ f.name ∷ []) fs) _ rs p.2 in
    let same : p.0 ∷ q.0 ≡ rs = cc in
    subst (λ (l : List RFunction). Pairwise (BindsFunction w.functions) (f ∷ fs) l) same
    (function_bound w f p.0 (is_made w earlier f p.0 p.1), functions_bound w (earlier ++ f.name ∷ []) fs q.0 q.1)

main_stands : (fs : List Function) (o : Option ℕ) (main : ℕ) → position (λ (f : Function). bytes_eq f.name (codes "main")) fs ≡ o → main_at o ≡ Ok main
    → (f : Function) × (slice_get fs main ≡ Some f) × (bytes_eq f.name (codes "main") ≡ true)
main_stands fs None main e h = absurd (cc h)
main_stands fs (Some n) main e h = let same : n ≡ main = cc h in position_stands (λ (f : Function). bytes_eq f.name (codes "main")) fs main (e ∙ ap Some same)

pub names_mean_the_innermost : (p : Program) (form : Form) → bind_program p ≡ Ok form → BindsProgram p form
names_mean_the_innermost p form e =
    let f = is_form p form e in
    let main = main_stands p.functions (position (λ (f : Function). bytes_eq f.name (codes "main")) p.functions) form.main refl f.main in
    record { functions = functions_bound (whole_of p) [] p.functions form.functions f.bound; main = main.0; begins = main.1; named = (bytes_eq-Decides main.0.name (codes "main")).0 main.2 }
