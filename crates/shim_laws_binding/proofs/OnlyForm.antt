-- What the rules of lexical scope allow for a program that has a form is that form.
use Rattle.std.proofs.Common.{ℕ, zero, suc, ◌≡◌, ◌∙◌, List, [], ◌∷◌, ◌++◌, Option, Some, None, Ok, Bool, true, false, cond, refl, sym, ap, subst}
use Rattle.std.specs.Prelude.{slice_get}
use Rattle.std.specs.List.{find}
use Rattle.std.specs.Str.{bytes_eq}
use Rattle.std.proofs.lemmas.List.Folds.{find-append}
use Rattle.std.proofs.lemmas.Slice.Eq.{bytes_eq-Decides}
use Rattle.shim_syntax.specs.declared.tree.Function.{Function}
use Rattle.shim_syntax.specs.declared.tree.Program.{Program}
use Rattle.shim_scopes.specs.declared.fault.ScopeKind.TheVariants.{Twice}
use Rattle.shim_scopes.specs.declared.form.Form.{Form}
use Rattle.shim_scopes.specs.declared.tree.RFunction.{RFunction}
use Rattle.shim_scopes.specs.declared.tree.RStmt.{RStmt}
use Rattle.shim_scopes.specs.declared.tree.UParam.{UParam}
use Rattle.shim_laws_binding.specs.TextOrder.{IsInTextOrder, AreInTextOrder}
use Rattle.shim_syntax.specs.declared.tree.Sort.{Sort}
use Rattle.shim_syntax.specs.Names.{Texts}
use Rattle.shim_scopes.specs.Statements.{Whole}
use Rattle.shim_scopes.specs.Calls.{function_number, function_of}
use Rattle.shim_scopes.specs.Functions.{if_name, name_in, bind_function, bind_functions, bind_program}
use Rattle.shim_laws_binding.specs.LexicalScope.{Pairwise, BindsFunction, BindsProgram}
use Rattle.shim_laws_binding.proofs.Bound.{asked}
use Rattle.shim_laws_binding.proofs.Determined.{HaveNumbers, one_body}
use Rattle.shim_laws_binding.proofs.Known.{function_named, function_stands_at}
use Rattle.shim_laws_binding.proofs.Lists.{neither}
use Rattle.shim_laws_binding.proofs.ScopeFunctions.{names_mean_the_innermost}
use Rattle.shim_laws_binding.proofs.TextOrderLemmas.{whole_of, is_form, slots_are_in_text_order}
use Rattle.shim_scopes.proofs.Refusals.{first_ok}

-- none of these functions has an earlier name, or one of another's
abbrev AreApart : Texts → List Function → Type 0
AreApart earlier [] = Unit {0}
AreApart earlier (f ∷ fs) = (find (λ n. bytes_eq n f.name) earlier ≡ None) × AreApart (earlier ++ f.name ∷ []) fs

none_found : (x : List ℕ) (o : Option (List ℕ)) → if_name x o ≡ None → o ≡ None
none_found x None e = refl
none_found x (Some n) e = absurd (cc e)

is_apart : (w : Whole) (earlier : Texts) (f : Function) (r : RFunction) → bind_function w earlier f ≡ Ok r → find (λ n. bytes_eq n f.name) earlier ≡ None
unfolding bind_function
is_apart w earlier f r h = none_found f.name (find (λ n. bytes_eq n f.name) earlier) (asked f.line Twice (name_in earlier f.name) _ r h)

are_apart : (w : Whole) (earlier : Texts) (fs : List Function) (rs : List RFunction) → bind_functions w earlier fs ≡ Ok rs → AreApart earlier fs
are_apart w earlier [] rs e = tt
are_apart w earlier (f ∷ fs) rs e =
    let p = first_ok (bind_function w earlier f) _ rs e in
    let q = first_ok (bind_functions w (earlier ++ f.name ∷ []) fs) _ rs p.2 in
    (is_apart w earlier f p.0 p.1, are_apart w (earlier ++ f.name ∷ []) fs q.0 q.1)

not_earlier : (fs : List Function) (earlier : Texts) (n : ℕ) (f : Function) → AreApart earlier fs → slice_get fs n ≡ Some f → find (λ m. bytes_eq m f.name) earlier ≡ None
not_earlier [] earlier n f h at = absurd (cc at)
not_earlier (g ∷ gs) earlier zero f h at = let same : g ≡ f = cc at in subst (λ (x : Function). find (λ m. bytes_eq m x.name) earlier ≡ None) same h.0
not_earlier (g ∷ gs) earlier (suc n) f h at =
    let none = not_earlier gs (earlier ++ g.name ∷ []) n f h.1 at in
    (neither (find (λ m. bytes_eq m f.name) earlier) (find (λ m. bytes_eq m f.name) (g.name ∷ [])) (sym (find-append (λ m. bytes_eq m f.name) earlier (g.name ∷ [])) ∙ none)).0

not_last : (earlier : Texts) (x y : List ℕ) → find (λ m. bytes_eq m y) (earlier ++ x ∷ []) ≡ None → x ≡ y → ⊥
not_last earlier x y h same =
    let none = (neither (find (λ m. bytes_eq m y) earlier) (find (λ m. bytes_eq m y) (x ∷ [])) (sym (find-append (λ m. bytes_eq m y) earlier (x ∷ [])) ∙ h)).1 in
    let there : Some x ≡ None = sym (ap (λ (b : Bool). cond b (Some x) None) ((bytes_eq-Decides x y).1 same)) ∙ none in
    absurd (cc there)

-- two functions of one name are at one place
one_place : (fs : List Function) (earlier : Texts) (n m : ℕ) (f g : Function) → AreApart earlier fs → slice_get fs n ≡ Some f → slice_get fs m ≡ Some g → f.name ≡ g.name → n ≡ m
one_place [] earlier n m f g h at there same = absurd (cc at)
one_place (k ∷ ks) earlier zero zero f g h at there same = refl
one_place (k ∷ ks) earlier zero (suc m) f g h at there same =
    let this : k ≡ f = cc at in
    absurd (not_last earlier k.name g.name (not_earlier ks (earlier ++ k.name ∷ []) m g h.1 there) (ap (λ (x : Function). x.name) this ∙ same))
one_place (k ∷ ks) earlier (suc n) zero f g h at there same =
    let this : k ≡ g = cc there in
    absurd (not_last earlier k.name f.name (not_earlier ks (earlier ++ k.name ∷ []) n f h.1 at) (ap (λ (x : Function). x.name) this ∙ sym same))
one_place (k ∷ ks) earlier (suc n) (suc m) f g h at there same = ap suc (one_place ks (earlier ++ k.name ∷ []) n m f g h.1 at there same)

passed_by : (p : Function → Bool) (x : Function) (rest : Option Function) → p x ≡ true → cond (p x) (Some x) rest ≡ None → ⊥
passed_by p x rest is none = let there : Some x ≡ None = sym (ap (λ (b : Bool). cond b (Some x) rest) is) ∙ none in absurd (cc there)

further_on : (b : Bool) (x : Function) (rest : Option Function) → cond b (Some x) rest ≡ None → rest ≡ None
further_on true x rest h = absurd (cc h)
further_on false x rest h = h

-- what stands there is found
is_found : (p : Function → Bool) (fs : List Function) (n : ℕ) (f : Function) → slice_get fs n ≡ Some f → p f ≡ true → find p fs ≡ None → ⊥
is_found p [] n f at is none = absurd (cc at)
is_found p (g ∷ gs) zero f at is none = let same : g ≡ f = cc at in passed_by p g (find p gs) (ap p same ∙ is) none
is_found p (g ∷ gs) (suc n) f at is none = is_found p gs n f at is (further_on (p g) g (find p gs) none)

numbers_by : (fs : List Function) → AreApart [] fs → (x : List ℕ) (number : ℕ) (f : Function) (o : Option Function) → function_of fs x ≡ o → slice_get fs number ≡ Some f → f.name ≡ x
    → (function_number fs x ≡ number) × (function_of fs x ≡ Some f)
numbers_by fs h x number f None e at named = absurd (is_found (λ (g : Function). bytes_eq g.name x) fs number f at ((bytes_eq-Decides f.name x).1 named) e)
numbers_by fs h x number f (Some g) e at named =
    let there = function_stands_at fs x g e in
    let place : function_number fs x ≡ number = one_place fs [] (function_number fs x) number g f h there at (function_named fs x g e ∙ sym named) in
    (place, e ∙ sym there ∙ ap (slice_get fs) place ∙ at)

have_numbers : (fs : List Function) → AreApart [] fs → HaveNumbers fs
have_numbers fs h x number f at named = numbers_by fs h x number f (function_of fs x) refl at named

abbrev made : ℕ → ℕ → List UParam → List Sort → List ℕ → List ℕ → List ℕ → List RStmt → RFunction
made line name params slots slot_names throws tries body =
    record { line = line; name = name; params = params; slots = slots; slot_names = slot_names; throws = throws; tries = tries; body = body }

same_function : (r s : RFunction) → r.line ≡ s.line → r.name ≡ s.name → r.params ≡ s.params → r.slots ≡ s.slots → r.slot_names ≡ s.slot_names → r.throws ≡ s.throws → r.tries ≡ s.tries → r.body ≡ s.body → r ≡ s
same_function r s a b c d e f g h =
    ap (λ x. made x r.name r.params r.slots r.slot_names r.throws r.tries r.body) a
    ∙ ap (λ x. made s.line x r.params r.slots r.slot_names r.throws r.tries r.body) b
    ∙ ap (λ x. made s.line s.name x r.slots r.slot_names r.throws r.tries r.body) c
    ∙ ap (λ x. made s.line s.name s.params x r.slot_names r.throws r.tries r.body) d
    ∙ ap (λ x. made s.line s.name s.params s.slots x r.throws r.tries r.body) e
    ∙ ap (λ x. made s.line s.name s.params s.slots s.slot_names x r.tries r.body) f
    ∙ ap (λ x. made s.line s.name s.params s.slots s.slot_names s.throws x r.body) g
    ∙ ap (λ x. made s.line s.name s.params s.slots s.slot_names s.throws s.tries x) h

one_function : (names : Texts) (fs : List Function) (f : Function) (r s : RFunction) → HaveNumbers fs → BindsFunction fs f r → BindsFunction fs f s → IsInTextOrder names f r → IsInTextOrder names f s → r ≡ s
one_function names fs f r s numbers h k o i =
    same_function r s (o.line ∙ sym i.line) (o.name ∙ sym i.name) (o.params ∙ sym i.params) (o.slots ∙ sym i.slots) (o.slot_names ∙ sym i.slot_names) (o.throws ∙ sym i.throws) (o.tries ∙ sym i.tries)
    (one_body fs numbers h.body k.body)

same_functions : (names : Texts) (fs gs : List Function) (rs ss : List RFunction) → HaveNumbers fs → Pairwise (BindsFunction fs) gs rs → Pairwise (BindsFunction fs) gs ss
    → AreInTextOrder names gs rs → AreInTextOrder names gs ss → rs ≡ ss
same_functions names fs [] [] [] numbers h k o i = refl
same_functions names fs [] [] (s ∷ ss) numbers h k o i = absurd k
same_functions names fs [] (r ∷ rs) ss numbers h k o i = absurd h
same_functions names fs (g ∷ gs) [] ss numbers h k o i = absurd h
same_functions names fs (g ∷ gs) (r ∷ rs) [] numbers h k o i = absurd k
same_functions names fs (g ∷ gs) (r ∷ rs) (s ∷ ss) numbers h k o i =
    ap (λ x. x ∷ rs) (one_function names fs g r s numbers h.0 k.0 o.0 i.0) ∙ ap (λ xs. s ∷ xs) (same_functions names fs gs rs ss numbers h.1 k.1 o.1 i.1)

abbrev form_of : List RFunction → Texts → ℕ → Form
form_of functions names main = record { functions = functions; names = names; main = main }

pub no_other_form_is_bound : (p : Program) (form other : Form) → bind_program p ≡ Ok form → BindsProgram p other → AreInTextOrder form.names p.functions other.functions → other.names ≡ form.names → other ≡ form
no_other_form_is_bound p form other e h o names =
    let apart = are_apart (whole_of p) [] p.functions form.functions (is_form p form e).bound in
    let k = names_mean_the_innermost p form e in
    let functions : other.functions ≡ form.functions =
    same_functions form.names p.functions p.functions other.functions form.functions (have_numbers p.functions apart) h.functions k.functions o (slots_are_in_text_order p form e) in
    let main : other.main ≡ form.main = one_place p.functions [] other.main form.main h.main k.main apart h.begins k.begins (h.named ∙ sym k.named) in
    ap (λ x. form_of x other.names other.main) functions ∙ ap (λ x. form_of form.functions x other.main) names ∙ ap (form_of form.functions form.names) main
