-- What the machine takes may go on: parameters, what is thrown, and functions.
use Rattle.std.proofs.Common.{◌≡◌, ℕ, suc, List, ◌∷◌, Bool, true, false, refl, sym, ◌∙◌, subst}
use Rattle.shim_base.specs.declared.token.Keyword.TheVariants as key
use Rattle.shim_base.specs.declared.token.Sign.TheVariants as g
use Rattle.shim_base.specs.Tokens.{Place}
use Rattle.shim_syntax.specs.declared.limits.Many.TheVariants as many
use Rattle.shim_syntax.specs.declared.tree.Stmt.{Stmt}
use Rattle.shim_syntax.specs.declared.tree.Param.{Param}
use Rattle.shim_syntax.specs.declared.tree.Function.{Function}
use Rattle.shim_syntax.specs.Terminals.{Terminal, Name, Sort, Key, Sign, End, is_shim, is_two}
use Rattle.shim_syntax.specs.Limits.{Count, Limits}
use Rattle.shim_syntax.specs.Grammar as is
use Rattle.shim_syntax.specs.Grammar.{TextCounts, in_version_2, new_function, IsParam, IsParams, IsThrows, IsBlock, IsFunctions}
use Rattle.shim_grammar.specs.declared.punctuation.Punctuation.TheVariants as punctuation
use Rattle.shim_grammar.specs.Machine as machine
use Rattle.shim_grammar.specs.Machine.{Fixed, Word, Block, Parameters, AfterSort, Throws, MoreParameters, Parameter, Thrown, MoreThrows, Functions, SymbolStack, Source, Version}
use Rattle.shim_grammar.proofs.Gives.{Takes, Step}
use Rattle.shim_grammar.proofs.Takes.{leads_on, fixed_then, word_then}

pub after_sort_sound : (c : Limits) (x : Terminal) (k : SymbolStack) (w : TextCounts) → Step c x (AfterSort ∷ k) w (machine.after_sort x k w)
after_sort_sound c (Name x p) k w = λ s h t. (s, w, ((λ sort q. (_, is.param)), refl), t)
after_sort_sound c (Sign g.Amp p) k w = λ s h t.
    word_then c k w (λ s. Takes c (AfterSort ∷ k) w (Sign g.Amp p ∷ s)) (λ x o r t. (r, w, ((λ sort q. (_, is.reference)), refl), t)) s t
after_sort_sound c _ k w = tt

pub parameter_sound : (c : Limits) (x : Terminal) (n : ℕ) (k : SymbolStack) (w : TextCounts) → Step c x (Parameter n ∷ k) w (machine.parameter x n k w)
parameter_sound c (Sort sort p) n k w = λ s h t. let z = t.2.0 sort p in (t.3.0, t.3.1, (t.0, z.0, t.3.2.0, h.0, z.1, t.3.2.1, t.2.1 ∙ t.3.2.2), t.3.3)
parameter_sound c _ n k w = tt

void_gives : (c : Limits) (p : Place) (k : SymbolStack) (w : TextCounts) (s : List Terminal) → Takes c (Fixed punctuation.RightParen ∷ k) w s → Takes c (Parameters ∷ k) w (Key key.Void p ∷ s)
void_gives c p k w = fixed_then c k w (λ s. Takes c (Parameters ∷ k) w (Key key.Void p ∷ s)) punctuation.RightParen (λ q r t. (r, w, (_, is.void_params, refl), t))

pub parameters_sound : (c : Limits) (x : Terminal) (k : SymbolStack) (w : TextCounts) → Step c x (Parameters ∷ k) w (machine.wants_parameters x k w)
parameters_sound c (Sign g.RightParen p) k w = λ s h t. (s, w, (_, is.no_params, refl), t)
parameters_sound c (Key key.Void p) k w = λ s h t. void_gives c p k w s t
parameters_sound c x k w = leads_on c x (λ s. Takes c (Parameter 1 ∷ k) w (x ∷ s)) (λ s. Takes c (Parameters ∷ k) w (x ∷ s)) (machine.parameter x 1 k w) (parameter_sound c x 1 k w)
    (λ s t. (t.0, t.1, (_, is.params t.2.3 t.2.4 t.2.5, t.2.6), t.3))

pub more_parameters_sound : (c : Limits) (x : Terminal) (n : ℕ) (k : SymbolStack) (w : TextCounts) → Step c x (MoreParameters n ∷ k) w (machine.more_parameters x n k w)
more_parameters_sound c (Sign g.RightParen p) n k w = λ s h t. (s, w, (_, is.params_end, refl), t)
more_parameters_sound c (Sign g.Comma p) n k w = λ s h t. (t.0, t.1, (_, is.another_param t.2.3 t.2.4 t.2.5, t.2.6), t.3)
more_parameters_sound c _ n k w = tt

pub thrown_sound : (c : Limits) (x : Terminal) (n : ℕ) (k : SymbolStack) (w : TextCounts) → Step c x (Thrown n ∷ k) w (machine.wants_thrown x n k w)
thrown_sound c (Name x p) n k w = λ s h t. (t.0, t.1, (x, p, s, t.2.0, refl, h.0, t.2.1, t.2.2), t.3)
thrown_sound c _ n k w = tt

-- the first name after `throws`, and then one after a comma
throws_give : (c : Limits) (p : Place) (k : SymbolStack) (w : TextCounts) (s : List Terminal) → Takes c (Thrown 1 ∷ k) w s → Takes c (Throws ∷ k) w (Key key.Throws p ∷ s)
throws_give c p k w s (r, v, (x, q, i, xs, e, h, d, f), t) =
    subst (λ s. Takes c (Throws ∷ k) w (Key key.Throws p ∷ s)) (sym e) (r, v, (_, is.throws (subst (λ s. c s (Count many.Throws) 1 ≡ true) e h) d, f), t)

more_throws_give : (c : Limits) (p : Place) (n : ℕ) (k : SymbolStack) (w : TextCounts) (s : List Terminal) → Takes c (Thrown (suc n) ∷ k) w s → Takes c (MoreThrows n ∷ k) w (Sign g.Comma p ∷ s)
more_throws_give c p n k w s (r, v, (x, q, i, xs, e, h, d, f), t) =
    subst (λ s. Takes c (MoreThrows n ∷ k) w (Sign g.Comma p ∷ s)) (sym e) (r, v, (_, is.another_throws (subst (λ s. c s (Count many.Throws) (suc n) ≡ true) e h) d, f), t)

pub throws_sound : (c : Limits) (x : Terminal) (k : SymbolStack) (w : TextCounts) → Step c x (Throws ∷ k) w (machine.wants_throws x k w)
throws_sound c (Sign g.LeftBrace p) k w = λ s h t. (s, w, (_, is.no_throws, refl), t)
throws_sound c (Key key.Throws p) k w = λ s h t. throws_give c p k w s t
throws_sound c _ k w = tt

pub more_throws_sound : (c : Limits) (x : Terminal) (n : ℕ) (k : SymbolStack) (w : TextCounts) → Step c x (MoreThrows n ∷ k) w (machine.more_throws x n k w)
more_throws_sound c (Sign g.LeftBrace p) n k w = λ s h t. (s, w, (_, is.throws_end, refl), t)
more_throws_sound c (Sign g.Comma p) n k w = λ s h t. more_throws_give c p n k w s t
more_throws_sound c _ n k w = tt

-- a function from its parameters on, and the functions after it
function_gives : {c : Limits} {p q o : Place} {f : List ℕ} {n : ℕ} {w u v : TextCounts} {s i j a r : List Terminal} {xs : List Param} {ts : List (List ℕ)} {ys : List Stmt} {fs : List Function}
    → c (Key key.Void p ∷ Name f q ∷ Sign g.LeftParen o ∷ s) (Count many.Functions) (suc n) ≡ true → IsParams c s i xs → IsThrows c i j ts → new_function w ≡ u → IsBlock c 1 u v j a ys
    → IsFunctions c (suc n) v a r fs → (gs : List Function) × IsFunctions c n w (Key key.Void p ∷ Name f q ∷ Sign g.LeftParen o ∷ s) r gs
function_gives {c = c} {v = v} {j = j} {a = a} {ys = ys} h d e i b k = (_, is.another_function h (is.function d e (subst (λ u. IsBlock c 1 u v j a ys) (sym i) b)) k)

functions_give : (c : Limits) (p : Place) (n : ℕ) (k : SymbolStack) (w : TextCounts) (s : List Terminal)
    → Takes c (Word ∷ Fixed punctuation.LeftParen ∷ Parameters ∷ Throws ∷ Block 1 ∷ Functions (suc n) ∷ k) (new_function w) s → c (Key key.Void p ∷ s) (Count many.Functions) (suc n) ≡ true
    → Takes c (Functions n ∷ k) w (Key key.Void p ∷ s)
functions_give c p n k w =
    let j = Parameters ∷ Throws ∷ Block 1 ∷ Functions (suc n) ∷ k in
    let u = new_function w in
    word_then c (Fixed punctuation.LeftParen ∷ j) u (λ s. c (Key key.Void p ∷ s) (Count many.Functions) (suc n) ≡ true → Takes c (Functions n ∷ k) w (Key key.Void p ∷ s))
    (λ x q. fixed_then c j u (λ s. c (Key key.Void p ∷ Name x q ∷ s) (Count many.Functions) (suc n) ≡ true → Takes c (Functions n ∷ k) w (Key key.Void p ∷ Name x q ∷ s)) punctuation.LeftParen
    (λ o r t h. let b = t.3.3 in (b.3.0, b.3.1, function_gives h t.2.1 t.3.2.1 (t.2.2 ∙ t.3.2.2) b.2.1 b.3.2.1, b.3.3)))

pub functions_sound : (c : Limits) (x : Terminal) (n : ℕ) (k : SymbolStack) (w : TextCounts) → Step c x (Functions n ∷ k) w (machine.functions x n k w)
functions_sound c (End p) n k w = λ s h t. (s, w, (_, is.program_end), t)
functions_sound c (Key key.Void p) n k w = λ s h t. functions_give c p n k w s t h.0
functions_sound c _ n k w = tt

-- what holds after the number of the version holds from it on
version_then : (c : Limits) (k : SymbolStack) (w : TextCounts) (P : List Terminal → Type 0) → ((y : Terminal) (r : List Terminal) → is_two y ≡ true → Takes c k w r → P (y ∷ r)) → (s : List Terminal)
    → Takes c (Version ∷ k) w s → P s
version_then c k w P g s (r, v, (y, two, e, i), t) = subst P (sym e) (g y r two (subst (λ a. Takes c k a r) (sym i) t))

shim_gives : (c : Limits) (x : Terminal) (k : SymbolStack) (w : TextCounts) (s : List Terminal) → is_shim x ≡ true → Takes c (Version ∷ Fixed punctuation.Semicolon ∷ Functions 0 ∷ k) (in_version_2 w) s → Takes c (Source ∷ k) w (x ∷ s)
shim_gives c x k w s shim =
    version_then c (Fixed punctuation.Semicolon ∷ Functions 0 ∷ k) (in_version_2 w) (λ s. Takes c (Source ∷ k) w (x ∷ s)) (λ y r two.
    fixed_then c (Functions 0 ∷ k) (in_version_2 w) (λ s. Takes c (Source ∷ k) w (x ∷ y ∷ s)) punctuation.Semicolon (λ p q t. (t.0, t.1, (_, is.version_2 shim two t.2.1), t.3)) r) s

source_by : (c : Limits) (x : Terminal) (k : SymbolStack) (w : TextCounts) (b : Bool) → is_shim x ≡ b → Step c x (Source ∷ k) w (machine.source x k w)
source_by c x k w true e = rw e (λ s h t. shim_gives c x k w s e t)
source_by c x k w false e =
    rw e (leads_on c x (λ s. Takes c (Functions 0 ∷ k) w (x ∷ s)) (λ s. Takes c (Source ∷ k) w (x ∷ s)) (machine.functions x 0 k w) (functions_sound c x 0 k w)
    (λ s t. (t.0, t.1, (_, is.version_1 t.2.1), t.3)))

pub source_sound : (c : Limits) (x : Terminal) (k : SymbolStack) (w : TextCounts) → Step c x (Source ∷ k) w (machine.source x k w)
source_sound c x k w = source_by c x k w (is_shim x) refl

version_by : (c : Limits) (x : Terminal) (k : SymbolStack) (w : TextCounts) (b : Bool) → is_two x ≡ b → Step c x (Version ∷ k) w (machine.version x k w)
version_by c x k w true e = rw e (λ s h t. (s, w, (x, e, refl, refl), t))
version_by c x k w false e = rw e tt

pub version_sound : (c : Limits) (x : Terminal) (k : SymbolStack) (w : TextCounts) → Step c x (Version ∷ k) w (machine.version x k w)
version_sound c x k w = version_by c x k w (is_two x) refl
