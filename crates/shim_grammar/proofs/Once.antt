-- A text is that of one program at most.
use Rattle.std.proofs.Common.{◌≡◌, ℕ, List, ◌∷◌, true, Option, refl, sym, ◌∙◌, ap, subst}
use Rattle.shim_base.specs.declared.token.Keyword.{Keyword}
use Rattle.shim_base.specs.declared.token.Sign.{Sign as SignOf}
use Rattle.shim_base.specs.Tokens.{Token, Place, Fault, start, place_after}
use Rattle.shim_base.proofs.Cutting.{cuts_once}
use Rattle.shim_syntax.specs.declared.tree.Stmt.{Stmt}
use Rattle.shim_syntax.specs.declared.tree.Param.{Param}
use Rattle.shim_syntax.specs.declared.tree.Function.{Function}
use Rattle.shim_syntax.specs.declared.tree.Program.{Program}
use Rattle.shim_syntax.specs.Terminals.{Terminal, Key, Sign, End, IsRead, of_tokens, of_end, in_version, is_shim}
use Rattle.shim_syntax.specs.Limits.{Limits, limits}
use Rattle.shim_syntax.specs.Grammar as is
use Rattle.shim_syntax.specs.Grammar.{TextCounts, IsBlock, IsParam, IsParams, IsMoreParams, IsThrows, IsMoreThrows, IsFunction, IsFunctions, IsProgram, Derives}
use Rattle.shim_syntax.specs.Text.{IsText}
use Rattle.shim_grammar.proofs.OnceStmt.{block_once, same_more}

pub param_once : {s r r' : List Terminal} {x x' : Param} → IsParam s r x → IsParam s r' x' → (r ≡ r') × (x ≡ x')
param_once is.param is.param = (refl, refl)
param_once is.reference is.reference = (refl, refl)

-- no parameter begins with a sign, and none with a keyword
no_sign : {o : SignOf} {p : Place} {s r : List Terminal} {x : Param} → IsParam (Sign o p ∷ s) r x → ⊥
no_sign a = elim a [ ]

no_key : {key : Keyword} {p : Place} {s r : List Terminal} {x : Param} → IsParam (Key key p ∷ s) r x → ⊥
no_key a = elim a [ ]

-- the same things by another name of the terminals
at_more_params : {c : Limits} {n : ℕ} {s t r : List Terminal} {xs : List Param} → s ≡ t → IsMoreParams c n t r xs → IsMoreParams c n s r xs
at_more_params {c = c} {n = n} {r = r} {xs = xs} p i = subst (λ u. IsMoreParams c n u r xs) (sym p) i

at_throws : {c : Limits} {s t r : List Terminal} {xs : List (List ℕ)} → s ≡ t → IsThrows c t r xs → IsThrows c s r xs
at_throws {c = c} {r = r} {xs = xs} p i = subst (λ u. IsThrows c u r xs) (sym p) i

at_block : {c : Limits} {l : ℕ} {v w : TextCounts} {s t r : List Terminal} {xs : List Stmt} → s ≡ t → IsBlock c l v w t r xs → IsBlock c l v w s r xs
at_block {c = c} {l = l} {v = v} {w = w} {r = r} {xs = xs} p i = subst (λ u. IsBlock c l v w u r xs) (sym p) i

at_functions : {c : Limits} {n : ℕ} {v : TextCounts} {s t r : List Terminal} {fs : List Function} → s ≡ t → IsFunctions c n v t r fs → IsFunctions c n v s r fs
at_functions {c = c} {n = n} {v = v} {r = r} {fs = fs} p i = subst (λ u. IsFunctions c n v u r fs) (sym p) i

pub more_params_once : {c d : Limits} {n n' : ℕ} {s r r' : List Terminal} {xs ys : List Param} → IsMoreParams c n s r xs → IsMoreParams d n' s r' ys → (r ≡ r') × (xs ≡ ys)
more_params_once is.params_end is.params_end = (refl, refl)
more_params_once (is.another_param h a b) (is.another_param h' a' b') =
    let p = param_once a a' in
    let q = more_params_once b (at_more_params p.0 b') in
    (q.0, same_more p.1 q.1)

pub params_once : {c d : Limits} {s r r' : List Terminal} {xs ys : List Param} → IsParams c s r xs → IsParams d s r' ys → (r ≡ r') × (xs ≡ ys)
params_once is.no_params is.no_params = (refl, refl)
params_once is.no_params (is.params h a b) = absurd (no_sign a)
params_once is.void_params is.void_params = (refl, refl)
params_once is.void_params (is.params h a b) = absurd (no_key a)
params_once (is.params h a b) is.no_params = absurd (no_sign a)
params_once (is.params h a b) is.void_params = absurd (no_key a)
params_once (is.params h a b) (is.params h' a' b') =
    let p = param_once a a' in
    let q = more_params_once b (at_more_params p.0 b') in
    (q.0, same_more p.1 q.1)

pub more_throws_once : {c d : Limits} {n n' : ℕ} {s r r' : List Terminal} {xs ys : List (List ℕ)} → IsMoreThrows c n s r xs → IsMoreThrows d n' s r' ys → (r ≡ r') × (xs ≡ ys)
more_throws_once is.throws_end is.throws_end = (refl, refl)
more_throws_once (is.another_throws h a) (is.another_throws h' a') = let p = more_throws_once a a' in (p.0, same_more refl p.1)

pub throws_once : {c d : Limits} {s r r' : List Terminal} {xs ys : List (List ℕ)} → IsThrows c s r xs → IsThrows d s r' ys → (r ≡ r') × (xs ≡ ys)
throws_once is.no_throws is.no_throws = (refl, refl)
throws_once (is.throws h a) (is.throws h' a') = let p = more_throws_once a a' in (p.0, same_more refl p.1)

pub function_once : {c d : Limits} {v w v' w' : TextCounts} {s r r' : List Terminal} {f f' : Function} → IsFunction c v w s r f → IsFunction d v' w' s r' f' → (r ≡ r') × (f ≡ f')
function_once (is.function a t b) (is.function a' t' b') =
    let p = params_once a a' in
    let q = throws_once t (at_throws p.0 t') in
    let o = block_once b (at_block q.0 b') in
    (o.0, (let x = p.1 in let y = q.1 in let z = o.1 in cc))

-- no function begins with the end of the text
no_end : {c : Limits} {v w : TextCounts} {p : Place} {s r : List Terminal} {f : Function} → IsFunction c v w (End p ∷ s) r f → ⊥
no_end a = elim a [ ]

pub program_once : {c d : Limits} {n n' : ℕ} {v v' : TextCounts} {s r r' : List Terminal} {fs gs : List Function} → IsFunctions c n v s r fs → IsFunctions d n' v' s r' gs → fs ≡ gs
program_once is.program_end is.program_end = refl
program_once is.program_end (is.another_function h a b) = absurd (no_end a)
program_once (is.another_function h a b) is.program_end = absurd (no_end a)
program_once (is.another_function h a b) (is.another_function h' a' b') = let p = function_once a a' in same_more p.1 (program_once b (at_functions p.0 b'))

no_shim : {c : Limits} {n : ℕ} {v : TextCounts} {x : Terminal} {s r : List Terminal} {fs : List Function} → IsFunctions c n v (x ∷ s) r fs → is_shim x ≡ true → ⊥
no_shim is.program_end e = absurd (cc)
no_shim (is.another_function h (is.function a t b) f) e = absurd (cc)

pub source_once : {c d : Limits} {v v' : TextCounts} {s r r' : List Terminal} {p q : Program} → IsProgram c v s r p → IsProgram d v' s r' q → p ≡ q
source_once (is.version_1 d) (is.version_1 d') = ap (λ (fs : List Function). let p : Program = record { version = 1; functions = fs } in p) (program_once d d')
source_once (is.version_1 d) (is.version_2 shim two d') = absurd (no_shim d shim)
source_once (is.version_2 shim two d) (is.version_1 d') = absurd (no_shim d' shim)
source_once (is.version_2 shim two d) (is.version_2 shim' two' d') = ap (λ (fs : List Function). let p : Program = record { version = 2; functions = fs } in p) (program_once d d')

-- the bytes are cut into the same terminals
pub read_once : (bytes : List ℕ) (ts us : List Terminal) → IsRead bytes ts → IsRead bytes us → ts ≡ us
read_once bytes ts us h i =
    let same = cuts_once start bytes h.tokens i.tokens h.end i.end h.cut i.cut in
    let P : List Token → List Terminal = λ l. in_version (of_tokens l (of_end (place_after start bytes) h.end)) in
    let Q : Option Fault → List Terminal = λ e. in_version (of_tokens i.tokens (of_end (place_after start bytes) e)) in
    h.are ∙ ap P same.tokens_are ∙ ap Q same.end_is ∙ sym i.are

pub one_program : (bytes : List ℕ) (p q : Program) → IsText bytes p → IsText bytes q → p ≡ q
one_program bytes p q h i =
    let P : List Terminal → Type 0 = λ l. Derives limits l q in
    source_once h.derives (subst P (sym (read_once bytes h.terminals i.terminals h.read i.read)) i.derives)
