-- No two lists of declared names, and no two heads of a `for`, stand at the front of the same terminals.
use Rattle.std.proofs.Common.{◌≡◌, ℕ, List, Option, Some, Bool, true, false, refl, sym, ap, subst}
use Rattle.shim_base.specs.declared.token.Sign.TheVariants as g
use Rattle.shim_base.specs.declared.types.Ty.{Ty}
use Rattle.shim_syntax.specs.declared.tree.Expr.{Expr}
use Rattle.shim_syntax.specs.declared.tree.Stmt.{Stmt}
use Rattle.shim_syntax.specs.Terminals.{Terminal, Sign, first}
use Rattle.shim_syntax.specs.Limits.{Limits}
use Rattle.shim_syntax.specs.Grammar as is
use Rattle.shim_syntax.specs.Grammar.{TextCounts, IsDeclared, IsDeclarations, IsFirst, IsTest, IsStep, IsThrowRest, IsCatchRest, operator_row}
use Rattle.shim_grammar.proofs.OnceExpr.{whole_once, no_semicolon, tail_same}

-- an equals sign goes on with a value
abbrev is_equal : Terminal → Bool
is_equal (Sign g.Equal p) = true
is_equal _ = false

-- a declared name, up to what is neither an operator nor an equals sign
declared_once : {c d : Limits} {l l' : ℕ} {v w v' w' : TextCounts} {s r r' : List Terminal} {x x' : List ℕ} {value value' : Option Expr} → IsDeclared c l v w s r x value
    → IsDeclared d l' v' w' s r' x' value' → operator_row (first r) ≡ 0 → operator_row (first r') ≡ 0 → is_equal (first r) ≡ false → is_equal (first r') ≡ false
    → (r ≡ r') × (x ≡ x') × (value ≡ value')
declared_once (is.without_value h) (is.without_value h') z z' i i' = (refl, refl, refl)
declared_once (is.without_value h) (is.with_value h' a') z z' i i' = absurd (cc)
declared_once (is.with_value h a) (is.without_value h') z z' i i' = absurd (cc)
declared_once (is.with_value h a) (is.with_value h' a') z z' i i' = let p = whole_once a a' z z' in (p.0, refl, ap (λ u. Some u) p.1)

-- the same declarations by another name of the terminals
at : {c : Limits} {l line : ℕ} {ty : Ty} {v w : TextCounts} {s t r : List Terminal} {xs : List Stmt} → s ≡ t → IsDeclarations c l ty line v w t r xs → IsDeclarations c l ty line v w s r xs
at {c = c} {l = l} {line = line} {ty = ty} {v = v} {w = w} {r = r} {xs = xs} p i = subst (λ u. IsDeclarations c l ty line v w u r xs) (sym p) i

pub declarations_once : {c d : Limits} {l l' line : ℕ} {ty : Ty} {v w v' w' : TextCounts} {s r r' : List Terminal} {xs ys : List Stmt} → IsDeclarations c l ty line v w s r xs
    → IsDeclarations d l' ty line v' w' s r' ys → (r ≡ r') × (xs ≡ ys)
declarations_once (is.last_declared a) (is.last_declared a') = let p = declared_once a a' refl refl refl refl in (tail_same p.0, (let x = p.1 in let y = p.2 in cc))
declarations_once (is.last_declared a) (is.declared a' b') = absurd (let p = (declared_once a a' refl refl refl refl).0 in cc)
declarations_once (is.declared a b) (is.last_declared a') = absurd (let p = (declared_once a a' refl refl refl refl).0 in cc)
declarations_once (is.declared a b) (is.declared a' b') =
    let p = declared_once a a' refl refl refl refl in
    let q = declarations_once b (at (tail_same p.0) b') in
    (q.0, (let x = p.1 in let y = p.2 in let z = q.1 in cc))

pub first_once : {c d : Limits} {l l' : ℕ} {v w v' w' : TextCounts} {s r r' : List Terminal} {xs ys : List Stmt} → IsFirst c l v w s r xs → IsFirst d l' v' w' s r' ys
    → (r ≡ r') × (xs ≡ ys)
first_once is.no_first is.no_first = (refl, refl)
first_once (is.first_declare h a) (is.first_declare h' a') = let p = declared_once a a' refl refl refl refl in (tail_same p.0, (let x = p.1 in let y = p.2 in cc))
first_once (is.first_assign h a) (is.first_assign h' a') = let p = whole_once a a' refl refl in (tail_same p.0, (let x = p.1 in cc))

pub test_once : {c d : Limits} {l l' : ℕ} {v w v' w' : TextCounts} {s r r' : List Terminal} {x y : Option Expr} → IsTest c l v w s r x → IsTest d l' v' w' s r' y → (r ≡ r') × (x ≡ y)
test_once is.no_test is.no_test = (refl, refl)
test_once is.no_test (is.test a) = absurd (no_semicolon a)
test_once (is.test a) is.no_test = absurd (no_semicolon a)
test_once (is.test a) (is.test a') = let p = whole_once a a' refl refl in (tail_same p.0, ap (λ u. Some u) p.1)

pub step_once : {c d : Limits} {l l' : ℕ} {v w v' w' : TextCounts} {s r r' : List Terminal} {xs ys : List Stmt} → IsStep c l v w s r xs → IsStep d l' v' w' s r' ys
    → (r ≡ r') × (xs ≡ ys)
step_once is.no_step is.no_step = (refl, refl)
step_once (is.step h a) (is.step h' a') = let p = whole_once a a' refl refl in (tail_same p.0, (let x = p.1 in cc))

pub throw_rest_once : {c d : Limits} {l l' : ℕ} {v w v' w' : TextCounts} {s r r' : List Terminal} {x y : Option Expr} → IsThrowRest c l v w s r x → IsThrowRest d l' v' w' s r' y
    → (r ≡ r') × (x ≡ y)
throw_rest_once is.no_number is.no_number = (refl, refl)
throw_rest_once (is.thrown_number h a) (is.thrown_number h' a') = let p = whole_once a a' refl refl in (tail_same (tail_same p.0), ap (λ u. Some u) p.1)

pub catch_rest_once : {c d : Limits} {v w v' w' : TextCounts} {s r r' : List Terminal} {x y : Option (List ℕ)} → IsCatchRest c v w s r x → IsCatchRest d v' w' s r' y → (r ≡ r') × (x ≡ y)
catch_rest_once is.no_variable is.no_variable = (refl, refl)
catch_rest_once (is.catch_variable h a) (is.catch_variable h' a') = (refl, refl)
