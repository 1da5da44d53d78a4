-- No two expressions, and no two lists of arguments, stand at the front of the same terminals.
use Rattle.std.proofs.Common.{◌≡◌, ◌≤◌, ℕ, suc, List, ◌∷◌, refl, sym, ◌∙◌, ap, subst, arith}
use Rattle.shim_base.specs.declared.token.Keyword.{Keyword}
use Rattle.shim_base.specs.declared.token.Sign.{Sign as SignOf}
use Rattle.shim_base.specs.declared.token.Sign.TheVariants as g
use Rattle.shim_base.specs.declared.operators.UnOp.TheVariants.{Neg, Not, Flip}
use Rattle.shim_base.specs.Tokens.{Place}
use Rattle.shim_syntax.specs.declared.tree.Expr.{Expr}
use Rattle.shim_syntax.specs.declared.tree.Expr.TheVariants as e
use Rattle.shim_syntax.specs.Terminals.{Terminal, Key, Sign, first}
use Rattle.shim_syntax.specs.Limits.{Limits}
use Rattle.shim_syntax.specs.Grammar as is
use Rattle.shim_syntax.specs.Grammar.{TextCounts, IsExpr, IsChain, IsArguments, IsMoreArguments, operator_row, operator_of_sign}

-- an expression of the row n reads no further than these terminals
abbrev pub Stops : ℕ → List Terminal → Type 0
Stops n r = (j : ℕ) → operator_row (first r) ≡ suc j → suc j ≤ n → ⊥

-- what is no operator stops each row
zero_stops : (n : ℕ) (r : List Terminal) → operator_row (first r) ≡ 0 → Stops n r
zero_stops n r z = λ j f i. absurd (cc)

paren_stops : (n : ℕ) (p : Place) (r : List Terminal) → Stops n (Sign g.RightParen p ∷ r)
paren_stops n p r = λ j f i. absurd (cc)

chain_stops : {c : Limits} {n l : ℕ} {v w : TextCounts} (m r : List Terminal) {x y : Expr} → IsChain c n l v w m r x y → Stops (suc n) r → Stops n m
chain_stops m r is.stop h = λ j f i. h j f (omega (arith, i))
chain_stops m r (is.join f a d b) h = λ j q i. absurd (omega (arith, f, q, i))

pub tail_same : {x y : Terminal} {s r : List Terminal} → x ∷ s ≡ y ∷ r → s ≡ r
tail_same p = cc

pub head_same : {x y : Terminal} {s r : List Terminal} → x ∷ s ≡ y ∷ r → x ≡ y
head_same p = cc

sign_same : {o i : SignOf} {p q : Place} → Sign o p ≡ Sign i q → o ≡ i
sign_same p = cc

-- the same expression by another name of the terminals
at : {c : Limits} {n l : ℕ} {v w : TextCounts} {s t r : List Terminal} {x : Expr} → s ≡ t → IsExpr c n l v w t r x → IsExpr c n l v w s r x
at {c = c} {n = n} {l = l} {v = v} {w = w} {r = r} {x = x} p i = subst (λ u. IsExpr c n l v w u r x) (sym p) i

mutual
  pub expr_once : {c d : Limits} {n l l' : ℕ} {v w v' w' : TextCounts} {s r r' : List Terminal} {x x' : Expr} → IsExpr c n l v w s r x → IsExpr d n l' v' w' s r' x'
      → Stops n r → Stops n r' → (r ≡ r') × (x ≡ x')
  expr_once is.number is.number h h' = (refl, refl)
  expr_once is.variable is.variable h h' = (refl, refl)
  expr_once (is.parens {q = q} {r = r} a b) (is.parens {q = q'} {r = r'} a' b') h h' = let p = expr_once b b' (paren_stops 10 q r) (paren_stops 10 q' r') in (tail_same p.0, p.1)
  expr_once (is.negative a o b) (is.negative a' o' b') h h' = let p = expr_once b b' h h' in (p.0, ap (λ u. e.Unary Neg u) p.1)
  expr_once (is.negation a o b) (is.negation a' o' b') h h' = let p = expr_once b b' h h' in (p.0, ap (λ u. e.Unary Not u) p.1)
  expr_once (is.complement a o b) (is.complement a' o' b') h h' = let p = expr_once b b' h h' in (p.0, ap (λ u. e.Unary Flip u) p.1)
  expr_once {r = r} {r' = r'} (is.row a b) (is.row a' b') h h' =
      let p = expr_once a a' (chain_stops _ r b h) (chain_stops _ r' b' h') in
      chain_once b b' p.0 p.1 h h'

  pub chain_once : {c d : Limits} {n l l' : ℕ} {v w v' w' : TextCounts} {s s' r r' : List Terminal} {x x' y y' : Expr} → IsChain c n l v w s r x y → IsChain d n l' v' w' s' r' x' y'
      → s ≡ s' → x ≡ x' → Stops (suc n) r → Stops (suc n) r' → (r ≡ r') × (y ≡ y')
  chain_once is.stop is.stop p q h h' = (p, q)
  chain_once is.stop (is.join f a d b) p q h h' = absurd (h _ (ap (λ s. operator_row (first s)) p ∙ f) (omega arith))
  chain_once (is.join f a d b) is.stop p q h h' = absurd (h' _ (ap (λ s. operator_row (first s)) (sym p) ∙ f) (omega arith))
  chain_once {r = r} {r' = r'} (is.join {x = x} {y = y} f a i b) (is.join {o = o'} {x = x'} f' a' i' b') p q h h' =
      let z = expr_once i (at (tail_same p) i') (chain_stops _ r b h) (chain_stops _ r' b' h') in
      chain_once b b' z.0
      (ap (λ t. e.Binary (operator_of_sign t) x y) (sign_same (head_same p)) ∙ ap (λ t. e.Binary (operator_of_sign o') t y) q ∙ ap (λ t. e.Binary (operator_of_sign o') x' t) z.1) h h'

-- whole expressions, up to what is no operator
pub whole_once : {c d : Limits} {l l' : ℕ} {v w v' w' : TextCounts} {s r r' : List Terminal} {x x' : Expr} → IsExpr c 10 l v w s r x → IsExpr d 10 l' v' w' s r' x'
    → operator_row (first r) ≡ 0 → operator_row (first r') ≡ 0 → (r ≡ r') × (x ≡ x')
whole_once {r = r} {r' = r'} a b z z' = expr_once a b (zero_stops 10 r z) (zero_stops 10 r' z')

-- no expression begins so
no_paren : {c : Limits} {n l : ℕ} {v w : TextCounts} {p : Place} {s r : List Terminal} {x : Expr} → IsExpr c n l v w (Sign g.RightParen p ∷ s) r x → ⊥
no_paren (is.row a b) = no_paren a

pub no_semicolon : {c : Limits} {n l : ℕ} {v w : TextCounts} {p : Place} {s r : List Terminal} {x : Expr} → IsExpr c n l v w (Sign g.Semicolon p ∷ s) r x → ⊥
no_semicolon (is.row a b) = no_semicolon a

pub no_keyword : {c : Limits} {n l : ℕ} {v w : TextCounts} {key : Keyword} {p : Place} {s r : List Terminal} {x : Expr} → IsExpr c n l v w (Key key p ∷ s) r x → ⊥
no_keyword (is.row a b) = no_keyword a

-- what follows an argument is no operator
more_zero : {c : Limits} {l n : ℕ} {v w : TextCounts} {m r : List Terminal} {xs : List Expr} → IsMoreArguments c l n v w m r xs → operator_row (first m) ≡ 0
more_zero is.arguments_end = refl
more_zero (is.argument h a b) = refl

mutual
  pub arguments_once : {c d : Limits} {l l' : ℕ} {v w v' w' : TextCounts} {s r r' : List Terminal} {xs ys : List Expr} → IsArguments c l v w s r xs → IsArguments d l' v' w' s r' ys
      → (r ≡ r') × (xs ≡ ys)
  arguments_once is.no_arguments is.no_arguments = (refl, refl)
  arguments_once is.no_arguments (is.arguments h a b) = absurd (no_paren a)
  arguments_once (is.arguments h a b) is.no_arguments = absurd (no_paren a)
  arguments_once (is.arguments h a b) (is.arguments h' a' b') =
      let z = whole_once a a' (more_zero b) (more_zero b') in
      let m = more_once b b' z.0 in
      (m.0, (let p = z.1 in let q = m.1 in cc))

  pub more_once : {c d : Limits} {l l' n n' : ℕ} {v w v' w' : TextCounts} {s s' r r' : List Terminal} {xs ys : List Expr} → IsMoreArguments c l n v w s r xs
      → IsMoreArguments d l' n' v' w' s' r' ys → s ≡ s' → (r ≡ r') × (xs ≡ ys)
  more_once is.arguments_end is.arguments_end p = (tail_same p, refl)
  more_once is.arguments_end (is.argument h a b) p = absurd (cc)
  more_once (is.argument h a b) is.arguments_end p = absurd (cc)
  more_once (is.argument h a b) (is.argument h' a' b') p =
      let z = whole_once a (at (tail_same p) a') (more_zero b) (more_zero b') in
      let m = more_once b b' z.0 in
      (m.0, (let p = z.1 in let q = m.1 in cc))
