-- An operator and its operand may follow any expression.
use Rattle.std.proofs.Common.{◌≡◌, ◌≤◌, ◌<◌, ◌⊎◌, inl, inr, ℕ, zero, suc, List, ◌∷◌, true, refl, ap, subst, arith}
use Rattle.shim_base.specs.declared.token.Sign.{Sign as SignOf}
use Rattle.shim_base.specs.Tokens.{Place}
use Rattle.shim_syntax.specs.declared.limits.Many.TheVariants as many
use Rattle.shim_syntax.specs.declared.tree.Expr.{Expr}
use Rattle.shim_syntax.specs.Terminals.{Terminal, Sign}
use Rattle.shim_syntax.specs.Limits.{Limits, Count}
use Rattle.shim_syntax.specs.Grammar.{TextCounts, with_operator, row_of_sign, IsExpr, IsChain, number, variable, parens, negative, negation, complement, row, stop, join}

same_or_below : (j n : ℕ) → j ≤ n → (j ≡ n) ⊎ (j < n)
same_or_below zero zero h = inl refl
same_or_below zero (suc n) h = inr (omega arith)
same_or_below (suc j) zero h = absurd (omega arith)
same_or_below (suc j) (suc n) h = elim (same_or_below j n (omega arith)) [ inl e ↦ inl (ap suc e) | inr b ↦ inr (omega (arith, b)) ]

-- an operand is an expression of each row
pub lift : {c : Limits} {l : ℕ} {v w : TextCounts} {s r : List Terminal} {x : Expr} (n : ℕ) → IsExpr c 0 l v w s r x → IsExpr c n l v w s r x
lift zero d = d
lift (suc n) d = row (lift n d) stop

abbrev pub Longer : Limits → ℕ → ℕ → TextCounts → TextCounts → List Terminal → List Terminal → Type 0
Longer c n l v w q r = (x : Expr) × IsExpr c n l v w q r x

abbrev ChainLonger : Limits → ℕ → ℕ → TextCounts → TextCounts → List Terminal → List Terminal → Expr → Type 0
ChainLonger c n l v w q r x = (y : Expr) × IsChain c n l v w q r x y

-- the operator may have that number among those of its expression
abbrev Joins : Limits → SignOf → Place → List Terminal → TextCounts → Type 0
Joins c o p s v = c (Sign o p ∷ s) (Count many.Operators) (suc v.operators) ≡ true

module _ (c : Limits) (o : SignOf) (p : Place) (s r : List Terminal) (v w : TextCounts) (y : Expr) (j : ℕ) (e₀ : row_of_sign o ≡ suc j) (h₀ : Joins c o p s v) where
  -- the operator and its operand after an operand of the row n
  tail : {l : ℕ} (n : ℕ) → j ≡ n → IsExpr c 0 l (with_operator v) w s r y → (x : Expr) → ChainLonger c n l v w (Sign o p ∷ s) r x
  tail n e d₀ x = (_, join (subst (λ i. row_of_sign o ≡ suc i) e e₀) h₀ (lift n d₀) stop)

  ends_here : {n l : ℕ} {a i : TextCounts} {q m : List Terminal} {x : Expr} → IsExpr c n l a i q m x → m ≡ Sign o p ∷ s → i ≡ v → IsExpr c n l a v q (Sign o p ∷ s) x
  ends_here {n = n} {l = l} {a = a} {i = i} {q = q} {x = x} d e f = subst (λ k. IsExpr c n l a k q (Sign o p ∷ s) x) f (subst (λ k. IsExpr c n l a i q k x) e d)

  mutual
    extends : {n l : ℕ} {u i : TextCounts} {q m : List Terminal} {x : Expr} → IsExpr c n l u i q m x → m ≡ Sign o p ∷ s → i ≡ v → suc j ≤ n → IsExpr c 0 l (with_operator v) w s r y
        → Longer c n l u w q r
    extends number e f b d₀ = absurd (omega arith)
    extends variable e f b d₀ = absurd (omega arith)
    extends (parens _ d) e f b d₀ = absurd (omega arith)
    extends (negative _ _ d) e f b d₀ = absurd (omega arith)
    extends (negation _ _ d) e f b d₀ = absurd (omega arith)
    extends (complement _ _ d) e f b d₀ = absurd (omega arith)
    extends (row {n = n} {x = x} d k) e f b d₀ = elim (extend_chain k e f b d₀) [
      | inl z ↦ elim (same_or_below j n (omega arith)) [
        | inl a ↦ let t = tail n a d₀ x in (t.0, row (ends_here d z.0 z.1) t.1)
        | inr a ↦ let t = extends d z.0 z.1 a d₀ in (t.0, row t.1 stop)
      ]
      | inr t ↦ (t.0, row d t.1)
    ]

    extend_chain : {n l : ℕ} {u i : TextCounts} {q m : List Terminal} {x z : Expr} → IsChain c n l u i q m x z → m ≡ Sign o p ∷ s → i ≡ v → suc j ≤ suc n
        → IsExpr c 0 l (with_operator v) w s r y → ((q ≡ Sign o p ∷ s) × (u ≡ v)) ⊎ ChainLonger c n l u w q r x
    extend_chain stop e f b d₀ = inl (e, f)
    extend_chain (join {n = n} g h d k) e f b d₀ = elim (extend_chain k e f b d₀) [
      | inl z ↦ elim (same_or_below j n (omega arith)) [
        | inl a ↦ let t = tail n a d₀ _ in inr (t.0, join g h (ends_here d z.0 z.1) t.1)
        | inr a ↦ let t = extends d z.0 z.1 a d₀ in inr (_, join g h t.1 stop)
      ]
      | inr t ↦ inr (t.0, join g h d t.1)
    ]

-- a whole expression with one more operator and its operand
pub extend : {c : Limits} {l j : ℕ} {o : SignOf} {p : Place} {s r q : List Terminal} {u v w : TextCounts} {x y : Expr} → IsExpr c 10 l u v q (Sign o p ∷ s) x → row_of_sign o ≡ suc j → j < 10
    → c (Sign o p ∷ s) (Count many.Operators) (suc v.operators) ≡ true → IsExpr c 0 l (with_operator v) w s r y → Longer c 10 l u w q r
extend d e b h d₀ = extends _ _ _ _ _ _ _ _ _ e h d refl refl (omega arith) d₀
