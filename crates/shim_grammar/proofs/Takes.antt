-- What a stack takes, taken apart symbol by symbol.
use Rattle.std.proofs.Common.{◌≡◌, ℕ, List, ◌∷◌, true, Option, Some, None, sym, subst}
use Rattle.std.specs.Prelude.{IfSome}
use Rattle.shim_base.specs.Tokens.{Place}
use Rattle.shim_syntax.specs.declared.tree.Expr.{Expr}
use Rattle.shim_syntax.specs.Terminals.{Terminal, Name}
use Rattle.shim_syntax.specs.Limits.{Limit, Limits}
use Rattle.shim_syntax.specs.Grammar.{TextCounts, IsExpr, IsArguments}
use Rattle.shim_grammar.specs.declared.punctuation.Punctuation.{Punctuation}
use Rattle.shim_grammar.specs.Machine.{Fixed, Word, Operators, SymbolStack, Want, ask}
use Rattle.shim_grammar.proofs.Gives.{terminal_of, Gives, Takes, Allowed}
use Rattle.shim_grammar.proofs.Joins.{lift, Longer}

-- what a terminal wants leads to P of the terminals after it
abbrev pub Leads : Limits → Terminal → (List Terminal → Type 0) → Option Want → Type 0
Leads c x P o = IfSome o (λ n. (s : List Terminal) → Allowed c (x ∷ s) n.asks → Takes c n.stack n.counts s → P s)

-- the same with another reading of what it leads to
pub leads_on : (c : Limits) (x : Terminal) (P Q : List Terminal → Type 0) (o : Option Want) → Leads c x P o → ((s : List Terminal) → P s → Q s) → Leads c x Q o
leads_on c x P Q None g f = tt
leads_on c x P Q (Some n) g f = λ s h t. f s (g s h t)

-- the same where one limit more is asked for
pub leads_asking : (c : Limits) (x : Terminal) (P Q : List Terminal → Type 0) (limit : Limit) (i : ℕ) (o : Option Want) → Leads c x P o
    → ((s : List Terminal) → c (x ∷ s) limit i ≡ true → P s → Q s) → Leads c x Q (ask limit i o)
leads_asking c x P Q limit i None g f = tt
leads_asking c x P Q limit i (Some n) g f = λ s h t. f s h.0 (g s h.1 t)

-- the same terminals and counts by other names
pub moved : (D : TextCounts → List Terminal → Type 0) {w v : TextCounts} {s r : List Terminal} → s ≡ r → w ≡ v → D w s → D v r
moved D {w = w} {r = r} e f d = subst (λ a. D a r) f (subst (λ a. D w a) e d)

module _ (c : Limits) (k : SymbolStack) (w : TextCounts) (P : List Terminal → Type 0) where
  same_counts : {v : TextCounts} (r : List Terminal) → w ≡ v → Takes c k v r → Takes c k w r
  same_counts r e t = subst (λ a. Takes c k a r) (sym e) t

  -- what holds after each such terminal holds from it on
  pub fixed_then : (f : Punctuation) → ((p : Place) (r : List Terminal) → Takes c k w r → P (terminal_of f p ∷ r)) → (s : List Terminal) → Takes c (Fixed f ∷ k) w s → P s
  fixed_then f g s (r, v, (p, e, i), t) = subst P (sym e) (g p r (same_counts r i t))

  pub word_then : ((x : List ℕ) (p : Place) (r : List Terminal) → Takes c k w r → P (Name x p ∷ r)) → (s : List Terminal) → Takes c (Word ∷ k) w s → P s
  word_then g s (r, v, (x, p, e, i), t) = subst P (sym e) (g x p r (same_counts r i t))

-- an operand and what follows it are a whole expression
pub whole : {c : Limits} {l : ℕ} {a u v : TextCounts} {s i r : List Terminal} {x : Expr} → IsExpr c 0 l a u s i x → Gives c (Operators l) u v i r → Longer c 10 l a v s r
whole d g = g _ _ _ (lift 10 d)

-- an expression from its first operand on, up to a fixed terminal
pub closed : (f : Punctuation) {c : Limits} {l : ℕ} {a u v w : TextCounts} {s i j r : List Terminal} {x : Expr} → IsExpr c 0 l a u s i x → Gives c (Operators l) u v i j → Gives c (Fixed f) v w j r
    → (p : Place) × (y : Expr) × IsExpr c 10 l a w s (terminal_of f p ∷ r) y
closed f {c = c} {l = l} {a = a} {s = s} d g (p, e, i) = let z = whole d g in (p, z.0, moved (λ k t. IsExpr c 10 l a k s t z.0) e i z.1)

-- arguments up to a fixed terminal
pub closed_arguments : (f : Punctuation) {c : Limits} {l : ℕ} {u v w : TextCounts} {s i r : List Terminal} {xs : List Expr} → IsArguments c l u v s i xs → Gives c (Fixed f) v w i r
    → (p : Place) × IsArguments c l u w s (terminal_of f p ∷ r) xs
closed_arguments f {c = c} {l = l} {u = u} {s = s} {xs = xs} d (p, e, i) = (p, moved (λ k t. IsArguments c l u k s t xs) e i d)
