-- What the machine takes may go on: fixed terminals, expressions, arguments and declarations.
use Rattle.std.proofs.Common.{◌≡◌, ◌<◌, inl, inr, ℕ, suc, List, ◌∷◌, Bool, true, false, Option, Some, None, refl, sym, subst, arith}
use Rattle.std.specs.Prelude.{if◌then◌else◌}
use Rattle.shim_base.specs.declared.token.Keyword.TheVariants as key
use Rattle.shim_base.specs.declared.token.Sign.{Sign as SignOf}
use Rattle.shim_base.specs.declared.token.Sign.TheVariants as g
use Rattle.shim_base.specs.declared.types.Ty.{Ty}
use Rattle.shim_base.specs.Tokens.{Place}
use Rattle.shim_syntax.specs.declared.limits.Many.TheVariants as many
use Rattle.shim_syntax.specs.declared.tree.Expr.{Expr}
use Rattle.shim_syntax.specs.declared.tree.Stmt.{Stmt}
use Rattle.shim_syntax.specs.Terminals.{Terminal, Name, Number, Key, Sign}
use Rattle.shim_syntax.specs.Limits.{Nesting, Count, Limits}
use Rattle.shim_syntax.specs.Grammar as is
use Rattle.shim_syntax.specs.Grammar.{TextCounts, with_local, new_expression, with_operator, at_level, row_of_sign, IsExpr, IsWhole, IsArguments, IsMoreArguments, IsDeclared, IsDeclarations}
use Rattle.shim_grammar.specs.declared.punctuation.Punctuation.{Punctuation}
use Rattle.shim_grammar.specs.declared.punctuation.Punctuation.TheVariants as punctuation
use Rattle.shim_grammar.specs.Machine as machine
use Rattle.shim_grammar.specs.Machine.{Symbol, Fixed, Word, Operand, Inside, Expression, Operators, Arguments, MoreArguments, Argument, Declarations, AfterDeclared, MoreDeclarations, Declaration, AfterDeclaration, SymbolStack, Want, ask, go, is_operator, joins_sign}
use Rattle.shim_grammar.proofs.Gives.{Gives, Takes, Step}
use Rattle.shim_grammar.proofs.Joins.{extend}
use Rattle.shim_grammar.proofs.Takes.{leads_on, leads_asking, moved, whole, closed}

-- a symbol that may stand for nothing takes the step of the stack below it
pub falls : (c : Limits) (y : Symbol) (x : Terminal) (k : SymbolStack) (w v : TextCounts) (o : Option Want) → ((s : List Terminal) → Gives c y w v (x ∷ s) (x ∷ s)) → Step c x k v o → Step c x (y ∷ k) w o
falls c y x k w v o g h = leads_on c x (λ s. Takes c k v (x ∷ s)) (λ s. Takes c (y ∷ k) w (x ∷ s)) o h (λ s t. (x ∷ s, v, g s, t))

pub fixed_sound : (c : Limits) (f : Punctuation) (x : Terminal) (k : SymbolStack) (w : TextCounts) → Step c x (Fixed f ∷ k) w (machine.fixed f x k w)
fixed_sound c punctuation.LeftParen (Sign g.LeftParen p) k w = λ s h t. (s, w, (p, refl, refl), t)
fixed_sound c punctuation.RightParen (Sign g.RightParen p) k w = λ s h t. (s, w, (p, refl, refl), t)
fixed_sound c punctuation.LeftBrace (Sign g.LeftBrace p) k w = λ s h t. (s, w, (p, refl, refl), t)
fixed_sound c punctuation.Comma (Sign g.Comma p) k w = λ s h t. (s, w, (p, refl, refl), t)
fixed_sound c punctuation.Semicolon (Sign g.Semicolon p) k w = λ s h t. (s, w, (p, refl, refl), t)
fixed_sound c punctuation.Equal (Sign g.Equal p) k w = λ s h t. (s, w, (p, refl, refl), t)
fixed_sound c punctuation.Catch (Key key.Catch p) k w = λ s h t. (s, w, (p, refl, refl), t)
fixed_sound c _ _ k w = tt

pub word_sound : (c : Limits) (x : Terminal) (k : SymbolStack) (w : TextCounts) → Step c x (Word ∷ k) w (machine.word x k w)
word_sound c (Name x p) k w = λ s h t. (s, w, (x, p, refl, refl), t)
word_sound c _ k w = tt

parens_gives : (c : Limits) (p : Place) (l : ℕ) (k : SymbolStack) (w : TextCounts) (s : List Terminal) → Takes c (Inside (suc l) ∷ Operators (suc l) ∷ Fixed punctuation.RightParen ∷ k) w s
    → Takes c (Operand l ∷ k) w (Sign g.LeftParen p ∷ s)
parens_gives c p l k w s (r, v, (x, h, d), (i, u, e, (j, a, f, t))) = let z = closed punctuation.RightParen d e f in (j, a, (_, is.parens h z.2), t)

pub operand_sound : (c : Limits) (x : Terminal) (l : ℕ) (k : SymbolStack) (w : TextCounts) → Step c x (Operand l ∷ k) w (machine.operand x l k w)
operand_sound c (Number n p) l k w = λ s h t. (s, w, (_, is.number), t)
operand_sound c (Name x p) l k w = λ s h t. (s, w, (_, is.variable), t)
operand_sound c (Sign g.LeftParen p) l k w = λ s h t. parens_gives c p l k w s t
operand_sound c (Sign g.Minus p) l k w = λ s h t. (t.0, t.1, (_, is.negative h.0 t.2.1 t.2.2), t.3)
operand_sound c (Sign g.Bang p) l k w = λ s h t. (t.0, t.1, (_, is.negation h.0 t.2.1 t.2.2), t.3)
operand_sound c (Sign g.Tilde p) l k w = λ s h t. (t.0, t.1, (_, is.complement h.0 t.2.1 t.2.2), t.3)
operand_sound c _ l k w = tt

pub inside_sound : (c : Limits) (x : Terminal) (l : ℕ) (k : SymbolStack) (w : TextCounts) → Step c x (Inside l ∷ k) w (ask Nesting l (machine.operand x l k (at_level l w)))
inside_sound c x l k w =
    leads_asking c x (λ s. Takes c (Operand l ∷ k) (at_level l w) (x ∷ s)) (λ s. Takes c (Inside l ∷ k) w (x ∷ s)) Nesting l (machine.operand x l k (at_level l w))
    (operand_sound c x l k (at_level l w)) (λ s h t. (t.0, t.1, (t.2.0, h, t.2.1), t.3))

pub expression_sound : (c : Limits) (x : Terminal) (l : ℕ) (k : SymbolStack) (w : TextCounts) → Step c x (Expression l ∷ k) w (machine.operand x l k (new_expression w))
expression_sound c x l k w = operand_sound c x l k (new_expression w)

row_of_operator : (o : SignOf) → joins_sign o ≡ true → (j : ℕ) × (row_of_sign o ≡ suc j) × (j < 10)
row_of_operator g.Star e = (0, refl, omega arith)
row_of_operator g.Slash e = (0, refl, omega arith)
row_of_operator g.Percent e = (0, refl, omega arith)
row_of_operator g.Plus e = (1, refl, omega arith)
row_of_operator g.Minus e = (1, refl, omega arith)
row_of_operator g.Shl e = (2, refl, omega arith)
row_of_operator g.Shr e = (2, refl, omega arith)
row_of_operator g.Less e = (3, refl, omega arith)
row_of_operator g.Le e = (3, refl, omega arith)
row_of_operator g.Greater e = (3, refl, omega arith)
row_of_operator g.Ge e = (3, refl, omega arith)
row_of_operator g.EqEq e = (4, refl, omega arith)
row_of_operator g.NotEq e = (4, refl, omega arith)
row_of_operator g.Amp e = (5, refl, omega arith)
row_of_operator g.Caret e = (6, refl, omega arith)
row_of_operator g.Bar e = (7, refl, omega arith)
row_of_operator g.AndAnd e = (8, refl, omega arith)
row_of_operator g.OrOr e = (9, refl, omega arith)
row_of_operator _ e = absurd (cc)

operator_gives : (c : Limits) (o : SignOf) (p : Place) (l : ℕ) (k : SymbolStack) (w : TextCounts) (s : List Terminal) → joins_sign o ≡ true → c (Sign o p ∷ s) (Count many.Operators) (suc w.operators) ≡ true
    → Takes c (Operand l ∷ Operators l ∷ k) (with_operator w) s → Takes c (Operators l ∷ k) w (Sign o p ∷ s)
operator_gives c o p l k w s e h (r, v, (y, d), (i, u, f, t)) = let j = row_of_operator o e in (i, u, (λ q a x z. let n = extend z j.1 j.2 h d in f q a n.0 n.1), t)

operators_by : (c : Limits) (x : Terminal) (l : ℕ) (k : SymbolStack) (w : TextCounts) (o : Option Want) → Step c x k w o → (b : Bool) → is_operator x ≡ b
    → Step c x (Operators l ∷ k) w (if b then ask (Count many.Operators) (suc w.operators) (go (Operand l ∷ Operators l ∷ k) (with_operator w)) else o)
operators_by c (Sign o p) l k w other f true e = λ s h t. operator_gives c o p l k w s e h.0 t
operators_by c _ l k w other f true e = absurd (cc)
operators_by c x l k w other f false e = falls c (Operators l) x k w w other (λ s q u y d. (y, d)) f

pub operators_sound : (c : Limits) (x : Terminal) (l : ℕ) (k : SymbolStack) (w : TextCounts) (o : Option Want) → Step c x k w o → Step c x (Operators l ∷ k) w (machine.operators x l k w o)
operators_sound c x l k w o f = operators_by c x l k w o f (is_operator x) refl

pub argument_sound : (c : Limits) (x : Terminal) (l n : ℕ) (k : SymbolStack) (w : TextCounts) → Step c x (Argument l n ∷ k) w (machine.wants_argument x l n k w)
argument_sound c x l n k w =
    let j = Operators l ∷ MoreArguments l n ∷ k in
    leads_asking c x (λ s. Takes c (Operand l ∷ j) (new_expression w) (x ∷ s)) (λ s. Takes c (Argument l n ∷ k) w (x ∷ s)) (Count many.Arguments) n (machine.operand x l j (new_expression w))
    (operand_sound c x l j (new_expression w)) (λ s h t. let z = whole t.2.1 t.3.2 in (t.3.3.0, t.3.3.1, (_, _, z.0, t.3.3.2.0, h, z.1, t.3.3.2.1), t.3.3.3))

pub arguments_sound : (c : Limits) (x : Terminal) (l : ℕ) (k : SymbolStack) (w : TextCounts) → Step c x (Arguments l ∷ k) w (machine.wants_arguments x l k w)
arguments_sound c (Sign g.RightParen p) l k w = λ s h t. (s, w, (_, is.no_arguments), t)
arguments_sound c x l k w = leads_on c x (λ s. Takes c (Argument l 1 ∷ k) w (x ∷ s)) (λ s. Takes c (Arguments l ∷ k) w (x ∷ s)) (machine.wants_argument x l 1 k w) (argument_sound c x l 1 k w)
    (λ s t. (t.0, t.1, (_, is.arguments t.2.4 t.2.5 t.2.6), t.3))

pub more_arguments_sound : (c : Limits) (x : Terminal) (l n : ℕ) (k : SymbolStack) (w : TextCounts) → Step c x (MoreArguments l n ∷ k) w (machine.more_arguments x l n k w)
more_arguments_sound c (Sign g.RightParen p) l n k w = λ s h t. (s, w, (_, is.arguments_end), t)
more_arguments_sound c (Sign g.Comma p) l n k w = λ s h t. (t.0, t.1, (_, is.argument t.2.4 t.2.5 t.2.6), t.3)
more_arguments_sound c _ l n k w = tt

-- a declared name, and the comma or the semicolon after it
more_gives : {c : Limits} {l : ℕ} {u w v : TextCounts} {s i r : List Terminal} {x : List ℕ} {value : Option Expr} → IsDeclared c l u w s i x value → Gives c (MoreDeclarations l) w v i r
    → (ty : Ty) (line : ℕ) → (xs : List Stmt) × IsDeclarations c l ty line u v s r xs
more_gives {c = c} {l = l} {u = u} {s = s} {x = x} {value = value} d (inl (p, e, f)) ty line = (_, is.last_declared (moved (λ a t. IsDeclared c l u a s t x value) e f d))
more_gives {c = c} {l = l} {u = u} {w = w} {s = s} {x = x} {value = value} d (inr (p, q, e, f)) ty line =
    let z = f ty line in (_, is.declared (subst (λ t. IsDeclared c l u w s t x value) e d) z.1)

-- the name alone, which counts as one more
pub unvalued : {c : Limits} {l : ℕ} {u w : TextCounts} {s : List Terminal} {x : List ℕ} {p : Place} → w ≡ with_local u → c (Name x p ∷ s) (Count many.Locals) (suc u.locals) ≡ true
    → IsDeclared c l u w (Name x p ∷ s) s x None
unvalued {c = c} {l = l} {u = u} {s = s} {x = x} {p = p} e h = subst (λ a. IsDeclared c l u a (Name x p ∷ s) s x None) (sym e) (is.without_value h)

-- the name with its value
valued : {c : Limits} {l : ℕ} {u w v : TextCounts} {s r : List Terminal} {x : List ℕ} {p q : Place} {y : Expr} → w ≡ with_local u
    → c (Name x p ∷ Sign g.Equal q ∷ s) (Count many.Locals) (suc u.locals) ≡ true → IsWhole c l w v s r y → IsDeclared c l u v (Name x p ∷ Sign g.Equal q ∷ s) r x (Some y)
valued {c = c} {l = l} {v = v} {s = s} {r = r} {y = y} e h d = is.with_value h (subst (λ a. IsWhole c l a v s r y) e d)

pub declarations_sound : (c : Limits) (x : Terminal) (l : ℕ) (k : SymbolStack) (w : TextCounts) → Step c x (Declarations l ∷ k) w (machine.wants_declarations x l k w)
declarations_sound c (Name x p) l k w = λ s h t. (t.0, t.1, t.2 w x p refl h.0, t.3)
declarations_sound c _ l k w = tt

pub more_declarations_sound : (c : Limits) (x : Terminal) (l : ℕ) (k : SymbolStack) (w : TextCounts) → Step c x (MoreDeclarations l ∷ k) w (machine.more_declarations x l k w)
more_declarations_sound c (Sign g.Comma p) l k w = λ s h t. (t.0, t.1, inr (p, s, refl, t.2), t.3)
more_declarations_sound c (Sign g.Semicolon p) l k w = λ s h t. (s, w, inl (p, refl, refl), t)
more_declarations_sound c _ l k w = tt

pub after_declared_sound : (c : Limits) (x : Terminal) (l : ℕ) (k : SymbolStack) (w : TextCounts) → Step c x (AfterDeclared l ∷ k) w (machine.after_declared x l k w)
after_declared_sound c (Sign g.Equal p) l k w = λ s h t. let z = whole t.2.1 t.3.2 in (t.3.3.0, t.3.3.1, (λ u x q e i ty line. more_gives (valued e i z.1) t.3.3.2 ty line), t.3.3.3)
after_declared_sound c x l k w =
    leads_on c x (λ s. Takes c (MoreDeclarations l ∷ k) w (x ∷ s)) (λ s. Takes c (AfterDeclared l ∷ k) w (x ∷ s)) (machine.more_declarations x l k w) (more_declarations_sound c x l k w)
    (λ s t. (t.0, t.1, (λ u y q e i ty line. more_gives (unvalued e i) t.2 ty line), t.3))

pub declaration_sound : (c : Limits) (x : Terminal) (l : ℕ) (k : SymbolStack) (w : TextCounts) → Step c x (Declaration l ∷ k) w (machine.wants_declaration x l k w)
declaration_sound c (Name x p) l k w = λ s h t. (t.0, t.1, (let z = t.2 w x p refl h.0 in (z.0, x, z.1, z.2)), t.3)
declaration_sound c _ l k w = tt

pub after_declaration_sound : (c : Limits) (x : Terminal) (l : ℕ) (k : SymbolStack) (w : TextCounts) → Step c x (AfterDeclaration l ∷ k) w (machine.after_declaration x l k w)
after_declaration_sound c (Sign g.Equal p) l k w = λ s h t.
    let z = closed punctuation.Semicolon t.2.1 t.3.2 t.3.3.2 in (t.3.3.0, t.3.3.1, (λ u x q e i. (z.0, _, valued e i z.2)), t.3.3.3)
after_declaration_sound c (Sign g.Semicolon p) l k w = λ s h t. (s, w, (λ u x q e i. (p, None, unvalued e i)), t)
after_declaration_sound c _ l k w = tt
