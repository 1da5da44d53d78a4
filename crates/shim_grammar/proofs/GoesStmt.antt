-- What the machine takes may go on: statements, blocks and forks.
use Rattle.std.proofs.Common.{◌≡◌, inl, inr, ℕ, suc, List, ◌∷◌, Bool, true, false, Option, None, refl, subst}
use Rattle.std.specs.Prelude.{if◌then◌else◌}
use Rattle.shim_base.specs.declared.token.Keyword.TheVariants as key
use Rattle.shim_base.specs.declared.token.Sign.TheVariants as g
use Rattle.shim_base.specs.Tokens.{Place}
use Rattle.shim_syntax.specs.declared.limits.Many.TheVariants as many
use Rattle.shim_syntax.specs.declared.tree.Sort.TheVariants.{Value}
use Rattle.shim_syntax.specs.declared.tree.Expr.{Expr}
use Rattle.shim_syntax.specs.declared.tree.Stmt.{Stmt}
use Rattle.shim_syntax.specs.declared.tree.Branch.{Branch as BranchTree}
use Rattle.shim_syntax.specs.Terminals.{Terminal, Name, Sort, Key, Sign}
use Rattle.shim_syntax.specs.Limits.{Nesting, Count, Limits}
use Rattle.shim_syntax.specs.Grammar as is
use Rattle.shim_syntax.specs.Grammar.{TextCounts, with_local, new_expression, at_level, new_body, behind_body, as_branch, is_else, is_par, IsWhole, IsArguments, IsBlock, IsStmt, IsBody, IsPlain, IsBranches, IsBranch}
use Rattle.shim_grammar.specs.declared.punctuation.Punctuation.TheVariants as punctuation
use Rattle.shim_grammar.specs.Machine as machine
use Rattle.shim_grammar.specs.Machine.{Fixed, Word, Operand, Expression, Operators, Arguments, Declarations, Statement, Body, Block, AfterWord, AfterEqual, AfterNext, ThrowRest, CatchRest, First, Test, Else, AfterBody, Pars, Branch, SymbolStack, Want}
use Rattle.shim_grammar.specs.Machine.{Step as StepOfFor}
use Rattle.shim_grammar.proofs.Gives.{Gives, Takes, Step}
use Rattle.shim_grammar.proofs.Takes.{Leads, leads_on, leads_asking, moved, fixed_then, word_then, closed, closed_arguments}
use Rattle.shim_grammar.proofs.GoesExpr.{falls, operand_sound}

first_gives : (c : Limits) (x : List ℕ) (p : Place) (l : ℕ) (k : SymbolStack) (w : TextCounts) (s : List Terminal)
    → Takes c (Fixed punctuation.Equal ∷ Expression l ∷ Operators l ∷ Fixed punctuation.Semicolon ∷ k) (at_level l w) s → c (Name x p ∷ s) Nesting l ≡ true → Takes c (First l ∷ k) w (Name x p ∷ s)
first_gives c x p l k w =
    fixed_then c (Expression l ∷ Operators l ∷ Fixed punctuation.Semicolon ∷ k) (at_level l w) (λ s. c (Name x p ∷ s) Nesting l ≡ true → Takes c (First l ∷ k) w (Name x p ∷ s)) punctuation.Equal
    (λ q r t h. let z = closed punctuation.Semicolon t.2.1 t.3.2 t.3.3.2 in (t.3.3.0, t.3.3.1, (_, is.first_assign h z.2), t.3.3.3))

pub first_sound : (c : Limits) (x : Terminal) (l : ℕ) (k : SymbolStack) (w : TextCounts) → Step c x (First l ∷ k) w (machine.first_of_for x l k w)
first_sound c (Sign g.Semicolon p) l k w = λ s h t. (s, w, (_, is.no_first), t)
first_sound c (Sort (Value ty) p) l k w = λ s h t. (t.0, t.1, (_, is.first_declare h.0 t.2.3), t.3)
first_sound c (Name x p) l k w = λ s h t. first_gives c x p l k w s t h.0
first_sound c _ l k w = tt

-- from its first operand on, up to a semicolon
pub test_sound : (c : Limits) (x : Terminal) (l : ℕ) (k : SymbolStack) (w : TextCounts) → Step c x (Test l ∷ k) w (machine.test_of_for x l k w)
test_sound c (Sign g.Semicolon p) l k w = λ s h t. (s, w, (_, is.no_test), t)
test_sound c x l k w =
    let j = Operators l ∷ Fixed punctuation.Semicolon ∷ k in
    leads_on c x (λ s. Takes c (Operand l ∷ j) (new_expression w) (x ∷ s)) (λ s. Takes c (Test l ∷ k) w (x ∷ s)) (machine.operand x l j (new_expression w))
    (operand_sound c x l j (new_expression w)) (λ s t. let z = closed punctuation.Semicolon t.2.1 t.3.2 t.3.3.2 in (t.3.3.0, t.3.3.1, (_, is.test z.2), t.3.3.3))

step_gives : (c : Limits) (x : List ℕ) (p : Place) (l : ℕ) (k : SymbolStack) (w : TextCounts) (s : List Terminal)
    → Takes c (Fixed punctuation.Equal ∷ Expression l ∷ Operators l ∷ Fixed punctuation.RightParen ∷ k) (at_level l w) s → c (Name x p ∷ s) Nesting l ≡ true → Takes c (StepOfFor l ∷ k) w (Name x p ∷ s)
step_gives c x p l k w =
    fixed_then c (Expression l ∷ Operators l ∷ Fixed punctuation.RightParen ∷ k) (at_level l w) (λ s. c (Name x p ∷ s) Nesting l ≡ true → Takes c (StepOfFor l ∷ k) w (Name x p ∷ s)) punctuation.Equal
    (λ q r t h. let z = closed punctuation.RightParen t.2.1 t.3.2 t.3.3.2 in (t.3.3.0, t.3.3.1, (_, is.step h z.2), t.3.3.3))

pub step_sound : (c : Limits) (x : Terminal) (l : ℕ) (k : SymbolStack) (w : TextCounts) → Step c x (StepOfFor l ∷ k) w (machine.step_of_for x l k w)
step_sound c (Sign g.RightParen p) l k w = λ s h t. (s, w, (_, is.no_step), t)
step_sound c (Name x p) l k w = λ s h t. step_gives c x p l k w s t h.0
step_sound c _ l k w = tt

-- the branches after a `par`, the first of them given
branches_give : {c : Limits} {l n : ℕ} {w u v : TextCounts} {s i r : List Terminal} {b : BranchTree} → c s (Count many.Branches) (suc n) ≡ true → IsBranch c l w u s i b → Gives c (Pars l (suc n)) u v i r
    → (bs : List BranchTree) × IsBranches c l n w v s r bs
branches_give {c = c} {l = l} {w = w} {s = s} {b = b} h d (inl (e, f, i)) = (_, is.last_branch h (moved (λ a t. IsBranch c l w a s t b) e i d) f)
branches_give {c = c} {l = l} {w = w} {u = u} {s = s} {b = b} h d (inr (p, q, bs, e, f)) = (_, is.branch h (subst (λ t. IsBranch c l w u s t b) e d) f)

-- a block, which may be the first branch of a fork
block_gives : {c : Limits} {p : Place} {l : ℕ} {w u v : TextCounts} {s i r : List Terminal} {xs : List Stmt} → IsBlock c (suc l) w u s i xs → Gives c (Pars l 1) u v i r
    → (ys : List Stmt) × IsStmt c l w v (Sign g.LeftBrace p ∷ s) r ys
block_gives {c = c} {l = l} {w = w} {s = s} {xs = xs} d (inl (e, f, i)) = (_, is.block (moved (λ a t. IsBlock c (suc l) w a s t xs) e i d) f)
block_gives {c = c} {l = l} {w = w} {u = u} {s = s} {xs = xs} d (inr (p, q, bs, e, f)) = (_, is.block_fork (subst (λ t. IsBlock c (suc l) w u s t xs) e d) f)

-- the block of a body, likewise
body_gives : {c : Limits} {p : Place} {l : ℕ} {w u v : TextCounts} {s i r : List Terminal} {xs : List Stmt} → IsBlock c l (new_body w) u s i xs → Gives c (AfterBody l w.deepest) u v i r
    → (ys : List Stmt) × IsBody c l w v (Sign g.LeftBrace p ∷ s) r ys
body_gives {c = c} {p = p} {l = l} {w = w} {u = u} {s = s} {r = r} {xs = xs} d (inl (e, f, i)) =
    (_, subst (λ a. IsBody c l w a (Sign g.LeftBrace p ∷ s) r xs) i (is.body_block (subst (λ t. IsBlock c l (new_body w) u s t xs) e d) f))
body_gives {c = c} {l = l} {w = w} {u = u} {s = s} {xs = xs} d (inr (p, q, bs, e, h, f)) =
    (_, is.body_fork (subst (λ t. IsBlock c l (new_body w) u s t xs) e d) (subst (λ t. c t Nesting (as_branch l u) ≡ true) e h) f)

-- a call, likewise
call_gives : {c : Limits} {f : List ℕ} {p q o : Place} {l : ℕ} {w u v : TextCounts} {s i r : List Terminal} {xs : List Expr} → IsArguments c l w u s (Sign g.Semicolon o ∷ i) xs
    → Gives c (Pars l 1) u v i r → (ys : List Stmt) × IsPlain c l w v (Name f p ∷ Sign g.LeftParen q ∷ s) r ys
call_gives {c = c} {o = o} {l = l} {w = w} {s = s} {xs = xs} d (inl (e, f, i)) = (_, is.call (moved (λ a t. IsArguments c l w a s (Sign g.Semicolon o ∷ t) xs) e i d) f)
call_gives {c = c} {o = o} {l = l} {w = w} {u = u} {s = s} {xs = xs} d (inr (p, q, bs, e, f)) =
    (_, is.call_fork (subst (λ t. IsArguments c l w u s (Sign g.Semicolon o ∷ t) xs) e d) f)

pub else_sound : (c : Limits) (x : Terminal) (l : ℕ) (k : SymbolStack) (w : TextCounts) (o : Option Want) → Step c x k w o → Step c x (Else l ∷ k) w (machine.wants_or_else x l k w o)
else_sound c (Key key.Else p) l k w o f = λ s h t. (t.0, t.1, inr (p, s, t.2.0, refl, t.2.1), t.3)
else_sound c x l k w o f = falls c (Else l) x k w w o (λ s. inl (refl, refl, refl)) f

pub after_body_sound : (c : Limits) (x : Terminal) (l d : ℕ) (k : SymbolStack) (w : TextCounts) (o : Option Want)
    → Step c x k (behind_body d w) o → Step c x (AfterBody l d ∷ k) w (machine.after_body x l d k w o)
after_body_sound c (Key key.Par p) l d k w o f = λ s h t. let z = branches_give t.2.1 t.2.2 t.3.2 in (t.3.0, t.3.1, inr (p, s, z.0, refl, h.0, z.1), t.3.3)
after_body_sound c x l d k w o f = falls c (AfterBody l d) x k w (behind_body d w) o (λ s. inl (refl, refl, refl)) f

pub pars_sound : (c : Limits) (x : Terminal) (l n : ℕ) (k : SymbolStack) (w : TextCounts) (o : Option Want) → Step c x k w o → Step c x (Pars l n ∷ k) w (machine.pars x l n k w o)
pars_sound c (Key key.Par p) l n k w o f = λ s h t. let z = branches_give t.2.1 t.2.2 t.3.2 in (t.3.0, t.3.1, inr (p, s, z.0, refl, z.1), t.3.3)
pars_sound c x l n k w o f = falls c (Pars l n) x k w w o (λ s. inl (refl, refl, refl)) f

call_branch_gives : (c : Limits) (x : List ℕ) (p : Place) (l n : ℕ) (k : SymbolStack) (w : TextCounts) (s : List Terminal) → Takes c (Fixed punctuation.LeftParen ∷ Arguments l ∷ Fixed punctuation.Semicolon ∷ k) w s
    → c (Name x p ∷ s) (Count many.Branches) n ≡ true → Takes c (Branch l n ∷ k) w (Name x p ∷ s)
call_branch_gives c x p l n k w =
    fixed_then c (Arguments l ∷ Fixed punctuation.Semicolon ∷ k) w (λ s. c (Name x p ∷ s) (Count many.Branches) n ≡ true → Takes c (Branch l n ∷ k) w (Name x p ∷ s)) punctuation.LeftParen
    (λ q r t h. let z = closed_arguments punctuation.Semicolon t.2.1 t.3.2 in (t.3.0, t.3.1, (_, h, is.call_branch z.1), t.3.3))

pub branch_sound : (c : Limits) (x : Terminal) (l n : ℕ) (k : SymbolStack) (w : TextCounts) → Step c x (Branch l n ∷ k) w (machine.branch x l n k w)
branch_sound c (Sign g.LeftBrace p) l n k w = λ s h t. (t.0, t.1, (_, h.0, is.block_branch t.2.1), t.3)
branch_sound c (Name x p) l n k w = λ s h t. call_branch_gives c x p l n k w s t h.0
branch_sound c _ l n k w = tt

-- a statement that begins with no brace, and then what the stack wants
abbrev Plain : Limits → ℕ → SymbolStack → TextCounts → List Terminal → Type 0
Plain c l k w s = (r : List Terminal) × (v : TextCounts) × ((xs : List Stmt) × IsPlain c l w v s r xs) × Takes c k v r

next_gives : (c : Limits) (p : Place) (l : ℕ) (k : SymbolStack) (w : TextCounts) (s : List Terminal) → Takes c (Word ∷ AfterNext l ∷ k) w s → Plain c l k w (Key key.Next p ∷ s)
next_gives c p l k w = word_then c (AfterNext l ∷ k) w (λ s. Plain c l k w (Key key.Next p ∷ s)) (λ x q r t. (t.0, t.1, t.2 x p q, t.3))

put_gives : (c : Limits) (p : Place) (l : ℕ) (k : SymbolStack) (w : TextCounts) (s : List Terminal) → Takes c (Word ∷ Fixed punctuation.Comma ∷ Expression l ∷ Operators l ∷ Fixed punctuation.Semicolon ∷ k) w s
    → Plain c l k w (Key key.Put p ∷ s)
put_gives c p l k w =
    let j = Expression l ∷ Operators l ∷ Fixed punctuation.Semicolon ∷ k in
    word_then c (Fixed punctuation.Comma ∷ j) w (λ s. Plain c l k w (Key key.Put p ∷ s)) (λ x q. fixed_then c j w (λ s. Plain c l k w (Key key.Put p ∷ Name x q ∷ s)) punctuation.Comma
    (λ o r t. let z = closed punctuation.Semicolon t.2.1 t.3.2 t.3.3.2 in (t.3.3.0, t.3.3.1, (_, is.put z.2), t.3.3.3)))

-- an `if` up to its body, and what its `else` gives
else_gives : {c : Limits} {p q o : Place} {l : ℕ} {w u a v : TextCounts} {s i j r : List Terminal} {x : Expr} {xs : List Stmt} → IsWhole c l w u s (Sign g.RightParen o ∷ i) x → IsBody c (suc l) u a i j xs
    → Gives c (Else (suc l)) a v j r → (ys : List Stmt) × IsPlain c l w v (Key key.If p ∷ Sign g.LeftParen q ∷ s) r ys
else_gives {c = c} {l = l} {u = u} {i = i} {xs = xs} d b (inl (e, f, h)) = (_, is.if_alone d (moved (λ a t. IsBody c (suc l) u a i t xs) e h b) f)
else_gives {c = c} {l = l} {u = u} {a = a} {i = i} {xs = xs} d b (inr (p, q, ys, e, f)) = (_, is.if_else d (subst (λ t. IsBody c (suc l) u a i t xs) e b) f)

if_gives : (c : Limits) (p : Place) (l : ℕ) (k : SymbolStack) (w : TextCounts) (s : List Terminal)
    → Takes c (Fixed punctuation.LeftParen ∷ Expression l ∷ Operators l ∷ Fixed punctuation.RightParen ∷ Body (suc l) ∷ Else (suc l) ∷ k) w s → Plain c l k w (Key key.If p ∷ s)
if_gives c p l k w =
    fixed_then c (Expression l ∷ Operators l ∷ Fixed punctuation.RightParen ∷ Body (suc l) ∷ Else (suc l) ∷ k) w (λ s. Plain c l k w (Key key.If p ∷ s)) punctuation.LeftParen
    (λ q s t. let z = closed punctuation.RightParen t.2.1 t.3.2 t.3.3.2 in let b = t.3.3.3 in (b.3.0, b.3.1, else_gives z.2 b.2.1 b.3.2, b.3.3))

while_gives : (c : Limits) (p : Place) (l : ℕ) (k : SymbolStack) (w : TextCounts) (s : List Terminal)
    → Takes c (Fixed punctuation.LeftParen ∷ Expression l ∷ Operators l ∷ Fixed punctuation.RightParen ∷ Body (suc l) ∷ k) w s → Plain c l k w (Key key.While p ∷ s)
while_gives c p l k w =
    fixed_then c (Expression l ∷ Operators l ∷ Fixed punctuation.RightParen ∷ Body (suc l) ∷ k) w (λ s. Plain c l k w (Key key.While p ∷ s)) punctuation.LeftParen
    (λ q s t. let z = closed punctuation.RightParen t.2.1 t.3.2 t.3.3.2 in let b = t.3.3.3 in (b.0, b.1, (_, is.while z.2 b.2.1), b.3))

for_gives : (c : Limits) (p : Place) (l : ℕ) (k : SymbolStack) (w : TextCounts) (s : List Terminal)
    → Takes c (Fixed punctuation.LeftParen ∷ First (suc l) ∷ Test l ∷ StepOfFor (suc l) ∷ Body (suc l) ∷ k) w s → Plain c l k w (Key key.For p ∷ s)
for_gives c p l k w =
    fixed_then c (First (suc l) ∷ Test l ∷ StepOfFor (suc l) ∷ Body (suc l) ∷ k) w (λ s. Plain c l k w (Key key.For p ∷ s)) punctuation.LeftParen
    (λ q s t. let b = t.3.3.3 in (b.0, b.1, (_, is.for_loop t.2.1 t.3.2.1 t.3.3.2.1 b.2.1), b.3))

-- what stands between the block of a `try` and the rest of its `catch`
catch_then : (c : Limits) (k : SymbolStack) (w : TextCounts) (P : List Terminal → Type 0)
    → ((o a : Place) (x : List ℕ) (b : Place) (r : List Terminal) → Takes c k w r → P (Key key.Catch o ∷ Sign g.LeftParen a ∷ Name x b ∷ r))
    → (s : List Terminal) → Takes c (Fixed punctuation.Catch ∷ Fixed punctuation.LeftParen ∷ Word ∷ k) w s → P s
catch_then c k w P f =
    fixed_then c (Fixed punctuation.LeftParen ∷ Word ∷ k) w P punctuation.Catch
    (λ o. fixed_then c (Word ∷ k) w (λ s. P (Key key.Catch o ∷ s)) punctuation.LeftParen
    (λ a. word_then c k w (λ s. P (Key key.Catch o ∷ Sign g.LeftParen a ∷ s)) (λ x b r t. f o a x b r t)))

caught_gives : (c : Limits) (p q : Place) (l : ℕ) (k : SymbolStack) (w u : TextCounts) (s : List Terminal) (xs : List Stmt) (r : List Terminal)
    → Takes c (Fixed punctuation.Catch ∷ Fixed punctuation.LeftParen ∷ Word ∷ CatchRest ∷ Block (suc l) ∷ k) u r → IsBlock c (suc l) w u s r xs
    → Plain c l k w (Key key.Try p ∷ Sign g.LeftBrace q ∷ s)
caught_gives c p q l k w u s xs =
    catch_then c (CatchRest ∷ Block (suc l) ∷ k) u (λ r. IsBlock c (suc l) w u s r xs → Plain c l k w (Key key.Try p ∷ Sign g.LeftBrace q ∷ s))
    (λ o a x b r t e. (t.3.0, t.3.1, (_, is.try e t.2.1 t.3.2.1), t.3.3))

try_gives : (c : Limits) (p : Place) (l : ℕ) (k : SymbolStack) (w : TextCounts) (s : List Terminal)
    → Takes c (Fixed punctuation.LeftBrace ∷ Block (suc l) ∷ Fixed punctuation.Catch ∷ Fixed punctuation.LeftParen ∷ Word ∷ CatchRest ∷ Block (suc l) ∷ k) w s
    → Plain c l k w (Key key.Try p ∷ s)
try_gives c p l k w =
    fixed_then c (Block (suc l) ∷ Fixed punctuation.Catch ∷ Fixed punctuation.LeftParen ∷ Word ∷ CatchRest ∷ Block (suc l) ∷ k) w
    (λ s. Plain c l k w (Key key.Try p ∷ s)) punctuation.LeftBrace (λ q s t. caught_gives c p q l k w t.1 s t.2.0 t.0 t.3 t.2.1)

-- what stands after the exception of a `catch`
variable_gives : (c : Limits) (x : List ℕ) (p : Place) (k : SymbolStack) (w : TextCounts) → w.two ≡ true → (s : List Terminal) → Takes c (Fixed punctuation.RightParen ∷ Fixed punctuation.LeftBrace ∷ k) (with_local w) s
    → c (Name x p ∷ s) (Count many.Locals) (suc w.locals) ≡ true → Takes c (CatchRest ∷ k) w (Name x p ∷ s)
variable_gives c x p k w two =
    fixed_then c (Fixed punctuation.LeftBrace ∷ k) (with_local w) (λ s. c (Name x p ∷ s) (Count many.Locals) (suc w.locals) ≡ true → Takes c (CatchRest ∷ k) w (Name x p ∷ s)) punctuation.RightParen
    (λ q. fixed_then c k (with_local w) (λ s. c (Name x p ∷ Sign g.RightParen q ∷ s) (Count many.Locals) (suc w.locals) ≡ true → Takes c (CatchRest ∷ k) w (Name x p ∷ Sign g.RightParen q ∷ s))
    punctuation.LeftBrace (λ o r t h. (r, with_local w, (_, is.catch_variable two h), t)))

variable_by : (c : Limits) (x : List ℕ) (p : Place) (k : SymbolStack) (w : TextCounts) (b : Bool) → w.two ≡ b → Step c (Name x p) (CatchRest ∷ k) w
    (if b then machine.ask (Count many.Locals) (suc w.locals) (machine.go (Fixed punctuation.RightParen ∷ Fixed punctuation.LeftBrace ∷ k) (with_local w)) else None)
variable_by c x p k w true two = λ s h t. variable_gives c x p k w two s t h.0
variable_by c x p k w false two = tt

pub catch_rest_sound : (c : Limits) (x : Terminal) (k : SymbolStack) (w : TextCounts) → Step c x (CatchRest ∷ k) w (machine.catch_rest x k w)
catch_rest_sound c (Sign g.RightParen p) k w = λ s h t.
    fixed_then c k w (λ s. Takes c (CatchRest ∷ k) w (Sign g.RightParen p ∷ s)) punctuation.LeftBrace (λ q r t. (r, w, (_, is.no_variable), t)) s t
catch_rest_sound c (Name x p) k w = variable_by c x p k w w.two refl
catch_rest_sound c _ k w = tt

-- what stands after that of a `throw`
number_by : (c : Limits) (p : Place) (l : ℕ) (k : SymbolStack) (w : TextCounts) (b : Bool) → w.two ≡ b → Step c (Sign g.LeftParen p) (ThrowRest l ∷ k) w
    (if b then machine.go (Expression l ∷ Operators l ∷ Fixed punctuation.RightParen ∷ Fixed punctuation.Semicolon ∷ k) w else None)
number_by c p l k w true two = λ s h t.
    let z = closed punctuation.RightParen t.2.1 t.3.2 t.3.3.2 in
    let o = t.3.3.3 in
    (o.0, o.1, (_, is.thrown_number two (moved (λ a u. IsWhole c l w a s (Sign g.RightParen z.0 ∷ u) z.1) o.2.1 o.2.2 z.2)), o.3)
number_by c p l k w false two = tt

pub throw_rest_sound : (c : Limits) (x : Terminal) (l : ℕ) (k : SymbolStack) (w : TextCounts) → Step c x (ThrowRest l ∷ k) w (machine.throw_rest x l k w)
throw_rest_sound c (Sign g.Semicolon p) l k w = λ s h t. (s, w, (_, is.no_number), t)
throw_rest_sound c (Sign g.LeftParen p) l k w = number_by c p l k w w.two refl
throw_rest_sound c _ l k w = tt

-- a name and a semicolon
ended_then : (c : Limits) (k : SymbolStack) (w : TextCounts) (P : List Terminal → Type 0) → ((x : List ℕ) (p o : Place) (r : List Terminal) → Takes c k w r → P (Name x p ∷ Sign g.Semicolon o ∷ r))
    → (s : List Terminal) → Takes c (Word ∷ Fixed punctuation.Semicolon ∷ k) w s → P s
ended_then c k w P f = word_then c (Fixed punctuation.Semicolon ∷ k) w P (λ x p. fixed_then c k w (λ s. P (Name x p ∷ s)) punctuation.Semicolon (λ o r t. f x p o r t))

throw_gives : (c : Limits) (p : Place) (l : ℕ) (k : SymbolStack) (w : TextCounts) (s : List Terminal) → Takes c (Word ∷ ThrowRest l ∷ k) w s → Plain c l k w (Key key.Throw p ∷ s)
throw_gives c p l k w = word_then c (ThrowRest l ∷ k) w (λ s. Plain c l k w (Key key.Throw p ∷ s)) (λ x q r t. (t.0, t.1, (_, is.throw t.2.1), t.3))

abbrev opens : Terminal → Bool
opens (Sign g.LeftBrace p) = true
opens _ = false

plain_sound : (c : Limits) (x : Terminal) (l : ℕ) (k : SymbolStack) (w : TextCounts) → opens x ≡ false → Leads c x (λ s. Plain c l k w (x ∷ s)) (machine.statement x l k w)
plain_sound c (Sign g.Semicolon p) l k w e = λ s h t. (s, w, (_, is.empty), t)
plain_sound c (Sort (Value ty) p) l k w e = λ s h t. (t.0, t.1, (let z = t.2 ty p.line in (z.0, is.declare z.1)), t.3)
plain_sound c (Name x p) l k w e = λ s h t. (t.0, t.1, t.2 x p, t.3)
plain_sound c (Key key.Next p) l k w e = λ s h t. next_gives c p l k w s t
plain_sound c (Key key.Put p) l k w e = λ s h t. put_gives c p l k w s t
plain_sound c (Key key.If p) l k w e = λ s h t. if_gives c p l k w s t
plain_sound c (Key key.While p) l k w e = λ s h t. while_gives c p l k w s t
plain_sound c (Key key.For p) l k w e = λ s h t. for_gives c p l k w s t
plain_sound c (Key key.Try p) l k w e = λ s h t. try_gives c p l k w s t
plain_sound c (Key key.Throw p) l k w e = λ s h t. throw_gives c p l k w s t
plain_sound c (Sign g.LeftBrace p) l k w e = absurd (cc)
plain_sound c _ l k w e = tt

-- any statement, and then what the stack wants
abbrev Any : Limits → ℕ → SymbolStack → TextCounts → List Terminal → Type 0
Any c l k w s = (r : List Terminal) × (v : TextCounts) × ((xs : List Stmt) × IsStmt c l w v s r xs) × Takes c k v r

any_sound : (c : Limits) (x : Terminal) (l : ℕ) (k : SymbolStack) (w : TextCounts) → Leads c x (λ s. Any c l k w (x ∷ s)) (machine.statement x l k w)
any_sound c (Sign g.LeftBrace p) l k w = λ s h t. (t.3.0, t.3.1, block_gives t.2.1 t.3.2, t.3.3)
any_sound c x l k w = leads_on c x (λ s. Plain c l k w (x ∷ s)) (λ s. Any c l k w (x ∷ s)) (machine.statement x l k w) (plain_sound c x l k w refl) (λ s t. (t.0, t.1, (_, is.plain t.2.1), t.3))

pub statement_sound : (c : Limits) (x : Terminal) (l : ℕ) (k : SymbolStack) (w : TextCounts) → Step c x (Statement l ∷ k) w (machine.thing x l k w)
statement_sound c x l k w =
    leads_asking c x (λ s. Any c l k (at_level l w) (x ∷ s)) (λ s. Takes c (Statement l ∷ k) w (x ∷ s)) Nesting l (machine.statement x l k (at_level l w)) (any_sound c x l k (at_level l w))
    (λ s h t. (t.0, t.1, (t.2.0, h, t.2.1), t.3))

pub block_sound : (c : Limits) (x : Terminal) (l : ℕ) (k : SymbolStack) (w : TextCounts) → Step c x (Block l ∷ k) w (machine.wants_block x l k w)
block_sound c (Sign g.RightBrace p) l k w = λ s h t. (s, w, (_, is.block_end), t)
block_sound c x l k w =
    leads_on c x (λ s. Takes c (Statement l ∷ Block l ∷ k) w (x ∷ s)) (λ s. Takes c (Block l ∷ k) w (x ∷ s)) (machine.thing x l (Block l ∷ k) w) (statement_sound c x l (Block l ∷ k) w)
    (λ s t. (t.3.0, t.3.1, (_, is.stmt t.2.1 t.2.2 t.3.2.1), t.3.3))

pub body_sound : (c : Limits) (x : Terminal) (l : ℕ) (k : SymbolStack) (w : TextCounts) → Step c x (Body l ∷ k) w (machine.body x l k w)
body_sound c (Sign g.LeftBrace p) l k w = λ s h t. (t.3.0, t.3.1, body_gives t.2.1 t.3.2, t.3.3)
body_sound c x l k w =
    leads_asking c x (λ s. Plain c l k (at_level l w) (x ∷ s)) (λ s. Takes c (Body l ∷ k) w (x ∷ s)) Nesting l (machine.statement x l k (at_level l w)) (plain_sound c x l k (at_level l w) refl)
    (λ s h t. (t.0, t.1, (_, is.body_plain h t.2.1), t.3))

pub after_word_sound : (c : Limits) (x : Terminal) (l : ℕ) (k : SymbolStack) (w : TextCounts) → Step c x (AfterWord l ∷ k) w (machine.after_word x l k w)
after_word_sound c (Sign g.Equal p) l k w = λ s h t. (t.0, t.1, (λ x q. t.2 x q p), t.3)
after_word_sound c (Sign g.LeftParen p) l k w = λ s h t. let z = closed_arguments punctuation.Semicolon t.2.1 t.3.2 in (t.3.3.0, t.3.3.1, (λ x q. call_gives z.1 t.3.3.2), t.3.3.3)
after_word_sound c _ l k w = tt

assign_next_gives : (c : Limits) (p : Place) (l : ℕ) (k : SymbolStack) (w : TextCounts) (s : List Terminal) → Takes c (Word ∷ Fixed punctuation.Semicolon ∷ k) w s → Takes c (AfterEqual l ∷ k) w (Key key.Next p ∷ s)
assign_next_gives c p l k w = ended_then c k w (λ s. Takes c (AfterEqual l ∷ k) w (Key key.Next p ∷ s)) (λ y a b r t. (r, w, (λ x q o. (_, is.assign_next)), t))

get_gives : (c : Limits) (p : Place) (l : ℕ) (k : SymbolStack) (w : TextCounts) (s : List Terminal) → Takes c (Word ∷ Fixed punctuation.Semicolon ∷ k) w s → Takes c (AfterEqual l ∷ k) w (Key key.Get p ∷ s)
get_gives c p l k w = ended_then c k w (λ s. Takes c (AfterEqual l ∷ k) w (Key key.Get p ∷ s)) (λ y a b r t. (r, w, (λ x q o. (_, is.get)), t))

pub after_equal_sound : (c : Limits) (x : Terminal) (l : ℕ) (k : SymbolStack) (w : TextCounts) → Step c x (AfterEqual l ∷ k) w (machine.after_equal x l k w)
after_equal_sound c (Key key.Next p) l k w = λ s h t. assign_next_gives c p l k w s t
after_equal_sound c (Key key.Get p) l k w = λ s h t. get_gives c p l k w s t
after_equal_sound c x l k w =
    let j = Operators l ∷ Fixed punctuation.Semicolon ∷ k in
    leads_on c x (λ s. Takes c (Operand l ∷ j) (new_expression w) (x ∷ s)) (λ s. Takes c (AfterEqual l ∷ k) w (x ∷ s)) (machine.operand x l j (new_expression w))
    (operand_sound c x l j (new_expression w)) (λ s t. let z = closed punctuation.Semicolon t.2.1 t.3.2 t.3.3.2 in (t.3.3.0, t.3.3.1, (λ x p q. (_, is.assign z.2)), t.3.3.3))

pub after_next_sound : (c : Limits) (x : Terminal) (l : ℕ) (k : SymbolStack) (w : TextCounts) → Step c x (AfterNext l ∷ k) w (machine.after_next x l k w)
after_next_sound c (Sign g.Semicolon p) l k w = λ s h t. (s, w, (λ x q o. (_, is.next)), t)
after_next_sound c (Sign g.Equal p) l k w = λ s h t. let z = closed punctuation.Semicolon t.2.1 t.3.2 t.3.3.2 in (t.3.3.0, t.3.3.1, (λ x q o. (_, is.next_assign z.2)), t.3.3.3)
after_next_sound c _ l k w = tt
