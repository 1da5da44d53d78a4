-- No two blocks, statements, bodies or branches stand at the front of the same terminals.
use Rattle.std.proofs.Common.{◌≡◌, ℕ, List, ◌∷◌, Option, false, refl, sym, ◌∙◌, ap, subst}
use Rattle.shim_base.specs.declared.token.Keyword.TheVariants as k
use Rattle.shim_base.specs.declared.token.Sign.TheVariants as g
use Rattle.shim_base.specs.Tokens.{Place}
use Rattle.shim_syntax.specs.declared.tree.Expr.{Expr}
use Rattle.shim_syntax.specs.declared.tree.Stmt.{Stmt}
use Rattle.shim_syntax.specs.declared.tree.Branch.{Branch}
use Rattle.shim_syntax.specs.Terminals.{Terminal, Key, Sign, first}
use Rattle.shim_syntax.specs.Limits.{Limits}
use Rattle.shim_syntax.specs.Grammar as is
use Rattle.shim_syntax.specs.Grammar.{TextCounts, IsTest, IsStep, IsCatchRest, IsBlock, IsStmt, IsBody, IsPlain, IsBranches, IsBranch, is_else, is_par}
use Rattle.shim_grammar.proofs.OnceExpr.{whole_once, arguments_once, no_keyword, tail_same}
use Rattle.shim_grammar.proofs.OnceParts.{declarations_once, first_once, test_once, step_once, throw_rest_once, catch_rest_once}

pub same_more : {A : Type 0} {x x' : A} {xs xs' : List A} → x ≡ x' → xs ≡ xs' → x ∷ xs ≡ x' ∷ xs'
same_more {x' = x'} {xs = xs} p q = ap (λ u. u ∷ xs) p ∙ ap (λ u. x' ∷ u) q

-- the same things by another name of the terminals
at_test : {c : Limits} {l : ℕ} {v w : TextCounts} {s t r : List Terminal} {x : Option Expr} → s ≡ t → IsTest c l v w t r x → IsTest c l v w s r x
at_test {c = c} {l = l} {v = v} {w = w} {r = r} {x = x} p i = subst (λ u. IsTest c l v w u r x) (sym p) i

at_step : {c : Limits} {l : ℕ} {v w : TextCounts} {s t r : List Terminal} {xs : List Stmt} → s ≡ t → IsStep c l v w t r xs → IsStep c l v w s r xs
at_step {c = c} {l = l} {v = v} {w = w} {r = r} {xs = xs} p i = subst (λ u. IsStep c l v w u r xs) (sym p) i

at_catch_rest : {c : Limits} {v w : TextCounts} {s t r : List Terminal} {x : Option (List ℕ)} → s ≡ t → IsCatchRest c v w t r x → IsCatchRest c v w s r x
at_catch_rest {c = c} {v = v} {w = w} {r = r} {x = x} p i = subst (λ u. IsCatchRest c v w u r x) (sym p) i

at_block : {c : Limits} {l : ℕ} {v w : TextCounts} {s t r : List Terminal} {xs : List Stmt} → s ≡ t → IsBlock c l v w t r xs → IsBlock c l v w s r xs
at_block {c = c} {l = l} {v = v} {w = w} {r = r} {xs = xs} p i = subst (λ u. IsBlock c l v w u r xs) (sym p) i

at_body : {c : Limits} {l : ℕ} {v w : TextCounts} {s t r : List Terminal} {xs : List Stmt} → s ≡ t → IsBody c l v w t r xs → IsBody c l v w s r xs
at_body {c = c} {l = l} {v = v} {w = w} {r = r} {xs = xs} p i = subst (λ u. IsBody c l v w u r xs) (sym p) i

at_branches : {c : Limits} {l n : ℕ} {v w : TextCounts} {s t r : List Terminal} {bs : List Branch} → s ≡ t → IsBranches c l n v w t r bs → IsBranches c l n v w s r bs
at_branches {c = c} {l = l} {n = n} {v = v} {w = w} {r = r} {bs = bs} p i = subst (λ u. IsBranches c l n v w u r bs) (sym p) i

meets_par : {r m : List Terminal} {p : Place} → r ≡ Key k.Par p ∷ m → is_par (first r) ≡ false → ⊥
meets_par e h = absurd (let i = sym (ap (λ s. is_par (first s)) e) ∙ h in cc)

meets_else : {r m : List Terminal} {p : Place} → r ≡ Key k.Else p ∷ m → is_else (first r) ≡ false → ⊥
meets_else e h = absurd (let i = sym (ap (λ s. is_else (first s)) e) ∙ h in cc)

-- no statement begins with a right brace
no_brace : {c : Limits} {l : ℕ} {v w : TextCounts} {p : Place} {s r : List Terminal} {xs : List Stmt} → IsStmt c l v w (Sign g.RightBrace p ∷ s) r xs → ⊥
no_brace (is.plain a) = elim a [ ]

-- and no plain one with a left brace
no_plain : {c : Limits} {l : ℕ} {v w : TextCounts} {p : Place} {s r : List Terminal} {xs : List Stmt} → IsPlain c l v w (Sign g.LeftBrace p ∷ s) r xs → ⊥
no_plain a = elim a [ ]

mutual
  pub block_once : {c d : Limits} {l l' : ℕ} {v w v' w' : TextCounts} {s r r' : List Terminal} {xs ys : List Stmt} → IsBlock c l v w s r xs → IsBlock d l' v' w' s r' ys
      → (r ≡ r') × (xs ≡ ys)
  block_once is.block_end is.block_end = (refl, refl)
  block_once is.block_end (is.stmt h a b) = absurd (no_brace a)
  block_once (is.stmt h a b) is.block_end = absurd (no_brace a)
  block_once (is.stmt h a b) (is.stmt h' a' b') =
      let p = stmt_once a a' in
      let q = block_once b (at_block p.0 b') in
      (q.0, (let x = p.1 in let y = q.1 in cc))

  pub stmt_once : {c d : Limits} {l l' : ℕ} {v w v' w' : TextCounts} {s r r' : List Terminal} {xs ys : List Stmt} → IsStmt c l v w s r xs → IsStmt d l' v' w' s r' ys
      → (r ≡ r') × (xs ≡ ys)
  stmt_once (is.block a h) (is.block a' h') = let p = block_once a a' in (p.0, (let x = p.1 in cc))
  stmt_once (is.block a h) (is.block_fork a' b') = absurd (meets_par ((block_once a a').0) h)
  stmt_once (is.block a h) (is.plain a') = absurd (no_plain a')
  stmt_once (is.block_fork a b) (is.block a' h') = absurd (meets_par (sym ((block_once a a').0)) h')
  stmt_once (is.block_fork a b) (is.block_fork a' b') =
      let p = block_once a a' in
      let q = branches_once b (at_branches (tail_same p.0) b') in
      (q.0, (let x = p.1 in let y = q.1 in cc))
  stmt_once (is.block_fork a b) (is.plain a') = absurd (no_plain a')
  stmt_once (is.plain a) (is.block a' h') = absurd (no_plain a)
  stmt_once (is.plain a) (is.block_fork a' b') = absurd (no_plain a)
  stmt_once (is.plain a) (is.plain a') = plain_once a a'

  pub body_once : {c d : Limits} {l l' : ℕ} {v w v' w' : TextCounts} {s r r' : List Terminal} {xs ys : List Stmt} → IsBody c l v w s r xs → IsBody d l' v' w' s r' ys
      → (r ≡ r') × (xs ≡ ys)
  body_once (is.body_block a h) (is.body_block a' h') = block_once a a'
  body_once (is.body_block a h) (is.body_fork a' i' b') = absurd (meets_par ((block_once a a').0) h)
  body_once (is.body_block a h) (is.body_plain i' a') = absurd (no_plain a')
  body_once (is.body_fork a i b) (is.body_block a' h') = absurd (meets_par (sym ((block_once a a').0)) h')
  body_once (is.body_fork a i b) (is.body_fork a' i' b') =
      let p = block_once a a' in
      let q = branches_once b (at_branches (tail_same p.0) b') in
      (q.0, (let x = p.1 in let y = q.1 in cc))
  body_once (is.body_fork a i b) (is.body_plain i' a') = absurd (no_plain a')
  body_once (is.body_plain i a) (is.body_block a' h') = absurd (no_plain a)
  body_once (is.body_plain i a) (is.body_fork a' i' b') = absurd (no_plain a)
  body_once (is.body_plain i a) (is.body_plain i' a') = plain_once a a'

  pub plain_once : {c d : Limits} {l l' : ℕ} {v w v' w' : TextCounts} {s r r' : List Terminal} {xs ys : List Stmt} → IsPlain c l v w s r xs → IsPlain d l' v' w' s r' ys
      → (r ≡ r') × (xs ≡ ys)
  plain_once is.empty is.empty = (refl, refl)
  plain_once (is.declare a) (is.declare a') = declarations_once a a'
  plain_once (is.assign a) (is.assign a') = let p = whole_once a a' refl refl in (tail_same p.0, (let x = p.1 in cc))
  plain_once (is.assign a) is.assign_next = absurd (no_keyword a)
  plain_once (is.assign a) is.get = absurd (no_keyword a)
  plain_once is.assign_next (is.assign a) = absurd (no_keyword a)
  plain_once is.assign_next is.assign_next = (refl, refl)
  plain_once is.get (is.assign a) = absurd (no_keyword a)
  plain_once is.get is.get = (refl, refl)
  plain_once is.next is.next = (refl, refl)
  plain_once (is.next_assign a) (is.next_assign a') = let p = whole_once a a' refl refl in (tail_same p.0, (let x = p.1 in cc))
  plain_once (is.put a) (is.put a') = let p = whole_once a a' refl refl in (tail_same p.0, (let x = p.1 in cc))
  plain_once (is.if_alone a b h) (is.if_alone a' b' h') =
      let p = whole_once a a' refl refl in
      let q = body_once b (at_body (tail_same p.0) b') in
      (q.0, (let x = p.1 in let y = q.1 in cc))
  plain_once (is.if_alone a b h) (is.if_else a' b' e') =
      let p = whole_once a a' refl refl in
      absurd (meets_else ((body_once b (at_body (tail_same p.0) b')).0) h)
  plain_once (is.if_else a b e) (is.if_alone a' b' h') =
      let p = whole_once a a' refl refl in
      absurd (meets_else (sym ((body_once b (at_body (tail_same p.0) b')).0)) h')
  plain_once (is.if_else a b e) (is.if_else a' b' e') =
      let p = whole_once a a' refl refl in
      let q = body_once b (at_body (tail_same p.0) b') in
      let o = body_once e (at_body (tail_same q.0) e') in
      (o.0, (let x = p.1 in let y = q.1 in let z = o.1 in cc))
  plain_once (is.while a b) (is.while a' b') =
      let p = whole_once a a' refl refl in
      let q = body_once b (at_body (tail_same p.0) b') in
      (q.0, (let x = p.1 in let y = q.1 in cc))
  plain_once (is.for_loop a t e b) (is.for_loop a' t' e' b') =
      let p = first_once a a' in
      let q = test_once t (at_test p.0 t') in
      let o = step_once e (at_step q.0 e') in
      let i = body_once b (at_body o.0 b') in
      (i.0, (let x = p.1 in let y = q.1 in let z = o.1 in let u = i.1 in cc))
  plain_once (is.call a h) (is.call a' h') = let p = arguments_once a a' in (tail_same p.0, (let x = p.1 in cc))
  plain_once (is.call a h) (is.call_fork a' b') = absurd (meets_par (tail_same ((arguments_once a a').0)) h)
  plain_once (is.call_fork a b) (is.call a' h') = absurd (meets_par (sym (tail_same ((arguments_once a a').0))) h')
  plain_once (is.call_fork a b) (is.call_fork a' b') =
      let p = arguments_once a a' in
      let q = branches_once b (at_branches (tail_same (tail_same p.0)) b') in
      (q.0, (let x = p.1 in let y = q.1 in cc))
  plain_once (is.try a h b) (is.try a' h' b') =
      let p = block_once a a' in
      let e = p.0 in
      let o = catch_rest_once h (at_catch_rest (cc) h') in
      let q = block_once b (at_block o.0 b') in
      (q.0, (let x = p.1 in let y = q.1 in let z = o.1 in cc))
  plain_once (is.throw a) (is.throw a') = let p = throw_rest_once a a' in (p.0, (let x = p.1 in cc))

  pub branches_once : {c d : Limits} {l l' n n' : ℕ} {v w v' w' : TextCounts} {s r r' : List Terminal} {bs cs : List Branch} → IsBranches c l n v w s r bs → IsBranches d l' n' v' w' s r' cs
      → (r ≡ r') × (bs ≡ cs)
  branches_once (is.last_branch i b h) (is.last_branch i' b' h') = let p = branch_once b b' in (p.0, same_more p.1 refl)
  branches_once (is.last_branch i b h) (is.branch i' b' a') = absurd (meets_par ((branch_once b b').0) h)
  branches_once (is.branch i b a) (is.last_branch i' b' h') = absurd (meets_par (sym ((branch_once b b').0)) h')
  branches_once (is.branch i b a) (is.branch i' b' a') =
      let p = branch_once b b' in
      let q = branches_once a (at_branches (tail_same p.0) a') in
      (q.0, same_more p.1 q.1)

  pub branch_once : {c d : Limits} {l l' : ℕ} {v w v' w' : TextCounts} {s r r' : List Terminal} {b b' : Branch} → IsBranch c l v w s r b → IsBranch d l' v' w' s r' b' → (r ≡ r') × (b ≡ b')
  branch_once (is.block_branch a) (is.block_branch a') = let p = block_once a a' in (p.0, (let x = p.1 in cc))
  branch_once (is.call_branch a) (is.call_branch a') = let p = arguments_once a a' in (tail_same p.0, (let x = p.1 in cc))
