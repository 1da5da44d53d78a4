-- The statements that a source has are read from their own pieces, too, and are the same but for lines.
use Rattle.std.proofs.Common.{ℕ, suc, ◌+◌, ◌≤◌, ◌≡◌, true, List, [], ◌∷◌, ◌++◌, map, refl, sym, ap, ◌∙◌, arith}
use Rattle.shim_base.specs.declared.Keyword.TheVariants as kw
use Rattle.shim_base.specs.declared.Sign.TheVariants as g
use Rattle.shim_base.specs.declared.Ty.{Ty}
use Rattle.shim_base.specs.Tokens.{Place}
use Rattle.shim_syntax.specs.declared.limits.Many.TheVariants.{Branches as ManyBranches}
use Rattle.shim_syntax.specs.declared.tree.Stmt.{Stmt}
use Rattle.shim_syntax.specs.declared.tree.What.TheVariants as st
use Rattle.shim_syntax.specs.declared.tree.Branch.{Branch}
use Rattle.shim_syntax.specs.declared.tree.BranchWhat.TheVariants as br
use Rattle.shim_syntax.specs.Terminals.{Terminal, Key, Sign, Name}
use Rattle.shim_syntax.specs.Limits.{Count, is_within, limits}
use Rattle.shim_syntax.specs.Grammar.{TextCounts, at_level, new_body, behind_body, as_branch, is_par, IsDeclarations, IsBlock, IsStmt, IsPlain, IsBody, IsBranch, IsBranches}
use Rattle.shim_syntax.specs.Grammar as gr
use Rattle.shim_syntax.specs.Printing.{PrintedPiece, branch_pieces, key_piece, line_end_piece}
use Rattle.shim_syntax.proofs.Standing.{ArePrefix, nothing}
use Rattle.shim_syntax.proofs.Expressions.{IsAlike, level_of}
use Rattle.shim_syntax.proofs.StatementShapes.{branch_without_lines}
use Rattle.shim_syntax.proofs.Parts.{IsDone, IsPart, Both, both, IsPiece, here, front_key, front_last, mapped, same_pieces, from_level, inner}
use Rattle.shim_syntax.proofs.Readings.{Stmts, Block, OneBranch, Branches, IsStmtsPart, IsBlockPart, IsBodyPart, IsBranchPart, AreBranchesPart, append_nothing, stmts_block, braced}
use Rattle.shim_syntax.proofs.Simple.{declare_part, assign_part, assign_next_part, get_part, next_part, next_assign_part, put_part, throw_part, call_part}
use Rattle.shim_syntax.proofs.Compound.{block_stmt, body_of_block, if_alone, if_else, while_stmt, for_stmt, try_stmt, block_fork, call_fork, block_branch, call_branch}

-- a type has a declared name after it
declares_some : {l line : ℕ} {ty : Ty} {v w : TextCounts} {s r : List Terminal} {xs : List Stmt} → IsDeclarations limits l ty line v w s r xs → xs ≡ [] → ⊥
declares_some (gr.last_declared _) e = absurd (cc)
declares_some (gr.declared _ _) e = absurd (cc)

-- where no statement was read, nothing was counted
plain_idle : {l : ℕ} {v w : TextCounts} {s r : List Terminal} {xs : List Stmt} → IsPlain limits l v w s r xs → xs ≡ [] → IsAlike v w
plain_idle gr.empty e = (refl, refl, refl)
plain_idle (gr.declare h) e = absurd (declares_some h e)
plain_idle (gr.assign _) e = absurd (cc)
plain_idle gr.assign_next e = absurd (cc)
plain_idle gr.get e = absurd (cc)
plain_idle gr.next e = absurd (cc)
plain_idle (gr.next_assign _) e = absurd (cc)
plain_idle (gr.put _) e = absurd (cc)
plain_idle (gr.if_alone _ _ _) e = absurd (cc)
plain_idle (gr.if_else _ _ _) e = absurd (cc)
plain_idle (gr.while _ _) e = absurd (cc)
plain_idle (gr.for_loop _ _ _ _) e = absurd (cc)
plain_idle (gr.call _ _) e = absurd (cc)
plain_idle (gr.call_fork _ _) e = absurd (cc)
plain_idle (gr.try _ _ _) e = absurd (cc)
plain_idle (gr.throw _) e = absurd (cc)

stmt_idle : {l : ℕ} {v w : TextCounts} {s r : List Terminal} {xs : List Stmt} → IsStmt limits l v w s r xs → xs ≡ [] → IsAlike v w
stmt_idle (gr.block _ _) e = absurd (cc)
stmt_idle (gr.block_fork _ _) e = absurd (cc)
stmt_idle (gr.plain h) e = plain_idle h e

none_of_both : (xs ys : List Stmt) → xs ++ ys ≡ [] → (xs ≡ []) × (ys ≡ [])
none_of_both [] ys e = (refl, e)
none_of_both (x ∷ xs) ys e = absurd (cc)

block_idle : {l : ℕ} {v w : TextCounts} {s r : List Terminal} {xs : List Stmt} → IsBlock limits l v w s r xs → xs ≡ [] → IsAlike v w
block_idle gr.block_end e = (refl, refl, refl)
block_idle (gr.stmt {xs = xs} {ys = ys} fits h more) e =
    let none = none_of_both xs ys e in
    let one = stmt_idle h none.0 in
    let two = block_idle more none.1 in
    (two.0 ∙ one.0, two.1 ∙ one.1, two.2 ∙ one.2)

body_idle : {l : ℕ} {v w : TextCounts} {s r : List Terminal} {xs : List Stmt} → IsBody limits l v w s r xs → xs ≡ [] → IsAlike v w
body_idle (gr.body_block h _) e = block_idle h e
body_idle (gr.body_fork _ _ _) e = absurd (cc)
body_idle (gr.body_plain _ h) e = plain_idle h e

-- a block of a body that turns out to be the first branch of a fork
as_fork : {l : ℕ} {v u : TextCounts} {s r : List Terminal} {ps : List PrintedPiece} (xs : List Stmt) → as_branch l u ≤ 64 → IsPart l (new_body v) u s r ps (Block xs) →
    IsPart l v (at_level (as_branch l u) (behind_body v.deepest u)) s r ps (λ k. Block xs (suc k))
as_fork xs level part = record {
  deeper = omega arith;
  within = λ h. let deep = part.within (omega arith) in omega (arith, h, level, deep);
  spelled = part.spelled;
  read = λ k a t q room alike prefix. let done = part.read (suc k) a t q (omega (arith, room)) alike prefix in record { behind = done.behind; alike = done.alike; is = done.is };
}

no_stmts : (k : ℕ) (a b : TextCounts) (t q : List Terminal) → IsPiece (line_end_piece g.RightBrace) k a b t q → Block [] k a b t q
no_stmts k a _ _ q (here p) = ([], refl, gr.block_end)

-- the empty statement is none
no_stmt : {l : ℕ} {v : TextCounts} {p : Place} {r : List Terminal} → IsStmtsPart l v v (Sign g.Semicolon p ∷ r) r []
no_stmt {l = l} {v = v} = record { deeper = omega arith; within = λ h. h; spelled = λ ver good. (tt, good.1); read = read } where
  read : (k : ℕ) (a : TextCounts) (t q : List Terminal) → k + v.deepest ≤ l + 64 → IsAlike v a → ArePrefix [] t q → IsDone (Stmts []) k v a t q
  read k a _ q room alike nothing = record { behind = a; alike = alike; is = ([], refl, λ c z zs more. more) }

-- the last branch of a fork
last_branch : {l : ℕ} {v w : TextCounts} {s r : List Terminal} (n : ℕ) (b : Branch) → is_within (Count ManyBranches) (suc n) ≡ true → IsBranchPart l v w s r b → AreBranchesPart l n v w s r (b ∷ [])
last_branch n b fits part = record { part = same_pieces (sym (append_nothing (branch_pieces b))) (mapped build part); some = refl } where
  build : (k : ℕ) (a c : TextCounts) (t q : List Terminal) → OneBranch b k a c t q → Branches n (b ∷ []) k a c t q
  build k a c t q (y, same, is) = (y ∷ [], ap (λ (z : Branch). z ∷ []) same, λ no_par. gr.last_branch fits is no_par)

-- one that others follow
more_branches : {l : ℕ} {v u w : TextCounts} {p : Place} {s m r : List Terminal} (n : ℕ) (b : Branch) (bs : List Branch) → is_within (Count ManyBranches) (suc n) ≡ true →
    IsBranchPart l v u s (Key kw.Par p ∷ m) b → AreBranchesPart l (suc n) u w m r bs → AreBranchesPart l n v w s r (b ∷ bs)
more_branches n b bs fits part rest = record {
  part = same_pieces (ap (λ (ps : List PrintedPiece). branch_pieces b ++ ps) (sym rest.some)) (mapped build (both part (both (front_key kw.Par) rest.part)));
  some = refl;
} where
  build : (k : ℕ) (a c : TextCounts) (t q : List Terminal) → Both (OneBranch b) (Both (IsPiece (key_piece kw.Par)) (Branches (suc n) bs)) k a c t q → Branches n (b ∷ bs) k a c t q
  build k a c t q (_, _, (y, same, is), (_, _, here o, (ys, ys_same, more))) =
      (y ∷ ys, ap (λ (z : Branch). z ∷ map branch_without_lines ys) same ∙ ap (λ (l : List Branch). branch_without_lines b ∷ l) ys_same, λ no_par. gr.branch fits is (more no_par))

mutual
  pub block_part : (l : ℕ) (v w : TextCounts) (s r : List Terminal) (xs : List Stmt) → IsBlock limits l v w s r xs → IsBlockPart l v w s r xs
  block_part l v _ _ r _ gr.block_end = mapped no_stmts (front_last g.RightBrace)
  block_part l v w s r _ (gr.stmt {u = u} {m = m} {xs = xs} {ys = ys} fits h more) =
      stmts_block xs ys (from_level l (level_of l fits) (stmt_part l (at_level l v) u s m xs (omega arith) h)) (block_part l u w m r ys more)

  stmt_part : (l : ℕ) (v w : TextCounts) (s r : List Terminal) (xs : List Stmt) → l ≤ v.deepest → IsStmt limits l v w s r xs → IsStmtsPart l v w s r xs
  stmt_part l v w _ r _ some (gr.block {p = p} {s = s} {xs = xs} h no_par) = block_stmt p.line xs some (block_part (suc l) v w s r xs h)
  stmt_part l v w _ r _ some (gr.block_fork {u = u} {p = p} {q = q} {s = s} {m = m} {xs = xs} {bs = bs} h more) =
      let part = block_part (suc l) v u s (Key kw.Par q ∷ m) xs h in
      block_fork p.line p.line xs bs (omega (arith, some, part.deeper)) (inner part) (branches_part l 1 u w m r bs more)
  stmt_part l v w s r xs some (gr.plain h) = plain_part l v w s r xs some h

  body_part : (l : ℕ) (v w : TextCounts) (s r : List Terminal) (xs : List Stmt) → IsBody limits l v w s r xs → IsBodyPart l v w s r xs
  body_part l v _ _ r _ (gr.body_block {w = u} {p = p} {s = s} {xs = xs} h no_par) = body_of_block xs (block_part l (new_body v) u s r xs h)
  body_part l v w _ r _ (gr.body_fork {u = u} {p = p} {q = q} {s = s} {m = m} {xs = xs} {bs = bs} h fits more) =
      braced (record { line = p.line; what = st.Par (record { line = p.line; what = br.Block xs } ∷ bs) } ∷ [])
      (block_fork p.line p.line xs bs (omega arith) (as_fork xs (level_of (as_branch l u) fits) (block_part l (new_body v) u s (Key kw.Par q ∷ m) xs h))
      (branches_part l 1 (at_level (as_branch l u) (behind_body v.deepest u)) w m r bs more))
  body_part l v w s r xs (gr.body_plain fits h) = braced xs (from_level l (level_of l fits) (plain_part l (at_level l v) w s r xs (omega arith) h))

  plain_part : (l : ℕ) (v w : TextCounts) (s r : List Terminal) (xs : List Stmt) → l ≤ v.deepest → IsPlain limits l v w s r xs → IsStmtsPart l v w s r xs
  plain_part l v _ _ r _ some gr.empty = no_stmt
  plain_part l v w _ r xs some (gr.declare h) = declare_part some h
  plain_part l v w _ r _ some (gr.assign {p = p} h) = assign_part p.line some h
  plain_part l v _ _ r _ some (gr.assign_next {p = p}) = assign_next_part p.line some
  plain_part l v _ _ r _ some (gr.get {p = p}) = get_part p.line some
  plain_part l v _ _ r _ some (gr.next {p = p}) = next_part p.line some
  plain_part l v w _ r _ some (gr.next_assign {p = p} h) = next_assign_part p.line some h
  plain_part l v w _ r _ some (gr.put {p = p} h) = put_part p.line some h
  plain_part l v w _ r _ some (gr.if_alone {u = u} {p = p} {m = m} {xs = xs} h body no_else) = if_alone p.line xs some h (body_part (suc l) u w m r xs body)
  plain_part l v w _ r _ some (gr.if_else {u = u} {t = t} {p = p} {a = a} {m = m} {i = i} {xs = xs} {ys = ys} h body other) =
      if_else p.line xs ys some h (body_part (suc l) u t m (Key kw.Else a ∷ i) xs body) (body_part (suc l) t w i r ys other) (body_idle other)
  plain_part l v w _ r _ some (gr.while {u = u} {p = p} {m = m} {xs = xs} h body) = while_stmt p.line xs some h (body_part (suc l) u w m r xs body)
  plain_part l v w _ r _ some (gr.for_loop {y = y} {p = p} {j = j} {xs = xs} {ys = ys} {zs = zs} a b c body) = for_stmt p.line xs ys zs some a b c (body_part (suc l) y w j r zs body)
  plain_part l v w _ r _ some (gr.call {p = p} h no_par) = call_part p.line some h
  plain_part l v w _ r _ some (gr.call_fork {u = u} {p = p} {m = m} {bs = bs} h more) = call_fork p.line p.line bs some h (branches_part l 1 u w m r bs more)
  plain_part l v w _ r _ some (gr.try {u = u} {t = t} {x = x} {p = p} {o = o} {a = a} {b = b} {s = s} {i = i} {m = m} {xs = xs} {ys = ys} h is_catch handler) =
      try_stmt p.line xs ys some (block_part (suc l) v u s (Key kw.Catch o ∷ Sign g.LeftParen a ∷ Name x b ∷ i) xs h) is_catch (block_part (suc l) t w m r ys handler)
  plain_part l v w _ r _ some (gr.throw {p = p} h) = throw_part p.line some h

  branches_part : (l n : ℕ) (v w : TextCounts) (s r : List Terminal) (bs : List Branch) → IsBranches limits l n v w s r bs → AreBranchesPart l n v w s r bs
  branches_part l n v w s r _ (gr.last_branch {b = b} fits h no_par) = last_branch n b fits (branch_part l v w s r b h)
  branches_part l n v w s r _ (gr.branch {u = u} {p = p} {m = m} {b = b} {bs = bs} fits h more) =
      more_branches n b bs fits (branch_part l v u s (Key kw.Par p ∷ m) b h) (branches_part l (suc n) u w m r bs more)

  branch_part : (l : ℕ) (v w : TextCounts) (s r : List Terminal) (b : Branch) → IsBranch limits l v w s r b → IsBranchPart l v w s r b
  branch_part l v w _ r _ (gr.block_branch {p = p} {s = s} {xs = xs} h) = block_branch p.line xs (block_part (suc l) v w s r xs h)
  branch_part l v w _ r _ (gr.call_branch {p = p} h) = call_branch p.line h
