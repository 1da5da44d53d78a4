-- The statements with other statements in them, each read from its own pieces once its parts are.
use Rattle.std.proofs.Common.{ℕ, suc, ◌≤◌, ◌≡◌, true, false, List, [], ◌∷◌, ◌++◌, map, Option, Some, None, refl, sym, ap, ◌∙◌, arith}
use Rattle.std.proofs.lemmas.List.{append_assoc}
use Rattle.shim_base.specs.declared.Keyword.TheVariants as kw
use Rattle.shim_base.specs.declared.Sign.TheVariants as g
use Rattle.shim_base.specs.Tokens.{Place}
use Rattle.shim_syntax.specs.declared.tree.Expr.{Expr}
use Rattle.shim_syntax.specs.declared.tree.Stmt.{Stmt}
use Rattle.shim_syntax.specs.declared.tree.What.TheVariants as st
use Rattle.shim_syntax.specs.declared.tree.Branch.{Branch}
use Rattle.shim_syntax.specs.declared.tree.BranchWhat.TheVariants as br
use Rattle.shim_syntax.specs.Terminals.{Terminal, Name, Key, Sign, first}
use Rattle.shim_syntax.specs.Limits.{limits}
use Rattle.shim_syntax.specs.Grammar.{TextCounts, at_level, new_body, behind_body, as_branch, is_par, is_else, IsWhole, IsArguments, IsBranches, IsFirst, IsTest, IsStep, IsCatchRest}
use Rattle.shim_syntax.specs.Grammar as gr
use Rattle.shim_syntax.specs.Printing.{PrintedPiece, stmt_shown, branch_pieces, all_pieces, part_pieces, block_pieces, else_pieces, fork_pieces, call_pieces, key_piece, sign_piece, name_piece, line_end_piece, expr_pieces, args_pieces, test_pieces, variable_pieces}
use Rattle.shim_syntax.proofs.Expressions.{IsAlike}
use Rattle.shim_syntax.proofs.StatementShapes.{AreSameBranches, branch_without_lines, other_branch_line, if_shown, while_shown, for_shown, block_shown, try_shown, par_shown, block_branch_pieces, call_branch_pieces, same_if, same_while, same_for, same_block, same_try, same_par, same_block_branch}
use Rattle.shim_syntax.proofs.Parts.{ReadRelation, IsPart, Both, both, IsPiece, here, front_name, front_key, front_sign, front_last, mapped, same_pieces, inner, Whole, whole_part, Arguments, args_part}
use Rattle.shim_syntax.proofs.Readings.{One, Block, Body, OneBranch, Branches, IsStmtsPart, IsBlockPart, IsBodyPart, IsBranchPart, behind_par, AreBranchesPart, append_nothing, InBody, in_body, body_of_own, behind_terminal, with_idle, ended_pieces, one_stmt, stmt_at}
use Rattle.shim_syntax.proofs.Simple.{First, Step, Test, IsLocal, local, local_part, where_two, first_part, test_part, step_part}

-- a block as a statement
pub block_stmt : {l : ℕ} {v w : TextCounts} {p : Place} {s r : List Terminal} (line : ℕ) (xs : List Stmt) → l ≤ v.deepest → IsBlockPart (suc l) v w s r xs →
    IsStmtsPart l v w (Sign g.LeftBrace p ∷ s) r (record { line = line; what = st.Block xs } ∷ [])
block_stmt line xs some part =
    one_stmt (record { line = line; what = st.Block xs }) some
    (same_pieces (ended_pieces (record { line = line; what = st.Block xs }) (block_pieces (map stmt_shown xs)) (block_shown line xs)) (mapped build (both (front_last g.LeftBrace) (inner part)))) where
      build : (k : ℕ) (a b : TextCounts) (t q : List Terminal) → Both (IsPiece (line_end_piece g.LeftBrace)) (λ j. Block xs (suc j)) k a b t q → One (record { line = line; what = st.Block xs }) k a b t q
      build k a b _ q (_, _, here p, (ys, same, block)) =
          (record { line = p.line; what = st.Block ys }, same_block p.line line xs ys same, λ no_par no_else. gr.block block no_par)

-- a body in braces of its own
pub body_of_block : {l : ℕ} {v w : TextCounts} {p : Place} {s r : List Terminal} (xs : List Stmt) → IsBlockPart l (new_body v) w s r xs →
    IsBodyPart l v (behind_body v.deepest w) (Sign g.LeftBrace p ∷ s) r xs
body_of_block xs part = mapped build (both (front_last g.LeftBrace) (body_of_own part)) where
  build : (k : ℕ) (a b : TextCounts) (t q : List Terminal) → Both (IsPiece (line_end_piece g.LeftBrace)) (InBody (Block xs)) k a b t q → Body xs k a b t q
  build k a _ _ q (_, _, here p, in_body (ys, same, block)) = (ys, same, λ no_par. gr.body_block block no_par)

-- an `if` without a second list
pub if_alone : {l : ℕ} {v u w : TextCounts} {p q o : Place} {s m r : List Terminal} {x : Expr} (line : ℕ) (xs : List Stmt) → l ≤ v.deepest → IsWhole limits l v u s (Sign g.RightParen o ∷ m) x →
    IsBodyPart (suc l) u w m r xs → IsStmtsPart l v w (Key kw.If p ∷ Sign g.LeftParen q ∷ s) r (record { line = line; what = st.If x xs [] } ∷ [])
if_alone {x = x} line xs some h part =
    one_stmt (record { line = line; what = st.If x xs [] }) some
    (same_pieces
    (ap (λ (ps : List PrintedPiece). key_piece kw.If ∷ sign_piece g.LeftParen ∷ (expr_pieces x ++ sign_piece g.RightParen ∷ ps)) (sym (append_nothing (block_pieces (map stmt_shown xs))))
    ∙ ended_pieces (record { line = line; what = st.If x xs [] })
    (key_piece kw.If ∷ sign_piece g.LeftParen ∷ (expr_pieces x ++ sign_piece g.RightParen ∷ (block_pieces (map stmt_shown xs) ++ []))) (if_shown line x xs []))
    (mapped build (both (front_key kw.If) (both (front_sign g.LeftParen) (both (whole_part h) (both (front_sign g.RightParen) (inner part))))))) where
      build : (k : ℕ) (a b : TextCounts) (t q : List Terminal) →
          Both (IsPiece (key_piece kw.If)) (Both (IsPiece (sign_piece g.LeftParen)) (Both (Whole x) (Both (IsPiece (sign_piece g.RightParen)) (λ j. Body xs (suc j))))) k a b t q →
          One (record { line = line; what = st.If x xs [] }) k a b t q
      build k a b _ q (_, _, here i, (_, _, here j, (_, _, whole, (_, _, here n, (ys, same, body))))) =
          (record { line = i.line; what = st.If x ys [] }, same_if i.line line x xs ys [] [] same refl, λ no_par no_else. gr.plain (gr.if_alone whole (body no_par) no_else))

-- an `if` with one
if_more : {l : ℕ} {v u t w : TextCounts} {p q o e : Place} {s m i r : List Terminal} {x : Expr} (line : ℕ) (xs : List Stmt) (y : Stmt) (ys : List Stmt) → l ≤ v.deepest →
    IsWhole limits l v u s (Sign g.RightParen o ∷ m) x → IsBodyPart (suc l) u t m (Key kw.Else e ∷ i) xs → IsBodyPart (suc l) t w i r (y ∷ ys) →
    IsStmtsPart l v w (Key kw.If p ∷ Sign g.LeftParen q ∷ s) r (record { line = line; what = st.If x xs (y ∷ ys) } ∷ [])
if_more {x = x} line xs y ys some h part other =
    one_stmt (record { line = line; what = st.If x xs (y ∷ ys) }) some
    (same_pieces
    (ended_pieces (record { line = line; what = st.If x xs (y ∷ ys) })
    (key_piece kw.If ∷ sign_piece g.LeftParen ∷ (expr_pieces x ++ sign_piece g.RightParen ∷ (block_pieces (map stmt_shown xs) ++ else_pieces (map stmt_shown (y ∷ ys))))) (if_shown line x xs (y ∷ ys)))
    (mapped build (both (front_key kw.If) (both (front_sign g.LeftParen) (both (whole_part h) (both (front_sign g.RightParen) (both (inner part) (both (front_key kw.Else) (inner other))))))))) where
      build : (k : ℕ) (a b : TextCounts) (t q : List Terminal) →
          Both (IsPiece (key_piece kw.If)) (Both (IsPiece (sign_piece g.LeftParen)) (Both (Whole x) (Both (IsPiece (sign_piece g.RightParen))
          (Both (λ j. Body xs (suc j)) (Both (IsPiece (key_piece kw.Else)) (λ j. Body (y ∷ ys) (suc j))))))) k a b t q →
          One (record { line = line; what = st.If x xs (y ∷ ys) }) k a b t q
      build k a b _ q (_, _, here i, (_, _, here j, (_, _, whole, (_, _, here n, (_, _, (us, us_same, body), (_, _, here e, (vs, vs_same, second))))))) =
          (record { line = i.line; what = st.If x us vs }, same_if i.line line x xs us (y ∷ ys) vs us_same vs_same, λ no_par no_else. gr.plain (gr.if_else whole (body refl) (second no_par)))

-- An `if` with an `else`. Where that has no statements, it isn't shown.
pub if_else : {l : ℕ} {v u t w : TextCounts} {p q o e : Place} {s m i r : List Terminal} {x : Expr} (line : ℕ) (xs ys : List Stmt) → l ≤ v.deepest → IsWhole limits l v u s (Sign g.RightParen o ∷ m) x →
    IsBodyPart (suc l) u t m (Key kw.Else e ∷ i) xs → IsBodyPart (suc l) t w i r ys → (ys ≡ [] → IsAlike t w) →
    IsStmtsPart l v w (Key kw.If p ∷ Sign g.LeftParen q ∷ s) r (record { line = line; what = st.If x xs ys } ∷ [])
if_else line xs (y ∷ ys) some h part other idle = if_more line xs y ys some h part other
if_else line xs [] some h part other idle = if_alone line xs some h (with_idle part (behind_terminal other) (idle refl))

pub while_stmt : {l : ℕ} {v u w : TextCounts} {p q o : Place} {s m r : List Terminal} {x : Expr} (line : ℕ) (xs : List Stmt) → l ≤ v.deepest → IsWhole limits l v u s (Sign g.RightParen o ∷ m) x →
    IsBodyPart (suc l) u w m r xs → IsStmtsPart l v w (Key kw.While p ∷ Sign g.LeftParen q ∷ s) r (record { line = line; what = st.While x xs } ∷ [])
while_stmt {x = x} line xs some h part =
    one_stmt (record { line = line; what = st.While x xs }) some
    (same_pieces
    (ended_pieces (record { line = line; what = st.While x xs }) (key_piece kw.While ∷ sign_piece g.LeftParen ∷ (expr_pieces x ++ sign_piece g.RightParen ∷ block_pieces (map stmt_shown xs))) (while_shown line x xs))
    (mapped build (both (front_key kw.While) (both (front_sign g.LeftParen) (both (whole_part h) (both (front_sign g.RightParen) (inner part))))))) where
      build : (k : ℕ) (a b : TextCounts) (t q : List Terminal) →
          Both (IsPiece (key_piece kw.While)) (Both (IsPiece (sign_piece g.LeftParen)) (Both (Whole x) (Both (IsPiece (sign_piece g.RightParen)) (λ j. Body xs (suc j))))) k a b t q →
          One (record { line = line; what = st.While x xs }) k a b t q
      build k a b _ q (_, _, here i, (_, _, here j, (_, _, whole, (_, _, here n, (ys, same, body))))) =
          (record { line = i.line; what = st.While x ys }, same_while i.line line x xs ys same, λ no_par no_else. gr.plain (gr.while whole (body no_par)))

-- the pieces of a `for`, its parts each with what stands after it
for_pieces : (first test step body : List PrintedPiece) → (first ++ sign_piece g.Semicolon ∷ []) ++ ((test ++ sign_piece g.Semicolon ∷ []) ++ ((step ++ sign_piece g.RightParen ∷ []) ++ body)) ≡
    first ++ sign_piece g.Semicolon ∷ (test ++ sign_piece g.Semicolon ∷ (step ++ sign_piece g.RightParen ∷ body))
for_pieces first test step body =
    append_assoc first (sign_piece g.Semicolon ∷ []) ((test ++ sign_piece g.Semicolon ∷ []) ++ ((step ++ sign_piece g.RightParen ∷ []) ++ body))
    ∙ ap (λ (ps : List PrintedPiece). first ++ sign_piece g.Semicolon ∷ ps) (append_assoc test (sign_piece g.Semicolon ∷ []) ((step ++ sign_piece g.RightParen ∷ []) ++ body))
    ∙ ap (λ (ps : List PrintedPiece). first ++ sign_piece g.Semicolon ∷ (test ++ sign_piece g.Semicolon ∷ ps)) (append_assoc step (sign_piece g.RightParen ∷ []) body)

pub for_stmt : {l : ℕ} {v u t y w : TextCounts} {p q : Place} {s m i j r : List Terminal} {x : Option Expr} (line : ℕ) (xs ys zs : List Stmt) → l ≤ v.deepest → IsFirst limits (suc l) v u s m xs →
    IsTest limits l u t m i x → IsStep limits (suc l) t y i j ys → IsBodyPart (suc l) y w j r zs →
    IsStmtsPart l v w (Key kw.For p ∷ Sign g.LeftParen q ∷ s) r (record { line = line; what = st.For xs x ys zs } ∷ [])
for_stmt {x = x} line xs ys zs some first_h test_h step_h part =
    one_stmt (record { line = line; what = st.For xs x ys zs }) some
    (same_pieces
    (ap (λ (ps : List PrintedPiece). key_piece kw.For ∷ sign_piece g.LeftParen ∷ ps) (for_pieces (part_pieces (map stmt_shown xs)) (test_pieces x) (part_pieces (map stmt_shown ys)) (block_pieces (map stmt_shown zs)))
    ∙ ended_pieces (record { line = line; what = st.For xs x ys zs })
    (key_piece kw.For ∷ sign_piece g.LeftParen ∷ (part_pieces (map stmt_shown xs)
    ++ sign_piece g.Semicolon ∷ (test_pieces x ++ sign_piece g.Semicolon ∷ (part_pieces (map stmt_shown ys) ++ sign_piece g.RightParen ∷ block_pieces (map stmt_shown zs)))))
    (for_shown line xs x ys zs))
    (mapped build (both (front_key kw.For) (both (front_sign g.LeftParen) (both (inner (first_part first_h)) (both (test_part test_h) (both (inner (step_part step_h)) (inner part)))))))) where
      build : (k : ℕ) (a b : TextCounts) (t q : List Terminal) →
          Both (IsPiece (key_piece kw.For)) (Both (IsPiece (sign_piece g.LeftParen)) (Both (λ n. First xs (suc n)) (Both (Test x) (Both (λ n. Step ys (suc n)) (λ n. Body zs (suc n)))))) k a b t q →
          One (record { line = line; what = st.For xs x ys zs }) k a b t q
      build k a b _ q (_, _, here i, (_, _, here j, (_, _, (us, us_same, is_first), (_, _, is_test, (_, _, (vs, vs_same, is_step), (ws, ws_same, body)))))) = (
        record { line = i.line; what = st.For us x vs ws },
        same_for i.line line xs us x ys vs zs ws us_same vs_same ws_same,
        λ no_par no_else.
            gr.plain (gr.for_loop is_first is_test is_step (body no_par)),
      )

-- what stands after the exception of a `catch`, with the handler's left brace
abbrev CatchRest : Option (List ℕ) → ReadRelation
CatchRest y k a b t q = IsCatchRest limits a b t q y

catch_rest_part : {l : ℕ} {v w : TextCounts} {s r : List Terminal} {y : Option (List ℕ)} → IsCatchRest limits v w s r y →
    IsPart l v w s r (variable_pieces y ++ sign_piece g.RightParen ∷ line_end_piece g.LeftBrace ∷ []) (CatchRest y)
catch_rest_part gr.no_variable = mapped build (both (front_sign g.RightParen) (front_last g.LeftBrace)) where
  build : (k : ℕ) (a b : TextCounts) (t q : List Terminal) → Both (IsPiece (sign_piece g.RightParen)) (IsPiece (line_end_piece g.LeftBrace)) k a b t q → CatchRest None k a b t q
  build k a _ _ q (_, _, here i, here j) = gr.no_variable
catch_rest_part (gr.catch_variable {x = x} {p = p} two fits) =
    mapped build (where_two two (both (local_part x p fits) (both (front_sign g.RightParen) (front_last g.LeftBrace)))) where
      build : (k : ℕ) (a b : TextCounts) (t q : List Terminal) → (a.two ≡ true) × Both (IsLocal x) (Both (IsPiece (sign_piece g.RightParen)) (IsPiece (line_end_piece g.LeftBrace))) k a b t q →
          CatchRest (Some x) k a b t q
      build k a _ _ q (seen, (_, _, local i few, (_, _, here j, here n))) = gr.catch_variable seen few

-- the pieces of a handler with those of its head
handler_pieces : (y : Option (List ℕ)) (body : List PrintedPiece) → (variable_pieces y ++ sign_piece g.RightParen ∷ line_end_piece g.LeftBrace ∷ []) ++ body ≡ variable_pieces y ++ sign_piece g.RightParen ∷ line_end_piece g.LeftBrace ∷ body
handler_pieces y body = append_assoc (variable_pieces y) (sign_piece g.RightParen ∷ line_end_piece g.LeftBrace ∷ []) body

pub try_stmt : {l : ℕ} {v u t w : TextCounts} {p q o c b : Place} {s i m r : List Terminal} {x : List ℕ} {y : Option (List ℕ)} (line : ℕ) (xs ys : List Stmt) → l ≤ v.deepest →
    IsBlockPart (suc l) v u s (Key kw.Catch o ∷ Sign g.LeftParen c ∷ Name x b ∷ i) xs → IsCatchRest limits u t i m y → IsBlockPart (suc l) t w m r ys →
    IsStmtsPart l v w (Key kw.Try p ∷ Sign g.LeftBrace q ∷ s) r (record { line = line; what = st.Try xs x y ys } ∷ [])
try_stmt {b = e} {x = x} {y = y} line xs ys some part is_catch handler =
    one_stmt (record { line = line; what = st.Try xs x y ys }) some
    (same_pieces
    (ap (λ (ps : List PrintedPiece). key_piece kw.Try ∷ line_end_piece g.LeftBrace ∷ ((all_pieces (map stmt_shown xs) ++ line_end_piece g.RightBrace ∷ []) ++ key_piece kw.Catch ∷ sign_piece g.LeftParen ∷ name_piece x ∷ ps))
    (handler_pieces y (all_pieces (map stmt_shown ys) ++ line_end_piece g.RightBrace ∷ []))
    ∙ ended_pieces (record { line = line; what = st.Try xs x y ys })
    (key_piece kw.Try ∷ (block_pieces (map stmt_shown xs) ++ key_piece kw.Catch ∷ sign_piece g.LeftParen ∷ name_piece x ∷ (variable_pieces y ++ sign_piece g.RightParen ∷ block_pieces (map stmt_shown ys)))) (try_shown line xs x y ys))
    (mapped build
    (both (front_key kw.Try) (both (front_last g.LeftBrace) (both (inner part) (both (front_key kw.Catch)
    (both (front_sign g.LeftParen) (both (front_name x e) (both (catch_rest_part is_catch) (inner handler)))))))))) where
      build : (k : ℕ) (a b : TextCounts) (t q : List Terminal) →
          Both (IsPiece (key_piece kw.Try)) (Both (IsPiece (line_end_piece g.LeftBrace)) (Both (λ n. Block xs (suc n)) (Both (IsPiece (key_piece kw.Catch)) (Both (IsPiece (sign_piece g.LeftParen))
          (Both (IsPiece (name_piece x)) (Both (CatchRest y) (λ n. Block ys (suc n)))))))) k a b t q →
          One (record { line = line; what = st.Try xs x y ys }) k a b t q
      build k a b _ q (_, _, here i, (_, _, here j, (_, _, (us, us_same, block), (_, _, here n, (_, _, here e, (_, _, here f, (_, _, rest, (vs, vs_same, second)))))))) =
          (record { line = i.line; what = st.Try us x y vs }, same_try i.line line xs us x y ys vs us_same vs_same, λ no_par no_else. gr.plain (gr.try block rest second))

-- the same first branch, and the same ones after it
same_branches : (b c : Branch) (bs cs : List Branch) → branch_without_lines c ≡ branch_without_lines b → AreSameBranches cs bs → AreSameBranches (c ∷ cs) (b ∷ bs)
same_branches b c bs cs one more = ap (λ (x : Branch). x ∷ map branch_without_lines cs) one ∙ ap (λ (l : List Branch). branch_without_lines b ∷ l) more

-- the pieces of a fork, whose first branch has these pieces
fork_is : (line : ℕ) (b : Branch) (bs : List Branch) (ps : List PrintedPiece) → branch_pieces b ≡ ps → fork_pieces false (map branch_pieces bs) ≡ key_piece kw.Par ∷ behind_par (map branch_pieces bs) →
    ps ++ key_piece kw.Par ∷ behind_par (map branch_pieces bs) ≡ fork_pieces true (map branch_pieces (b ∷ bs))
fork_is line b bs ps first_is some = ap (λ (qs : List PrintedPiece). qs ++ key_piece kw.Par ∷ behind_par (map branch_pieces bs)) (sym first_is) ∙ ap (λ (qs : List PrintedPiece). branch_pieces b ++ qs) (sym some)

-- a fork whose first branch is a block, which was read at whatever level
pub block_fork : {l : ℕ} {v u w : TextCounts} {p q : Place} {s m r : List Terminal} (line other : ℕ) (xs : List Stmt) (bs : List Branch) → l ≤ u.deepest →
    IsPart l v u s (Key kw.Par q ∷ m) (all_pieces (map stmt_shown xs) ++ line_end_piece g.RightBrace ∷ []) (λ k. Block xs (suc k)) → AreBranchesPart l 1 u w m r bs →
    IsStmtsPart l v w (Sign g.LeftBrace p ∷ s) r (record { line = line; what = st.Par (record { line = other; what = br.Block xs } ∷ bs) } ∷ [])
block_fork line other xs bs some part more =
    stmt_at (record { line = line; what = st.Par (record { line = other; what = br.Block xs } ∷ bs) }) (omega (arith, some, more.part.deeper))
    (same_pieces
    (fork_is line (record { line = other; what = br.Block xs }) bs (block_pieces (map stmt_shown xs)) (block_branch_pieces other xs) more.some
    ∙ ended_pieces (record { line = line; what = st.Par (record { line = other; what = br.Block xs } ∷ bs) }) (fork_pieces true (map branch_pieces (record { line = other; what = br.Block xs } ∷ bs)))
    (par_shown line (record { line = other; what = br.Block xs } ∷ bs)))
    (mapped build (both (front_last g.LeftBrace) (both part (both (front_key kw.Par) more.part))))) where
      build : (k : ℕ) (a b : TextCounts) (t q : List Terminal) → Both (IsPiece (line_end_piece g.LeftBrace)) (Both (λ j. Block xs (suc j)) (Both (IsPiece (key_piece kw.Par)) (Branches 1 bs))) k a b t q →
          One (record { line = line; what = st.Par (record { line = other; what = br.Block xs } ∷ bs) }) k a b t q
      build k a b _ q (_, _, here i, (_, _, (ys, same, block), (_, _, here j, (cs, cs_same, branches)))) = (
        record { line = i.line; what = st.Par (record { line = i.line; what = br.Block ys } ∷ cs) },
        same_par i.line line (record { line = other; what = br.Block xs } ∷ bs) (record { line = i.line; what = br.Block ys } ∷ cs)
            (same_branches (record { line = other; what = br.Block xs }) (record { line = i.line; what = br.Block ys }) bs cs (same_block_branch i.line other xs ys same) cs_same),
        λ no_par no_else.
            gr.block_fork block (branches no_par),
      )

-- a fork whose first branch is a call
pub call_fork : {l : ℕ} {v u w : TextCounts} {p q o e : Place} {s m r : List Terminal} {f : List ℕ} {xs : List Expr} (line other : ℕ) (bs : List Branch) → l ≤ v.deepest →
    IsArguments limits l v u s (Sign g.Semicolon o ∷ Key kw.Par e ∷ m) xs → AreBranchesPart l 1 u w m r bs →
    IsStmtsPart l v w (Name f p ∷ Sign g.LeftParen q ∷ s) r (record { line = line; what = st.Par (record { line = other; what = br.Call (record { function = f; args = xs }) } ∷ bs) } ∷ [])
call_fork {p = p} {f = f} {xs = xs} line other bs some h more =
    one_stmt (record { line = line; what = st.Par (record { line = other; what = br.Call (record { function = f; args = xs }) } ∷ bs) }) some
    (same_pieces
    (ap (λ (ps : List PrintedPiece). name_piece f ∷ sign_piece g.LeftParen ∷ ps) (sym (append_assoc (args_pieces xs ++ sign_piece g.RightParen ∷ []) (line_end_piece g.Semicolon ∷ []) (key_piece kw.Par ∷ behind_par (map branch_pieces bs))))
    ∙ fork_is line (record { line = other; what = br.Call (record { function = f; args = xs }) }) bs (call_pieces (record { function = f; args = xs }) ++ line_end_piece g.Semicolon ∷ [])
    (call_branch_pieces other (record { function = f; args = xs })) more.some
    ∙ ended_pieces (record { line = line; what = st.Par (record { line = other; what = br.Call (record { function = f; args = xs }) } ∷ bs) })
    (fork_pieces true (map branch_pieces (record { line = other; what = br.Call (record { function = f; args = xs }) } ∷ bs)))
    (par_shown line (record { line = other; what = br.Call (record { function = f; args = xs }) } ∷ bs)))
    (mapped build (both (front_name f p) (both (front_sign g.LeftParen) (both (args_part h) (both (front_last g.Semicolon) (both (front_key kw.Par) more.part))))))) where
      build : (k : ℕ) (a b : TextCounts) (t q : List Terminal) →
          Both (IsPiece (name_piece f)) (Both (IsPiece (sign_piece g.LeftParen)) (Both (Arguments xs) (Both (IsPiece (line_end_piece g.Semicolon)) (Both (IsPiece (key_piece kw.Par)) (Branches 1 bs))))) k a b t q →
          One (record { line = line; what = st.Par (record { line = other; what = br.Call (record { function = f; args = xs }) } ∷ bs) }) k a b t q
      build k a b _ q (_, _, here i, (_, _, here j, (_, _, args, (_, _, here n, (_, _, here z, (cs, cs_same, branches)))))) = (
        record { line = i.line; what = st.Par (record { line = i.line; what = br.Call (record { function = f; args = xs }) } ∷ cs) },
        same_par i.line line (record { line = other; what = br.Call (record { function = f; args = xs }) } ∷ bs) (record { line = i.line; what = br.Call (record { function = f; args = xs }) } ∷ cs)
            (same_branches (record { line = other; what = br.Call (record { function = f; args = xs }) }) (record { line = i.line; what = br.Call (record { function = f; args = xs }) }) bs cs
            (other_branch_line i.line other (br.Call (record { function = f; args = xs }))) cs_same),
        λ no_par no_else.
            gr.plain (gr.call_fork args (branches no_par)),
      )

-- a branch that is a block
pub block_branch : {l : ℕ} {v w : TextCounts} {p : Place} {s r : List Terminal} (line : ℕ) (xs : List Stmt) → IsBlockPart (suc l) v w s r xs →
    IsBranchPart l v w (Sign g.LeftBrace p ∷ s) r (record { line = line; what = br.Block xs })
block_branch line xs part = same_pieces (sym (block_branch_pieces line xs)) (mapped build (both (front_last g.LeftBrace) (inner part))) where
  build : (k : ℕ) (a b : TextCounts) (t q : List Terminal) → Both (IsPiece (line_end_piece g.LeftBrace)) (λ j. Block xs (suc j)) k a b t q → OneBranch (record { line = line; what = br.Block xs }) k a b t q
  build k a b _ q (_, _, here i, (ys, same, block)) = (record { line = i.line; what = br.Block ys }, same_block_branch i.line line xs ys same, gr.block_branch block)

-- one that is a call
pub call_branch : {l : ℕ} {v w : TextCounts} {p q o : Place} {s r : List Terminal} {f : List ℕ} {xs : List Expr} (line : ℕ) → IsArguments limits l v w s (Sign g.Semicolon o ∷ r) xs →
    IsBranchPart l v w (Name f p ∷ Sign g.LeftParen q ∷ s) r (record { line = line; what = br.Call (record { function = f; args = xs }) })
call_branch {p = p} {f = f} {xs = xs} line h =
    same_pieces (sym (call_branch_pieces line (record { function = f; args = xs })))
    (mapped build (both (front_name f p) (both (front_sign g.LeftParen) (both (args_part h) (front_last g.Semicolon))))) where
      build : (k : ℕ) (a b : TextCounts) (t q : List Terminal) → Both (IsPiece (name_piece f)) (Both (IsPiece (sign_piece g.LeftParen)) (Both (Arguments xs) (IsPiece (line_end_piece g.Semicolon)))) k a b t q →
          OneBranch (record { line = line; what = br.Call (record { function = f; args = xs }) }) k a b t q
      build k a _ _ q (_, _, here i, (_, _, here j, (_, _, args, here n))) =
          (record { line = i.line; what = br.Call (record { function = f; args = xs }) }, other_branch_line i.line line (br.Call (record { function = f; args = xs })), gr.call_branch args)
