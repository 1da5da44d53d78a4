-- How statements are read from their pieces, each for itself and in a block.
use Rattle.std.proofs.Common.{ℕ, Bool, ◌+◌, ◌≤◌, ◌≡◌, true, false, List, [], ◌∷◌, ◌++◌, map, refl, sym, ap, subst, ◌∙◌, arith}
use Rattle.std.proofs.lemmas.List.{append_assoc, map-append}
use Rattle.shim_base.specs.declared.Keyword.TheVariants as kw
use Rattle.shim_base.specs.declared.Sign.TheVariants as g
use Rattle.shim_base.specs.Tokens.{Spells, IsWithinLimits}
use Rattle.shim_syntax.specs.declared.tree.Stmt.{Stmt}
use Rattle.shim_syntax.specs.declared.tree.Branch.{Branch}
use Rattle.shim_syntax.specs.Terminals.{Terminal, first}
use Rattle.shim_syntax.specs.Limits.{Nesting, is_within, limits}
use Rattle.shim_syntax.specs.Grammar.{TextCounts, at_level, new_body, behind_body, is_par, is_else, IsBlock, IsStmt, IsPlain, IsBody, IsBranch, IsBranches}
use Rattle.shim_syntax.specs.Grammar as gr
use Rattle.shim_syntax.specs.Printing.{PrintedPiece, StmtShown, stmt_shown, branch_pieces, all_pieces, end_pieces, block_pieces, fork_pieces, simple, without_semicolon, key_piece, line_end_piece}
use Rattle.shim_syntax.specs.Same.{stmt_without_lines}
use Rattle.shim_syntax.proofs.Pieces.{IsSeen}
use Rattle.shim_syntax.proofs.Standing.{ArePrefix, nothing, piece}
use Rattle.shim_syntax.proofs.Shapes.{sign_spells}
use Rattle.shim_syntax.proofs.Expressions.{IsAlike}
use Rattle.shim_syntax.proofs.StatementShapes.{AreSame, AreSameBranches, branch_without_lines}
use Rattle.shim_syntax.proofs.Parts.{ReadRelation, IsDone, IsPart, Both, both, both_after, IsPiece, here, mapped, same_pieces, at_own_level}

-- a statement
abbrev pub One : Stmt → ReadRelation
One x k a b t q = (y : Stmt) × (stmt_without_lines y ≡ stmt_without_lines x) × (is_par (first q) ≡ false → is_else (first q) ≡ false → IsStmt limits k a b t q (y ∷ []))

-- statements at the front of a block
abbrev pub Stmts : List Stmt → ReadRelation
Stmts xs k a b t q = (ys : List Stmt) × AreSame ys xs × ((c : TextCounts) (z : List Terminal) (zs : List Stmt) → IsBlock limits k b c q z zs → IsBlock limits k a c t z (ys ++ zs))

-- a block after its left brace
abbrev pub Block : List Stmt → ReadRelation
Block xs k a b t q = (ys : List Stmt) × AreSame ys xs × IsBlock limits k a b t q ys

-- a body in braces
abbrev pub Body : List Stmt → ReadRelation
Body xs k a b t q = (ys : List Stmt) × AreSame ys xs × (is_par (first q) ≡ false → IsBody limits k a b t q ys)

abbrev pub OneBranch : Branch → ReadRelation
OneBranch x k a b t q = (y : Branch) × (branch_without_lines y ≡ branch_without_lines x) × IsBranch limits k a b t q y

-- the branches after n of them, without the first `par`
abbrev pub Branches : ℕ → List Branch → ReadRelation
Branches n xs k a b t q = (ys : List Branch) × AreSameBranches ys xs × (is_par (first q) ≡ false → IsBranches limits k n a b t q ys)

abbrev pub IsStmtsPart : ℕ → TextCounts → TextCounts → List Terminal → List Terminal → List Stmt → Type 0
IsStmtsPart l v w s r xs = IsPart l v w s r (all_pieces (map stmt_shown xs)) (Stmts xs)

abbrev pub IsBlockPart : ℕ → TextCounts → TextCounts → List Terminal → List Terminal → List Stmt → Type 0
IsBlockPart l v w s r xs = IsPart l v w s r (all_pieces (map stmt_shown xs) ++ line_end_piece g.RightBrace ∷ []) (Block xs)

abbrev pub IsBodyPart : ℕ → TextCounts → TextCounts → List Terminal → List Terminal → List Stmt → Type 0
IsBodyPart l v w s r xs = IsPart l v w s r (block_pieces (map stmt_shown xs)) (Body xs)

abbrev pub IsBranchPart : ℕ → TextCounts → TextCounts → List Terminal → List Terminal → Branch → Type 0
IsBranchPart l v w s r b = IsPart l v w s r (branch_pieces b) (OneBranch b)

-- the branches' pieces without the first `par`
abbrev pub behind_par : List (List PrintedPiece) → List PrintedPiece
behind_par [] = []
behind_par (b ∷ bs) = b ++ fork_pieces false bs

pub record AreBranchesPart (l n : ℕ) (v w : TextCounts) (s r : List Terminal) (bs : List Branch) : Type 0 where
  pub part : IsPart l v w s r (behind_par (map branch_pieces bs)) (Branches n bs)
  pub some : fork_pieces false (map branch_pieces bs) ≡ key_piece kw.Par ∷ behind_par (map branch_pieces bs)

pub append_nothing : {A : Type 0} (xs : List A) → xs ++ [] ≡ xs
append_nothing [] = refl
append_nothing {A = A} (x ∷ xs) = ap (λ (l : List A). x ∷ l) (append_nothing xs)

-- No statement that begins with no brace begins with `par` or `else`.
plain_begins : {l : ℕ} {v w : TextCounts} {s r : List Terminal} {xs : List Stmt} → IsPlain limits l v w s r xs → (is_par (first s) ≡ false) × (is_else (first s) ≡ false)
plain_begins gr.empty = (refl, refl)
plain_begins (gr.declare _) = (refl, refl)
plain_begins (gr.assign _) = (refl, refl)
plain_begins gr.assign_next = (refl, refl)
plain_begins gr.get = (refl, refl)
plain_begins gr.next = (refl, refl)
plain_begins (gr.next_assign _) = (refl, refl)
plain_begins (gr.put _) = (refl, refl)
plain_begins (gr.if_alone _ _ _) = (refl, refl)
plain_begins (gr.if_else _ _ _) = (refl, refl)
plain_begins (gr.while _ _) = (refl, refl)
plain_begins (gr.for_loop _ _ _ _) = (refl, refl)
plain_begins (gr.call _ _) = (refl, refl)
plain_begins (gr.call_fork _ _) = (refl, refl)
plain_begins (gr.try _ _ _) = (refl, refl)
plain_begins (gr.throw _) = (refl, refl)

stmt_begins : {l : ℕ} {v w : TextCounts} {s r : List Terminal} {xs : List Stmt} → IsStmt limits l v w s r xs → (is_par (first s) ≡ false) × (is_else (first s) ≡ false)
stmt_begins (gr.block _ _) = (refl, refl)
stmt_begins (gr.block_fork _ _) = (refl, refl)
stmt_begins (gr.plain h) = plain_begins h

-- nor does what follows in a block
pub block_begins : {l : ℕ} {v w : TextCounts} {s r : List Terminal} {xs : List Stmt} → IsBlock limits l v w s r xs → (is_par (first s) ≡ false) × (is_else (first s) ≡ false)
block_begins gr.block_end = (refl, refl)
block_begins (gr.stmt _ h _) = stmt_begins h

-- a piece that the source doesn't have
pub own_piece : {l : ℕ} {v : TextCounts} {r : List Terminal} (p : PrintedPiece) → Spells p.text p.kind → IsWithinLimits p.text p.kind → ((ver : Bool) → IsSeen ver p) → IsPart l v v r r (p ∷ []) (IsPiece p)
own_piece {l = l} {v = v} p spells fits seen = record {
  deeper = omega arith;
  within = λ h. h;
  spelled = λ ver good. ((spells, fits, seen ver, tt), good);
  read = read;
} where
  read : (k : ℕ) (a : TextCounts) (t q : List Terminal) → k + v.deepest ≤ l + 64 → IsAlike v a → ArePrefix (p ∷ []) t q → IsDone (IsPiece p) k v a t q
  read k a _ q room alike (piece place nothing) = record { behind = a; alike = alike; is = here place }

-- a terminal that the pieces don't have
pub behind_terminal : {l : ℕ} {v w : TextCounts} {x : Terminal} {s r : List Terminal} {ps : List PrintedPiece} {R : ReadRelation} → IsPart l v w s r ps R → IsPart l v w (x ∷ s) r ps R
behind_terminal part = record { deeper = part.deeper; within = part.within; spelled = λ ver good. part.spelled ver good.1; read = part.read }

-- a part behind which nothing that counts was read
pub with_idle : {l : ℕ} {v u w : TextCounts} {s m r : List Terminal} {ps qs : List PrintedPiece} {R Q : ReadRelation} → IsPart l v u s m ps R → IsPart l u w m r qs Q → IsAlike u w → IsPart l v w s r ps R
with_idle one two alike = record {
  deeper = omega (arith, one.deeper, two.deeper);
  within = λ h. two.within (one.within h);
  spelled = λ ver good. let first_part = one.spelled ver good in (first_part.0, (two.spelled ver first_part.1).1);
  read = λ k a t q room start prefix.
      let deeper = two.deeper in
      let done = one.read k a t q (omega (arith, room, deeper)) start prefix in
      record { behind = done.behind; alike = (done.alike.0 ∙ sym alike.0, done.alike.1 ∙ sym alike.1, done.alike.2 ∙ sym alike.2); is = done.is };
}

-- the pieces of a statement with its semicolon
abbrev pub whole_pieces : Stmt → List PrintedPiece
whole_pieces x = (stmt_shown x).pieces ++ end_pieces (stmt_shown x).semicolon

pub simple_pieces : (x : Stmt) (ps : List PrintedPiece) → stmt_shown x ≡ simple ps → ps ++ line_end_piece g.Semicolon ∷ [] ≡ whole_pieces x
simple_pieces x ps is = ap (λ (t : StmtShown). t.pieces ++ end_pieces t.semicolon) (sym is)

pub ended_pieces : (x : Stmt) (ps : List PrintedPiece) → stmt_shown x ≡ without_semicolon ps → ps ≡ whole_pieces x
ended_pieces x ps is = sym (append_nothing ps) ∙ ap (λ (t : StmtShown). t.pieces ++ end_pieces t.semicolon) (sym is)

-- a statement is statements
pub stmt_at : {l : ℕ} {v w : TextCounts} {s r : List Terminal} (x : Stmt) → l ≤ w.deepest → IsPart l v w s r (whole_pieces x) (One x) → IsStmtsPart l v w s r (x ∷ [])
stmt_at {l = l} {v = v} {w = w} {s = s} {r = r} x some part =
    same_pieces (ap (λ (ps : List PrintedPiece). (stmt_shown x).pieces ++ ps) (sym (append_nothing (end_pieces (stmt_shown x).semicolon)))) (mapped build (at_own_level some part)) where
      build : (k : ℕ) (a b : TextCounts) (t q : List Terminal) → (is_within Nesting k ≡ true) × One x k (at_level k a) b t q → Stmts (x ∷ []) k a b t q
      build k a b t q (level, (y, same, is)) =
          (y ∷ [], ap (λ (z : Stmt). z ∷ []) same, λ c z zs more. let begins = block_begins more in gr.stmt level (is begins.0 begins.1) more)

pub one_stmt : {l : ℕ} {v w : TextCounts} {s r : List Terminal} (x : Stmt) → l ≤ v.deepest → IsPart l v w s r (whole_pieces x) (One x) → IsStmtsPart l v w s r (x ∷ [])
one_stmt x some part = stmt_at x (omega (arith, some, part.deeper)) part

all_of_both : (xs ys : List Stmt) → all_pieces (map stmt_shown (xs ++ ys)) ≡ all_pieces (map stmt_shown xs) ++ all_pieces (map stmt_shown ys)
all_of_both [] ys = refl
all_of_both (x ∷ xs) ys =
    let ps = (stmt_shown x).pieces in
    let end = end_pieces (stmt_shown x).semicolon in
    let more = all_pieces (map stmt_shown xs) in
    let rest = all_pieces (map stmt_shown ys) in
    ap (λ (qs : List PrintedPiece). ps ++ (end ++ qs)) (all_of_both xs ys)
    ∙ ap (λ (qs : List PrintedPiece). ps ++ qs) (sym (append_assoc end more rest))
    ∙ sym (append_assoc ps (end ++ more) rest)

same_both : (xs ys us vs : List Stmt) → AreSame us xs → AreSame vs ys → AreSame (us ++ vs) (xs ++ ys)
same_both xs ys us vs one two =
    map-append stmt_without_lines us vs
    ∙ ap (λ (l : List Stmt). l ++ map stmt_without_lines vs) one
    ∙ ap (λ (l : List Stmt). map stmt_without_lines xs ++ l) two
    ∙ sym (map-append stmt_without_lines xs ys)

-- the same where both stand after one terminal
pub stmts_more_behind : {l : ℕ} {v u w : TextCounts} {x : Terminal} {s m r : List Terminal} (xs ys : List Stmt) → IsStmtsPart l v u (x ∷ s) m xs → IsStmtsPart l u w (x ∷ m) r ys → IsStmtsPart l v w (x ∷ s) r (xs ++ ys)
stmts_more_behind xs ys one two = same_pieces (sym (all_of_both xs ys)) (mapped build (both_after one two)) where
  build : (k : ℕ) (a b : TextCounts) (t q : List Terminal) → Both (Stmts xs) (Stmts ys) k a b t q → Stmts (xs ++ ys) k a b t q
  build k a b t q (_, _, (us, us_same, us_before), (vs, vs_same, vs_before)) = (
    us ++ vs,
    same_both xs ys us vs us_same vs_same,
    λ c z zs more.
        let P : List Stmt → Type 0 = λ l. IsBlock limits k a c t z l in
        subst P (sym (append_assoc us vs zs)) (us_before c z (vs ++ zs) (vs_before c z zs more)),
  )

-- statements and then the rest of a block
pub stmts_block : {l : ℕ} {v u w : TextCounts} {s m r : List Terminal} (xs ys : List Stmt) → IsStmtsPart l v u s m xs → IsBlockPart l u w m r ys → IsBlockPart l v w s r (xs ++ ys)
stmts_block xs ys one two =
    same_pieces
    (sym (append_assoc (all_pieces (map stmt_shown xs)) (all_pieces (map stmt_shown ys)) (line_end_piece g.RightBrace ∷ [])) ∙ ap (λ (ps : List PrintedPiece). ps ++ line_end_piece g.RightBrace ∷ []) (sym (all_of_both xs ys)))
    (mapped build (both one two)) where
      build : (k : ℕ) (a b : TextCounts) (t q : List Terminal) → Both (Stmts xs) (Block ys) k a b t q → Block (xs ++ ys) k a b t q
      build k a b t q (_, _, (us, us_same, us_before), (vs, vs_same, block)) = (us ++ vs, same_both xs ys us vs us_same vs_same, us_before b q vs block)

-- read in a body of its own
pub data InBody (R : ReadRelation) : ℕ → TextCounts → TextCounts → List Terminal → List Terminal → Type 0 where
  in_body : {k : ℕ} {a c : TextCounts} {t q : List Terminal} → R k (new_body a) c t q → InBody R k a (behind_body a.deepest c) t q

-- what was read in a body of its own is
pub body_of_own : {l : ℕ} {v u : TextCounts} {s r : List Terminal} {ps : List PrintedPiece} {R : ReadRelation} → IsPart l (new_body v) u s r ps R → IsPart l v (behind_body v.deepest u) s r ps (InBody R)
body_of_own part = record {
  deeper = omega arith;
  within = λ h. let level = part.within (omega arith) in omega (arith, h, level);
  spelled = part.spelled;
  read = λ k a t q room alike prefix.
      let done = part.read k (new_body a) t q (omega (arith, room)) alike prefix in
      record { behind = behind_body a.deepest done.behind; alike = done.alike; is = in_body done.is };
}

-- and so is what was read in no such body
pub into_body : {l : ℕ} {v w : TextCounts} {s r : List Terminal} {ps : List PrintedPiece} {R : ReadRelation} → IsPart l v w s r ps R → IsPart l v w s r ps (InBody R)
into_body part = record {
  deeper = part.deeper;
  within = part.within;
  spelled = part.spelled;
  read = λ k a t q room alike prefix.
      let done = part.read k (new_body a) t q room alike prefix in
      record { behind = behind_body a.deepest done.behind; alike = done.alike; is = in_body done.is };
}

-- statements with the right brace after them are a block
close : (xs : List Stmt) (k : ℕ) (a b : TextCounts) (t q : List Terminal) → Both (Stmts xs) (IsPiece (line_end_piece g.RightBrace)) k a b t q → Block xs k a b t q
close xs k a _ t q (_, _, (ys, same, before), here p) = (ys ++ [], ap (λ (l : List Stmt). map stmt_without_lines l) (append_nothing ys) ∙ same, before _ q [] gr.block_end)

-- statements without braces, as a body
pub braced : {l : ℕ} {v w : TextCounts} {s r : List Terminal} (xs : List Stmt) → IsStmtsPart l v w s r xs → IsBodyPart l v w s r xs
braced xs part =
    let block = mapped (close xs) (both part (own_piece (line_end_piece g.RightBrace) (sign_spells g.RightBrace) tt (λ ver place. refl))) in
    mapped build (both (own_piece (line_end_piece g.LeftBrace) (sign_spells g.LeftBrace) tt (λ ver place. refl)) (into_body block)) where
      build : (k : ℕ) (a b : TextCounts) (t q : List Terminal) → Both (IsPiece (line_end_piece g.LeftBrace)) (InBody (Block xs)) k a b t q → Body xs k a b t q
      build k a _ _ q (_, _, here p, in_body (ys, same, block)) = (ys, same, λ no_par. gr.body_block block no_par)
