-- The equations of the folds over a statement, one layer at a time.
use Rattle.std.proofs.Common.{◌≡◌, ℕ, zero, suc, ◌-◌, ◌<◌, ◌≤◌, List, [], ◌∷◌, map, Option, Some, refl, sym, ap, ◌∙◌, nat_lt, if◌then◌else◌, arith}
use Rattle.std.proofs.lemmas.Bool.Decides.{nat_tests}
use Rattle.shim_scopes.specs.declared.tree.UExpr.{UExpr}
use Rattle.shim_units.specs.declared.unit.UStmt.{UStmt, UStmt-F, para-roll-UStmt, fold-roll-UStmt}
use Rattle.shim_units.specs.declared.unit.UWhat.{UWhat, UWhat-F, out-UWhat, roll-UWhat, map-UWhat, para-UWhat, para-roll-UWhat, fold-UWhat, fold-roll-UWhat, roll-out-UWhat, If, While, For, Block, Try}
use Rattle.shim_units.specs.declared.unit.UWhat.TheViews.{outs-If, outs-While, outs-For, outs-Block, outs-Try}
use Rattle.shim_units.specs.Numbering.{what_numbers}
use Rattle.shim_units.specs.Numbering as numbering
use Rattle.shim_walk_frames.specs.Successors.{Successors, successors, successors_all, what_successors, size_all, in_sequence}
use Rattle.shim_walk_frames.specs.Pieces.{StmtPiece, StmtPart, stmt_part_of, piece, piece_all, pieces_of, what_part, stmt_part, stmt_at, at_all, joined_piece, joined_at, two_at, loop_at, loop_piece}
use Rattle.shim_process.proofs.TodoItems.{line_of}

-- one layer of each fold
abbrev pub successors_what : UWhat → Successors
successors_what = fold-UWhat Successors Successors what_successors (λ s. s.what)

pub successors_roll : (l : ℕ) (x : UWhat-F UWhat UStmt) → successors (line_of l (roll-UWhat x)) ≡ what_successors (map-UWhat UWhat UStmt Successors Successors successors_what successors x)
successors_roll l x =
    let d : UStmt-F UWhat UStmt = record { line = l; what = roll-UWhat x } in
    fold-roll-UStmt Successors Successors what_successors (λ s. s.what) d
    ∙ fold-roll-UWhat Successors Successors what_successors (λ s. s.what) x

abbrev pub size_what : UWhat → ℕ
size_what = fold-UWhat ℕ ℕ what_numbers (λ s. s.what)

pub size_roll : (l : ℕ) (x : UWhat-F UWhat UStmt) → numbering.size_of (line_of l (roll-UWhat x)) ≡ what_numbers (map-UWhat UWhat UStmt ℕ ℕ size_what numbering.size_of x)
size_roll l x =
    let d : UStmt-F UWhat UStmt = record { line = l; what = roll-UWhat x } in
    fold-roll-UStmt ℕ ℕ what_numbers (λ s. s.what) d
    ∙ fold-roll-UWhat ℕ ℕ what_numbers (λ s. s.what) x

abbrev pub part_what : UWhat → UStmt → StmtPart
part_what = para-UWhat (UStmt → StmtPart) StmtPart what_part stmt_part

pub part_roll : (l : ℕ) (x : UWhat-F UWhat UStmt) → stmt_part_of (line_of l (roll-UWhat x)) ≡ what_part (map-UWhat UWhat UStmt _ _ (λ y. (y, part_what y)) (λ y. (y, stmt_part_of y)) x) (line_of l (roll-UWhat x))
part_roll l x =
    let d : UStmt-F UWhat UStmt = record { line = l; what = roll-UWhat x } in
    para-roll-UStmt (UStmt → StmtPart) StmtPart what_part stmt_part d
    ∙ ap (λ f. f (line_of l (roll-UWhat x))) (para-roll-UWhat (UStmt → StmtPart) StmtPart what_part stmt_part x)

pub part_out : (s : UStmt) → stmt_part_of s ≡ what_part (map-UWhat UWhat UStmt _ _ (λ y. (y, part_what y)) (λ y. (y, stmt_part_of y)) (out-UWhat s.what)) s
part_out s =
    let a = para-roll-UStmt (UStmt → StmtPart) StmtPart what_part stmt_part (record { line = s.line; what = s.what }) in
    let w : part_what s.what ≡ what_part (map-UWhat UWhat UStmt _ _ (λ y. (y, part_what y)) (λ y. (y, stmt_part_of y)) (out-UWhat s.what)) =
    ap part_what (sym (roll-out-UWhat s.what)) ∙ para-roll-UWhat (UStmt → StmtPart) StmtPart what_part stmt_part (out-UWhat s.what) in
    a ∙ ap (λ f. f s) w

-- a list of statements with their parts is that of their pieces
pub pieces_is : (ss : List UStmt) → pieces_of (map (λ y. (y, stmt_part_of y)) ss) ≡ piece_all ss
pieces_is [] = refl
pieces_is (s ∷ ss) = ap (λ p. joined_piece (piece s) p) (pieces_is ss)

pub successor_all : (ss : List UStmt) → (piece_all ss).successors ≡ successors_all ss
successor_all [] = refl
successor_all (s ∷ ss) = ap (λ w. in_sequence (successors s) w) (successor_all ss)

-- one layer of a statement
abbrev layer : UWhat-F UWhat UStmt → UStmt → StmtPart
layer x = what_part (map-UWhat UWhat UStmt _ _ (λ y. (y, part_what y)) (λ y. (y, stmt_part_of y)) x)

at_layer : (s : UStmt) (w : UWhat) (x : UWhat-F UWhat UStmt) (n : ℕ) → s.what ≡ w → out-UWhat w ≡ x → stmt_at s n ≡ (layer x s).at n
at_layer s w x n e o = ap (λ p. p.at n) (part_out s ∙ ap (λ v. layer (out-UWhat v) s) e ∙ ap (λ v. layer v s) o)

chosen : (n m : ℕ) (x y : Option UStmt) → n < m → (if nat_lt n m then x else y) ≡ x
chosen n m x y h = grind (arith, nat_tests)

other : (n m : ℕ) (x y : Option UStmt) → m ≤ n → (if nat_lt n m then x else y) ≡ y
other n m x y h = grind (arith, nat_tests)

-- the statement of a number of two blocks
two_of : (s : UStmt) (a b : List UStmt) (n : ℕ) → two_at s (pieces_of (map (λ y. (y, stmt_part_of y)) a)) (pieces_of (map (λ y. (y, stmt_part_of y)) b)) n ≡ two_at s (piece_all a) (piece_all b) n
two_of s a b n = ap (λ p. two_at s p (pieces_of (map (λ y. (y, stmt_part_of y)) b)) n) (pieces_is a) ∙ ap (λ p. two_at s (piece_all a) p n) (pieces_is b)

two_zero : (s : UStmt) (a b : List UStmt) (n : ℕ) → n ≡ 0 → two_at s (piece_all a) (piece_all b) n ≡ Some s
two_zero s a b zero z = refl
two_zero s a b (suc n) z = absurd (omega arith)

two_first : (s : UStmt) (a b : List UStmt) (n : ℕ) → 0 < n → n - 1 < size_all a → two_at s (piece_all a) (piece_all b) n ≡ at_all a (n - 1)
two_first s a b zero pos h = absurd (omega arith)
two_first s a b (suc n) pos h = let w = ap (λ w. w.size) (successor_all a) in let lt : n < (piece_all a).successors.size = omega arith in chosen _ _ _ _ lt ∙ ap (at_all a) (let e : n ≡ suc n - 1 = omega arith in e)

two_second : (s : UStmt) (a b : List UStmt) (n : ℕ) → 0 < n → size_all a ≤ n - 1 → two_at s (piece_all a) (piece_all b) n ≡ at_all b (n - 1 - size_all a)
two_second s a b zero pos h = absurd (omega arith)
two_second s a b (suc n) pos h = let w = ap (λ w. w.size) (successor_all a) in let le : (piece_all a).successors.size ≤ n = omega arith in other _ _ _ _ le ∙ ap (at_all b) (let e : n - (piece_all a).successors.size ≡ suc n - 1 - size_all a = omega arith in e)

pub at_if_start : (s : UStmt) (e : UExpr) (a b : List UStmt) (n : ℕ) → s.what ≡ If e a b → n ≡ 0 → stmt_at s n ≡ Some s
at_if_start s e a b n w z = at_layer s _ (UWhat-F.If e a b) n w (outs-If e a b) ∙ two_of s a b n ∙ two_zero s a b n z

pub at_if_first : (s : UStmt) (e : UExpr) (a b : List UStmt) (n : ℕ) → s.what ≡ If e a b → 0 < n → n - 1 < size_all a → stmt_at s n ≡ at_all a (n - 1)
at_if_first s e a b n w pos h = at_layer s _ (UWhat-F.If e a b) n w (outs-If e a b) ∙ two_of s a b n ∙ two_first s a b n pos h

pub at_if_second : (s : UStmt) (e : UExpr) (a b : List UStmt) (n : ℕ) → s.what ≡ If e a b → 0 < n → size_all a ≤ n - 1 → stmt_at s n ≡ at_all b (n - 1 - size_all a)
at_if_second s e a b n w pos h = at_layer s _ (UWhat-F.If e a b) n w (outs-If e a b) ∙ two_of s a b n ∙ two_second s a b n pos h

pub at_try_start : (s : UStmt) (x : ℕ) (y : Option ℕ) (a b : List UStmt) (n : ℕ) → s.what ≡ Try a x y b → n ≡ 0 → stmt_at s n ≡ Some s
at_try_start s x y a b n w z = at_layer s _ (UWhat-F.Try a x y b) n w (outs-Try a x y b) ∙ two_of s a b n ∙ two_zero s a b n z

pub at_try_first : (s : UStmt) (x : ℕ) (y : Option ℕ) (a b : List UStmt) (n : ℕ) → s.what ≡ Try a x y b → 0 < n → n - 1 < size_all a → stmt_at s n ≡ at_all a (n - 1)
at_try_first s x y a b n w pos h = at_layer s _ (UWhat-F.Try a x y b) n w (outs-Try a x y b) ∙ two_of s a b n ∙ two_first s a b n pos h

pub at_try_second : (s : UStmt) (x : ℕ) (y : Option ℕ) (a b : List UStmt) (n : ℕ) → s.what ≡ Try a x y b → 0 < n → size_all a ≤ n - 1 → stmt_at s n ≡ at_all b (n - 1 - size_all a)
at_try_second s x y a b n w pos h = at_layer s _ (UWhat-F.Try a x y b) n w (outs-Try a x y b) ∙ two_of s a b n ∙ two_second s a b n pos h

pub at_while_start : (s : UStmt) (e : UExpr) (a : List UStmt) (n : ℕ) → s.what ≡ While e a → n ≡ 0 → stmt_at s n ≡ Some s
at_while_start s e a zero w z = at_layer s _ (UWhat-F.While e a) zero w (outs-While e a)
at_while_start s e a (suc n) w z = absurd (omega arith)

pub at_while : (s : UStmt) (e : UExpr) (a : List UStmt) (n : ℕ) → s.what ≡ While e a → 0 < n → stmt_at s n ≡ at_all a (n - 1)
at_while s e a zero w pos = absurd (omega arith)
at_while s e a (suc n) w pos = at_layer s _ (UWhat-F.While e a) (suc n) w (outs-While e a) ∙ ap (λ p. p.at n) (pieces_is a) ∙ ap (at_all a) (let e : n ≡ suc n - 1 = omega arith in e)

pub at_block : (s : UStmt) (a : List UStmt) (n : ℕ) → s.what ≡ Block a → stmt_at s n ≡ at_all a n
at_block s a n w = at_layer s _ (UWhat-F.Block a) n w (outs-Block a) ∙ ap (λ p. p.at n) (pieces_is a)

-- a `for` is its first part, and then a loop of its body and its step
abbrev for_at : UStmt → StmtPiece → StmtPiece → StmtPiece → ℕ → Option UStmt
for_at s first body step = joined_at first (loop_piece s (joined_piece body step))

for_of : (s : UStmt) (e : Option UExpr) (a st b : List UStmt) (n : ℕ) → s.what ≡ For a e st b → stmt_at s n ≡ for_at s (piece_all a) (piece_all b) (piece_all st) n
for_of s e a st b n w =
    at_layer s _ (UWhat-F.For a e st b) n w (outs-For a e st b)
    ∙ ap (λ p. for_at s p (pieces_of (map (λ y. (y, stmt_part_of y)) b)) (pieces_of (map (λ y. (y, stmt_part_of y)) st)) n) (pieces_is a)
    ∙ ap (λ p. for_at s (piece_all a) p (pieces_of (map (λ y. (y, stmt_part_of y)) st)) n) (pieces_is b)
    ∙ ap (λ p. for_at s (piece_all a) (piece_all b) p n) (pieces_is st)

looped_zero : (s : UStmt) (p : StmtPiece) (n : ℕ) → n ≡ 0 → loop_at s p n ≡ Some s
looped_zero s p zero z = refl
looped_zero s p (suc n) z = absurd (omega arith)

looped_more : (s : UStmt) (p : StmtPiece) (n m : ℕ) → 0 < n → m ≡ n - 1 → loop_at s p n ≡ p.at m
looped_more s p zero m pos e = absurd (omega arith)
looped_more s p (suc n) m pos e = ap p.at (let f : n ≡ m = omega arith in f)

pub at_for_first : (s : UStmt) (e : Option UExpr) (a st b : List UStmt) (n : ℕ) → s.what ≡ For a e st b → n < size_all a → stmt_at s n ≡ at_all a n
at_for_first s e a st b n w h =
    let z = ap (λ w. w.size) (successor_all a) in let lt : n < (piece_all a).successors.size = omega arith in
    for_of s e a st b n w ∙ chosen _ _ _ _ lt

pub at_for_start : (s : UStmt) (e : Option UExpr) (a st b : List UStmt) (n : ℕ) → s.what ≡ For a e st b → n ≡ size_all a → stmt_at s n ≡ Some s
at_for_start s e a st b n w h =
    let z = ap (λ w. w.size) (successor_all a) in let le : (piece_all a).successors.size ≤ n = omega arith in
    for_of s e a st b n w ∙ other _ _ _ _ le ∙ looped_zero s (joined_piece (piece_all b) (piece_all st)) (n - (piece_all a).successors.size) (let e : n - (piece_all a).successors.size ≡ 0 = omega arith in e)

pub at_for_body : (s : UStmt) (e : Option UExpr) (a st b : List UStmt) (n : ℕ) → s.what ≡ For a e st b → size_all a < n → n - size_all a - 1 < size_all b → stmt_at s n ≡ at_all b (n - size_all a - 1)
at_for_body s e a st b n w h i =
    let z = ap (λ w. w.size) (successor_all a) in let le : (piece_all a).successors.size ≤ n = omega arith in
    let y = ap (λ w. w.size) (successor_all b) in let lt : n - size_all a - 1 < (piece_all b).successors.size = omega arith in
    let pos : 0 < n - (piece_all a).successors.size = omega arith in
    for_of s e a st b n w ∙ other _ _ _ _ le ∙ looped_more s (joined_piece (piece_all b) (piece_all st)) (n - (piece_all a).successors.size) (n - size_all a - 1) pos (omega arith) ∙ chosen _ _ _ _ lt

pub at_for_step : (s : UStmt) (e : Option UExpr) (a st b : List UStmt) (n : ℕ) → s.what ≡ For a e st b → size_all a < n → size_all b ≤ n - size_all a - 1 → stmt_at s n ≡ at_all st (n - size_all a - 1 - size_all b)
at_for_step s e a st b n w h i =
    let z = ap (λ w. w.size) (successor_all a) in let le : (piece_all a).successors.size ≤ n = omega arith in
    let y = ap (λ w. w.size) (successor_all b) in let le2 : (piece_all b).successors.size ≤ n - size_all a - 1 = omega arith in
    let pos : 0 < n - (piece_all a).successors.size = omega arith in
    for_of s e a st b n w ∙ other _ _ _ _ le ∙ looped_more s (joined_piece (piece_all b) (piece_all st)) (n - (piece_all a).successors.size) (n - size_all a - 1) pos (omega arith) ∙ other _ _ _ _ le2
    ∙ ap (at_all st) (let e : n - size_all a - 1 - (piece_all b).successors.size ≡ n - size_all a - 1 - size_all b = omega arith in e)
