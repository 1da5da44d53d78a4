-- The statement of a number of a unit's text, and what is left to do from there on.
use Rattle.std.specs.Prelude.{ℕ, zero, suc, ◌+◌, ◌-◌, nat_lt, List, [], ◌∷◌, ◌++◌, map, if◌then◌else◌, Option, Some, None}
use Rattle.shim_units.specs.declared.unit.UStmt.{UStmt, UStmt-F, para-UStmt}
use Rattle.shim_units.specs.declared.unit.UWhat.{UWhat, UWhat-F}
use Rattle.shim_process.specs.Todo.{Item, Do, Leave, items}
use Rattle.shim_walk_frames.specs.Successors.{Successors, none, one_successor, in_sequence, two, loop_successors, successors}

-- A piece of text, with its numbers and their successors. `items` is what is to be done for the piece, from its first number. `left` is what is left to do, from the piece's first number, a number counted within the piece, and what comes after the piece. `at` is the statement of a number counted within the piece.
pub record StmtPiece : Type 0 where
  pub successors : Successors
  pub items : ℕ → List Item
  pub left : ℕ → ℕ → List Item → List Item
  pub at : ℕ → Option UStmt

-- the ends of n `try` blocks, and k after them
abbrev pub leaves : ℕ → List Item → List Item
leaves zero k = k
leaves (suc n) k = Leave ∷ leaves n k

-- the piece of an empty text
abbrev pub no_piece : StmtPiece
no_piece = record { successors = none; items = λ n. []; left = λ base n k. k; at = λ n. None }

-- the piece of a statement that has no blocks
abbrev pub one_piece : UStmt → StmtPiece
one_piece s = record { successors = one_successor; items = λ n. Do n s ∷ []; left = λ base n k. Do base s ∷ k; at = λ n. Some s }

-- what is left to do from a number on in two pieces, one after the other; `joined_at` is the statement of a number in them
abbrev pub joined_left : StmtPiece → StmtPiece → ℕ → ℕ → List Item → List Item
joined_left a b base n k =
    if nat_lt n a.successors.size then a.left base n (b.items (base + a.successors.size) ++ k)
    else b.left (base + a.successors.size) (n - a.successors.size) k

abbrev pub joined_at : StmtPiece → StmtPiece → ℕ → Option UStmt
joined_at a b n = if nat_lt n a.successors.size then a.at n else b.at (n - a.successors.size)

-- two pieces as one, the second after the first
abbrev pub joined_piece : StmtPiece → StmtPiece → StmtPiece
joined_piece a b = record { successors = in_sequence a.successors b.successors; items = λ n. a.items n ++ b.items (n + a.successors.size); left = joined_left a b; at = joined_at a b }

-- pieces in order as one
abbrev pub block_piece : List StmtPiece → StmtPiece
block_piece [] = no_piece
block_piece (p ∷ ps) = joined_piece p (block_piece ps)

-- what is left to do from a number on in statement s of two blocks, where u `try` blocks end after the first; `two_at` is the statement of a number in it
abbrev pub two_left : UStmt → ℕ → StmtPiece → StmtPiece → ℕ → ℕ → List Item → List Item
two_left s u a b base zero k = Do base s ∷ k
two_left s u a b base (suc n) k =
    if nat_lt n a.successors.size then a.left (base + 1) n (leaves u k)
    else b.left (base + 1 + a.successors.size) (n - a.successors.size) k

abbrev pub two_at : UStmt → StmtPiece → StmtPiece → ℕ → Option UStmt
two_at s a b zero = Some s
two_at s a b (suc n) = if nat_lt n a.successors.size then a.at n else b.at (n - a.successors.size)

-- the piece of statement s of two blocks, where u `try` blocks end after the first
abbrev pub two_piece : UStmt → ℕ → StmtPiece → StmtPiece → StmtPiece
two_piece s u a b = record { successors = two u a.successors b.successors; items = λ n. Do n s ∷ []; left = two_left s u a b; at = two_at s a b }

-- what is left to do from a number on in loop s with body a, after which the loop is next; `loop_at` is the statement of a number in it
abbrev pub loop_left : UStmt → StmtPiece → ℕ → ℕ → List Item → List Item
loop_left s a base zero k = Do base s ∷ k
loop_left s a base (suc n) k = a.left (base + 1) n (Do base s ∷ k)

abbrev pub loop_at : UStmt → StmtPiece → ℕ → Option UStmt
loop_at s a zero = Some s
loop_at s a (suc n) = a.at n

-- the piece of loop s with body a
abbrev pub loop_piece : UStmt → StmtPiece → StmtPiece
loop_piece s a = record { successors = loop_successors a.successors; items = λ n. Do n s ∷ []; left = loop_left s a; at = loop_at s a }

-- what is kept of a statement, beside its successors and its items
pub record StmtPart : Type 0 where
  pub left : ℕ → ℕ → List Item → List Item
  pub at : ℕ → Option UStmt

-- the part of a piece that is kept of its statement
abbrev pub part_of : StmtPiece → StmtPart
part_of p = record { left = p.left; at = p.at }

-- the piece with these successors, these items and the rest from its part
abbrev pub whole_piece : Successors → (ℕ → List Item) → StmtPart → StmtPiece
whole_piece w i p = record { successors = w; items = i; left = p.left; at = p.at }

-- the piece of statements in order, each with its part
abbrev pub pieces_of : List (UStmt × StmtPart) → StmtPiece
pieces_of ss = block_piece (map (λ s. whole_piece (successors s.0) (items s.0) s.1) ss)

-- the part of a statement of each kind, from the parts of the statements in it; `stmt_part` is that of the statement as a whole
abbrev pub what_part : UWhat-F (UWhat × (UStmt → StmtPart)) (UStmt × StmtPart) → UStmt → StmtPart
what_part (UWhat-F.If e a b) s = part_of (two_piece s 0 (pieces_of a) (pieces_of b))
what_part (UWhat-F.While e a) s = part_of (loop_piece s (pieces_of a))
what_part (UWhat-F.For first e step body) s = part_of (joined_piece (pieces_of first) (loop_piece s (joined_piece (pieces_of body) (pieces_of step))))
what_part (UWhat-F.Block a) s = part_of (pieces_of a)
what_part (UWhat-F.Try a x y b) s = part_of (two_piece s 1 (pieces_of a) (pieces_of b))
what_part _ s = part_of (one_piece s)

abbrev pub stmt_part : UStmt-F (UWhat × (UStmt → StmtPart)) (UStmt × StmtPart) → StmtPart
stmt_part s = s.what.1 (record { line = s.line; what = s.what.0 })

-- the part of a statement
abbrev pub stmt_part_of : UStmt → StmtPart
stmt_part_of = para-UStmt (UStmt → StmtPart) StmtPart what_part stmt_part

-- the piece of a statement; `piece_all` is that of statements in order
abbrev pub piece : UStmt → StmtPiece
piece s = whole_piece (successors s) (items s) (stmt_part_of s)

abbrev pub piece_all : List UStmt → StmtPiece
piece_all ss = block_piece (map piece ss)

-- the statement of a number that is counted within a statement
abbrev pub stmt_at : UStmt → ℕ → Option UStmt
stmt_at s = (stmt_part_of s).at

-- the statement of a number among statements in order
abbrev pub at_all : List UStmt → ℕ → Option UStmt
at_all ss = (piece_all ss).at

-- what is left to do in a unit from a number on
abbrev pub left_all : List UStmt → ℕ → List Item
left_all ss n = (piece_all ss).left 0 n []
