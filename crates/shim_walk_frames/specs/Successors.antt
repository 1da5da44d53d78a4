-- The numbers of a list of statements, counted from 0, and where a process goes from the statement of one.
use Rattle.std.specs.Prelude.{ℕ, zero, suc, ◌+◌, ◌-◌, nat_lt, List, [], ◌∷◌, map, if◌then◌else◌}
use Rattle.shim_units.specs.declared.unit.UStmt.{UStmt, fold-UStmt}
use Rattle.shim_units.specs.declared.unit.UWhat.{UWhat-F}
use Rattle.shim_walk_frames.specs.declared.successors.Successor.{Successor}
use Rattle.shim_walk_frames.specs.declared.successors.Successor.TheVariants.{On, First, Second}
use Rattle.shim_walk_frames.specs.declared.successors.Position.{Position}

-- how many numbers a piece of text takes, and the position of each successor of each of these numbers
pub record Successors : Type 0 where
  pub size : ℕ
  pub go : Successor → ℕ → Position

-- the position at number n, with u `try` blocks that end on the way
abbrev pub to : ℕ → ℕ → Position
to n u = record { at = n; left = u }

-- the position n numbers further on
abbrev pub shifted : ℕ → Position → Position
shifted n p = to (n + p.at) p.left

-- the position p in a block of this size that begins at `from`; where the block is over it is `past`, with the count of ended `try` blocks of p added
abbrev pub inside : ℕ → ℕ → Position → Position → Position
inside from size past p = if nat_lt p.at size then shifted from p else to past.at (past.left + p.left)

-- the start of a block, or `past` where it is empty
abbrev pub into : ℕ → ℕ → Position → Position
into from size past = if nat_lt 0 size then to from 0 else past

abbrev pub none : Successors
none = record { size = 0; go = λ c n. to 0 0 }

-- the one number of a statement without blocks, of which each successor is the next number
abbrev pub one_successor : Successors
one_successor = record { size = 1; go = λ c n. to 1 0 }

-- the position of a successor of a number in two pieces, the second after the first
abbrev pub joined_go : Successors → Successors → Successor → ℕ → Position
joined_go a b c n = if nat_lt n a.size then a.go c n else shifted a.size (b.go c (n - a.size))

-- the numbers and the successors of two pieces, the second after the first
abbrev pub in_sequence : Successors → Successors → Successors
in_sequence a b = record { size = a.size + b.size; go = joined_go a b }

abbrev block : List Successors → Successors
block [] = none
block (w ∷ ws) = in_sequence w (block ws)

-- the position of a successor of a statement of two blocks, with sizes a and b, where u `try` blocks end after the first
abbrev pub two_start : ℕ → ℕ → ℕ → Successor → Position
two_start u a b On = to (1 + a + b) 0
two_start u a b First = into 1 a (to (1 + a + b) u)
two_start u a b Second = into (1 + a) b (to (1 + a + b) 0)

-- the position of a successor of a number in a statement of two blocks, where u `try` blocks end after the first
abbrev pub two_go : ℕ → Successors → Successors → Successor → ℕ → Position
two_go u a b c zero = two_start u a.size b.size c
two_go u a b c (suc n) =
    if nat_lt n a.size then inside 1 a.size (to (1 + a.size + b.size) u) (a.go c n)
    else shifted (1 + a.size) (b.go c (n - a.size))

-- the numbers and the successors of a statement of two blocks, where u `try` blocks end after the first
abbrev pub two : ℕ → Successors → Successors → Successors
two u a b = record { size = 1 + a.size + b.size; go = two_go u a b }

-- the position of a successor of a loop's test, where the body has size a and leads back to the test
abbrev pub loop_start : ℕ → Successor → Position
loop_start a On = to (1 + a) 0
loop_start a First = into 1 a (to 0 0)
loop_start a Second = to (1 + a) 0

-- the position of a successor of a number in a loop with body a
abbrev pub loop_go : Successors → Successor → ℕ → Position
loop_go a c zero = loop_start a.size c
loop_go a c (suc n) = inside 1 a.size (to 0 0) (a.go c n)

-- the numbers and the successors of a loop with body a
abbrev pub loop_successors : Successors → Successors
loop_successors a = record { size = 1 + a.size; go = loop_go a }

-- the numbers and the successors of a statement, from those of the statements in it
abbrev pub what_successors : UWhat-F Successors Successors → Successors
what_successors (UWhat-F.If e a b) = two 0 (block a) (block b)
what_successors (UWhat-F.While e a) = loop_successors (block a)
what_successors (UWhat-F.For first e step body) = in_sequence (block first) (loop_successors (in_sequence (block body) (block step)))
what_successors (UWhat-F.Block a) = block a
what_successors (UWhat-F.Try a x y b) = two 1 (block a) (block b)
what_successors _ = one_successor

-- the numbers and the successors of a statement; `successors_all` has those of statements in order
abbrev pub successors : UStmt → Successors
successors = fold-UStmt Successors Successors what_successors (λ s. s.what)

abbrev pub successors_all : List UStmt → Successors
successors_all ss = block (map successors ss)

-- how many numbers a statement takes; `size_all` is the same of statements in order
abbrev pub size_of : UStmt → ℕ
size_of s = (successors s).size

abbrev pub size_all : List UStmt → ℕ
size_all ss = (successors_all ss).size

-- the position of a successor of a number among statements in order
abbrev pub go_all : List UStmt → Successor → ℕ → Position
go_all ss = (successors_all ss).go
