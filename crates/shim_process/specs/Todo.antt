-- What a process has still to do in a unit: statements one after another, and the ends of `try` blocks between them.
use Rattle.std.specs.Prelude.{ℕ, ◌+◌, List, [], ◌∷◌, ◌++◌, map, Option, Some, None}
use Rattle.shim_units.specs.declared.unit.UStmt.{UStmt, para-UStmt}
use Rattle.shim_units.specs.declared.unit.UWhat.{UWhat, UWhat-F, out-UWhat}
use Rattle.shim_units.specs.Numbering.{size_of, size_all}

-- A statement to be done, with its number in its unit, or the end of a `try` block. The number tells apart statements that look alike.
pub data Item : Type 0 where
  Do : ℕ → UStmt → Item
  Leave : Item

-- what is to be done for a statement, by its number
abbrev pub ItemsFrom : Type 0
ItemsFrom = ℕ → List Item

-- what is to be done for statements in order, of which the first has the number, from what is to be done for each
abbrev pub items_of : List (UStmt × ItemsFrom) → ItemsFrom
items_of [] n = []
items_of (s ∷ ss) n = s.1 n ++ items_of ss (n + size_of s.0)

-- how many numbers the statements take
abbrev pub whole_size : List (UStmt × ItemsFrom) → ℕ
whole_size ss = size_all (map (λ s. s.0) ss)

-- The items of a statement s of number n. The items of a block are those of its statements. The items of a `for` are those of its first part, and then the loop. Any other statement is one item.
abbrev pub what_items : UWhat-F (UWhat × (UStmt → ItemsFrom)) (UStmt × ItemsFrom) → UStmt → ItemsFrom
what_items (UWhat-F.Block body) s n = items_of body n
what_items (UWhat-F.For first test step body) s n = items_of first n ++ Do (n + whole_size first) s ∷ []
what_items _ s n = Do n s ∷ []

-- the items of a statement, from its number: `what_items` over the items of its parts
abbrev pub items : UStmt → ItemsFrom
items = para-UStmt (UStmt → ItemsFrom) ItemsFrom what_items (λ s. s.what.1 (record { line = s.line; what = s.what.0 }))

-- what is to be done for statements in order
abbrev pub items_all : List UStmt → ItemsFrom
items_all ss = items_of (map (λ s. (s, items s)) ss)

-- the statement that is next
abbrev pub next_stmt : List Item → Option UStmt
next_stmt (Do n s ∷ k) = Some s
next_stmt _ = None

-- where a process goes from a statement: after it, or into its first or its second block
pub data Successor : Type 0 where
  On : Successor
  First : Successor
  Second : Successor

-- What is to be done after the process goes from statement s, which has number n, to this successor; k is what follows s. The body of a `while` is followed by the loop, that of a `for` by the step and then the loop, and the block of a `try` by its end.
abbrev pub follow_what : UWhat-F UWhat UStmt → Successor → ℕ → UStmt → List Item → List Item
follow_what (UWhat-F.If e first second) First n s k = items_all first (n + 1) ++ k
follow_what (UWhat-F.If e first second) Second n s k = items_all second (n + 1 + size_all first) ++ k
follow_what (UWhat-F.While e body) First n s k = items_all body (n + 1) ++ Do n s ∷ k
follow_what (UWhat-F.For first test step body) First n s k = items_all body (n + 1) ++ (items_all step (n + 1 + size_all body) ++ Do n s ∷ k)
follow_what (UWhat-F.Try body x y handler) First n s k = items_all body (n + 1) ++ Leave ∷ k
follow_what (UWhat-F.Try body x y handler) Second n s k = items_all handler (n + 1 + size_all body) ++ k
follow_what _ successor n s k = k

-- what is to be done at the successor of statement s, whose number is n, where k is to be done after s
abbrev pub follow : Successor → ℕ → UStmt → List Item → List Item
follow successor n s k = follow_what (out-UWhat s.what) successor n s k

-- What is to be done at the successor of the statement that is next. Where no statement is next, the items stay as they are.
abbrev pub followed : Successor → List Item → List Item
followed successor [] = []
followed successor (Leave ∷ k) = Leave ∷ k
followed successor (Do n s ∷ k) = follow successor n s k
