-- What the functions for statements read, within the limits.
use Rattle.std.specs.Prelude.{ℕ, ◌≡◌, List, [], ◌∷◌, true, Result, Ok, Err}
use Rattle.shim_base.specs.declared.token.Keyword.{Keyword}
use Rattle.shim_base.specs.declared.token.Keyword.TheVariants as k
use Rattle.shim_base.specs.declared.token.Sign.{Sign as SignOf}
use Rattle.shim_base.specs.declared.token.Sign.TheVariants.{LeftBrace, Equal}
use Rattle.shim_base.specs.Tokens.{Place}
use Rattle.shim_syntax.specs.declared.limits.Many.TheVariants.{Branches}
use Rattle.shim_syntax.specs.declared.Stmt.{Stmt}
use Rattle.shim_syntax.specs.declared.What.{What}
use Rattle.shim_syntax.specs.declared.Branch.{Branch}
use Rattle.shim_parser.specs.declared.fault.ParseFault.{ParseFault}
use Rattle.shim_parser.specs.declared.fault.ParseFault.TheVariants.{NoMemory}
use Rattle.shim_syntax.specs.Terminals.{Terminal, Name, Key, Sign}
use Rattle.shim_syntax.specs.Limits.{Nesting, Count, limits, is_within}
use Rattle.shim_syntax.specs.Grammar.{TextCounts, at_level, IsStmt, IsPlain, IsBranches, IsBranch}

-- the terminal is that sign, at some place
abbrev pub IsSignAt : SignOf → Terminal → Type 0
IsSignAt sign t = (p : Place) × (t ≡ Sign sign p)

-- the terminal is that keyword, at some place
abbrev pub IsKeyAt : Keyword → Terminal → Type 0
IsKeyAt key t = (p : Place) × (t ≡ Key key p)

-- a statement that is a thing of the level l: the limit allows the level, and the level is counted
abbrev pub IsThing : ℕ → TextCounts → TextCounts → List Terminal → List Terminal → List Stmt → Type 0
IsThing l v w s r xs = (is_within Nesting l ≡ true) × IsStmt limits l (at_level l v) w s r xs

-- the one statement on that line
abbrev pub stmt_on_line : ℕ → What → List Stmt
stmt_on_line line what = record { line = line; what = what } ∷ []

-- what was read becomes that one statement, or there is no memory; a fault stays
abbrev pub Becomes : ℕ → Result What ParseFault → Result (List Stmt) ParseFault → Type 0
Becomes line (Ok what) (Ok xs) = xs ≡ stmt_on_line line what
Becomes line (Ok what) (Err e) = e ≡ NoMemory
Becomes line (Err e) result = result ≡ Err e

-- the rest of a statement after that keyword, whatever place the keyword has
abbrev pub IsKeyed : Keyword → ℕ → TextCounts → TextCounts → List Terminal → List Terminal → What → Type 0
IsKeyed key l v w s r what = (p : Place) → IsPlain limits l v w (Key key p ∷ s) r (stmt_on_line p.line what)

-- the rest of an assignment after the name x and `=`, whatever places these have
abbrev pub IsAssigned : List ℕ → ℕ → TextCounts → TextCounts → List Terminal → List Terminal → What → Type 0
IsAssigned x l v w s r what = (p q : Place) → IsPlain limits l v w (Name x p ∷ Sign Equal q ∷ s) r (stmt_on_line p.line what)

-- the rest of a statement after the name x, which stands on that line
abbrev pub IsNamed : List ℕ → ℕ → ℕ → TextCounts → TextCounts → List Terminal → List Terminal → What → Type 0
IsNamed x line l v w s r what = (at : ℕ) → IsPlain limits l v w (Name x (record { at = at; line = line }) ∷ s) r (stmt_on_line line what)

-- the rest of a block, or of a fork that begins with one, after the left brace, which stands on that line
abbrev pub IsBraced : ℕ → ℕ → TextCounts → TextCounts → List Terminal → List Terminal → What → Type 0
IsBraced line l v w s r what = (at : ℕ) → IsStmt limits l v w (Sign LeftBrace (record { at = at; line = line }) ∷ s) r (stmt_on_line line what)

-- the branches bs of a fork: the given branch b, and those from the first `par` on
abbrev pub IsAfterPar : Branch → ℕ → TextCounts → TextCounts → List Terminal → List Terminal → List Branch → Type 0
IsAfterPar b l v w s r bs = (p : Place) × (m : List Terminal) × (others : List Branch) × (s ≡ Key k.Par p ∷ m) × IsBranches limits l 1 v w m r others × (bs ≡ b ∷ others)

-- the branch of that number
abbrev pub IsNumberedBranch : ℕ → ℕ → TextCounts → TextCounts → List Terminal → List Terminal → Branch → Type 0
IsNumberedBranch n l v w s r b = (is_within (Count Branches) n ≡ true) × IsBranch limits l v w s r b
