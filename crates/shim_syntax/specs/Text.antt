-- The text of a program, and why a text is none.
use Rattle.std.specs.Prelude.{ℕ, ◌≡◌, List, [], ◌∷◌, ◌++◌}
use Rattle.shim_base.specs.declared.token.LexKind.{LexKind}
use Rattle.shim_base.specs.Tokens.{Place}
use Rattle.shim_syntax.specs.declared.limits.Many.{Many}
use Rattle.shim_syntax.specs.declared.tree.Program.{Program}
use Rattle.shim_syntax.specs.Terminals.{Terminal, Broken, IsRead, terminal_place}
use Rattle.shim_syntax.specs.Limits.{Limits, limits, no_limits, nesting_alone, nesting_and, until}
use Rattle.shim_syntax.specs.Grammar.{Derives}

-- the bytes are the text of the program
pub record IsText (bytes : List ℕ) (program : Program) : Type 0 where
  pub terminals : List Terminal
  pub read : IsRead bytes terminals
  pub derives : Derives limits terminals program

-- These terminals, continued by some others, derive a program, in which nothing that begins in these passes a limit. The others may continue a text of either version: the first three terminals decide which it is, and none of these is a name that version 2 sees otherwise.
abbrev pub BeginsProgram : Limits → List Terminal → Type 0
BeginsProgram c ts = (more : List Terminal) × (program : Program) × Derives (until more c) (ts ++ more) program

-- why a terminal can't follow those before it
pub data FaultCause : Type 0 where
  -- the text can't be cut there
  Lexical : LexKind → FaultCause
  Unexpected : FaultCause
  -- a limit is passed: that on nesting, or that on a count
  TooDeep : FaultCause
  TooMany : Many → FaultCause

-- Why x can't follow these terminals. The causes exclude each other: the text can't be cut there; it can, and they begin no program; they begin one, but none within the limit on nesting; they begin one within it, but none within the limit on that count, too.
abbrev pub HasCause : FaultCause → List Terminal → Terminal → Type 0
HasCause (Lexical kind) before x = x ≡ Broken kind (terminal_place x)
HasCause Unexpected before x = ((kind : LexKind) (p : Place) → x ≡ Broken kind p → ⊥) × (BeginsProgram no_limits (before ++ x ∷ []) → ⊥)
HasCause TooDeep before x = BeginsProgram no_limits (before ++ x ∷ []) × (BeginsProgram nesting_alone (before ++ x ∷ []) → ⊥)
HasCause (TooMany what) before x = BeginsProgram nesting_alone (before ++ x ∷ []) × (BeginsProgram (nesting_and what) (before ++ x ∷ []) → ⊥)

-- Of these terminals, the first one with which they begin no program within the limits stands at this place, for this cause.
pub record IsFaultAt (fault : FaultCause) (place : Place) (ts : List Terminal) : Type 0 where
  pub before : List Terminal
  pub at : Terminal
  pub behind : List Terminal
  pub whole : ts ≡ before ++ at ∷ behind
  pub place_is : place ≡ terminal_place at
  pub begins : BeginsProgram limits before
  pub cause : HasCause fault before at

-- the bytes are the text of no program, since this fault stands at this place
abbrev pub HasFault : List ℕ → FaultCause → Place → Type 0
HasFault bytes fault place = (ts : List Terminal) × IsRead bytes ts × IsFaultAt fault place ts
