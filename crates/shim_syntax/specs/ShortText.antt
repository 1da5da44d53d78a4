-- A program with a text that is short enough to be read.
use Rattle.std.specs.Prelude.{◌≤◌, ℕ, List, length}
use Rattle.shim_syntax.specs.declared.tree.Program.{Program}
use Rattle.shim_syntax.specs.Text.{IsText}

-- the program has a text of at most 1 MiB
pub record HasText (program : Program) : Type 0 where
  pub bytes : List ℕ
  pub short : length bytes ≤ 1048576
  pub text : IsText bytes program
