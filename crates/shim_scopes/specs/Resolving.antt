-- What `Resolved` keeps: it is the form of a program that has a short text.
use Rattle.std.specs.Prelude.{◌≡◌, Ok}
use Rattle.shim_syntax.specs.declared.tree.Program.{Program}
use Rattle.shim_syntax.specs.ShortText.{HasText}
use Rattle.shim_scopes.specs.declared.form.Form.{Form}
use Rattle.shim_scopes.specs.Functions.{bind_program}

-- The form is that of a program with a text of at most 1,048,576 bytes.
pub record IsFormOfText (form : Form) : Type 0 where
  pub program : Program
  pub has : HasText program
  pub meant : bind_program program ≡ Ok form
