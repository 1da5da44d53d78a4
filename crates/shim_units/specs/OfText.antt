-- The units of a program that has a text and obeys the sharing rule, and what an accepted program keeps of them.
use Rattle.std.specs.Prelude.{◌≡◌, ◌<◌, ◌^◌, ℕ, List, Option, Some, None, Ok, length}
use Rattle.shim_syntax.specs.declared.tree.Program.{Program}
use Rattle.shim_syntax.specs.Text.{IsText}
use Rattle.shim_scopes.specs.Functions.{bind_program}
use Rattle.shim_scopes.specs.declared.form.Form.{Form as Resolved}
use Rattle.shim_scopes.specs.Resolving.{IsFormOfText}
use Rattle.shim_units.specs.declared.form.Form.{Form}
use Rattle.shim_units.specs.Rule.{Obeys}
use Rattle.shim_units.specs.Sizes.{AreFit}
use Rattle.shim_units.specs.Units.{lifted}

-- the units of a program that has a text of at most 1 MiB, that is bound and obeys the sharing rule
pub record IsUnitsOfText (form : Form) : Type 0 where
  pub resolved : Resolved
  pub of_text : ∥ IsFormOfText resolved ∥₁
  pub obeys : Obeys resolved
  pub meant : lifted resolved ≡ form

-- What an accepted program keeps of its form. The units are those of a text, as above. The numbers of the statements of each unit fit a signed number of 32 bits. `main` throws fewer than 2^21 exceptions.
pub record IsAcceptedForm (form : Form) : Type 0 where
  pub of_text : ∥ IsUnitsOfText form ∥₁
  pub fit : AreFit form.units
  pub few : length form.main_throws < 2 ^ 21

-- what is read from these bytes: they are the text of one program alone, it is bound, and these are its units
pub record IsUnitsOfBytes (bytes : List ℕ) (form : Form) : Type 0 where
  pub program : Program
  pub text : IsText bytes program
  pub only : (other : Program) → IsText bytes other → other ≡ program
  pub resolved : Resolved
  pub bound : bind_program program ≡ Ok resolved
  pub meant : lifted resolved ≡ form

-- if a text of the program is kept, the units are what is read from it
abbrev pub FitsKeptText : Option (List ℕ) → Form → Type 0
FitsKeptText None form = Unit {0}
FitsKeptText (Some bytes) form = ∥ IsUnitsOfBytes bytes form ∥₁
