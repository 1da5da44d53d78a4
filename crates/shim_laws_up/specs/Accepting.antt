-- What it is that a program is accepted in version 2.
use Rattle.std.specs.Prelude.{◌≡◌, ℕ, List, Ok}
use Rattle.shim_syntax.specs.Occurrences.{identifiers}
use Rattle.shim_syntax.specs.Text.{IsText}
use Rattle.shim_up.specs.Up.{IsLeastNew, fresh_name, replaced}
use Rattle.shim_syntax.specs.declared.tree.Program.{Program}
use Rattle.shim_scopes.specs.declared.form.Form.{Form as Resolved}
use Rattle.shim_scopes.specs.Functions.{bind_program}
use Rattle.shim_units.specs.Rule.{Obeys}
use Rattle.shim_units.specs.Units.{lifted}
use Rattle.shim_laws_up.specs.Around.{form_renamed}
use Rattle.shim_laws_up.specs.Titles.{AreAlike}

-- The second program has a text and version 2, is bound, and obeys the sharing rule. Its form is this one with the new word replaced in the list of names. The least new name of the first program replaces it. Lifted, the two forms differ in that entry and in the titles of units alone.
pub record IsAcceptedInVersion2 (p q : Program) (form : Resolved) : Type 0 where
  pub bytes : List ℕ
  pub text : IsText bytes q
  pub version : q.version ≡ 2
  pub number : ℕ
  pub least : IsLeastNew (identifiers p.functions) number
  pub bound : bind_program q ≡ Ok (form_renamed (replaced (fresh_name number)) form)
  pub obeys : Obeys (form_renamed (replaced (fresh_name number)) form)
  pub alike : AreAlike (replaced (fresh_name number)) (lifted form) (lifted (form_renamed (replaced (fresh_name number)) form))
