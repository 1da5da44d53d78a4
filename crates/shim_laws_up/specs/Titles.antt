-- Units that differ in their titles alone.
use Rattle.std.specs.Prelude.{◌≡◌, [], map}
use Rattle.shim_units.specs.declared.form.Form.{Form}
use Rattle.shim_units.specs.declared.unit.Unit.{Unit as UnitOf}
use Rattle.shim_up.specs.Renaming.{Renaming}

-- the unit with no title
abbrev pub untitled : UnitOf → UnitOf
untitled u = record u { title = [] }

-- The two forms have the same units but for titles, the same `main`, and the same exceptions that `main` throws. The names of the second are those of the first, replaced.
pub record AreAlike (f : Renaming) (old new : Form) : Type 0 where
  pub units : map untitled new.units ≡ map untitled old.units
  pub names : new.names ≡ map f old.names
  pub main : new.main ≡ old.main
  pub main_throws : new.main_throws ≡ old.main_throws
