-- What stands around a place, with the names replaced, and answers whose refusals report the replaced names.
use Rattle.std.specs.Prelude.{◌≡◌, Result, Ok, Err, map}
use Rattle.shim_scopes.specs.declared.form.Form.{Form}
use Rattle.shim_scopes.specs.declared.scope.LocalDeclaration.{LocalDeclaration}
use Rattle.shim_scopes.specs.declared.scope.Handled.{Handled}
use Rattle.shim_scopes.specs.Refusals.{Refusal}
use Rattle.shim_scopes.specs.Statements.{Whole, Around, Before, BoundTo, Bind}
use Rattle.shim_up.specs.Renaming.{Renaming, renamed_functions}

module _ (f : Renaming) where
  -- a local declaration with its name replaced by f; `handled_renamed` to `refusal_renamed` do the same of their types
  abbrev pub local_renamed : LocalDeclaration → LocalDeclaration
  local_renamed l = record { name = f l.name; bound = l.bound }

  abbrev pub handled_renamed : Handled → Handled
  handled_renamed h = record { name = f h.name; number = h.number }

  abbrev pub whole_renamed : Whole → Whole
  whole_renamed w = record { functions = renamed_functions f w.functions; names = map f w.names }

  abbrev pub around_renamed : Around → Around
  around_renamed a = record { outer = map local_renamed a.outer; handled = map handled_renamed a.handled; throws = a.throws }

  abbrev pub before_renamed : Before → Before
  before_renamed b = record { own = map local_renamed b.own; slots = b.slots; slot_names = b.slot_names; tries = b.tries }

  abbrev pub bound_renamed : {T : Type 0} → BoundTo T → BoundTo T
  bound_renamed r = record { tree = r.tree; before = before_renamed r.before }

  abbrev pub refusal_renamed : Refusal → Refusal
  refusal_renamed r = record { line = r.line; kind = r.kind; name = f r.name }

  -- g of a value, or the refusal with its name replaced
  abbrev pub answer_renamed : {A B : Type 0} → (A → B) → Result A Refusal → Result B Refusal
  answer_renamed g (Ok a) = Ok (g a)
  answer_renamed g (Err r) = Err (refusal_renamed r)

  -- the second binds as the first, at each place, with the names replaced
  abbrev pub Follows : {T : Type 0} → Bind T → Bind T → Type 0
  Follows g h = (a : Around) (b : Before) → h (around_renamed a) (before_renamed b) ≡ answer_renamed bound_renamed (g a b)

  -- the form with its list of names replaced by f, and the rest as it was
  abbrev pub form_renamed : Form → Form
  form_renamed r = record { functions = r.functions; names = map f r.names; main = r.main }
