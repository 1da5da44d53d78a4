-- What a statement sees of its process, as the code hands it on.
use Rattle.std.specs.Prelude.{ℕ, List, map}
use Rattle.shim_process.specs.StatementViews.{StatementView}
use Rattle.shim_walk_frames.specs.declared.handler.Handler.{Handler}
use Rattle.shim_walk.specs.declared.next_action.StatementContext.{StatementContext}

-- the exceptions of these places
abbrev pub exceptions_of : List Handler → List ℕ
exceptions_of places = map (λ p. p.exception) places

-- the view of a statement with the values that the code hands on
abbrev pub context_view : StatementContext → StatementView
context_view c = record {
  locations = c.locations.now;
  slots = c.slots.now;
  labels = c.labels.now;
  exceptions = exceptions_of c.places.now;
  first = c.first;
  units = c.units.now;
  unit = c.unit;
  halfway = c.halfway;
  full = c.full;
  deep = c.deep;
  holds_output = c.holds_output;
}
