use Rattle.std.proofs.Common.{◌∙◌, ◌++◌, ap, sym, subst, length}
use Rattle.std.specs.Arc.{arc_value}
use Rattle.shim_process.specs.Locations.{Locations}
use Rattle.shim_process.specs.Arguments.{call_locations, call_slots, empties}
use Rattle.shim_locations.specs.Given.{arguments_of}
use Rattle.shim_walk_frames.specs.Cursors.{IsCursor, HasOwnCursor}
use Rattle.shim_walk.proofs.Entering.{entry_top}
use Rattle.shim_walk.proofs.entry.make_entry.Goals as goal

pub returns : goal.returns
returns c =
    let units = c.args.units.now in
    let given = arguments_of c.args.given.now in
    let n = length c.args.locations.now in
    let d = c.declared_of-declared.ensures in
    let passed = c.in_ok-passed.ensures in
    record {
      top = entry_top units c.args.unit n c.args.outer _ _ c.args.labels _ _ c.enter.result c.enter.ensures (c.in_ok-slots.ensures ∙ ap (call_slots n given) d) c.into_vec-labels.ensures;
      cursor = subst (HasOwnCursor units) (sym c.enter.ensures) (subst (λ b. IsCursor b c.cursor_of-cursor.result 0) c.text_of.ensures c.cursor_of-cursor.ensures);
      locations_are = c.in_ok-all.ensures ∙ ap (λ (x : Locations). x ++ empties c.declared_of-declared.result.now) passed.0 ∙ ap (λ x. call_locations (arc_value c.args.home.now) c.args.locations.now c.args.made given ++ empties x) d;
      made_is = passed.1;
    }
