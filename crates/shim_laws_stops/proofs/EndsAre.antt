-- A process that is settled, that has the output for each `put`, and the locations of what it names, stands at its end only where nothing is left to do.
use Rattle.std.proofs.Common.{◌≡◌, ℕ, Bool, true, false, cond, List, [], ◌∷◌, Option, Some, None, refl, ap}
use Rattle.std.specs.Prelude.{slice_get}
use Rattle.shim_local.specs.Process.{StopView, AtQuiet, AtFinish}
use Rattle.shim_scopes.specs.declared.tree.UExpr.{UExpr}
use Rattle.shim_units.specs.declared.unit.Unit.{Unit as UnitOf}
use Rattle.shim_units.specs.declared.unit.UBranch.{UBranch}
use Rattle.shim_units.specs.declared.unit.UStmt.{UStmt}
use Rattle.shim_units.specs.declared.unit.UWhat.{UWhat, UWhat-F, out-UWhat}
use Rattle.shim_units.specs.Lifting.{is_among}
use Rattle.shim_process.specs.Locations.{Location}
use Rattle.shim_process.specs.LocalState.{LocalState, TrappedAt, unit_at, location_of}
use Rattle.shim_process.specs.StatementViews.{statement_view}
use Rattle.shim_process.specs.Stops.{at_next, at_put, at_fork, what_stop, stmt_stop, stop_or, stop}
use Rattle.shim_process.specs.Todo.{Item, Do, Leave, next_stmt}
use Rattle.shim_base.proofs.Facts.{first_holds, second_holds}
use Rattle.shim_laws_stops.specs.InScope.{is_input_at, is_output_at, has_number, has_input, has_output, reads_right}
use Rattle.shim_laws_stops.specs.Named.{IsThere}
use Rattle.shim_laws_stops.specs.Named.{IsAtStmt, next, next_assign, assign_next}
use Rattle.shim_laws_stops.specs.StreamHolders.{Stream, TheInput, TheOutput, is_at, is_there, has_stream, waiting_units, HoldsStream}
use Rattle.shim_laws_stops.specs.Ends.{HasNothingLeft}
use Rattle.shim_laws_stops.specs.SettledFrames.{StartsRight, IsSettled}
use Rattle.shim_laws_stops.proofs.NamedHave.{location_there, stands_right, next_has, some_branch}
use Rattle.shim_laws_stops.proofs.StreamSteps.{takes_first}
use Rattle.shim_laws_stops.proofs.StreamUnits.{slot_takes}

-- who stands at a statement that names a stream has it

stream_here : (stream : Stream) (l : LocalState) (x : ℕ) → HoldsStream stream l → is_at stream (slice_get (unit_at l.program l.frame.unit).slots x) ≡ true → has_stream stream l ≡ true
stream_here stream l x h is = h.holds (takes_first stream l.program l.frame.unit (waiting_units l) h.taking (slot_takes stream l.program l.frame.unit x h.named.units is))

pub put_holds : (l : LocalState) (o : ℕ) (e : UExpr) → HoldsStream TheOutput l → IsAtStmt l (UWhat-F.Put o e) → l.holds_output ≡ true
put_holds l o e h at =
    let u : UnitOf = unit_at l.program l.frame.unit in
    let r = stands_right l (UWhat-F.Put o e) h.named at in
    let w = first_holds (has_output (unit_at l.program l.frame.unit) r.slots o) (reads_right (unit_at l.program l.frame.unit) r.slots e) r.right in
    stream_here TheOutput l o h (second_holds (is_among r.slots o) (is_output_at (slice_get u.slots o)) w)

its_place : (o : Option ℕ) → is_there o ≡ true → (n : ℕ) × (o ≡ Some n)
its_place None h = absurd (cc h)
its_place (Some n) h = (n, refl)

pub get_holds : (l : LocalState) (x i : ℕ) → HoldsStream TheInput l → IsAtStmt l (UWhat-F.Get x i) → (n : ℕ) × (l.input_at ≡ Some n)
get_holds l x i h at =
    let u : UnitOf = unit_at l.program l.frame.unit in
    let r = stands_right l (UWhat-F.Get x i) h.named at in
    let w = second_holds (has_number (unit_at l.program l.frame.unit) r.slots x) (has_input (unit_at l.program l.frame.unit) r.slots i) r.right in
    its_place l.input_at (stream_here TheInput l i h (second_holds (is_among r.slots i) (is_input_at (slice_get u.slots i)) w))

-- what the definition gives the stop of an end

there_no_end : (o : Option Location) → IsThere o → at_next o ≡ AtFinish → ⊥
there_no_end None h e = cc h.1
there_no_end (Some x) h e = cc e

put_no_end : (b : Bool) → b ≡ true → at_put b ≡ AtFinish → ⊥
put_no_end true h e = cc e
put_no_end false h e = cc h

fork_no_end : (bs : List UBranch) → (bs ≡ [] → ⊥) → at_fork bs ≡ AtFinish → ⊥
fork_no_end [] h e = h refl
fork_no_end (b ∷ bs) h e = cc e

half_or_next : (b : Bool) (o : Option Location) → IsThere o → cond b AtQuiet (at_next o) ≡ AtFinish → ⊥
half_or_next true o h e = cc e
half_or_next false o h e = there_no_end o h e

next_or_half : (b : Bool) (o : Option Location) → IsThere o → cond b (at_next o) AtQuiet ≡ AtFinish → ⊥
next_or_half true o h e = there_no_end o h e
next_or_half false o h e = cc e

what_no_end : (l : LocalState) (w : UWhat-F UWhat UStmt) → HoldsStream TheOutput l → IsAtStmt l w → what_stop w (statement_view l) ≡ AtFinish → ⊥
what_no_end l (UWhat-F.Next x) h at e = there_no_end (location_of l.locations l.frame.slots x) (location_there l x (next_has l x next (stands_right l (UWhat-F.Next x) h.named at))) e
what_no_end l (UWhat-F.NextAssign x v) h at e = next_or_half l.frame.halfway (location_of l.locations l.frame.slots x) (location_there l x (next_has l x (next_assign v) (stands_right l (UWhat-F.NextAssign x v) h.named at))) e
what_no_end l (UWhat-F.AssignNext y x) h at e = half_or_next l.frame.halfway (location_of l.locations l.frame.slots x) (location_there l x (next_has l x (assign_next y) (stands_right l (UWhat-F.AssignNext y x) h.named at))) e
what_no_end l (UWhat-F.Put o v) h at e = put_no_end l.holds_output (put_holds l o v h at) e
what_no_end l (UWhat-F.Par bs) h at e = fork_no_end bs (some_branch l bs (stands_right l (UWhat-F.Par bs) h.named at)) e
what_no_end l (UWhat-F.Throw x v) h at e = cc e
what_no_end l _ h at e = cc e

items_end : (l : LocalState) (todo : List Item) → l.frame.todo ≡ todo → HoldsStream TheOutput l → StartsRight todo → stmt_stop (next_stmt todo) (statement_view l) ≡ AtFinish → todo ≡ []
items_end l [] is h starts e = refl
items_end l (Leave ∷ k) is h starts e = absurd starts
items_end l (Do n s ∷ k) is h starts e = absurd (what_no_end l (out-UWhat s.what) h (s, ap next_stmt is, refl) e)

trap_end : (t : Option TrappedAt) (s : StopView) → stop_or t s ≡ AtFinish → s ≡ AtFinish
trap_end None s e = e
trap_end (Some t) s e = absurd (cc e)

pub end_has_nothing_left : (l : LocalState) → HoldsStream TheOutput l → IsSettled l → stop l ≡ AtFinish → HasNothingLeft l
unfolding stop
end_has_nothing_left l h settled e =
    let none : l.frame.todo ≡ [] = items_end l l.frame.todo refl h settled.starts.0 (trap_end l.trap (stmt_stop (next_stmt l.frame.todo) (statement_view l)) e) in
    (none, settled.left none)
