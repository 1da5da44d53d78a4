-- What holds of each tree that a run of an accepted program reaches.
use Rattle.std.proofs.Common.{◌≡◌, ◌∙◌, ◌≤◌, inl, inr, ℕ, suc, ◌+◌, List, [], ◌∷◌, length, false, refl, sym, ap, arith}
use Rattle.std.proofs.lemmas.Bool.{true≢false}
use Rattle.shim_semantics.specs.Nodes.{Node, Live, state}
use Rattle.shim_semantics.specs.Places.{at, SoundBelow}
use Rattle.shim_semantics.specs.Sound.{IsSound}
use Rattle.shim_semantics.specs.Trees.{Tree, start}
use Rattle.shim_semantics.proofs.SoundEvents.{events_keep_sound, runs_stay_sound}
use Rattle.shim_semantics.proofs.Replaced.{sound_at}
use Rattle.shim_process.specs.Ops.{process_ops}
use Rattle.shim_process.proofs.AllLaws.{process_laws}
use Rattle.shim_process.proofs.PlaceRoot.{root_sound, root_shares_nothing}
use Rattle.shim_units.specs.declared.form.Form.{Form}
use Rattle.shim_units.specs.declared.unit.Unit.{Unit as UnitOf}
use Rattle.shim_units.specs.OfText.{IsAcceptedForm}
use Rattle.shim_units.specs.declared.unit.UWhat.{UWhat-F}
use Rattle.shim_process.specs.Arguments.{numbers_from, empties}
use Rattle.shim_process.specs.Locations.{Locations}
use Rattle.shim_process.specs.Forks.{root, labels_from}
use Rattle.shim_process.specs.LocalState.{LocalState, unit_at}
use Rattle.shim_process.proofs.PlaceStops.{throw_below}
use Rattle.shim_laws_sources.specs.Sources.{IsReachable}
use Rattle.shim_laws_sources.proofs.Along.{Relates}
use Rattle.shim_laws_sources.proofs.AlongEvents.{run_related}
use Rattle.shim_process.proofs.CallSlots.{own_slot, from_number}
use Rattle.shim_laws_sources.proofs.Units.{units_use_slots_of_their_own}
use Rattle.shim_laws_stops.specs.FrameLabels.{AreLabels, HasLabels}
use Rattle.shim_laws_stops.specs.FrameLocations.{HasLocations}
use Rattle.shim_laws_stops.specs.Named.{IsLiveIn, NextsHaveLocations, VariablesHaveLocations, ForksHaveBranches, ArgumentsHaveLocations}
use Rattle.shim_laws_stops.specs.Ends.{EndsHaveNothingLeft}
use Rattle.shim_laws_stops.specs.SettledFrames.{IsSettled}
use Rattle.shim_laws_stops.specs.Streams.{PutsHaveOutput, GetsHaveInput}
use Rattle.shim_laws_stops.specs.StreamHolders.{Stream, TheInput, TheOutput, HoldsStream}
use Rattle.shim_laws_stops.specs.Thrown.{ThrownHavePlaces}
use Rattle.shim_laws_stops.proofs.EndsAre.{end_has_nothing_left, put_holds, get_holds}
use Rattle.shim_laws_stops.proofs.StreamForks.{begun_held, KeepsStream, stream_relates, live_holds}
use Rattle.shim_laws_stops.proofs.StreamUnits.{main_one}
use Rattle.shim_laws_stops.proofs.Settled.{begins_settled, KeepsSettled, settled_relates, live_settled}
use Rattle.shim_laws_stops.proofs.KnownLabels.{PassesOn}
use Rattle.shim_laws_stops.proofs.LocationForks.{KeepsLocations, locations_relate, live_has}
use Rattle.shim_laws_stops.proofs.MainStreams.{main_streams, no_number}
use Rattle.shim_laws_stops.proofs.NamedHave.{stands_right, next_has, variables_there, at_call, at_fork, some_branch}
use Rattle.shim_laws_stops.proofs.ScopeEntries.{empties_many, numbers_many, entered_scoped}
use Rattle.shim_laws_stops.proofs.ScopeUnits.{all_in_scope}
use Rattle.shim_laws_stops.proofs.LabelSteps.{entered_labels}
use Rattle.shim_laws_stops.proofs.LabelForks.{KeepsLabels, labels_relate, live_has_labels}
use Rattle.shim_laws_stops.proofs.ThrowUnits.{all_in_force, main_given}
use Rattle.shim_laws_stops.proofs.ThrownPlaces.{thrown_least, on_way}

-- the tree of one process that begins a program is sound
start_sound : (program : Form) (input : List ℕ) → IsAcceptedForm program → IsSound process_ops (Live (root program input))
start_sound program input kept = (events_keep_sound process_ops process_laws).starts (root program input) (root_sound program input (units_use_slots_of_their_own program kept)) (λ c e. absurd (true≢false (sym e ∙ root_shares_nothing program input c)))

-- what is related along each run is related to that tree
pub reached_related : (R : Node LocalState → Node LocalState → Type 0) → Relates process_ops R → (program : Form) (input : List ℕ) (t : Tree LocalState) → IsAcceptedForm program → IsReachable program input t → R (Live (root program input)) t.root
reached_related R g program input t kept h = run_related process_ops R process_laws g h.0 (start (root program input)) t (start_sound program input kept) h.1

pub reached_sound : (program : Form) (input : List ℕ) (t : Tree LocalState) → IsAcceptedForm program → IsReachable program input t → IsSound process_ops t.root
reached_sound program input t kept h = runs_stay_sound process_ops process_laws (start (root program input)) t h.0 (start_sound program input kept) h.1

-- exceptions

labels_many : (n : ℕ) (names : List ℕ) → length (labels_from n names) ≡ length names
labels_many n [] = refl
labels_many n (x ∷ names) = ap suc (labels_many (n + 1) names)

labels_least : (n : ℕ) (names : List ℕ) → 1 ≤ n → AreLabels (labels_from n names)
labels_least n [] h = tt
labels_least n (x ∷ names) h = (h, labels_least (n + 1) names (omega (arith, h)))

root_labels : (program : Form) (input : List ℕ) → IsAcceptedForm program → HasLabels (root program input)
unfolding root
root_labels program input kept =
    let l : LocalState = root program input in
    let u : UnitOf = unit_at program program.main in
    let passes : PassesOn program program.main (labels_from 1 program.main_throws) = record {
      many = labels_many 1 program.main_throws ∙ main_given program kept;
      labels = labels_least 1 program.main_throws (omega arith);
    } in
    record {
      units = all_in_force program kept;
      frames = (entered_labels l program.main (numbers_from 0 u.slots) (labels_from 1 program.main_throws) 0 0 (all_in_force program kept) passes, refl);
    }

root_base : (program : Form) (input : List ℕ) → (root program input).base ≡ 1 + length program.main_throws
unfolding root
root_base program input = refl

pub thrown_have_places : (program : Form) (input : List ℕ) (t : Tree LocalState) → IsAcceptedForm program → IsReachable program input t → ThrownHavePlaces program t
thrown_have_places program input t kept h q l label there stop_is =
    let w = reached_related KeepsLabels labels_relate program input t kept h (root_labels program input kept) in
    let below : SoundBelow process_ops t.root = (reached_sound program input t kept h).below in
    let sound = sound_at process_ops q t.root (Live l) below there in
    let least : 1 ≤ label = thrown_least l label sound (live_has_labels q t.root l w.0 there) stop_is in
    elim (on_way q t.root l label w.0 below there (throw_below l label sound stop_is)) [
      | inl p ↦ inl (record { front = p.front; rest = p.rest; whole = p.whole; process = p.process; at_front = p.at_front; place = p.place })
      | inr low ↦
          let base : (state t.root).base ≡ 1 + length program.main_throws = w.1.0 ∙ root_base program input in
          inr (least, omega (arith, low, base))
    ]

-- locations

root_locations : (program : Form) (input : List ℕ) → IsAcceptedForm program → HasLocations (root program input)
unfolding root
root_locations program input kept =
    let u : UnitOf = unit_at program program.main in
    let ys : Locations = empties (unit_at program program.main).slots in
    record {
      own = units_use_slots_of_their_own program kept;
      units = all_in_scope program kept;
      frames = entered_scoped program program.main ys (numbers_from 0 u.slots) (labels_from 1 program.main_throws) 0 0 (units_use_slots_of_their_own program kept) (all_in_scope program kept) (numbers_many 0 u.slots)
          (λ i p e number. absurd (no_number u.params false false i p (main_streams program kept) e number))
          (λ x own.
          let w = own_slot u x own in
          let low = w.1 in
          let e = from_number 0 u.slots x w.1 in
          let long : length ys ≡ length u.slots = empties_many u.slots in
          (omega arith, omega (arith, low, e, long)));
    }

-- each live process has the locations of what it names
live_locations : (program : Form) (input : List ℕ) (t : Tree LocalState) → IsAcceptedForm program → IsReachable program input t → (l : LocalState) → IsLiveIn t l → HasLocations l
live_locations program input t kept h l live = live_has live.0 t.root l (reached_related KeepsLocations locations_relate program input t kept h (root_locations program input kept)) live.1

pub nexts_have_locations : (program : Form) (input : List ℕ) (t : Tree LocalState) → IsAcceptedForm program → IsReachable program input t → NextsHaveLocations t
nexts_have_locations program input t kept h l w x live at is = next_has l x is (stands_right l w (live_locations program input t kept h l live) at)

pub variables_have_locations : (program : Form) (input : List ℕ) (t : Tree LocalState) → IsAcceptedForm program → IsReachable program input t → VariablesHaveLocations t
variables_have_locations program input t kept h l w x live at named = variables_there l w x (stands_right l w (live_locations program input t kept h l live) at) named

pub forks_have_branches : (program : Form) (input : List ℕ) (t : Tree LocalState) → IsAcceptedForm program → IsReachable program input t → ForksHaveBranches t
forks_have_branches program input t kept h l bs live at none = some_branch l bs (stands_right l (UWhat-F.Par bs) (live_locations program input t kept h l live) at) none

pub arguments_have_locations : (program : Form) (input : List ℕ) (t : Tree LocalState) → IsAcceptedForm program → IsReachable program input t → ArgumentsHaveLocations t
arguments_have_locations program input t kept h = record {
  forks = λ l bs live at. at_fork l bs (stands_right l (UWhat-F.Par bs) (live_locations program input t kept h l live) at);
  calls = λ l c live at. at_call l c (stands_right l (UWhat-F.Call c) (live_locations program input t kept h l live) at);
}

-- the streams

root_stream : (stream : Stream) (program : Form) (input : List ℕ) → IsAcceptedForm program → HoldsStream stream (root program input)
unfolding root
root_stream stream program input kept = record {
  named = root_locations program input kept;
  taking = main_one stream program (all_in_scope program kept) (main_streams program kept);
  holds = λ t. begun_held stream (unit_at program program.main).params t;
}

-- each live process has it where it should
live_stream : (stream : Stream) (program : Form) (input : List ℕ) (t : Tree LocalState) → IsAcceptedForm program → IsReachable program input t → (l : LocalState) → IsLiveIn t l → HoldsStream stream l
live_stream stream program input t kept h l live = live_holds stream live.0 t.root l (reached_related (KeepsStream stream) (stream_relates stream) program input t kept h (root_stream stream program input kept)).0 live.1

pub puts_have_output : (program : Form) (input : List ℕ) (t : Tree LocalState) → IsAcceptedForm program → IsReachable program input t → PutsHaveOutput t
puts_have_output program input t kept h l o e live at = put_holds l o e (live_stream TheOutput program input t kept h l live) at

pub gets_have_input : (program : Form) (input : List ℕ) (t : Tree LocalState) → IsAcceptedForm program → IsReachable program input t → GetsHaveInput t
gets_have_input program input t kept h l x i live at = get_holds l x i (live_stream TheInput program input t kept h l live) at

-- ends

root_settled : (program : Form) (input : List ℕ) → IsSettled (root program input)
unfolding root
root_settled program input = begins_settled (root program input) (unit_at program program.main).body refl refl

pub ends_have_nothing_left : (program : Form) (input : List ℕ) (t : Tree LocalState) → IsAcceptedForm program → IsReachable program input t → EndsHaveNothingLeft t
ends_have_nothing_left program input t kept h l live stop_is =
    end_has_nothing_left l (live_stream TheOutput program input t kept h l live) (live_settled live.0 t.root l (reached_related KeepsSettled settled_relates program input t kept h (root_settled program input)) live.1) stop_is
