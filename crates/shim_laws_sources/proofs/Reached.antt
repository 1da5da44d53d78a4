-- What holds of each tree that a run of a program reaches.
use Rattle.std.proofs.Common.{◌≡◌, ◌∙◌, ℕ, List, [], ◌∷◌, refl, sym}
use Rattle.std.proofs.lemmas.Bool.{true≢false}
use Rattle.shim_local.specs.Laws.{how_many}
use Rattle.shim_semantics.specs.Nodes.{Node, Live, state, everyone}
use Rattle.shim_semantics.specs.Sound.{IsSound}
use Rattle.shim_semantics.specs.Trees.{Tree, start}
use Rattle.shim_semantics.proofs.HowMany.{no_less_than, one_at_most}
use Rattle.shim_semantics.proofs.SoundEvents.{events_keep_sound, runs_stay_sound}
use Rattle.shim_process.specs.Ops.{process_ops}
use Rattle.shim_process.proofs.AllLaws.{process_laws}
use Rattle.shim_process.proofs.PlaceLocations.{at_empty}
use Rattle.shim_process.proofs.PlaceRoot.{root_fitting, root_sound, root_shares_nothing}
use Rattle.shim_units.specs.declared.form.Form.{Form}
use Rattle.shim_units.specs.declared.unit.Unit.{Unit as UnitOf}
use Rattle.shim_process.specs.Forks.{root}
use Rattle.shim_process.specs.LocalState.{LocalState, unit_at}
use Rattle.shim_units.specs.OfText.{IsAcceptedForm}
use Rattle.shim_process.specs.OwnSlots.{UsesOwnSlots}
use Rattle.shim_laws_sources.proofs.Units.{units_use_slots_of_their_own}
use Rattle.shim_laws_sources.specs.Sources.{IsReachable, holds_input, HasOneInput, HasSources}
use Rattle.shim_laws_sources.specs.Anchored.{IsAnchoredWhole, Stays}
use Rattle.shim_laws_sources.proofs.Along.{Relates}
use Rattle.shim_laws_sources.proofs.AlongEvents.{run_related}
use Rattle.shim_laws_sources.proofs.Carried.{all_carried, stands_on}
use Rattle.shim_laws_sources.proofs.Homes.{StaysHome, home_relates}
use Rattle.shim_laws_sources.proofs.Input.{NoMore, input_relates}

-- the tree of one process that begins a program is sound
start_sound : (program : Form) (input : List ℕ) → UsesOwnSlots program → IsSound process_ops (Live (root program input))
start_sound program input uses = (events_keep_sound process_ops process_laws).starts (root program input) (root_sound program input uses) (λ c e. absurd (true≢false (sym e ∙ root_shares_nothing program input c)))

-- what is related along each run is related to that tree
reached_related : (R : Node LocalState → Node LocalState → Type 0) → Relates process_ops R → (program : Form) (input : List ℕ) (t : Tree LocalState) → UsesOwnSlots program → IsReachable program input t → R (Live (root program input)) t.root
reached_related R g program input t uses h = run_related process_ops R process_laws g h.0 (start (root program input)) t (start_sound program input uses) h.1

reached_sound : (program : Form) (input : List ℕ) (t : Tree LocalState) → UsesOwnSlots program → IsReachable program input t → IsSound process_ops t.root
reached_sound program input t uses h = runs_stay_sound process_ops process_laws (start (root program input)) t h.0 (start_sound program input uses) h.1

pub one_input : (program : Form) (input : List ℕ) (t : Tree LocalState) → IsAcceptedForm program → IsReachable program input t → HasOneInput t
one_input program input t kept h =
    no_less_than 1 (how_many holds_input (root program input ∷ [])) (how_many holds_input (everyone t.root)) (reached_related NoMore input_relates program input t (units_use_slots_of_their_own program kept) h) (one_at_most holds_input (root program input))

-- the first process is whole
root_whole : (program : Form) (input : List ℕ) → UsesOwnSlots program → IsAnchoredWhole (root program input)
unfolding root
root_whole program input uses =
    let u : UnitOf = unit_at program program.main in (
      record {
        fitting = root_fitting program input uses;
        anchors = λ n x e ownership home. absurd (at_empty u.slots n x e);
      },
      λ n x e lent. at_empty u.slots n x e,
    )

root_given : (program : Form) (input : List ℕ) → (root program input).given ≡ []
unfolding root
root_given program input = refl

pub sources : (program : Form) (input : List ℕ) (t : Tree LocalState) → IsAcceptedForm program → IsReachable program input t → HasSources t
sources program input t kept h q l c there stop_is =
    let uses : UsesOwnSlots program = units_use_slots_of_their_own program kept in
    let w = reached_related StaysHome home_relates program input t uses h (root_whole program input uses) in
    let s : Stays (root program input) (state t.root) = w.1 in
    all_carried q t.root l c.channel w.0 (reached_sound program input t uses h).below (s.given ∙ root_given program input) there (stands_on l c stop_is)
