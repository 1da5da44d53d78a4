-- Each quiet step keeps what a call keeps, by what its statement asks for.
use Rattle.std.proofs.Common.{◌≡◌, ◌∙◌, ℕ, ℤ, pos, ◌+◌, inl, inr, Bool, true, false, ◌||◌, List, ◌∷◌, ◌++◌, ◌<◌, ◌≤◌, length, Option, Some, None, Result, Ok, Err, cond, refl, sym, ap, subst, arith}
use Rattle.shim_base.specs.declared.types.Ty.{Ty}
use Rattle.shim_base.specs.declared.operators.Trap.{Trap}
use Rattle.shim_base.specs.declared.operators.Trap.TheVariants.{Depth}
use Rattle.shim_base.specs.Paths.{NamedChannel}
use Rattle.shim_base.specs.Operators.{is_zero}
use Rattle.shim_units.specs.declared.unit.Unit.{Unit as UnitOf}
use Rattle.shim_units.specs.declared.unit.UStmt.{UStmt}
use Rattle.shim_units.specs.declared.unit.UWhat.{UWhat, UWhat-F, out-UWhat}
use Rattle.shim_process.specs.Values.{value}
use Rattle.shim_process.specs.Locations.{Location, Locations, at_number}
use Rattle.shim_process.specs.Todo.{On, First, Second, next_stmt}
use Rattle.shim_process.specs.LocalState.{LocalState, Frame, unit_at, number_of, env_of, handlers, is_full, is_deep, trapped}
use Rattle.shim_process.specs.StatementViews.{statement_view, unit_in, passed_labels}
use Rattle.shim_process.specs.Arguments.{Argument, arguments, new_location, new_channels, call_locations, call_slots, declared_slots, empties, entered}
use Rattle.shim_process.specs.Ends.{settled, gone}
use Rattle.shim_process.specs.Sharers.{shares}
use Rattle.shim_process.specs.Steps.{Action, Go, Store, StoreFirst, Make, Read, Enter, Install, Trapped, Wait, action, limited, value_or, try_name, what_action, stmt_action, next_action, line_of, stored_in, made_in, next_byte, read_in, half, installed, variable_in, installing, pushed, called, done, quiet}
use Rattle.shim_process.specs.declared.serial_run.SerialRun.{SerialRun}
use Rattle.shim_process.specs.SerialRuns.{is_in_runs, with_serial}
use Rattle.shim_process.specs.Sound.{LabelsBelow, VariablesGrow, places_inward, Sound}
use Rattle.shim_process.proofs.PlaceLocations.{was_there, at_store, at_set, at_append, at_empty}
use Rattle.shim_process.proofs.CallLocations.{place_of, Passed, by_copy, by_value, at_passed}
use Rattle.shim_process.proofs.LabelFrames.{FramesHold, below_alike, sound_frames, settled_left, gone_left, half_left, trapped_left, none_left, passed_below}
use Rattle.shim_process.proofs.FittingEnds.{GoesFitting}
use Rattle.shim_process.proofs.FittingSteps.{action_fitting}
use Rattle.shim_process.proofs.QuietKeeps.{From, as_was, as_copy, as_new, Changed, Keeps, keeps}
use Rattle.shim_process.proofs.SerialRuns.{with_has, with_keeps, with_in}
use Rattle.shim_process.proofs.GrowingPlaces.{wider, other_runs, inward_more}
use Rattle.shim_base.proofs.Facts.{some_same, choose, false_unless}

-- nothing is new
pub unchanged : (l : LocalState) → Changed l l
unchanged l = record { path = refl; base = refl; given = refl; output = refl; made = omega arith; untaken = λ n e. inl e; place = λ s. 0; from = λ n x e. as_was (was_there l.locations n x e) }

pub store_changed : (l : LocalState) (x : ℕ) (v : ℤ) → Changed l (stored_in x v l)
store_changed l x v = record {
  path = refl;
  base = refl;
  given = refl;
  output = refl;
  made = omega arith;
  untaken = λ n e. inl e;
  place = λ s. 0;
  from = λ n y e. as_was (at_store l.locations (number_of l.frame.slots x) v n y e);
}

read_changed : (l : LocalState) (x : ℕ) → Changed l (read_in x l)
read_changed l x = record {
  path = refl;
  base = refl;
  given = refl;
  output = refl;
  made = omega arith;
  untaken = λ n e. inl e;
  place = λ s. 0;
  from = λ n y e. as_was (at_store l.locations (number_of l.frame.slots x) (next_byte l.input_at l.input) n y e);
}

-- a `try` with a variable makes a channel, which its handler has to take
arm_changed : (l : LocalState) (x name : ℕ) (y : Option ℕ) → Changed l (installing x name y l)
arm_changed l x name None =
    record { path = refl; base = refl; given = refl; output = refl; made = omega arith; untaken = λ n e. inl e; place = λ s. 0; from = λ n z e. as_was (was_there l.locations n z e) }
arm_changed l x name (Some y) = record {
  path = refl;
  base = refl;
  given = refl;
  output = refl;
  made = omega arith;
  untaken = λ n e. elim (with_in n l.made l.untaken e) [ inl same ↦ inr (omega (arith, same), omega (arith, same)) | inr there ↦ inl there ];
  place = λ s. 0;
  from = λ n z e. as_was (was_there l.locations n z e);
}

-- what is still to be made is none that no handler has taken
not_made : (l : LocalState) (n : ℕ) → Sound l → l.made ≤ n → is_in_runs n l.untaken ≡ false
not_made l n s least = false_unless (is_in_runs n l.untaken) (λ there. let below = s.made n there in omega (arith, below, least))

from_new : (l : LocalState) (at : ℕ) (t : Ty) (name : ℕ) (v : ℤ) (n : ℕ) (x : Location) → Sound l → n ≡ at → new_location l.path l.made name t v ≡ x → From l (l.made + 1) l.untaken (λ s. at) n x
from_new l at t name v n x s e same =
    let number : l.made ≡ x.channel.channel.serial = ap (λ (r : Location). r.channel.channel.serial) same in
    as_new (sym (ap (λ (r : Location). r.ownership) same)) (sym (ap (λ (r : Location). r.channel.channel.home) same)) (omega (arith, number)) (omega (arith, number))
    (not_made l x.channel.channel.serial s (omega (arith, number))) e

make_changed : (l : LocalState) (t : Ty) (x : ℕ) (v : ℤ) → Sound l → Changed l (made_in t x v l)
make_changed l t x v s =
    let at : ℕ = number_of l.frame.slots x in
    let name : ℕ = number_of (unit_at l.program l.frame.unit).slot_names x in
    record {
      path = refl;
      base = refl;
      given = refl;
      output = refl;
      made = omega arith;
      untaken = λ n e. inl e;
      place = λ s. at;
      from = λ n y e. elim (at_set l.locations at n (Some (new_location l.path l.made name t v)) y e) [
        | inl w ↦ from_new l at t name v n y s w.0 (some_same _ y w.1)
        | inr there ↦ as_was (was_there l.locations n y there)
      ];
    }

-- the process with the locations of a call of this unit, and with any frames
abbrev behind : LocalState → UnitOf → List Argument → Frame → List Frame → LocalState
behind l u given f fs = record l { frame = f; callers = fs; locations = l.locations ++ (call_locations l.path l.locations l.made given ++ empties (declared_slots u)); made = l.made + new_channels given }

from_passed : (l : LocalState) (given : List Argument) (n j : ℕ) (x : Location) → Sound l → n ≡ length l.locations + j → Passed l.path l.locations given l.made (length l.locations) j x
    → From l (l.made + new_channels given) l.untaken (place_of given l.made (length l.locations)) n x
from_passed l given n j x s e (by_copy m y there channel ownership) = as_copy ownership (subst (λ (d : NamedChannel). shares l d.channel ≡ true) channel (s.channels m y there))
from_passed l given n j x s e (by_value ownership home least below is) = as_new ownership home least below (not_made l x.channel.channel.serial s least) (e ∙ is)

from_behind : (l : LocalState) (u : UnitOf) (given : List Argument) (n : ℕ) (x : Location) → Sound l → at_number (l.locations ++ (call_locations l.path l.locations l.made given ++ empties (declared_slots u))) n ≡ Some x
    → From l (l.made + new_channels given) l.untaken (place_of given l.made (length l.locations)) n x
from_behind l u given n x s e =
    let passed : Locations = call_locations l.path l.locations l.made given in
    elim (at_append l.locations (passed ++ empties (declared_slots u)) n x e) [
      | inl there ↦ as_was (was_there l.locations n x there)
      | inr w ↦ elim (at_append passed (empties (declared_slots u)) w.0 x w.2) [
        | inl there ↦ from_passed l given n w.0 x s w.1 (at_passed l.path l.locations l.made (length l.locations) given w.0 x there)
        | inr v ↦ absurd (at_empty (declared_slots u) v.0 x v.2)
      ]
    ]

behind_changed : (l : LocalState) (u : UnitOf) (given : List Argument) (f : Frame) (fs : List Frame) → Sound l → Changed l (behind l u given f fs)
behind_changed l u given f fs s = record {
  path = refl;
  base = refl;
  given = refl;
  output = refl;
  made = omega arith;
  untaken = λ n e. inl e;
  place = place_of given l.made (length l.locations);
  from = λ n x e. from_behind l u given n x s e;
}

call_keeps : (unit : ℕ) (given : List Argument) (labels : List ℕ) (l : LocalState) → Sound l → LabelsBelow (handlers l) labels → GoesFitting l (called unit given labels l) → Keeps l (called unit given labels l)
unfolding called pushed
call_keeps unit given labels l s h w =
    let u : UnitOf = unit_at l.program unit in
    let f : Frame = entered u unit (call_slots (length l.locations) given (declared_slots u)) labels (length l.locations) (l.frame.outer + length l.frame.places) in
    let m : LocalState = behind l u given f (l.frame ∷ l.callers) in
    keeps l m (settled (l.frame ∷ l.callers) f m) (behind_changed l u given f (l.frame ∷ l.callers) s) (settled_left l.base (l.frame ∷ l.callers) f m (record {
      below = (h, s.labels);
      grow = wider l.path l.untaken l.made m.made (places_inward (l.frame ∷ l.callers)) (omega arith) s.places;
    })) w

-- a called unit is given labels of places in force
abbrev Fits : LocalState → Action → Type 0
Fits l (Enter unit given labels) = LabelsBelow (handlers l) labels
Fits l _ = Unit {0}

action_fits : {A : Type 0} (l : LocalState) (f : A → Action) (r : Result A Trap) → ((v : A) → Fits l (f v)) → Fits l (action f r)
action_fits l f (Ok v) h = h v
action_fits l f (Err t) h = tt

limited_fits : (l : LocalState) (over : Bool) (d : Action) → Fits l d → Fits l (limited over d)
limited_fits l over d h = choose (Fits l) over (Trapped Depth) d tt h

what_fits : (w : UWhat-F UWhat UStmt) (l : LocalState) → Sound l → Fits l (what_action w (statement_view l))
what_fits (UWhat-F.Declare t x e) l s = action_fits l (λ v. limited (is_full l) (Make t x v)) (value_or (pos 0) e (env_of l.locations l.frame.slots)) (λ v. limited_fits l (is_full l) (Make t x v) tt)
what_fits (UWhat-F.Assign x e) l s = action_fits l (Store x) (value e (env_of l.locations l.frame.slots)) (λ v. tt)
what_fits (UWhat-F.NextAssign x e) l s =
    choose (Fits l) l.frame.halfway Wait (action (StoreFirst x) (value e (env_of l.locations l.frame.slots))) tt (action_fits l (StoreFirst x) (value e (env_of l.locations l.frame.slots)) (λ v. tt))
what_fits (UWhat-F.AssignNext x y) l s = choose (Fits l) l.frame.halfway (Store x (env_of l.locations l.frame.slots y)) Wait tt tt
what_fits (UWhat-F.If e first second) l s = action_fits l (λ v. Go (cond (is_zero v) Second First)) (value e (env_of l.locations l.frame.slots)) (λ v. tt)
what_fits (UWhat-F.While e body) l s = action_fits l (λ v. Go (cond (is_zero v) On First)) (value e (env_of l.locations l.frame.slots)) (λ v. tt)
what_fits (UWhat-F.For first e step body) l s = action_fits l (λ v. Go (cond (is_zero v) On First)) (value_or (pos 1) e (env_of l.locations l.frame.slots)) (λ v. tt)
what_fits (UWhat-F.Call c) l s =
    action_fits l (λ given. limited (is_deep l || is_full l) (Enter c.unit given (passed_labels (statement_view l) c.throws)))
    (arguments l.locations l.frame.slots (unit_in (statement_view l) c.unit).params c.args)
    (λ given. limited_fits l (is_deep l || is_full l) (Enter c.unit given (passed_labels (statement_view l) c.throws)) (passed_below l c.throws s))
what_fits (UWhat-F.Try body x y handler) l s = limited_fits l (is_full l) (Install x (try_name (unit_in (statement_view l) l.frame.unit) x) y) tt
what_fits _ l s = tt

stmt_fits : (o : Option UStmt) (l : LocalState) → Sound l → Fits l (stmt_action o (statement_view l))
stmt_fits None l s = tt
stmt_fits (Some stmt) l s = what_fits (out-UWhat stmt.what) l s

next_fits : (l : LocalState) → Sound l → Fits l (next_action l)
unfolding next_action
next_fits l s = stmt_fits (next_stmt l.frame.todo) l s

armed_frames : (x name : ℕ) (y : Option ℕ) (l : LocalState) → Sound l → FramesHold l.base (installing x name y l) ((installing x name y l).frame ∷ l.callers)
armed_frames x name None l s = record {
  below = below_alike l.base l.frame (installed x name None l.frame) l.callers (refl, refl) s.labels;
  grow = subst (VariablesGrow l.path l.untaken l.made) (sym (inward_more l.frame.places _ (places_inward l.callers))) (tt, s.places);
}
armed_frames x name (Some y) l s =
    let runs : List SerialRun = with_serial l.made l.untaken in
    let others = other_runs l.path l.untaken runs l.made (places_inward (l.frame ∷ l.callers)) (λ n below there. with_keeps n l.made l.untaken there) s.places in
    record {
      below = below_alike l.base l.frame (installed x name (Some (variable_in y l)) l.frame) l.callers (refl, refl) s.labels;
      grow = subst (VariablesGrow l.path runs (l.made + 1)) (sym (inward_more l.frame.places _ (places_inward l.callers)))
          ((refl, (let least : l.made < l.made + 1 = omega arith in least), with_has l.made l.untaken), others);
    }

-- where one channel more was made
made_frames : (t : Ty) (x : ℕ) (v : ℤ) (l : LocalState) → Sound l → FramesHold l.base (made_in t x v l) (l.frame ∷ l.callers)
made_frames t x v l s = record { below = s.labels; grow = wider l.path l.untaken l.made (l.made + 1) (places_inward (l.frame ∷ l.callers)) (omega arith) s.places }

done_keeps : (d : Action) (l : LocalState) → Sound l → Fits l d → GoesFitting l (done d l) → Keeps l (done d l)
done_keeps (Go successor) l s h w = keeps l l (gone successor l) (unchanged l) (gone_left l.base successor l (sound_frames l s)) w
done_keeps (Store x v) l s h w = keeps l (stored_in x v l) (gone On (stored_in x v l)) (store_changed l x v) (gone_left l.base On (stored_in x v l) (record { below = s.labels; grow = s.places })) w
done_keeps (StoreFirst x v) l s h w =
    keeps l (stored_in x v l) (record (stored_in x v l) { frame = half l.frame }) (store_changed l x v) (half_left l.base (stored_in x v l) (record { below = s.labels; grow = s.places })) w
done_keeps (Make t x v) l s h w = keeps l (made_in t x v l) (gone On (made_in t x v l)) (make_changed l t x v s) (gone_left l.base On (made_in t x v l) (made_frames t x v l s)) w
done_keeps (Read x) l s h w = keeps l (read_in x l) (gone On (read_in x l)) (read_changed l x) (gone_left l.base On (read_in x l) (record { below = s.labels; grow = s.places })) w
done_keeps (Enter unit given labels) l s h w = call_keeps unit given labels l s h w
done_keeps (Install x name y) l s h w = install_keeps x name y l s w
  where
    install_keeps : (x name : ℕ) (y : Option ℕ) (l : LocalState) → Sound l → GoesFitting l (gone First (installing x name y l)) → Keeps l (gone First (installing x name y l))
    install_keeps x name None l s w = keeps l (installing x name None l) (gone First (installing x name None l)) (arm_changed l x name None) (gone_left l.base First (installing x name None l) (armed_frames x name None l s)) w
    install_keeps x name (Some y) l s w =
        keeps l (installing x name (Some y) l) (gone First (installing x name (Some y) l)) (arm_changed l x name (Some y)) (gone_left l.base First (installing x name (Some y) l) (armed_frames x name (Some y) l s)) w
done_keeps (Trapped t) l s h w = keeps l l (trapped t (line_of l.frame.todo) l) (unchanged l) (trapped_left l.base t (line_of l.frame.todo) l (sound_frames l s)) w
done_keeps Wait l s h w = keeps l l l (unchanged l) (none_left l.base l (sound_frames l s)) w

pub quiet_keeps : (l : LocalState) → Sound l → Keeps l (quiet l)
unfolding quiet
quiet_keeps l s = done_keeps (next_action l) l s (next_fits l s) (action_fitting l s.fitting)
