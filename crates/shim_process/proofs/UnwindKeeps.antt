-- A throw that is caught keeps what a call keeps, where the variable of its handler is taken.
use Rattle.std.proofs.Common.{◌≡◌, ◌∙◌, ℕ, ℤ, ◌-◌, inl, inr, true, List, [], ◌∷◌, take, Option, Some, None, nat_lt, refl, sym, ap, subst, arith}
use Rattle.std.specs.Prelude.{slice_get}
use Rattle.shim_process.specs.declared.handler_variable.HandlerVariable.{HandlerVariable}
use Rattle.shim_process.specs.declared.serial_run.SerialRun.{SerialRun}
use Rattle.shim_process.specs.Locations.{Location, Locations, at_number}
use Rattle.shim_process.specs.SerialRuns.{is_in_runs, without_serial}
use Rattle.shim_process.specs.Todo.{Second}
use Rattle.shim_process.specs.LocalState.{LocalState, Frame, ExceptionPlace, number_of}
use Rattle.shim_process.specs.Ends.{went, settled}
use Rattle.shim_process.specs.Unwinding.{handling, caught_location, taking, catching, unwound, unwind}
use Rattle.shim_process.specs.Sound.{FramesBelow, VariableIsBelow, bound_by, VariablesGrow, places_inward, inward, Sound}
use Rattle.shim_process.proofs.PlaceLocations.{was_there, at_set, at_take}
use Rattle.shim_process.proofs.SerialRuns.{without_in, without_keeps}
use Rattle.shim_process.proofs.GrowingPlaces.{wider, other_runs, at_place, went_grow}
use Rattle.shim_process.proofs.LabelFrames.{FramesHold, HasExited, below_alike, handling_alike, holds_left, settled_left, sound_frames}
use Rattle.shim_process.proofs.FittingEnds.{unwind_fitting}
use Rattle.shim_process.proofs.QuietKeeps.{From, as_was, as_taken, Changed, Keeps, keeps}
use Rattle.shim_base.proofs.Facts.{some_same, choose, false_unless}

-- fewer locations than those of the process
abbrev Fewer : LocalState → Locations → Type 0
Fewer l xs = (n : ℕ) (x : Location) → at_number xs n ≡ Some x → at_number l.locations n ≡ Some x

abbrev with_locations : LocalState → Locations → LocalState
with_locations l xs = record l { locations = xs }

-- a variable on a channel of the process's own that no handler has taken
abbrev IsUntaken : LocalState → Option HandlerVariable → Type 0
IsUntaken l None = Unit {0}
IsUntaken l (Some y) = (y.channel.channel.home ≡ l.path) × (is_in_runs y.channel.channel.serial l.untaken ≡ true)

from_taken : (l : LocalState) (y : HandlerVariable) (v : ℤ) (at n : ℕ) (x : Location) → IsUntaken l (Some y) → n ≡ at → caught_location y.channel v ≡ x
    → From l l.made (without_serial y.channel.channel.serial l.untaken) (λ s. at) n x
from_taken l y v at n x h e same =
    let number : y.channel.channel.serial ≡ x.channel.channel.serial = ap (λ (r : Location). r.channel.channel.serial) same in
    as_taken (sym (ap (λ (r : Location). r.ownership) same)) (sym (ap (λ (r : Location). r.channel.channel.home) same) ∙ h.0)
    (subst (λ k. is_in_runs k l.untaken ≡ true) number h.1)
    (false_unless (is_in_runs x.channel.channel.serial (without_serial y.channel.channel.serial l.untaken))
    (λ t. (without_in x.channel.channel.serial y.channel.channel.serial l.untaken t).1 (sym number))) e

taking_changed : (o : Option HandlerVariable) (v : ℤ) (f : Frame) (l : LocalState) (xs : Locations) → Fewer l xs → IsUntaken l o → Changed l (taking o v f (with_locations l xs))
taking_changed None v f l xs few h = record {
  path = refl;
  base = refl;
  given = refl;
  output = refl;
  made = omega arith;
  untaken = λ n e. inl e;
  place = λ s. 0;
  from = λ n x e. as_was (was_there l.locations n x (few n x e));
}
taking_changed (Some y) v f l xs few h =
    let at : ℕ = number_of f.slots y.slot in
    record {
      path = refl;
      base = refl;
      given = refl;
      output = refl;
      made = omega arith;
      untaken = λ n e. inl (without_in n y.channel.channel.serial l.untaken e).0;
      place = λ s. at;
      from = λ n x e. elim (at_set xs at n (Some (caught_location y.channel v)) x e) [
        | inl w ↦ from_taken l y v at n x h w.0 (some_same _ x w.1)
        | inr there ↦ as_was (was_there l.locations n x (few n x there))
      ];
    }

-- a change, and then units left
record Unwinds (b : ℕ) (l m : LocalState) : Type 0 where
  between : LocalState
  changed : Changed l between
  left : HasExited b between m

-- on with the handler of a place
on_handler : (b : ℕ) (o : Option HandlerVariable) (v : ℤ) (l : LocalState) (xs : Locations) (f g : Frame) (fs : List Frame) (i : ℕ) (h : Frame) → Fewer l xs → FramesBelow b (g ∷ fs) → g ≡ went Second h → h.places ≡ take i f.places
    → VariableIsBelow l.path l.untaken l.made o → VariablesGrow l.path l.untaken (bound_by l.made o) (inward (take i f.places) (places_inward fs)) → Unwinds b l (settled fs g (taking o v f (with_locations l xs)))
on_handler b None v l xs f g fs i h few below on places under grow =
    let outer : List ExceptionPlace = places_inward fs in
    let before : VariablesGrow l.path l.untaken l.made (inward h.places outer) = subst (λ ps. VariablesGrow l.path l.untaken l.made (inward ps outer)) (sym places) grow in
    record {
      between = with_locations l xs;
      changed = taking_changed None v f l xs few tt;
      left = settled_left b fs g (with_locations l xs) (record {
        below = below;
        grow = subst (λ (z : Frame). VariablesGrow l.path l.untaken l.made (inward z.places outer)) (sym on) (went_grow l.path l.untaken l.made Second h outer before);
      });
    }
on_handler b (Some y) v l xs f g fs i h few below on places under grow =
    let outer : List ExceptionPlace = places_inward fs in
    let serial : ℕ = y.channel.channel.serial in
    let runs : List SerialRun = without_serial serial l.untaken in
    let taken : VariablesGrow l.path runs serial (inward (take i f.places) outer) =
    other_runs l.path l.untaken runs serial (inward (take i f.places) outer) (λ n lower there. without_keeps n serial l.untaken there (λ same. omega (arith, lower, same))) grow in
    let wide : VariablesGrow l.path runs l.made (inward (take i f.places) outer) =
    wider l.path runs serial l.made (inward (take i f.places) outer) (let less = under.1 in omega (arith, less)) taken in
    let before : VariablesGrow l.path runs l.made (inward h.places outer) = subst (λ ps. VariablesGrow l.path runs l.made (inward ps outer)) (sym places) wide in
    record {
      between = taking (Some y) v f (with_locations l xs);
      changed = taking_changed (Some y) v f l xs few (under.0, under.2);
      left = settled_left b fs g (taking (Some y) v f (with_locations l xs)) (record {
        below = below;
        grow = subst (λ (z : Frame). VariablesGrow l.path runs l.made (inward z.places outer)) (sym on) (went_grow l.path runs l.made Second h outer before);
      });
    }

stopped : (b : ℕ) (o : Option ExceptionPlace) (v : ℤ) (l : LocalState) (xs : Locations) (f : Frame) (fs : List Frame) (i : ℕ) → slice_get f.places i ≡ o → Fewer l xs → FramesHold b l (f ∷ fs)
    → Unwinds b l (settled fs (handling o i f) (catching o v f (with_locations l xs)))
stopped b None v l xs f fs i is few h = record {
  between = with_locations l xs;
  changed = taking_changed None v f l xs few tt;
  left = settled_left b fs f (with_locations l xs) (record { below = h.below; grow = h.grow });
}
stopped b (Some p) v l xs f fs i is few h =
    let w = at_place l.path l.untaken l.made i f.places (places_inward fs) p is h.grow in
    let begun : Frame = record f { todo = p.todo; places = take i f.places } in
    on_handler b p.variable v l xs f (handling (Some p) i f) fs i begun few (below_alike b f (handling (Some p) i f) fs (handling_alike (Some p) i f) h.below) refl refl w.0 w.1

unwound_left : (b : ℕ) (fs : List Frame) (f : Frame) (n : ℕ) (v : ℤ) (l : LocalState) (xs : Locations) → Fewer l xs → FramesHold b l (f ∷ fs) → Unwinds b l (unwound fs f n v (with_locations l xs))
unwound_left b [] f n v l xs few h = stopped b (slice_get f.places (n - f.outer)) v l xs f [] (n - f.outer) refl few h
unwound_left b (c ∷ cs) f n v l xs few h =
    let i : ℕ = n - f.outer in
    let o : Option ExceptionPlace = slice_get f.places i in
    choose (Unwinds b l) (nat_lt n f.outer) (unwound cs c n v (with_locations l (take f.floor xs))) (settled (c ∷ cs) (handling o i f) (catching o v f (with_locations l xs)))
    (unwound_left b cs c n v l (take f.floor xs) (λ k x e. few k x (at_take xs f.floor k x e)) (holds_left b l f (c ∷ cs) h))
    (stopped b o v l xs f (c ∷ cs) i refl few h)

pub unwind_keeps : (l : LocalState) (label : ℕ) (v : ℤ) → Sound l → Keeps l (unwind l label v)
unfolding unwind
unwind_keeps l label v s =
    let w : Unwinds l.base l (unwind l label v) = unwound_left l.base l.callers l.frame (label - l.base) v l l.locations (λ n x e. e) (sound_frames l s) in
    keeps l w.between (unwind l label v) w.changed w.left (unwind_fitting l label v s.fitting)
