-- The process that runs `main` is in a sound state, and has no channel.
use Rattle.std.proofs.Common.{◌≡◌, ℕ, ◌+◌, ◌≤◌, inl, inr, Bool, true, false, List, [], ◌∷◌, length, refl, arith}
use Rattle.shim_base.specs.Paths.{Channel}
use Rattle.shim_units.specs.declared.form.Form.{Form}
use Rattle.shim_units.specs.declared.unit.Unit.{Unit as UnitOf}
use Rattle.shim_process.specs.LocalState.{unit_at}
use Rattle.shim_process.specs.Forks.{labels_from, root}
use Rattle.shim_process.specs.Sharers.{shares}
use Rattle.shim_process.specs.OwnSlots.{UsesOwnSlots}
use Rattle.shim_process.specs.FittingFrames.{IsFitting}
use Rattle.shim_process.specs.Sound.{LabelsBelow, Sound}
use Rattle.shim_process.proofs.FittingItems.{body_fits}
use Rattle.shim_process.proofs.PlaceLocations.{at_empty}
use Rattle.shim_process.proofs.CarryChannels.{shares_how}

labels_below : (bound first : ℕ) (names : List ℕ) → first + length names ≤ bound → LabelsBelow bound (labels_from first names)
labels_below bound first [] h = tt
labels_below bound first (x ∷ names) h = (omega (arith, h), labels_below bound (first + 1) names (omega (arith, h)))

pub root_fitting : (program : Form) (input : List ℕ) → UsesOwnSlots program → IsFitting (root program input)
unfolding root
root_fitting program input uses =
    let u : UnitOf = unit_at program program.main in
    record {
      uses = uses;
      fit = record {
        todo = body_fits program u u.body 0 (uses program.main);
        places = tt;
        slots = λ x own. (omega arith, omega arith);
      };
      long = omega arith;
      floor = omega arith;
    }

pub root_sound : (program : Form) (input : List ℕ) → UsesOwnSlots program → Sound (root program input)
unfolding root
root_sound program input uses = record {
  base = omega arith;
  labels = (labels_below ((1 + length program.main_throws) + 0) 1 program.main_throws (omega arith), tt);
  channels = λ n x e. absurd (at_empty (unit_at program program.main).slots n x e);
  once = λ n m x y e f p q same. absurd (at_empty (unit_at program program.main).slots n x e);
  homes = λ at c e. absurd (cc);
  serials = λ at c e home. absurd (cc);
  made = λ n e. absurd (cc e);
  taken = λ at c e home. refl;
  places = tt;
  root = λ e. refl;
  fitting = root_fitting program input uses;
}

by_answer : (program : Form) (input : List ℕ) (c : Channel) (b : Bool) → shares (root program input) c ≡ b → b ≡ false
unfolding root
by_answer program input c true e = elim (shares_how (root program input) c e) [
  | inl w ↦ absurd (let there = w.2 in cc)
  | inr w ↦ absurd (let below = w.0 in omega (arith, below))
]
by_answer program input c false e = refl

pub root_shares_nothing : (program : Form) (input : List ℕ) (c : Channel) → shares (root program input) c ≡ false
root_shares_nothing program input c = by_answer program input c (shares (root program input) c) refl
