-- The frame of a child fits its locations, of which the first are those of its parameters.
use Rattle.std.proofs.Common.{◌≡◌, ℕ, ◌+◌, ◌≤◌, List, [], ◌∷◌, ◌++◌, length, refl, arith, length-append}
use Rattle.shim_base.specs.Paths.{Path}
use Rattle.shim_units.specs.declared.unit.Unit.{Unit as UnitOf}
use Rattle.shim_units.specs.declared.unit.UBranch.{UBranch}
use Rattle.shim_process.specs.Locations.{Locations}
use Rattle.shim_process.specs.LocalState.{LocalState, unit_at}
use Rattle.shim_process.specs.Arguments.{Argument, branch_locations, declared_slots, empties}
use Rattle.shim_process.specs.Forks.{child}
use Rattle.shim_process.specs.FittingFrames.{of_child, parameters_of, IsFitting}
use Rattle.shim_process.proofs.CallSlots.{first_slot}
use Rattle.shim_process.proofs.ChildChannels.{branch_length}
use Rattle.shim_process.proofs.FittingItems.{body_fits}

long_enough : (p g a b c : ℕ) → g ≡ p → a ≡ b + c → b ≡ g → p ≤ a
long_enough p g a b c e f h = omega (arith, e, f, h)

child_most : (path : Path) (n : ℕ) → of_child path n ≤ n
child_most [] n = omega arith
child_most (x ∷ path) n = omega arith

pub child_all : (path : Path) (x : ℕ × ℕ) (n : ℕ) → of_child (path ++ x ∷ []) n ≡ n
child_all [] x n = refl
child_all (y ∷ path) x n = refl

no_more : (k n a : ℕ) → k ≤ n → n ≤ a → k ≤ a
no_more k n a e f = omega (arith, e, f)

-- what a child has for its parameters is as long as these
pub child_parameters : (m : LocalState) (i : ℕ) (b : UBranch) (g : List Argument) → parameters_of (child m i b g) ≡ length (unit_at m.program b.call.unit).params
child_parameters m i b g = child_all m.path (m.forks, i) (length (unit_at m.program b.call.unit).params)

pub child_fitting : (m : LocalState) (i : ℕ) (b : UBranch) (g : List Argument) → IsFitting m → length g ≡ length (unit_at m.program b.call.unit).params → IsFitting (child m i b g)
child_fitting m i b g h many =
    let u : UnitOf = unit_at m.program b.call.unit in
    let path : Path = m.path ++ (m.forks, i) ∷ [] in
    let passed : Locations = branch_locations path m.locations 0 g in
    let behind : Locations = empties (declared_slots u) in
    record {
      uses = h.uses;
      fit = record {
        todo = body_fits m.program u u.body 0 (h.uses b.call.unit);
        places = tt;
        slots = λ x own. let at = first_slot u x own in let most = child_most path (length u.params) in (omega arith, omega (arith, at, most));
      };
      long = no_more (of_child path (length u.params)) (length u.params) (length (passed ++ behind)) (child_most path (length u.params))
          (long_enough (length u.params) (length g) (length (passed ++ behind)) (length passed) (length behind) many (length-append passed behind) (branch_length path m.locations 0 g));
      floor = omega arith;
    }
