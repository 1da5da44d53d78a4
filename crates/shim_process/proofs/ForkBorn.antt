-- The children of a fork are in its branches.
use Rattle.std.proofs.Common.{◌≡◌, ◌∙◌, ℕ, ◌+◌, ◌++◌, List, [], ◌∷◌, ap, sym, subst}
use Rattle.shim_base.specs.Paths.{Path}
use Rattle.shim_units.specs.declared.unit.Unit.{Unit as UnitOf}
use Rattle.shim_units.specs.declared.unit.UBranch.{UBranch}
use Rattle.shim_process.specs.Locations.{channel_at}
use Rattle.shim_process.specs.LocalState.{LocalState, unit_at, handlers}
use Rattle.shim_process.specs.Arguments.{Argument, branch_locations, declared_slots}
use Rattle.shim_process.specs.Forks.{child, lending, children_from}
use Rattle.shim_process.specs.Born.{OnChannels, InBranch, InBranches}
use Rattle.shim_process.proofs.ChildChannels.{branch_on, stand_child}
use Rattle.shim_process.proofs.ChildFitting.{child_parameters}
use Rattle.shim_process.proofs.ForkArguments.{BranchMatches, AllMatch}
use Rattle.shim_process.proofs.ForkLending.{Lends, lends_one}

-- the second state is that of the process as it stands at the fork, but for what is lent
pub record IsParent (m p : LocalState) : Type 0 where
  pub path : m.path ≡ p.path
  pub handlers : handlers m ≡ handlers p
  pub slots : m.frame.slots ≡ p.frame.slots
  pub channels : (n : ℕ) → channel_at m.locations n ≡ channel_at p.locations n

child_born : (m p : LocalState) (i : ℕ) (b : UBranch) (g : List Argument) → IsParent m p → BranchMatches m.frame.slots m.program b g → InBranch p m.forks i b (child m i b g)
child_born m p i b g h match =
    let path : Path = m.path ++ (m.forks, i) ∷ [] in
    let u : UnitOf = unit_at m.program b.call.unit in
    record {
      path = ap (λ (q : Path). q ++ (m.forks, i) ∷ []) h.path;
      base = h.handlers;
      many = child_parameters m i b g ∙ sym match.written;
      channels = subst (λ (slots : List ℕ). OnChannels slots 0 b.call.args (child m i b g).locations p.locations) h.slots
          (branch_on m.frame.slots b.call.args g path m.locations (child m i b g).locations p.locations 0 0 match.matches
          (stand_child (branch_locations path m.locations 0 g) (declared_slots u)) h.channels);
    }

lending_parent : (m p : LocalState) (b : UBranch) → IsParent m p → IsParent (lending m b) p
lending_parent m p b h =
    let lends : Lends m (lending m b) = lends_one m b in
    record { path = h.path; handlers = h.handlers; slots = h.slots; channels = λ n. lends.channels n ∙ h.channels n }

pub born_in_branches : (m p : LocalState) (i : ℕ) (bs : List UBranch) (given : List (List Argument)) → IsParent m p → AllMatch m.frame.slots m.program bs given → InBranches p m.forks i bs (children_from m i bs given)
born_in_branches m p i [] [] h match = tt
born_in_branches m p i [] (g ∷ gs) h match = absurd match
born_in_branches m p i (b ∷ bs) [] h match = absurd match
born_in_branches m p i (b ∷ bs) (g ∷ gs) h match = (child_born m p i b g h match.0, born_in_branches (lending m b) p (i + 1) bs gs (lending_parent m p b h) match.1)
