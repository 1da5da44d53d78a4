-- The children of a fork stay that, whatever they do.
use Rattle.std.proofs.Common.{◌≡◌, ◌∙◌, ℕ, ◌+◌, ◌≤◌, List, [], ◌∷◌, ◌++◌, length, arith}
use Rattle.shim_local.specs.Laws.{AreChildren, Moved}
use Rattle.shim_units.specs.declared.unit.UBranch.{UBranch}
use Rattle.shim_process.specs.FittingFrames.{parameters_of}
use Rattle.shim_process.specs.Forks.{item_branches}
use Rattle.shim_process.specs.LocalState.{LocalState, handlers}
use Rattle.shim_process.specs.Sound.{Sound}
use Rattle.shim_process.specs.Born.{InBranch, InBranches, Born}
use Rattle.shim_process.specs.Ops.{process_ops}
use Rattle.shim_process.proofs.ChildChannels.{child_on}
use Rattle.shim_process.proofs.FittingEnds.{HasParameters}

are_children : (l : LocalState) (f i : ℕ) (bs : List UBranch) (ks : List LocalState) → InBranches l f i bs ks → AreChildren process_ops l.path (handlers l) f i ks
are_children l f i [] [] h = tt
are_children l f i [] (k ∷ ks) h = absurd h
are_children l f i (b ∷ bs) [] h = tt
are_children l f i (b ∷ bs) (k ∷ ks) h = (h.0.path, h.0.base, are_children l f (i + 1) bs ks h.1)

pub born_children : (l : LocalState) (ks : List LocalState) → Born l ks → (f : ℕ) × AreChildren process_ops l.path (handlers l) f 0 ks
born_children l ks born = (born.fork, are_children l born.fork 0 (item_branches l.frame.todo) ks born.places)

all_of_them : (n k : ℕ) → k ≡ n → 0 + n ≤ k
all_of_them n k e = omega (arith, e)

-- another state of a child
still_there : (l : LocalState) (f i : ℕ) (b : UBranch) (k m : LocalState) → m.path ≡ k.path → m.base ≡ k.base → HasParameters k m → InBranch l f i b k → InBranch l f i b m
still_there l f i b k m same_path same_base has h = record {
  path = same_path ∙ h.path;
  base = same_base ∙ h.base;
  many = has.many ∙ h.many;
  channels = child_on l.frame.slots 0 b.call.args k.locations m.locations l.locations (parameters_of k) (all_of_them (length b.call.args) (parameters_of k) h.many) has.channels h.channels;
}

still_in : (l : LocalState) (f i : ℕ) (bs : List UBranch) (k m : LocalState) (before after : List LocalState) → m.path ≡ k.path → m.base ≡ k.base → HasParameters k m → InBranches l f i bs (before ++ k ∷ after)
    → InBranches l f i bs (before ++ m ∷ after)
still_in l f i [] k m [] after same_path same_base has h = absurd h
still_in l f i [] k m (x ∷ before) after same_path same_base has h = absurd h
still_in l f i (b ∷ bs) k m [] after same_path same_base has h = (still_there l f i b k m same_path same_base has h.0, h.1)
still_in l f i (b ∷ bs) k m (x ∷ before) after same_path same_base has h = (h.0, still_in l f (i + 1) bs k m before after same_path same_base has h.1)

-- where no call changes a path and a base, and each leaves parameters on their channels
pub born_moved : ((l m : LocalState) → Sound l → Moved process_ops l m → m.path ≡ l.path) → ((l m : LocalState) → Sound l → Moved process_ops l m → m.base ≡ l.base)
    → ((l m : LocalState) → Sound l → Moved process_ops l m → HasParameters l m)
    → (l k m : LocalState) (before after : List LocalState) → Sound k → Born l (before ++ k ∷ after) → Moved process_ops k m → Born l (before ++ m ∷ after)
born_moved paths bases parameters l k m before after s born moved = record {
  fork = born.fork;
  last = born.last;
  stops_at_fork = born.stops_at_fork;
  places = still_in l born.fork 0 (item_branches l.frame.todo) k m before after (paths k m s moved) (bases k m s moved) (parameters k m s moved) born.places;
}
