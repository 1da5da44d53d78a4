-- That each process below a fork has a status, so that it takes no memory to make it that of a dead one.
use Rattle.std.specs.Prelude.{Bool, true, false, List, [], ◌∷◌, ◌&&◌, map}
use Rattle.shim_tree.specs.declared.node_status.NodeStatus.{NodeStatus}
use Rattle.shim_tree.specs.declared.node_status.NodeStatus.TheOpen.{NodeStatus-F, Live, Forked, Ended, Dead}
use Rattle.shim_tree.specs.declared.node_status.NodeStatus.TheFolds.{fold-NodeStatus}

-- each process has one of these, and each that it has is true
abbrev pub noted_of_all : {S : Type 0} → List S → List Bool → Bool
noted_of_all [] fs = true
noted_of_all (l ∷ ls) [] = false
noted_of_all (l ∷ ls) (f ∷ fs) = f && noted_of_all ls fs

-- whether a status is filled, from whether each status of a child is: a fork has one for each child, and each is filled
abbrev pub filled_step : {S : Type 0} → NodeStatus-F S Bool → Bool
filled_step Live = true
filled_step (Forked ls bs) = noted_of_all ls.items bs.items
filled_step Ended = true
filled_step (Dead x) = true

-- each process below a fork has a status, at any depth
abbrev pub is_filled : {S : Type 0} → NodeStatus S → Bool
is_filled {S} b = fold-NodeStatus S Bool filled_step b

-- of each status whether it is filled
abbrev pub filled : {S : Type 0} → List (NodeStatus S) → List Bool
filled {S} bs = map (fold-NodeStatus S Bool filled_step) bs

-- each of these is true
abbrev all_true : List Bool → Bool
all_true [] = true
all_true (f ∷ fs) = f && all_true fs

-- each of the statuses is filled
abbrev pub are_filled : {S : Type 0} → List (NodeStatus S) → Bool
are_filled bs = all_true (filled bs)
