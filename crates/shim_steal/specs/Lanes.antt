-- What public contracts read of a lane.
use Rattle.std.specs.Prelude.{◌≡◌, ◌<◌, ◌≢◌, ℕ, ◌+◌, List, [], ◌∷◌, ◌++◌, length, map}
use mathlib.Core.Option.{some}
use lib.ListN.{get_elem?}
use Rattle.crossbeam_deque.specs.Handles.{view, stealer_deque}
use Rattle.shim_steal.specs.declared.other_deque.OtherDeque.{OtherDeque}
use Rattle.shim_steal.specs.declared.lane.Lane.{Lane}
use Rattle.shim_base.specs.Lists.{IsAmong}
use Rattle.shim_steal.specs.Places.{lane_at, deque_index, from_home}
use Rattle.shim_steal.specs.Steps.{MayBeEmptyAt, MayBeEmpty}
use Rattle.shim_steal.specs.Deques.{view_of, IsSameDeque}

module _ {T : Type 0} where
  -- the number of the lane itself
  abbrev pub home_of : Lane T → ℕ
  home_of l = l.home

  -- how many lanes there are: itself, and those whose deques it has
  abbrev pub lanes_of : Lane T → ℕ
  lanes_of l = length l.others.items + 1

  -- `from` is the number of a lane other than l
  abbrev pub IsOtherLane : Lane T → ℕ → Type 0
  IsOtherLane l from = (from ≢ home_of l) × (from < lanes_of l)

  -- what it pushed, in order: a value's place is its number
  abbrev pub pushes_of : Lane T → List T
  pushes_of l = (view_of l.own).pushed

  -- the lane has pushed in `new` what it had pushed in `old`
  abbrev pub HasSamePushes : Lane T → Lane T → Type 0
  HasSamePushes old new = pushes_of new ≡ pushes_of old

  -- the pieces that it took from the others' deques from this place on
  abbrev pub takes_from : ℕ → ℕ → List (OtherDeque T) → List (ℕ × (ℕ × T))
  takes_from home place [] = []
  takes_from home place (t ∷ ts) = from_home (lane_at home place) (view t.pass).taken ++ takes_from home (place + 1) ts

  -- the pieces that it took, each with its home and its number: those of its own deque, and then those of each other; those of one home are in the order in which it took them
  abbrev pub takes_of : Lane T → List (ℕ × (ℕ × T))
  takes_of l = from_home l.home (view_of l.own).taken ++ takes_from l.home 0 l.others.items

  -- the lane has taken in `new` what it had taken in `old`
  abbrev pub HasSameTakes : Lane T → Lane T → Type 0
  HasSameTakes old new = takes_of new ≡ takes_of old

  -- the list of takes of `new` is that of `old` with one piece more: of this home, number and value
  abbrev pub HasTakenOne : Lane T → Lane T → ℕ → ℕ → T → Type 0
  HasTakenOne old new home number value = (before : List (ℕ × (ℕ × T))) × (after : List (ℕ × (ℕ × T))) × (takes_of old ≡ before ++ after) × (takes_of new ≡ before ++ (home, (number, value)) ∷ after)

  -- each piece that it pushed stands in its own list of takes
  abbrev pub HasTakenAll : Lane T → Type 0
  HasTakenAll l = (n : ℕ) (x : T) → get_elem? (pushes_of l) n ≡ some x → IsAmong (home_of l, (n, x)) (takes_of l)

  -- `old` and `new` lead to the same deques, in the same order
  abbrev pub AreSameDeques : List (OtherDeque T) → List (OtherDeque T) → Type 0
  AreSameDeques old new = map (λ t. stealer_deque t.deque) new ≡ map (λ t. stealer_deque t.deque) old

  -- `old` and `new` have the same number and count of lanes, the same own deque, and ways to the same other deques
  abbrev pub IsSameLane : Lane T → Lane T → Type 0
  IsSameLane old new = (home_of new ≡ home_of old) × (lanes_of new ≡ lanes_of old) × IsSameDeque old.own new.own × AreSameDeques old.others.items new.others.items

  -- the rule of deques allows that the lane's own deque is empty, after what the lane did at it
  abbrev pub OwnMayBeEmpty : Lane T → Type 0
  OwnMayBeEmpty l = MayBeEmptyAt 0 (view_of l.own)

  -- the rule of deques allows that the deque of the lane `from` is empty, after what this lane took from it
  abbrev pub OtherMayBeEmpty : Lane T → ℕ → Type 0
  OtherMayBeEmpty l from = (t : OtherDeque T) × (get_elem? l.others.items (deque_index l.home from) ≡ some t) × MayBeEmpty (view t.pass)
