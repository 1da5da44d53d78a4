-- What is said of lanes while they are made.
use Rattle.std.specs.Prelude.{◌≡◌, ◌≢◌, ◌<◌, ◌≤◌, ℕ, ◌+◌, ◌-◌, List, [], ◌∷◌, ◌++◌, length}
use mathlib.Core.Option.{some}
use lib.ListN.{get_elem?}
use Rattle.crossbeam_deque.specs.Handles.{view}
use Rattle.shim_steal.specs.declared.view.View.{View}
use Rattle.shim_steal.specs.declared.own_deque.OwnDeque.{OwnDeque}
use Rattle.shim_steal.specs.declared.other_deque.OtherDeque.{OtherDeque}
use Rattle.shim_steal.specs.declared.lane.Lane.{Lane}
use Rattle.shim_steal.specs.Views.{fresh}
use Rattle.shim_steal.specs.Places.{deque_index}
use Rattle.shim_steal.specs.Deques.{view_of, IsSameDeque, IsSameAsOwn}
use Rattle.shim_steal.specs.Lanes.{home_of, pushes_of, takes_of, takes_from, lanes_of}

module _ {T : Type 0} where
  -- at this place of `others` there is a way to the deque `own`
  abbrev pub StandsAt : List (OtherDeque T) → ℕ → OwnDeque T → Type 0
  StandsAt others place own = (t : OtherDeque T) × (get_elem? others place ≡ some t) × IsSameAsOwn t own

  -- `others` has, for each lane of `all` but the one of the number `home`, a way to its deque, at the place that `deque_index` gives
  abbrev pub TakesFromAll : ℕ → List (Lane T) → List (OtherDeque T) → Type 0
  TakesFromAll home all others = (j : ℕ) (m : Lane T) → j ≢ home → get_elem? all j ≡ some m → StandsAt others (deque_index home j) m.own

  -- Each lane of `all` has its place in the list as its number, has done nothing yet, and may take from all others. `count` is how many lanes each has.
  abbrev pub AreNewLanes : ℕ → List (Lane T) → Type 0
  AreNewLanes count all = (i : ℕ) (l : Lane T) → get_elem? all i ≡ some l → (home_of l ≡ i) × (lanes_of l ≡ count) × (pushes_of l ≡ []) × (takes_of l ≡ []) × TakesFromAll i all l.others.items

  -- nothing was pushed or taken there, and no other lane may take from it
  abbrev pub IsUnused : OwnDeque T → Type 0
  IsUnused d = view_of d ≡ fresh

  -- a deque at which nothing was done meanwhile but that other lanes were let take from it
  abbrev pub IsAsBefore : OwnDeque T → OwnDeque T → Type 0
  IsAsBefore old new = IsSameDeque old new × ((view_of new).pushed ≡ (view_of old).pushed) × ((view_of new).taken ≡ (view_of old).taken)

  -- `t` leads to the deque `own`, and nothing was taken by it yet
  abbrev pub IsNewWayTo : OwnDeque T → OtherDeque T → Type 0
  IsNewWayTo own t = IsSameAsOwn t own × (view {V = View T} t.pass ≡ fresh)

  -- The lane `old` becomes `new`, which may take from the deque d, too; d becomes e. The owner of `mine` may take from the lane's own deque.
  abbrev pub IsLinked : Lane T → Lane T → OwnDeque T → OwnDeque T → OtherDeque T → Type 0
  IsLinked old new d e mine = (home_of new ≡ home_of old) × IsAsBefore old.own new.own × IsAsBefore d e × IsNewWayTo new.own mine
      × ((t : OtherDeque T) × (new.others.items ≡ old.others.items ++ t ∷ []) × IsNewWayTo e t)

  -- While a lane is added to n lanes: the first k of them may take from its deque `own`. `others` leads to the deques of these k lanes.
  pub record AreLinked (n k : ℕ) (all : List (Lane T)) (own : OwnDeque T) (others : List (OtherDeque T)) : Type 0 where
    pub count : length all ≡ n
    pub unused : ((view_of own).pushed ≡ []) × ((view_of own).taken ≡ []) × (k ≡ 0 → (view_of own).made ≡ 0)
    pub mine : (length others ≡ k) × (takes_from n 0 others ≡ [])
    pub theirs : (j : ℕ) (m : Lane T) → j < k → get_elem? all j ≡ some m → StandsAt others j m.own
    pub each : (i : ℕ) (l : Lane T) → get_elem? all i ≡ some l → (home_of l ≡ i) × (pushes_of l ≡ []) × (takes_of l ≡ []) × TakesFromAll i all l.others.items
    pub old : (i : ℕ) (l : Lane T) → get_elem? all i ≡ some l → k ≤ i → lanes_of l ≡ n
    pub new : (i : ℕ) (l : Lane T) → get_elem? all i ≡ some l → i < k → (lanes_of l ≡ n + 1) × StandsAt l.others.items (n - 1) own
