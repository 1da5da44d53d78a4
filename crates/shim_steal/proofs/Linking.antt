-- Each lane may take from each other one, also when there is one more.
use Rattle.std.proofs.Common.{◌≡◌, ◌≢◌, ⊎_elim, ℕ, ◌+◌, ◌-◌, ◌<◌, cond, List, [], ◌∷◌, ◌++◌, length, length-set, set, refl, sym, ap, ◌∙◌, subst, arith}
use Rattle.std.proofs.lemmas.Bool.{le-ltb, lt-ltb}
use mathlib.Core.Option.{some, some-ne-none}
use lib.ListN.{get_elem?}
use Rattle.crossbeam_deque.specs.Handles.{view, worker_deque}
use Rattle.crossbeam_deque.proofs.Lists.{at_set, at_longer, at_last}
use Rattle.shim_steal.specs.declared.view.View.{View}
use Rattle.shim_steal.specs.declared.own_deque.OwnDeque.{OwnDeque}
use Rattle.shim_steal.specs.declared.other_deque.OtherDeque.{OtherDeque}
use Rattle.shim_steal.specs.declared.lane.Lane.{Lane}
use Rattle.shim_steal.specs.Views.{fresh}
use Rattle.shim_steal.specs.Places.{deque_index, lane_at, from_home}
use Rattle.shim_steal.specs.Deques.{view_of, IsSameAsOwn}
use Rattle.shim_steal.specs.Lanes.{home_of, lanes_of, pushes_of, takes_of, takes_from}
use Rattle.shim_steal.specs.Making.{StandsAt, TakesFromAll, AreNewLanes, IsUnused, IsLinked, AreLinked}
use Rattle.shim_steal.proofs.Lists.{at-end, at-inside, empty-left, empty-right, both-empty}
use Rattle.shim_steal.proofs.Totals.{length-snoc}

-- another lane's place where that has the higher number, and where it has the lower one
place-above : (home from : ℕ) → home < from → deque_index home from ≡ from - 1
place-above home from above = ap (λ b. cond b from (from - 1)) (le-ltb from home (omega arith))

place-below : (home from : ℕ) → from < home → deque_index home from ≡ from
place-below home from below = ap (λ b. cond b from (from - 1)) (lt-ltb from home below)

module _ {T : Type 0} where
  -- one deque more, from which nothing was taken
  no-more-takes : (home place : ℕ) (ts : List (OtherDeque T)) (t : OtherDeque T) → takes_from home place ts ≡ [] → view {V = View T} t.pass ≡ fresh → takes_from home place (ts ++ t ∷ []) ≡ []
  no-more-takes home place [] t none new = both-empty (from_home (lane_at home place) (view {V = View T} t.pass).taken) [] (ap (λ (v : View T). from_home (lane_at home place) v.taken) new) refl
  no-more-takes home place (s ∷ ss) t none new = both-empty (from_home (lane_at home place) (view {V = View T} s.pass).taken) (takes_from home (place + 1) (ss ++ t ∷ []))
      (empty-left (from_home (lane_at home place) (view {V = View T} s.pass).taken) (takes_from home (place + 1) ss) none)
      (no-more-takes home (place + 1) ss t (empty-right (from_home (lane_at home place) (view {V = View T} s.pass).taken) (takes_from home (place + 1) ss) none) new)

  -- a list of takes that is empty stays so
  still-none : (home home' : ℕ) (took took' : List (ℕ × T)) (ts ts' : List (OtherDeque T)) (t : OtherDeque T) → home' ≡ home → took' ≡ took → ts' ≡ ts ++ t ∷ [] → view {V = View T} t.pass ≡ fresh
      → from_home home took ++ takes_from home 0 ts ≡ [] → from_home home' took' ++ takes_from home' 0 ts' ≡ []
  still-none home home' took took' ts ts' t h k e new none = both-empty (from_home home' took') (takes_from home' 0 ts')
      ((λ i. from_home (h i) (k i)) ∙ empty-left (from_home home took) (takes_from home 0 ts) none)
      ((λ i. takes_from (h i) 0 (e i)) ∙ no-more-takes home 0 ts t (empty-right (from_home home took) (takes_from home 0 ts) none) new)

  place-longer : (ts ts' : List (OtherDeque T)) (t : OtherDeque T) (place : ℕ) (own : OwnDeque T) → ts' ≡ ts ++ t ∷ [] → StandsAt ts place own → StandsAt ts' place own
  place-longer ts ts' t place own e s = (s.0, ap (λ l. get_elem? l place) e ∙ at_longer ts (t ∷ []) place s.0 s.1, s.2)

  -- the deque is the same
  place-still : (ts : List (OtherDeque T)) (place : ℕ) (own own' : OwnDeque T) → worker_deque own'.deque ≡ worker_deque own.deque → StandsAt ts place own → StandsAt ts place own'
  place-still ts place own own' e s = (s.0, s.1, s.2 ∙ sym e)

  pub none-linked : (n : ℕ) (all : List (Lane T)) (own : OwnDeque T) → length all ≡ n → AreNewLanes n all → IsUnused own → AreLinked n 0 all own []
  none-linked n all own count new unused = record {
    count = count;
    unused = (ap (λ (v : View T). v.pushed) unused, ap (λ (v : View T). v.taken) unused, λ _. ap (λ (v : View T). v.made) unused);
    mine = (refl, refl);
    theirs = λ j m below at. absurd (omega arith);
    each = λ i l at. let is = new i l at in (is.0, is.2, is.3, is.4);
    old = λ i l at _. (new i l at).1;
    new = λ i l at below. absurd (omega arith);
  }

  -- the next lane is linked with the deque
  module _ (n k : ℕ) (all : List (Lane T)) (own own' : OwnDeque T) (others : List (OtherDeque T)) (l l' : Lane T) (mine : OtherDeque T)
      (a : AreLinked n k all own others) (at : get_elem? all k ≡ some l) (s : IsLinked l l' own own' mine) where
    -- the lanes may take from each other as before
    still-from-all : (i : ℕ) (ts : List (OtherDeque T)) → TakesFromAll i all ts → TakesFromAll i (set all k l') ts
    still-from-all i ts from j m other e = ⊎_elim
        (λ (x : (j ≡ k) × (l' ≡ m)). subst (λ u. StandsAt ts (deque_index i j) u.own) x.1 (place-still ts (deque_index i j) l.own l'.own s.1.0 (from j l other (ap (get_elem? all) x.0 ∙ at))))
        (λ (x : (j ≢ k) × (get_elem? all j ≡ some m)). from j m other x.1) (at_set all k j l' m e)

    was : (home_of l ≡ k) × (pushes_of l ≡ []) × (takes_of l ≡ []) × TakesFromAll k all l.others.items
    was = a.each k l at

    new-takes : takes_of l' ≡ []
    new-takes = still-none l.home l'.home (view_of l.own).taken (view_of l'.own).taken l.others.items l'.others.items s.4.0 s.0 s.1.2 s.4.1 s.4.2.1 was.2

    long : length l'.others.items ≡ n
    long = ap length s.4.1 ∙ length-snoc l.others.items s.4.0 ∙ a.old k l at (omega arith)

    last : StandsAt l'.others.items (n - 1) own'
    last = (s.4.0, ap (λ ts. get_elem? ts (n - 1)) s.4.1 ∙ at_last l.others.items s.4.0 (n - 1) (let o = a.old k l at (omega arith) in omega arith), s.4.2.0)

    pub next-linked : AreLinked n (k + 1) (set all k l') own' (others ++ mine ∷ [])
    next-linked = record {
      count = length-set all k l' ∙ a.count;
      unused = (s.2.1 ∙ a.unused.0, s.2.2 ∙ a.unused.1, λ z. absurd (omega arith));
      mine = (length-snoc others mine ∙ ap (λ c. c + 1) a.mine.0, no-more-takes n 0 others mine a.mine.1 s.3.1);
      theirs = λ j m below e. ⊎_elim
          (λ (x : (j ≡ k) × (l' ≡ m)). (mine, at_last others mine j (a.mine.0 ∙ sym x.0), subst (λ u. IsSameAsOwn mine u.own) x.1 s.3.0))
          (λ (x : (j ≢ k) × (get_elem? all j ≡ some m)). place-longer others (others ++ mine ∷ []) mine j m.own refl (a.theirs j m (let o = x.0 in omega arith) x.1)) (at_set all k j l' m e);
      each = λ i u e. ⊎_elim
          (λ (x : (i ≡ k) × (l' ≡ u)). subst (λ w. (home_of w ≡ i) × (pushes_of w ≡ []) × (takes_of w ≡ []) × TakesFromAll i (set all k l') w.others.items) x.1
          (s.0 ∙ was.0 ∙ sym x.0, s.1.1 ∙ was.1, new-takes, λ j m other f. place-longer l.others.items l'.others.items s.4.0 (deque_index i j) m.own s.4.1 (still-from-all i l.others.items (subst (λ h. TakesFromAll h all l.others.items) (sym x.0) was.3) j m other f)))
          (λ (x : (i ≢ k) × (get_elem? all i ≡ some u)). let b = a.each i u x.1 in (b.0, b.1, b.2, still-from-all i u.others.items b.3)) (at_set all k i l' u e);
      old = λ i u e above. ⊎_elim (λ (x : (i ≡ k) × (l' ≡ u)). absurd (let o = x.0 in omega arith)) (λ (x : (i ≢ k) × (get_elem? all i ≡ some u)). a.old i u x.1 (omega arith)) (at_set all k i l' u e);
      new = λ i u e below. ⊎_elim
          (λ (x : (i ≡ k) × (l' ≡ u)). subst (λ w. (lanes_of w ≡ n + 1) × StandsAt w.others.items (n - 1) own') x.1 (ap (λ c. c + 1) long, last))
          (λ (x : (i ≢ k) × (get_elem? all i ≡ some u)). let b = a.new i u x.1 (let o = x.0 in omega arith) in (b.0, place-still u.others.items (n - 1) own own' s.2.0 b.1)) (at_set all k i l' u e);
    }

  -- a lane with this deque is one of the lanes, when it is linked with all
  module _ (n : ℕ) (all : List (Lane T)) (own : OwnDeque T) (others : List (OtherDeque T)) (l : Lane T)
      (a : AreLinked n n all own others) (home : l.home ≡ n) (mine : l.own ≡ own) (theirs : l.others.items ≡ others) where
    among-old : (i : ℕ) (m : Lane T) → get_elem? all i ≡ some m → TakesFromAll i (all ++ l ∷ []) m.others.items
    among-old i m at j u other e = ⊎_elim (λ (x : get_elem? all j ≡ some u). (a.each i m at).3 j u other x)
        (λ (x : (j ≡ length all) × (l ≡ u)). let inside = at-inside all i m at in subst (λ w. StandsAt m.others.items (deque_index i j) w.own) x.1
        (subst (λ p. StandsAt m.others.items p l.own) (ap (λ c. c - 1) (sym a.count ∙ sym x.0) ∙ sym (place-above i j (let o = x.0 in omega arith))) (subst (λ d. StandsAt m.others.items (n - 1) d) (sym mine) (a.new i m at (let c = a.count in omega arith)).1)))
        (at-end all l u j e)

    among-new : (i : ℕ) → i ≡ n → TakesFromAll i (all ++ l ∷ []) l.others.items
    among-new i is j u other e = ⊎_elim
        (λ (x : get_elem? all j ≡ some u). let inside = at-inside all j u x in let below : j < i = (let c = a.count in omega arith) in subst (λ p. StandsAt l.others.items p u.own) (sym (place-below i j below)) (subst (λ ts. StandsAt ts j u.own) (sym theirs) (a.theirs j u (omega arith) x)))
        (λ (x : (j ≡ length all) × (l ≡ u)). absurd (other (x.0 ∙ a.count ∙ sym is))) (at-end all l u j e)

    pub one-lane-more : AreNewLanes (n + 1) (all ++ l ∷ [])
    one-lane-more i m e = ⊎_elim
        (λ (x : get_elem? all i ≡ some m). let inside = at-inside all i m x in let b = a.each i m x in (b.0, (a.new i m x (let c = a.count in omega arith)).0, b.1, b.2, among-old i m x))
        (λ (x : (i ≡ length all) × (l ≡ m)). let is = x.0 ∙ a.count in subst (λ w. (home_of w ≡ i) × (lanes_of w ≡ n + 1) × (pushes_of w ≡ []) × (takes_of w ≡ []) × TakesFromAll i (all ++ l ∷ []) w.others.items) x.1 (
          home ∙ sym is,
          ap (λ ts. length ts + 1) theirs ∙ ap (λ c. c + 1) a.mine.0,
          ap (λ d. (view_of d).pushed) mine ∙ a.unused.0,
          both-empty (from_home l.home (view_of l.own).taken) (takes_from l.home 0 l.others.items) (ap (λ d. from_home l.home (view_of d).taken) mine ∙ ap (from_home l.home) a.unused.1) ((λ i. takes_from (home i) 0 (theirs i)) ∙ a.mine.1),
          among-new i is,
        ))
        (at-end all l m i e)

  -- the same, as a caller knows it
  pub lane-added : (n : ℕ) (all new : List (Lane T)) (own : OwnDeque T) (others : List (OtherDeque T)) (l : Lane T) → AreLinked n n all own others → new ≡ all ++ l ∷ [] → l.home ≡ n → l.own ≡ own → l.others.items ≡ others
      → (length new ≡ n + 1) × AreNewLanes (length new) new
  lane-added n all new own others l a is home mine theirs = let long = ap length is ∙ length-snoc all l ∙ ap (λ c. c + 1) a.count in
      (long, subst (λ k. AreNewLanes k new) (sym long) (subst (AreNewLanes (n + 1)) (sym is) (one-lane-more n all own others l a home mine theirs)))

  pub no-lanes : (all : List (Lane T)) → all ≡ [] → AreNewLanes (length all) all
  no-lanes all none i l at = absurd (some-ne-none l (sym at ∙ ap (λ ls. get_elem? ls i) none))
