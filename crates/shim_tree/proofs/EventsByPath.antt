-- An event is enabled just where the process of its path can do it.
use Rattle.std.proofs.Common.{◌≡◌, ◌↔◌, ℕ, Bool, true, false, Option, Some, None, List, [], ◌∷◌, ◌&&◌, cond, refl, sym, ap, ◌∙◌}
use Rattle.shim_base.specs.Paths.{Path, Channel, same_path}
use Rattle.shim_local.specs.Process.{Ops, StopView, AtQuiet, AtNext, AtPut, AtFork, AtFinish, AtThrow, AtTrap}
use Rattle.shim_semantics.specs.Nodes.{Node, Live, Forked, Ended, Dead, state, states, all_done, prevailing_death, ready, source, value_of}
use Rattle.shim_semantics.specs.Acts.{Acted, act, act_here, act_live, closed}
use Rattle.shim_semantics.specs.Poison.{poison_route, to_fork, last_branch}
use Rattle.shim_semantics.specs.Places.{at, at_route, route, led_to, has_path, home_is_ready, meets}
use Rattle.shim_semantics.specs.Trees.{Tree, Event, Own, Meet, Poison, Close, End, OwnAction, Steps, Ends, Closes, Nothing, own_action_of, own_action_at, same_own_action, is_its, act_route, acts, count_own, count_event, change_nodes, poisons, met, after}
use Rattle.shim_semantics.proofs.Routes.{acts_at, act_of}
use Rattle.shim_semantics.proofs.PoisonsListed.{poisons_at, poison_of}
use Rattle.shim_tree.specs.ChildCounts.{live_in}
use Rattle.shim_tree.specs.ByPath.{if_its, its_node, passes_there, can_do, can_close, can_poison_at, can_poison_by, can_happen}
use Rattle.shim_base.proofs.Facts.{some_same, none_some, first_holds, second_holds, both_hold, chosen, cond_there}

some_of : {A : Type 0} (x : Option A) → (x ≡ None → ⊥) → (y : A) × (x ≡ Some y)
some_of None h = absurd (h refl)
some_of (Some y) h = (y, refl)

no_none : {A : Type 0} (x : Option A) (y : A) → x ≡ Some y → x ≡ None → ⊥
no_none x y e n = none_some y (sym n ∙ e)

-- where nobody lives, nobody does what a live process does
module _ {S : Type 0} (o : Ops S) (k : OwnAction) (closes : same_own_action k Closes ≡ false) (nothing : same_own_action k Nothing ≡ false) where
  live_does : (n : Node S) (l : S) → live_in (Some n) ≡ Some l → can_do o k n ≡ same_own_action k (own_action_at (o.stop l))
  live_does (Live m) l e = ap (λ z. same_own_action k (own_action_at (o.stop z))) (some_same m l e)
  live_does (Forked m ks) l e = none_some l e
  live_does (Ended m) l e = none_some l e
  live_does (Dead m d) l e = none_some l e

module _ {S : Type 0} (o : Ops S) (root : Node S) (p : Path) where
  -- a test of the node that is found and of whether it is that of the path
  parts : (f : Node S → Bool) (b : Bool) (n : Node S) → passes_there f (cond b (Some n) None) ≡ true → (b ≡ true) × (f n ≡ true)
  parts f true n e = (refl, e)
  parts f false n e = absurd cc

  module _ (k : OwnAction) (f : Node S → Bool) where
    module _ (can : (n : Node S) → f n ≡ true → (same_own_action k (own_action_of o n) ≡ true) × (a : Acted S) × (act_here o n ≡ Some a)) where
      from_node : (q : List ℕ) (x : Option (Node S)) → at q root ≡ x → passes_there f (if_its o p x) ≡ true → (a : Acted S) × (cond (is_its o k p (at q root)) (act o q root) None ≡ Some a)
      from_node q None h e = absurd cc
      from_node q (Some n) h e =
          let w = parts f (same_path (o.path (state n)) p) n e in
          let i = can n w.1 in
          let y = act_of o q root n i.1 h i.2 in
          (y.0, ap (λ z. cond (is_its o k p z) (act o q root) None) h ∙ (ap (λ b. cond b (act o q root) None) (both_hold (same_path (o.path (state n)) p) (same_own_action k (own_action_of o n)) w.0 i.0) ∙ y.1))

      from_route : (r : Option (List ℕ)) → passes_there f (if_its o p (at_route root r)) ≡ true → (a : Acted S) × (cond (is_its o k p (at_route root r)) (act_route o root r) None ≡ Some a)
      from_route None e = absurd cc
      from_route (Some q) e = from_node q (at q root) refl e

      acts_where : passes_there f (its_node o root p) ≡ true → (a : Acted S) × (acts o k p root ≡ Some a)
      acts_where = from_route (route (o.path (state root)) p)

    module _ (does : (n : Node S) (a : Acted S) → same_own_action k (own_action_of o n) ≡ true → act_here o n ≡ Some a → f n ≡ true) where
      to_route : (r : Option (List ℕ)) (a : Acted S) → cond (is_its o k p (at_route root r)) (act_route o root r) None ≡ Some a → passes_there f (if_its o p (at_route root r)) ≡ true
      to_route None a e = none_some a e
      to_route (Some q) a e =
          let w = chosen (is_its o k p (at q root)) (act o q root) a e in
          let y = acts_at o q root a w.1 in
          let its : same_path (o.path (state y.node)) p && same_own_action k (own_action_of o y.node) ≡ true = ap (is_its o k p) (sym y.there) ∙ w.0 in
          ap (λ z. passes_there f (if_its o p z)) y.there
          ∙ (ap (λ b. passes_there f (cond b (Some y.node) None)) (first_holds (same_path (o.path (state y.node)) p) (same_own_action k (own_action_of o y.node)) its)
          ∙ does y.node y.acted (second_holds (same_path (o.path (state y.node)) p) (same_own_action k (own_action_of o y.node)) its) y.acts)

      where_acts : (a : Acted S) → acts o k p root ≡ Some a → passes_there f (its_node o root p) ≡ true
      where_acts = to_route (route (o.path (state root)) p)

module _ {S : Type 0} (o : Ops S) where
  -- ---- what a process does by itself

  live_steps : (l : S) (s : StopView) → same_own_action Steps (own_action_at s) ≡ true → (a : Acted S) × (act_live o l s ≡ Some a)
  live_steps l AtQuiet e = (_, refl)
  live_steps l AtPut e = (_, refl)
  live_steps l AtFork e = (_, refl)
  live_steps l AtFinish e = absurd cc
  live_steps l (AtNext c) e = absurd cc
  live_steps l (AtThrow label) e = (_, refl)
  live_steps l (AtTrap kind line) e = (_, refl)

  live_ends : (l : S) (s : StopView) → same_own_action Ends (own_action_at s) ≡ true → (a : Acted S) × (act_live o l s ≡ Some a)
  live_ends l AtQuiet e = absurd cc
  live_ends l AtPut e = absurd cc
  live_ends l AtFork e = absurd cc
  live_ends l AtFinish e = (_, refl)
  live_ends l (AtNext c) e = absurd cc
  live_ends l (AtThrow label) e = absurd cc
  live_ends l (AtTrap kind line) e = absurd cc

  none_closes : (s : StopView) → same_own_action Closes (own_action_at s) ≡ true → ⊥
  none_closes AtQuiet e = absurd cc
  none_closes AtPut e = absurd cc
  none_closes AtFork e = absurd cc
  none_closes AtFinish e = absurd cc
  none_closes (AtNext c) e = absurd cc
  none_closes (AtThrow label) e = absurd cc
  none_closes (AtTrap kind line) e = absurd cc

  steps : (n : Node S) → can_do o Steps n ≡ true → (same_own_action Steps (own_action_of o n) ≡ true) × (a : Acted S) × (act_here o n ≡ Some a)
  steps (Live l) e = let w = live_steps l (o.stop l) e in (e, w.0, w.1)
  steps (Forked l ks) e = absurd cc
  steps (Ended l) e = absurd cc
  steps (Dead l d) e = absurd cc

  ends : (n : Node S) → can_do o Ends n ≡ true → (same_own_action Ends (own_action_of o n) ≡ true) × (a : Acted S) × (act_here o n ≡ Some a)
  ends (Live l) e = let w = live_ends l (o.stop l) e in (e, w.0, w.1)
  ends (Forked l ks) e = absurd cc
  ends (Ended l) e = absurd cc
  ends (Dead l d) e = absurd cc

  closes : (n : Node S) → can_close n ≡ true → (same_own_action Closes (own_action_of o n) ≡ true) × (a : Acted S) × (act_here o n ≡ Some a)
  closes (Live l) e = absurd cc
  closes (Forked l ks) e =
      let a : Acted S = closed o l (states ks) (prevailing_death ks) in
      (refl, a, ap (λ b. cond b (Some a) None) e)
  closes (Ended l) e = absurd cc
  closes (Dead l d) e = absurd cc

  can_close_where : (n : Node S) (a : Acted S) → same_own_action Closes (own_action_of o n) ≡ true → act_here o n ≡ Some a → can_close n ≡ true
  can_close_where (Live l) a e h = absurd (none_closes (o.stop l) e)
  can_close_where (Forked l ks) a e h = (chosen (all_done ks) _ a h).0
  can_close_where (Ended l) a e h = absurd cc
  can_close_where (Dead l d) a e h = absurd cc

  -- ---- rendezvous

  meets_is : (c : Channel) (x : Option (Node S)) → home_is_ready o c x ≡ passes_there (ready o c) (if_its o c.home x)
  meets_is c None = refl
  meets_is c (Some n) = both_ways (same_path (o.path (state n)) c.home) (ready o c n) n refl
    where
      both_ways : (b r : Bool) (n : Node S) → ready o c n ≡ r → b && r ≡ passes_there (ready o c) (cond b (Some n) None)
      both_ways true r n e = sym e
      both_ways false r n e = refl

  -- ---- poisons

  poison_there : (c : Channel) (root : Node S) (r : Option (List ℕ)) → can_poison_by o c root r ≡ true → (m : Node S) × (poison_route o c root r ≡ Some m)
  poison_there c root None e = absurd cc
  poison_there c root (Some []) e = absurd cc
  poison_there c root (Some (i ∷ q)) e = of_node (at (to_fork i q) root) refl e
    where
      of_node : (x : Option (Node S)) → at (to_fork i q) root ≡ x → passes_there (can_poison_at o c (last_branch i q)) x ≡ true → (m : Node S) × (poison_route o c root (Some (i ∷ q)) ≡ Some m)
      of_node None h e = absurd cc
      of_node (Some (Live l)) h e = absurd cc
      of_node (Some (Forked l ks)) h e = poison_of o c (last_branch i q) (to_fork i q) root l ks h e
      of_node (Some (Ended l)) h e = absurd cc
      of_node (Some (Dead l d)) h e = absurd cc

  there_poison : (c : Channel) (root m : Node S) (r : Option (List ℕ)) → poison_route o c root r ≡ Some m → can_poison_by o c root r ≡ true
  there_poison c root m None e = none_some m e
  there_poison c root m (Some []) e = none_some m e
  there_poison c root m (Some (i ∷ q)) e =
      let w = poisons_at o c (last_branch i q) (to_fork i q) root m e in
      ap (passes_there (can_poison_at o c (last_branch i q))) w.there ∙ w.can

  -- ---- all events

  pub can_happen_where : (t : Tree S) (e : Event) → (can_happen o e t.root ≡ true) ↔ (after o e t ≡ None → ⊥)
  can_happen_where t (Own p) = (
    λ h. let a = acts_where o t.root p Steps (can_do o Steps) steps h in no_none (after o (Own p) t) _ (ap (count_own p t) a.1),
    λ h. let a = some_of (acts o Steps p t.root) (λ n. h (ap (count_own p t) n)) in where_acts o t.root p Steps (can_do o Steps) (λ n x s i. s) a.0 a.1,
  )
  can_happen_where t (Meet c) =
      let u : Tree S = met o c (value_of o c (source o c t.root)) t in
      let same = meets_is c (led_to o t.root c.home) in (
        λ h. no_none (after o (Meet c) t) u (ap (λ b. cond b (Some u) None) (same ∙ h)),
        λ h. sym same ∙ (cond_there (meets o c t.root) (Some u) h).0,
      )
  can_happen_where t (Poison p c) =
      let r = route (o.path (state t.root)) p in
      let has = has_path o p (led_to o t.root p) in (
        λ h.
            let m = poison_there c t.root r (second_holds has (can_poison_by o c t.root r) h) in
            no_none (after o (Poison p c) t) _ (ap (change_nodes t) (ap (λ b. cond b (poison_route o c t.root r) None) (first_holds has (can_poison_by o c t.root r) h) ∙ m.1)),
        λ h.
            let m = some_of (poisons o p c t.root) (λ n. h (ap (change_nodes t) n)) in
            let w = chosen has (poison_route o c t.root r) m.0 m.1 in
            both_hold has (can_poison_by o c t.root r) w.0 (there_poison c t.root m.0 r w.1),
      )
  can_happen_where t (Close p) = (
    λ h. let a = acts_where o t.root p Closes can_close closes h in no_none (after o (Close p) t) _ (ap (count_event p t) a.1),
    λ h. let a = some_of (acts o Closes p t.root) (λ n. h (ap (count_event p t) n)) in where_acts o t.root p Closes can_close can_close_where a.0 a.1,
  )
  can_happen_where t (End p) = (
    λ h. let a = acts_where o t.root p Ends (can_do o Ends) ends h in no_none (after o (End p) t) _ (ap (count_event p t) a.1),
    λ h. let a = some_of (acts o Ends p t.root) (λ n. h (ap (count_event p t) n)) in where_acts o t.root p Ends (can_do o Ends) (λ n x s i. s) a.0 a.1,
  )
