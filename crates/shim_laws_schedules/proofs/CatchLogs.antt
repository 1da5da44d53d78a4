-- By what an event logs it has a process catch a label, or doesn't.
use Rattle.std.proofs.Common.{◌≡◌, ◌≤◌, ℕ, ℤ, true, false, Option, Some, None, List, [], ◌∷◌, ◌++◌, inl, inr, cond, ltb, refl, sym, ap, subst, ◌∙◌, ltb-false, le-ltb}
use Rattle.std.proofs.lemmas.List.{append-nil, append_cancel_left}
use Rattle.std.specs.Prelude.{unwrap_or}
use Rattle.std.specs.FinMap as map
use Rattle.std.specs.FinMap.{get-insert}
use Rattle.std.specs.Cmp.{eq_by_cmp_equiv}
use Rattle.shim_base.specs.Paths.{Path, path_order}
use Rattle.shim_base.specs.PathLaws.{path_order_total, exact_path}
use Rattle.shim_local.specs.Process.{Ops, StopView, AtQuiet, AtNext, AtPut, AtFork, AtFinish, AtThrow, AtTrap}
use Rattle.shim_local.specs.declared.LogWhat.{LogWhat}
use Rattle.shim_local.specs.declared.LogWhat.TheVariants.{Caught, Trap as LoggedTrap}
use Rattle.shim_semantics.specs.Nodes.{handed, Node, Nodes, Live, Forked, Ended, Dead, death_with, Death, state, states, all_done, prevailing_death, source, value_of}
use Rattle.shim_semantics.specs.Acts.{Acted, nothing, putting, catch_logged, thrown, throwing, closed, act_live, act_here}
use Rattle.shim_semantics.specs.Places.{at, at_route, route, meets, StandsAt}
use Rattle.shim_semantics.specs.Trees.{Tree, Event, Own, Meet, Poison, Close, End, own_action_of, own_action_at, same_own_action, logs_at, with_logs, change_nodes, poisons, met, after}
use Rattle.shim_semantics.proofs.Alone.{does, doer, does_close}
use Rattle.shim_laws_schedules.proofs.Entries.{get_other}
use Rattle.shim_laws_schedules.proofs.Elsewhere.{closing}
use Rattle.shim_laws_schedules.proofs.EventParts.{EventParts, split_event, its_kind}
use Rattle.shim_laws_schedules.proofs.PoisonDiamond.{nodes_changed_some}
use Rattle.shim_laws_schedules.specs.Throws.{Throws, ClosesWith, Catches, by_throw, by_close, catcher, CatchesAreLogged}
use Rattle.shim_laws_schedules.proofs.Events.{paths_same}
use Rattle.shim_laws_schedules.proofs.Threw.{does_steps, split_in_tree}
use Rattle.shim_base.proofs.Facts.{some_same, none_some, cond_some, true_or_false}

-- ---- what the map of the logs has afterwards

logs_more : (m : map.FinMap path_order (List LogWhat)) (p : Path) (ws : List LogWhat) → logs_at (with_logs m p ws) p ≡ logs_at m p ++ ws
logs_more m p [] = sym (append-nil (logs_at m p))
logs_more m p (w ∷ ws) = ap (λ z. unwrap_or z []) (get-insert path_order_total m p (logs_at m p ++ w ∷ ws) p ∙ ap (λ b. cond b (Some (logs_at m p ++ w ∷ ws)) (map.get m p)) ((eq_by_cmp_equiv path_order_total).refl p))

logs_other : (m : map.FinMap path_order (List LogWhat)) (p q : Path) (ws : List LogWhat) → (p ≡ q → ⊥) → logs_at (with_logs m p ws) q ≡ logs_at m q
logs_other m p q [] n = refl
logs_other m p q (w ∷ ws) n = ap (λ z. unwrap_or z []) (get_other path_order_total exact_path m p q (logs_at m p ++ w ∷ ws) n)

-- where nothing is logged no catch is
nothing_more : {A : Type 0} (us ws more : List LogWhat) (name line : ℕ) → us ≡ ws → us ≡ ws ++ Caught name line ∷ more → A
nothing_more us ws more name line e f =
    let w = append_cancel_left ws [] (Caught name line ∷ more) (append-nil ws ∙ (sym e ∙ f)) in
    absurd (cc w)

nodes_changed_logs : {S : Type 0} (t u : Tree S) (r : Option (Node S)) → change_nodes t r ≡ Some u → u.logs ≡ t.logs
nodes_changed_logs t u r e = ap (λ z. z.logs) (sym (nodes_changed_some t u r e).2)

module _ {S : Type 0} (o : Ops S) where
  -- ---- what a throw logs

  caught_logs : (l : S) (x : Death) → o.base l ≤ x.label → (thrown o l x).effects ≡ catch_logged (o.handler l x.label)
  caught_logs l x h =
      let dies : Acted S = record { node = Dead l x; effects = nothing } in
      let goes_on : Acted S = record { node = Live (o.unwind l x.label (handed x.given)); effects = catch_logged (o.handler l x.label) } in
      ap (λ b. (cond b dies goes_on).effects) (le-ltb x.label (o.base l) h)

  logs_caught : (l : S) (x : Death) (name line : ℕ) (more : List LogWhat) → (thrown o l x).effects.logs ≡ Caught name line ∷ more → (o.base l ≤ x.label) × (o.handler l x.label ≡ (name, line))
  logs_caught l x name line more e =
      let dies : Acted S = record { node = Dead l x; effects = nothing } in
      let goes_on : Acted S = record { node = Live (o.unwind l x.label (handed x.given)); effects = catch_logged (o.handler l x.label) } in
      elim (true_or_false (ltb x.label (o.base l))) [
        | inl y ↦ let none : [] ≡ Caught name line ∷ more = sym (ap (λ b. (cond b dies goes_on).effects.logs) y) ∙ e in absurd (cc none)
        | inr n ↦
            let one : Caught (o.handler l x.label).0 (o.handler l x.label).1 ∷ [] ≡ Caught name line ∷ more = sym (ap (λ b. (cond b dies goes_on).effects.logs) n) ∙ e in
            let name_is : (o.handler l x.label).0 ≡ name = cc one in
            let line_is : (o.handler l x.label).1 ≡ line = cc one in
            (ltb-false x.label (o.base l) n, λ i. (name_is i, line_is i))
      ]

  -- ---- and what a node does

  -- its process throws a label and catches it, or closes its fork and catches the prevailing one there
  data NodeCatches (m : Node S) (name line : ℕ) : Type 0 where
    at_throw : (k : S) (x : ℕ) (v : ℤ) → m ≡ Live k → o.stop k ≡ AtThrow x → o.number k ≡ Some v → o.base k ≤ x → o.handler k x ≡ (name, line) → NodeCatches m name line
    at_close : (k : S) (ks : Nodes S) (x : Death) → m ≡ Forked k ks → all_done ks ≡ true → prevailing_death ks ≡ Some x → o.base (o.join k (states ks) false) ≤ x.label → o.handler (o.join k (states ks) false) x.label ≡ (name, line) → NodeCatches m name line

  putting_logs : (b : Option ℕ) → (putting b).logs ≡ []
  putting_logs None = refl
  putting_logs (Some b) = refl

  throwing_catches : (l : S) (x : ℕ) (r : Option ℤ) (name line : ℕ) (more : List LogWhat) → o.stop l ≡ AtThrow x → o.number l ≡ r → (throwing o l x r).effects.logs ≡ Caught name line ∷ more → NodeCatches (Live l) name line
  throwing_catches l x None name line more at is f = let none : [] ≡ Caught name line ∷ more = f in absurd (cc none)
  throwing_catches l x (Some v) name line more at is f = let w = logs_caught l (death_with x v) name line more f in at_throw l x v refl at is w.0 w.1

  live_catches : (l : S) (v : StopView) (a : Acted S) (name line : ℕ) (more : List LogWhat) → o.stop l ≡ v → act_live o l v ≡ Some a → a.effects.logs ≡ Caught name line ∷ more → NodeCatches (Live l) name line
  live_catches l AtQuiet a name line more at e f = let none : [] ≡ Caught name line ∷ more = ap (λ z. z.effects.logs) (some_same _ a e) ∙ f in absurd (cc none)
  live_catches l AtPut a name line more at e f = let none : [] ≡ Caught name line ∷ more = sym (putting_logs (o.byte l)) ∙ (ap (λ z. z.effects.logs) (some_same _ a e) ∙ f) in absurd (cc none)
  live_catches l AtFork a name line more at e f = let none : [] ≡ Caught name line ∷ more = ap (λ z. z.effects.logs) (some_same _ a e) ∙ f in absurd (cc none)
  live_catches l AtFinish a name line more at e f = let none : [] ≡ Caught name line ∷ more = ap (λ z. z.effects.logs) (some_same _ a e) ∙ f in absurd (cc none)
  live_catches l (AtNext c) a name line more at e f = none_some a e
  live_catches l (AtThrow x) a name line more at e f =
      throwing_catches l x (o.number l) name line more at refl (ap (λ z. z.effects.logs) (some_same (throwing o l x (o.number l)) a e) ∙ f)
  live_catches l (AtTrap kind number) a name line more at e f = let count_event : LoggedTrap kind number ∷ [] ≡ Caught name line ∷ more = ap (λ z. z.effects.logs) (some_same _ a e) ∙ f in absurd (cc count_event)

  closed_catches : (l : S) (ks : Nodes S) (r : Option Death) (name line : ℕ) (more : List LogWhat) → all_done ks ≡ true → prevailing_death ks ≡ r → (closed o l (states ks) r).effects.logs ≡ Caught name line ∷ more → NodeCatches (Forked l ks) name line
  closed_catches l ks None name line more d g f = let none : [] ≡ Caught name line ∷ more = f in absurd (cc none)
  closed_catches l ks (Some x) name line more d g f = let w = logs_caught (o.join l (states ks) false) x name line more f in at_close l ks x refl d g w.0 w.1

  node_catches : (m : Node S) (a : Acted S) (name line : ℕ) (more : List LogWhat) → act_here o m ≡ Some a → a.effects.logs ≡ Caught name line ∷ more → NodeCatches m name line
  node_catches (Live l) a name line more e f = live_catches l (o.stop l) a name line more refl e f
  node_catches (Ended l) a name line more e f = none_some a e
  node_catches (Dead l x) a name line more e f = none_some a e
  node_catches (Forked l ks) a name line more e f =
      let w = closing o l ks a e in
      closed_catches l ks (prevailing_death ks) name line more w.0 refl (ap (λ z. z.effects.logs) w.1 ∙ f)

  -- ---- the node of an event

  module _ (t u : Tree S) (e : Event) (w : EventParts o e t u) where
    old_is : (p : Path) (n : Node S) → p ≡ doer e → StandsAt o t.root p n → w.old ≡ n
    old_is p n at s = some_same w.old n (sym w.there ∙ (ap (at_route t.root) (sym w.route_is) ∙ (ap (λ z. at_route t.root (route (o.path (state t.root)) z)) (sym at) ∙ s.there)))

    alone_logs : (p : Path) → p ≡ doer e → logs_at u.logs p ≡ logs_at t.logs p ++ w.new.effects.logs
    alone_logs p at = ap (logs_at u.logs) at ∙ (ap (λ z. logs_at z.logs (doer e)) (sym w.is) ∙ (logs_more t.logs (doer e) w.new.effects.logs ∙ ap (λ z. logs_at t.logs z ++ w.new.effects.logs) (sym at)))

    others_logs : (p : Path) → (doer e ≡ p → ⊥) → logs_at u.logs p ≡ logs_at t.logs p
    others_logs p n = ap (λ z. logs_at z.logs p) (sym w.is) ∙ logs_other t.logs (doer e) p w.new.effects.logs n

    -- a catch that it logs
    catch_of : (p : Path) (name line : ℕ) → p ≡ doer e → NodeCatches w.old name line → (x : ℕ) × (v : ℤ) × (c : Catches o t e p x v) × (o.handler (catcher c) x ≡ (name, line))
    catch_of p name line at (at_throw k x v live throws gives low handler) =
        let is : e ≡ Own (doer e) = does_steps e (ap (same_own_action (does e)) (sym (ap (own_action_of o) live ∙ ap own_action_at throws)) ∙ its_kind o e t u w) in
        let c : Throws o t e p x v = record { is = is ∙ ap Own (sym at); thrower = k; in_tree = split_in_tree o e t u w p (Live k) at live; throws = throws; gives = gives } in
        (x, v, by_throw c low, handler)
    catch_of p name line at (at_close k ks x forked done least low handler) =
        let is : e ≡ Close (doer e) = does_close e (ap (same_own_action (does e)) (sym (ap (own_action_of o) forked)) ∙ its_kind o e t u w) in
        let c : ClosesWith o t e p x.label (handed x.given) = record { is = is ∙ ap Close (sym at); parent = k; children = ks; in_tree = split_in_tree o e t u w p (Forked k ks) at forked; done = done; death = x; prevails = least; labelled = refl; hands = refl } in
        (x.label, handed x.given, by_close c low, handler)

    alone_caught : (p : Path) (name line : ℕ) (more : List LogWhat) → logs_at u.logs p ≡ logs_at t.logs p ++ Caught name line ∷ more → (x : ℕ) × (v : ℤ) × (c : Catches o t e p x v) × (o.handler (catcher c) x ≡ (name, line))
    alone_caught p name line more f = elim (paths_same p (doer e)) [
      | inl at ↦
          let effects = append_cancel_left (logs_at t.logs p) w.new.effects.logs (Caught name line ∷ more) (sym (alone_logs p at) ∙ f) in
          catch_of p name line at (node_catches w.old w.new name line more w.here effects)
      | inr n ↦ nothing_more (logs_at u.logs p) (logs_at t.logs p) more name line (others_logs p (λ z. n (sym z))) f
    ]

    -- and what it logs where it catches a label
    throw_logs : (p : Path) (x : ℕ) (v : ℤ) (c : Throws o t e p x v) → o.base c.thrower ≤ x → logs_at u.logs p ≡ logs_at t.logs p ++ Caught (o.handler c.thrower x).0 (o.handler c.thrower x).1 ∷ []
    throw_logs p x v c low =
        let at : p ≡ doer e = sym (ap doer c.is) in
        let old = old_is p (Live c.thrower) at c.in_tree in
        let new : thrown o c.thrower (death_with x v) ≡ w.new =
        ap (throwing o c.thrower x) (sym c.gives) ∙ some_same (throwing o c.thrower x (o.number c.thrower)) w.new (sym (ap (act_live o c.thrower) c.throws) ∙ (ap (act_here o) (sym old) ∙ w.here)) in
        alone_logs p at ∙ ap (λ z. logs_at t.logs p ++ z.logs) (sym (ap (λ z. z.effects) new) ∙ caught_logs c.thrower (death_with x v) low)

    close_logs : (p : Path) (x : ℕ) (v : ℤ) (c : ClosesWith o t e p x v) → o.base (o.join c.parent (states c.children) false) ≤ x
        → logs_at u.logs p ≡ logs_at t.logs p ++ Caught (o.handler (o.join c.parent (states c.children) false) x).0 (o.handler (o.join c.parent (states c.children) false) x).1 ∷ []
    close_logs p x v c low =
        let at : p ≡ doer e = sym (ap doer c.is) in
        let old = old_is p (Forked c.parent c.children) at c.in_tree in
        let joined = o.join c.parent (states c.children) false in
        let left = closing o c.parent c.children w.new (ap (act_here o) (sym old) ∙ w.here) in
        let new : thrown o joined c.death ≡ w.new = sym (ap (closed o c.parent (states c.children)) c.prevails) ∙ left.1 in
        let caught : (thrown o joined c.death).effects ≡ catch_logged (o.handler joined x) =
        caught_logs joined c.death (subst (λ z. o.base joined ≤ z) (sym c.labelled) low) ∙ ap (λ z. catch_logged (o.handler joined z)) c.labelled in
        alone_logs p at ∙ ap (λ z. logs_at t.logs p ++ z.logs) (sym (ap (λ z. z.effects) new) ∙ caught)

  -- ---- every event

  caught_logged : (t u : Tree S) (e : Event) (p : Path) (x : ℕ) (v : ℤ) → after o e t ≡ Some u → (c : Catches o t e p x v) → logs_at u.logs p ≡ logs_at t.logs p ++ Caught (o.handler (catcher c) x).0 (o.handler (catcher c) x).1 ∷ []
  caught_logged t u e p x v h (by_throw c low) = throw_logs t u e (split_event o e t u (λ z. let w = sym z ∙ ap does c.is in absurd (cc w)) h) p x v c low
  caught_logged t u e p x v h (by_close c low) = close_logs t u e (split_event o e t u (λ z. let w = sym z ∙ ap does c.is in absurd (cc w)) h) p x v c low

  logged_caught : (t u : Tree S) (e : Event) (p : Path) (name line : ℕ) (more : List LogWhat) → after o e t ≡ Some u → logs_at u.logs p ≡ logs_at t.logs p ++ Caught name line ∷ more
      → (x : ℕ) × (v : ℤ) × (c : Catches o t e p x v) × (o.handler (catcher c) x ≡ (name, line))
  logged_caught t u (Own q) p name line more h f = alone_caught t u (Own q) (split_event o (Own q) t u (λ z. absurd cc) h) p name line more f
  logged_caught t u (Close q) p name line more h f = alone_caught t u (Close q) (split_event o (Close q) t u (λ z. absurd cc) h) p name line more f
  logged_caught t u (End q) p name line more h f = alone_caught t u (End q) (split_event o (End q) t u (λ z. absurd cc) h) p name line more f
  logged_caught t u (Poison q c) p name line more h f =
      nothing_more (logs_at u.logs p) (logs_at t.logs p) more name line (ap (λ z. logs_at z p) (nodes_changed_logs t u (poisons o q c t.root) h)) f
  logged_caught t u (Meet c) p name line more h f =
      let w = cond_some (meets o c t.root) (met o c (value_of o c (source o c t.root)) t) u h in
      nothing_more (logs_at u.logs p) (logs_at t.logs p) more name line (ap (λ z. logs_at z.logs p) (sym w.1)) f

  pub catches_are_logged : CatchesAreLogged o
  catches_are_logged = record { logged = caught_logged; caught = logged_caught }
