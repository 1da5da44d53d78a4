-- An event of one process by itself, taken apart into its node and what that leaves, and put together again.
use Rattle.std.proofs.Common.{◌≡◌, ℕ, zero, suc, ◌+◌, true, Option, Some, None, List, [], ◌∷◌, ◌++◌, cond, refl, sym, ap, ◌∙◌}
use Rattle.std.specs.FinMap as map
use Rattle.shim_base.specs.Paths.{Path, path_order, same_path}
use Rattle.shim_local.specs.Process.{Ops}
use Rattle.shim_local.specs.Laws.{LocalLaws}
use Rattle.shim_semantics.specs.Nodes.{Node, Nodes, Live, Forked, Ended, Dead, no_node, node_and, state}
use Rattle.shim_semantics.specs.Acts.{Effects, Acted, act, act_child, act_here, within, in_front, in_later}
use Rattle.shim_semantics.specs.Places.{at, child_at, route, at_route, led_to, SoundBelow}
use Rattle.shim_semantics.specs.Trees.{Tree, Event, Own, Meet, Poison, Close, End, OwnAction, Steps, Ends, Closes, Nothing, own_action_of, same_own_action, is_its, act_route, acts, count_own, count_event, with_step_counted, with_logs, after}
use Rattle.shim_semantics.proofs.Alone.{does, doer, IsAlone}
use Rattle.shim_semantics.proofs.ReplacedNodes.{put, put_child, acts_there}
use Rattle.shim_semantics.proofs.Replaced.{sound_at}
use Rattle.shim_semantics.proofs.SoundEvents.{here_keeps}
use Rattle.shim_laws_schedules.proofs.Steady.{act_path}
use Rattle.shim_base.proofs.Facts.{some_same, none_some, first_holds, second_holds, chosen}
use Rattle.shim_base.proofs.SamePaths.{same_path_is}

-- the own steps of each process after the event, and how many events were none
abbrev pub counted : Event → map.FinMap path_order ℕ → map.FinMap path_order ℕ
counted (Own p) m = with_step_counted m p
counted (Meet c) m = m
counted (Poison p c) m = m
counted (Close p) m = m
counted (End p) m = m

abbrev pub one_later : Event → ℕ → ℕ
one_later (Own p) n = n
one_later (Meet c) n = n + 1
one_later (Poison p c) n = n + 1
one_later (Close p) n = n + 1
one_later (End p) n = n + 1

pub later_twice : (e : Event) (n : ℕ) → one_later e (n + 1) ≡ one_later e n + 1
later_twice (Own p) n = refl
later_twice (Meet c) n = refl
later_twice (Poison p c) n = refl
later_twice (Close p) n = refl
later_twice (End p) n = refl

-- the event by which the process of the path does something of this kind
abbrev made : OwnAction → Path → Event
made Steps p = Own p
made Ends p = End p
made Closes p = Close p
made Nothing p = Own p

made_is : (e : Event) → IsAlone e → made (does e) (doer e) ≡ e
made_is (Own p) d = refl
made_is (Meet c) d = absurd (d refl)
made_is (Poison p c) d = absurd (d refl)
made_is (Close p) d = refl
made_is (End p) d = refl

kinds_same : (k j : OwnAction) → same_own_action k j ≡ true → k ≡ j
kinds_same Steps Steps e = refl
kinds_same Ends Ends e = refl
kinds_same Closes Closes e = refl
kinds_same _ _ e = absurd cc

-- the tree after an event of one process that left this root and has these effects
abbrev pub with_effects : {S : Type 0} → Event → Tree S → Node S → Effects → Tree S
with_effects e t n s = record { root = n; output = t.output ++ s.bytes; histories = t.histories; logs = with_logs t.logs (doer e) s.logs; counts = counted e t.counts; events = one_later e t.events }

-- the same where there may be none
abbrev with_effects_if : {S : Type 0} → Event → Tree S → Option (Acted S) → Option (Tree S)
with_effects_if e t None = None
with_effects_if e t (Some a) = Some (with_effects e t a.node a.effects)

module _ {S : Type 0} (o : Ops S) where
  own_with_effects : (p : Path) (t : Tree S) (x : Option (Acted S)) → count_own p t x ≡ with_effects_if (Own p) t x
  own_with_effects p t None = refl
  own_with_effects p t (Some a) = refl

  close_with_effects : (p : Path) (t : Tree S) (x : Option (Acted S)) → count_event p t x ≡ with_effects_if (Close p) t x
  close_with_effects p t None = refl
  close_with_effects p t (Some a) = refl

  end_with_effects : (p : Path) (t : Tree S) (x : Option (Acted S)) → count_event p t x ≡ with_effects_if (End p) t x
  end_with_effects p t None = refl
  end_with_effects p t (Some a) = refl

  after_with_effects : (e : Event) (t : Tree S) → IsAlone e → after o e t ≡ with_effects_if e t (acts o (does e) (doer e) t.root)
  after_with_effects (Own p) t d = own_with_effects p t (acts o Steps p t.root)
  after_with_effects (Meet c) t d = absurd (d refl)
  after_with_effects (Poison p c) t d = absurd (d refl)
  after_with_effects (Close p) t d = close_with_effects p t (acts o Closes p t.root)
  after_with_effects (End p) t d = end_with_effects p t (acts o Ends p t.root)

  with_effects_some : (e : Event) (t a : Tree S) (x : Option (Acted S)) → with_effects_if e t x ≡ Some a → (y : Acted S) × (x ≡ Some y) × (with_effects e t y.node y.effects ≡ a)
  with_effects_some e t a None h = none_some a h
  with_effects_some e t a (Some y) h = (y, refl, some_same (with_effects e t y.node y.effects) a h)

  -- what the node at these branches leaves stands in its place
  mutual
    pub act_put : (q : List ℕ) (n m : Node S) (a : Acted S) → at q n ≡ Some m → act_here o m ≡ Some a → act o q n ≡ Some (record { node = put q a.node n; effects = a.effects })
    act_put [] n m a e h = ap (act_here o) (some_same n m e) ∙ h
    act_put (i ∷ q) (Live l) m a e h = none_some m e
    act_put (i ∷ q) (Ended l) m a e h = none_some m e
    act_put (i ∷ q) (Dead l x) m a e h = none_some m e
    act_put (i ∷ q) (Forked l ks) m a e h = ap (within l) (act_put_in i q ks m a e h)

    act_put_in : (i : ℕ) (q : List ℕ) (ks : Nodes S) (m : Node S) (a : Acted S) → child_at i q ks ≡ Some m → act_here o m ≡ Some a → act_child o i q ks ≡ Some (put_child i q a.node ks, a.effects)
    act_put_in i q no_node m a e h = none_some m e
    act_put_in zero q (node_and k ks) m a e h = ap (in_front ks) (act_put q k m a e h)
    act_put_in (suc i) q (node_and k ks) m a e h = ap (in_later k) (act_put_in i q ks m a e h)

  -- and the path of the root stays
  pub root_path : LocalLaws o → (q : List ℕ) (n m : Node S) (a : Acted S) → SoundBelow o n → at q n ≡ Some m → act_here o m ≡ Some a → o.path (state (put q a.node n)) ≡ o.path (state n)
  root_path law q n m a s e h = act_path o q [] n m n (put q a.node n) a e h (here_keeps o law m a (sound_at o q n m s e) h).follows.path refl refl

  -- an event of one process that led from the first tree to the second
  pub record EventParts (e : Event) (t a : Tree S) : Type 0 where
    pub place : List ℕ
    pub old : Node S
    pub new : Acted S
    pub route_is : route (o.path (state t.root)) (doer e) ≡ Some place
    pub there : at place t.root ≡ Some old
    pub its : is_its o (does e) (doer e) (Some old) ≡ true
    pub here : act_here o old ≡ Some new
    pub is : with_effects e t (put place new.node t.root) new.effects ≡ a

  split_at : (e : Event) (t a : Tree S) (x : Acted S) (r : Option (List ℕ)) → route (o.path (state t.root)) (doer e) ≡ r → is_its o (does e) (doer e) (at_route t.root r) ≡ true → act_route o t.root r ≡ Some x → with_effects e t x.node x.effects ≡ a → EventParts e t a
  split_at e t a x None h i f g = none_some x f
  split_at e t a x (Some q) h i f g =
      let y = acts_there o q t.root x f in
      record {
        place = q;
        old = y.old;
        new = y.new;
        route_is = h;
        there = y.there;
        its = ap (is_its o (does e) (doer e)) (sym y.there) ∙ i;
        here = y.here;
        is = ap (λ (z : Acted S). with_effects e t z.node z.effects) y.is ∙ g;
      }

  pub split_event : (e : Event) (t a : Tree S) → IsAlone e → after o e t ≡ Some a → EventParts e t a
  split_event e t a d h =
      let x = with_effects_some e t a (acts o (does e) (doer e) t.root) (sym (after_with_effects e t d) ∙ h) in
      let r = route (o.path (state t.root)) (doer e) in
      let w = chosen (is_its o (does e) (doer e) (led_to o t.root (doer e))) (act_route o t.root r) x.0 x.1 in
      split_at e t a x.0 r refl w.0 w.1 x.2

  -- the node is of the event's process, and does what the event has it do
  pub its_path : (e : Event) (t a : Tree S) → (x : EventParts e t a) → o.path (state x.old) ≡ doer e
  its_path e t a x = same_path_is (o.path (state x.old)) (doer e) (first_holds (same_path (o.path (state x.old)) (doer e)) (same_own_action (does e) (own_action_of o x.old)) x.its)

  pub its_kind : (e : Event) (t a : Tree S) → (x : EventParts e t a) → same_own_action (does e) (own_action_of o x.old) ≡ true
  its_kind e t a x = second_holds (same_path (o.path (state x.old)) (doer e)) (same_own_action (does e) (own_action_of o x.old)) x.its

  -- so two events of one node are one
  pub one_event : (e f : Event) (t a b : Tree S) → IsAlone e → IsAlone f → (x : EventParts e t a) → (y : EventParts f t b) → x.place ≡ y.place → e ≡ f
  one_event e f t a b d g x y h =
      let same : x.old ≡ y.old = some_same x.old y.old (sym x.there ∙ (ap (λ z. at z t.root) h ∙ y.there)) in
      let path : doer e ≡ doer f = sym (its_path e t a x) ∙ (ap (λ z. o.path (state z)) same ∙ its_path f t b y) in
      let kind : does e ≡ does f = kinds_same (does e) (own_action_of o x.old) (its_kind e t a x) ∙ (ap (own_action_of o) same ∙ sym (kinds_same (does f) (own_action_of o y.old) (its_kind f t b y))) in
      sym (made_is e d) ∙ ((λ i. made (kind i) (path i)) ∙ made_is f g)

  -- put together again
  pub join_event : (e : Event) (t : Tree S) (q : List ℕ) (m : Node S) (a : Acted S) → IsAlone e → route (o.path (state t.root)) (doer e) ≡ Some q → at q t.root ≡ Some m → is_its o (does e) (doer e) (Some m) ≡ true → act_here o m ≡ Some a
      → after o e t ≡ Some (with_effects e t (put q a.node t.root) a.effects)
  join_event e t q m a d r h i f =
      let r' = route (o.path (state t.root)) (doer e) in
      let its : is_its o (does e) (doer e) (led_to o t.root (doer e)) ≡ true = ap (λ z. is_its o (does e) (doer e) (at_route t.root z)) r ∙ (ap (is_its o (does e) (doer e)) h ∙ i) in
      let acted : acts o (does e) (doer e) t.root ≡ Some (record { node = put q a.node t.root; effects = a.effects }) =
      ap (λ b. cond b (act_route o t.root r') None) its ∙ (ap (act_route o t.root) r ∙ act_put q t.root m a h f) in
      after_with_effects e t d ∙ ap (with_effects_if e t) acted
