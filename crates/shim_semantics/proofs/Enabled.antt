-- The walk of a sound tree lists the enabled events, and no others.
use Rattle.std.proofs.Common.{◌≡◌, ℕ, true, Option, Some, None, List, [], ◌∷◌, ◌++◌, ◌↔◌, inl, cond, filter, refl, sym, ap, subst, ◌∙◌}
use Rattle.shim_base.specs.Paths.{Path, Channel, same_path}
use Rattle.shim_local.specs.Process.{Ops}
use Rattle.shim_semantics.specs.Nodes.{Node, state, ready, source, value_of}
use Rattle.shim_semantics.specs.Acts.{Acted}
use Rattle.shim_semantics.specs.Poison.{is_ready_child, is_doomed, can_poison, to_fork, last_branch, poison_route}
use Rattle.shim_semantics.specs.Listing.{ListsEnabled}
use Rattle.shim_base.specs.Lists.{IsAmong}
use Rattle.shim_semantics.specs.Places.{at, route, at_route, led_to, home_is_ready, meets, has_path, SoundBelow}
use Rattle.shim_semantics.specs.Trees.{Tree, Event, Own, Meet, Poison, Close, End, Steps, Ends, Closes, is_its, act_route, acts, count_own, count_event, change_nodes, poisons, met, after, IsQuiescent}
use Rattle.shim_semantics.specs.Walks.{waited, in_order, poisons_here, poisons_of, walk, head}
use Rattle.shim_semantics.specs.Endings.{is_empty}
use Rattle.shim_semantics.proofs.Alone.{does, doer, IsAlone, listed_acts, acts_listed}
use Rattle.shim_semantics.proofs.Members.{among_map, among_mapped, among_filter, among_filtered, among_order, among_ordered}
use Rattle.shim_semantics.proofs.Origins.{Origin, by_node, by_poison, listed, origin}
use Rattle.shim_semantics.proofs.PoisonsListed.{fork_and_last, at_child, ready_child, child_ready, route_poisons, poisons_at, poison_of}
use Rattle.shim_semantics.proofs.Routes.{route_of, acts_at, act_of}
use Rattle.shim_semantics.proofs.Waited.{ready_waited, listed_meets, meets_listed, no_poison_here}
use Rattle.shim_base.proofs.Facts.{some_same, none_some, first_holds, second_holds, both_hold, chosen}
use Rattle.shim_base.proofs.SamePaths.{same_path_refl, same_path_is}

meet_is_no_poison : {A : Type 0} (c d : Channel) (p : Path) → Meet c ≡ Poison p d → A
meet_is_no_poison c d p e = absurd cc

same_poisoned : (p q : Path) (c d : Channel) → Poison p c ≡ Poison q d → p ≡ q
same_poisoned p q c d e = cc

same_poison : (p q : Path) (c d : Channel) → Poison p c ≡ Poison q d → c ≡ d
same_poison p q c d e = cc

module _ {S : Type 0} (o : Ops S) where
  own_some : (p : Path) (t a : Tree S) (x : Option (Acted S)) → count_own p t x ≡ Some a → (y : Acted S) × (x ≡ Some y)
  own_some p t a None e = none_some a e
  own_some p t a (Some y) e = (y, refl)

  other_some : (p : Path) (t a : Tree S) (x : Option (Acted S)) → count_event p t x ≡ Some a → (y : Acted S) × (x ≡ Some y)
  other_some p t a None e = none_some a e
  other_some p t a (Some y) e = (y, refl)

  change_nodes_some : (t a : Tree S) (x : Option (Node S)) → change_nodes t x ≡ Some a → (m : Node S) × (x ≡ Some m)
  change_nodes_some t a None e = none_some a e
  change_nodes_some t a (Some m) e = (m, refl)

  some_change_nodes : (t : Tree S) (m : Node S) → (a : Tree S) × (change_nodes t (Some m) ≡ Some a)
  some_change_nodes t m = (_, refl)

  -- ---- events of a process by itself

  enabled_acts : (e : Event) (t a : Tree S) → IsAlone e → after o e t ≡ Some a → (x : Acted S) × (acts o (does e) (doer e) t.root ≡ Some x)
  enabled_acts (Own p) t a d e = own_some p t a (acts o Steps p t.root) e
  enabled_acts (Meet c) t a d e = absurd (d refl)
  enabled_acts (Poison p c) t a d e = absurd (d refl)
  enabled_acts (Close p) t a d e = other_some p t a (acts o Closes p t.root) e
  enabled_acts (End p) t a d e = other_some p t a (acts o Ends p t.root) e

  acts_enabled : (e : Event) (t : Tree S) (x : Acted S) → IsAlone e → acts o (does e) (doer e) t.root ≡ Some x → (a : Tree S) × (after o e t ≡ Some a)
  acts_enabled (Own p) t x d e = (_, ap (count_own p t) e)
  acts_enabled (Meet c) t x d e = absurd (d refl)
  acts_enabled (Poison p c) t x d e = absurd (d refl)
  acts_enabled (Close p) t x d e = (_, ap (count_event p t) e)
  acts_enabled (End p) t x d e = (_, ap (count_event p t) e)

  alone_listed : (e : Event) (t a : Tree S) → IsAlone e → after o e t ≡ Some a → IsAmong e (walk o t.root)
  alone_listed e t a d h =
      let x = enabled_acts e t a d h in
      let r = route (o.path (state t.root)) (doer e) in
      let w = chosen (is_its o (does e) (doer e) (at_route t.root r)) (act_route o t.root r) x.0 x.1 in
      at_branches r x.0 w.0 w.1
    where
      at_branches : (r : Option (List ℕ)) (x : Acted S) → is_its o (does e) (doer e) (at_route t.root r) ≡ true → act_route o t.root r ≡ Some x → IsAmong e (walk o t.root)
      at_branches None x i f = none_some x f
      at_branches (Some q) x i f =
          let w = acts_at o q t.root x f in
          listed o e t.root (by_node q w.node w.there (acts_listed o e w.node w.acted (ap (is_its o (does e) (doer e)) (sym w.there) ∙ i) w.acts))

  alone_enabled : (e : Event) (t : Tree S) → IsAlone e → SoundBelow o t.root → IsAmong e (walk o t.root) → (a : Tree S) × (after o e t ≡ Some a)
  alone_enabled e t d s h = of_origin (origin o e t.root h)
    where
      of_origin : Origin o e t.root → (a : Tree S) × (after o e t ≡ Some a)
      of_origin (by_node q m there i) =
          let x = listed_acts o e m d i in
          let path = same_path_is (o.path (state m)) (doer e) (first_holds (same_path (o.path (state m)) (doer e)) _ x.1) in
          let place = route_of o t.root m q (doer e) s there path in
          let acted = act_of o q t.root m x.0 there x.2 in
          let its : is_its o (does e) (doer e) (led_to o t.root (doer e)) ≡ true = ap (λ z. is_its o (does e) (doer e) (at_route t.root z)) place ∙ (ap (is_its o (does e) (doer e)) there ∙ x.1) in
          acts_enabled e t acted.0 d
          (ap (λ b. cond b (act_route o t.root (route (o.path (state t.root)) (doer e))) None) its ∙ (ap (act_route o t.root) place ∙ acted.1))
      of_origin (by_poison q l ks i k there child z) =
          let w = among_mapped (Poison (o.path (state k))) e (in_order (filter (poisons_here o l ks i k) (waited o k))) z in
          absurd (d (ap does w.1))

  -- ---- rendezvous

  meet_listed : (c : Channel) (t a : Tree S) → after o (Meet c) t ≡ Some a → IsAmong (Meet c) (walk o t.root)
  meet_listed c t a e = at_branches (route (o.path (state t.root)) c.home) (chosen (meets o c t.root) (Some (met o c (value_of o c (source o c t.root)) t)) a e).0
    where
      found : (q : List ℕ) (x : Option (Node S)) → at q t.root ≡ x → home_is_ready o c x ≡ true → IsAmong (Meet c) (walk o t.root)
      found q None f h = absurd cc
      found q (Some m) f h =
          let path = same_path_is (o.path (state m)) c.home (first_holds (same_path (o.path (state m)) c.home) (ready o c m) h) in
          listed o (Meet c) t.root (by_node q m f (meets_listed o c m
          (both_hold _ _ (ap (same_path c.home) path ∙ same_path_refl c.home) (second_holds (same_path (o.path (state m)) c.home) (ready o c m) h))))

      at_branches : (r : Option (List ℕ)) → home_is_ready o c (at_route t.root r) ≡ true → IsAmong (Meet c) (walk o t.root)
      at_branches None h = absurd cc
      at_branches (Some q) h = found q (at q t.root) refl h

  meet_enabled : (c : Channel) (t : Tree S) → SoundBelow o t.root → IsAmong (Meet c) (walk o t.root) → (a : Tree S) × (after o (Meet c) t ≡ Some a)
  meet_enabled c t s h = of_origin (origin o (Meet c) t.root h)
    where
      of_origin : Origin o (Meet c) t.root → (a : Tree S) × (after o (Meet c) t ≡ Some a)
      of_origin (by_node q m found i) =
          let x = listed_meets o c m i in
          let path : o.path (state m) ≡ c.home = sym (same_path_is c.home (o.path (state m)) (first_holds (same_path c.home (o.path (state m))) _ x)) in
          let there : meets o c t.root ≡ true =
          ap (λ z. home_is_ready o c (at_route t.root z)) (route_of o t.root m q c.home s found path) ∙ (ap (home_is_ready o c) found
          ∙ both_hold _ _ (ap (λ z. same_path z c.home) path ∙ same_path_refl c.home) (second_holds (same_path c.home (o.path (state m))) _ x)) in
          let a = met o c (value_of o c (source o c t.root)) t in
          (a, ap (λ b. cond b (Some a) None) there)
      of_origin (by_poison q l ks i k there child z) =
          let w = among_mapped (Poison (o.path (state k))) (Meet c) (in_order (filter (poisons_here o l ks i k) (waited o k))) z in
          meet_is_no_poison c w.0 (o.path (state k)) w.1

  -- ---- poisons

  poison_listed : (p : Path) (c : Channel) (t a : Tree S) → after o (Poison p c) t ≡ Some a → IsAmong (Poison p c) (walk o t.root)
  poison_listed p c t a e =
      let x = change_nodes_some t a (poisons o p c t.root) e in
      let r = route (o.path (state t.root)) p in
      let w = chosen (has_path o p (at_route t.root r)) (poison_route o c t.root r) x.0 x.1 in
      at_branches r x.0 w.0 w.1
    where
      at_branches : (r : Option (List ℕ)) (m : Node S) → has_path o p (at_route t.root r) ≡ true → poison_route o c t.root r ≡ Some m → IsAmong (Poison p c) (walk o t.root)
      at_branches None m h f = none_some m f
      at_branches (Some []) m h f = none_some m f
      at_branches (Some (i ∷ q)) m h f =
          let last = last_branch i q in
          let x = poisons_at o c last (to_fork i q) t.root m f in
          let waits = first_holds (is_ready_child o c last x.children) (is_doomed o (o.handlers x.parent) c last x.children) x.can in
          let doomed = second_holds (is_ready_child o c last x.children) (is_doomed o (o.handlers x.parent) c last x.children) x.can in
          let y = ready_child o c last last x.children waits in
          let there : at (i ∷ q) t.root ≡ Some y.0 = ap (λ z. at z t.root) (sym (fork_and_last i q)) ∙ (at_child (to_fork i q) last t.root x.parent x.children x.there ∙ y.1) in
          let path : o.path (state y.0) ≡ p = same_path_is (o.path (state y.0)) p (ap (has_path o p) (sym there) ∙ h) in
          let passes = poisons_here o x.parent x.children last y.0 in
          let cs = filter passes (waited o y.0) in
          listed o (Poison p c) t.root (by_poison (to_fork i q) x.parent x.children last y.0 x.there y.1
          (subst (λ z. IsAmong (Poison z c) (poisons_of o x.parent x.children last y.0)) path
          (among_map (Poison (o.path (state y.0))) c (in_order cs) (among_order c cs (among_filter passes c (waited o y.0) (both_hold _ _ y.2 doomed) (ready_waited o c y.0 y.2))))))

  poison_enabled : (p : Path) (c : Channel) (t : Tree S) → SoundBelow o t.root → IsAmong (Poison p c) (walk o t.root) → (a : Tree S) × (after o (Poison p c) t ≡ Some a)
  poison_enabled p c t s h = of_origin (origin o (Poison p c) t.root h)
    where
      of_origin : Origin o (Poison p c) t.root → (a : Tree S) × (after o (Poison p c) t ≡ Some a)
      of_origin (by_node q m there i) = absurd (no_poison_here o p c m i)
      of_origin (by_poison q l ks i k fork child z) =
          let passes = poisons_here o l ks i k in
          let w = among_mapped (Poison (o.path (state k))) (Poison p c) (in_order (filter passes (waited o k))) z in
          let path : o.path (state k) ≡ p = sym (same_poisoned p (o.path (state k)) c w.0 w.1) in
          let passed : passes c ≡ true = ap passes (same_poison p (o.path (state k)) c w.0 w.1) ∙ (among_filtered passes w.0 (waited o k) (among_ordered w.0 (filter passes (waited o k)) w.2)).0 in
          let can : can_poison o l c i ks ≡ true = both_hold _ _ (child_ready o c i i ks k child (first_holds (ready o c k) _ passed)) (second_holds (ready o c k) _ passed) in
          let x = poison_of o c i q t.root l ks fork can in
          let there : at (q ++ i ∷ []) t.root ≡ Some k = at_child q i t.root l ks fork ∙ child in
          let place = route_of o t.root k (q ++ i ∷ []) p s there path in
          let its : has_path o p (led_to o t.root p) ≡ true =
          ap (λ z. has_path o p (at_route t.root z)) place ∙ (ap (has_path o p) there ∙ (ap (λ z. same_path z p) path ∙ same_path_refl p)) in
          let poisoned : poison_route o c t.root (route (o.path (state t.root)) p) ≡ Some x.0 = ap (poison_route o c t.root) place ∙ (route_poisons o c i t.root q ∙ x.1) in
          let a = some_change_nodes t x.0 in
          (a.0, ap (change_nodes t) (ap (λ b. cond b (poison_route o c t.root (route (o.path (state t.root)) p)) None) its ∙ poisoned) ∙ a.1)

  -- ---- all events

  pub enabled_listed : (t a : Tree S) (e : Event) → after o e t ≡ Some a → IsAmong e (walk o t.root)
  enabled_listed t a (Own p) h = alone_listed (Own p) t a (λ z. cc) h
  enabled_listed t a (Meet c) h = meet_listed c t a h
  enabled_listed t a (Poison p c) h = poison_listed p c t a h
  enabled_listed t a (Close p) h = alone_listed (Close p) t a (λ z. cc) h
  enabled_listed t a (End p) h = alone_listed (End p) t a (λ z. cc) h

  pub listed_enabled : (t : Tree S) (e : Event) → SoundBelow o t.root → IsAmong e (walk o t.root) → (a : Tree S) × (after o e t ≡ Some a)
  listed_enabled t (Own p) s h = alone_enabled (Own p) t (λ z. cc) s h
  listed_enabled t (Meet c) s h = meet_enabled c t s h
  listed_enabled t (Poison p c) s h = poison_enabled p c t s h
  listed_enabled t (Close p) s h = alone_enabled (Close p) t (λ z. cc) s h
  listed_enabled t (End p) s h = alone_enabled (End p) t (λ z. cc) s h

  pub lists_enabled : ListsEnabled o
  lists_enabled t e s = (listed_enabled t e s, λ a. enabled_listed t a e)

  -- nothing can happen exactly where the walk is empty
  pub quiescent_empty : (t : Tree S) → SoundBelow o t.root → IsQuiescent o t → walk o t.root ≡ []
  quiescent_empty t s h = none_there (walk o t.root) (λ e i. listed_enabled t e s i)
    where
      none_there : (es : List Event) → ((e : Event) → IsAmong e es → (a : Tree S) × (after o e t ≡ Some a)) → es ≡ []
      none_there [] f = refl
      none_there (e ∷ es) f = let w = f e (inl refl) in none_some w.0 (sym (h e) ∙ w.1)

  pub empty_quiescent : (t : Tree S) → walk o t.root ≡ [] → IsQuiescent o t
  empty_quiescent t h e = none_after (after o e t) refl
    where
      none_among : (es : List Event) → es ≡ [] → IsAmong e es → ⊥
      none_among [] p i = i
      none_among (x ∷ xs) p i = cc

      none_after : (x : Option (Tree S)) → after o e t ≡ x → x ≡ None
      none_after None p = refl
      none_after (Some a) p = absurd (none_among (walk o t.root) h (enabled_listed t a e p))

  -- the same of the test
  pub empty_is_quiescent : (t : Tree S) → SoundBelow o t.root → (is_empty (walk o t.root) ≡ true) ↔ IsQuiescent o t
  empty_is_quiescent t s = (λ h. empty_quiescent t (empty (walk o t.root) h), λ h. ap is_empty (quiescent_empty t s h))
    where
      empty : (es : List Event) → is_empty es ≡ true → es ≡ []
      empty [] p = refl
      empty (x ∷ xs) p = absurd cc

  -- so the first event of the walk is enabled, and where there is none nothing can happen
  pub first_enabled : (t : Tree S) (e : Event) → SoundBelow o t.root → Some e ≡ head (walk o t.root) → after o e t ≡ None → ⊥
  first_enabled t e s h n = let w = listed_enabled t e s (head_among (walk o t.root) h) in none_some w.0 (sym n ∙ w.1)
    where
      head_among : (es : List Event) → Some e ≡ head es → IsAmong e es
      head_among [] p = none_some e (sym p)
      head_among (x ∷ xs) p = inl (some_same e x p)

  pub none_first : (t : Tree S) → None ≡ head (walk o t.root) → IsQuiescent o t
  none_first t h = empty_quiescent t (empty (walk o t.root) h)
    where
      empty : (es : List Event) → None ≡ head es → es ≡ []
      empty [] p = refl
      empty (x ∷ xs) p = none_some x p
