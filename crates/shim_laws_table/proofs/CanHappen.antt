-- What can happen follows from records and counts, and is found at them.
use Rattle.std.proofs.Common.{◌≡◌, ◌≢◌, ◌↔◌, ◌⊎◌, ◌<◌, ℕ, suc, ◌+◌, Bool, true, false, ◌&&◌, not, Option, Some, None, List, [], ◌∷◌, ◌++◌, cond, inl, inr, refl, sym, ap, subst, ◌∙◌, arith, if◌then◌else◌}
use Rattle.shim_base.specs.Paths.{Path, Channel, same_path}
use Rattle.shim_local.specs.Process.{Ops, StopView, AtQuiet, AtNext, AtPut, AtFork, AtFinish, AtThrow, AtTrap}
use Rattle.shim_local.specs.Laws.{LocalLaws}
use Rattle.shim_semantics.specs.Nodes.{Node, Nodes, Live, Forked, Ended, Dead, no_node, node_and, state, states, goes, all_done, prevailing_death, ready, source, value_of}
use Rattle.shim_semantics.specs.Acts.{Acted, act_here, act_live, closed}
use Rattle.shim_semantics.specs.Poison.{can_poison, poison, poison_route, to_fork, last_branch}
use Rattle.shim_semantics.specs.Places.{at, child_at, route, at_route, led_to, home_is_ready, meets, has_path}
use Rattle.shim_semantics.specs.Trees.{Tree, Event, Own, Meet, Poison, Close, End, OwnAction, Steps, Ends, Closes, Nothing, own_action_of, own_action_at, same_own_action, after, met, poisons, change_nodes}
use Rattle.shim_semantics.proofs.Alone.{doer, does, IsAlone}
use Rattle.shim_semantics.proofs.Routes.{route_of}
use Rattle.shim_semantics.proofs.PoisonsListed.{fork_and_last, at_child as child_there, poisons_at, poison_of, route_poisons}
use Rattle.shim_laws_schedules.proofs.EventParts.{split_event, its_path, its_kind, join_event}
use Rattle.shim_laws_schedules.proofs.PoisonDiamond.{nodes_changed_some}
use Rattle.shim_base.proofs.Facts.{some_same, none_some, first_holds, second_holds, both_hold, cond_some, cond_there, not_false, false_not}
use Rattle.shim_base.proofs.SamePaths.{same_path_is, same_path_refl}
use Rattle.shim_laws_table.specs.NodeStatus.{ProcessStatus, lives, forks, process_status, place, how_many_nodes}
use Rattle.shim_laws_table.specs.Agrees.{RecordView, Has, Represents}
use Rattle.shim_laws_table.specs.Counts.{going_of, tally_ready}
use Rattle.shim_laws_table.specs.Dooms.{min_dead_label_among, is_below}
use Rattle.shim_laws_table.specs.Enabled.{Can, EnabledByRecords, IsAt, at_step, at_end, at_close, at_home, at_child, EnabledAreFound, NothingNew}
use Rattle.shim_laws_table.proofs.SameTrees.{seen_live, seen_some, child_counted}
use Rattle.shim_laws_table.proofs.OneChange.{one_state}
use Rattle.shim_laws_table.proofs.OneTree.{covered}
use Rattle.shim_laws_table.proofs.Begun.{fork_parts}
use Rattle.shim_laws_table.proofs.Closing.{one_less}
use Rattle.shim_laws_table.proofs.Forking.{one_branch}
use Rattle.shim_laws_table.proofs.Readiness.{by_counts}
use Rattle.shim_laws_table.proofs.MinLabels.{min_labels_decide}
use Rattle.shim_laws_table.proofs.EventPlaces.{has_poisoned}

-- what isn't none is something
there_is : {A : Type 0} (x : Option A) → x ≢ None → (y : A) × (x ≡ Some y)
there_is None h = absurd (h refl)
there_is (Some y) h = (y, refl)

not_none : {A : Type 0} (x : Option A) (y : A) → x ≡ Some y → x ≢ None
not_none x y e f = none_some y (sym f ∙ e)

steps_is : (k : OwnAction) → same_own_action Steps k ≡ true → k ≡ Steps
steps_is Steps e = refl
steps_is Ends e = absurd cc
steps_is Closes e = absurd cc
steps_is Nothing e = absurd cc

ends_is : (k : OwnAction) → same_own_action Ends k ≡ true → k ≡ Ends
ends_is Steps e = absurd cc
ends_is Ends e = refl
ends_is Closes e = absurd cc
ends_is Nothing e = absurd cc

-- none goes on just where all are done
none_goes : {S : Type 0} (ks : Nodes S) → all_done ks ≡ true → going_of ks ≡ 0
none_goes no_node e = refl
none_goes (node_and k ks) e =
    ap (λ b. if b then suc (going_of ks) else going_of ks) (not_false (goes k) (first_holds (not (goes k)) (all_done ks) e)) ∙ none_goes ks (second_holds (not (goes k)) (all_done ks) e)

all_are_done : {S : Type 0} (ks : Nodes S) → going_of ks ≡ 0 → all_done ks ≡ true
all_are_done no_node e = refl
all_are_done (node_and k ks) e = on (goes k) refl e (all_are_done ks)
  where
    on : (b : Bool) → goes k ≡ b → (if b then suc (going_of ks) else going_of ks) ≡ 0 → (going_of ks ≡ 0 → all_done ks ≡ true) → all_done (node_and k ks) ≡ true
    on true w h f = absurd (omega (arith, h))
    on false w h f = both_hold (not (goes k)) (all_done ks) (false_not (goes k) w) (f h)

module _ {S : Type 0} (o : Ops S) where
  live_acts : (l : S) (k : OwnAction) (s : StopView) → same_own_action k (own_action_at s) ≡ true → (a : Acted S) × (act_live o l s ≡ Some a)
  live_acts l k AtQuiet e = (_, refl)
  live_acts l k AtPut e = (_, refl)
  live_acts l k AtFork e = (_, refl)
  live_acts l k AtFinish e = (_, refl)
  live_acts l k (AtThrow label) e = (_, refl)
  live_acts l k (AtTrap kind line) e = (_, refl)
  live_acts l Steps (AtNext c) e = absurd cc
  live_acts l Ends (AtNext c) e = absurd cc
  live_acts l Closes (AtNext c) e = absurd cc
  live_acts l Nothing (AtNext c) e = absurd cc

  module _ (rp : Path) (records : List S) (views : List RecordView) (t : Tree S) (s : Represents o rp records views t.root) where
    module _ (l : S) (m : Node S) (there : at (place o rp l) t.root ≡ Some m) (is : state m ≡ l) where
      led : route (o.path (state t.root)) (o.path l) ≡ Some (place o rp l)
      led = route_of o t.root m (place o rp l) (o.path l) s.sound.below there (ap o.path is)

      -- an event of the process by itself
      alone_kind : (e : Event) → IsAlone e → doer e ≡ o.path l → Can o t e → same_own_action (does e) (own_action_of o m) ≡ true
      alone_kind e d its can =
          let u = there_is (after o e t) can in
          let x = split_event o e t u.0 d u.1 in
          let place_is : x.place ≡ place o rp l = some_same x.place (place o rp l) (sym x.route_is ∙ (ap (route (o.path (state t.root))) its ∙ led)) in
          let same : x.old ≡ m = some_same x.old m (sym x.there ∙ (ap (λ z. at z t.root) place_is ∙ there)) in
          ap (λ z. same_own_action (does e) (own_action_of o z)) (sym same) ∙ its_kind o e t u.0 x

      alone_can : (e : Event) (a : Acted S) → IsAlone e → doer e ≡ o.path l → same_own_action (does e) (own_action_of o m) ≡ true → act_here o m ≡ Some a → Can o t e
      alone_can e a d its kind acts =
          not_none (after o e t) _ (join_event o e t (place o rp l) m a d (ap (route (o.path (state t.root))) its ∙ led) there
          (both_hold (same_path (o.path (state m)) (doer e)) (same_own_action (does e) (own_action_of o m)) (ap (λ z. same_path z (doer e)) (ap o.path is ∙ sym its) ∙ same_path_refl (doer e)) kind) acts)

      -- the rendezvous of a channel that it declared
      meets_is : (c : Channel) → o.path l ≡ c.home → meets o c t.root ≡ ready o c m
      meets_is c home =
          ap (λ z. home_is_ready o c (at_route t.root z)) (ap (route (o.path (state t.root))) (sym home) ∙ led)
          ∙ (ap (home_is_ready o c) there ∙ ap (λ b. b && ready o c m) (ap (λ z. same_path z c.home) (ap o.path is ∙ home) ∙ same_path_refl c.home))

      meet_can : (c : Channel) → o.path l ≡ c.home → Can o t (Meet c) ↔ (ready o c m ≡ true)
      meet_can c home =
          let u : Tree S = met o c (value_of o c (source o c t.root)) t in (
            (λ can. sym (meets_is c home) ∙ (cond_there (meets o c t.root) (Some u) can).0),
            (λ r. not_none (after o (Meet c) t) u (ap (λ b. cond b (Some u) None) (meets_is c home ∙ r))),
          )

    live_there : (i f : ℕ) (l : S) → Has records views i f l lives → at (place o rp l) t.root ≡ Some (Live l)
    live_there i f l has = seen_live (at (place o rp l) t.root) l (s.agrees.shown i f l lives has)

    steps : (i f : ℕ) (l : S) → Has records views i f l lives → Can o t (Own (o.path l)) ↔ (own_action_at (o.stop l) ≡ Steps)
    steps i f l has = (
      (λ can. steps_is (own_action_at (o.stop l)) (alone_kind l (Live l) (live_there i f l has) refl (Own (o.path l)) (λ z. cc) refl can)),
      (λ e. let k : same_own_action Steps (own_action_at (o.stop l)) ≡ true = ap (same_own_action Steps) e in let a = live_acts l Steps (o.stop l) k in
          alone_can l (Live l) (live_there i f l has) refl (Own (o.path l)) a.0 (λ z. cc) refl k a.1),
    )

    ends : (i f : ℕ) (l : S) → Has records views i f l lives → Can o t (End (o.path l)) ↔ (own_action_at (o.stop l) ≡ Ends)
    ends i f l has = (
      (λ can. ends_is (own_action_at (o.stop l)) (alone_kind l (Live l) (live_there i f l has) refl (End (o.path l)) (λ z. cc) refl can)),
      (λ e. let k : same_own_action Ends (own_action_at (o.stop l)) ≡ true = ap (same_own_action Ends) e in let a = live_acts l Ends (o.stop l) k in
          alone_can l (Live l) (live_there i f l has) refl (End (o.path l)) a.0 (λ z. cc) refl k a.1),
    )

    closes : (l : S) (ks : Nodes S) → at (place o rp l) t.root ≡ Some (Forked l ks) → Can o t (Close (o.path l)) ↔ (going_of ks ≡ 0)
    closes l ks there = (forth, back)
      where
        forth : Can o t (Close (o.path l)) → going_of ks ≡ 0
        forth can =
            let u = there_is (after o (Close (o.path l)) t) can in
            let x = split_event o (Close (o.path l)) t u.0 (λ z. cc) u.1 in
            let place_is : x.place ≡ place o rp l = some_same x.place (place o rp l) (sym x.route_is ∙ led l (Forked l ks) there refl) in
            let same : x.old ≡ Forked l ks = some_same x.old (Forked l ks) (sym x.there ∙ (ap (λ z. at z t.root) place_is ∙ there)) in
            none_goes ks (cond_some (all_done ks) (closed o l (states ks) (prevailing_death ks)) x.new (ap (act_here o) (sym same) ∙ x.here)).0

        back : going_of ks ≡ 0 → Can o t (Close (o.path l))
        back e =
            let a : Acted S = closed o l (states ks) (prevailing_death ks) in
            alone_can l (Forked l ks) there refl (Close (o.path l)) a (λ z. cc) refl refl (ap (λ b. cond b (Some a) None) (all_are_done ks e))

    -- ---- a poison

    poison_there : (c : Channel) (p : Path) (q : List ℕ) (b : ℕ) (k : Node S) (u : Node S) → route (o.path (state t.root)) p ≡ Some (q ++ b ∷ []) → at (q ++ b ∷ []) t.root ≡ Some k → o.path (state k) ≡ p → poison o c b q t.root ≡ Some u → poisons o p c t.root ≡ Some u
    poison_there c p q b k u led there its e =
        let at_its : has_path o p (led_to o t.root p) ≡ true = ap (λ z. has_path o p (at_route t.root z)) led ∙ (ap (has_path o p) there ∙ (ap (λ z. same_path z p) its ∙ same_path_refl p)) in
        ap (λ z. cond z (poison_route o c t.root (route (o.path (state t.root)) p)) None) at_its ∙ (ap (poison_route o c t.root) led ∙ (route_poisons o c b t.root q ∙ e))

    module _ (law : LocalLaws o) (c : Channel) (i g n b f : ℕ) (l k : S) (x : ProcessStatus) (ks : Nodes S) (m : Node S) (fork : Has records views i g l (forks n)) (child : Has records views (g + b) f k x) (less : b < n)
        (there : at (place o rp l) t.root ≡ Some (Forked l ks)) (is_child : child_at b [] ks ≡ Some m) where
      child_place : place o rp k ≡ place o rp l ++ b ∷ []
      child_place = let z = s.agrees.below i g n l fork b less in ap (place o rp) (one_state records views (g + b) f z.0 k z.1 x z.2 child z.3) ∙ z.4

      at_m : at (place o rp l ++ b ∷ []) t.root ≡ Some m
      at_m = child_there (place o rp l) b t.root l ks there ∙ is_child

      its_state : state m ≡ k
      its_state =
          let w = seen_some (at (place o rp k) t.root) k x (s.agrees.shown (g + b) f k x child) in
          ap state (some_same m w.0 (sym at_m ∙ (ap (λ z. at z t.root) (sym child_place) ∙ w.1))) ∙ w.2

      led_child : route (o.path (state t.root)) (o.path k) ≡ Some (place o rp l ++ b ∷ [])
      led_child = route_of o t.root m (place o rp l ++ b ∷ []) (o.path k) s.sound.below at_m (ap o.path its_state)

      poison_forth : Can o t (Poison (o.path k) c) → can_poison o l c b ks ≡ true
      poison_forth can =
          let u = there_is (after o (Poison (o.path k) c) t) can in
          let w = nodes_changed_some t u.0 (poisons o (o.path k) c t.root) u.1 in
          let y = has_poisoned o (o.path k) c t.root w.0 w.1 in
          let z = poisons_at o c (last_branch y.place y.further) (to_fork y.place y.further) t.root w.0 y.is in
          let whole : to_fork y.place y.further ++ last_branch y.place y.further ∷ [] ≡ place o rp l ++ b ∷ [] = fork_and_last y.place y.further ∙ some_same (y.place ∷ y.further) (place o rp l ++ b ∷ []) (sym y.route_is ∙ led_child) in
          let fork_is = one_less (to_fork y.place y.further) (place o rp l) (last_branch y.place y.further) b whole in
          let branch_is : last_branch y.place y.further ≡ b = one_branch (place o rp l) (last_branch y.place y.further) b (ap (λ v. v ++ last_branch y.place y.further ∷ []) (sym fork_is) ∙ whole) in
          let parts = fork_parts o c z.parent l z.children ks (sym z.there ∙ (ap (λ v. at v t.root) fork_is ∙ there)) in
          subst (λ v. can_poison o l c v ks ≡ true) branch_is (subst (λ v. can_poison o l c (last_branch y.place y.further) v ≡ true) parts.1 (subst (λ v. can_poison o v c (last_branch y.place y.further) z.children ≡ true) parts.0 z.can))

      poison_back : can_poison o l c b ks ≡ true → Can o t (Poison (o.path k) c)
      poison_back h =
          let u = poison_of o c b (place o rp l) t.root l ks there h in
          let e = poison_there c (o.path k) (place o rp l) b m u.0 led_child at_m (ap o.path its_state) u.1 in
          not_none (after o (Poison (o.path k) c) t) _ (ap (change_nodes t) e)

      poison_can : Can o t (Poison (o.path k) c) ↔ ((o.shares l c ≡ true) × (ready o c m ≡ true) × (is_below (min_dead_label_among o c ks) (o.handlers l) ≡ true))
      poison_can =
          let w = (min_labels_decide o law).poisons t.root (place o rp l) l ks b m c s.sound there is_child in
          ((λ can. w.0 (poison_forth can)), (λ h. poison_back (w.1 h)))

    -- ---- where an enabled event is found

    -- the record of a node
    record Found (q : List ℕ) (m : Node S) : Type 0 where
      pub number : ℕ
      pub first : ℕ
      pub has : Has records views number first (state m) (process_status m)
      pub placed : place o rp (state m) ≡ q

    found : (q : List ℕ) (m : Node S) → at q t.root ≡ Some m → Found q m
    found q m e =
        let c = covered o rp records views s.rooted t.root s.agrees q m e in
        let same = some_same (c.state_is, c.status_is) (state m, process_status m) c.is_seen in
        record {
          number = c.number;
          first = c.first;
          has = subst (λ z. Has records views c.number c.first (state m) z) (ap (λ z. z.1) same) (subst (λ z. Has records views c.number c.first z c.status_is) (ap (λ z. z.0) same) c.has);
          placed = ap (place o rp) (sym (ap (λ z. z.0) same)) ∙ c.is_there;
        }

    live_of : (m : Node S) → own_action_of o m ≡ Steps ⊎ own_action_of o m ≡ Ends → process_status m ≡ lives
    live_of (Live l) e = refl
    live_of (Forked l ks) (inl e) = absurd cc
    live_of (Forked l ks) (inr e) = absurd cc
    live_of (Ended l) (inl e) = absurd cc
    live_of (Ended l) (inr e) = absurd cc
    live_of (Dead l d) (inl e) = absurd cc
    live_of (Dead l d) (inr e) = absurd cc

    fork_of : (m : Node S) → same_own_action Closes (own_action_of o m) ≡ true → (n : ℕ) × (process_status m ≡ forks n)
    fork_of (Live l) e = never (o.stop l) e
      where
        never : {B : Type 0} (v : StopView) → same_own_action Closes (own_action_at v) ≡ true → B
        never AtQuiet w = absurd cc
        never AtPut w = absurd cc
        never AtFork w = absurd cc
        never AtFinish w = absurd cc
        never (AtNext d) w = absurd cc
        never (AtThrow x) w = absurd cc
        never (AtTrap a b) w = absurd cc
    fork_of (Forked l ks) e = (how_many_nodes ks, refl)
    fork_of (Ended l) e = absurd cc
    fork_of (Dead l d) e = absurd cc

    goes_of : (c : Channel) (m : Node S) → ready o c m ≡ true → (process_status m ≡ lives) ⊎ ((n : ℕ) × (process_status m ≡ forks n))
    goes_of c (Live l) e = inl refl
    goes_of c (Forked l ks) e = inr (how_many_nodes ks, refl)
    goes_of c (Ended l) e = absurd cc
    goes_of c (Dead l d) e = absurd cc

    -- where a channel's rendezvous is enabled its home is there and ready
    ready_home : (c : Channel) (r : Option (List ℕ)) → home_is_ready o c (at_route t.root r) ≡ true → (q : List ℕ) × (m : Node S) × (at q t.root ≡ Some m) × (o.path (state m) ≡ c.home) × (ready o c m ≡ true)
    ready_home c None e = absurd cc
    ready_home c (Some q) e = on (at q t.root) refl e
      where
        on : (x : Option (Node S)) → at q t.root ≡ x → home_is_ready o c x ≡ true → (q : List ℕ) × (m : Node S) × (at q t.root ≡ Some m) × (o.path (state m) ≡ c.home) × (ready o c m ≡ true)
        on None w h = absurd cc
        on (Some m) w h = (q, m, w, same_path_is (o.path (state m)) c.home (first_holds (same_path (o.path (state m)) c.home) (ready o c m) h), second_holds (same_path (o.path (state m)) c.home) (ready o c m) h)

    found_at : (e : Event) → Can o t e → (i : ℕ) × IsAt o records views e i
    found_at (Own p) can =
        let u = there_is (after o (Own p) t) can in
        let x = split_event o (Own p) t u.0 (λ z. cc) u.1 in
        let w = found x.place x.old x.there in
        (w.number, at_step w.number w.first (state x.old) p (subst (Has records views w.number w.first (state x.old)) (live_of x.old (inl (steps_is (own_action_of o x.old) (its_kind o (Own p) t u.0 x)))) w.has) (its_path o (Own p) t u.0 x))
    found_at (End p) can =
        let u = there_is (after o (End p) t) can in
        let x = split_event o (End p) t u.0 (λ z. cc) u.1 in
        let w = found x.place x.old x.there in
        (w.number, at_end w.number w.first (state x.old) p (subst (Has records views w.number w.first (state x.old)) (live_of x.old (inr (ends_is (own_action_of o x.old) (its_kind o (End p) t u.0 x)))) w.has) (its_path o (End p) t u.0 x))
    found_at (Close p) can =
        let u = there_is (after o (Close p) t) can in
        let x = split_event o (Close p) t u.0 (λ z. cc) u.1 in
        let w = found x.place x.old x.there in
        let n = fork_of x.old (its_kind o (Close p) t u.0 x) in
        (w.number, at_close w.number w.first n.0 (state x.old) p (subst (Has records views w.number w.first (state x.old)) n.1 w.has) (its_path o (Close p) t u.0 x))
    found_at (Meet c) can =
        let y = ready_home c (route (o.path (state t.root)) c.home) (cond_there (meets o c t.root) (Some (met o c (value_of o c (source o c t.root)) t)) can).0 in
        let w = found y.0 y.1 y.2 in
        (w.number, at_home w.number w.first (state y.1) (process_status y.1) c w.has (goes_of c y.1 y.4) y.3)
    found_at (Poison p c) can =
        let u = there_is (after o (Poison p c) t) can in
        let v = nodes_changed_some t u.0 (poisons o p c t.root) u.1 in
        let y = has_poisoned o p c t.root v.0 v.1 in
        let z = poisons_at o c (last_branch y.place y.further) (to_fork y.place y.further) t.root v.0 y.is in
        let b = last_branch y.place y.further in
        let w = found (to_fork y.place y.further) (Forked z.parent z.children) z.there in
        let is_child : child_at b [] z.children ≡ Some y.child = sym (child_there (to_fork y.place y.further) b t.root z.parent z.children z.there) ∙ (ap (λ q. at q t.root) (fork_and_last y.place y.further) ∙ y.there) in
        let less = child_counted b [] z.children y.child is_child in
        let x = s.agrees.below w.number w.first (how_many_nodes z.children) z.parent w.has b less in
        let m = seen_some (at (place o rp x.1) t.root) x.1 x.2 (s.agrees.shown (w.first + b) x.0 x.1 x.2 x.3) in
        let same : y.child ≡ m.0 = some_same y.child m.0 (sym y.there ∙ (ap (λ q. at q t.root) (sym (x.4 ∙ (ap (λ q. q ++ b ∷ []) w.placed ∙ fork_and_last y.place y.further))) ∙ m.1)) in
        (w.number, at_child w.number w.first (how_many_nodes z.children) b x.0 z.parent x.1 x.2 p c w.has less x.3 (ap o.path (sym m.2) ∙ (ap (λ z. o.path (state z)) (sym same) ∙ y.path)))

  pub enabled_by_records : LocalLaws o → EnabledByRecords o
  enabled_by_records law = record {
    steps = λ rp records views t i f l s has. steps rp records views t s i f l has;
    ends = λ rp records views t i f l s has. ends rp records views t s i f l has;
    closes = λ rp records views t i f n l ks s has there. closes rp records views t s l ks there;
    meets_alone = λ rp records views t c i f l s has home. meet_can rp records views t s l (Live l) (live_there rp records views t s i f l has) refl c home;
    meets_forked = λ rp records views t c i f n l ks s has home there.
        let w = meet_can rp records views t s l (Forked l ks) there refl c home in
        ((λ can. sym (by_counts o c l ks) ∙ w.0 can), (λ e. w.1 (by_counts o c l ks ∙ e)));
    poisons = λ rp records views t c i g n b f l k x ks m s fork child less there is_child. poison_can rp records views t s law c i g n b f l k x ks m fork child less there is_child;
  }

  pub enabled_are_found : EnabledAreFound o
  enabled_are_found rp records views t e s can = found_at rp records views t s e can

  pub nothing_new : LocalLaws o → NothingNew o
  nothing_new law =
      let by = enabled_by_records law in record {
        steps = λ rp before behind old_views views t u i f g l s r old new. (
          (λ can. (by.steps rp before old_views t i f l s old).1 ((by.steps rp behind views u i g l r new).0 can)),
          (λ can. (by.ends rp before old_views t i f l s old).1 ((by.ends rp behind views u i g l r new).0 can)),
        );
        closes = λ rp before behind old_views views t u i f g n l ks js s r old new there here same can.
            (by.closes rp before old_views t i f n l ks s old there).1 (sym same ∙ (by.closes rp behind views u i g n l js r new here).0 can);
        meets_alone = λ rp before behind old_views views t u c i f g l s r old new home can.
            (by.meets_alone rp before old_views t c i f l s old home).1 ((by.meets_alone rp behind views u c i g l r new home).0 can);
        meets_forked = λ rp before behind old_views views t u c i f g n l ks js s r old new home there here same can.
            (by.meets_forked rp before old_views t c i f n l ks s old home there).1 (ap tally_ready (sym same) ∙ (by.meets_forked rp behind views u c i g n l js r new home here).0 can);
        poisons = λ rp before behind old_views views t u c i d g n b f h l j k x y ks js m a s r old new less child kid path there here is_m is_a ready_on label can.
            let w = (by.poisons rp behind views u c i g n b h l k y js a r new kid less here is_a).0 can in
            (by.poisons rp before old_views t c i d n b f l j x ks m s old child less there is_m).1 (w.0, sym ready_on ∙ w.1, ap (λ z. is_below z (o.handlers l)) (sym label) ∙ w.2);
      }
