-- The least label of dead sharers decides who is doomed; and how it follows a change.
use Rattle.std.proofs.Common.{◌≡◌, ◌≤◌, ◌<◌, ◌+◌, ℕ, zero, suc, Bool, true, false, ◌&&◌, ◌||◌, Option, Some, None, List, [], ◌∷◌, ◌++◌, length, cond, refl, sym, ap, subst, ◌∙◌, ltb, ltb-true, ltb-false, min, arith, not, inl, inr, ◌≢◌}
use Rattle.std.proofs.lemmas.Bool.{lt-ltb}
use Rattle.std.proofs.lemmas.List.{append-nil, length-append}
use Rattle.shim_base.specs.Paths.{Path, Channel}
use Rattle.shim_local.specs.Process.{Ops}
use Rattle.shim_local.specs.Laws.{LocalLaws}
use Rattle.shim_semantics.specs.Nodes.{Node, Nodes, Live, Forked, Ended, Dead, no_node, node_and, state, ready}
use Rattle.shim_semantics.specs.Poison.{dooms, any_dooms, is_doomed, is_ready_child, can_poison}
use Rattle.shim_semantics.specs.Places.{at, child_at, IsChild, SoundBelow, SoundChildren}
use Rattle.shim_semantics.specs.Sound.{IsSound}
use Rattle.shim_semantics.proofs.ReplacedNodes.{put, put_child}
use Rattle.shim_semantics.proofs.Replaced.{sound_at}
use Rattle.shim_semantics.proofs.PoisonsListed.{at_child as child_there, ready_child, child_ready}
use Rattle.shim_laws_schedules.specs.Waiting.{all_wait, all_wait_below, is_unshared, all_unshared}
use Rattle.shim_laws_schedules.proofs.Homes.{NotBelow, ready_all_wait, child_further, unshared_is_unshared}
use Rattle.shim_laws_schedules.proofs.Dooms.{poisoned_shares}
use Rattle.shim_base.proofs.Facts.{some_same, none_some, first_holds, second_holds, both_hold, not_false, false_unless}
use Rattle.shim_laws_table.specs.Places.{IsReplaced}
use Rattle.shim_laws_table.specs.Tallied.{is_above, IsCounted}
use Rattle.shim_laws_table.specs.Dooms.{lesser, min_dead_label, min_dead_label_among, is_below, MinLabelsDecide, MinLabelsFollow}
use Rattle.shim_laws_table.proofs.SameTrees.{is_put}
use Rattle.shim_laws_table.proofs.PlacesAbove.{untouched, way_from, with_split, fork_above}
use Rattle.shim_laws_table.proofs.Begun.{fork_parts}
use Rattle.shim_laws_table.proofs.Hanging.{home_above, given_child, given_place}

min_ltb : (x y h : ℕ) → ltb (min x y) h ≡ ltb x h || ltb y h
min_ltb x y h = on (ltb x h) (ltb y h) refl refl
  where
    on : (a b : Bool) → ltb x h ≡ a → ltb y h ≡ b → ltb (min x y) h ≡ ltb x h || ltb y h
    on true b e f = lt-ltb (min x y) h (below x y h (ltb-true x h e)) ∙ sym (ap (λ z. z || ltb y h) e)
      where
        below : (x y h : ℕ) → x < h → min x y < h
        below x y h w = omega (arith, w)
    on false true e f = lt-ltb (min x y) h (below x y h (ltb-true y h f)) ∙ sym (λ i. e i || f i)
      where
        below : (x y h : ℕ) → y < h → min x y < h
        below x y h w = omega (arith, w)
    on false false e f = never (ltb (min x y) h) refl ∙ sym (λ i. e i || f i)
      where
        below : (x y h : ℕ) → h ≤ x → h ≤ y → min x y < h → ⊥
        below x y h u v w = omega (arith, u, v, w)

        never : (d : Bool) → ltb (min x y) h ≡ d → ltb (min x y) h ≡ false
        never true w = absurd (below x y h (ltb-false x h e) (ltb-false y h f) (ltb-true (min x y) h w))
        never false w = w

lesser_below : (x y : Option ℕ) (h : ℕ) → is_below (lesser x y) h ≡ is_below x h || is_below y h
lesser_below None y h = refl
lesser_below (Some x) None h = or_nothing (ltb x h)
  where
    or_nothing : (b : Bool) → b ≡ b || false
    or_nothing true = refl
    or_nothing false = refl
lesser_below (Some x) (Some y) h = min_ltb x y h

-- a lesser label more, in front of others or after them
pub lesser_nothing : (x : Option ℕ) → lesser x None ≡ x
lesser_nothing None = refl
lesser_nothing (Some x) = refl

min_further : (x y z : ℕ) → min x (min y z) ≡ min (min x y) z
min_further x y z = omega arith

min_turned : (x y : ℕ) → min x y ≡ min y x
min_turned x y = omega arith

lesser_turned : (x y : Option ℕ) → lesser x y ≡ lesser y x
lesser_turned None None = refl
lesser_turned None (Some y) = refl
lesser_turned (Some x) None = refl
lesser_turned (Some x) (Some y) = ap Some (min_turned x y)

pub lesser_further : (x y z : Option ℕ) → lesser x (lesser y z) ≡ lesser (lesser x y) z
lesser_further None y z = refl
lesser_further (Some x) None z = refl
lesser_further (Some x) (Some y) None = refl
lesser_further (Some x) (Some y) (Some z) = ap Some (min_further x y z)

-- of two and a third the third may come second
lesser_swap : (x y z : Option ℕ) → lesser (lesser x y) z ≡ lesser (lesser x z) y
lesser_swap x y z = sym (lesser_further x y z) ∙ (ap (lesser x) (lesser_turned y z) ∙ lesser_further x z y)

module _ {S : Type 0} (o : Ops S) where
  mutual
    dooms_here : (h : ℕ) (c : Channel) (n : Node S) → dooms o h c n ≡ is_below (min_dead_label o c n) h
    dooms_here h c (Live l) = refl
    dooms_here h c (Forked l ks) = dooms_among h c ks
    dooms_here h c (Ended l) = refl
    dooms_here h c (Dead l d) = on (o.shares l c)
      where
        on : (b : Bool) → b && ltb d.label h ≡ is_below (cond b (Some d.label) None) h
        on true = refl
        on false = refl

    dooms_among : (h : ℕ) (c : Channel) (ks : Nodes S) → any_dooms o h c ks ≡ is_below (min_dead_label_among o c ks) h
    dooms_among h c no_node = refl
    dooms_among h c (node_and k ks) = (λ i. dooms_here h c k i || dooms_among h c ks i) ∙ sym (lesser_below (min_dead_label o c k) (min_dead_label_among o c ks) h)

  mutual
    -- who waits has no dead sharer below
    waits_undooming : (h : ℕ) (c : Channel) (n : Node S) → all_wait o c n ≡ true → dooms o h c n ≡ false
    waits_undooming h c (Live l) e = refl
    waits_undooming h c (Ended l) e = refl
    waits_undooming h c (Dead l d) e = ap (λ b. b && ltb d.label h) (not_false (o.shares l c) e)
    waits_undooming h c (Forked l ks) e = all_undooming h c ks (second_holds _ (all_wait_below o c ks) e)

    all_undooming : (h : ℕ) (c : Channel) (ks : Nodes S) → all_wait_below o c ks ≡ true → any_dooms o h c ks ≡ false
    all_undooming h c no_node e = refl
    all_undooming h c (node_and k ks) e =
        neither (dooms o h c k) (any_dooms o h c ks) (waits_undooming h c k (first_holds (all_wait o c k) (all_wait_below o c ks) e)) (all_undooming h c ks (second_holds (all_wait o c k) (all_wait_below o c ks) e))
      where
        neither : (a b : Bool) → a ≡ false → b ≡ false → a || b ≡ false
        neither true b e f = absurd cc
        neither false b e f = f

  -- the doom of a child that dooms nobody is that of any
  doomed_any : (h : ℕ) (c : Channel) (b : ℕ) (ks : Nodes S) (k : Node S) → child_at b [] ks ≡ Some k → dooms o h c k ≡ false → is_doomed o h c b ks ≡ any_dooms o h c ks
  doomed_any h c b no_node k e f = none_some k e
  doomed_any h c zero (node_and j ks) k e f = sym (ap (λ z. z || any_dooms o h c ks) (ap (dooms o h c) (some_same j k e) ∙ f))
  doomed_any h c (suc b) (node_and j ks) k e f = ap (λ z. dooms o h c j || z) (doomed_any h c b ks k e f)

  pub child_sound : (l : S) (f j b : ℕ) (ks : Nodes S) (k : Node S) → SoundChildren o l f j ks → child_at b [] ks ≡ Some k → SoundBelow o k × (i : ℕ) × ((r : Path) → o.path (state k) ++ r ≡ o.path l ++ (f, i) ∷ r)
  child_sound l f j b no_node k s e = none_some k e
  child_sound l f j zero (node_and h ks) k s e = let same = some_same h k e in (subst (SoundBelow o) same s.1, j, λ r. ap (λ z. o.path (state z) ++ r) (sym same) ∙ child_further o l (state h) f j r s.0)
  child_sound l f j (suc b) (node_and h ks) k s e = child_sound l f (j + 1) b ks k s.2 e

  -- a channel that a process shares is declared by none below it
  pub shared_not_below : (root : Node S) (q : List ℕ) (m : Node S) (c : Channel) → IsSound o root → at q root ≡ Some m → o.shares (state m) c ≡ true → NotBelow c (o.path (state m))
  shared_not_below root q m c s e h x r is =
      let w = home_above o c q root m s.below (λ y. ([], sym (s.own c y) ∙ sym (append-nil c.home))) e h in
      too_long (o.path (state m)) c.home w.0 x r w.1 is
    where
      too_long : (p h t : Path) (x : ℕ × ℕ) (r : Path) → p ≡ h ++ t → h ≡ p ++ x ∷ r → ⊥
      too_long p h t x r e f = let a = ap length e ∙ length-append h t in let b = ap length f ∙ length-append p (x ∷ r) in let d : length (x ∷ r) ≡ suc (length r) = refl in omega (arith, a, b, d)

  module _ (law : LocalLaws o) (root : Node S) (q : List ℕ) (l : S) (ks : Nodes S) (b : ℕ) (k : Node S) (c : Channel) (s : IsSound o root) (there : at q root ≡ Some (Forked l ks)) (child : child_at b [] ks ≡ Some k) where
    sound : SoundBelow o (Forked l ks)
    sound = sound_at o q root (Forked l ks) s.below there

    -- a ready child dooms nobody, where the fork shares the channel
    undooming : o.shares l c ≡ true → ready o c k ≡ true → (h : ℕ) → dooms o h c k ≡ false
    undooming shares is_ready h =
        let w = child_sound l sound.number 0 b ks k sound.children child in
        let out : NotBelow c (o.path (state k)) = λ x r e. shared_not_below root q (Forked l ks) c s there shares (sound.number, w.1) (x ∷ r) (e ∙ w.2 (x ∷ r)) in
        waits_undooming h c k (ready_all_wait o c k w.0 out is_ready)

    poisons_forth : can_poison o l c b ks ≡ true → (o.shares l c ≡ true) × (ready o c k ≡ true) × (is_below (min_dead_label_among o c ks) (o.handlers l) ≡ true)
    poisons_forth e =
        let r = first_holds (is_ready_child o c b ks) (is_doomed o (o.handlers l) c b ks) e in
        let d = second_holds (is_ready_child o c b ks) (is_doomed o (o.handlers l) c b ks) e in
        let x = ready_child o c b b ks r in
        let is_ready : ready o c k ≡ true = ap (ready o c) (some_same k x.0 (sym child ∙ x.1)) ∙ x.2 in
        let shares = poisoned_shares o law (o.handlers l) c b l ks sound r d in
        (shares, is_ready, sym (dooms_among (o.handlers l) c ks) ∙ (sym (doomed_any (o.handlers l) c b ks k child (undooming shares is_ready (o.handlers l))) ∙ d))

    poisons_back : (o.shares l c ≡ true) × (ready o c k ≡ true) × (is_below (min_dead_label_among o c ks) (o.handlers l) ≡ true) → can_poison o l c b ks ≡ true
    poisons_back h =
        both_hold (is_ready_child o c b ks) (is_doomed o (o.handlers l) c b ks) (child_ready o c b b ks k child h.1)
        (doomed_any (o.handlers l) c b ks k child (undooming h.0 h.1 (o.handlers l)) ∙ (dooms_among (o.handlers l) c ks ∙ h.2))

  -- nothing that is unshared has a dead sharer
  mutual
    pub unshared_least : (c : Channel) (n : Node S) → is_unshared o c n ≡ true → min_dead_label o c n ≡ None
    unshared_least c (Live l) e = refl
    unshared_least c (Ended l) e = refl
    unshared_least c (Dead l d) e = ap (λ b. cond b (Some d.label) None) (not_false (o.shares l c) e)
    unshared_least c (Forked l ks) e = all_unshared_least c ks (second_holds (not (o.shares l c)) (all_unshared o c ks) e)

    all_unshared_least : (c : Channel) (ks : Nodes S) → all_unshared o c ks ≡ true → min_dead_label_among o c ks ≡ None
    all_unshared_least c no_node e = refl
    all_unshared_least c (node_and k ks) e = (λ i. lesser (unshared_least c k (first_holds (is_unshared o c k) (all_unshared o c ks) e) i) (all_unshared_least c ks (second_holds (is_unshared o c k) (all_unshared o c ks) e) i))

  module _ (law : LocalLaws o) (root : Node S) (q : List ℕ) (l : S) (ks : Nodes S) (c : Channel) (s : IsSound o root) (there : at q root ≡ Some (Forked l ks)) (out : NotBelow c (o.path l)) (uncounted : IsCounted o l ks c → ⊥) where
    -- no child shares it
    child_lacks : (f j b : ℕ) (k : Node S) → child_at b [] ks ≡ Some k → IsChild o l f j (state k) → o.shares (state k) c ≡ false
    child_lacks f j b k child isc = false_unless (o.shares (state k) c) (λ shares. elim (isc.shares c shares) [
      | inr own ↦ out (f, j) [] (own ∙ isc.path)
      | inl above ↦
          let far : c.home ≢ o.path (state k) = λ e. out (f, j) [] (e ∙ isc.path) in
          uncounted (above, given_child o b ks k c child (given_place o law root q b k c s (child_there q b root l ks there ∙ child) far shares))
    ])

    all_lack : (f j b : ℕ) (is : Nodes S) → SoundChildren o l f j is → ((i : ℕ) (k : Node S) → child_at i [] is ≡ Some k → child_at (b + i) [] ks ≡ Some k) → all_unshared o c is ≡ true
    all_lack f j b no_node kids same = refl
    all_lack f j b (node_and k is) kids same =
        let here : b + 0 ≡ b = omega arith in
        let child : child_at b [] ks ≡ Some k = ap (λ z. child_at z [] ks) (sym here) ∙ same 0 k refl in
        let lacks = child_lacks f j b k child kids.0 in
        both_hold (is_unshared o c k) (all_unshared o c is)
        (unshared_is_unshared o c k kids.1 lacks (λ r e. out (f, j) r (e ∙ child_further o l (state k) f j r kids.0)))
        (all_lack f (j + 1) (suc b) is kids.2 (λ i h e. ap (λ z. child_at z [] ks) (one_on b i) ∙ same (suc i) h e))
      where
        one_on : (b i : ℕ) → suc b + i ≡ b + suc i
        one_on b i = omega arith

    none_least : min_dead_label_among o c ks ≡ None
    none_least = let w = sound_at o q root (Forked l ks) s.below there in all_unshared_least c ks (all_lack w.number 0 0 ks w.children (λ i k e. ap (λ z. child_at z [] ks) (from_zero i) ∙ e))
      where
        from_zero : (i : ℕ) → 0 + i ≡ i
        from_zero i = omega arith

  pub min_labels_decide : LocalLaws o → MinLabelsDecide o
  min_labels_decide law = record {
    here = dooms_here;
    among = dooms_among;
    poisons = λ root q l ks b k c s e f. (poisons_forth law root q l ks b k c s e f, poisons_back law root q l ks b k c s e f);
    uncounted = λ root q l ks c s e out un. none_least law root q l ks c s e out un;
  }

  -- ---- how it follows a change

  module _ (c : Channel) where
    mutual
      taken_to : (q : List ℕ) (m a n : Node S) → at q n ≡ Some m → min_dead_label o c m ≡ None → min_dead_label o c (put q a n) ≡ lesser (min_dead_label o c n) (min_dead_label o c a)
      taken_to [] m a n e none = sym (ap (λ z. lesser z (min_dead_label o c a)) (ap (min_dead_label o c) (some_same n m e) ∙ none))
      taken_to (i ∷ q) m a (Live l) e none = none_some m e
      taken_to (i ∷ q) m a (Ended l) e none = none_some m e
      taken_to (i ∷ q) m a (Dead l d) e none = none_some m e
      taken_to (i ∷ q) m a (Forked l ks) e none = taken_among i q m a ks e none

      taken_among : (i : ℕ) (q : List ℕ) (m a : Node S) (ks : Nodes S) → child_at i q ks ≡ Some m → min_dead_label o c m ≡ None → min_dead_label_among o c (put_child i q a ks) ≡ lesser (min_dead_label_among o c ks) (min_dead_label o c a)
      taken_among i q m a no_node e none = none_some m e
      taken_among zero q m a (node_and k ks) e none = ap (λ z. lesser z (min_dead_label_among o c ks)) (taken_to q m a k e none) ∙ lesser_swap (min_dead_label o c k) (min_dead_label o c a) (min_dead_label_among o c ks)
      taken_among (suc i) q m a (node_and k ks) e none = ap (lesser (min_dead_label o c k)) (taken_among i q m a ks e none) ∙ lesser_further (min_dead_label o c k) (min_dead_label_among o c ks) (min_dead_label o c a)

    mutual
      stays_as : (q : List ℕ) (m a n : Node S) → at q n ≡ Some m → min_dead_label o c a ≡ min_dead_label o c m → min_dead_label o c (put q a n) ≡ min_dead_label o c n
      stays_as [] m a n e same = same ∙ sym (ap (min_dead_label o c) (some_same n m e))
      stays_as (i ∷ q) m a (Live l) e same = none_some m e
      stays_as (i ∷ q) m a (Ended l) e same = none_some m e
      stays_as (i ∷ q) m a (Dead l d) e same = none_some m e
      stays_as (i ∷ q) m a (Forked l ks) e same = stays_among i q m a ks e same

      stays_among : (i : ℕ) (q : List ℕ) (m a : Node S) (ks : Nodes S) → child_at i q ks ≡ Some m → min_dead_label o c a ≡ min_dead_label o c m → min_dead_label_among o c (put_child i q a ks) ≡ min_dead_label_among o c ks
      stays_among i q m a no_node e same = none_some m e
      stays_among zero q m a (node_and k ks) e same = ap (λ z. lesser z (min_dead_label_among o c ks)) (stays_as q m a k e same)
      stays_among (suc i) q m a (node_and k ks) e same = ap (lesser (min_dead_label o c k)) (stays_among i q m a ks e same)

    -- the children of a fork above a place, before and after
    above_both : (old new m a : Node S) (q r : List ℕ) (l : S) (ks js : Nodes S) → IsReplaced q m a old new → is_above r q ≡ true → at r old ≡ Some (Forked l ks) → at r new ≡ Some (Forked l js)
        → (b : ℕ) × (t : List ℕ) × (child_at b t ks ≡ Some m) × (js ≡ put_child b t a ks)
    above_both old new m a q r l ks js rep above e f =
        let way = way_from r q above in
        let x = fork_above r way.branch way.rest old m (ap (λ z. at z old) (sym way.is) ∙ rep.was) in
        let parts = fork_parts o c x.state l x.children ks (sym x.there ∙ e) in
        let now = with_split r (way.branch ∷ way.rest) a old (Forked l ks) e in
        let same = fork_parts o c l l js (put_child way.branch way.rest a ks) (sym f ∙ (ap (at r) (is_put q m a old new rep) ∙ (ap (λ z. at r (put z a old)) way.is ∙ now))) in
        (way.branch, way.rest, ap (child_at way.branch way.rest) (sym parts.1) ∙ x.child, same.1)

  pub min_labels_follow : MinLabelsFollow o
  min_labels_follow = record {
    taken_in = λ c old new m a q r l ks js rep none above e f.
        let w = above_both c old new m a q r l ks js rep above e f in ap (min_dead_label_among o c) w.3 ∙ taken_among c w.0 w.1 m a ks w.2 none;
    stays = λ c old new m a q r l ks js rep same above e f.
        let w = above_both c old new m a q r l ks js rep above e f in ap (min_dead_label_among o c) w.3 ∙ stays_among c w.0 w.1 m a ks w.2 same;
    aside = λ old new m a q r rep above far. ap (at r) (is_put q m a old new rep) ∙ untouched q r m a old rep.was above far;
  }
