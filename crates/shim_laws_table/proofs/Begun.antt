-- How the counts stand when records have just changed, and what a process does by itself leaves of channels of others.
use Rattle.std.proofs.Common.{◌≡◌, ◌↔◌, ℕ, zero, suc, Bool, true, false, ◌&&◌, Option, Some, List, [], ◌∷◌, ◌++◌, cond, length, drop, inl, inr, refl, sym, ap, subst, ◌∙◌}
use Rattle.std.specs.Prelude.{slice_get}
use Rattle.std.proofs.lemmas.Bool.{eq-eqb}
use Rattle.std.proofs.lemmas.List.{append-nil}
use Rattle.shim_base.specs.Paths.{Path, Channel}
use Rattle.shim_local.specs.Process.{Ops}
use Rattle.shim_local.specs.Laws.{AnyOf, IsGiven}
use Rattle.shim_semantics.specs.Nodes.{Node, Nodes, Live, Forked, Ended, Dead, no_node, node_and, state, states, all_live}
use Rattle.shim_semantics.specs.Places.{at, child_at, branches}
use Rattle.shim_semantics.proofs.ReplacedNodes.{put, put_child}
use Rattle.shim_base.proofs.Facts.{some_same, none_some}
use Rattle.shim_laws_table.specs.NodeStatus.{ProcessStatus, lives, forks, process_status, place, IsAside}
use Rattle.shim_laws_table.specs.Agrees.{RecordView, Has, Agrees}
use Rattle.shim_laws_table.specs.Places.{IsReplaced}
use Rattle.shim_laws_table.specs.Counts.{Tally, tally_of}
use Rattle.shim_laws_table.specs.Tallied.{Tallied, OnTheWay, is_above, IsCounted, HaveCounts}
use Rattle.shim_laws_table.specs.Beginning.{AreOf, CountsBegin}
use Rattle.shim_laws_table.proofs.Aside.{there, at_split}
use Rattle.shim_laws_table.proofs.SameTrees.{same_or_not, aside_or_further, is_put, no_fork, seen_fork}
use Rattle.shim_laws_table.proofs.OneChange.{one_status}
use Rattle.shim_laws_table.proofs.PlacesAbove.{untouched, leaf_no_fork, way_from, with_split, fork_above}

-- ---- what a fork's children were given, where a node at or below one changes

module _ {S : Type 0} (o : Ops S) (c : Channel) where
  abbrev pub Given : Nodes S → Type 0
  Given ks = AnyOf (λ k. IsGiven o k c) (states ks)

  same_given : (k m : S) → o.given k ≡ o.given m → IsGiven o k c → IsGiven o m c
  same_given k m e h = (h.0, h.1, ap (λ z. slice_get z h.0) (sym e) ∙ h.2, h.3)

  given_put : (p : List ℕ) (a k : Node S) → ((m : Node S) → at p k ≡ Some m → o.given (state a) ≡ o.given (state m)) → (m : Node S) → at p k ≡ Some m → o.given (state (put p a k)) ≡ o.given (state k)
  given_put [] a k h m e = h k refl
  given_put (i ∷ p) a (Live l) h m e = refl
  given_put (i ∷ p) a (Ended l) h m e = refl
  given_put (i ∷ p) a (Dead l x) h m e = refl
  given_put (i ∷ p) a (Forked l ks) h m e = refl

  given_forth : (b : ℕ) (p : List ℕ) (m a : Node S) (ks : Nodes S) → child_at b p ks ≡ Some m → o.given (state a) ≡ o.given (state m) → Given ks → Given (put_child b p a ks)
  given_forth b p m a no_node e h g = none_some m e
  given_forth zero p m a (node_and k ks) e h (inl g) =
      inl (same_given (state k) (state (put p a k)) (sym (given_put p a k (λ n f. h ∙ ap (λ z. o.given (state z)) (some_same m n (sym e ∙ f))) m e)) g)
  given_forth zero p m a (node_and k ks) e h (inr g) = inr g
  given_forth (suc b) p m a (node_and k ks) e h (inl g) = inl g
  given_forth (suc b) p m a (node_and k ks) e h (inr g) = inr (given_forth b p m a ks e h g)

  given_back : (b : ℕ) (p : List ℕ) (m a : Node S) (ks : Nodes S) → child_at b p ks ≡ Some m → o.given (state a) ≡ o.given (state m) → Given (put_child b p a ks) → Given ks
  given_back b p m a no_node e h g = none_some m e
  given_back zero p m a (node_and k ks) e h (inl g) =
      inl (same_given (state (put p a k)) (state k) (given_put p a k (λ n f. h ∙ ap (λ z. o.given (state z)) (some_same m n (sym e ∙ f))) m e) g)
  given_back zero p m a (node_and k ks) e h (inr g) = inr g
  given_back (suc b) p m a (node_and k ks) e h (inl g) = inl g
  given_back (suc b) p m a (node_and k ks) e h (inr g) = inr (given_back b p m a ks e h g)

  pub fork_parts : (l m : S) (ks js : Nodes S) → Some (Forked l ks) ≡ Some (Forked m js) → (l ≡ m) × (ks ≡ js)
  fork_parts l m ks js e = (ap state (some_same (Forked l ks) (Forked m js) e), ap (kids ks) (some_same (Forked l ks) (Forked m js) e))
    where
      kids : Nodes S → Node S → Nodes S
      kids d (Live k) = d
      kids d (Forked k is) = is
      kids d (Ended k) = d
      kids d (Dead k x) = d

  -- a fork aside of the place counts what it did
  counted_same : (q x : List ℕ) (m a old : Node S) (l : S) (ks : Nodes S) → at q old ≡ Some m → o.given (state a) ≡ o.given (state m) → IsAside x q → at x (put q a old) ≡ Some (Forked l ks)
      → (js : Nodes S) × (at x old ≡ Some (Forked l js)) × (IsCounted o l js c ↔ IsCounted o l ks c)
  counted_same q x m a old l ks e h far there = on (is_above x q) refl
    where
      on : (d : Bool) → is_above x q ≡ d → (js : Nodes S) × (at x old ≡ Some (Forked l js)) × (IsCounted o l js c ↔ IsCounted o l ks c)
      on false w = (ks, sym (untouched q x m a old e w far) ∙ there, ((λ z. z), λ z. z))
      on true w =
          let way = way_from x q w in
          let f = fork_above x way.branch way.rest old m (ap (λ z. at z old) (sym way.is) ∙ e) in
          let now = with_split x (way.branch ∷ way.rest) a old (Forked f.state f.children) f.there in
          let parts = fork_parts f.state l (put_child way.branch way.rest a f.children) ks (sym now ∙ (ap (λ z. at x (put z a old)) (sym way.is) ∙ there)) in (
            f.children,
            f.there ∙ ap (λ z. Some (Forked z f.children)) parts.0,
            (
              (λ y. (y.0, subst Given parts.1 (given_forth way.branch way.rest m a f.children f.child h y.1))),
              (λ y. (y.0, given_back way.branch way.rest m a f.children f.child h (subst Given (sym parts.1) y.1))),
            ),
          )

-- ---- the counts at first

module _ {S : Type 0} (o : Ops S) (rp : Path) (before behind : List S) (old_views views : List RecordView) (c : Channel) (old new m a : Node S) (q : List ℕ) (counts now : ℕ → Option Tally)
    (rep : IsReplaced q m a old new) (given : o.given (state a) ≡ o.given (state m))
    (kept : (j f n : ℕ) (s : S) → Has behind views j f s (forks n) → IsAside (place o rp s) q → (g : ℕ) × Has before old_views j g s (forks n) × (now j ≡ counts j))
    (inside : (j f n : ℕ) (s : S) (r : List ℕ) (l : S) (ks : Nodes S) → Has behind views j f s (forks n) → place o rp s ≡ q ++ r → at r a ≡ Some (Forked l ks) → AreOf o c l ks (now j))
    (right : Tallied o rp before old_views c counts old) (have : HaveCounts o rp before old_views c counts old) where
  is : new ≡ put q a old
  is = is_put q m a old new rep

  not_above_below : (q r : List ℕ) → is_above (q ++ r) q ≡ false
  not_above_below [] [] = refl
  not_above_below [] (x ∷ r) = refl
  not_above_below (y ∷ q) r = (λ i. eq-eqb y y refl i && not_above_below q r i)

  in_place : (r : List ℕ) → at (q ++ r) new ≡ at r a
  in_place r = at_split q r new a rep.is

  begun : OnTheWay o rp behind views c now old new q
  begun j f n s y l ks has w g = elim (aside_or_further q (place o rp s)) [
    | inr x ↦
        let d : is_above (place o rp s) q ≡ false = ap (λ z. is_above z q) x.1 ∙ not_above_below q x.0 in
        let e : at (q ++ x.0) new ≡ Some (Forked l ks) = ap (λ z. at z new) (sym x.1) ∙ (ap (λ z. at (place o rp s) (cond z old new)) (sym d) ∙ g) in
        (inside j f n s x.0 l ks has x.1 (sym (in_place x.0) ∙ e)).right y w
    | inl far ↦ on far (is_above (place o rp s) q) refl g
  ]
    where
      on : IsAside (place o rp s) q → (d : Bool) → is_above (place o rp s) q ≡ d → at (place o rp s) (cond (is_above (place o rp s) q) old new) ≡ Some (Forked l ks) → y ≡ tally_of o c ks
      on far true u h =
          let z = kept j f n s has far in
          right j z.0 n s y l ks z.1 (sym z.2 ∙ w) (ap (λ d. at (place o rp s) (cond d old new)) (sym u) ∙ h)
      on far false u h =
          let z = kept j f n s has far in
          right j z.0 n s y l ks z.1 (sym z.2 ∙ w) (sym (untouched q (place o rp s) m a old rep.was u far) ∙ (ap (at (place o rp s)) (sym is) ∙ (ap (λ d. at (place o rp s) (cond d old new)) (sym u) ∙ h)))

  have_now : HaveCounts o rp behind views c now new
  have_now j f n s l ks has g = elim (aside_or_further q (place o rp s)) [
    | inr x ↦ (inside j f n s x.0 l ks has x.1 (sym (in_place x.0) ∙ (ap (λ z. at z new) (sym x.1) ∙ g))).there
    | inl far ↦
        let z = kept j f n s has far in
        let w = counted_same o c q (place o rp s) m a old l ks rep.was given far (ap (at (place o rp s)) (sym is) ∙ g) in
        let h = have j z.0 n s l w.0 z.1 w.1 in
        ((λ some. w.2.0 (h.0 (λ e. some (z.2 ∙ e)))), (λ counted e. h.1 (w.2.1 counted) (sym z.2 ∙ e)))
  ]

  pub both_begun : OnTheWay o rp behind views c now old new q × HaveCounts o rp behind views c now new
  both_begun = (begun, have_now)

module _ {S : Type 0} (o : Ops S) where
  pub lives_no_fork : {B : Type 0} (n : ℕ) (k : ProcessStatus) → k ≡ lives → k ≡ forks n → B
  lives_no_fork n k e f = no_lives n (sym e ∙ f)
    where
      no_lives : {B : Type 0} (n : ℕ) → lives ≡ forks n → B
      no_lives n w = absurd (let z : ⊥ = cc in z)

  pub is_here : (q r : List ℕ) → q ≡ q ++ r → [] ≡ r
  is_here [] r e = e
  is_here (x ∷ q) r e = is_here q r (tails e)
    where
      tails : {q : List ℕ} → x ∷ q ≡ x ∷ (q ++ r) → q ≡ q ++ r
      tails e = cc

  mine_too : (c : Channel) (i j : ℕ) (p u : S) (ks us : Nodes S) (r : List ℕ) (now : ℕ → Option Tally) → j ≡ i → AreOf o c p ks (now i) → at r (Forked p ks) ≡ Some (Forked u us) → r ≡ [] → AreOf o c u us (now j)
  mine_too c i j p u ks us r now w mine e is =
      let parts = fork_parts o c p u ks us (ap (λ z. at z (Forked p ks)) (sym is) ∙ e) in
      subst (λ z. AreOf o c u us (now z)) (sym w) (subst (λ z. AreOf o c z us (now i)) parts.0 (subst (λ z. AreOf o c p z (now i)) parts.1 mine))

  -- no fork stands where a process lives, or below
  pub none_there : {B : Type 0} (rp : Path) (before : List S) (old_views : List RecordView) (old : Node S) (l : S) (n j d : ℕ) (s : S) (r : List ℕ) → Agrees o rp before old_views old → Has before old_views j d s (forks n) → at (place o rp l) old ≡ Some (Live l) → place o rp s ≡ place o rp l ++ r → B
  none_there rp before old_views old l n j d s r ok has live e =
      let w = seen_fork (at (place o rp s) old) s n (ok.shown j d s (forks n) has) in
      leaf_no_fork r (Live l) s w.0 refl (sym (at_split (place o rp l) r old (Live l) live) ∙ (ap (λ z. at z old) (sym e) ∙ w.1))

  pub counts_begin : CountsBegin o
  counts_begin = record {
    changed = λ rp before behind old_views views c old new m a i counts rep leaf given changed right have.
        both_begun o rp before behind old_views views c old new m a (place o rp (state m)) counts counts rep given
        (λ j f n s has far. elim (same_or_not j i) [
          | inl w ↦ no_fork a n leaf (sym (one_status behind views j f changed.first s (state a) (forks n) (process_status a) has (subst (λ z. Has behind views z changed.first (state a) (process_status a)) (sym w) changed.mine)))
          | inr w ↦ (f, changed.only j f s (forks n) w has, refl)
        ])
        (λ j f n s r l ks has e g. leaf_no_fork r a l ks leaf g) right have;
    forked = λ rp before behind old_views views c old new i f g l p ks counts now ok has rep path given forked others mine right have.
        both_begun o rp before behind old_views views c old new (Live l) (Forked p (all_live ks)) (place o rp l) counts now rep given
        (λ j d n s fork far. elim (forked.only j d s (forks n) fork) [
          | inl w ↦ absurd (far [] (ap (place o rp) w.1 ∙ (ap (λ z. branches (drop (length rp) z)) path ∙ sym (append-nil (place o rp l)))))
          | inr (inl w) ↦ lives_no_fork n (forks n) w.3 refl
          | inr (inr w) ↦ (d, w.1, others j w.0)
        ])
        (λ j d n s r u us fork e at_r. elim (forked.only j d s (forks n) fork) [
          | inl w ↦ mine_too c i j p u (all_live ks) us r now w.0 mine at_r
              (sym (is_here (place o rp l) r (ap (λ z. branches (drop (length rp) z)) (sym path) ∙ (ap (place o rp) (sym w.1) ∙ e))))
          | inr (inl w) ↦ lives_no_fork n (forks n) w.3 refl
          | inr (inr w) ↦ none_there rp before old_views old l n j d s r ok w.1 rep.was e
        ])
        right have;
    closed = λ rp before behind old_views views c old new i g n l ks a counts now rep leaf given closed others right have.
        both_begun o rp before behind old_views views c old new (Forked l ks) a (place o rp l) counts now rep given
        (λ j d m s fork far. elim (closed.only j d s (forks m) fork) [
          | inl w ↦ no_fork a m leaf (sym w.2)
          | inr w ↦ (d, w.2, others j w.0)
        ])
        (λ j d m s r u us fork e at_r. leaf_no_fork r a u us leaf at_r) right have;
  }
