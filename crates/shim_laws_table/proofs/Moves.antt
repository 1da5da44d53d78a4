-- One step up from a child of which anything has changed.
use Rattle.std.proofs.Common.{◌≡◌, ◌≢◌, ℕ, ◌+◌, Option, Some, List, [], ◌∷◌, ◌++◌, cond, inl, inr, sym, ap, ◌∙◌, arith}
use Rattle.std.specs.Prelude.{slice_get}
use Rattle.shim_base.specs.Paths.{Path, Channel}
use Rattle.shim_local.specs.Process.{Ops}
use Rattle.shim_semantics.specs.Nodes.{Node, Nodes, Forked}
use Rattle.shim_semantics.specs.Places.{at, child_at}
use Rattle.shim_semantics.proofs.ReplacedNodes.{put, put_child}
use Rattle.shim_base.proofs.Facts.{some_same}
use Rattle.shim_laws_table.specs.NodeStatus.{forks, place}
use Rattle.shim_laws_table.specs.Agrees.{RecordView, Has, Agrees}
use Rattle.shim_laws_table.specs.Counts.{Tally, tally_of, is_going_on, isnt_ready, is_dead_on, count, child_status, fork_status, IsExchanged}
use Rattle.shim_laws_table.specs.Tallied.{is_above, OnTheWay}
use Rattle.shim_laws_table.proofs.Tallies.{count_changed, fork_read}
use Rattle.shim_laws_table.proofs.SameTrees.{same_or_not}
use Rattle.shim_laws_table.proofs.PlacesAbove.{above_its_own, not_above_itself, above_same, with_split, forked_same}

cancelled : (a d x y m n : ℕ) → a + m ≡ x + n → d + m ≡ y + n → x ≡ y → a ≡ d
cancelled a d x y m n e f g = omega (arith, e, f, g)

module _ {S : Type 0} (o : Ops S) (rp : Path) (states : List S) (views : List RecordView) (c : Channel) (before after : ℕ → Option Tally) (root k a : Node S) (l s : S) (ks : Nodes S) (r t : List ℕ) (b j f n : ℕ) (y z : Tally)
    (ok : Agrees o rp states views (put (r ++ b ∷ t) a root)) (has : Has states views j f s (forks n)) (its : place o rp s ≡ r)
    (there : at r root ≡ Some (Forked l ks)) (child : child_at b [] ks ≡ Some k)
    (moved : IsExchanged (child_status o c k) (child_status o c (put t a k)) y z) (old_is : before j ≡ Some y) (new_is : after j ≡ Some z) (others : (i : ℕ) → i ≢ j → after i ≡ before i)
    (way : OnTheWay o rp states views c before root (put (r ++ b ∷ t) a root) (r ++ b ∷ [])) where
  abbrev pub new : Node S
  new = put (r ++ b ∷ t) a root

  abbrev pub js : Nodes S
  js = put_child b t a ks

  its_own : y ≡ tally_of o c ks
  its_own = way j f n s y l ks has old_is
      ((λ i. at (its i) (cond (is_above (its i) (r ++ b ∷ [])) root new)) ∙ (ap (λ d. at r (cond d root new)) (above_its_own r b) ∙ there))

  now : z ≡ tally_of o c js
  now = λ i. record {
    going = cancelled z.going (count (is_going_on o c) js) y.going (count (is_going_on o c) ks) _ _ moved.going (count_changed (is_going_on o c) b t ks k a child) (ap (λ w. w.going) its_own) i;
    not_ready = cancelled z.not_ready (count (isnt_ready o c) js) y.not_ready (count (isnt_ready o c) ks) _ _ moved.not_ready (count_changed (isnt_ready o c) b t ks k a child) (ap (λ w. w.not_ready) its_own) i;
    dead = cancelled z.dead (count (is_dead_on o c) js) y.dead (count (is_dead_on o c) ks) _ _ moved.dead (count_changed (is_dead_on o c) b t ks k a child) (ap (λ w. w.dead) its_own) i;
  }

  there_now : at r new ≡ Some (Forked l js)
  there_now = with_split r (b ∷ t) a root (Forked l ks) there

  way_now : OnTheWay o rp states views c after root new r
  way_now i e d u x v gs h w g = elim (same_or_not i j) [
    | inl same ↦
        let is_s : u ≡ s = some_same u s (sym h.state_is ∙ (λ q. slice_get states (same q)) ∙ has.state_is) in
        let at_r : place o rp u ≡ r = ap (place o rp) is_s ∙ its in
        some_same x z (sym w ∙ ((λ q. after (same q)) ∙ new_is)) ∙ (now ∙ forked_same o c l v js gs
        (sym there_now ∙ (ap (λ q. at r (cond q root new)) (sym (not_above_itself r)) ∙ ((λ q. at (sym at_r q) (cond (is_above (sym at_r q) r) root new)) ∙ g))))
    | inr other ↦
        let far : place o rp u ≢ r = λ q. other (ok.apart i j e f u s (forks d) (forks n) h has (q ∙ sym its)) in
        way i e d u x v gs h (sym (others i other) ∙ w) (ap (λ q. at (place o rp u) (cond q root new)) (above_same (place o rp u) r b far) ∙ g)
  ]

  read : (gs : Nodes S) (w : Tally) → w ≡ tally_of o c gs → child_status o c (Forked l gs) ≡ fork_status (o.shares l c) w
  read gs w e = fork_read o c l gs ∙ ap (fork_status (o.shares l c)) (sym e)

  pub all_moves : OnTheWay o rp states views c after root new r
      × (child_status o c (Forked l ks) ≡ fork_status (o.shares l c) y)
      × (child_status o c (Forked l js) ≡ fork_status (o.shares l c) z)
  all_moves = (way_now, read ks y its_own, read js z now)
