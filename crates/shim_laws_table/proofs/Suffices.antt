-- Of channels that a process wasn't given, what it does by itself changes nothing at the forks above.
use Rattle.std.proofs.Common.{◌≡◌, ◌≢◌, ◌⊎◌, ℕ, Bool, true, false, ◌&&◌, ◌||◌, not, Option, Some, None, List, [], ◌∷◌, ◌++◌, cond, inl, inr, refl, sym, ap, subst, ◌∙◌}
use Rattle.std.proofs.lemmas.List.{append-nil}
use Rattle.shim_base.specs.Paths.{Path, Channel, same_path}
use Rattle.shim_base.proofs.Facts.{some_same, none_some, cond_some, first_holds, second_holds, false_unless}
use Rattle.shim_base.proofs.SamePaths.{same_path_refl, same_path_is}
use Rattle.shim_local.specs.Process.{Ops, StopView, AtQuiet, AtNext, AtPut, AtFork, AtFinish, AtThrow, AtTrap}
use Rattle.shim_local.specs.Laws.{LocalLaws, IsGiven}
use Rattle.shim_semantics.specs.Nodes.{Node, Nodes, Live, Forked, Ended, Dead, no_node, node_and, state, states, goes, all_done, any_sharer, all_ready, is_next, prevailing_death}
use Rattle.shim_semantics.specs.Acts.{Acted, act_here, act_live, closed}
use Rattle.shim_semantics.specs.Places.{at}
use Rattle.shim_semantics.specs.Sound.{IsSound}
use Rattle.shim_semantics.proofs.HowMany.{clash}
use Rattle.shim_semantics.proofs.ReplacedNodes.{put, put_child}
use Rattle.shim_semantics.proofs.Replaced.{sound_at}
use Rattle.shim_semantics.proofs.SoundEvents.{here_keeps}
use Rattle.shim_laws_schedules.proofs.Homes.{unshared_is_unshared}
use Rattle.shim_laws_table.specs.NodeStatus.{ProcessStatus, process_status, is_leaf, place}
use Rattle.shim_laws_table.specs.Agrees.{RecordView, Has, Represents}
use Rattle.shim_laws_table.specs.Places.{IsReplaced}
use Rattle.shim_laws_table.specs.Counts.{Tally, child_status}
use Rattle.shim_laws_table.specs.Tallied.{Tallied, OnTheWay, is_above, HaveCounts}
use Rattle.shim_laws_table.specs.Dooms.{min_dead_label, min_dead_label_among}
use Rattle.shim_laws_table.specs.LoweredLabels.{Labelled, LabelsOnTheWay}
use Rattle.shim_laws_table.specs.Sufficing.{GivenSuffice, leaf_status, ActorsAreRead}
use Rattle.shim_laws_table.proofs.SameTrees.{is_put}
use Rattle.shim_laws_table.proofs.PlacesAbove.{way_from, with_split, fork_above}
use Rattle.shim_laws_table.proofs.Begun.{fork_parts}
use Rattle.shim_laws_table.proofs.Brought.{counts_follow}
use Rattle.shim_laws_table.proofs.Foreign.{foreign_stays}
use Rattle.shim_laws_table.proofs.MinLabels.{min_labels_follow, unshared_least}
use Rattle.shim_laws_table.proofs.Hanging.{ends_of, given_place, node_of, counts_share, none_above}

-- a path leads on from another one, or not
pub below_or_not : (p q : Path) → ((r : Path) × (q ≡ p ++ r)) ⊎ ((r : Path) → q ≢ p ++ r)
below_or_not [] q = inl (q, refl)
below_or_not (x ∷ p) [] = inr (λ r e. absurd cc)
below_or_not (x ∷ p) (y ∷ q) = on (same_path (y ∷ []) (x ∷ [])) refl (below_or_not p q)
  where
    heads : (r : Path) → y ∷ q ≡ x ∷ (p ++ r) → y ≡ x
    heads r e = cc

    tails : (r : Path) → y ∷ q ≡ x ∷ (p ++ r) → q ≡ p ++ r
    tails r e = cc

    first : (e : y ∷ [] ≡ x ∷ []) → y ≡ x
    first e = cc

    on : (b : Bool) → same_path (y ∷ []) (x ∷ []) ≡ b → ((r : Path) × (q ≡ p ++ r)) ⊎ ((r : Path) → q ≢ p ++ r) → ((r : Path) × (y ∷ q ≡ x ∷ (p ++ r))) ⊎ ((r : Path) → y ∷ q ≢ x ∷ (p ++ r))
    on true e (inl h) = inl (h.0, λ i. first (same_path_is (y ∷ []) (x ∷ []) e) i ∷ h.1 i)
    on true e (inr h) = inr (λ r w. h r (tails r w))
    on false e h = inr (λ r w. clash (same_path (y ∷ []) (x ∷ [])) (ap (λ z. same_path (z ∷ []) (x ∷ [])) (heads r w) ∙ same_path_refl (x ∷ [])) e)

some_counts : (o : Option Tally) → o ≢ None → (y : Tally) × (o ≡ Some y)
some_counts None h = absurd (h refl)
some_counts (Some y) h = (y, refl)

module _ {S : Type 0} (o : Ops S) (law : LocalLaws o) (rp : Path) (records : List S) (views : List RecordView) (c : Channel) (old new m : Node S) (a : Acted S) (x f : ℕ) (s : S) (k : ProcessStatus)
    (sound : IsSound o old) (shown : Represents o rp records views new) (has : Has records views x f s k) (rep : IsReplaced (place o rp s) m a.node old new) (acts : act_here o m ≡ Some a) (not_given : IsGiven o s c → o.shares s c ≡ true → ⊥) where
  abbrev q : List ℕ
  q = place o rp s

  -- its state is what it says
  its_state : state a.node ≡ s
  its_state = let w = node_of o rp records views new shown x f s k has in ap state (some_same a.node w.node (sym rep.is ∙ w.there)) ∙ w.state_is

  -- it shares the channel only where it declared it
  lacks : ((r : Path) → c.home ≢ o.path s ++ r) → o.shares s c ≡ false
  lacks out = false_unless (o.shares s c) (λ shares. elim (ends_of q) [
    | inl e ↦
        let root : new ≡ a.node = some_same new a.node (ap (λ z. at z new) (sym e) ∙ rep.is) in
        out [] (shown.sound.own c (ap (λ z. o.shares (state z) c) root ∙ (ap (λ z. o.shares z c) its_state ∙ shares)) ∙ (ap (λ z. o.path (state z)) root ∙ (ap o.path its_state ∙ sym (append-nil (o.path s)))))
    | inr e ↦
        not_given (subst (λ z. IsGiven o z c) its_state
        (given_place o law new e.0 e.1 a.node c shown.sound (ap (λ z. at z new) (sym e.2) ∙ rep.is) (λ w. out [] (w ∙ (ap o.path its_state ∙ sym (append-nil (o.path s)))))
        (ap (λ z. o.shares z c) its_state ∙ shares))) shares
  ])

  module _ (out : (r : Path) → c.home ≢ o.path s ++ r) where
    keeps : o.path (state a.node) ≡ o.path (state m)
    keeps = (here_keeps o law m a (sound_at o q old m sound.below rep.was) acts).follows.path

    out_before : (r : Path) → c.home ≢ o.path (state m) ++ r
    out_before r e = out r (e ∙ ap (λ z. z ++ r) (sym keeps ∙ ap o.path its_state))

    lacked : o.shares (state m) c ≡ false
    lacked = sym ((foreign_stays o law).shares old m q a c sound rep.was acts (λ e. out_before [] (e ∙ sym (append-nil (o.path (state m)))))) ∙ (ap (λ z. o.shares z c) its_state ∙ lacks out)

    no_label_before : min_dead_label o c m ≡ None
    no_label_before = unshared_least o c m (unshared_is_unshared o c m (sound_at o q old m sound.below rep.was) lacked out_before)

    no_label_now : min_dead_label o c a.node ≡ None
    no_label_now = unshared_least o c a.node (unshared_is_unshared o c a.node (sound_at o q new a.node shown.sound.below rep.is) (ap (λ z. o.shares z c) its_state ∙ lacks out) (λ r e. out r (e ∙ ap (λ z. o.path z ++ r) its_state)))

  module _ (counts : ℕ → Option Tally) (have : HaveCounts o rp records views c counts new) where
    counts_stay : OnTheWay o rp records views c counts old new q → Tallied o rp records views c counts new
    counts_stay way = elim (below_or_not (o.path s) c.home) [
      | inl e ↦ (counts_follow o law).own rp records views c old new x f s k e.0 counts shown has e.1 have way
      | inr out ↦ (counts_follow o law).alike rp records views c old new m a.node q counts rep ((foreign_stays o law).reads old m q a c sound rep.was acts (out_before out) (lacked out)) way
    ]

    module _ (labels : ℕ → Option ℕ) (way : LabelsOnTheWay o rp records views c counts labels old new q) where
      cut_off : (r : Path) → c.home ≡ o.path s ++ r → Labelled o rp records views c counts labels new
      cut_off r home i d n u l ks fork counted there = on (is_above (place o rp u) q) refl
        where
          on : (b : Bool) → is_above (place o rp u) q ≡ b → labels i ≡ min_dead_label_among o c ks
          on false w = way i d n u l ks fork counted (ap (λ z. at (place o rp u) (cond z old new)) w ∙ there)
          on true w =
              let y = some_counts (counts i) counted in
              absurd (none_above o rp records views new shown c x f i d n s u k r has home fork w (counts_share o rp records views new shown c counts have i d n u y.0 fork y.1))

      as_before : min_dead_label o c a.node ≡ min_dead_label o c m → Labelled o rp records views c counts labels new
      as_before same i d n u l ks fork counted there = on (is_above (place o rp u) q) refl
        where
          on : (b : Bool) → is_above (place o rp u) q ≡ b → labels i ≡ min_dead_label_among o c ks
          on false w = way i d n u l ks fork counted (ap (λ z. at (place o rp u) (cond z old new)) w ∙ there)
          on true w =
              let y = way_from (place o rp u) q w in
              let v = fork_above (place o rp u) y.branch y.rest old m (ap (λ z. at z old) (sym y.is) ∙ rep.was) in
              let now : at (place o rp u) new ≡ Some (Forked v.state (put_child y.branch y.rest a.node v.children)) =
              ap (at (place o rp u)) (is_put q m a.node old new rep) ∙ (ap (λ z. at (place o rp u) (put z a.node old)) y.is ∙ with_split (place o rp u) (y.branch ∷ y.rest) a.node old (Forked v.state v.children) v.there) in
              let parts = fork_parts o c l v.state ks (put_child y.branch y.rest a.node v.children) (sym there ∙ now) in
              let stays = (min_labels_follow o).stays c old new m a.node q (place o rp u) v.state v.children (put_child y.branch y.rest a.node v.children) rep same w v.there now in
              way i d n u v.state v.children fork counted (ap (λ z. at (place o rp u) (cond z old new)) w ∙ v.there) ∙ (sym stays ∙ ap (min_dead_label_among o c) (sym parts.1))

      labels_stay : Labelled o rp records views c counts labels new
      labels_stay = elim (below_or_not (o.path s) c.home) [
        | inl e ↦ cut_off e.0 e.1
        | inr out ↦ as_before (no_label_now out ∙ sym (no_label_before out))
      ]

pub given_suffice : {S : Type 0} (o : Ops S) → LocalLaws o → GivenSuffice o
given_suffice o law = record {
  counts = λ rp records views c old new m a x f s k counts sound shown has rep acts not_given have way. counts_stay o law rp records views c old new m a x f s k sound shown has rep acts not_given counts have way;
  labels = λ rp records views c old new m a x f s k counts labels sound shown has rep acts not_given have way.
      labels_stay o law rp records views c old new m a x f s k sound shown has rep acts not_given counts have labels way;
}

-- ---- what is read of the process

module _ {S : Type 0} (o : Ops S) where
  none_shares : (c : Channel) (ks : Nodes S) → all_done ks ≡ true → any_sharer o c ks ≡ false
  none_shares c no_node e = refl
  none_shares c (node_and k ks) e =
      on (goes k) (any_sharer o c ks) (first_holds (not (goes k)) (all_done ks) e) (none_shares c ks (second_holds (not (goes k)) (all_done ks) e))
    where
      on : (g y : Bool) → not g ≡ true → y ≡ false → g && o.shares (state k) c || y ≡ false
      on true y e f = absurd cc
      on false y e f = f

  live_unread : (c : Channel) (l : S) (v : StopView) (a : Acted S) → act_live o l v ≡ Some a → is_next v c ≡ false
  live_unread c l AtQuiet a e = refl
  live_unread c l AtPut a e = refl
  live_unread c l AtFork a e = refl
  live_unread c l AtFinish a e = refl
  live_unread c l (AtNext d) a e = none_some a e
  live_unread c l (AtThrow x) a e = refl
  live_unread c l (AtTrap kind line) a e = refl

  before : (c : Channel) (m : Node S) (a : Acted S) → act_here o m ≡ Some a → child_status o c m ≡ record { going = o.shares (state m) c; ready_on = false; dead_on = false }
  before c (Live l) a e = λ i. record { going = o.shares l c; ready_on = live_unread c l (o.stop l) a e i; dead_on = false }
  before c (Forked l ks) a e =
      let done = (cond_some (all_done ks) (closed o l (states ks) (prevailing_death ks)) a e).0 in
      λ i. record { going = o.shares l c; ready_on = none_shares c ks done i && all_ready o c ks; dead_on = false }
  before c (Ended l) a e = none_some a e
  before c (Dead l d) a e = none_some a e

  behind : (c : Channel) (a : Node S) → is_leaf a ≡ true → child_status o c a ≡ leaf_status o c (state a) (process_status a)
  behind c (Live l) e = refl
  behind c (Forked l ks) e = absurd cc
  behind c (Ended l) e = refl
  behind c (Dead l d) e = refl

  pub actors_are_read : ActorsAreRead o
  actors_are_read = record { before = before; behind = behind }
