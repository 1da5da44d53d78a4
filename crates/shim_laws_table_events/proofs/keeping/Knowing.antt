-- What forks know of who shares a channel stays, wherever another node is below them that was given as much and carries no more.
use Rattle.std.proofs.Common.{◌≡◌, ◌≢◌, ◌≤◌, ◌<◌, ◌⊎◌, ◌+◌, ℕ, zero, suc, Bool, true, false, Option, Some, None, List, [], ◌∷◌, ◌++◌, inl, inr, refl, sym, ap, subst, ◌∙◌, arith}
use Rattle.std.specs.Prelude.{slice_get}
use Rattle.std.specs.Option.{option_map}
use Rattle.shim_base.specs.Paths.{Path, Channel}
use Rattle.shim_base.proofs.Facts.{some_same, none_some}
use Rattle.shim_local.specs.Process.{Ops}
use Rattle.shim_local.specs.Laws.{LocalLaws, IsGiven}
use Rattle.shim_semantics.specs.Acts.{Acted, act_here}
use Rattle.shim_semantics.specs.Nodes.{Node, Nodes, Live, Forked, Ended, Dead, no_node, node_and, state}
use Rattle.shim_semantics.specs.Places.{at, child_at, SoundBelow}
use Rattle.shim_semantics.specs.Sound.{carriers}
use Rattle.shim_semantics.proofs.Follows.{IsNew, by_own, by_child}
use Rattle.shim_semantics.proofs.Replaced.{put_count}
use Rattle.shim_semantics.proofs.ReplacedNodes.{put, put_child}
use Rattle.shim_semantics.proofs.SoundEvents.{here_keeps}
use Rattle.shim_laws_table.specs.NodeStatus.{ProcessStatus, forks, place, IsAside, is_leaf}
use Rattle.shim_laws_table.specs.Agrees.{RecordView, Has}
use Rattle.shim_laws_table.specs.Places.{IsReplaced}
use Rattle.shim_laws_table.specs.Tallied.{is_above}
use Rattle.shim_laws_table.proofs.Aside.{as_many, at_split}
use Rattle.shim_laws_table.proofs.SameTrees.{is_put, through, aside_or_further}
use Rattle.shim_laws_table.proofs.PlacesAbove.{way_from, fork_above, with_split, untouched, leaf_no_fork}
use Rattle.shim_laws_table.proofs.Begun.{fork_parts}
use Rattle.shim_laws_table.proofs.Hanging.{counts_share, none_above}
use Rattle.shim_records.specs.Pairs.{tally, pair_of, counts_in, known_at, known_in, counts_at}
use Rattle.shim_records.specs.declared.pair.Pair.{Pair}
use Rattle.shim_records.specs.declared.pair.Sharing.{Sharing}
use Rattle.shim_records.specs.declared.record.Record.{Record}
use Rattle.shim_records.proofs.SharingFound.{known_pair, pair_known}
use Rattle.shim_laws_table_events.specs.keeping.Tables.{TableView, views, HasProcessState, TableInvariant}
use Rattle.shim_laws_table_events.specs.keeping.Knowing.{Knows, AreKnown}

no_channel : Channel
no_channel = record { home = []; serial = 0 }

still_some : (x m k a : ℕ) → x + m ≡ k + a → a ≤ m → 1 ≤ x → 1 ≤ k
still_some x m k a e less some = omega (arith, e, less, some)

pub given_same : {S : Type 0} (o : Ops S) (c : Channel) (x y : S) → o.given x ≡ o.given y → IsGiven o x c → IsGiven o y c
given_same o c x y e h = (h.0, h.1, ap (λ z. slice_get z h.0) (sym e) ∙ h.2, h.3)

-- ---- one fork, with another node below it

module _ {S : Type 0} (o : Ops S) (c : Channel) (m a : Node S) (given : o.given (state a) ≡ o.given (state m)) where
  -- a child is there as before, or it is the one at or below which the other node stands
  child_of : (p : List ℕ) (b d : ℕ) (ks : Nodes S) (h : Node S) → child_at d [] (put_child b p a ks) ≡ Some h → (child_at d [] ks ≡ Some h) ⊎ ((d ≡ b) × (k : Node S) × (child_at d [] ks ≡ Some k) × (h ≡ put p a k))
  child_of p b d no_node h e = none_some h e
  child_of p zero zero (node_and k ks) h e = inr (refl, k, refl, sym (some_same (put p a k) h e))
  child_of p zero (suc d) (node_and k ks) h e = inl e
  child_of p (suc b) zero (node_and k ks) h e = inl e
  child_of p (suc b) (suc d) (node_and k ks) h e = elim (child_of p b d ks h e) [ inl w ↦ inl w | inr w ↦ inr (ap suc w.0, w.1, w.2, w.3) ]

  -- it was given as much
  given_put : (p : List ℕ) (k : Node S) → at p k ≡ Some m → o.given (state (put p a k)) ≡ o.given (state k)
  given_put [] k e = given ∙ ap (λ z. o.given (state z)) (sym (some_same k m e))
  given_put (i ∷ p) (Forked l ks) e = refl
  given_put (i ∷ p) (Live l) e = none_some m e
  given_put (i ∷ p) (Ended l) e = none_some m e
  given_put (i ∷ p) (Dead l x) e = none_some m e

  knows_put : (p : List ℕ) (b : ℕ) (l : S) (ks : Nodes S) (k : Sharing) → child_at b p ks ≡ Some m → carriers o c a ≤ carriers o c m → Knows o c l ks k → Knows o c l (put_child b p a ks) k
  knows_put p b l ks k e fewer h = record {
    within = subst (λ z. k.last < z) (sym (as_many b p a ks)) h.within;
    between = λ d n there is. elim (child_of p b d ks n there) [
      | inl w ↦ h.between d n w is
      | inr w ↦ h.between d w.1 w.2 (given_same o c (state n) (state w.1) (ap (λ z. o.given (state z)) w.3 ∙ given_put p w.1 (here d w.1 w.0 w.2)) is)
    ];
    kept_own = λ has. subst (λ z. z ≤ k.source) (sym (as_many b p a ks)) (h.kept_own has);
    handed_on = λ d n there some. elim (child_of p b d ks n there) [
      | inl w ↦ h.handed_on d n w some
      | inr w ↦ h.handed_on d w.1 w.2 (still_some (carriers o c (put p a w.1)) (carriers o c m) (carriers o c w.1) (carriers o c a) (put_count (λ z. o.carries z c) p w.1 m a (here d w.1 w.0 w.2)) fewer (subst (λ z. 1 ≤ carriers o c z) w.3 some))
    ];
  }
    where
      here : (d : ℕ) (n : Node S) → d ≡ b → child_at d [] ks ≡ Some n → at p n ≡ Some m
      here d n same there = let w = through b p ks m e in ap (at p) (some_same n w.0 (sym there ∙ (ap (λ z. child_at z [] ks) same ∙ w.1))) ∙ w.2

-- ---- a fork in its place

module _ {S : Type 0} (o : Ops S) (c : Channel) (q : List ℕ) (m a old new : Node S) (rep : IsReplaced q m a old new) (given : o.given (state a) ≡ o.given (state m)) where
  pub knows_on : (r : List ℕ) (l : S) (js : Nodes S) (k : Sharing) → IsAside r q → (is_above r q ≡ true → carriers o c a ≤ carriers o c m) → at r new ≡ Some (Forked l js) → ((is : Nodes S) → at r old ≡ Some (Forked l is) → Knows o c l is k) → Knows o c l js k
  knows_on r l js k far fewer there was = on (is_above r q) refl
    where
      on : (b : Bool) → is_above r q ≡ b → Knows o c l js k
      on false u = was js (sym (untouched q r m a old rep.was u far) ∙ (ap (at r) (sym (is_put q m a old new rep)) ∙ there))
      on true u =
          let y = way_from r q u in
          let v = fork_above r y.branch y.rest old m (ap (λ z. at z old) (sym y.is) ∙ rep.was) in
          let now : at r new ≡ Some (Forked v.state (put_child y.branch y.rest a v.children)) =
          ap (at r) (is_put q m a old new rep) ∙ (ap (λ z. at r (put z a old)) y.is ∙ with_split r (y.branch ∷ y.rest) a old (Forked v.state v.children) v.there) in
          let parts = fork_parts o no_channel l v.state js (put_child y.branch y.rest a v.children) (sym there ∙ now) in
          let knew = was v.children (v.there ∙ ap (λ z. Some (Forked z v.children)) (sym parts.0)) in
          subst (λ z. Knows o c l z k) (sym parts.1) (knows_put o c m a given y.rest y.branch l v.children k v.child (fewer u) knew)

-- ---- the forks of records

-- the channel was declared neither there nor below
abbrev pub Elsewhere : Path → Channel → Type 0
Elsewhere p c = (r : Path) → c.home ≢ p ++ r

-- who knows anything of a channel counts it
known_counted : (c : Channel) (x : Option Record) (k : Sharing) → known_at c x ≡ Some k → counts_at c x ≢ None
known_counted c None k e = none_some k e
known_counted c (Some r) k e = λ none. let w = known_pair c r.pairs.items k e in none_some (tally w.0) (sym none ∙ ap (option_map tally) w.1)

-- and who counts it knows of it
pub counted_known : (c : Channel) (x : Option Record) → counts_at c x ≢ None → known_at c x ≢ None
counted_known c None counted = λ e. counted refl
counted_known c (Some r) counted = λ e. on e (pair_of c r.pairs.items) refl
  where
    on : known_at c (Some r) ≡ None → (y : Option Pair) → pair_of c r.pairs.items ≡ y → ⊥
    on e None w = counted (ap (option_map tally) w)
    on e (Some p) w = none_some p.sharing (sym e ∙ pair_known c r.pairs.items p w)

some_of : {A : Type 0} (y : Option A) → y ≢ None → (z : A) × (y ≡ Some z)
some_of None n = absurd (n refl)
some_of (Some z) n = (z, refl)

-- and shares it
pub known_shares : {S : Type 0} (o : Ops S) (rp : Path) (v : TableView S) (root : Node S) (c : Channel) → TableInvariant o rp v root → (j d n : ℕ) (t : S) (k : Sharing) → HasProcessState v j d t (forks n) → known_in c v.records j ≡ Some k → o.shares t c ≡ true
known_shares o rp v root c kept j d n t k fork e =
    let y = some_of (counts_in c v.records j) (known_counted c (slice_get v.records j) k e) in
    counts_share o rp v.states (views v) root kept.represents c (counts_in c v.records) (kept.right c).there j d n t y.0 fork y.1

module _ {S : Type 0} (o : Ops S) (rp : Path) (v : TableView S) (old new : Node S) (kept : TableInvariant o rp v old) (x f : ℕ) (l : S) (h : ProcessStatus) (has : HasProcessState v x f l h)
    (m a : Node S) (rep : IsReplaced (place o rp l) m a old new) (given : o.given (state a) ≡ o.given (state m)) (c : Channel) (fewer : Elsewhere (o.path l) c → carriers o c a ≤ carriers o c m) where
  -- no fork that knows of a channel is above its home
  above_elsewhere : (j d n : ℕ) (t : S) (k : Sharing) → HasProcessState v j d t (forks n) → known_in c v.records j ≡ Some k → is_above (place o rp t) (place o rp l) ≡ true → Elsewhere (o.path l) c
  above_elsewhere j d n t k fork e above r home =
      none_above o rp v.states (views v) old kept.represents c x f j d n l t h r has home fork above (known_shares o rp v old c kept j d n t k fork e)

  -- a fork aside knows what it knew
  pub knows_aside : (j d n : ℕ) (t : S) (k : Sharing) (u : S) (js : Nodes S) → HasProcessState v j d t (forks n) → known_in c v.records j ≡ Some k → IsAside (place o rp t) (place o rp l) → at (place o rp t) new ≡ Some (Forked u js) → Knows o c u js k
  knows_aside j d n t k u js fork e far there =
      knows_on o c (place o rp l) m a old new rep given (place o rp t) u js k far (λ above. fewer (above_elsewhere j d n t k fork e above)) there (λ is was. kept.known c j d n t k u is fork e was)

  -- and so do all, where nothing is below the other node
  pub known_on : is_leaf a ≡ true → (states' : List S) (views' : List RecordView) (known : ℕ → Option Sharing) → ((j d n : ℕ) (t : S) → Has states' views' j d t (forks n) → HasProcessState v j d t (forks n))
      → ((j d n : ℕ) (t : S) → Has states' views' j d t (forks n) → known j ≡ known_in c v.records j) → AreKnown o rp states' views' c known new
  known_on leaf states' views' known was same j d n t k u js fork e there = elim (aside_or_further (place o rp l) (place o rp t)) [
    | inr y ↦ leaf_no_fork y.0 a u js leaf (sym (at_split (place o rp l) y.0 new a rep.is) ∙ (ap (λ z. at z new) (sym y.1) ∙ there))
    | inl far ↦ knows_aside j d n t k u js (was j d n t fork) (sym (same j d n t fork) ∙ e) far there
  ]

-- what a process does by itself leaves it no more to carry of the channels of others
pub acts_fewer : {S : Type 0} (o : Ops S) → LocalLaws o → (m : Node S) (a : Acted S) (c : Channel) → SoundBelow o m → act_here o m ≡ Some a → Elsewhere (o.path (state m)) c → carriers o c a.node ≤ carriers o c m
acts_fewer {S} o law m a c sound acts far = elim ((here_keeps o law m a sound acts).carried c) [
  | inl w ↦ w
  | inr w ↦ absurd (on w.1)
]
  where
    on : IsNew o c m → ⊥
    on (by_own home out) = far [] (home ∙ sym (no_more (o.path (state m))))
      where
        no_more : (p : Path) → p ++ [] ≡ p
        no_more [] = refl
        no_more (y ∷ p) = ap (λ z. y ∷ z) (no_more p)
    on (by_child l y is home) = far (y ∷ []) (home ∙ ap (λ z. o.path (state z) ++ y ∷ []) (sym is))
