-- What the way up through the records leaves: all counts are those of the new tree.
use Rattle.std.proofs.Common.{◌≡◌, ◌≢◌, ℕ, zero, suc, ◌+◌, ◌≤◌, Bool, true, false, Option, Some, List, [], ◌∷◌, ◌++◌, cond, length, inl, inr, refl, sym, ap, subst, ◌∙◌, arith}
use Rattle.std.proofs.lemmas.List.{append_assoc, append-nil}
use Rattle.shim_base.specs.Paths.{Path, Channel}
use Rattle.shim_local.specs.Process.{Ops}
use Rattle.shim_local.specs.Laws.{LocalLaws}
use Rattle.shim_semantics.specs.Nodes.{Node, Nodes, Forked, no_node, node_and, state, ready, goes, is_dead}
use Rattle.shim_semantics.specs.Places.{at, child_at, SoundBelow}
use Rattle.shim_semantics.proofs.ReplacedNodes.{put, put_child}
use Rattle.shim_semantics.proofs.HowMany.{clash}
use Rattle.shim_laws_schedules.specs.Waiting.{has_sharer}
use Rattle.shim_laws_schedules.proofs.Unshared.{is_unshared_still}
use Rattle.shim_laws_schedules.proofs.Homes.{unshared_is_unshared, ready_has_sharer}
use Rattle.shim_base.proofs.Facts.{some_same, none_some, and_false, false_unless}
use Rattle.shim_laws_table.specs.NodeStatus.{ProcessStatus, forks, seen, place, how_many_nodes}
use Rattle.shim_laws_table.specs.Agrees.{RecordView, Has, Agrees, Represents}
use Rattle.shim_laws_table.specs.Places.{IsReplaced}
use Rattle.shim_laws_table.specs.Counts.{Tally, tally_of, is_going_on, isnt_ready, is_dead_on, count, bit, not_ready_on, ChildStatus, child_status, fork_status, tally_ready, IsExchanged}
use Rattle.shim_laws_table.specs.Tallied.{Tallied, OnTheWay, is_above, HaveCounts}
use Rattle.shim_laws_table.specs.Updating.{AreLinked, AreAtMost, CanMove, AreMoved, UpdatedAbove, too_far, at_top, no_counts, stays, goes_on, CountsFollow}
use Rattle.shim_laws_table.proofs.Aside.{as_many}
use Rattle.shim_laws_table.proofs.SameTrees.{same_or_not, is_put, fork_count}
use Rattle.shim_laws_table.proofs.Tallies.{one_more, count_changed}
use Rattle.shim_laws_table.proofs.PlacesAbove.{topped, ended, above_its_own, fork_above, with_split}
use Rattle.shim_laws_table.proofs.Moves.{all_moves}
use Rattle.shim_laws_table.proofs.Hanging.{tied, topmost, counts_share, declared, none_above}

bit_less : (b : Bool) (m n : ℕ) → m ≤ n → bit b + m ≤ suc n
bit_less true m n h = omega (arith, h)
bit_less false m n h = omega (arith, h)

-- no more are counted than there are, and a child is counted
counted_most : {S : Type 0} (f : Node S → Bool) (ks : Nodes S) → count f ks ≤ how_many_nodes ks
counted_most f no_node = omega arith
counted_most f (node_and k ks) = let w = one_more (f k) (count f ks) in let u = bit_less (f k) (count f ks) (how_many_nodes ks) (counted_most f ks) in omega (arith, w, u)

counted_least : {S : Type 0} (f : Node S → Bool) (b : ℕ) (ks : Nodes S) (k : Node S) → child_at b [] ks ≡ Some k → bit (f k) ≤ count f ks
counted_least f b no_node k e = none_some k e
counted_least f zero (node_and j ks) k e = let w = one_more (f j) (count f ks) in let u = ap (λ z. bit (f z)) (some_same j k e) in omega (arith, w, u)
counted_least f (suc b) (node_and j ks) k e = let w = one_more (f j) (count f ks) in let u = counted_least f b ks k e in omega (arith, w, u)

longer : (r : List ℕ) (b : ℕ) → length (r ++ b ∷ []) ≡ suc (length r)
longer [] b = refl
longer (x ∷ r) b = ap suc (longer r b)

shorter : (p r : List ℕ) (b n : ℕ) → p ≡ r ++ b ∷ [] → length p ≤ suc n → length r ≤ n
shorter p r b n e far = let w = ap length e in let v = longer r b in omega (arith, w, v, far)

too_long : (p : List ℕ) → length p ≤ 0 → p ≡ []
too_long [] h = refl
too_long (x ∷ p) h = absurd (omega (arith, h))

bounded : {x w v d : ℕ} → x ≡ w → w ≤ v → v ≡ d → x ≤ d
bounded e f g = omega (arith, e, f, g)

-- a count that is moved stays within what there is room for
room : (y is was now many most : ℕ) → now + was ≡ y + is → now ≤ many → many ≤ most → y + is ≤ most + was
room y is was now many most e f g = omega (arith, e, f, g)

module _ {S : Type 0} (o : Ops S) (rp : Path) (records : List S) (views : List RecordView) (c : Channel) (up : ℕ → Option ℕ) (most : ℕ) (root a new : Node S) (q : List ℕ)
    (shown : Represents o rp records views new) (is_new : new ≡ put q a root) (linked : AreLinked records views up) (few : AreAtMost most records views) where
  ok : Agrees o rp records views (put q a root)
  ok = subst (Agrees o rp records views) is_new shown.agrees

  abbrev On : (ℕ → Option Tally) → List ℕ → Type 0
  On counts p = OnTheWay o rp records views c counts root (put q a root) p

  abbrev Done : (ℕ → Option Tally) → Type 0
  Done counts = Tallied o rp records views c counts (put q a root)

  -- what is known where the record x has a parent
  pub record Up (x j : ℕ) (s : S) (t : List ℕ) (m : Node S) : Type 0 where
    pub first : ℕ
    pub many : ℕ
    pub fork : S
    pub branch : ℕ
    pub has : Has records views j first fork (forks many)
    pub is : place o rp s ≡ place o rp fork ++ branch ∷ []
    pub split : q ≡ place o rp fork ++ branch ∷ t
    pub children : Nodes S
    pub there : at (place o rp fork) root ≡ Some (Forked fork children)
    pub child : child_at branch [] children ≡ Some m
    pub as_many_are : how_many_nodes children ≡ many

  up_from : (x j f : ℕ) (s : S) (k : ProcessStatus) → up x ≡ Some j → Has records views x f s k → (t : List ℕ) (m : Node S) → q ≡ place o rp s ++ t → at (place o rp s) root ≡ Some m → Up x j s t m
  up_from x j f s k above has t m split there =
      let w = tied o rp records views new shown up linked x f j s k has above in
      let b = w.0 in
      let r = place o rp b.parent in
      let v = fork_above r b.branch [] root m (ap (λ z. at z root) (sym b.is) ∙ there) in
      let e : q ≡ r ++ b.branch ∷ t = split ∙ (ap (λ z. z ++ t) b.is ∙ append_assoc r (b.branch ∷ []) t) in
      let now : at r (put q a root) ≡ Some (Forked v.state (put_child b.branch t a v.children)) = ap (λ z. at r (put z a root)) e ∙ with_split r (b.branch ∷ t) a root (Forked v.state v.children) v.there in
      let see : (v.state, forks (how_many_nodes (put_child b.branch t a v.children))) ≡ (b.parent, forks b.many) = some_same _ _ (sym (ap seen now) ∙ ok.shown b.number b.first b.parent (forks b.many) b.has) in
      let same : v.state ≡ b.parent = ap (λ z. z.0) see in
      record {
        first = b.first;
        many = b.many;
        fork = b.parent;
        branch = b.branch;
        has = subst (λ z. Has records views z b.first b.parent (forks b.many)) w.1 b.has;
        is = b.is;
        split = e;
        children = v.children;
        there = v.there ∙ ap (λ z. Some (Forked z v.children)) same;
        child = v.child;
        as_many_are = sym (as_many b.branch t a v.children) ∙ fork_count (how_many_nodes (put_child b.branch t a v.children)) b.many (ap (λ z. z.1) see);
      }

  module _ (x j f : ℕ) (s : S) (t : List ℕ) (m : Node S) (u : Up x j s t m) (before behind : ℕ → Option Tally) (was is : ChildStatus) (y z : Tally) (step : AreMoved most before j was is y z behind)
      (have : HaveCounts o rp records views c before new) (read : child_status o c m ≡ was) (reads : child_status o c (put t a m) ≡ is) (way : On before (place o rp s)) where
    abbrev r : List ℕ
    r = place o rp u.fork

    way' : OnTheWay o rp records views c before root (put (r ++ u.branch ∷ t) a root) (r ++ u.branch ∷ [])
    way' = subst (λ w. OnTheWay o rp records views c before root (put w a root) (r ++ u.branch ∷ [])) u.split (subst (On before) u.is way)

    ok' : Agrees o rp records views (put (r ++ u.branch ∷ t) a root)
    ok' = subst (λ w. Agrees o rp records views (put w a root)) u.split ok

    its_own : y ≡ tally_of o c u.children
    its_own = way' j u.first u.many u.fork y u.fork u.children u.has step.old
        (ap (λ d. at r (cond d root (put (r ++ u.branch ∷ t) a root))) (above_its_own r u.branch) ∙ u.there)

    moves : (g : Node S → Bool) (w v : Bool) (d : ℕ) → g m ≡ w → g (put t a m) ≡ v → count g u.children ≡ d → (bit w ≤ d) × (d + bit v ≤ most + bit w)
    moves g w v d e f i =
        let min_dead_label = counted_least g u.branch u.children m u.child in
        let changed = count_changed g u.branch t u.children m a u.child in
        let new_most = counted_most g (put_child u.branch t a u.children) in
        let many = as_many u.branch t a u.children ∙ u.as_many_are in
        let fits = few j u.first u.many u.fork u.has in
        let e' = ap bit e in
        let f' = ap bit f in
        (omega (arith, min_dead_label, e', i), room d (bit v) (bit w) (count g (put_child u.branch t a u.children)) (how_many_nodes (put_child u.branch t a u.children)) most (omega (arith, changed, e', f', i)) new_most (omega (arith, many, fits)))

    can : CanMove most was is y
    can =
        let e = sym its_own in
        let going = moves (is_going_on o c) was.going is.going y.going (ap (λ w. w.going) read) (ap (λ w. w.going) reads) (ap (λ w. w.going) e) in
        let not_ready = moves (isnt_ready o c) (not_ready_on was) (not_ready_on is) y.not_ready (ap not_ready_on read) (ap not_ready_on reads) (ap (λ w. w.not_ready) e) in
        let dead = moves (is_dead_on o c) was.dead_on is.dead_on y.dead (ap (λ w. w.dead_on) read) (ap (λ w. w.dead_on) reads) (ap (λ w. w.dead) e) in
        record { going = going.0; not_ready = not_ready.0; dead = dead.0; going_fits = going.1; not_ready_fits = not_ready.1; dead_fits = dead.1 }

    moved : IsExchanged (child_status o c m) (child_status o c (put t a m)) y z
    moved = subst (λ w. IsExchanged w (child_status o c (put t a m)) y z) (sym read) (subst (λ w. IsExchanged was w y z) (sym reads) (step.moved can))

    up_one : OnTheWay o rp records views c behind root (put (r ++ u.branch ∷ t) a root) r
        × (child_status o c (Forked u.fork u.children) ≡ fork_status (o.shares u.fork c) y)
        × (child_status o c (put (u.branch ∷ t) a (Forked u.fork u.children)) ≡ fork_status (o.shares u.fork c) z)
    up_one = all_moves o rp records views c before behind root m a u.fork u.fork u.children r t u.branch j u.first u.many y z ok' u.has refl u.there u.child moved step.old step.new step.others way'

    pub shares_it : o.shares u.fork c ≡ true
    shares_it = counts_share o rp records views new shown c before have j u.first u.many u.fork y u.has step.old

    pub status_before : child_status o c (Forked u.fork u.children) ≡ fork_status true y
    status_before = up_one.1 ∙ ap (λ b. fork_status b y) shares_it

    pub status_then : child_status o c (put (u.branch ∷ t) a (Forked u.fork u.children)) ≡ fork_status true z
    status_then = up_one.2 ∙ ap (λ b. fork_status b z) shares_it

    pub way_on : On behind r
    way_on = subst (λ w. OnTheWay o rp records views c behind root (put w a root) r) (sym u.split) up_one.0

    pub done_here : tally_ready y ≡ tally_ready z → Done behind
    done_here same =
        subst (λ w. Tallied o rp records views c behind (put w a root)) (sym u.split)
        (ended o rp records views c behind root (Forked u.fork u.children) a r (u.branch ∷ t) u.there
        (status_before ∙ (ap (λ b. let w : ChildStatus = record { going = true; ready_on = b; dead_on = false } in w) same ∙ sym status_then)) up_one.0)

    pub have_still : HaveCounts o rp records views c behind new
    have_still i g n l k ks has there = elim (same_or_not i j) [
      | inl w ↦ (
        (λ some. (have i g n l k ks has there).0 (λ e. none_some y (sym e ∙ (ap before w ∙ step.old)))),
        (λ counted e. none_some z (sym e ∙ (ap behind w ∙ step.new))),
      )
      | inr w ↦ (
        (λ some. (have i g n l k ks has there).0 (λ e. some (step.others i w ∙ e))),
        (λ counted e. (have i g n l k ks has there).1 counted (sym (step.others i w) ∙ e)),
      )
    ]

  at_the_top : (counts : ℕ → Option Tally) (p : List ℕ) → p ≡ [] → On counts p → Done counts
  at_the_top counts p e way = topped o rp records views c counts root (put q a root) (subst (On counts) e way)

  -- where no fork above has counts, all that are kept are those of the new tree
  pub cut_off : (counts : ℕ → Option Tally) → HaveCounts o rp records views c counts new → (x f : ℕ) (s : S) (k : ProcessStatus) (r : Path) → Has records views x f s k → c.home ≡ o.path s ++ r → On counts (place o rp s) → Done counts
  cut_off counts have x f s k r has home way i d e z y l ks its w at_z = on (is_above (place o rp z) (place o rp s)) refl
    where
      on : (v : Bool) → is_above (place o rp z) (place o rp s) ≡ v → y ≡ tally_of o c ks
      on false v = way i d e z y l ks its w (ap (λ k. at (place o rp z) (cond k root (put q a root))) v ∙ at_z)
      on true v = absurd (none_above o rp records views new shown c x f i d e s z k r has home its v (counts_share o rp records views new shown c counts have i d e z y its w))

  pub go : LocalLaws o → {n x : ℕ} {was is : ChildStatus} {before behind : ℕ → Option Tally} → UpdatedAbove up most n before x was is behind → HaveCounts o rp records views c before new
      → (f : ℕ) (s : S) (k : ProcessStatus) → Has records views x f s k → o.shares s c ≡ true → (t : List ℕ) (m : Node S)
      → q ≡ place o rp s ++ t → at (place o rp s) root ≡ Some m → child_status o c m ≡ was → child_status o c (put t a m) ≡ is → length (place o rp s) ≤ n
      → On before (place o rp s) → Done behind × HaveCounts o rp records views c behind new
  go law (too_far before x was is) have f s k has shares t m split there read reads far way = (at_the_top before (place o rp s) (too_long (place o rp s) far) way, have)
  go law (at_top n before x was is none) have f s k has shares t m split there read reads far way =
      (at_the_top before (place o rp s) (topmost o rp records views new shown up linked x f s k has none) way, have)
  go law (no_counts n before x j was is above none) have f s k has shares t m split there read reads far way =
      let w = tied o rp records views new shown up linked x f j s k has above in
      let home = declared o rp records views new shown c before have law x f s k has shares w.0 (ap before w.1 ∙ none) in
      (cut_off before have x f s k [] has (home ∙ sym (append-nil (o.path s))) way, have)
  go law (stays n before behind x j was is y z above step same) have f s k has shares t m split there read reads far way =
      let u = up_from x j f s k above has t m split there in
      (done_here x j f s t m u before behind was is y z step have read reads way same, have_still x j f s t m u before behind was is y z step have read reads way)
  go law (goes_on n before between behind x j was is y z above step rest) have f s k has shares t m split there read reads far way =
      let u = up_from x j f s k above has t m split there in
      go law rest (have_still x j f s t m u before between was is y z step have read reads way) u.first u.fork (forks u.many) u.has
      (shares_it x j f s t m u before between was is y z step have read reads way) (u.branch ∷ t) (Forked u.fork u.children)
      u.split u.there
      (status_before x j f s t m u before between was is y z step have read reads way)
      (status_then x j f s t m u before between was is y z step have read reads way)
      (shorter (place o rp s) (place o rp u.fork) u.branch n u.is far)
      (way_on x j f s t m u before between was is y z step have read reads way)

module _ {S : Type 0} (o : Ops S) (law : LocalLaws o) where
  updated : (rp : Path) (records : List S) (views : List RecordView) (up : ℕ → Option ℕ) (c : Channel) (old new m a : Node S) (most n x f : ℕ) (s : S) (k : ProcessStatus) (was is : ChildStatus) (before behind : ℕ → Option Tally)
      → Represents o rp records views new → AreLinked records views up → AreAtMost most records views → Has records views x f s k → IsReplaced (place o rp s) m a old new
      → child_status o c m ≡ was → child_status o c a ≡ is → length (place o rp s) ≤ n → o.shares s c ≡ true
      → HaveCounts o rp records views c before new → OnTheWay o rp records views c before old new (place o rp s) → UpdatedAbove up most n before x was is behind
      → Tallied o rp records views c behind new × HaveCounts o rp records views c behind new
  updated rp records views up c old new m a most n x f s k was is before behind shown linked few has rep read reads far shares have way update_counts_above =
      let q = place o rp s in
      let same = is_put q m a old new rep in
      let w = go o rp records views c up most old a new q shown same linked few law update_counts_above have f s k has shares [] m (sym (append-nil q)) rep.was read reads far
      (subst (λ z. OnTheWay o rp records views c before old z q) same way) in
      (subst (Tallied o rp records views c behind) (sym same) w.0, w.1)

  alike : (rp : Path) (records : List S) (views : List RecordView) (c : Channel) (old new m a : Node S) (q : List ℕ) (counts : ℕ → Option Tally)
      → IsReplaced q m a old new → child_status o c m ≡ child_status o c a → OnTheWay o rp records views c counts old new q → Tallied o rp records views c counts new
  alike rp records views c old new m a q counts rep same way =
      let is = is_put q m a old new rep in
      let e : put q a old ≡ put (q ++ []) a old = ap (λ z. put z a old) (sym (append-nil q)) in
      subst (Tallied o rp records views c counts) (sym (is ∙ e))
      (ended o rp records views c counts old m a q [] rep.was same (subst (λ z. OnTheWay o rp records views c counts old z q) (is ∙ e) way))

  own : (rp : Path) (records : List S) (views : List RecordView) (c : Channel) (old new : Node S) (x f : ℕ) (s : S) (k : ProcessStatus) (r : Path) (counts : ℕ → Option Tally)
      → Represents o rp records views new → Has records views x f s k → c.home ≡ o.path s ++ r
      → HaveCounts o rp records views c counts new → OnTheWay o rp records views c counts old new (place o rp s) → Tallied o rp records views c counts new
  own rp records views c old new x f s k r counts shown has home have way i d e z y l ks its w at_z = on (is_above (place o rp z) (place o rp s)) refl
    where
      on : (v : Bool) → is_above (place o rp z) (place o rp s) ≡ v → y ≡ tally_of o c ks
      on false v = way i d e z y l ks its w (ap (λ k. at (place o rp z) (cond k old new)) v ∙ at_z)
      on true v = absurd (none_above o rp records views new shown c x f i d e s z k r has home its v (counts_share o rp records views new shown c counts have i d e z y its w))

  unshared : (c : Channel) (n : Node S) → SoundBelow o n → o.shares (state n) c ≡ false → ((r : Path) → c.home ≢ o.path (state n) ++ r)
      → child_status o c n ≡ record { going = false; ready_on = false; dead_on = false }
  unshared c n s e out =
      let quiet = unshared_is_unshared o c n s e out in
      let never : ready o c n ≡ false = false_unless (ready o c n) (λ h. clash (has_sharer o c n) (ready_has_sharer o law c n s h) (is_unshared_still o c n quiet)) in
      λ i. record { going = and_false (goes n) (o.shares (state n) c) e i; ready_on = never i; dead_on = and_false (is_dead n) (o.shares (state n) c) e i }

  pub counts_follow : CountsFollow o
  counts_follow = record { updated = updated; alike = alike; own = own; unshared = unshared }
