-- The way that a channel's own variable went leads to whoever carries it.
use Rattle.std.proofs.Common.{◌≡◌, ◌≢◌, ◌≤◌, ◌<◌, ◌+◌, ℕ, ℤ, pos, zero, suc, Bool, true, cond, inl, inr, Option, Some, None, List, [], ◌∷◌, ◌++◌, map, refl, sym, ap, subst, ◌∙◌, arith}
use Rattle.std.proofs.lemmas.List.{append_assoc, append-nil}
use Rattle.shim_base.specs.Paths.{Path, Channel}
use Rattle.shim_base.proofs.Facts.{some_same, none_some, true_or_false}
use Rattle.shim_local.specs.Process.{Ops}
use Rattle.shim_local.specs.Laws.{LocalLaws, how_many}
use Rattle.shim_semantics.specs.Nodes.{Node, Nodes, Live, Forked, Ended, Dead, no_node, node_and, state, everyone, everyone_of, value_of}
use Rattle.shim_semantics.specs.Places.{at, child_at}
use Rattle.shim_semantics.specs.Trees.{Meet}
use Rattle.shim_semantics.proofs.HowMany.{counts, rest_counts, count_both, clash}
use Rattle.shim_semantics.proofs.Replaced.{sound_at, state_sound}
use Rattle.shim_laws_table.specs.NodeStatus.{ProcessStatus, forks, place, how_many_nodes}
use Rattle.shim_laws_table.proofs.SameTrees.{seen_fork}
use Rattle.shim_laws_table.proofs.Aside.{at_split}
use Rattle.shim_laws_table.proofs.OneChange.{one_state}
use Rattle.shim_laws_table.proofs.Hanging.{tree_of}
use Rattle.shim_laws_table.proofs.Sources.{sources_by_records}
use Rattle.shim_records.specs.Pairs.{record_view, known_in}
use Rattle.shim_records.specs.declared.pair.Sharing.{Sharing}
use Rattle.shim_laws_table_events.specs.keeping.Tables.{TableView, HasProcessState, TableInvariant}
use Rattle.shim_laws_table_events.proofs.keeping.Knowing.{known_shares}
use Rattle.shim_laws_table_events.specs.meetings.Meetings.{IsEnabled, Declares, HasValue}
use Rattle.shim_laws_table_events.specs.meetings.Plans.{CarriedFrom, SourceChild, ValueAt, SourcesLead}
use Rattle.shim_laws_table_events.proofs.meetings.AtHome.{node_at, below_home, home_shares, can_meet}
use Rattle.shim_laws_table_events.proofs.meetings.BelowForks.{fork_over, child_shares, fork_knows}

-- ---- how many carry it

in_front : (a b whole : ℕ) → whole ≡ a + b → 1 ≤ a → 1 ≤ whole
in_front a b whole e some = omega (arith, e, some)

behind : (a b whole : ℕ) → whole ≡ a + b → 1 ≤ b → 1 ≤ whole
behind a b whole e some = omega (arith, e, some)

no_less : (a b : ℕ) → a ≤ b → 1 ≤ a → 1 ≤ b
no_less a b less some = omega (arith, less, some)

module _ {S : Type 0} (f : S → Bool) where
  itself : (n : Node S) → f (state n) ≡ true → 1 ≤ how_many f (everyone n)
  itself (Live l) h = counts f l [] h
  itself (Ended l) h = counts f l [] h
  itself (Dead l x) h = counts f l [] h
  itself (Forked l ks) h = counts f l (everyone_of ks) h

  mutual
    some_at : (q : List ℕ) (n m : Node S) → at q n ≡ Some m → f (state m) ≡ true → 1 ≤ how_many f (everyone n)
    some_at [] n m e h = itself n (ap (λ z. f (state z)) (some_same n m e) ∙ h)
    some_at (i ∷ q) (Live l) m e h = none_some m e
    some_at (i ∷ q) (Ended l) m e h = none_some m e
    some_at (i ∷ q) (Dead l x) m e h = none_some m e
    some_at (i ∷ q) (Forked l ks) m e h = no_less (how_many f (everyone_of ks)) (how_many f (l ∷ everyone_of ks)) (rest_counts f l (everyone_of ks)) (some_in i q ks m e h)

    some_in : (i : ℕ) (q : List ℕ) (ks : Nodes S) (m : Node S) → child_at i q ks ≡ Some m → f (state m) ≡ true → 1 ≤ how_many f (everyone_of ks)
    some_in i q no_node m e h = none_some m e
    some_in zero q (node_and k ks) m e h = in_front (how_many f (everyone k)) (how_many f (everyone_of ks)) (how_many f (everyone k ++ everyone_of ks)) (count_both f (everyone k) (everyone_of ks)) (some_at q k m e h)
    some_in (suc i) q (node_and k ks) m e h = behind (how_many f (everyone k)) (how_many f (everyone_of ks)) (how_many f (everyone k ++ everyone_of ks)) (count_both f (everyone k) (everyone_of ks)) (some_in i q ks m e h)

-- ---- the way

too_far : {A : Type 0} (n m source : ℕ) → n ≡ m → n ≤ source → source < m → A
too_far n m source e far near = absurd (let z : ⊥ = omega (arith, e, far, near) in z)

some_of : {A : Type 0} (x : Option A) → x ≢ None → (y : A) × (x ≡ Some y)
some_of None h = absurd (h refl)
some_of (Some y) h = (y, refl)

module _ {S : Type 0} (o : Ops S) (law : LocalLaws o) (rp : Path) (v : TableView S) (root : Node S) (kept : TableInvariant o rp v root) (c : Channel) where
  -- whoever carries the channel shares it
  carrier_shares : (j g : ℕ) (t : S) (h : ProcessStatus) → HasProcessState v j g t h → o.carries t c ≡ true → o.shares t c ≡ true
  carrier_shares j g t h has e =
      let n = node_at o rp v.states (map record_view v.records) root kept.represents j g t h has in
      let sound = state_sound o n.0 (sound_at o (place o rp t) root n.0 kept.represents.sound.below n.1) in
      ap (λ z. o.shares z c) (sym n.2) ∙ law.carries_shares (state n.0) c sound (ap (λ z. o.carries z c) n.2 ∙ e)

  -- where it is below a fork that knows this, the source is the child at or above it
  source_over : (i f : ℕ) (s : S) (x : ProcessStatus) (k : Sharing) (has : HasProcessState v i f s x) → known_in c v.records i ≡ Some k → (j g : ℕ) (t : S) (h : ProcessStatus) → HasProcessState v j g t h → o.carries t c ≡ true → (b : ℕ) (r : List ℕ) → place o rp t ≡ place o rp s ++ b ∷ r → k.source ≡ b
  source_over i f s x k has knows j g t h mine e b r is =
      let over = fork_over o law rp v root kept i f s x has j g t h mine b r is in
      let knew = kept.known c i f over.many s k s over.children (subst (HasProcessState v i f s) over.forked has) knows over.there in
      let n = node_at o rp v.states (map record_view v.records) root kept.represents j g t h mine in
      let below : at r over.child ≡ Some n.0 = sym (at_split (place o rp s ++ b ∷ []) r root over.child over.child_there) ∙ (ap (λ z. at z root) (append_assoc (place o rp s) (b ∷ []) r ∙ sym is) ∙ n.1) in
      knew.handed_on b over.child over.is_child (some_at (λ z. o.carries z c) r over.child n.0 below (ap (λ z. o.carries z c) n.2 ∙ e))

  -- who is in its place is its process
  same_place : (i f : ℕ) (s : S) (x : ProcessStatus) (j g : ℕ) (t : S) (h : ProcessStatus) → HasProcessState v i f s x → HasProcessState v j g t h → place o rp t ≡ place o rp s ++ [] → j ≡ i
  same_place i f s x j g t h has mine is = kept.represents.agrees.apart j i g f t s h x mine has (is ∙ append-nil (place o rp s))

  module _ (i f n : ℕ) (s : S) (k : Sharing) (has : HasProcessState v i f s (forks n)) (knows : known_in c v.records i ≡ Some k) (less : k.source < n) (shares : o.shares s c ≡ true) where
    child : (g : ℕ) × (t : S) × (h : ProcessStatus) × HasProcessState v (f + k.source) g t h × (place o rp t ≡ place o rp s ++ k.source ∷ [])
    child = kept.represents.agrees.below i f n s has k.source less

    carried_on : (j g : ℕ) (t : S) (h : ProcessStatus) → HasProcessState v j g t h → o.carries t c ≡ true → (r : List ℕ) → place o rp t ≡ place o rp s ++ r → (q : List ℕ) × (place o rp t ≡ place o rp child.1 ++ q) × (o.shares child.1 c ≡ true)
    carried_on j g t h mine e [] is =
        let same = same_place i f s (forks n) j g t h has mine is in
        let is_s : t ≡ s = one_state v.states (map record_view v.records) j g f t s h (forks n) mine (subst (λ z. HasProcessState v z f s (forks n)) (sym same) has) in
        let w = seen_fork (at (place o rp s) root) s n (kept.represents.agrees.shown i f s (forks n) has) in
        let knew = kept.known c i f n s k s w.0 has knows w.1 in
        too_far (how_many_nodes w.0) n k.source w.2 (knew.kept_own (ap (λ z. o.carries z c) (sym is_s) ∙ e)) less
    carried_on j g t h mine e (b ∷ r) is =
        let from = source_over i f s (forks n) k has knows j g t h mine e b r is in
        let over = fork_over o law rp v root kept i f s (forks n) has j g t h mine b r is in
        let its = child_shares o law rp v root kept c i f s (forks n) has shares j g t h mine (carrier_shares j g t h mine e) b r is in
        let same : state over.child ≡ child.1 = one_state v.states (map record_view v.records) (f + b) over.first child.0 (state over.child) child.1 over.status child.2 over.has (subst (λ z. HasProcessState v (f + z) child.0 child.1 child.2) from child.3) in (
          r,
          is ∙ (sym (append_assoc (place o rp s) (b ∷ []) r) ∙ ap (λ z. z ++ r) (sym over.is_there ∙ ap (place o rp) same)),
          ap (λ z. o.shares z c) (sym same) ∙ its,
        )

pub sources_lead : {S : Type 0} (o : Ops S) → LocalLaws o → SourcesLead o
sources_lead {S} o law = record { begins = begins; goes_on = goes_on; value = value }
  where
    begins : (v : TableView S) (c : Channel) (i : ℕ) → Declares o v i c → IsEnabled o (Meet c) v → CarriedFrom o v c i
    begins v c i home enabled rp root kept =
        let views = map record_view v.records in
        let shares = home_shares o rp v.states views root kept.represents law c i home.first home.state home.status home.has home.its (can_meet o (tree_of o root) c (enabled rp (tree_of o root) kept)).0 in (
          home.first,
          home.state,
          home.status,
          home.has,
          (λ j g t h mine e.
              let w = below_home o rp v.states views root kept.represents c i j home.first g home.state t home.status h home.has home.its mine (carrier_shares o law rp v root kept c j g t h mine e) in
              (w.0, w.1, shares)),
        )

    goes_on : (v : TableView S) (c : Channel) (i j : ℕ) → CarriedFrom o v c i → SourceChild v c i (Some j) → CarriedFrom o v c j
    goes_on v c i j from way rp root kept =
        let a = from rp root kept in
        let is_s : a.1 ≡ way.2 = one_state v.states (map record_view v.records) i a.0 way.0 a.1 way.2 a.2 (forks way.1) a.3 way.4 in
        let knows = way.5 in
        let shares = known_shares o rp v root c kept i way.0 way.1 way.2 way.3 way.4 knows in
        let kid = child o law rp v root kept c i way.0 way.1 way.2 way.3 way.4 knows way.6 shares in (
          kid.0,
          kid.1,
          kid.2,
          subst (λ z. HasProcessState v z kid.0 kid.1 kid.2) (sym way.7) kid.3,
          (λ m g t h mine e.
              let w = a.4 m g t h mine e in
              carried_on o law rp v root kept c i way.0 way.1 way.2 way.3 way.4 knows way.6 shares m g t h mine e w.0 (w.1 ∙ ap (λ z. place o rp z ++ w.0) is_s)),
        )

    ends : (v : TableView S) (c : Channel) (i : ℕ) → CarriedFrom o v c i → SourceChild v c i None → (rp : Path) (root : Node S) → TableInvariant o rp v root → (j g : ℕ) (t : S) (h : ProcessStatus) → HasProcessState v j g t h → o.carries t c ≡ true → j ≡ i
    ends v c i from none rp root kept j g t h mine e =
        let a = from rp root kept in
        let w = a.4 j g t h mine e in
        on a.0 a.1 a.2 a.3 w.0 w.1 w.2
      where
        on : (f : ℕ) (s : S) (x : ProcessStatus) → HasProcessState v i f s x → (r : List ℕ) → place o rp t ≡ place o rp s ++ r → o.shares s c ≡ true → j ≡ i
        on f s x has [] is shares = same_place o law rp v root kept c i f s x j g t h has mine is
        on f s x has (b ∷ r) is shares =
            let over = fork_over o law rp v root kept i f s x has j g t h mine b r is in
            let y = some_of (known_in c v.records i) (fork_knows o law rp v root kept c i f s x has shares j g t h mine (carrier_shares o law rp v root kept c j g t h mine e) b r is) in
            let from' = source_over o law rp v root kept c i f s x y.0 has y.1 j g t h mine e b r is in
            too_far over.many over.many y.0.source refl (none f over.many s y.0 (subst (HasProcessState v i f s) over.forked has) y.1) (subst (λ z. z < over.many) (sym from') over.within)

    value : (v : TableView S) (c : Channel) (i : ℕ) (x : ℤ) → CarriedFrom o v c i → SourceChild v c i None → ValueAt o v c i x → HasValue o v c x
    value v c i x from none is rp root kept =
        let a = from rp root kept in
        let views = map record_view v.records in
        elim (true_or_false (o.carries a.1 c)) [
          | inl e ↦
              is a.1 a.3.state_is
              ∙ (ap (λ b. cond b (o.value a.1 c) (pos 0)) e ∙ sym (ap (value_of o c) ((sources_by_records o).carrier rp v.states views root c i a.0 a.1 a.2 kept.represents a.3 e)))
          | inr lacks ↦
              is a.1 a.3.state_is
              ∙ (ap (λ b. cond b (o.value a.1 c) (pos 0)) lacks ∙ sym (ap (value_of o c) ((sources_by_records o).none rp v.states views root c kept.represents (λ j g t h mine. elim (true_or_false (o.carries t c)) [
                | inl e ↦
                    let same = ends v c i from none rp root kept j g t h mine e in
                    let is_s = one_state v.states views j g a.0 t a.1 h a.2 mine (subst (λ z. HasProcessState v z a.0 a.1 a.2) (sym same) a.3) in
                    clash (o.carries a.1 c) (ap (λ z. o.carries z c) (sym is_s) ∙ e) lacks
                | inr e ↦ e
              ]))))
        ]
