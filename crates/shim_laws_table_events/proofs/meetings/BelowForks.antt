-- Who is below a fork is at or below one of its children, and what is known of that child.
use Rattle.std.proofs.Common.{◌≡◌, ◌≢◌, ◌<◌, ◌≤◌, ℕ, ◌+◌, true, Some, None, List, [], ◌∷◌, ◌++◌, map, inl, inr, refl, sym, ap, subst, ◌∙◌}
use Rattle.std.proofs.lemmas.List.{append_assoc, append-nil}
use Rattle.std.specs.Prelude.{slice_get}
use Rattle.shim_base.specs.Paths.{Path, Channel}
use Rattle.shim_base.proofs.Facts.{some_same, true_or_false}
use Rattle.shim_local.specs.Process.{Ops}
use Rattle.shim_local.specs.Laws.{LocalLaws, IsGiven}
use Rattle.shim_semantics.specs.Nodes.{Node, Nodes, Forked, state}
use Rattle.shim_semantics.specs.Places.{at, child_at}
use Rattle.shim_laws_table.specs.NodeStatus.{ProcessStatus, forks, seen, place, how_many_nodes}
use Rattle.shim_laws_table.proofs.SameTrees.{child_counted, through}
use Rattle.shim_laws_table.proofs.Aside.{at_split}
use Rattle.shim_laws_table.proofs.PlacesAbove.{fork_above}
use Rattle.shim_laws_table.proofs.Hanging.{given_place, given_child}
use Rattle.shim_records.specs.Pairs.{record_view, known_in}
use Rattle.shim_records.specs.declared.pair.Sharing.{Sharing}
use Rattle.shim_laws_table_events.proofs.keeping.Knowing.{counted_known}
use Rattle.shim_laws_table_events.specs.keeping.Tables.{TableView, HasProcessState, TableInvariant}
use Rattle.shim_laws_table_events.proofs.meetings.AtHome.{node_at}
use Rattle.shim_laws_table_events.proofs.meetings.Descents.{none_below, child_outside}

module _ {S : Type 0} (o : Ops S) (law : LocalLaws o) (rp : Path) (v : TableView S) (root : Node S) (kept : TableInvariant o rp v root) where
  -- the fork of a process at or above another one
  pub record ForkOver (i f : ℕ) (s : S) (k : ProcessStatus) (b : ℕ) : Type 0 where
    pub many : ℕ
    pub forked : k ≡ forks many
    pub children : Nodes S
    pub there : at (place o rp s) root ≡ Some (Forked s children)
    pub as_many : how_many_nodes children ≡ many
    pub within : b < many
    pub child : Node S
    pub is_child : child_at b [] children ≡ Some child
    pub child_there : at (place o rp s ++ b ∷ []) root ≡ Some child
    pub first : ℕ
    pub status : ProcessStatus
    pub has : HasProcessState v (f + b) first (state child) status
    pub is_there : place o rp (state child) ≡ place o rp s ++ b ∷ []

  pub fork_over : (i f : ℕ) (s : S) (k : ProcessStatus) → HasProcessState v i f s k → (j g : ℕ) (t : S) (h : ProcessStatus) → HasProcessState v j g t h → (b : ℕ) (r : List ℕ) → place o rp t ≡ place o rp s ++ b ∷ r → ForkOver i f s k b
  fork_over i f s k has j g t h below b r is =
      let m = node_at o rp v.states (map record_view v.records) root kept.represents j g t h below in
      let w = fork_above (place o rp s) b r root m.0 (ap (λ z. at z root) (sym is) ∙ m.1) in
      let see : (w.state, forks (how_many_nodes w.children)) ≡ (s, k) = some_same _ _ (sym (ap seen w.there) ∙ kept.represents.agrees.shown i f s k has) in
      let is_s : w.state ≡ s = ap (λ z. z.0) see in
      let is_k : forks (how_many_nodes w.children) ≡ k = ap (λ z. z.1) see in
      let less = child_counted b r w.children m.0 w.child in
      let fork : HasProcessState v i f s (forks (how_many_nodes w.children)) = subst (HasProcessState v i f s) (sym is_k) has in
      let z = kept.represents.agrees.below i f (how_many_nodes w.children) s fork b less in
      let c = through b r w.children m.0 w.child in
      let here : at (place o rp s ++ b ∷ []) root ≡ Some c.0 = at_split (place o rp s) (b ∷ []) root (Forked w.state w.children) w.there ∙ c.1 in
      let n = node_at o rp v.states (map record_view v.records) root kept.represents (f + b) z.0 z.1 z.2 z.3 in
      let same : state c.0 ≡ z.1 = ap state (some_same c.0 n.0 (sym here ∙ (ap (λ y. at y root) (sym z.4) ∙ n.1))) ∙ n.2 in
      record {
        many = how_many_nodes w.children;
        forked = sym is_k;
        children = w.children;
        there = w.there ∙ ap (λ y. Some (Forked y w.children)) is_s;
        as_many = refl;
        within = less;
        child = c.0;
        is_child = c.1;
        child_there = here;
        first = z.0;
        status = z.2;
        has = subst (λ y. HasProcessState v (f + b) z.0 y z.2) (sym same) z.3;
        is_there = ap (place o rp) same ∙ z.4;
      }

  -- where the process of the fork shares the channel, and who is below does, the child shares it, too, and was given it
  module _ (c : Channel) (i f : ℕ) (s : S) (k : ProcessStatus) (has : HasProcessState v i f s k) (shares : o.shares s c ≡ true) (j g : ℕ) (t : S) (h : ProcessStatus) (below : HasProcessState v j g t h) (shares_below : o.shares t c ≡ true)
      (b : ℕ) (r : List ℕ) (is : place o rp t ≡ place o rp s ++ b ∷ r) where
    abbrev pub over : ForkOver i f s k b
    over = fork_over i f s k has j g t h below b r is

    far : (r : Path) → c.home ≢ o.path (state over.child) ++ r
    far = child_outside o rp v c root kept i f s k has shares over.many b over.first (state over.child) over.status (subst (HasProcessState v i f s) over.forked has) over.has over.is_there

    pub child_shares : o.shares (state over.child) c ≡ true
    child_shares = elim (true_or_false (o.shares (state over.child) c)) [
      | inl e ↦ e
      | inr lacks ↦ absurd (none_below o rp v c root kept (f + b) over.first (state over.child) over.status j over.has lacks far
          (record { first = g; state = t; status = h; has = below; shares = shares_below; further = r; is_there = is ∙ (sym (append_assoc (place o rp s) (b ∷ []) r) ∙ ap (λ z. z ++ r) (sym over.is_there)) }))
    ]

    pub child_given : IsGiven o (state over.child) c
    child_given = given_place o law root (place o rp s) b over.child c kept.represents.sound over.child_there (λ e. far [] (e ∙ sym (append-nil (o.path (state over.child))))) child_shares

    -- so the fork knows of the channel
    pub fork_knows : known_in c v.records i ≢ None
    fork_knows =
        counted_known c (slice_get v.records i)
        (((kept.right c).there i f over.many s s over.children (subst (HasProcessState v i f s) over.forked has) over.there).1 (shares, given_child o b over.children over.child c over.is_child child_given))

    -- and where it knows this, the child has a branch between those
    pub child_between : (x : Sharing) → known_in c v.records i ≡ Some x → (x.first ≤ b) × (b ≤ x.last) × (x.last < over.many)
    child_between x e =
        let knows = kept.known c i f over.many s x s over.children (subst (HasProcessState v i f s) over.forked has) e over.there in
        let w = knows.between b over.child over.is_child child_given in
        (w.0, w.1, subst (λ z. x.last < z) over.as_many knows.within)
