-- Places and paths of records, and where a channel's sharers stand.
use Rattle.std.proofs.Common.{◌≡◌, ℕ, true, Some, List, [], ◌∷◌, ◌++◌, drop, length, refl, sym, ap, ◌∙◌}
use Rattle.std.proofs.lemmas.List.{append_assoc, append-nil}
use Rattle.shim_base.specs.Paths.{Path, Channel}
use Rattle.shim_base.proofs.Facts.{some_same, cond_there}
use Rattle.shim_local.specs.Process.{Ops}
use Rattle.shim_local.specs.Laws.{LocalLaws}
use Rattle.shim_semantics.specs.Nodes.{Node, state, source, value_of}
use Rattle.shim_semantics.specs.Places.{at, branches, meets}
use Rattle.shim_semantics.specs.Trees.{Tree, Meet, met, after}
use Rattle.shim_semantics.proofs.Routes.{at_path}
use Rattle.shim_laws_schedules.proofs.Homes.{all_wait_home, meets_all_wait}
use Rattle.shim_laws_table.specs.NodeStatus.{ProcessStatus, place}
use Rattle.shim_laws_table.specs.Agrees.{RecordView, Has, Represents}
use Rattle.shim_laws_table.specs.Enabled.{Can}
use Rattle.shim_laws_table.proofs.SameTrees.{seen_some}
use Rattle.shim_laws_table.proofs.Hanging.{home_above}

behind_all : (p r : Path) → drop (length p) (p ++ r) ≡ r
behind_all [] r = refl
behind_all (x ∷ p) r = behind_all p r

branches_both : (p r : Path) → branches (p ++ r) ≡ branches p ++ branches r
branches_both [] r = refl
branches_both (x ∷ p) r = ap (λ z. x.1 ∷ z) (branches_both p r)

module _ {S : Type 0} (o : Ops S) (rp : Path) (records : List S) (views : List RecordView) (root : Node S) (s : Represents o rp records views root) where
  -- the path of a node, after that of the root
  path_at : (q : List ℕ) (n : Node S) → at q root ≡ Some n → (r : Path) × (o.path (state n) ≡ rp ++ r) × (branches r ≡ q)
  path_at q n e = let w = at_path o root n q s.sound.below e in (w.0, w.1 ∙ ap (λ z. z ++ w.0) s.root_path, w.2)

  place_of : (t : S) (r : Path) → o.path t ≡ rp ++ r → place o rp t ≡ branches r
  place_of t r e = ap (λ z. branches (drop (length rp) z)) e ∙ ap branches (behind_all rp r)

  -- it determines the place
  pub place_at : (q : List ℕ) (n : Node S) → at q root ≡ Some n → place o rp (state n) ≡ q
  place_at q n e = let w = path_at q n e in place_of (state n) w.0 w.1 ∙ w.2

  pub node_at : (i f : ℕ) (t : S) (k : ProcessStatus) → Has records views i f t k → (n : Node S) × (at (place o rp t) root ≡ Some n) × (state n ≡ t)
  node_at i f t k has = let w = seen_some (at (place o rp t) root) t k (s.agrees.shown i f t k has) in (w.0, w.1, w.2)

  -- a path further along is a place further along
  pub further_place : (i f : ℕ) (t u : S) (k : ProcessStatus) (r : Path) → Has records views i f t k → o.path u ≡ o.path t ++ r → place o rp u ≡ place o rp t ++ branches r
  further_place i f t u k r has e =
      let n = node_at i f t k has in
      let w = path_at (place o rp t) n.0 n.1 in
      let path : o.path t ≡ rp ++ w.0 = ap o.path (sym n.2) ∙ w.1 in
      place_of u (w.0 ++ r) (e ∙ (ap (λ z. z ++ r) path ∙ append_assoc rp w.0 r)) ∙ (branches_both w.0 r ∙ ap (λ z. z ++ branches r) w.2)

  -- who shares a channel is at its home or below
  pub below_home : (c : Channel) (i j f g : ℕ) (h t : S) (k x : ProcessStatus) → Has records views i f h k → o.path h ≡ c.home → Has records views j g t x → o.shares t c ≡ true → (r : List ℕ) × (place o rp t ≡ place o rp h ++ r)
  below_home c i j f g h t k x home its has shares =
      let n = node_at j g t x has in
      let w = home_above o c (place o rp t) root n.0 s.sound.below (λ y. ([], sym (s.sound.own c y) ∙ sym (append-nil c.home))) n.1 (ap (λ z. o.shares z c) n.2 ∙ shares) in
      (branches w.0, further_place i f h t k w.0 home (ap o.path (sym n.2) ∙ (w.1 ∙ ap (λ z. z ++ w.0) (sym its))))

  -- the home of a channel that can meet shares it
  pub home_shares : LocalLaws o → (c : Channel) (i f : ℕ) (h : S) (k : ProcessStatus) → Has records views i f h k → o.path h ≡ c.home → meets o c root ≡ true → o.shares h c ≡ true
  home_shares law c i f h k has its meet =
      let w = meets_all_wait o law c root s.sound meet in
      let y = all_wait_home o c root s.sound.below (s.sound.own c) w.0 w.1 in
      let n = node_at i f h k has in
      let one : place o rp h ≡ y.branches = ap (λ z. branches (drop (length rp) z)) (its ∙ sym y.path) ∙ place_at y.branches y.node y.there in
      let same : y.node ≡ n.0 = some_same y.node n.0 (sym y.there ∙ (ap (λ z. at z root) (sym one) ∙ n.1)) in
      ap (λ z. o.shares z c) (sym n.2 ∙ ap state (sym same)) ∙ y.shared

-- where the rendezvous is enabled the channel meets, and this is the tree after it
pub can_meet : {S : Type 0} (o : Ops S) (t : Tree S) (c : Channel) → Can o t (Meet c) → (meets o c t.root ≡ true) × (after o (Meet c) t ≡ Some (met o c (value_of o c (source o c t.root)) t))
can_meet o t c can = cond_there (meets o c t.root) (Some (met o c (value_of o c (source o c t.root)) t)) can
