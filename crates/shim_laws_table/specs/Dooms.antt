-- The label of the outermost exception of which a sharer of a channel died: by it a fork knows which children are doomed.
use Rattle.std.specs.Prelude.{◌≡◌, ◌↔◌, ℕ, Bool, true, false, Option, Some, None, List, [], cond, ltb, min, ◌≢◌, ◌++◌, ◌∷◌}
use Rattle.shim_base.specs.Paths.{Path, Channel}
use Rattle.shim_local.specs.Process.{Ops}
use Rattle.shim_semantics.specs.Nodes.{Node, Nodes, Live, Forked, Ended, Dead, no_node, node_and, ready}
use Rattle.shim_semantics.specs.Poison.{dooms, any_dooms, can_poison}
use Rattle.shim_semantics.specs.Places.{at, child_at}
use Rattle.shim_semantics.specs.Sound.{IsSound}
use Rattle.shim_laws_table.specs.NodeStatus.{IsAside}
use Rattle.shim_laws_table.specs.Places.{IsReplaced}
use Rattle.shim_laws_table.specs.Tallied.{is_above, IsCounted}

-- the lesser of two labels, where there are any
abbrev pub lesser : Option ℕ → Option ℕ → Option ℕ
lesser None y = y
lesser (Some x) None = Some x
lesser (Some x) (Some y) = Some (min x y)

-- the least label of the dead here and below that share the channel
abbrev mutual
  pub min_dead_label : {S : Type 0} → Ops S → Channel → Node S → Option ℕ
  min_dead_label o c (Live l) = None
  min_dead_label o c (Forked l ks) = min_dead_label_among o c ks
  min_dead_label o c (Ended l) = None
  min_dead_label o c (Dead l d) = cond (o.shares l c) (Some d.label) None

  pub min_dead_label_among : {S : Type 0} → Ops S → Channel → Nodes S → Option ℕ
  min_dead_label_among o c no_node = None
  min_dead_label_among o c (node_and k ks) = lesser (min_dead_label o c k) (min_dead_label_among o c ks)

-- there is a label, and it is below h, the number of exception places in force
abbrev pub is_below : Option ℕ → ℕ → Bool
is_below None h = false
is_below (Some x) h = ltb x h

-- What the least labels of dead sharers say of who is doomed:
pub record MinLabelsDecide {S : Type 0} (o : Ops S) : Type 0 where
  -- A node, or some children, doom at a fork with h exception places in force exactly if their least label is below h.
  pub here : (h : ℕ) (c : Channel) (n : Node S) → dooms o h c n ≡ is_below (min_dead_label o c n) h
  pub among : (h : ℕ) (c : Channel) (ks : Nodes S) → any_dooms o h c ks ≡ is_below (min_dead_label_among o c ks) h
  -- a child can be poisoned exactly where its fork shares the channel, it is ready, and the least label below the fork is in force there
  pub poisons : (root : Node S) (q : List ℕ) (l : S) (ks : Nodes S) (b : ℕ) (k : Node S) (c : Channel) → IsSound o root → at q root ≡ Some (Forked l ks) → child_at b [] ks ≡ Some k
      → (can_poison o l c b ks ≡ true) ↔ ((o.shares l c ≡ true) × (ready o c k ≡ true) × (is_below (min_dead_label_among o c ks) (o.handlers l) ≡ true))
  -- below a fork that doesn't count a channel, which was declared by none below it, no dead process shares it
  pub uncounted : (root : Node S) (q : List ℕ) (l : S) (ks : Nodes S) (c : Channel) → IsSound o root → at q root ≡ Some (Forked l ks) → ((x : ℕ × ℕ) (r : Path) → c.home ≢ o.path l ++ x ∷ r) → (IsCounted o l ks c → ⊥) → min_dead_label_among o c ks ≡ None

-- How the least label of each fork changes, where another node is put in a place:
pub record MinLabelsFollow {S : Type 0} (o : Ops S) : Type 0 where
  -- If no sharer at or below the old node is dead, each fork above takes in the least label of the new node.
  pub taken_in : (c : Channel) (old new m a : Node S) (q r : List ℕ) (l : S) (ks js : Nodes S) → IsReplaced q m a old new → min_dead_label o c m ≡ None → is_above r q ≡ true
      → at r old ≡ Some (Forked l ks) → at r new ≡ Some (Forked l js) → min_dead_label_among o c js ≡ lesser (min_dead_label_among o c ks) (min_dead_label o c a)
  -- If the old and the new node have the same least label, the label of each fork above stays.
  pub stays : (c : Channel) (old new m a : Node S) (q r : List ℕ) (l : S) (ks js : Nodes S) → IsReplaced q m a old new → min_dead_label o c a ≡ min_dead_label o c m → is_above r q ≡ true
      → at r old ≡ Some (Forked l ks) → at r new ≡ Some (Forked l js) → min_dead_label_among o c js ≡ min_dead_label_among o c ks
  -- A node that is neither above the place nor at or below it doesn't change.
  pub aside : (old new m a : Node S) (q r : List ℕ) → IsReplaced q m a old new → is_above r q ≡ false → IsAside r q → at r new ≡ at r old
