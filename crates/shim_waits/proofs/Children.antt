-- The children of a node from a place on.
use Rattle.std.proofs.Common.{◌≡◌, ℕ, zero, suc, ◌+◌, ◌≤◌, Bool, true, false, ◌&&◌, ◌||◌, Some, [], refl, sym, ap, ◌∙◌, arith}
use Rattle.shim_base.specs.Paths.{Channel}
use Rattle.shim_base.proofs.Facts.{some_same, none_some}
use Rattle.shim_local.specs.Process.{Ops}
use Rattle.shim_semantics.specs.Nodes.{Node, Nodes, Live, Forked, Ended, Dead, no_node, node_and, state, goes, any_sharer}
use Rattle.shim_semantics.specs.Places.{child_at}
use Rattle.shim_tree.specs.NodeRefs.{child_in, child_count, how_many_of}
use Rattle.shim_waits.specs.Gathering.{any_child_shares}

abbrev pub rest_of : {S : Type 0} → ℕ → Nodes S → Nodes S
rest_of zero ks = ks
rest_of (suc i) no_node = no_node
rest_of (suc i) (node_and k ks) = rest_of i ks

abbrev pub children_from : {S : Type 0} → ℕ → Node S → Nodes S
children_from i (Live l) = no_node
children_from i (Forked l ks) = rest_of i ks
children_from i (Ended l) = no_node
children_from i (Dead l d) = no_node

one_on : (i : ℕ) → i + 1 ≡ suc i
one_on i = omega arith

module _ {S : Type 0} where
  next_in : (i : ℕ) (ks : Nodes S) (k : Node S) → child_at i [] ks ≡ Some k → rest_of i ks ≡ node_and k (rest_of (suc i) ks)
  next_in i no_node k e = none_some k e
  next_in zero (node_and m ks) k e = ap (λ z. node_and z ks) (some_same m k e)
  next_in (suc i) (node_and m ks) k e = next_in i ks k e

  next_of_suc : (i : ℕ) (n k : Node S) → child_in i n ≡ Some k → children_from i n ≡ node_and k (children_from (suc i) n)
  next_of_suc i (Live l) k e = none_some k e
  next_of_suc i (Ended l) k e = none_some k e
  next_of_suc i (Dead l d) k e = none_some k e
  next_of_suc i (Forked l ks) k e = next_in i ks k e

  pub next_child : (i : ℕ) (n k : Node S) → child_in i n ≡ Some k → children_from i n ≡ node_and k (children_from (i + 1) n)
  next_child i n k e = next_of_suc i n k e ∙ ap (λ z. node_and k (children_from z n)) (sym (one_on i))

  rest_past : (i : ℕ) (ks : Nodes S) → how_many_of ks ≤ i → rest_of i ks ≡ no_node
  rest_past zero no_node h = refl
  rest_past (suc i) no_node h = refl
  rest_past zero (node_and k ks) h = absurd (omega (arith, h))
  rest_past (suc i) (node_and k ks) h = rest_past i ks (omega (arith, h))

  pub no_more : (i : ℕ) (n : Node S) → child_count n ≤ i → children_from i n ≡ no_node
  no_more i (Live l) h = refl
  no_more i (Ended l) h = refl
  no_more i (Dead l d) h = refl
  no_more i (Forked l ks) h = rest_past i ks h

-- ---- whether one of them shares a channel

one_shares : (a b : Bool) → a ≡ true → a || b ≡ true
one_shares true b e = refl
one_shares false b e = absurd cc

not_this : (a b : Bool) → a ≡ false → a || b ≡ b
not_this true b e = absurd cc
not_this false b e = refl

module _ {S : Type 0} (o : Ops S) (c : Channel) where
  pub from_all : (n : Node S) → any_sharer o c (children_from 0 n) ≡ any_child_shares o c n
  from_all (Live l) = refl
  from_all (Forked l ks) = refl
  from_all (Ended l) = refl
  from_all (Dead l d) = refl

  -- a child that shares the channel, and one that doesn't
  pub found_sharer : (i : ℕ) (n k : Node S) → child_in i n ≡ Some k → goes k && o.shares (state k) c ≡ true → any_sharer o c (children_from i n) ≡ any_child_shares o c n → true ≡ any_child_shares o c n
  found_sharer i n k e y h = sym (one_shares (goes k && o.shares (state k) c) _ y) ∙ (ap (any_sharer o c) (sym (next_child i n k e)) ∙ h)

  pub passed_child : (i : ℕ) (n k : Node S) → child_in i n ≡ Some k → goes k && o.shares (state k) c ≡ false → any_sharer o c (children_from i n) ≡ any_child_shares o c n → any_sharer o c (children_from (i + 1) n) ≡ any_child_shares o c n
  passed_child i n k e f h = sym (not_this (goes k && o.shares (state k) c) _ f) ∙ (ap (any_sharer o c) (sym (next_child i n k e)) ∙ h)

  pub none_shares : (i : ℕ) (n : Node S) → child_count n ≤ i → any_sharer o c (children_from i n) ≡ any_child_shares o c n → false ≡ any_child_shares o c n
  none_shares i n h e = ap (any_sharer o c) (sym (no_more i n h)) ∙ e
