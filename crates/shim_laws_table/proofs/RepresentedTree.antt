-- Each node of a tree that records show is computed from its record, since it isn't further from the root than its path is long.
use Rattle.std.proofs.Common.{◌≡◌, ◌≤◌, ℕ, zero, suc, ◌+◌, ◌<◌, Option, Some, None, List, [], ◌∷◌, ◌++◌, length, drop, refl, sym, ap, subst, ◌∙◌, arith}
use Rattle.std.specs.Prelude.{slice_get}
use Rattle.shim_base.specs.Paths.{Path}
use Rattle.shim_base.proofs.Facts.{some_same, none_some}
use Rattle.shim_local.specs.Process.{Ops}
use Rattle.shim_semantics.specs.Nodes.{Node, Nodes, Live, Forked, Ended, Dead, no_node, node_and, state}
use Rattle.shim_semantics.specs.Places.{at, child_at, branches}
use Rattle.shim_laws_table.specs.NodeStatus.{ProcessStatus, lives, forks, ends, dies, seen, process_status, place, how_many_nodes}
use Rattle.shim_laws_table.specs.Agrees.{RecordView, used, Has, Agrees, Represents}
use Rattle.shim_laws_table.proofs.Aside.{at_split}
use Rattle.shim_laws_table.proofs.SameTrees.{seen_status, seen_state}
use Rattle.shim_laws_table.specs.RepresentedTree.{node_in_front, nodes_from, fork_over, node_by, node_in, node_of, lengths_of, represented_tree, TreeIsComputed}

branches_length : (p : Path) → length (branches p) ≡ length p
branches_length [] = refl
branches_length (x ∷ p) = ap suc (branches_length p)

drop_shorter : {A : Type 0} (n : ℕ) (xs : List A) → length (drop n xs) ≤ length xs
drop_shorter zero xs = omega arith
drop_shorter (suc n) [] = omega arith
drop_shorter (suc n) (x ∷ xs) = let w = drop_shorter n xs in omega (arith, w)

one_of : {S : Type 0} (o : Ops S) (ss : List S) (i : ℕ) (s : S) → slice_get ss i ≡ Some s → length (o.path s) ≤ lengths_of o ss
one_of o [] i s e = none_some s e
one_of o (t ∷ ss) zero s e = subst (λ z. length (o.path z) ≤ length (o.path t) + lengths_of o ss) (some_same t s e) (omega arith)
one_of o (t ∷ ss) (suc i) s e = let w = one_of o ss i s e in omega (arith, w)

one_more : (q : List ℕ) (b : ℕ) → length (q ++ b ∷ []) ≡ length q + 1
one_more [] b = refl
one_more (x ∷ q) b = let w = one_more q b in omega (arith, w)

-- no process of the records is further from the root than that
abbrev pub AreNear : {S : Type 0} → Ops S → Path → List S → List RecordView → ℕ → Type 0
AreNear {S} o rp states views most = (i f : ℕ) (s : S) (k : ProcessStatus) → Has states views i f s k → length (place o rp s) ≤ most

near_lengths : {S : Type 0} (o : Ops S) (rp : Path) (states : List S) (views : List RecordView) → AreNear o rp states views (lengths_of o states)
near_lengths o rp states views i f s k h =
    let w = one_of o states i s h.state_is in
    let d = drop_shorter (length rp) (o.path s) in
    let e = branches_length (drop (length rp) (o.path s)) in
    omega (arith, w, d, e)

module _ {S : Type 0} (o : Ops S) (rp : Path) (states : List S) (views : List RecordView) (root : Node S) (ok : Agrees o rp states views root) (most : ℕ) (near : AreNear o rp states views most) where
  -- so many levels are enough for the nodes at and below these branches
  abbrev Computed : ℕ → Type 0
  Computed m = (i f : ℕ) (s : S) (k : ProcessStatus) (n : Node S) → Has states views i f s k → at (place o rp s) root ≡ Some n → suc most ≤ m + length (place o rp s) → node_of states views m i ≡ Some n

  -- some children of a fork, from one of them on
  among : (m : ℕ) → Computed m → (l : S) (ks js : Nodes S) (i f n b : ℕ) → Has states views i f l (forks n) → at (place o rp l) root ≡ Some (Forked l ks) → suc most ≤ suc m + length (place o rp l)
      → ((c : ℕ) → child_at c [] js ≡ child_at (b + c) [] ks) → b + how_many_nodes js ≡ n → nodes_from (node_of states views m) (f + b) (how_many_nodes js) ≡ Some js
  among m all l ks no_node i f n b h e far same count = refl
  among m all l ks (node_and k js) i f n b h e far same count =
      let w = ok.below i f n l h b (omega (arith, count)) in
      let there : at (place o rp w.1) root ≡ Some k = ap (λ z. at z root) w.4 ∙ (at_split (place o rp l) (b ∷ []) root (Forked l ks) e ∙ (ap (λ z. child_at z [] ks) (plain b) ∙ sym (same 0))) in
      let longer = ap length w.4 ∙ one_more (place o rp l) b in
      let first : node_of states views m (f + b) ≡ Some k = all (f + b) w.0 w.1 w.2 k w.3 there (omega (arith, far, longer)) in
      let rest : nodes_from (node_of states views m) (f + (b + 1)) (how_many_nodes js) ≡ Some js =
      among m all l ks js i f n (b + 1) h e far (λ c. same (suc c) ∙ ap (λ z. child_at z [] ks) (moved b c)) (omega (arith, count)) in
      λ t. node_in_front (first t) ((ap (λ z. nodes_from (node_of states views m) z (how_many_nodes js)) (sums f b) ∙ rest) t)
    where
      plain : (b : ℕ) → b ≡ b + 0
      plain b = omega arith

      moved : (b c : ℕ) → b + suc c ≡ b + 1 + c
      moved b c = omega arith

      sums : (f b : ℕ) → f + b + 1 ≡ f + (b + 1)
      sums f b = omega arith

  behind : (f : ℕ) → f ≡ f + 0
  behind f = omega arith

  from_none : (c : ℕ) → c ≡ 0 + c
  from_none c = omega arith

  -- what is in a record with a state and a status
  in_record : (m i f : ℕ) (s : S) (k : ProcessStatus) → Has states views i f s k → node_of states views (suc m) i ≡ node_by (node_of states views m) s f k
  in_record m i f s k h = λ t. node_in (node_of states views m) (h.state_is t) (h.view_is t)

  pub computed : (m : ℕ) → Computed m
  computed zero i f s k n h e far = let w = near i f s k h in absurd (too_much w far)
    where
      too_much : length (place o rp s) ≤ most → suc most ≤ 0 + length (place o rp s) → ⊥
      too_much w far = omega (arith, w, far)
  computed (suc m) i f s k n h e far = on (computed m) n (seen_state n s k shown) (seen_status n s k shown) e
    where
      shown : seen (Some n) ≡ Some (s, k)
      shown = sym (ap seen e) ∙ ok.shown i f s k h

      given : (x : ProcessStatus) → x ≡ k → node_of states views (suc m) i ≡ node_by (node_of states views m) s f x
      given x w = in_record m i f s k h ∙ ap (node_by (node_of states views m) s f) (sym w)

      on : Computed m → (n : Node S) → state n ≡ s → process_status n ≡ k → at (place o rp s) root ≡ Some n → node_of states views (suc m) i ≡ Some n
      on all (Live l) u w e = given lives w ∙ ap (λ z. Some (Live z)) (sym u)
      on all (Ended l) u w e = given ends w ∙ ap (λ z. Some (Ended z)) (sym u)
      on all (Dead l d) u w e = given (dies d) w ∙ ap (λ z. Some (Dead z d)) (sym u)
      on all (Forked l ks) u w e =
          let has : Has states views i f s (forks (how_many_nodes ks)) = subst (Has states views i f s) (sym w) h in
          let there : at (place o rp s) root ≡ Some (Forked s ks) = e ∙ ap (λ z. Some (Forked z ks)) u in
          let children = among m all s ks ks i f (how_many_nodes ks) 0 has there far (λ c. ap (λ z. child_at z [] ks) (from_none c)) (omega arith) in
          given (forks (how_many_nodes ks)) w
          ∙ (ap (fork_over s) (ap (λ z. nodes_from (node_of states views m) z (how_many_nodes ks)) (behind f) ∙ children) ∙ ap (λ z. Some (Forked z ks)) (sym u))

-- so where so many levels are allowed the root is computed
pub root_within : {S : Type 0} (o : Ops S) (rp : Path) (states : List S) (views : List RecordView) (root : Node S) (most : ℕ) → Represents o rp states views root → AreNear o rp states views most → node_of states views (suc most) 0 ≡ Some root
root_within o rp states views root most represents near =
    let r = represents.rooted in
    computed o rp states views root represents.agrees most near (suc most) 0 r.first r.state r.status root r.has (ap (λ z. at z root) r.at_root) (omega arith)

pub tree_is_computed : {S : Type 0} (o : Ops S) → TreeIsComputed o
tree_is_computed o rp states views root represents = root_within o rp states views root (lengths_of o states) represents (near_lengths o rp states views)
