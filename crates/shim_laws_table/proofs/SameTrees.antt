-- A tree is what is seen of it; and what stands where something is seen.
use Rattle.std.proofs.Common.{◌≡◌, ◌≢◌, ℕ, zero, suc, ◌<◌, true, Option, Some, None, List, [], ◌∷◌, ◌++◌, ◌⊎◌, inl, inr, refl, sym, ap, ◌∙◌, arith}
use Rattle.shim_local.specs.Process.{Ops}
use Rattle.shim_semantics.specs.Nodes.{Node, Nodes, Live, Forked, Ended, Dead, Death, death, no_node, node_and, state}
use Rattle.shim_semantics.specs.Places.{at, child_at}
use Rattle.shim_semantics.proofs.ReplacedNodes.{put}
use Rattle.shim_base.proofs.Facts.{some_same, none_some}
use Rattle.shim_laws_table.specs.NodeStatus.{ProcessStatus, lives, forks, ends, dies, seen, process_status, is_leaf, how_many_nodes, IsAside}
use Rattle.shim_laws_table.specs.Places.{IsReplaced, NodesAreReplaced}
use Rattle.shim_laws_table.proofs.Aside.{there, outside, at_split}

-- two sorts
abbrev status_number : ProcessStatus → ℕ
status_number lives = 0
status_number (forks n) = 1
status_number ends = 2
status_number (dies x) = 3

abbrev status_count : ProcessStatus → ℕ
status_count lives = 0
status_count (forks n) = n
status_count ends = 0
status_count (dies x) = 0

abbrev status_death : ProcessStatus → Death
status_death lives = death 0
status_death (forks n) = death 0
status_death ends = death 0
status_death (dies d) = d

two_statuses : {B : Type 0} (k h : ProcessStatus) (m n : ℕ) → status_number k ≡ m → status_number h ≡ n → m ≢ n → k ≡ h → B
two_statuses k h m n e f d w = absurd (d (sym e ∙ (ap status_number w ∙ f)))

same_status : {S : Type 0} (n m : Node S) → seen (Some n) ≡ seen (Some m) → process_status n ≡ process_status m
same_status n m e = ap (λ z. z.1) (some_same (state n, process_status n) (state m, process_status m) e)

states_of : {S : Type 0} (n m : Node S) → seen (Some n) ≡ seen (Some m) → state n ≡ state m
states_of n m e = ap (λ z. z.0) (some_same (state n, process_status n) (state m, process_status m) e)

pub same_or_not : (j i : ℕ) → (j ≡ i) ⊎ (j ≢ i)
same_or_not zero zero = inl refl
same_or_not zero (suc i) = inr (λ e. absurd cc)
same_or_not (suc j) zero = inr (λ e. absurd cc)
same_or_not (suc j) (suc i) = elim (same_or_not j i) [ inl e ↦ inl (ap suc e) | inr n ↦ inr (λ e. n cc) ]

suc_same : (m n : ℕ) → suc m ≡ suc n → m ≡ n
suc_same m n e = omega (arith, e)

mutual
  -- a tree is what is seen of it
  pub same_tree : {S : Type 0} (t u : Node S) → ((p : List ℕ) → seen (at p t) ≡ seen (at p u)) → t ≡ u
  same_tree (Live l) (Live m) h = ap Live (states_of (Live l) (Live m) (h []))
  same_tree (Ended l) (Ended m) h = ap Ended (states_of (Ended l) (Ended m) (h []))
  same_tree (Dead l x) (Dead m y) h = λ i. Dead (states_of (Dead l x) (Dead m y) (h []) i) (ap status_death (same_status (Dead l x) (Dead m y) (h [])) i)
  same_tree (Forked l ks) (Forked m js) h =
      let same = same_trees ks js (ap status_count (same_status (Forked l ks) (Forked m js) (h []))) (λ b p. h (b ∷ p)) in
      λ i. Forked (states_of (Forked l ks) (Forked m js) (h []) i) (same i)
  same_tree (Live l) (Forked m js) h = two_statuses lives (forks (how_many_nodes js)) 0 1 refl refl (λ e. absurd cc) (same_status (Live l) (Forked m js) (h []))
  same_tree (Live l) (Ended m) h = two_statuses lives ends 0 2 refl refl (λ e. absurd cc) (same_status (Live l) (Ended m) (h []))
  same_tree (Live l) (Dead m y) h = two_statuses lives (dies y) 0 3 refl refl (λ e. absurd cc) (same_status (Live l) (Dead m y) (h []))
  same_tree (Forked l ks) (Live m) h = two_statuses (forks (how_many_nodes ks)) lives 1 0 refl refl (λ e. absurd cc) (same_status (Forked l ks) (Live m) (h []))
  same_tree (Forked l ks) (Ended m) h = two_statuses (forks (how_many_nodes ks)) ends 1 2 refl refl (λ e. absurd cc) (same_status (Forked l ks) (Ended m) (h []))
  same_tree (Forked l ks) (Dead m y) h = two_statuses (forks (how_many_nodes ks)) (dies y) 1 3 refl refl (λ e. absurd cc) (same_status (Forked l ks) (Dead m y) (h []))
  same_tree (Ended l) (Live m) h = two_statuses ends lives 2 0 refl refl (λ e. absurd cc) (same_status (Ended l) (Live m) (h []))
  same_tree (Ended l) (Forked m js) h = two_statuses ends (forks (how_many_nodes js)) 2 1 refl refl (λ e. absurd cc) (same_status (Ended l) (Forked m js) (h []))
  same_tree (Ended l) (Dead m y) h = two_statuses ends (dies y) 2 3 refl refl (λ e. absurd cc) (same_status (Ended l) (Dead m y) (h []))
  same_tree (Dead l x) (Live m) h = two_statuses (dies x) lives 3 0 refl refl (λ e. absurd cc) (same_status (Dead l x) (Live m) (h []))
  same_tree (Dead l x) (Forked m js) h = two_statuses (dies x) (forks (how_many_nodes js)) 3 1 refl refl (λ e. absurd cc) (same_status (Dead l x) (Forked m js) (h []))
  same_tree (Dead l x) (Ended m) h = two_statuses (dies x) ends 3 2 refl refl (λ e. absurd cc) (same_status (Dead l x) (Ended m) (h []))

  same_trees : {S : Type 0} (ks js : Nodes S) → how_many_nodes ks ≡ how_many_nodes js → ((b : ℕ) (p : List ℕ) → seen (child_at b p ks) ≡ seen (child_at b p js)) → ks ≡ js
  same_trees no_node no_node n h = refl
  same_trees no_node (node_and j js) n h = absurd cc
  same_trees (node_and k ks) no_node n h = absurd cc
  same_trees (node_and k ks) (node_and j js) n h =
      let one = same_tree k j (λ p. h 0 p) in
      let rest = same_trees ks js (suc_same (how_many_nodes ks) (how_many_nodes js) n) (λ b p. h (suc b) p) in
      λ i. node_and (one i) (rest i)

-- what is seen where a node stands
pub seen_status : {S : Type 0} (n : Node S) (s : S) (k : ProcessStatus) → seen (Some n) ≡ Some (s, k) → process_status n ≡ k
seen_status n s k e = ap (λ z. z.1) (some_same (state n, process_status n) (s, k) e)

pub seen_state : {S : Type 0} (n : Node S) (s : S) (k : ProcessStatus) → seen (Some n) ≡ Some (s, k) → state n ≡ s
seen_state n s k e = ap (λ z. z.0) (some_same (state n, process_status n) (s, k) e)

pub seen_some : {S : Type 0} (x : Option (Node S)) (s : S) (k : ProcessStatus) → seen x ≡ Some (s, k) → (n : Node S) × (x ≡ Some n) × (state n ≡ s) × (process_status n ≡ k)
seen_some None s k e = none_some (s, k) e
seen_some (Some n) s k e = (n, refl, seen_state n s k e, seen_status n s k e)

pub seen_live : {S : Type 0} (x : Option (Node S)) (s : S) → seen x ≡ Some (s, lives) → x ≡ Some (Live s)
seen_live None s e = none_some (s, lives) e
seen_live (Some (Live l)) s e = ap (λ z. Some (Live z)) (seen_state (Live l) s lives e)
seen_live (Some (Forked l ks)) s e = two_statuses (forks (how_many_nodes ks)) lives 1 0 refl refl (λ w. absurd cc) (seen_status (Forked l ks) s lives e)
seen_live (Some (Ended l)) s e = two_statuses ends lives 2 0 refl refl (λ w. absurd cc) (seen_status (Ended l) s lives e)
seen_live (Some (Dead l x)) s e = two_statuses (dies x) lives 3 0 refl refl (λ w. absurd cc) (seen_status (Dead l x) s lives e)

pub seen_ended : {S : Type 0} (x : Option (Node S)) (s : S) → seen x ≡ Some (s, ends) → x ≡ Some (Ended s)
seen_ended None s e = none_some (s, ends) e
seen_ended (Some (Live l)) s e = two_statuses lives ends 0 2 refl refl (λ w. absurd cc) (seen_status (Live l) s ends e)
seen_ended (Some (Forked l ks)) s e = two_statuses (forks (how_many_nodes ks)) ends 1 2 refl refl (λ w. absurd cc) (seen_status (Forked l ks) s ends e)
seen_ended (Some (Ended l)) s e = ap (λ z. Some (Ended z)) (seen_state (Ended l) s ends e)
seen_ended (Some (Dead l x)) s e = two_statuses (dies x) ends 3 2 refl refl (λ w. absurd cc) (seen_status (Dead l x) s ends e)

pub seen_dead : {S : Type 0} (x : Option (Node S)) (s : S) (d : Death) → seen x ≡ Some (s, dies d) → x ≡ Some (Dead s d)
seen_dead None s d e = none_some (s, dies d) e
seen_dead (Some (Live l)) s d e = two_statuses lives (dies d) 0 3 refl refl (λ w. absurd cc) (seen_status (Live l) s (dies d) e)
seen_dead (Some (Forked l ks)) s d e = two_statuses (forks (how_many_nodes ks)) (dies d) 1 3 refl refl (λ w. absurd cc) (seen_status (Forked l ks) s (dies d) e)
seen_dead (Some (Ended l)) s d e = two_statuses ends (dies d) 2 3 refl refl (λ w. absurd cc) (seen_status (Ended l) s (dies d) e)
seen_dead (Some (Dead l x)) s d e = λ i. Some (Dead (seen_state (Dead l x) s (dies d) e i) (ap status_death (seen_status (Dead l x) s (dies d) e) i))

-- where a fork is seen, one stands, with as many children
pub seen_fork : {S : Type 0} (x : Option (Node S)) (s : S) (n : ℕ) → seen x ≡ Some (s, forks n) → (ks : Nodes S) × (x ≡ Some (Forked s ks)) × (how_many_nodes ks ≡ n)
seen_fork None s n e = none_some (s, forks n) e
seen_fork (Some (Live l)) s n e = two_statuses lives (forks n) 0 1 refl refl (λ w. absurd cc) (seen_status (Live l) s (forks n) e)
seen_fork (Some (Forked l ks)) s n e = (ks, ap (λ z. Some (Forked z ks)) (seen_state (Forked l ks) s (forks n) e), ap status_count (seen_status (Forked l ks) s (forks n) e))
seen_fork (Some (Ended l)) s n e = two_statuses ends (forks n) 2 1 refl refl (λ w. absurd cc) (seen_status (Ended l) s (forks n) e)
seen_fork (Some (Dead l x)) s n e = two_statuses (dies x) (forks n) 3 1 refl refl (λ w. absurd cc) (seen_status (Dead l x) s (forks n) e)

pub no_fork : {S : Type 0} {B : Type 0} (n : Node S) (m : ℕ) → is_leaf n ≡ true → process_status n ≡ forks m → B
no_fork (Live l) m e f = two_statuses lives (forks m) 0 1 refl refl (λ w. absurd cc) f
no_fork (Forked l ks) m e f = absurd cc
no_fork (Ended l) m e f = two_statuses ends (forks m) 2 1 refl refl (λ w. absurd cc) f
no_fork (Dead l x) m e f = two_statuses (dies x) (forks m) 3 1 refl refl (λ w. absurd cc) f

pub fork_count : (m n : ℕ) → forks m ≡ forks n → m ≡ n
fork_count m n e = ap status_count e

pub child_counted : {S : Type 0} (b : ℕ) (p : List ℕ) (ks : Nodes S) (m : Node S) → child_at b p ks ≡ Some m → b < how_many_nodes ks
child_counted b p no_node m e = none_some m e
child_counted zero p (node_and k ks) m e = omega arith
child_counted (suc b) p (node_and k ks) m e = let w = child_counted b p ks m e in omega (arith, w)

-- the child through which branches lead
pub through : {S : Type 0} (b : ℕ) (p : List ℕ) (ks : Nodes S) (m : Node S) → child_at b p ks ≡ Some m → (k : Node S) × (child_at b [] ks ≡ Some k) × (at p k ≡ Some m)
through b p no_node m e = none_some m e
through zero p (node_and k ks) m e = (k, refl, e)
through (suc b) p (node_and k ks) m e = through b p ks m e

-- ---- another node in a place

-- a place is aside of another, or further along it
pub aside_or_further : (q p : List ℕ) → IsAside p q ⊎ ((r : List ℕ) × (p ≡ q ++ r))
aside_or_further [] p = inr (p, refl)
aside_or_further (i ∷ q) [] = inl (λ r e. absurd cc)
aside_or_further (i ∷ q) (j ∷ p) = elim (same_or_not j i) [
  | inr n ↦ inl (λ r e. n (heads r e))
  | inl w ↦ elim (aside_or_further q p) [
    | inl h ↦ inl (λ r e. h r (tails r e))
    | inr h ↦ inr (h.0, λ t. w t ∷ h.1 t)
  ]
]
  where
    heads : (r : List ℕ) → j ∷ p ≡ i ∷ (q ++ r) → j ≡ i
    heads r e = cc

    tails : (r : List ℕ) → j ∷ p ≡ i ∷ (q ++ r) → p ≡ q ++ r
    tails r e = cc

-- what is in the place is the whole difference
pub is_put : {S : Type 0} (q : List ℕ) (m a old new : Node S) → IsReplaced q m a old new → new ≡ put q a old
is_put q m a old new x = same_tree new (put q a old) (λ p. elim (aside_or_further q p) [
  | inl h ↦ x.aside p h ∙ sym (outside q m a old x.was p h)
  | inr h ↦ ap (λ z. seen (at z new)) h.1 ∙ (ap seen (at_split q h.0 new a x.is ∙ sym (at_split q h.0 (put q a old) a (there q m a old x.was))) ∙ sym (ap (λ z. seen (at z (put q a old))) h.1))
])

pub put_replaces : {S : Type 0} (q : List ℕ) (m a old : Node S) → at q old ≡ Some m → IsReplaced q m a old (put q a old)
put_replaces q m a old e = record { was = e; is = there q m a old e; aside = outside q m a old e }

pub nodes_are_replaced : {S : Type 0} (o : Ops S) → NodesAreReplaced o
nodes_are_replaced o = record {
  can = λ q m a old e. (put q a old, put_replaces q m a old e);
  once = λ q m a old new other x y. is_put q m a old new x ∙ sym (is_put q m a old other y);
}
