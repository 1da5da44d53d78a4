-- Nodes that are lent, and their children.
use Rattle.std.proofs.Common.{◌≡◌, ℕ, zero, suc, ◌<◌, ◌≤◌, Bool, true, false, ◌&&◌, vec_len, Option, Some, None, List, [], ◌∷◌, ◌++◌, length, get_or, refl, sym, ap, ◌∙◌, arith}
use Rattle.std.specs.declared.vec.Vec.{Vec}
use Rattle.std.specs.declared.alloc.Global.{Global}
use Rattle.shim_base.specs.Paths.{Channel}
use Rattle.shim_local.specs.Process.{Ops}
use Rattle.shim_semantics.specs.Nodes as model
use Rattle.shim_semantics.specs.Nodes.{state, ready}
use Rattle.shim_semantics.specs.Poison.{is_doomed, is_ready_child}
use Rattle.shim_semantics.specs.Places.{child_at}
use Rattle.shim_tree.specs.Beside.{nth_child}
use Rattle.shim_tree.specs.NodeStatus.{node, nodes, together}
use Rattle.shim_base.proofs.Facts.{some_same, none_some}
use Rattle.shim_tree.specs.ByPath.{can_poison_at}
use Rattle.shim_tree.specs.ChildCounts.{live_in}
use Rattle.shim_tree.specs.NodeRefs.{lent_node, child_in, child_count, how_many_of, nodes_at, nodes_in, lives, all_lives, lives_of_rest, lives_from}
use Rattle.shim_tree.specs.declared.node_status.NodeStatus.{NodeStatus}
use Rattle.shim_tree.specs.declared.node_status.NodeStatus.TheVariants as code
use Rattle.shim_tree.proofs.Beside.{state_node, place_in, place_past, is_forked, inside, outside}

pub state_lent : {S : Type 0} (l : S) (b : Option (NodeStatus S)) → state (lent_node l b) ≡ l
state_lent l None = refl
state_lent l (Some b) = state_node l b

-- the child in a place
pub child_there : {S : Type 0} (i : ℕ) (ls : List S) (bs : List (NodeStatus S)) (l : S) → i < length ls → l ≡ get_or ls i l → child_at i [] (together ls (nodes bs)) ≡ Some (nth_child l (nodes bs) i)
child_there i [] bs l h e = absurd (omega (arith, h))
child_there zero (m ∷ ls) [] l h e = ap (λ z. Some (model.Live z)) (sym e)
child_there zero (m ∷ ls) (b ∷ bs) l h e = ap (λ z. Some (node z b)) (sym e)
child_there (suc i) (m ∷ ls) [] l h e = child_there i ls [] l (omega (arith, h)) e
child_there (suc i) (m ∷ ls) (b ∷ bs) l h e = child_there i ls bs l (omega (arith, h)) e

pub child_past : {S : Type 0} (i : ℕ) (ls : List S) (bs : List (NodeStatus S)) → length ls ≤ i → child_at i [] (together ls (nodes bs)) ≡ None
child_past i [] bs h = refl
child_past zero (m ∷ ls) bs h = absurd (omega (arith, h))
child_past (suc i) (m ∷ ls) [] h = child_past i ls [] (omega (arith, h))
child_past (suc i) (m ∷ ls) (b ∷ bs) h = child_past i ls bs (omega (arith, h))

pub lent_in : {S : Type 0} (l : S) (bs : List (NodeStatus S)) (i : ℕ) (b : NodeStatus S) (x : Option (NodeStatus S)) → x ≡ Some b → i < length bs → b ≡ get_or bs i b → lent_node l x ≡ nth_child l (nodes bs) i
lent_in l bs i b x e h there = ap (lent_node l) e ∙ sym (place_in l bs i b h there)

pub lent_past : {S : Type 0} (l : S) (bs : List (NodeStatus S)) (i : ℕ) (x : Option (NodeStatus S)) → x ≡ None → length bs ≤ i → lent_node l x ≡ nth_child l (nodes bs) i
lent_past l bs i x e h = ap (lent_node l) e ∙ sym (place_past l bs i h)

pub how_many_together : {S : Type 0} (ls : List S) (fs : List (S → model.Node S)) → how_many_of (together ls fs) ≡ length ls
how_many_together [] fs = refl
how_many_together (l ∷ ls) [] = ap suc (how_many_together ls [])
how_many_together (l ∷ ls) (f ∷ fs) = ap suc (how_many_together ls fs)

-- ---- a child that is ready and doomed

module _ {S : Type 0} (o : Ops S) (c : Channel) where
  ready_there : (i : ℕ) (ls : List S) (bs : List (NodeStatus S)) (l : S) → i < length ls → l ≡ get_or ls i l → is_ready_child o c i (together ls (nodes bs)) ≡ ready o c (nth_child l (nodes bs) i)
  ready_there i [] bs l h e = absurd (omega (arith, h))
  ready_there zero (m ∷ ls) [] l h e = ap (λ z. ready o c (model.Live z)) (sym e)
  ready_there zero (m ∷ ls) (b ∷ bs) l h e = ap (λ z. ready o c (node z b)) (sym e)
  ready_there (suc i) (m ∷ ls) [] l h e = ready_there i ls [] l (omega (arith, h)) e
  ready_there (suc i) (m ∷ ls) (b ∷ bs) l h e = ready_there i ls bs l (omega (arith, h)) e

  ready_past : (i : ℕ) (ls : List S) (bs : List (NodeStatus S)) → length ls ≤ i → is_ready_child o c i (together ls (nodes bs)) ≡ false
  ready_past i [] bs h = refl
  ready_past zero (m ∷ ls) bs h = absurd (omega (arith, h))
  ready_past (suc i) (m ∷ ls) [] h = ready_past i ls [] (omega (arith, h))
  ready_past (suc i) (m ∷ ls) (b ∷ bs) h = ready_past i ls bs (omega (arith, h))

  module _ (i : ℕ) (l : S) (b : NodeStatus S) (ls : Vec S Global) (bs : Vec (NodeStatus S) Global) (is : b ≡ code.Forked ls bs) (n : ℕ) (len : n ≡ vec_len ls) where
    can_is : (r : Bool) → is_ready_child o c i (together ls.items (nodes bs.items)) ≡ r → can_poison_at o c i (node l b) ≡ r && is_doomed o (o.handlers l) c i (together ls.items (nodes bs.items))
    can_is r e = ap (can_poison_at o c i) (is_forked l b ls bs is) ∙ ap (λ z. z && is_doomed o (o.handlers l) c i (together ls.items (nodes bs.items))) e

    pub no_poison_past : n ≤ i → false ≡ can_poison_at o c i (node l b)
    no_poison_past h = sym (can_is false (ready_past i ls.items bs.items (outside ls n i len h)))

    module _ (h : i < n) (m : S) (there : m ≡ get_or ls.items i m) (r : Bool) (found : r ≡ ready o c (nth_child m (nodes bs.items) i)) where
      child_ready : is_ready_child o c i (together ls.items (nodes bs.items)) ≡ r
      child_ready = ready_there i ls.items bs.items m (inside ls n i len h) there ∙ sym found

      pub poison_where_doomed : r ≡ true → (d : Bool) → d ≡ is_doomed o (o.handlers l) c i (together ls.items (nodes bs.items)) → d ≡ can_poison_at o c i (node l b)
      poison_where_doomed t d e = e ∙ sym (can_is true (child_ready ∙ t))

      pub no_poison_unready : r ≡ false → r ≡ can_poison_at o c i (node l b)
      no_poison_unready f = f ∙ sym (can_is false (child_ready ∙ f))

-- ---- a walk over the children of a node

no_child : {A : Type 0} (n : ℕ) → n < 0 → A
no_child n h = absurd (omega (arith, h))

module _ {S : Type 0} where
  smaller_in : (i : ℕ) (ks : model.Nodes S) (k : model.Node S) → child_at i [] ks ≡ Some k → nodes_at k ≤ nodes_in ks
  smaller_in i model.no_node k e = none_some k e
  smaller_in zero (model.node_and m ks) k e = let w = ap nodes_at (some_same m k e) in omega (arith, w)
  smaller_in (suc i) (model.node_and m ks) k e = let w = smaller_in i ks k e in omega (arith, w)

  pub smaller : (i : ℕ) (n k : model.Node S) → child_in i n ≡ Some k → nodes_at k < nodes_at n
  smaller i (model.Live l) k e = none_some k e
  smaller i (model.Ended l) k e = none_some k e
  smaller i (model.Dead l d) k e = none_some k e
  smaller i (model.Forked l ks) k e = let w = smaller_in i ks k e in omega (arith, w)

  next_in : (i : ℕ) (ks : model.Nodes S) (k : model.Node S) → child_at i [] ks ≡ Some k → lives_of_rest i ks ≡ lives k ++ lives_of_rest (suc i) ks
  next_in i model.no_node k e = none_some k e
  next_in zero (model.node_and m ks) k e = ap (λ z. lives z ++ all_lives ks) (some_same m k e)
  next_in (suc i) (model.node_and m ks) k e = next_in i ks k e

  rest_past : (i : ℕ) (ks : model.Nodes S) → how_many_of ks ≤ i → lives_of_rest i ks ≡ []
  rest_past zero model.no_node h = refl
  rest_past (suc i) model.no_node h = refl
  rest_past zero (model.node_and k ks) h = absurd (omega (arith, h))
  rest_past (suc i) (model.node_and k ks) h = rest_past i ks (omega (arith, h))

  there_is : (i : ℕ) (ks : model.Nodes S) → i < how_many_of ks → child_at i [] ks ≡ None → ⊥
  there_is i model.no_node h e = absurd (omega (arith, h))
  there_is zero (model.node_and k ks) h e = none_some k (sym e)
  there_is (suc i) (model.node_and k ks) h e = there_is i ks (omega (arith, h)) e

  pub child_there_is : (i : ℕ) (n : model.Node S) → i < child_count n → child_in i n ≡ None → ⊥
  child_there_is i (model.Live l) h e = no_child i h
  child_there_is i (model.Ended l) h e = no_child i h
  child_there_is i (model.Dead l d) h e = no_child i h
  child_there_is i (model.Forked l ks) h e = there_is i ks h e

  -- of one that doesn't live
  pub from_first : (n : model.Node S) → live_in (Some n) ≡ None → lives_from 0 n ≡ lives n
  from_first (model.Live l) e = none_some l (sym e)
  from_first (model.Ended l) e = refl
  from_first (model.Dead l d) e = refl
  from_first (model.Forked l ks) e = refl
