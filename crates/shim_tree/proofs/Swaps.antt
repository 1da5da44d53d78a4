-- One state put in place of another, child by child.
use Rattle.std.proofs.Common.{◌≡◌, ℕ, zero, suc, ◌<◌, ◌≤◌, Bool, true, false, Some, None, List, [], ◌∷◌, length, drop, get_or, slice_set, cond, refl, sym, ap, ◌∙◌, arith}
use Rattle.std.specs.Vec.{vec_len, with_item}
use Rattle.std.specs.declared.vec.Vec.{Vec}
use Rattle.std.specs.declared.alloc.Global.{Global}
use Rattle.shim_base.specs.Paths.{Path, same_pair}
use Rattle.shim_semantics.specs.Nodes as model
use Rattle.shim_semantics.specs.Places.{branches, option_branches, after_front, route}
use Rattle.shim_tree.specs.NodeStatus.{node, nodes, together}
use Rattle.shim_semantics.specs.Advancing.{with_state_at, with_state_in}
use Rattle.shim_tree.specs.declared.node_status.NodeStatus.{NodeStatus}
use Rattle.shim_tree.specs.declared.node_status.NodeStatus.TheVariants as code
use Rattle.shim_tree.proofs.Children.{node_forked, at_forked}
use Rattle.shim_tree.proofs.Beside.{inside, outside}
use Rattle.shim_base.proofs.Facts.{some_same}

-- the branches of a route are those after the front
route_left : (r p : Path) (q : List ℕ) → route r p ≡ Some q → q ≡ branches (drop (length r) p)
route_left [] p q e = some_same q (branches p) (sym e)
route_left (x ∷ r) [] q e = absurd cc
route_left (x ∷ r) (y ∷ p) q e = rest (same_pair x y) (λ f. route_left r p q f) e
  where
    rest : (b : Bool) → (route r p ≡ Some q → q ≡ branches (drop (length r) p)) → option_branches (cond b (after_front r p) None) ≡ Some q → q ≡ branches (drop (length r) p)
    rest true f e = f e
    rest false f e = absurd cc

module _ {S : Type 0} (m : S) where
  -- among the children, one stands in place of another that stood there with what came of it
  child_swapped : (q : List ℕ) (i : ℕ) (ls : List S) (bs : List (NodeStatus S)) (l l' : S) (b b' : NodeStatus S) → i < length ls → i < length bs → l ≡ get_or ls i l → b ≡ get_or bs i b
      → node l' b' ≡ with_state_at m q (node l b) → together (slice_set ls i l') (nodes (slice_set bs i b')) ≡ with_state_in m i q (together ls (nodes bs))
  child_swapped q i [] bs l l' b b' h k e f n = absurd (omega (arith, h))
  child_swapped q i (a ∷ ls) [] l l' b b' h k e f n = absurd (omega (arith, k))
  child_swapped q zero (a ∷ ls) (c ∷ bs) l l' b b' h k e f n = ap (λ z. model.node_and z (together ls (nodes bs))) (n ∙ λ t. with_state_at m q (node (e t) (f t)))
  child_swapped q (suc i) (a ∷ ls) (c ∷ bs) l l' b b' h k e f n = ap (model.node_and (node a c)) (child_swapped q i ls bs l l' b b' (omega (arith, h)) (omega (arith, k)) e f n)

  live_child_swapped : (q : List ℕ) (i : ℕ) (ls : List S) (bs : List (NodeStatus S)) (l l' : S) → i < length ls → length bs ≤ i → l ≡ get_or ls i l
      → model.Live l' ≡ with_state_at m q (model.Live l) → together (slice_set ls i l') (nodes bs) ≡ with_state_in m i q (together ls (nodes bs))
  live_child_swapped q i [] bs l l' h k e n = absurd (omega (arith, h))
  live_child_swapped q zero (a ∷ ls) (c ∷ bs) l l' h k e n = absurd (omega (arith, k))
  live_child_swapped q zero (a ∷ ls) [] l l' h k e n = ap (λ z. model.node_and z (together ls [])) (n ∙ ap (λ z. with_state_at m q (model.Live z)) e)
  live_child_swapped q (suc i) (a ∷ ls) [] l l' h k e n = ap (model.node_and (model.Live a)) (live_child_swapped q i ls [] l l' (omega (arith, h)) (omega arith) e n)
  live_child_swapped q (suc i) (a ∷ ls) (c ∷ bs) l l' h k e n = ap (model.node_and (node a c)) (live_child_swapped q i ls bs l l' (omega (arith, h)) (omega (arith, k)) e n)

  -- where there is no such child all stays
  no_child_swapped : (q : List ℕ) (i : ℕ) (ls : List S) (bs : List (NodeStatus S)) → length ls ≤ i → together ls (nodes bs) ≡ with_state_in m i q (together ls (nodes bs))
  no_child_swapped q i [] bs h = refl
  no_child_swapped q zero (a ∷ ls) bs h = absurd (omega (arith, h))
  no_child_swapped q (suc i) (a ∷ ls) [] h = ap (model.node_and (model.Live a)) (no_child_swapped q i ls [] (omega (arith, h)))
  no_child_swapped q (suc i) (a ∷ ls) (c ∷ bs) h = ap (model.node_and (node a c)) (no_child_swapped q i ls bs (omega (arith, h)))

  -- The children as the code has them, ls and bs, are those that it takes apart, rs and cs.
  module _ (l : S) (b : NodeStatus S) (ls rs : Vec S Global) (bs cs : Vec (NodeStatus S) Global) (is : b ≡ code.Forked ls bs) (same : rs ≡ ls) (alike : cs ≡ bs)
      (i : ℕ) (p q : List ℕ) (goes_on : i ∷ p ≡ q) (n : ℕ) (len : n ≡ vec_len rs) where
    -- what stands among the children in place of what stood there stands in the tree so
    swapped_below : (rs' : Vec S Global) (cs' : Vec (NodeStatus S) Global) → together rs'.items (nodes cs'.items) ≡ with_state_in m i p (together rs.items (nodes cs.items))
        → node l (code.Forked rs' cs') ≡ with_state_at m q (node l b)
    swapped_below rs' cs' e =
        node_forked l rs' cs'
        ∙ (ap (model.Forked l) e
        ∙ ((λ t. with_state_at m (goes_on t) (model.Forked l (together (same t).items (nodes (alike t).items))))
        ∙ sym (ap (with_state_at m q) (at_forked l b ls bs is))))

    pub swapped_child : i < n → (k : ℕ) → k ≡ vec_len cs → i < k → (x x' : S) (y y' : NodeStatus S) → x ≡ get_or rs.items i x → y ≡ get_or cs.items i y
        → node x' y' ≡ with_state_at m p (node x y) → node l (code.Forked (with_item rs i x') (with_item cs i y')) ≡ with_state_at m q (node l b)
    swapped_child there k is_k there_k x x' y y' e f status =
        swapped_below (with_item rs i x') (with_item cs i y') (child_swapped p i rs.items cs.items x x' y y' (inside rs n i len there) (inside cs k i is_k there_k) e f status)

    pub swapped_live_child : i < n → (k : ℕ) → k ≡ vec_len cs → k ≤ i → (x x' : S) → x ≡ get_or rs.items i x
        → model.Live x' ≡ with_state_at m p (model.Live x) → node l (code.Forked (with_item rs i x') cs) ≡ with_state_at m q (node l b)
    swapped_live_child there k is_k past x x' e status =
        swapped_below (with_item rs i x') cs (live_child_swapped p i rs.items cs.items x x' (inside rs n i len there) (outside cs k i is_k past) e status)

    pub none_swapped : n ≤ i → node l (code.Forked rs cs) ≡ with_state_at m q (node l b)
    none_swapped past = swapped_below rs cs (no_child_swapped p i rs.items cs.items (outside rs n i len past))

  -- what stands in place of another by the pairs after the front stands there by the route
  pub swapped_on : (r front p : Path) (n new : model.Node S) → front ≡ r → new ≡ with_state_at m (branches (drop (length front) p)) n → (q : List ℕ) → route r p ≡ Some q → new ≡ with_state_at m q n
  swapped_on r front p n new is swapped q e =
      swapped ∙ ap (λ z. with_state_at m z n) (ap (λ f. branches (drop (length f) p)) is ∙ sym (route_left r p q e))
