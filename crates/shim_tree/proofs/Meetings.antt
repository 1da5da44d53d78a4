-- A rendezvous, child by child.
use Rattle.std.proofs.Common.{◌≡◌, ℕ, ℤ, zero, suc, ◌<◌, ◌≤◌, List, [], ◌∷◌, length, get_or, slice_set, cond, refl, sym, ap, ◌∙◌, arith}
use Rattle.std.specs.declared.vec.Vec.{Vec}
use Rattle.std.specs.declared.alloc.Global.{Global}
use Rattle.shim_base.specs.Paths.{Channel}
use Rattle.shim_local.specs.Process.{Ops}
use Rattle.shim_semantics.specs.Nodes as model
use Rattle.shim_semantics.specs.Nodes.{is_next, received, all_received, source, source_among, or_else, next_channel, name_for, first_name, first_name_among}
use Rattle.shim_tree.specs.declared.node_status.NodeStatus.{NodeStatus}
use Rattle.shim_tree.specs.declared.node_status.NodeStatus.TheVariants as code
use Rattle.shim_tree.specs.NodeStatus.{node, nodes, together}
use Rattle.shim_tree.specs.Meeting.{received_from}
use Rattle.shim_tree.proofs.Children.{node_forked, at_forked}

module _ {S : Type 0} (o : Ops S) (c : Channel) where
  pub received_child : (v : ℤ) (i : ℕ) (ls : List S) (bs : List (NodeStatus S)) (l l' : S) (b b' : NodeStatus S) → i < length ls → i < length bs → l ≡ get_or ls i l → b ≡ get_or bs i b → node l' b' ≡ received o c v (node l b)
      → received_from o c v (suc i) (together (slice_set ls i l') (nodes (slice_set bs i b'))) ≡ received_from o c v i (together ls (nodes bs))
  received_child v i [] bs l l' b b' h k e f n = absurd (omega arith)
  received_child v i (m ∷ ls) [] l l' b b' h k e f n = absurd (omega arith)
  received_child v zero (m ∷ ls) (d ∷ bs) l l' b b' h k e f n = ap (λ z. model.node_and z (all_received o c v (together ls (nodes bs)))) (n ∙ λ t. received o c v (node (e t) (f t)))
  received_child v (suc i) (m ∷ ls) (d ∷ bs) l l' b b' h k e f n = ap (model.node_and (node m d)) (received_child v i ls bs l l' b b' (omega arith) (omega arith) e f n)

  pub received_live : (v : ℤ) (i : ℕ) (ls : List S) (bs : List (NodeStatus S)) (l l' : S) → i < length ls → length bs ≤ i → l ≡ get_or ls i l → l' ≡ cond (is_next (o.stop l) c) (o.receive l v) l
      → received_from o c v (suc i) (together (slice_set ls i l') (nodes bs)) ≡ received_from o c v i (together ls (nodes bs))
  received_live v i [] bs l l' h k e n = absurd (omega arith)
  received_live v zero (m ∷ ls) (d ∷ bs) l l' h k e n = absurd (omega arith)
  received_live v zero (m ∷ ls) [] l l' h k e n = ap (λ z. model.node_and (model.Live z) (all_received o c v (together ls []))) (n ∙ ap (λ z. cond (is_next (o.stop z) c) (o.receive z v) z) e)
  received_live v (suc i) (m ∷ ls) [] l l' h k e n = ap (model.node_and (model.Live m)) (received_live v i ls [] l l' (omega arith) (omega arith) e n)
  received_live v (suc i) (m ∷ ls) (d ∷ bs) l l' h k e n = ap (model.node_and (node m d)) (received_live v i ls bs l l' (omega arith) (omega arith) e n)

  received_end : (v : ℤ) (i : ℕ) (ls : List S) (bs : List (NodeStatus S)) → length ls ≤ i → received_from o c v i (together ls (nodes bs)) ≡ together ls (nodes bs)
  received_end v zero [] bs h = refl
  received_end v (suc i) [] bs h = refl
  received_end v zero (l ∷ ls) bs h = absurd (omega arith)
  received_end v (suc i) (l ∷ ls) [] h = ap (model.node_and (model.Live l)) (received_end v i ls [] (omega arith))
  received_end v (suc i) (l ∷ ls) (b ∷ bs) h = ap (model.node_and (node l b)) (received_end v i ls bs (omega arith))

  pub received_all : (v : ℤ) (i : ℕ) (l : S) (b : NodeStatus S) (ls ls' : Vec S Global) (bs bs' : Vec (NodeStatus S) Global) → b ≡ code.Forked ls bs → length ls'.items ≤ i
      → received_from o c v i (together ls'.items (nodes bs'.items)) ≡ all_received o c v (together ls.items (nodes bs.items)) → node l (code.Forked ls' bs') ≡ received o c v (node l b)
  received_all v i l b ls ls' bs bs' e h n =
      node_forked l ls' bs' ∙ (ap (model.Forked l) (sym (received_end v i ls'.items bs'.items h) ∙ n) ∙ sym (ap (received o c v) (at_forked l b ls bs e)))
