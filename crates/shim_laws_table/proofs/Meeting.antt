-- What is seen after a rendezvous.
use Rattle.std.proofs.Common.{◌≡◌, ℕ, zero, suc, ◌+◌, Some, List, [], ◌∷◌, ◌++◌, refl, sym, ap, ◌∙◌}
use Rattle.std.specs.Prelude.{ℤ}
use Rattle.shim_base.specs.Paths.{Path, Channel}
use Rattle.shim_local.specs.Process.{Ops}
use Rattle.shim_semantics.specs.Nodes.{Node, Nodes, Live, Forked, Ended, Dead, no_node, node_and, received, all_received}
use Rattle.shim_semantics.specs.Places.{at, child_at}
use Rattle.shim_base.proofs.Facts.{some_same}
use Rattle.shim_laws_table.specs.NodeStatus.{ProcessStatus, forks, seen, place, how_many_nodes}
use Rattle.shim_laws_table.specs.Agrees.{RecordView, Has, Agrees}
use Rattle.shim_laws_table.specs.Places.{got, seen_met}
use Rattle.shim_laws_table.specs.Changes.{HaveReceived}

module _ {S : Type 0} (o : Ops S) (c : Channel) (v : ℤ) where
  as_many : (ks : Nodes S) → how_many_nodes (all_received o c v ks) ≡ how_many_nodes ks
  as_many no_node = refl
  as_many (node_and k ks) = ap suc (as_many ks)

  mutual
    pub seen_received : (p : List ℕ) (n : Node S) → seen (at p (received o c v n)) ≡ seen_met o c v (seen (at p n))
    seen_received [] (Live l) = refl
    seen_received [] (Forked l ks) = ap (λ z. Some (l, forks z)) (as_many ks)
    seen_received [] (Ended l) = refl
    seen_received [] (Dead l x) = refl
    seen_received (b ∷ p) (Live l) = refl
    seen_received (b ∷ p) (Forked l ks) = seen_received_in b p ks
    seen_received (b ∷ p) (Ended l) = refl
    seen_received (b ∷ p) (Dead l x) = refl

    seen_received_in : (b : ℕ) (p : List ℕ) (ks : Nodes S) → seen (child_at b p (all_received o c v ks)) ≡ seen_met o c v (seen (child_at b p ks))
    seen_received_in b p no_node = refl
    seen_received_in zero p (node_and k ks) = seen_received p k
    seen_received_in (suc b) p (node_and k ks) = seen_received_in b p ks

  module _ (rp : Path) (before after : List S) (views : List RecordView) (root : Node S) (h : HaveReceived o c v views before after)
      (stays : (i f : ℕ) (s : S) (k : ProcessStatus) → Has before views i f s k → place o rp (got o c v k s) ≡ place o rp s) (ok : Agrees o rp before views root) where
    -- what a record had before
    record Was (i f : ℕ) (s : S) (k : ProcessStatus) : Type 0 where
      pub old : S
      pub had : Has before views i f old k
      pub is : s ≡ got o c v k old

    was : (i f : ℕ) (s : S) (k : ProcessStatus) → Has after views i f s k → Was i f s k
    was i f s k x =
        let w = h.had i s x.state_is in
        let y : Has before views i f w.0 k = record { state_is = w.1; view_is = x.view_is } in
        record { old = w.0; had = y; is = some_same s (got o c v k w.0) (sym x.state_is ∙ h.gets i f w.0 k y) }

    its_place : (i f : ℕ) (s : S) (k : ProcessStatus) (w : Was i f s k) → place o rp s ≡ place o rp w.old
    its_place i f s k w = ap (place o rp) w.is ∙ stays i f w.old k w.had

    pub agrees_met : Agrees o rp after views (received o c v root)
    agrees_met = record {
      shown = λ i f s k x. let w = was i f s k x in
          ap (λ z. seen (at z (received o c v root))) (its_place i f s k w)
          ∙ (seen_received (place o rp w.old) root ∙ (ap (seen_met o c v) (ok.shown i f w.old k w.had) ∙ ap (λ z. Some (z, k)) (sym w.is)));
      apart = λ i j f g s t k l x y e. let w = was i f s k x in let z = was j g t l y in
          ok.apart i j f g w.old z.old k l w.had z.had (sym (its_place i f s k w) ∙ (e ∙ its_place j g t l z));
      below = λ i f n s x b less. let w = was i f s (forks n) x in
          let z = ok.below i f n w.old w.had b less in (
            z.0,
            got o c v z.2 z.1,
            z.2,
            record { state_is = h.gets (f + b) z.0 z.1 z.2 z.3; view_is = z.3.view_is },
            stays (f + b) z.0 z.1 z.2 z.3 ∙ (z.4 ∙ ap (λ q. q ++ b ∷ []) (sym (its_place i f s (forks n) w))),
          );
    }
