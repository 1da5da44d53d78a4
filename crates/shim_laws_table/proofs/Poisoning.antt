-- What is seen after a poison, and that records with its effects agree with the tree.
use Rattle.std.proofs.Common.{◌≡◌, ℕ, zero, suc, ◌+◌, ◌-◌, Bool, true, false, Some, None, List, [], ◌∷◌, ◌++◌, cond, inl, inr, refl, sym, ap, ◌∙◌}
use Rattle.shim_base.specs.Paths.{Path, Channel}
use Rattle.shim_local.specs.Process.{Ops}
use Rattle.shim_semantics.specs.Nodes.{Node, Nodes, Live, Forked, Ended, Dead, Death, death, no_node, node_and}
use Rattle.shim_semantics.specs.Places.{at, child_at}
use Rattle.shim_semantics.specs.Poison.{poisoned, all_poisoned, one_poisoned, can_poison, poison_node, poison, poison_child}
use Rattle.shim_semantics.proofs.ReplacedNodes.{put, put_child}
use Rattle.shim_semantics.proofs.PoisonStays.{above_some, before_some, after_some}
use Rattle.shim_base.proofs.Facts.{some_same, none_some, chosen}
use Rattle.shim_laws_table.specs.NodeStatus.{ProcessStatus, lives, forks, ends, dies, seen, place, how_many_nodes}
use Rattle.shim_laws_table.specs.Agrees.{RecordView, used, Has, Agrees}
use Rattle.shim_laws_table.specs.Places.{killed, seen_killed, SameAside}
use Rattle.shim_laws_table.specs.Changes.{HaveDied}
use Rattle.shim_laws_table.proofs.SameTrees.{aside_or_further}

-- another node further along, put step by step
mutual
  pub put_twice : {S : Type 0} (p t : List ℕ) (a n m : Node S) → at p n ≡ Some m → put (p ++ t) a n ≡ put p (put t a m) n
  put_twice [] t a n m e = ap (put t a) (some_same n m e)
  put_twice (i ∷ p) t a (Live l) m e = none_some m e
  put_twice (i ∷ p) t a (Ended l) m e = none_some m e
  put_twice (i ∷ p) t a (Dead l x) m e = none_some m e
  put_twice (i ∷ p) t a (Forked l ks) m e = ap (Forked l) (put_twice_in i p t a ks m e)

  put_twice_in : {S : Type 0} (i : ℕ) (p t : List ℕ) (a : Node S) (ks : Nodes S) (m : Node S) → child_at i p ks ≡ Some m → put_child i (p ++ t) a ks ≡ put_child i p (put t a m) ks
  put_twice_in i p t a no_node m e = none_some m e
  put_twice_in zero p t a (node_and k ks) m e = ap (λ z. node_and z ks) (put_twice p t a k m e)
  put_twice_in (suc i) p t a (node_and k ks) m e = ap (node_and k) (put_twice_in i p t a ks m e)

module _ {S : Type 0} (o : Ops S) (c : Channel) where
  module _ (d : Death) where
    live_killed : (l : S) (b : Bool) → seen (Some (cond b (Dead l d) (Live l))) ≡ Some (l, cond b (dies d) lives)
    live_killed l true = refl
    live_killed l false = refl

    live_nothing : (i : ℕ) (p : List ℕ) (l : S) (b : Bool) → seen (at (i ∷ p) (cond b (Dead l d) (Live l))) ≡ None
    live_nothing i p l true = refl
    live_nothing i p l false = refl

    as_many : (ks : Nodes S) → how_many_nodes (all_poisoned o c d ks) ≡ how_many_nodes ks
    as_many no_node = refl
    as_many (node_and k ks) = ap suc (as_many ks)

    mutual
      pub seen_poisoned : (p : List ℕ) (n : Node S) → seen (at p (poisoned o c d n)) ≡ seen_killed o c d (seen (at p n))
      seen_poisoned [] (Live l) = live_killed l (o.shares l c)
      seen_poisoned [] (Forked l ks) = ap (λ z. Some (l, forks z)) (as_many ks)
      seen_poisoned [] (Ended l) = refl
      seen_poisoned [] (Dead l x) = refl
      seen_poisoned (b ∷ p) (Live l) = live_nothing b p l (o.shares l c)
      seen_poisoned (b ∷ p) (Forked l ks) = seen_poisoned_in b p ks
      seen_poisoned (b ∷ p) (Ended l) = refl
      seen_poisoned (b ∷ p) (Dead l x) = refl

      seen_poisoned_in : (b : ℕ) (p : List ℕ) (ks : Nodes S) → seen (child_at b p (all_poisoned o c d ks)) ≡ seen_killed o c d (seen (child_at b p ks))
      seen_poisoned_in b p no_node = refl
      seen_poisoned_in zero p (node_and k ks) = seen_poisoned p k
      seen_poisoned_in (suc b) p (node_and k ks) = seen_poisoned_in b p ks

    one_put : (i : ℕ) (ks : Nodes S) (k : Node S) → child_at i [] ks ≡ Some k → one_poisoned o c d i ks ≡ put_child i [] (poisoned o c d k) ks
    one_put i no_node k e = none_some k e
    one_put zero (node_and j ks) k e = ap (λ z. node_and (poisoned o c d z) ks) (some_same j k e)
    one_put (suc i) (node_and j ks) k e = ap (node_and j) (one_put i ks k e)

  -- the node that a poison leaves of a fork
  abbrev pub fork_poisoned : ℕ → S → Nodes S → Node S
  fork_poisoned i l ks = Forked l (one_poisoned o c (death (o.handlers l - 1)) i ks)

  mutual
    poison_put : (i : ℕ) (q : List ℕ) (n m : Node S) (l : S) (ks : Nodes S) → poison o c i q n ≡ Some m → at q n ≡ Some (Forked l ks) → m ≡ put q (fork_poisoned i l ks) n
    poison_put i [] n m l ks e f =
        let w = ap (poison_node o c i) (sym (some_same n (Forked l ks) f)) ∙ e in
        sym (some_same (fork_poisoned i l ks) m (chosen (can_poison o l c i ks) (Some (fork_poisoned i l ks)) m w).1)
    poison_put i (b ∷ q) (Live k) m l ks e f = none_some m e
    poison_put i (b ∷ q) (Ended k) m l ks e f = none_some m e
    poison_put i (b ∷ q) (Dead k x) m l ks e f = none_some m e
    poison_put i (b ∷ q) (Forked k ns) m l ks e f =
        let x = above_some k (poison_child o c i b q ns) m e in
        sym x.2 ∙ ap (Forked k) (poison_put_in i b q ns x.0 l ks x.1 f)

    poison_put_in : (i b : ℕ) (q : List ℕ) (ns js : Nodes S) (l : S) (ks : Nodes S) → poison_child o c i b q ns ≡ Some js → child_at b q ns ≡ Some (Forked l ks) → js ≡ put_child b q (fork_poisoned i l ks) ns
    poison_put_in i b q no_node js l ks e f = none_some js e
    poison_put_in i zero q (node_and k ns) js l ks e f =
        let x = before_some ns (poison o c i q k) js e in
        sym x.2 ∙ ap (λ z. node_and z ns) (poison_put i q k x.0 l ks x.1 f)
    poison_put_in i (suc b) q (node_and k ns) js l ks e f =
        let x = after_some k (poison_child o c i b q ns) js e in
        sym x.2 ∙ ap (node_and k) (poison_put_in i b q ns x.0 l ks x.1 f)

  -- a poison puts one node in the place of the child
  pub child_poisoned : (i : ℕ) (q : List ℕ) (n m : Node S) (l : S) (ks : Nodes S) (k : Node S) → poison o c i q n ≡ Some m → at q n ≡ Some (Forked l ks) → child_at i [] ks ≡ Some k
      → m ≡ put (q ++ i ∷ []) (poisoned o c (death (o.handlers l - 1)) k) n
  child_poisoned i q n m l ks k e f g =
      poison_put i q n m l ks e f ∙ (ap (λ z. put q (Forked l z) n) (one_put (death (o.handlers l - 1)) i ks k g)
      ∙ sym (put_twice q (i ∷ []) (poisoned o c (death (o.handlers l - 1)) k) n (Forked l ks) f))

  -- ---- the records

  module _ (rp : Path) (q : List ℕ) (d : Death) (states : List S) (old_views views : List RecordView) (root new : Node S)
      (ok : Agrees o rp states old_views root) (died : HaveDied o rp q c d states old_views views)
      (represents : (s : List ℕ) → seen (at (q ++ s) new) ≡ seen_killed o c d (seen (at (q ++ s) root))) (aside : SameAside q root new) where
    -- what a record said before
    record Was (i f : ℕ) (s : S) (k : ProcessStatus) : Type 0 where
      pub old : ProcessStatus
      pub had : Has states old_views i f s old
      pub shown : seen (at (place o rp s) new) ≡ Some (s, k)
      pub fork : (n : ℕ) → k ≡ forks n → old ≡ forks n

    used_status : (f : ℕ) (k h : ProcessStatus) → Some (used f k) ≡ Some (used f h) → k ≡ h
    used_status f k h e = cc

    dead_no_fork : (b : Bool) (n : ℕ) → cond b (dies d) lives ≡ forks n → lives ≡ forks n
    dead_no_fork true n e = absurd cc
    dead_no_fork false n e = e

    still_fork : (s : S) (h : ProcessStatus) (n : ℕ) → killed o c d s h ≡ forks n → h ≡ forks n
    still_fork s lives n e = dead_no_fork (o.shares s c) n e
    still_fork s (forks m) n e = e
    still_fork s ends n e = absurd cc
    still_fork s (dies x) n e = absurd cc

    was : (i f : ℕ) (s : S) (k : ProcessStatus) → Has states views i f s k → Was i f s k
    was i f s k h =
        let w = died.had i f k h.view_is in
        let y : Has states old_views i f s w.0 = record { state_is = h.state_is; view_is = w.1 } in
        elim (aside_or_further q (place o rp s)) [
          | inl z ↦
              let same : k ≡ w.0 = used_status f k w.0 (sym h.view_is ∙ died.aside i f s w.0 y z) in
              record { old = w.0; had = y; shown = aside (place o rp s) z ∙ (ok.shown i f s w.0 y ∙ ap (λ z. Some (s, z)) (sym same)); fork = λ n e. sym same ∙ e }
          | inr z ↦
              let now : k ≡ killed o c d s w.0 = used_status f k (killed o c d s w.0) (sym h.view_is ∙ died.below i f s w.0 z.0 y z.1) in
              record {
                old = w.0;
                had = y;
                shown = ap (λ x. seen (at x new)) z.1 ∙ (represents z.0 ∙ (ap (λ x. seen_killed o c d (seen (at x root))) (sym z.1) ∙ (ap (seen_killed o c d) (ok.shown i f s w.0 y) ∙ ap (λ z. Some (s, z)) (sym now))));
                fork = λ n e. still_fork s w.0 n (sym now ∙ e);
              }
        ]

    -- a record that was in use still is
    still : (i f : ℕ) (s : S) (k : ProcessStatus) → Has states old_views i f s k → (h : ProcessStatus) × Has states views i f s h
    still i f s k h = elim (aside_or_further q (place o rp s)) [
      | inl z ↦ (k, record { state_is = h.state_is; view_is = died.aside i f s k h z })
      | inr z ↦ (killed o c d s k, record { state_is = h.state_is; view_is = died.below i f s k z.0 h z.1 })
    ]

    had_fork : (i f n : ℕ) (s : S) → Has states views i f s (forks n) → Has states old_views i f s (forks n)
    had_fork i f n s h = let w = was i f s (forks n) h in record { state_is = h.state_is; view_is = w.had.view_is ∙ ap (λ z. Some (used f z)) (w.fork n refl) }

    pub agrees_poisoned : Agrees o rp states views new
    agrees_poisoned = record {
      shown = λ i f s k h. (was i f s k h).shown;
      apart = λ i j f g s t k h x y e. ok.apart i j f g s t _ _ (was i f s k x).had (was j g t h y).had e;
      below = λ i f n s h b less. let z = ok.below i f n s (had_fork i f n s h) b less in let w = still (f + b) z.0 z.1 z.2 z.3 in (z.0, z.1, w.0, w.1, z.4);
    }
