-- Nodes that are the same to a channel: one may stand in the place of another, and the whole is the same to it.
use Rattle.std.proofs.Common.{◌≡◌, ℕ, zero, suc, Some, List, [], ◌∷◌, ◌&&◌, refl, sym, subst}
use Rattle.shim_base.specs.Paths.{Channel}
use Rattle.shim_local.specs.Process.{Ops}
use Rattle.shim_semantics.specs.Nodes.{Node, Nodes, Live, Forked, Ended, Dead, no_node, node_and, state, goes, any_sharer, source, source_among, first_name, first_name_among}
use Rattle.shim_semantics.specs.Places.{at, child_at}
use Rattle.shim_semantics.proofs.ReplacedNodes.{put, put_child}
use Rattle.shim_laws_schedules.specs.Waiting.{all_wait, all_wait_below, has_sharer, any_has_sharer}
use Rattle.shim_base.proofs.Facts.{some_same, none_some}

-- two nodes that are the same to the channel
pub record Alike {S : Type 0} (o : Ops S) (c : Channel) (m n : Node S) : Type 0 where
  pub all_wait : all_wait o c m ≡ all_wait o c n
  pub has_sharer : has_sharer o c m ≡ has_sharer o c n
  pub source : source o c m ≡ source o c n
  pub name : first_name o c m ≡ first_name o c n
  pub sharer : goes m && o.shares (state m) c ≡ goes n && o.shares (state n) c

-- the same of the children of a fork
pub record AreAlike {S : Type 0} (o : Ops S) (c : Channel) (ms ns : Nodes S) : Type 0 where
  pub all_wait : all_wait_below o c ms ≡ all_wait_below o c ns
  pub has_sharer : any_has_sharer o c ms ≡ any_has_sharer o c ns
  pub source : source_among o c ms ≡ source_among o c ns
  pub name : first_name_among o c ms ≡ first_name_among o c ns
  pub sharer : any_sharer o c ms ≡ any_sharer o c ns

module _ {S : Type 0} (o : Ops S) where
  pub alike_same : (c : Channel) (n : Node S) → Alike o c n n
  alike_same c n = record { all_wait = refl; has_sharer = refl; source = refl; name = refl; sharer = refl }

  pub are_alike_same : (c : Channel) (ks : Nodes S) → AreAlike o c ks ks
  are_alike_same c ks = record { all_wait = refl; has_sharer = refl; source = refl; name = refl; sharer = refl }

  -- the same process above children that are alike
  pub alike_forked : (c : Channel) (l : S) (ks js : Nodes S) → AreAlike o c ks js → Alike o c (Forked l ks) (Forked l js)
  alike_forked c l ks js r = record { all_wait = cc (r.sharer, r.all_wait); has_sharer = cc (r.has_sharer); source = cc (r.source); name = r.name; sharer = refl }

  -- a child that is alike, before others that are
  pub alike_first : (c : Channel) (k m : Node S) (ks js : Nodes S) → Alike o c k m → AreAlike o c ks js → AreAlike o c (node_and k ks) (node_and m js)
  alike_first c k m ks js r w = record { all_wait = cc (r.all_wait, w.all_wait); has_sharer = cc (r.has_sharer, w.has_sharer); source = cc (r.source, w.source); name = cc (r.name, w.name); sharer = cc (r.sharer, w.sharer) }

  mutual
    -- replacing a node by one that is alike leaves the whole alike
    pub alike_put : (c : Channel) (q : List ℕ) (n m a : Node S) → at q n ≡ Some m → Alike o c m a → Alike o c n (put q a n)
    alike_put c [] n m a e h = subst (λ z. Alike o c z a) (sym (some_same n m e)) h
    alike_put c (i ∷ q) (Live l) m a e h = none_some m e
    alike_put c (i ∷ q) (Ended l) m a e h = none_some m e
    alike_put c (i ∷ q) (Dead l x) m a e h = none_some m e
    alike_put c (i ∷ q) (Forked l ks) m a e h = alike_forked c l ks (put_child i q a ks) (alike_put_in c i q ks m a e h)

    alike_put_in : (c : Channel) (i : ℕ) (q : List ℕ) (ks : Nodes S) (m a : Node S) → child_at i q ks ≡ Some m → Alike o c m a → AreAlike o c ks (put_child i q a ks)
    alike_put_in c i q no_node m a e h = none_some m e
    alike_put_in c zero q (node_and k ks) m a e h = alike_first c k (put q a k) ks ks (alike_put c q k m a e h) (are_alike_same c ks)
    alike_put_in c (suc i) q (node_and k ks) m a e h = alike_first c k k ks (put_child i q a ks) (alike_same c k) (alike_put_in c i q ks m a e h)
