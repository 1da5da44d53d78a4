-- What a change at or below a child does to the counts of a fork.
use Rattle.std.proofs.Common.{◌≡◌, ℕ, zero, suc, ◌+◌, Bool, true, false, ◌&&◌, not, if◌then◌else◌, Some, List, [], ◌∷◌, sym, ap, subst, ◌∙◌, arith, refl, length}
use Rattle.shim_base.specs.Paths.{Channel}
use Rattle.shim_local.specs.Process.{Ops}
use Rattle.shim_local.specs.Laws.{how_many}
use Rattle.shim_semantics.specs.Nodes.{Node, Nodes, Live, Forked, Ended, Dead, no_node, node_and, goes, all_live, is_next}
use Rattle.shim_semantics.specs.Places.{at, child_at}
use Rattle.shim_semantics.proofs.ReplacedNodes.{put, put_child}
use Rattle.shim_base.proofs.Facts.{some_same, none_some}
use Rattle.shim_laws_table.specs.Places.{IsReplaced}
use Rattle.shim_laws_table.specs.Counts.{is_going_on, isnt_ready, is_dead_on, count, tally_ready, tally_of, bit, ChildStatus, child_status, IsExchanged, CountsTell}
use Rattle.shim_laws_table.proofs.SameTrees.{is_put}
use Rattle.shim_laws_table.proofs.Readiness.{by_counts}

pub one_more : (b : Bool) (n : ℕ) → (if b then suc n else n) ≡ bit b + n
one_more true n = omega arith
one_more false n = omega arith

swapped : (a b n x y : ℕ) → a ≡ y + n → b ≡ x + n → a + x ≡ b + y
swapped a b n x y e f = omega (arith, e, f)

passed : (a b n k m x y : ℕ) → a ≡ k + n → b ≡ k + m → n + x ≡ m + y → a + x ≡ b + y
passed a b n k m x y e f h = omega (arith, e, f, h)

module _ {S : Type 0} (f : Node S → Bool) where
  pub count_changed : (b : ℕ) (q : List ℕ) (ks : Nodes S) (k a : Node S) → child_at b [] ks ≡ Some k
      → count f (put_child b q a ks) + bit (f k) ≡ count f ks + bit (f (put q a k))
  count_changed b q no_node k a e = none_some k e
  count_changed zero q (node_and j ks) k a e =
      let w = some_same j k e in
      swapped (count f (node_and (put q a j) ks)) (count f (node_and j ks)) (count f ks) (bit (f k)) (bit (f (put q a k)))
      (one_more (f (put q a j)) (count f ks) ∙ ap (λ z. bit (f (put q a z)) + count f ks) w)
      (one_more (f j) (count f ks) ∙ ap (λ z. bit (f z) + count f ks) w)
  count_changed (suc b) q (node_and j ks) k a e =
      passed (count f (node_and j (put_child b q a ks))) (count f (node_and j ks)) (count f (put_child b q a ks)) (bit (f j)) (count f ks) (bit (f k)) (bit (f (put q a k)))
      (one_more (f j) (count f (put_child b q a ks))) (one_more (f j) (count f ks)) (count_changed b q ks k a e)

module _ {S : Type 0} (o : Ops S) (c : Channel) where
  -- what is read of a fork follows from its counts
  pub fork_read : (l : S) (ks : Nodes S) → child_status o c (Forked l ks) ≡ record { going = o.shares l c; ready_on = tally_ready (tally_of o c ks); dead_on = false }
  fork_read l ks = ap (λ b. let r : ChildStatus = record { going = o.shares l c; ready_on = b; dead_on = false } in r) (by_counts o c l ks)

  pub fork_alike : (l : S) (ks js : Nodes S) → tally_of o c js ≡ tally_of o c ks → child_status o c (Forked l ks) ≡ child_status o c (Forked l js)
  fork_alike l ks js e =
      fork_read l ks ∙ (ap (λ t. let r : ChildStatus = record { going = o.shares l c; ready_on = tally_ready t; dead_on = false } in r) (sym e) ∙ sym (fork_read l js))

  with_alike : (k a : Node S) (ks : Nodes S) → child_status o c k ≡ child_status o c a → tally_of o c (node_and a ks) ≡ tally_of o c (node_and k ks)
  with_alike k a ks h = λ t. record {
    going = if (sym h t).going then suc (count (is_going_on o c) ks) else count (is_going_on o c) ks;
    not_ready = if (sym h t).going && not (sym h t).ready_on then suc (count (isnt_ready o c) ks) else count (isnt_ready o c) ks;
    dead = if (sym h t).dead_on then suc (count (is_dead_on o c) ks) else count (is_dead_on o c) ks;
  }

  behind_same : (k : Node S) (ks js : Nodes S) → tally_of o c js ≡ tally_of o c ks → tally_of o c (node_and k js) ≡ tally_of o c (node_and k ks)
  behind_same k ks js e = λ t. record {
    going = if is_going_on o c k then suc (e t).going else (e t).going;
    not_ready = if isnt_ready o c k then suc (e t).not_ready else (e t).not_ready;
    dead = if is_dead_on o c k then suc (e t).dead else (e t).dead;
  }

  mutual
    pub alike_up : (q : List ℕ) (m a n : Node S) → at q n ≡ Some m → child_status o c m ≡ child_status o c a → child_status o c n ≡ child_status o c (put q a n)
    alike_up [] m a n e h = ap (child_status o c) (some_same n m e) ∙ h
    alike_up (i ∷ q) m a (Live l) e h = none_some m e
    alike_up (i ∷ q) m a (Ended l) e h = none_some m e
    alike_up (i ∷ q) m a (Dead l x) e h = none_some m e
    alike_up (i ∷ q) m a (Forked l ks) e h = fork_alike l ks (put_child i q a ks) (tally_up i q m a ks e h)

    pub tally_up : (i : ℕ) (q : List ℕ) (m a : Node S) (ks : Nodes S) → child_at i q ks ≡ Some m → child_status o c m ≡ child_status o c a → tally_of o c (put_child i q a ks) ≡ tally_of o c ks
    tally_up i q m a no_node e h = none_some m e
    tally_up zero q m a (node_and k ks) e h = with_alike k (put q a k) ks (alike_up q m a k e h)
    tally_up (suc i) q m a (node_and k ks) e h = behind_same k ks (put_child i q a ks) (tally_up i q m a ks e h)

-- ---- as a law

child_of : {S : Type 0} (l : S) (b : ℕ) (p : List ℕ) (ks js : Nodes S) (m a k h : Node S) → IsReplaced (b ∷ p) m a (Forked l ks) (Forked l js) → child_at b [] ks ≡ Some k → child_at b [] js ≡ Some h
    → (js ≡ put_child b p a ks) × (h ≡ put p a k)
child_of l b p ks js m a k h x e f =
    let same = forks_same l l js (put_child b p a ks) (is_put (b ∷ p) m a (Forked l ks) (Forked l js) x) in
    (same, some_same h (put p a k) (sym f ∙ (ap (child_at b []) same ∙ put_there b p a ks k e)))
  where
    forks_same : {S : Type 0} (l m : S) (ks js : Nodes S) → Forked l ks ≡ Forked m js → ks ≡ js
    forks_same l m ks js e = cc

    put_there : {S : Type 0} (b : ℕ) (p : List ℕ) (a : Node S) (ks : Nodes S) (k : Node S) → child_at b [] ks ≡ Some k → child_at b [] (put_child b p a ks) ≡ Some (put p a k)
    put_there b p a no_node k e = none_some k e
    put_there zero p a (node_and j ks) k e = ap (λ z. Some (put p a z)) (some_same j k e)
    put_there (suc b) p a (node_and j ks) k e = put_there b p a ks k e

module _ {S : Type 0} (o : Ops S) (c : Channel) where
  fresh_going : (ks : List S) → count (is_going_on o c) (all_live ks) ≡ how_many (λ s. o.shares s c) ks
  fresh_going [] = refl
  fresh_going (k ∷ ks) = ap (λ n. if o.shares k c then suc n else n) (fresh_going ks)

  fresh_not_ready : (ks : List S) → count (isnt_ready o c) (all_live ks) ≡ how_many (λ s. o.shares s c && not (is_next (o.stop s) c)) ks
  fresh_not_ready [] = refl
  fresh_not_ready (k ∷ ks) = ap (λ n. if o.shares k c && not (is_next (o.stop k) c) then suc n else n) (fresh_not_ready ks)

  fresh_dead : (ks : List S) → count (is_dead_on o c) (all_live ks) ≡ 0
  fresh_dead [] = refl
  fresh_dead (k ∷ ks) = fresh_dead ks

all_go : {S : Type 0} (ks : List S) → count goes (all_live ks) ≡ length ks
all_go [] = refl
all_go (k ∷ ks) = ap suc (all_go ks)

pub counts_tell : {S : Type 0} (o : Ops S) → CountsTell o
counts_tell o = record {
  fork = fork_read o;
  moves = λ c l ks js b p m a k h x e f.
      let w = child_of l b p ks js m a k h x e f in
      subst (λ z. IsExchanged (child_status o c k) (child_status o c h) (tally_of o c ks) (tally_of o c z)) (sym w.0) (subst (λ z. IsExchanged (child_status o c k) (child_status o c z) (tally_of o c ks) (tally_of o c (put_child b p a ks))) (sym w.1) (record {
        going = count_changed (is_going_on o c) b p ks k a e;
        not_ready = count_changed (isnt_ready o c) b p ks k a e;
        dead = count_changed (is_dead_on o c) b p ks k a e;
      }));
  going_children = λ l ks js b p m a k h x e f.
      let w = child_of l b p ks js m a k h x e f in
      (λ i. count goes (w.0 i) + bit (goes k)) ∙ (count_changed goes b p ks k a e ∙ ap (λ z. count goes ks + bit (goes z)) (sym w.1));
  fresh = λ c ks i. record { going = fresh_going o c ks i; not_ready = fresh_not_ready o c ks i; dead = fresh_dead o c ks i };
  all_go = all_go;
}
