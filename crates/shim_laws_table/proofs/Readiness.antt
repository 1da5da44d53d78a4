-- A fork is ready where its counts say so.
use Rattle.std.proofs.Common.{◌≡◌, ℕ, zero, suc, Bool, true, false, ◌&&◌, ◌||◌, not, if◌then◌else◌, refl, sym, ap, ◌∙◌}
use Rattle.shim_base.specs.Paths.{Channel}
use Rattle.shim_local.specs.Process.{Ops}
use Rattle.shim_semantics.specs.Nodes.{Nodes, Live, Forked, Ended, Dead, no_node, node_and, ready, any_sharer, all_ready, is_next}
use Rattle.shim_laws_table.specs.Counts.{is_zero, is_going_on, isnt_ready, is_dead_on, count, tally_of, tally_ready}

some_more : (b : Bool) (n : ℕ) → not (is_zero (if b then suc n else n)) ≡ b || not (is_zero n)
some_more true n = refl
some_more false n = refl

-- one child more, which goes, has ended, or has died
one_goes : (s r : Bool) (a b : ℕ) (x : Bool) → x ≡ is_zero a && is_zero b → (not (s && true) || r) && x ≡ is_zero (if s && not r then suc a else a) && is_zero b
one_goes true true a b x e = e
one_goes true false a b x e = refl
one_goes false true a b x e = e
one_goes false false a b x e = e

one_dead : (s : Bool) (a b : ℕ) (x : Bool) → x ≡ is_zero a && is_zero b → (not (s && true) || false) && x ≡ is_zero a && is_zero (if s then suc b else b)
one_dead true zero b x e = refl
one_dead true (suc a) b x e = refl
one_dead false a b x e = e

one_ended : (s : Bool) (x : Bool) → (not (s && false) || false) && x ≡ x
one_ended true x = refl
one_ended false x = refl

module _ {S : Type 0} (o : Ops S) (c : Channel) where
  some_join : (ks : Nodes S) → any_sharer o c ks ≡ not (is_zero (count (is_going_on o c) ks))
  some_join no_node = refl
  some_join (node_and k ks) = ap (λ z. is_going_on o c k || z) (some_join ks) ∙ sym (some_more (is_going_on o c k) (count (is_going_on o c) ks))

  none_wait : (ks : Nodes S) → all_ready o c ks ≡ is_zero (count (isnt_ready o c) ks) && is_zero (count (is_dead_on o c) ks)
  none_wait no_node = refl
  none_wait (node_and (Live l) ks) = one_goes (o.shares l c) (is_next (o.stop l) c) (count (isnt_ready o c) ks) (count (is_dead_on o c) ks) (all_ready o c ks) (none_wait ks)
  none_wait (node_and (Forked l js) ks) = one_goes (o.shares l c) (ready o c (Forked l js)) (count (isnt_ready o c) ks) (count (is_dead_on o c) ks) (all_ready o c ks) (none_wait ks)
  none_wait (node_and (Ended l) ks) = one_ended (o.shares l c) (all_ready o c ks) ∙ none_wait ks
  none_wait (node_and (Dead l x) ks) = one_dead (o.shares l c) (count (isnt_ready o c) ks) (count (is_dead_on o c) ks) (all_ready o c ks) (none_wait ks)

  pub by_counts : (l : S) (ks : Nodes S) → ready o c (Forked l ks) ≡ tally_ready (tally_of o c ks)
  by_counts l ks = λ t. some_join ks t && none_wait ks t
