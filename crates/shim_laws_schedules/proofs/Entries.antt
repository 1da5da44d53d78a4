-- Entries of two keys of a map may be changed in either order.
use Rattle.std.proofs.Common.{◌≡◌, ℤ, ℕ, Bool, true, false, Option, Some, inl, inr, cond, refl, sym, ap, ◌∙◌}
use Rattle.std.specs.FinMap as map
use Rattle.std.specs.FinMap.{get-insert, same_map, IsAntisymmetric}
use Rattle.std.specs.Ordering.{eq_by_cmp, is_eq}
use Rattle.std.specs.Cmp.{IsTotalOrder}
use Rattle.std.specs.declared.cmp.Ordering.{Ordering}
use Rattle.std.specs.declared.cmp.Ordering.TheVariants.{Less, Equal, Greater}
use Rattle.shim_base.specs.Paths.{Channel, channel_order}
use Rattle.shim_base.specs.PathLaws.{channel_order_total, exact_channel}
use Rattle.shim_semantics.specs.Trees.{Met, with_met, recorded}
use Rattle.shim_base.proofs.Facts.{true_or_false}

tied : (r : Ordering) → is_eq r ≡ true → r ≡ Equal
tied Less e = absurd cc
tied Equal e = refl
tied Greater e = absurd cc

pub tied_same : {K : Type 0} {R : K → K → Ordering} → IsAntisymmetric R → (q k : K) → eq_by_cmp R q k ≡ true → q ≡ k
tied_same {R = R} exact q k e = exact q k (tied (R q k) e)

module _ {K X : Type 0} {R : K → K → Ordering} (o : IsTotalOrder R) (exact : IsAntisymmetric R) where
  -- an entry leaves those of other keys as they were
  pub get_other : (m : map.FinMap R X) (k l : K) (v : X) → (k ≡ l → ⊥) → map.get (map.insert m k v) l ≡ map.get m l
  get_other m k l v n = get-insert o m k v l ∙ elim (true_or_false (eq_by_cmp R l k)) [
    | inl y ↦ absurd (n (sym (tied_same exact l k y)))
    | inr y ↦ ap (λ b. cond b (Some v) (map.get m l)) y
  ]

  pub insert_swap : (m : map.FinMap R X) (k l : K) (v w : X) → (k ≡ l → ⊥) → map.insert (map.insert m k v) l w ≡ map.insert (map.insert m l w) k v
  insert_swap m k l v w n = same_map o exact _ _ at_each
    where
      swapped : (a b : Bool) (g : Option X) → (a ≡ true → b ≡ true → ⊥) → cond a (Some w) (cond b (Some v) g) ≡ cond b (Some v) (cond a (Some w) g)
      swapped true true g h = absurd (h refl refl)
      swapped true false g h = refl
      swapped false true g h = refl
      swapped false false g h = refl

      at_each : (q : K) → map.get (map.insert (map.insert m k v) l w) q ≡ map.get (map.insert (map.insert m l w) k v) q
      at_each q =
          get-insert o (map.insert m k v) l w q
          ∙ (ap (cond (eq_by_cmp R q l) (Some w)) (get-insert o m k v q)
          ∙ (swapped (eq_by_cmp R q l) (eq_by_cmp R q k) (map.get m q) (λ x y. n (sym (tied_same exact q k y) ∙ tied_same exact q l x))
          ∙ (sym (ap (cond (eq_by_cmp R q k) (Some v)) (get-insert o m l w q))
          ∙ sym (get-insert o (map.insert m l w) k v q))))

  -- each becomes what a function makes of what stood there
  pub change_swap : (m : map.FinMap R X) (k l : K) (f g : Option X → X) → (k ≡ l → ⊥)
      → map.insert (map.insert m k (f (map.get m k))) l (g (map.get (map.insert m k (f (map.get m k))) l)) ≡ map.insert (map.insert m l (g (map.get m l))) k (f (map.get (map.insert m l (g (map.get m l))) k))
  change_swap m k l f g n =
      ap (λ z. map.insert (map.insert m k (f (map.get m k))) l (g z)) (get_other m k l (f (map.get m k)) n)
      ∙ (insert_swap m k l (f (map.get m k)) (g (map.get m l)) n
      ∙ sym (ap (λ z. map.insert (map.insert m l (g (map.get m l))) k (f z)) (get_other m l k (g (map.get m l)) (λ e. n (sym e)))))

-- the values of two channels may be recorded in either order
pub recorded_swap : (m : map.FinMap channel_order Met) (c d : Channel) (a b : ℕ) (v w : ℤ) → (c ≡ d → ⊥) → recorded (recorded m c a v) d b w ≡ recorded (recorded m d b w) c a v
recorded_swap m c d a b v w n = change_swap channel_order_total exact_channel m c d (with_met a v) (with_met b w) n
