-- Lists in which nothing stands twice: one after another, images, and channels in order.
use Rattle.std.proofs.Common.{◌≡◌, zero, suc, Bool, true, false, Some, List, [], ◌∷◌, ◌++◌, inl, inr, cond, map, refl, sym, ap, subst, ◌∙◌, T}
use Rattle.std.specs.Prelude.{ℕ, slice_get}
use Rattle.std.specs.Cmp.{IsTotalOrder, tied_itself}
use Rattle.std.specs.declared.cmp.Ordering.{Ordering}
use Rattle.std.specs.FinMap.{is_sorted, entries, entries_sorted, from_entries}
use Rattle.std.specs.FinMap.Entries.{below_all}
use Rattle.std.specs.Ordering.{is_lt}
use Rattle.shim_base.specs.Paths.{Channel, channel_order}
use Rattle.shim_base.specs.PathLaws.{channel_order_total}
use Rattle.shim_base.specs.Lists.{IsAmong}
use Rattle.shim_semantics.specs.Walks.{as_key, in_order}
use Rattle.shim_semantics.proofs.InOrder.{first_holds, second_holds}
use Rattle.shim_semantics.proofs.Members.{among_either, among_mapped}
use Rattle.shim_base.proofs.Facts.{some_same, none_some}
use Rattle.shim_laws_schedules.specs.ListedOnce.{StandOnce}

-- nothing that stands in it stands there again further on
abbrev pub AreDistinct : {E : Type 0} → List E → Type 0
AreDistinct [] = Unit {0}
AreDistinct (e ∷ es) = (IsAmong e es → ⊥) × AreDistinct es

-- nothing is among both
abbrev pub AreApart : {E : Type 0} → List E → List E → Type 0
AreApart {E} xs ys = (e : E) → IsAmong e xs → IsAmong e ys → ⊥

pub distinct_append : {E : Type 0} (xs ys : List E) → AreDistinct xs → AreDistinct ys → AreApart xs ys → AreDistinct (xs ++ ys)
distinct_append [] ys d f a = f
distinct_append (x ∷ xs) ys d f a = (
  (λ h. elim (among_either x xs ys h) [ inl z ↦ d.0 z | inr z ↦ a x (inl refl) z ]),
  distinct_append xs ys d.1 f (λ e i j. a e (inr i) j),
)

-- of a function that maps no two to one
pub distinct_map : {A E : Type 0} (f : A → E) → ((x y : A) → f x ≡ f y → x ≡ y) → (xs : List A) → AreDistinct xs → AreDistinct (map f xs)
distinct_map f one [] d = tt
distinct_map f one (x ∷ xs) d = (
  (λ h. let w = among_mapped f (f x) xs h in d.0 (subst (λ z. IsAmong z xs) (sym (one x w.0 w.1)) w.2)),
  distinct_map f one xs d.1,
)

pub distinct_cond : {E : Type 0} (b : Bool) (e : E) → AreDistinct (cond b (e ∷ []) [])
distinct_cond true e = ((λ h. h), tt)
distinct_cond false e = tt

-- keys that rise are distinct
module _ {K X : Type 0} (R : K → K → Ordering) (total : IsTotalOrder R) where
  below_out : (k : K) (es : List (K × X)) → T (below_all R k es) → IsAmong k (map (λ e. e.0) es) → ⊥
  below_out k [] h i = i
  below_out k (e ∷ es) h (inl i) = subst (λ r. T (is_lt r)) (ap (R k) (sym i) ∙ tied_itself total k) (first_holds _ _ h)
  below_out k (e ∷ es) h (inr i) = below_out k es (second_holds _ _ h) i

  sorted_distinct : (es : List (K × X)) → T (is_sorted R es) → AreDistinct (map (λ e. e.0) es)
  sorted_distinct [] h = tt
  sorted_distinct (e ∷ es) h = (below_out e.0 es (first_holds _ _ h), sorted_distinct es (second_holds _ _ h))

pub order_distinct : (cs : List Channel) → AreDistinct (in_order cs)
order_distinct cs =
    let m = from_entries {R = channel_order} (map as_key cs) in
    sorted_distinct channel_order channel_order_total (entries m) (entries_sorted m)

among_at : {E : Type 0} (es : List E) (i : ℕ) (e : E) → slice_get es i ≡ Some e → IsAmong e es
among_at [] i e h = none_some e h
among_at (x ∷ xs) zero e h = inl (sym (some_same x e h))
among_at (x ∷ xs) (suc i) e h = inr (among_at xs i e h)

-- the first of a list that is distinct stands at no other place
first_once : {E : Type 0} (x : E) (xs : List E) (i : ℕ) (e : E) → AreDistinct (x ∷ xs) → Some x ≡ Some e → slice_get xs i ≡ Some e → ⊥
first_once x xs i e d h g = d.0 (subst (λ z. IsAmong z xs) (sym (some_same x e h)) (among_at xs i e g))

pub stand_once : {E : Type 0} (es : List E) → AreDistinct es → StandOnce es
stand_once [] d i j e h g = none_some e h
stand_once (x ∷ xs) d zero zero e h g = refl
stand_once (x ∷ xs) d zero (suc j) e h g = absurd (first_once x xs j e d h g)
stand_once (x ∷ xs) d (suc i) zero e h g = absurd (first_once x xs i e d g h)
stand_once (x ∷ xs) d (suc i) (suc j) e h g = ap suc (stand_once xs d.1 i j e h g)
