-- The cycle by numbers is the cycle by paths, where the paths stand in order.
use Rattle.std.proofs.Common.{◌≡◌, ◌≢◌, ℕ, zero, suc, ◌<◌, ◌≤◌, Bool, true, false, ◌||◌, Some, List, [], ◌∷◌, ◌++◌, ◌⊎◌, inl, inr, cond, take, drop, get_or, length, map, eqb, refl, sym, ap, subst, ◌∙◌, arith}
use Rattle.std.specs.Prelude.{slice_get}
use Rattle.std.specs.declared.cmp.Ordering.TheVariants.{Less}
use Rattle.std.proofs.lemmas.Bool.Decides.{eqb_tells}
use Rattle.std.proofs.lemmas.List.{append_assoc, append-nil}
use Rattle.std.proofs.lemmas.Option.{slice_get-get_or}
use Rattle.shim_base.specs.Paths.{Path, same_path, path_order}
use Rattle.shim_base.proofs.Facts.{true_or_false}
use Rattle.shim_base.proofs.SamePaths.{same_path_refl, same_path_is}
use Rattle.shim_local.specs.Laws.{AllOf}
use Rattle.shim_base.specs.Lists.{IsAmong}
use Rattle.shim_semantics.proofs.Members.{among_mapped}
use Rattle.shim_waits.specs.Cycles.{by_of, has, passed_since, from_some, ring, least_of, turned_to, from_least}
use Rattle.shim_waits.specs.Rings.{was_passed, numbers_since, from_number, number_ring, IsLeastAt, IsTurned}
use Rattle.shim_waits.specs.declared.explained.Wait.{Wait}
use Rattle.shim_waits.proofs.Following.{no_less_itself, not_both_less, least_is}

either_way : (i j : ℕ) → i ≢ j → (i < j) ⊎ (j < i)
either_way zero zero f = absurd (f refl)
either_way zero (suc j) f = inl (omega arith)
either_way (suc i) zero f = inr (omega arith)
either_way (suc i) (suc j) f = elim (either_way i j (λ e. f (ap suc e))) [ inl h ↦ inl (omega (arith, h)) | inr h ↦ inr (omega (arith, h)) ]

at_or_above : (i j : ℕ) → i ≤ j → (i ≡ j) ⊎ (i < j)
at_or_above i j h = elim (eqb_tells i j) [
  | inl e ↦ inl e.1
  | inr e ↦ elim (either_way i j e.1) [ inl k ↦ inr k | inr k ↦ absurd (omega (arith, h, k)) ]
]

member : (is : List ℕ) (y : ℕ) → IsAmong y is → (j : ℕ) × (j < length is) × (get_or is j 0 ≡ y)
member [] y i = absurd i
member (x ∷ is) y (inl h) = (zero, omega arith, sym h)
member (x ∷ is) y (inr h) = let w = member is y h in (suc w.0, (let k = w.1 in omega (arith, k)), w.2)

read_among : (is : List ℕ) (m : ℕ) → m < length is → IsAmong (get_or is m 0) is
read_among [] m h = absurd (omega (arith, h))
read_among (x ∷ is) zero h = inl refl
read_among (x ∷ is) (suc m) h = inr (read_among is m (omega (arith, h)))

each_of : {A : Type 0} (P : A → Type 0) (xs : List A) (x : A) → AllOf P xs → IsAmong x xs → P x
each_of P [] x all i = absurd i
each_of P (y ∷ xs) x all (inl h) = subst P (sym h) all.0
each_of P (y ∷ xs) x all (inr h) = each_of P xs x all.1 h

map_among : {A B : Type 0} (f : A → B) (x : A) (xs : List A) → IsAmong x xs → IsAmong (f x) (map f xs)
map_among f x [] i = absurd i
map_among f x (y ∷ xs) (inl h) = inl (ap f h)
map_among f x (y ∷ xs) (inr h) = inr (map_among f x xs h)

-- each of these is below n
abbrev pub AreBelow : ℕ → List ℕ → Type 0
AreBelow n is = AllOf (λ j. j < n) is

chosen_below : (n : ℕ) (b : Bool) (xs ys : List ℕ) → AreBelow n xs → AreBelow n ys → AreBelow n (cond b xs ys)
chosen_below n true xs ys x y = x
chosen_below n false xs ys x y = y

module _ (n : ℕ) (f : ℕ → Path) (order : (i j : ℕ) → i < j → j < n → path_order (f i) (f j) ≡ Less) where
  not_same : (p q : Path) → path_order p q ≡ Less → same_path p q ≡ false
  not_same p q h = elim (true_or_false (same_path p q)) [ inl y ↦ absurd (no_less_itself p q h (same_path_is p q y)) | inr e ↦ e ]

  same_back : (p q : Path) → path_order q p ≡ Less → same_path p q ≡ false
  same_back p q h = elim (true_or_false (same_path p q)) [ inl y ↦ absurd (no_less_itself q p h (sym (same_path_is p q y))) | inr e ↦ e ]

  pub same_numbers : (i j : ℕ) → i < n → j < n → same_path (f i) (f j) ≡ eqb i j
  same_numbers i j a b = elim (eqb_tells i j) [
    | inl e ↦ ap (λ z. same_path (f i) (f z)) (sym e.1) ∙ (same_path_refl (f i) ∙ sym e.0)
    | inr e ↦ elim (either_way i j e.1) [
      | inl h ↦ not_same (f i) (f j) (order i j h b) ∙ sym e.0
      | inr h ↦ same_back (f i) (f j) (order j i h a) ∙ sym e.0
    ]
  ]

  has_mapped : (i : ℕ) (passed : List ℕ) → i < n → AreBelow n passed → has (f i) (map f passed) ≡ was_passed i passed
  has_mapped i [] a all = refl
  has_mapped i (j ∷ passed) a all = λ k. same_numbers j i all.0 a k || has_mapped i passed a all.1 k

  since_mapped : (i : ℕ) (passed more : List ℕ) → i < n → AreBelow n passed → passed_since (f i) (map f passed) (map f more) ≡ map f (numbers_since i passed more)
  since_mapped i [] more a all = refl
  since_mapped i (j ∷ passed) more a all =
      ap (λ b. cond b (f j ∷ map f more) (passed_since (f i) (map f passed) (f j ∷ map f more))) (same_numbers j i all.0 a)
      ∙ (ap (λ z. cond (eqb j i) (f j ∷ map f more) z) (since_mapped i passed (j ∷ more) a all.1) ∙ mapped_choice (eqb j i) (j ∷ more) (numbers_since i passed (j ∷ more)))
    where
      mapped_choice : (b : Bool) (xs ys : List ℕ) → cond b (map f xs) (map f ys) ≡ map f (cond b xs ys)
      mapped_choice true xs ys = refl
      mapped_choice false xs ys = refl

  module _ (ws : List Wait) (next : List ℕ) (leads : (i to : ℕ) → slice_get next i ≡ Some to → (by_of ws (f i) ≡ Some (f to)) × (to < n)) (long : length next ≡ n) where
    next_number : (i : ℕ) → i < n → (to : ℕ) × (slice_get next i ≡ Some to)
    next_number i h = (get_or next i 0, slice_get-get_or next i 0 (omega (arith, h, long)))

    pub ring_mapped : (k : ℕ) (passed : List ℕ) (i : ℕ) → AreBelow n passed → i < n → ring k ws (map f passed) (f i) ≡ map f (number_ring k next passed i)
    ring_mapped zero passed i all a = since_mapped i passed [] a all
    ring_mapped (suc k) passed i all a =
        let to = next_number i a in
        let there = leads i to.0 to.1 in
        both (was_passed i passed) (has (f i) (map f passed)) (passed_since (f i) (map f passed) []) (from_some (ring k ws (f i ∷ map f passed)) (by_of ws (f i))) (numbers_since i passed [])
        (from_number (number_ring k next (i ∷ passed)) (slice_get next i)) (has_mapped i passed a all) (since_mapped i passed [] a all)
        (ap (from_some (ring k ws (f i ∷ map f passed))) there.0 ∙ (ring_mapped k (i ∷ passed) to.0 (a, all) there.1 ∙ ap (map f) (sym (ap (from_number (number_ring k next (i ∷ passed))) to.1))))
      where
        both : (b c : Bool) (xs ys : List Path) (us vs : List ℕ) → c ≡ b → xs ≡ map f us → ys ≡ map f vs → cond c xs ys ≡ map f (cond b us vs)
        both true c xs ys us vs e x y = ap (λ z. cond z xs ys) e ∙ x
        both false c xs ys us vs e x y = ap (λ z. cond z xs ys) e ∙ y

    since_below : (i : ℕ) (passed more : List ℕ) → AreBelow n passed → AreBelow n more → AreBelow n (numbers_since i passed more)
    since_below i [] more all rest = rest
    since_below i (j ∷ passed) more all rest = chosen_below n (eqb j i) (j ∷ more) (numbers_since i passed (j ∷ more)) (all.0, rest) (since_below i passed (j ∷ more) all.1 (all.0, rest))

    pub ring_below : (k : ℕ) (passed : List ℕ) (i : ℕ) → AreBelow n passed → i < n → AreBelow n (number_ring k next passed i)
    ring_below zero passed i all a = since_below i passed [] all tt
    ring_below (suc k) passed i all a =
        let to = next_number i a in
        chosen_below n (was_passed i passed) (numbers_since i passed []) (from_number (number_ring k next (i ∷ passed)) (slice_get next i)) (since_below i passed [] all tt)
        (subst (λ z. AreBelow n (from_number (number_ring k next (i ∷ passed)) z)) (sym to.1) (ring_below k (i ∷ passed) to.0 (a, all) (leads i to.0 to.1).1))

  -- ---- from the least one on

  turned_at : (is : List ℕ) (m x : ℕ) (front : List Path) → AreBelow n is → x < n → m < length is → get_or is m 0 ≡ x → ((j : ℕ) → j < m → x < get_or is j 0) → turned_to (f x) front (map f is) ≡ map f (drop m is) ++ (front ++ map f (take m is))
  turned_at [] m x front all a h e before = absurd (omega (arith, h))
  turned_at (i ∷ is) zero x front all a h e before =
      ap (λ b. cond b (f i ∷ map f is ++ front) (turned_to (f x) (front ++ f i ∷ []) (map f is))) (ap (λ z. same_path (f z) (f x)) e ∙ same_path_refl (f x))
      ∙ ap (λ z. f i ∷ map f is ++ z) (sym (append-nil front))
  turned_at (i ∷ is) (suc m) x front all a h e before =
      ap (λ b. cond b (f i ∷ map f is ++ front) (turned_to (f x) (front ++ f i ∷ []) (map f is))) (same_back (f i) (f x) (order x i (before zero (omega arith)) all.0))
      ∙ (turned_at is m x (front ++ f i ∷ []) all.1 a (omega (arith, h)) e (λ j k. before (suc j) (omega (arith, k)))
      ∙ ap (λ z. map f (drop m is) ++ z) (append_assoc front (f i ∷ []) (map f (take m is))))

  -- of paths in order, that of the least number is the least
  least_mapped : (i : ℕ) (is : List ℕ) (m : ℕ) → AreBelow n (i ∷ is) → IsLeastAt (i ∷ is) m → m < length (i ∷ is) → least_of (f i) (map f is) ≡ f (get_or (i ∷ is) m 0)
  least_mapped i is m all at h =
      let x = get_or (i ∷ is) m 0 in
      let low = least_is (f i) (map f is) in
      let y = among_mapped f (least_of (f i) (map f is)) (i ∷ is) low.among in
      let j = member (i ∷ is) y.0 y.2 in
      let above : x ≤ y.0 = subst (λ z. x ≤ z) j.2 (at.least j.0 j.1) in
      elim (low.least (f x) (map_among f x (i ∷ is) (read_among (i ∷ is) m h))) [
        | inl e ↦ sym e
        | inr less ↦ elim (at_or_above x y.0 above) [
          | inl e ↦ y.1 ∙ ap f (sym e)
          | inr k ↦ absurd (not_both_less (f x) (f y.0) (order x y.0 k (each_of (λ j. j < n) (i ∷ is) y.0 all y.2)) (subst (λ z. path_order z (f x) ≡ Less) y.1 less))
        ]
      ]

  pub from_least_mapped : (is : List ℕ) (m : ℕ) → AreBelow n is → IsLeastAt is m → from_least (map f is) ≡ map f (drop m is) ++ map f (take m is)
  from_least_mapped [] zero all at = refl
  from_least_mapped [] (suc m) all at = absurd (let w = at.inside in omega (arith, w))
  from_least_mapped (i ∷ is) m all at =
      let h = at.there (omega arith) in
      let x = get_or (i ∷ is) m 0 in
      ap (λ z. turned_to z [] (map f (i ∷ is))) (least_mapped i is m all at h)
      ∙ turned_at (i ∷ is) m x [] all (each_of (λ j. j < n) (i ∷ is) x all (read_among (i ∷ is) m h)) h refl at.before

  pub turned_is : (is : List ℕ) (cycle : List Path) → AreBelow n is → IsTurned f is cycle → cycle ≡ from_least (map f is)
  turned_is is cycle all turned = turned.2 ∙ sym (from_least_mapped is turned.0 all turned.1)
