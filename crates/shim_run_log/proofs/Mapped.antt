-- A `BTreeMap` of the code and the finite map that its entries make.
use Rattle.std.specs.Prelude.{◌≡◌, ◌≤◌, ◌+◌, ℕ, Bool, true, false, Option, Some, None, List, [], ◌∷◌, map, cond}
use Rattle.std.specs.List.{AllByRecursion}
use Rattle.std.specs.List.Sorted.{IsStrictlySortedBy}
use Rattle.std.proofs.Common.{refl, sym, ap, ◌∙◌, arith}
use Rattle.std.specs.declared.cmp.Ordering.{Ordering}
use Rattle.std.specs.declared.cmp.Ordering.TheVariants.{Less, Equal, Greater}
use Rattle.std.specs.Ordering.{is_eq, eq_by_cmp}
use Rattle.std.specs.Cmp.{IsTotalOrder, eq_by_cmp_equiv}
use Rattle.std.specs.FinMap.{FinMap, IsAntisymmetric, find, put, get, insert, remove, values, entries, from_entries, get-entries, get-from_entries, get-insert, get-remove, get_tied, entries-insert, same_map}
use Rattle.std.specs.Map.{lookup, keys_of}
use Rattle.std.specs.BTreeMap.{is_at}
use Rattle.std.proofs.lemmas.Map.Keys.{sorted_head, sorted_tail}
use Rattle.std.proofs.lemmas.Option.{none-some, same_Some}
use Rattle.shim_semantics.specs.Trees.{sum}
use Rattle.shim_semantics.proofs.InOrder.{no_entries}

find_lookup : {K X : Type 0} (R : K → K → Ordering) (es : List (K × X)) (q : K) → find R q es ≡ lookup (is_at (R q)) es
find_lookup R [] q = refl
find_lookup R (e ∷ es) q = ap (cond (is_at (R q) e.0) (Some e.1)) (find_lookup R es q)

pub tied : (r : Ordering) → is_eq r ≡ true → r ≡ Equal
tied Less e = absurd (cc)
tied Equal e = refl
tied Greater e = absurd (cc)

-- a test that is repeated
shadowed : {A : Type 0} (b : Bool) (x y z w : A) → (b ≡ true → x ≡ w) → (b ≡ false → z ≡ w) → cond b x (cond b y z) ≡ w
shadowed true x y z w h g = h refl
shadowed false x y z w h g = g refl

module _ {K X : Type 0} {R : K → K → Ordering} (o : IsTotalOrder R) where
  pub get_of : (es : List (K × X)) (q : K) → get (from_entries {R = R} es) q ≡ lookup (is_at (R q)) es
  get_of es q = get-from_entries o es q ∙ find_lookup R es q

  put_before : (k : K) (v : X) (es : List (K × X)) → AllByRecursion (λ y. R k y ≡ Less) (keys_of es) → put R k v es ≡ (k, v) ∷ es
  put_before k v [] h = refl
  put_before k v (e ∷ es) h = rw h.0 refl

  -- entries in order are those of the map that they make
  pub entries_of : (es : List (K × X)) → IsStrictlySortedBy R (keys_of es) → entries (from_entries {R = R} es) ≡ es
  entries_of [] h = no_entries R
  entries_of (e ∷ es) h = entries-insert o (from_entries es) e.0 e.1 ∙ ap (put R e.0 e.1) (entries_of es (sorted_tail R e.0 (keys_of es) h)) ∙ put_before e.0 e.1 es (sorted_head R e.0 (keys_of es) h)

  module _ (exact : IsAntisymmetric R) where
    -- entries that differ at one key make maps that differ there
    pub put_at : (es fs : List (K × X)) (k : K) (w : X) → ((q : K) → lookup (is_at (R q)) fs ≡ cond (is_at (R k) q) (Some w) (lookup (is_at (R q)) es)) → from_entries {R = R} fs ≡ insert (from_entries es) k w
    put_at es fs k w h = same_map o exact _ _ (λ q.
        get_of fs q ∙ h q ∙ ap (λ b. cond b (Some w) (lookup (is_at (R q)) es)) ((eq_by_cmp_equiv o).symm k q)
        ∙ sym (get-insert o (from_entries es) k w q ∙ ap (cond (is_at (R q) k) (Some w)) (get_of es q)))

    pub removed_at : (es fs : List (K × X)) (k : K) → ((q : K) → lookup (is_at (R q)) fs ≡ cond (is_at (R k) q) None (lookup (is_at (R q)) es)) → from_entries {R = R} fs ≡ remove (from_entries es) k
    removed_at es fs k h = same_map o exact _ _ (λ q.
        get_of fs q ∙ h q ∙ ap (λ b. cond b None (lookup (is_at (R q)) es)) ((eq_by_cmp_equiv o).symm k q)
        ∙ sym (get-remove o (from_entries es) k q ∙ ap (cond (is_at (R q) k) None) (get_of es q)))

    -- what was put over a value is undone by that value
    pub put_back : (m n : FinMap R X) (k : K) (v w : X) → get m k ≡ Some w → n ≡ insert m k v → insert n k w ≡ m
    put_back m n k v w had is = ap (λ z. insert z k w) is ∙ same_map o exact _ _ (λ q.
        get-insert o (insert m k v) k w q ∙ ap (cond (eq_by_cmp R q k) (Some w)) (get-insert o m k v q)
        ∙ shadowed (eq_by_cmp R q k) (Some w) (Some v) (get m q) (get m q) (λ t. sym had ∙ get_tied o m q k (tied (R q k) t)) (λ _. refl))

    pub taken_back : (m n : FinMap R X) (k : K) (v : X) → get m k ≡ None → n ≡ insert m k v → remove n k ≡ m
    taken_back m n k v had is = ap (λ z. remove z k) is ∙ same_map o exact _ _ (λ q.
        get-remove o (insert m k v) k q ∙ ap (cond (eq_by_cmp R q k) None) (get-insert o m k v q)
        ∙ shadowed (eq_by_cmp R q k) None (Some v) (get m q) (get m q) (λ t. sym had ∙ get_tied o m q k (tied (R q k) t)) (λ _. refl))

-- a count is at most the sum of the counts
found_below : (b : Bool) (n c s : ℕ) (o : Option ℕ) → (o ≡ Some n → n ≤ s) → cond b (Some c) o ≡ Some n → n ≤ c + s
found_below true n c s o h e = omega (arith, same_Some c n e)
found_below false n c s o h e = omega (arith, h e)

below_sum : {K : Type 0} (R : K → K → Ordering) (es : List (K × ℕ)) (q : K) (n : ℕ) → find R q es ≡ Some n → n ≤ sum (map (λ e. e.1) es)
below_sum R [] q n e = absurd (none-some n e)
below_sum R (e ∷ es) q n is = found_below (eq_by_cmp R q e.0) n e.1 _ _ (below_sum R es q n) is

pub count_below : {K : Type 0} {R : K → K → Ordering} (m : FinMap R ℕ) (k : K) (n : ℕ) → get m k ≡ Some n → n ≤ sum (values m)
count_below {R = R} m k n e = below_sum R (entries m) k n (sym (get-entries m k) ∙ e)
