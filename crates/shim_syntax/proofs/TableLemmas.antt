-- A name put after others: its place, the places of the others, and the map that has them.
use Rattle.std.proofs.Common.{ℕ, ◌≡◌, ◌≤◌, ◌<◌, ◌+◌, Bool, true, false, cond, List, [], ◌∷◌, ◌++◌, length, get_or, Some, None, is_some, position, nat_eq, nat_lt, refl, sym, ap, subst, ◌∙◌, ◌⊎◌, inl, inr, arith, length-append}
use Rattle.std.specs.declared.cmp.Ordering.{Ordering}
use Rattle.std.specs.BTreeMap.{BTreeMap, UpdatesBy}
use Rattle.std.specs.Cmp.{eq_by_cmp_equiv}
use Rattle.std.specs.Cmp.Lexicographic.{slice_cmp, nat_list_cmp_total, nat_list_eq_equiv}
use Rattle.std.specs.Global.{Vec}
use Rattle.std.specs.List.{find, position_or_len}
use Rattle.std.specs.Map.{lookup, IsKeyTest, AreApart, KeepsOthers}
use Rattle.std.specs.Ordering.{is_eq, nat_cmp}
use Rattle.std.specs.Str.{bytes_eq}
use Rattle.std.proofs.lemmas.Bool.{cases_Bool}
use Rattle.std.proofs.lemmas.Bool.Decides.{nat_tests}
use Rattle.std.proofs.lemmas.List.Folds.{find_at, position_or_len_push}
use Rattle.std.proofs.lemmas.List.Sums.{prefix_len-le-length}
use Rattle.std.proofs.lemmas.Map.Text.{is_eq-slice_cmp}
use Rattle.std.proofs.lemmas.Option.{slice_get-get_or, slice_get_past}
use Rattle.std.proofs.lemmas.Slice.Eq.{bytes_eq-Decides}
use Rattle.shim_syntax.specs.Names.{Texts, unless_there, with_name}
use Rattle.shim_syntax.specs.Table.{IsIndex, against_key, number_at}

abbrev pub is_name : List ℕ → List ℕ → Bool
is_name x n = bytes_eq n x

-- ---- places in a list

within : (a n : ℕ) → is_some (cond (nat_lt a n) (Some a) None) ≡ true → a < n
within a n h = grind (arith, nat_tests)

past : (a n : ℕ) → cond (nat_lt a n) (Some a) None ≡ None → n ≤ a
past a n h = grind (arith, nat_tests)

-- a is the first place that passes in n elements, and q in one more, which fails
as_before : (a n q m : ℕ) → a ≤ n → m ≡ n + 1 → q ≡ cond (nat_eq a n) (n + 1) a → cond (nat_lt q m) (Some q) None ≡ cond (nat_lt a n) (Some a) None
as_before a n q m h l e = grind (arith, nat_tests)

-- the same, where the one more is the first that passes
at_the_end : (a n q m : ℕ) → a ≤ n → n ≤ a → m ≡ n + 1 → q ≡ cond (nat_eq a n) (n + 0) a → cond (nat_lt q m) (Some q) None ≡ Some n
at_the_end a n q m h g l e = grind (arith, nat_tests)

module _ (p : List ℕ → Bool) (xs : Texts) where
  pub found_there : is_some (position p xs) ≡ true → find p xs ≡ Some (get_or xs (position_or_len p xs) [])
  found_there h = find_at p xs ∙ slice_get-get_or xs (position_or_len p xs) [] (within _ _ h)

  pub found_nowhere : position p xs ≡ None → find p xs ≡ None
  found_nowhere h = find_at p xs ∙ slice_get_past xs (position_or_len p xs) (past _ _ h)

  place_with : (y : List ℕ) (b : Bool) → p y ≡ b → position_or_len p (xs ++ y ∷ []) ≡ cond (nat_eq (position_or_len p xs) (length xs)) (length xs + cond b 0 1) (position_or_len p xs)
  place_with y b h = position_or_len_push p xs y ∙ ap (λ c. cond (nat_eq (position_or_len p xs) (length xs)) (length xs + cond c 0 1) (position_or_len p xs)) h

  other_behind : (y : List ℕ) → p y ≡ false → position p (xs ++ y ∷ []) ≡ position p xs
  other_behind y h = as_before _ _ _ _ (prefix_len-le-length _ xs) (length-append xs (y ∷ [])) (place_with y false h)

  first_behind : (y : List ℕ) → position p xs ≡ None → p y ≡ true → position p (xs ++ y ∷ []) ≡ Some (length xs)
  first_behind y h t = at_the_end _ _ _ _ (prefix_len-le-length _ xs) (past _ _ h) (length-append xs (y ∷ [])) (place_with y true t)

-- ---- a name that the list has, and one that is new

pub known_stays : (x : List ℕ) (known : Texts) → is_some (position (is_name x) known) ≡ true → with_name x known ≡ known
known_stays x known h = ap (λ o. unless_there o (known ++ x ∷ []) known) (found_there (is_name x) known h)

pub new_is_last : (x : List ℕ) (known : Texts) → position (is_name x) known ≡ None → with_name x known ≡ known ++ x ∷ []
new_is_last x known h = ap (λ o. unless_there o (known ++ x ∷ []) known) (found_nowhere (is_name x) known h)

-- ---- the map

abbrev keys_cmp : Vec ℕ → Vec ℕ → Ordering
keys_cmp a b = slice_cmp nat_cmp a.items b.items

others_kept : {K X : Type 0} (eq : K → K → Bool) (test : K → Bool) (old new : List (K × X)) → KeepsOthers eq test old new → (other : K → Bool) → IsKeyTest eq other → AreApart test other → lookup other new ≡ lookup other old
unfolding KeepsOthers
others_kept eq test old new h = h

apart : (x y k : List ℕ) → bytes_eq x y ≡ false → is_eq (slice_cmp nat_cmp x k) ≡ true → is_eq (slice_cmp nat_cmp y k) ≡ false
apart x y k n t =
    is_eq-slice_cmp y k ∙ nat_list_eq_equiv.symm y k ∙ sym (nat_list_eq_equiv.congr x k y (sym (is_eq-slice_cmp x k) ∙ t)) ∙ n

-- the number of y, when x was put after the others and into the map
indexed_by : (names : Texts) (m n : BTreeMap (Vec ℕ) ℕ) (x y : List ℕ) → IsIndex names m → position (is_name x) names ≡ None
    → UpdatesBy keys_cmp (against_key x) m n (Some (length names))
    → (bytes_eq x y ≡ true) ⊎ (bytes_eq x y ≡ false) → number_at n y ≡ position (is_name y) (names ++ x ∷ [])
indexed_by names m n x y index new h (inl t) =
    subst (λ z. number_at n z ≡ position (is_name z) (names ++ x ∷ [])) ((bytes_eq-Decides x y).0 t)
    (h.1 ∙ sym (first_behind (is_name x) names x new ((bytes_eq-Decides x x).1 refl)))
indexed_by names m n x y index new h (inr e) =
    others_kept _ _ _ _ h.3 _ (λ a b. (eq_by_cmp_equiv nat_list_cmp_total).congr y a.items b.items) (λ k. apart x y k.items e)
    ∙ index y ∙ sym (other_behind (is_name y) names x e)

-- a map that a new name was put into, with the number of names before it, has the places of the longer list
pub indexed : (names named : Texts) (m n : BTreeMap (Vec ℕ) ℕ) (x : List ℕ) (key : Vec ℕ) (number : ℕ) → IsIndex names m → position (is_name x) names ≡ None
    → key.items ≡ x → number ≡ length names → named ≡ names ++ x ∷ [] → UpdatesBy keys_cmp (against_key key.items) m n (Some number) → IsIndex named n
indexed names named m n x key number index new is_x is_last is_named h y =
    let updates : UpdatesBy keys_cmp (against_key x) m n (Some (length names)) =
    subst (λ k. UpdatesBy keys_cmp (against_key x) m n (Some k)) is_last
    (subst (λ z. UpdatesBy keys_cmp (against_key z) m n (Some number)) is_x h) in
    indexed_by names m n x y index new updates (cases_Bool (bytes_eq x y)) ∙ ap (position (is_name y)) (sym is_named)
