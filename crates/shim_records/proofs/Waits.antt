-- A number more, or less, in a list that has each at most once.
use Rattle.std.proofs.Common.{◌≡◌, ◌⊎◌, inl, inr, ℕ, zero, suc, ◌<◌, ◌≤◌, Bool, true, false, Some, List, [], ◌∷◌, ◌++◌, ◌+◌, length, slice_set, refl, sym, ap, ◌∙◌, arith}
use Rattle.std.specs.Prelude.{slice_get, replicate}
use Rattle.std.specs.Global.{Vec}
use Rattle.std.specs.Vec.{vec_capacity}
use Rattle.std.proofs.lemmas.Option.{slice_get_within}
use Rattle.std.proofs.lemmas.List.{length-set, append_assoc, length-append}
use Rattle.std.proofs.lemmas.Bool.{true≢false}
use Rattle.shim_base.proofs.Facts.{some_same, none_some}
use Rattle.shim_records.specs.Waiting.{set_flags, KeepsRoom, AreGrown}
use Rattle.shim_laws_table.proofs.SameTrees.{same_or_not}
use Rattle.shim_records.proofs.Stepping.{set_there, set_elsewhere}

in_front : {A : Type 0} (xs ys : List A) (i : ℕ) (x : A) → slice_get xs i ≡ Some x → slice_get (xs ++ ys) i ≡ Some x
in_front [] ys i x e = none_some x e
in_front (z ∷ xs) ys zero x e = e
in_front (z ∷ xs) ys (suc i) x e = in_front xs ys i x e

at_end : {A : Type 0} (xs : List A) (x : A) → slice_get (xs ++ x ∷ []) (length xs) ≡ Some x
at_end [] x = refl
at_end (z ∷ xs) x = at_end xs x

either : {A : Type 0} (xs : List A) (x y : A) (i : ℕ) → slice_get (xs ++ x ∷ []) i ≡ Some y → (slice_get xs i ≡ Some y) ⊎ ((i ≡ length xs) × (y ≡ x))
either [] x y zero e = inr (refl, sym (some_same x y e))
either [] x y (suc i) e = none_some y e
either (z ∷ xs) x y zero e = inl e
either (z ∷ xs) x y (suc i) e = elim (either xs x y i e) [ inl w ↦ inl w | inr w ↦ inr (ap suc w.0, w.1) ]

one_longer : {A : Type 0} (xs : List A) (x : A) → length (xs ++ x ∷ []) ≡ suc (length xs)
one_longer [] x = refl
one_longer (z ∷ xs) x = ap suc (one_longer xs x)

flags_most : (bs : List Bool) → set_flags bs ≤ length bs
flags_most [] = omega arith
flags_most (true ∷ bs) = let w = flags_most bs in omega (arith, w)
flags_most (false ∷ bs) = let w = flags_most bs in omega (arith, w)

flags_less : (bs : List Bool) (n : ℕ) → slice_get bs n ≡ Some false → set_flags bs < length bs
flags_less [] n e = none_some false e
flags_less (true ∷ bs) zero e = absurd (true≢false (some_same true false e))
flags_less (false ∷ bs) zero e = let w = flags_most bs in omega (arith, w)
flags_less (true ∷ bs) (suc n) e = let w = flags_less bs n e in omega (arith, w)
flags_less (false ∷ bs) (suc n) e = let w = flags_less bs n e in omega (arith, w)

flags_set : (bs : List Bool) (n : ℕ) → slice_get bs n ≡ Some false → set_flags (slice_set bs n true) ≡ suc (set_flags bs)
flags_set [] n e = none_some false e
flags_set (true ∷ bs) zero e = absurd (true≢false (some_same true false e))
flags_set (false ∷ bs) zero e = refl
flags_set (true ∷ bs) (suc n) e = ap suc (flags_set bs n e)
flags_set (false ∷ bs) (suc n) e = flags_set bs n e

flags_cleared : (bs : List Bool) (n : ℕ) → slice_get bs n ≡ Some true → suc (set_flags (slice_set bs n false)) ≡ set_flags bs
flags_cleared [] n e = none_some true e
flags_cleared (true ∷ bs) zero e = refl
flags_cleared (false ∷ bs) zero e = absurd (true≢false (some_same true false (sym e)))
flags_cleared (true ∷ bs) (suc n) e = ap suc (flags_cleared bs n e)
flags_cleared (false ∷ bs) (suc n) e = flags_cleared bs n e

not_both : {B : Type 0} (bs : List Bool) (n : ℕ) → slice_get bs n ≡ Some false → slice_get bs n ≡ Some true → B
not_both bs n e f = absurd (true≢false (some_same true false (sym f ∙ e)))

pub has_room : (old : Vec ℕ) (bs : List Bool) (n : ℕ) → KeepsRoom old bs → slice_get bs n ≡ Some false → length old.items < vec_capacity old
has_room old bs n k e = let a = k.as_many in let b = k.room in let w = flags_less bs n e in omega (arith, a, b, w)

-- a number comes after the others
pub added : (old new : Vec ℕ) (bs : List Bool) (n : ℕ) → KeepsRoom old bs → slice_get bs n ≡ Some false → new.items ≡ old.items ++ n ∷ [] → vec_capacity new ≡ vec_capacity old → KeepsRoom new (slice_set bs n true)
added old new bs n k e items cap = record {
  listed_in = λ m h. elim (same_or_not m n) [
    | inl w ↦ (length old.items, ap (λ z. slice_get z (length old.items)) items ∙ (at_end old.items n ∙ ap Some (sym w)))
    | inr w ↦ let x = k.listed_in m (sym (set_elsewhere bs n m true w) ∙ h) in (x.0, ap (λ z. slice_get z x.0) items ∙ in_front old.items (n ∷ []) x.0 m x.1)
  ];
  only = λ m h. elim (same_or_not m n) [
    | inl w ↦ ap (slice_get (slice_set bs n true)) w ∙ set_there bs n false true e
    | inr w ↦ elim (either old.items n m h.0 (sym (ap (λ z. slice_get z h.0) items) ∙ h.1)) [
      | inl x ↦ set_elsewhere bs n m true w ∙ k.only m (h.0, x)
      | inr x ↦ absurd (w x.1)
    ]
  ];
  once = λ i j m x y. elim (either old.items n m i (sym (ap (λ z. slice_get z i) items) ∙ x)) [
    | inl u ↦ elim (either old.items n m j (sym (ap (λ z. slice_get z j) items) ∙ y)) [
      | inl v ↦ k.once i j m u v
      | inr v ↦ not_both bs n e (ap (slice_get bs) (sym v.1) ∙ k.only m (i, u))
    ]
    | inr u ↦ elim (either old.items n m j (sym (ap (λ z. slice_get z j) items) ∙ y)) [
      | inl v ↦ not_both bs n e (ap (slice_get bs) (sym u.1) ∙ k.only m (j, v))
      | inr v ↦ u.0 ∙ sym v.0
    ]
  ];
  as_many = ap length items ∙ (one_longer old.items n ∙ (ap suc k.as_many ∙ sym (flags_set bs n e)));
  room = let a = length-set bs n true in let b = k.room in omega (arith, a, b, cap);
}

-- the last number is taken out
pub taken : (old new : Vec ℕ) (bs : List Bool) (n : ℕ) → KeepsRoom old bs → old.items ≡ new.items ++ n ∷ [] → vec_capacity new ≡ vec_capacity old → (slice_get bs n ≡ Some true) × KeepsRoom new (slice_set bs n false)
taken old new bs n k items cap = (
  is_set,
  record {
    listed_in = λ m h. elim (same_or_not m n) [
      | inl w ↦ absurd (true≢false (some_same true false (sym h ∙ (ap (slice_get (slice_set bs n false)) w ∙ set_there bs n true false is_set))))
      | inr w ↦ let x = k.listed_in m (sym (set_elsewhere bs n m false w) ∙ h) in
          elim (either new.items n m x.0 (sym (ap (λ z. slice_get z x.0) items) ∙ x.1)) [
            | inl y ↦ (x.0, y)
            | inr y ↦ absurd (w y.1)
          ]
    ];
    only = λ m h. elim (same_or_not m n) [
      | inl w ↦ absurd (past h.0 (slice_get_within new.items h.0 m h.1)
          (k.once h.0 (length new.items) n (ap (λ z. slice_get z h.0) items ∙ in_front new.items (n ∷ []) h.0 n (h.1 ∙ ap Some w)) last))
      | inr w ↦ set_elsewhere bs n m false w ∙ k.only m (h.0, ap (λ z. slice_get z h.0) items ∙ in_front new.items (n ∷ []) h.0 m h.1)
    ];
    once = λ i j m x y. k.once i j m (ap (λ z. slice_get z i) items ∙ in_front new.items (n ∷ []) i m x) (ap (λ z. slice_get z j) items ∙ in_front new.items (n ∷ []) j m y);
    as_many = let a = k.as_many in let b = ap length items in let c = one_longer new.items n in let d = flags_cleared bs n is_set in omega (arith, a, b, c, d);
    room = let a = length-set bs n false in let b = k.room in omega (arith, a, b, cap);
  },
)
  where
    last : slice_get old.items (length new.items) ≡ Some n
    last = ap (λ z. slice_get z (length new.items)) items ∙ at_end new.items n

    is_set : slice_get bs n ≡ Some true
    is_set = k.only n (length new.items, ap (λ z. slice_get z (length new.items)) items ∙ at_end new.items n)

    past : (i : ℕ) → i < length new.items → i ≡ length new.items → ⊥
    past i h e = omega (arith, h, e)

-- one number more may be listed
more_flags : (bs : List Bool) → set_flags (bs ++ false ∷ []) ≡ set_flags bs
more_flags [] = refl
more_flags (true ∷ bs) = ap suc (more_flags bs)
more_flags (false ∷ bs) = more_flags bs

flag_within : (bs : List Bool) (n : ℕ) → slice_get (bs ++ false ∷ []) n ≡ Some true → slice_get bs n ≡ Some true
flag_within [] zero e = absurd (true≢false (sym (some_same false true e)))
flag_within [] (suc n) e = e
flag_within (b ∷ bs) zero e = e
flag_within (b ∷ bs) (suc n) e = flag_within bs n e

one_more_flag : (bs : List Bool) → length (bs ++ false ∷ []) ≡ suc (length bs)
one_more_flag [] = refl
one_more_flag (b ∷ bs) = ap suc (one_more_flag bs)

pub raised : (old new : Vec ℕ) (bs : List Bool) → KeepsRoom old bs → new.items ≡ old.items → suc (length bs) ≤ vec_capacity new → KeepsRoom new (bs ++ false ∷ [])
raised old new bs k items room = record {
  listed_in = λ n h. let w = k.listed_in n (flag_within bs n h) in (w.0, ap (λ z. slice_get z w.0) items ∙ w.1);
  only = λ n h. in_front bs (false ∷ []) n true (k.only n (h.0, ap (λ z. slice_get z h.0) (sym items) ∙ h.1));
  once = λ i j n x y. k.once i j n (ap (λ z. slice_get z i) (sym items) ∙ x) (ap (λ z. slice_get z j) (sym items) ∙ y);
  as_many = ap length items ∙ (k.as_many ∙ sym (more_flags bs));
  room = let a = one_more_flag bs in omega (arith, a, room);
}

-- one flag more after so many more
pub raised_again : (old now next : List Bool) → AreGrown old now → next ≡ now ++ false ∷ [] → AreGrown old next
raised_again old now next so e = (suc so.0, e ∙ (ap (λ z. z ++ false ∷ []) so.1 ∙ (append_assoc old (replicate so.0 false) (false ∷ []) ∙ ap (λ z. old ++ z) (at_end so.0))))
  where
    at_end : (k : ℕ) → replicate k false ++ false ∷ [] ≡ false ∷ replicate k false
    at_end zero = refl
    at_end (suc k) = ap (λ z. false ∷ z) (at_end k)

-- there are at least as many then
pub still_longer : (now next : List Bool) (n : ℕ) → next ≡ now ++ false ∷ [] → n ≤ length now → n + 1 ≤ length next
still_longer now next n e h = let w = ap length e ∙ length-append now (false ∷ []) in omega (arith, w, h)

-- and no more
pub still_within : (now next : List Bool) (n : ℕ) → next ≡ now ++ false ∷ [] → length now ≤ n → length next ≤ n + 1
still_within now next n e h = let w = ap length e ∙ length-append now (false ∷ []) in omega (arith, w, h)

-- where there was none, there is one flag, which isn't set
pub first_flag : (old new : List Bool) → old ≡ [] → AreGrown old new → 1 ≤ length new → length new ≤ 1 → new ≡ false ∷ []
first_flag old new none so low high = on so.0 (so.1 ∙ ap (λ z. z ++ replicate so.0 false) none)
  where
    on : (k : ℕ) → new ≡ replicate k false → new ≡ false ∷ []
    on zero e = absurd (let w = ap length e in omega (arith, w, low))
    on (suc zero) e = e
    on (suc (suc k)) e = absurd (let w = ap length e in omega (arith, w, high))
