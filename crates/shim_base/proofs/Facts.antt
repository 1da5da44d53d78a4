-- Facts of tests, of what may be there and of lists that every crate above uses.
use Rattle.std.proofs.Common.{◌≡◌, Bool, true, false, List, [], ◌∷◌, length, Option, Some, None, ◌&&◌, ◌||◌, not, cond, ◌⊎◌, inl, inr, refl, arith, Result, Ok, Err, OnErr}

pub some_same : {A : Type 0} (x y : A) → Some x ≡ Some y → x ≡ y
some_same x y e = cc

pub none_some : {A : Type 0} {B : Type 0} (x : A) → None ≡ Some x → B
none_some x e = absurd cc

pub first_holds : (a b : Bool) → a && b ≡ true → a ≡ true
first_holds true b e = refl
first_holds false b e = absurd cc

pub second_holds : (a b : Bool) → a && b ≡ true → b ≡ true
second_holds true b e = e
second_holds false b e = absurd cc

pub both_hold : (a b : Bool) → a ≡ true → b ≡ true → a && b ≡ true
both_hold true b e f = f
both_hold false b e f = absurd cc

pub either_holds : (a b : Bool) → a || b ≡ true → (a ≡ true) ⊎ (b ≡ true)
either_holds true b e = inl refl
either_holds false b e = inr e

-- where it comes to something, the test holds
pub chosen : {A : Type 0} (b : Bool) (x : Option A) (y : A) → cond b x None ≡ Some y → (b ≡ true) × (x ≡ Some y)
chosen true x y e = (refl, e)
chosen false x y e = none_some y e

pub cond_some : {A : Type 0} (b : Bool) (x y : A) → cond b (Some x) None ≡ Some y → (b ≡ true) × (x ≡ y)
cond_some true x y e = (refl, some_same x y e)
cond_some false x y e = none_some y e

-- what is not None comes of the test's being true
pub cond_there : {A : Type 0} (b : Bool) (x : Option A) → (cond b x None ≡ None → ⊥) → (b ≡ true) × (cond b x None ≡ x)
cond_there true x h = (refl, refl)
cond_there false x h = absurd (h refl)

pub true_or_false : (b : Bool) → (b ≡ true) ⊎ (b ≡ false)
true_or_false true = inl refl
true_or_false false = inr refl

pub or_left : (a b : Bool) → a ≡ true → a || b ≡ true
or_left true b e = refl
or_left false b e = absurd cc

pub or_right : (a b : Bool) → b ≡ true → a || b ≡ true
or_right true b e = refl
or_right false b e = e

pub or_of_false : (a b : Bool) → b ≡ false → (a || b) ≡ a
or_of_false true b h = refl
or_of_false false b h = h

pub not_false : (b : Bool) → not b ≡ true → b ≡ false
not_false true e = absurd cc
not_false false e = refl

pub false_not : (b : Bool) → b ≡ false → not b ≡ true
false_not true e = absurd cc
false_not false e = refl

pub or_false : (a b : Bool) → a ≡ false → b ≡ false → a || b ≡ false
or_false true b e f = absurd cc
or_false false b e f = f

pub and_false : (a b : Bool) → b ≡ false → a && b ≡ false
and_false true b e = e
and_false false b e = refl

-- what follows from a test that holds
pub left_or : (a b : Bool) → a ≡ true → not a || b ≡ true → b ≡ true
left_or true b e f = f
left_or false b e f = absurd cc

pub cond_none : {A : Type 0} (b : Bool) (x : A) → b ≡ false → cond b (Some x) None ≡ None
cond_none true x e = absurd cc
cond_none false x e = refl

-- what holds of both sides holds of the one that a test takes
pub choose : {A : Type 0} (P : A → Type 0) (t : Bool) (x y : A) → P x → P y → P (cond t x y)
choose P true x y p q = p
choose P false x y p q = q

pub no_items : {A : Type 0} (xs : List A) → length xs ≡ 0 → xs ≡ []
no_items [] e = refl
no_items (x ∷ xs) e = absurd (omega (arith, e))

pub false_unless : (b : Bool) → (b ≡ true → ⊥) → b ≡ false
false_unless true f = absurd (f refl)
false_unless false f = refl

-- what holds in any case holds at a fault
pub at_fault : {T E : Type 0} (r : Result T E) (P : Type 0) → P → OnErr r P
at_fault (Ok x) P p = tt
at_fault (Err e) P p = p
