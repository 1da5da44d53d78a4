-- What holds of each element of a list, carried to a weaker property, and the element at a place of two lists.
use Rattle.std.proofs.Common.{ℕ, zero, suc, ◌≡◌, List, [], ◌∷◌, ◌++◌, Some, length, slice_get, refl}
use Rattle.std.specs.List.{All}
use Rattle.std.proofs.lemmas.List.Elements.{All-head, All-tail}
use Rattle.shim_laws_binding.proofs.Lists.{Each}

pub each_weaker : {T : Type 0} (P Q : T → Type 0) → ((t : T) → P t → Q t) → (ts : List T) → Each P ts → Each Q ts
each_weaker P Q f [] h = tt
each_weaker P Q f (t ∷ ts) h = (f t h.0, each_weaker P Q f ts h.1)

-- two properties that give a third one
pub each_by_two : {T : Type 0} (P Q R : T → Type 0) → ((t : T) → P t → Q t → R t) → (ts : List T) → Each P ts → Each Q ts → Each R ts
each_by_two P Q R f [] h k = tt
each_by_two P Q R f (t ∷ ts) h k = (f t h.0 k.0, each_by_two P Q R f ts h.1 k.1)

pub each_of_all : {T : Type 0} (P : T → Type 0) (ts : List T) → All P ts → Each P ts
each_of_all P [] h = tt
each_of_all P (t ∷ ts) h = (All-head P t ts h, each_of_all P ts (All-tail P t ts h))

-- after the first list stands the first element of the second
pub at_length : {T : Type 0} (us : List T) (v : T) (vs : List T) → slice_get (us ++ v ∷ vs) (length us) ≡ Some v
at_length [] v vs = refl
at_length (u ∷ us) v vs = at_length us v vs

-- what is at a place of the first list is there in both
pub at_first : {T : Type 0} (us vs : List T) (n : ℕ) (u : T) → slice_get us n ≡ Some u → slice_get (us ++ vs) n ≡ Some u
at_first [] vs n u h = absurd (cc h)
at_first (x ∷ us) vs zero u h = h
at_first (x ∷ us) vs (suc n) u h = at_first us vs n u h
