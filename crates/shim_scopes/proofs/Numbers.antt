-- A place in a list is no more than the list's length, and what stands there is what is found.
use Rattle.std.proofs.Common.{ℕ, ◌≡◌, ◌∙◌, ◌<◌, ◌≤◌, List, Option, Some, None, Bool, true, false, cond, length, get_or, position, refl, sym, ap, arith}
use Rattle.std.specs.Prelude.{nat_lt, slice_get}
use Rattle.std.specs.List.{find, position_or_len}
use Rattle.std.specs.Str.{bytes_eq}
use Rattle.std.proofs.lemmas.List.Folds.{find_at}
use Rattle.std.proofs.lemmas.List.Sums.{prefix_len-le-length}
use Rattle.std.proofs.lemmas.Option.{slice_get_past, slice_get-get_or}
use borrow.Author.Tests.{ltb-true, ltb-false}
use Rattle.shim_syntax.specs.declared.tree.Function.{Function}
use Rattle.shim_syntax.specs.Names.{position_else}
use Rattle.shim_scopes.specs.Calls.{function_of}

place_by : (b : Bool) (at n : ℕ) → at ≤ n → position_else n (cond b (Some at) None) ≤ n
place_by true at n h = h
place_by false at n h = omega arith

place_within : {X : Type 0} (p : X → Bool) (xs : List X) → position_else (length xs) (position p xs) ≤ length xs
place_within p xs = place_by (nat_lt (position_or_len p xs) (length xs)) (position_or_len p xs) (length xs) (prefix_len-le-length _ xs)

pub found_within : {X : Type 0} (p : X → Bool) (xs : List X) (i : ℕ) → position p xs ≡ Some i → i ≤ length xs
found_within p xs i e = omega (arith, place_within p xs, ap (position_else (length xs)) e)

-- what stands at the place is found, and nothing is where there is no place

found_by : (b : Bool) (at i n : ℕ) → nat_lt at n ≡ b → cond b (Some at) None ≡ Some i → (at ≡ i) × (i < n)
found_by true at i n lt e = let same : at ≡ i = cc in (same, omega (arith, ltb-true at n lt))
found_by false at i n lt e = absurd (cc)

abbrev nowhere : Option ℕ
nowhere = None

none_by : {X : Type 0} (b : Bool) (at : ℕ) (xs : List X) → nat_lt at (length xs) ≡ b → cond b (Some at) None ≡ nowhere → slice_get xs at ≡ None
none_by true at xs lt e = absurd (cc)
none_by false at xs lt e = slice_get_past xs at (omega (arith, ltb-false at (length xs) lt))

pub found_at : {X : Type 0} (p : X → Bool) (xs : List X) (i : ℕ) → position p xs ≡ Some i → (i < length xs) × (find p xs ≡ slice_get xs i)
found_at p xs i e =
    let r = found_by (nat_lt (position_or_len p xs) (length xs)) (position_or_len p xs) i (length xs) refl e in
    (r.1, find_at p xs ∙ ap (slice_get xs) r.0)

pub none_found : {X : Type 0} (p : X → Bool) (xs : List X) → position p xs ≡ None → find p xs ≡ None
none_found p xs e = find_at p xs ∙ none_by (nat_lt (position_or_len p xs) (length xs)) (position_or_len p xs) xs refl e

-- the callee of a call is the function at that place
pub callee_at : (fs : List Function) (x : List ℕ) (at : ℕ) (f : Function) → position (λ (f : Function). bytes_eq f.name x) fs ≡ Some at → f ≡ get_or fs at f → function_of fs x ≡ Some f
callee_at fs x at f e is =
    let r = found_at (λ (f : Function). bytes_eq f.name x) fs at e in
    r.1 ∙ slice_get-get_or fs at f r.0 ∙ ap Some (sym is)
