-- Locations of which some were given by reference.
use Rattle.std.proofs.Common.{◌≡◌, ◌<◌, ℕ, zero, suc, ◌+◌, length, drop, get_or, drop-cons, arith, nat_eq, Bool, true, false, ◌||◌, List, [], ◌∷◌, ◌++◌, Option, None, Some, refl, sym, ap, ◌∙◌, append_assoc, if◌then◌else◌}
use lib.Dec.{eqb-zero-suc, eqb-suc-zero, eqb-suc-suc}
use Rattle.shim_base.specs.declared.types.Ty.{Ty}
use Rattle.shim_base.specs.Paths.{Path}
use Rattle.shim_process.specs.Locations.{Ownership, Own, Lent, Copy, Location, Locations, at_number, lend_at, kept, moved, with_kept, with_moved}
use Rattle.shim_process.specs.Arguments.{Argument as ArgumentOf, ByReference, ByCopy, copied_location, branch_locations}
use Rattle.shim_scopes.specs.declared.tree.UParam.{UParam}
use Rattle.shim_syntax.specs.declared.tree.Sort.TheVariants as sort
use Rattle.shim_units.specs.declared.unit.Arg.{Arg}
use Rattle.shim_units.specs.declared.unit.Arg.TheVariants.{Ref, Pass, Fresh}
use Rattle.shim_locations.proofs.Given.{nil_of}
use Rattle.shim_process.specs.Forks.{lent}
use Rattle.shim_locations.specs.Lendings.{is_lent_out, lent_at}

kept_again : (m : Ownership) → kept (kept m) ≡ kept m
kept_again Own = refl
kept_again Lent = refl
kept_again Copy = refl

moved_again : (m : Ownership) → moved (kept m) ≡ Copy
moved_again Own = refl
moved_again Lent = refl
moved_again Copy = refl

none_twice : (b : Bool) → None ≡ (if b then with_kept None else None)
none_twice true = refl
none_twice false = refl

at_lend : (x : Locations) (m n : ℕ) → at_number (lend_at x m) n ≡ (if nat_eq m n then with_kept (at_number x n) else at_number x n)
unfolding at_number lend_at
at_lend [] m n = none_twice (nat_eq m n)
at_lend (o ∷ x) zero zero = refl
at_lend (o ∷ x) zero (suc n) = ap (λ b. if b then with_kept (at_number (o ∷ x) (suc n)) else at_number (o ∷ x) (suc n)) (sym (eqb-zero-suc n))
at_lend (o ∷ x) (suc m) zero = ap (λ b. if b then with_kept o else o) (sym (eqb-suc-zero m))
at_lend (o ∷ x) (suc m) (suc n) = at_lend x m n ∙ ap (λ b. if b then with_kept (at_number x n) else at_number x n) (sym (eqb-suc-suc m n))

once : (b c : Bool) (o : Option Location) → (if c then with_kept (if b then with_kept o else o) else (if b then with_kept o else o)) ≡ (if b || c then with_kept o else o)
once true true None = refl
once true true (Some l) = ap (λ m. Some (record l { ownership = m })) (kept_again l.ownership)
once true false o = refl
once false true o = refl
once false false o = refl

-- what is kept at a number
pub at_lent : (taken : List ℕ) (x : Locations) (n : ℕ) → at_number (lent_at taken x) n ≡ (if is_lent_out n taken then with_kept (at_number x n) else at_number x n)
at_lent [] x n = refl
at_lent (m ∷ ms) x n = at_lent ms (lend_at x m) n ∙ ap (λ o. if is_lent_out n ms then with_kept o else o) (at_lend x m n) ∙ once (nat_eq m n) (is_lent_out n ms) (at_number x n)

pub lent_more : (taken : List ℕ) (n : ℕ) (x : Locations) → lent_at (taken ++ n ∷ []) x ≡ lend_at (lent_at taken x) n
lent_more [] n x = refl
lent_more (m ∷ ms) n x = lent_more ms n (lend_at x m)

-- what is given in two turns
pub lent_join : (taken more : List ℕ) (x : Locations) → lent_at (taken ++ more) x ≡ lent_at more (lent_at taken x)
lent_join [] more x = refl
lent_join (n ∷ ns) more x = lent_join ns more (lend_at x n)

moved_none : (b : Bool) → with_moved (if b then with_kept None else None) ≡ None
moved_none true = refl
moved_none false = refl

moved_some : (b : Bool) (l : Location) → with_moved (if b then with_kept (Some l) else Some l) ≡ Some (record l { ownership = if b then Copy else moved l.ownership })
moved_some true l = ap (λ m. Some (record l { ownership = m })) (moved_again l.ownership)
moved_some false l = refl

-- a branch gets none where there is none
pub none_moved : (taken : List ℕ) (x : Locations) (n : ℕ) → None ≡ at_number x n → None ≡ with_moved (at_number (lent_at taken x) n)
none_moved taken x n e = sym (ap with_moved (at_lent taken x n) ∙ ap (λ o. with_moved (if is_lent_out n taken then with_kept o else o)) (sym e) ∙ moved_none (is_lent_out n taken))

-- and else a copy of what was given before, or the location with its ownership
pub some_moved : (taken : List ℕ) (x : Locations) (n : ℕ) (l : Location) (m : Ownership) → Some l ≡ at_number x n → m ≡ (if is_lent_out n taken then Copy else moved l.ownership) → Some (record l { ownership = m }) ≡ with_moved (at_number (lent_at taken x) n)
some_moved taken x n l m e em =
    ap (λ k. Some (record l { ownership = k })) em
    ∙ sym (ap with_moved (at_lent taken x n) ∙ ap (λ o. with_moved (if is_lent_out n taken then with_kept o else o)) (sym e) ∙ moved_some (is_lent_out n taken) l)

copied_kept : (t : Ty) (b : Bool) (o : Option Location) → copied_location t (if b then with_kept o else o) ≡ copied_location t o
copied_kept t true None = refl
copied_kept t true (Some l) = refl
copied_kept t false o = refl

-- a copy doesn't see what was given before
pub copied_lent : (t : Ty) (taken : List ℕ) (x : Locations) (n : ℕ) → copied_location t (at_number (lent_at taken x) n) ≡ copied_location t (at_number x n)
copied_lent t taken x n = ap (copied_location t) (at_lent taken x n) ∙ copied_kept t (is_lent_out n taken) (at_number x n)

-- the next argument of a branch is by reference, or by copy
pub one_by_reference : (home : Path) (locations passed more : Locations) (taken after : List ℕ) (made n : ℕ) (location : Option Location) → location ≡ with_moved (at_number (lent_at taken locations) n) → more ≡ passed ++ location ∷ [] → after ≡ taken ++ n ∷ []
    → (rest : List ArgumentOf) → more ++ branch_locations home (lent_at after locations) made rest ≡ passed ++ branch_locations home (lent_at taken locations) made (ByReference n ∷ rest)
one_by_reference home locations passed more taken after made n location e em ea rest =
    ap (λ m. m ++ branch_locations home (lent_at after locations) made rest) em
    ∙ ap (λ a. (passed ++ location ∷ []) ++ branch_locations home (lent_at a locations) made rest) ea
    ∙ ap (λ x. (passed ++ location ∷ []) ++ branch_locations home x made rest) (lent_more taken n locations)
    ∙ append_assoc passed (location ∷ []) (branch_locations home (lend_at (lent_at taken locations) n) made rest)
    ∙ ap (λ k. passed ++ (k ∷ branch_locations home (lend_at (lent_at taken locations) n) made rest)) e

pub one_by_copy : (home : Path) (locations passed more : Locations) (taken : List ℕ) (made n : ℕ) (t : Ty) (location : Option Location) → location ≡ copied_location t (at_number locations n) → more ≡ passed ++ location ∷ []
    → (rest : List ArgumentOf) → more ++ branch_locations home (lent_at taken locations) made rest ≡ passed ++ branch_locations home (lent_at taken locations) made (ByCopy t n ∷ rest)
one_by_copy home locations passed more taken made n t location e em rest =
    ap (λ m. m ++ branch_locations home (lent_at taken locations) made rest) em
    ∙ append_assoc passed (location ∷ []) (branch_locations home (lent_at taken locations) made rest)
    ∙ ap (λ k. passed ++ (k ∷ branch_locations home (lent_at taken locations) made rest)) (e ∙ sym (copied_lent t taken locations n))

-- no argument gives nothing, whatever the parameters
none_lent : (slots : List ℕ) (params : List UParam) (x : Locations) → lent slots params [] x ≡ x
none_lent slots [] x = refl
none_lent slots (p ∷ params) x = refl

pub all_lent : (slots : List ℕ) (params : List UParam) (rest : List Arg) (x whole : Locations) → length rest ≡ 0 → lent slots params rest x ≡ whole → x ≡ whole
all_lent slots params rest x whole e so_far = sym (none_lent slots params x) ∙ sym (ap (λ r. lent slots params r x) (nil_of rest e)) ∙ so_far

lent_after : (slots : List ℕ) (p : UParam) (params : List UParam) (a : Arg) (rest : List Arg) (x : Locations) → lent slots params rest (lent slots (p ∷ []) (a ∷ []) x) ≡ lent slots (p ∷ params) (a ∷ rest) x
lent_after slots p params (Ref v) rest x = refl
lent_after slots p params (Pass v) rest x = refl
lent_after slots p params (Fresh e) rest x = refl

no_param : UParam
no_param = record { sort = sort.Input; by_ref = true; name = 0 }

-- the next argument goes with the next parameter
pub one_lent : (slots : List ℕ) (all : List UParam) (i : ℕ) (a : Arg) (after rest : List Arg) (x y whole : Locations) → i < length all → rest ≡ a ∷ after
    → ((p : UParam) → y ≡ lent slots (p ∷ []) (a ∷ []) x) → lent slots (drop i all) rest x ≡ whole → lent slots (drop (i + 1) all) after y ≡ whole
one_lent slots all i a after rest x y whole lt er ey so_far =
    let p = get_or all i no_param in
    ap (λ n. lent slots (drop n all) after y) (let z : i + 1 ≡ suc i = omega arith in z)
    ∙ ap (lent slots (drop (suc i) all) after) (ey p)
    ∙ lent_after slots p (drop (suc i) all) a after x
    ∙ sym (ap (λ ps. lent slots ps (a ∷ after) x) (drop-cons all i no_param lt))
    ∙ sym (ap (λ r. lent slots (drop i all) r x) er)
    ∙ so_far
