-- The locations with which a child begins are on the channels of its parent's.
use Rattle.std.proofs.Common.{◌≡◌, ◌∙◌, ℕ, zero, suc, ◌+◌, ◌<◌, ◌≤◌, List, [], ◌∷◌, ◌++◌, length, Option, Some, None, Ok, refl, sym, ap, subst, arith}
use Rattle.shim_base.specs.declared.types.Ty.{Ty}
use Rattle.shim_base.specs.Paths.{Path}
use Rattle.shim_syntax.specs.declared.tree.Sort.{Sort}
use Rattle.shim_scopes.specs.declared.tree.UParam.{UParam}
use Rattle.shim_units.specs.declared.unit.Arg.{Arg}
use Rattle.shim_units.specs.declared.unit.Arg.TheVariants.{Ref, Pass, Fresh}
use Rattle.shim_process.specs.Values.{value}
use Rattle.shim_process.specs.Locations.{Location, Locations, at_number, channel_in, channel_at, with_moved, lend_at}
use Rattle.shim_process.specs.LocalState.{number_of, env_of, type_of}
use Rattle.shim_process.specs.Arguments.{Argument, ByReference, ByCopy, ByValue, on_value, arguments, copied_location, new_location, branch_locations, empties}
use Rattle.shim_process.specs.Born.{OnChannels}
use Rattle.shim_process.proofs.ForkLending.{from_value, ok_same}
use Rattle.shim_process.proofs.PlaceChannels.{moved_channel, lend_channel}

-- the arguments go with what is written
abbrev pub Matches : List ℕ → List Arg → List Argument → Type 0
Matches slots [] [] = Unit {0}
Matches slots (Ref x ∷ rest) (ByReference n ∷ given) = (number_of slots x ≡ n) × Matches slots rest given
Matches slots (Pass x ∷ rest) (ByCopy t n ∷ given) = (number_of slots x ≡ n) × Matches slots rest given
Matches slots (Fresh v ∷ rest) (ByValue t name w ∷ given) = Matches slots rest given
Matches _ _ _ = ⊥

pub they_match : (at : Locations) (slots : List ℕ) (ps : List UParam) (args : List Arg) (given : List Argument) → arguments at slots ps args ≡ Ok given → length args ≡ length ps → Matches slots args given
they_match at slots [] [] given e many = subst (Matches slots []) (ok_same [] given e) tt
they_match at slots [] (a ∷ rest) given e many = absurd (omega (arith, many))
they_match at slots (p ∷ ps) [] given e many = absurd (omega (arith, many))
they_match at slots (p ∷ ps) (Ref x ∷ rest) given e many =
    let w = from_value (λ others. Ok (ByReference (number_of slots x) ∷ others)) (arguments at slots ps rest) given e in
    subst (Matches slots (Ref x ∷ rest)) (ok_same (ByReference (number_of slots x) ∷ w.0) given w.2) (refl, they_match at slots ps rest w.0 w.1 (omega (arith, many)))
they_match at slots (p ∷ ps) (Pass x ∷ rest) given e many =
    let w = from_value (λ others. Ok (ByCopy (type_of p.sort) (number_of slots x) ∷ others)) (arguments at slots ps rest) given e in
    subst (Matches slots (Pass x ∷ rest)) (ok_same (ByCopy (type_of p.sort) (number_of slots x) ∷ w.0) given w.2) (refl, they_match at slots ps rest w.0 w.1 (omega (arith, many)))
they_match at slots (p ∷ ps) (Fresh v ∷ rest) given e many =
    let w = from_value (λ one. on_value (λ others. Ok (one ∷ others)) (arguments at slots ps rest)) (on_value (λ n. Ok (ByValue (type_of p.sort) p.name n)) (value v (env_of at slots))) given e in
    let u = from_value (λ n. Ok (ByValue (type_of p.sort) p.name n)) (value v (env_of at slots)) w.0 w.1 in
    let o = from_value (λ others. Ok (w.0 ∷ others)) (arguments at slots ps rest) given w.2 in
    let one : ByValue (type_of p.sort) p.name u.0 ≡ w.0 = ok_same (ByValue (type_of p.sort) p.name u.0) w.0 u.2 in
    subst (Matches slots (Fresh v ∷ rest)) (ok_same (w.0 ∷ o.0) given o.2)
    (subst (λ (a : Argument). Matches slots (Fresh v ∷ rest) (a ∷ o.0)) one (they_match at slots ps rest o.0 o.1 (omega (arith, many))))

-- the locations of the second list are among those of the first one, from this number on
abbrev pub StandFrom : Locations → ℕ → Locations → Type 0
StandFrom ys j zs = (i : ℕ) → i < length zs → at_number ys (j + i) ≡ at_number zs i

pub stand_next : (ys : Locations) (j : ℕ) (o : Option Location) (zs : Locations) → StandFrom ys j (o ∷ zs) → StandFrom ys (j + 1) zs
unfolding at_number
stand_next ys j o zs h i below = ap (at_number ys) (let e : (j + 1) + i ≡ j + suc i = omega arith in e) ∙ h (suc i) (omega (arith, below))

pub stand_first : (ys : Locations) (j : ℕ) (o : Option Location) (zs : Locations) → StandFrom ys j (o ∷ zs) → at_number ys j ≡ o
unfolding at_number
stand_first ys j o zs h = ap (at_number ys) (let e : j ≡ j + 0 = omega arith in e) ∙ h 0 (omega arith)

copied_channel : (t : Ty) (o : Option Location) → channel_in (copied_location t o) ≡ channel_in o
copied_channel t None = refl
copied_channel t (Some l) = refl

-- those that a branch's arguments make are, where the parent's stay on their channels
pub branch_on : (slots : List ℕ) (args : List Arg) (given : List Argument) (child : Path) (xs ys zs : Locations) (s j : ℕ) → Matches slots args given → StandFrom ys j (branch_locations child xs s given)
    → ((n : ℕ) → channel_at xs n ≡ channel_at zs n) → OnChannels slots j args ys zs
branch_on slots [] [] child xs ys zs s j match stand same = tt
branch_on slots [] (g ∷ given) child xs ys zs s j match stand same = absurd match
branch_on slots (Ref v ∷ rest) [] child xs ys zs s j match stand same = absurd match
branch_on slots (Pass v ∷ rest) [] child xs ys zs s j match stand same = absurd match
branch_on slots (Fresh v ∷ rest) [] child xs ys zs s j match stand same = absurd match
branch_on slots (Ref v ∷ rest) (ByReference i ∷ given) child xs ys zs s j match stand same =
    let tail : Locations = branch_locations child (lend_at xs i) s given in (
      ap channel_in (stand_first ys j (with_moved (at_number xs i)) tail stand) ∙ (moved_channel (at_number xs i) ∙ (same i ∙ ap (channel_at zs) (sym match.0))),
      branch_on slots rest given child (lend_at xs i) ys zs s (j + 1) match.1 (stand_next ys j (with_moved (at_number xs i)) tail stand) (λ n. lend_channel xs i n ∙ same n),
    )
branch_on slots (Ref v ∷ rest) (ByCopy t i ∷ given) child xs ys zs s j match stand same = absurd match
branch_on slots (Ref v ∷ rest) (ByValue t name w ∷ given) child xs ys zs s j match stand same = absurd match
branch_on slots (Pass v ∷ rest) (ByReference i ∷ given) child xs ys zs s j match stand same = absurd match
branch_on slots (Pass v ∷ rest) (ByCopy t i ∷ given) child xs ys zs s j match stand same =
    let tail : Locations = branch_locations child xs s given in (
      ap channel_in (stand_first ys j (copied_location t (at_number xs i)) tail stand) ∙ (copied_channel t (at_number xs i) ∙ (same i ∙ ap (channel_at zs) (sym match.0))),
      branch_on slots rest given child xs ys zs s (j + 1) match.1 (stand_next ys j (copied_location t (at_number xs i)) tail stand) same,
    )
branch_on slots (Pass v ∷ rest) (ByValue t name w ∷ given) child xs ys zs s j match stand same = absurd match
branch_on slots (Fresh v ∷ rest) (ByReference i ∷ given) child xs ys zs s j match stand same = absurd match
branch_on slots (Fresh v ∷ rest) (ByCopy t i ∷ given) child xs ys zs s j match stand same = absurd match
branch_on slots (Fresh v ∷ rest) (ByValue t name w ∷ given) child xs ys zs s j match stand same =
    branch_on slots rest given child xs ys zs (s + 1) (j + 1) match (stand_next ys j (Some (new_location child s name t w)) (branch_locations child xs (s + 1) given) stand) same

-- they stay so where the child's parameters do
pub child_on : (slots : List ℕ) (j : ℕ) (args : List Arg) (xs ys zs : Locations) (bound : ℕ) → j + length args ≤ bound → ((n : ℕ) → n < bound → channel_at ys n ≡ channel_at xs n)
    → OnChannels slots j args xs zs → OnChannels slots j args ys zs
child_on slots j [] xs ys zs bound most same on = tt
child_on slots j (Ref v ∷ rest) xs ys zs bound most same on = (same j (omega (arith, most)) ∙ on.0, child_on slots (j + 1) rest xs ys zs bound (omega (arith, most)) same on.1)
child_on slots j (Pass v ∷ rest) xs ys zs bound most same on = (same j (omega (arith, most)) ∙ on.0, child_on slots (j + 1) rest xs ys zs bound (omega (arith, most)) same on.1)
child_on slots j (Fresh v ∷ rest) xs ys zs bound most same on = child_on slots (j + 1) rest xs ys zs bound (omega (arith, most)) same on

-- and where the parent's locations do
pub parent_on : (slots : List ℕ) (j : ℕ) (args : List Arg) (ys xs zs : Locations) → ((n : ℕ) → channel_at xs n ≡ channel_at zs n) → OnChannels slots j args ys xs → OnChannels slots j args ys zs
parent_on slots j [] ys xs zs same on = tt
parent_on slots j (Ref v ∷ rest) ys xs zs same on = (on.0 ∙ same (number_of slots v), parent_on slots (j + 1) rest ys xs zs same on.1)
parent_on slots j (Pass v ∷ rest) ys xs zs same on = (on.0 ∙ same (number_of slots v), parent_on slots (j + 1) rest ys xs zs same on.1)
parent_on slots j (Fresh v ∷ rest) ys xs zs same on = parent_on slots (j + 1) rest ys xs zs same on

pub branch_length : (child : Path) (xs : Locations) (s : ℕ) (given : List Argument) → length (branch_locations child xs s given) ≡ length given
branch_length child xs s [] = refl
branch_length child xs s (ByReference i ∷ rest) = ap suc (branch_length child (lend_at xs i) s rest)
branch_length child xs s (ByCopy t i ∷ rest) = ap suc (branch_length child xs s rest)
branch_length child xs s (ByValue t name v ∷ rest) = ap suc (branch_length child xs (s + 1) rest)

in_front : (xs : Locations) (ss : List Sort) (i : ℕ) → i < length xs → at_number (xs ++ empties ss) i ≡ at_number xs i
unfolding at_number
in_front [] ss i h = absurd (omega (arith, h))
in_front (x ∷ xs) ss zero h = refl
in_front (x ∷ xs) ss (suc i) h = in_front xs ss i (omega (arith, h))

-- in front of the locations of its declarations
pub stand_child : (passed : Locations) (ss : List Sort) → StandFrom (passed ++ empties ss) 0 passed
stand_child passed ss i h = ap (at_number (passed ++ empties ss)) (let e : 0 + i ≡ i = omega arith in e) ∙ in_front passed ss i h
