-- Where the own slots of a called unit have their locations, and how many arguments a call gives.
use Rattle.std.proofs.Common.{◌≡◌, ◌∙◌, ℕ, zero, suc, ◌+◌, ◌-◌, ◌<◌, ◌≤◌, true, List, [], ◌∷◌, length, Ok, nat_le, nat_lt, eqb-true, sym, ap, arith}
use Rattle.std.proofs.lemmas.Bool.{and_parts, leb-true, ltb-true}
use Rattle.std.proofs.lemmas.List.{length-drop}
use Rattle.std.specs.Prelude.{slice_get}
use Rattle.shim_syntax.specs.declared.tree.Sort.{Sort}
use Rattle.shim_scopes.specs.declared.tree.UParam.{UParam}
use Rattle.shim_units.specs.declared.form.Form.{Form}
use Rattle.shim_units.specs.declared.unit.Unit.{Unit as UnitOf}
use Rattle.shim_units.specs.declared.unit.Arg.{Arg}
use Rattle.shim_units.specs.declared.unit.Arg.TheVariants.{Ref, Pass, Fresh}
use Rattle.shim_units.specs.declared.unit.UCall.{UCall}
use Rattle.shim_process.specs.Values.{value}
use Rattle.shim_process.specs.Locations.{Locations}
use Rattle.shim_process.specs.LocalState.{number_or_any, number_of, unit_at, env_of, type_of}
use Rattle.shim_process.specs.Arguments.{Argument, ByReference, ByCopy, ByValue, on_value, arguments, declared_slots, numbers_from, call_slots}
use Rattle.shim_process.proofs.ForkLending.{from_value, ok_same}
use Rattle.shim_process.specs.OwnSlots.{is_own_slot, has_arguments}

-- an own slot is after the parameters'
pub own_slot : (u : UnitOf) (x : ℕ) → is_own_slot u x ≡ true → (length u.params ≤ x) × (x < length u.slots)
own_slot u x h =
    let w = and_parts (nat_le (length u.params) x) (nat_lt x (length u.slots)) h in
    (leb-true (length u.params) x w.0, ltb-true x (length u.slots) w.1)

-- one of numbers one after another
pub from_number : (first : ℕ) (ss : List Sort) (x : ℕ) → x < length ss → number_of (numbers_from first ss) x ≡ first + x
unfolding number_of
from_number first [] x h = absurd (omega (arith, h))
from_number first (s ∷ ss) zero h = omega arith
from_number first (s ∷ ss) (suc x) h =
    let w : number_or_any (slice_get (numbers_from (first + 1) ss) x) ≡ (first + 1) + x = from_number (first + 1) ss x (omega (arith, h)) in
    w ∙ (let e : (first + 1) + x ≡ first + suc x = omega arith in e)

-- a slot after those of the arguments
slot_behind : (first : ℕ) (given : List Argument) (ss : List Sort) (x : ℕ) → length given ≤ x → x < length given + length ss → first ≤ number_of (call_slots first given ss) x
unfolding number_of
slot_behind first [] ss x h below = let w = from_number first ss x (omega (arith, below)) in omega (arith, w)
slot_behind first (ByReference n ∷ rest) ss zero h below = absurd (omega (arith, h))
slot_behind first (ByReference n ∷ rest) ss (suc x) h below = slot_behind first rest ss x (omega (arith, h)) (omega (arith, below))
slot_behind first (ByCopy t n ∷ rest) ss zero h below = absurd (omega (arith, h))
slot_behind first (ByCopy t n ∷ rest) ss (suc x) h below = let w : first + 1 ≤ number_of (call_slots (first + 1) rest ss) x = slot_behind (first + 1) rest ss x (omega (arith, h)) (omega (arith, below)) in omega (arith, w)
slot_behind first (ByValue t name v ∷ rest) ss zero h below = absurd (omega (arith, h))
slot_behind first (ByValue t name v ∷ rest) ss (suc x) h below = let w : first + 1 ≤ number_of (call_slots (first + 1) rest ss) x = slot_behind (first + 1) rest ss x (omega (arith, h)) (omega (arith, below)) in omega (arith, w)

-- the own slots of a called unit have their locations after those that were there
pub called_slot : (first : ℕ) (u : UnitOf) (given : List Argument) (x : ℕ) → length given ≡ length u.params → is_own_slot u x ≡ true → first ≤ number_of (call_slots first given (declared_slots u)) x
called_slot first u given x many own =
    let w = own_slot u x own in
    let a : length u.params ≤ x = w.0 in
    let b : x < length u.slots = w.1 in
    let c : length (declared_slots u) ≡ length u.slots - length u.params = length-drop (length u.params) u.slots in
    slot_behind first given (declared_slots u) x (omega (arith, many, a)) (omega (arith, many, a, b, c))

-- those of a unit that begins a process have their slots' numbers
pub first_slot : (u : UnitOf) (x : ℕ) → is_own_slot u x ≡ true → length u.params ≤ number_of (numbers_from 0 u.slots) x
first_slot u x own =
    let w = own_slot u x own in
    let a : length u.params ≤ x = w.0 in
    let e : number_of (numbers_from 0 u.slots) x ≡ 0 + x = from_number 0 u.slots x w.1 in
    omega (arith, a, e)

-- there are as many arguments as parameters
as_many_given : (at : Locations) (slots : List ℕ) (ps : List UParam) (args : List Arg) (given : List Argument) → arguments at slots ps args ≡ Ok given → length args ≡ length ps → length given ≡ length ps
as_many_given at slots [] args given e many = ap (λ (g : List Argument). length g) (sym (ok_same [] given e))
as_many_given at slots (p ∷ ps) [] given e many = absurd (omega (arith, many))
as_many_given at slots (p ∷ ps) (Ref x ∷ rest) given e many =
    let w = from_value (λ others. Ok (ByReference (number_of slots x) ∷ others)) (arguments at slots ps rest) given e in
    ap (λ (g : List Argument). length g) (sym (ok_same (ByReference (number_of slots x) ∷ w.0) given w.2)) ∙ ap suc (as_many_given at slots ps rest w.0 w.1 (omega (arith, many)))
as_many_given at slots (p ∷ ps) (Pass x ∷ rest) given e many =
    let w = from_value (λ others. Ok (ByCopy (type_of p.sort) (number_of slots x) ∷ others)) (arguments at slots ps rest) given e in
    ap (λ (g : List Argument). length g) (sym (ok_same (ByCopy (type_of p.sort) (number_of slots x) ∷ w.0) given w.2)) ∙ ap suc (as_many_given at slots ps rest w.0 w.1 (omega (arith, many)))
as_many_given at slots (p ∷ ps) (Fresh v ∷ rest) given e many =
    let w = from_value (λ one. on_value (λ others. Ok (one ∷ others)) (arguments at slots ps rest)) (on_value (λ n. Ok (ByValue (type_of p.sort) p.name n)) (value v (env_of at slots))) given e in
    let o = from_value (λ others. Ok (w.0 ∷ others)) (arguments at slots ps rest) given w.2 in
    ap (λ (g : List Argument). length g) (sym (ok_same (w.0 ∷ o.0) given o.2)) ∙ ap suc (as_many_given at slots ps rest o.0 o.1 (omega (arith, many)))

pub given_many : (program : Form) (at : Locations) (slots : List ℕ) (c : UCall) (given : List Argument) → has_arguments program c ≡ true → arguments at slots (unit_at program c.unit).params c.args ≡ Ok given → length given ≡ length (unit_at program c.unit).params
given_many program at slots c given suit e =
    as_many_given at slots (unit_at program c.unit).params c.args given e (eqb-true (length c.args) (length (unit_at program c.unit).params) suit)
