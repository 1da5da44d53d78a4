-- A unit that is entered has the locations of its parameters, and room for those of its own variables.
use Rattle.std.proofs.Common.{◌≡◌, ◌∙◌, ◌≤◌, ◌<◌, inl, ℕ, zero, suc, ◌+◌, ◌-◌, true, List, [], ◌∷◌, ◌++◌, length, Option, Some, None, Ok, refl, ap, subst, arith}
use Rattle.std.specs.Prelude.{slice_get}
use Rattle.std.proofs.lemmas.Bool.{and_parts}
use Rattle.std.proofs.lemmas.List.{append-nil, length-drop}
use Rattle.shim_base.specs.declared.types.Ty.{Ty}
use Rattle.shim_base.specs.Paths.{Path}
use Rattle.shim_base.specs.Value.{stored}
use Rattle.shim_syntax.specs.declared.tree.Sort.{Sort}
use Rattle.shim_syntax.specs.declared.tree.Sort.TheVariants.{Value, Input, Output}
use Rattle.shim_scopes.specs.declared.tree.UParam.{UParam}
use Rattle.shim_units.specs.declared.form.Form.{Form}
use Rattle.shim_units.specs.declared.unit.Unit.{Unit as UnitOf}
use Rattle.shim_units.specs.declared.unit.Arg.{Arg}
use Rattle.shim_units.specs.declared.unit.Arg.TheVariants.{Ref, Pass, Fresh}
use Rattle.shim_units.specs.Units.{upto}
use Rattle.shim_process.specs.Values.{value}
use Rattle.shim_process.specs.Locations.{Location, Locations, Copy, at_number, kept, moved, lend_at, with_kept, with_moved}
use Rattle.shim_process.specs.LocalState.{number_of, unit_at, env_of, type_of}
use Rattle.shim_process.specs.Arguments.{Argument, ByReference, ByCopy, ByValue, on_value, arguments, copied_location, new_location, call_locations, branch_locations, declared_slots, empties, numbers_from, call_slots, entered}
use Rattle.shim_process.specs.Todo.{items_all}
use Rattle.shim_process.proofs.ForkLending.{from_value, ok_same}
use Rattle.shim_process.specs.OwnSlots.{is_own_slot, UsesOwnSlots}
use Rattle.shim_laws_sources.proofs.AtPlaces.{at_before}
use Rattle.shim_process.proofs.CallSlots.{own_slot, from_number}
use Rattle.shim_process.proofs.FittingItems.{body_fits}
use Rattle.shim_base.proofs.Facts.{some_same}
use Rattle.shim_laws_stops.specs.InScope.{is_number, same_kind, has_number, argument_right, arguments_right, slots_right, all_scoped, AllInScope}
use Rattle.shim_laws_stops.specs.FrameLocations.{HasLocation, ItemsScoped, FrameScoped}
use Rattle.shim_laws_stops.specs.Named.{IsThere}
use Rattle.shim_laws_stops.proofs.Among.{Among, under_upto}
use Rattle.shim_laws_stops.proofs.ScopeItems.{body_scoped}
use Rattle.shim_laws_stops.proofs.ScopeFrames.{Covers, covers_set}

-- the arguments that were computed are kept where their locations are

abbrev pub OneThere : Locations → Argument → Type 0
OneThere xs (ByReference n) = IsThere (at_number xs n)
OneThere xs (ByCopy t n) = IsThere (at_number xs n)
OneThere xs (ByValue t name v) = Unit {0}

-- one for each parameter that is a number
abbrev pub GivenThere : Locations → List UParam → List Argument → Type 0
GivenThere xs [] given = Unit {0}
GivenThere xs (p ∷ ps) [] = ⊥
GivenThere xs (p ∷ ps) (g ∷ given) = (is_number (Some p.sort) ≡ true → OneThere xs g) × GivenThere xs ps given

pub given_covered : (xs ys : Locations) (ps : List UParam) (given : List Argument) → Covers xs ys → GivenThere xs ps given → GivenThere ys ps given
given_covered xs ys [] given c h = tt
given_covered xs ys (p ∷ ps) [] c h = h
given_covered xs ys (p ∷ ps) (ByReference n ∷ given) c h = (λ number. let w = h.0 number in c.there n w.0 w.1, given_covered xs ys ps given c h.1)
given_covered xs ys (p ∷ ps) (ByCopy t n ∷ given) c h = (λ number. let w = h.0 number in c.there n w.0 w.1, given_covered xs ys ps given c h.1)
given_covered xs ys (p ∷ ps) (ByValue t name v ∷ given) c h = (λ number. tt, given_covered xs ys ps given c h.1)

-- what is of the kind of a number is one
pub number_of_kind : (s : Sort) (o : Option Sort) → is_number (Some s) ≡ true → same_kind s o ≡ true → is_number o ≡ true
number_of_kind (Value t) o h k = k
number_of_kind Input o h k = absurd (cc h)
number_of_kind Output o h k = absurd (cc h)

module _ (u : UnitOf) (xs : Locations) (slots : List ℕ) (ss : List ℕ) (has : (x : ℕ) → Among ss x → HasLocation u xs slots x) where
  pub given_there : (ps : List UParam) (args : List Arg) (given : List Argument) → arguments xs slots ps args ≡ Ok given → arguments_right u ss ps args ≡ true → GivenThere xs ps given
  given_there [] args given e right = tt
  given_there (p ∷ ps) [] given e right = absurd (cc right)
  given_there (p ∷ ps) (Ref x ∷ rest) given e right =
      let w = from_value (λ others. Ok (ByReference (number_of slots x) ∷ others)) (arguments xs slots ps rest) given e in
      let r = and_parts (argument_right u ss p (Ref x)) (arguments_right u ss ps rest) right in
      let s = and_parts _ (same_kind p.sort (slice_get u.slots x)) r.0 in
      subst (GivenThere xs (p ∷ ps)) (ok_same (ByReference (number_of slots x) ∷ w.0) given w.2)
      (λ number. has x s.0 (number_of_kind p.sort (slice_get u.slots x) number s.1), given_there ps rest w.0 w.1 r.1)
  given_there (p ∷ ps) (Pass x ∷ rest) given e right =
      let w = from_value (λ others. Ok (ByCopy (type_of p.sort) (number_of slots x) ∷ others)) (arguments xs slots ps rest) given e in
      let r = and_parts (argument_right u ss p (Pass x)) (arguments_right u ss ps rest) right in
      let s = and_parts (is_number (Some p.sort)) (has_number u ss x) r.0 in
      let t = and_parts _ (is_number (slice_get u.slots x)) s.1 in
      subst (GivenThere xs (p ∷ ps)) (ok_same (ByCopy (type_of p.sort) (number_of slots x) ∷ w.0) given w.2) (λ number. has x t.0 t.1, given_there ps rest w.0 w.1 r.1)
  given_there (p ∷ ps) (Fresh v ∷ rest) given e right =
      let w = from_value (λ one. on_value (λ others. Ok (one ∷ others)) (arguments xs slots ps rest)) (on_value (λ n. Ok (ByValue (type_of p.sort) p.name n)) (value v (env_of xs slots))) given e in
      let a = from_value (λ n. Ok (ByValue (type_of p.sort) p.name n)) (value v (env_of xs slots)) w.0 w.1 in
      let o = from_value (λ others. Ok (w.0 ∷ others)) (arguments xs slots ps rest) given w.2 in
      let r = and_parts (argument_right u ss p (Fresh v)) (arguments_right u ss ps rest) right in
      let one : ByValue (type_of p.sort) p.name a.0 ≡ w.0 = ok_same (ByValue (type_of p.sort) p.name a.0) w.0 a.2 in
      subst (GivenThere xs (p ∷ ps)) (ok_same (w.0 ∷ o.0) given o.2)
      (λ number. subst (OneThere xs) one tt, given_there ps rest o.0 o.1 r.1)

-- where they are in the unit that gets them

-- the locations have these from that number on
abbrev pub HasFrom : Locations → ℕ → Locations → Type 0
HasFrom ys j zs = (i : ℕ) (x : Location) → at_number zs i ≡ Some x → at_number ys (j + i) ≡ Some x

has_next : (ys : Locations) (j : ℕ) (o : Option Location) (zs : Locations) → HasFrom ys j (o ∷ zs) → HasFrom ys (j + 1) zs
unfolding at_number
has_next ys j o zs h i x e = ap (at_number ys) (let same : (j + 1) + i ≡ j + suc i = omega arith in same) ∙ h (suc i) x e

has_first : (ys : Locations) (j : ℕ) (x : Location) (zs : Locations) → HasFrom ys j (Some x ∷ zs) → at_number ys j ≡ Some x
unfolding at_number
has_first ys j x zs h = ap (at_number ys) (let same : j ≡ j + 0 = omega arith in same) ∙ h 0 x refl

pub has_behind : (xs zs : Locations) → HasFrom (xs ++ zs) (length xs) zs
unfolding at_number
has_behind [] zs i x e = ap (at_number zs) (let same : 0 + i ≡ i = omega arith in same) ∙ e
has_behind (y ∷ xs) zs i x e =
    ap (at_number (y ∷ (xs ++ zs))) (let same : suc (length xs) + i ≡ suc (length xs + i) = omega arith in same) ∙ has_behind xs zs i x e

pub has_less : (ys : Locations) (j : ℕ) (zs rest : Locations) → HasFrom ys j (zs ++ rest) → HasFrom ys j zs
has_less ys j zs rest h i x e = h i x (at_before zs rest i x e)

-- each parameter that is a number has its location in its slot
abbrev pub ParamsThere : Locations → List ℕ → List UParam → Type 0
ParamsThere ys slots ps = (i : ℕ) (p : UParam) → slice_get ps i ≡ Some p → is_number (Some p.sort) ≡ true → IsThere (at_number ys (number_of slots i))

copied_there : (t : Ty) (o : Option Location) → IsThere o → IsThere (copied_location t o)
copied_there t None h = absurd (cc h.1)
copied_there t (Some x) h = (record x { ty = t; value = stored t x.value; ownership = Copy }, refl)

moved_there : (o : Option Location) → IsThere o → IsThere (with_moved o)
moved_there None h = absurd (cc h.1)
moved_there (Some x) h = (record x { ownership = moved x.ownership }, refl)

kept_there : (o : Option Location) (x : Location) → o ≡ Some x → IsThere (with_kept o)
kept_there None x h = absurd (cc h)
kept_there (Some y) x h = (record y { ownership = kept y.ownership }, refl)

pub lend_covers : (xs : Locations) (n : ℕ) → Covers xs (lend_at xs n)
unfolding lend_at
lend_covers xs n = covers_set xs n (with_kept (at_number xs n)) (λ x e. kept_there (at_number xs n) x e)

put_there : (ys : Locations) (j : ℕ) (o : Option Location) (zs : Locations) → HasFrom ys j (o ∷ zs) → IsThere o → IsThere (at_number ys j)
put_there ys j o zs h w = (w.0, has_first ys j w.0 zs (subst (λ z. HasFrom ys j (z ∷ zs)) w.1 h))

-- of a call
pub call_params : (first : ℕ) (xs ys : Locations) (home : Path) (serial : ℕ) (ps : List UParam) (given : List Argument) (ss : List Sort) → GivenThere xs ps given → ((n : ℕ) (x : Location) → at_number xs n ≡ Some x → at_number ys n ≡ Some x)
    → HasFrom ys first (call_locations home xs serial given) → ParamsThere ys (call_slots first given ss) ps
unfolding number_of
call_params first xs ys home serial [] given ss h old new i p e number = absurd (cc e)
call_params first xs ys home serial (q ∷ ps) [] ss h old new i p e number = absurd h
call_params first xs ys home serial (q ∷ ps) (ByReference n ∷ given) ss h old new zero p e number =
    let same : q ≡ p = some_same q p e in
    let w = h.0 (ap (λ (z : UParam). is_number (Some z.sort)) same ∙ number) in
    (w.0, old n w.0 w.1)
call_params first xs ys home serial (q ∷ ps) (ByReference n ∷ given) ss h old new (suc i) p e number = call_params first xs ys home serial ps given ss h.1 old new i p e number
call_params first xs ys home serial (q ∷ ps) (ByCopy t n ∷ given) ss h old new zero p e number =
    let same : q ≡ p = some_same q p e in
    put_there ys first (copied_location t (at_number xs n)) (call_locations home xs serial given) new (copied_there t (at_number xs n) (h.0 (ap (λ (z : UParam). is_number (Some z.sort)) same ∙ number)))
call_params first xs ys home serial (q ∷ ps) (ByCopy t n ∷ given) ss h old new (suc i) p e number =
    call_params (first + 1) xs ys home serial ps given ss h.1 old (has_next ys first (copied_location t (at_number xs n)) (call_locations home xs serial given) new) i p e number
call_params first xs ys home serial (q ∷ ps) (ByValue t name v ∷ given) ss h old new zero p e number =
    (new_location home serial name t v, has_first ys first (new_location home serial name t v) (call_locations home xs (serial + 1) given) new)
call_params first xs ys home serial (q ∷ ps) (ByValue t name v ∷ given) ss h old new (suc i) p e number =
    call_params (first + 1) xs ys home (serial + 1) ps given ss h.1 old (has_next ys first (Some (new_location home serial name t v)) (call_locations home xs (serial + 1) given) new) i p e number

-- of a branch, whose locations are the first ones
pub branch_params : (child : Path) (xs ys : Locations) (j serial : ℕ) (ps : List UParam) (given : List Argument) → GivenThere xs ps given → HasFrom ys j (branch_locations child xs serial given)
    → (i : ℕ) (p : UParam) → slice_get ps i ≡ Some p → is_number (Some p.sort) ≡ true → IsThere (at_number ys (j + i))
branch_params child xs ys j serial [] given h new i p e number = absurd (cc e)
branch_params child xs ys j serial (q ∷ ps) [] h new i p e number = absurd h
branch_params child xs ys j serial (q ∷ ps) (ByReference n ∷ given) h new zero p e number =
    let same : q ≡ p = some_same q p e in
    let w = put_there ys j (with_moved (at_number xs n)) (branch_locations child (lend_at xs n) serial given) new (moved_there (at_number xs n) (h.0 (ap (λ (z : UParam). is_number (Some z.sort)) same ∙ number))) in
    (w.0, ap (at_number ys) (let e2 : j + 0 ≡ j = omega arith in e2) ∙ w.1)
branch_params child xs ys j serial (q ∷ ps) (ByReference n ∷ given) h new (suc i) p e number =
    let w = branch_params child (lend_at xs n) ys (j + 1) serial ps given (given_covered xs (lend_at xs n) ps given (lend_covers xs n) h.1) (has_next ys j (with_moved (at_number xs n)) (branch_locations child (lend_at xs n) serial given) new) i p e number in
    (w.0, ap (at_number ys) (let e2 : j + suc i ≡ (j + 1) + i = omega arith in e2) ∙ w.1)
branch_params child xs ys j serial (q ∷ ps) (ByCopy t n ∷ given) h new zero p e number =
    let same : q ≡ p = some_same q p e in
    let w = put_there ys j (copied_location t (at_number xs n)) (branch_locations child xs serial given) new (copied_there t (at_number xs n) (h.0 (ap (λ (z : UParam). is_number (Some z.sort)) same ∙ number))) in
    (w.0, ap (at_number ys) (let e2 : j + 0 ≡ j = omega arith in e2) ∙ w.1)
branch_params child xs ys j serial (q ∷ ps) (ByCopy t n ∷ given) h new (suc i) p e number =
    let w = branch_params child xs ys (j + 1) serial ps given h.1 (has_next ys j (copied_location t (at_number xs n)) (branch_locations child xs serial given) new) i p e number in
    (w.0, ap (at_number ys) (let e2 : j + suc i ≡ (j + 1) + i = omega arith in e2) ∙ w.1)
branch_params child xs ys j serial (q ∷ ps) (ByValue t name v ∷ given) h new zero p e number =
    (new_location child serial name t v, ap (at_number ys) (let e2 : j + 0 ≡ j = omega arith in e2) ∙ has_first ys j (new_location child serial name t v) (branch_locations child xs (serial + 1) given) new)
branch_params child xs ys j serial (q ∷ ps) (ByValue t name v ∷ given) h new (suc i) p e number =
    let w = branch_params child xs ys (j + 1) (serial + 1) ps given h.1 (has_next ys j (Some (new_location child serial name t v)) (branch_locations child xs (serial + 1) given) new) i p e number in
    (w.0, ap (at_number ys) (let e2 : j + suc i ≡ (j + 1) + i = omega arith in e2) ∙ w.1)

-- room

pub empties_many : (ss : List Sort) → length (empties ss) ≡ length ss
empties_many [] = refl
empties_many (s ∷ ss) = ap suc (empties_many ss)

slot_under : (first : ℕ) (home : Path) (xs : Locations) (serial : ℕ) (given : List Argument) (ss : List Sort) (x : ℕ) → length given ≤ x → x < length given + length ss
    → number_of (call_slots first given ss) x < first + (length (call_locations home xs serial given) + length ss)
unfolding number_of
slot_under first home xs serial [] ss x low under = let w = from_number first ss x (omega (arith, under)) in omega (arith, w, under)
slot_under first home xs serial (ByReference n ∷ given) ss zero low under = absurd (omega (arith, low))
slot_under first home xs serial (ByReference n ∷ given) ss (suc x) low under = slot_under first home xs serial given ss x (omega (arith, low)) (omega (arith, under))
slot_under first home xs serial (ByCopy t n ∷ given) ss zero low under = absurd (omega (arith, low))
slot_under first home xs serial (ByCopy t n ∷ given) ss (suc x) low under = let w = slot_under (first + 1) home xs serial given ss x (omega (arith, low)) (omega (arith, under)) in omega (arith, w)
slot_under first home xs serial (ByValue t name v ∷ given) ss zero low under = absurd (omega (arith, low))
slot_under first home xs serial (ByValue t name v ∷ given) ss (suc x) low under = let w = slot_under (first + 1) home xs (serial + 1) given ss x (omega (arith, low)) (omega (arith, under)) in omega (arith, w)

pub call_room : (first : ℕ) (home : Path) (xs : Locations) (serial : ℕ) (given : List Argument) (u : UnitOf) (x : ℕ) → length given ≡ length u.params → is_own_slot u x ≡ true
    → number_of (call_slots first given (declared_slots u)) x < first + (length (call_locations home xs serial given) + length (declared_slots u))
call_room first home xs serial given u x many own =
    let w = own_slot u x own in
    let a = w.0 in
    let b = w.1 in
    let c : length (declared_slots u) ≡ length u.slots - length u.params = length-drop (length u.params) u.slots in
    slot_under first home xs serial given (declared_slots u) x (omega (arith, many, a)) (omega (arith, many, a, b, c))

-- numbers of slots

pub numbers_many : (first : ℕ) (ss : List Sort) → length (numbers_from first ss) ≡ length ss
numbers_many first [] = refl
numbers_many first (s ∷ ss) = ap suc (numbers_many (first + 1) ss)

slots_many : (first : ℕ) (given : List Argument) (ss : List Sort) → length (call_slots first given ss) ≡ length given + length ss
slots_many first [] ss = let w = numbers_many first ss in omega (arith, w)
slots_many first (ByReference n ∷ given) ss = let w = slots_many first given ss in omega (arith, w)
slots_many first (ByCopy t n ∷ given) ss = let w = slots_many (first + 1) given ss in omega (arith, w)
slots_many first (ByValue t name v ∷ given) ss = let w = slots_many (first + 1) given ss in omega (arith, w)

pub params_fit : (ps : List UParam) (ss : List Sort) → slots_right ps ss ≡ true → length ps ≤ length ss
params_fit [] ss h = omega arith
params_fit (p ∷ ps) [] h = absurd (cc h)
params_fit (p ∷ ps) (s ∷ ss) h = let w = params_fit ps ss (and_parts (same_kind p.sort (Some s)) (slots_right ps ss) h).1 in omega (arith, w)

-- a called unit has as many as it has slots
pub call_many : (first : ℕ) (given : List Argument) (program : Form) (unit : ℕ) → AllInScope program → length given ≡ length (unit_at program unit).params → length (call_slots first given (declared_slots (unit_at program unit))) ≡ length (unit_at program unit).slots
call_many first given program unit units many =
    let u : UnitOf = unit_at program unit in
    let a : length (call_slots first given (declared_slots u)) ≡ length given + length (declared_slots u) = slots_many first given (declared_slots u) in
    let b : length (declared_slots u) ≡ length u.slots - length u.params = length-drop (length u.params) u.slots in
    let c = params_fit u.params u.slots (and_parts (slots_right u.params u.slots) (all_scoped program u u.body (upto (length u.params))) (units unit)).0 in
    omega (arith, a, b, c, many)

-- a unit at its first statement

kinds_back : (ps : List UParam) (ss : List Sort) (i : ℕ) → slots_right ps ss ≡ true → i < length ps → (p : UParam) × (slice_get ps i ≡ Some p) × (is_number (slice_get ss i) ≡ true → is_number (Some p.sort) ≡ true)
kinds_back [] ss i h below = absurd (omega (arith, below))
kinds_back (p ∷ ps) [] i h below = absurd (cc h)
kinds_back (p ∷ ps) (s ∷ ss) zero h below = (p, refl, λ number. back p.sort s number (and_parts (same_kind p.sort (Some s)) (slots_right ps ss) h).0)
  where
    back : (r s : Sort) → is_number (Some s) ≡ true → same_kind r (Some s) ≡ true → is_number (Some r) ≡ true
    back (Value t) s h k = refl
    back Input (Value t) h k = absurd (cc k)
    back Input Input h k = absurd (cc h)
    back Input Output h k = absurd (cc h)
    back Output (Value t) h k = absurd (cc k)
    back Output Input h k = absurd (cc h)
    back Output Output h k = absurd (cc h)
kinds_back (p ∷ ps) (s ∷ ss) (suc i) h below = kinds_back ps ss i (and_parts (same_kind p.sort (Some s)) (slots_right ps ss) h).1 (omega (arith, below))

pub entered_scoped : (program : Form) (unit : ℕ) (ys : Locations) (slots labels : List ℕ) (floor outer : ℕ) → UsesOwnSlots program → AllInScope program → length slots ≡ length (unit_at program unit).slots → ParamsThere ys slots (unit_at program unit).params
    → ((x : ℕ) → is_own_slot (unit_at program unit) x ≡ true → (floor ≤ number_of slots x) × (number_of slots x < length ys)) → FrameScoped program ys (entered (unit_at program unit) unit slots labels floor outer)
entered_scoped program unit ys slots labels floor outer own units many params room =
    let u : UnitOf = unit_at program unit in
    let right = and_parts (slots_right u.params u.slots) (all_scoped program u u.body (upto (length u.params))) (units unit) in
    let has : (x : ℕ) → Among (upto (length u.params)) x → HasLocation u ys slots x = λ x a number.
    let k = kinds_back u.params u.slots x right.0 (under_upto (length u.params) x a) in
    params x k.0 k.1 (k.2 number) in
    record {
      fit = record { todo = body_fits program u u.body 0 (own unit); places = tt; slots = λ x o. ((room x o).0, omega arith) };
      slots = many;
      todo = subst (ItemsScoped program u (HasLocation u ys slots) []) (append-nil (items_all u.body 0))
          (body_scoped program u (HasLocation u ys slots) u.body 0 (upto (length u.params)) [] [] right.1 (λ x a. inl (has x a)) tt);
      places = tt;
      room = λ x o. (room x o).1;
    }
