-- The arguments of a call or a branch, and the frame of the unit that gets them.
use Rattle.std.specs.Prelude.{ℕ, ℤ, ◌+◌, false, List, [], ◌∷◌, length, drop, Option, Some, None, Result, Ok, Err}
use Rattle.shim_base.specs.declared.types.Ty.{Ty}
use Rattle.shim_base.specs.declared.operators.Trap.{Trap}
use Rattle.shim_base.specs.Value.{stored}
use Rattle.shim_base.specs.Paths.{Path, NamedChannel}
use Rattle.shim_syntax.specs.declared.tree.Sort.{Sort}
use Rattle.shim_scopes.specs.declared.tree.UParam.{UParam}
use Rattle.shim_units.specs.declared.unit.Unit.{Unit as UnitOf}
use Rattle.shim_units.specs.declared.unit.Arg.{Arg}
use Rattle.shim_units.specs.declared.unit.Arg.TheVariants.{Ref, Pass, Fresh}
use Rattle.shim_process.specs.Values.{value}
use Rattle.shim_process.specs.Locations.{Location, Locations, Own, Copy, at_number, lend_at, with_moved}
use Rattle.shim_process.specs.Todo.{items_all}
use Rattle.shim_process.specs.LocalState.{Frame, number_of, env_of, type_of}

-- an argument whose expression is computed, with what its parameter says
pub data Argument : Type 0 where
  -- the location of this number itself, or a stream
  ByReference : ℕ → Argument
  -- a copy of the location of this number, on the same channel, as a variable of this type
  ByCopy : Ty → ℕ → Argument
  -- this number in a location on a channel of its own, of this name
  ByValue : Ty → ℕ → ℤ → Argument

-- what the function gives for the value, or the trap where there is no value
abbrev pub on_value : {A B : Type 0} → (A → Result B Trap) → Result A Trap → Result B Trap
on_value f (Ok a) = f a
on_value f (Err t) = Err t

-- what an argument gives its parameter, or the trap of its expression, where the frame's slots have these numbers among the locations
abbrev pub argument : Locations → List ℕ → UParam → Arg → Result Argument Trap
argument locations slots p (Ref x) = Ok (ByReference (number_of slots x))
argument locations slots p (Pass x) = Ok (ByCopy (type_of p.sort) (number_of slots x))
argument locations slots p (Fresh e) = on_value (λ v. Ok (ByValue (type_of p.sort) p.name v)) (value e (env_of locations slots))

-- what the arguments give the parameters, computed from the left, or the first trap
abbrev pub arguments : Locations → List ℕ → List UParam → List Arg → Result (List Argument) Trap
arguments locations slots [] args = Ok []
arguments locations slots (p ∷ ps) [] = Ok []
arguments locations slots (p ∷ ps) (a ∷ rest) = on_value (λ one. on_value (λ others. Ok (one ∷ others)) (arguments locations slots ps rest)) (argument locations slots p a)

-- a copy of the location, as a variable of this type, with the value stored by the type; none where there is no location
abbrev pub copied_location : Ty → Option Location → Option Location
copied_location t None = None
copied_location t (Some l) = Some (record l { ty = t; value = stored t l.value; ownership = Copy })

-- a new channel's own variable
abbrev pub new_location : Path → ℕ → ℕ → Ty → ℤ → Location
new_location home serial name t v = record { channel = record { channel = record { home = home; serial = serial }; name = name }; ty = t; value = stored t v; ownership = Own }

-- how many channels the arguments make
abbrev pub new_channels : List Argument → ℕ
new_channels [] = 0
new_channels (ByReference n ∷ rest) = new_channels rest
new_channels (ByCopy t n ∷ rest) = new_channels rest
new_channels (ByValue t name v ∷ rest) = 1 + new_channels rest

-- The locations that a call makes for its arguments: none for one by reference. The home of the new channels is the calling process, and the first of them has this serial number.
abbrev pub call_locations : Path → Locations → ℕ → List Argument → Locations
call_locations home locations serial [] = []
call_locations home locations serial (ByReference n ∷ rest) = call_locations home locations serial rest
call_locations home locations serial (ByCopy t n ∷ rest) = copied_location t (at_number locations n) ∷ call_locations home locations serial rest
call_locations home locations serial (ByValue t name v ∷ rest) = Some (new_location home serial name t v) ∷ call_locations home locations (serial + 1) rest

-- The locations that a branch makes for its arguments. One by reference is moved into the child, with its value and the ownership `moved`. A later argument finds what the parent keeps of it. The home of new channels is the child.
abbrev pub branch_locations : Path → Locations → ℕ → List Argument → Locations
branch_locations child locations serial [] = []
branch_locations child locations serial (ByReference n ∷ rest) = with_moved (at_number locations n) ∷ branch_locations child (lend_at locations n) serial rest
branch_locations child locations serial (ByCopy t n ∷ rest) = copied_location t (at_number locations n) ∷ branch_locations child locations serial rest
branch_locations child locations serial (ByValue t name v ∷ rest) = Some (new_location child serial name t v) ∷ branch_locations child locations (serial + 1) rest

-- the channels of the locations that are there
abbrev pub channels_of : Locations → List NamedChannel
channels_of [] = []
channels_of (None ∷ locations) = channels_of locations
channels_of (Some l ∷ locations) = l.channel ∷ channels_of locations

-- the sorts of the unit's own slots, which come after those of its parameters: of its declarations and of the variables of its handlers
abbrev pub declared_slots : UnitOf → List Sort
declared_slots u = drop (length u.params) u.slots

-- an empty location for each of the sorts
abbrev pub empties : List Sort → Locations
empties [] = []
empties (s ∷ ss) = None ∷ empties ss

-- a number for each of the sorts, counted up from `first`
abbrev pub numbers_from : ℕ → List Sort → List ℕ
numbers_from first [] = []
numbers_from first (s ∷ ss) = first ∷ numbers_from (first + 1) ss

-- The numbers of the locations that a called unit's slots have, where the first new one has this number: those of its parameters, and then those of its declarations.
abbrev pub call_slots : ℕ → List Argument → List Sort → List ℕ
call_slots first [] declared = numbers_from first declared
call_slots first (ByReference n ∷ rest) declared = n ∷ call_slots first rest declared
call_slots first (ByCopy t n ∷ rest) declared = first ∷ call_slots (first + 1) rest declared
call_slots first (ByValue t name v ∷ rest) declared = first ∷ call_slots (first + 1) rest declared

-- the frame of a unit, of this number, at its first statement, with the numbers of its slots' locations and the labels of the exceptions that it was given
abbrev pub entered : UnitOf → ℕ → List ℕ → List ℕ → ℕ → ℕ → Frame
entered u unit slots labels floor outer = record {
  unit = unit;
  todo = items_all u.body 0;
  halfway = false;
  slots = slots;
  labels = labels;
  floor = floor;
  outer = outer;
  places = [];
}
