-- Who has the input and who has the output in a tree of processes.
use Rattle.std.specs.Prelude.{◌≡◌, ◌⊎◌, ℕ, Bool, true, false, List, [], ◌∷◌, Option, Some, None, map, slice_get}
use Rattle.shim_semantics.specs.Nodes.{Node, Nodes, Live, Forked, Ended, Dead, no_node, node_and, states}
use Rattle.shim_syntax.specs.declared.tree.Sort.{Sort}
use Rattle.shim_scopes.specs.declared.tree.UParam.{UParam}
use Rattle.shim_units.specs.declared.form.Form.{Form}
use Rattle.shim_units.specs.declared.unit.Unit.{Unit as UnitOf}
use Rattle.shim_units.specs.declared.unit.UBranch.{UBranch}
use Rattle.shim_process.specs.Forks.{is_input, is_output, takes_input, takes_output, item_branches}
use Rattle.shim_process.specs.LocalState.{LocalState, Frame, unit_at}
use Rattle.shim_laws_stops.specs.InScope.{is_input_at, is_output_at}
use Rattle.shim_laws_stops.specs.FrameLocations.{HasLocations}

-- the input or the output
pub data Stream : Type 0 where
  TheInput : Stream
  TheOutput : Stream

-- the sort is that of the stream
abbrev pub is_of_stream : Stream → Sort → Bool
is_of_stream TheInput s = is_input s
is_of_stream TheOutput s = is_output s

-- a slot of this sort holds the stream; none does where there is no sort
abbrev pub is_at : Stream → Option Sort → Bool
is_at TheInput o = is_input_at o
is_at TheOutput o = is_output_at o

-- one of these parameters takes the stream
abbrev pub takes_stream : Stream → List UParam → Bool
takes_stream TheInput ps = takes_input ps
takes_stream TheOutput ps = takes_output ps

abbrev pub is_there : Option ℕ → Bool
is_there None = false
is_there (Some n) = true

-- Whether a process has the stream: the input if there is a place in the input, the output if the flag is set.
abbrev pub holds_stream : Stream → Option ℕ → Bool → Bool
holds_stream TheInput at holds = is_there at
holds_stream TheOutput at holds = holds

abbrev pub has_stream : Stream → LocalState → Bool
has_stream s l = holds_stream s l.input_at l.holds_output

-- the unit of this number takes the stream
abbrev pub takes : Stream → Form → ℕ → Bool
takes s program n = takes_stream s (unit_at program n).params

-- one slot of the unit at most holds the stream
abbrev pub HasOneSlot : Stream → UnitOf → Type 0
HasOneSlot s u = (x y : ℕ) → is_at s (slice_get u.slots x) ≡ true → is_at s (slice_get u.slots y) ≡ true → x ≡ y

-- Each of these units, the innermost first, has at most one slot for the stream. A unit that takes the stream was called by a unit that takes it, but for the last, of which no caller is given.
abbrev pub UnitsTake : Stream → Form → ℕ → List ℕ → Type 0
UnitsTake s program n [] = HasOneSlot s (unit_at program n)
UnitsTake s program n (m ∷ ms) = HasOneSlot s (unit_at program n) × (takes s program n ≡ true → takes s program m ≡ true) × UnitsTake s program m ms

-- the numbers of the units that wait
abbrev pub waiting_units : LocalState → List ℕ
waiting_units l = map (λ (f : Frame). f.unit) l.callers

-- the last of the units, of which the first is given apart
abbrev pub last_unit : ℕ → List ℕ → ℕ
last_unit n [] = n
last_unit n (m ∷ ms) = last_unit m ms

-- the unit that the process entered first
abbrev pub first_unit : LocalState → ℕ
first_unit l = last_unit l.frame.unit (waiting_units l)

-- `UnitsTake` of the units that the process is in
abbrev pub IsTaking : Stream → LocalState → Type 0
IsTaking s l = UnitsTake s l.program l.frame.unit (waiting_units l)

-- What a process has that waits for no children: locations for what its frames name, and units that take the stream as `UnitsTake` says. If its first unit takes the stream, the process has it.
pub record HoldsStream (s : Stream) (l : LocalState) : Type 0 where
  pub named : HasLocations l
  pub taking : IsTaking s l
  pub holds : takes s l.program (first_unit l) ≡ true → has_stream s l ≡ true

-- One of these children has this program and began in the unit of its branch. That unit takes the stream.
abbrev pub OneTakes : Stream → Form → List UBranch → List LocalState → Type 0
OneTakes s program [] ks = ⊥
OneTakes s program (b ∷ branches) [] = ⊥
OneTakes s program (b ∷ branches) (k ∷ ks) = ((first_unit k ≡ b.call.unit) × (k.program ≡ program) × (takes s program b.call.unit ≡ true)) ⊎ OneTakes s program branches ks

-- What a forked process has: locations for what its frames name, and units that take the stream as `UnitsTake` says. If its first unit takes the stream, the process has it, or one of these children began in a unit that takes it.
pub record LendsStream (s : Stream) (l : LocalState) (ks : List LocalState) : Type 0 where
  pub named : HasLocations l
  pub taking : IsTaking s l
  pub holds : takes s l.program (first_unit l) ≡ true → (has_stream s l ≡ true) ⊎ OneTakes s l.program (item_branches l.frame.todo) ks

abbrev mutual
  pub HasStream : Stream → Node LocalState → Type 0
  HasStream s (Live l) = HoldsStream s l
  HasStream s (Ended l) = HoldsStream s l
  HasStream s (Dead l x) = HoldsStream s l
  HasStream s (Forked l ks) = LendsStream s l (states ks) × EachHasStream s ks

  pub EachHasStream : Stream → Nodes LocalState → Type 0
  EachHasStream s no_node = Unit {0}
  EachHasStream s (node_and k ks) = HasStream s k × EachHasStream s ks
