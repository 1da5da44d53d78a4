-- Where processes come from and what they bring back: the process that runs `main`, the children of a fork with what their parent keeps, and a join.
use Rattle.std.specs.Prelude.{ℕ, ◌+◌, nat_le, Bool, true, false, ◌&&◌, ◌||◌, List, [], ◌∷◌, ◌++◌, length, Option, Some, None, Result, Ok, Err, if◌then◌else◌, slice_set}
use Rattle.shim_base.specs.declared.operators.Trap.{Trap}
use Rattle.shim_base.specs.declared.operators.Trap.TheVariants.{Depth}
use Rattle.shim_local.specs.Process.{ForkedView, Parted, Trapped}
use Rattle.shim_syntax.specs.declared.tree.Sort.{Sort}
use Rattle.shim_syntax.specs.declared.tree.Sort.TheVariants as sort
use Rattle.shim_scopes.specs.declared.tree.UParam.{UParam}
use Rattle.shim_units.specs.declared.form.Form.{Form}
use Rattle.shim_units.specs.declared.unit.UBranch.{UBranch}
use Rattle.shim_units.specs.declared.unit.Arg.{Arg}
use Rattle.shim_units.specs.declared.unit.Arg.TheVariants.{Ref, Pass, Fresh}
use Rattle.shim_units.specs.declared.unit.UStmt.{UStmt}
use Rattle.shim_units.specs.declared.unit.UWhat.{UWhat, UWhat-F, out-UWhat}
use Rattle.shim_process.specs.Locations.{Locations, at_number, lend_at, with_back}
use Rattle.shim_process.specs.Todo.{Item, On, next_stmt}
use Rattle.shim_process.specs.LocalState.{LocalState, unit_at, number_of, handlers, is_full, trapped}
use Rattle.shim_process.specs.StatementViews.{statement_view, passed_labels}
use Rattle.shim_process.specs.Arguments.{Argument, ByReference, ByCopy, ByValue, on_value, arguments, new_channels, branch_locations, channels_of, declared_slots, empties, numbers_from, entered}
use Rattle.shim_process.specs.Ends.{gone}
use Rattle.shim_process.specs.Steps.{line_of}

abbrev pub is_input : Sort → Bool
is_input sort.Input = true
is_input _ = false

abbrev pub is_output : Sort → Bool
is_output sort.Output = true
is_output _ = false

-- the unit takes the input; a stream goes by reference always
abbrev pub takes_input : List UParam → Bool
takes_input [] = false
takes_input (p ∷ ps) = is_input p.sort || takes_input ps

-- one of the parameters is the output
abbrev pub takes_output : List UParam → Bool
takes_output [] = false
takes_output (p ∷ ps) = is_output p.sort || takes_output ps

-- the labels of so many exceptions, from this one on
abbrev pub labels_from : ℕ → List ℕ → List ℕ
labels_from label [] = []
labels_from label (name ∷ names) = label ∷ labels_from (label + 1) names

-- The process that runs `main`. Label 0 is the program's end, and those from 1 on are the names that `main` throws.
unfoldable pub root : Form → List ℕ → LocalState
root program input =
    let u = unit_at program program.main in
    record {
      path = [];
      base = 1 + length program.main_throws;
      made = 0;
      forks = 0;
      untaken = [];
      given = [];
      frame = entered u program.main (numbers_from 0 u.slots) (labels_from 1 program.main_throws) 0 0;
      callers = [];
      locations = empties u.slots;
      input_at = if takes_input u.params then Some 0 else None;
      holds_output = takes_output u.params;
      trap = None;
      program = program;
      input = input;
    }

-- the branches of a fork, and none of another statement
abbrev pub what_branches : UWhat-F UWhat UStmt → List UBranch
what_branches (UWhat-F.Par branches) = branches
what_branches _ = []

-- the branches of a statement that is a fork, and none of another or where there is no statement
abbrev pub stmt_branches : Option UStmt → List UBranch
stmt_branches None = []
stmt_branches (Some stmt) = what_branches (out-UWhat stmt.what)

-- the branches of the fork that is the first item, and none where no fork is
abbrev pub item_branches : List Item → List UBranch
item_branches todo = stmt_branches (next_stmt todo)

-- the arguments of all branches, computed from the left; the first trap stands
abbrev pub all_arguments : LocalState → List UBranch → Result (List (List Argument)) Trap
all_arguments l [] = Ok []
all_arguments l (b ∷ branches) =
    on_value (λ one. on_value (λ others. Ok (one ∷ others)) (all_arguments l branches))
    (arguments l.locations l.frame.slots (unit_at l.program b.call.unit).params b.call.args)

-- the child in branch i, at the first statement of this unit, with these labels of the unit's exceptions and these arguments
abbrev pub new_child : LocalState → ℕ → ℕ → List ℕ → List Argument → LocalState
new_child l i unit labels given =
    let u = unit_at l.program unit in
    let path = l.path ++ (l.forks, i) ∷ [] in
    let passed = branch_locations path l.locations 0 given in
    record {
      path = path;
      base = handlers l;
      made = new_channels given;
      forks = 0;
      untaken = [];
      given = channels_of passed;
      frame = entered u unit (numbers_from 0 u.slots) labels 0 0;
      callers = [];
      locations = passed ++ empties (declared_slots u);
      input_at = if takes_input u.params then l.input_at else None;
      holds_output = takes_output u.params && l.holds_output;
      trap = None;
      program = l.program;
      input = l.input;
    }

-- the child in this branch
abbrev pub child : LocalState → ℕ → UBranch → List Argument → LocalState
child l i b given = new_child l i b.call.unit (passed_labels (statement_view l) b.call.throws) given

-- the process's locations with what it keeps of those that arguments give by reference; an argument without a parameter gives nothing
abbrev pub lent : List ℕ → List UParam → List Arg → Locations → Locations
lent slots [] args locations = locations
lent slots (p ∷ ps) [] locations = locations
lent slots (p ∷ ps) (Ref x ∷ rest) locations = lent slots ps rest (lend_at locations (number_of slots x))
lent slots (p ∷ ps) (Pass x ∷ rest) locations = lent slots ps rest locations
lent slots (p ∷ ps) (Fresh e ∷ rest) locations = lent slots ps rest locations

-- the process's locations with what it keeps of those that these computed arguments give by reference
abbrev pub lent_by : List Argument → Locations → Locations
lent_by [] locations = locations
lent_by (ByReference n ∷ given) locations = lent_by given (lend_at locations n)
lent_by (ByCopy t n ∷ given) locations = lent_by given locations
lent_by (ByValue t name v ∷ given) locations = lent_by given locations

-- a process with what is kept of its locations; the streams that the branch's unit takes are with the child
abbrev pub keeping : LocalState → ℕ → Locations → LocalState
keeping l unit locations =
    let u = unit_at l.program unit in
    record l {
      locations = locations;
      input_at = if takes_input u.params then None else l.input_at;
      holds_output = if takes_output u.params then false else l.holds_output;
    }

-- what a process keeps of what a branch takes: the variables by reference and the streams are with the child
abbrev pub lending : LocalState → UBranch → LocalState
lending l b = keeping l b.call.unit (lent l.frame.slots (unit_at l.program b.call.unit).params b.call.args l.locations)

-- what a process keeps when a branch that calls this unit takes these computed arguments
abbrev pub lending_given : LocalState → ℕ → List Argument → LocalState
lending_given l unit given = keeping l unit (lent_by given l.locations)

-- The children of the branches, from the left, of which the first is branch i. Each child takes of what those before it left.
abbrev pub children_from : LocalState → ℕ → List UBranch → List (List Argument) → List LocalState
children_from l i [] given = []
children_from l i (b ∷ branches) [] = []
children_from l i (b ∷ branches) (given ∷ rest) = child l i b given ∷ children_from (lending l b) (i + 1) branches rest

-- what is left after all of the branches
abbrev pub all_lending : LocalState → List UBranch → LocalState
all_lending l [] = l
all_lending l (b ∷ branches) = all_lending (lending l b) branches

-- the parent, which still stands at the fork, with one more fork counted; what it gave by reference is with the children
abbrev pub parent : LocalState → List UBranch → LocalState
parent l branches = record (all_lending l branches) { forks = l.forks + 1 }

-- at least 64 forks lead from the root to the process
abbrev pub is_far : LocalState → Bool
is_far l = nat_le 64 (length l.path)

-- what a fork gives with these children, or the first trap of their arguments; a limit that is passed traps after the arguments were computed
abbrev pub fork_outcome : Result (List LocalState) Trap → LocalState → List UBranch → ForkedView LocalState
fork_outcome (Ok children) l branches = if is_far l || is_full l then Trapped (trapped Depth (line_of l.frame.todo) l) else Parted (parent l branches) children
fork_outcome (Err t) l branches = Trapped (trapped t (line_of l.frame.todo) l)

-- what a fork of the branches gives, from the arguments of each, or from the first trap in computing them
abbrev pub fork_result : Result (List (List Argument)) Trap → LocalState → List UBranch → ForkedView LocalState
fork_result given l branches = fork_outcome (on_value (λ gs. Ok (children_from l 0 branches gs)) given) l branches

-- what the process's fork gives: the parent with its children, or the trapped process
unfoldable pub fork : LocalState → ForkedView LocalState
fork l = fork_result (all_arguments l (item_branches l.frame.todo)) l (item_branches l.frame.todo)

-- What a branch took by reference comes back from the child's locations, of which the first are those of its parameters, in order; the first argument's has this number.
abbrev pub taken_back : List ℕ → ℕ → List Arg → Locations → Locations → Locations
taken_back slots n [] back locations = locations
taken_back slots n (Ref x ∷ rest) back locations = taken_back slots (n + 1) rest back (slice_set locations (number_of slots x) (with_back (at_number back n) (at_number locations (number_of slots x))))
taken_back slots n (Pass x ∷ rest) back locations = taken_back slots (n + 1) rest back locations
taken_back slots n (Fresh e ∷ rest) back locations = taken_back slots (n + 1) rest back locations

-- The parent's locations after each child has given back what its branch took by reference. The first list has the numbers of the parent's slots' locations.
abbrev pub all_back : List ℕ → List UBranch → List LocalState → Locations → Locations
all_back slots [] children locations = locations
all_back slots (b ∷ branches) [] locations = locations
all_back slots (b ∷ branches) (c ∷ children) locations = all_back slots branches children (taken_back slots 0 b.call.args c.locations locations)

-- the first of the two, or the second where the first is none
abbrev pub some_or : Option ℕ → Option ℕ → Option ℕ
some_or None at = at
some_or (Some n) at = Some n

-- how many bytes of the input were read: by the last of the children that has the input, or else as the second argument has it
abbrev pub input_back : List LocalState → Option ℕ → Option ℕ
input_back [] at = at
input_back (c ∷ children) at = input_back children (some_or c.input_at at)

-- one of the children has the output, or the parent has it already
abbrev pub output_back : List LocalState → Bool → Bool
output_back [] holds = holds
output_back (c ∷ children) holds = output_back children (c.holds_output || holds)

-- the parent, still at the fork, with what its children give back: variables by reference, the input and the output
abbrev pub joined : LocalState → List LocalState → LocalState
joined l children = record l {
  locations = all_back l.frame.slots (item_branches l.frame.todo) children l.locations;
  input_at = input_back children l.input_at;
  holds_output = output_back children l.holds_output;
}

-- the parent with what its children give back; it has gone on after the fork if `goes_on`, and else still stands at it
unfoldable pub join : LocalState → List LocalState → Bool → LocalState
join l children goes_on = if goes_on then gone On (joined l children) else joined l children
