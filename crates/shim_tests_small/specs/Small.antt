-- A small process: a list of the steps that are left, one value, one channel, and the exception places in force.
use Rattle.std.specs.Prelude.{◌≡◌, ◌≤◌, ℕ, zero, suc, ◌+◌, ◌-◌, Bool, true, false, ◌&&◌, ltb, Option, Some, None, List, [], ◌∷◌, ◌++◌, length, map, take, drop, slice_index_or, ℤ, pos, if◌then◌else◌}
use Rattle.shim_base.specs.Paths.{Path, NamedChannel, same_channel}
use Rattle.shim_base.specs.declared.operators.Trap.TheVariants as trap
use Rattle.shim_local.specs.Process.{Ops, StopView, ForkedView, AtQuiet, AtNext, AtPut, AtFork, AtFinish, AtThrow, AtTrap, Parted, Trapped}
use Rattle.shim_tests_small.specs.declared.small.Branch.{Branch}
use Rattle.shim_tests_small.specs.declared.small.Branch.TheVariants as branch
use Rattle.shim_tests_small.specs.declared.small.Step.{Step}
use Rattle.shim_tests_small.specs.declared.small.Step.TheVariants as step

-- the state of a small process
pub record SmallView : Type 0 where
  pub path : Path
  pub left : List Step
  pub value : ℤ
  pub chan : NamedChannel
  -- how many forks it did
  pub forks : ℕ
  -- how many exception places are in force around it
  pub base : ℕ
  -- the number of the name and the line of each of its own, outermost first
  pub places : List (ℕ × ℕ)

-- the place of a trap is around every process
abbrev pub IsSoundSmall : SmallView → Type 0
IsSoundSmall s = 1 ≤ s.base

-- how many exception places are in force
abbrev pub in_force : SmallView → ℕ
in_force s = s.base + length s.places

abbrev pub is_root : Path → Bool
is_root [] = true
is_root (pair ∷ path) = false

-- the stop of a small process that is trapped: each of its traps is a division by zero in line 1
abbrev pub at_trap : StopView
at_trap = AtTrap trap.Zero 1

-- the stop before a put, by whether the process is the root: the root puts, and any other process is trapped
abbrev pub put_stop : Bool → StopView
put_stop true = AtPut
put_stop false = at_trap

-- the stop before a throw of this label, by whether its exception is in force: where it isn't, the process is trapped
abbrev pub throw_stop : ℕ → Bool → StopView
throw_stop label true = AtThrow label
throw_stop label false = at_trap

-- the stop of the process where these are the steps left
abbrev pub stop_at : SmallView → List Step → StopView
stop_at s [] = AtFinish
stop_at s (step.Quiet ∷ left) = AtQuiet
stop_at s (step.Try name line ∷ left) = AtQuiet
stop_at s (step.Next ∷ left) = AtNext s.chan
stop_at s (step.Put ∷ left) = put_stop (is_root s.path)
stop_at s (step.Fork ∷ left) = AtFork
stop_at s (step.Three a b c ∷ left) = AtFork
stop_at s (step.Throw label number ∷ left) = throw_stop label (ltb label (in_force s))
stop_at s (step.ThrowTrap label ∷ left) = throw_stop label (ltb label (in_force s))
stop_at s (step.Trap ∷ left) = at_trap

-- the stop of the process, by the steps that are left
abbrev pub stop_of : SmallView → StopView
stop_of s = stop_at s s.left

-- the next step is done
abbrev pub passed : SmallView → SmallView
passed s = record s { left = drop 1 s.left }

-- the process's own exception places once the first of these steps is done: a `Try` adds its own as the innermost
abbrev pub opened : List Step → List (ℕ × ℕ) → List (ℕ × ℕ)
opened (step.Try name line ∷ left) places = places ++ (name, line) ∷ []
opened _ places = places

-- the process after a quiet step, which opens an exception place where the step is a `try`
abbrev pub quieted : SmallView → SmallView
quieted s = record s { left = drop 1 s.left; places = opened s.left s.places }

abbrev pub is_trap : StopView → Bool
is_trap (AtTrap kind line) = true
is_trap _ = false

-- Whether the process, with the exception places that it has now, would be trapped at the second of these steps. Where it would, a put or a fork that is the first step traps.
abbrev pub trap_behind : SmallView → List Step → Bool
trap_behind s [] = false
trap_behind s (x ∷ left) = is_trap (stop_at s left)

-- 1 for every value but 0
abbrev pub byte_of : ℤ → ℕ
byte_of (pos zero) = 0
byte_of v = 1

-- the byte that a put gives, by whether the put traps: a put that traps gives none
abbrev pub byte_put : Bool → ℤ → Option ℕ
byte_put true v = None
byte_put false v = Some (byte_of v)

-- the number of the throw with which these steps begin, or none where its expression traps; 0 where they begin with no throw
abbrev pub number_at : List Step → Option ℤ
number_at (step.Throw label number ∷ left) = Some (pos number)
number_at (step.ThrowTrap label ∷ left) = None
number_at _ = Some (pos 0)

-- the steps once that number was computed: a throw whose expression traps is a trap from then on
abbrev pub computed : List Step → List Step
computed (step.ThrowTrap label ∷ left) = step.Trap ∷ left
computed left = left

-- the process after the number of its throw was computed
abbrev pub number_computed : SmallView → SmallView
number_computed s = record s { left = computed s.left }

-- what a branch has to do
abbrev pub steps_of : Branch → List Step
steps_of branch.Next = step.Next ∷ []
steps_of branch.Quiet = step.Quiet ∷ step.Quiet ∷ step.Next ∷ []
steps_of (branch.Throw label number) = step.Throw label number ∷ []
steps_of (branch.Outer label number) = step.Three (branch.Throw label number) branch.Nothing branch.Nothing ∷ []
steps_of branch.Nothing = []

-- the branches of the fork with which these steps begin: those of a `Three`, and else two with a `next`
abbrev pub branches : List Step → List Branch
branches (step.Three a b c ∷ left) = a ∷ b ∷ c ∷ []
branches _ = branch.Next ∷ branch.Next ∷ []

-- the child in this place of the fork at which it stands, whose branch is this
abbrev pub child_of : SmallView → ℕ → Branch → SmallView
child_of s place b = record {
  path = s.path ++ (s.forks, place) ∷ [];
  left = steps_of b;
  value = s.value;
  chan = s.chan;
  forks = 0;
  base = in_force s;
  places = [];
}

-- the children from this place on, whose branches are these
abbrev pub children_from : SmallView → ℕ → List Branch → List SmallView
children_from s place [] = []
children_from s place (b ∷ bs) = child_of s place b ∷ children_from s (place + 1) bs

-- the children of the fork at which the process is, one for each branch
abbrev pub children_of : SmallView → List SmallView
children_of s = children_from s 0 (branches s.left)

-- it did one fork more
abbrev pub forked : SmallView → SmallView
forked s = record s { forks = s.forks + 1 }

-- What a fork gives, by whether it traps. A fork that traps makes no child, and the process has passed it.
abbrev pub fork_result : Bool → SmallView → ForkedView SmallView
fork_result true s = Trapped (passed s)
fork_result false s = Parted (forked s) (children_of s)

-- its path, and how many places are in force around it
abbrev pub identity_of : SmallView → Path × ℕ
identity_of s = (s.path, s.base)

-- the identity of the child in this place of this fork: the parent has this path, and around the child so many exception places are in force
abbrev pub identity : Path → ℕ → ℕ → ℕ → Path × ℕ
identity path base fork place = (path ++ (fork, place) ∷ [], base)

-- the identities of so many children of this fork, from this place on
abbrev pub identities : Path → ℕ → ℕ → ℕ → ℕ → List (Path × ℕ)
identities path base fork place zero = []
identities path base fork place (suc n) = identity path base fork place ∷ identities path base fork (place + 1) n

-- the children have the identities of children of the last fork, from place 0 on; their number and their other fields may be any
abbrev pub AreOfLastFork : SmallView → List SmallView → Type 0
AreOfLastFork s children = (fork : ℕ) × (n : ℕ) × (s.forks ≡ fork + 1) × (map identity_of children ≡ identities s.path (in_force s) fork 0 n)

-- the value of the first child, or this value where there is no child
abbrev pub value_given : ℤ → List SmallView → ℤ
value_given v [] = v
value_given v (k ∷ children) = k.value

-- The process with the value of its first child. For `true` it is past the fork.
abbrev pub joined : SmallView → List SmallView → Bool → SmallView
joined s children goes_on = record s { value = value_given s.value children; left = if goes_on then drop 1 s.left else s.left }

-- The process once it caught the exception of this label. Its next step is done. Its own exception places are those outside the label's place, and its value is the number that was thrown.
abbrev pub unwound : SmallView → ℕ → ℤ → SmallView
unwound s label v = record s { left = drop 1 s.left; value = v; places = take (label - s.base) s.places }

-- the channels that a fork gave the process, by whether it is the root: no fork gave the root any
abbrev pub given_to : Bool → NamedChannel → List NamedChannel
given_to true c = []
given_to false c = c ∷ []

-- all functions of a small process's state that a tree asks for
abbrev pub small_ops : Ops SmallView
small_ops = record {
  sound = IsSoundSmall;
  stop = stop_of;
  quiet = quieted;
  byte = λ s. byte_put (trap_behind s s.left) s.value;
  put = passed;
  receive = λ s v. record s { value = v; left = drop 1 s.left };
  fork = λ s. fork_result (trap_behind s s.left) s;
  join = joined;
  born = AreOfLastFork;
  number = λ s. number_at s.left;
  thrown = number_computed;
  unwind = unwound;
  value = λ s c. s.value;
  shares = λ s c. same_channel c s.chan.channel;
  carries = λ s c. is_root s.path && same_channel c s.chan.channel;
  given = λ s. given_to (is_root s.path) s.chan;
  holds_output = λ s. is_root s.path;
  path = λ s. s.path;
  base = λ s. s.base;
  handlers = in_force;
  handler = λ s label. slice_index_or s.places (label - s.base) (0, 0);
}
