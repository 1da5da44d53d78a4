-- What a process can be asked and how it can be stepped, as functions of its state.
use Rattle.std.specs.Prelude.{ℕ, ℤ, Bool, List, Option}
use Rattle.shim_base.specs.declared.operators.Trap.{Trap}
use Rattle.shim_base.specs.Paths.{Path, Channel, NamedChannel}

-- the stop of a process: the kind of step that comes next, or that nothing is left to do, or that the process is trapped
pub data StopView : Type 0 where
  AtQuiet : StopView
  AtNext : NamedChannel → StopView
  AtPut : StopView
  AtFork : StopView
  AtFinish : StopView
  -- at a throw of the exception of this label
  AtThrow : ℕ → StopView
  -- it stands trapped: why, and the line of the statement
  AtTrap : Trap → ℕ → StopView

-- what a fork gives: the parent as it stands at the fork then, with the children in order, or the parent trapped
pub data ForkedView (S : Type 0) : Type 0 where
  Parted : S → List S → ForkedView S
  Trapped : S → ForkedView S

-- The state after each call, and what the calls answer, for states of any kind. Of `quiet`, `put`, `receive`, `fork` and `thrown` the laws claim nothing for a state at another stop.
pub record Ops (S : Type 0) : Type 1 where
  -- an invariant of states: each call keeps it, and the children of a fork have it
  pub sound : S → Type 0
  pub stop : S → StopView
  -- after one quiet step
  pub quiet : S → S
  -- the byte that is put, or none where its expression traps; and the state after it
  pub byte : S → Option ℕ
  pub put : S → S
  -- the state after the rendezvous for which the process waits gave it this value
  pub receive : S → ℤ → S
  pub fork : S → ForkedView S
  -- the state after the children's values came back: the process goes on after the fork if the flag is set, and else stays at the fork
  pub join : S → List S → Bool → S
  -- these represent the children of the last fork, one for each and in their order, whatever calls they have had since
  pub born : S → List S → Type 0
  -- the number that the throw at which it stands gives, or none where its expression traps; and the state after that was computed
  pub number : S → Option ℤ
  pub thrown : S → S
  -- the state at the handler of the exception of this label; the handler is given this number
  pub unwind : S → ℕ → ℤ → S
  -- the value of the channel's own variable, where the process carries that
  pub value : S → Channel → ℤ
  pub shares : S → Channel → Bool
  pub carries : S → Channel → Bool
  -- the channels that the fork which made it gave it, in order
  pub given : S → List NamedChannel
  pub holds_output : S → Bool
  pub path : S → Path
  -- how many exception places are in force around the process, and how many with its own
  pub base : S → ℕ
  pub handlers : S → ℕ
  -- the number of the name and the line of the `try` of this label
  pub handler : S → ℕ → ℕ × ℕ
