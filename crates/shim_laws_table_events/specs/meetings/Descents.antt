-- A descent through the records to all that share a channel.
use Rattle.std.specs.Prelude.{◌≡◌, ℕ, zero, suc, true, false, List, [], ◌∷◌, ◌++◌}
use Rattle.shim_base.specs.Paths.{Channel}
use Rattle.shim_local.specs.Process.{Ops}
use Rattle.shim_laws_table.specs.NodeStatus.{ProcessStatus, lives, forks, ends, dies}
use Rattle.shim_laws_table_events.specs.keeping.Tables.{TableView, HasProcessState}
use Rattle.shim_laws_table_events.specs.meetings.Sharers.{ListsSharers}

-- how many children a process with this status has
abbrev pub children : ProcessStatus → ℕ
children lives = 0
children (forks n) = n
children ends = 0
children (dies d) = 0

-- so many numbers from one on
abbrev pub numbers_of_length : ℕ → ℕ → List ℕ
numbers_of_length f zero = []
numbers_of_length f (suc n) = f ∷ numbers_of_length (suc f) n

-- From the numbers that are still to be looked at, the first of them first, to those that are found: who shares the channel is found, and its children are looked at next; who doesn't is passed by, with all below it.
pub data Descends {S : Type 0} (o : Ops S) (v : TableView S) (c : Channel) : List ℕ → List ℕ → Type 0 where
  at_end : Descends o v c [] []
  passes : (i : ℕ) (ahead found : List ℕ) → ((f : ℕ) (s : S) (k : ProcessStatus) → HasProcessState v i f s k → o.shares s c ≡ false) → Descends o v c ahead found → Descends o v c (i ∷ ahead) found
  finds : (i f : ℕ) (s : S) (k : ProcessStatus) (ahead found : List ℕ) → HasProcessState v i f s k → o.shares s c ≡ true → Descends o v c (numbers_of_length f (children k) ++ ahead) found → Descends o v c (i ∷ ahead) (i ∷ found)

-- what a descent from one process finds are all that share the channel at and below it, if it shares the channel itself
abbrev pub DescentsFind : {S : Type 0} → Ops S → Type 0
DescentsFind {S} o = (v : TableView S) (c : Channel) (i : ℕ) (found : List ℕ) → Descends o v c (i ∷ []) found → ListsSharers o v c i found
