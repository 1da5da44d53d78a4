-- Rounds of a tree: all that is enabled happens, and then again.
use Rattle.std.specs.Prelude.{ℕ}
use Rattle.shim_local.specs.Process.{Ops}
use Rattle.shim_semantics.specs.Trees.{Tree, after}
use Rattle.shim_semantics.specs.Walks.{walk}
use Rattle.shim_laws_schedules.specs.Orders.{round_of, rounds_of}

-- the events that are enabled now happen in the order of the walk, each if it is still enabled in its turn
abbrev pub round : {S : Type 0} → Ops S → Tree S → Tree S
round o = round_of (after o) (λ t. walk o t.root)

-- so many rounds, one after another
unfoldable pub rounds : {S : Type 0} → Ops S → ℕ → Tree S → Tree S
rounds o = rounds_of (after o) (λ t. walk o t.root)
