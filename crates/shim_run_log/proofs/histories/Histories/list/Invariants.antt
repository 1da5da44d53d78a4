use Rattle.std.proofs.Common.{◌≡◌, ◌++◌, map}
use Rattle.std.specs.FinMap as finite
use Rattle.shim_semantics.specs.Endings.{history_of}
use Rattle.shim_run_log.proofs.Listed.{EachWithin, history_at}
use Rattle.shim_run_log.proofs.histories.Histories.list.Lts.Given as given

-- what is listed, and then what is left, is the whole
abbrev pub invariant-loop-number : given.Live-loop-number → Type 0
invariant-loop-number l =
    (l.list ++ map (history_at l.self-inside.kept.items) l.number-iterator ≡ map history_of (finite.entries l.self))
    × EachWithin l.self-inside.kept.items l.number-iterator
