-- Runs of one source, one on each of several inputs, and what is printed of them.
use Rattle.std.specs.Prelude.{ℕ, max, List, [], ◌∷◌, ◌++◌, codes, map}
use Rattle.shim_front_end.specs.Source.{Source}
use Rattle.shim_local.specs.declared.Ended.{Ended}
use Rattle.shim_results.specs.RunEnds.{Execution, report_of, status_of_outcome}

-- the greatest of the statuses, 0 of none
abbrev pub greatest : List ℕ → ℕ
greatest [] = 0
greatest (s ∷ ss) = max s (greatest ss)

-- the executions of a source on each of these inputs; the input that the execution itself has takes no part
abbrev pub on_each : Execution → List (List ℕ) → List Execution
on_each x inputs = map (λ input. record x { input = input }) inputs

-- the statuses for how runs ended
abbrev pub statuses_of : List Ended → List ℕ
statuses_of es = map (λ e. status_of_outcome e.outcome) es

-- `input NAME`
unfoldable pub input_line : List ℕ → List ℕ
input_line name = codes "input " ++ (name ++ codes "\n")

-- the reports of a source's runs in order, each after the line of its input, as far as both lists go
abbrev pub reports_of : Source → List (List ℕ) → List Ended → List ℕ
reports_of source [] es = []
reports_of source (name ∷ names) [] = []
reports_of source (name ∷ names) (e ∷ es) = input_line name ++ (report_of source e ++ reports_of source names es)
