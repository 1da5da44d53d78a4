-- Quiet steps of a process, one after another.
use Rattle.std.specs.Prelude.{◌≡◌, ℕ, zero, suc, Bool, true, false, Option, Some, None, cond}
use Rattle.shim_local.specs.Process.{Ops, StopView, AtQuiet}

-- the next step is quiet
abbrev pub is_quiet : StopView → Bool
is_quiet AtQuiet = true
is_quiet _ = false

-- the state after so many steps, if each of them is quiet; else none
abbrev pub quiet_run : {S : Type 0} → Ops S → ℕ → S → Option S
quiet_run o zero l = Some l
quiet_run o (suc n) l = cond (is_quiet (o.stop l)) (quiet_run o n (o.quiet l)) None

-- so many quiet steps lead from the first state to the second
abbrev pub QuietSteps : {S : Type 0} → Ops S → ℕ → S → S → Type 0
QuietSteps o n l m = quiet_run o n l ≡ Some m
