-- Answers of the code, as the definitions name them.
use Rattle.std.specs.Prelude.{◌≡◌}
use Rattle.shim_local.specs.Process.{Ops, StopView, AtQuiet, AtNext, AtPut, AtFork, AtFinish, AtThrow, AtTrap, Parted, Trapped}
use Rattle.shim_local.specs.declared.local.Stop.{Stop}
use Rattle.shim_local.specs.declared.local.Stop.TheVariants as stop
use Rattle.shim_local.specs.declared.local.Forked.{Forked}
use Rattle.shim_local.specs.declared.local.Forked.TheVariants as forked

abbrev pub stop_view : Stop → StopView
stop_view stop.Quiet = AtQuiet
stop_view (stop.Next c) = AtNext c.now
stop_view stop.Put = AtPut
stop_view stop.Fork = AtFork
stop_view stop.Finish = AtFinish
stop_view (stop.Throw label) = AtThrow label
stop_view (stop.Trapped kind line) = AtTrap kind line

-- The fork of the first state left the second and gave this answer. With children the second state is their parent; else it is the trapped process.
abbrev pub ForkGives : {S : Type 0} → Ops S → S → S → Forked S → Type 0
ForkGives o before after (forked.Children ks) = o.fork before ≡ Parted after ks
ForkGives o before after forked.Trapped = o.fork before ≡ Trapped after
