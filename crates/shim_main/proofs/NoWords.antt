-- No words, not even the program's own name, ask for nothing.
use Rattle.std.proofs.Common.{◌≡◌, ℕ, [], Option, None, refl, subst}
use Rattle.clap.proofs.OnLiterals.{clap_on_literals}
use Rattle.shim_command.specs.Command.{command_rules, shim_app}
use Rattle.shim_command.specs.Jobs.{job}
use Rattle.shim_command.specs.declared.job.Job.{Job}
use Rattle.shim_tool.specs.Moments.{FilesAt, SinkAt}
use Rattle.shim_tool.specs.Call.{Ran}

no_words : job [] ≡ None
unfolding job shim_app command_rules clap_on_literals
no_words = refl

-- so a run on none is one on words that ask for nothing
pub ran_on_none : (before now : FilesAt) (ob on : SinkAt) (result : ℕ) → Ran (job []) before now ob on result → Ran None before now ob on result
ran_on_none before now ob on result ran = subst (λ (o : Option Job). Ran o before now ob on result) no_words ran
