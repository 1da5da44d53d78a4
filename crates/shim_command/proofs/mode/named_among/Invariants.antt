use Rattle.std.proofs.Common.{◌≡◌, drop}
use Rattle.shim_command.specs.Modes.{named_among}
use Rattle.shim_command.proofs.mode.named_among.Given as goal

abbrev pub invariant-loop-mode : goal.invariant-loop-mode
invariant-loop-mode l = named_among (drop l.mode-index l.modes) l.word ≡ named_among l.modes l.word
