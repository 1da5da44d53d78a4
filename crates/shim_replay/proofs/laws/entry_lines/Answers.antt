use Rattle.std.proofs.Common.{◌∙◌, ap}
use Rattle.shim_replay.specs.Scanning.{scan_entry}
use Rattle.shim_replay.proofs.EntriesRead.{entry_takes, entry_again}
use Rattle.shim_replay.proofs.laws.entry_lines.Goals as goal

pub returns : goal.returns
returns c = λ bytes e rest. ((λ is. entry_takes bytes (e, rest) is), (λ h. ap scan_entry h.0 ∙ entry_again e rest h.1))
