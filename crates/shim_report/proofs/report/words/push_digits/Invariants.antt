use Rattle.std.proofs.Common.{◌≡◌, ◌++◌, drop}
use Rattle.std.specs.Prelude.{flat_map}
use Rattle.shim_report.specs.Report.{hex_byte}
use Rattle.shim_report.proofs.report.words.push_digits.Given as goal

abbrev pub invariant-loop-byte : goal.invariant-loop-byte
invariant-loop-byte l = l.text ++ flat_map hex_byte (drop l.byte-index l.bytes) ≡ l.initial.text ++ flat_map hex_byte l.bytes
