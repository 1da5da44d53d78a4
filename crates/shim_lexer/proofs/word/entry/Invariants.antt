use Rattle.std.proofs.Common.{◌≡◌}
use Rattle.shim_lexer.proofs.TableLemmas.{entry_from}
use Rattle.shim_lexer.proofs.word.entry.Given as goal

abbrev pub invariant-loop-spelling : goal.invariant-loop-spelling
invariant-loop-spelling g l = entry_from l.spelling-index l.table l.text ≡ entry_from 0 l.table l.text
