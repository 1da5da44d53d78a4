use Rattle.std.proofs.Common.{◌≡◌, drop}
use Rattle.shim_syntax.specs.Names.{with_texts}
use Rattle.shim_syntax.proofs.names.add_texts.Given as goal

abbrev pub invariant-loop-name : goal.invariant-loop-name
invariant-loop-name l = with_texts (drop l.name-index l.names) l.known ≡ with_texts l.names l.initial.known
