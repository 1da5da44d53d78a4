use Rattle.std.proofs.Common.{◌≡◌, ◌++◌, drop}
use Rattle.std.specs.Prelude.{flat_map}
use Rattle.shim_base.specs.PathTexts.{pair_text}
use Rattle.shim_base.proofs.path_texts.push_pairs.Given as goal

abbrev pub invariant-loop-pair : goal.invariant-loop-pair
invariant-loop-pair l = l.text ++ flat_map pair_text (drop l.pair-index l.pairs) ≡ l.initial.text ++ flat_map pair_text l.pairs
