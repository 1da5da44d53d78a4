use Rattle.std.proofs.Common.{◌∙◌, ap}
use Rattle.clap.proofs.WalkLemmas.{first_value-rows}
use Rattle.clap.specs.Words.{found_of}
use Rattle.shim_command.proofs.Numbers.{unwrapped}
use Rattle.shim_command.proofs.words.word_in.Goals as goal

pub returns : goal.returns
returns c = ap (λ b. b.now) c.unwrap_or.ensures ∙ unwrapped c.get_str.result _ _ (c.get_str.ensures ∙ first_value-rows (found_of c.args.matches.now) c.args.name.now)
