use Rattle.std.proofs.Common.{◌∙◌}
use Rattle.std.specs.Str.Parse.{ParsesUnsigned, ExplainsUnsignedError, HasUnsignedDigitsIfOk}
use Rattle.clap.proofs.WalkLemmas.{one_text-rows}
use Rattle.clap.specs.Words.{found_of, one_of, rows_of}
use Rattle.shim_command.proofs.Numbers.{number_read}
use Rattle.shim_command.proofs.words.number_in.Goals as goal

pub returns : goal.returns
returns c =
    let rows = one_text-rows (found_of c.args.matches.now) c.args.name.now in
    c.unwrap_or.ensures ∙ number_read (λ bs r. ParsesUnsigned 64 10 bs r × ExplainsUnsignedError 10 bs r × HasUnsignedDigitsIfOk bs r)
    (λ u x g. g.0) c.requires.0 c.requires.1 (one_of c.args.name.now (rows_of (found_of c.args.matches.now))) c.args.default c.get_one.result c.requires.2
    (λ none. c.get_one.ensures.none (rows ∙ none)) (λ t some. c.get_one.ensures.value t (rows ∙ some))
