use Rattle.std.proofs.Common.{◌≡◌, ◌++◌, ◌∙◌, sym, rules}
use Rattle.shim_syntax.specs.Printing.{pieces_text, header_pieces, functions_pieces}
use Rattle.shim_syntax.proofs.Programs.{printed, text_of_both}
use Rattle.shim_syntax.proofs.printing.print.Goals as goal

pub returns-clause-canonical : goal.returns-clause-canonical
returns-clause-canonical c =
    let e : c.push_functions.new.text ≡ pieces_text (header_pieces c.args.program.now.version) ++ pieces_text (functions_pieces c.args.program.now.functions) = search rules in
    e ∙ sym (text_of_both (header_pieces c.args.program.now.version) (functions_pieces c.args.program.now.functions))

pub returns-clause-again : goal.returns-clause-again
returns-clause-again c = λ bytes h.
    let e : c.push_functions.new.text ≡ pieces_text (header_pieces c.args.program.now.version) ++ pieces_text (functions_pieces c.args.program.now.functions) = search rules in
    printed bytes c.args.program.now c.push_functions.new.text (e ∙ sym (text_of_both (header_pieces c.args.program.now.version) (functions_pieces c.args.program.now.functions))) h
