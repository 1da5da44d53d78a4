use Rattle.std.proofs.Common.{sym, ◌∙◌}
use Rattle.shim_lexer.proofs.Taken.{space_passed}
use Rattle.shim_lexer.proofs.scanner.scan.Goals as goal

pub returns-then-is_spacing : goal.returns-then-is_spacing
returns-then-is_spacing c = space_passed c.args.text.now c.in-len1-up.len_at_least (sym c.is_spacing.ensures ∙ c.if-is_spacing.true)
