use Rattle.std.proofs.Common.{ap, sym, ◌∙◌}
use Rattle.shim_syntax.specs.Terminals.{is_shim}
use Rattle.shim_parser.proofs.Exits.{propagates}
use Rattle.shim_parser.proofs.SourceExits.{source_1_reads, source_1_fails, source_version_fails, source_2_fails, source_2_reads}
use Rattle.shim_parser.proofs.source.source.Goals as goal

pub returns-in_err-functions : goal.returns-in_err-functions
returns-in_err-functions c = propagates _ _ _ _ _ _ c.from_residual.ensures
    (source_1_fails c.args.tokens.now c.functions.new.tokens _ (ap is_shim (sym c.peek.ensures.is) ∙ sym (c.is_shim.ensures _) ∙ c.if-not-is_shim.true) c.in_err-functions.ensures)

pub returns-then-not-is_shim : goal.returns-then-not-is_shim
returns-then-not-is_shim c = source_1_reads c.args.tokens.now c.functions.new.tokens c.in_ok-functions.functions c.in_ok-functions.ensures

pub returns-in_err-version : goal.returns-in_err-version
returns-in_err-version c = propagates _ _ _ _ _ _ c.from_residual-in_err-version.ensures
    (source_version_fails c.args.tokens.now c.advance.new.self c.begin_version_2.new.self c.version.new.tokens c.version.new.tokens
    (ap is_shim (sym c.peek.ensures.is) ∙ sym (c.is_shim.ensures _) ∙ c.if-not-is_shim.false) c.advance.ensures c.begin_version_2.ensures c.version.new.tokens _ c.in_err-version.ensures)

pub returns-in_err-functions-2 : goal.returns-in_err-functions-2
returns-in_err-functions-2 c = propagates _ _ _ _ _ _ c.from_residual-in_err-functions-2.ensures
    (source_2_fails c.args.tokens.now c.advance.new.self c.begin_version_2.new.self c.version.new.tokens c.version.new.tokens
    (ap is_shim (sym c.peek.ensures.is) ∙ sym (c.is_shim.ensures _) ∙ c.if-not-is_shim.false) c.advance.ensures c.begin_version_2.ensures c.in_ok-version.ensures c.functions-2.new.tokens _ c.in_err-functions-2.ensures)

pub returns : goal.returns
returns c = source_2_reads c.args.tokens.now c.advance.new.self c.begin_version_2.new.self c.version.new.tokens c.functions-2.new.tokens
    (ap is_shim (sym c.peek.ensures.is) ∙ sym (c.is_shim.ensures _) ∙ c.if-not-is_shim.false) c.advance.ensures c.begin_version_2.ensures c.in_ok-version.ensures c.in_ok-functions-2.functions c.in_ok-functions-2.ensures
