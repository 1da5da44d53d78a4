use Rattle.std.proofs.Common.{Ok, Err, [], ◌∷◌, sym, subst}
use Rattle.shim_syntax.specs.Terminals.{IsRead}
use Rattle.shim_grammar.specs.Machine.{Source}
use Rattle.shim_parser.specs.TokenView.{token_views}
use Rattle.shim_parser.specs.Sources.{IsWholeSource}
use Rattle.shim_parser.specs.ReaderViews.{ReaderView, Fails}
use Rattle.shim_parser.proofs.ParserExits.{proper, text_is, fault_answers, only}
use Rattle.shim_parser.proofs.parser.parse.Goals as goal

pub new-tokens-requires : goal.new-tokens-requires
new-tokens-requires c = proper c.args.text.now (token_views c.deref.result.now) (subst (λ u. IsRead c.args.text.now (token_views u)) (sym c.deref.ensures.value) c.in_ok-all.ensures)

pub returns-in-Ok-clause-only : goal.returns-in-Ok-clause-only
returns-in-Ok-clause-only c = only c.args.text.now (Ok c.in-Ok.program)
    (text_is c.args.text.now (token_views c.deref.result.now) c.source.new.tokens c.in-Ok.program (subst (λ u. IsRead c.args.text.now (token_views u)) (sym c.deref.ensures.value) c.in_ok-all.ensures)
    (subst (λ (u : ReaderView). IsWholeSource u.counts c.source.new.tokens.counts u.rest c.source.new.tokens.rest c.in-Ok.program) c.new-tokens.ensures c.in-Ok.ensures))

pub returns-clause-answers : goal.returns-clause-answers
returns-clause-answers c = fault_answers c.args.text.now (token_views c.deref.result.now) (subst (λ u. IsRead c.args.text.now (token_views u)) (sym c.deref.ensures.value) c.in_ok-all.ensures)
    c.source.new.tokens c.some_left.ensures.0 c.some_left.ensures.1 c.in-Err.fault (subst (λ (u : ReaderView). Fails (Source ∷ []) u c.source.new.tokens c.in-Err.fault) c.new-tokens.ensures c.in-Err.ensures)

pub returns-clause-only : goal.returns-clause-only
returns-clause-only c = only c.args.text.now (Err c.in-Err.fault) (returns-clause-answers c)
