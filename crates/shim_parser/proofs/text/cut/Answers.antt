use Rattle.std.proofs.Common.{◌+◌, [], ◌∷◌, ◌++◌, length, Option, Ok, sym, ◌∙◌, ap, subst, ◌≡◌, arith}
use Rattle.shim_base.specs.Tokens.{start, place_after}
use Rattle.shim_lexer.specs.declared.Token.{Token as Given}
use Rattle.shim_lexer.specs.Lexing.{AnswersNext}
use Rattle.shim_syntax.specs.Terminals.{End}
use Rattle.shim_parser.specs.Cutting.{IsCut}
use Rattle.shim_parser.specs.TokenView.{token_views}
use Rattle.shim_parser.proofs.CutSteps.{cut_whole, cut_broken, cut_more, views_push}
use Rattle.shim_parser.proofs.text.cut.Goals as goal

pub tokens-preserved : goal.tokens-preserved
tokens-preserved c = cut_more c.args.text.now (token_views c.tokens.tokens.items) _ c.tokens.lexer c.next.new.self c.in-Ok-Some.token c.tokens.invariant
    (let P : Option Given → Type 0 = λ n. AnswersNext c.tokens.lexer.fault c.tokens.lexer c.next.new.self (Ok n) in subst P c.in-Ok-Some.field-0-is c.in-Ok-Some.ensures)
    (views_push c.tokens.tokens.items c.push.new.self.items _ c.in_ok-push-in-Ok-Some.ensures.items ∙ ap (λ u. token_views c.tokens.tokens.items ++ u ∷ []) (c.terminal_of.ensures _))

pub returns-in-Ok-None : goal.returns-in-Ok-None
returns-in-Ok-None c = subst (λ u. IsCut c.args.text.now u) (sym (views_push c.tokens.tokens.items _ _ c.in_ok-push-in-Ok-None.ensures.items ∙ ap (λ n. token_views c.tokens.tokens.items ++ End (record { at = length c.args.text.now; line = 1 + n }) ∷ []) c.line_feeds.ensures.is
    ∙ ap (λ n. token_views c.tokens.tokens.items ++ End (record { at = n; line = (place_after start c.args.text.now).line }) ∷ []) (let z : length c.args.text.now ≡ 0 + length c.args.text.now = omega arith in z)))
    (cut_whole c.args.text.now (token_views c.tokens.tokens.items) c.tokens.lexer c.next.new.self c.tokens.invariant
    (let P : Option Given → Type 0 = λ n. AnswersNext c.tokens.lexer.fault c.tokens.lexer c.next.new.self (Ok n) in subst P c.in-Ok-None.field-0-is c.in-Ok-None.ensures))

pub returns-in-Err : goal.returns-in-Err
returns-in-Err c = subst (λ u. IsCut c.args.text.now u) (sym (views_push c.tokens.tokens.items _ _ c.in_ok-push-in-Err.ensures.items))
    (cut_broken c.args.text.now (token_views c.tokens.tokens.items) c.tokens.lexer c.next.new.self c.in-Err.fault c.tokens.invariant c.in-Err.ensures)
