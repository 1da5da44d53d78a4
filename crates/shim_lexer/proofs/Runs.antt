-- What the answers of `next` come to.
use Rattle.std.proofs.Common.{List, Option, subst}
use Rattle.shim_base.specs.Tokens.{Token, Fault, Cuts}
use Rattle.shim_lexer.specs.Lexing.{Lexing, Run, over, faulty, token, unread}

pub run_cuts : (lexing : Lexing) (tokens : List Token) (end : Option Fault) → Run lexing tokens end → Cuts lexing.place (unread lexing) tokens end
run_cuts _ _ _ (over old new answers) = answers.1
run_cuts _ _ _ (faulty old new f answers) = answers.1
run_cuts _ _ _ (token old new t tokens end answers more) =
    let P : Lexing → Type 0 = λ l. Cuts l.place (unread l) tokens end in
    answers.1.cuts tokens end (subst P answers.0 (run_cuts new tokens end more))
