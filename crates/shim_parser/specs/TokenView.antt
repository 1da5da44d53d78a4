-- Tokens of the code, as the grammar's terminals.
use Rattle.std.specs.Prelude.{List, map}
use Rattle.shim_syntax.specs.Terminals.{Terminal}
use Rattle.shim_parser.specs.declared.token.Token.{Token}
use Rattle.shim_parser.specs.TerminalView.{terminal_view}

-- the grammar's terminal for a token of the code, at the token's place
abbrev pub token_view : Token → Terminal
token_view t = terminal_view t.what (record { at = t.at; line = t.line })

abbrev pub token_views : List Token → List Terminal
token_views tokens = map token_view tokens
