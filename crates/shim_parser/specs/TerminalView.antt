-- The terminals of the code, as the grammar names them.
use Rattle.shim_base.specs.Tokens.{Place}
use Rattle.shim_syntax.specs.Terminals as t
use Rattle.shim_parser.specs.declared.terminal.Terminal.{Terminal}
use Rattle.shim_parser.specs.declared.terminal.Terminal.TheVariants.{Name, Number, Sort, Key, Sign, End, Broken}

-- the grammar's terminal for one of the code, at that place
abbrev pub terminal_view : Terminal → Place → t.Terminal
terminal_view (Name text) p = t.Name text.now p
terminal_view (Number n) p = t.Number n p
terminal_view (Sort sort) p = t.Sort sort p
terminal_view (Key key) p = t.Key key p
terminal_view (Sign sign) p = t.Sign sign p
terminal_view End p = t.End p
terminal_view (Broken kind) p = t.Broken kind p
