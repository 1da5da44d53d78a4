-- With what a statement begins, as a terminal.
use Rattle.std.specs.Prelude.{Bool, true, false}
use Rattle.shim_base.specs.declared.token.Keyword.TheVariants as k
use Rattle.shim_base.specs.declared.token.Sign.TheVariants as g
use Rattle.shim_base.specs.Tokens.{Place}
use Rattle.shim_syntax.specs.declared.tree.Sort.TheVariants.{Value}
use Rattle.shim_syntax.specs.Terminals as t
use Rattle.shim_syntax.specs.Terminals.{Terminal}
use Rattle.shim_parser.specs.declared.opening.Opening.{Opening}
use Rattle.shim_parser.specs.declared.opening.Opening.TheVariants as o

-- the terminal at that place with which the statement begins
abbrev pub opening_view : Opening → Place → Terminal
opening_view o.Empty p = t.Sign g.Semicolon p
opening_view o.Block p = t.Sign g.LeftBrace p
opening_view (o.Declaration ty) p = t.Sort (Value ty) p
opening_view (o.Name text) p = t.Name text.now p
opening_view o.Next p = t.Key k.Next p
opening_view o.Put p = t.Key k.Put p
opening_view o.If p = t.Key k.If p
opening_view o.While p = t.Key k.While p
opening_view o.For p = t.Key k.For p
opening_view o.Try p = t.Key k.Try p
opening_view o.Throw p = t.Key k.Throw p

-- whether a statement begins with the terminal
abbrev pub opens : Terminal → Bool
opens (t.Sign g.Semicolon p) = true
opens (t.Sign g.LeftBrace p) = true
opens (t.Sort (Value ty) p) = true
opens (t.Name text p) = true
opens (t.Key k.Next p) = true
opens (t.Key k.Put p) = true
opens (t.Key k.If p) = true
opens (t.Key k.While p) = true
opens (t.Key k.For p) = true
opens (t.Key k.Try p) = true
opens (t.Key k.Throw p) = true
opens _ = false
