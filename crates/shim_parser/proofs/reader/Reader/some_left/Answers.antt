use Rattle.std.proofs.Common.{List, ◌∷◌, ◌≡◌, subst}
use Rattle.shim_syntax.specs.Terminals.{Terminal, first}
use Rattle.shim_parser.specs.ReaderViews.{ReaderView}
use Rattle.shim_parser.proofs.ParserExits.{proper_some}
use Rattle.shim_parser.proofs.reader.Reader.some_left.Goals as goal

pub returns : goal.returns
returns c = subst (λ (u : ReaderView). (r : List Terminal) × (u.rest ≡ first u.rest ∷ r)) c.self.view_is (proper_some _ c.self.invariant.0)
