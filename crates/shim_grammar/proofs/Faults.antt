-- The machine's halt is the fault of the text, since what a stack takes can be stepped through and any stack can be ended.
use Rattle.std.proofs.Common.{◌≡◌, List, [], ◌∷◌}
use Rattle.shim_syntax.specs.Terminals.{Terminal, terminal_place}
use Rattle.shim_syntax.specs.Limits.{limits}
use Rattle.shim_syntax.specs.Grammar.{nothing_read}
use Rattle.shim_syntax.specs.Text.{IsFaultAt}
use Rattle.shim_grammar.specs.Machine.{Source, At, Cause, run_parser}
use Rattle.shim_grammar.proofs.Goes.{sound, finish, finishes}
use Rattle.shim_grammar.proofs.Place.{fault_of, stops as stops_from}

pub stops : (cause : Cause) (s : List Terminal) (x : Terminal) (behind : List Terminal) → run_parser limits s (Source ∷ []) nothing_read ≡ At cause (x ∷ behind) → IsFaultAt (fault_of cause x) (terminal_place x) s
stops cause s x behind e = stops_from sound finish finishes cause s x behind e
