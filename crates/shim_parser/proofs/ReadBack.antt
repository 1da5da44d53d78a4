-- What is printed is read back.
use Rattle.std.proofs.Common.{ℕ, List, Result, Ok, Err, subst}
use Rattle.shim_syntax.specs.declared.Program.{Program}
use Rattle.shim_syntax.specs.Printing.{canonical}
use Rattle.shim_syntax.specs.Same.{SameButLines}
use Rattle.shim_syntax.specs.Text.{IsText}
use Rattle.shim_syntax.proofs.Programs.{canonical_is_text}
use Rattle.shim_parser.specs.declared.fault.ParseFault.{ParseFault}
use Rattle.shim_parser.specs.declared.fault.ParseFault.TheVariants.{Lex, Unexpected, TooDeep, TooMany, NoMemory}
use Rattle.shim_parser.specs.Parsing.{ParsesAs, IsOnly, IsReadBack}

pub read_back : (bytes : List ℕ) (p : Program) (result : Result Program ParseFault) → IsText bytes p → ParsesAs (canonical p) result → IsOnly (canonical p) result → IsReadBack p result
read_back bytes p (Ok r) t a o = let q = canonical_is_text bytes p t in subst (λ u. SameButLines p u) (o.0 q.0 q.1) q.2
read_back bytes p (Err NoMemory) t a o = tt
read_back bytes p (Err (Lex f)) t a o = let q = canonical_is_text bytes p t in o.0 q.0 q.1
read_back bytes p (Err (Unexpected at line)) t a o = let q = canonical_is_text bytes p t in o.0 q.0 q.1
read_back bytes p (Err (TooDeep line)) t a o = let q = canonical_is_text bytes p t in o.0 q.0 q.1
read_back bytes p (Err (TooMany what line)) t a o = let q = canonical_is_text bytes p t in o.0 q.0 q.1
