-- How the machine goes over the parts of a statement, one after the other.
use Rattle.std.proofs.Common.{◌≡◌, ℕ, suc, List, ◌∷◌, ◌++◌, refl, ◌∙◌, ap, subst}
use Rattle.shim_base.specs.Tokens.{Place}
use Rattle.shim_syntax.specs.declared.Expr.{Expr}
use Rattle.shim_syntax.specs.declared.Stmt.{Stmt}
use Rattle.shim_syntax.specs.Terminals.{Terminal, first}
use Rattle.shim_syntax.specs.Limits.{limits}
use Rattle.shim_syntax.specs.Grammar.{TextCounts, IsBlock, IsBody}
use Rattle.shim_grammar.specs.declared.punctuation.Punctuation.{Punctuation}
use Rattle.shim_grammar.specs.declared.punctuation.Punctuation.TheVariants as punctuation
use Rattle.shim_grammar.specs.Machine.{SymbolStack, At, Fixed, Expression, Operators, Arguments, Block, Body, First, Test, Step, run_parser}
use Rattle.shim_grammar.proofs.Runs.{whole_runs, arguments_runs, test_runs}
use Rattle.shim_grammar.proofs.RunsStmt.{block_runs, body_runs, first_runs, step_runs}
use Rattle.shim_parser.specs.declared.fault.ParseFault.{ParseFault}
use Rattle.shim_parser.specs.declared.fault.ParseFault.TheVariants.{Lex, Unexpected, TooDeep, TooMany, NoMemory}
use Rattle.shim_parser.specs.declared.for_parts.ForParts.{ForParts}
use Rattle.shim_parser.specs.Parts.{punctuationed, IsPunctuation, IsTestOf}
use Rattle.shim_parser.specs.Calls.{IsCall}
use Rattle.shim_parser.specs.Headers.{IsHeader}
use Rattle.shim_parser.specs.ReaderViews.{ReaderView, Blames, Halts, Fails}
use Rattle.shim_parser.proofs.Exits.{Leads}

pub then : (x y z : SymbolStack) (a b c : ReaderView) → Leads x y a b → Leads y z b c → Leads x z a c
then x y z a b c f g = λ k. f k ∙ g k

-- from equal terminals and counts
pub same_run : (s t : List Terminal) (k : SymbolStack) (v w : TextCounts) → s ≡ t → v ≡ w → run_parser limits s k v ≡ run_parser limits t k w
same_run s t k v w p q = ap (λ u. run_parser limits u k v) p ∙ ap (λ u. run_parser limits t k u) q

punctuation_run : (f : Punctuation) (p : Place) (s : List Terminal) (k : SymbolStack) (w : TextCounts) → run_parser limits (punctuationed f p ∷ s) (Fixed f ∷ k) w ≡ run_parser limits s k w
punctuation_run punctuation.LeftParen p s k w = refl
punctuation_run punctuation.RightParen p s k w = refl
punctuation_run punctuation.LeftBrace p s k w = refl
punctuation_run punctuation.Comma p s k w = refl
punctuation_run punctuation.Semicolon p s k w = refl
punctuation_run punctuation.Equal p s k w = refl
punctuation_run punctuation.Catch p s k w = refl

pub punctuation_leads : (f : Punctuation) (z : SymbolStack) (a b : ReaderView) → IsPunctuation f a.counts b.counts a.rest b.rest tt → Leads (Fixed f ∷ z) z a b
punctuation_leads f z a b h = λ k. same_run a.rest (punctuationed f h.0 ∷ b.rest) (Fixed f ∷ (z ++ k)) a.counts b.counts h.1 h.2 ∙ punctuation_run f h.0 b.rest (z ++ k) b.counts

pub block_leads : (l : ℕ) (z : SymbolStack) (a b : ReaderView) (xs : List Stmt) → IsBlock limits l a.counts b.counts a.rest b.rest xs → Leads (Block l ∷ z) z a b
block_leads l z a b xs d = λ k. block_runs d (z ++ k)

pub body_leads : (l : ℕ) (z : SymbolStack) (a b : ReaderView) (xs : List Stmt) → IsBody limits l a.counts b.counts a.rest b.rest xs → Leads (Body l ∷ z) z a b
body_leads l z a b xs d = λ k. body_runs d (z ++ k)

pub test_leads : (l : ℕ) (z : SymbolStack) (a b : ReaderView) (x : Expr) → IsTestOf l a.counts b.counts a.rest b.rest x → Leads (Fixed punctuation.LeftParen ∷ Expression l ∷ Operators l ∷ Fixed punctuation.RightParen ∷ z) z a b
test_leads l z a b x h = λ k. ap (λ u. run_parser limits u (Fixed punctuation.LeftParen ∷ Expression l ∷ Operators l ∷ Fixed punctuation.RightParen ∷ (z ++ k)) a.counts) h.3
    ∙ whole_runs a.counts h.4 (Fixed punctuation.RightParen ∷ (z ++ k))

pub call_leads : (l : ℕ) (z : SymbolStack) (a b : ReaderView) (xs : List Expr) → IsCall l a.counts b.counts a.rest b.rest xs → Leads (Arguments l ∷ Fixed punctuation.Semicolon ∷ z) z a b
call_leads l z a b xs h = λ k. arguments_runs h.1 (Fixed punctuation.Semicolon ∷ (z ++ k))

pub header_leads : (l : ℕ) (z : SymbolStack) (a b : ReaderView) (parts : ForParts) → IsHeader l a.counts b.counts a.rest b.rest parts → Leads (Fixed punctuation.LeftParen ∷ First (suc l) ∷ Test l ∷ Step (suc l) ∷ z) z a b
header_leads l z a b parts h = λ k. ap (λ u. run_parser limits u (Fixed punctuation.LeftParen ∷ First (suc l) ∷ Test l ∷ Step (suc l) ∷ (z ++ k)) a.counts) h.6
    ∙ first_runs h.7 (Test l ∷ Step (suc l) ∷ (z ++ k)) ∙ test_runs h.8 (Step (suc l) ∷ (z ++ k)) ∙ step_runs h.9 (z ++ k)

-- only the terminals that are left matter to a fault
halts_there : (x : SymbolStack) (a c d : ReaderView) (e : ParseFault) → c.rest ≡ d.rest → Halts x a c e → Halts x a d e
halts_there x a c d e p h = record {
  cause = h.cause;
  blames = subst (λ u. Blames e h.cause (first u)) p h.blames;
  halts = λ k. h.halts k ∙ ap (λ u. At h.cause u) p;
}

pub fails_there : (x : SymbolStack) (a c d : ReaderView) (e : ParseFault) → c.rest ≡ d.rest → Fails x a c e → Fails x a d e
fails_there x a c d NoMemory p h = tt
fails_there x a c d (Lex l) p h = halts_there x a c d (Lex l) p h
fails_there x a c d (Unexpected at line) p h = halts_there x a c d (Unexpected at line) p h
fails_there x a c d (TooDeep line) p h = halts_there x a c d (TooDeep line) p h
fails_there x a c d (TooMany what line) p h = halts_there x a c d (TooMany what line) p h
