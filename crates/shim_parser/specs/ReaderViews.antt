-- What is left to read, and what a function of the parser promises of it.
use Rattle.std.specs.Prelude.{ℕ, ◌≡◌, ◌≤◌, List, [], ◌∷◌, ◌++◌, length, Bool, true, false, Result, Ok, Err}
use Rattle.shim_base.specs.declared.LexKind.{LexKind}
use Rattle.shim_base.specs.Tokens.{Place}
use Rattle.shim_syntax.specs.Terminals.{Terminal, Name, End, Broken, first, terminal_place}
use Rattle.shim_syntax.specs.Limits.{Limit, Nesting, Count, limits, is_within}
use Rattle.shim_syntax.specs.Grammar.{TextCounts}
use Rattle.shim_grammar.specs.Machine.{SymbolStack, Cause, Unwanted, Past, At, run_parser}
use Rattle.shim_parser.specs.declared.fault.ParseFault.{ParseFault}
use Rattle.shim_parser.specs.declared.fault.ParseFault.TheVariants.{Lex, Unexpected, TooDeep, TooMany, NoMemory}

-- the terminals that are left to read, and what was counted before them
pub record ReaderView : Type 0 where
  pub rest : List Terminal
  pub counts : TextCounts

-- the same terminals, and the counts changed by f
abbrev pub reader_with : (TextCounts → TextCounts) → ReaderView → ReaderView
reader_with f r = record { rest = r.rest; counts = f r.counts }

-- whether the terminal is the end of a text, or where the text can't be cut any further
abbrev pub is_last : Terminal → Bool
is_last (End p) = true
is_last (Broken kind p) = true
is_last _ = false

-- a name has 1 to 64 bytes
abbrev pub FitsName : Terminal → Type 0
FitsName (Name text p) = (1 ≤ length text) × (length text ≤ 64)
FitsName _ = Unit {0}

-- There is a terminal, each name has 1 to 64 bytes, and the last terminal alone passes `is_last`.
abbrev pub Proper : List Terminal → Type 0
Proper [] = ⊥
Proper (t ∷ []) = is_last t ≡ true
Proper (t ∷ u ∷ ts) = FitsName t × (is_last t ≡ false) × Proper (u ∷ ts)

-- what a fault says of the terminal at which it stands, and of the cause
abbrev pub Blames : ParseFault → Cause → Terminal → Type 0
Blames (Lex f) cause t = (cause ≡ Unwanted) × (t ≡ Broken f.kind (record { at = f.at; line = f.line }))
Blames (Unexpected at line) cause t = (cause ≡ Unwanted) × ((kind : LexKind) (p : Place) → t ≡ Broken kind p → ⊥) × (terminal_place t ≡ record { at = at; line = line })
Blames (TooDeep line) cause t = (cause ≡ Past Nesting) × ((terminal_place t).line ≡ line)
Blames (TooMany what line) cause t = (cause ≡ Past (Count what)) × ((terminal_place t).line ≡ line)
Blames NoMemory cause t = ⊥

-- The parser's machine, with these symbols to come and any others after them, halts at the terminals that are left. The fault is the machine's cause and place.
pub record Halts (stack : SymbolStack) (old new : ReaderView) (fault : ParseFault) : Type 0 where
  pub cause : Cause
  pub blames : Blames fault cause (first new.rest)
  pub halts : (k : SymbolStack) → run_parser limits old.rest (stack ++ k) old.counts ≡ At cause new.rest

-- the machine halts for that fault; `NoMemory` claims nothing
abbrev pub Fails : SymbolStack → ReaderView → ReaderView → ParseFault → Type 0
Fails stack old new NoMemory = Unit {0}
Fails stack old new fault = Halts stack old new fault

-- A value that was read has the relation X to the counts and the terminals that are left, before and after. Of a fault, the machine with these symbols to come halts at the terminals that are left. `NoMemory` claims nothing.
abbrev pub Reads : {V : Type 0} → (TextCounts → TextCounts → List Terminal → List Terminal → V → Type 0) → SymbolStack → Result V ParseFault → ReaderView → ReaderView → Type 0
Reads X stack (Ok x) old new = X old.counts new.counts old.rest new.rest x
Reads X stack (Err fault) old new = Fails stack old new fault

-- If the limit allows the number, `count` changes the counts. If it doesn't, nothing changes, and the fault blames the limit at the first terminal.
abbrev pub CountsWithin : Limit → ℕ → (TextCounts → TextCounts) → Result (Unit {0}) ParseFault → ReaderView → ReaderView → Type 0
CountsWithin limit n count (Ok x) old new = (is_within limit n ≡ true) × (new ≡ reader_with count old)
CountsWithin limit n count (Err fault) old new = (is_within limit n ≡ false) × (new ≡ old) × Blames fault (Past limit) (first old.rest)
