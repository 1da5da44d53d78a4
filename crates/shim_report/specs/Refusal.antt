-- The line that says why a source is refused.
use Rattle.std.specs.Prelude.{ℕ, List, [], ◌++◌, codes, decimal}
use Rattle.shim_base.specs.declared.token.LexKind.{LexKind}
use Rattle.shim_base.specs.declared.token.LexKind.TheVariants.{BadByte, LongName, BigNumber, OpenComment}
use Rattle.shim_lexer.specs.declared.token.LexFault.{LexFault}
use Rattle.shim_syntax.specs.declared.limits.Many.{Many}
use Rattle.shim_syntax.specs.declared.limits.Many.TheVariants.{Functions, Parameters, Arguments, Throws, Locals, Branches, Operators}
use Rattle.shim_parser.specs.declared.fault.ParseFault.{ParseFault}
use Rattle.shim_parser.specs.declared.fault.ParseFault.TheVariants.{Lex, Unexpected, TooDeep, TooMany, NoMemory}
use Rattle.shim_scopes.specs.declared.fault.ScopeKind.{ScopeKind}
use Rattle.shim_scopes.specs.declared.fault.ScopeKind.TheVariants.{UnknownName, UnknownFunction, UnknownException, Twice, Arity, WrongKind, NoMain, MainParameters}
use Rattle.shim_scopes.specs.declared.fault.ScopeFault.{ScopeFault}
use Rattle.shim_scopes.specs.declared.fault.ScopeFault.TheVariants.{Refused, NoMemory as NoScopeMemory}
use Rattle.shim_sharing.specs.declared.fault.ShareFault.{ShareFault}
use Rattle.shim_sharing.specs.declared.fault.ShareFault.TheVariants.{TwoWriters, Alias, NoMemory as NoShareMemory}
use Rattle.shim_front_end.specs.declared.SourceFault.{SourceFault}
use Rattle.shim_front_end.specs.declared.SourceFault.TheVariants.{Parse, Scope, Share}

-- `refused LINE CAUSE AT`, AT being a place of the source, counted from 0
unfoldable pub refusal_with_place : ℕ → List ℕ → ℕ → List ℕ
refusal_with_place line cause at = codes "refused " ++ (decimal line ++ (codes " " ++ (cause ++ (codes " " ++ (decimal at ++ codes "\n")))))

-- `refused LINE CAUSE NAME`
unfoldable pub refusal_with_name : ℕ → List ℕ → List ℕ → List ℕ
refusal_with_name line cause name = codes "refused " ++ (decimal line ++ (codes " " ++ (cause ++ (codes " " ++ (name ++ codes "\n")))))

-- `refused LINE two writers NAME FIRST SECOND`, the branches counted from 0
unfoldable pub refusal_with_branches : ℕ → List ℕ → ℕ → ℕ → List ℕ
refusal_with_branches line name first second =
    codes "refused " ++ (decimal line ++ (codes " two writers " ++ (name ++ (codes " " ++ (decimal first ++ (codes " " ++ (decimal second ++ codes "\n")))))))

-- `refused LINE CAUSE`
unfoldable pub refusal_without_place : ℕ → List ℕ → List ℕ
refusal_without_place line cause = codes "refused " ++ (decimal line ++ (codes " " ++ (cause ++ codes "\n")))

-- why a text can't be cut
abbrev pub cause_of : LexKind → List ℕ
cause_of BadByte = codes "bad byte"
cause_of LongName = codes "long name"
cause_of BigNumber = codes "big number"
cause_of OpenComment = codes "open comment"

-- what there are too many of
abbrev pub many_words : Many → List ℕ
many_words Functions = codes "too many functions"
many_words Parameters = codes "too many parameters"
many_words Arguments = codes "too many arguments"
many_words Throws = codes "too many throws"
many_words Locals = codes "too many locals"
many_words Branches = codes "too many branches"
many_words Operators = codes "too many operators"

-- `refused LINE CAUSE AT`, for a text that can't be cut into tokens
abbrev pub refusal_of_cutting : LexFault → List ℕ
refusal_of_cutting fault = refusal_with_place fault.line (cause_of fault.kind) fault.at

-- the line that reports a fault of reading; `NoMemory` has none
abbrev pub refusal_of : ParseFault → List ℕ
refusal_of (Lex fault) = refusal_of_cutting fault
refusal_of (Unexpected at line) = refusal_with_place line (codes "unexpected") at
refusal_of (TooDeep line) = refusal_without_place line (codes "too deep")
refusal_of (TooMany what line) = refusal_without_place line (many_words what)
refusal_of NoMemory = []

-- a name that isn't bound as it must be; what is wrong with `main` itself is printed without its name
abbrev pub refusal_of_binding : ℕ → ScopeKind → List ℕ → List ℕ
refusal_of_binding line UnknownName name = refusal_with_name line (codes "unknown name") name
refusal_of_binding line UnknownFunction name = refusal_with_name line (codes "unknown function") name
refusal_of_binding line UnknownException name = refusal_with_name line (codes "unknown exception") name
refusal_of_binding line Twice name = refusal_with_name line (codes "twice") name
refusal_of_binding line Arity name = refusal_with_name line (codes "arity") name
refusal_of_binding line WrongKind name = refusal_with_name line (codes "wrong kind") name
refusal_of_binding line NoMain name = refusal_without_place line (codes "no main")
refusal_of_binding line MainParameters name = refusal_without_place line (codes "main parameters")

-- the line that reports a fault of binding; `NoMemory` has none
abbrev pub refusal_of_scope : ScopeFault → List ℕ
refusal_of_scope (Refused line kind name) = refusal_of_binding line kind name
refusal_of_scope NoScopeMemory = []

-- the line that reports a fault of the sharing rule; `NoMemory` has none
abbrev pub refusal_of_sharing : ShareFault → List ℕ
refusal_of_sharing (TwoWriters line name first second) = refusal_with_branches line name first second
refusal_of_sharing (Alias line name) = refusal_with_name line (codes "alias") name
refusal_of_sharing NoShareMemory = []

-- the line that reports a fault, with its line feed; nothing for a `NoMemory`
abbrev pub refusal_text : SourceFault → List ℕ
refusal_text (Parse fault) = refusal_of fault
refusal_text (Scope fault) = refusal_of_scope fault
refusal_text (Share fault) = refusal_of_sharing fault
