-- Bytes with a fault have it alone.
use Rattle.std.proofs.Common.{◌≡◌, ℕ, List, Err, refl, sym, ap, ◌∙◌}
use Rattle.shim_base.specs.Tokens.{Place}
use Rattle.shim_lexer.specs.declared.token.LexFault.{LexFault}
use Rattle.shim_syntax.specs.Text.{FaultCause, HasFault}
use Rattle.shim_parser.specs.declared.ParseFault.{ParseFault}
use Rattle.shim_parser.specs.declared.ParseFault.TheVariants.{Lex, Unexpected, TooDeep, TooMany, NoMemory}
use Rattle.shim_parser.specs.Parsing.{IsReportedAs, IsFaultOf, ParsesAs, IsOnly}
use Rattle.shim_front_end.specs.FrontEnd.{IsOnlyFault}

-- a fault of a text that can't be cut, by its parts
same_cut : (x y : LexFault) → x.at ≡ y.at → x.line ≡ y.line → x.kind ≡ y.kind → x ≡ y
same_cut x y at line kind = λ k. record { at = at k; line = line k; kind = kind k }

-- what one fault at one place is reported as
reported_once : (a b : ParseFault) (f : FaultCause) (p : Place) → IsReportedAs a f p → IsReportedAs b f p → a ≡ b
reported_once (Lex x) (Lex y) f p g h =
    let kind : x.kind ≡ y.kind = cc (g.0, h.0) in
    let at : x.at ≡ y.at = ap (λ (q : Place). q.at) (sym g.1 ∙ h.1) in
    let line : x.line ≡ y.line = ap (λ (q : Place). q.line) (sym g.1 ∙ h.1) in
    ap (λ (z : LexFault). Lex z) (same_cut x y at line kind)
reported_once (Lex x) (Unexpected at line) f p g h = absurd (cc (g.0, h.0))
reported_once (Lex x) (TooDeep line) f p g h = absurd (cc (g.0, h.0))
reported_once (Lex x) (TooMany what line) f p g h = absurd (cc (g.0, h.0))
reported_once (Unexpected at line) (Lex y) f p g h = absurd (cc (g.0, h.0))
reported_once (Unexpected at line) (Unexpected there behind) f p g h =
    let place : at ≡ there = ap (λ (q : Place). q.at) (sym g.1 ∙ h.1) in
    let same : line ≡ behind = ap (λ (q : Place). q.line) (sym g.1 ∙ h.1) in
    cc
reported_once (Unexpected at line) (TooDeep behind) f p g h = absurd (cc (g.0, h.0))
reported_once (Unexpected at line) (TooMany what behind) f p g h = absurd (cc (g.0, h.0))
reported_once (TooDeep line) (Lex y) f p g h = absurd (cc (g.0, h.0))
reported_once (TooDeep line) (Unexpected at behind) f p g h = absurd (cc (g.0, h.0))
reported_once (TooDeep line) (TooDeep behind) f p g h = cc (g.1, h.1)
reported_once (TooDeep line) (TooMany what behind) f p g h = absurd (cc (g.0, h.0))
reported_once (TooMany what line) (Lex y) f p g h = absurd (cc (g.0, h.0))
reported_once (TooMany what line) (Unexpected at behind) f p g h = absurd (cc (g.0, h.0))
reported_once (TooMany what line) (TooDeep behind) f p g h = absurd (cc (g.0, h.0))
reported_once (TooMany what line) (TooMany other behind) f p g h = cc (g.0, h.0, g.1, h.1)
reported_once NoMemory b f p g h = absurd g
reported_once a NoMemory f p g h = absurd h

fault_once : (bytes : List ℕ) (fault other : ParseFault) → ((f : FaultCause) (place : Place) → HasFault bytes f place → IsReportedAs fault f place) → IsFaultOf bytes other → other ≡ fault
fault_once bytes fault other only (f, place, has, reported) = reported_once other fault f place reported (only f place has)

-- the fault that the parser answers is the only one
pub only_fault : (bytes : List ℕ) (fault : ParseFault) → (fault ≡ NoMemory → ⊥) → ParsesAs bytes (Err fault) → IsOnly bytes (Err fault) → IsOnlyFault bytes fault
only_fault bytes (Lex x) apart is only = record { faulty = is; only = λ other h. fault_once bytes (Lex x) other only.1 h; textless = only.0 }
only_fault bytes (Unexpected at line) apart is only = record { faulty = is; only = λ other h. fault_once bytes (Unexpected at line) other only.1 h; textless = only.0 }
only_fault bytes (TooDeep line) apart is only = record { faulty = is; only = λ other h. fault_once bytes (TooDeep line) other only.1 h; textless = only.0 }
only_fault bytes (TooMany what line) apart is only = record { faulty = is; only = λ other h. fault_once bytes (TooMany what line) other only.1 h; textless = only.0 }
only_fault bytes NoMemory apart is only = absurd (apart refl)
