-- What a whole text comes to.
use Rattle.std.proofs.Common.{◌≡◌, ◌≤◌, ℕ, List, [], ◌∷◌, length, true, false, Option, Some, None, refl, sym, ◌∙◌, ap, subst, arith}
use Rattle.std.specs.Prelude.{Result, Ok, Err, IsTrue}
use Rattle.shim_base.specs.declared.token.TokenKind.{TokenKind}
use Rattle.shim_base.specs.declared.token.TokenKind.TheVariants.{Word, Key as KeyKind, Number as NumberKind, Sign as SignKind}
use Rattle.shim_base.specs.declared.token.Keyword.{Keyword}
use Rattle.shim_base.specs.declared.token.Keyword.TheVariants as k
use Rattle.shim_base.specs.declared.LexKind.{LexKind}
use Rattle.shim_base.specs.Tokens as cut
use Rattle.shim_base.specs.Tokens.{Token, Place, Spells, IsWithinLimits, is_name, Cuts, start, place_after}
use Rattle.shim_syntax.specs.declared.tree.Program.{Program}
use Rattle.shim_syntax.specs.Terminals.{Terminal, Broken, IsRead, of_keyword, of_kind, of_tokens, of_end, begins_two, first, terminal_place}
use Rattle.shim_syntax.specs.Grammar.{nothing_read}
use Rattle.shim_syntax.specs.Text as text
use Rattle.shim_syntax.specs.Text.{FaultCause, IsText, IsFaultAt, HasFault}
use Rattle.shim_grammar.specs.Machine.{Source, Cause, Unwanted, At}
use Rattle.shim_grammar.proofs.Place.{fault_of}
use Rattle.shim_grammar.proofs.Faults.{stops}
use Rattle.shim_grammar.proofs.Once.{one_program}
use Rattle.shim_grammar.proofs.Exact.{text_or_fault, one_fault}
use Rattle.shim_parser.specs.declared.fault.ParseFault.{ParseFault}
use Rattle.shim_parser.specs.declared.fault.ParseFault.TheVariants.{Lex, Unexpected, TooDeep, TooMany, NoMemory}
use Rattle.shim_parser.specs.Parsing.{IsReportedAs, IsFaultOf, ParsesAs, IsOnly}
use Rattle.shim_parser.specs.ReaderViews.{ReaderView, FitsName, Proper, is_last, Blames, Halts, Fails}
use Rattle.shim_parser.specs.Sources.{IsWholeSource}
use Rattle.shim_parser.proofs.Versions.{proper_seen}

-- the tokens of a text are proper terminals
some_bytes : (bytes : List ℕ) → IsTrue (is_name bytes) → 1 ≤ length bytes
some_bytes [] h = absurd (cc)
some_bytes (b ∷ bytes) h = omega arith

keyword_is : (key : Keyword) (p : Place) → FitsName (of_keyword key p) × (is_last (of_keyword key p) ≡ false)
keyword_is k.TrueKey p = (tt, refl)
keyword_is k.FalseKey p = (tt, refl)
keyword_is k.Bool p = (tt, refl)
keyword_is k.Int p = (tt, refl)
keyword_is k.Int8 p = (tt, refl)
keyword_is k.Int16 p = (tt, refl)
keyword_is k.Int32 p = (tt, refl)
keyword_is k.Uint8 p = (tt, refl)
keyword_is k.Uint16 p = (tt, refl)
keyword_is k.Uint32 p = (tt, refl)
keyword_is k.Istream p = (tt, refl)
keyword_is k.Ostream p = (tt, refl)
keyword_is _ p = (tt, refl)

token_is : (kind : TokenKind) (bytes : List ℕ) (p : Place) → Spells bytes kind → IsWithinLimits bytes kind → FitsName (of_kind kind bytes p) × (is_last (of_kind kind bytes p) ≡ false)
token_is Word bytes p h i = ((some_bytes bytes h.0, i), refl)
token_is (KeyKind key) bytes p h i = keyword_is key p
token_is (NumberKind n) bytes p h i = (tt, refl)
token_is (SignKind sign) bytes p h i = (tt, refl)

proper_more : (t : Terminal) (ts : List Terminal) → FitsName t → is_last t ≡ false → Proper ts → Proper (t ∷ ts)
proper_more t [] n l p = absurd p
proper_more t (u ∷ ts) n l p = (n, l, p)

proper_cut : {place : Place} {bytes : List ℕ} {tokens : List Token} {end : Option cut.Fault} → Cuts place bytes tokens end → (last : Terminal) → is_last last ≡ true → Proper (of_tokens tokens last)
proper_cut (cut.ended place) last h = h
proper_cut (cut.passed place bytes over rest tokens end p c) last h = proper_cut c last h
proper_cut (cut.token place bytes text rest kind tokens end n f w c) last h =
    let t = token_is kind text (record { at = place.at; line = place.line }) f.spells w in proper_more _ _ t.0 t.1 (proper_cut c last h)
proper_cut (cut.faulty place bytes kind n f) last h = h

end_is_last : (p : Place) (end : Option cut.Fault) → is_last (of_end p end) ≡ true
end_is_last p None = refl
end_is_last p (Some fault) = refl

pub proper : (bytes : List ℕ) (ts : List Terminal) → IsRead bytes ts → Proper ts
proper bytes ts r =
    let cut = of_tokens r.tokens (of_end (place_after start bytes) r.end) in
    subst Proper (sym r.are) (proper_seen (begins_two cut) cut (proper_cut r.cut (of_end (place_after start bytes) r.end) (end_is_last (place_after start bytes) r.end)))

pub proper_some : (ts : List Terminal) → Proper ts → (r : List Terminal) × (ts ≡ first ts ∷ r)
proper_some [] p = absurd p
proper_some (t ∷ ts) p = (ts, refl)

-- a program that was read
pub text_is : (bytes : List ℕ) (ts : List Terminal) (b : ReaderView) (program : Program) → IsRead bytes ts → IsWholeSource nothing_read b.counts ts b.rest program → IsText bytes program
text_is bytes ts b program r p = record { terminals = ts; read = r; derives = p.2 }

-- a fault at which the reading stopped
not_broken : (x : Terminal) → ((kind : LexKind) (p : Place) → x ≡ Broken kind p → ⊥) → fault_of Unwanted x ≡ text.Unexpected
not_broken (Broken kind p) h = absurd (h kind p refl)
not_broken _ h = refl

module _ (bytes : List ℕ) (ts : List Terminal) (r : IsRead bytes ts) (new : ReaderView) (left : List Terminal) (e : new.rest ≡ first new.rest ∷ left) where
  has_fault : (fault : ParseFault) → Halts (Source ∷ []) (record { rest = ts; counts = nothing_read }) new fault
      → (cause : Cause) × Blames fault cause (first new.rest) × HasFault bytes (fault_of cause (first new.rest)) (terminal_place (first new.rest))
  has_fault fault h = (h.cause, h.blames, (ts, r, stops h.cause ts (first new.rest) left (h.halts [] ∙ ap (λ s. At h.cause s) e)))

  pub fault_answers : (fault : ParseFault) → Fails (Source ∷ []) (record { rest = ts; counts = nothing_read }) new fault → ParsesAs bytes (Err fault)
  fault_answers NoMemory h = tt
  fault_answers (Lex f) h = let w = has_fault (Lex f) h in let x = first new.rest in
      (fault_of w.0 x, terminal_place x, w.2, (ap (λ c. fault_of c x) w.1.0 ∙ ap (λ t. fault_of Unwanted t) w.1.1, ap terminal_place w.1.1))
  fault_answers (Unexpected at line) h = let w = has_fault (Unexpected at line) h in let x = first new.rest in
      (fault_of w.0 x, terminal_place x, w.2, (ap (λ c. fault_of c x) w.1.0 ∙ not_broken x w.1.1, w.1.2))
  fault_answers (TooDeep line) h = let w = has_fault (TooDeep line) h in let x = first new.rest in
      (fault_of w.0 x, terminal_place x, w.2, (ap (λ c. fault_of c x) w.1.0, w.1.1))
  fault_answers (TooMany what line) h = let w = has_fault (TooMany what line) h in let x = first new.rest in
      (fault_of w.0 x, terminal_place x, w.2, (ap (λ c. fault_of c x) w.1.0, w.1.1))

-- a text has one answer
only_fault : (bytes : List ℕ) (fault : ParseFault) → IsFaultOf bytes fault
    → ((other : Program) → IsText bytes other → ⊥) × ((g : FaultCause) (place : Place) → HasFault bytes g place → IsReportedAs fault g place)
only_fault bytes fault (f, place, h, t) = (
  λ other i. text_or_fault bytes other f place i h,
  λ g q i. let w = one_fault bytes f g place q h i in subst (λ u. IsReportedAs fault g u) w.1 (subst (λ u. IsReportedAs fault u place) w.0 t),
)

pub only : (bytes : List ℕ) (result : Result Program ParseFault) → ParsesAs bytes result → IsOnly bytes result
only bytes (Ok program) h = (λ other i. one_program bytes other program i h, λ f place i. text_or_fault bytes program f place h i)
only bytes (Err NoMemory) h = tt
only bytes (Err (Lex f)) h = only_fault bytes (Lex f) h
only bytes (Err (Unexpected at line)) h = only_fault bytes (Unexpected at line) h
only bytes (Err (TooDeep line)) h = only_fault bytes (TooDeep line) h
only bytes (Err (TooMany what line)) h = only_fault bytes (TooMany what line) h
