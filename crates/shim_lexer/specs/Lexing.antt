-- A text that is being cut into tokens, as contracts see it, and what the next call gives.
use Rattle.std.specs.Prelude.{ℕ, ◌+◌, ◌<◌, ◌≤◌, ◌≡◌, List, [], ◌∷◌, length, drop, Option, Some, None, Result, Ok, Err}
use Rattle.std.specs.List.{between}
use Rattle.shim_base.specs.Tokens.{Token, Place, place_after, Spells, IsWithinLimits, Fault, Cuts}
use Rattle.shim_lexer.specs.declared.token.Token.{Token as Given}
use Rattle.shim_lexer.specs.declared.token.LexFault.{LexFault}

-- a text that is cut token by token, with the place up to which it was read and the fault that was answered, if one was
pub record Lexing : Type 0 where
  -- the whole text
  pub text : List ℕ
  -- the place up to which it was read
  pub place : Place
  -- the fault that was answered
  pub fault : Option Fault

-- what is left to read
abbrev pub unread : Lexing → List ℕ
unread lexing = drop lexing.place.at lexing.text

-- the bytes of a token of the text
abbrev pub bytes_of : List ℕ → Given → List ℕ
bytes_of text t = between t.at t.past text

-- a token of the text, as the definition of tokens names it
abbrev pub token_of : List ℕ → Given → Token
token_of text t = record { kind = t.kind; text = bytes_of text t; at = t.at; line = t.line }

-- A fault of the code, as the definition of tokens names it. `fault_kept` names an optional fault like this.
abbrev pub fault_of : LexFault → Fault
fault_of f = record { at = f.at; line = f.line; kind = f.kind }

abbrev pub fault_kept : Option LexFault → Option Fault
fault_kept None = None
fault_kept (Some f) = Some (fault_of f)

-- The token is the next one of the text from this place on. Let the text after the token be cut into some tokens up to some end. Then the text from the place on is cut into the token and these, up to the same end.
pub record IsNext (text : List ℕ) (place : Place) (t : Given) : Type 0 where
  pub after_place : place.at ≤ t.at
  pub some : t.at < t.past
  pub within : t.past ≤ length text
  pub spells : Spells (bytes_of text t) t.kind
  pub fits : IsWithinLimits (bytes_of text t) t.kind
  pub cuts : (tokens : List Token) (end : Option Fault) → Cuts (record { at = t.past; line = t.line }) (drop t.past text) tokens end
      → Cuts place (drop place.at text) (token_of text t ∷ tokens) end

-- what stands in the text from this place on: a token, nothing but what is passed over, or a fault
abbrev pub Finds : List ℕ → Place → Result (Option Given) LexFault → Type 0
Finds text place (Ok (Some t)) = IsNext text place t
Finds text place (Ok None) = Cuts place (drop place.at text) [] None
Finds text place (Err f) = Cuts place (drop place.at text) [] (Some (fault_of f))

-- The token or the fault is within the text. A token's line is at most one above the number of bytes up to its end. A fault's line is at most one above the number of bytes before the fault.
abbrev pub IsInText : List ℕ → Result (Option Given) LexFault → Type 0
IsInText text (Ok (Some t)) = (t.past ≤ length text) × (t.line ≤ 1 + t.past)
IsInText text (Ok None) = Unit {0}
IsInText text (Err f) = (f.at ≤ length text) × (f.line ≤ 1 + f.at)

-- the reading after the answer: its place is after the token, at the end of the text, or at the fault, which is kept
abbrev pub place_behind : Lexing → Result (Option Given) LexFault → Lexing
place_behind old (Ok (Some t)) = record old { place = record { at = t.past; line = t.line } }
place_behind old (Ok None) = record old { place = place_after old.place (unread old) }
place_behind old (Err f) = record old { place = record { at = f.at; line = f.line }; fault = Some (fault_of f) }

-- What a call answers, by the fault that was answered before: this fault again, or what stands in the rest.
abbrev pub AnswersNext : Option Fault → Lexing → Lexing → Result (Option Given) LexFault → Type 0
AnswersNext (Some fault) old new result = (new ≡ old) × ((f : LexFault) × (result ≡ Err f) × (fault_of f ≡ fault))
AnswersNext None old new result = (new ≡ place_behind old result) × Finds old.text old.place result

-- Calls from this reading on answer these tokens, one after the other. The call after them answers the end of the text, or this fault.
pub data Run : Lexing → List Token → Option Fault → Type 0 where
  over : (old new : Lexing) → AnswersNext None old new (Ok None) → Run old [] None
  faulty : (old new : Lexing) (f : LexFault) → AnswersNext None old new (Err f) → Run old [] (Some (fault_of f))
  token : (old new : Lexing) (t : Given) (tokens : List Token) (end : Option Fault) → AnswersNext None old new (Ok (Some t)) → Run new tokens end
      → Run old (token_of old.text t ∷ tokens) end
