-- How a text is cut: each step, and that there is one cutting at most.
use Rattle.std.proofs.Common.{ℕ, ◌+◌, ◌≤◌, ◌<◌, ◌^◌, ◌≡◌, pos, ◌<ℤ◌, List, [], ◌∷◌, length, Option, Some, None, refl, sym, ap, subst, ◌∙◌, arith, inr}
use Rattle.std.proofs.lemmas.List.{length-append}
use Rattle.std.proofs.lemmas.Int.{ints}
use Rattle.shim_base.specs.declared.token.TokenKind.{TokenKind}
use Rattle.shim_base.specs.declared.token.TokenKind.TheVariants.{Word, Number}
use Rattle.shim_base.specs.declared.token.LexKind.{LexKind}
use Rattle.shim_base.specs.declared.token.LexKind.TheVariants.{BadByte, LongName, BigNumber, OpenComment}
use Rattle.shim_base.specs.Tokens.{IsWithinLimits, IsLongestToken, Token, Place, place_after, IsComment, Skips, IsFault, Fault, Cuts, ended, passed, token, faulty}
use Rattle.shim_base.proofs.FirstToken.{no_empty_token, one_first, IsSameToken}
use Rattle.shim_base.proofs.Passing.{one_pass, no_pass_of_none, no_pass_of_token}

-- no token stands first in no bytes
pub no_first_of_none : (text rest : List ℕ) (kind : TokenKind) → IsLongestToken [] text rest kind → ⊥
no_first_of_none [] rest kind h = no_empty_token kind h.spells
no_first_of_none (b ∷ text) rest kind h = absurd (let w = h.whole in cc)

-- a token takes a byte at least
pub first_takes : (bytes text rest : List ℕ) (kind : TokenKind) → IsLongestToken bytes text rest kind → (1 ≤ length text) × (length bytes ≡ length text + length rest)
first_takes bytes [] rest kind h = absurd (no_empty_token kind h.spells)
first_takes bytes (b ∷ text) rest kind h = (omega arith, ap (λ (l : List ℕ). length l) h.whole ∙ length-append (b ∷ text) rest)

-- no fault stands in no bytes
no_fault_of_none : (kind : LexKind) → IsFault kind [] → ⊥
no_fault_of_none BadByte h = h.0 refl
no_fault_of_none LongName h = no_first_of_none h.1 h.2 Word h.3
no_fault_of_none BigNumber h = no_first_of_none h.1 h.2 (Number (pos h.3)) h.4
no_fault_of_none OpenComment h = absurd (let w = h.0.1 in cc)

-- a name that is too long isn't within limits
long_not_within : (text other : List ℕ) (kind : TokenKind) → text ≡ other → kind ≡ Word → IsWithinLimits text kind → 64 < length other → ⊥
long_not_within text other kind same kind_is fits long =
    let P : TokenKind → Type 0 = λ k. IsWithinLimits text k in
    let short : length text ≤ 64 = subst P kind_is fits in
    let n : length text ≡ length other = ap (λ (l : List ℕ). length l) same in
    absurd (omega (arith, short, n, long))

-- nor is a number that is too big
big_not_within : (text : List ℕ) (n : ℕ) (kind : TokenKind) → kind ≡ Number (pos n) → IsWithinLimits text kind → 2 ^ 63 ≤ n → ⊥
big_not_within text n kind kind_is fits big =
    let P : TokenKind → Type 0 = λ k. IsWithinLimits text k in
    let small : pos n <ℤ pos (2 ^ 63) = subst P kind_is fits in
    absurd (omega (arith, ints, small, big))

-- where a token within limits stands and no comment, there is no fault
pub no_fault_of_token : (bytes text rest : List ℕ) (kind : TokenKind) (fault : LexKind) → (IsComment bytes → ⊥) → IsLongestToken bytes text rest kind → IsWithinLimits text kind →
    IsFault fault bytes → ⊥
no_fault_of_token bytes text rest kind BadByte no_comment first fits h = h.2 text rest kind first
no_fault_of_token bytes text rest kind LongName no_comment first fits h =
    let same = one_first bytes text rest h.1 h.2 kind Word first h.3 in
    long_not_within text h.1 kind same.text_is same.kind_is fits h.4
no_fault_of_token bytes text rest kind BigNumber no_comment first fits h =
    let same = one_first bytes text rest h.1 h.2 kind (Number (pos h.3)) first h.4 in
    big_not_within text h.3 kind same.kind_is fits h.5
no_fault_of_token bytes text rest kind OpenComment no_comment first fits h = no_comment (inr h.0)

-- a word is no number
word_no_number : (bytes text rest other other_rest : List ℕ) (n : ℕ) → IsLongestToken bytes text rest Word → IsLongestToken bytes other other_rest (Number (pos n)) → ⊥
word_no_number bytes text rest other other_rest n first second =
    let same = one_first bytes text rest other other_rest Word (Number (pos n)) first second in
    absurd (let e = same.kind_is in cc)

-- each fault excludes the others
pub one_fault : (bytes : List ℕ) (kind other : LexKind) → IsFault kind bytes → IsFault other bytes → kind ≡ other
one_fault bytes BadByte BadByte h k = refl
one_fault bytes BadByte LongName h k = absurd (h.2 k.1 k.2 Word k.3)
one_fault bytes BadByte BigNumber h k = absurd (h.2 k.1 k.2 (Number (pos k.3)) k.4)
one_fault bytes BadByte OpenComment h k = absurd (h.1 (inr k.0))
one_fault bytes LongName BadByte h k = absurd (k.2 h.1 h.2 Word h.3)
one_fault bytes LongName LongName h k = refl
one_fault bytes LongName BigNumber h k = absurd (word_no_number bytes h.1 h.2 k.1 k.2 k.3 h.3 k.4)
one_fault bytes LongName OpenComment h k = absurd (h.0 (inr k.0))
one_fault bytes BigNumber BadByte h k = absurd (k.2 h.1 h.2 (Number (pos h.3)) h.4)
one_fault bytes BigNumber LongName h k = absurd (word_no_number bytes k.1 k.2 h.1 h.2 h.3 k.3 h.4)
one_fault bytes BigNumber BigNumber h k = refl
one_fault bytes BigNumber OpenComment h k = absurd (h.0 (inr k.0))
one_fault bytes OpenComment BadByte h k = absurd (k.1 (inr h.0))
one_fault bytes OpenComment LongName h k = absurd (k.0 (inr h.0))
one_fault bytes OpenComment BigNumber h k = absurd (k.0 (inr h.0))
one_fault bytes OpenComment OpenComment h k = refl

-- two cuttings are one
pub record IsSameCutting (tokens others : List Token) (end other_end : Option Fault) : Type 0 where
  pub tokens_are : tokens ≡ others
  pub end_is : end ≡ other_end

-- a token at a place
abbrev pub token_at : Place → List ℕ → TokenKind → Token
token_at place text kind = record { kind = kind; text = text; at = place.at; line = place.line }

-- a fault at a place
abbrev pub fault_at : Place → LexKind → Fault
fault_at place kind = record { at = place.at; line = place.line; kind = kind }

-- a cutting of no bytes has no token and no fault
pub cuts_none : (place : Place) (tokens : List Token) (end : Option Fault) → Cuts place [] tokens end → IsSameCutting tokens [] end None
cuts_none place _ _ (ended _) = record { tokens_are = refl; end_is = refl }
cuts_none place _ _ (passed _ _ over rest tokens end passes more) = absurd (no_pass_of_none over rest passes)
cuts_none place _ _ (token _ _ text rest kind tokens end no_comment first fits more) = absurd (no_first_of_none text rest kind first)
cuts_none place _ _ (faulty _ _ kind no_pass fault) = absurd (no_fault_of_none kind fault)

-- a cutting goes on behind what is passed over
pub cuts_passed : (place : Place) (bytes over rest : List ℕ) (tokens : List Token) (end : Option Fault) → Skips bytes over rest → Cuts place bytes tokens end →
    Cuts (place_after place over) rest tokens end
cuts_passed place _ over rest _ _ passes (ended _) = absurd (no_pass_of_none over rest passes)
cuts_passed place bytes over rest _ _ passes (passed _ _ other other_rest tokens end other_passes more) =
    let same = one_pass bytes other other_rest over rest other_passes passes in
    let P : List ℕ → Type 0 = λ l. Cuts (place_after place l) other_rest tokens end in
    let Q : List ℕ → Type 0 = λ l. Cuts (place_after place over) l tokens end in
    subst Q same.1 (subst P same.0 more)
cuts_passed place bytes over rest _ _ passes (token _ _ text behind kind tokens end no_comment first fits more) = absurd (no_pass_of_token bytes text behind over rest kind no_comment first passes)
cuts_passed place bytes over rest _ _ passes (faulty _ _ kind no_pass fault) = absurd (no_pass over rest passes)

-- a cutting begins with this token, and goes on after it
pub record BeginsWith (place : Place) (text rest : List ℕ) (kind : TokenKind) (tokens : List Token) (end : Option Fault) : Type 0 where
  pub more : List Token
  pub cuts : Cuts (place_after place text) rest more end
  pub whole : tokens ≡ token_at place text kind ∷ more

-- the same of a token that is equal
begins_same : (place : Place) (text rest other other_rest : List ℕ) (kind other_kind : TokenKind) (tokens : List Token) (end : Option Fault) →
    IsSameToken text rest other other_rest kind other_kind → Cuts (place_after place text) rest tokens end → BeginsWith place other other_rest other_kind (token_at place text kind ∷ tokens) end
begins_same place text rest other other_rest kind other_kind tokens end same more =
    let P : List ℕ → Type 0 = λ l. Cuts (place_after place l) rest tokens end in
    let Q : List ℕ → Type 0 = λ l. Cuts (place_after place other) l tokens end in
    record {
      more = tokens;
      cuts = subst Q same.rest_is (subst P same.text_is more);
      whole = ap (λ (t : List ℕ). token_at place t kind ∷ tokens) same.text_is ∙ ap (λ (k : TokenKind). token_at place other k ∷ tokens) same.kind_is;
    }

-- a cutting of bytes at the front of which a token stands begins with it
pub cuts_behind : (place : Place) (bytes text rest : List ℕ) (kind : TokenKind) (tokens : List Token) (end : Option Fault) → (IsComment bytes → ⊥) → IsLongestToken bytes text rest kind →
    IsWithinLimits text kind → Cuts place bytes tokens end → BeginsWith place text rest kind tokens end
cuts_behind place _ text rest kind _ _ no_comment first fits (ended _) = absurd (no_first_of_none text rest kind first)
cuts_behind place bytes text rest kind _ _ no_comment first fits (passed _ _ over behind tokens end passes more) = absurd (no_pass_of_token bytes text rest over behind kind no_comment first passes)
cuts_behind place bytes text rest kind _ _ no_comment first fits (token _ _ other other_rest other_kind tokens end _ other_first other_fits more) =
    begins_same place other other_rest text rest other_kind kind tokens end (one_first bytes other other_rest text rest other_kind kind other_first first) more
cuts_behind place bytes text rest kind _ _ no_comment first fits (faulty _ _ fault no_pass is) = absurd (no_fault_of_token bytes text rest kind fault no_comment first fits is)

-- a cutting of bytes at the front of which a fault stands ends there
pub cuts_fault : (place : Place) (bytes : List ℕ) (kind : LexKind) (tokens : List Token) (end : Option Fault) → ((over rest : List ℕ) → Skips bytes over rest → ⊥) → IsFault kind bytes →
    Cuts place bytes tokens end → IsSameCutting tokens [] end (Some (fault_at place kind))
cuts_fault place _ kind _ _ no_pass fault (ended _) = absurd (no_fault_of_none kind fault)
cuts_fault place bytes kind _ _ no_pass fault (passed _ _ over rest tokens end passes more) = absurd (no_pass over rest passes)
cuts_fault place bytes kind _ _ no_pass fault (token _ _ text rest token_kind tokens end no_comment first fits more) =
    absurd (no_fault_of_token bytes text rest token_kind kind no_comment first fits fault)
cuts_fault place bytes kind _ _ no_pass fault (faulty _ _ other _ other_fault) =
    record { tokens_are = refl; end_is = ap (λ (k : LexKind). Some (fault_at place k)) (one_fault bytes other kind other_fault fault) }

-- the other way round
same_back : (tokens others : List Token) (end other_end : Option Fault) → IsSameCutting tokens others end other_end → IsSameCutting others tokens other_end end
same_back tokens others end other_end s = record { tokens_are = sym s.tokens_are; end_is = sym s.end_is }

-- one token more on both
same_more : (t : Token) (tokens more others : List Token) (end other_end : Option Fault) → others ≡ t ∷ more → IsSameCutting tokens more end other_end →
    IsSameCutting (t ∷ tokens) others end other_end
same_more t tokens more others end other_end whole s = record { tokens_are = ap (λ (l : List Token). t ∷ l) s.tokens_are ∙ sym whole; end_is = s.end_is }

-- a text is cut in one way at most
pub cuts_once : (place : Place) (bytes : List ℕ) (tokens others : List Token) (end other_end : Option Fault) → Cuts place bytes tokens end → Cuts place bytes others other_end →
    IsSameCutting tokens others end other_end
cuts_once place _ _ others _ other_end (ended _) d = same_back others [] other_end None (cuts_none place others other_end d)
cuts_once place _ _ others _ other_end (passed _ bytes over rest tokens end passes more) d =
    cuts_once (place_after place over) rest tokens others end other_end more (cuts_passed place bytes over rest others other_end passes d)
cuts_once place _ _ others _ other_end (token _ bytes text rest kind tokens end no_comment first fits more) d =
    let h = cuts_behind place bytes text rest kind others other_end no_comment first fits d in
    same_more (token_at place text kind) tokens h.more others end other_end h.whole (cuts_once (place_after place text) rest tokens h.more end other_end more h.cuts)
cuts_once place _ _ others _ other_end (faulty _ bytes kind no_pass fault) d =
    same_back others [] other_end (Some (fault_at place kind)) (cuts_fault place bytes kind others other_end no_pass fault d)
