-- Pieces that stand at the front of terminals, and terminals whose names and numbers are tokens.
use Rattle.std.proofs.Common.{ℕ, ◌<◌, ◌^◌, ◌≡◌, ℤ, pos, true, false, List, [], ◌∷◌, ◌++◌, length, Option, Bool, ◌&&◌, map, refl, sym, ap, subst, ◌∙◌, arith, inl}
use Rattle.std.specs.Prelude.{fold, decimal, codes}
use Rattle.std.specs.Str.{bytes_eq}
use Rattle.std.proofs.lemmas.Slice.Eq.{bytes_eq-Decides}
use Rattle.shim_base.specs.declared.Ty.{Ty}
use Rattle.shim_base.specs.declared.Ty.TheVariants.{Int64}
use Rattle.shim_syntax.specs.declared.tree.Sort.TheVariants.{Value}
use Rattle.std.specs.List.{list_all}
use Rattle.std.specs.Fmt.{signed_decimal}
use Rattle.std.proofs.lemmas.Int.{ints}
use Rattle.std.proofs.lemmas.Bool.Decides.{nat_tests}
use Rattle.std.specs.Int.{IsInRange}
use Rattle.std.proofs.lemmas.Str.Parse.{IsDigitsTest, FoldsDigits, numerals_by_fold, IsNumeralModel}
use Rattle.std.proofs.lemmas.Fmt.{digits_decimal, digits_value-decimal, decimal_is_IsNumeral}
use Rattle.shim_base.specs.declared.TokenKind.{TokenKind}
use Rattle.shim_base.specs.declared.TokenKind.TheVariants.{Word, Key as KeyKind, Number as NumberKind, Sign as SignKind}
use Rattle.shim_base.specs.declared.Keyword.{Keyword}
use Rattle.shim_base.specs.declared.Keyword.TheVariants as k
use Rattle.shim_base.specs.Tokens.{is_digit, is_numeral, with_digit, Spells, IsWithinLimits, Token, Place, Fault, Cuts, ended, passed, token, faulty}
use Rattle.shim_base.proofs.FirstToken.{both_true}
use Rattle.shim_syntax.specs.Terminals.{Terminal, Name, Number, Sort, Key, Sign, End, Broken, of_kind, of_keyword, of_tokens, of_end, of_word, of_version, new_word, first, rest, is_shim, is_two, is_semicolon, begins_two}
use Rattle.shim_syntax.specs.Printing.{PrintedPiece}
use Rattle.shim_syntax.proofs.Pieces.{AreTokens, shown_as, tokens_of, behind_piece}

-- the terminals of the pieces stand at the front of the first of these lists, and the second follows them
pub data ArePrefix : List PrintedPiece → List Terminal → List Terminal → Type 0 where
  nothing : {r : List Terminal} → ArePrefix [] r r
  piece : {p : PrintedPiece} {ps : List PrintedPiece} {s r : List Terminal} (place : Place) → ArePrefix ps s r → ArePrefix (p ∷ ps) (shown_as p place ∷ s) r

-- pieces of two parts stand as the first and after it the second
pub split : (ps qs : List PrintedPiece) (s r : List Terminal) → ArePrefix (ps ++ qs) s r → (m : List Terminal) × ArePrefix ps s m × ArePrefix qs m r
split [] qs s r h = (s, nothing, h)
split (p ∷ ps) qs _ r (piece place h) = let more = split ps qs _ r h in (more.0, piece place more.1, more.2)

-- the terminals of the tokens of pieces are those of the pieces
pub pieces_are_prefix : (ver : Bool) (place : Place) (ps : List PrintedPiece) (last : Terminal) → of_version ver last ≡ last → AreTokens ver ps
    → ArePrefix ps (map (of_version ver) (of_tokens (tokens_of place ps) last)) (last ∷ [])
pieces_are_prefix ver place [] last e are = let P : Terminal → Type 0 = λ t. ArePrefix [] (t ∷ []) (last ∷ []) in subst P (sym e) nothing
pieces_are_prefix ver place (p ∷ ps) last e are =
    let at : Place = record { at = place.at; line = place.line } in
    let more = map (of_version ver) (of_tokens (tokens_of (behind_piece place p) ps) last) in
    let P : Terminal → Type 0 = λ t. ArePrefix (p ∷ ps) (t ∷ more) (last ∷ []) in
    subst P (sym (are.2 at)) (piece at (pieces_are_prefix ver (behind_piece place p) ps last e are.3))

-- tokens of two parts
pub tokens_of_both : (ver : Bool) (ps qs : List PrintedPiece) → AreTokens ver ps → AreTokens ver qs → AreTokens ver (ps ++ qs)
tokens_of_both ver [] qs h k = k
tokens_of_both ver (p ∷ ps) qs h k = (h.0, h.1, h.2, tokens_of_both ver ps qs h.3 k)

-- the name or the number that a terminal has is one within the limits
abbrev pub IsTypeOf : Bool → Ty → Type 0
IsTypeOf ver Int64 = ver ≡ true
IsTypeOf ver _ = Unit {0}

abbrev pub IsGood : Bool → Terminal → Type 0
IsGood ver (Name x p) = Spells x Word × IsWithinLimits x Word × ((q : Place) → of_word ver x q ≡ Name x q)
IsGood ver (Number n p) = Spells (signed_decimal n) (NumberKind n) × IsWithinLimits (signed_decimal n) (NumberKind n)
IsGood ver (Sort (Value ty) p) = IsTypeOf ver ty
IsGood ver _ = Unit {0}

abbrev pub AreGood : Bool → List Terminal → Type 0
AreGood ver [] = Unit {0}
AreGood ver (t ∷ ts) = IsGood ver t × AreGood ver ts

digit_in : (c : ℕ) → is_digit c ≡ true → IsInRange 48 57 c
digit_in c h = grind (arith, nat_tests)

in_digit : (c : ℕ) → IsInRange 48 57 c → is_digit c ≡ true
in_digit c h = grind (arith, nat_tests)

-- all bytes are digits
abbrev AreDigits : List ℕ → Type 0
AreDigits ds = list_all is_digit ds ≡ true

more_digits : (c : ℕ) (cs : List ℕ) → IsInRange 48 57 c → AreDigits cs → AreDigits (c ∷ cs)
more_digits c cs h all = let d = in_digit c h in rw (d, all) refl

digits_test : IsDigitsTest AreDigits
digits_test = record {
  empty = refl;
  parts = λ c cs h. let k = both_true (is_digit c) (list_all is_digit cs) h in (digit_in c k.0, k.1);
  more = more_digits;
}

folds : FoldsDigits (λ n ds. fold with_digit n ds)
folds = record { empty = λ n. refl; more = λ n c cs h. refl }

model : IsNumeralModel AreDigits (λ ds. fold with_digit 0 ds)
model = numerals_by_fold AreDigits digits_test (λ n ds. fold with_digit n ds) folds

-- some digits are a numeral
numeral_of : (ds : List ℕ) → AreDigits ds → 0 < length ds → is_numeral ds ≡ true
numeral_of [] all some = absurd (omega arith)
numeral_of (d ∷ ds) all some = all

-- what a number shows as is a numeral of it
pub number_spells : (n : ℕ) → n < 2 ^ 64 → Spells (signed_decimal (pos n)) (NumberKind (pos n))
number_spells n small =
    (n, inl (numeral_of (decimal n) (digits_decimal model n small) (decimal_is_IsNumeral n small).0.0, sym (digits_value-decimal model n small)), refl)

-- a number token's number shows as a token
number_is_good : (text : List ℕ) (n : ℤ) → Spells text (NumberKind n) → IsWithinLimits text (NumberKind n) → Spells (signed_decimal n) (NumberKind n) × IsWithinLimits (signed_decimal n) (NumberKind n)
number_is_good text n spells fits =
    let P : ℤ → Type 0 = λ z. Spells (signed_decimal z) (NumberKind z) in
    let e = spells.2 in
    let small : spells.0 < 2 ^ 64 = omega (arith, ints, fits, e) in
    (subst P (sym spells.2) (number_spells spells.0 small), fits)

small_number : (n : ℕ) → n < 2 → Spells (signed_decimal (pos n)) (NumberKind (pos n)) × IsWithinLimits (signed_decimal (pos n)) (NumberKind (pos n))
small_number n lt = (number_spells n (omega arith), omega (arith, ints))

keyword_is_good : (ver : Bool) (key : Keyword) (p : Place) → IsGood ver (of_version ver (of_keyword key p))
keyword_is_good ver k.TrueKey p = small_number 1 (omega arith)
keyword_is_good ver k.FalseKey p = small_number 0 (omega arith)
keyword_is_good ver k.Void p = tt
keyword_is_good ver k.Throws p = tt
keyword_is_good ver k.Bool p = tt
keyword_is_good ver k.Int p = tt
keyword_is_good ver k.Int8 p = tt
keyword_is_good ver k.Int16 p = tt
keyword_is_good ver k.Int32 p = tt
keyword_is_good ver k.Uint8 p = tt
keyword_is_good ver k.Uint16 p = tt
keyword_is_good ver k.Uint32 p = tt
keyword_is_good ver k.Istream p = tt
keyword_is_good ver k.Ostream p = tt
keyword_is_good ver k.Next p = tt
keyword_is_good ver k.Get p = tt
keyword_is_good ver k.Put p = tt
keyword_is_good ver k.If p = tt
keyword_is_good ver k.Else p = tt
keyword_is_good ver k.While p = tt
keyword_is_good ver k.For p = tt
keyword_is_good ver k.Try p = tt
keyword_is_good ver k.Catch p = tt
keyword_is_good ver k.Throw p = tt
keyword_is_good ver k.Par p = tt

word_is_good : (ver : Bool) (x : List ℕ) (p : Place) (b : Bool) → (ver && bytes_eq x new_word) ≡ b → Spells x Word → IsWithinLimits x Word → IsGood ver (of_word ver x p)
word_is_good ver x p true e spells fits = rw e ((both_true ver (bytes_eq x new_word) e).0)
word_is_good ver x p false e spells fits = rw e (spells, fits, λ q. rw e refl)

-- the terminal of a token within the limits
kind_is_good : (ver : Bool) (kind : TokenKind) (text : List ℕ) (p : Place) → Spells text kind → IsWithinLimits text kind → IsGood ver (of_version ver (of_kind kind text p))
kind_is_good ver Word text p spells fits = word_is_good ver text p (ver && bytes_eq text new_word) refl spells fits
kind_is_good ver (KeyKind key) text p spells fits = keyword_is_good ver key p
kind_is_good ver (NumberKind n) text p spells fits = number_is_good text n spells fits
kind_is_good ver (SignKind sign) text p spells fits = tt

-- the terminals of a cutting
pub cut_is_good : (ver : Bool) (place : Place) (bytes : List ℕ) (tokens : List Token) (end : Option Fault) (last : Place) → Cuts place bytes tokens end
    → AreGood ver (map (of_version ver) (of_tokens tokens (of_end last end)))
cut_is_good ver place _ _ _ last (ended _) = (tt, tt)
cut_is_good ver place bytes _ _ last (passed _ _ over rest tokens end passes more) = cut_is_good ver _ rest tokens end last more
cut_is_good ver place bytes _ _ last (token _ _ text rest kind tokens end no_comment first fits more) =
    (kind_is_good ver kind text (record { at = place.at; line = place.line }) first.spells fits, cut_is_good ver _ rest tokens end last more)
cut_is_good ver place bytes _ _ last (faulty _ _ kind no_pass is) = (tt, tt)

-- a keyword is seen as such in either version
pub key_seen : (ver : Bool) (word : Keyword) (p : Place) → of_version ver (of_keyword word p) ≡ of_keyword word p
key_seen ver k.Void p = refl
key_seen ver k.Throws p = refl
key_seen ver k.Bool p = refl
key_seen ver k.Int p = refl
key_seen ver k.Int8 p = refl
key_seen ver k.Int16 p = refl
key_seen ver k.Int32 p = refl
key_seen ver k.Uint8 p = refl
key_seen ver k.Uint16 p = refl
key_seen ver k.Uint32 p = refl
key_seen ver k.Istream p = refl
key_seen ver k.Ostream p = refl
key_seen ver k.Next p = refl
key_seen ver k.Get p = refl
key_seen ver k.Put p = refl
key_seen ver k.If p = refl
key_seen ver k.Else p = refl
key_seen ver k.While p = refl
key_seen ver k.For p = refl
key_seen ver k.Try p = refl
key_seen ver k.Catch p = refl
key_seen ver k.Throw p = refl
key_seen ver k.Par p = refl
key_seen ver k.TrueKey p = refl
key_seen ver k.FalseKey p = refl

-- whether a text is one of version 2 is seen in either version
shim_seen_by : (ver : Bool) (x : List ℕ) (p : Place) (b : Bool) → (ver && bytes_eq x new_word) ≡ b → is_shim (of_word ver x p) ≡ bytes_eq x (codes "shim")
shim_seen_by ver x p true e =
    let same : x ≡ new_word = (bytes_eq-Decides x new_word).0 ((both_true ver (bytes_eq x new_word) e).1) in
    rw e (sym (ap (λ (y : List ℕ). bytes_eq y (codes "shim")) same))
shim_seen_by ver x p false e = rw e refl

shim_seen : (ver : Bool) (t : Terminal) → is_shim (of_version ver t) ≡ is_shim t
shim_seen ver (Name x p) = shim_seen_by ver x p (ver && bytes_eq x new_word) refl
shim_seen ver (Number n p) = refl
shim_seen ver (Sort sort p) = refl
shim_seen ver (Key key p) = refl
shim_seen ver (Sign sign p) = refl
shim_seen ver (End p) = refl
shim_seen ver (Broken kind p) = refl

two_seen_by : (ver : Bool) (x : List ℕ) (p : Place) (b : Bool) → (ver && bytes_eq x new_word) ≡ b → is_two (of_word ver x p) ≡ false
two_seen_by ver x p true e = rw e refl
two_seen_by ver x p false e = rw e refl

two_seen : (ver : Bool) (t : Terminal) → is_two (of_version ver t) ≡ is_two t
two_seen ver (Name x p) = two_seen_by ver x p (ver && bytes_eq x new_word) refl
two_seen ver (Number n p) = refl
two_seen ver (Sort sort p) = refl
two_seen ver (Key key p) = refl
two_seen ver (Sign sign p) = refl
two_seen ver (End p) = refl
two_seen ver (Broken kind p) = refl

semicolon_seen_by : (ver : Bool) (x : List ℕ) (p : Place) (b : Bool) → (ver && bytes_eq x new_word) ≡ b → is_semicolon (of_word ver x p) ≡ false
semicolon_seen_by ver x p true e = rw e refl
semicolon_seen_by ver x p false e = rw e refl

semicolon_seen : (ver : Bool) (t : Terminal) → is_semicolon (of_version ver t) ≡ is_semicolon t
semicolon_seen ver (Name x p) = semicolon_seen_by ver x p (ver && bytes_eq x new_word) refl
semicolon_seen ver (Number n p) = refl
semicolon_seen ver (Sort sort p) = refl
semicolon_seen ver (Key key p) = refl
semicolon_seen ver (Sign sign p) = refl
semicolon_seen ver (End p) = refl
semicolon_seen ver (Broken kind p) = refl

first_seen : (ver : Bool) (ts : List Terminal) → first (map (of_version ver) ts) ≡ of_version ver (first ts)
first_seen ver [] = refl
first_seen ver (t ∷ ts) = refl

rest_seen : (ver : Bool) (ts : List Terminal) → rest (map (of_version ver) ts) ≡ map (of_version ver) (rest ts)
rest_seen ver [] = refl
rest_seen ver (t ∷ ts) = refl

pub header_seen : (ver : Bool) (ts : List Terminal) → begins_two (map (of_version ver) ts) ≡ begins_two ts
header_seen ver ts =
    let one : is_shim (first (map (of_version ver) ts)) ≡ is_shim (first ts) = ap is_shim (first_seen ver ts) ∙ shim_seen ver (first ts) in
    let two : is_two (first (rest (map (of_version ver) ts))) ≡ is_two (first (rest ts)) =
    ap (λ l. is_two (first l)) (rest_seen ver ts) ∙ ap is_two (first_seen ver (rest ts)) ∙ two_seen ver (first (rest ts)) in
    let three : is_semicolon (first (rest (rest (map (of_version ver) ts)))) ≡ is_semicolon (first (rest (rest ts))) =
    ap (λ l. is_semicolon (first (rest l))) (rest_seen ver ts) ∙ ap (λ l. is_semicolon (first l)) (rest_seen ver (rest ts))
    ∙ ap is_semicolon (first_seen ver (rest (rest ts))) ∙ semicolon_seen ver (first (rest (rest ts))) in
    rw (one, two, three) refl
