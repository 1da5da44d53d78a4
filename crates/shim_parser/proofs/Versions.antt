-- How a version sees the terminals of a text.
use Rattle.std.proofs.Common.{◌≡◌, ◌≤◌, ℕ, List, [], ◌∷◌, Bool, true, false, length, map, refl, sym, ◌∙◌, ap, arith}
use Rattle.std.specs.Prelude.{◌&&◌, slice_index_or}
use Rattle.std.specs.Str.{bytes_eq}
use Rattle.shim_base.specs.Tokens.{Place}
use Rattle.shim_syntax.specs.Terminals.{Terminal, Name, Number, Sort, Key, Sign, End, Broken, IsRead, new_word, of_word, of_version, is_shim, is_two, is_semicolon, begins_two}
use Rattle.shim_parser.specs.declared.token.Token.{Token}
use Rattle.shim_parser.specs.TokenView.{token_view, token_views}
use Rattle.shim_parser.specs.Cutting.{IsCut}
use Rattle.shim_parser.specs.ReaderViews.{FitsName, Proper, is_last}

-- version 1 changes nothing
seen_as_1 : (t : Terminal) → of_version false t ≡ t
seen_as_1 (Name x p) = refl
seen_as_1 (Number n p) = refl
seen_as_1 (Sort sort p) = refl
seen_as_1 (Key key p) = refl
seen_as_1 (Sign sign p) = refl
seen_as_1 (End p) = refl
seen_as_1 (Broken kind p) = refl

all_as_1 : (ts : List Terminal) → map (of_version false) ts ≡ ts
all_as_1 [] = refl
all_as_1 (t ∷ ts) = ap (λ u. u ∷ map (of_version false) ts) (seen_as_1 t) ∙ ap (λ us. t ∷ us) (all_as_1 ts)

-- what was cut is read, as its version sees it
pub read_as_1 : (bytes : List ℕ) (ts : List Terminal) → IsCut bytes ts → begins_two ts ≡ false → IsRead bytes ts
read_as_1 bytes ts c h = record {
  tokens = c.tokens;
  end = c.end;
  cut = c.cut;
  are = sym (all_as_1 ts) ∙ ap (λ b. map (of_version b) ts) (sym h) ∙ ap (λ us. map (of_version (begins_two us)) us) c.are;
}

pub read_as_2 : (bytes : List ℕ) (ts us : List Terminal) → IsCut bytes ts → begins_two ts ≡ true → us ≡ map (of_version true) ts → IsRead bytes us
read_as_2 bytes ts us c h e = record {
  tokens = c.tokens;
  end = c.end;
  cut = c.cut;
  are = e ∙ ap (λ b. map (of_version b) ts) (sym h) ∙ ap (λ us. map (of_version (begins_two us)) us) c.are;
}

-- in each version names are of their length, and the last terminal alone is an end
word_named : (two : Bool) (x : List ℕ) (p : Place) (b : Bool) → (two && bytes_eq x new_word) ≡ b → FitsName (Name x p) → FitsName (of_word two x p)
word_named two x p true e n = rw e tt
word_named two x p false e n = rw e n

word_goes_on : (two : Bool) (x : List ℕ) (p : Place) (b : Bool) → (two && bytes_eq x new_word) ≡ b → is_last (of_word two x p) ≡ false
word_goes_on two x p true e = rw e refl
word_goes_on two x p false e = rw e refl

named_seen : (two : Bool) (t : Terminal) → FitsName t → FitsName (of_version two t)
named_seen two (Name x p) n = word_named two x p (two && bytes_eq x new_word) refl n
named_seen two (Number k p) n = tt
named_seen two (Sort sort p) n = tt
named_seen two (Key key p) n = tt
named_seen two (Sign sign p) n = tt
named_seen two (End p) n = tt
named_seen two (Broken kind p) n = tt

last_seen : (two : Bool) (t : Terminal) → is_last (of_version two t) ≡ is_last t
last_seen two (Name x p) = word_goes_on two x p (two && bytes_eq x new_word) refl
last_seen two (Number k p) = refl
last_seen two (Sort sort p) = refl
last_seen two (Key key p) = refl
last_seen two (Sign sign p) = refl
last_seen two (End p) = refl
last_seen two (Broken kind p) = refl

pub proper_seen : (two : Bool) (ts : List Terminal) → Proper ts → Proper (map (of_version two) ts)
proper_seen two [] p = absurd p
proper_seen two (t ∷ []) p = last_seen two t ∙ p
proper_seen two (t ∷ u ∷ ts) p = (named_seen two t p.0, last_seen two t ∙ p.1, proper_seen two (u ∷ ts) p.2)

-- three terminals may begin a text of version 2
pub three_begin : (ts : List Token) (d : Token) → 3 ≤ length ts → is_shim (token_view (slice_index_or ts 0 d)) ≡ true → is_two (token_view (slice_index_or ts 1 d)) ≡ true
    → is_semicolon (token_view (slice_index_or ts 2 d)) ≡ begins_two (token_views ts)
three_begin [] d h shim two = absurd (omega (arith, h))
three_begin (a ∷ []) d h shim two = absurd (omega (arith, h))
three_begin (a ∷ b ∷ []) d h shim two = absurd (omega (arith, h))
three_begin (a ∷ b ∷ c ∷ ts) d h shim two = rw (shim, two) refl
