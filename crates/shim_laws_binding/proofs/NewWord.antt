-- In version 2 the word of the new type is no identifier, and in version 1 there is no such type.
use Rattle.std.proofs.Common.{ℕ, ◌≡◌, ◌∙◌, ◌⊎◌, inl, inr, List, [], ◌∷◌, ◌++◌, Option, Some, None, Bool, true, false, map, if◌then◌else◌, refl, sym, ap, subst}
use Rattle.std.specs.Str.{bytes_eq}
use Rattle.std.proofs.lemmas.Bool.{cases_Bool}
use Rattle.std.proofs.lemmas.Slice.Eq.{bytes_eq-Decides}
use Rattle.shim_base.specs.declared.token.Keyword.{Keyword}
use Rattle.shim_base.specs.declared.token.Keyword.TheVariants as k
use Rattle.shim_base.specs.declared.token.TokenKind.{TokenKind}
use Rattle.shim_base.specs.declared.token.TokenKind.TheVariants.{Word, Key as KeyKind, Number as NumberKind, Sign as SignKind}
use Rattle.shim_base.specs.Tokens.{Fault, Place, Token, start, place_after}
use Rattle.shim_syntax.specs.declared.tree.Program.{Program}
use Rattle.shim_syntax.specs.Terminals.{Terminal, Name, Number, Sort, Key, Sign, End, Broken, begins_two, in_version, new_word, of_end, of_keyword, of_kind, of_token, of_tokens, of_version, of_word, rest}
use Rattle.shim_syntax.specs.Distinct.{IsNew}
use Rattle.shim_syntax.specs.Names.{Texts}
use Rattle.shim_syntax.specs.Occurrences.{identifiers}
use Rattle.shim_syntax.specs.Text.{IsText}
use Rattle.shim_syntax.proofs.Programs.{version_seen}
use Rattle.shim_syntax.proofs.Standing.{header_seen}
use Rattle.shim_laws_binding.specs.TextNames.{has_new_type, is_new_type, terminal_name, names_among, of_functions}
use Rattle.shim_laws_binding.proofs.NamesRead.{identifiers_are_the_names_of_the_text}

new_in_both : (x : List ℕ) (ns ms : Texts) → IsNew x ns → IsNew x ms → IsNew x (ns ++ ms)
new_in_both x [] ms a b = b
new_in_both x (n ∷ ns) ms a b = (a.0, new_in_both x ns ms a.1 b)

new_in_second : (x : List ℕ) (ns ms : Texts) → IsNew x (ns ++ ms) → IsNew x ms
new_in_second x [] ms a = a
new_in_second x (n ∷ ns) ms a = new_in_second x ns ms a.1

word_is_new_by : (x : List ℕ) (p : Place) → (bytes_eq x new_word ≡ true) ⊎ (bytes_eq x new_word ≡ false) → IsNew new_word (terminal_name (of_word true x p))
word_is_new_by x p (inl e) = rw e tt
word_is_new_by x p (inr e) = rw e ((λ same. absurd (cc (e, (bytes_eq-Decides x new_word).1 same))), tt)

word_is_new_in_one : (t : Terminal) → IsNew new_word (terminal_name (of_version true t))
word_is_new_in_one (Name x p) = word_is_new_by x p (cases_Bool (bytes_eq x new_word))
word_is_new_in_one (Number n p) = tt
word_is_new_in_one (Sort sort p) = tt
word_is_new_in_one (Key key p) = tt
word_is_new_in_one (Sign sign p) = tt
word_is_new_in_one (End p) = tt
word_is_new_in_one (Broken kind p) = tt

word_is_new : (ts : List Terminal) → IsNew new_word (names_among (map (of_version true) ts))
word_is_new [] = tt
word_is_new (t ∷ ts) = new_in_both new_word (terminal_name (of_version true t)) (names_among (map (of_version true) ts)) (word_is_new_in_one t) (word_is_new ts)

new_in_rest : (x : List ℕ) (ts : List Terminal) → IsNew x (names_among ts) → IsNew x (names_among (rest ts))
new_in_rest x [] new = tt
new_in_rest x (t ∷ ts) new = new_in_second x (terminal_name t) (names_among ts) new

new_in_functions_by : (x : List ℕ) (two : Bool) (ts : List Terminal) → IsNew x (names_among ts) → IsNew x (names_among (if two then rest (rest (rest ts)) else ts))
new_in_functions_by x true ts new = new_in_rest x (rest (rest ts)) (new_in_rest x (rest ts) (new_in_rest x ts new))
new_in_functions_by x false ts new = new

-- no token is the new type by itself
keyword_is_not : (key : Keyword) (p : Place) → is_new_type (of_keyword key p) ≡ false
keyword_is_not k.Void p = refl
keyword_is_not k.Throws p = refl
keyword_is_not k.Bool p = refl
keyword_is_not k.Int p = refl
keyword_is_not k.Int8 p = refl
keyword_is_not k.Int16 p = refl
keyword_is_not k.Int32 p = refl
keyword_is_not k.Uint8 p = refl
keyword_is_not k.Uint16 p = refl
keyword_is_not k.Uint32 p = refl
keyword_is_not k.Istream p = refl
keyword_is_not k.Ostream p = refl
keyword_is_not k.Next p = refl
keyword_is_not k.Get p = refl
keyword_is_not k.Put p = refl
keyword_is_not k.If p = refl
keyword_is_not k.Else p = refl
keyword_is_not k.While p = refl
keyword_is_not k.For p = refl
keyword_is_not k.Try p = refl
keyword_is_not k.Catch p = refl
keyword_is_not k.Throw p = refl
keyword_is_not k.Par p = refl
keyword_is_not k.TrueKey p = refl
keyword_is_not k.FalseKey p = refl

kind_is_not : (kind : TokenKind) (x : List ℕ) (p : Place) → is_new_type (of_kind kind x p) ≡ false
kind_is_not Word x p = refl
kind_is_not (KeyKind key) x p = keyword_is_not key p
kind_is_not (NumberKind n) x p = refl
kind_is_not (SignKind sign) x p = refl

end_is_not : (p : Place) (end : Option Fault) → is_new_type (of_end p end) ≡ false
end_is_not p None = refl
end_is_not p (Some fault) = refl

none_is : (tokens : List Token) (last : Terminal) → is_new_type last ≡ false → has_new_type (of_tokens tokens last) ≡ false
none_is [] last e = rw e refl
none_is (t ∷ tokens) last e =
    let one : is_new_type (of_token t) ≡ false = kind_is_not t.kind t.text (record { at = t.at; line = t.line }) in
    let more = none_is tokens last e in
    rw (one, more) refl

-- nor does version 1 see one as that
is_not_seen : (t : Terminal) → is_new_type (of_version false t) ≡ is_new_type t
is_not_seen (Name x p) = refl
is_not_seen (Number n p) = refl
is_not_seen (Sort sort p) = refl
is_not_seen (Key key p) = refl
is_not_seen (Sign sign p) = refl
is_not_seen (End p) = refl
is_not_seen (Broken kind p) = refl

none_is_seen : (ts : List Terminal) → has_new_type (map (of_version false) ts) ≡ has_new_type ts
none_is_seen [] = refl
none_is_seen (t ∷ ts) = let one = is_not_seen t in let more = none_is_seen ts in rw (one, more) refl

module _ (bytes : List ℕ) (p : Program) (text : IsText bytes p) where
  abbrev IsOfVersion : Type 0
  IsOfVersion = ((begins_two text.terminals ≡ true) × (p.version ≡ 2)) ⊎ ((begins_two text.terminals ≡ false) × (p.version ≡ 1))

  raw : List Terminal
  raw = of_tokens text.read.tokens (of_end (place_after start bytes) text.read.end)

  seen_in : (two : Bool) → begins_two text.terminals ≡ two → text.terminals ≡ map (of_version two) raw
  unfolding raw
  seen_in two is =
      let same : begins_two raw ≡ two = sym (header_seen (begins_two raw) raw) ∙ sym (ap begins_two text.read.are) ∙ is in
      text.read.are ∙ ap (λ b. map (of_version b) raw) same

  word_by : IsOfVersion → p.version ≡ 2 → IsNew new_word (identifiers p.functions)
  word_by (inl (two, is)) version =
      let new = subst (λ ts. IsNew new_word (names_among ts)) (sym (seen_in true two)) (word_is_new raw) in
      subst (λ ns. IsNew new_word ns) (sym (identifiers_are_the_names_of_the_text bytes p text)) (new_in_functions_by new_word (begins_two text.terminals) text.terminals new)
  word_by (inr (none, is)) version = absurd (cc (is, version))

  type_by : IsOfVersion → p.version ≡ 1 → has_new_type text.terminals ≡ false
  unfolding raw
  type_by (inl (two, is)) version = absurd (cc (is, version))
  type_by (inr (none, is)) version =
      ap has_new_type (seen_in false none) ∙ none_is_seen raw ∙ none_is text.read.tokens (of_end (place_after start bytes) text.read.end) (end_is_not (place_after start bytes) text.read.end)

pub new_word_is_no_identifier : (bytes : List ℕ) (p : Program) (text : IsText bytes p) → p.version ≡ 2 → IsNew new_word (identifiers p.functions)
new_word_is_no_identifier bytes p text version = word_by bytes p text (version_seen text.terminals p text.derives) version

pub version_1_has_no_new_type : (bytes : List ℕ) (p : Program) (text : IsText bytes p) → p.version ≡ 1 → has_new_type text.terminals ≡ false
version_1_has_no_new_type bytes p text version = type_by bytes p text (version_seen text.terminals p text.derives) version
