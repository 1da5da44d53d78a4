-- A text on the same lines with its names replaced, a space after each token.
use Rattle.std.proofs.Common.{ℕ, suc, zero, ◌+◌, ◌-◌, ◌<◌, ◌≤◌, ◌≡◌, ◌∙◌, List, [], ◌∷◌, ◌++◌, true, false, Option, None, length, map, replicate, refl, ap, subst, arith}
use Rattle.std.specs.Prelude.{◌==◌, if◌then◌else◌}
use Rattle.std.proofs.lemmas.Bool.Decides.{nat_tests}
use Rattle.shim_base.specs.declared.TokenKind.{TokenKind}
use Rattle.shim_base.specs.declared.TokenKind.TheVariants.{Word, Key as KeyKind, Number as NumberKind, Sign as SignKind}
use Rattle.shim_base.specs.declared.Keyword.{Keyword}
use Rattle.shim_base.specs.declared.Keyword.TheVariants as k
use Rattle.shim_base.specs.Tokens.{Token, Place, Fault, Spells, IsWithinLimits, Cuts, ended, passed, token, faulty, spacing, place_after}
use Rattle.shim_syntax.specs.Terminals.{Terminal, End, of_keyword, of_kind, of_tokens, of_version, terminal_place}
use Rattle.shim_syntax.proofs.Pieces.{first_before_space, no_comment_before_space}
use Rattle.shim_up.specs.Renaming.{Renaming}
use Rattle.shim_laws_up.specs.Rewriting.{at_byte, rewritten_one, rewritten}
use Rattle.shim_laws_up.specs.Keeping.{KeepsNames, feeds_in}

same_place : (p q : Place) (bytes : List ℕ) (tokens : List Token) (end : Option Fault) → p.at ≡ q.at → p.line ≡ q.line → Cuts p bytes tokens end → Cuts q bytes tokens end
same_place p q bytes tokens end a l c =
    let by_line : Cuts (record { at = p.at; line = q.line }) bytes tokens end = subst (λ (n : ℕ). Cuts (record { at = p.at; line = n }) bytes tokens end) l c in
    subst (λ (n : ℕ). Cuts (record { at = n; line = q.line }) bytes tokens end) a by_line

-- line feeds up to a later line
feed : (n : ℕ) (here there : Place) (bytes : List ℕ) (tokens : List Token) (end : Option Fault) → there.at ≡ here.at + n → there.line ≡ here.line + n → Cuts there bytes tokens end
    → Cuts here (replicate n 10 ++ bytes) tokens end
feed zero here there bytes tokens end a l c = same_place there here bytes tokens end (omega (arith, a)) (omega (arith, l)) c
feed (suc n) here there bytes tokens end a l c =
    let next = place_after here (10 ∷ []) in
    let at : there.at ≡ next.at + n = omega (arith, a) in
    let line : there.line ≡ next.line + n = omega (arith, l) in
    passed here (10 ∷ (replicate n 10 ++ bytes)) (10 ∷ []) (replicate n 10 ++ bytes) tokens end (spacing 10 (replicate n 10 ++ bytes) refl) (feed n next there bytes tokens end at line c)

-- where what follows begins, behind a token and a space
abbrev pub behind : Place → List ℕ → Place
behind p text = place_after (place_after p text) (32 ∷ [])

-- a token and the space behind it are cut off
pub token_and_space : (p : Place) (text rest : List ℕ) (kind : TokenKind) (tokens : List Token) → Spells text kind → IsWithinLimits text kind → Cuts (behind p text) rest tokens None
    → Cuts p (text ++ 32 ∷ rest) (record { kind = kind; text = text; at = p.at; line = p.line } ∷ tokens) None
token_and_space p text rest kind tokens spells fits more =
    token p (text ++ 32 ∷ rest) text (32 ∷ rest) kind tokens None (no_comment_before_space text kind 32 rest refl spells) (first_before_space text kind 32 rest refl spells) fits
    (passed (place_after p text) (32 ∷ rest) (32 ∷ []) rest tokens None (spacing 32 rest refl) more)

-- the text of a token with its name replaced
abbrev new_text : Renaming → TokenKind → List ℕ → List ℕ
new_text f Word x = f x
new_text f (KeyKind key) x = x
new_text f (NumberKind n) x = x
new_text f (SignKind sign) x = x

key_alike : (f : Renaming) (last : Place) (key : Keyword) (at : ℕ) (p : Place)
    → rewritten_one f last (terminal_place (of_version true (of_keyword key (at_byte at p)))).at (of_keyword key p) ≡ of_version true (of_keyword key (at_byte at p))
key_alike f last k.Void at p = refl
key_alike f last k.Throws at p = refl
key_alike f last k.Bool at p = refl
key_alike f last k.Int at p = refl
key_alike f last k.Int8 at p = refl
key_alike f last k.Int16 at p = refl
key_alike f last k.Int32 at p = refl
key_alike f last k.Uint8 at p = refl
key_alike f last k.Uint16 at p = refl
key_alike f last k.Uint32 at p = refl
key_alike f last k.Istream at p = refl
key_alike f last k.Ostream at p = refl
key_alike f last k.Next at p = refl
key_alike f last k.Get at p = refl
key_alike f last k.Put at p = refl
key_alike f last k.If at p = refl
key_alike f last k.Else at p = refl
key_alike f last k.While at p = refl
key_alike f last k.For at p = refl
key_alike f last k.Try at p = refl
key_alike f last k.Catch at p = refl
key_alike f last k.Throw at p = refl
key_alike f last k.Par at p = refl
key_alike f last k.TrueKey at p = refl
key_alike f last k.FalseKey at p = refl

module _ (f : Renaming) (keeps : KeepsNames f) where
  record IsRespelled (kind : TokenKind) (x : List ℕ) : Type 0 where
    spells : Spells (new_text f kind x) kind
    fits : IsWithinLimits (new_text f kind x) kind
    feeds : feeds_in (new_text f kind x) ≤ feeds_in x

  is_respelled : (kind : TokenKind) (x : List ℕ) → Spells x kind → IsWithinLimits x kind → IsRespelled kind x
  is_respelled Word x s l = record { spells = keeps.spells x s l; fits = keeps.fits x s l; feeds = keeps.feeds x s l }
  is_respelled (KeyKind key) x s l = record { spells = s; fits = l; feeds = omega arith }
  is_respelled (NumberKind n) x s l = record { spells = s; fits = l; feeds = omega arith }
  is_respelled (SignKind sign) x s l = record { spells = s; fits = l; feeds = omega arith }

  -- the terminal is the other one, seen in version 2, with its name replaced and at the other's place
  abbrev IsAlike : Place → Terminal → Terminal → Type 0
  IsAlike last t u = rewritten_one f last (terminal_place u).at t ≡ u

  abbrev pub AreAlike : Place → List Terminal → List Terminal → Type 0
  AreAlike last [] [] = Unit {0}
  AreAlike last (t ∷ ts) (u ∷ us) = IsAlike last t u × AreAlike last ts us
  AreAlike last _ _ = ⊥

  kind_alike : (last : Place) (kind : TokenKind) (x : List ℕ) (at : ℕ) (p : Place) → Spells x kind → IsAlike last (of_kind kind x p) (of_version true (of_kind kind (new_text f kind x) (at_byte at p)))
  kind_alike last Word x at p s = rw (keeps.others x (at_byte at p) s) refl
  kind_alike last (KeyKind key) x at p s = key_alike f last key at p
  kind_alike last (NumberKind n) x at p s = refl
  kind_alike last (SignKind sign) x at p s = refl

  pub record Respelling (here : Place) (tokens : List Token) : Type 0 where
    pub bytes : List ℕ
    pub others : List Token
    pub cut : Cuts here bytes others None
    pub alike : (p q : Place) → AreAlike q (of_tokens tokens (End p)) (map (of_version true) (of_tokens others (End q)))

  pub respelled : (here place : Place) (bytes : List ℕ) (tokens : List Token) (end : Option Fault) → end ≡ None → here.line ≤ place.line → Cuts place bytes tokens end → Respelling here tokens
  respelled here _ _ _ _ e le (ended place) = record { bytes = []; others = []; cut = ended here; alike = λ p q. (refl, tt) }
  respelled here _ _ _ _ e le (passed place bytes over rest tokens end passes more) = respelled here (place_after place over) rest tokens end e (omega (arith, le)) more
  respelled here _ _ _ _ e le (faulty place bytes kind no_pass is) = absurd (cc e)
  respelled here _ _ _ _ e le (token place bytes text rest kind tokens end no_comment is fits more) =
      let new = is_respelled kind text is.spells fits in
      let other = new_text f kind text in
      let gap = place.line - here.line in
      let there : Place = record { at = here.at + gap; line = place.line } in
      let feeds = new.feeds in
      let later : (behind there other).line ≤ (place_after place text).line = omega (arith, feeds) in
      let r = respelled (behind there other) (place_after place text) rest tokens end e later more in
      let line : there.line ≡ here.line + gap = omega (arith, le) in
      record {
        bytes = replicate gap 10 ++ (other ++ 32 ∷ r.bytes);
        others = record { kind = kind; text = other; at = there.at; line = there.line } ∷ r.others;
        cut = feed gap here there (other ++ 32 ∷ r.bytes) _ None refl line (token_and_space there other r.bytes kind r.others new.spells new.fits r.cut);
        alike = λ p q. (kind_alike q kind text there.at (record { at = place.at; line = place.line }) is.spells, r.alike p q);
      }

  -- where each terminal stands, by how many follow it
  abbrev pub places : List Terminal → ℕ → ℕ
  places [] n = 0
  places (t ∷ ts) n = if n == length ts then (terminal_place t).at else places ts n

  is_itself : (n : ℕ) → (n == n) ≡ true
  is_itself n = grind (arith, nat_tests)

  is_less : (n m : ℕ) → n < m → (n == m) ≡ false
  is_less n m lt = grind (arith, nat_tests)

  at_first : (u : Terminal) (us : List Terminal) → places (u ∷ us) (length us) ≡ (terminal_place u).at
  at_first u us = rw (is_itself (length us)) refl

  at_other : (u : Terminal) (us : List Terminal) (n : ℕ) → n < length us → places (u ∷ us) n ≡ places us n
  at_other u us n lt = rw (is_less n (length us) lt) refl

  as_many : (last : Place) (ts us : List Terminal) → AreAlike last ts us → length ts ≡ length us
  as_many last [] [] h = refl
  as_many last (t ∷ ts) (u ∷ us) h = ap (λ (n : ℕ). suc n) (as_many last ts us h.1)
  as_many last [] (u ∷ us) h = absurd h
  as_many last (t ∷ ts) [] h = absurd h

  pub aligned : (last : Place) (pl : ℕ → ℕ) (ts us : List Terminal) → AreAlike last ts us → ((n : ℕ) → n < length us → pl n ≡ places us n) → rewritten f last pl ts ≡ us
  aligned last pl [] [] h a = refl
  aligned last pl [] (u ∷ us) h a = absurd h
  aligned last pl (t ∷ ts) [] h a = absurd h
  aligned last pl (t ∷ ts) (u ∷ us) h a =
      let at : pl (length ts) ≡ (terminal_place u).at = ap pl (as_many last ts us h.1) ∙ a (length us) (omega arith) ∙ at_first u us in
      ap (λ (n : ℕ). rewritten_one f last n t ∷ rewritten f last pl ts) at ∙ ap (λ x. x ∷ rewritten f last pl ts) h.0
      ∙ ap (λ l. u ∷ l) (aligned last pl ts us h.1 (λ n lt. a n (omega (arith, lt)) ∙ at_other u us n lt))
