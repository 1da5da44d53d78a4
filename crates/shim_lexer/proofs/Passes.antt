-- What was passed over before a token: each cutting from after it is one from before it.
use Rattle.std.proofs.Common.{ℕ, ◌+◌, ◌-◌, ◌≤◌, ◌≡◌, List, [], ◌∷◌, length, take, drop, Option, Some, None, sym, ap, subst, ◌∙◌, arith}
use Rattle.std.specs.Prelude.{◌==◌, count_by}
use Rattle.std.specs.List.{between}
use Rattle.std.proofs.lemmas.List.{drop-drop, length-take-le, length-drop}
use Rattle.shim_base.specs.declared.TokenKind.{TokenKind}
use Rattle.shim_base.specs.declared.LexKind.{LexKind}
use Rattle.shim_base.specs.Tokens.{Token, Place, place_after, Fault, Cuts, ended, passed, token, faulty, Skips, IsFault, Spells, IsWithinLimits}
use Rattle.shim_base.proofs.FirstToken.{token_has_no_feed}
use Rattle.shim_base.proofs.Cutting.{first_takes, token_at}
use Rattle.shim_lexer.specs.Scanned.{IsPassed, IsFittingToken}
use Rattle.shim_lexer.specs.Lexing.{IsNext, token_of}

-- the text from the first place up to this one is passed over
pub record IsPassedTo (text : List ℕ) (from : Place) (at line : ℕ) : Type 0 where
  pub from_there : from.at ≤ at
  pub within : at ≤ length text
  pub lines : line ≤ 1 + at
  pub joins : (tokens : List Token) (end : Option Fault) → Cuts (record { at = at; line = line }) (drop at text) tokens end → Cuts from (drop from.at text) tokens end

-- the place after the first bytes of the rest
place_behind : (at line len feeds : ℕ) (rest : List ℕ) → len ≤ length rest → feeds ≡ count_by (λ b. b == 10) (take len rest) →
    (let p : Place = record { at = at + len; line = line + feeds } in p) ≡ place_after (record { at = at; line = line }) (take len rest)
place_behind at line len feeds rest within feeds_are =
    let size : len ≡ length (take len rest) = sym (length-take-le len rest within) in
    ap (λ (n : ℕ). (let p : Place = record { at = at + n; line = line + feeds } in p)) size
    ∙ ap (λ (n : ℕ). (let p : Place = record { at = at + length (take len rest); line = line + n } in p)) feeds_are

-- what is passed over at once is passed over
pub passed_more : (text rest over : List ℕ) (from : Place) (at line len feeds : ℕ) → IsPassedTo text from at line → rest ≡ drop at text → IsPassed rest len → over ≡ take len rest →
    feeds ≡ count_by (λ b. b == 10) over → feeds ≤ length over → IsPassedTo text from (at + len) (line + feeds)
passed_more text rest over from at line len feeds h rest_is p over_is feeds_are few =
    let P : List ℕ → Type 0 = λ l. IsPassed l len in
    let q : IsPassed (drop at text) len = subst P rest_is p in
    let in_rest = q.within in
    let in_text = h.within in
    let there = h.from_there in
    let lines = h.lines in
    let size : length over ≡ len = ap (λ (l : List ℕ). length l) over_is ∙ length-take-le len rest p.within in
    let over_in : over ≡ take len (drop at text) = over_is ∙ ap (λ (l : List ℕ). take len l) rest_is in
    let place = place_behind at line len feeds (drop at text) q.within (feeds_are ∙ ap (λ (l : List ℕ). count_by (λ b. b == 10) l) over_in) in
    record {
      from_there = omega (arith, there);
      within = omega (arith, in_rest, in_text, length-drop at text);
      lines = omega (arith, lines, few, size);
      joins = λ tokens end c.
          let Q : List ℕ → Type 0 = λ l. Cuts (record { at = at + len; line = line + feeds }) l tokens end in
          let R : Place → Type 0 = λ pl. Cuts pl (drop len (drop at text)) tokens end in
          h.joins tokens end (
          passed (record { at = at; line = line }) (drop at text) (take len (drop at text)) (drop len (drop at text)) tokens end q.passes
          (subst R place (subst Q (sym (drop-drop len at text)) c))
          );
    }

-- where nothing is left, there is no token
pub passed_all : (text rest : List ℕ) (from : Place) (at line : ℕ) → IsPassedTo text from at line → rest ≡ drop at text → rest ≡ [] → Cuts from (drop from.at text) [] None
passed_all text rest from at line h rest_is none =
    let P : List ℕ → Type 0 = λ l. Cuts (record { at = at; line = line }) l [] None in
    h.joins [] None (subst P (sym none ∙ rest_is) (ended (record { at = at; line = line })))

-- a fault is the end
pub passed_fault : (text rest : List ℕ) (from : Place) (at line : ℕ) (kind : LexKind) → IsPassedTo text from at line → rest ≡ drop at text →
    ((over behind : List ℕ) → Skips rest over behind → ⊥) → IsFault kind rest → Cuts from (drop from.at text) [] (Some (record { at = at; line = line; kind = kind }))
passed_fault text rest from at line kind h rest_is no_pass fault =
    let P : List ℕ → Type 0 = λ l. Cuts (record { at = at; line = line }) l [] (Some (record { at = at; line = line; kind = kind })) in
    h.joins [] (Some (record { at = at; line = line; kind = kind })) (subst P rest_is (faulty (record { at = at; line = line }) rest kind no_pass fault))

-- a token is the next one
pub passed_token : (text rest : List ℕ) (from : Place) (at line len : ℕ) (kind : TokenKind) → IsPassedTo text from at line → rest ≡ drop at text → IsFittingToken rest kind len →
    IsNext text from (record { kind = kind; at = at; past = at + len; line = line })
passed_token text rest from at line len kind h rest_is taken =
    let P : List ℕ → Type 0 = λ l. IsFittingToken l kind len in
    let q : IsFittingToken (drop at text) kind len = subst P rest_is taken in
    let in_rest = q.within in
    let in_text = h.within in
    let size = length-take-le len (drop at text) q.within in
    let takes = first_takes (drop at text) (take len (drop at text)) (drop len (drop at text)) kind q.first in
    let some = takes.0 in
    let gap : at + len - at ≡ len = omega arith in
    let bytes : take len (drop at text) ≡ between at (at + len) text = ap (λ (n : ℕ). take n (drop at text)) (sym gap) in
    let place = place_behind at line len 0 (drop at text) q.within (sym (token_has_no_feed (take len (drop at text)) kind q.first.spells)) in
    let Q : List ℕ → Type 0 = λ l. Spells l kind in
    let R : List ℕ → Type 0 = λ l. IsWithinLimits l kind in
    record {
      after_place = h.from_there;
      some = omega (arith, some, size);
      within = omega (arith, in_rest, in_text, length-drop at text);
      spells = subst Q bytes q.first.spells;
      fits = subst R bytes q.fits;
      cuts = λ tokens end c.
          let flat : line ≡ line + 0 = omega arith in
          let S : ℕ → Type 0 = λ n. Cuts (record { at = at + len; line = n }) (drop (at + len) text) tokens end in
          let T : List ℕ → Type 0 = λ l. Cuts (record { at = at + len; line = line + 0 }) l tokens end in
          let U : Place → Type 0 = λ pl. Cuts pl (drop len (drop at text)) tokens end in
          let behind = subst U place (subst T (sym (drop-drop len at text)) (subst S flat c)) in
          let V : List ℕ → Type 0 = λ l. Cuts (record { at = at; line = line }) (drop at text) (token_at (record { at = at; line = line }) l kind ∷ tokens) end in
          h.joins (token_of text (record { kind = kind; at = at; past = at + len; line = line }) ∷ tokens) end (
          subst V bytes (token (record { at = at; line = line }) (drop at text) (take len (drop at text)) (drop len (drop at text)) kind tokens end q.no_comment q.first q.fits behind)
          );
    }
