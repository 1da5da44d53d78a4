-- Line feeds: where lines end.
use Rattle.std.proofs.Common.{◌≡◌, ◌<◌, ◌^◌, ◌∙◌, ℕ, ◌+◌, Bool, true, false, cond, eqb, List, [], ◌∷◌, ◌++◌, refl, sym, ap, arith}
use Rattle.std.specs.Prelude.{decimal, flat_map}
use Rattle.std.proofs.lemmas.Bool.{ne_eqb}
use Rattle.shim_base.specs.Paths.{Path, Channel}
use Rattle.shim_semantics.specs.Trees.{Own, Meet, Poison, Close, End}
use Rattle.shim_laws_replay.specs.Journals.{Entry, Quiet, Did}
use Rattle.shim_base.specs.PathTexts.{pair_text, path_text, channel_text}
use Rattle.shim_replay.specs.JournalTexts.{FitsPath, FitsChannel, FitsEntry, entry_words, line, line_feeds, first_line}
use Rattle.shim_replay.proofs.NumbersRead.{AreDigits, decimal_digits}

pub line_feeds-append : (a b : List ℕ) → line_feeds (a ++ b) ≡ line_feeds a + line_feeds b
line_feeds-append [] b = omega arith
line_feeds-append (c ∷ cs) b = by_test (eqb c 10) (line_feeds-append cs b)
  where
    by_test : (t : Bool) → line_feeds (cs ++ b) ≡ line_feeds cs + line_feeds b → cond t (1 + line_feeds (cs ++ b)) (line_feeds (cs ++ b)) ≡ cond t (1 + line_feeds cs) (line_feeds cs) + line_feeds b
    by_test true e = omega (arith, e)
    by_test false e = e

-- nothing of this is a line feed
abbrev pub Plain : List ℕ → Type 0
Plain words = line_feeds words ≡ 0

pub plain-append : (a b : List ℕ) → Plain a → Plain b → Plain (a ++ b)
plain-append a b p q = omega (arith, line_feeds-append a b, p, q)

digits_plain : (ds : List ℕ) → AreDigits ds → Plain ds
digits_plain [] d = refl
digits_plain (c ∷ cs) d = rw (ne_eqb c 10 (λ e. omega (arith, d.0.0, e))) (digits_plain cs d.1)

pub decimal_plain : (n : ℕ) → n < 2 ^ 64 → Plain (decimal n)
decimal_plain n small = digits_plain (decimal n) (decimal_digits n small)

pair_plain : (p : ℕ × ℕ) → p.0 < 2 ^ 32 → p.1 < 2 ^ 32 → Plain (pair_text p)
pair_plain p f b = plain-append (decimal p.0) (46 ∷ decimal p.1) (decimal_plain p.0 (omega arith)) (decimal_plain p.1 (omega arith))

pairs_plain : (ps : Path) → FitsPath ps → Plain (flat_map pair_text ps)
pairs_plain [] fits = refl
pairs_plain (p ∷ ps) fits = plain-append (pair_text p) (flat_map pair_text ps) (pair_plain p fits.0.0 fits.0.1) (pairs_plain ps fits.1)

path_plain : (p : Path) → FitsPath p → Plain (path_text p)
path_plain p fits = pairs_plain p fits

channel_plain : (c : Channel) → FitsChannel c → Plain (channel_text c)
channel_plain c fits = plain-append (path_text c.home) (35 ∷ decimal c.serial) (path_plain c.home fits.0) (decimal_plain c.serial (omega (arith, fits.1)))

pub words_plain : (e : Entry) → FitsEntry e → Plain (entry_words e)
unfolding entry_words
words_plain (Quiet p n) fits = plain-append (path_text p) (32 ∷ decimal n) (path_plain p fits.0) (decimal_plain n (omega (arith, fits.2)))
words_plain (Did (Own p)) fits = path_plain p fits
words_plain (Did (Meet c)) fits = channel_plain c fits
words_plain (Did (Poison p c)) fits = plain-append (path_text p) (32 ∷ channel_text c) (path_plain p fits.0) (channel_plain c fits.1)
words_plain (Did (Close p)) fits = path_plain p fits
words_plain (Did (End p)) fits = path_plain p fits

pub one_line_feed : (words : List ℕ) → Plain words → line_feeds (line words) ≡ 1
one_line_feed words p = omega (arith, line_feeds-append words (10 ∷ []), p)

plain_head : (c : ℕ) (cs : List ℕ) → Plain (c ∷ cs) → (eqb c 10 ≡ false) × Plain cs
plain_head c cs p = by_test (eqb c 10) (line_feeds cs) p
  where
    by_test : (b : Bool) (n : ℕ) → cond b (1 + n) n ≡ 0 → (b ≡ false) × (n ≡ 0)
    by_test true n e = absurd (omega (arith, e))
    by_test false n e = (refl, e)

-- the first line of lines
pub first_line_of : (words rest : List ℕ) → Plain words → first_line (line words ++ rest) ≡ line words
first_line_of [] rest p = refl
first_line_of (c ∷ cs) rest p = let h = plain_head c cs p in rw h.0 (ap (λ (r : List ℕ). c ∷ r) (first_line_of cs rest h.1))

-- a text is its first line and what is after it
pub line_after : (bytes : List ℕ) → (after : List ℕ) × (bytes ≡ first_line bytes ++ after)
line_after [] = ([], refl)
line_after (c ∷ cs) = by_test (eqb c 10) (line_after cs)
  where
    by_test : (b : Bool) → ((after : List ℕ) × (cs ≡ first_line cs ++ after)) → (after : List ℕ) × (c ∷ cs ≡ cond b (c ∷ []) (c ∷ first_line cs) ++ after)
    by_test true rest = (cs, refl)
    by_test false rest = (rest.0, ap (λ (r : List ℕ). c ∷ r) rest.1)

-- only an empty text has an empty first line
pub first_line_some : (c : ℕ) (cs bytes : List ℕ) → first_line bytes ≡ first_line (c ∷ cs) → bytes ≡ [] → ⊥
first_line_some c cs bytes e nothing = by_test (eqb c 10) (ap first_line (sym nothing) ∙ e)
  where
    by_test : (b : Bool) → [] ≡ cond b (c ∷ []) (c ∷ first_line cs) → ⊥
    by_test true e = absurd cc
    by_test false e = absurd cc
