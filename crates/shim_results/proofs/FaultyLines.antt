-- Of a text that is no journal one line is the first faulty one.
use Rattle.std.proofs.Common.{◌≡◌, ◌<◌, ◌⊎◌, ◌+◌, ◌≤◌, ℕ, zero, suc, Bool, true, false, cond, eqb, List, [], ◌∷◌, ◌++◌, length, inl, inr, refl, sym, ap, ◌∙◌, subst, arith, append_assoc}
use Rattle.std.specs.List.{AllByRecursion}
use Rattle.std.proofs.lemmas.List.{append_cancel_left}
use Rattle.shim_laws_replay.specs.Journals.{Entry}
use Rattle.shim_replay.specs.JournalTexts.{IsFaultyLine, IsJournalText, first_line, joined_lines, line, line_feeds}
use Rattle.shim_replay.proofs.LineFeeds.{Plain, first_line_of}

-- a text with a faulty line is no journal
pub never_faulty : (text : List ℕ) (n b : ℕ) (es : List Entry) → IsFaultyLine text n → IsJournalText text b es → ⊥
never_faulty text n b es f is = f.wrong f.rest b es refl (subst (λ (bytes : List ℕ). IsJournalText bytes b es) f.text_is is)

-- no line has a line feed but at its end
abbrev ArePlain : List (List ℕ) → Type 0
ArePlain lines = AllByRecursion (λ (words : List ℕ). line_feeds words ≡ 0) lines

-- a list of lines goes on behind another one by a line at least
record GoesOn (xs ys : List (List ℕ)) (r s : List ℕ) : Type 0 where
  words : List ℕ
  more : List (List ℕ)
  plain : Plain words
  longer : joined_lines ys ≡ joined_lines xs ++ (line words ++ joined_lines more)
  behind : r ≡ line words ++ (joined_lines more ++ s)

one_line_more : (x y : List ℕ) (xs ys : List (List ℕ)) (r s : List ℕ) → line x ≡ line y → GoesOn xs ys r s → GoesOn (x ∷ xs) (y ∷ ys) r s
one_line_more x y xs ys r s same g = record {
  words = g.words;
  more = g.more;
  plain = g.plain;
  longer = ap (λ (l : List ℕ). l ++ joined_lines ys) (sym same) ∙ (ap (λ (l : List ℕ). line x ++ l) g.longer ∙ sym (append_assoc (line x) (joined_lines xs) (line g.words ++ joined_lines g.more)));
  behind = g.behind;
}

-- the first lines of one text are one
same_line : (x y : List ℕ) (a b : List ℕ) → Plain x → Plain y → line x ++ a ≡ line y ++ b → line x ≡ line y
same_line x y a b p q is = sym (first_line_of x a p) ∙ (ap first_line is ∙ first_line_of y b q)

same_behind : (x y : List ℕ) (a b : List ℕ) → line x ≡ line y → line x ++ a ≡ line y ++ b → a ≡ b
same_behind x y a b same is = append_cancel_left (line x) a b (is ∙ ap (λ (l : List ℕ). l ++ b) (sym same))

-- so it is of two lists of lines with which one text begins
goes_on : (xs ys : List (List ℕ)) (r s : List ℕ) → ArePlain xs → ArePlain ys → joined_lines xs ++ r ≡ joined_lines ys ++ s → length xs < length ys → GoesOn xs ys r s
goes_on [] [] r s p q is fewer = absurd (omega (arith, fewer))
goes_on [] (y ∷ ys) r s p q is fewer = record { words = y; more = ys; plain = q.0; longer = refl; behind = is ∙ append_assoc (line y) (joined_lines ys) s }
goes_on (x ∷ xs) [] r s p q is fewer = absurd (omega (arith, fewer))
goes_on (x ∷ xs) (y ∷ ys) r s p q is fewer =
    let a = joined_lines xs ++ r in
    let b = joined_lines ys ++ s in
    let both : line x ++ a ≡ line y ++ b = sym (append_assoc (line x) (joined_lines xs) r) ∙ (is ∙ append_assoc (line y) (joined_lines ys) s) in
    let same = same_line x y a b p.0 q.0 both in
    one_line_more x y xs ys r s same (goes_on xs ys r s p.1 q.1 (same_behind x y a b same both) (omega (arith, fewer)))

-- a line with which some journal's text goes on isn't faulty
not_before : (text : List ℕ) (n m : ℕ) (f : IsFaultyLine text n) (g : IsFaultyLine text m) → length f.before < length g.before → ⊥
not_before text n m f g fewer =
    let h = goes_on f.before g.before f.rest g.rest f.plain g.plain (sym f.text_is ∙ g.text_is) fewer in
    let more = g.begun.0 in
    let other = line h.words ++ (joined_lines h.more ++ more) in
    let whole : joined_lines g.before ++ more ≡ joined_lines f.before ++ other =
    ap (λ (l : List ℕ). l ++ more) h.longer ∙ (append_assoc (joined_lines f.before) (line h.words ++ joined_lines h.more) more
    ∙ ap (λ (l : List ℕ). joined_lines f.before ++ l) (append_assoc (line h.words) (joined_lines h.more) more)) in
    f.wrong other g.begun.1 g.begun.2 (first_line_of h.words (joined_lines h.more ++ more) h.plain ∙ sym (ap first_line h.behind ∙ first_line_of h.words (joined_lines h.more ++ g.rest) h.plain))
    (subst (λ (bytes : List ℕ). IsJournalText bytes g.begun.1 g.begun.2) whole g.begun.3)

ordered : (n m : ℕ) → (n ≡ m) ⊎ ((n < m) ⊎ (m < n))
ordered zero zero = inl refl
ordered zero (suc m) = inr (inl (omega arith))
ordered (suc n) zero = inr (inr (omega arith))
ordered (suc n) (suc m) = more (ordered n m) where
  more : (n ≡ m) ⊎ ((n < m) ⊎ (m < n)) → (suc n ≡ suc m) ⊎ ((suc n < suc m) ⊎ (suc m < suc n))
  more (inl same) = inl (ap (λ (k : ℕ). suc k) same)
  more (inr (inl less)) = inr (inl (omega (arith, less)))
  more (inr (inr less)) = inr (inr (omega (arith, less)))

pub one_faulty_line : (text : List ℕ) (n m : ℕ) → IsFaultyLine text n → IsFaultyLine text m → m ≡ n
one_faulty_line text n m f g = by_order (ordered (length f.before) (length g.before))
  where
    by_order : (length f.before ≡ length g.before) ⊎ ((length f.before < length g.before) ⊎ (length g.before < length f.before)) → m ≡ n
    by_order (inl same) = omega (arith, same, f.number_is, g.number_is)
    by_order (inr (inl less)) = absurd (not_before text n m f g less)
    by_order (inr (inr less)) = absurd (not_before text m n g f less)

-- there are no more line feeds than bytes
pub few_line_feeds : (text : List ℕ) (most : ℕ) → length text ≤ most → line_feeds text ≤ most
few_line_feeds text most short = let few = at_most text in omega (arith, few, short)
  where
    at_most : (bytes : List ℕ) → line_feeds bytes ≤ length bytes
    at_most [] = omega arith
    at_most (c ∷ cs) = by_test (eqb c 10) (at_most cs)
      where
        by_test : (t : Bool) → line_feeds cs ≤ length cs → cond t (1 + line_feeds cs) (line_feeds cs) ≤ suc (length cs)
        by_test true few = omega (arith, few)
        by_test false few = omega (arith, few)
