-- The first faulty line of a text that is no journal's.
use Rattle.std.proofs.Common.{◌≡◌, ◌≤◌, ◌<◌, ◌^◌, ◌∙◌, ◌⊎◌, inl, inr, ℕ, zero, suc, ◌+◌, ◌*◌, Bool, true, false, eqb, List, [], ◌∷◌, ◌++◌, drop, length, Option, Some, None, Result, Ok, Err, refl, sym, ap, subst, append_assoc, arith}
use Rattle.std.specs.Prelude.{codes, decimal}
use Rattle.std.specs.List.{starts_with, AllByRecursion}
use Rattle.std.proofs.lemmas.List.{append-nil, length-append, length-map}
use Rattle.std.proofs.lemmas.List.Concat.{flat_map-append}
use Rattle.shim_laws_replay.specs.Journals.{Entry}
use Rattle.shim_laws_journals.specs.Ranges.{steps_in, steps_in_all}
use Rattle.shim_replay.specs.JournalTexts.{FitsEntry, IsJournalText, IsFaultyLine, entry_words, first_words, stop_words, line, joined_lines, entry_lines, journal_of, line_feeds, first_line}
use Rattle.shim_replay.specs.Scanning.{scan_entry, scan_budget, scan_steps_line, ends_at, with_front, after_entry, scan_lines, with_budget, after_budget, scan_journal}
use Rattle.shim_replay.proofs.Lines.{last_line}
use Rattle.shim_replay.proofs.NumbersRead.{some_is, begins, begins_is}
use Rattle.shim_replay.proofs.EntriesRead.{entry_takes, entry_again, stop_entry, budget_takes, budget_again, steps_line_takes, steps_line_again}
use Rattle.shim_replay.proofs.LineFeeds.{line_feeds-append, Plain, words_plain, one_line_feed, first_line_of, line_after, first_line_some, decimal_plain}
use Rattle.shim_replay.proofs.JournalLaws.{AllFit, fronts, lines_again, other_line, stop_plain, text_is, fits_few}

-- ---- where reading of lines ends early

-- why the rest has no line of a journal, or why a journal ends before it
data Ending (sum : ℕ) (rest : List ℕ) : Type 0 where
  -- it begins with no entry
  no_entry : starts_with eqb rest (codes "stop ") ≡ false → scan_entry rest ≡ None → Ending sum rest
  -- it begins with no right last line
  no_stop : starts_with eqb rest (codes "stop ") ≡ true → scan_steps_line sum (drop 5 rest) ≡ None → Ending sum rest

record Early (number sum : ℕ) (bytes : List ℕ) (k : ℕ) : Type 0 where
  es : List Entry
  rest : List ℕ
  whole : bytes ≡ joined_lines (entry_lines es) ++ rest
  fits : AllFit es
  cause : ((k ≡ number + length es) × Ending (sum + steps_in_all es) rest)
      ⊎ ((c : ℕ) × (more : List ℕ) × (k ≡ number + length es + 1) × (rest ≡ line (stop_words (sum + steps_in_all es)) ++ c ∷ more))

err_is : {A : Type 0} (m k : ℕ) (r : Result A ℕ) → r ≡ Err m → r ≡ Err k → m ≡ k
err_is m k (Ok x) e f = absurd cc
err_is m k (Err n) e f = cc

-- one entry more in front
longer : (number sum : ℕ) (bytes : List ℕ) (k : ℕ) (x : Entry × List ℕ) → bytes ≡ line (entry_words x.0) ++ x.1 → FitsEntry x.0 → Early (number + 1) (sum + steps_in x.0) x.1 k → Early number sum bytes k
longer number sum bytes k x text fits r =
    let sums : sum + steps_in x.0 + steps_in_all r.es ≡ sum + steps_in_all (x.0 ∷ r.es) = omega arith in
    let numbers : number + 1 + length r.es ≡ number + length (x.0 ∷ r.es) = omega arith in
    record {
      es = x.0 ∷ r.es;
      rest = r.rest;
      whole = text ∙ ap (λ (b : List ℕ). line (entry_words x.0) ++ b) r.whole ∙ sym (append_assoc (line (entry_words x.0)) (joined_lines (entry_lines r.es)) r.rest);
      fits = (fits, r.fits);
      cause = elim r.cause [
        | inl h ↦ inl (h.0 ∙ numbers, subst (λ (s : ℕ). Ending s r.rest) sums h.1)
        | inr h ↦ inr (h.0, h.1, h.2 ∙ ap (λ (n : ℕ). n + 1) numbers, h.3 ∙ ap (λ (s : ℕ). line (stop_words s) ++ h.0 ∷ h.1) sums)
      ];
    }

lines_early : (n number sum : ℕ) (bytes : List ℕ) (k : ℕ) → line_feeds bytes < n → scan_lines n number sum bytes ≡ Err k → Early number sum bytes k
lines_early zero number sum bytes k few e = absurd (omega arith)
lines_early (suc n) number sum bytes k few e = by_stop (lines_early n) (starts_with eqb bytes (codes "stop ")) refl
  where
    none : sum ≡ sum + 0
    none = omega arith

    start : number ≡ number + 0
    start = omega arith

    by_rest : starts_with eqb bytes (codes "stop ") ≡ true → (o : Option (List ℕ)) → scan_steps_line sum (drop 5 bytes) ≡ o → ends_at number o ≡ Err k → Early number sum bytes k
    by_rest stop None is f = record { es = []; rest = bytes; whole = refl; fits = tt; cause = inl (sym (err_is number k (ends_at number None) refl f) ∙ start, subst (λ (s : ℕ). Ending s bytes) none (no_stop stop is)) }
    by_rest stop (Some []) is f = absurd cc
    by_rest stop (Some (c ∷ more)) is f =
        record {
          es = [];
          rest = bytes;
          whole = refl;
          fits = tt;
          cause = inr (
            c,
            more,
            sym (err_is (number + 1) k (ends_at number (Some (c ∷ more))) refl f) ∙ ap (λ (m : ℕ). m + 1) start,
            begins_is (codes "stop ") bytes stop ∙ steps_line_takes sum (drop 5 bytes) (c ∷ more) is ∙ ap (λ (s : ℕ). line (stop_words s) ++ c ∷ more) none,
          );
        }

    by_entry : ((number sum : ℕ) (bytes : List ℕ) (k : ℕ) → line_feeds bytes < n → scan_lines n number sum bytes ≡ Err k → Early number sum bytes k) → starts_with eqb bytes (codes "stop ") ≡ false → (o : Option (Entry × List ℕ)) → scan_entry bytes ≡ o → after_entry (scan_lines n (number + 1)) number sum o ≡ Err k → Early number sum bytes k
    by_entry again other None is f = record { es = []; rest = bytes; whole = refl; fits = tt; cause = inl (sym (err_is number k (after_entry (scan_lines n (number + 1)) number sum None) refl f) ∙ start, subst (λ (s : ℕ). Ending s bytes) none (no_entry other is)) }
    by_entry again other (Some x) is f =
        let t = entry_takes bytes x is in
        let a = ap line_feeds t.0 in
        let b = line_feeds-append (line (entry_words x.0)) x.1 in
        let c = one_line_feed (entry_words x.0) (words_plain x.0 t.1) in
        let fewer : line_feeds x.1 < n = omega (arith, few, a, b, c) in
        longer number sum bytes k x t.0 t.1 (again (number + 1) (sum + steps_in x.0) x.1 k fewer (by_more (scan_lines n (number + 1) (sum + steps_in x.0) x.1) f))
      where
        by_more : (r : Result (List Entry) ℕ) → with_front (x.0 ∷ []) r ≡ Err k → r ≡ Err k
        by_more (Ok fs) f = absurd cc
        by_more (Err m) f = f

    by_stop : ((number sum : ℕ) (bytes : List ℕ) (k : ℕ) → line_feeds bytes < n → scan_lines n number sum bytes ≡ Err k → Early number sum bytes k) → (b : Bool) → starts_with eqb bytes (codes "stop ") ≡ b → Early number sum bytes k
    by_stop again true is = by_rest is (scan_steps_line sum (drop 5 bytes)) refl (sym (last_line n number sum bytes is) ∙ e)
    by_stop again false is = by_entry again is (scan_entry bytes) refl (sym (other_line n number sum bytes is) ∙ e)

-- ---- counts

pub joined_line_feeds : (es : List Entry) → AllFit es → line_feeds (joined_lines (entry_lines es)) ≡ length es
joined_line_feeds [] fits = refl
joined_line_feeds (e ∷ es) fits =
    let a = line_feeds-append (line (entry_words e)) (joined_lines (entry_lines es)) in
    let b = one_line_feed (entry_words e) (words_plain e fits.0) in
    let c = joined_line_feeds es fits.1 in
    omega (arith, a, b, c)

pub steps_few : (es : List Entry) → AllFit es → steps_in_all es ≤ length es * 4000000
steps_few [] fits = omega arith
steps_few (e ∷ es) fits = let a = fits_few e fits.0 in let b = steps_few es fits.1 in omega (arith, a, b)

lines_plain : (es : List Entry) → AllFit es → AllByRecursion Plain (entry_lines es)
lines_plain [] fits = tt
lines_plain (e ∷ es) fits = (words_plain e fits.0, lines_plain es fits.1)

one_more_plain : (xs : List (List ℕ)) (x : List ℕ) → AllByRecursion Plain xs → Plain x → AllByRecursion Plain (xs ++ x ∷ [])
one_more_plain [] x p q = (q, tt)
one_more_plain (y ∷ ys) x p q = (p.0, one_more_plain ys x p.1 q)

-- ---- texts that begin alike

abbrev some : {A : Type 0} → A → Option A
some x = Some x

some_pair : {A B : Type 0} (a b : A) (x y : B) → some {A = A × B} (a, x) ≡ some (b, y) → (a ≡ b) × (x ≡ y)
some_pair {A} {B} a b x y e = let q = some_is {A = A × B} (a, x) (b, y) e in (ap (λ (p : A × B). p.0) q, ap (λ (p : A × B). p.1) q)

none_some : {A : Type 0} (x : A) (o : Option A) → o ≡ None → o ≡ Some x → ⊥
none_some x (Some y) e f = absurd cc
none_some x None e f = absurd cc

tests_differ : (b : Bool) → b ≡ true → b ≡ false → ⊥
tests_differ true e f = absurd cc
tests_differ false e f = absurd cc

abbrev Continues : List Entry → List Entry → List ℕ → Type 0
Continues es fs other = (gs : List Entry) × (fs ≡ es ++ gs) × (other ≡ joined_lines (entry_lines gs) ++ line (stop_words (steps_in_all fs)))

same_start : (b c : ℕ) (es fs : List Entry) (other : List ℕ) → 1 ≤ b → b ≤ 4000000 → AllFit es → IsJournalText (line (first_words b) ++ (joined_lines (entry_lines es) ++ other)) c fs → Continues es fs other
same_start b c es fs other least most fits j =
    let stop = line (stop_words (steps_in_all fs)) in
    let one = budget_again b (joined_lines (entry_lines es) ++ other) least most in
    let two = budget_again c (joined_lines (entry_lines fs) ++ stop) j.least j.most in
    let same = some_pair b c (joined_lines (entry_lines es) ++ other) (joined_lines (entry_lines fs) ++ stop) (sym one ∙ ap scan_budget (j.text_is ∙ text_is c fs) ∙ two) in
    fronts es fs other (steps_in_all fs) fits j.fits same.1

-- ---- no journal goes on so

rest_is : (words rest other after : List ℕ) → Plain words → first_line other ≡ first_line rest → other ≡ line words ++ after → (behind : List ℕ) × (rest ≡ line words ++ behind)
rest_is words rest other after p same is =
    let r = line_after rest in
    let l : first_line rest ≡ line words = sym same ∙ ap first_line is ∙ first_line_of words after p in
    (r.0, r.1 ∙ ap (λ (t : List ℕ). t ++ r.0) l)

ends_with_stop : (s : ℕ) (rest behind : List ℕ) → rest ≡ line (stop_words s) ++ behind → Ending s rest → ⊥
ends_with_stop s rest behind is (no_entry other none) = tests_differ (starts_with eqb rest (codes "stop ")) (ap (λ (r : List ℕ). starts_with eqb r (codes "stop ")) is ∙ begins (codes "stop ") ((decimal s ++ (10 ∷ [])) ++ behind)) other
ends_with_stop s rest behind is (no_stop stop none) = none_some behind (scan_steps_line s (drop 5 rest)) none (ap (λ (r : List ℕ). scan_steps_line s (drop 5 r)) is ∙ steps_line_again s behind)

ends_with_entry : (s : ℕ) (g : Entry) (rest behind : List ℕ) → FitsEntry g → rest ≡ line (entry_words g) ++ behind → Ending s rest → ⊥
ends_with_entry s g rest behind fits is (no_entry other none) = none_some (g, behind) (scan_entry rest) none (ap scan_entry is ∙ entry_again g behind fits)
ends_with_entry s g rest behind fits is (no_stop stop none) =
    none_some (g, behind) (scan_entry rest) (ap scan_entry (begins_is (codes "stop ") rest stop) ∙ stop_entry (drop 5 rest)) (ap scan_entry is ∙ entry_again g behind fits)

steps_same : (es fs : List Entry) → fs ≡ es ++ [] → steps_in_all fs ≡ steps_in_all es
steps_same es fs e = ap steps_in_all (e ∙ append-nil es)

fit_behind : (es gs : List Entry) → AllFit (es ++ gs) → AllFit gs
fit_behind [] gs fits = fits
fit_behind (e ∷ es) gs fits = fit_behind es gs fits.1

wrong_here : (es fs : List Entry) (rest other : List ℕ) → steps_in_all es < 2 ^ 64 → AllFit fs → first_line other ≡ first_line rest → Continues es fs other → Ending (steps_in_all es) rest → ⊥
wrong_here es fs rest other small fits same k ending = by_more k.0 k.1 k.2
  where
    by_more : (gs : List Entry) → fs ≡ es ++ gs → other ≡ joined_lines (entry_lines gs) ++ line (stop_words (steps_in_all fs)) → ⊥
    by_more [] is text =
        let s = steps_same es fs is in
        let t : other ≡ line (stop_words (steps_in_all es)) ++ [] = text ∙ ap (λ (n : ℕ). line (stop_words n)) s ∙ sym (append-nil (line (stop_words (steps_in_all es)))) in
        let r = rest_is (stop_words (steps_in_all es)) rest other [] (stop_plain (steps_in_all es) small) same t in
        ends_with_stop (steps_in_all es) rest r.0 r.1 ending
    by_more (g ∷ gs) is text =
        let f = fit_behind es (g ∷ gs) (subst AllFit is fits) in
        let t = text ∙ append_assoc (line (entry_words g)) (joined_lines (entry_lines gs)) (line (stop_words (steps_in_all fs))) in
        let r = rest_is (entry_words g) rest other (joined_lines (entry_lines gs) ++ line (stop_words (steps_in_all fs))) (words_plain g f.0) same t in
        ends_with_entry (steps_in_all es) g rest r.0 f.0 r.1 ending

nil_of_length : (xs : List ℕ) → length xs ≡ 0 → xs ≡ []
nil_of_length [] e = refl
nil_of_length (x ∷ xs) e = absurd (omega arith)

wrong_behind : (es fs : List Entry) (c : ℕ) (more other : List ℕ) → AllFit fs → first_line other ≡ first_line (c ∷ more) → Continues es fs (line (stop_words (steps_in_all es)) ++ other) → ⊥
wrong_behind es fs c more other fits same k = by_more k.0 k.1 k.2
  where
    by_more : (gs : List Entry) → fs ≡ es ++ gs → line (stop_words (steps_in_all es)) ++ other ≡ joined_lines (entry_lines gs) ++ line (stop_words (steps_in_all fs)) → ⊥
    by_more [] is text =
        let t : line (stop_words (steps_in_all es)) ++ other ≡ line (stop_words (steps_in_all es)) = text ∙ ap (λ (n : ℕ). line (stop_words n)) (steps_same es fs is) in
        let l = ap (λ (xs : List ℕ). length xs) t in
        let a = length-append (line (stop_words (steps_in_all es))) other in
        first_line_some c more other same (nil_of_length other (omega (arith, l, a)))
    by_more (g ∷ gs) is text =
        let f = fit_behind es (g ∷ gs) (subst AllFit is fits) in
        let t = text ∙ append_assoc (line (entry_words g)) (joined_lines (entry_lines gs)) (line (stop_words (steps_in_all fs))) in
        none_some (g, joined_lines (entry_lines gs) ++ line (stop_words (steps_in_all fs))) (scan_entry (line (stop_words (steps_in_all es)) ++ other)) (stop_entry ((decimal (steps_in_all es) ++ (10 ∷ [])) ++ other))
        (ap scan_entry t ∙ entry_again g (joined_lines (entry_lines gs) ++ line (stop_words (steps_in_all fs))) f.0)

-- ---- the faulty line

faulty_first : (text : List ℕ) → scan_budget text ≡ None → IsFaultyLine text 1
faulty_first text none = record {
  before = [];
  rest = text;
  text_is = refl;
  plain = tt;
  number_is = refl;
  begun = (journal_of 1 [], 1, [], record { least = omega arith; most = omega arith; fits = tt; text_is = refl });
  wrong = λ other b es same j.
      let r = rest_is (first_words b) text other (joined_lines (entry_lines es) ++ line (stop_words (steps_in_all es))) (decimal_plain b (let m = j.most in omega (arith, m))) same (j.text_is ∙ text_is b es) in
      none_some (b, r.0) (scan_budget text) none (ap scan_budget r.1 ∙ budget_again b r.0 j.least j.most);
}

faulty_lines : (text : List ℕ) (b : ℕ) (bytes : List ℕ) (k : ℕ) → line_feeds text < 4294967295 → text ≡ line (first_words b) ++ bytes → 1 ≤ b → b ≤ 4000000 → Early 2 0 bytes k → IsFaultyLine text k
faulty_lines text b bytes k few text_is_so least most r = elim r.cause [ inl h ↦ here h | inr h ↦ behind h ]
  where
    sum_is : 0 + steps_in_all r.es ≡ steps_in_all r.es
    sum_is = omega arith

    small : steps_in_all r.es < 2 ^ 64
    small =
        let a = ap line_feeds text_is_so in
        let c = line_feeds-append (line (first_words b)) bytes in
        let d = ap line_feeds r.whole in
        let e = line_feeds-append (joined_lines (entry_lines r.es)) r.rest in
        let f = joined_line_feeds r.es r.fits in
        let g = steps_few r.es r.fits in
        omega (arith, few, a, c, d, e, f, g)

    b_plain : Plain (first_words b)
    b_plain = decimal_plain b (omega (arith, most))

    here : (k ≡ 2 + length r.es) × Ending (0 + steps_in_all r.es) r.rest → IsFaultyLine text k
    here h = record {
      before = first_words b ∷ entry_lines r.es;
      rest = r.rest;
      text_is = text_is_so ∙ ap (λ (t : List ℕ). line (first_words b) ++ t) r.whole ∙ sym (append_assoc (line (first_words b)) (joined_lines (entry_lines r.es)) r.rest);
      plain = (b_plain, lines_plain r.es r.fits);
      number_is = let l = length-map r.es entry_words in let e = h.0 in omega (arith, l, e);
      begun = (line (stop_words (steps_in_all r.es)), b, r.es, record { least = least; most = most; fits = r.fits; text_is = append_assoc (line (first_words b)) (joined_lines (entry_lines r.es)) (line (stop_words (steps_in_all r.es))) ∙ sym (text_is b r.es) });
      wrong = λ other c fs same j.
          wrong_here r.es fs r.rest other small j.fits same (same_start b c r.es fs other least most r.fits (subst (λ (t : List ℕ). IsJournalText t c fs) (append_assoc (line (first_words b)) (joined_lines (entry_lines r.es)) other) j)) (subst (λ (s : ℕ). Ending s r.rest) sum_is h.1);
    }

    behind : ((c : ℕ) × (more : List ℕ) × (k ≡ 2 + length r.es + 1) × (r.rest ≡ line (stop_words (0 + steps_in_all r.es)) ++ c ∷ more)) → IsFaultyLine text k
    behind h =
        let stop = line (stop_words (steps_in_all r.es)) in
        let before_is : joined_lines (first_words b ∷ (entry_lines r.es ++ stop_words (steps_in_all r.es) ∷ [])) ≡ line (first_words b) ++ (joined_lines (entry_lines r.es) ++ stop) =
        ap (λ (t : List ℕ). line (first_words b) ++ t) (flat_map-append line (entry_lines r.es) (stop_words (steps_in_all r.es) ∷ []) ∙ ap (λ (t : List ℕ). joined_lines (entry_lines r.es) ++ t) (append-nil stop)) in
        let join : (x : List ℕ) → joined_lines (first_words b ∷ (entry_lines r.es ++ stop_words (steps_in_all r.es) ∷ [])) ++ x ≡ line (first_words b) ++ (joined_lines (entry_lines r.es) ++ (stop ++ x)) =
        λ x. ap (λ (t : List ℕ). t ++ x) before_is ∙ append_assoc (line (first_words b)) (joined_lines (entry_lines r.es) ++ stop) x ∙ ap (λ (t : List ℕ). line (first_words b) ++ t) (append_assoc (joined_lines (entry_lines r.es)) stop x) in
        record {
          before = first_words b ∷ (entry_lines r.es ++ stop_words (steps_in_all r.es) ∷ []);
          rest = h.0 ∷ h.1;
          text_is = text_is_so ∙ ap (λ (t : List ℕ). line (first_words b) ++ t) (r.whole ∙ ap (λ (t : List ℕ). joined_lines (entry_lines r.es) ++ t) (h.3 ∙ ap (λ (s : ℕ). line (stop_words s) ++ h.0 ∷ h.1) sum_is)) ∙ sym (join (h.0 ∷ h.1));
          plain = (b_plain, one_more_plain (entry_lines r.es) (stop_words (steps_in_all r.es)) (lines_plain r.es r.fits) (stop_plain (steps_in_all r.es) small));
          number_is = let l = length-map r.es entry_words in let a = length-append (entry_lines r.es) (stop_words (steps_in_all r.es) ∷ []) in let e = h.2 in omega (arith, l, a, e);
          begun = ([], b, r.es, record { least = least; most = most; fits = r.fits; text_is = append-nil (joined_lines (first_words b ∷ (entry_lines r.es ++ stop_words (steps_in_all r.es) ∷ []))) ∙ before_is ∙ sym (text_is b r.es) });
          wrong = λ other c fs same j.
              wrong_behind r.es fs h.0 h.1 other j.fits same (same_start b c r.es fs (stop ++ other) least most r.fits (subst (λ (t : List ℕ). IsJournalText t c fs) (join other) j));
        }

budget_err : (b m k : ℕ) → with_budget b (Err m) ≡ Err k → m ≡ k
budget_err b m k f = cc

pub journal_faulty : (text : List ℕ) (k : ℕ) → line_feeds text < 4294967295 → scan_journal text ≡ Err k → IsFaultyLine text k
unfolding scan_journal
journal_faulty text k few e = by_budget (scan_budget text) refl e
  where
    by_budget : (o : Option (ℕ × List ℕ)) → scan_budget text ≡ o → after_budget o ≡ Err k → IsFaultyLine text k
    by_budget None is f = subst (IsFaultyLine text) (err_is 1 k (after_budget None) refl f) (faulty_first text is)
    by_budget (Some x) is f =
        let t = budget_takes text x is in
        let a = ap line_feeds t.0 in
        let b = line_feeds-append (line (first_words x.0)) x.1 in
        let fewer : line_feeds x.1 < 4294967295 = omega (arith, few, a, b) in
        faulty_lines text x.0 x.1 k few t.0 t.1 t.2 (lines_early 4294967295 2 0 x.1 k fewer (by_lines (scan_lines 4294967295 2 0 x.1) f))
      where
        by_lines : (r : Result (List Entry) ℕ) → with_budget x.0 r ≡ Err k → r ≡ Err k
        by_lines (Ok es) f = absurd cc
        by_lines (Err m) f = ap (λ (n : ℕ). Err n) (budget_err x.0 m k f)

pub journal_again : (text : List ℕ) (b : ℕ) (es : List Entry) → line_feeds text < 4294967295 → IsJournalText text b es → scan_journal text ≡ Ok (b, es)
unfolding scan_journal
journal_again text b es few j =
    let stop = line (stop_words (steps_in_all es)) in
    let whole : text ≡ line (first_words b) ++ (joined_lines (entry_lines es) ++ stop) = j.text_is ∙ text_is b es in
    let a = ap line_feeds whole in
    let c = line_feeds-append (line (first_words b)) (joined_lines (entry_lines es) ++ stop) in
    let d = line_feeds-append (joined_lines (entry_lines es)) stop in
    let f = joined_line_feeds es j.fits in
    let short : length es < 4294967295 = omega (arith, few, a, c, d, f) in
    let sum : 0 + steps_in_all es ≡ steps_in_all es = omega arith in
    let lines : scan_lines 4294967295 2 0 (joined_lines (entry_lines es) ++ stop) ≡ Ok es = ap (λ (s : ℕ). scan_lines 4294967295 2 0 (joined_lines (entry_lines es) ++ line (stop_words s))) (sym sum) ∙ lines_again es 4294967295 2 0 short j.fits in
    ap (λ (t : List ℕ). after_budget (scan_budget t)) whole ∙ ap after_budget (budget_again b (joined_lines (entry_lines es) ++ stop) j.least j.most) ∙ ap (with_budget b) lines

joined_plain : (ls : List (List ℕ)) → AllByRecursion Plain ls → line_feeds (joined_lines ls) ≡ length ls
joined_plain [] p = refl
joined_plain (l ∷ ls) p =
    let a = line_feeds-append (line l) (joined_lines ls) in
    let b = one_line_feed l p.0 in
    let c = joined_plain ls p.1 in
    omega (arith, a, b, c)

-- the number of a faulty line fits 32 bits
pub faulty_small : (text : List ℕ) (k : ℕ) → line_feeds text < 4294967295 → IsFaultyLine text k → k < 4294967296
faulty_small text k few f =
    let a = ap line_feeds f.text_is in
    let b = line_feeds-append (joined_lines f.before) f.rest in
    let c = joined_plain f.before f.plain in
    let d = f.number_is in
    omega (arith, few, a, b, c, d)
