-- A journal that is read is the one that was written, and what isn't read has a first faulty line.
use Rattle.std.proofs.Common.{◌≡◌, ◌≤◌, ◌<◌, ◌^◌, ◌∙◌, ℕ, zero, suc, ◌+◌, Bool, true, false, eqb, List, [], ◌∷◌, ◌++◌, drop, length, Option, Some, None, Result, Ok, Err, refl, sym, ap, subst, append_assoc, arith}
use Rattle.std.specs.Prelude.{codes, decimal}
use Rattle.std.specs.List.{starts_with, AllByRecursion}
use Rattle.std.proofs.lemmas.List.{append-nil}
use Rattle.shim_laws_replay.specs.Journals.{Entry, Quiet, Did}
use Rattle.shim_laws_journals.specs.Ranges.{steps_in, steps_in_all}
use Rattle.shim_replay.specs.JournalTexts.{FitsEntry, IsJournalText, entry_words, first_words, stop_words, line, joined_lines, entry_lines, journal_of}
use Rattle.shim_replay.specs.Scanning.{scan_entry, scan_budget, scan_steps_line, scan_stop, ends_at, with_front, after_entry, scan_lines, with_budget, after_budget, scan_journal}
use Rattle.shim_replay.proofs.Lines.{one_line, last_line}
use Rattle.shim_replay.proofs.NumbersRead.{some_is, begins, begins_is}
use Rattle.shim_replay.proofs.EntriesRead.{entry_takes, entry_again, stop_entry, budget_takes, steps_line_takes, steps_line_again}
use Rattle.shim_replay.proofs.LineFeeds.{Plain, decimal_plain}

abbrev pub AllFit : List Entry → Type 0
AllFit es = AllByRecursion FitsEntry es

abbrev ok : {A : Type 0} → A → Result A ℕ
ok x = Ok x

ok_is : {A : Type 0} (x y : A) → ok x ≡ ok y → x ≡ y
ok_is x y e = cc

abbrev some : {A : Type 0} → A → Option A
some x = Some x

-- ---- sums

pub fits_few : (e : Entry) → FitsEntry e → steps_in e ≤ 4000000
fits_few (Quiet p n) fits = fits.2
fits_few (Did e) fits = omega arith

-- ---- the last line

pub stop_plain : (s : ℕ) → s < 2 ^ 64 → Plain (stop_words s)
stop_plain s small = decimal_plain s small

stop_takes : (number s : ℕ) (bytes : List ℕ) (es : List Entry) → scan_stop number s bytes ≡ Ok es → (es ≡ []) × (codes "stop " ++ bytes ≡ line (stop_words s))
stop_takes number s bytes es e = by_rest (scan_steps_line s bytes) refl e
  where
    by_rest : (o : Option (List ℕ)) → scan_steps_line s bytes ≡ o → ends_at number o ≡ Ok es → (es ≡ []) × (codes "stop " ++ bytes ≡ line (stop_words s))
    by_rest None is e = absurd cc
    by_rest (Some []) is e = (sym (ok_is [] es e), steps_line_takes s bytes [] is ∙ append-nil (line (stop_words s)))
    by_rest (Some (c ∷ cs)) is e = absurd cc

stop_again : (number s : ℕ) → scan_stop number s (decimal s ++ (10 ∷ [])) ≡ Ok []
stop_again number s = ap (λ (r : List ℕ). scan_stop number s r) (sym (append-nil (decimal s ++ (10 ∷ [])))) ∙ ap (ends_at number) (steps_line_again s [])

-- ---- lines that were read

pub other_line : (n number sum : ℕ) (bytes : List ℕ) → starts_with eqb bytes (codes "stop ") ≡ false → scan_lines (suc n) number sum bytes ≡ after_entry (scan_lines n (number + 1)) number sum (scan_entry bytes)
unfolding scan_lines
other_line n number sum bytes is = rw is refl

lines_takes : (n number sum : ℕ) (bytes : List ℕ) (es : List Entry) → scan_lines n number sum bytes ≡ Ok es → (bytes ≡ joined_lines (entry_lines es) ++ line (stop_words (sum + steps_in_all es))) × AllFit es
unfolding scan_lines
lines_takes zero number sum bytes es e = absurd cc
lines_takes (suc n) number sum bytes es e = by_stop (lines_takes n) (starts_with eqb bytes (codes "stop ")) refl
  where
    by_entry : ((number sum : ℕ) (bytes : List ℕ) (es : List Entry) → scan_lines n number sum bytes ≡ Ok es → (bytes ≡ joined_lines (entry_lines es) ++ line (stop_words (sum + steps_in_all es))) × AllFit es) → (o : Option (Entry × List ℕ)) → scan_entry bytes ≡ o → after_entry (scan_lines n (number + 1)) number sum o ≡ Ok es → (bytes ≡ joined_lines (entry_lines es) ++ line (stop_words (sum + steps_in_all es))) × AllFit es
    by_entry again None is e = absurd cc
    by_entry again (Some x) is e = by_more (scan_lines n (number + 1) (sum + steps_in x.0) x.1) refl e
      where
        by_more : (r : Result (List Entry) ℕ) → scan_lines n (number + 1) (sum + steps_in x.0) x.1 ≡ r → with_front (x.0 ∷ []) r ≡ Ok es → (bytes ≡ joined_lines (entry_lines es) ++ line (stop_words (sum + steps_in_all es))) × AllFit es
        by_more (Err k) more e = absurd cc
        by_more (Ok fs) more e =
            let t = again (number + 1) (sum + steps_in x.0) x.1 fs more in
            let f = entry_takes bytes x is in
            let total : sum + steps_in x.0 + steps_in_all fs ≡ sum + steps_in_all (x.0 ∷ fs) = omega arith in
            let whole : bytes ≡ joined_lines (entry_lines (x.0 ∷ fs)) ++ line (stop_words (sum + steps_in_all (x.0 ∷ fs))) =
            f.0 ∙ ap (λ (r : List ℕ). line (entry_words x.0) ++ r) (t.0 ∙ ap (λ (s : ℕ). joined_lines (entry_lines fs) ++ line (stop_words s)) total) ∙ sym (append_assoc (line (entry_words x.0)) (joined_lines (entry_lines fs)) (line (stop_words (sum + steps_in_all (x.0 ∷ fs))))) in
            subst (λ (gs : List Entry). (bytes ≡ joined_lines (entry_lines gs) ++ line (stop_words (sum + steps_in_all gs))) × AllFit gs) (ok_is (x.0 ∷ fs) es e) (whole, (f.1, t.1))

    by_stop : ((number sum : ℕ) (bytes : List ℕ) (es : List Entry) → scan_lines n number sum bytes ≡ Ok es → (bytes ≡ joined_lines (entry_lines es) ++ line (stop_words (sum + steps_in_all es))) × AllFit es) → (b : Bool) → starts_with eqb bytes (codes "stop ") ≡ b → (bytes ≡ joined_lines (entry_lines es) ++ line (stop_words (sum + steps_in_all es))) × AllFit es
    by_stop again true is =
        let t = stop_takes number sum (drop 5 bytes) es (sym (last_line n number sum bytes is) ∙ e) in
        let total : sum ≡ sum + 0 = omega arith in
        let whole : bytes ≡ joined_lines (entry_lines []) ++ line (stop_words (sum + steps_in_all [])) = begins_is (codes "stop ") bytes is ∙ t.1 ∙ ap (λ (s : ℕ). line (stop_words s)) total in
        subst (λ (gs : List Entry). (bytes ≡ joined_lines (entry_lines gs) ++ line (stop_words (sum + steps_in_all gs))) × AllFit gs) (sym t.0) (whole, tt)
    by_stop again false is = by_entry again (scan_entry bytes) refl (sym (other_line n number sum bytes is) ∙ e)

-- ---- lines that begin alike

-- lines of entries, in front of anything, begin the lines of a journal only where their entries are its first ones
pub fronts : (es fs : List Entry) (x : List ℕ) (s : ℕ) → AllFit es → AllFit fs → joined_lines (entry_lines es) ++ x ≡ joined_lines (entry_lines fs) ++ line (stop_words s)
    → (gs : List Entry) × (fs ≡ es ++ gs) × (x ≡ joined_lines (entry_lines gs) ++ line (stop_words s))
fronts [] fs x s pe pf e = (fs, refl, e)
fronts (a ∷ tl) [] x s pe pf e =
    let one : scan_entry (line (entry_words a) ++ (joined_lines (entry_lines tl) ++ x)) ≡ Some (a, joined_lines (entry_lines tl) ++ x) = entry_again a (joined_lines (entry_lines tl) ++ x) pe.0 in
    let text : line (entry_words a) ++ (joined_lines (entry_lines tl) ++ x) ≡ line (stop_words s) = sym (append_assoc (line (entry_words a)) (joined_lines (entry_lines tl)) x) ∙ e in
    absurd (apart (sym one ∙ ap scan_entry text ∙ stop_entry (decimal s ++ (10 ∷ []))))
  where
    apart : some {A = Entry × List ℕ} (a, joined_lines (entry_lines tl) ++ x) ≡ None → ⊥
    apart e = absurd cc
fronts (a ∷ tl) (b ∷ bs) x s pe pf e =
    let stop = line (stop_words s) in
    let one = entry_again a (joined_lines (entry_lines tl) ++ x) pe.0 in
    let two = entry_again b (joined_lines (entry_lines bs) ++ stop) pf.0 in
    let text : line (entry_words a) ++ (joined_lines (entry_lines tl) ++ x) ≡ line (entry_words b) ++ (joined_lines (entry_lines bs) ++ stop) =
    sym (append_assoc (line (entry_words a)) (joined_lines (entry_lines tl)) x) ∙ e ∙ append_assoc (line (entry_words b)) (joined_lines (entry_lines bs)) stop in
    let same = some_pair a b (joined_lines (entry_lines tl) ++ x) (joined_lines (entry_lines bs) ++ stop) (sym one ∙ ap scan_entry text ∙ two) in
    let r = fronts tl bs x s pe.1 pf.1 same.1 in
    (r.0, sym (ap (λ (h : Entry). h ∷ bs) same.0) ∙ ap (λ (t : List Entry). a ∷ t) r.1, r.2)
  where
    some_pair : (a b : Entry) (x y : List ℕ) → some {A = Entry × List ℕ} (a, x) ≡ some (b, y) → (a ≡ b) × (x ≡ y)
    some_pair a b x y e = let q = some_is {A = Entry × List ℕ} (a, x) (b, y) e in (ap (λ (p : Entry × List ℕ). p.0) q, ap (λ (p : Entry × List ℕ). p.1) q)

-- ---- lines that were written

pub lines_again : (es : List Entry) (n number sum : ℕ) → length es < n → AllFit es → scan_lines n number sum (joined_lines (entry_lines es) ++ line (stop_words (sum + steps_in_all es))) ≡ Ok es
lines_again es zero number sum few fits = absurd (omega arith)
lines_again [] (suc n) number sum few fits =
    let total : sum + 0 ≡ sum = omega arith in
    ap (λ (s : ℕ). scan_lines (suc n) number sum (line (stop_words s))) total ∙ last_line n number sum (line (stop_words sum)) (begins (codes "stop ") (decimal sum ++ (10 ∷ []))) ∙ stop_again number sum
lines_again (a ∷ tl) (suc n) number sum few fits =
    let rest = joined_lines (entry_lines tl) ++ line (stop_words (sum + steps_in a + steps_in_all tl)) in
    let total : sum + steps_in_all (a ∷ tl) ≡ sum + steps_in a + steps_in_all tl = omega arith in
    let text : joined_lines (entry_lines (a ∷ tl)) ++ line (stop_words (sum + steps_in_all (a ∷ tl))) ≡ line (entry_words a) ++ rest =
    append_assoc (line (entry_words a)) (joined_lines (entry_lines tl)) (line (stop_words (sum + steps_in_all (a ∷ tl)))) ∙ ap (λ (s : ℕ). line (entry_words a) ++ (joined_lines (entry_lines tl) ++ line (stop_words s))) total in
    let one = one_line n number sum (line (entry_words a) ++ rest) a rest (no_stop a rest fits.0) (entry_again a rest fits.0) in
    let few_more : length tl < n = omega (arith, few) in
    let more = lines_again tl n (number + 1) (sum + steps_in a) few_more fits.1 in
    ap (scan_lines (suc n) number sum) text ∙ one ∙ ap (with_front (a ∷ [])) more
  where
    no_stop : (a : Entry) (rest : List ℕ) → FitsEntry a → starts_with eqb (line (entry_words a) ++ rest) (codes "stop ") ≡ false
    no_stop a rest fits = by_test (starts_with eqb (line (entry_words a) ++ rest) (codes "stop ")) refl
      where
        apart : some {A = Entry × List ℕ} (a, rest) ≡ None → ⊥
        apart e = absurd cc

        by_test : (b : Bool) → starts_with eqb (line (entry_words a) ++ rest) (codes "stop ") ≡ b → b ≡ false
        by_test false is = refl
        by_test true is = absurd (apart (sym (entry_again a rest fits) ∙ ap scan_entry (begins_is (codes "stop ") (line (entry_words a) ++ rest) is) ∙ stop_entry (drop 5 (line (entry_words a) ++ rest))))

-- ---- texts

-- a text of a journal, tl it is read
pub text_is : (b : ℕ) (es : List Entry) → journal_of b es ≡ line (first_words b) ++ (joined_lines (entry_lines es) ++ line (stop_words (steps_in_all es)))
unfolding journal_of
text_is b es = refl

ok_pair : (b c : ℕ) (es fs : List Entry) → ok {A = ℕ × List Entry} (b, es) ≡ ok (c, fs) → (λ (x : ℕ × List Entry). x) (b, es) ≡ (c, fs)
ok_pair b c es fs e = ok_is {A = ℕ × List Entry} (b, es) (c, fs) e

pub journal_takes : (text : List ℕ) (b : ℕ) (es : List Entry) → scan_journal text ≡ Ok (b, es) → IsJournalText text b es
unfolding scan_journal
journal_takes text b es e = by_budget (scan_budget text) refl e
  where
    by_budget : (o : Option (ℕ × List ℕ)) → scan_budget text ≡ o → after_budget o ≡ Ok (b, es) → IsJournalText text b es
    by_budget None is e = absurd cc
    by_budget (Some x) is e = by_lines (scan_lines 4294967295 2 0 x.1) refl e
      where
        by_lines : (r : Result (List Entry) ℕ) → scan_lines 4294967295 2 0 x.1 ≡ r → with_budget x.0 r ≡ Ok (b, es) → IsJournalText text b es
        by_lines (Err k) lines e = absurd cc
        by_lines (Ok fs) lines e =
            let f = budget_takes text x is in
            let t = lines_takes 4294967295 2 0 x.1 fs lines in
            let total : 0 + steps_in_all fs ≡ steps_in_all fs = omega arith in
            let whole : text ≡ journal_of x.0 fs = f.0 ∙ ap (λ (r : List ℕ). line (first_words x.0) ++ r) (t.0 ∙ ap (λ (s : ℕ). joined_lines (entry_lines fs) ++ line (stop_words s)) total) ∙ sym (text_is x.0 fs) in
            subst (λ (y : ℕ × List Entry). IsJournalText text y.0 y.1) (ok_pair x.0 b fs es e) (record { least = f.1; most = f.2; fits = t.1; text_is = whole })
