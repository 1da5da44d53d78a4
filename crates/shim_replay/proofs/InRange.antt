-- What has a text is in the ranges of texts.
use Rattle.std.proofs.Common.{◌≤◌, ◌<◌, ◌∙◌, ℕ, ◌+◌, Bool, true, false, cond, eqb, List, [], ◌∷◌, ◌++◌, length, ap, arith}
use Rattle.std.specs.List.{All, AllByRecursion}
use Rattle.std.proofs.lemmas.List.{length-map}
use Rattle.std.proofs.lemmas.List.Elements.{All-from_recursion, recursion_from_All}
use Rattle.shim_laws_replay.specs.Journals as journals
use Rattle.shim_laws_journals.specs.Ranges.{HasStepsInRange, IsInRange, steps_in_all}
use Rattle.shim_replay.specs.Entries.{entry_of, entries_of}
use Rattle.shim_replay.specs.JournalTexts.{FitsEntry, IsJournalText, entry_lines, line_feeds, first_words, joined_lines, line, stop_words}
use Rattle.shim_run_log.specs.declared.entry.Entry.{Entry}
use Rattle.shim_replay.proofs.LineFeeds.{line_feeds-append, decimal_plain, one_line_feed}
use Rattle.shim_replay.proofs.Faults.{joined_line_feeds, steps_few}
use Rattle.shim_replay.proofs.JournalLaws.{text_is, stop_plain}

pub feeds_within : (text : List ℕ) → line_feeds text ≤ length text
feeds_within [] = omega arith
feeds_within (c ∷ cs) = by_test (eqb c 10) (feeds_within cs)
  where
    by_test : (t : Bool) → line_feeds cs ≤ length cs → cond t (1 + line_feeds cs) (line_feeds cs) ≤ length (c ∷ cs)
    by_test true e = omega (arith, e)
    by_test false e = omega (arith, e)

fits_steps : (e : journals.Entry) → FitsEntry e → HasStepsInRange e
fits_steps (journals.Quiet p n) fits = (fits.1, fits.2)
fits_steps (journals.Did e) fits = tt

all_in_range : (es : List journals.Entry) → AllByRecursion FitsEntry es → AllByRecursion HasStepsInRange es
all_in_range [] fits = tt
all_in_range (e ∷ es) fits = (fits_steps e fits.0, all_in_range es fits.1)

-- A journal's text has a line for each entry, and two more. Were there 2^32 - 3 entries, its line feeds would be too many.
pub in_range : (text : List ℕ) (b : ℕ) (es : List journals.Entry) → line_feeds text < 4294967295 → IsJournalText text b es → IsInRange b es
in_range text b es short j = record {
  least = j.least;
  most = j.most;
  steps = All-from_recursion HasStepsInRange es (all_in_range es j.fits);
  few = few;
}
  where
    few : length es < 4294967293
    few =
        let stop = line (stop_words (steps_in_all es)) in
        let a = ap line_feeds (j.text_is ∙ text_is b es) in
        let c = line_feeds-append (line (first_words b)) (joined_lines (entry_lines es) ++ stop) in
        let d = line_feeds-append (joined_lines (entry_lines es)) stop in
        let f = joined_line_feeds es j.fits in
        let most = j.most in
        let first = one_line_feed (first_words b) (decimal_plain b (omega (arith, most))) in
        let fewer : length es < 4294967295 = omega (arith, short, a, c, d, f) in
        let sum = steps_few es j.fits in
        let last = one_line_feed (stop_words (steps_in_all es)) (stop_plain (steps_in_all es) (omega (arith, fewer, sum))) in
        omega (arith, short, a, c, d, f, first, last)

-- ---- what the loops over the code's entries take from it

each_in_range : (es : List Entry) → AllByRecursion HasStepsInRange (entries_of es) → AllByRecursion (λ (e : Entry). HasStepsInRange (entry_of e)) es
each_in_range [] h = tt
each_in_range (e ∷ es) h = (h.0, each_in_range es h.1)

pub have_steps : (b : ℕ) (es : List Entry) → IsInRange b (entries_of es) → All (λ (e : Entry). HasStepsInRange (entry_of e)) es
have_steps b es r = All-from_recursion (λ (e : Entry). HasStepsInRange (entry_of e)) es (each_in_range es (recursion_from_All HasStepsInRange (entries_of es) r.steps))

pub few_entries : (b : ℕ) (es : List Entry) → IsInRange b (entries_of es) → length es < 4294967293
few_entries b es r = let l = length-map es entry_of in let few = r.few in omega (arith, l, few)
