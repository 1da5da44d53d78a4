-- What reading answers, from what it reads.
use Rattle.std.proofs.Common.{◌≡◌, ◌<◌, ◌∙◌, ℕ, List, Result, Ok, Err, sym, ap}
use Rattle.shim_laws_replay.specs.Journals.{Entry}
use Rattle.shim_replay.specs.Entries.{entries_of}
use Rattle.shim_replay.specs.JournalTexts.{IsJournalText, line_feeds}
use Rattle.shim_replay.specs.Scanning.{scan_journal}
use Rattle.shim_replay.specs.Answers.{ReadAnswers}
use Rattle.shim_replay.specs.declared.journal.Journal.{Journal}
use Rattle.shim_replay.specs.declared.fault.JournalFault.TheVariants as faults
use Rattle.shim_replay.proofs.JournalLaws.{journal_takes}
use Rattle.shim_laws_journals.specs.Ranges.{IsInRange}
use Rattle.shim_replay.specs.Laws.{WrittenIsRead, OneText}
use Rattle.shim_replay.proofs.InRange.{in_range}
use Rattle.shim_replay.proofs.Faults.{journal_faulty, journal_again, faulty_small}

abbrev ok : {A : Type 0} → A → Result A ℕ
ok x = Ok x

abbrev value_or : {A : Type 0} → A → Result A ℕ → A
value_or d (Ok x) = x
value_or d (Err k) = d

not_both : {A : Type 0} (x : A) (k : ℕ) (r : Result A ℕ) → r ≡ Ok x → r ≡ Err k → ⊥
not_both x k (Ok y) e f = absurd cc
not_both x k (Err m) e f = absurd cc

pub one_journal : (text : List ℕ) (b c : ℕ) (es fs : List Entry) → line_feeds text < 4294967295 → IsJournalText text b es → IsJournalText text c fs → (b ≡ c) × (es ≡ fs)
one_journal text b c es fs few j k =
    let e = ok_pair (sym (journal_again text b es few j) ∙ journal_again text c fs few k) in
    (ap (λ (x : ℕ × List Entry). x.0) e, ap (λ (x : ℕ × List Entry). x.1) e)
  where
    ok_pair : ok {A = ℕ × List Entry} (b, es) ≡ ok (c, fs) → (λ (x : ℕ × List Entry). x) (b, es) ≡ (c, fs)
    ok_pair e = ap (value_or (b, es)) e

pub is_found : (text : List ℕ) (j : Journal) → line_feeds text < 4294967295 → scan_journal text ≡ Ok (j.budget, entries_of j.entries) → ReadAnswers text (Ok j)
is_found text j few e =
    let t = journal_takes text j.budget (entries_of j.entries) e in
    (t, λ b es k. one_journal text b j.budget es (entries_of j.entries) few k t)

pub is_faulty : (text : List ℕ) (line : ℕ) → line_feeds text < 4294967295 → scan_journal text ≡ Err line → ReadAnswers text (Err (faults.Malformed line))
is_faulty text line few e = (journal_faulty text line few e, λ b es k. not_both (b, es) line (scan_journal text) (journal_again text b es few k) e)

pub is_small : (text : List ℕ) (line : ℕ) → line_feeds text < 4294967295 → scan_journal text ≡ Err line → line < 4294967296
is_small text line few e = faulty_small text line few (journal_faulty text line few e)

pub is_in_range : (text : List ℕ) (j : Journal) → line_feeds text < 4294967295 → scan_journal text ≡ Ok (j.budget, entries_of j.entries) → IsInRange j.budget (entries_of j.entries)
is_in_range text j few e = in_range text j.budget (entries_of j.entries) few (journal_takes text j.budget (entries_of j.entries) e)

pub one_text : OneText
one_text text other b es j k = j.text_is ∙ sym k.text_is

pub written_is_read : WrittenIsRead
written_is_read text b es (Ok j) is read = let same = read.1 b es is in (sym same.0, sym same.1)
written_is_read text b es (Err (faults.Malformed line)) is read = read.1 b es is
written_is_read text b es (Err faults.NoMemory) is read = tt
