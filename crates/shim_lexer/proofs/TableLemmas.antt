-- Tables of the code, read from the front.
use Rattle.std.proofs.Common.{◌≡◌, ◌≤◌, ◌<◌, ℕ, ◌+◌, List, length, drop, get_or, map, Option, Some, None, sym, ap, ◌∙◌, Bool, Bor}
use Rattle.std.specs.Str.{bytes_eq}
use Rattle.std.specs.Prelude.{if◌then◌else◌}
use Rattle.std.proofs.lemmas.List.{at_drop_more, at_drop_all}
use Rattle.shim_base.specs.Tokens.{row_for}

-- what the rows from this one on have beside the text
abbrev pub entry_from : {A : Type 0} → ℕ → List (Bor (List ℕ) × A) → List ℕ → Option A
entry_from i rows text = row_for (map (λ row. (row.0.now, row.1)) (drop i rows)) text

-- the next row is the entry if it has the text, and otherwise a later one is
pub entry_from-more : {A : Type 0} (i : ℕ) (rows : List (Bor (List ℕ) × A)) (text : List ℕ) (row : Bor (List ℕ) × A) (same : Bool) → i < length rows → row ≡ get_or rows i row →
    same ≡ bytes_eq row.0.now text → entry_from i rows text ≡ (if same then Some row.1 else entry_from (i + 1) rows text)
entry_from-more {A = A} i rows text row same lt is tested =
    at_drop_more (λ (l : List (Bor (List ℕ) × A)). row_for (map (λ (r : Bor (List ℕ) × A). (r.0.now, r.1)) l) text) rows i row lt
    ∙ ap (λ (r : Bor (List ℕ) × A). if bytes_eq r.0.now text then Some r.1 else entry_from (i + 1) rows text) (sym is)
    ∙ ap (λ (b : Bool). if b then Some row.1 else entry_from (i + 1) rows text) (sym tested)

-- past the last row there is no entry
pub entry_from-end : {A : Type 0} (i : ℕ) (rows : List (Bor (List ℕ) × A)) (text : List ℕ) → length rows ≤ i → entry_from i rows text ≡ None
entry_from-end {A = A} i rows text le = at_drop_all (λ (l : List (Bor (List ℕ) × A)). row_for (map (λ (r : Bor (List ℕ) × A). (r.0.now, r.1)) l) text) rows i le
