-- Lines that are read one after the other.
use Rattle.std.proofs.Common.{◌≡◌, ◌≤◌, ◌<◌, ◌∙◌, ℕ, suc, ◌+◌, ◌-◌, true, false, eqb, List, [], ◌∷◌, ◌++◌, drop, Option, Some, None, Result, Ok, Err, refl, sym, ap, append_assoc, arith}
use Rattle.std.specs.Prelude.{codes}
use Rattle.std.specs.List.{starts_with}
use Rattle.std.proofs.lemmas.List.{append-nil}
use Rattle.shim_laws_replay.specs.Journals.{Entry}
use Rattle.shim_laws_journals.specs.Ranges.{steps_in}
use Rattle.shim_replay.specs.Scanning.{FailsTextAs, ok_or_line, scan_entry, scan_stop, with_front, scan_lines}
use Rattle.shim_replay.specs.declared.fault.TextFault.{TextFault}
use Rattle.shim_replay.specs.declared.fault.TextFault.TheVariants as texts

line_of_ok : {A : Type 0} (line : ℕ) (o : Option A) (x : A) → ok_or_line line o ≡ Ok x → o ≡ Some x
line_of_ok line (Some y) x e = cc
line_of_ok line None x e = absurd cc

line_of_err : {A : Type 0} (line k : ℕ) (o : Option A) → ok_or_line line o ≡ Err k → (o ≡ None) × (line ≡ k)
line_of_err line k (Some y) e = absurd cc
line_of_err line k None e = (refl, cc)

regroup : (front : List Entry) (e : Entry) (read : Result (List Entry) ℕ) → with_front front (with_front (e ∷ []) read) ≡ with_front (front ++ e ∷ []) read
regroup front e (Ok es) = ap (λ (xs : List Entry). Ok xs) (simp append_assoc)
regroup front e (Err line) = refl

pub one_line : (n line sum : ℕ) (bytes : List ℕ) (e : Entry) (after : List ℕ) → starts_with eqb bytes (codes "stop ") ≡ false → scan_entry bytes ≡ Some (e, after)
    → scan_lines (suc n) line sum bytes ≡ with_front (e ∷ []) (scan_lines n (line + 1) (sum + steps_in e) after)
unfolding scan_lines
one_line n line sum bytes e after other is = rw (other, is) refl

pub no_line : (n line sum : ℕ) (bytes : List ℕ) → starts_with eqb bytes (codes "stop ") ≡ false → scan_entry bytes ≡ None → scan_lines (suc n) line sum bytes ≡ Err line
unfolding scan_lines
no_line n line sum bytes other is = rw (other, is) refl

pub last_line : (n line sum : ℕ) (bytes : List ℕ) → starts_with eqb bytes (codes "stop ") ≡ true → scan_lines (suc n) line sum bytes ≡ scan_stop line sum (drop 5 bytes)
unfolding scan_lines
last_line n line sum bytes stop = rw stop refl

no_lines : (line sum : ℕ) (bytes : List ℕ) → scan_lines 0 line sum bytes ≡ Err line
unfolding scan_lines
no_lines line sum bytes = refl

pub goes_on : (front : List Entry) (most count sum : ℕ) (bytes : List ℕ) (e : Entry) (after : List ℕ) (total : Result (List Entry) ℕ) → count < most → starts_with eqb bytes (codes "stop ") ≡ false
    → ok_or_line (count + 2) (scan_entry bytes) ≡ Ok (e, after) → with_front front (scan_lines (most - count) (count + 2) sum bytes) ≡ total
    → with_front (front ++ e ∷ []) (scan_lines (most - (count + 1)) (count + 1 + 2) (sum + steps_in e) after) ≡ total
goes_on front most count sum bytes e after total lt other is so_far =
    let k : most - count ≡ suc (most - (count + 1)) = omega arith in
    let l : count + 1 + 2 ≡ count + 2 + 1 = omega arith in
    let one : with_front front (scan_lines (most - count) (count + 2) sum bytes) ≡ with_front (front ++ e ∷ []) (scan_lines (most - (count + 1)) (count + 1 + 2) (sum + steps_in e) after) =
    rw (k, l, one_line (most - (count + 1)) (count + 2) sum bytes e after other (line_of_ok (count + 2) (scan_entry bytes) (e, after) is)) (regroup front e (scan_lines (most - (count + 1)) (count + 2 + 1) (sum + steps_in e) after)) in
    sym one ∙ so_far

pub fails : (e : TextFault) (front : List Entry) (most count sum : ℕ) (bytes : List ℕ) (total : Result (List Entry) ℕ) → count < most → starts_with eqb bytes (codes "stop ") ≡ false
    → FailsTextAs e (ok_or_line (count + 2) (scan_entry bytes)) → with_front front (scan_lines (most - count) (count + 2) sum bytes) ≡ total → FailsTextAs e total
fails texts.NoMemory front most count sum bytes total lt other is so_far = tt
fails (texts.Malformed line) front most count sum bytes total lt other is so_far =
    let t = line_of_err (count + 2) line (scan_entry bytes) is in
    let k : most - count ≡ suc (most - (count + 1)) = omega arith in
    let one : with_front front (scan_lines (most - count) (count + 2) sum bytes) ≡ Err (count + 2) = rw (k, no_line (most - (count + 1)) (count + 2) sum bytes other t.0) refl in
    sym so_far ∙ one ∙ ap (λ (n : ℕ). Err n) t.1

pub stops : (front : List Entry) (most count sum : ℕ) (bytes : List ℕ) (total : Result (List Entry) ℕ) → count < most → starts_with eqb bytes (codes "stop ") ≡ true
    → scan_stop (count + 2) sum (drop 5 bytes) ≡ Ok [] → with_front front (scan_lines (most - count) (count + 2) sum bytes) ≡ total → total ≡ Ok front
stops front most count sum bytes total lt stop is so_far =
    let k : most - count ≡ suc (most - (count + 1)) = omega arith in
    let one : with_front front (scan_lines (most - count) (count + 2) sum bytes) ≡ Ok front = rw (k, last_line (most - (count + 1)) (count + 2) sum bytes stop, is) (ap (λ (xs : List Entry). Ok xs) (append-nil front)) in
    sym so_far ∙ one

pub stop_fails : (e : TextFault) (front : List Entry) (most count sum : ℕ) (bytes : List ℕ) (total : Result (List Entry) ℕ) → count < most → starts_with eqb bytes (codes "stop ") ≡ true
    → FailsTextAs e (scan_stop (count + 2) sum (drop 5 bytes)) → with_front front (scan_lines (most - count) (count + 2) sum bytes) ≡ total → FailsTextAs e total
stop_fails texts.NoMemory front most count sum bytes total lt stop is so_far = tt
stop_fails (texts.Malformed line) front most count sum bytes total lt stop is so_far =
    let k : most - count ≡ suc (most - (count + 1)) = omega arith in
    let one : with_front front (scan_lines (most - count) (count + 2) sum bytes) ≡ Err line = rw (k, last_line (most - (count + 1)) (count + 2) sum bytes stop, is) refl in
    sym so_far ∙ one

pub done : (front : List Entry) (most count sum : ℕ) (bytes : List ℕ) (total : Result (List Entry) ℕ) → most ≤ count → with_front front (scan_lines (most - count) (count + 2) sum bytes) ≡ total → total ≡ Err (count + 2)
done front most count sum bytes total le so_far =
    let k : most - count ≡ 0 = omega arith in
    let one : with_front front (scan_lines (most - count) (count + 2) sum bytes) ≡ Err (count + 2) = rw (k, no_lines (count + 2) sum bytes) refl in
    sym so_far ∙ one
