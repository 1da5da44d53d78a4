-- What a take changes where runs stand in order.
use Rattle.std.proofs.Common.{◌≡◌, ◌∙◌, ◌≤◌, ◌<◌, ℕ, ◌+◌, Bool, true, false, cond, List, [], ◌∷◌, ◌++◌, refl, sym, ap, arith, append_assoc, ◌||◌, reverse}
use Rattle.std.specs.Prelude.{nat_le}
use Rattle.std.proofs.lemmas.List.{reverse-append}
use Rattle.std.proofs.lemmas.Bool.{leb-true}
use Rattle.shim_process.specs.declared.serial_run.SerialRun.{SerialRun}
use Rattle.shim_process.specs.SerialRuns.{last_serial, is_in_run, is_in_runs, run_without, without_serial, run_above, run_below}
use Rattle.shim_base.proofs.Facts.{first_holds, second_holds}
use Rattle.shim_locations.specs.Runs.{AreBelow}

pub without_both : (n : ℕ) (rs ss : List SerialRun) → without_serial n (rs ++ ss) ≡ without_serial n rs ++ without_serial n ss
without_both n [] ss = refl
without_both n (r ∷ rs) ss = ap (λ l. run_without n r ++ l) (without_both n rs ss) ∙ sym (append_assoc (run_without n r) (without_serial n rs) (without_serial n ss))

-- a run that hasn't the number stays
stays_by : (b : Bool) (n : ℕ) (r : SerialRun) → (b ≡ true → ⊥) → cond b (run_above n r ++ run_below n r) (r ∷ []) ≡ r ∷ []
stays_by true n r none = absurd (none refl)
stays_by false n r none = refl

run_stays : (n : ℕ) (r : SerialRun) → (is_in_run n r ≡ true → ⊥) → run_without n r ≡ r ∷ []
run_stays n r none = stays_by (is_in_run n r) n r none

no_or : (a b : Bool) → (a || b) ≡ false → (a ≡ true → ⊥) × (b ≡ false)
no_or true b e = absurd (cc e)
no_or false b e = (λ (h : false ≡ true). absurd (cc h), e)

-- none of them has it
pub none_stay : (n : ℕ) (rs : List SerialRun) → is_in_runs n rs ≡ false → without_serial n rs ≡ rs
none_stay n [] e = refl
none_stay n (r ∷ rs) e =
    let h = no_or (is_in_run n r) (is_in_runs n rs) e in
    ap (λ l. l ++ without_serial n rs) (run_stays n r h.0) ∙ ap (λ l. r ∷ l) (none_stay n rs h.1)

-- all of them begin above the number
abbrev pub AreAbove : ℕ → List SerialRun → Type 0
AreAbove n [] = Unit {0}
AreAbove n (r ∷ rs) = (n < r.first) × AreAbove n rs

pub above_stay : (n : ℕ) (rs : List SerialRun) → AreAbove n rs → without_serial n rs ≡ rs
above_stay n [] h = refl
above_stay n (r ∷ rs) h =
    let low = h.0 in
    ap (λ l. l ++ without_serial n rs) (run_stays n r (λ e. let least = leb-true r.first n (first_holds (nat_le r.first n) (nat_le n (last_serial r)) e) in omega (arith, low, least)))
    ∙ ap (λ l. r ∷ l) (above_stay n rs h.1)

pub below_stay : (n bound : ℕ) (rs : List SerialRun) → bound ≤ n → AreBelow bound rs → without_serial n rs ≡ rs
below_stay n bound [] le h = refl
below_stay n bound (r ∷ rs) le h =
    let high = h.0 in
    ap (λ l. l ++ without_serial n rs) (run_stays n r (λ e. let most = leb-true n (last_serial r) (second_holds (nat_le r.first n) (nat_le n (last_serial r)) e) in omega (arith, high, most, le)))
    ∙ ap (λ l. r ∷ l) (below_stay n r.first rs (omega (arith, high, le)) h.1)

-- of runs in order only the first that begins at the number or below it changes
pub one_changes : (n : ℕ) (greater : List SerialRun) (r : SerialRun) (rest : List SerialRun) → AreAbove n greater → r.first ≤ n → AreBelow r.first rest → without_serial n (greater ++ r ∷ rest) ≡ greater ++ (run_without n r ++ rest)
one_changes n greater r rest up le down =
    without_both n greater (r ∷ rest)
    ∙ ap (λ l. l ++ (run_without n r ++ without_serial n rest)) (above_stay n greater up)
    ∙ ap (λ l. greater ++ (run_without n r ++ l)) (below_stay n r.first rest le down)

-- what one has doesn't hang on the order of runs

or_assoc : (a b c : Bool) → (a || (b || c)) ≡ ((a || b) || c)
or_assoc true b c = refl
or_assoc false b c = refl

or_turned : (a b : Bool) → (a || b) ≡ (b || a)
or_turned true true = refl
or_turned true false = refl
or_turned false true = refl
or_turned false false = refl

or_false : (b : Bool) → (b || false) ≡ b
or_false true = refl
or_false false = refl

has_both : (n : ℕ) (rs ss : List SerialRun) → is_in_runs n (rs ++ ss) ≡ (is_in_runs n rs || is_in_runs n ss)
has_both n [] ss = refl
has_both n (r ∷ rs) ss = ap (λ b. is_in_run n r || b) (has_both n rs ss) ∙ or_assoc (is_in_run n r) (is_in_runs n rs) (is_in_runs n ss)

pub has_turned : (n : ℕ) (rs : List SerialRun) → is_in_runs n (reverse rs) ≡ is_in_runs n rs
has_turned n [] = refl
has_turned n (r ∷ rs) =
    ap (is_in_runs n) (reverse-append (r ∷ []) rs)
    ∙ has_both n (reverse rs) (r ∷ [])
    ∙ ap (λ b. b || (is_in_run n r || false)) (has_turned n rs)
    ∙ or_turned (is_in_runs n rs) (is_in_run n r || false)
    ∙ ap (λ b. b || is_in_runs n rs) (or_false (is_in_run n r))
