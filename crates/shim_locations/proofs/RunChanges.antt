-- What runs in order are with one more number and without one, as their list is changed in place.
use Rattle.std.proofs.Common.{◌≡◌, ◌∙◌, ◌≤◌, ◌<◌, ◌-◌, ℕ, zero, suc, ◌+◌, Bool, true, false, cond, List, [], ◌∷◌, ◌++◌, length, take, drop, Option, Some, None, refl, sym, ap, subst, arith, append_assoc, reverse, slice_get, is_some, MatchOption}
use Rattle.std.specs.Option.{option_to_list}
use Rattle.std.specs.Prelude.{eqb, nat_le, nat_lt, ◌||◌}
use Rattle.std.proofs.lemmas.List.{reverse-append, take_at, drop_at, length-take-le}
use Rattle.std.proofs.lemmas.Bool.{leb-true, ltb-true, eqb-true}
use Rattle.shim_process.specs.declared.serial_run.SerialRun.{SerialRun}
use Rattle.shim_process.specs.SerialRuns.{last_serial, is_in_run, is_in_runs, with_serial, run_without, without_serial, without_some, run_above, run_below}
use Rattle.shim_base.proofs.Facts.{first_holds, second_holds, some_same, none_some, or_left, or_right}
use Rattle.shim_locations.specs.Runs.{AreBelow, IsFound}
use Rattle.shim_locations.proofs.Runs.{AreAbove, one_changes, none_stay, has_turned}

-- the order

empty_below : (b : ℕ) → AreBelow b []
empty_below b = tt

pub weaker : (a b : ℕ) (rs : List SerialRun) → a ≤ b → AreBelow a rs → AreBelow b rs
weaker a b [] le h = tt
weaker a b (r ∷ rs) le h = let low = h.0 in (omega (arith, low, le), h.1)

with_by : (t : Bool) (b n : ℕ) (r : SerialRun) (rs : List SerialRun) → eqb n (suc (last_serial r)) ≡ t → n < b → last_serial r < n → AreBelow r.first rs
    → AreBelow b (cond t (record { first = r.first; more = suc r.more } ∷ rs) (record { first = n; more = 0 } ∷ r ∷ rs))
with_by true b n r rs e lt low h = let at : n ≡ suc (last_serial r) = eqb-true n (suc (last_serial r)) e in (omega (arith, lt, at), h)
with_by false b n r rs e lt low h = (omega (arith, lt), (low, h))

pub with_below : (b n : ℕ) (rs : List SerialRun) → n < b → AreBelow n rs → AreBelow b (with_serial n rs)
with_below b n [] lt h = (omega (arith, lt), empty_below n)
with_below b n (r ∷ rs) lt h = with_by (eqb n (suc (last_serial r))) b n r rs refl lt h.0 h.1

abbrev upper : ℕ → SerialRun → SerialRun
upper n r = record { first = suc n; more = last_serial r - suc n }

abbrev lower : ℕ → SerialRun → SerialRun
lower n r = record { first = r.first; more = n - suc r.first }

parts_below : (hi lo : Bool) (b n : ℕ) (r : SerialRun) (rest : List SerialRun) → nat_lt n (last_serial r) ≡ hi → nat_lt r.first n ≡ lo → r.first ≤ n → n ≤ last_serial r → last_serial r < b → AreBelow r.first rest
    → AreBelow b ((cond hi (upper n r ∷ []) [] ++ cond lo (lower n r ∷ []) []) ++ rest)
parts_below true true b n r rest e f least most lt h = let up = ltb-true n (last_serial r) e in let down = ltb-true r.first n f in (omega (arith, up, lt), (omega (arith, down), h))
parts_below true false b n r rest e f least most lt h = let up = ltb-true n (last_serial r) e in (omega (arith, up, lt), weaker r.first (suc n) rest (omega (arith, least)) h)
parts_below false true b n r rest e f least most lt h = let down = ltb-true r.first n f in (omega (arith, down, most, lt), h)
parts_below false false b n r rest e f least most lt h = weaker r.first b rest (omega (arith, least, most, lt)) h

run_below_by : (t : Bool) (b n : ℕ) (r : SerialRun) (rest : List SerialRun) → is_in_run n r ≡ t → last_serial r < b → AreBelow r.first rest → AreBelow b (cond t (run_above n r ++ run_below n r) (r ∷ []) ++ rest)
run_below_by true b n r rest e lt h =
    parts_below (nat_lt n (last_serial r)) (nat_lt r.first n) b n r rest refl refl (leb-true r.first n (first_holds (nat_le r.first n) (nat_le n (last_serial r)) e)) (leb-true n (last_serial r) (second_holds (nat_le r.first n) (nat_le n (last_serial r)) e)) lt h
run_below_by false b n r rest e lt h = (lt, h)

pub without_below : (b n : ℕ) (rs : List SerialRun) → AreBelow b rs → AreBelow b (without_serial n rs)
without_below b n [] h = tt
without_below b n (r ∷ rs) h = run_below_by (is_in_run n r) b n r (without_serial n rs) refl h.0 (without_below r.first n rs h.1)

pub take_keeps : (b n : ℕ) (old new : List SerialRun) → AreBelow b old → new ≡ without_serial n old → AreBelow b new
take_keeps b n old new h e = subst (AreBelow b) (sym e) (without_below b n old h)

pub some_below : (b : ℕ) (s : Option ℕ) (rs : List SerialRun) → AreBelow b rs → AreBelow b (without_some s rs)
some_below b None rs h = h
some_below b (Some n) rs h = without_below b n rs h

-- between the ends of a run
from_first : (n : ℕ) (r : SerialRun) → is_in_run n r ≡ true → r.first ≤ n
from_first n r e = leb-true r.first n (first_holds (nat_le r.first n) (nat_le n (last_serial r)) e)

to_last : (n : ℕ) (r : SerialRun) → is_in_run n r ≡ true → n ≤ last_serial r
to_last n r e = leb-true n (last_serial r) (second_holds (nat_le r.first n) (nat_le n (last_serial r)) e)

-- the look for a run

one_on : (i : ℕ) → suc (i + 1) ≡ suc i + 1
one_on i = omega arith

-- so what is after it decides
behind_it : (n i : ℕ) (rs : List SerialRun) (r : SerialRun) → slice_get rs i ≡ Some r → is_in_run n r ≡ false → is_in_runs n (drop i rs) ≡ is_in_runs n (drop (i + 1) rs)
behind_it n i [] r e none = none_some r e
behind_it n zero (s ∷ rs) r e none = ap (λ b. b || is_in_runs n rs) (ap (is_in_run n) (some_same s r e) ∙ none)
behind_it n (suc i) (s ∷ rs) r e none = behind_it n i rs r e none ∙ ap (λ k. is_in_runs n (drop k (s ∷ rs))) (one_on i)

-- where the look has come to
pub looks_on : (n i : ℕ) (rs : List SerialRun) (r : SerialRun) (has : Bool) → slice_get rs i ≡ Some r → has ≡ false → has ≡ is_in_run n r → is_in_runs n (drop i rs) ≡ is_in_runs n rs → is_in_runs n (drop (i + 1) rs) ≡ is_in_runs n rs
looks_on n i rs r has at none e so_far = sym (behind_it n i rs r at (sym e ∙ none)) ∙ so_far

nothing_behind : (k : ℕ) → drop {A = SerialRun} k [] ≡ []
nothing_behind zero = refl
nothing_behind (suc k) = refl

past_end : (i : ℕ) (rs : List SerialRun) → slice_get rs i ≡ None → (drop i rs ≡ []) × (drop (i + 1) rs ≡ [])
past_end i [] e = (nothing_behind i, nothing_behind (i + 1))
past_end zero (s ∷ rs) e = none_some s (sym e)
past_end (suc i) (s ∷ rs) e = let w = past_end i rs e in (w.0, sym (ap (λ k. drop k (s ∷ rs)) (one_on i)) ∙ w.1)

pub looks_past : (n i : ℕ) (rs : List SerialRun) → slice_get rs i ≡ None → is_in_runs n (drop i rs) ≡ is_in_runs n rs → is_in_runs n (drop (i + 1) rs) ≡ is_in_runs n rs
looks_past n i rs e so_far = let w = past_end i rs e in ap (is_in_runs n) (w.1 ∙ sym w.0) ∙ so_far

all_behind : (i : ℕ) (rs : List SerialRun) → length rs ≤ i → drop i rs ≡ []
all_behind zero [] le = refl
all_behind (suc i) [] le = refl
all_behind zero (s ∷ rs) le = absurd (omega (arith, le))
all_behind (suc i) (s ∷ rs) le = all_behind i rs (omega (arith, le))

pub looked_at_all : (n i : ℕ) (rs : List SerialRun) → length rs ≤ i → is_in_runs n (drop i rs) ≡ is_in_runs n rs → is_in_runs n rs ≡ false
looked_at_all n i rs le so_far = sym so_far ∙ ap (is_in_runs n) (all_behind i rs le)

-- what the look found
is_there : (n i : ℕ) (rs : List SerialRun) (r : SerialRun) → slice_get rs i ≡ Some r → is_in_run n r ≡ true → is_in_runs n rs ≡ true
is_there n i [] r e has = none_some r e
is_there n zero (s ∷ rs) r e has = or_left (is_in_run n s) (is_in_runs n rs) (ap (is_in_run n) (some_same s r e) ∙ has)
is_there n (suc i) (s ∷ rs) r e has = or_right (is_in_run n s) (is_in_runs n rs) (is_there n i rs r e has)

pub found_by : (n : ℕ) (rs runs : List SerialRun) (o : Option (ℕ × SerialRun)) → MatchOption o (is_in_runs n rs ≡ false) (λ f. IsFound n rs f.0 f.1) → reverse rs ≡ runs → is_some o ≡ is_in_runs n runs
found_by n rs runs None h e = sym (ap (is_in_runs n) (sym e) ∙ has_turned n rs ∙ h)
found_by n rs runs (Some f) h e = sym (ap (is_in_runs n) (sym e) ∙ has_turned n rs ∙ is_there n f.0 rs f.1 h.0 h.1)

-- one less

pub index_inside : (i : ℕ) (rs : List SerialRun) (r : SerialRun) → slice_get rs i ≡ Some r → i < length rs
index_inside i [] r e = none_some r e
index_inside zero (s ∷ rs) r e = omega arith
index_inside (suc i) (s ∷ rs) r e = let lt = index_inside i rs r e in omega (arith, lt)

around_it : (i : ℕ) (rs : List SerialRun) (r : SerialRun) → slice_get rs i ≡ Some r → rs ≡ take i rs ++ r ∷ drop (i + 1) rs
around_it i [] r e = none_some r e
around_it zero (s ∷ rs) r e = ap (λ x. x ∷ rs) (some_same s r e)
around_it (suc i) (s ∷ rs) r e = ap (λ l. s ∷ l) (around_it i rs r e) ∙ ap (λ k. take (suc i) (s ∷ rs) ++ r ∷ drop k (s ∷ rs)) (one_on i)

turned_around : (before : List SerialRun) (r : SerialRun) (behind : List SerialRun) → reverse (before ++ r ∷ behind) ≡ reverse behind ++ r ∷ reverse before
turned_around before r behind =
    reverse-append before (r ∷ behind)
    ∙ ap (λ l. l ++ reverse before) (reverse-append (r ∷ []) behind)
    ∙ append_assoc (reverse behind) (r ∷ []) (reverse before)

turned_parts : (before mid behind : List SerialRun) → reverse (before ++ (mid ++ behind)) ≡ reverse behind ++ (reverse mid ++ reverse before)
turned_parts before mid behind =
    reverse-append before (mid ++ behind)
    ∙ ap (λ l. l ++ reverse before) (reverse-append mid behind)
    ∙ append_assoc (reverse behind) (reverse mid) (reverse before)

-- the run is below the bound
under : (b : ℕ) (greater : List SerialRun) (r : SerialRun) (rest : List SerialRun) → AreBelow b (greater ++ r ∷ rest) → last_serial r < b
under b [] r rest h = h.0
under b (g ∷ gs) r rest h = let low = h.0 in let lt = under g.first gs r rest h.1 in omega (arith, low, lt)

-- those before it are above its numbers
greater_above : (b n : ℕ) (greater : List SerialRun) (r : SerialRun) (rest : List SerialRun) → n ≤ last_serial r → AreBelow b (greater ++ r ∷ rest) → AreAbove n greater
greater_above b n [] r rest le h = tt
greater_above b n (g ∷ gs) r rest le h = let lt = under g.first gs r rest h.1 in (omega (arith, lt, le), greater_above g.first n gs r rest le h.1)

rest_below : (b : ℕ) (greater : List SerialRun) (r : SerialRun) (rest : List SerialRun) → AreBelow b (greater ++ r ∷ rest) → AreBelow r.first rest
rest_below b [] r rest h = h.1
rest_below b (g ∷ gs) r rest h = rest_below g.first gs r rest h.1

pub run_ends : (b i : ℕ) (rs : List SerialRun) (r : SerialRun) → slice_get rs i ≡ Some r → AreBelow b (reverse rs) → last_serial r < b
run_ends b i rs r e h = under b (reverse (drop (i + 1) rs)) r (reverse (take i rs)) (subst (AreBelow b) (ap reverse (around_it i rs r e) ∙ turned_around (take i rs) r (drop (i + 1) rs)) h)

parts_of : (n : ℕ) (r : SerialRun) → is_in_run n r ≡ true → run_above n r ++ run_below n r ≡ run_without n r
parts_of n r e = ap (λ b. cond b (run_above n r ++ run_below n r) (r ∷ [])) (sym e)

one_turned : (o : Option SerialRun) → reverse (option_to_list o) ≡ option_to_list o
one_turned None = refl
one_turned (Some r) = refl

mid_turned : (low high : Option SerialRun) → reverse (option_to_list low ++ option_to_list high) ≡ option_to_list high ++ option_to_list low
mid_turned low high = reverse-append (option_to_list low) (option_to_list high) ∙ ap (λ l. l ++ reverse (option_to_list low)) (one_turned high) ∙ ap (λ l. option_to_list high ++ l) (one_turned low)

-- what was put in its place
put_in : (i : ℕ) (rs removed once new : List SerialRun) (low high : Option SerialRun) → i ≤ length rs → removed ≡ take i rs ++ drop (i + 1) rs
    → once ≡ take i removed ++ (option_to_list high ++ drop i removed) → new ≡ take i once ++ (option_to_list low ++ drop i once)
    → new ≡ take i rs ++ ((option_to_list low ++ option_to_list high) ++ drop (i + 1) rs)
put_in i rs removed once new low high le e f g =
    let long : length (take i rs) ≡ i = length-take-le i rs le in
    let behind = drop (i + 1) rs in
    let h : once ≡ take i rs ++ (option_to_list high ++ behind) =
    f
    ∙ ap (λ l. take i l ++ (option_to_list high ++ drop i l)) e
    ∙ ap (λ l. l ++ (option_to_list high ++ drop i (take i rs ++ behind))) (take_at (take i rs) behind i long)
    ∙ ap (λ l. take i rs ++ (option_to_list high ++ l)) (drop_at (take i rs) behind i long) in
    g
    ∙ ap (λ l. take i l ++ (option_to_list low ++ drop i l)) h
    ∙ ap (λ l. l ++ (option_to_list low ++ drop i (take i rs ++ (option_to_list high ++ behind)))) (take_at (take i rs) (option_to_list high ++ behind) i long)
    ∙ ap (λ l. take i rs ++ (option_to_list low ++ l)) (drop_at (take i rs) (option_to_list high ++ behind) i long)
    ∙ ap (λ l. take i rs ++ l) (sym (append_assoc (option_to_list low) (option_to_list high) behind))

pub taken_from : (b n i : ℕ) (rs removed once new : List SerialRun) (r : SerialRun) (low high : Option SerialRun) → slice_get rs i ≡ Some r → is_in_run n r ≡ true → AreBelow b (reverse rs)
    → option_to_list high ≡ run_above n r → option_to_list low ≡ run_below n r
    → removed ≡ take i rs ++ drop (i + 1) rs → once ≡ take i removed ++ (option_to_list high ++ drop i removed) → new ≡ take i once ++ (option_to_list low ++ drop i once)
    → reverse new ≡ without_serial n (reverse rs)
taken_from b n i rs removed once new r low high at has order up down e f g =
    let before = take i rs in
    let behind = drop (i + 1) rs in
    let whole : reverse rs ≡ reverse behind ++ r ∷ reverse before = ap reverse (around_it i rs r at) ∙ turned_around before r behind in
    let lt = index_inside i rs r at in
    let sorted : AreBelow b (reverse behind ++ r ∷ reverse before) = subst (AreBelow b) whole order in
    ap reverse (put_in i rs removed once new low high (omega (arith, lt)) e f g)
    ∙ turned_parts before (option_to_list low ++ option_to_list high) behind
    ∙ ap (λ l. reverse behind ++ (l ++ reverse before)) (mid_turned low high ∙ ap (λ l. l ++ option_to_list low) up ∙ ap (λ l. run_above n r ++ l) down ∙ parts_of n r has)
    ∙ sym (ap (without_serial n) whole ∙ one_changes n (reverse behind) r (reverse before) (greater_above b n (reverse behind) r (reverse before) (to_last n r has) sorted) (from_first n r has) (rest_below b (reverse behind) r (reverse before) sorted))

-- there is no such number
pub nothing_taken : (n : ℕ) (rs : List SerialRun) → is_in_runs n rs ≡ false → reverse rs ≡ without_serial n (reverse rs)
nothing_taken n rs none = sym (none_stay n (reverse rs) (has_turned n rs ∙ none))
