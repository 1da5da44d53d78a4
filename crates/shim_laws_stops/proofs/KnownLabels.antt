-- The label of an exception that is known is not that of the program's end.
use Rattle.std.proofs.Common.{◌≡◌, ◌∙◌, ◌≤◌, ◌<◌, ◌⊎◌, ℕ, zero, suc, ◌+◌, Bool, true, false, inl, inr, List, [], ◌∷◌, length, cond, nat_eq, eqb-true, refl, ap, arith}
use Rattle.std.specs.Prelude.{slice_get}
use Rattle.std.proofs.lemmas.Bool.{and_parts}
use Rattle.shim_units.specs.declared.form.Form.{Form}
use Rattle.shim_units.specs.declared.unit.UCall.{UCall}
use Rattle.shim_process.specs.LocalState.{LocalState, number_or_any, number_of, unit_at}
use Rattle.shim_process.specs.StatementViews.{statement_view, exceptions_of, label_among, label_of, passed_labels}
use Rattle.shim_base.proofs.Facts.{choose, either_holds}
use Rattle.shim_laws_stops.specs.InForce.{are_among, hands_on}
use Rattle.shim_laws_stops.specs.FrameLabels.{AreInScope, AreLabels}
use Rattle.shim_laws_stops.proofs.Among.{Among, none_among}

found_by : (b : Bool) (first given : ℕ) → b ≡ true → 1 ≤ first → 1 ≤ cond b first given
found_by true first given e h = h
found_by false first given e h = absurd (cc e)

label_least : (x first : ℕ) (es : List ℕ) (given : ℕ) → 1 ≤ first → (1 ≤ given) ⊎ Among es x → 1 ≤ label_among x first es given
label_least x first [] given least (inl h) = h
label_least x first [] given least (inr h) = none_among x h
label_least x first (e ∷ es) given least (inl h) = label_least x (first + 1) es (cond (nat_eq e x) first given) (omega (arith, least)) (inl (choose (λ n. 1 ≤ n) (nat_eq e x) first given least h))
label_least x first (e ∷ es) given least (inr h) =
    label_least x (first + 1) es (cond (nat_eq e x) first given) (omega (arith, least)) (by_case (either_holds (nat_eq e x) _ h))
  where
    by_case : (nat_eq e x ≡ true) ⊎ Among es x → (1 ≤ cond (nat_eq e x) first given) ⊎ Among es x
    by_case (inl is) = inl (found_by (nat_eq e x) first given is least)
    by_case (inr there) = inr there

number_least : (labels : List ℕ) (x : ℕ) → AreLabels labels → x < length labels → 1 ≤ number_or_any (slice_get labels x)
number_least [] x h below = absurd (omega (arith, below))
number_least (y ∷ ys) zero h below = h.0
number_least (y ∷ ys) (suc x) h below = number_least ys x h.1 (omega (arith, below))

given_least : (labels : List ℕ) (x : ℕ) → AreLabels labels → x < length labels → 1 ≤ number_of labels x
unfolding number_of
given_least labels x h below = number_least labels x h below

pub label_known : (l : LocalState) (x : ℕ) → 1 ≤ l.base → AreLabels l.frame.labels → (x < length l.frame.labels) ⊎ Among (exceptions_of l.frame.places) x → 1 ≤ label_of (statement_view l) x
label_known l x least h (inl low) =
    label_least x (l.base + l.frame.outer) (exceptions_of l.frame.places) (number_of l.frame.labels x) (omega (arith, least)) (inl (given_least l.frame.labels x h low))
label_known l x least h (inr there) = label_least x (l.base + l.frame.outer) (exceptions_of l.frame.places) (number_of l.frame.labels x) (omega (arith, least)) (inr there)

-- of each that is known in the unit
pub known_there : (l : LocalState) (given : ℕ) (xs : List ℕ) (x : ℕ) → 1 ≤ l.base → length l.frame.labels ≡ given → AreLabels l.frame.labels → AreInScope given l.frame.places xs → Among xs x → 1 ≤ label_of (statement_view l) x
known_there l given xs x least many h known a = elim (known x a) [
  | inl low ↦ label_known l x least h (inl (omega (arith, low, many)))
  | inr there ↦ label_known l x least h (inr there)
]

pub passed_many : (l : LocalState) (xs : List ℕ) → length (passed_labels (statement_view l) xs) ≡ length xs
passed_many l [] = refl
passed_many l (x ∷ xs) = ap suc (passed_many l xs)

passed_known : (l : LocalState) (given : ℕ) (xs ys : List ℕ) → 1 ≤ l.base → length l.frame.labels ≡ given → AreLabels l.frame.labels → AreInScope given l.frame.places xs → are_among xs ys ≡ true → AreLabels (passed_labels (statement_view l) ys)
passed_known l given xs [] least many h known e = tt
passed_known l given xs (y ∷ ys) least many h known e =
    let w = and_parts _ (are_among xs ys) e in
    (known_there l given xs y least many h known w.0, passed_known l given xs ys least many h known w.1)

-- what a call or a branch passes on: a label for each exception that its unit is given
pub record PassesOn (program : Form) (unit : ℕ) (passed : List ℕ) : Type 0 where
  pub many : length passed ≡ (unit_at program unit).throws
  pub labels : AreLabels passed

pub passes_on : (l : LocalState) (given : ℕ) (xs : List ℕ) (c : UCall) → 1 ≤ l.base → length l.frame.labels ≡ given → AreLabels l.frame.labels → AreInScope given l.frame.places xs → hands_on l.program c xs ≡ true
    → PassesOn l.program c.unit (passed_labels (statement_view l) c.throws)
passes_on l given xs c least many h known e =
    let w = and_parts (are_among xs c.throws) (nat_eq (length c.throws) (unit_at l.program c.unit).throws) e in
    record {
      many = passed_many l c.throws ∙ eqb-true (length c.throws) (unit_at l.program c.unit).throws w.1;
      labels = passed_known l given xs c.throws least many h known w.0;
    }
