-- Blocks of numbers: counts that begin at 0, and numbers that are listed.
use Rattle.std.proofs.Common.{◌≡◌, ◌≢◌, ◌≤◌, ◌<◌, ◌+◌, ◌⊎◌, inl, inr, ℕ, zero, suc, Bool, true, Some, List, length, slice_set, refl, sym, ap, ◌∙◌, arith}
use Rattle.std.specs.Prelude.{slice_get, replicate}
use Rattle.std.proofs.lemmas.List.{length-set}
use lib.ListN.{length-replicate}
use Rattle.shim_laws_table.proofs.SameTrees.{same_or_not}
use Rattle.shim_laws_table_events.specs.queues.EventQueue.{is_set, is_listed}
use Rattle.shim_records.specs.Blocks.{with_one, with_block}
use Rattle.shim_records.proofs.Representing.{block_in, block_out}
use Rattle.shim_records.proofs.Together.{one_set}

-- a number is one of so many from another one on, or none of them
pub in_block_or_not : (first count i : ℕ) → ((b : ℕ) × (b < count) × (i ≡ first + b)) ⊎ ((b : ℕ) → b < count → i ≢ first + b)
in_block_or_not first zero i = inr (λ b less. absurd (omega (arith, less)))
in_block_or_not first (suc n) i = elim (same_or_not i (first + n)) [
  | inl e ↦ inl (n, omega arith, e)
  | inr far ↦ elim (in_block_or_not first n i) [
    | inl w ↦ inl (w.0, (let less = w.1 in omega (arith, less)), w.2)
    | inr out ↦ inr (λ b less e. elim (same_or_not b n) [
      | inl same ↦ far (e ∙ ap (λ z. first + z) same)
      | inr other ↦ out b (still_less b n other less) e
    ])
  ]
]
  where
    still_less : (x y : ℕ) → x ≢ y → x < suc y → x < y
    still_less x y n less = omega (arith, n, less)

module _ {A : Type 0} (x : A) (first count : ℕ) where
  -- what is left to fill makes the whole of it
  pub record FilledSoFar (branch : ℕ) (old now : List A) : Type 0 where
    pub left : (rest : ℕ) → branch + rest ≡ count → with_block (first + branch) (replicate rest x) now ≡ with_block first (replicate count x) old
    pub as_many : length now ≡ length old

  pub one_filled : (branch : ℕ) (old now : List A) → first + branch < length now → FilledSoFar branch old now → FilledSoFar (branch + 1) old (slice_set now (first + branch) x)
  one_filled branch old now within so = record {
    left = λ rest e.
        (λ j. with_block (next j) (replicate rest x) (one_set now (first + branch) x within j)) ∙ so.left (suc rest) (omega (arith, e));
    as_many = length-set now (first + branch) x ∙ so.as_many;
  }
    where
      next : first + (branch + 1) ≡ first + branch + 1
      next = omega arith

  pub all_filled : (branch : ℕ) (old now : List A) → branch ≡ count → FilledSoFar branch old now → now ≡ with_block first (replicate count x) old
  all_filled branch old now e so = so.left 0 (omega (arith, e))

-- a block that lies within makes a list no longer
pub block_within : {A : Type 0} (x : A) (n g : ℕ) (ys : List A) → g + n ≤ length ys → length (with_block g (replicate n x) ys) ≡ length ys
block_within x zero g ys h = refl
block_within x (suc n) g ys h =
    let one : length (with_one g x ys) ≡ length ys = ap length (sym (one_set ys g x (omega (arith, h)))) ∙ length-set ys g x in
    block_within x n (g + 1) (with_one g x ys) (omega (arith, h, one)) ∙ one

pub filled_in : {A : Type 0} (x : A) (n b : ℕ) → b < n → slice_get (replicate n x) b ≡ Some x
filled_in x zero b less = absurd (omega (arith, less))
filled_in x (suc n) zero less = refl
filled_in x (suc n) (suc b) less = filled_in x n b (omega (arith, less))

module _ {A : Type 0} (x : A) (first count : ℕ) (old new : List A) (within : first + count ≤ length old) (is : new ≡ with_block first (replicate count x) old) where
  start : first ≤ length old
  start = omega (arith, within)

  pub block_is : (b : ℕ) → b < count → slice_get new (first + b) ≡ Some x
  block_is b less = ap (λ z. slice_get z (first + b)) is ∙ block_in first (replicate count x) old b x start (filled_in x count b less)

  pub outside_is : (i : ℕ) → ((b : ℕ) → b < count → i ≢ first + b) → slice_get new i ≡ slice_get old i
  outside_is i out = ap (λ z. slice_get z i) is ∙ block_out first (replicate count x) old i start (λ b less. out b (let e = length-replicate {A = A} count x in omega (arith, less, e)))

  pub block_long : length new ≡ length old
  block_long = ap length is ∙ block_within x count first old within

-- what was listed is, and so are so many numbers from one on
pub record ListsBlock (first count : ℕ) (old new : List Bool) : Type 0 where
  pub kept : (i : ℕ) → is_listed old i ≡ true → is_listed new i ≡ true
  pub mine : (b : ℕ) → b < count → is_listed new (first + b) ≡ true
  pub as_many : length new ≡ length old

-- so numbers of a block whose flags were set are listed, and those that were
pub block_listed : (first count : ℕ) (old new : List Bool) → first + count ≤ length old → new ≡ with_block first (replicate count true) old → ListsBlock first count old new
block_listed first count old new within is = record {
  kept = λ i e. elim (in_block_or_not first count i) [
    | inl w ↦ ap (is_listed new) w.2 ∙ ap is_set (block_is true first count old new within is w.0 w.1)
    | inr out ↦ ap is_set (outside_is true first count old new within is i out) ∙ e
  ];
  mine = λ b less. ap is_set (block_is true first count old new within is b less);
  as_many = block_long true first count old new within is;
}
