-- Records that lie together: they are put in place of others or after the last, or are freed.
use Rattle.std.specs.Prelude.{◌≡◌, ◌≢◌, ◌<◌, ℕ, zero, suc, ◌+◌, Some, List, [], ◌∷◌, slice_get}
use Rattle.shim_laws_table.specs.Agrees.{free}
use Rattle.shim_records.specs.Pairs.{record_view}
use Rattle.shim_records.specs.declared.record.Record.{Record}

-- one item put in place of another, or after the last
abbrev pub with_one : {A : Type 0} → ℕ → A → List A → List A
with_one g x [] = x ∷ []
with_one zero x (y ∷ ys) = x ∷ ys
with_one (suc g) x (y ∷ ys) = y ∷ with_one g x ys

-- the items xs put one after the other from the place g on, each in place of another or after the last
abbrev pub with_block : {A : Type 0} → ℕ → List A → List A → List A
with_block g [] ys = ys
with_block g (x ∷ xs) ys = with_block (g + 1) xs (with_one g x ys)

-- from the number g on n records are free, and all others are as before
pub record IsFreed (g n : ℕ) (before after : List Record) : Type 0 where
  pub inside : (b : ℕ) (r : Record) → b < n → slice_get after (g + b) ≡ Some r → record_view r ≡ free
  pub outside : (j : ℕ) → ((b : ℕ) → b < n → j ≢ g + b) → slice_get after j ≡ slice_get before j
