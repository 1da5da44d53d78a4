-- The numbers of a journal: how many steps its entries have, and which of them a text can have.
use Rattle.std.specs.Prelude.{◌≤◌, ◌<◌, ℕ, ◌+◌, List, [], ◌∷◌, length}
use Rattle.std.specs.List.{All}
use Rattle.shim_laws_replay.specs.Journals.{Entry, Quiet, Did}

-- how many steps an entry has
abbrev pub steps_in : Entry → ℕ
steps_in (Quiet p n) = n
steps_in (Did e) = 1

-- how many steps all entries have together
abbrev pub steps_in_all : List Entry → ℕ
steps_in_all [] = 0
steps_in_all (e ∷ es) = steps_in e + steps_in_all es

-- an entry of quiet steps has 1 to 4,000,000 of them; of an entry of one event nothing is asked
abbrev pub HasStepsInRange : Entry → Type 0
HasStepsInRange (Quiet p n) = (1 ≤ n) × (n ≤ 4000000)
HasStepsInRange (Did e) = Unit {0}

-- The budget is 1 to 4,000,000, and the steps of each entry are in range (`HasStepsInRange`). The entries are so few that the numbers of their lines, and of the line after the last, are below 2^32.
pub record IsInRange (b : ℕ) (es : List Entry) : Type 0 where
  pub least : 1 ≤ b
  pub most : b ≤ 4000000
  pub steps : All HasStepsInRange es
  pub few : length es < 4294967293
