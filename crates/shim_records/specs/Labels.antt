-- How the least labels of records are brought up to date on the way up.
use Rattle.std.specs.Prelude.{◌≡◌, ℕ, suc, false, Option, Some, None, List, map}
use Rattle.shim_base.specs.Paths.{Channel, same_channel}
use Rattle.shim_laws_table.specs.LoweredLabels.{LoweredAbove}
use Rattle.shim_records.specs.Pairs.{counts_in, min_labels_in, up_in, rest_of}
use Rattle.shim_records.specs.declared.record.Record.{Record}

-- the labels for the channel alone have changed, of whatever records
pub record OnlyLabels (c : Channel) (before after : List Record) : Type 0 where
  pub rest : map rest_of after ≡ map rest_of before
  pub counts : (d : Channel) (i : ℕ) → counts_in d after i ≡ counts_in d before i
  pub elsewhere : (d : Channel) → same_channel c d ≡ false → (i : ℕ) → min_labels_in d after i ≡ min_labels_in d before i

-- None: the walk up from the record x ends with this step, whatever its bound. Some: if a walk from j of at most n forks leads on to `end`, a walk from x of at most n + 1 forks leads there.
abbrev pub IsWalkStep : Channel → ℕ → List Record → ℕ → Option ℕ → List Record → Type 0
IsWalkStep c y before x None after = (n : ℕ) → LoweredAbove (up_in before) (counts_in c before) (Some y) n (min_labels_in c before) x (min_labels_in c after)
IsWalkStep c y before x (Some j) after = (n : ℕ) (end : ℕ → Option ℕ) → LoweredAbove (up_in before) (counts_in c before) (Some y) n (min_labels_in c after) j end → LoweredAbove (up_in before) (counts_in c before) (Some y) (suc n) (min_labels_in c before) x end

-- one step of a walk up from the record x takes the label y in, and nothing but labels for the channel has changed
abbrev pub LowersOne : Channel → ℕ → List Record → ℕ → Option ℕ → List Record → Type 0
LowersOne c y before x next after = IsWalkStep c y before x next after × OnlyLabels c before after

-- the label y was taken in for the channel above the record x, through at most n forks, and nothing else has changed
abbrev pub IsLoweredAbove : Channel → ℕ → ℕ → ℕ → List Record → List Record → Type 0
IsLoweredAbove c y n x before after = LoweredAbove (up_in before) (counts_in c before) (Some y) n (min_labels_in c before) x (min_labels_in c after) × OnlyLabels c before after
