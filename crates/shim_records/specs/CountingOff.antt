-- One child less of a fork goes on.
use Rattle.std.specs.Prelude.{◌≡◌, ◌-◌, ℕ, Some, None, List, slice_get, slice_set}
use Rattle.shim_records.specs.Pairs.{up_in}
use Rattle.shim_records.specs.declared.record.Record.{Record}

-- The record of the parent of x counts one child less that goes on, or 0 if it counted none. Without such a record nothing has changed.
pub data HasCountedOff (x : ℕ) (before after : List Record) : Type 0 where
  alone : up_in before x ≡ None → after ≡ before → HasCountedOff x before after
  lost : (j : ℕ) → up_in before x ≡ Some j → slice_get before j ≡ None → after ≡ before → HasCountedOff x before after
  below : (j : ℕ) (r : Record) → up_in before x ≡ Some j → slice_get before j ≡ Some r
      → after ≡ slice_set before j (record { status = r.status; first = r.first; parent = r.parent; path = r.path; going_children = r.going_children - 1; pairs = r.pairs }) → HasCountedOff x before after
