-- The label of a death taken in upwards for all channels that the process was given and shares, one after the other.
use Rattle.std.specs.Prelude.{◌≡◌, ℕ, true, false, List, [], ◌∷◌}
use Rattle.shim_base.specs.Paths.{Channel}
use Rattle.shim_local.specs.Process.{Ops}
use Rattle.shim_local.specs.Laws.{IsGiven}
use Rattle.shim_records.specs.Members.{IsAmong}
use Rattle.shim_records.specs.Labels.{IsLoweredAbove}
use Rattle.shim_records.specs.Acted.{Earlier}
use Rattle.shim_records.specs.declared.record.Record.{Record}

-- For each of these channels, none of which is there twice, the label y was taken in from the record x on, through at most n forks.
pub data AllLoweredAbove (y n x : ℕ) : List Channel → List Record → List Record → Type 0 where
  none_left : (rs : List Record) → AllLoweredAbove y n x [] rs rs
  one_more : (c : Channel) (cs : List Channel) (before between after : List Record) → (IsAmong c cs → ⊥) → IsLoweredAbove c y n x before between → AllLoweredAbove y n x cs between after → AllLoweredAbove y n x (c ∷ cs) before after

-- For the channel c the label y was taken in above the record x. No record has changed if the process doesn't share c, or if c is at a place before this one.
pub data LowersForOne {S : Type 0} (o : Ops S) (s : S) (y n x : ℕ) (c : Channel) (place : ℕ) (before after : List Record) : Type 0 where
  unshared : o.shares s c ≡ false → after ≡ before → LowersForOne o s y n x c place before after
  again : Earlier o s c place → after ≡ before → LowersForOne o s y n x c place before after
  is_lowered : o.shares s c ≡ true → (Earlier o s c place → ⊥) → IsLoweredAbove c y n x before after → LowersForOne o s y n x c place before after

-- The label y was taken in above the record x for each channel of `chans`. The process shares each of these, and all that it was given and shares are among them.
pub record IsTaken {S : Type 0} (o : Ops S) (s : S) (y n x : ℕ) (before after : List Record) : Type 0 where
  pub chans : List Channel
  pub is_lowered : AllLoweredAbove y n x chans before after
  pub all : (c : Channel) → IsGiven o s c → o.shares s c ≡ true → IsAmong c chans
  pub shared : (c : Channel) → IsAmong c chans → o.shares s c ≡ true
