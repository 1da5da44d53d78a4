-- What holds of each tree that a run reaches from one process which shares only channels of its own.
use Rattle.std.specs.Prelude.{◌≡◌, ◌≤◌, ℕ, true}
use Rattle.shim_base.specs.Paths.{Channel}
use Rattle.shim_local.specs.Process.{Ops}
use Rattle.shim_local.specs.Laws.{how_many}
use Rattle.shim_semantics.specs.Nodes.{Node, state, everyone}
use Rattle.shim_semantics.specs.Places.{SoundBelow}

-- it shares only channels that it declared
abbrev pub SharesItsOwn : {S : Type 0} → Ops S → S → Type 0
SharesItsOwn o l = (c : Channel) → o.shares l c ≡ true → c.home ≡ o.path l

-- how many processes carry the channel, whatever came of them
abbrev pub carriers : {S : Type 0} → Ops S → Channel → Node S → ℕ
carriers o c n = how_many (λ s. o.carries s c) (everyone n)

-- how many hold the output
abbrev pub holders : {S : Type 0} → Ops S → Node S → ℕ
holders o n = how_many o.holds_output (everyone n)

-- The tree of the root is sound: `SoundBelow` holds, and the root shares only channels that it declared. At most one process carries each channel, and at most one holds the output.
pub record IsSound {S : Type 0} (o : Ops S) (root : Node S) : Type 0 where
  pub below : SoundBelow o root
  pub own : SharesItsOwn o (state root)
  -- a channel's own variable is in one process at most, and so is the output
  pub carrying : (c : Channel) → carriers o c root ≤ 1
  pub one_holder : holders o root ≤ 1
