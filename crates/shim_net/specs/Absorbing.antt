-- What is taken in.
use Rattle.std.specs.Prelude.{◌≡◌, ◌≤◌, ◌<◌, ℕ, zero, suc, Bool, true, false, Some, List, [], ◌∷◌, ◌++◌, length, slice_index_or}
use Rattle.std.specs.List.{remove}
use Rattle.shim_base.specs.Paths.{Path}
use Rattle.shim_local.specs.Process.{Ops}
use Rattle.shim_local.specs.Quiets.{QuietSteps}
use Rattle.shim_local.specs.Pieces.{FewerWithCause}
use Rattle.shim_laws_replay.specs.Journals.{Entry, Quiet, quiet_steps}
use Rattle.shim_net.specs.Nets.{OpenGrant, NetView}
use Rattle.shim_net.specs.declared.absorb.Absorbed.{Absorbed}
use Rattle.shim_net.specs.declared.absorb.Absorbed.TheVariants.{Taken, Short, Stranger}

-- the grant has these numbers, so many steps at most, and this start
pub record Matches {S : Type 0} (pid slot round most : ℕ) (start : S) (g : OpenGrant S) : Type 0 where
  pub pid_is : g.pid ≡ pid
  pub slot_is : g.slot ≡ slot
  pub round_is : g.round ≡ round
  pub most_is : g.most ≡ most
  pub start_is : g.start ≡ start

-- the journal with one entry more, of so many quiet steps of the process of the path; no steps are no entry
abbrev pub with_piece : Path → ℕ → List Entry → List Entry
with_piece p zero js = js
with_piece p (suc n) js = js ++ Quiet p (suc n) ∷ []

-- the grant in this place has closed, and so many quiet steps of its process were done
pub record Closes {S : Type 0} (o : Ops S) (before after : NetView S) (place used : ℕ) : Type 0 where
  pub grant : OpenGrant S
  pub its : grant ≡ slice_index_or before.grants place grant
  pub tree : quiet_steps o (o.path grant.start) used before.tree ≡ Some after.tree
  pub after_is : after ≡ record { root = before.root; budget = before.budget; tree = after.tree; journal = with_piece (o.path grant.start) used before.journal; grants = remove before.grants place }

-- a piece of these numbers and this start was taken in, with so many steps
pub record Absorbs {S : Type 0} (o : Ops S) (before after : NetView S) (pid slot round most : ℕ) (start : S) (used : ℕ) : Type 0 where
  pub place : ℕ
  pub there : place < length before.grants
  pub closes : Closes o before after place used
  pub matches : Matches pid slot round most start closes.grant

-- What this answer of `absorb` claims: the first if the piece was taken in; the second if it was, and memory had been refused for a further step; the third if no open grant matches it.
abbrev pub OnAbsorbed : {F : Type 0} → Type 0 → Type 0 → (F → Type 0) → Absorbed F → Type 0
OnAbsorbed taken short stranger Taken = taken
OnAbsorbed taken short stranger Short = short
OnAbsorbed taken short stranger (Stranger f) = stranger f

-- an open grant was closed by a piece of a step or more, which has fewer steps than were granted only where its process came to another stop
pub record Redoes {S : Type 0} (o : Ops S) (before after : NetView S) : Type 0 where
  pub place : ℕ
  pub there : place < length before.grants
  pub used : ℕ
  pub closes : Closes o before after place used
  pub last : S
  pub steps : QuietSteps o used closes.grant.start last
  pub some : 1 ≤ used
  pub most : used ≤ closes.grant.most
  pub fewer : FewerWithCause o used closes.grant.most false last

-- open grants, or none, were closed one after the other, each as `Redoes` has it, and nothing else was done
pub data RedoesSome {S : Type 0} (o : Ops S) (before : NetView S) : NetView S → Type 0 where
  redid_none : RedoesSome o before before
  redid_one : (between after : NetView S) → RedoesSome o before between → Redoes o between after → RedoesSome o before after

-- For `true` an open grant was closed as `Redoes` has it. For `false` no grant was open, and nothing changed.
abbrev pub RedoesOne : {S : Type 0} → Ops S → NetView S → NetView S → Bool → Type 0
RedoesOne o before after true = Redoes o before after
RedoesOne o before after false = (after ≡ before) × (before.grants ≡ [])
