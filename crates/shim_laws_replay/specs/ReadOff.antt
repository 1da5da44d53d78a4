-- Reports of schedules that ended, compared with that of the meaning; and which trees a schedule may stand at before it ends.
use Rattle.std.specs.Prelude.{◌≡◌, ◌≢◌, ◌↔◌, ℕ, Some, List}
use Rattle.shim_local.specs.Process.{Ops}
use Rattle.shim_local.specs.declared.Outcome.TheVariants.{Spent}
use Rattle.shim_semantics.specs.Trees.{Tree, start, steps}
use Rattle.shim_semantics.specs.Walks.{meaning}
use Rattle.shim_semantics.specs.Endings.{ended}
use Rattle.shim_semantics.specs.Sound.{SharesItsOwn}
use Rattle.shim_laws_schedules.specs.Rounds.{rounds}
use Rattle.shim_laws_schedules.specs.Laws.{IsPrefixOf}
use Rattle.shim_laws_replay.specs.Journals.{Entry, replay, IsReachedBy}
use Rattle.shim_laws_replay.specs.Ends.{HasEnded}

-- a schedule's end is reported as spent exactly where the meaning's is, and then the steps of the budget led to it; else just what is reported of the meaning is reported of it
pub record IsReadOffAs {S : Type 0} (o : Ops S) (root : S) (b : ℕ) (t : Tree S) : Type 0 where
  pub spent : ((ended o t).outcome ≡ Spent) ↔ ((ended o (meaning o b (start root))).outcome ≡ Spent)
  pub same : (ended o (meaning o b (start root))).outcome ≢ Spent → ended o t ≡ ended o (meaning o b (start root))
  pub whole : (ended o t).outcome ≡ Spent → IsReachedBy o root b t × (steps t ≡ b)

-- `IsReadOffAs` holds of each tree to which a journal leads and at which a schedule ended. The root is sound and shares channels of its own alone.
abbrev pub EndsAreReadOff : {S : Type 0} → Ops S → Type 0
EndsAreReadOff {S} o = (root : S) (b : ℕ) (journal : List Entry) (t : Tree S) → o.sound root → SharesItsOwn o root → replay o root journal ≡ Some t → HasEnded o b t → IsReadOffAs o root b t

-- Each tree to which a journal leads is reached by as many events as it has steps. What was put and met in it is a prefix of what as many rounds give. The root is sound and shares only channels that it declared.
abbrev pub MomentsLead : {S : Type 0} → Ops S → Type 0
MomentsLead {S} o = (root : S) (journal : List Entry) (t : Tree S) → o.sound root → SharesItsOwn o root → replay o root journal ≡ Some t → IsReachedBy o root (steps t) t × IsPrefixOf t (rounds o (steps t) (start root))
