-- Where schedules end, beside each other and beside the meaning.
use Rattle.std.specs.Prelude.{◌≡◌, ◌≤◌, ◌⊎◌, ◌↔◌, ℕ, Some, List}
use Rattle.shim_local.specs.Process.{Ops}
use Rattle.shim_semantics.specs.Trees.{Tree, start, steps, IsQuiescent}
use Rattle.shim_semantics.specs.Walks.{meaning}
use Rattle.shim_semantics.specs.Endings.{ended}
use Rattle.shim_semantics.specs.Sound.{SharesItsOwn}
use Rattle.shim_laws_replay.specs.Journals.{Entry, replay, IsReachedBy}

-- A run within this budget is over at the tree: no event is enabled, or one is and the steps of the budget were taken.
abbrev pub HasEnded : {S : Type 0} → Ops S → ℕ → Tree S → Type 0
HasEnded o b t = ((steps t ≤ b) × IsQuiescent o t) ⊎ ((steps t ≡ b) × (IsQuiescent o t → ⊥))

-- what two trees have in common at which schedules end
pub record EndAlike {S : Type 0} (o : Ops S) (t u : Tree S) : Type 0 where
  -- both are quiescent, or neither is
  pub rests : IsQuiescent o t ↔ IsQuiescent o u
  -- where the second is quiescent, the two are one tree, and the same is read off both
  pub same : IsQuiescent o u → t ≡ u
  pub read_alike : IsQuiescent o u → ended o t ≡ ended o u
  -- as many steps led to both, whether an event is enabled or not
  pub as_long : steps t ≡ steps u

-- Two journals of one root end alike, if each leads to a tree at which a schedule within the same budget has ended. The root is sound and shares only channels that it declared.
abbrev pub JournalsAgree : {S : Type 0} → Ops S → Type 0
JournalsAgree {S} o = (root : S) (b : ℕ) (js ks : List Entry) (t u : Tree S) → o.sound root → SharesItsOwn o root
    → replay o root js ≡ Some t → HasEnded o b t → replay o root ks ≡ Some u → HasEnded o b u → EndAlike o t u

-- how the end of a schedule with this budget compares with the meaning
pub record AgreesWithMeaning {S : Type 0} (o : Ops S) (root : S) (b : ℕ) (t : Tree S) : Type 0 where
  pub alike : EndAlike o t (meaning o b (start root))
  -- some run leads to the tree with as many events as the tree has steps
  pub reached : IsReachedBy o root (steps t) t
  -- where an event is enabled in the meaning, some run leads to the tree `t` with as many events as the budget has steps
  pub spent : (IsQuiescent o (meaning o b (start root)) → ⊥) → IsReachedBy o root b t

-- Each tree to which a journal leads and at which a schedule ended agrees with the meaning. The root is sound and shares only channels that it declared.
abbrev pub JournalsMean : {S : Type 0} → Ops S → Type 0
JournalsMean {S} o = (root : S) (b : ℕ) (journal : List Entry) (t : Tree S) → o.sound root → SharesItsOwn o root → replay o root journal ≡ Some t → HasEnded o b t → AgreesWithMeaning o root b t
