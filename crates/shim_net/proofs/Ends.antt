-- A net whose standing isn't Running has come to an end.
use Rattle.std.proofs.Common.{◌≡◌, ◌≤◌, ◌⊎◌, List, [], inl, inr, length, map, refl, sym, subst, arith}
use Rattle.std.specs.List.{Any}
use Rattle.shim_base.proofs.Facts.{no_items}
use Rattle.shim_local.specs.Process.{Ops}
use Rattle.shim_local.specs.Laws.{LocalLaws}
use Rattle.shim_semantics.specs.Trees.{steps, IsQuiescent}
use Rattle.shim_laws_replay.specs.Ends.{HasEnded, AgreesWithMeaning}
use Rattle.shim_laws_replay.specs.ReadOff.{IsReadOffAs}
use Rattle.shim_laws_replay.proofs.Keeping.{nets_keep}
use Rattle.shim_laws_replay.proofs.Ends.{journals_mean}
use Rattle.shim_laws_replay.proofs.Moments.{ends_are_read_off}
use Rattle.shim_run_state.specs.RunStates.{RunStateView}
use Rattle.shim_run_state.specs.CheckingOut.{NoneCheckedOut}
use Rattle.shim_net.specs.Nets.{NetView, OpenGrant, IsNet, granted}
use Rattle.shim_net.specs.CheckingOut.{AreCheckedOut}
use Rattle.shim_net.specs.Standings.{StandsAs, IsQuiescentNet, IsSpentNet}
use Rattle.shim_net.specs.declared.standing.Standing.{Standing}
use Rattle.shim_net.specs.declared.standing.Standing.TheVariants.{Running, Quiescent, Spent}
use Rattle.shim_net.specs.Progress.{CanGive, HasSettled}
use Rattle.shim_net.proofs.Progress.{can_give}

module _ {S : Type 0} (o : Ops S) (n : NetView S) (w : IsNet o n) (quiescent_or_spent : IsQuiescentNet o n ⊎ IsSpentNet o n) where
  came : (IsQuiescentNet o n ⊎ IsSpentNet o n) → IsQuiescent o n.tree ⊎ ((steps n.tree ≡ n.budget) × (IsQuiescent o n.tree → ⊥))
  came (inl q) = inl q.1
  came (inr s) = inr (s.1, s.2)

  pub has_ended : LocalLaws o → HasEnded o n.budget n.tree
  has_ended law = (nets_keep o law).ended n.root n.budget n.journal n.tree (map granted n.grants) w.keeps (came quiescent_or_spent)

  pub agrees : LocalLaws o → AgreesWithMeaning o n.root n.budget n.tree
  agrees law = journals_mean o law n.root n.budget n.journal n.tree w.keeps.sound w.keeps.own w.keeps.replays (has_ended law)

  pub read_off : LocalLaws o → IsReadOffAs o n.root n.budget n.tree
  read_off law = ends_are_read_off o law n.root n.budget n.journal n.tree w.keeps.sound w.keeps.own w.keeps.replays (has_ended law)

pub may_end : {S : Type 0} (o : Ops S) (n : NetView S) → IsNet o n → IsQuiescentNet o n ⊎ IsSpentNet o n → ((steps n.tree ≤ n.budget) × IsQuiescent o n.tree) ⊎ (steps n.tree ≡ n.budget)
may_end o n w (inl q) = inl (omega (arith, w.keeps.fits), q.1)
may_end o n w (inr s) = inr s.1

-- with no grant open, nobody is checked out
pub nobody_out : {S : Type 0} (o : Ops S) (v : RunStateView S) (grants : List (OpenGrant S)) → AreCheckedOut o v grants → grants ≡ [] → NoneCheckedOut o v
nobody_out {S} o v grants are none i l checked_out = let any = subst (λ (gs : List (OpenGrant S)). Any (λ g. (g.pid ≡ i) × (g.start ≡ l)) gs) none (are.only i l checked_out) in
    let none_below = any.2 in omega (arith, none_below)

pub none_open : {S : Type 0} (o : Ops S) (n : NetView S) → IsQuiescentNet o n ⊎ IsSpentNet o n → n.grants ≡ []
none_open o n (inl q) = q.0
none_open o n (inr s) = s.0

-- a net whose standing isn't Running is at one of the others
pub stopped : {S : Type 0} (o : Ops S) (n : NetView S) (s : Standing) → StandsAs o n s → (s ≡ Running → ⊥) → IsQuiescentNet o n ⊎ IsSpentNet o n
stopped o n Running h other = absurd (other refl)
stopped o n Quiescent h other = inl h
stopped o n Spent h other = inr h

-- so does one that has settled with nothing out, and can give nothing out
pub has_stopped : {S : Type 0} (o : Ops S) (n : NetView S) → IsNet o n → n.grants ≡ [] → HasSettled o n → (CanGive o n → ⊥) → (s : Standing) → StandsAs o n s → IsQuiescentNet o n ⊎ IsSpentNet o n
has_stopped o n w none end cannot s h = stopped o n s h (λ running. let run = subst (StandsAs o n) running h in cannot (can_give o n w none end run.0 run.1))

-- v is the net as the code holds it, and n as its contract names it
module _ {S : Type 0} (o : Ops S) (v n : NetView S) (same : v ≡ n) where
  pub is_spent : length v.grants ≡ 0 → steps v.tree ≡ v.budget → (IsQuiescent o v.tree → ⊥) → IsSpentNet o n
  is_spent none taken more = subst (IsSpentNet o) same (no_items v.grants none, taken, more)

  pub is_neither : (steps v.tree ≡ v.budget → ⊥) → (IsQuiescent o v.tree → ⊥) → (IsQuiescentNet o n → ⊥) × (IsSpentNet o n → ⊥)
  is_neither left more = (
    λ q. more (subst (λ (z : NetView S). IsQuiescent o z.tree) (sym same) q.1),
    λ s. left (subst (λ (z : NetView S). steps z.tree ≡ z.budget) (sym same) s.1),
  )
