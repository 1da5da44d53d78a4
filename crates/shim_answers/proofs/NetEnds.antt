-- What a run comes to, from where a net stands whose schedule has ended.
use Rattle.std.proofs.Common.{◌≡◌, ◌⊎◌, ℕ, inl, inr, List, [], map, Result, Ok, Err, IfOk, sym, ap, subst, ◌∙◌}
use Rattle.shim_local.specs.declared.Ended.{Ended}
use Rattle.shim_units.specs.declared.form.Form.{Form}
use Rattle.shim_process.specs.Forks.{root}
use Rattle.shim_process.specs.LocalState.{LocalState}
use Rattle.shim_process.specs.OwnSlots.{UsesOwnSlots}
use Rattle.shim_process.specs.Sound.{Sound}
use Rattle.shim_process.specs.Ops.{process_ops}
use Rattle.shim_semantics.specs.Trees.{steps, IsQuiescent}
use Rattle.shim_laws_replay.specs.Ends.{AgreesWithMeaning}
use Rattle.shim_laws_replay.specs.ReadOff.{IsReadOffAs}
use Rattle.shim_laws_journals.specs.Accepting.{IsAcceptedJournal}
use Rattle.shim_laws_journals.specs.Ranges.{IsInRange}
use Rattle.shim_laws_journals.proofs.Traced.{nets_are_traced}
use Rattle.shim_net.specs.Nets.{IsNet, NetView, granted, started}
use Rattle.shim_net.specs.Standings.{IsQuiescentNet, IsSpentNet}
use Rattle.shim_results.specs.Recorded.{IsRunTo}
use Rattle.shim_results.specs.RunEnds.{Execution, read_off, IsEnd}
use Rattle.shim_results.proofs.TreeEnds.{tree_end}
use Rattle.shim_answers.specs.EndedNets.{IsEndedNet}
use Rattle.shim_command.specs.declared.mode.Course.TheVariants.{InSomeOrder}

-- where a sound process runs `main`, the units use slots of their own
own_slots : (l : LocalState) (program : Form) (input : List ℕ) → Sound l → l ≡ root program input → UsesOwnSlots program
unfolding root
own_slots l program input s is = subst UsesOwnSlots (ap (λ (m : LocalState). m.program) is) s.fitting.uses

-- the root and the budget of a net are those of its execution
abbrev NetHas : (LocalState → ℕ → Type 0) → NetView LocalState → Type 0
NetHas P n = P n.root n.budget

of_net : (P : LocalState → ℕ → Type 0) (x : Execution) (n : NetView LocalState) → IsEndedNet x n → NetHas P n → P (root x.source x.input) x.budget
of_net P x n net has = subst (λ (b : ℕ). P (root x.source x.input) b) net.budget_is (subst (λ (r : LocalState). P r n.budget) net.root_is has)

-- a net of this execution gives its end
pub net_ended : (x : Execution) (n : NetView LocalState) (e : Ended) → IsEndedNet x n → AgreesWithMeaning process_ops n.root n.budget n.tree → IsReadOffAs process_ops n.root n.budget n.tree → e ≡ read_off x n.tree
    → IsEnd InSomeOrder x e
net_ended x n e net agrees as_meant read =
    let own = own_slots n.root x.source x.input net.keeps.keeps.sound net.root_is in
    subst (λ (y : Ended). IsEnd InSomeOrder x y) (sym read)
    (tree_end x n.tree own (of_net (λ r b. AgreesWithMeaning process_ops r b n.tree) x n net agrees) (of_net (λ r b. IsReadOffAs process_ops r b n.tree) x n net as_meant))

-- how a net stands, without its grants, of which none is open
stands_so : (n : NetView LocalState) → IsQuiescentNet process_ops n ⊎ IsSpentNet process_ops n → IsQuiescent process_ops n.tree ⊎ ((steps n.tree ≡ n.budget) × (IsQuiescent process_ops n.tree → ⊥))
stands_so n (inl quiet) = inl quiet.1
stands_so n (inr spent) = inr (spent.1, spent.2)

-- its journal has a text, and is a run of the execution that ends at its tree
pub net_traced : (x : Execution) (n : NetView LocalState) → IsEndedNet x n → IsInRange x.budget n.journal × IsRunTo x n.journal n.tree
net_traced x n net =
    let traced = nets_are_traced process_ops n.root n.budget n.journal n.tree (map granted n.grants) net.keeps.has_budget net.keeps.most net.keeps.keeps in (
      subst (λ (b : ℕ). IsInRange b n.journal) net.budget_is traced.in_range,
      of_net (λ r b. IsAcceptedJournal process_ops r b n.journal n.tree) x n net (traced.accepted (stands_so n net.quiescent_or_spent)),
    )

-- a net that was started and driven is one of its execution
pub net_of : (x : Execution) (main : LocalState) (begun n : NetView LocalState) → main ≡ root x.source x.input → begun ≡ started main x.budget → n.root ≡ begun.root → n.budget ≡ begun.budget
    → IsNet process_ops n → IsQuiescentNet process_ops n ⊎ IsSpentNet process_ops n → IsEndedNet x n
net_of x main begun n is start same_root same_budget keeps quiescent_or_spent = record {
  root_is = same_root ∙ (ap (λ (m : NetView LocalState). m.root) start ∙ is);
  budget_is = same_budget ∙ ap (λ (m : NetView LocalState). m.budget) start;
  keeps = keeps;
  quiescent_or_spent = quiescent_or_spent;
}

pub net_was : {E : Type 0} (r : Result (NetView LocalState) E) (x : Execution) (main : LocalState) (begun : NetView LocalState) → main ≡ root x.source x.input → begun ≡ started main x.budget
    → IfOk r (λ n. n.root ≡ begun.root) → IfOk r (λ n. n.budget ≡ begun.budget) → IfOk r (λ n. IsNet process_ops n) → IfOk r (λ n. IsQuiescentNet process_ops n ⊎ IsSpentNet process_ops n) → IfOk r (IsEndedNet x)
net_was (Ok n) x main begun is start same_root same_budget keeps quiescent_or_spent = net_of x main begun n is start same_root same_budget keeps quiescent_or_spent
net_was (Err e) x main begun is start same_root same_budget keeps quiescent_or_spent = tt

-- the process that runs `main` has the path of a root
pub root_path : (l : LocalState) (program : Form) (input : List ℕ) → l ≡ root program input → process_ops.path l ≡ []
unfolding root
root_path l program input is = ap (λ (s : LocalState). process_ops.path s) is
