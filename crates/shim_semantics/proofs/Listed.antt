-- What the walk and its emptiness come to in a sound tree.
use Rattle.std.proofs.Common.{◌≡◌, ◌≢◌, ◌↔◌, ℕ, zero, suc, Option, Some, None, List, Bool, true, false, ◌∙◌, sym, ap, subst, refl, cond}
use Rattle.shim_local.specs.Process.{Ops}
use Rattle.shim_local.specs.declared.Ended.{Ended as Read}
use Rattle.shim_local.specs.declared.Outcome.{Outcome}
use Rattle.shim_local.specs.declared.Outcome.TheVariants.{Spent}
use Rattle.shim_semantics.specs.Nodes.{Node, Live, Forked, Ended, Dead}
use Rattle.shim_semantics.specs.Places.{SoundBelow}
use Rattle.shim_semantics.specs.Trees.{Tree, Event, after, IsQuiescent}
use Rattle.shim_semantics.specs.Walks.{walk}
use Rattle.shim_semantics.specs.Endings.{is_empty, outcome_of_label, outcome_of_root, outcome, ended}
use Rattle.shim_semantics.specs.Listing.{AreEnabled}
use Rattle.shim_base.specs.Lists.{IsAmong}
use Rattle.shim_semantics.proofs.Enabled.{listed_enabled, enabled_listed, empty_is_quiescent}
use Rattle.shim_base.proofs.Facts.{none_some}

-- the list of the walk is that of the enabled events
pub are_enabled : {S : Type 0} (o : Ops S) (t : Tree S) (es : List Event) → SoundBelow o t.root → es ≡ walk o t.root → AreEnabled o t es
are_enabled {S} o t es s h e = (λ i n. let w = listed_enabled o t e s (subst (IsAmong e) h i) in none_some w.0 (sym n ∙ w.1), λ f. subst (IsAmong e) (sym h) (listed (after o e t) refl f))
  where
    listed : (x : Option (Tree S)) → after o e t ≡ x → (after o e t ≢ None) → IsAmong e (walk o t.root)
    listed None p f = absurd (f p)
    listed (Some a) p f = enabled_listed o t a e p

-- no outcome of a root is that of a run which was stopped
not_spent : {S : Type 0} (n : Node S) → outcome_of_root n ≡ Spent → ⊥
not_spent (Live l) e = cc
not_spent (Forked l ks) e = cc
not_spent (Ended l) e = cc
not_spent (Dead l d) e = no_label d.label e
  where
    no_label : (x : ℕ) → outcome_of_label x ≡ Spent → ⊥
    no_label zero e = cc
    no_label (suc i) e = cc

-- A run is spent exactly where something can still happen.
pub spent_exactly : {S : Type 0} (o : Ops S) (t : Tree S) → SoundBelow o t.root → (x : Outcome) → x ≡ outcome o t.root → (x ≡ Spent) ↔ (IsQuiescent o t → ⊥)
spent_exactly {S} o t s x h = by_test (is_empty (walk o t.root)) refl
  where
    by_test : (b : Bool) → is_empty (walk o t.root) ≡ b → (x ≡ Spent) ↔ (IsQuiescent o t → ⊥)
    by_test true p = (λ e. absurd (not_spent t.root (sym (h ∙ ap (λ b. cond b (outcome_of_root t.root) Spent) p) ∙ e)), λ f. absurd (f ((empty_is_quiescent o t s).0 p)))
    by_test false p = (λ e q. true_false (sym ((empty_is_quiescent o t s).1 q) ∙ p), λ f. h ∙ ap (λ b. cond b (outcome_of_root t.root) Spent) p)
      where
        true_false : true ≡ false → ⊥
        true_false e = cc

pub ended_spent : {S : Type 0} (o : Ops S) (t : Tree S) → SoundBelow o t.root → (r : Read) → r ≡ ended o t → (r.outcome ≡ Spent) ↔ (IsQuiescent o t → ⊥)
unfolding ended
ended_spent o t s r h = spent_exactly o t s r.outcome (ap (λ x. x.outcome) h)
