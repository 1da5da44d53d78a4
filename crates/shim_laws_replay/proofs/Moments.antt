-- What is reported of a schedule's end, and what holds of it at every moment.
use Rattle.std.proofs.Common.{◌≡◌, ℕ, inl, inr, cond, refl, ap, subst}
use Rattle.shim_local.specs.Process.{Ops}
use Rattle.shim_local.specs.Laws.{LocalLaws}
use Rattle.shim_local.specs.declared.Outcome.TheVariants.{Spent}
use Rattle.shim_semantics.specs.Trees.{Tree, start, steps, IsQuiescent}
use Rattle.shim_semantics.specs.Walks.{walk, meaning}
use Rattle.shim_semantics.specs.Endings.{ended, is_empty, outcome_of_root}
use Rattle.shim_semantics.specs.Laws.{IsSoundTree}
use Rattle.shim_semantics.proofs.Listed.{ended_spent}
use Rattle.shim_semantics.proofs.Enabled.{empty_is_quiescent}
use Rattle.shim_semantics.proofs.SoundEvents.{events_keep_sound, runs_stay_sound}
use Rattle.shim_laws_schedules.specs.Rounds.{rounds}
use Rattle.shim_laws_schedules.specs.Laws.{IsPrefixOf}
use Rattle.shim_laws_schedules.proofs.EveryPair.{events_commute}
use Rattle.shim_laws_schedules.proofs.Orders.{rounds_lead}
use Rattle.shim_base.proofs.Facts.{true_or_false}
use Rattle.shim_laws_replay.specs.Journals.{all_events}
use Rattle.shim_laws_replay.specs.Ends.{HasEnded, AgreesWithMeaning}
use Rattle.shim_laws_replay.specs.ReadOff.{IsReadOffAs, EndsAreReadOff, MomentsLead}
use Rattle.shim_laws_replay.proofs.Runs.{journals_are_runs, replay_sound}
use Rattle.shim_laws_replay.proofs.Ends.{journals_mean, meaning_ends}

module _ {S : Type 0} (o : Ops S) where
  -- a tree with another outcome than Spent is at rest
  not_spent : (t : Tree S) → IsSoundTree o t → ((ended o t).outcome ≡ Spent → ⊥) → IsQuiescent o t
  unfolding ended
  not_spent t s n = elim (true_or_false (is_empty (walk o t.root))) [
    | inl e ↦ (empty_is_quiescent o t s.below).0 e
    | inr e ↦ absurd (n (ap (λ b. cond b (outcome_of_root t.root) Spent) e))
  ]

  module _ (law : LocalLaws o) (root : S) (b : ℕ) (t : Tree S) (sound : IsSoundTree o t) (agrees : AgreesWithMeaning o root b t) (end : HasEnded o b t) (s : IsSoundTree o (start root)) where
    m : Tree S
    m = meaning o b (start root)

    meaning_sound : IsSoundTree o (meaning o b (start root))
    meaning_sound = let w = meaning_ends o law b (start root) s in runs_stay_sound o law (start root) (meaning o b (start root)) w.events s w.leads

    here : ((ended o t).outcome ≡ Spent → IsQuiescent o t → ⊥) × ((IsQuiescent o t → ⊥) → (ended o t).outcome ≡ Spent)
    here = ended_spent o t sound.below (ended o t) refl

    there : ((ended o (meaning o b (start root))).outcome ≡ Spent → IsQuiescent o (meaning o b (start root)) → ⊥) × ((IsQuiescent o (meaning o b (start root)) → ⊥) → (ended o (meaning o b (start root))).outcome ≡ Spent)
    there = ended_spent o (meaning o b (start root)) meaning_sound.below (ended o (meaning o b (start root))) refl

    full : HasEnded o b t → (IsQuiescent o t → ⊥) → steps t ≡ b
    full (inl (few, q)) n = absurd (n q)
    full (inr (is, more)) n = is

    read_off_as : IsReadOffAs o root b t
    read_off_as = record {
      spent = (λ e. there.1 (λ q. here.0 e (agrees.alike.rests.1 q)), λ e. here.1 (λ q. there.0 e (agrees.alike.rests.0 q)));
      same = λ n. agrees.alike.read_alike (not_spent (meaning o b (start root)) meaning_sound n);
      whole = λ e. (agrees.spent (λ q. here.0 e (agrees.alike.rests.1 q)), full end (here.0 e));
    }

  pub ends_are_read_off : LocalLaws o → EndsAreReadOff o
  ends_are_read_off law root b journal t sound own leads end =
      read_off_as law root b t (replay_sound o law root journal t sound own leads) (journals_mean o law root b journal t sound own leads end) end ((events_keep_sound o law).starts root sound own)

  pub moments_lead : LocalLaws o → MomentsLead o
  moments_lead law root journal t sound own leads =
      let s = (events_keep_sound o law).starts root sound own in
      let w = journals_are_runs o root journal t leads in
      ((all_events journal, w.leads, w.counted), subst (λ n. IsPrefixOf t (rounds o n (start root))) w.counted (rounds_lead o law (events_commute o law) (start root) t (all_events journal) s w.leads))
