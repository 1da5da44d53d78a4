-- A record by which nothing can happen but a quiet step.
use Rattle.std.proofs.Common.{◌≡◌, ◌≢◌, ℕ, ◌+◌, ◌<◌, Some, sym, ap, subst, ◌∙◌}
use Rattle.std.specs.Prelude.{slice_get}
use Rattle.shim_base.specs.Paths.{NamedChannel}
use Rattle.shim_base.proofs.Facts.{some_same}
use Rattle.shim_local.specs.Process.{Ops, AtQuiet, AtNext}
use Rattle.shim_local.specs.Laws.{LocalLaws}
use Rattle.shim_semantics.specs.Nodes.{Death}
use Rattle.shim_semantics.specs.Trees.{Event, Own, Steps, Ends, own_action_at}
use Rattle.shim_semantics.proofs.HowMany.{clash}
use Rattle.shim_laws_table.specs.NodeStatus.{ProcessStatus, lives, forks, ends, dies}
use Rattle.shim_laws_table.specs.Agrees.{RecordView, free, used}
use Rattle.shim_laws_table.specs.Counts.{tally_ready}
use Rattle.shim_laws_table.specs.Dooms.{is_below}
use Rattle.shim_laws_table.proofs.OneChange.{one_state, one_status}
use Rattle.shim_laws_table.proofs.SameTrees.{fork_count}
use Rattle.shim_records.specs.Pairs.{tally}
use Rattle.shim_records.specs.declared.pair.Pair.{Pair}
use Rattle.shim_records.specs.declared.record.Record.{Record}
use Rattle.shim_laws_table_events.specs.keeping.Tables.{TableView, HasProcessState, views}
use Rattle.shim_laws_table_events.specs.queues.RecordDecisions.{IsReady, CanHappenAt, to_step, to_end, to_meet, to_close, to_meet_below, to_poison, HasNoPairDue, HasNothingDue, unused, has_ended, has_died, is_quiet, waits, is_open, IsQuietStepAt, RecordDecides}
use Rattle.shim_laws_table_events.proofs.queues.RecordDecisions.{due_can, can_due}

abbrev first_of : RecordView → ℕ
first_of free = 0
first_of (used f k) = f

next_same : (d e : NamedChannel) → AtNext d ≡ AtNext e → d ≡ e
next_same d e w = cc

no_next : {B : Type 0} (d : NamedChannel) → AtQuiet ≡ AtNext d → B
no_next d e = absurd cc

no_end : {B : Type 0} → own_action_at AtQuiet ≡ Ends → B
no_end e = absurd cc

no_step_there : {B : Type 0} (d : NamedChannel) → own_action_at (AtNext d) ≡ Steps → B
no_step_there d e = absurd cc

no_end_there : {B : Type 0} (d : NamedChannel) → own_action_at (AtNext d) ≡ Ends → B
no_end_there d e = absurd cc

live_or_fork : {B : Type 0} (n : ℕ) → lives ≡ forks n → B
live_or_fork n e = absurd cc

live_or_ended : {B : Type 0} → lives ≡ ends → B
live_or_ended e = absurd cc

live_or_dead : {B : Type 0} (d : Death) → lives ≡ dies d → B
live_or_dead d e = absurd cc

fork_or_ended : {B : Type 0} (n : ℕ) → forks n ≡ ends → B
fork_or_ended n e = absurd cc

fork_or_dead : {B : Type 0} (n : ℕ) (d : Death) → forks n ≡ dies d → B
fork_or_dead n d e = absurd cc

module _ {S : Type 0} (o : Ops S) (v : TableView S) (i : ℕ) where
  -- what allows an event lives or has forked
  pub data Owner (e : Event) : Type 0 where
    a_live : (f : ℕ) (l : S) → HasProcessState v i f l lives → Owner e
    a_fork : (f n : ℕ) (l : S) → HasProcessState v i f l (forks n) → Owner e

  pub owner_of : {e : Event} → CanHappenAt o v i e → Owner e
  owner_of (to_step f l p has stop path) = a_live f l has
  owner_of (to_end f l p has stop path) = a_live f l has
  owner_of (to_meet f l d c has stop same home) = a_live f l has
  owner_of (to_close f n l r p has re none path) = a_fork f n l has
  owner_of (to_meet_below f n q l r y c has re e same home all) = a_fork f n l has
  owner_of (to_poison g n q b f l k x r y p c has re e same low less child ready_on path) = a_fork g n l has

  module _ {B : Type 0} (f : ℕ) (l : S) where
    not_ended : {e : Event} → HasProcessState v i f l ends → Owner e → B
    not_ended is (a_live g m has) = live_or_ended (one_status v.states (views v) i g f m l lives ends has is)
    not_ended is (a_fork g n m has) = fork_or_ended n (one_status v.states (views v) i g f m l (forks n) ends has is)

    not_dead : {e : Event} (d : Death) → HasProcessState v i f l (dies d) → Owner e → B
    not_dead d is (a_live g m has) = live_or_dead d (one_status v.states (views v) i g f m l lives (dies d) has is)
    not_dead d is (a_fork g n m has) = fork_or_dead n d (one_status v.states (views v) i g f m l (forks n) (dies d) has is)

  not_unused : {B : Type 0} {e : Event} → ((f : ℕ) (s : S) (k : ProcessStatus) → HasProcessState v i f s k → ⊥) → Owner e → B
  not_unused none (a_live f l has) = absurd (none f l lives has)
  not_unused none (a_fork f n l has) = absurd (none f l (forks n) has)

  module _ (f : ℕ) (l : S) (is : HasProcessState v i f l lives) where
    same_live : (g : ℕ) (m : S) → HasProcessState v i g m lives → m ≡ l
    same_live g m has = one_state v.states (views v) i g f m l lives lives has is

    no_fork : {B : Type 0} (g n : ℕ) (m : S) → HasProcessState v i g m (forks n) → B
    no_fork g n m has = live_or_fork n (one_status v.states (views v) i f g l m lives (forks n) is has)

    -- of one that is before a quiet step
    quiet_alone : {e : Event} → o.stop l ≡ AtQuiet → CanHappenAt o v i e → IsQuietStepAt o v i e
    quiet_alone quiet (to_step g m p has stop path) = record { first = f; process = l; has = is; stop_is = quiet; is = ap Own (sym path ∙ ap o.path (same_live g m has)) }
    quiet_alone quiet (to_end g m p has stop path) = no_end (ap own_action_at (sym quiet ∙ ap o.stop (sym (same_live g m has))) ∙ stop)
    quiet_alone quiet (to_meet g m d c has stop same home) = no_next d (sym quiet ∙ (ap o.stop (sym (same_live g m has)) ∙ stop))
    quiet_alone quiet (to_close g n m r p has re none path) = no_fork g n m has
    quiet_alone quiet (to_meet_below g n q m r y c has re e same home all) = no_fork g n m has
    quiet_alone quiet (to_poison g n q b h m k x r y p c has re e same low less child ready_on path) = no_fork g n m has

    -- of one that waits for others at a channel
    nothing_there : {B : Type 0} {e : Event} (d : NamedChannel) → o.stop l ≡ AtNext d → o.path l ≢ d.channel.home → CanHappenAt o v i e → B
    nothing_there d stop_is far (to_step g m p has stop path) = no_step_there d (ap own_action_at (sym stop_is ∙ ap o.stop (sym (same_live g m has))) ∙ stop)
    nothing_there d stop_is far (to_end g m p has stop path) = no_end_there d (ap own_action_at (sym stop_is ∙ ap o.stop (sym (same_live g m has))) ∙ stop)
    nothing_there d stop_is far (to_meet g m h c has stop same home) =
        let w = next_same d h (sym stop_is ∙ (ap o.stop (sym (same_live g m has)) ∙ stop)) in
        absurd (far (ap o.path (sym (same_live g m has)) ∙ (home ∙ (ap (λ z. z.home) (sym same) ∙ ap (λ z. z.channel.home) (sym w)))))
    nothing_there d stop_is far (to_close g n m r p has re none path) = no_fork g n m has
    nothing_there d stop_is far (to_meet_below g n q m r y c has re e same home all) = no_fork g n m has
    nothing_there d stop_is far (to_poison g n q b h m k x r y p c has re e same low less child ready_on path) = no_fork g n m has

  module _ (g n : ℕ) (l : S) (r : Record) (is : HasProcessState v i g l (forks n)) (there : slice_get v.records i ≡ Some r) (some : r.going_children ≢ 0) (idle : (q : ℕ) (y : Pair) → slice_get r.pairs.items q ≡ Some y → HasNoPairDue o v l g n y) where
    no_live : {B : Type 0} (f : ℕ) (m : S) → HasProcessState v i f m lives → B
    no_live f m has = live_or_fork n (one_status v.states (views v) i f g m l lives (forks n) has is)

    same_fork : (h d : ℕ) (m : S) → HasProcessState v i h m (forks d) → m ≡ l
    same_fork h d m has = one_state v.states (views v) i h g m l (forks d) (forks n) has is

    same_record : (s : Record) → slice_get v.records i ≡ Some s → s ≡ r
    same_record s e = some_same s r (sym e ∙ there)

    its_pair : (s : Record) (q : ℕ) (y : Pair) → slice_get v.records i ≡ Some s → slice_get s.pairs.items q ≡ Some y → slice_get r.pairs.items q ≡ Some y
    its_pair s q y e h = ap (λ (z : Record). slice_get z.pairs.items q) (sym (same_record s e)) ∙ h

    nothing_below : {B : Type 0} {e : Event} → CanHappenAt o v i e → B
    nothing_below (to_step f m p has stop path) = no_live f m has
    nothing_below (to_end f m p has stop path) = no_live f m has
    nothing_below (to_meet f m d c has stop same home) = no_live f m has
    nothing_below (to_close h d m s p has re none path) = absurd (some (ap (λ (z : Record). z.going_children) (sym (same_record s re)) ∙ none))
    nothing_below (to_meet_below h d q m s y c has re e same home all) =
        clash (tally_ready (tally y)) all ((idle q y (its_pair s q y re e)).meets_not (ap o.path (sym (same_fork h d m has)) ∙ (home ∙ ap (λ z. z.home) (sym same))))
    nothing_below (to_poison h d q b f m k x s y p c has re e same low less child ready_on path) =
        let first : h ≡ g = ap first_of (some_same (used h (forks d)) (used g (forks n)) (sym has.view_is ∙ is.view_is)) in
        let many : d ≡ n = fork_count d n (one_status v.states (views v) i h g m l (forks d) (forks n) has is) in
        absurd ((idle q y (its_pair s q y re e)).poisons_not (ap (λ z. is_below y.min_dead_label (o.handlers z)) (sym (same_fork h d m has)) ∙ low) b f k x (subst (λ z. b < z) many less)
        (subst (λ z. HasProcessState v (z + b) f k x) first child) (subst (λ z. IsReady o v z (g + b) k x) (sym same) (subst (λ z. IsReady o v c (z + b) k x) first ready_on)))

  pub idle_due : {e : Event} → HasNothingDue o v i → CanHappenAt o v i e → IsQuietStepAt o v i e
  idle_due (unused none) due = not_unused none (owner_of due)
  idle_due (has_ended f l has) due = not_ended f l has (owner_of due)
  idle_due (has_died f l d has) due = not_dead f l d has (owner_of due)
  idle_due (is_quiet f l has stop) due = quiet_alone f l has stop due
  idle_due (waits f l d has stop far) due = nothing_there f l has d stop far due
  idle_due (is_open g n l r has there some idle) due = nothing_below g n l r has there some idle due

pub record_decides : {S : Type 0} (o : Ops S) → LocalLaws o → RecordDecides o
record_decides o law = record {
  can = λ rp v t e i kept due. due_can o law rp v t kept i due;
  found = λ rp v t e i kept can is. can_due o law rp v t kept can is;
  idle = λ rp v t e i kept idle can is. idle_due o v i idle (can_due o law rp v t kept can is);
}
