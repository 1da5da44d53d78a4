-- What is due at a process can happen, as an event of each tree that is represented.
use Rattle.std.proofs.Common.{◌-◌, ℕ, refl, ap, subst}
use Rattle.shim_local.specs.Process.{Ops, AtPut, AtFork, AtThrow, AtTrap, AtFinish}
use Rattle.shim_local.specs.Laws.{LocalLaws}
use Rattle.shim_base.specs.declared.operators.Trap.{Trap}
use Rattle.shim_semantics.specs.Trees.{Event, Own, Meet, Poison, Close, End, own_action_at}
use Rattle.shim_laws_table_events.specs.keeping.Tables.{TableView, HasProcessState}
use Rattle.shim_laws_table_events.specs.queues.RecordDecisions.{IsReady, CanHappenAt, to_step, to_end, to_meet, to_close, to_meet_below, to_poison}
use Rattle.shim_laws_table_events.proofs.queues.Idle.{record_decides}
use Rattle.shim_laws_table_events.specs.meetings.Meetings.{IsEnabled, Declares}
use Rattle.shim_laws_table_events.specs.meetings.Poisons.{IsChildOf}
use Rattle.shim_process_table.specs.Stepping.{LivesAt}
use Rattle.shim_process_table.specs.Closing.{CanClose}
use Rattle.shim_process_table.specs.Poisoning.{CanPoison}
use Rattle.shim_process_table.specs.Due.{MeetsAlone, IsReadyToMeet, IsDoomed}

module _ {S : Type 0} (o : Ops S) (v : TableView S) (i : ℕ) where
  -- ---- each answer as an event that the record allows

  pub due_put : (w : LivesAt o v i AtPut) → CanHappenAt o v i (Own (o.path w.1))
  due_put w = to_step w.0 w.1 (o.path w.1) w.2 (ap own_action_at w.3) refl

  pub due_fork : (w : LivesAt o v i AtFork) → CanHappenAt o v i (Own (o.path w.1))
  due_fork w = to_step w.0 w.1 (o.path w.1) w.2 (ap own_action_at w.3) refl

  pub due_throw : (label : ℕ) (w : LivesAt o v i (AtThrow label)) → CanHappenAt o v i (Own (o.path w.1))
  due_throw label w = to_step w.0 w.1 (o.path w.1) w.2 (ap own_action_at w.3) refl

  pub due_trap : (kind : Trap) (line : ℕ) (w : LivesAt o v i (AtTrap kind line)) → CanHappenAt o v i (Own (o.path w.1))
  due_trap kind line w = to_step w.0 w.1 (o.path w.1) w.2 (ap own_action_at w.3) refl

  pub due_finish : (w : LivesAt o v i AtFinish) → CanHappenAt o v i (End (o.path w.1))
  due_finish w = to_end w.0 w.1 (o.path w.1) w.2 (ap own_action_at w.3) refl

  pub due_close : (w : CanClose v i) → CanHappenAt o v i (Close (o.path w.process))
  due_close w = to_close w.first w.many w.process w.said (o.path w.process) w.forked w.there w.none_goes refl

  pub due_alone : (w : MeetsAlone o v i) → CanHappenAt o v i (Meet w.chan.channel)
  due_alone w = to_meet w.first w.process w.chan w.chan.channel w.has w.stop_is refl w.declared

  pub due_meet : (q : ℕ) (w : IsReadyToMeet o v i q) → CanHappenAt o v i (Meet w.pair_is.chan.channel)
  due_meet q w = to_meet_below w.first w.many q w.process w.has.said w.pair_is w.pair_is.chan.channel w.has.forked w.has.there w.has.pair refl w.declared w.all

  pub due_poison : (q j : ℕ) (w : IsDoomed o v i q j) → CanHappenAt o v i (Poison (o.path w.child) w.pair_is.chan.channel)
  due_poison q j w =
      to_poison w.first w.many q w.branch w.child_first w.process w.child w.child_status w.has.said w.pair_is (o.path w.child) w.pair_is.chan.channel w.has.forked w.has.there w.has.pair refl w.dooms w.within
      (subst (λ z. HasProcessState v z w.child_first w.child w.child_status) w.number w.its) (subst (λ z. IsReady o v w.pair_is.chan.channel z w.child w.child_status) w.number w.ready) refl

  -- ---- so it is enabled

  pub due_enabled : LocalLaws o → (e : Event) → CanHappenAt o v i e → IsEnabled o e v
  due_enabled law e due rp t kept = ((record_decides o law).can rp v t e i kept due).0

  -- ---- what a rendezvous and a poison ask beside that

  pub meet_declares : (q : ℕ) (w : IsReadyToMeet o v i q) → Declares o v i w.pair_is.chan.channel
  meet_declares q w = record { first = w.first; state = w.process; status = _; has = w.has.forked; its = w.declared }

  pub doomed_child : (q j : ℕ) (w : IsDoomed o v i q j) → IsChildOf v j w.child w.process
  doomed_child q j w = record { parent = i; first = w.first; many = w.many; fork = w.has.forked; branch = w.branch; within = w.within; mine = w.number; own_first = w.child_first; status = w.child_status; has = w.its }

  pub doomed_can : LocalLaws o → (q j : ℕ) (w : IsDoomed o v i q j) → CanPoison o w.pair_is.chan.channel (o.handlers w.process - 1) j v
  doomed_can law q j w = record { child = w.child; parent = w.process; is_child = doomed_child q j w; is_label = refl; enabled = due_enabled law (Poison (o.path w.child) w.pair_is.chan.channel) (due_poison q j w) }
