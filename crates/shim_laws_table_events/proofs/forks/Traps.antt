-- A fork that traps: the process lives on, and the records keep all that they kept.
use Rattle.std.proofs.Common.{◌≡◌, false, Some, slice_set, map, refl, sym, ap, ◌∙◌}
use Rattle.shim_base.specs.Paths.{Channel}
use Rattle.shim_local.specs.Process.{Ops, AtFork, Trapped}
use Rattle.shim_local.specs.Laws.{LocalLaws, by_trap}
use Rattle.shim_semantics.specs.Nodes.{Live, is_next}
use Rattle.shim_semantics.specs.Acts.{nothing, act_live, parted}
use Rattle.shim_semantics.specs.Trees.{Own, own_action_at}
use Rattle.shim_semantics.proofs.HowMany.{one_for_one}
use Rattle.shim_laws_table.specs.NodeStatus.{lives}
use Rattle.shim_laws_table.specs.Changes.{HasChanged}
use Rattle.shim_laws_table.proofs.Shown.{events_preserve}
use Rattle.shim_records.specs.Pairs.{record_view}
use Rattle.shim_records.proofs.Stepping.{set_there, set_elsewhere}
use Rattle.shim_laws_table_events.specs.keeping.Propagating.{nowhere}
use Rattle.shim_laws_table_events.proofs.keeping.Moved.{Stays, moved}
use Rattle.shim_laws_table_events.specs.forks.Forking.{ForkTrapPreserves}
use Rattle.shim_laws_table_events.proofs.forks.OwnSteps.{is_sound, can_step, own_replaced}

module _ {S : Type 0} (o : Ops S) (law : LocalLaws o) where
  no_next : (l m : S) → o.sound l → o.stop l ≡ AtFork → o.fork l ≡ Trapped m → (c : Channel) → is_next (o.stop m) c ≡ false
  no_next l m sound stop traps c = let w = law.fork_traps l m sound stop traps in ap (λ z. is_next z c) w.2

  pub fork_trap_preserves : ForkTrapPreserves o
  fork_trap_preserves x f l m before has stop traps rp t kept =
      let st = map record_view before.records in
      let sound = is_sound o law rp before.states st t x f l kept.represents has in
      let next = can_step o law rp before.states st t x f l kept.represents has (ap own_action_at stop) in
      let does : act_live o l (o.stop l) ≡ Some (record { node = Live m; effects = nothing }) = ap (act_live o l) stop ∙ ap (λ z. Some (record { node = parted z; effects = nothing })) traps in
      let change : HasChanged before.states (slice_set before.states x m) st st x m lives = record {
        first = f;
        mine = record { state_is = set_there before.states x l m has.state_is; view_is = has.view_is };
        others = λ j d s k n h. record { state_is = set_elsewhere before.states x j m n ∙ h.state_is; view_is = h.view_is };
        only = λ j d s k n h. record { state_is = sym (set_elsewhere before.states x j m n) ∙ h.state_is; view_is = h.view_is };
      } in
      let shown = (events_preserve o law).stepped rp before.states (slice_set before.states x m) st st t next.0 (Own (o.path l)) x f l (record { node = Live m; effects = nothing }) kept.represents has refl next.1 does refl change in
      let rep = own_replaced o law rp before.states st t x f l kept.represents has next.0 (record { node = Live m; effects = nothing }) next.1 does in
      let stays : Stays o l m = record { path = law.moved_path l m sound (by_trap stop traps); given = law.moved_given l m sound (by_trap stop traps); shares = λ c far. sym (law.fork_trap_shares l m c sound stop traps); carries = λ c far. one_for_one (λ k. o.carries k c) l m (law.fork_trap_carries l m c sound stop traps) } in (
        next.0,
        next.1,
        moved o law rp before.states before.records before.records t.root next.0.root l m x f kept has shown rep stays (λ c. ap (λ z. is_next z c) stop) (nowhere (no_next l m sound stop traps) refl)
            (law.moved_sound l m sound (by_trap stop traps)),
      )
