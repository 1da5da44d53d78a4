use Rattle.std.proofs.Common.{◌≡◌, ◌+◌, refl, sym, ap, subst, ◌∙◌, slice_set, get_or, arith}
use Rattle.std.specs.Prelude.{Some}
use Rattle.shim_local.specs.Process.{AtThrow}
use Rattle.shim_semantics.specs.Nodes.{Dead}
use Rattle.shim_semantics.specs.Acts.{nothing, act_live}
use Rattle.shim_laws_table.specs.NodeStatus.{dies}
use Rattle.shim_records.specs.declared.record.Status.TheVariants as code
use Rattle.shim_laws_table_events.specs.keeping.Tables.{HasTableInvariant}
use Rattle.shim_process_table.specs.Stepping.{LivesAt}
use Rattle.shim_process_table.specs.Acting.{ActsAlone, status_by_throw, throw_effects, thrown_by}
use Rattle.shim_process_table.specs.declared.acting.Thrown.TheVariants as thrown
use Rattle.shim_process_table.proofs.Does.{its, inside_states, few_given, is_sound, set_same, throw_dies, throw_lives, lives_by, still_kept, lives_here, lives_then, leaves_here, one_read}
use Rattle.shim_process_table.proofs.QueueFacts.{died_nowhere}
use Rattle.shim_process_table.proofs.process_table.ProcessTable.throw.Goals as goal

pub throw_own-thrown-requires-clause-sound : goal.throw_own-thrown-requires-clause-sound
throw_own-thrown-requires-clause-sound g c κs within =
    let o = g.L.Local.ops in
    let v = c.self.inside in
    let here = subst (λ z. LivesAt o z c.args.number (AtThrow c.args.label)) (sym c.self.view_is) c.requires in
    is_sound o v.states.items v.records.items c.args.number here.0 c.index_mut.result.now c.self.invariant (its o v.states.items v.records.items c.args.number (AtThrow c.args.label) c.index_mut.result.now here c.index_mut.ensures.value)

-- ---- it dies

pub terminate-forks-requires-clause-few : goal.terminate-forks-requires-clause-few
terminate-forks-requires-clause-few g c κs within =
    let o = g.L.Local.ops in
    let law = (g.met.L.Local g.world.𝓛 g.world.𝓜 g.world.𝓡 ((λ s x. x), (λ x. x), (λ x. x), λ x. x)).laws in
    let v = c.self.inside in
    let states = v.states.items in
    let rs = v.records.items in
    let x = c.args.number in
    let label = c.args.label in
    let l = c.index_mut.result.now in
    let s = c.throw_own-thrown.new.process in
    let t = c.throw_own-thrown.result in
    let here = subst (λ z. LivesAt o z x (AtThrow label)) (sym c.self.view_is) c.requires in
    let read = c.index_mut.ensures.value in
    let d = c.in-Died.death in
    let w = throw_dies o l s d label (ap (λ z. thrown_by z s) (sym c.in-Died.is) ∙ c.throw_own-thrown.ensures) in
    let same : slice_set states x s ≡ states = ap (slice_set states x) w.0 ∙ set_same o states x l (its o states rs x (AtThrow label) l here read).state_is in
    let again = c.index.result.now in
    let read_again : again ≡ get_or states x again = c.index.ensures ∙ ap (λ z. get_or z x again) same in
    few_given o states rs x here.0 again c.self.invariant (its o states rs x (AtThrow label) again here read_again)

pub returns-in-Died-clause-acts : goal.returns-in-Died-clause-acts
returns-in-Died-clause-acts g c =
    let o = g.L.Local.ops in
    let law = (g.met.L.Local g.world.𝓛 g.world.𝓜 g.world.𝓡 ((λ s x. x), (λ x. x), (λ x. x), λ x. x)).laws in
    let v = c.self.inside in
    let states = v.states.items in
    let rs = v.records.items in
    let x = c.args.number in
    let label = c.args.label in
    let l = c.index_mut.result.now in
    let s = c.throw_own-thrown.new.process in
    let t = c.throw_own-thrown.result in
    let here = subst (λ z. LivesAt o z x (AtThrow label)) (sym c.self.view_is) c.requires in
    let read = c.index_mut.ensures.value in
    let d = c.in-Died.death in
    let w = throw_dies o l s d label (ap (λ z. thrown_by z s) (sym c.in-Died.is) ∙ c.throw_own-thrown.ensures) in
    let same : slice_set states x s ≡ states = ap (slice_set states x) w.0 ∙ set_same o states x l (its o states rs x (AtThrow label) l here read).state_is in
    let again = c.index.result.now in
    let read_again : again ≡ get_or states x again = c.index.ensures ∙ ap (λ z. get_or z x again) same in
    let forks = c.terminate-forks.result in
    let behind = c.terminate-forks.new.records.items in
    let does = subst (λ z. act_live o z (AtThrow label) ≡ Some (record { node = Dead z d; effects = nothing })) (one_read o states rs x (AtThrow label) l again here read read_again) w.1 in
    subst (λ z. ActsAlone o (forks + 1) x (AtThrow label) (dies d) nothing z (record { states = slice_set states x s; records = behind })) c.self.view_is
    (subst (λ z. ActsAlone o (forks + 1) x (AtThrow label) (dies d) nothing (record { states = states; records = rs }) (record { states = z; records = behind })) (sym same)
    (leaves_here o law states rs behind x (AtThrow label) nothing again here read_again forks (code.Dead d) refl c.terminate-forks.ensures.leaves c.terminate-forks.ensures.touches does))

pub returns-in-Died-clause-queue : goal.returns-in-Died-clause-queue
returns-in-Died-clause-queue g c =
    let o = g.L.Local.ops in
    let a = returns-in-Died-clause-acts g c in
    died_nowhere o (record { states = slice_set c.self.inside.states.items c.args.number c.throw_own-thrown.new.process; records = c.terminate-forks.new.records.items }) c.args.number a.becomes.first _ c.in-Died.death a.becomes.mine

pub invariant_of-self : goal.invariant_of-self
invariant_of-self g c =
    let o = g.L.Local.ops in
    still_kept o (c.terminate-forks.result + 1) c.args.number (AtThrow c.args.label) (dies c.in-Died.death) nothing c.args.self.now (record { states = slice_set c.self.inside.states.items c.args.number c.throw_own-thrown.new.process; records = c.terminate-forks.new.records.items }) (returns-in-Died-clause-acts g c)
    (subst (HasTableInvariant o) c.self.view_is c.self.invariant)

-- ---- it lives on

pub index-requires-2 : goal.index-requires-2
index-requires-2 g c =
    let o = g.L.Local.ops in
    let v = c.self.inside in
    let here = subst (λ z. LivesAt o z c.args.number (AtThrow c.args.label)) (sym c.self.view_is) c.requires in
    let less = inside_states o v.states.items v.records.items c.args.number (AtThrow c.args.label) here in
    let same = v.states.ok.0 in
    omega (arith, less, same)

pub returns : goal.returns
returns g c =
    let o = g.L.Local.ops in
    let law = (g.met.L.Local g.world.𝓛 g.world.𝓜 g.world.𝓡 ((λ s x. x), (λ x. x), (λ x. x), λ x. x)).laws in
    let v = c.self.inside in
    let states = v.states.items in
    let rs = v.records.items in
    let x = c.args.number in
    let label = c.args.label in
    let l = c.index_mut.result.now in
    let s = c.throw_own-thrown.new.process in
    let t = c.throw_own-thrown.result in
    let here = subst (λ z. LivesAt o z x (AtThrow label)) (sym c.self.view_is) c.requires in
    let read = c.index_mut.ensures.value in
    let lived = lives_by o t c.in_default.not-Died in
    let forks = c.propagate_stop-to_requeue.result.forks in
    let behind = c.propagate_stop-to_requeue.new.records.items in
    let then = lives_then o law states rs behind x (AtThrow label) (throw_effects t) l here read s c.index-2.result.now c.index-2.ensures c.propagate_stop-to_requeue.ensures.propagates in record {
      acts = subst (λ z. ActsAlone o forks x (AtThrow label) (status_by_throw t) (throw_effects t) z (record { states = slice_set states x s; records = behind })) c.self.view_is
          (subst (λ k. ActsAlone o forks x (AtThrow label) k (throw_effects t) (record { states = states; records = rs }) (record { states = slice_set states x s; records = behind })) (sym lived)
          (lives_here o law states rs behind x (AtThrow label) (throw_effects t) l here read forks s c.index-2.result.now c.index-2.ensures c.propagate_stop-to_requeue.ensures.propagates c.propagate_stop-to_requeue.ensures.newly_ready
          (throw_lives o l s t label lived c.throw_own-thrown.ensures)));
      queue = c.propagate_stop-to_requeue.ensures.queue (record { states = slice_set states x s; records = behind }) x then.0 then.1;
    }

pub invariant_of-self-2 : goal.invariant_of-self-2
invariant_of-self-2 g c =
    let o = g.L.Local.ops in
    let t = c.throw_own-thrown.result in
    still_kept o c.propagate_stop-to_requeue.result.forks c.args.number (AtThrow c.args.label) (status_by_throw t) (throw_effects t) c.args.self.now (record { states = slice_set c.self.inside.states.items c.args.number c.throw_own-thrown.new.process; records = c.propagate_stop-to_requeue.new.records.items }) (returns g c).acts
    (subst (HasTableInvariant o) c.self.view_is c.self.invariant)
