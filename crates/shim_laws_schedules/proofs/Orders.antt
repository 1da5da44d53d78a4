-- Where the events of sound trees commute, their runs agree, and rounds lead.
use Rattle.std.proofs.Common.{◌≡◌, Some, List, length}
use Rattle.shim_local.specs.Process.{Ops}
use Rattle.shim_local.specs.Laws.{LocalLaws}
use Rattle.shim_semantics.specs.Trees.{Tree, Event, after}
use Rattle.shim_semantics.specs.Walks.{walk}
use Rattle.shim_semantics.specs.Systems.{run}
use Rattle.shim_semantics.specs.Laws.{IsSoundTree}
use Rattle.shim_semantics.proofs.HowMany.{no_less}
use Rattle.shim_semantics.proofs.Enabled.{enabled_listed}
use Rattle.shim_semantics.proofs.SoundEvents.{events_keep_sound}
use Rattle.shim_laws_schedules.specs.Orders.{rounds_of}
use Rattle.shim_laws_schedules.specs.Rounds.{rounds}
use Rattle.shim_laws_schedules.specs.Laws.{EventsCommute, RunsAgree, IsPrefixOf, RoundsLead}
use Rattle.shim_laws_schedules.proofs.Events.{events_same}
use Rattle.shim_laws_schedules.proofs.Lengths.{one_length}
use Rattle.shim_laws_schedules.proofs.Rounds.{leads_to_rounds}
use Rattle.shim_laws_schedules.proofs.Longer.{run_longer}

module _ {S : Type 0} (o : Ops S) where
  pub runs_agree : LocalLaws o → EventsCommute o → RunsAgree o
  runs_agree law commute = one_length (after o) (IsSoundTree o) events_same commute (events_keep_sound o law).kept

  led_on : LocalLaws o → EventsCommute o → (t u : Tree S) (es : List Event) → IsSoundTree o t → run (after o) es t ≡ Some u → IsPrefixOf u (rounds_of (after o) (λ z. walk o z.root) (length es) t)
  led_on law commute t u es s r =
      let rest = leads_to_rounds (after o) (IsSoundTree o) events_same commute (events_keep_sound o law).kept (λ z. walk o z.root) (λ z a e h. enabled_listed o z a e h) (length es) t u es s r (no_less (length es)) in
      run_longer o rest.0 u (rounds_of (after o) (λ z. walk o z.root) (length es) t) rest.1

  pub rounds_lead : LocalLaws o → EventsCommute o → RoundsLead o
  unfolding rounds
  rounds_lead law commute t u es s r = led_on law commute t u es s r
