-- Any two different events of a sound tree may change places.
use Rattle.shim_local.specs.Process.{Ops}
use Rattle.shim_local.specs.Laws.{LocalLaws}
use Rattle.shim_laws_schedules.proofs.EachPair.{each_pair}
use Rattle.shim_laws_schedules.specs.Laws.{EventsCommute}
use Rattle.shim_laws_schedules.proofs.Diamond.{alone_change_places}

module _ {S : Type 0} (o : Ops S) where
  pub events_commute : LocalLaws o → EventsCommute o
  events_commute law = each_pair o law (alone_change_places o law)
