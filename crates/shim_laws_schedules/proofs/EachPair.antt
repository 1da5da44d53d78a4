-- Any two events may change places, where any two events of processes by themselves may.
use Rattle.std.proofs.Common.{◌≡◌, false, refl, sym}
use Rattle.shim_base.specs.Paths.{Channel}
use Rattle.shim_local.specs.Process.{Ops}
use Rattle.shim_local.specs.Laws.{LocalLaws}
use Rattle.shim_semantics.specs.Trees.{Event, Own, Meet, Poison, Close, End}
use Rattle.shim_semantics.proofs.Alone.{IsAlone}
use Rattle.shim_laws_schedules.specs.ChangingPlaces.{MayChangePlaces, is_poison}
use Rattle.shim_laws_schedules.proofs.MeetDiamond.{meetings_change_places}
use Rattle.shim_laws_schedules.proofs.PoisonDiamond.{poisons_change_places}

alone_no_poison : (e : Event) → IsAlone e → is_poison e ≡ false
alone_no_poison (Own p) d = refl
alone_no_poison (Meet c) d = refl
alone_no_poison (Poison p c) d = absurd (d refl)
alone_no_poison (Close p) d = refl
alone_no_poison (End p) d = refl

module _ {S : Type 0} (o : Ops S) where
  pub turned_places : (e f : Event) → MayChangePlaces o e f → MayChangePlaces o f e
  turned_places e f j t a b s n h g = let w = j t b a s (λ z. n (sym z)) g h in (w.0, w.2, w.1)

  -- what is left is two events of processes by themselves
  abbrev pub AloneChangePlaces : Type 0
  AloneChangePlaces = (e f : Event) → IsAlone e → IsAlone f → MayChangePlaces o e f

  alone_first : LocalLaws o → AloneChangePlaces → (e f : Event) → IsAlone e → MayChangePlaces o e f
  alone_first law pairs e (Own p) d = pairs e (Own p) d (λ z. cc)
  alone_first law pairs e (Close p) d = pairs e (Close p) d (λ z. cc)
  alone_first law pairs e (End p) d = pairs e (End p) d (λ z. cc)
  alone_first law pairs e (Meet c) d = turned_places (Meet c) e (meetings_change_places o law c e (alone_no_poison e d))
  alone_first law pairs e (Poison p c) d = turned_places (Poison p c) e (poisons_change_places o law p c e)

  meeting_first : LocalLaws o → (c : Channel) (f : Event) → MayChangePlaces o (Meet c) f
  meeting_first law c (Own p) = meetings_change_places o law c (Own p) refl
  meeting_first law c (Close p) = meetings_change_places o law c (Close p) refl
  meeting_first law c (End p) = meetings_change_places o law c (End p) refl
  meeting_first law c (Meet d) = meetings_change_places o law c (Meet d) refl
  meeting_first law c (Poison p d) = turned_places (Poison p d) (Meet c) (poisons_change_places o law p d (Meet c))

  pub each_pair : LocalLaws o → AloneChangePlaces → (e f : Event) → MayChangePlaces o e f
  each_pair law pairs (Own p) f = alone_first law pairs (Own p) f (λ z. cc)
  each_pair law pairs (Close p) f = alone_first law pairs (Close p) f (λ z. cc)
  each_pair law pairs (End p) f = alone_first law pairs (End p) f (λ z. cc)
  each_pair law pairs (Meet c) f = meeting_first law c f
  each_pair law pairs (Poison p c) f = poisons_change_places o law p c f
