-- A rendezvous may change places with each event of one process by itself, and with each other rendezvous.
use Rattle.std.proofs.Common.{◌≡◌, ℕ, ℤ, ◌+◌, true, Some, None, ◌++◌, cond, unwrap_or, refl, sym, ap, subst, ◌∙◌}
use Rattle.shim_base.specs.Paths.{Channel}
use Rattle.shim_local.specs.Process.{Ops}
use Rattle.shim_local.specs.Laws.{LocalLaws}
use Rattle.shim_semantics.specs.Nodes.{Node, source, value_of, first_name, received}
use Rattle.shim_semantics.specs.Acts.{Effects}
use Rattle.shim_semantics.specs.Places.{route, meets}
use Rattle.shim_semantics.specs.Laws.{IsSoundTree}
use Rattle.shim_semantics.specs.Trees.{Tree, Event, Own, Meet, Poison, Close, End, recorded, with_logs, met, after}
use Rattle.shim_semantics.proofs.Alone.{doer, IsAlone}
use Rattle.shim_semantics.proofs.ReplacedNodes.{put}
use Rattle.shim_semantics.proofs.Replaced.{sound_at}
use Rattle.shim_semantics.proofs.MeetStays.{meeting_stays}
use Rattle.shim_semantics.proofs.SoundEvents.{here_keeps, events_keep_sound, meeting_sound}
use Rattle.shim_laws_schedules.specs.Waiting.{all_wait, has_sharer}
use Rattle.shim_laws_schedules.specs.ChangingPlaces.{MeetingsChangePlaces}
use Rattle.shim_laws_schedules.proofs.AllWait.{Alike}
use Rattle.shim_laws_schedules.proofs.Entries.{recorded_swap}
use Rattle.shim_laws_schedules.proofs.Homes.{meets_all_wait, all_wait_meets, all_wait_home}
use Rattle.shim_laws_schedules.proofs.Elsewhere.{acts_aside}
use Rattle.shim_laws_schedules.proofs.Meets.{is_unshared_there, is_unshared_put, received_alike, received_twice}
use Rattle.shim_laws_schedules.proofs.EventParts.{counted, later_twice, with_effects, EventParts, split_event, join_event}
use Rattle.shim_base.proofs.Facts.{cond_some}

module _ {S : Type 0} (o : Ops S) where
  -- the tree after the rendezvous of a channel
  abbrev pub meeting : Channel → Tree S → Tree S
  meeting c t = met o c (value_of o c (source o c t.root)) t

  -- a rendezvous that led from the first tree to the second
  pub record HasMet (c : Channel) (t a : Tree S) : Type 0 where
    pub does_wait : all_wait o c t.root ≡ true
    pub sharer_is_there : has_sharer o c t.root ≡ true
    pub is : meeting c t ≡ a

  pub has_met : LocalLaws o → (c : Channel) (t a : Tree S) → IsSoundTree o t → after o (Meet c) t ≡ Some a → HasMet c t a
  has_met law c t a s e =
      let x = cond_some (meets o c t.root) (meeting c t) a e in
      let y = meets_all_wait o law c t.root s x.0 in
      record { does_wait = y.0; sharer_is_there = y.1; is = x.1 }

  -- the value that a rendezvous gives, and the name that it brings, as they were in a tree that is the same to its channel
  abbrev pub met_as : Channel → ℤ → ℕ → Tree S → Tree S
  met_as c v name t = record { root = received o c v t.root; output = t.output; histories = recorded t.histories c name v; logs = t.logs; counts = t.counts; events = t.events + 1 }

  abbrev pub value_in : Channel → Node S → ℤ
  value_in c n = value_of o c (source o c n)

  abbrev pub name_in : Channel → Node S → ℕ
  name_in c n = unwrap_or (first_name o c n) 0

  -- the channel meets in the second tree as it would in the first
  pub meets_alike : (c : Channel) (n : Node S) (t : Tree S) → IsSoundTree o t → all_wait o c n ≡ true → has_sharer o c n ≡ true → Alike o c n t.root → after o (Meet c) t ≡ Some (met_as c (value_in c n) (name_in c n) t)
  meets_alike c n t s h g alike =
      let there = all_wait_meets o c t.root s (sym alike.all_wait ∙ h) (sym alike.has_sharer ∙ g) in
      let same : meeting c t ≡ met_as c (value_in c n) (name_in c n) t = λ i. met_as c (value_of o c (sym alike.source i)) (unwrap_or (sym alike.name i) 0) t in
      ap (λ b. cond b (Some (meeting c t)) None) there ∙ ap Some same

  -- what the two events lead to, in either order
  pub record Joined (e f : Event) (a b : Tree S) : Type 0 where
    pub tree : Tree S
    pub first : after o f a ≡ Some tree
    pub second : after o e b ≡ Some tree

  -- ---- with an event of one process

  -- the same trees, as the two orders make them
  with_effects_met : (e : Event) (c : Channel) (v : ℤ) (name : ℕ) (t : Tree S) (n m : Node S) (s : Effects) → m ≡ received o c v n → with_effects e (met_as c v name t) m s ≡ met_as c v name (with_effects e t n s)
  with_effects_met e c v name t n m s h = λ i. record {
    root = h i;
    output = t.output ++ s.bytes;
    histories = recorded t.histories c name v;
    logs = with_logs t.logs (doer e) s.logs;
    counts = counted e t.counts;
    events = later_twice e t.events i;
  }

  meet_split : LocalLaws o → (c : Channel) (e : Event) (t : Tree S) (b : Tree S) → IsSoundTree o t → IsAlone e → all_wait o c t.root ≡ true → has_sharer o c t.root ≡ true → after o e t ≡ Some b → EventParts o e t b → Joined (Meet c) e (meeting c t) b
  meet_split law c e t b s d h g f x =
      let v : ℤ = value_in c t.root in
      let name : ℕ = name_in c t.root in
      let home = all_wait_home o c t.root s.below (s.own c) h g in
      let aside = acts_aside o law c x.place t.root x.old x.new s.below h home x.there x.here in
      let kept = here_keeps o law x.old x.new (sound_at o x.place t.root x.old s.below x.there) x.here in
      let changed : Tree S = with_effects e t (put x.place x.new.node t.root) x.new.effects in
      let sound : IsSoundTree o changed = (events_keep_sound o law).kept t s e changed (f ∙ ap Some (sym x.is)) in
      let second : after o (Meet c) changed ≡ Some (met_as c v name changed) = meets_alike c t.root changed sound h g aside.alike in
      let path = (meeting_stays o law c v t.root s.below).follows.path in
      let there = is_unshared_there o law c v x.place t.root x.old s.below x.there aside.before in
      let first : after o e (meeting c t) ≡ Some (with_effects e (meeting c t) (put x.place x.new.node (received o c v t.root)) x.new.effects) =
      join_event o e (meeting c t) x.place x.old x.new d (ap (λ z. route z (doer e)) path ∙ x.route_is) there x.its x.here in
      let same = with_effects_met e c v name t (put x.place x.new.node t.root) (put x.place x.new.node (received o c v t.root)) x.new.effects (is_unshared_put o law c v x.place x.new.node t.root kept.below aside.behind) in
      subst (Joined (Meet c) e (meeting c t)) x.is (record { tree = met_as c v name changed; first = first ∙ ap Some same; second = second })

  pub meet_alone : LocalLaws o → (c : Channel) (e : Event) (t a b : Tree S) → IsSoundTree o t → IsAlone e → after o (Meet c) t ≡ Some a → after o e t ≡ Some b → Joined (Meet c) e a b
  meet_alone law c e t a b s d h f =
      let x = has_met law c t a s h in
      subst (λ z. Joined (Meet c) e z b) x.is (meet_split law c e t b s d x.does_wait x.sharer_is_there f (split_event o e t b d f))

  -- ---- with another rendezvous

  meetings_met : LocalLaws o → (c d : Channel) (t : Tree S) → IsSoundTree o t → (c ≡ d → ⊥) → HasMet c t (meeting c t) → HasMet d t (meeting d t) → Joined (Meet c) (Meet d) (meeting c t) (meeting d t)
  meetings_met law c d t s n x y =
      let v : ℤ = value_in c t.root in
      let w : ℤ = value_in d t.root in
      let to_d = received_alike o law d c v t.root s.below (λ e. n (sym e)) y.does_wait in
      let to_c = received_alike o law c d w t.root s.below n x.does_wait in
      let first : after o (Meet d) (meeting c t) ≡ Some (met_as d w (name_in d t.root) (meeting c t)) = meets_alike d t.root (meeting c t) (meeting_sound o law c v t.root s) y.does_wait y.sharer_is_there to_d in
      let second : after o (Meet c) (meeting d t) ≡ Some (met_as c v (name_in c t.root) (meeting d t)) = meets_alike c t.root (meeting d t) (meeting_sound o law d w t.root s) x.does_wait x.sharer_is_there to_c in
      let root = received_twice o law c d v w t.root s.below n x.does_wait y.does_wait in
      let values = sym (recorded_swap t.histories c d (name_in c t.root) (name_in d t.root) v w n) in
      let same : met_as c v (name_in c t.root) (meeting d t) ≡ met_as d w (name_in d t.root) (meeting c t) =
      λ i. record { root = root i; output = t.output; histories = values i; logs = t.logs; counts = t.counts; events = t.events + 1 + 1 } in
      record { tree = met_as d w (name_in d t.root) (meeting c t); first = first; second = second ∙ ap Some same }

  pub meet_meet : LocalLaws o → (c d : Channel) (t a b : Tree S) → IsSoundTree o t → (c ≡ d → ⊥) → after o (Meet c) t ≡ Some a → after o (Meet d) t ≡ Some b → Joined (Meet c) (Meet d) a b
  meet_meet law c d t a b s n h f =
      let x = has_met law c t a s h in
      let y = has_met law d t b s f in
      let j = meetings_met law c d t s n (record { does_wait = x.does_wait; sharer_is_there = x.sharer_is_there; is = refl }) (record { does_wait = y.does_wait; sharer_is_there = y.sharer_is_there; is = refl }) in
      subst (λ z. Joined (Meet c) (Meet d) a z) y.is (subst (λ z. Joined (Meet c) (Meet d) z (meeting d t)) x.is j)

  -- ---- with each event that is no poison

  meets_apart : (c d : Channel) → (Meet c ≡ Meet d → ⊥) → c ≡ d → ⊥
  meets_apart c d n e = n (ap Meet e)

  pub meetings_change_places : LocalLaws o → MeetingsChangePlaces o
  meetings_change_places law c (Own p) h t a b s n f g = let j = meet_alone law c (Own p) t a b s (λ z. cc) f g in (j.tree, j.first, j.second)
  meetings_change_places law c (Close p) h t a b s n f g = let j = meet_alone law c (Close p) t a b s (λ z. cc) f g in (j.tree, j.first, j.second)
  meetings_change_places law c (End p) h t a b s n f g = let j = meet_alone law c (End p) t a b s (λ z. cc) f g in (j.tree, j.first, j.second)
  meetings_change_places law c (Meet d) h t a b s n f g = let j = meet_meet law c d t a b s (meets_apart c d n) f g in (j.tree, j.first, j.second)
  meetings_change_places law c (Poison p d) h t a b s n f g = absurd cc
