-- Each exception that is caught in a run was thrown by who catches it, or below the fork that closes with it.
use Rattle.std.proofs.Common.{◌≡◌, ◌≤◌, ◌<◌, ◌+◌, ℕ, ℤ, suc, true, false, Option, Some, None, List, [], ◌∷◌, ◌++◌, ◌⊎◌, inl, inr, ltb, refl, sym, ap, subst, ◌∙◌, arith, ltb-true, lt-ltb}
use Rattle.std.proofs.lemmas.List.{append_assoc, append-nil}
use Rattle.shim_base.specs.Paths.{Path}
use Rattle.shim_local.specs.Process.{Ops}
use Rattle.shim_local.specs.Laws.{LocalLaws}
use Rattle.shim_semantics.specs.Nodes.{Node, Nodes, Live, Forked, Ended, Dead, Death, handed, no_node, node_and, state, states, prevailing_death, source, value_of}
use Rattle.shim_semantics.specs.Acts.{act_here}
use Rattle.shim_semantics.specs.Poison.{poison_route}
use Rattle.shim_semantics.specs.Places.{at, child_at, at_route, led_to, route, has_path, meets, SoundBelow, SoundChildren}
use Rattle.shim_semantics.specs.Trees.{Tree, Event, Own, Meet, Poison, Close, End, poisons, met, after}
use Rattle.shim_semantics.specs.Systems.{run}
use Rattle.shim_semantics.specs.Laws.{IsSoundTree}
use Rattle.shim_semantics.proofs.HowMany.{clash, no_less_than}
use Rattle.shim_semantics.proofs.Alone.{doer, IsAlone}
use Rattle.shim_semantics.proofs.ReplacedNodes.{put}
use Rattle.shim_semantics.proofs.Replaced.{sound_at}
use Rattle.shim_semantics.proofs.Routes.{route_of}
use Rattle.shim_semantics.proofs.SoundEvents.{events_keep_sound, runs_stay_sound}
use Rattle.shim_laws_schedules.proofs.Elsewhere.{closing}
use Rattle.shim_laws_schedules.proofs.EventParts.{EventParts, split_event}
use Rattle.shim_laws_schedules.proofs.PoisonDiamond.{nodes_changed_some}
use Rattle.shim_laws_schedules.specs.Throws.{Throws, ClosesWith, Catches, by_throw, by_close, CatchesHaveNumbers, ThrewBelow, ThrownWhereCaught}
use Rattle.shim_laws_schedules.proofs.Lengths.{went_on}
use Rattle.shim_laws_schedules.proofs.Rounds.{run_on, run_one}
use Rattle.shim_laws_schedules.proofs.DeadBelow.{dead_below, any_dead_below, IsLeast, at_put, there_dead_in, done_some, done_least}
use Rattle.shim_laws_schedules.proofs.NewDeaths.{joined_base, live_no_fork, closed_no_fork, new_none}
use Rattle.shim_laws_schedules.proofs.Stood.{Stood, ThrowsBelow, base_below, stood_alone}
use Rattle.shim_laws_schedules.proofs.Numbers.{DiedWith, AnyDiedWith, AnyNumbered, any_died_dead, there_died_in, put_died_in, died_put_in, prevailing_gives, prevailing_numbered}
use Rattle.shim_laws_schedules.proofs.NumbersKept.{Alike, act_died, act_numbered, route_alike, meeting_alike}
use Rattle.shim_laws_schedules.proofs.Forks.{same, above, within, whence, same_fork}
use Rattle.shim_laws_schedules.proofs.MeetSpares.{stood_meeting}
use Rattle.shim_laws_schedules.proofs.PoisonSpares.{stood_route}
use Rattle.shim_laws_schedules.proofs.Threw.{threw_before, threw_now}
use Rattle.shim_base.proofs.Facts.{some_same, none_some, chosen, cond_some, or_left, or_right, false_unless}

same_base : (b c x : ℕ) → c ≡ b → c ≤ x → b ≤ x
same_base b c x e f = omega arith

next_one : (x : ℕ) → x < suc x
next_one x = omega arith

under_reach : (x h b : ℕ) → x < h → h ≤ b → x < b
under_reach x h b e f = omega arith

below_same : (x b h : ℕ) → x < b → b ≡ h → x < h
below_same x b h e f = omega arith

-- a route that leads to a node is one
led_at : {S : Type 0} (n m : Node S) (r : Option (List ℕ)) → at_route n r ≡ Some m → (q : List ℕ) × (at q n ≡ Some m)
led_at n m None e = none_some m e
led_at n m (Some q) e = (q, e)

module _ {S : Type 0} (o : Ops S) where
  -- a fork at which an event leaves a fork doesn't close with it
  not_closed : (t u : Tree S) (e : Event) (q : List ℕ) (l : S) (js ks : Nodes S) → SoundBelow o t.root → (w : EventParts o e t u) → at q t.root ≡ Some (Forked l js) → at q u.root ≡ Some (Forked l ks) → e ≡ Close (o.path l) → ⊥
  not_closed t u e q l js ks s w f g is =
      let to : w.place ≡ q = some_same w.place q (sym w.route_is ∙ (ap (λ z. route (o.path (state t.root)) (doer z)) is ∙ route_of o t.root (Forked l js) q (o.path l) s f refl)) in
      let old : w.old ≡ Forked l js = some_same w.old (Forked l js) (sym w.there ∙ (ap (λ z. at z t.root) to ∙ f)) in
      let left : at q u.root ≡ Some w.new.node = ap (λ z. at q z.root) (sym w.is) ∙ (ap (λ z. at z (put w.place w.new.node t.root)) (sym to) ∙ at_put w.place t.root w.old w.new.node w.there) in
      let acted = closing o l js w.new (ap (act_here o) (sym old) ∙ w.here) in
      closed_no_fork o l (states js) (prevailing_death js) [] l ks (ap (λ z. Some z.node) acted.1 ∙ (sym left ∙ g))

  -- What is known of each fork: who is dead below it of a label above 0 with a number was thrown there since it forked; and where the least label of the dead below it could be caught there, one of those that died of it has a number.
  record Known (from : Tree S) (es : List Event) (t : Tree S) : Type 0 where
    pub threw : (q : List ℕ) (l : S) (ks : Nodes S) (x : ℕ) (v : ℤ) → at q t.root ≡ Some (Forked l ks) → 1 ≤ x → AnyDiedWith x v ks → ThrewBelow o from es (o.path l) l x v
    pub numbered : (q : List ℕ) (l : S) (ks : Nodes S) (x : ℕ) → at q t.root ≡ Some (Forked l ks) → o.base l ≤ x → x < o.handlers l → IsLeast x ks → AnyNumbered x ks

  start_known : (k : S) (from : Tree S) → from.root ≡ Live k → Known from [] from
  start_known k from live = record {
    threw = λ q l ks x v e one d. absurd (live_no_fork o k q l ks (ap (at q) (sym live) ∙ e));
    numbered = λ q l ks x e low high least. absurd (live_no_fork o k q l ks (ap (at q) (sym live) ∙ e));
  }

  -- ---- an event of one process by itself

  -- where a process below the fork did something, and one is dead with a number then
  above_threw : (from t u : Tree S) (es : List Event) (e : Event) → IsSoundTree o t → run (after o) es from ≡ Some t → Known from es t → (w : EventParts o e t u) → (q : List ℕ) (l : S) (js ks : Nodes S) (i : ℕ) (r : List ℕ) (x : ℕ) (v : ℤ)
      → at q t.root ≡ Some (Forked l js) → at q u.root ≡ Some (Forked l ks) → child_at i r js ≡ Some w.old → 1 ≤ x → AnyDiedWith x v js ⊎ DiedWith x v w.new.node → ThrewBelow o from (es ++ e ∷ []) (o.path l) l x v
  above_threw from t u es e s r known w q l js ks i p x v f g h one (inl d) = threw_before o from es e (o.path l) l x v (known.threw q l js x v f one d) (not_closed t u e q l js ks s.below w f g)
  above_threw from t u es e s r known w q l js ks i p x v f g h one (inr d) = elim (act_died o w.old w.new x v w.here one d) [
    | inl y ↦ threw_before o from es e (o.path l) l x v (known.threw q l js x v f one (there_died_in x v i p js w.old h y)) (not_closed t u e q l js ks s.below w f g)
    | inr y ↦
        let below : ThrowsBelow o t.root w.old q l x v = record { thrower = y.thrower; live = y.live; throws = y.throws; gives = y.gives; children = js; there = f; branch = i; rest = p; leads = h } in
        threw_now o from t u es e q l x v s.below r w below
  ]

  alone_threw : (from t u : Tree S) (es : List Event) (e : Event) → IsSoundTree o t → run (after o) es from ≡ Some t → Known from es t → (w : EventParts o e t u) → (q : List ℕ) (l : S) (ks : Nodes S) (x : ℕ) (v : ℤ) → at q u.root ≡ Some (Forked l ks) → 1 ≤ x → AnyDiedWith x v ks
      → ThrewBelow o from (es ++ e ∷ []) (o.path l) l x v
  alone_threw from t u es e s r known w q l ks x v g one d = elim (whence w.place q t.root w.old w.new.node l ks w.there (ap (λ z. at q z.root) w.is ∙ g)) [
    | same f ↦ threw_before o from es e (o.path l) l x v (known.threw q l ks x v f one d) (not_closed t u e q l ks ks s.below w f g)
    | above js i p f h is ↦ above_threw from t u es e s r known w q l js ks i p x v f g h one (put_died_in x v i p js w.new.node (subst (AnyDiedWith x v) is d))
    | within p f ↦ clash (any_dead_below (suc x) ks) (any_died_dead x v (suc x) ks (next_one x) d) (new_none o w.old w.new w.here p l ks f (suc x))
  ]

  -- where the least label was that before, one with a number is there still
  stood_numbered : LocalLaws o → (from t u : Tree S) (es : List Event) (e : Event) → IsSoundTree o t → Known from es t → (w : EventParts o e t u) → (q : List ℕ) (l : S) (ks : Nodes S) (x : ℕ) → at q u.root ≡ Some (Forked l ks) → o.base l ≤ x → x < o.handlers l → IsLeast x ks → Stood t.root q l x → AnyNumbered x ks
  stood_numbered law from t u es e s known w q l ks x g low high least y =
      let had = known.numbered q l y.children x y.there low high y.least in
      elim (whence w.place q t.root w.old w.new.node l ks w.there (ap (λ z. at q z.root) w.is ∙ g)) [
        | same f ↦ let is = (same_fork l l y.children ks (sym y.there ∙ f)).1 in (had.0, subst (AnyDiedWith x had.0) is had.1)
        | above js i p f h is ↦
            let was : y.children ≡ js = (same_fork l l y.children js (sym y.there ∙ f)).1 in
            let sound = sound_at o q t.root (Forked l js) s.below f in
            let reach = base_below o law l sound.number 0 js i p w.old sound.children h in
            let none : dead_below x w.old ≡ false =
            false_unless (dead_below x w.old) (λ z. clash (any_dead_below x y.children) (ap (any_dead_below x) was ∙ there_dead_in x i p js w.old h z) y.least.none) in
            let now = died_put_in x had.0 i p js w.old w.new.node h (act_numbered o law w.old w.new x had.0 (sound_at o w.place t.root w.old s.below w.there) w.here (under_reach x (o.handlers l) (o.base (state w.old)) high reach) none) (subst (AnyDiedWith x had.0) was had.1) in
            (now.0, subst (AnyDiedWith x now.0) (sym is) now.1)
        | within p f ↦ clash (any_dead_below (suc x) ks) least.some (new_none o w.old w.new w.here p l ks f (suc x))
      ]

  alone_numbered : LocalLaws o → (from t u : Tree S) (es : List Event) (e : Event) → IsSoundTree o t → Known from es t → (w : EventParts o e t u) → (q : List ℕ) (l : S) (ks : Nodes S) (x : ℕ) → at q u.root ≡ Some (Forked l ks) → o.base l ≤ x → x < o.handlers l → IsLeast x ks → AnyNumbered x ks
  alone_numbered law from t u es e s known w q l ks x g low high least =
      elim (stood_alone o law w.place q t.root w.old w.new l ks x s.below w.there w.here (ap (λ z. at q z.root) w.is ∙ g) low high least) [
        | inl y ↦ stood_numbered law from t u es e s known w q l ks x g low high least y
        | inr y ↦ y
      ]

  alone_known : LocalLaws o → (from t u : Tree S) (es : List Event) (e : Event) → IsAlone e → IsSoundTree o t → run (after o) es from ≡ Some t → Known from es t → after o e t ≡ Some u → Known from (es ++ e ∷ []) u
  alone_known law from t u es e d s r known h =
      let w = split_event o e t u d h in
      record { threw = λ q l ks x v. alone_threw from t u es e s r known w q l ks x v; numbered = λ q l ks x. alone_numbered law from t u es e s known w q l ks x }

  -- ---- a poison and a rendezvous: the same are dead with a number

  alike_known : (from t u : Tree S) (es : List Event) (e : Event) → ((p : Path) → e ≡ Close p → ⊥) → Known from es t → ((q : List ℕ) (l : S) (ks : Nodes S) → at q u.root ≡ Some (Forked l ks) → Alike o (at q t.root) l ks)
      → ((q : List ℕ) (l : S) (ks : Nodes S) (x : ℕ) → at q u.root ≡ Some (Forked l ks) → o.base l ≤ x → x < o.handlers l → IsLeast x ks → Stood t.root q l x) → Known from (es ++ e ∷ []) u
  alike_known from t u es e n known alike stood = record {
    threw = λ q l ks x v g one d. let y = alike q l ks g in threw_before o from es e (o.path l) l x v (known.threw q l y.children x v y.there one (y.back x v d)) (n (o.path l));
    numbered = λ q l ks x g low high least.
        let y = alike q l ks g in
        let z = stood q l ks x g low high least in
        let is : z.children ≡ y.children = (same_fork l l z.children y.children (sym z.there ∙ y.there)).1 in
        let had = known.numbered q l z.children x z.there low high z.least in
        (had.0, y.forth x had.0 (subst (AnyDiedWith x had.0) is had.1));
  }

  event_known : LocalLaws o → (from t u : Tree S) (es : List Event) (e : Event) → IsSoundTree o t → run (after o) es from ≡ Some t → Known from es t → after o e t ≡ Some u → Known from (es ++ e ∷ []) u
  event_known law from t u es (Own p) s r known h = alone_known law from t u es (Own p) (λ z. absurd cc) s r known h
  event_known law from t u es (Close p) s r known h = alone_known law from t u es (Close p) (λ z. absurd cc) s r known h
  event_known law from t u es (End p) s r known h = alone_known law from t u es (End p) (λ z. absurd cc) s r known h
  event_known law from t u es (Poison p c) s r known h =
      let w = nodes_changed_some t u (poisons o p c t.root) h in
      let v = chosen (has_path o p (led_to o t.root p)) (poison_route o c t.root (route (o.path (state t.root)) p)) w.0 w.1 in
      alike_known from t u es (Poison p c) (λ a z. absurd cc) known
      (λ q l ks g. route_alike o c (route (o.path (state t.root)) p) q t.root w.0 l ks v.1 (ap (λ z. at q z.root) w.2 ∙ g))
      (λ q l ks x g low high least. stood_route o law c (route (o.path (state t.root)) p) q t.root w.0 l ks x s.below v.1 (ap (λ z. at q z.root) w.2 ∙ g) low high least)
  event_known law from t u es (Meet c) s r known h =
      let v = value_of o c (source o c t.root) in
      let w = cond_some (meets o c t.root) (met o c v t) u h in
      alike_known from t u es (Meet c) (λ a z. absurd cc) known
      (λ q l ks g. meeting_alike o c v q t.root l ks (ap (λ z. at q z.root) w.1 ∙ g))
      (λ q l ks x g low high least. stood_meeting o c v q t.root l ks x (ap (λ z. at q z.root) w.1 ∙ g) least)

  run_known : LocalLaws o → (from t u : Tree S) (before es : List Event) → IsSoundTree o t → run (after o) before from ≡ Some t → Known from before t → run (after o) es t ≡ Some u → Known from (before ++ es) u
  run_known law from t u before [] s r known h =
      subst (Known from (before ++ [])) (some_same t u h) (subst (λ z. Known from z t) (sym (append-nil before)) known)
  run_known law from t u before (e ∷ es) s r known h =
      let w = went_on (run (after o) es) (after o e t) u h in
      let now = run_on (after o) before (e ∷ []) from t w.0 r (run_one (after o) e t w.0 w.1) in
      subst (λ z. Known from z u) (append_assoc before (e ∷ []) es)
      (run_known law from w.0 u (before ++ e ∷ []) es ((events_keep_sound o law).kept t s e w.0 w.1) now (event_known law from t w.0 before e s r known w.1) w.2)

  -- the label of the prevailing death of children is in force at the fork
  some_in_force : (l : S) (f j : ℕ) (ks : Nodes S) (x : Death) → SoundChildren o l f j ks → prevailing_death ks ≡ Some x → any_dead_below (o.handlers l) ks ≡ true
  some_in_force l f j no_node x s e = none_some x e
  some_in_force l f j (node_and (Live k) ks) x s e = some_in_force l f (j + 1) ks x s.2 e
  some_in_force l f j (node_and (Forked k js) ks) x s e = or_right (any_dead_below (o.handlers l) js) (any_dead_below (o.handlers l) ks) (some_in_force l f (j + 1) ks x s.2 e)
  some_in_force l f j (node_and (Ended k) ks) x s e = some_in_force l f (j + 1) ks x s.2 e
  some_in_force l f j (node_and (Dead k y) ks) x s e =
      or_left (ltb y.label (o.handlers l)) (any_dead_below (o.handlers l) ks) (lt-ltb y.label (o.handlers l) (below_same y.label (o.base k) (o.handlers l) s.1.below_base s.0.base))

  -- a fork closes so that its process catches the label
  module _ (law : LocalLaws o) (from t : Tree S) (es : List Event) (e : Event) (p : Path) (x : ℕ) (v : ℤ) (s : IsSoundTree o t) (known : Known from es t) (w : ClosesWith o t e p x v)
      (low : o.base (o.join w.parent (states w.children) false) ≤ x) where
    there : (q : List ℕ) × (at q t.root ≡ Some (Forked w.parent w.children))
    there = led_at t.root (Forked w.parent w.children) (route (o.path (state t.root)) p) w.in_tree.there

    sound : SoundBelow o (Forked w.parent w.children)
    sound = sound_at o there.0 t.root (Forked w.parent w.children) s.below there.1

    own : o.base w.parent ≤ x
    own = same_base (o.base w.parent) (o.base (o.join w.parent (states w.children) false)) x (joined_base o law w.parent w.children sound) low

    high : x < o.handlers w.parent
    high = subst (λ z. z < o.handlers w.parent) w.labelled
        (ltb-true w.death.label (o.handlers w.parent) (sym (done_some (o.handlers w.parent) w.death w.children w.done w.prevails) ∙ some_in_force w.parent sound.number 0 w.children w.death sound.children w.prevails))

    least : IsLeast x w.children
    least = subst (λ z. IsLeast z w.children) w.labelled (done_least w.death w.children w.done w.prevails)

    close_one : 1 ≤ x
    close_one = no_less_than x (o.base w.parent) 1 (law.base_least w.parent sound.sound) own

    -- so the death has a number, and that is what it gives
    close_given : w.death.given ≡ Some v
    close_given =
        let had = known.numbered there.0 w.parent w.children x there.1 own high least in
        let given = prevailing_numbered w.children x had.0 w.death w.done had.1 w.prevails w.labelled in
        given.1 ∙ ap Some (sym (ap handed given.1) ∙ w.hands)

    close_threw : ThrewBelow o from es p w.parent x v
    close_threw =
        let dead : AnyDiedWith x v w.children = subst (λ z. AnyDiedWith z v w.children) w.labelled (prevailing_gives w.children w.death v w.prevails close_given) in
        subst (λ z. ThrewBelow o from es z w.parent x v) w.in_tree.is_its (known.threw there.0 w.parent w.children x v there.1 close_one dead)

  throw_caught : LocalLaws o → (t : Tree S) (e : Event) (p : Path) (x : ℕ) (v : ℤ) → IsSoundTree o t → (w : Throws o t e p x v) → o.base w.thrower ≤ x → 1 ≤ x
  throw_caught law t e p x v s w low =
      let place = led_at t.root (Live w.thrower) (route (o.path (state t.root)) p) w.in_tree.there in
      no_less_than x (o.base w.thrower) 1 (law.base_least w.thrower (sound_at o place.0 t.root (Live w.thrower) s.below place.1)) low

  caught : LocalLaws o → (from t : Tree S) (es : List Event) (e : Event) (p : Path) (x : ℕ) (v : ℤ) → IsSoundTree o t → Known from es t → Catches o t e p x v → (1 ≤ x) × (Throws o t e p x v ⊎ ((w : ClosesWith o t e p x v) × ThrewBelow o from es p w.parent x v))
  caught law from t es e p x v s known (by_throw w low) = (throw_caught law t e p x v s w low, inl w)
  caught law from t es e p x v s known (by_close w low) = (close_one law from t es e p x v s known w low, inr (w, close_threw law from t es e p x v s known w low))

  pub thrown_where_caught : LocalLaws o → ThrownWhereCaught o
  thrown_where_caught law l from t u es e p x v live s r h c =
      let known = run_known law from from t [] es s refl (start_known l from live) r in
      caught law from t es e p x v (runs_stay_sound o law from t es s r) known c

  pub catches_have_numbers : LocalLaws o → CatchesHaveNumbers o
  catches_have_numbers law l from t es e p x v live s r w low =
      let known = run_known law from from t [] es s refl (start_known l from live) r in
      close_given law from t es e p x v (runs_stay_sound o law from t es s r) known w low
