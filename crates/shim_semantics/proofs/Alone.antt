-- An event of a process by itself: the process's node lists it just where it acts.
use Rattle.std.proofs.Common.{◌≡◌, Bool, true, false, Some, None, [], ◌∷◌, inl, inr, cond, map, filter, refl, sym, ap, subst, ◌∙◌}
use Rattle.shim_base.specs.Paths.{Path, same_path}
use Rattle.shim_local.specs.Process.{Ops, StopView, AtQuiet, AtNext, AtPut, AtFork, AtFinish, AtThrow, AtTrap}
use Rattle.shim_semantics.specs.Nodes.{Node, Nodes, Live, Forked, Ended, Dead, states, all_done, prevailing_death}
use Rattle.shim_semantics.specs.Acts.{Acted, closed, act_here, act_live}
use Rattle.shim_base.specs.Lists.{IsAmong}
use Rattle.shim_semantics.specs.Trees.{Event, Own, Meet, Poison, Close, End, OwnAction, Steps, Ends, Closes, Nothing, own_action_at, same_own_action, is_its}
use Rattle.shim_semantics.specs.Walks.{all_waited, in_order, own_events, meets_here, here}
use Rattle.shim_semantics.proofs.Members.{among_left, among_either, among_mapped}
use Rattle.shim_base.proofs.Facts.{none_some, first_holds, second_holds, both_hold, chosen}
use Rattle.shim_base.proofs.SamePaths.{same_path_refl, same_path_is}

abbrev pub does : Event → OwnAction
does (Own p) = Steps
does (Meet c) = Nothing
does (Poison p c) = Nothing
does (Close p) = Closes
does (End p) = Ends

abbrev pub doer : Event → Path
doer (Own p) = p
doer (Meet c) = c.home
doer (Poison p c) = p
doer (Close p) = p
doer (End p) = p

-- the event is one of a process by itself
abbrev pub IsAlone : Event → Type 0
IsAlone e = does e ≡ Nothing → ⊥

live_does : (e : Event) (p : Path) (s : StopView) → IsAlone e → IsAmong e (own_events p s) → (p ≡ doer e) × (same_own_action (does e) (own_action_at s) ≡ true)
live_does e p AtQuiet d (inl h) = (sym (ap doer h), ap (λ z. same_own_action (does z) Steps) h)
live_does e p AtQuiet d (inr h) = absurd h
live_does e p AtPut d (inl h) = (sym (ap doer h), ap (λ z. same_own_action (does z) Steps) h)
live_does e p AtPut d (inr h) = absurd h
live_does e p AtFork d (inl h) = (sym (ap doer h), ap (λ z. same_own_action (does z) Steps) h)
live_does e p AtFork d (inr h) = absurd h
live_does e p AtFinish d (inl h) = (sym (ap doer h), ap (λ z. same_own_action (does z) Ends) h)
live_does e p AtFinish d (inr h) = absurd h
live_does e p (AtThrow label) d (inl h) = (sym (ap doer h), ap (λ z. same_own_action (does z) Steps) h)
live_does e p (AtThrow label) d (inr h) = absurd h
live_does e p (AtTrap kind line) d (inl h) = (sym (ap doer h), ap (λ z. same_own_action (does z) Steps) h)
live_does e p (AtTrap kind line) d (inr h) = absurd h
live_does e p (AtNext c) d h = no_meet (same_path c.channel.home p) h
  where
    no_meet : {A : Type 0} (b : Bool) → IsAmong e (cond b (Meet c.channel ∷ []) []) → A
    no_meet true (inl i) = absurd (d (ap does i))
    no_meet true (inr i) = absurd i
    no_meet false i = absurd i

does_live : (e : Event) (s : StopView) → same_own_action (does e) (own_action_at s) ≡ true → IsAmong e (own_events (doer e) s)
does_live (Own p) AtQuiet e = inl refl
does_live (Own p) AtPut e = inl refl
does_live (Own p) AtFork e = inl refl
does_live (Own p) AtFinish e = absurd cc
does_live (Own p) (AtNext c) e = absurd cc
does_live (Own p) (AtThrow label) e = inl refl
does_live (Own p) (AtTrap kind line) e = inl refl
does_live (Meet c) AtQuiet e = absurd cc
does_live (Meet c) AtPut e = absurd cc
does_live (Meet c) AtFork e = absurd cc
does_live (Meet c) AtFinish e = absurd cc
does_live (Meet c) (AtNext d) e = absurd cc
does_live (Meet c) (AtThrow label) e = absurd cc
does_live (Meet c) (AtTrap kind line) e = absurd cc
does_live (Poison p c) AtQuiet e = absurd cc
does_live (Poison p c) AtPut e = absurd cc
does_live (Poison p c) AtFork e = absurd cc
does_live (Poison p c) AtFinish e = absurd cc
does_live (Poison p c) (AtNext d) e = absurd cc
does_live (Poison p c) (AtThrow label) e = absurd cc
does_live (Poison p c) (AtTrap kind line) e = absurd cc
does_live (Close p) AtQuiet e = absurd cc
does_live (Close p) AtPut e = absurd cc
does_live (Close p) AtFork e = absurd cc
does_live (Close p) AtFinish e = absurd cc
does_live (Close p) (AtNext c) e = absurd cc
does_live (Close p) (AtThrow label) e = absurd cc
does_live (Close p) (AtTrap kind line) e = absurd cc
does_live (End p) AtQuiet e = absurd cc
does_live (End p) AtPut e = absurd cc
does_live (End p) AtFork e = absurd cc
does_live (End p) AtFinish e = inl refl
does_live (End p) (AtNext c) e = absurd cc
does_live (End p) (AtThrow label) e = absurd cc
does_live (End p) (AtTrap kind line) e = absurd cc

-- the close that a fork lists
pub among_close : (e : Event) (q : Path) (b : Bool) → IsAmong e (cond b (Close q ∷ []) []) → (b ≡ true) × (e ≡ Close q)
among_close e q true (inl h) = (refl, h)
among_close e q true (inr h) = absurd h
among_close e q false h = absurd h

close_among : (e : Event) (q : Path) (b : Bool) → b ≡ true → e ≡ Close q → IsAmong e (cond b (Close q ∷ []) [])
close_among e q true h i = inl i
close_among e q false h i = absurd cc

pub does_close : (e : Event) → same_own_action (does e) Closes ≡ true → e ≡ Close (doer e)
does_close (Own p) h = absurd cc
does_close (Meet c) h = absurd cc
does_close (Poison p c) h = absurd cc
does_close (Close p) h = refl
does_close (End p) h = absurd cc

module _ {S : Type 0} (o : Ops S) where
  live_acts : (l : S) (k : OwnAction) (s : StopView) → same_own_action k (own_action_at s) ≡ true → (a : Acted S) × (act_live o l s ≡ Some a)
  live_acts l k AtQuiet e = (_, refl)
  live_acts l k AtPut e = (_, refl)
  live_acts l k AtFork e = (_, refl)
  live_acts l k AtFinish e = (_, refl)
  live_acts l k (AtThrow label) e = (_, refl)
  live_acts l k (AtTrap kind line) e = (_, refl)
  live_acts l Steps (AtNext c) e = absurd cc
  live_acts l Ends (AtNext c) e = absurd cc
  live_acts l Closes (AtNext c) e = absurd cc
  live_acts l Nothing (AtNext c) e = absurd cc

  fork_acts : (l : S) (ks : Nodes S) → all_done ks ≡ true → (a : Acted S) × (act_here o (Forked l ks) ≡ Some a)
  fork_acts l ks e =
      let a : Acted S = closed o l (states ks) (prevailing_death ks) in
      (a, ap (λ b. cond b (Some a) None) e)

  -- what the node lists is its own, and it acts
  pub listed_acts : (e : Event) (m : Node S) → IsAlone e → IsAmong e (here o m) → (a : Acted S) × (is_its o (does e) (doer e) (Some m) ≡ true) × (act_here o m ≡ Some a)
  listed_acts e (Live l) d h =
      let w = live_does e (o.path l) (o.stop l) d h in
      let a = live_acts l (does e) (o.stop l) w.1 in
      (a.0, both_hold _ _ (ap (λ z. same_path z (doer e)) w.0 ∙ same_path_refl (doer e)) w.1, a.1)
  listed_acts e (Ended l) d h = absurd h
  listed_acts e (Dead l x) d h = absurd h
  listed_acts e (Forked l ks) d h =
      let cs = in_order (filter (meets_here o (Forked l ks)) (all_waited o ks)) in
      elim (among_either e (cond (all_done ks) (Close (o.path l) ∷ []) []) (map Meet cs) h) [
        | inl z ↦
            let w = among_close e (o.path l) (all_done ks) z in
            let a = fork_acts l ks w.0 in
            (a.0, both_hold _ _ (ap (λ y. same_path (o.path l) (doer y)) w.1 ∙ same_path_refl (o.path l)) (ap (λ y. same_own_action (does y) Closes) w.1), a.1)
        | inr z ↦ let w = among_mapped Meet e cs z in absurd (d (ap does w.1))
      ]

  -- and where its own event acts, the node lists it
  pub acts_listed : (e : Event) (m : Node S) (a : Acted S) → is_its o (does e) (doer e) (Some m) ≡ true → act_here o m ≡ Some a → IsAmong e (here o m)
  acts_listed e (Live l) a i h =
      let same = same_path_is (o.path l) (doer e) (first_holds (same_path (o.path l) (doer e)) _ i) in
      subst (λ z. IsAmong e (own_events z (o.stop l))) (sym same) (does_live e (o.stop l) (second_holds (same_path (o.path l) (doer e)) _ i))
  acts_listed e (Ended l) a i h = none_some a h
  acts_listed e (Dead l x) a i h = none_some a h
  acts_listed e (Forked l ks) a i h =
      let same = same_path_is (o.path l) (doer e) (first_holds (same_path (o.path l) (doer e)) _ i) in
      let done = chosen (all_done ks) _ a h in
      let is = does_close e (second_holds (same_path (o.path l) (doer e)) _ i) ∙ ap Close (sym same) in
      among_left e (cond (all_done ks) (Close (o.path l) ∷ []) []) (map Meet (in_order (filter (meets_here o (Forked l ks)) (all_waited o ks)))) (close_among e (o.path l) (all_done ks) done.0 is)
