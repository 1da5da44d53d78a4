-- What tied processes do by themselves leaves tied nodes, with the same effects.
use Rattle.std.proofs.Common.{◌≡◌, ◌<◌, ℕ, ℤ, true, false, List, [], ◌∷◌, Option, Some, None, ltb, ltb-false, Bool, arith, refl, ap, subst}
use Rattle.shim_local.specs.Process.{Ops, StopView, ForkedView, AtQuiet, AtNext, AtPut, AtFork, AtFinish, AtThrow, AtTrap, Parted, Trapped}
use Rattle.shim_local.specs.Laws.{LocalLaws, by_join}
use Rattle.shim_semantics.specs.Nodes.{Node, Nodes, Live, Forked, Ended, Dead, Death, death_with, handed, states, all_live, all_done, prevailing_death}
use Rattle.shim_semantics.specs.Acts.{Acted, nothing, putting, catch_logged, parted, thrown, throwing, closed, act_live, act_here}
use Rattle.shim_laws_tied.specs.Ties.{KeepsTied, AreTied, AllTied, ForksTied}
use Rattle.shim_laws_tied.specs.TiedTrees.{NodesTied, ChildrenTied}
use Rattle.shim_laws_tied.proofs.Both.{BothOrNone, both_chosen}
use Rattle.shim_laws_tied.proofs.SoundTies.{ForkTied, Tied, EachTied}
use Rattle.shim_laws_tied.proofs.NodesAlike.{states_tied, ones_sound, others_sound, done_alike, prevailing_alike}

-- tied nodes are left, with the same effects
pub record ActedTied {A B : Type 0} (R : A → B → Type 0) (a : Acted A) (b : Acted B) : Type 0 where
  pub node : NodesTied R a.node b.node
  pub effects : a.effects ≡ b.effects

in_force : (x h k : ℕ) → k ≡ h → x < h → x < k
in_force x h k e f = omega arith

all_live_tied : {A B : Type 0} (R : A → B → Type 0) (ls : List A) (ms : List B) → AllTied R ls ms → ChildrenTied R (all_live ls) (all_live ms)
all_live_tied R [] [] h = tt
all_live_tied R (l ∷ ls) (m ∷ ms) h = (h.0, all_live_tied R ls ms h.1)
all_live_tied R [] (m ∷ ms) h = absurd h
all_live_tied R (l ∷ ls) [] h = absurd h

parted_tied : {A B : Type 0} (R : A → B → Type 0) (x : ForkedView A) (y : ForkedView B) → ForksTied R x y → NodesTied R (parted x) (parted y)
parted_tied R (Parted l ls) (Parted m ms) h = (h.0, all_live_tied R ls ms h.1)
parted_tied R (Trapped l) (Trapped m) h = h
parted_tied R (Parted l ls) (Trapped m) h = absurd h
parted_tied R (Trapped l) (Parted m ms) h = absurd h

module _ {A B : Type 0} (o : Ops A) (p : Ops B) (R : A → B → Type 0) (one : LocalLaws o) (other : LocalLaws p) (keeps : KeepsTied o p R) where
  thrown_tied : (l : A) (m : B) (d : Death) → AreTied o p R l m → d.label < o.handlers l → ActedTied R (thrown o l d) (thrown p m d)
  thrown_tied l m d h below = both_chosen (ActedTied R) (ltb d.label (o.base l)) (ltb d.label (p.base m))
      (record { node = Dead l d; effects = nothing }) (record { node = Live (o.unwind l d.label (handed d.given)); effects = catch_logged (o.handler l d.label) })
      (record { node = Dead m d; effects = nothing }) (record { node = Live (p.unwind m d.label (handed d.given)); effects = catch_logged (p.handler m d.label) })
      (ap (ltb d.label) (keeps.base l m h))
      (λ e. record { node = (h.2, refl); effects = refl })
      (λ e. record {
        node = keeps.unwind l m d.label (handed d.given) h (ltb-false d.label (o.base l) e) below;
        effects = ap catch_logged (keeps.handler l m d.label h (ltb-false d.label (o.base l) e) below);
      })

  -- the states after a join
  joined_tied : (l : A) (m : B) (ks : Nodes A) (js : Nodes B) (goes_on : Bool) → ForkTied o p R l m ks js → EachTied o p R ks js → AreTied o p R (o.join l (states ks) goes_on) (p.join m (states js) goes_on)
  joined_tied l m ks js goes_on h each =
      let sound = ones_sound o p R ks js each in
      let others = others_sound o p R ks js each in (
        one.moved_sound l (o.join l (states ks) goes_on) h.tied.0 (by_join (states ks) goes_on sound h.born_one refl),
        other.moved_sound m (p.join m (states js) goes_on) h.tied.1 (by_join (states js) goes_on others h.born_other refl),
        keeps.join l m (states ks) (states js) goes_on h.tied sound others (states_tied o p R ks js each) h.born_one h.born_other,
      )

  closed_tied : (l : A) (m : B) (ks : Nodes A) (js : Nodes B) (r : Option Death) → prevailing_death ks ≡ r → ForkTied o p R l m ks js → EachTied o p R ks js
      → ActedTied R (closed o l (states ks) r) (closed p m (states js) r)
  closed_tied l m ks js None e h each = record { node = (joined_tied l m ks js true h each).2; effects = refl }
  closed_tied l m ks js (Some d) e h each =
      let handlers = one.join_handlers l (states ks) h.tied.0 (ones_sound o p R ks js each) h.born_one in
      thrown_tied (o.join l (states ks) false) (p.join m (states js) false) d (joined_tied l m ks js false h each)
      (in_force d.label (o.handlers l) (o.handlers (o.join l (states ks) false)) handlers (h.below d e))

  throwing_tied : (l : A) (m : B) (label : ℕ) (r : Option ℤ) → o.stop l ≡ AtThrow label → AreTied o p R l m → ActedTied R (throwing o l label r) (throwing p m label r)
  throwing_tied l m label None at h = record { node = keeps.thrown l m label h at; effects = refl }
  throwing_tied l m label (Some v) at h = thrown_tied l m (death_with label v) h (one.throw_below l label h.0 at)

  live_tied : (l : A) (m : B) (s : StopView) → o.stop l ≡ s → AreTied o p R l m → BothOrNone (ActedTied R) (act_live o l s) (act_live p m s)
  live_tied l m AtQuiet at h = record { node = keeps.quiet l m h at; effects = refl }
  live_tied l m AtPut at h = record { node = keeps.put l m h at; effects = ap putting (keeps.byte l m h at) }
  live_tied l m AtFork at h = record { node = parted_tied R (o.fork l) (p.fork m) (keeps.fork l m h at); effects = refl }
  live_tied l m AtFinish at h = record { node = h.2; effects = refl }
  live_tied l m (AtNext c) at h = tt
  live_tied l m (AtThrow label) at h = subst (λ r. ActedTied R (throwing o l label (o.number l)) (throwing p m label r)) (keeps.number l m label h at) (throwing_tied l m label (o.number l) at h)
  live_tied l m (AtTrap kind line) at h = record { node = (h.2, refl); effects = refl }

  pub here_tied : (n : Node A) (m : Node B) → Tied o p R n m → BothOrNone (ActedTied R) (act_here o n) (act_here p m)
  here_tied (Live l) (Live m) h = subst (λ s. BothOrNone (ActedTied R) (act_live o l (o.stop l)) (act_live p m s)) (keeps.stop l m h) (live_tied l m (o.stop l) refl h)
  here_tied (Ended l) (Ended m) h = tt
  here_tied (Dead l d) (Dead m e) h = tt
  here_tied (Forked l ks) (Forked m js) h =
      both_chosen (BothOrNone (ActedTied R)) (all_done ks) (all_done js) (Some (closed o l (states ks) (prevailing_death ks))) None (Some (closed p m (states js) (prevailing_death js))) None
      (done_alike o p R ks js h.1)
      (λ e. subst (λ r. ActedTied R (closed o l (states ks) (prevailing_death ks)) (closed p m (states js) r)) (prevailing_alike o p R ks js h.1) (closed_tied l m ks js (prevailing_death ks) refl h.0 h.1))
      (λ e. tt)
  here_tied n m h = absurd h
