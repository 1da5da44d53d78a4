-- Who is dead of which label once a process did something by itself.
use Rattle.std.proofs.Common.{◌≡◌, ◌≤◌, ℕ, ℤ, pos, zero, suc, true, false, Option, Some, None, List, [], ◌∷◌, cond, ltb, refl, sym, ap, subst, ◌∙◌, inl, inr, le-ltb, ltb-false}
use Rattle.shim_local.specs.Process.{Ops, ForkedView, Parted, Trapped, StopView, AtQuiet, AtNext, AtPut, AtFork, AtFinish, AtThrow, AtTrap}
use Rattle.shim_local.specs.Laws.{LocalLaws, Moved, by_join}
use Rattle.shim_semantics.specs.Nodes.{handed, Node, Nodes, Live, Forked, Ended, Dead, death_with, Death, state, states, all_live, all_done, prevailing_death}
use Rattle.shim_semantics.specs.Acts.{Acted, nothing, catch_logged, thrown, throwing, closed, parted, act_live, act_here}
use Rattle.shim_semantics.specs.Places.{at, child_at, SoundBelow}
use Rattle.shim_semantics.proofs.HowMany.{no_less_than}
use Rattle.shim_semantics.proofs.Replaced.{states_sound}
use Rattle.shim_laws_schedules.proofs.Elsewhere.{closing}
use Rattle.shim_laws_schedules.proofs.Dooms.{same_bound}
use Rattle.shim_laws_schedules.proofs.DeadBelow.{dead_below, any_dead_below, none_dead, done_none, done_some}
use Rattle.shim_base.proofs.Facts.{some_same, none_some, true_or_false}

-- The node is replaced by another. As to labels below the base of its process there is no other death, or the process threw a label with a number, or was trapped.
pub data NewDeath {S : Type 0} (o : Ops S) (m a : Node S) : Type 0 where
  no_other : ((t : ℕ) → t ≤ o.base (state m) → dead_below t a ≡ dead_below t m) → NewDeath o m a
  by_throw : (k : S) (y : ℕ) (v : ℤ) → m ≡ Live k → o.stop k ≡ AtThrow y → o.number k ≡ Some v → a ≡ (thrown o k (death_with y v)).node → ((t : ℕ) → t ≤ o.base k → dead_below t a ≡ ltb y t) → NewDeath o m a
  by_trap : ((t : ℕ) → dead_below t a ≡ ltb 0 t) → NewDeath o m a

module _ {S : Type 0} (o : Ops S) where
  -- a throw leaves a death where the label is below the base, and no fork
  thrown_dead : (l : S) (x : Death) (t : ℕ) → t ≤ o.base l → dead_below t (thrown o l x).node ≡ ltb x.label t
  thrown_dead l x t h =
      let dies : Acted S = record { node = Dead l x; effects = nothing } in
      let goes_on : Acted S = record { node = Live (o.unwind l x.label (handed x.given)); effects = catch_logged (o.handler l x.label) } in
      elim (true_or_false (ltb x.label (o.base l))) [
        | inl y ↦ ap (λ b. dead_below t (cond b dies goes_on).node) y
        | inr n ↦ ap (λ b. dead_below t (cond b dies goes_on).node) n ∙ sym (le-ltb x.label t (no_less_than x.label (o.base l) t h (ltb-false x.label (o.base l) n)))
      ]

  parted_dead : (r : ForkedView S) (t : ℕ) → dead_below t (parted r) ≡ false
  parted_dead (Parted l ks) t = none_dead t ks
  parted_dead (Trapped l) t = refl

  throwing_new_death : (l : S) (x : ℕ) (r : Option ℤ) → o.stop l ≡ AtThrow x → o.number l ≡ r → NewDeath o (Live l) (throwing o l x r).node
  throwing_new_death l x None at is = no_other (λ t h. refl)
  throwing_new_death l x (Some v) at is = by_throw l x v refl at is refl (λ t h. thrown_dead l (death_with x v) t h)

  live_new_death : (l : S) (v : StopView) (a : Acted S) → o.stop l ≡ v → act_live o l v ≡ Some a → NewDeath o (Live l) a.node
  live_new_death l AtQuiet a at e = subst (λ z. NewDeath o (Live l) z.node) (some_same _ a e) (no_other (λ t h. refl))
  live_new_death l AtPut a at e = subst (λ z. NewDeath o (Live l) z.node) (some_same _ a e) (no_other (λ t h. refl))
  live_new_death l AtFork a at e = subst (λ z. NewDeath o (Live l) z.node) (some_same _ a e) (no_other (λ t h. parted_dead (o.fork l) t))
  live_new_death l AtFinish a at e = subst (λ z. NewDeath o (Live l) z.node) (some_same _ a e) (no_other (λ t h. refl))
  live_new_death l (AtNext c) a at e = none_some a e
  live_new_death l (AtThrow x) a at e = subst (λ z. NewDeath o (Live l) z.node) (some_same _ a e) (throwing_new_death l x (o.number l) at refl)
  live_new_death l (AtTrap kind line) a at e = subst (λ z. NewDeath o (Live l) z.node) (some_same _ a e) (by_trap (λ t. refl))

  -- at the close of a fork the prevailing death stays, unless it is caught
  pub joined_base : LocalLaws o → (l : S) (ks : Nodes S) → SoundBelow o (Forked l ks) → o.base (o.join l (states ks) false) ≡ o.base l
  joined_base law l ks s =
      let moved : Moved o l (o.join l (states ks) false) = by_join (states ks) false (states_sound o l s.number 0 ks s.children) s.born refl in
      law.moved_base l (o.join l (states ks) false) s.sound moved

  closed_dead : LocalLaws o → (l : S) (ks : Nodes S) (r : Option Death) (t : ℕ) → SoundBelow o (Forked l ks) → all_done ks ≡ true → prevailing_death ks ≡ r → t ≤ o.base l
      → dead_below t (closed o l (states ks) r).node ≡ any_dead_below t ks
  closed_dead law l ks None t s d e h = sym (done_none t ks d e)
  closed_dead law l ks (Some x) t s d e h =
      thrown_dead (o.join l (states ks) false) x t (same_bound t (o.base l) (o.base (o.join l (states ks) false)) h (joined_base law l ks s)) ∙ sym (done_some t x ks d e)

  pub new_death : LocalLaws o → (m : Node S) (a : Acted S) → SoundBelow o m → act_here o m ≡ Some a → NewDeath o m a.node
  new_death law (Live l) a s e = live_new_death l (o.stop l) a refl e
  new_death law (Ended l) a s e = none_some a e
  new_death law (Dead l x) a s e = none_some a e
  new_death law (Forked l ks) a s e =
      let w = closing o l ks a e in
      subst (λ z. NewDeath o (Forked l ks) z.node) w.1 (no_other (λ t h. closed_dead law l ks (prevailing_death ks) t s w.0 refl h))

  -- a fork in what it leaves has children of which none is dead
  none_in_live : (i : ℕ) (r : List ℕ) (ls : List S) (l : S) (ks : Nodes S) → child_at i r (all_live ls) ≡ Some (Forked l ks) → ⊥
  none_in_live i r [] l ks e = none_some (Forked l ks) e
  none_in_live zero [] (k ∷ ls) l ks e = absurd cc
  none_in_live zero (j ∷ r) (k ∷ ls) l ks e = none_some (Forked l ks) e
  none_in_live (suc i) r (k ∷ ls) l ks e = none_in_live i r ls l ks e

  -- only a step at which it forks leaves one
  abbrev pub NoFork : Node S → Type 0
  NoFork n = (r : List ℕ) (l : S) (ks : Nodes S) → at r n ≡ Some (Forked l ks) → ⊥

  pub live_no_fork : (k : S) → NoFork (Live k)
  live_no_fork k [] l ks e = absurd cc
  live_no_fork k (i ∷ r) l ks e = none_some (Forked l ks) e

  ended_no_fork : (k : S) → NoFork (Ended k)
  ended_no_fork k [] l ks e = absurd cc
  ended_no_fork k (i ∷ r) l ks e = none_some (Forked l ks) e

  dead_no_fork : (k : S) (x : Death) → NoFork (Dead k x)
  dead_no_fork k x [] l ks e = absurd cc
  dead_no_fork k x (i ∷ r) l ks e = none_some (Forked l ks) e

  thrown_no_fork : (k : S) (x : Death) → NoFork (thrown o k x).node
  thrown_no_fork k x =
      let dies : Acted S = record { node = Dead k x; effects = nothing } in
      let goes_on : Acted S = record { node = Live (o.unwind k x.label (handed x.given)); effects = catch_logged (o.handler k x.label) } in
      elim (ltb x.label (o.base k)) as (λ b. NoFork (cond b dies goes_on).node) [ true ↦ dead_no_fork k x | false ↦ live_no_fork (o.unwind k x.label (handed x.given)) ]

  pub closed_no_fork : (k : S) (js : List S) (r : Option Death) → NoFork (closed o k js r).node
  closed_no_fork k js None = live_no_fork (o.join k js true)
  closed_no_fork k js (Some x) = thrown_no_fork (o.join k js false) x

  abbrev NoneDead : Node S → Type 0
  NoneDead n = (r : List ℕ) (l : S) (ks : Nodes S) → at r n ≡ Some (Forked l ks) → (t : ℕ) → any_dead_below t ks ≡ false

  no_fork_none : (n : Node S) → NoFork n → NoneDead n
  no_fork_none n h r l ks e t = absurd (h r l ks e)

  forked_none : (m : S) (ls : List S) → NoneDead (Forked m (all_live ls))
  forked_none m ls [] l ks e t =
      let w = some_same (Forked m (all_live ls)) (Forked l ks) e in
      let same : all_live ls ≡ ks = cc in
      ap (any_dead_below t) (sym same) ∙ none_dead t ls
  forked_none m ls (i ∷ r) l ks e t = absurd (none_in_live i r ls l ks e)

  parted_none : (r : ForkedView S) → NoneDead (parted r)
  parted_none (Parted m ls) = forked_none m ls
  parted_none (Trapped m) = no_fork_none (Live m) (live_no_fork m)

  throwing_no_fork : (l : S) (x : ℕ) (r : Option ℤ) → NoFork (throwing o l x r).node
  throwing_no_fork l x None = live_no_fork (o.thrown l)
  throwing_no_fork l x (Some v) = thrown_no_fork l (death_with x v)

  live_new : (l : S) (v : StopView) (a : Acted S) → act_live o l v ≡ Some a → NoneDead a.node
  live_new l AtQuiet a e = subst (λ z. NoneDead z.node) (some_same _ a e) (no_fork_none _ (live_no_fork (o.quiet l)))
  live_new l AtPut a e = subst (λ z. NoneDead z.node) (some_same _ a e) (no_fork_none _ (live_no_fork (o.put l)))
  live_new l AtFork a e = subst (λ z. NoneDead z.node) (some_same _ a e) (parted_none (o.fork l))
  live_new l AtFinish a e = subst (λ z. NoneDead z.node) (some_same _ a e) (no_fork_none _ (ended_no_fork l))
  live_new l (AtNext c) a e = none_some a e
  live_new l (AtThrow x) a e = subst (λ z. NoneDead z.node) (some_same _ a e) (no_fork_none _ (throwing_no_fork l x (o.number l)))
  live_new l (AtTrap kind line) a e = subst (λ z. NoneDead z.node) (some_same _ a e) (no_fork_none _ (dead_no_fork l (death_with 0 (pos 0))))

  pub new_none : (m : Node S) (a : Acted S) → act_here o m ≡ Some a → NoneDead a.node
  new_none (Live l) a e = live_new l (o.stop l) a e
  new_none (Ended l) a e = none_some a e
  new_none (Dead l x) a e = none_some a e
  new_none (Forked l ks) a e =
      let w = closing o l ks a e in
      subst (λ z. NoneDead z.node) w.1 (no_fork_none _ (closed_no_fork l (states ks) (prevailing_death ks)))
