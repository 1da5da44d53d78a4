-- Where an event of one process by itself changes the least label of the dead below a fork, it is the throw of that label with a number.
use Rattle.std.proofs.Common.{◌≡◌, ◌≤◌, ◌<◌, ◌+◌, ℕ, ℤ, zero, suc, true, false, Some, List, [], ◌∷◌, ◌⊎◌, inl, inr, ltb, refl, sym, ap, subst, ◌∙◌, arith, ltb-true, ltb-false, lt-ltb}
use Rattle.shim_local.specs.Process.{Ops, AtThrow}
use Rattle.shim_local.specs.Laws.{LocalLaws}
use Rattle.shim_semantics.specs.Nodes.{Node, Nodes, Live, Forked, Ended, Dead, death_with, no_node, node_and, state}
use Rattle.shim_semantics.specs.Acts.{Acted, act_here}
use Rattle.shim_semantics.specs.Places.{at, child_at, SoundBelow, SoundChildren}
use Rattle.shim_semantics.proofs.HowMany.{clash, no_less_than}
use Rattle.shim_semantics.proofs.ReplacedNodes.{put, put_child}
use Rattle.shim_semantics.proofs.Replaced.{sound_at}
use Rattle.shim_laws_schedules.proofs.DeadBelow.{dead_below, any_dead_below, IsLeast, there_dead_in, put_dead_in, dead_put_in, at_put_in}
use Rattle.shim_laws_schedules.proofs.Forks.{same, above, within, whence}
use Rattle.shim_laws_schedules.proofs.NewDeaths.{NewDeath, no_other, by_throw, by_trap, new_death, new_none}
use Rattle.shim_laws_schedules.proofs.Numbers.{DiedWith, AnyNumbered, there_died_in}
use Rattle.shim_laws_schedules.proofs.DiedThrown.{died_thrown}
use Rattle.shim_base.proofs.Facts.{some_same, none_some, false_unless}

no_higher : (a b : ℕ) → a ≡ b → a ≤ b
no_higher a b e = omega arith

next_within : (x h b : ℕ) → x < h → h ≤ b → suc x ≤ b
next_within x h b e f = omega arith

itself_within : (x h b : ℕ) → x < h → h ≤ b → x ≤ b
itself_within x h b e f = omega arith

between : (x y : ℕ) → y < suc x → x ≤ y → y ≡ x
between x y e f = omega arith

from_one : (x b : ℕ) → 1 ≤ b → b ≤ x → 0 < x
from_one x b e f = omega arith

under_base : (y x h b : ℕ) → y ≡ x → x < h → h ≤ b → y < b
under_base y x h b e f g = omega arith

-- the process of this state stood at this fork, and this was the least label of the dead below it
pub record Stood {S : Type 0} (n : Node S) (q : List ℕ) (l : S) (x : ℕ) : Type 0 where
  pub children : Nodes S
  pub there : at q n ≡ Some (Forked l children)
  pub least : IsLeast x children

-- the process of this state stood at this fork, and one below it at a throw of the label with the number
pub record ThrowsBelow {S : Type 0} (o : Ops S) (n m : Node S) (q : List ℕ) (l : S) (x : ℕ) (v : ℤ) : Type 0 where
  pub thrower : S
  pub live : m ≡ Live thrower
  pub throws : o.stop thrower ≡ AtThrow x
  pub gives : o.number thrower ≡ Some v
  pub children : Nodes S
  pub there : at q n ≡ Some (Forked l children)
  pub branch : ℕ
  pub rest : List ℕ
  pub leads : child_at branch rest children ≡ Some m

module _ {S : Type 0} (o : Ops S) where
  mutual
    -- the base of a process is no less than that of one above it
    base_at : LocalLaws o → (q : List ℕ) (n m : Node S) → SoundBelow o n → at q n ≡ Some m → o.base (state n) ≤ o.base (state m)
    base_at law [] n m s e = no_higher (o.base (state n)) (o.base (state m)) (ap (λ z. o.base (state z)) (some_same n m e))
    base_at law (i ∷ q) (Live l) m s e = none_some m e
    base_at law (i ∷ q) (Ended l) m s e = none_some m e
    base_at law (i ∷ q) (Dead l x) m s e = none_some m e
    base_at law (i ∷ q) (Forked l ks) m s e = no_less_than (o.base (state m)) (o.handlers l) (o.base l) (law.base_most l s.sound) (base_below law l s.number 0 ks i q m s.children e)

    -- nor than the handlers of one at a fork above it
    pub base_below : LocalLaws o → (l : S) (f j : ℕ) (ks : Nodes S) (i : ℕ) (q : List ℕ) (m : Node S) → SoundChildren o l f j ks → child_at i q ks ≡ Some m → o.handlers l ≤ o.base (state m)
    base_below law l f j no_node i q m s e = none_some m e
    base_below law l f j (node_and k ks) zero q m s e =
        no_less_than (o.base (state m)) (o.base (state k)) (o.handlers l) (no_higher (o.handlers l) (o.base (state k)) (sym s.0.base)) (base_at law q k m s.1 e)
    base_below law l f j (node_and k ks) (suc i) q m s e = base_below law l f (j + 1) ks i q m s.2 e

  -- a fork above what was replaced
  stood_above : LocalLaws o → (n m a : Node S) (q : List ℕ) (l : S) (js : Nodes S) (i : ℕ) (r : List ℕ) (x : ℕ) → SoundBelow o n → at q n ≡ Some (Forked l js) → child_at i r js ≡ Some m
      → o.base l ≤ x → x < o.handlers l → IsLeast x (put_child i r a js) → NewDeath o m a → Stood n q l x ⊎ AnyNumbered x (put_child i r a js)
  stood_above law n m a q l js i r x s e f low high least (no_other alike) =
      let sound = sound_at o q n (Forked l js) s e in
      let reach = base_below law l sound.number 0 js i r m sound.children f in
      let was : any_dead_below (suc x) js ≡ true = elim (put_dead_in (suc x) i r js a least.some) [
        | inl y ↦ y
        | inr y ↦ there_dead_in (suc x) i r js m f (sym (alike (suc x) (next_within x (o.handlers l) (o.base (state m)) high reach)) ∙ y)
      ] in
      let not_less : any_dead_below x js ≡ false = false_unless (any_dead_below x js) (λ y. clash (any_dead_below x (put_child i r a js))
      (dead_put_in x i r js m a f (λ d. alike x (itself_within x (o.handlers l) (o.base (state m)) high reach) ∙ d) y) least.none) in
      inl (record { children = js; there = e; least = record { some = was; none = not_less } })
  stood_above law n m a q l js i r x s e f low high least (by_throw k y v live throws gives dies deaths) =
      let sound = sound_at o q n (Forked l js) s e in
      let reach : o.handlers l ≤ o.base k = no_less_than (o.base k) (o.base (state m)) (o.handlers l) (base_below law l sound.number 0 js i r m sound.children f)
      (no_higher (o.base (state m)) (o.base k) (ap (λ z. o.base (state z)) live)) in
      let nobody : (t : ℕ) → dead_below t m ≡ false = λ t. ap (dead_below t) live in
      let not_less : any_dead_below x js ≡ false = false_unless (any_dead_below x js) (λ z. clash (any_dead_below x (put_child i r a js))
      (dead_put_in x i r js m a f (λ d. clash (dead_below x m) d (nobody x)) z) least.none) in
      let no_lower : ltb y x ≡ false = false_unless (ltb y x) (λ z. clash (any_dead_below x (put_child i r a js))
      (there_dead_in x i r (put_child i r a js) a (at_put_in i r js m a f) (deaths x (itself_within x (o.handlers l) (o.base k) high reach) ∙ z)) least.none) in
      elim (put_dead_in (suc x) i r js a least.some) [
        | inl z ↦ inl (record { children = js; there = e; least = record { some = z; none = not_less } })
        | inr z ↦
            let below : y < suc x = ltb-true y (suc x) (sym (deaths (suc x) (next_within x (o.handlers l) (o.base k) high reach)) ∙ z) in
            let is : y ≡ x = between x y below (ltb-false y x no_lower) in
            inr (v, there_died_in x v i r (put_child i r a js) a (at_put_in i r js m a f) (subst (DiedWith x v) (sym dies) (died_thrown o k (death_with y v) x v (under_base y x (o.handlers l) (o.base k) is high reach) is refl)))
      ]
  stood_above law n m a q l js i r x s e f low high least (by_trap deaths) =
      let sound = sound_at o q n (Forked l js) s e in
      clash (any_dead_below x (put_child i r a js))
      (there_dead_in x i r (put_child i r a js) a (at_put_in i r js m a f) (deaths x ∙ lt-ltb 0 x (from_one x (o.base l) (law.base_least l sound.sound) low))) least.none

  pub stood_alone : LocalLaws o → (p q : List ℕ) (n m : Node S) (a : Acted S) (l : S) (ks : Nodes S) (x : ℕ) → SoundBelow o n → at p n ≡ Some m → act_here o m ≡ Some a → at q (put p a.node n) ≡ Some (Forked l ks)
      → o.base l ≤ x → x < o.handlers l → IsLeast x ks → Stood n q l x ⊎ AnyNumbered x ks
  stood_alone law p q n m a l ks x s e h g low high least = elim (whence p q n m a.node l ks e g) [
    | same f ↦ inl (record { children = ks; there = f; least = least })
    | above js i r f w is ↦ subst (λ z. Stood n q l x ⊎ AnyNumbered x z) (sym is) (stood_above law n m a.node q l js i r x s f w low high (subst (IsLeast x) is least) (new_death o law m a (sound_at o p n m s e) h))
    | within r f ↦ clash (any_dead_below (suc x) ks) least.some (new_none o m a h r l ks f (suc x))
  ]
