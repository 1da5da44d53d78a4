-- Who puts bytes holds the output, so of two processes that act one puts none.
use Rattle.std.proofs.Common.{◌≡◌, ◌≤◌, ◌⊎◌, ℕ, ℤ, Bool, true, false, Option, Some, None, List, [], ◌++◌, inl, inr, cond, refl, sym, ap, ◌∙◌, arith}
use Rattle.std.specs.Prelude.{ltb}
use Rattle.std.proofs.lemmas.List.{append-nil}
use Rattle.shim_local.specs.Process.{Ops, StopView, AtQuiet, AtNext, AtPut, AtFork, AtFinish, AtThrow, AtTrap}
use Rattle.shim_local.specs.Laws.{LocalLaws}
use Rattle.shim_semantics.specs.Nodes.{handed, Node, Live, Forked, Ended, Dead, death_with, Death, state, states, prevailing_death}
use Rattle.shim_semantics.specs.Acts.{Acted, nothing, catch_logged, thrown, throwing, closed, act_here, act_live}
use Rattle.shim_semantics.specs.Places.{at, SoundBelow}
use Rattle.shim_semantics.specs.Sound.{IsSound, holders}
use Rattle.shim_semantics.proofs.Replaced.{sound_at}
use Rattle.shim_laws_schedules.proofs.Elsewhere.{closing}
use Rattle.shim_laws_schedules.proofs.Two.{two_count}
use Rattle.shim_base.proofs.Facts.{some_same, none_some}

module _ {S : Type 0} (o : Ops S) where
  thrown_silent : (l : S) (x : Death) → (thrown o l x).effects.bytes ≡ []
  thrown_silent l x = by_test (ltb x.label (o.base l))
    where
      by_test : (b : Bool) → (cond {A = Acted S} b (record { node = Dead l x; effects = nothing }) (record { node = Live (o.unwind l x.label (handed x.given)); effects = catch_logged (o.handler l x.label) })).effects.bytes ≡ []
      by_test true = refl
      by_test false = refl

  throwing_silent : (l : S) (x : ℕ) (r : Option ℤ) → (throwing o l x r).effects.bytes ≡ []
  throwing_silent l x None = refl
  throwing_silent l x (Some v) = thrown_silent l (death_with x v)

  closed_silent : (l : S) (ks : List S) (x : Option Death) → (closed o l ks x).effects.bytes ≡ []
  closed_silent l ks None = refl
  closed_silent l ks (Some x) = thrown_silent (o.join l ks false) x

  -- what has the same effects puts the same
  silent_as : (x a : Acted S) → x.effects.bytes ≡ [] → x ≡ a → a.effects.bytes ≡ []
  silent_as x a e f = ap (λ z. z.effects.bytes) (sym f) ∙ e

  puts_live : LocalLaws o → (l : S) (v : StopView) (a : Acted S) → o.sound l → o.stop l ≡ v → act_live o l v ≡ Some a → (a.effects.bytes ≡ []) ⊎ (o.holds_output l ≡ true)
  puts_live law l AtQuiet a s at e = inl (silent_as _ a refl (some_same _ a e))
  puts_live law l AtPut a s at e = inr (law.put_holds l s at)
  puts_live law l AtFork a s at e = inl (silent_as _ a refl (some_same _ a e))
  puts_live law l AtFinish a s at e = inl (silent_as _ a refl (some_same _ a e))
  puts_live law l (AtNext c) a s at e = none_some a e
  puts_live law l (AtThrow x) a s at e = inl (silent_as (throwing o l x (o.number l)) a (throwing_silent l x (o.number l)) (some_same (throwing o l x (o.number l)) a e))
  puts_live law l (AtTrap kind line) a s at e = inl (silent_as _ a refl (some_same _ a e))

  pub puts : LocalLaws o → (m : Node S) (a : Acted S) → SoundBelow o m → act_here o m ≡ Some a → (a.effects.bytes ≡ []) ⊎ (o.holds_output (state m) ≡ true)
  puts law (Live l) a s e = puts_live law l (o.stop l) a s refl e
  puts law (Forked l ks) a s e =
      inl (silent_as (closed o l (states ks) (prevailing_death ks)) a (closed_silent l (states ks) (prevailing_death ks)) (closing o l ks a e).1)
  puts law (Ended l) a s e = none_some a e
  puts law (Dead l x) a s e = none_some a e

no_two : {A : Type 0} (n : ℕ) → n ≤ 1 → 2 ≤ n → A
no_two n e f = absurd (omega arith)

-- where one of two puts nothing, it is one which puts first
pub none_first : (out xs ys : List ℕ) → xs ≡ [] → (out ++ xs) ++ ys ≡ (out ++ ys) ++ xs
none_first out xs ys e =
    ap (λ z. (out ++ z) ++ ys) e ∙ (ap (λ z. z ++ ys) (append-nil out) ∙ (sym (append-nil (out ++ ys)) ∙ sym (ap (λ z. (out ++ ys) ++ z) e)))

module _ {S : Type 0} (o : Ops S) where
  -- of two at different places it is one which puts first
  pub bytes_swap : LocalLaws o → (p q : List ℕ) (n m k : Node S) (a b : Acted S) (out : List ℕ) → IsSound o n → (p ≡ q → ⊥) → at p n ≡ Some m → at q n ≡ Some k → act_here o m ≡ Some a → act_here o k ≡ Some b
      → (out ++ a.effects.bytes) ++ b.effects.bytes ≡ (out ++ b.effects.bytes) ++ a.effects.bytes
  bytes_swap law p q n m k a b out s d e f g h = elim (puts o law m a (sound_at o p n m s.below e) g) [
    | inl x ↦ none_first out a.effects.bytes b.effects.bytes x
    | inr x ↦ elim (puts o law k b (sound_at o q n k s.below f) h) [
      | inl y ↦ sym (none_first out b.effects.bytes a.effects.bytes y)
      | inr y ↦ no_two (holders o n) s.one_holder (two_count o.holds_output p q n m k d e f x y)
    ]
  ]
