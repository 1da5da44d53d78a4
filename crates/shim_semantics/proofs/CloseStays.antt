-- The close of a fork keeps a tree sound, be it that it throws.
use Rattle.std.proofs.Common.{◌≡◌, ◌<◌, ◌≤◌, ℕ, ◌+◌, Bool, true, false, Option, Some, None, ◌∷◌, inl, inr, ap, refl, sym, ◌∙◌, arith, min}
use Rattle.shim_local.specs.Process.{Ops}
use Rattle.shim_local.specs.Laws.{LocalLaws, AllOf, AnyOf, Moved, by_join, how_many}
use Rattle.shim_semantics.specs.Nodes.{Nodes, Live, Forked, Ended, Dead, no_node, node_and, states, everyone_of, prevailing_death, prevailing, Death, outermost}
use Rattle.shim_semantics.specs.Acts.{closed}
use Rattle.shim_semantics.specs.Places.{SoundBelow, SoundChildren}
use Rattle.shim_semantics.specs.Sound.{carriers, holders}
use Rattle.shim_semantics.proofs.HowMany.{no_less_than, counts, any_counts, rest_counts, states_count, at_most}
use Rattle.shim_semantics.proofs.Follows.{Stays, KeepsOwn, follows_moved, stays_keeps_own, keeps_own_after}
use Rattle.shim_semantics.proofs.Replaced.{states_sound}
use Rattle.shim_semantics.proofs.ThrowStays.{thrown_keeps}
use Rattle.shim_base.proofs.Facts.{some_same, none_some}

is_below : (x y h b : ℕ) → y ≡ x → y < b → b ≡ h → x < h
is_below x y h b e f g = omega arith

least_below : (x y z h : ℕ) → min y z ≡ x → z < h → x < h
least_below x y z h e f = omega arith

same_bound : (x h k : ℕ) → x < h → k ≡ h → x < k
same_bound x h k e f = omega arith

module _ {S : Type 0} (o : Ops S) where
  -- the label of the prevailing death of children has its place at their parent
  pub label_below : (l : S) (f j : ℕ) (ks : Nodes S) (x : Death) → SoundChildren o l f j ks → prevailing_death ks ≡ Some x → x.label < o.handlers l
  label_below l f j no_node x s e = none_some x e
  label_below l f j (node_and (Live k) ks) x s e = label_below l f (j + 1) ks x s.2 e
  label_below l f j (node_and (Forked k js) ks) x s e = label_below l f (j + 1) ks x s.2 e
  label_below l f j (node_and (Ended k) ks) x s e = label_below l f (j + 1) ks x s.2 e
  label_below l f j (node_and (Dead k y) ks) x s e = with_rest (prevailing_death ks) (λ z h. label_below l f (j + 1) ks z s.2 h) e
    where
      with_rest : (r : Option Death) → ((z : Death) → r ≡ Some z → z.label < o.handlers l) → prevailing y r ≡ Some x → x.label < o.handlers l
      with_rest None h e = is_below x.label y.label (o.handlers l) (o.base k) (ap (λ d. d.label) (some_same y x e)) s.1.below_base s.0.base
      with_rest (Some z) h e = least_below x.label y.label z.label (o.handlers l) (ap (λ d. d.label) (some_same (outermost y z) x e)) (h z refl)

  some_below : (f : S → Bool) (l : S) (ks : Nodes S) → AnyOf (λ k. f k ≡ true) (states ks) → 1 ≤ how_many f (l ∷ everyone_of ks)
  some_below f l ks h =
      no_less_than (how_many f (l ∷ everyone_of ks)) (how_many f (everyone_of ks)) 1
      (no_less_than (how_many f (everyone_of ks)) (how_many f (states ks)) 1 (any_counts f (states ks) h) (states_count f ks))
      (rest_counts f l (everyone_of ks))

  join_stays : LocalLaws o → (l : S) (ks : Nodes S) (goes_on : Bool) → SoundBelow o (Forked l ks) → Stays o (Forked l ks) (Live (o.join l (states ks) goes_on))
  join_stays law l ks goes_on s =
      let all : AllOf o.sound (states ks) = states_sound o l s.number 0 ks s.children in
      let j : S = o.join l (states ks) goes_on in
      let moved : Moved o l (o.join l (states ks) goes_on) = by_join (states ks) goes_on all s.born refl in record {
        below = law.moved_sound l j s.sound moved;
        follows = follows_moved o law l j s.sound moved (λ c y. inl (sym (law.join_shares l (states ks) goes_on c s.sound all s.born) ∙ y));
        carried = λ c. at_most (λ k. o.carries k c) j (carriers o c (Forked l ks)) (λ y. elim (law.join_carries l (states ks) goes_on c s.sound all s.born y) [
          | inl z ↦ counts (λ k. o.carries k c) l (everyone_of ks) z
          | inr z ↦ some_below (λ k. o.carries k c) l ks z
        ]);
        no_more_holders = at_most o.holds_output j (holders o (Forked l ks)) (λ y. elim (law.join_holds l (states ks) goes_on s.sound all s.born y) [
          | inl z ↦ counts o.holds_output l (everyone_of ks) z
          | inr z ↦ some_below o.holds_output l ks z
        ]);
      }

  pub closed_keeps : LocalLaws o → (l : S) (ks : Nodes S) (r : Option Death) → prevailing_death ks ≡ r → SoundBelow o (Forked l ks) → KeepsOwn o (Forked l ks) (closed o l (states ks) r).node
  closed_keeps law l ks None e s = stays_keeps_own o (Forked l ks) (Live (o.join l (states ks) true)) (join_stays law l ks true s)
  closed_keeps law l ks (Some x) e s =
      let j : S = o.join l (states ks) false in
      let all : AllOf o.sound (states ks) = states_sound o l s.number 0 ks s.children in
      let joined = join_stays law l ks false s in
      let below : x.label < o.handlers (o.join l (states ks) false) = same_bound x.label (o.handlers l) (o.handlers j) (label_below l s.number 0 ks x s.children e) (law.join_handlers l (states ks) s.sound all s.born) in
      keeps_own_after o (Forked l ks) (Live j) (closed o l (states ks) (Some x)).node joined (λ c. law.join_shares l (states ks) false c s.sound all s.born) (thrown_keeps o law j x joined.below below)
