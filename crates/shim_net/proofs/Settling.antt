-- Events other than quiet steps that happen one after another.
use Rattle.std.proofs.Common.{◌≡◌, ◌≤◌, ◌<◌, ◌+◌, ◌-◌, ◌⊎◌, inl, inr, ℕ, Bool, true, false, Option, Some, None, List, [], ◌∷◌, ◌++◌, length, refl, sym, ap, subst, ◌∙◌, arith}
use Rattle.std.specs.Prelude.{map}
use Rattle.std.proofs.lemmas.List.{map_push, append_assoc, length_push}
use Rattle.shim_base.specs.Paths.{Path, same_path}
use Rattle.shim_base.proofs.Facts.{first_holds, second_holds, both_hold}
use Rattle.shim_base.proofs.SamePaths.{same_path_refl, same_path_is}
use Rattle.shim_local.specs.Process.{Ops}
use Rattle.shim_local.specs.Quiets.{is_quiet}
use Rattle.shim_semantics.specs.Nodes.{Node, Live, Forked, Ended, Dead}
use Rattle.shim_semantics.specs.Places.{led_to}
use Rattle.shim_semantics.specs.Quiets.{StandsQuiet}
use Rattle.shim_semantics.specs.Trees.{Tree, Event, Own, Meet, Poison, Close, End, after, steps}
use Rattle.shim_semantics.proofs.Counting.{event_counts}
use Rattle.shim_semantics.proofs.HowMany.{clash}
use Rattle.shim_laws_replay.specs.Journals.{Entry, Did, is_before_quiet}
use Rattle.shim_laws_replay.proofs.Listed.{quiet_stop}
use Rattle.shim_laws_replay.specs.Grants.{IsNoQuietStep}
use Rattle.shim_net.specs.Nets.{OpenGrant, NetView, reserved_in}
use Rattle.shim_net.specs.Settling.{IsQuietStep, RestsButForQuiet, Happens, AllHappen, Settles, SettlesOne}

own_path : (p q : Path) → Own p ≡ Own q → p ≡ q
own_path p q e = cc

module _ {S : Type 0} (o : Ops S) (t : Tree S) where
  is_before : (p : Path) → StandsQuiet o t p → is_before_quiet o p (led_to o t.root p) ≡ true
  is_before p q = ap (is_before_quiet o p) q.1.there ∙ both_hold (same_path (o.path q.0) p) (is_quiet (o.stop q.0)) (ap (λ z. same_path z p) q.1.is_its ∙ same_path_refl p) (ap is_quiet q.2)

  before_is : (p : Path) (x : Option (Node S)) → led_to o t.root p ≡ x → is_before_quiet o p x ≡ true → StandsQuiet o t p
  before_is p None there e = absurd cc
  before_is p (Some (Live l)) there e = (l, record { there = there; is_its = same_path_is (o.path l) p (first_holds (same_path (o.path l) p) (is_quiet (o.stop l)) e) }, quiet_stop o l (second_holds (same_path (o.path l) p) (is_quiet (o.stop l)) e))
  before_is p (Some (Forked l ks)) there e = absurd cc
  before_is p (Some (Ended l)) there e = absurd cc
  before_is p (Some (Dead l x)) there e = absurd cc

  own_or_not : (p : Path) (b : Bool) → is_before_quiet o p (led_to o t.root p) ≡ b → IsQuietStep o t (Own p) ⊎ IsNoQuietStep o t (Own p)
  own_or_not p true e = inl (p, refl, before_is p (led_to o t.root p) refl e)
  own_or_not p false e = inr (λ q same at_stop. clash (is_before_quiet o p (led_to o t.root p)) (is_before p (subst (StandsQuiet o t) (sym (own_path p q same)) at_stop)) e)

  -- each event is a quiet step, or it isn't
  pub quiet_or_not : (e : Event) → IsQuietStep o t e ⊎ IsNoQuietStep o t e
  quiet_or_not (Own p) = own_or_not p (is_before_quiet o p (led_to o t.root p)) refl
  quiet_or_not (Meet c) = inr (λ q same. absurd cc)
  quiet_or_not (Poison p c) = inr (λ q same. absurd cc)
  quiet_or_not (Close p) = inr (λ q same. absurd cc)
  quiet_or_not (End p) = inr (λ q same. absurd cc)

  -- where no other event is enabled, each that is enabled is a quiet step
  pub rests_but_for_quiet : ((e : Event) → IsNoQuietStep o t e → after o e t ≡ None) → RestsButForQuiet o t
  rests_but_for_quiet none e enabled = elim (quiet_or_not e) [ inl q ↦ q | inr other ↦ absurd (enabled (none e other)) ]

module _ {S : Type 0} (o : Ops S) where
  all_happen_more : (es : List Event) (e : Event) (t u v : Tree S) → AllHappen o es t u → IsNoQuietStep o u e → after o e u ≡ Some v → AllHappen o (es ++ e ∷ []) t v
  all_happen_more [] e t u v same other h = (v, subst (λ z. IsNoQuietStep o z e) (sym same) other, ap (after o e) same ∙ h, refl)
  all_happen_more (f ∷ es) e t u v g other h = (g.0, g.1, g.2, all_happen_more es e g.0 u v g.3 other h)

  pub all_happen_count : (es : List Event) (t u : Tree S) → AllHappen o es t u → steps u ≡ steps t + length es
  all_happen_count [] t u same = let e : steps t ≡ steps u = ap steps same in omega (arith, e)
  all_happen_count (f ∷ es) t u g = let one = event_counts o f t g.0 g.2 in let rest = all_happen_count es g.0 u g.3 in omega (arith, one, rest)

  pub settles_more : (a b c : NetView S) (n : ℕ) (e : Event) → Settles o a b n → Happens o b c e → IsNoQuietStep o b.tree e → Settles o a c (n + 1)
  settles_more a b c n e s h other =
      let journal : b.journal ++ Did e ∷ [] ≡ a.journal ++ map Did (s.events ++ e ∷ []) =
      ap (λ (z : NetView S). z.journal ++ Did e ∷ []) s.after_is ∙ (append_assoc a.journal (map Did s.events) (Did e ∷ []) ∙ ap (λ z. a.journal ++ z) (sym (map_push Did s.events e))) in
      let root : b.root ≡ a.root = ap (λ (z : NetView S). z.root) s.after_is in
      let budget : b.budget ≡ a.budget = ap (λ (z : NetView S). z.budget) s.after_is in
      let grants : b.grants ≡ a.grants = ap (λ (z : NetView S). z.grants) s.after_is in
      record {
        events = s.events ++ e ∷ [];
        counted = length_push s.events e ∙ ap (λ z. z + 1) s.counted;
        happened = all_happen_more s.events e a.tree b.tree c.tree s.happened other h.0;
        after_is = h.1 ∙ (λ j. record { root = root j; budget = budget j; tree = c.tree; journal = journal j; grants = grants j });
      }

  pub settles_one : (a b c : NetView S) (n : ℕ) → Settles o a b n → SettlesOne o b c true → Settles o a c (n + 1)
  settles_one a b c n s one = settles_more a b c n one.0 s one.2 one.1

  -- what is left of the budget after so many of them
  pub settles_room : (a b : NetView S) (n left : ℕ) → Settles o a b n → left ≡ a.budget - (steps a.tree + reserved_in a.grants) → n < left → steps b.tree + reserved_in b.grants < b.budget
  settles_room a b n left s is less =
      let count = all_happen_count s.events a.tree b.tree s.happened in
      let budget : b.budget ≡ a.budget = ap (λ (z : NetView S). z.budget) s.after_is in
      let grants : reserved_in b.grants ≡ reserved_in a.grants = ap (λ (z : NetView S). reserved_in z.grants) s.after_is in
      let many = s.counted in
      omega (arith, count, budget, grants, many, is, less)

  pub settles_all : (a b : NetView S) (n left : ℕ) → Settles o a b n → left ≡ a.budget - (steps a.tree + reserved_in a.grants) → steps a.tree + reserved_in a.grants ≤ a.budget → n ≡ left → steps b.tree + reserved_in b.grants ≡ b.budget
  settles_all a b n left s is fits all =
      let count = all_happen_count s.events a.tree b.tree s.happened in
      let budget : b.budget ≡ a.budget = ap (λ (z : NetView S). z.budget) s.after_is in
      let grants : reserved_in b.grants ≡ reserved_in a.grants = ap (λ (z : NetView S). reserved_in z.grants) s.after_is in
      let many = s.counted in
      omega (arith, count, budget, grants, many, is, fits, all)

-- n is the net as the contract names it, and the parts are those of the code
module _ {S : Type 0} (o : Ops S) (n : NetView S) (root : S) (budget : ℕ) (t u : Tree S) (js ks : List Entry) (grants : List (OpenGrant S)) (same : record { root = root; budget = budget; tree = t; journal = js; grants = grants } ≡ n) where
  pub settled_none : u ≡ t → ks ≡ js → ((e : Event) → IsNoQuietStep o t e → after o e t ≡ None) → SettlesOne o n (record { root = root; budget = budget; tree = u; journal = ks; grants = grants }) false
  settled_none tree journal none = (
    (λ i. record { root = root; budget = budget; tree = tree i; journal = journal i; grants = grants }) ∙ same,
    subst (λ (z : NetView S). RestsButForQuiet o z.tree) same (rests_but_for_quiet o t none),
  )

  pub settled_one : (e : Event) → IsNoQuietStep o t e → after o e t ≡ Some u → ks ≡ js ++ Did e ∷ [] → SettlesOne o n (record { root = root; budget = budget; tree = u; journal = ks; grants = grants }) true
  settled_one e other leads more = subst (λ z. SettlesOne o z (record { root = root; budget = budget; tree = u; journal = ks; grants = grants }) true) same
      (e, other, (leads, λ i. record { root = root; budget = budget; tree = u; journal = more i; grants = grants }))
