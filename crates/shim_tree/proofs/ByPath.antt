-- The process of a path, as a descent by the pairs after the root's path finds it.
use Rattle.std.proofs.Common.{◌≡◌, ℕ, zero, suc, ◌<◌, ◌≤◌, Bool, true, false, Option, Some, None, List, [], ◌∷◌, length, drop, cond, refl, sym, ap, ◌∙◌, arith}
use Rattle.shim_base.specs.Paths.{Path, Channel, same_path}
use Rattle.shim_local.specs.Process.{Ops}
use Rattle.shim_semantics.specs.Nodes.{Node, Nodes, Live, Forked, Ended, Dead, no_node, node_and, state}
use Rattle.shim_semantics.specs.Places.{SoundBelow, at, child_at, at_route, branches, route, led_to, has_path}
use Rattle.shim_semantics.specs.Poison.{to_fork, last_branch}
use Rattle.shim_semantics.proofs.Leading.{route_rest}
use Rattle.shim_semantics.proofs.Routes.{route_of}
use Rattle.shim_tree.specs.NodeRefs.{child_in}
use Rattle.shim_tree.specs.ByPath.{if_its, its_node, passes_there, can_poison_at, can_poison_below, can_poison_by}
use Rattle.shim_base.proofs.Facts.{none_some, false_unless}
use Rattle.shim_base.proofs.SamePaths.{same_path_refl, same_path_is}

-- ---- one branch after the other

-- where a branch led, and then others
abbrev at_child : {S : Type 0} → List ℕ → Option (Node S) → Option (Node S)
at_child q None = None
at_child q (Some k) = at q k

child_first_in : {S : Type 0} (i : ℕ) (q : List ℕ) (ks : Nodes S) → child_at i q ks ≡ at_child q (child_at i [] ks)
child_first_in i q no_node = refl
child_first_in zero q (node_and k ks) = refl
child_first_in (suc i) q (node_and k ks) = child_first_in i q ks

child_first : {S : Type 0} (i : ℕ) (q : List ℕ) (n : Node S) → at (i ∷ q) n ≡ at_child q (child_in i n)
child_first i q (Live l) = refl
child_first i q (Forked l ks) = child_first_in i q ks
child_first i q (Ended l) = refl
child_first i q (Dead l d) = refl

module _ {S : Type 0} (n : Node S) (pairs : Path) (x : ℕ × ℕ) (p : Path) (e : pairs ≡ x ∷ p) where
  on_child : (y : Option (Node S)) → y ≡ child_in x.1 n → at (branches pairs) n ≡ at_child (branches p) y
  on_child y c = ap (λ z. at (branches z) n) e ∙ (child_first x.1 (branches p) n ∙ ap (at_child (branches p)) (sym c))

  pub none_on : None ≡ child_in x.1 n → None ≡ at (branches pairs) n
  none_on c = sym (on_child None c)

  pub some_on : (k : Node S) (r : Option (Node S)) → Some k ≡ child_in x.1 n → r ≡ at (branches p) k → r ≡ at (branches pairs) n
  some_on k r c is = is ∙ sym (on_child (Some k) c)

-- the same to the fork of a child that is poisoned
module _ {S : Type 0} (o : Ops S) (c : Channel) (i : ℕ) (n : Node S) (pairs : Path) (x : ℕ × ℕ) (p : Path) (e : pairs ≡ x ∷ p) where
  below_child : (y : Option (Node S)) → y ≡ child_in i n → can_poison_below o c i (branches pairs) n ≡ passes_there (can_poison_at o c (last_branch x.1 (branches p))) (at_child (to_fork x.1 (branches p)) y)
  below_child y is =
      ap (λ z. can_poison_below o c i (branches z) n) e
      ∙ ap (passes_there (can_poison_at o c (last_branch x.1 (branches p)))) (child_first i (to_fork x.1 (branches p)) n ∙ ap (at_child (to_fork x.1 (branches p))) (sym is))

  pub none_below : None ≡ child_in i n → false ≡ can_poison_below o c i (branches pairs) n
  none_below is = sym (below_child None is)

  pub some_below : (k : Node S) (r : Bool) → Some k ≡ child_in i n → r ≡ can_poison_below o c x.1 (branches p) k → r ≡ can_poison_below o c i (branches pairs) n
  some_below k r is f = f ∙ sym (below_child (Some k) is)

-- ---- the whole path

module _ {S : Type 0} (o : Ops S) (n : Node S) (p : Path) where
  -- the branches after the root's path
  abbrev rest : List ℕ
  rest = branches (drop (length (o.path (state n))) p)

  -- what holds of what is found by the rest, and where the path doesn't lead on from the root's
  by_route : (A : Option (Node S) → Type 0) → (r : Option (List ℕ)) → A None → ((q : List ℕ) → r ≡ Some q → A (at q n)) → A (at_route n r)
  by_route A None none f = none
  by_route A (Some q) none f = f q refl

  pub none_short : length p < length (o.path (state n)) → None ≡ its_node o n p
  none_short h =
      by_route (λ x. None ≡ if_its o p x) (route (o.path (state n)) p) refl
      (λ q e. let long = (route_rest (o.path (state n)) p q e).0 in absurd (omega (arith, h, long)))

  -- what the rest leads to
  led_by_rest : (x : Option (Node S)) → x ≡ at rest n → (q : List ℕ) → route (o.path (state n)) p ≡ Some q → x ≡ at q n
  led_by_rest x h q e = h ∙ ap (λ z. at z n) (sym (route_rest (o.path (state n)) p q e).1)

  pub none_there : None ≡ at rest n → None ≡ its_node o n p
  none_there h = by_route (λ x. None ≡ if_its o p x) (route (o.path (state n)) p) refl (λ q e. ap (if_its o p) (led_by_rest None h q e))

  module _ (m : Node S) (there : Some m ≡ at rest n) where
    pub other_there : (o.path (state m) ≡ p → ⊥) → None ≡ its_node o n p
    other_there other =
        let is : None ≡ if_its o p (Some m) = sym (ap (λ b. cond b (Some m) None) (false_unless (same_path (o.path (state m)) p) (λ h. other (same_path_is (o.path (state m)) p h)))) in
        by_route (λ x. None ≡ if_its o p x) (route (o.path (state n)) p) refl (λ q e. is ∙ ap (if_its o p) (led_by_rest (Some m) there q e))

    pub its_there : SoundBelow o n → o.path (state m) ≡ p → Some m ≡ its_node o n p
    its_there sound is =
        let whole : Some m ≡ led_to o n p = there ∙ ap (at_route n) (sym (route_of o n m rest p sound (sym there) is)) in
        sym (ap (λ z. cond (same_path z p) (Some m) None) is ∙ ap (λ b. cond b (Some m) None) (same_path_refl p)) ∙ ap (if_its o p) whole

  -- whether there is one
  pub none_has : None ≡ its_node o n p → has_path o p (led_to o n p) ≡ false
  none_has e = none_of (led_to o n p) e
    where
      of_test : (b : Bool) (m : Node S) → None ≡ cond b (Some m) None → b ≡ false
      of_test true m e = none_some m e
      of_test false m e = refl

      none_of : (x : Option (Node S)) → None ≡ if_its o p x → has_path o p x ≡ false
      none_of None e = refl
      none_of (Some m) e = of_test (same_path (o.path (state m)) p) m e

  pub some_has : (m : Node S) → Some m ≡ its_node o n p → has_path o p (led_to o n p) ≡ true
  some_has m e = some_of (led_to o n p) e
    where
      of_test : (b : Bool) (x : Node S) → Some m ≡ cond b (Some x) None → b ≡ true
      of_test true x e = refl
      of_test false x e = none_some m (sym e)

      some_of : (x : Option (Node S)) → Some m ≡ if_its o p x → has_path o p x ≡ true
      some_of None e = none_some m (sym e)
      some_of (Some x) e = of_test (same_path (o.path (state x)) p) x e

  -- a path that has a process goes on from the root's
  pub has_route : has_path o p (led_to o n p) ≡ true → (length (o.path (state n)) ≤ length p) × (route (o.path (state n)) p ≡ Some rest)
  has_route h = there_is (route (o.path (state n)) p) refl h
    where
      there_is : (r : Option (List ℕ)) → route (o.path (state n)) p ≡ r → has_path o p (at_route n r) ≡ true → (length (o.path (state n)) ≤ length p) × (r ≡ Some rest)
      there_is None e h = absurd cc
      there_is (Some q) e h = let w = route_rest (o.path (state n)) p q e in (w.0, ap Some w.1)

  -- a poison of its process
  module _ (c : Channel) (h : has_path o p (led_to o n p) ≡ true) (left : Path) (is : left ≡ drop (length (o.path (state n))) p) where
    by_rest : can_poison_by o c n (route (o.path (state n)) p) ≡ can_poison_by o c n (Some (branches left))
    by_rest = ap (can_poison_by o c n) ((has_route h).1 ∙ ap (λ z. Some (branches z)) (sym is))

    pub root_poisons : left ≡ [] → false ≡ can_poison_by o c n (route (o.path (state n)) p)
    root_poisons e = sym (by_rest ∙ ap (λ z. can_poison_by o c n (Some (branches z))) e)

    pub child_poisons : (x : ℕ × ℕ) (q : Path) (r : Bool) → left ≡ x ∷ q → r ≡ can_poison_below o c x.1 (branches q) n → r ≡ can_poison_by o c n (route (o.path (state n)) p)
    child_poisons x q r e f = f ∙ sym (by_rest ∙ ap (λ z. can_poison_by o c n (Some (branches z))) e)
