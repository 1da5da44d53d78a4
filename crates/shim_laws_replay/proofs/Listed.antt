-- What may be granted has a number in the list of quiet processes, and what has a number there may be granted.
use Rattle.std.proofs.Common.{◌≡◌, ℕ, zero, suc, Bool, true, false, Some, None, List, [], ◌∷◌, inl, inr, cond, refl, sym, ap, subst, ◌∙◌}
use Rattle.std.specs.Prelude.{slice_get}
use Rattle.shim_local.specs.Process.{Ops, AtQuiet}
use Rattle.shim_local.specs.Quiets.{is_quiet}
use Rattle.shim_local.proofs.Quiets.{first_quiet}
use Rattle.shim_base.specs.Lists.{IsAmong}
use Rattle.shim_semantics.specs.Nodes.{Node, Nodes, Live, Forked, Ended, Dead, no_node, node_and, state}
use Rattle.shim_semantics.specs.Places.{at, child_at, at_route, route}
use Rattle.shim_semantics.specs.Quiets.{quiets, all_quiets}
use Rattle.shim_semantics.proofs.Members.{among_either, among_left, among_right}
use Rattle.shim_semantics.proofs.Routes.{route_of}
use Rattle.shim_base.proofs.Facts.{some_same, none_some}
use Rattle.shim_laws_replay.specs.Grants.{GrantableAreListed}
use Rattle.shim_laws_replay.proofs.Undisturbed.{led_by}

-- what has a number in a list is among it, and the other way
got_among : {A : Type 0} (xs : List A) (i : ℕ) (x : A) → slice_get xs i ≡ Some x → IsAmong x xs
got_among [] i x e = none_some x e
got_among (y ∷ ys) zero x e = inl (sym (some_same y x e))
got_among (y ∷ ys) (suc i) x e = inr (got_among ys i x e)

among_got : {A : Type 0} (xs : List A) (x : A) → IsAmong x xs → (i : ℕ) × (slice_get xs i ≡ Some x)
among_got [] x h = absurd h
among_got (y ∷ ys) x (inl h) = (zero, ap Some (sym h))
among_got (y ∷ ys) x (inr h) = let w = among_got ys x h in (suc w.0, w.1)

among_one : {A : Type 0} (b : Bool) (x y : A) → IsAmong x (cond b (y ∷ []) []) → (x ≡ y) × (b ≡ true)
among_one true x y (inl h) = (h, refl)
among_one true x y (inr h) = absurd h
among_one false x y h = absurd h

one_among : {A : Type 0} (b : Bool) (x : A) → b ≡ true → IsAmong x (cond b (x ∷ []) [])
one_among true x e = inl refl
one_among false x e = absurd cc

module _ {S : Type 0} (o : Ops S) where
  -- the test of the stop decides
  pub quiet_stop : (l : S) → is_quiet (o.stop l) ≡ true → o.stop l ≡ AtQuiet
  quiet_stop l e = (first_quiet o 0 l (o.quiet l) (ap (λ b. cond b (Some (o.quiet l)) None) e)).0

  mutual
    -- each of the list stands live at some branches, before a quiet step
    listed_stands : (n : Node S) (l : S) → IsAmong l (quiets o n) → (q : List ℕ) × (at q n ≡ Some (Live l)) × (o.stop l ≡ AtQuiet)
    listed_stands (Live k) l h =
        let w = among_one (is_quiet (o.stop k)) l k h in
        ([], ap (λ z. Some (Live z)) (sym w.0), ap o.stop w.0 ∙ quiet_stop k w.1)
    listed_stands (Ended k) l h = absurd h
    listed_stands (Dead k x) l h = absurd h
    listed_stands (Forked k ks) l h =
        let w = listed_stands_in ks l h in
        (w.0 ∷ w.1, w.2, w.3)

    listed_stands_in : (ks : Nodes S) (l : S) → IsAmong l (all_quiets o ks) → (i : ℕ) × (q : List ℕ) × (child_at i q ks ≡ Some (Live l)) × (o.stop l ≡ AtQuiet)
    listed_stands_in no_node l h = absurd h
    listed_stands_in (node_and k ks) l h = elim (among_either l (quiets o k) (all_quiets o ks) h) [
      | inl z ↦ let w = listed_stands k l z in (zero, w.0, w.1, w.2)
      | inr z ↦ let w = listed_stands_in ks l z in (suc w.0, w.1, w.2, w.3)
    ]

  mutual
    -- and each that stands so is listed
    stands_listed : (q : List ℕ) (n : Node S) (l : S) → at q n ≡ Some (Live l) → o.stop l ≡ AtQuiet → IsAmong l (quiets o n)
    stands_listed [] n l e stop = subst (λ z. IsAmong l (quiets o z)) (sym (some_same n (Live l) e)) (one_among (is_quiet (o.stop l)) l (ap is_quiet stop))
    stands_listed (i ∷ q) (Live k) l e stop = none_some (Live l) e
    stands_listed (i ∷ q) (Ended k) l e stop = none_some (Live l) e
    stands_listed (i ∷ q) (Dead k x) l e stop = none_some (Live l) e
    stands_listed (i ∷ q) (Forked k ks) l e stop = stands_listed_in i q ks l e stop

    stands_listed_in : (i : ℕ) (q : List ℕ) (ks : Nodes S) (l : S) → child_at i q ks ≡ Some (Live l) → o.stop l ≡ AtQuiet → IsAmong l (all_quiets o ks)
    stands_listed_in i q no_node l e stop = none_some (Live l) e
    stands_listed_in zero q (node_and k ks) l e stop = among_left l (quiets o k) (all_quiets o ks) (stands_listed q k l e stop)
    stands_listed_in (suc i) q (node_and k ks) l e stop = among_right l (quiets o k) (all_quiets o ks) (stands_listed_in i q ks l e stop)

  pub grantable_are_listed : GrantableAreListed o
  grantable_are_listed t l s = (
    λ g. let w = led_by t.root (route (o.path (state t.root)) (o.path l)) (Live l) g.in_tree.there in among_got (quiets o t.root) l (stands_listed w.branches t.root l w.there g.stop),
    λ x.
        let w = listed_stands t.root l (got_among (quiets o t.root) x.0 l x.1) in
        record {
          in_tree = record { there = ap (at_route t.root) (route_of o t.root (Live l) w.0 (o.path l) s.below w.1 refl) ∙ w.1; is_its = refl };
          stop = w.2;
        },
  )
