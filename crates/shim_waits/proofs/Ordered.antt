-- From the left, live processes stand in the order of their paths.
use Rattle.std.proofs.Common.{◌≡◌, ◌<◌, ℕ, suc, ◌+◌, List, [], ◌∷◌, ◌++◌, inl, inr, map, refl, sym, ap, subst, ◌∙◌, arith}
use Rattle.std.specs.Cmp.{nat_cmp_is, tied_itself, nat_cmp_total}
use Rattle.std.specs.Ordering.{ordering_then, nat_cmp}
use Rattle.std.specs.declared.cmp.Ordering.TheVariants.{Less, Equal}
use Rattle.shim_base.specs.Paths.{Path, pair_order, path_order}
use Rattle.shim_local.specs.Laws.{AllOf}
use Rattle.shim_local.specs.Process.{Ops}
use Rattle.shim_base.specs.Lists.{IsAmong}
use Rattle.shim_semantics.specs.Nodes.{Node, Nodes, Live, Forked, Ended, Dead, no_node, node_and, state}
use Rattle.shim_semantics.specs.Places.{SoundBelow, SoundChildren}
use Rattle.shim_semantics.proofs.Members.{among_either, among_mapped}
use Rattle.shim_semantics.proofs.Routes.{at_path}
use Rattle.shim_semantics.proofs.Sameness.{further}
use Rattle.shim_waits.specs.Holding.{lives, all_lives}
use Rattle.shim_waits.specs.Laws.{PathsAscend}
use Rattle.shim_waits.proofs.Found.{live_at}

itself : (x : ℕ × ℕ) → pair_order x x ≡ Equal
itself x = ap (λ r. ordering_then r (nat_cmp x.1 x.1)) (tied_itself nat_cmp_total x.0) ∙ tied_itself nat_cmp_total x.1

-- after the same front
behind_same : (p a b : Path) → path_order (p ++ a) (p ++ b) ≡ path_order a b
behind_same [] a b = refl
behind_same (x ∷ p) a b = ap (λ r. ordering_then r (path_order (p ++ a) (p ++ b))) (itself x) ∙ behind_same p a b

-- an earlier branch of one fork
earlier_branch : (p : Path) (f i j : ℕ) (r s : Path) → i < j → path_order (p ++ (f, i) ∷ r) (p ++ (f, j) ∷ s) ≡ Less
earlier_branch p f i j r s h =
    let pairs : pair_order (f, i) (f, j) ≡ Less = ap (λ z. ordering_then z (nat_cmp i j)) (tied_itself nat_cmp_total f) ∙ sym (nat_cmp_is i j Less h) in
    behind_same p ((f, i) ∷ r) ((f, j) ∷ s) ∙ ap (λ z. ordering_then z (path_order r s)) pairs

all_behind : (p : Path) (qs : List Path) → ((q : Path) → IsAmong q qs → path_order p q ≡ Less) → AllOf (λ q. path_order p q ≡ Less) qs
all_behind p [] f = tt
all_behind p (q ∷ qs) f = (f q (inl refl), all_behind p qs (λ r i. f r (inr i)))

pub of_behind : (p : Path) (qs : List Path) (q : Path) → AllOf (λ q. path_order p q ≡ Less) qs → IsAmong q qs → path_order p q ≡ Less
of_behind p [] q a i = absurd i
of_behind p (r ∷ rs) q a (inl h) = ap (path_order p) h ∙ a.0
of_behind p (r ∷ rs) q a (inr h) = of_behind p rs q a.1 h

in_order_both : (ps qs : List Path) → PathsAscend ps → PathsAscend qs → ((p q : Path) → IsAmong p ps → IsAmong q qs → path_order p q ≡ Less) → PathsAscend (ps ++ qs)
in_order_both [] qs a b f = b
in_order_both (p ∷ ps) qs a b f = (
  all_behind p (ps ++ qs) (λ q i. elim (among_either q ps qs i) [ inl h ↦ of_behind p ps q a.0 h | inr h ↦ f p q (inl refl) h ]),
  in_order_both ps qs a.1 b (λ r q i j. f r q (inr i) j),
)

map_both : {A B : Type 0} (f : A → B) (xs ys : List A) → map f (xs ++ ys) ≡ map f xs ++ map f ys
map_both f [] ys = refl
map_both f (x ∷ xs) ys = ap (λ z. f x ∷ z) (map_both f xs ys)

first_before : (j i : ℕ) → j < j + 1 + i
first_before j i = omega arith

module _ {S : Type 0} (o : Ops S) where
  -- the path of a live process below a child
  below_child : (l : S) (f j : ℕ) (k : Node S) (b : S) → o.path (state k) ≡ o.path l ++ (f, j) ∷ [] → SoundBelow o k → IsAmong b (lives k) → (r : Path) × (o.path b ≡ o.path l ++ (f, j) ∷ r)
  below_child l f j k b p s i =
      let place = live_at b k i in
      let w = at_path o k (Live b) place.0 s place.1 in
      (w.0, w.1 ∙ further (o.path l) (f, j) (o.path (state k)) w.0 p)

  below_children : (l : S) (f j : ℕ) (ks : Nodes S) (b : S) → SoundChildren o l f j ks → IsAmong b (all_lives ks) → (i : ℕ) × (r : Path) × (o.path b ≡ o.path l ++ (f, j + i) ∷ r)
  below_children l f j no_node b s i = absurd i
  below_children l f j (node_and k ks) b s i = elim (among_either b (lives k) (all_lives ks) i) [
    | inl h ↦
        let w = below_child l f j k b s.0.path s.1 h in
        let z : j ≡ j + 0 = omega arith in
        (0, w.0, w.1 ∙ ap (λ y. o.path l ++ (f, y) ∷ w.0) z)
    | inr h ↦
        let w = below_children l f (j + 1) ks b s.2 h in
        let z : j + 1 + w.0 ≡ j + suc w.0 = omega arith in
        (suc w.0, w.1, w.2 ∙ ap (λ y. o.path l ++ (f, y) ∷ w.1) z)
  ]

  across : (l : S) (f j : ℕ) (k : Node S) (ks : Nodes S) (p q : Path) → SoundChildren o l f j (node_and k ks) → IsAmong p (map o.path (lives k)) → IsAmong q (map o.path (all_lives ks)) → path_order p q ≡ Less
  across l f j k ks p q s i h =
      let a = among_mapped o.path p (lives k) i in
      let b = among_mapped o.path q (all_lives ks) h in
      let x = below_child l f j k a.0 s.0.path s.1 a.2 in
      let y = below_children l f (j + 1) ks b.0 s.2 b.2 in
      subst (λ z. path_order z q ≡ Less) (sym (a.1 ∙ x.1))
      (subst (λ z. path_order (o.path l ++ (f, j) ∷ x.0) z ≡ Less) (sym (b.1 ∙ y.2)) (earlier_branch (o.path l) f j (j + 1 + y.0) x.0 y.1 (first_before j y.0)))

  mutual
    pub in_order : (n : Node S) → SoundBelow o n → PathsAscend (map o.path (lives n))
    in_order (Live l) s = (tt, tt)
    in_order (Ended l) s = tt
    in_order (Dead l x) s = tt
    in_order (Forked l ks) s = in_order_all l s.number 0 ks s.children

    in_order_all : (l : S) (f j : ℕ) (ks : Nodes S) → SoundChildren o l f j ks → PathsAscend (map o.path (all_lives ks))
    in_order_all l f j no_node s = tt
    in_order_all l f j (node_and k ks) s =
        subst PathsAscend (sym (map_both o.path (lives k) (all_lives ks)))
        (in_order_both (map o.path (lives k)) (map o.path (all_lives ks)) (in_order k s.1) (in_order_all l f (j + 1) ks s.2) (λ p q i h. across l f j k ks p q s i h))
