-- The records of a fork's children are its children, one for each and in their order.
use Rattle.std.proofs.Common.{◌≡◌, ℕ, zero, suc, ◌+◌, Option, Some, List, [], ◌∷◌, take, drop, refl, sym, ap, ◌∙◌, arith}
use Rattle.std.specs.Prelude.{slice_get}
use Rattle.shim_local.specs.Process.{Ops}
use Rattle.shim_semantics.specs.Nodes.{Node, Nodes, Live, Forked, Ended, Dead, Death, no_node, node_and, state, states, prevailing, prevailing_death}
use Rattle.shim_semantics.specs.Places.{at, child_at}
use Rattle.shim_base.proofs.Facts.{some_same, none_some}
use Rattle.shim_laws_table.specs.NodeStatus.{forks, seen, process_status, place, how_many_nodes}
use Rattle.shim_laws_table.specs.Agrees.{RecordView, used, Has}
use Rattle.shim_laws_table.specs.Changes.{segment, prevailing_with, prevailing_among, ChildrenAreRepresented}
use Rattle.shim_laws_table.proofs.Aside.{at_split}
use Rattle.shim_laws_table.proofs.SameTrees.{seen_state, seen_status, child_counted, fork_count}

-- from where a list has an item, it begins with that
drop_at : {A : Type 0} (xs : List A) (g : ℕ) (x : A) → slice_get xs g ≡ Some x → drop g xs ≡ x ∷ drop (suc g) xs
drop_at [] g x e = none_some x e
drop_at (y ∷ xs) zero x e = ap (λ z. z ∷ xs) (some_same y x e)
drop_at (y ∷ xs) (suc g) x e = drop_at xs g x e

block_more : {A : Type 0} (xs : List A) (g n : ℕ) (x : A) → slice_get xs g ≡ Some x → segment g (suc n) xs ≡ x ∷ segment (suc g) n xs
block_more xs g n x e = ap (take (suc n)) (drop_at xs g x e)

no_block : {A : Type 0} (xs : List A) → take 0 xs ≡ []
no_block [] = refl
no_block (x ∷ xs) = refl

one_on : (g b : ℕ) → suc g + b ≡ g + suc b
one_on g b = omega arith

-- what a child's record says
record Says {S : Type 0} (states' : List S) (views : List RecordView) (i : ℕ) (k : Node S) : Type 0 where
  pub first : ℕ
  pub has : Has states' views i first (state k) (process_status k)

prevails : {S : Type 0} (f : ℕ) (k : Node S) (ks : Nodes S) (d : Option Death) → prevailing_death ks ≡ d → prevailing_death (node_and k ks) ≡ prevailing_with (used f (process_status k)) d
prevails f (Live l) ks d e = e
prevails f (Forked l js) ks d e = e
prevails f (Ended l) ks d e = e
prevails f (Dead l x) ks d e = ap (prevailing x) e

module _ {S : Type 0} (states' : List S) (views : List RecordView) where
  all_said : (ks : Nodes S) (g : ℕ) → ((b : ℕ) (k : Node S) → child_at b [] ks ≡ Some k → Says states' views (g + b) k)
      → (states ks ≡ segment g (how_many_nodes ks) states') × (prevailing_death ks ≡ prevailing_among (segment g (how_many_nodes ks) views))
  all_said no_node g f = (sym (no_block (drop g states')), sym (ap prevailing_among (no_block (drop g views))))
  all_said (node_and k ks) g f =
      let x = f 0 k refl in
      let here : g + 0 ≡ g = omega arith in
      let is_state : slice_get states' g ≡ Some (state k) = ap (slice_get states') (sym here) ∙ x.has.state_is in
      let view_is : slice_get views g ≡ Some (used x.first (process_status k)) = ap (slice_get views) (sym here) ∙ x.has.view_is in
      let rest = all_said ks (suc g) (λ b j e. moved (f (suc b) j e) (one_on g b)) in (
        ap (λ z. state k ∷ z) rest.0 ∙ sym (block_more states' g (how_many_nodes ks) (state k) is_state),
        prevails x.first k ks (prevailing_among (segment (suc g) (how_many_nodes ks) views)) rest.1
            ∙ sym (ap prevailing_among (block_more views g (how_many_nodes ks) (used x.first (process_status k)) view_is)),
      )
    where
      moved : {i j : ℕ} {n : Node S} → Says states' views j n → i ≡ j → Says states' views i n
      moved y e = record { first = y.first; has = record { state_is = ap (slice_get states') e ∙ y.has.state_is; view_is = ap (slice_get views) e ∙ y.has.view_is } }

pub children_are_represented : {S : Type 0} (o : Ops S) → ChildrenAreRepresented o
children_are_represented {S} o rp states' views root i g n l ks ok has there =
    let many : how_many_nodes ks ≡ n = fork_count (how_many_nodes ks) n (seen_status (Forked l ks) l (forks n) (ap seen (sym there) ∙ ok.shown i g l (forks n) has)) in
    let all = all_said states' views ks g child in
    (many, all.0 ∙ ap (λ m. segment g m states') many, all.1 ∙ ap (λ m. prevailing_among (segment g m views)) many)
  where
    child : (b : ℕ) (k : Node S) → child_at b [] ks ≡ Some k → Says states' views (g + b) k
    child b k e =
        let many : how_many_nodes ks ≡ n = fork_count (how_many_nodes ks) n (seen_status (Forked l ks) l (forks n) (ap seen (sym there) ∙ ok.shown i g l (forks n) has)) in
        let less = child_counted b [] ks k e in
        let z = ok.below i g n l has b (omega (arith, less, many)) in
        let see : seen (Some k) ≡ Some (z.1, z.2) = sym (ap (λ p. seen (at p root)) z.4 ∙ ap seen (at_split (place o rp l) (b ∷ []) root (Forked l ks) there ∙ e)) ∙ ok.shown (g + b) z.0 z.1 z.2 z.3 in
        record {
          first = z.0;
          has = record {
            state_is = z.3.state_is ∙ ap Some (sym (seen_state k z.1 z.2 see));
            view_is = z.3.view_is ∙ ap (λ x. Some (used z.0 x)) (sym (seen_status k z.1 z.2 see));
          };
        }
