-- What a process that has forked means, and the children from a place on.
use Rattle.std.proofs.Common.{◌≡◌, ℕ, zero, suc, ◌+◌, ◌<◌, ◌≤◌, List, [], ◌∷◌, length, vec_len, drop, get_or, refl, sym, ap, ◌∙◌, arith}
use Rattle.std.specs.declared.vec.Vec.{Vec}
use Rattle.std.specs.declared.alloc.Global.{Global}
use Rattle.shim_semantics.specs.Nodes as model
use Rattle.shim_semantics.specs.Nodes.{state}
use Rattle.shim_tree.specs.NodeStatus.{node, nodes, node_step, together}
use Rattle.shim_tree.specs.Beside.{nth_child}
use Rattle.shim_tree.specs.declared.node_status.NodeStatus.{NodeStatus}
use Rattle.shim_tree.specs.declared.node_status.NodeStatus.TheVariants as code
use Rattle.shim_tree.specs.declared.node_status.NodeStatus.TheOpen as open_below
use Rattle.shim_tree.specs.declared.node_status.NodeStatus.TheFolds.{fold-roll-NodeStatus, fold_out-NodeStatus}

node_forked : {S : Type 0} (l : S) (ls : Vec S Global) (bs : Vec (NodeStatus S) Global) → node l (code.Forked ls bs) ≡ model.Forked l (together ls.items (nodes bs.items))
node_forked {S} l ls bs = ap (node l) (sym (code.rolls-Forked ls bs)) ∙ ap (λ f. f l) (fold-roll-NodeStatus S (S → model.Node S) node_step (open_below.Forked ls bs))

pub is_forked : {S : Type 0} (l : S) (b : NodeStatus S) (ls : Vec S Global) (bs : Vec (NodeStatus S) Global) → b ≡ code.Forked ls bs → node l b ≡ model.Forked l (together ls.items (nodes bs.items))
is_forked l b ls bs e = ap (node l) e ∙ node_forked l ls bs

state_layer : {S : Type 0} (x : open_below.NodeStatus-F S (S → model.Node S)) (l : S) → state (node_step x l) ≡ l
state_layer open_below.Live l = refl
state_layer (open_below.Forked ls bs) l = refl
state_layer open_below.Ended l = refl
state_layer (open_below.Dead x) l = refl

pub state_node : {S : Type 0} (l : S) (b : NodeStatus S) → state (node l b) ≡ l
state_node {S} l b = ap (λ (f : S → model.Node S). state (f l)) (fold_out-NodeStatus S (S → model.Node S) node_step b) ∙ state_layer _ l

pub state_place : {S : Type 0} (l : S) (bs : List (NodeStatus S)) (i : ℕ) → state (nth_child l (nodes bs) i) ≡ l
state_place l [] i = refl
state_place l (b ∷ bs) zero = state_node l b
state_place l (b ∷ bs) (suc i) = state_place l bs i

-- the child in a place of which something is said, and of which nothing is
pub place_in : {S : Type 0} (l : S) (bs : List (NodeStatus S)) (i : ℕ) (b : NodeStatus S) → i < length bs → b ≡ get_or bs i b → nth_child l (nodes bs) i ≡ node l b
place_in l [] i b h e = absurd (omega (arith, h))
place_in l (c ∷ bs) zero b h e = ap (node l) (sym e)
place_in l (c ∷ bs) (suc i) b h e = place_in l bs i b (omega (arith, h)) e

pub place_past : {S : Type 0} (l : S) (bs : List (NodeStatus S)) (i : ℕ) → length bs ≤ i → nth_child l (nodes bs) i ≡ model.Live l
place_past l [] i h = refl
place_past l (c ∷ bs) zero h = absurd (omega (arith, h))
place_past l (c ∷ bs) (suc i) h = place_past l bs i (omega (arith, h))

-- a place below a vector's length is below that of its items, and one that isn't isn't
pub inside : {A : Type 0} (v : Vec A Global) (n i : ℕ) → n ≡ vec_len v → i < n → i < length v.items
inside v n i e h = let w = v.ok.0 in omega (arith, e, h, w)

pub outside : {A : Type 0} (v : Vec A Global) (n i : ℕ) → n ≡ vec_len v → n ≤ i → length v.items ≤ i
outside v n i e h = let w = v.ok.0 in omega (arith, e, h, w)

-- What holds of the child in a place as the code asks for it: with what lies beside its state, and alone where nothing does.
pub asked_in : {S A : Type 0} (f : model.Node S → A) (l : S) (bs : Vec (NodeStatus S) Global) (n i : ℕ) (b : NodeStatus S) (x : A) → n ≡ vec_len bs → i < n → b ≡ get_or bs.items i b → x ≡ f (node l b) → x ≡ f (nth_child l (nodes bs.items) i)
asked_in f l bs n i b x e h there is = is ∙ sym (ap f (place_in l bs.items i b (inside bs n i e h) there))

pub asked_past : {S A : Type 0} (f : model.Node S → A) (l : S) (bs : Vec (NodeStatus S) Global) (n i : ℕ) (x : A) → n ≡ vec_len bs → n ≤ i → x ≡ f (model.Live l) → x ≡ f (nth_child l (nodes bs.items) i)
asked_past f l bs n i x e h is = is ∙ sym (ap f (place_past l bs.items i (outside bs n i e h)))

-- the children from the place i on
abbrev pub from : {S : Type 0} → ℕ → List S → List (NodeStatus S) → model.Nodes S
from i ls bs = together (drop i ls) (nodes (drop i bs))

drop_none : {A : Type 0} (i : ℕ) → drop {A = A} i [] ≡ []
drop_none zero = refl
drop_none (suc i) = refl

from_one : {S : Type 0} (i : ℕ) (ls : List S) (bs : List (NodeStatus S)) (l : S) → i < length ls → l ≡ get_or ls i l → from i ls bs ≡ model.node_and (nth_child l (nodes bs) i) (from (suc i) ls bs)
from_one i [] bs l h e = absurd (omega (arith, h))
from_one zero (m ∷ ls) [] l h e = ap (λ z. model.node_and (model.Live z) (together ls [])) (sym e)
from_one zero (m ∷ ls) (b ∷ bs) l h e = ap (λ z. model.node_and (node z b) (together ls (nodes bs))) (sym e)
from_one {S} (suc i) (m ∷ ls) [] l h e = sym (ap (λ z. together (drop i ls) (nodes z)) (drop_none {A = NodeStatus S} i)) ∙ from_one i ls [] l (omega (arith, h)) e
from_one (suc i) (m ∷ ls) (b ∷ bs) l h e = from_one i ls bs l (omega (arith, h)) e

pub from_next : {S : Type 0} (i : ℕ) (ls : List S) (bs : List (NodeStatus S)) (l : S) → i < length ls → l ≡ get_or ls i l → from i ls bs ≡ model.node_and (nth_child l (nodes bs) i) (from (i + 1) ls bs)
from_next i ls bs l h e =
    let w : suc i ≡ i + 1 = omega arith in
    from_one i ls bs l h e ∙ ap (λ z. model.node_and (nth_child l (nodes bs) i) (from z ls bs)) w

drop_past : {A : Type 0} (xs : List A) (i : ℕ) → length xs ≤ i → drop i xs ≡ []
drop_past [] zero h = refl
drop_past [] (suc i) h = refl
drop_past (x ∷ xs) zero h = absurd (omega (arith, h))
drop_past (x ∷ xs) (suc i) h = drop_past xs i (omega (arith, h))

pub from_end : {S : Type 0} (i : ℕ) (ls : List S) (bs : List (NodeStatus S)) → length ls ≤ i → from i ls bs ≡ model.no_node
from_end i ls bs h = ap (λ z. together z (nodes (drop i bs))) (drop_past ls i h)
