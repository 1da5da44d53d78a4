-- Lists of statuses, filled up place by place.
use Rattle.std.proofs.Common.{◌≡◌, ℕ, zero, suc, ◌+◌, ◌<◌, ◌≤◌, Bool, true, false, ◌&&◌, List, [], ◌∷◌, ◌++◌, length, get_or, slice_set, vec_len, refl, sym, ap, ◌∙◌, arith}
use Rattle.std.specs.declared.vec.Vec.{Vec}
use Rattle.std.specs.declared.alloc.Global.{Global}
use Rattle.shim_semantics.specs.Nodes as model
use Rattle.shim_tree.specs.NodeStatus.{node, nodes, together}
use Rattle.shim_tree.specs.Filled.{noted_of_all, filled_step, is_filled, filled, are_filled}
use Rattle.shim_tree.specs.declared.node_status.NodeStatus.{NodeStatus}
use Rattle.shim_tree.specs.declared.node_status.NodeStatus.TheVariants as code
use Rattle.shim_tree.specs.declared.node_status.NodeStatus.TheOpen as open_below
use Rattle.shim_tree.specs.declared.node_status.NodeStatus.TheFolds.{fold-roll-NodeStatus}
use Rattle.shim_tree.proofs.Children.{node_forked, at_forked}
use Rattle.shim_base.proofs.Facts.{first_holds, second_holds, both_hold}

pub forked_filled : {S : Type 0} (ls : Vec S Global) (bs : Vec (NodeStatus S) Global) → is_filled (code.Forked ls bs) ≡ noted_of_all ls.items (filled bs.items)
forked_filled {S} ls bs = ap is_filled (sym (code.rolls-Forked ls bs)) ∙ fold-roll-NodeStatus S Bool filled_step (open_below.Forked ls bs)

live_filled : (S : Type 0) → is_filled {S = S} code.Live ≡ true
live_filled S = ap (is_filled {S = S}) (sym code.rolls-Live) ∙ fold-roll-NodeStatus S Bool filled_step open_below.Live

-- those before this place are filled
abbrev pub filled_before : {S : Type 0} → ℕ → List (NodeStatus S) → Bool
filled_before zero bs = true
filled_before (suc i) [] = true
filled_before (suc i) (b ∷ bs) = is_filled b && filled_before i bs

pub filled_next : {S : Type 0} (i : ℕ) (bs : List (NodeStatus S)) (b : NodeStatus S) → i < length bs → is_filled b ≡ true → filled_before i bs ≡ true → filled_before (suc i) (slice_set bs i b) ≡ true
filled_next i [] b h f e = absurd (omega (arith, h))
filled_next zero (d ∷ bs) b h f e = both_hold (is_filled b) true f refl
filled_next (suc i) (d ∷ bs) b h f e = both_hold (is_filled d) _ (first_holds (is_filled d) (filled_before i bs) e) (filled_next i bs b (omega (arith, h)) f (second_holds (is_filled d) (filled_before i bs) e))

-- where as many are filled as there are, each is
pub before_all : {S : Type 0} (n : ℕ) (bs : List (NodeStatus S)) → length bs ≤ n → filled_before n bs ≡ true → are_filled bs ≡ true
before_all n [] h e = refl
before_all zero (b ∷ bs) h e = absurd (omega (arith, h))
before_all (suc n) (b ∷ bs) h e = both_hold (is_filled b) _ (first_holds (is_filled b) (filled_before n bs) e) (before_all n bs (omega (arith, h)) (second_holds (is_filled b) (filled_before n bs) e))

-- of one more that lives nothing has to be said
pub filled_more : {S : Type 0} (bs : List (NodeStatus S)) → are_filled bs ≡ true → are_filled (bs ++ code.Live ∷ []) ≡ true
filled_more {S} [] e = both_hold (is_filled {S = S} code.Live) true (live_filled S) refl
filled_more (b ∷ bs) e = both_hold (is_filled b) _ (first_holds (is_filled b) (are_filled bs) e) (filled_more bs (second_holds (is_filled b) (are_filled bs) e))

all_noted : {S : Type 0} (ls : List S) (bs : List (NodeStatus S)) → length ls ≤ length bs → are_filled bs ≡ true → noted_of_all ls (filled bs) ≡ true
all_noted [] bs k e = refl
all_noted (l ∷ ls) [] k e = absurd (omega (arith, k))
all_noted (l ∷ ls) (b ∷ bs) k e = both_hold (is_filled b) _ (first_holds (is_filled b) (are_filled bs) e) (all_noted ls bs (omega (arith, k)) (second_holds (is_filled b) (are_filled bs) e))

-- where each process has one, and these are filled, the fork is
pub fork_filled : {S : Type 0} (ls : Vec S Global) (bs : Vec (NodeStatus S) Global) → vec_len ls ≤ vec_len bs → are_filled bs.items ≡ true → is_filled (code.Forked ls bs) ≡ true
fork_filled ls bs k e =
    let n = ls.ok.0 in
    let m = bs.ok.0 in
    forked_filled ls bs ∙ all_noted ls.items bs.items (omega (arith, k, n, m)) e

-- another of the same meaning in its place
pub nodes_set : {S : Type 0} (i : ℕ) (bs : List (NodeStatus S)) (b b' : NodeStatus S) → i < length bs → b ≡ get_or bs i b → ((l : S) → node l b' ≡ node l b) → nodes (slice_set bs i b') ≡ nodes bs
nodes_set i [] b b' h e n = absurd (omega (arith, h))
nodes_set zero (d ∷ bs) b b' h e n = λ t. (λ l. (n l ∙ ap (node l) e) t) ∷ nodes bs
nodes_set (suc i) (d ∷ bs) b b' h e n = ap (λ z. (λ l. node l d) ∷ z) (nodes_set i bs b b' (omega (arith, h)) e n)

pub same_place : {S : Type 0} (i : ℕ) (ls : List S) (bs : List (NodeStatus S)) (l : S) (b b' : NodeStatus S) → i < length ls → i < length bs → l ≡ get_or ls i l → b ≡ get_or bs i b
    → node l b' ≡ node l b → together ls (nodes (slice_set bs i b')) ≡ together ls (nodes bs)
same_place i [] bs l b b' h k e f n = absurd (omega (arith, h))
same_place i (m ∷ ls) [] l b b' h k e f n = absurd (omega (arith, k))
same_place zero (m ∷ ls) (d ∷ bs) l b b' h k e f n = ap (λ z. model.node_and z (together ls (nodes bs))) ((λ t. node (sym e t) b') ∙ (n ∙ λ t. node (e t) (f t)))
same_place (suc i) (m ∷ ls) (d ∷ bs) l b b' h k e f n = ap (model.node_and (node m d)) (same_place i ls bs l b b' (omega (arith, h)) (omega (arith, k)) e f n)

-- a fork of the same meaning
pub same_fork : {S : Type 0} (l : S) (b : NodeStatus S) (ls ls' : Vec S Global) (bs bs' : Vec (NodeStatus S) Global) → b ≡ code.Forked ls bs → together ls'.items (nodes bs'.items) ≡ together ls.items (nodes bs.items) → node l (code.Forked ls' bs') ≡ node l b
same_fork l b ls ls' bs bs' e n = node_forked l ls' bs' ∙ (ap (model.Forked l) n ∙ sym (at_forked l b ls bs e))

-- From this place on each process has one, and these are filled.
abbrev pub noted_from : {S : Type 0} → ℕ → List S → List (NodeStatus S) → Bool
noted_from zero ls bs = noted_of_all ls (filled bs)
noted_from (suc i) [] bs = true
noted_from (suc i) (l ∷ ls) [] = false
noted_from (suc i) (l ∷ ls) (b ∷ bs) = noted_from i ls bs

pub noted_all : {S : Type 0} (b : NodeStatus S) (ls : Vec S Global) (bs : Vec (NodeStatus S) Global) → b ≡ code.Forked ls bs → is_filled b ≡ true → noted_from 0 ls.items bs.items ≡ true
noted_all b ls bs e f = sym (forked_filled ls bs) ∙ (sym (ap is_filled e) ∙ f)

pub noted_there : {S : Type 0} (i : ℕ) (ls : List S) (bs : List (NodeStatus S)) → noted_from i ls bs ≡ true → i < length ls → i < length bs
noted_there i [] bs e h = absurd (omega (arith, h))
noted_there zero (l ∷ ls) [] e h = absurd cc
noted_there (suc i) (l ∷ ls) [] e h = absurd cc
noted_there zero (l ∷ ls) (b ∷ bs) e h = omega arith
noted_there (suc i) (l ∷ ls) (b ∷ bs) e h = let w = noted_there i ls bs e (omega (arith, h)) in omega (arith, w)

pub noted_here : {S : Type 0} (i : ℕ) (ls : List S) (bs : List (NodeStatus S)) (b : NodeStatus S) → noted_from i ls bs ≡ true → i < length ls → b ≡ get_or bs i b → is_filled b ≡ true
noted_here i [] bs b e h f = absurd (omega (arith, h))
noted_here zero (l ∷ ls) [] b e h f = absurd cc
noted_here (suc i) (l ∷ ls) [] b e h f = absurd cc
noted_here zero (l ∷ ls) (d ∷ bs) b e h f = ap is_filled f ∙ first_holds (is_filled d) (noted_of_all ls (filled bs)) e
noted_here (suc i) (l ∷ ls) (d ∷ bs) b e h f = noted_here i ls bs b e (omega (arith, h)) f

noted_after : {S : Type 0} (i : ℕ) (ls : List S) (bs : List (NodeStatus S)) (b : NodeStatus S) → noted_from i ls bs ≡ true → noted_from (suc i) ls (slice_set bs i b) ≡ true
noted_after i [] bs b e = refl
noted_after zero (l ∷ ls) [] b e = absurd cc
noted_after (suc i) (l ∷ ls) [] b e = absurd cc
noted_after zero (l ∷ ls) (d ∷ bs) b e = second_holds (is_filled d) (noted_of_all ls (filled bs)) e
noted_after (suc i) (l ∷ ls) (d ∷ bs) b e = noted_after i ls bs b e

pub noted_next : {S : Type 0} (i : ℕ) (ls : List S) (bs : List (NodeStatus S)) (b : NodeStatus S) → noted_from i ls bs ≡ true → noted_from (i + 1) ls (slice_set bs i b) ≡ true
noted_next i ls bs b e =
    let w : i + 1 ≡ suc i = omega arith in
    ap (λ z. noted_from z ls (slice_set bs i b)) w ∙ noted_after i ls bs b e

-- a place in a vector, by its count
pub place_inside : {A : Type 0} (v w : Vec A Global) (n i : ℕ) → v ≡ w → n ≡ vec_len v → i < n → i < length v.items
place_inside v w n i same e h = let k = v.ok.0 in omega (arith, e, h, k)

-- a place past it
pub place_outside : {A : Type 0} (v w : Vec A Global) (n i : ℕ) → v ≡ w → n ≡ vec_len v → n ≤ i → length v.items ≤ i
place_outside v w n i same e h = let k = v.ok.0 in omega (arith, e, h, k)

-- a place in a vector that is another one
pub place_same : {A : Type 0} (v w : Vec A Global) (i : ℕ) → v ≡ w → i < length w.items → i < length v.items
place_same {A} v w i same h = let n = ap (λ (z : Vec A Global). length z.items) same in omega (arith, n, h)

noted_long : {S : Type 0} (ls : List S) (bs : List (NodeStatus S)) → noted_of_all ls (filled bs) ≡ true → length ls ≤ length bs
noted_long [] bs e = omega arith
noted_long (l ∷ ls) [] e = absurd cc
noted_long (l ∷ ls) (b ∷ bs) e = let w = noted_long ls bs (second_holds (is_filled b) (noted_of_all ls (filled bs)) e) in omega (arith, w)

-- where each of so many processes has one, there are as many
pub noted_enough : {S : Type 0} (v w : Vec S Global) (bs cs : Vec (NodeStatus S) Global) (n : ℕ) → v ≡ w → bs ≡ cs → n ≡ vec_len v → noted_from 0 w.items cs.items ≡ true → n ≤ vec_len bs
noted_enough {S} v w bs cs n same beside e h =
    let long = noted_long w.items cs.items h in
    let i = v.ok.0 in
    let j = bs.ok.0 in
    let a = ap (λ (z : Vec S Global). length z.items) same in
    let b = ap (λ (z : Vec (NodeStatus S) Global). length z.items) beside in
    omega (arith, long, i, j, a, b, e)
