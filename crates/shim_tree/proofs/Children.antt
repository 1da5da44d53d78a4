-- What each form of a process means with what came of it, and a child in its place.
use Rattle.std.proofs.Common.{◌≡◌, ℕ, zero, suc, ◌+◌, ◌<◌, ◌≤◌, Some, None, List, [], ◌∷◌, ◌++◌, length, get_or, slice_set, vec_len, refl, sym, ap, subst, ◌∙◌, arith}
use Rattle.std.specs.declared.vec.Vec.{Vec}
use Rattle.std.specs.declared.alloc.Global.{Global}
use Rattle.shim_local.specs.Process.{Ops, AtFork, Parted}
use Rattle.shim_semantics.specs.Nodes as model
use Rattle.shim_semantics.specs.Nodes.{state, states, all_done, prevailing_death}
use Rattle.shim_semantics.specs.Acts.{Effects, Acted, nothing, act, act_child, act_here, act_live, parted, closed, within, in_front, in_later}
use Rattle.shim_semantics.specs.Places.{SoundBelow, SoundChildren}
use Rattle.shim_tree.specs.declared.node_status.NodeStatus.{NodeStatus}
use Rattle.shim_tree.specs.declared.node_status.NodeStatus.TheVariants as code
use Rattle.shim_tree.specs.declared.node_status.NodeStatus.TheOpen as open_below
use Rattle.shim_tree.specs.declared.node_status.NodeStatus.TheFolds.{fold-roll-NodeStatus, fold_out-NodeStatus, fold-NodeStatus}
use Rattle.shim_tree.specs.NodeStatus.{node, nodes, node_step, together}
use Rattle.shim_tree.specs.Acting.{SoundAmong}
use Rattle.shim_base.proofs.Facts.{cond_there}

pub node_live : {S : Type 0} (l : S) → node l code.Live ≡ model.Live l
node_live {S} l = ap (node l) (sym code.rolls-Live) ∙ ap (λ f. f l) (fold-roll-NodeStatus S (S → model.Node S) node_step open_below.Live)

pub node_forked : {S : Type 0} (l : S) (ls : _) (bs : _) → node l (code.Forked ls bs) ≡ model.Forked l (together ls.items (nodes bs.items))
node_forked {S} l ls bs = ap (node l) (sym (code.rolls-Forked ls bs)) ∙ ap (λ f. f l) (fold-roll-NodeStatus S (S → model.Node S) node_step (open_below.Forked ls bs))

pub at_forked : {S : Type 0} (l : S) (b : NodeStatus S) (ls : _) (bs : _) → b ≡ code.Forked ls bs → node l b ≡ model.Forked l (together ls.items (nodes bs.items))
at_forked l b ls bs e = ap (node l) e ∙ node_forked l ls bs

pub together_none : {S : Type 0} (ls : List S) → together ls [] ≡ model.all_live ls
together_none [] = refl
together_none (l ∷ ls) = ap (model.node_and (model.Live l)) (together_none ls)

together_more : {S : Type 0} (ls : List S) (fs : List (S → model.Node S)) (f : S → model.Node S) → ((l : S) → f l ≡ model.Live l) → together ls (fs ++ f ∷ []) ≡ together ls fs
together_more [] fs f h = refl
together_more (l ∷ ls) [] f h = ap (λ n. model.node_and n (together ls [])) (h l)
together_more (l ∷ ls) (g ∷ fs) f h = ap (model.node_and (g l)) (together_more ls fs f h)

-- that one more lives says nothing new
pub nodes_more : {S : Type 0} (ls : List S) (bs : List (NodeStatus S)) → together ls (nodes (bs ++ code.Live ∷ [])) ≡ together ls (nodes bs)
nodes_more {S} ls bs = ap (together ls) (mapped bs) ∙ together_more ls (nodes bs) (fold-NodeStatus S (S → model.Node S) node_step code.Live) (λ l. node_live l)
  where
    mapped : (bs : List (NodeStatus S)) → nodes (bs ++ code.Live ∷ []) ≡ nodes bs ++ fold-NodeStatus S (S → model.Node S) node_step code.Live ∷ []
    mapped [] = refl
    mapped (b ∷ bs) = ap (λ z. fold-NodeStatus S (S → model.Node S) node_step b ∷ z) (mapped bs)

state_step : {S : Type 0} (x : open_below.NodeStatus-F S (S → model.Node S)) (l : S) → state (node_step x l) ≡ l
state_step open_below.Live l = refl
state_step (open_below.Forked ls bs) l = refl
state_step open_below.Ended l = refl
state_step (open_below.Dead x) l = refl

pub state_node : {S : Type 0} (l : S) (b : NodeStatus S) → state (node l b) ≡ l
state_node {S} l b = ap (λ (f : S → model.Node S). state (f l)) (fold_out-NodeStatus S (S → model.Node S) node_step b) ∙ state_step _ l

pub states_together : {S : Type 0} (ls : List S) (bs : List (NodeStatus S)) → states (together ls (nodes bs)) ≡ ls
states_together [] bs = refl
states_together (l ∷ ls) [] = ap (λ z. l ∷ z) (states_together ls [])
states_together (l ∷ ls) (b ∷ bs) = ap (λ z. z ∷ states (together ls (nodes bs))) (state_node l b) ∙ ap (λ z. l ∷ z) (states_together ls bs)

-- a fork, as the code does it
pub fork_acts : {S : Type 0} (o : Ops S) (l m : S) (b : NodeStatus S) (ls : Vec S Global) (bs : Vec (NodeStatus S) Global) → b ≡ code.Live → o.stop l ≡ AtFork → o.fork l ≡ Parted m ls.items → bs.items ≡ []
    → act_here o (node l b) ≡ Some (record { node = node m (code.Forked ls bs); effects = nothing })
fork_acts {S} o l m b ls bs e s f none_of =
    ap (act_here o) (ap (node l) e ∙ node_live l) ∙ (ap (act_live o l) s ∙ (ap (λ z. let r : Acted S = record { node = parted z; effects = nothing } in Some r) f
    ∙ sym (ap (λ z. let r : Acted S = record { node = z; effects = nothing } in Some r) (node_forked m ls bs ∙ ap (model.Forked m) (ap (λ z. together ls.items (nodes z)) none_of ∙ together_none ls.items)))))

-- the children of a fork are born of its process
pub forked_born : {S : Type 0} (o : Ops S) (l : S) (b : NodeStatus S) (ls : _) (bs : _) → b ≡ code.Forked ls bs → SoundBelow o (node l b) → o.born l ls.items
forked_born o l b ls bs e s =
    let w = subst (SoundBelow o) (at_forked l b ls bs e) s in
    subst (o.born l) (states_together ls.items bs.items) w.born

-- a fork's close
pub close_acts : {S : Type 0} (o : Ops S) (l : S) (b : NodeStatus S) (ls : _) (bs : _) → b ≡ code.Forked ls bs → (act_here o (node l b) ≡ None → ⊥)
    → act_here o (node l b) ≡ Some (closed o l ls.items (prevailing_death (together ls.items (nodes bs.items))))
close_acts {S} o l b ls bs e h =
    let n = at_forked l b ls bs e in
    let ks = together ls.items (nodes bs.items) in
    let w = cond_there (all_done ks) (Some (closed o l (states ks) (prevailing_death ks))) (λ z. h (ap (act_here o) n ∙ z)) in
    ap (act_here o) n ∙ (w.1 ∙ ap (λ z. Some (closed o l z (prevailing_death ks))) (states_together ls.items bs.items))

pub forked_among : {S : Type 0} (o : Ops S) (l : S) (b : NodeStatus S) (ls : _) (bs : _) → b ≡ code.Forked ls bs → SoundBelow o (node l b) → SoundAmong o (together ls.items (nodes bs.items))
forked_among o l b ls bs e s =
    let w = subst (SoundBelow o) (at_forked l b ls bs e) s in (l, w.number, 0, w.children)

-- what acts below a fork acts among the children
pub forked_acts : {S : Type 0} (o : Ops S) (l : S) (b : NodeStatus S) (ls : _) (bs : _) (i : ℕ) (q : List ℕ) → b ≡ code.Forked ls bs → (act o (i ∷ q) (node l b) ≡ None → ⊥)
    → act_child o i q (together ls.items (nodes bs.items)) ≡ None → ⊥
forked_acts o l b ls bs i q e h n = h (ap (act o (i ∷ q)) (at_forked l b ls bs e) ∙ ap (within l) n)

-- a child that acts is there
pub child_there : {S : Type 0} (o : Ops S) (i : ℕ) (q : List ℕ) (ls : List S) (fs : List (S → model.Node S)) → (act_child o i q (together ls fs) ≡ None → ⊥) → i < length ls
child_there o i q [] fs h = absurd (h refl)
child_there o zero q (l ∷ ls) fs h = omega arith
child_there o (suc i) q (l ∷ ls) [] h = let w = child_there o i q ls [] (λ e. h (ap (in_later (model.Live l)) e)) in omega arith
child_there o (suc i) q (l ∷ ls) (f ∷ fs) h = let w = child_there o i q ls fs (λ e. h (ap (in_later (f l)) e)) in omega arith

-- the place of a child that acts, after it was said of each child what came of it
pub record Place {S : Type 0} (i : ℕ) (ls : List S) (bs bs' : List (NodeStatus S)) : Type 0 where
  pub there : i < length ls
  pub inside : i < length bs'
  pub same : together ls (nodes bs') ≡ together ls (nodes bs)

pub place_of : {S : Type 0} (o : Ops S) (i : ℕ) (q : List ℕ) (ls ls' : List S) (bs : List (NodeStatus S)) (bs' : Vec (NodeStatus S) Global) → (act_child o i q (together ls (nodes bs)) ≡ None → ⊥)
    → ls' ≡ ls → together ls' (nodes bs'.items) ≡ together ls' (nodes bs) → length ls' ≤ vec_len bs' → Place i ls bs bs'.items
place_of o i q ls ls' bs bs' h e same long =
    let there = child_there o i q ls (nodes bs) h in
    let k = bs'.ok.0 in
    let n = ap length e in
    record { there = there; inside = omega arith; same = subst (λ z. together z (nodes bs'.items) ≡ together z (nodes bs)) e same }

pub sound_child : {S : Type 0} (o : Ops S) (i : ℕ) (ls : List S) (bs : List (NodeStatus S)) (l : S) (b : NodeStatus S) → i < length ls → i < length bs → l ≡ get_or ls i l → b ≡ get_or bs i b
    → SoundAmong o (together ls (nodes bs)) → SoundBelow o (node l b)
sound_child {S} o i ls bs l b h k d e s = sound_place s.0 s.1 s.2 i ls bs h k d e s.3
  where
    sound_place : (p : S) (f j i : ℕ) (ls : List S) (bs : List (NodeStatus S)) → i < length ls → i < length bs → l ≡ get_or ls i l → b ≡ get_or bs i b
        → SoundChildren o p f j (together ls (nodes bs)) → SoundBelow o (node l b)
    sound_place p f j i [] bs h k d e s = absurd (omega arith)
    sound_place p f j i (m ∷ ls) [] h k d e s = absurd (omega arith)
    sound_place p f j zero (m ∷ ls) (c ∷ bs) h k d e s = subst (SoundBelow o) (λ t. node (sym d t) (sym e t)) s.1
    sound_place p f j (suc i) (m ∷ ls) (c ∷ bs) h k d e s = sound_place p f (j + 1) i ls bs (omega arith) (omega arith) d e s.2

-- the child at a place acts
pub acts_none : {S : Type 0} (o : Ops S) (i : ℕ) (q : List ℕ) (ls : List S) (bs : List (NodeStatus S)) (l : S) (b : NodeStatus S) → i < length ls → i < length bs → l ≡ get_or ls i l → b ≡ get_or bs i b
    → act o q (node l b) ≡ None → act_child o i q (together ls (nodes bs)) ≡ None
acts_none o i q [] bs l b h k e f n = refl
acts_none o i q (m ∷ ls) [] l b h k e f n = absurd (omega arith)
acts_none o zero q (m ∷ ls) (c ∷ bs) l b h k e f n = ap (in_front (together ls (nodes bs))) (ap (act o q) (λ t. node (sym e t) (sym f t)) ∙ n)
acts_none o (suc i) q (m ∷ ls) (c ∷ bs) l b h k e f n = ap (in_later (node m c)) (acts_none o i q ls bs l b (omega arith) (omega arith) e f n)

pub acts_some : {S : Type 0} (o : Ops S) (i : ℕ) (q : List ℕ) (ls : List S) (bs : List (NodeStatus S)) (l l' : S) (b b' : NodeStatus S) (x : Effects) → i < length ls → i < length bs → l ≡ get_or ls i l → b ≡ get_or bs i b
    → act o q (node l b) ≡ Some (record { node = node l' b'; effects = x }) → act_child o i q (together ls (nodes bs)) ≡ Some (together (slice_set ls i l') (nodes (slice_set bs i b')), x)
acts_some o i q [] bs l l' b b' x h k e f n = absurd (omega arith)
acts_some o i q (m ∷ ls) [] l l' b b' x h k e f n = absurd (omega arith)
acts_some o zero q (m ∷ ls) (c ∷ bs) l l' b b' x h k e f n = ap (in_front (together ls (nodes bs))) (ap (act o q) (λ t. node (sym e t) (sym f t)) ∙ n)
acts_some o (suc i) q (m ∷ ls) (c ∷ bs) l l' b b' x h k e f n = ap (in_later (node m c)) (acts_some o i q ls bs l l' b b' x (omega arith) (omega arith) e f n)

pub acts_same : {S : Type 0} (i : ℕ) (ls : List S) (bs : List (NodeStatus S)) (l l' : S) (b b' : NodeStatus S) → i < length ls → i < length bs → l ≡ get_or ls i l → b ≡ get_or bs i b
    → node l' b' ≡ node l b → together (slice_set ls i l') (nodes (slice_set bs i b')) ≡ together ls (nodes bs)
acts_same i [] bs l l' b b' h k e f n = absurd (omega arith)
acts_same i (m ∷ ls) [] l l' b b' h k e f n = absurd (omega arith)
acts_same zero (m ∷ ls) (c ∷ bs) l l' b b' h k e f n = ap (λ z. model.node_and z (together ls (nodes bs))) (n ∙ λ t. node (e t) (f t))
acts_same (suc i) (m ∷ ls) (c ∷ bs) l l' b b' h k e f n = ap (model.node_and (node m c)) (acts_same i ls bs l l' b b' (omega arith) (omega arith) e f n)
