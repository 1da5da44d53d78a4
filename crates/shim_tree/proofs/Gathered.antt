-- The waits of a tree, child by child.
use Rattle.std.proofs.Common.{◌≡◌, ℕ, zero, suc, ◌+◌, ◌<◌, ◌≤◌, List, [], ◌∷◌, length, drop, get_or, refl, sym, ap, ◌∙◌, arith}
use Rattle.std.specs.FinMap.{FinMap}
use Rattle.shim_base.specs.Paths.{NamedChannel, path_order}
use Rattle.shim_local.specs.Process.{Ops}
use Rattle.shim_semantics.specs.Nodes as model
use Rattle.shim_semantics.specs.Nodes.{next_channel}
use Rattle.shim_semantics.specs.Endings.{wait_of, waiting, all_waiting, outcome_of_root, outcome_of_label}
use Rattle.shim_tree.specs.NodeStatus.{together, node, nodes, node_step}
use Rattle.shim_run_log.specs.Waits.{with_waits}
use Rattle.shim_tree.specs.declared.node_status.NodeStatus.{NodeStatus}
use Rattle.shim_tree.specs.declared.node_status.NodeStatus.TheVariants as code
use Rattle.shim_tree.specs.declared.node_status.NodeStatus.TheOpen as open_below
use Rattle.shim_tree.specs.declared.node_status.NodeStatus.TheFolds.{fold-roll-NodeStatus}
use Rattle.shim_run_log.proofs.WaitsAdded.{with_both}

node_live : {S : Type 0} (l : S) → node l code.Live ≡ model.Live l
node_live {S} l = ap (node l) (sym code.rolls-Live) ∙ ap (λ f. f l) (fold-roll-NodeStatus S (S → model.Node S) node_step open_below.Live)

node_dead : {S : Type 0} (l : S) (x : model.Death) → node l (code.Dead x) ≡ model.Dead l x
node_dead {S} l x = ap (node l) (sym (code.rolls-Dead x)) ∙ ap (λ f. f l) (fold-roll-NodeStatus S (S → model.Node S) node_step (open_below.Dead x))

node_forked : {S : Type 0} (l : S) (ls : _) (bs : _) → node l (code.Forked ls bs) ≡ model.Forked l (together ls.items (nodes bs.items))
node_forked {S} l ls bs = ap (node l) (sym (code.rolls-Forked ls bs)) ∙ ap (λ f. f l) (fold-roll-NodeStatus S (S → model.Node S) node_step (open_below.Forked ls bs))

pub at_live : {S : Type 0} (l : S) (b : NodeStatus S) → b ≡ code.Live → node l b ≡ model.Live l
at_live l b e = ap (node l) e ∙ node_live l

pub at_dead : {S : Type 0} (l : S) (b : NodeStatus S) (x : model.Death) → b ≡ code.Dead x → node l b ≡ model.Dead l x
at_dead l b x e = ap (node l) e ∙ node_dead l x

pub at_forked : {S : Type 0} (l : S) (b : NodeStatus S) (ls : _) (bs : _) → b ≡ code.Forked ls bs → node l b ≡ model.Forked l (together ls.items (nodes bs.items))
at_forked l b ls bs e = ap (node l) e ∙ node_forked l ls bs

pub outcome_at_dead : {S : Type 0} (l : S) (b : NodeStatus S) (x : model.Death) → b ≡ code.Dead x → outcome_of_label x.label ≡ outcome_of_root (node l b)
outcome_at_dead l b x e = sym (ap outcome_of_root (at_dead l b x e))

module _ {S : Type 0} (o : Ops S) where
  gathered : (m m' : FinMap path_order NamedChannel) (k k' : model.Node S) (ks : model.Nodes S) → k ≡ k' → m' ≡ with_waits m (waiting o k) → with_waits m' (all_waiting o ks) ≡ with_waits m (all_waiting o (model.node_and k' ks))
  gathered m m' k k' ks e is = ap (λ z. with_waits z (all_waiting o ks)) (is ∙ ap (λ z. with_waits m (waiting o z)) e) ∙ sym (with_both m (waiting o k') (all_waiting o ks))

  child_gathered : (m m' : FinMap path_order NamedChannel) (i : ℕ) (ls : List S) (bs : List (NodeStatus S)) (l : S) (b : NodeStatus S) → i < length ls → i < length bs → l ≡ get_or ls i l → b ≡ get_or bs i b → m' ≡ with_waits m (waiting o (node l b))
      → with_waits m' (all_waiting o (together (drop (suc i) ls) (nodes (drop (suc i) bs)))) ≡ with_waits m (all_waiting o (together (drop i ls) (nodes (drop i bs))))
  child_gathered m m' i [] bs l b h k e f is = absurd (omega arith)
  child_gathered m m' i (n ∷ ls) [] l b h k e f is = absurd (omega arith)
  child_gathered m m' zero (n ∷ ls) (d ∷ bs) l b h k e f is = gathered m m' (node l b) (node n d) (together ls (nodes bs)) (λ i. node (e i) (f i)) is
  child_gathered m m' (suc i) (n ∷ ls) (d ∷ bs) l b h k e f is = child_gathered m m' i ls bs l b (omega arith) (omega arith) e f is

  drop_past : {A : Type 0} (xs : List A) (i : ℕ) → length xs ≤ i → drop i xs ≡ []
  drop_past [] zero h = refl
  drop_past [] (suc i) h = refl
  drop_past (x ∷ xs) zero h = absurd (omega arith)
  drop_past (x ∷ xs) (suc i) h = drop_past xs i (omega arith)

  gathered_alone : (m m' : FinMap path_order NamedChannel) (i : ℕ) (ls : List S) (l : S) → i < length ls → l ≡ get_or ls i l → m' ≡ with_waits m (waiting o (model.Live l))
      → with_waits m' (all_waiting o (together (drop (suc i) ls) [])) ≡ with_waits m (all_waiting o (together (drop i ls) []))
  gathered_alone m m' i [] l h e is = absurd (omega arith)
  gathered_alone m m' zero (n ∷ ls) l h e is = gathered m m' (model.Live l) (model.Live n) (together ls []) (ap model.Live e) is
  gathered_alone m m' (suc i) (n ∷ ls) l h e is = gathered_alone m m' i ls l (omega arith) e is

  live_gathered : (m m' : FinMap path_order NamedChannel) (i : ℕ) (ls : List S) (bs : List (NodeStatus S)) (l : S) → i < length ls → length bs ≤ i → l ≡ get_or ls i l → m' ≡ with_waits m (wait_of (o.path l) (next_channel (o.stop l)))
      → with_waits m' (all_waiting o (together (drop (suc i) ls) (nodes (drop (suc i) bs)))) ≡ with_waits m (all_waiting o (together (drop i ls) (nodes (drop i bs))))
  live_gathered m m' i ls bs l h k e is =
      ap (λ z. with_waits m' (all_waiting o (together (drop (suc i) ls) (nodes z)))) (drop_past bs (suc i) (omega arith))
      ∙ gathered_alone m m' i ls l h e is
      ∙ sym (ap (λ z. with_waits m (all_waiting o (together (drop i ls) (nodes z)))) (drop_past bs i k))

  pub gathered_child : (m m' added w : FinMap path_order NamedChannel) (i : ℕ) (ls : List S) (bs : List (NodeStatus S)) (l : S) (b : NodeStatus S) → i < length ls → i < length bs → l ≡ get_or ls i l → b ≡ get_or bs i b → m' ≡ added → added ≡ with_waits m (waiting o (node l b))
      → with_waits m (all_waiting o (together (drop i ls) (nodes (drop i bs)))) ≡ w → with_waits m' (all_waiting o (together (drop (i + 1) ls) (nodes (drop (i + 1) bs)))) ≡ w
  gathered_child m m' added w i ls bs l b h k e f new is so_far =
      let next : i + 1 ≡ suc i = omega arith in
      ap (λ z. with_waits m' (all_waiting o (together (drop z ls) (nodes (drop z bs))))) next ∙ child_gathered m m' i ls bs l b h k e f (new ∙ is) ∙ so_far

  pub gathered_live : (m m' added w : FinMap path_order NamedChannel) (i : ℕ) (ls : List S) (bs : List (NodeStatus S)) (l : S) → i < length ls → length bs ≤ i → l ≡ get_or ls i l → m' ≡ added → added ≡ with_waits m (wait_of (o.path l) (next_channel (o.stop l)))
      → with_waits m (all_waiting o (together (drop i ls) (nodes (drop i bs)))) ≡ w → with_waits m' (all_waiting o (together (drop (i + 1) ls) (nodes (drop (i + 1) bs)))) ≡ w
  gathered_live m m' added w i ls bs l h k e new is so_far =
      let next : i + 1 ≡ suc i = omega arith in
      ap (λ z. with_waits m' (all_waiting o (together (drop z ls) (nodes (drop z bs))))) next ∙ live_gathered m m' i ls bs l h k e (new ∙ is) ∙ so_far

  pub gathered_all : (m m' : FinMap path_order NamedChannel) (i : ℕ) (l : S) (b : NodeStatus S) (ls : _) (bs : _) → b ≡ code.Forked ls bs → length ls.items ≤ i
      → with_waits m' (all_waiting o (together (drop i ls.items) (nodes (drop i bs.items)))) ≡ with_waits m (all_waiting o (together ls.items (nodes bs.items)))
      → m' ≡ with_waits m (waiting o (node l b))
  gathered_all m m' i l b ls bs e h is =
      sym (ap (λ z. with_waits m' (all_waiting o (together z (nodes (drop i bs.items))))) (drop_past ls.items i h))
      ∙ is
      ∙ sym (ap (λ z. with_waits m (waiting o z)) (at_forked l b ls bs e))
