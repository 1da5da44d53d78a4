-- Each event leaves each process of a tree what it needs for its channels.
use Rattle.std.proofs.Common.{◌≡◌, ◌∙◌, ℕ, ◌+◌, ◌<◌, true, inl, inr, List, [], ◌∷◌, sym, ap, subst}
use Rattle.std.specs.Prelude.{slice_get}
use Rattle.shim_base.specs.Paths.{Channel}
use Rattle.shim_local.specs.Laws.{AllOf}
use Rattle.shim_semantics.specs.Nodes.{Node, Nodes, Live, Forked, Ended, Dead, no_node, node_and, all_done, state, states}
use Rattle.shim_process.specs.Ops.{process_ops}
use Rattle.shim_units.specs.declared.unit.Arg.{Arg}
use Rattle.shim_units.specs.declared.unit.Arg.TheVariants.{Ref, Pass, Fresh}
use Rattle.shim_units.specs.declared.unit.UBranch.{UBranch}
use Rattle.shim_process.specs.Forks.{item_branches}
use Rattle.shim_process.specs.LocalState.{LocalState}
use Rattle.shim_laws_sources.specs.Anchored.{IsAnchoredWhole, Stays}
use Rattle.shim_laws_sources.specs.Homes.{GivesBack, OneGivesBack, IsGivenBy, IsWaitingFor, IsHome, AreHome}
use Rattle.shim_laws_sources.proofs.Along.{behind, Relates}
use Rattle.shim_laws_sources.proofs.ForkHomes.{fork_home}
use Rattle.shim_laws_sources.proofs.WholeEnds.{stays_same, stays_both}
use Rattle.shim_laws_sources.proofs.WholeUnwinds.{unwind_whole}
use Rattle.shim_laws_sources.proofs.WholeSteps.{quiet_whole, thrown_whole, put_whole, receive_whole, fork_trapped_whole}
use Rattle.shim_laws_sources.proofs.WholeJoins.{join_whole}

-- where the first tree has it, the second one has it, and what is its root stays
abbrev pub StaysHome : Node LocalState → Node LocalState → Type 0
StaysHome n m = IsHome n → IsHome m × Stays (state n) (state m)

-- what a child gives back it gives back later
gives_later : (slots : List ℕ) (j : ℕ) (args : List Arg) (k m : LocalState) (n : ℕ) (c : Channel) → Stays k m → GivesBack slots j args k n c → GivesBack slots j args m n c
gives_later slots j [] k m n c s g = absurd g
gives_later slots j (Ref x ∷ rest) k m n c s (inl g) = inl (g.0, subst (λ (i : ℕ). j < i) (sym s.many) g.1, s.owned j c g.1 g.2)
gives_later slots j (Ref x ∷ rest) k m n c s (inr g) = inr (gives_later slots (j + 1) rest k m n c s g)
gives_later slots j (Pass x ∷ rest) k m n c s g = gives_later slots (j + 1) rest k m n c s g
gives_later slots j (Fresh e ∷ rest) k m n c s g = gives_later slots (j + 1) rest k m n c s g

one_later : (slots : List ℕ) (bs : List UBranch) (ns : List (Node LocalState)) (k m : Node LocalState) (ks : Nodes LocalState) (n : ℕ) (c : Channel) → Stays (state k) (state m)
    → OneGivesBack slots bs (states (behind ns (node_and k ks))) n c → OneGivesBack slots bs (states (behind ns (node_and m ks))) n c
one_later slots [] ns k m ks n c s g = absurd g
one_later slots (b ∷ bs) [] k m ks n c s (inl g) = inl (gives_later slots 0 b.call.args (state k) (state m) n c s g)
one_later slots (b ∷ bs) [] k m ks n c s (inr g) = inr g
one_later slots (b ∷ bs) (x ∷ ns) k m ks n c s (inl g) = inl g
one_later slots (b ∷ bs) (x ∷ ns) k m ks n c s (inr g) = inr (one_later slots bs ns k m ks n c s g)

given_later : (l k m : LocalState) → Stays k m → IsGivenBy l k → IsGivenBy l m
given_later l k m s h at d e = elim (h at d (ap (λ g. slice_get g at) (sym s.given) ∙ e)) [
  | inl here ↦ inl (here ∙ sym s.path)
  | inr w ↦ inr w
]

all_given_later : (l : LocalState) (ns : List (Node LocalState)) (k m : Node LocalState) (ks : Nodes LocalState) → Stays (state k) (state m)
    → AllOf (IsGivenBy l) (states (behind ns (node_and k ks))) → AllOf (IsGivenBy l) (states (behind ns (node_and m ks)))
all_given_later l [] k m ks s h = (given_later l (state k) (state m) s h.0, h.1)
all_given_later l (x ∷ ns) k m ks s h = (h.0, all_given_later l ns k m ks s h.1)

-- the children, of which one changes
children_home : (ns : List (Node LocalState)) (k m : Node LocalState) (ks : Nodes LocalState) → StaysHome k m → AreHome (behind ns (node_and k ks)) → AreHome (behind ns (node_and m ks)) × Stays (state k) (state m)
children_home [] k m ks r h = let w = r h.0 in ((w.0, h.1), w.1)
children_home (x ∷ ns) k m ks r h = let w = children_home ns k m ks r h.1 in ((h.0, w.0), w.1)

within_home : (l : LocalState) (ns : List (Node LocalState)) (k m : Node LocalState) (ks : Nodes LocalState) → StaysHome k m → StaysHome (Forked l (behind ns (node_and k ks))) (Forked l (behind ns (node_and m ks)))
within_home l ns k m ks r h =
    let waits : IsWaitingFor l (states (behind ns (node_and k ks))) = h.0 in
    let w = children_home ns k m ks r h.1 in (
      (
        record {
          anchored = waits.anchored;
          lent = λ n x e lent. one_later l.frame.slots (item_branches l.frame.todo) ns k m ks n x.channel.channel w.1 (waits.lent n x e lent);
          given = all_given_later l ns k m ks w.1 waits.given;
        },
        w.0,
      ),
      stays_same l,
    )

-- children that are done are whole
done_whole : (ks : Nodes LocalState) → all_done ks ≡ true → AreHome ks → AllOf IsAnchoredWhole (states ks)
done_whole no_node e h = tt
done_whole (node_and (Live l) ks) e h = absurd cc
done_whole (node_and (Forked l js) ks) e h = absurd cc
done_whole (node_and (Ended l) ks) e h = (h.0, done_whole ks e h.1)
done_whole (node_and (Dead l x) ks) e h = (h.0, done_whole ks e h.1)

pub home_relates : Relates process_ops StaysHome
home_relates = record {
  same = λ n h. (h, stays_same (state n));
  both = λ a b c f g h. let w = f h in let v = g w.0 in (v.0, stays_both (state a) (state b) (state c) w.1 v.1);
  within = within_home;
  quiet = λ l s at h. quiet_whole l h;
  puts = λ l s at h. put_whole l h;
  receives = λ l v s h. receive_whole l v h;
  throws = λ l s h. thrown_whole l h;
  unwinds = λ l x v s h. unwind_whole l x v h;
  forks = λ l p ks s at h. fork_home l p ks s h at;
  traps = λ l m s at e h. fork_trapped_whole l m e h;
  ends = λ l h. (h, stays_same l);
  dies = λ l x h. (h, stays_same l);
  joins = λ l ks goes_on s all born done h. join_whole l (states ks) goes_on h.0 (done_whole ks done h.1) born;
}
