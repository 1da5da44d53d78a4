-- At most one process of a tree has the input.
use Rattle.std.proofs.Common.{◌≡◌, ◌∙◌, ℕ, ◌+◌, ◌≤◌, Bool, true, false, cond, inl, inr, List, [], ◌∷◌, Option, Some, None, refl, sym, ap, arith}
use Rattle.shim_local.specs.Laws.{AnyOf, Forks, how_many}
use Rattle.shim_units.specs.declared.unit.UBranch.{UBranch}
use Rattle.shim_process.specs.LocalState.{LocalState, unit_at}
use Rattle.shim_process.specs.Arguments.{Argument}
use Rattle.shim_process.specs.Forks.{takes_input, item_branches, child, children_from, all_lending, parent}
use Rattle.shim_process.specs.Steps.{quiet}
use Rattle.shim_process.specs.Stops.{put, throw_evaluated, receive}
use Rattle.shim_process.specs.Unwinding.{unwind}
use Rattle.shim_semantics.specs.Nodes.{Node, Nodes, Live, Forked, node_and, states, everyone, everyone_of, all_live}
use Rattle.shim_semantics.proofs.HowMany.{no_less, no_less_than, counts, rest_counts, any_counts, states_count, at_most, one_for_one, one_before, both_less}
use Rattle.shim_process.specs.Ops.{process_ops}
use Rattle.shim_process.proofs.ForkCounts.{bit, Balanced, count_children, one_bit}
use Rattle.shim_process.proofs.ForkParts.{Parts, parts_of}
use Rattle.shim_laws_sources.specs.Sources.{is_place, holds_input}
use Rattle.shim_laws_sources.proofs.Along.{behind, Relates}
use Rattle.shim_laws_sources.proofs.InputMoves.{quiet_input, put_input, receive_input, thrown_input, unwind_input, trapped_input, join_input}

-- of no more processes than before it is true
abbrev pub NoMore : Node LocalState → Node LocalState → Type 0
NoMore n m = how_many holds_input (everyone m) ≤ how_many holds_input (everyone n)

behind_less : (ns : List (Node LocalState)) (ks js : Nodes LocalState) → how_many holds_input (everyone_of js) ≤ how_many holds_input (everyone_of ks) → how_many holds_input (everyone_of (behind ns js)) ≤ how_many holds_input (everyone_of (behind ns ks))
behind_less [] ks js h = h
behind_less (n ∷ ns) ks js h = both_less holds_input (everyone n) (everyone_of (behind ns ks)) (everyone n) (everyone_of (behind ns js)) (no_less (how_many holds_input (everyone n))) (behind_less ns ks js h)

within_less : (l : LocalState) (ns : List (Node LocalState)) (k m : Node LocalState) (ks : Nodes LocalState) → NoMore k m → NoMore (Forked l (behind ns (node_and k ks))) (Forked l (behind ns (node_and m ks)))
within_less l ns k m ks h =
    one_before holds_input l (everyone_of (behind ns (node_and m ks))) (everyone_of (behind ns (node_and k ks)))
    (behind_less ns (node_and k ks) (node_and m ks) (both_less holds_input (everyone k) (everyone_of ks) (everyone m) (everyone_of ks) h (no_less (how_many holds_input (everyone_of ks)))))

-- what a branch takes is with the child, or it is left

input_bits : (takes : Bool) (at : Option ℕ) → bit (is_place (cond takes at None)) + bit (is_place (cond takes None at)) ≡ bit (is_place at)
input_bits true None = refl
input_bits true (Some n) = refl
input_bits false None = refl
input_bits false (Some n) = refl

input_balanced : (l : LocalState) (i : ℕ) (b : UBranch) (g : List Argument) → Balanced holds_input l b (child l i b g)
input_balanced l i b g = input_bits (takes_input (unit_at l.program b.call.unit).params) l.input_at

everyone_live : (ks : List LocalState) → everyone_of (all_live ks) ≡ ks
everyone_live [] = refl
everyone_live (k ∷ ks) = ap (λ z. k ∷ z) (everyone_live ks)

equal_less : (a b c : ℕ) → a ≡ c → b ≡ c → a ≤ b
equal_less a b c e f = omega arith

forked_less : (l p : LocalState) (ks : List LocalState) → Forks process_ops l p ks → NoMore (Live l) (Forked p (all_live ks))
forked_less l p ks h =
    let w : Parts l p ks = parts_of l p ks h in
    let bs : List UBranch = item_branches l.frame.todo in
    let ps = w.parent_is in
    let cs = w.children_are in
    let made : how_many holds_input (p ∷ ks) ≡ how_many holds_input (parent l bs ∷ children_from l 0 bs w.given) = λ i. how_many holds_input (ps i ∷ cs i) in
    let counted : how_many holds_input (all_lending l bs ∷ children_from l 0 bs w.given) ≡ bit (holds_input l) =
    count_children holds_input (λ m. Unit {0}) (λ m b k. tt) (λ m i b g k suit. input_balanced m i b g) l 0 bs w.given tt w.suit in
    equal_less (how_many holds_input (p ∷ everyone_of (all_live ks))) (how_many holds_input (l ∷ [])) (bit (holds_input l))
    (ap (λ z. how_many holds_input (p ∷ z)) (everyone_live ks) ∙ (made ∙ counted))
    (one_bit (holds_input l))

some_below : (l : LocalState) (ks : Nodes LocalState) → AnyOf (λ (k : LocalState). holds_input k ≡ true) (states ks) → 1 ≤ how_many holds_input (l ∷ everyone_of ks)
some_below l ks h =
    no_less_than (how_many holds_input (l ∷ everyone_of ks)) (how_many holds_input (everyone_of ks)) 1
    (no_less_than (how_many holds_input (everyone_of ks)) (how_many holds_input (states ks)) 1 (any_counts holds_input (states ks) h) (states_count holds_input ks))
    (rest_counts holds_input l (everyone_of ks))

joined_less : (l : LocalState) (ks : Nodes LocalState) (goes_on : Bool) → NoMore (Forked l ks) (Live (process_ops.join l (states ks) goes_on))
joined_less l ks goes_on =
    at_most holds_input (process_ops.join l (states ks) goes_on) (how_many holds_input (l ∷ everyone_of ks)) (λ y. elim (join_input l (states ks) goes_on y) [
      | inl z ↦ counts holds_input l (everyone_of ks) z
      | inr z ↦ some_below l ks z
    ])

alike_less : (l m : LocalState) → holds_input m ≡ holds_input l → NoMore (Live l) (Live m)
alike_less l m e = one_for_one holds_input l m (λ y. sym e ∙ y)

pub input_relates : Relates process_ops NoMore
input_relates = record {
  same = λ n. no_less (how_many holds_input (everyone n));
  both = λ a b c e f. no_less_than (how_many holds_input (everyone a)) (how_many holds_input (everyone b)) (how_many holds_input (everyone c)) f e;
  within = within_less;
  quiet = λ l s at. alike_less l (quiet l) (quiet_input l);
  puts = λ l s at. alike_less l (put l) (put_input l);
  receives = λ l v s. alike_less l (receive l v) (receive_input l v);
  throws = λ l s. alike_less l (throw_evaluated l) (thrown_input l);
  unwinds = λ l x v s. alike_less l (unwind l x v) (unwind_input l x v);
  forks = λ l p ks s h. forked_less l p ks h;
  traps = λ l m s at e. alike_less l m (trapped_input l m e);
  ends = λ l. no_less (how_many holds_input (l ∷ []));
  dies = λ l x. no_less (how_many holds_input (l ∷ []));
  joins = λ l ks goes_on s all born done. joined_less l ks goes_on;
}
