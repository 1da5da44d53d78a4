-- The definitions at work on small processes: what is caught, what dies, what poisons, and what closes.
use Rattle.std.specs.Prelude.{◌≡◌, ℕ, pos, true, false, Some, None, List, [], ◌∷◌, refl}
use Rattle.shim_base.specs.Paths.{Path, NamedChannel}
use Rattle.shim_base.specs.declared.operators.Trap.TheVariants.{Zero}
use Rattle.shim_tests_small.specs.Small.{SmallView, small_ops}
use Rattle.shim_tests_small.specs.declared.small.Step.{Step}
use Rattle.shim_tests_small.specs.declared.small.Step.TheVariants as step
use Rattle.shim_semantics.specs.Nodes.{Node, Live, Forked, Ended, Dead, death, death_with, no_node, node_and}
use Rattle.shim_semantics.specs.Acts.{act, act_here, catch_logged, trapping, nothing}
use Rattle.shim_semantics.specs.Places.{led_to, meets}
use Rattle.shim_semantics.specs.Trees.{Closes, is_its, poisons}
use Rattle.shim_semantics.specs.Quiets.{quiets}

abbrev home : NamedChannel
home = record { channel = record { home = []; serial = 2 }; name = 7 }

-- a process of this path with these steps left, one place around it, and these of its own
abbrev one : Path → List Step → List (ℕ × ℕ) → SmallView
one p steps places = record { path = p; left = steps; value = pos 5; chan = home; forks = 0; base = 1; places = places }

-- a child of a fork around which two places are in force
abbrev child : ℕ → List Step → SmallView
child i steps = record { path = (0, i) ∷ []; left = steps; value = pos 5; chan = home; forks = 0; base = 2; places = [] }

abbrev parent : SmallView
parent = record { path = []; left = step.Fork ∷ step.Put ∷ []; value = pos 5; chan = home; forks = 1; base = 1; places = (9, 3) ∷ [] }

-- a throw is caught by a place of its own, and logged; else it is dead
pub caught : act_here small_ops (Live (one [] (step.Throw 1 6 ∷ step.Put ∷ []) ((9, 3) ∷ [])))
    ≡ Some (record { node = Live (record (one [] (step.Put ∷ []) []) { value = pos 6 }); effects = catch_logged (9, 3) })
caught = refl

pub dead : act_here small_ops (Live (child 0 (step.Throw 1 6 ∷ [])))
    ≡ Some (record { node = Dead (child 0 (step.Throw 1 6 ∷ [])) (death_with 1 (pos 6)); effects = nothing })
dead = refl

-- a trap is logged, and is no handler's
pub trapped : act_here small_ops (Live (one [] (step.Trap ∷ []) ((9, 3) ∷ [])))
    ≡ Some (record { node = Dead (one [] (step.Trap ∷ []) ((9, 3) ∷ [])) (death_with 0 (pos 0)); effects = trapping Zero 1 })
trapped = refl

-- the fork above a child that waits and one that died of the exception of the place around the fork
abbrev spoiled : Node SmallView
spoiled = Forked parent (node_and (Live (child 0 (step.Next ∷ []))) (node_and (Dead (child 1 (step.Throw 1 6 ∷ [])) (death_with 1 (pos 6))) no_node))

abbrev both_dead : Node SmallView
both_dead = Forked parent (node_and (Dead (child 0 (step.Next ∷ [])) (death 1)) (node_and (Dead (child 1 (step.Throw 1 6 ∷ [])) (death_with 1 (pos 6))) no_node))

-- the channel can't meet, since a child that shares it is dead; the one that waits is poisoned
pub no_meeting : meets small_ops home.channel spoiled ≡ false
no_meeting = refl

pub poison_done : poisons small_ops ((0, 0) ∷ []) home.channel spoiled ≡ Some both_dead
poison_done = refl

pub not_the_other : poisons small_ops ((0, 1) ∷ []) home.channel spoiled ≡ None
not_the_other = refl

pub not_the_root : poisons small_ops [] home.channel spoiled ≡ None
not_the_root = refl

-- then the fork closes with the label of the dead, which its parent catches
pub close_catches : act small_ops [] both_dead
    ≡ Some (record { node = Live (record { path = []; left = step.Put ∷ []; value = pos 6; chan = home; forks = 1; base = 1; places = [] }); effects = catch_logged (9, 3) })
close_catches = refl

-- the second child of that fork, which forked inside of a place of its own, and whose one child died of the exception of that place
abbrev inner : Node SmallView
inner = Forked (record { path = (0, 1) ∷ []; left = step.Fork ∷ []; value = pos 5; chan = home; forks = 1; base = 2; places = (8, 4) ∷ [] })
    (node_and (Dead (record { path = (0, 1) ∷ (0, 0) ∷ []; left = []; value = pos 5; chan = home; forks = 0; base = 3; places = [] }) (death_with 2 (pos 6))) no_node)

-- that poisons nobody outside, since the label isn't below those in force at the outer fork: the inner fork closes first
abbrev outer : Node SmallView
outer = Forked parent (node_and (Live (child 0 (step.Next ∷ []))) (node_and inner no_node))

pub spared : poisons small_ops ((0, 0) ∷ []) home.channel outer ≡ None
spared = refl

pub inner_closes : is_its small_ops Closes ((0, 1) ∷ []) (led_to small_ops outer ((0, 1) ∷ [])) ≡ true
inner_closes = refl

-- of two deaths that of the lesser label prevails, which is a trap's here, and the parent dies so
pub least_prevails : act small_ops [] (Forked parent (node_and (Dead (child 0 []) (death 1)) (node_and (Dead (child 1 []) (death_with 0 (pos 0))) no_node)))
    ≡ Some (record { node = Dead parent (death_with 0 (pos 0)); effects = nothing })
least_prevails = refl

-- an ended child and a dead one close a fork too
pub one_ended : act small_ops [] (Forked parent (node_and (Ended (child 0 [])) (node_and (Dead (child 1 []) (death_with 0 (pos 0))) no_node)))
    ≡ Some (record { node = Dead parent (death_with 0 (pos 0)); effects = nothing })
one_ended = refl

-- those that stand before a quiet step, in order
pub two_quiet : quiets small_ops (Forked parent (node_and (Live (child 0 (step.Quiet ∷ []))) (node_and (Live (child 1 (step.Quiet ∷ []))) no_node)))
    ≡ child 0 (step.Quiet ∷ []) ∷ child 1 (step.Quiet ∷ []) ∷ []
two_quiet = refl
