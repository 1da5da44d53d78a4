-- Which death prevails where a fork closes, and with which number.
use Rattle.std.specs.Prelude.{◌≡◌, pos, Some, refl}
use Rattle.shim_semantics.specs.Nodes.{Dead, death, death_with, no_node, node_and, prevailing_death}

-- of one label, without a number, with 7 and with 9: the number is 7
pub leftmost : {S : Type 0} (a b c : S) → prevailing_death (node_and (Dead a (death 1)) (node_and (Dead b (death_with 1 (pos 7))) (node_and (Dead c (death_with 1 (pos 9))) no_node))) ≡ Some (death_with 1 (pos 7))
leftmost a b c = refl

-- label 2 with 7 and label 1 with 9: the label is 1 and the number 9
pub least : {S : Type 0} (a b : S) → prevailing_death (node_and (Dead a (death_with 2 (pos 7))) (node_and (Dead b (death_with 1 (pos 9))) no_node)) ≡ Some (death_with 1 (pos 9))
least a b = refl

-- a poisoned one of a lesser label has no number, and that prevails
pub none : {S : Type 0} (a b : S) → prevailing_death (node_and (Dead a (death_with 2 (pos 7))) (node_and (Dead b (death 1)) no_node)) ≡ Some (death 1)
none a b = refl
