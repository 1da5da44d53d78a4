use denote.Param.Send.{sendable}
use Rattle.shim_walk.proofs.Sends.{walk_send}
use Rattle.shim_reference.proofs.Outcomes.{led_to, run_was}
use Rattle.shim_reference.proofs.RootChannels.{main_shares_its_own}
use Rattle.shim_reference.proofs.meaning.meaning_of.Goals as goal

pub run-requires-send-L : goal.run-requires-send-L
run-requires-send-L c κs = search (walk_send, sendable)

pub run-requires-clause-own : goal.run-requires-clause-own
run-requires-clause-own c κs = main_shares_its_own _ _ _ c.in_ok-main.ensures

pub returns-clause-tree : goal.returns-clause-tree
returns-clause-tree c = led_to c.run.result _ _ _ _ c.in_ok-main.ensures c.run.ensures.tree

pub returns-clause-ran : goal.returns-clause-ran
returns-clause-ran c = run_was c.run.result _ _ _ _ c.in_ok-main.ensures c.run.ensures.ran
