use denote.Param.Send.{sendable}
use Rattle.shim_walk.proofs.Sends.{walk_send}
use Rattle.shim_results.proofs.explain.push_reasons_of.Goals as goal

pub explain-requires-send-L : goal.explain-requires-send-L
explain-requires-send-L c κs = search (walk_send, sendable)

pub explain-requires-clause-rests : goal.explain-requires-clause-rests
explain-requires-clause-rests c κs = c.requires.rests c.in-Blocked.is

pub explain-requires-clause-goes : goal.explain-requires-clause-goes
explain-requires-clause-goes c κs = c.requires.goes c.in-Blocked.is
