use Rattle.shim_answers.specs.EndedNets.{end_of_net}
use Rattle.shim_answers.proofs.BatchNets.{HaveStopped, MapsOn}
use Rattle.shim_answers.proofs.batched.ends_of.Given as goal

abbrev pub invariant-loop-net : goal.invariant-loop-net
invariant-loop-net l = MapsOn (λ net. end_of_net l.fn.source net) l.fn.done l.ends l.net-iterator.rest.items × HaveStopped l.net-iterator.rest.items
