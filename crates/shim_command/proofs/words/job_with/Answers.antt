use Rattle.shim_command.proofs.words.job_with.Goals as goal

pub number_in-requires : goal.number_in-requires
number_in-requires c = (1, 16, c.requires.0)

pub number_in-requires-2 : goal.number_in-requires-2
number_in-requires-2 c = (1, 4000000, c.requires.1)

pub number_in-requires-3 : goal.number_in-requires-3
number_in-requires-3 c = (1, 10000, c.requires.2)

pub number_in-requires-4 : goal.number_in-requires-4
number_in-requires-4 c = (1, 100000, c.requires.3)
