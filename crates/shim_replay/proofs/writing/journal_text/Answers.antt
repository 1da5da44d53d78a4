use Rattle.shim_replay.proofs.InRange.{have_steps}
use Rattle.shim_replay.proofs.writing.journal_text.Goals as goal

pub entries_fit-requires : goal.entries_fit-requires
entries_fit-requires c = have_steps c.args.budget c.args.entries.now c.requires.range

pub push_journal-requires-clause-steps : goal.push_journal-requires-clause-steps
push_journal-requires-clause-steps c = have_steps c.args.budget c.args.entries.now c.requires.range
