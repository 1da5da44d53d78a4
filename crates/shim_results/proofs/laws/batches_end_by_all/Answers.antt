use Rattle.shim_results.proofs.Greatest.{all_done, one_blocked, one_failed, one_spent}
use Rattle.shim_results.proofs.laws.batches_end_by_all.Goals as goal

pub returns-clause-done : goal.returns-clause-done
returns-clause-done c = all_done

pub returns-clause-spent : goal.returns-clause-spent
returns-clause-spent c = one_spent

pub returns-clause-blocked : goal.returns-clause-blocked
returns-clause-blocked c = one_blocked

pub returns-clause-failed : goal.returns-clause-failed
returns-clause-failed c = one_failed
