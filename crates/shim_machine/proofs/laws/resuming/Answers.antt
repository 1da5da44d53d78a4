use Rattle.shim_process.specs.Todo.{followed}
use Rattle.shim_process.specs.Ends.{gone, went}
use Rattle.shim_machine.proofs.Resuming.{resumes}
use Rattle.shim_machine.proofs.RestOfBody.{rest_followed}
use Rattle.shim_machine.proofs.laws.resuming.Goals as goal

pub returns : goal.returns
unfolding gone went
returns c = λ codes most line pc handlers back successor l short is_rest h r s. resumes codes most short line l.callers back handlers l.frame l r pc (followed successor l.frame.todo) l.frame.places (rest_followed (codes l.frame.unit).body successor l.frame.todo is_rest) h s
