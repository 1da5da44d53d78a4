use Rattle.shim_process_table.proofs.HerePoisons.{poisons_here, died_here}
use Rattle.shim_process_table.proofs.ChangingEach.{all_die_changed}
use Rattle.shim_process_table.proofs.process_table.ProcessTable.poison.Goals as goal

pub returns-clause-moves : goal.returns-clause-moves
returns-clause-moves g c =
    let law = (g.met.L.Local g.world.𝓛 g.world.𝓜 g.world.𝓡 ((λ s x. x), (λ x. x), (λ x. x), λ x. x)).laws in
    poisons_here g.L.Local.ops c.args.label law c.args.c.now.channel c.args.number c.args.sharers.now c.args.self.now c.kill_each.new.self c.requires.can c.requires.sharers c.kill_each.ensures.die

pub returns-clause-died : goal.returns-clause-died
returns-clause-died g c =
    let law = (g.met.L.Local g.world.𝓛 g.world.𝓜 g.world.𝓡 ((λ s x. x), (λ x. x), (λ x. x), λ x. x)).laws in
    died_here g.L.Local.ops c.args.label law c.args.c.now.channel c.args.number c.args.sharers.now c.args.self.now c.kill_each.new.self c.requires.can c.requires.sharers c.kill_each.ensures.die

pub returns-clause-touches : goal.returns-clause-touches
returns-clause-touches g c = c.kill_each.ensures.touches

pub returns-clause-changes : goal.returns-clause-changes
returns-clause-changes g c = all_die_changed g.L.Local.ops c.args.label c.args.sharers.now c.args.self.now c.kill_each.new.self c.kill_each.ensures.die
