use Rattle.std.proofs.Common.{◌∙◌, ap, subst}
use Rattle.shim_semantics.specs.Endings.{history_at}
use Rattle.shim_run_log.specs.Maps.{AllHaveValues}
use Rattle.shim_run_log.proofs.HaveValues.{some_has, none_where_empty}
use Rattle.shim_tree.proofs.tree.Tree.history.Goals as goal

pub returns-clause-values : goal.returns-clause-values
returns-clause-values g c = c.get.ensures.values ∙ ap (history_at c.args.c.now.channel) c.self.view_is

pub returns-clause-none : goal.returns-clause-none
returns-clause-none g c =
    let t = c.args.self.now in
    none_where_empty t.histories c.args.c.now.channel (subst AllHaveValues (ap (λ u. u.histories) c.self.view_is) c.get.ensures.filled) _ (c.get.ensures.values ∙ ap (history_at c.args.c.now.channel) c.self.view_is)

pub returns-clause-some : goal.returns-clause-some
returns-clause-some g c =
    let t = c.args.self.now in
    some_has t.histories c.args.c.now.channel (subst AllHaveValues (ap (λ u. u.histories) c.self.view_is) c.get.ensures.filled) _ (c.get.ensures.values ∙ ap (history_at c.args.c.now.channel) c.self.view_is)
