use Rattle.std.proofs.Common.{sym, ◌∙◌}
use Rattle.shim_board.specs.Chairs.{IsIdleOn}
use Rattle.shim_board.proofs.Standing.{all_but_last, last_stands_as}
use Rattle.shim_tests_board.proofs.calls.fill_and_close.Goals as goal

pub close-requires-clause-chairs : goal.close-requires-clause-chairs
close-requires-clause-chairs c = all_but_last (IsIdleOn c.args.board) c.pop.new.self.items _ _ c.in-Some.chair _ (sym c.into_vec-chairs.ensures ∙ c.in-Some.ensures.items) (c.from.ensures ∙ c.push_reserved.ensures.items) c.requires.chairs c.fill.ensures.turn

pub close-requires-clause-all : goal.close-requires-clause-all
close-requires-clause-all c = last_stands_as c.pop.new.self.items _ _ c.in-Some.chair _ (sym c.into_vec-chairs.ensures ∙ c.in-Some.ensures.items) (c.from.ensures ∙ c.push_reserved.ensures.items) c.fill.ensures.same c.requires.all
