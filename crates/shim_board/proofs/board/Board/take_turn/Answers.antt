use Rattle.std.proofs.Common.{rules, arith, ap, ◌∙◌}
use Rattle.shim_board.proofs.Allowed.{takes_turn_at, in_front, sits}
use Rattle.shim_board.proofs.board.Board.take_turn.Goals as goal

pub compare_exchange-found-requires : goal.compare_exchange-found-requires
compare_exchange-found-requires g c = let sized = c.args.self.now.sized in (c.requires.chair.0, omega arith, takes_turn_at g.N.Named.name _ _ _ _ (sits c.args.chair.now.numbered) (omega arith))

pub exchange-requires : goal.exchange-requires
exchange-requires g c = let e = c.compare_exchange-found.ensures in let m = e.2.0 (search rules) in (e.0 ∙ c.requires.chair.0, in_front _ _ _ _ (ap (λ z. z.1) m.1))
