use Rattle.std.proofs.Common.{◌≡◌, [], ◌∷◌, ◌++◌, true, false, ap, subst, ◌∙◌, arith, length, rules}
use Rattle.shim_process_table.specs.Descent.{ahead_of}
use Rattle.shim_process_table.specs.Stepping.{IsLive}
use Rattle.shim_process_table.proofs.Visiting.{empty_block, past_block, passed_by, found_alive, goes_down}
use Rattle.shim_process_table.proofs.process_table.ProcessTable.visit.Goals as goal

pub returns-then-block-eq0 : goal.returns-then-block-eq0
returns-then-block-eq0 g c = empty_block c.args.self.now c.args.c.now.channel c.args.block (ahead_of c.args.ahead.now.items) c.args.numbers.now.items (omega (arith, c.if-block-eq0.true))

pub returns-then-at-len : goal.returns-then-at-len
returns-then-at-len g c =
    past_block c.args.self.now c.args.c.now.channel c.args.block (ahead_of c.args.ahead.now.items) c.args.numbers.now.items
    (let v = c.self.inside in let w = c.len.ensures in let y = v.states.ok.0 in let x = ap (λ z. length z.states) c.self.view_is in omega (arith, c.if-at-len.true, w, y, x))

pub returns-then-lives : goal.returns-then-lives
returns-then-lives g c =
    let number : c.in_ok-number.number ≡ c.args.block.first = search rules in
    found_alive c.args.self.now c.args.c.now.channel c.args.block (ahead_of c.args.ahead.now.items) (ahead_of c.put_ahead.new.ahead.items) c.args.numbers.now.items (omega (arith, c.if-block-eq0.false)) c.in_ok-put_ahead.ensures
    c.push.new.self.items (subst (IsLive c.args.block.first c.args.self.now) c.if-lives.true c.lives.ensures) (c.in_ok-push.ensures.items ∙ ap (λ z. c.args.numbers.now.items ++ z ∷ []) number)

pub returns-in-None : goal.returns-in-None
returns-in-None g c =
    passed_by c.args.self.now c.args.c.now.channel c.args.block (ahead_of c.args.ahead.now.items) (ahead_of c.put_ahead.new.ahead.items) c.args.numbers.now.items (omega (arith, c.if-block-eq0.false)) c.in_ok-put_ahead.ensures
    (subst (IsLive c.args.block.first c.args.self.now) c.if-lives.false c.lives.ensures) c.in-None.ensures

pub returns-in_ok-put_ahead-in-Some : goal.returns-in_ok-put_ahead-in-Some
returns-in_ok-put_ahead-in-Some g c =
    goes_down c.args.self.now c.args.c.now.channel c.args.block (ahead_of c.args.ahead.now.items) (ahead_of c.put_ahead.new.ahead.items) c.args.numbers.now.items (omega (arith, c.if-block-eq0.false)) c.in_ok-put_ahead.ensures
    c.in-Some.fork c.sharing_children-children.result (ahead_of c.put_ahead-in-Some.new.ahead.items) c.in-Some.ensures c.sharing_children-children.ensures c.in_ok-put_ahead-in-Some.ensures
