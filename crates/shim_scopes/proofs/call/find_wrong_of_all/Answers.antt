use Rattle.std.proofs.Common.{◌≡◌, ◌∙◌, sym, ap, [], drop}
use Rattle.std.proofs.Math.ListN.{drop_of_length-le}
use Rattle.shim_scopes.specs.Calls.{wrong_in_all}
use Rattle.shim_scopes.proofs.Args.{none_left}
use Rattle.shim_scopes.proofs.call.find_wrong_of_all.Goals as goal
use Rattle.shim_scopes.proofs.call.find_wrong_of_all.Goals.{then-loop-at-test+else-at-args, else-loop-at-test}

pub returns : goal.returns
returns c = elim c.loop-at-test.branch [
  | then-loop-at-test+else-at-args w ↦
      let e : drop c.loop-at.at c.args.args.now ≡ [] = drop_of_length-le c.args.args.now w.if-at-args.false in
      sym (none_left c.args.visible.now (drop c.loop-at.at c.args.params.now)) ∙ ap (wrong_in_all c.args.visible.now (drop c.loop-at.at c.args.params.now)) (sym e) ∙ c.loop-at.invariant
  | else-loop-at-test w ↦
      let e : drop c.loop-at.at c.args.params.now ≡ [] = drop_of_length-le c.args.params.now w.loop-at-test.false in
      ap (λ ps. wrong_in_all c.args.visible.now ps (drop c.loop-at.at c.args.args.now)) (sym e) ∙ c.loop-at.invariant
]
