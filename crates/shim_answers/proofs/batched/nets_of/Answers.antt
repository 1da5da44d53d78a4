use Rattle.std.proofs.Common.{◌≡◌, ap, sym, ◌∙◌}
use Rattle.shim_base.proofs.Facts.{no_items}
use Rattle.shim_front_end.specs.Source.{Source}
use Rattle.shim_process.specs.Forks.{root}
use Rattle.shim_net.specs.Nets.{started}
use Rattle.shim_batch.proofs.Runs.{zips_none, zips_one}
use Rattle.shim_answers.proofs.batched.nets_of.Goals as goal

pub loop-input-preserved : goal.loop-input-preserved
loop-input-preserved c =
    let code = c.in_ok-share.ensures ∙ c.in_ok-code.ensures ∙ c.in_ok-compile.ensures in
    zips_one (λ input net. net ≡ started (root c.args.source.now input) c.args.job.now.budget) c.args.inputs c.loop-input.nets c.push.new.self c.in-Some.input c.in_ok-net_of.field-0 c.loop-input.input-iterator.rest.items
    c.next.new.self.rest.items c.in-Some.ensures.steps.0 (c.in_ok-net_of.ensures ∙ ap (λ (s : Source). started (root s c.in-Some.input) c.args.job.now.budget) code) c.in_ok-push.ensures.ok c.loop-input.invariant

pub returns : goal.returns
returns c =
    let rest = c.loop-input.input-iterator.rest in
    zips_none (λ input net. net ≡ started (root c.args.source.now input) c.args.job.now.budget) c.args.inputs c.loop-input.nets rest.items (no_items rest.items (sym rest.ok.0 ∙ c.in-None.ensures.steps.0)) c.loop-input.invariant
