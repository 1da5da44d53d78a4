use Rattle.std.proofs.Common.{sym, ap, ◌∙◌}
use Rattle.shim_records.specs.Fresh.{comes_after, added}
use Rattle.shim_records.proofs.fresh.pair_one.Goals as goal

pub returns-in_ok-push : goal.returns-in_ok-push
returns-in_ok-push g c =
    added c.counted.result (ap (λ z. comes_after z c.args.chan.channel) (sym c.as_slice.ensures.value) ∙ (sym c.follows.ensures ∙ c.if-follows.true)) c.in_ok-push.ensures.items (ap (λ z. z.channel) c.counted.ensures.chan)
    c.counted.ensures.counts c.counted.ensures.label c.counted.ensures.sharing
