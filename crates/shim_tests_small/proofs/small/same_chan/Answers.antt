use Rattle.std.proofs.Common.{◌≡◌, ◌∙◌, sym, ap, eqb-true, eq-eqb, true≢false}
use Rattle.shim_base.specs.Paths.{NamedChannel}
use Rattle.shim_local.specs.Sameness.{channel_decides}
use Rattle.shim_tests_small.proofs.small.same_chan.Goals as goal

pub returns-then-eq : goal.returns-then-eq
returns-then-eq c =
    let a : NamedChannel = c.args.a.now in
    let b : NamedChannel = c.args.b.now in
    let same : a.channel ≡ b.channel = (channel_decides a.channel b.channel).0 (sym c.eq.ensures ∙ c.if-eq.true) in (
      λ e. let name : a.name ≡ b.name = sym c.name.ensures ∙ (eqb-true _ _ e ∙ c.name-then-eq.ensures) in λ i. record { channel = same i; name = name i },
      λ e. eq-eqb _ _ (c.name.ensures ∙ (ap (λ x. x.name) e ∙ sym c.name-then-eq.ensures)),
    )

pub returns-else-eq : goal.returns-else-eq
returns-else-eq c =
    let a : NamedChannel = c.args.a.now in
    let b : NamedChannel = c.args.b.now in (
      λ e. absurd (true≢false (sym e ∙ c.if-eq.false)),
      λ e. c.eq.ensures ∙ (channel_decides a.channel b.channel).1 (ap (λ x. x.channel) e),
    )
