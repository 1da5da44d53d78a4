use Rattle.std.proofs.Common.{◌≡◌, ◌<◌, List, length, sym, ap, subst, ◌∙◌}
use Rattle.std.specs.Prelude.{slice_index_or}
use Rattle.shim_net.specs.Nets.{OpenGrant}
use Rattle.shim_net.specs.Absorbing.{Matches}
use Rattle.shim_net.proofs.net.Net.absorb.Goals as goal

pub returns-then-short : goal.returns-then-short
returns-then-short g c =
    let f = c.args.finished in
    let at = c.in-Some.at in
    let closes = c.close.ensures in
    let whole : c.as_slice.result.now ≡ c.args.self.now.grants = c.as_slice.ensures.value ∙ ap (λ z. z.grants) c.self.view_is in
    let its = subst (λ (z : List (OpenGrant g.row.L.Denot)). (d : OpenGrant g.row.L.Denot) → Matches f.pid f.slot f.round f.grant f.start (slice_index_or z at d)) whole c.in-Some.ensures.1 closes.grant in (
      c.if-short.true,
      record {
        place = at;
        there = subst (λ z. at < length z) whole c.in-Some.ensures.0;
        closes = closes;
        matches = subst (Matches f.pid f.slot f.round f.grant f.start) (sym closes.its) its;
      },
    )

pub returns : goal.returns
returns g c =
    let f = c.args.finished in
    let at = c.in-Some.at in
    let closes = c.close.ensures in
    let whole : c.as_slice.result.now ≡ c.args.self.now.grants = c.as_slice.ensures.value ∙ ap (λ z. z.grants) c.self.view_is in
    let its = subst (λ (z : List (OpenGrant g.row.L.Denot)). (d : OpenGrant g.row.L.Denot) → Matches f.pid f.slot f.round f.grant f.start (slice_index_or z at d)) whole c.in-Some.ensures.1 closes.grant in (
      c.if-short.false,
      record {
        place = at;
        there = subst (λ z. at < length z) whole c.in-Some.ensures.0;
        closes = closes;
        matches = subst (Matches f.pid f.slot f.round f.grant f.start) (sym closes.its) its;
      },
    )
