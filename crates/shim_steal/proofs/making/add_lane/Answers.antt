use Rattle.std.proofs.Common.{refl, ◌∙◌}
use Rattle.shim_steal.proofs.Linking.{lane-added}
use Rattle.shim_steal.proofs.making.add_lane.Goals as goal

pub returns : goal.returns
returns g c = let a = c.in_ok-others.ensures.linked in record {
  lanes = lane-added _ _ _ _ _ _ a c.in_ok-push.ensures.items (c.len-home.ensures ∙ c.link_all.new.all.ok.0 ∙ a.count) refl refl;
}
