use Rattle.shim_records.proofs.Gathering.{sorted_rises, fresh_pairs, if_ok_weaker}
use Rattle.shim_records.proofs.fresh.fork_pairs.Goals as goal

pub paired-requires-clause-rises : goal.paired-requires-clause-rises
paired-requires-clause-rises g c κs within = sorted_rises c.sort.new.self.items c.in_ok-sort.ensures.sorted

pub returns : goal.returns
returns g c =
    if_ok_weaker c.paired.result _ _
    (λ pairs h. fresh_pairs g.L.Local.ops c.args.parent.now c.args.children.now c.in_ok-chans.chans.items c.sort.new.self.items pairs.items c.in_ok-chans.ensures c.sort.ensures.permutation h) c.paired.ensures
