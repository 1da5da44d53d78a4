use Rattle.std.proofs.Common.{arith}
use Rattle.shim_edge.proofs.Sources.{is_whole, is_longer}
use Rattle.shim_edge.proofs.host.read_source.Goals as goal

pub returns-then-len-most : goal.returns-then-len-most
returns-then-len-most g c =
    let read = simp (c.take.ensures.limit, c.take.ensures.inner, c.new-bytes.ensures.items) at c.in_ok-read_to_end.ensures.bytes in
    rw c.from.ensures (omega arith, is_whole (g.T.Read.remaining c.args.source) c.saturating_add.result c.args.most c.read_to_end.new.buf.items (search arith) read (omega arith) (omega arith))

pub returns-else-len-most : goal.returns-else-len-most
returns-else-len-most g c =
    let read = simp (c.take.ensures.limit, c.take.ensures.inner, c.new-bytes.ensures.items) at c.in_ok-read_to_end.ensures.bytes in
    is_longer (g.T.Read.remaining c.args.source) c.saturating_add.result c.args.most c.read_to_end.new.buf.items read (omega arith)
