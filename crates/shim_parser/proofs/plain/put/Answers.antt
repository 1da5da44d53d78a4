use Rattle.shim_parser.proofs.PlainExits.{put_reads}
use Rattle.shim_parser.proofs.plain.put.Goals as goal

pub returns : goal.returns
returns c = put_reads c.args.level c.args.tokens.now c.name_before.new.tokens c.expression_before.new.tokens c.in_ok-stream.stream c.in_ok-value.value c.in_ok-stream.ensures c.in_ok-value.ensures
