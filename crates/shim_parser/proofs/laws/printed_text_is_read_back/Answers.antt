use Rattle.shim_parser.proofs.ReadBack.{read_back}
use Rattle.shim_parser.proofs.laws.printed_text_is_read_back.Goals as goal

pub returns : goal.returns
returns c = read_back
