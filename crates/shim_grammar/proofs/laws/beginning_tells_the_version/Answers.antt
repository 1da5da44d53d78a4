use Rattle.shim_syntax.proofs.Programs.{version_seen}
use Rattle.shim_grammar.proofs.laws.beginning_tells_the_version.Goals as goal

pub returns : goal.returns
returns c bytes p text = version_seen text.terminals p text.derives
