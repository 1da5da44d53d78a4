use Rattle.shim_generator.specs.declared.kind.Kind.TheVariants.{Pipe, Tree, Storm}
use Rattle.shim_generator.proofs.Lengths.{short_answer}
use Rattle.shim_generator.proofs.sources.generate.Goals as goal

pub returns-in-Pipe-clause-short : goal.returns-in-Pipe-clause-short
returns-in-Pipe-clause-short c = short_answer Pipe c.args.size c.pipe.result c.ranges.size.fits c.pipe.ensures

pub returns-in-Tree-clause-short : goal.returns-in-Tree-clause-short
returns-in-Tree-clause-short c = short_answer Tree c.args.size c.tree.result c.ranges.size.fits c.tree.ensures

pub returns-in-Storm-clause-short : goal.returns-in-Storm-clause-short
returns-in-Storm-clause-short c = short_answer Storm c.args.size c.storm.result c.ranges.size.fits c.storm.ensures
