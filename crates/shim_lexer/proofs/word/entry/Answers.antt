use Rattle.std.proofs.Common.{sym, ◌∙◌}
use Rattle.shim_lexer.proofs.TableLemmas.{entry_from-more, entry_from-end}
use Rattle.shim_lexer.proofs.word.entry.Goals as goal

pub loop-spelling-preserved : goal.loop-spelling-preserved
loop-spelling-preserved g c =
    let more = entry_from-more c.loop-spelling.spelling-index c.args.table.now c.args.text.now c.loop-spelling-item.result c.eq.result c.loop-spelling-test.true c.loop-spelling-item.is c.eq.ensures in
    sym (rw c.if-eq.false at more) ∙ c.loop-spelling.invariant

pub returns-then-eq : goal.returns-then-eq
returns-then-eq g c =
    let more = entry_from-more c.loop-spelling.spelling-index c.args.table.now c.args.text.now c.loop-spelling-item.result c.eq.result c.loop-spelling-test.true c.loop-spelling-item.is c.eq.ensures in
    sym (rw c.if-eq.true at more) ∙ c.loop-spelling.invariant

pub returns : goal.returns
returns g c = sym (entry_from-end c.loop-spelling.spelling-index c.args.table.now c.args.text.now c.loop-spelling-test.false) ∙ c.loop-spelling.invariant
