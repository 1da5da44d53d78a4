use Rattle.std.proofs.Common.{◌∙◌}
use Rattle.shim_results.proofs.ExecuteLemmas.{if_ok_weaker}
use Rattle.shim_tool.specs.PreparedView.{prepared_view}
use Rattle.shim_tool.specs.Views.{beside_view}
use Rattle.shim_tool.proofs.Contents.{contents_prepared, journal_short}
use Rattle.shim_tool.proofs.prepared.prepare_contents.Goals as goal

pub prepare_source-requires-clause-few : goal.prepare_source-requires-clause-few
prepare_source-requires-clause-few c =
    journal_short c.args.job c.args.contents (beside_view c.contents_of-source.result.beside) c.contents_of-source.ensures.beside c.requires.few

pub returns : goal.returns
returns c = if_ok_weaker c.prepare_source.result _ _
    (λ p h. contents_prepared c.args.job c.args.contents c.contents_of-source.result.source (beside_view c.contents_of-source.result.beside) c.as_slice.result.now (prepared_view p)
    c.contents_of-source.ensures.source c.contents_of-source.ensures.beside (c.as_slice.ensures ∙ c.in_ok-text.ensures.text) h)
    c.prepare_source.ensures
