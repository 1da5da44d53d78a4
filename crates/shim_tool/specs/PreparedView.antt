-- What a call comes to, as the definition names it.
use Rattle.shim_tool.specs.declared.prepared.Prepared.{Prepared as CodePrepared}
use Rattle.shim_tool.specs.declared.prepared.Prepared.TheVariants.{Answered, ToRun, ToRecord, ToRunEach}
use Rattle.shim_tool.specs.Prepared.{Prepared, answered, to_run, to_record, to_run_each}
use Rattle.shim_results.specs.Views.{answer_view}

-- what the code prepared, as the definitions name it
abbrev pub prepared_view : CodePrepared → Prepared
prepared_view (Answered answer) = answered (answer_view answer)
prepared_view (ToRun run) = to_run run
prepared_view (ToRecord run) = to_record run
prepared_view (ToRunEach run) = to_run_each run
