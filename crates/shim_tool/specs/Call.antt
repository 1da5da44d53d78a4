-- One call of the tool.
use Rattle.std.specs.Prelude.{ℕ, ◌≡◌, ◌≤◌, ◌⊎◌, Option}
use Rattle.shim_edge.specs.Count.{HasRisen}
use Rattle.shim_edge.specs.Sink.{then_bytes, TakesPart}
use Rattle.shim_command.specs.declared.job.Job.{Job}
use Rattle.shim_tool.specs.Moments.{FilesAt, KeepsFiles, SinkAt}
use Rattle.shim_results.specs.Answer.{Answer}
use Rattle.shim_tool.specs.Answer.{MayAnswer}

-- The text was written, without a fault of the sink, and the answer's status is the result. Or the sink failed in the call, with a part of the text taken, and the result is 7.
abbrev pub Writes : SinkAt → SinkAt → Answer → ℕ → Type 0
Writes before now answer result =
    ((result ≡ answer.status) × (now.taken ≡ then_bytes before.taken answer.text) × (now.faults ≡ before.faults))
    ⊎ ((result ≡ 7) × TakesPart before.taken answer.text now.taken × HasRisen before.faults now.faults × (before.faults ≤ now.faults))

-- The call had an answer, and wrote it or met a fault of the sink. The files are as before, but for failed names.
pub record Ran (ask : Option Job) (before now : FilesAt) (out_before out_now : SinkAt) (result : ℕ) : Type 0 where
  pub answer : Answer
  pub cause : MayAnswer ask before now answer
  pub written : Writes out_before out_now answer result
  pub files : KeepsFiles before now
