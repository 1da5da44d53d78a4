-- How the program ends, with its words or without.
use Rattle.std.specs.Prelude.{ℕ, ◌≡◌, ◌≢◌, List, None, String}
use Rattle.std.specs.declared.alloc.Global.{Global}
use Rattle.std.specs.declared.io.ErrorKind.{ErrorKind}
use Rattle.std.specs.declared.io.ErrorKind.TheVariants.{OutOfMemory}
use Rattle.shim_command.specs.Jobs.{job, texts_of}
use Rattle.shim_tool.specs.Moments.{FilesAt, SinkAt}
use Rattle.shim_tool.specs.Answer.{no_memory}
use Rattle.shim_tool.specs.Call.{Ran, Writes}

-- the tool ran on the words
abbrev pub EndsWithWords : List (String Global) → FilesAt → FilesAt → SinkAt → SinkAt → ℕ → Type 0
EndsWithWords words before now out_before out_now result = Ran (job (texts_of words)) before now out_before out_now result

-- The system gave no words, but an error of this kind. Where memory ran out, the answer for out of memory was written. Else the tool ran as on words that have no job.
pub record EndsWithoutWords (kind : ErrorKind) (before now : FilesAt) (out_before out_now : SinkAt) (result : ℕ) : Type 0 where
  pub memory : kind ≡ OutOfMemory → Writes out_before out_now no_memory result
  pub nothing : kind ≢ OutOfMemory → Ran None before now out_before out_now result
