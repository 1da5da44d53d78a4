-- What the tool answers, from what it was asked and what it read.
use Rattle.std.specs.Prelude.{ℕ, ◌≡◌, ◌⊎◌, List, ◌++◌, Option, Some, None, codes, decimal}
use Rattle.shim_command.specs.declared.job.Job.{Job}
use Rattle.shim_results.specs.Answer.{Answer, AnswersSource}
use Rattle.shim_tool.specs.Moments.{FilesAt}
use Rattle.shim_tool.specs.Modes.{source_action_of, execution, reads_of, source_text}
use Rattle.shim_tool.specs.Reads.{GrewByOneOf, ReadsAll, FilesResult, all, longer_file, failed_file}

-- the line that is printed where the words ask for no job
unfoldable pub usage_line : List ℕ
usage_line = codes "usage: shim MODE FILE [INPUT]... [--input FILE] [--workers N] [--budget B] [--quantum Q] [--size N] [--journal FILE] [--steal]\n"

-- the line that is printed where memory ran out
unfoldable pub memory_line : List ℕ
memory_line = codes "no memory\n"

-- `file failed NAME`
unfoldable pub failed_line : List ℕ → List ℕ
failed_line name = codes "file failed " ++ (name ++ codes "\n")

-- `file too long NAME LIMIT`
unfoldable pub longer_line : List ℕ → ℕ → List ℕ
longer_line name limit = codes "file too long " ++ (name ++ (codes " " ++ (decimal limit ++ codes "\n")))

-- the answer where the words ask for no job
abbrev pub usage : Answer
usage = record { status = 2; text = usage_line }

-- the answer where the read of the named file failed
abbrev pub file_failed : List ℕ → Answer
file_failed name = record { status = 6; text = failed_line name }

-- the answer where the named file has more bytes than the limit
abbrev pub file_too_long : List ℕ → ℕ → Answer
file_too_long name limit = record { status = 6; text = longer_line name limit }

-- the answer where memory ran out
abbrev pub no_memory : Answer
no_memory = record { status = 8; text = memory_line }

-- the answer to what the reads of a job's files gave
abbrev pub AnswersRead : Job → FilesResult → Answer → Type 0
AnswersRead job (all contents) answer = AnswersSource (source_action_of job contents) (execution job contents) (source_text job contents) answer
AnswersRead job (failed_file r) answer = answer ≡ file_failed r.name
AnswersRead job (longer_file r) answer = answer ≡ file_too_long r.name r.limit

-- the files of a job are read, and what these reads gave is answered
abbrev pub AnswersJob : Job → FilesAt → FilesAt → Answer → Type 0
AnswersJob job before now answer = (files_read : FilesResult) × ReadsAll (reads_of job) before now files_read × AnswersRead job files_read answer

-- an answer where memory sufficed
abbrev pub Answers : Option Job → FilesAt → FilesAt → Answer → Type 0
Answers None before now answer = (now.failed ≡ before.failed) × (answer ≡ usage)
Answers (Some job) before now answer = AnswersJob job before now answer

-- the failed names have grown by nothing but a name that the call was asked to read
abbrev pub FailedGrew : Option Job → FilesAt → FilesAt → Type 0
FailedGrew None before now = now.failed ≡ before.failed
FailedGrew (Some job) before now = GrewByOneOf (reads_of job) before now

-- an answer, or that for memory that ran out
abbrev pub MayAnswer : Option Job → FilesAt → FilesAt → Answer → Type 0
MayAnswer ask before now answer = Answers ask before now answer ⊎ (FailedGrew ask before now × (answer ≡ no_memory))
