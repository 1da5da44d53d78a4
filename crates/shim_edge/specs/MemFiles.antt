-- Files in memory, as contracts see them.
use Rattle.std.specs.Prelude.{ℕ, List, [], ◌∷◌, ◌++◌, Contains, IsNone, ◌⊎◌, Result, Ok, Err}
use Rattle.shim_edge.specs.declared.files.Got.{Got}
use Rattle.shim_edge.specs.declared.files.FileFault.{FileFault}
use Rattle.shim_edge.specs.declared.files.FileFault.TheVariants.{Failed, NoMemory}
use Rattle.shim_edge.specs.Count.{count_up}
use Rattle.shim_edge.specs.Files.{file_of}

-- Files in memory, with what is counted and kept of their reads. Reads of given numbers fail.
pub record FilesInMemory : Type 0 where
  -- the names and contents, of which the first of a name counts
  pub files : List (List ℕ × List ℕ)
  -- the numbers of the reads that fail, counted from 0
  pub failing : List ℕ
  -- the name of each read that answered `Failed`, in order
  pub failed : List (List ℕ)
  -- how many reads there were, up to the end of a u64; a read that answers `NoMemory` isn't counted
  pub calls : ℕ

-- the next read is to fail, or there is no file of that name
abbrev pub RefusesRead : FilesInMemory → List ℕ → Type 0
RefusesRead memory name = Contains memory.failing memory.calls ⊎ IsNone (file_of memory.files name)

-- the files after a read of this name: it was counted, and its name kept where it failed; `NoMemory` leaves them as they were
abbrev pub after_read : FilesInMemory → List ℕ → Result Got FileFault → FilesInMemory
after_read memory name (Ok got) = record memory { calls = count_up memory.calls }
after_read memory name (Err Failed) = record memory { failed = memory.failed ++ name ∷ []; calls = count_up memory.calls }
after_read memory name (Err NoMemory) = memory
