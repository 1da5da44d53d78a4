use Rattle.std.proofs.Common.{◌≡◌, drop}
use Rattle.shim_edge.specs.Files.{file_of}
use Rattle.shim_edge.proofs.memory_files.find.Given as goal

abbrev pub invariant-loop-file : goal.invariant-loop-file
invariant-loop-file l = file_of (drop l.file-index l.files) l.name ≡ file_of l.files l.name
