use Rattle.std.proofs.Common.{◌≡◌, drop}
use Rattle.shim_tool.specs.Moments.{files_at, KeepsFiles}
use Rattle.shim_tool.proofs.ReadsOn.{ReadsOn}
use Rattle.shim_tool.proofs.files.read_all.Given as goal

abbrev pub invariant-loop-file : goal.invariant-loop-file
invariant-loop-file g l =
    ReadsOn l.to_read (files_at g.F.Files.held g.F.Files.sound g.F.Files.failed l.fn.files) l.contents (drop l.file-index l.to_read) (files_at g.F.Files.held g.F.Files.sound g.F.Files.failed l.files)
    × KeepsFiles (files_at g.F.Files.held g.F.Files.sound g.F.Files.failed l.fn.files) (files_at g.F.Files.held g.F.Files.sound g.F.Files.failed l.files)
    × (g.F.Files.failed l.files ≡ g.F.Files.failed l.fn.files)
