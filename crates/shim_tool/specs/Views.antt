-- What reads of files gave, and what was read beside a source, as the definitions name it.
use Rattle.shim_edge.specs.declared.files.Got.{Got}
use Rattle.shim_edge.specs.declared.files.Got.TheVariants.{Whole as GotWhole, Longer as GotLonger}
use Rattle.shim_answers.specs.Tasks.{Beside}
use Rattle.shim_tool.specs.declared.files.Beside.{Beside as ReadBeside}
use Rattle.shim_tool.specs.declared.files.FileToRead.{FileToRead}
use Rattle.shim_tool.specs.declared.files.FilesRead.{FilesRead}
use Rattle.shim_tool.specs.declared.files.FilesRead.TheVariants.{All, Failed, TooLong}
use Rattle.shim_tool.specs.declared.files.Found.{Found}
use Rattle.shim_tool.specs.declared.files.Found.TheVariants.{Unread, Longer, Whole}
use Rattle.shim_tool.specs.Modes.{FileView}
use Rattle.shim_tool.specs.Reads.{FilesResult, FileResult, all, longer, longer_file, unread, failed_file, whole}

-- what the code found of one file
abbrev pub found_view : Found → FileResult
found_view Unread = unread
found_view Longer = longer
found_view (Whole bytes) = whole bytes

-- what a read gave that did not fail
abbrev pub result_of_read : Got → FileResult
result_of_read (GotWhole bytes) = whole bytes
result_of_read GotLonger = longer

-- a file that the code reads, with its limit
abbrev pub reading_view : FileToRead → FileView
reading_view file = record { name = file.name.now; limit = file.limit }

-- what the reads of several files by the code gave
abbrev pub read_view : FilesRead → FilesResult
read_view (All contents) = all contents
read_view (Failed file) = failed_file (reading_view file)
read_view (TooLong file) = longer_file (reading_view file)

-- what the code read beside a source
abbrev pub beside_view : ReadBeside → Beside
beside_view beside = record { input = beside.input; journal = beside.journal; inputs = beside.inputs }
