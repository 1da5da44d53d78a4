-- The table of modes: what each is called, reads and does. No other definition asks for the mode.
use Rattle.std.specs.Prelude.{List, [], ◌∷◌, Option, Some, None, if◌then◌else◌, bytes_eq, codes}
use Rattle.clap.specs.Words.{Text}
use Rattle.shim_command.specs.declared.mode.Mode.{Mode}
use Rattle.shim_command.specs.declared.mode.Mode.TheVariants.{Run, Reference, Check, Code, Gen, Up, Trace, Replay, Why, Batch}
use Rattle.shim_command.specs.declared.mode.Origin.{Origin}
use Rattle.shim_command.specs.declared.mode.Origin.TheVariants.{Stored, Generated}
use Rattle.shim_command.specs.declared.mode.Extra.{Extra}
use Rattle.shim_command.specs.declared.mode.Extra.TheVariants.{Nothing, Input, InputAndJournal, Inputs}
use Rattle.shim_command.specs.declared.mode.Description.TheVariants.{Functions, Instructions, Version2}
use Rattle.shim_command.specs.declared.mode.Course.TheVariants.{ByFirstEvents, InSomeOrder}
use Rattle.shim_command.specs.declared.mode.Showing.TheVariants.{Report, Summary}
use Rattle.shim_command.specs.declared.mode.Task.{Task}
use Rattle.shim_command.specs.declared.mode.Task.TheVariants.{Describes, Runs, Explains, Records, Replays, RunsEach}
use Rattle.shim_command.specs.declared.mode.ModeRow.{ModeRow as CodeModeRow}

-- a row of the table of modes
pub record ModeRow : Type 0 where
  -- the word that asks for the mode
  pub word : Text
  -- where the text of its source comes from
  pub origin : Origin
  -- what is read beside the source
  pub beside : Extra
  -- what is done with a source that is accepted
  pub task : Task

-- the row of each mode
abbrev pub row_of : Mode → ModeRow
row_of Run = record { word = codes "run"; origin = Stored; beside = Input; task = Runs InSomeOrder Report }
row_of Reference = record { word = codes "ref"; origin = Stored; beside = Input; task = Runs ByFirstEvents Report }
row_of Check = record { word = codes "check"; origin = Stored; beside = Nothing; task = Describes Functions }
row_of Code = record { word = codes "code"; origin = Stored; beside = Nothing; task = Describes Instructions }
row_of Gen = record { word = codes "gen"; origin = Generated; beside = Nothing; task = Runs InSomeOrder Summary }
row_of Up = record { word = codes "up"; origin = Stored; beside = Nothing; task = Describes Version2 }
row_of Trace = record { word = codes "trace"; origin = Stored; beside = Input; task = Records }
row_of Replay = record { word = codes "replay"; origin = Stored; beside = InputAndJournal; task = Replays }
row_of Why = record { word = codes "why"; origin = Stored; beside = Input; task = Explains }
row_of Batch = record { word = codes "batch"; origin = Stored; beside = Inputs; task = RunsEach }

-- a row of the code, as a row of the definitions
abbrev pub row_view : CodeModeRow → ModeRow
row_view row = record { word = row.word.now; origin = row.origin; beside = row.beside; task = row.task }

-- all modes, in the order of their table
abbrev pub modes : List Mode
modes = Run ∷ Reference ∷ Check ∷ Code ∷ Gen ∷ Up ∷ Trace ∷ Replay ∷ Why ∷ Batch ∷ []

-- the first of these modes that a word asks for
abbrev pub named_among : List Mode → Text → Option Mode
named_among [] word = None
named_among (m ∷ ms) word = if bytes_eq word (row_of m).word then Some m else named_among ms word

-- the mode that a word asks for
unfoldable pub mode_named : Text → Option Mode
mode_named word = named_among modes word
