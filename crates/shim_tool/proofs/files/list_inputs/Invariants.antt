use Rattle.std.proofs.Common.{◌≡◌, ◌++◌, map, take}
use Rattle.shim_tool.specs.Modes.{inputs_readings}
use Rattle.shim_tool.specs.Views.{reading_view}
use Rattle.shim_tool.proofs.files.list_inputs.Given as goal

abbrev pub invariant-loop-name : goal.invariant-loop-name
invariant-loop-name l = map reading_view l.files ≡ map reading_view l.fn.files ++ inputs_readings (take l.name-index l.names)
