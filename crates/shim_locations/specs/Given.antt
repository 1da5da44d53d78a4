-- The arguments of a call, as the definition of a process names them.
use Rattle.std.specs.Prelude.{List, [], ◌∷◌}
use Rattle.shim_process.specs.Arguments.{Argument as ArgumentOf}
use Rattle.shim_process.specs.Arguments as arg
use Rattle.shim_locations.specs.declared.argument.Argument.{Argument}
use Rattle.shim_locations.specs.declared.argument.Argument.TheVariants.{ByReference, ByCopy, ByValue}

abbrev pub argument_of : Argument → ArgumentOf
argument_of (ByReference n) = arg.ByReference n
argument_of (ByCopy t n) = arg.ByCopy t n
argument_of (ByValue t name v) = arg.ByValue t name v

abbrev pub arguments_of : List Argument → List ArgumentOf
arguments_of [] = []
arguments_of (a ∷ rest) = argument_of a ∷ arguments_of rest
