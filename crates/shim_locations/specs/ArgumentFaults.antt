-- How the code's arguments represent those of the definition.
use Rattle.std.specs.Prelude.{◌≡◌, List, ◌++◌, Result, Ok, Err}
use Rattle.shim_base.specs.declared.operators.Trap.{Trap}
use Rattle.shim_process.specs.Arguments.{Argument as ArgumentOf, on_value}
use Rattle.shim_locations.specs.declared.argument.Argument.{Argument}
use Rattle.shim_locations.specs.declared.argument_fault.ArgumentFault.{ArgumentFault}
use Rattle.shim_locations.specs.declared.argument_fault.ArgumentFault.TheVariants.{Trapped, NoMemory}
use Rattle.shim_locations.specs.Given.{argument_of, arguments_of}

-- the answer is the one that is meant, and `NoMemory` may come in its place
abbrev pub Gives : Result (List Argument) ArgumentFault → Result (List ArgumentOf) Trap → Type 0
Gives (Ok given) meant = meant ≡ Ok (arguments_of given)
Gives (Err (Trapped t)) meant = meant ≡ Err t
Gives (Err NoMemory) meant = Unit {0}

-- the same result: the argument as the definition of a process names it, or the trap
abbrev pub argument_result : Result Argument Trap → Result ArgumentOf Trap
argument_result (Ok a) = Ok (argument_of a)
argument_result (Err t) = Err t

-- the given arguments followed by the others, or the trap of the others
abbrev pub arguments_before : List Argument → Result (List ArgumentOf) Trap → Result (List ArgumentOf) Trap
arguments_before given rest = on_value (λ others. Ok (arguments_of given ++ others)) rest
