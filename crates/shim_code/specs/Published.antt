-- An instruction of the machine without what only running it takes.
use Rattle.std.specs.Prelude.{List, map, Some, None}
use Rattle.shim_code.specs.declared.instr.Instr.{Instr}
use Rattle.shim_code.specs.declared.instr.Instr.TheVariants as code
use Rattle.shim_code.specs.declared.machine_instr.MachineInstr.{MachineInstr}
use Rattle.shim_code.specs.declared.machine_instr.MachineInstr.TheVariants.{Mark, Num, Var, Un, Bin, Bool, Jump, JumpZ, Declare, Set, Get, Put, Next, Ref, Pass, Fresh, Call, Branch, Fork, Try, TryInto, Untry, Throw, End}

-- An instruction of the machine as one of `Instr`. Types, the sorts and names of parameters, and the numbers and parts of statements are left out.
abbrev pub published : MachineInstr → Instr
published (Mark m) = code.Mark m.kind m.line
published (Num n) = code.Num n
published (Var x) = code.Var x
published (Un op) = code.Un op
published (Bin op) = code.Bin op
published Bool = code.Bool
published (Jump t) = code.Jump t
published (JumpZ t) = code.JumpZ t
published (Declare t x) = code.Declare x
published (Set x) = code.Set x
published (Get i) = code.Get i
published (Put o) = code.Put o
published (Next x) = code.Next x
published (Ref x) = code.Ref x
published (Pass x s) = code.Pass x
published (Fresh s x) = code.Fresh
published (Call c) = code.Call c.unit c.args c.throws
published (Branch c) = code.Branch c.unit c.args c.throws
published (Fork n) = code.Fork n
published (Try t x) = code.Try t x None
published (TryInto t x y) = code.Try t x (Some y)
published Untry = code.Untry
published (Throw x) = code.Throw x
published (End n) = code.End

abbrev pub published_all : List MachineInstr → List Instr
published_all is = map published is
