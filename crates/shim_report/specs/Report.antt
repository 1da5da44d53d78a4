-- The report of a run.
use Rattle.std.specs.Prelude.{ℕ, ℤ, ◌+◌, ◌/◌, ◌%◌, List, [], ◌∷◌, ◌++◌, length, if◌then◌else◌, nat_lt, codes, decimal, flat_map, slice_get, unwrap_or}
use Rattle.std.specs.Fmt.{signed_decimal}
use Rattle.shim_base.specs.Paths.{Path}
use Rattle.shim_base.specs.PathTexts.{channel_text, path_text}
use Rattle.shim_base.specs.declared.operators.Trap.{Trap}
use Rattle.shim_base.specs.declared.operators.Trap.TheVariants.{Overflow, Zero, Shift, Depth}
use Rattle.shim_local.specs.declared.ended.Ended.{Ended}
use Rattle.shim_local.specs.declared.ended.History.{History}
use Rattle.shim_local.specs.declared.ended.Log.{Log}
use Rattle.shim_local.specs.declared.ended.LogWhat.{LogWhat}
use Rattle.shim_local.specs.declared.ended.LogWhat.TheVariants.{Caught, Trap as LoggedTrap}
use Rattle.shim_local.specs.declared.ended.WaitAt.{WaitAt}
use Rattle.shim_local.specs.declared.ended.OwnSteps.{OwnSteps}
use Rattle.shim_local.specs.declared.ended.Outcome.{Outcome}
use Rattle.shim_local.specs.declared.ended.Outcome.TheVariants.{Done, Uncaught, Trapped, Blocked, Spent}

-- the names of a program, by their numbers
abbrev pub Names : Type 0
Names = List (List ℕ)

-- a digit from 0 to 9 or from a to f
abbrev pub hex_digit : ℕ → ℕ
hex_digit n = if nat_lt n 10 then 48 + n else 87 + n

-- the two hexadecimal digits of a byte
abbrev pub hex_byte : ℕ → List ℕ
hex_byte b = hex_digit (b / 16) ∷ hex_digit (b % 16) ∷ []

-- a space and then the bytes as hexadecimal digits, or nothing where there are no bytes
abbrev pub hex_part : List ℕ → List ℕ
hex_part [] = []
hex_part (b ∷ bytes) = 32 ∷ flat_map hex_byte (b ∷ bytes)

-- a number in decimal, with a `-` before a negative one
abbrev pub number_text : ℤ → List ℕ
number_text v = signed_decimal v

-- the name of a number, or `?` where the number is past the names
abbrev pub name_text : Names → ℕ → List ℕ
name_text names n = unwrap_or (slice_get names n) (codes "?")

-- `output N HEX`
unfoldable pub output_line : List ℕ → List ℕ
output_line bytes = codes "output " ++ (decimal (length bytes) ++ (hex_part bytes ++ codes "\n"))

-- a value of a channel, in decimal, with a space before it
unfoldable pub value_part : ℤ → List ℕ
value_part v = codes " " ++ number_text v

-- `chan HOME#SERIAL NAME : V V ..`
unfoldable pub history_line : Names → History → List ℕ
history_line names h = codes "chan " ++ (channel_text h.chan.channel ++ (codes " " ++ (name_text names h.chan.name ++ (codes " :" ++ (flat_map value_part h.values ++ codes "\n")))))

-- the word by which a trap is printed
abbrev pub trap_word : Trap → List ℕ
trap_word Overflow = codes "overflow"
trap_word Zero = codes "zero"
trap_word Shift = codes "shift"
trap_word Depth = codes "depth"

-- `catch PATH NAME LINE` or `trap PATH KIND LINE`
unfoldable pub log_what_line : Names → Path → LogWhat → List ℕ
log_what_line names path (Caught name line) = codes "catch " ++ (path_text path ++ (codes " " ++ (name_text names name ++ (codes " " ++ (decimal line ++ codes "\n")))))
log_what_line names path (LoggedTrap trap line) = codes "trap " ++ (path_text path ++ (codes " " ++ (trap_word trap ++ (codes " " ++ (decimal line ++ codes "\n")))))

-- the line of a log of a report
abbrev pub log_line : Names → Log → List ℕ
log_line names l = log_what_line names l.path l.what

-- `wait PATH HOME#SERIAL`
unfoldable pub wait_line : WaitAt → List ℕ
wait_line w = codes "wait " ++ (path_text w.path ++ (codes " " ++ (channel_text w.chan.channel ++ codes "\n")))

-- `steps PATH N`
unfoldable pub own_line : OwnSteps → List ℕ
own_line s = codes "steps " ++ (path_text s.path ++ (codes " " ++ (decimal s.count ++ codes "\n")))

-- `events N`
unfoldable pub events_line : ℕ → List ℕ
events_line n = codes "events " ++ (decimal n ++ codes "\n")

-- of a run that was stopped, and of no other: how many steps of its own each process did, and how many events were no process's own
unfoldable pub spent_part : Outcome → List OwnSteps → ℕ → List ℕ
spent_part Spent own events = flat_map own_line own ++ events_line events
spent_part _ own events = []

-- the word of an outcome, and the name of an uncaught exception, with a space after each
abbrev pub outcome_text : Names → Outcome → List ℕ
outcome_text names Done = codes "done "
outcome_text names (Uncaught i) = codes "uncaught " ++ (name_text names i ++ codes " ")
outcome_text names Trapped = codes "trap "
outcome_text names Blocked = codes "blocked "
outcome_text names Spent = codes "spent "

-- `end done S` and the like
unfoldable pub end_line : Names → Outcome → ℕ → List ℕ
end_line names outcome steps = codes "end " ++ (outcome_text names outcome ++ (decimal steps ++ codes "\n"))

-- The report of a run: output, histories, logs, waits, the counts of a run that was stopped, and how it ended, in this order. Each line ends with a line feed.
unfoldable pub report : Names → Ended → List ℕ
report names e =
    output_line e.output ++ (flat_map (history_line names) e.histories ++ (flat_map (log_line names) e.logs
    ++ (flat_map wait_line e.waits ++ (spent_part e.outcome e.own e.events ++ end_line names e.outcome e.steps))))
