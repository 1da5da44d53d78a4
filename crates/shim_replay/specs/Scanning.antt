-- A journal's text, read from left to right: each definition gives what the text begins with, and the bytes after that.
use Rattle.std.specs.Prelude.{◌≡◌, ℕ, zero, suc, ◌+◌, ◌*◌, ◌-◌, List, [], ◌∷◌, ◌++◌, Option, Some, None, Result, Ok, Err, nat_lt, nat_eq, eqb, codes, decimal, drop, length, if◌then◌else◌}
use Rattle.std.specs.List.{starts_with}
use Rattle.shim_base.specs.Paths.{Path, Channel}
use Rattle.shim_base.specs.Tokens.{is_digit}
use Rattle.shim_semantics.specs.Trees.{Event, Own, Meet, Poison, Close, End}
use Rattle.shim_laws_replay.specs.Journals.{Entry, Quiet, Did}
use Rattle.shim_laws_journals.specs.Ranges.{steps_in}
use Rattle.shim_replay.specs.declared.fault.ReadFault.{ReadFault}
use Rattle.shim_replay.specs.declared.fault.ReadFault.TheVariants as faults
use Rattle.shim_replay.specs.declared.fault.TextFault.{TextFault}
use Rattle.shim_replay.specs.declared.fault.TextFault.TheVariants as texts

infixl 10 ◌>>=◌
-- the answer of f to what was found; nothing where nothing was found
abbrev pub ◌>>=◌ : {A B : Type 0} → Option A → (A → Option B) → Option B
(Some x) >>= f = f x
None >>= f = None

-- The code's fault fits what the definition reads. `Malformed` comes only where the definition reads nothing, and `NoMemory` may come at any text.
abbrev pub FailsAs : {Y : Type 0} → ReadFault → Option Y → Type 0
FailsAs faults.NoMemory read = Unit {0}
FailsAs faults.Malformed read = read ≡ None

-- what the code read, by `view`, is what `read` is; for a fault `FailsAs` holds
abbrev pub ReadsAs : {X Y : Type 0} → (X → Y) → Result X ReadFault → Option Y → Type 0
ReadsAs view (Ok x) read = read ≡ Some (view x)
ReadsAs view (Err e) read = FailsAs e read

-- the bytes after `word`, where the text begins with it
abbrev pub scan_word : List ℕ → List ℕ → Option (List ℕ)
scan_word word bytes = if starts_with eqb bytes word then Some (drop (length word) bytes) else None

-- The number that n and all digits at the front make, with the bytes after them. Where the number reaches the limit, there is none.
abbrev pub scan_digits : ℕ → ℕ → List ℕ → Option (ℕ × List ℕ)
scan_digits limit n [] = Some (n, [])
scan_digits limit n (c ∷ cs) =
    if is_digit c then (if nat_lt (n * 10 + (c - 48)) limit then scan_digits limit (n * 10 + (c - 48)) cs else None)
    else Some (n, c ∷ cs)

-- a number without leading zeros, below the limit
unfoldable pub scan_number : ℕ → List ℕ → Option (ℕ × List ℕ)
scan_number limit [] = None
scan_number limit (c ∷ cs) = if nat_eq c 48 then Some (0, cs) else (if is_digit c then scan_digits limit 0 (c ∷ cs) else None)

-- a number from 1 on, without leading zeros and below the limit
unfoldable pub scan_count : ℕ → List ℕ → Option (ℕ × List ℕ)
scan_count limit bytes = do
  n ← scan_number limit bytes
  if nat_eq n.0 0 then None else Some n

-- numbers of paths and channels are below this
abbrev pub number_limit : ℕ
number_limit = 4294967296

-- counts of steps are below this
abbrev pub step_limit : ℕ
step_limit = 4000001

-- `FORK.BRANCH`, and the bytes after it
unfoldable pub scan_pair : List ℕ → Option ((ℕ × ℕ) × List ℕ)
scan_pair bytes = do
  fork ← scan_number number_limit bytes
  after ← scan_word (codes ".") fork.1
  branch ← scan_number number_limit after
  Some ((fork.0, branch.0), branch.1)

-- at most so many pairs, each after a `/`, and the bytes after them
unfoldable pub scan_pairs : ℕ → List ℕ → Option (Path × List ℕ)
scan_pairs zero bytes = Some ([], bytes)
scan_pairs (suc n) bytes = if starts_with eqb bytes (codes "/") then
    (scan_pair (drop 1 bytes) >>= λ pair. scan_pairs n pair.1 >>= λ pairs. Some (pair.0 ∷ pairs.0, pairs.1))
    else Some ([], bytes)

-- `main` with its pairs, and the bytes after it
unfoldable pub scan_path : List ℕ → Option (Path × List ℕ)
scan_path bytes = do
  after ← scan_word (codes "main") bytes
  scan_pairs (length after) after

-- `HOME#SERIAL`, and the bytes after it
unfoldable pub scan_channel : List ℕ → Option (Channel × List ℕ)
scan_channel bytes = do
  home ← scan_path bytes
  after ← scan_word (codes "#") home.1
  serial ← scan_number number_limit after
  Some (record { home = home.0; serial = serial.0 }, serial.1)

-- `PATH STEPS` with a line feed as quiet steps of the process, and the bytes after it
unfoldable pub scan_quiet : List ℕ → Option (Entry × List ℕ)
scan_quiet bytes = do
  path ← scan_path bytes
  after ← scan_word (codes " ") path.1
  steps ← scan_count step_limit after
  rest ← scan_word (codes "\n") steps.1
  Some (Quiet path.0 steps.0, rest)

-- a path and the end of its line
abbrev pub scan_path_line : List ℕ → Option (Path × List ℕ)
scan_path_line bytes = do
  path ← scan_path bytes
  rest ← scan_word (codes "\n") path.1
  Some (path.0, rest)

-- an event that a path alone names
abbrev pub scan_of_path : (Path → Event) → List ℕ → Option (Entry × List ℕ)
scan_of_path event bytes = do
  path ← scan_path_line bytes
  Some (Did (event path.0), path.1)

-- `HOME#SERIAL` with a line feed as a rendezvous on the channel, and the bytes after it
unfoldable pub scan_meet : List ℕ → Option (Entry × List ℕ)
scan_meet bytes = do
  chan ← scan_channel bytes
  rest ← scan_word (codes "\n") chan.1
  Some (Did (Meet chan.0), rest)

-- `PATH HOME#SERIAL` with a line feed as a poison of the child, and the bytes after it
unfoldable pub scan_poison : List ℕ → Option (Entry × List ℕ)
scan_poison bytes = do
  path ← scan_path bytes
  after ← scan_word (codes " ") path.1
  chan ← scan_channel after
  rest ← scan_word (codes "\n") chan.1
  Some (Did (Poison path.0 chan.0), rest)

-- the line of an entry, by its first word
unfoldable pub scan_entry : List ℕ → Option (Entry × List ℕ)
scan_entry bytes =
    if starts_with eqb bytes (codes "quiet ") then scan_quiet (drop 6 bytes)
    else (if starts_with eqb bytes (codes "meet ") then scan_meet (drop 5 bytes)
    else (if starts_with eqb bytes (codes "own ") then scan_of_path Own (drop 4 bytes)
    else (if starts_with eqb bytes (codes "end ") then scan_of_path End (drop 4 bytes)
    else (if starts_with eqb bytes (codes "close ") then scan_of_path Close (drop 6 bytes)
    else (if starts_with eqb bytes (codes "poison ") then scan_poison (drop 7 bytes) else None)))))

-- `journal B` with a line feed, and the bytes after it
unfoldable pub scan_budget : List ℕ → Option (ℕ × List ℕ)
scan_budget bytes = do
  after ← scan_word (codes "journal ") bytes
  budget ← scan_count step_limit after
  rest ← scan_word (codes "\n") budget.1
  Some (budget.0, rest)

-- The end of a journal's text, whose last line has this number. Where that line is faulty, the fault has its number. Where bytes follow the line, the fault has the number of the next line.
abbrev pub ends_at : ℕ → Option (List ℕ) → Result (List Entry) ℕ
ends_at line None = Err line
ends_at line (Some []) = Ok []
ends_at line (Some (c ∷ cs)) = Err (line + 1)

-- the bytes after the sum of steps and a line feed
abbrev pub scan_steps_line : ℕ → List ℕ → Option (List ℕ)
scan_steps_line sum bytes = scan_word (decimal sum) bytes >>= λ after. scan_word (codes "\n") after

-- the end of a journal's text, from the sum in the line `stop S` on; that line has this number
abbrev pub scan_stop : ℕ → ℕ → List ℕ → Result (List Entry) ℕ
scan_stop line sum bytes = ends_at line (scan_steps_line sum bytes)

-- what was found, or else the number of the line
abbrev pub ok_or_line : {A : Type 0} → ℕ → Option A → Result A ℕ
ok_or_line line (Some x) = Ok x
ok_or_line line None = Err line

-- the entries of the result with `front` before them, or the line of the result's fault
abbrev pub with_front : List Entry → Result (List Entry) ℕ → Result (List Entry) ℕ
with_front front (Ok es) = Ok (front ++ es)
with_front front (Err line) = Err line

-- The entry before those that `on` reads after it, to which the sum with its steps is given. Where there is no entry, the number of its line.
abbrev pub after_entry : (ℕ → List ℕ → Result (List Entry) ℕ) → ℕ → ℕ → Option (Entry × List ℕ) → Result (List Entry) ℕ
after_entry on line sum None = Err line
after_entry on line sum (Some e) = with_front (e.0 ∷ []) (on (sum + steps_in e.0) e.1)

-- The entries of at most so many lines, the last of which is `stop S`. The first of the lines has this number, and the entries before it have `sum` steps.
unfoldable pub scan_lines : ℕ → ℕ → ℕ → List ℕ → Result (List Entry) ℕ
scan_lines zero line sum bytes = Err line
scan_lines (suc n) line sum bytes =
    if starts_with eqb bytes (codes "stop ") then scan_stop line sum (drop 5 bytes)
    else after_entry (scan_lines n (line + 1)) line sum (scan_entry bytes)

-- the budget with the entries, or the number of a faulty line
abbrev pub with_budget : ℕ → Result (List Entry) ℕ → Result (ℕ × List Entry) ℕ
with_budget b (Ok es) = Ok (b, es)
with_budget b (Err line) = Err line

-- The budget with the entries of the lines after it. Where there is no budget, the faulty line is 1.
abbrev pub after_budget : Option (ℕ × List ℕ) → Result (ℕ × List Entry) ℕ
after_budget None = Err 1
after_budget (Some b) = with_budget b.0 (scan_lines 4294967295 2 0 b.1)

-- the budget and the entries of a journal's text, or the number of the line at which the scan ends without them
unfoldable pub scan_journal : List ℕ → Result (ℕ × List Entry) ℕ
scan_journal bytes = after_budget (scan_budget bytes)

-- The code's fault fits what the definition reads. `Malformed` has the line of the definition's fault, and `NoMemory` may come at any text.
abbrev pub FailsTextAs : {Y : Type 0} → TextFault → Result Y ℕ → Type 0
FailsTextAs texts.NoMemory read = Unit {0}
FailsTextAs (texts.Malformed line) read = read ≡ Err line

-- what the code read, by `view`, is what `read` is; for a fault `FailsTextAs` holds
abbrev pub ReadsTextAs : {X Y : Type 0} → (X → Y) → Result X TextFault → Result Y ℕ → Type 0
ReadsTextAs view (Ok x) read = read ≡ Ok (view x)
ReadsTextAs view (Err e) read = FailsTextAs e read
