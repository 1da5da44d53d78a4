-- What words ask for.
use Rattle.std.specs.Prelude.{ℕ, ◌≡◌, ◌≢◌, ◌≤◌, ◌&&◌, Bool, true, false, List, [], ◌∷◌, length, map, nat_eq, nat_le, Option, Some, None, Result, Ok, Err, is_some, if◌then◌else◌, unwrap_or, bytes_eq, codes, string_bytes, String}
use Rattle.std.specs.Option.{option_map_or}
use Rattle.std.specs.Str.Parse.{digits_value, without_leading_plus}
use Rattle.std.specs.declared.alloc.Global.{Global}
use Rattle.clap.specs.Words.{Kinds, Row, Text, all_of, fault_of, first_of, matches_of, one_of}
use Rattle.clap.specs.Values.{IsUnsignedIn}
use Rattle.clap.specs.declared.error.kind.ErrorKind.{ErrorKind}
use Rattle.clap.specs.declared.error.kind.ErrorKind.TheVariants.{OutOfMemory}
use Rattle.shim_generator.specs.Kinds.{kind_named}
use Rattle.shim_command.specs.declared.mode.Mode.{Mode}
use Rattle.shim_command.specs.declared.mode.Extra.{Extra}
use Rattle.shim_command.specs.declared.mode.Extra.TheVariants.{Nothing, Input, InputAndJournal, Inputs}
use Rattle.shim_command.specs.declared.mode.Origin.{Origin}
use Rattle.shim_command.specs.declared.mode.Origin.TheVariants.{Stored, Generated}
use Rattle.shim_command.specs.declared.job.Job.{Job}
use Rattle.shim_command.specs.declared.job.WordsFault.{WordsFault}
use Rattle.shim_command.specs.declared.job.WordsFault.TheVariants.{Refused, NoMemory}
use Rattle.shim_command.specs.Command.{shim_app}
use Rattle.shim_command.specs.Modes.{mode_named, row_of}

-- the bytes of each word
abbrev pub texts_of : List (String Global) → List Text
texts_of words = map string_bytes words

-- the word that was found for an argument that has to be there
abbrev pub word_in : List Row → Text → Text
word_in rows name = unwrap_or (first_of name rows) []

-- the words that were found for an argument that may have several
abbrev pub words_in : List Row → Text → List Text
words_in rows name = unwrap_or (all_of name rows) []

-- the number of a text, in decimal and perhaps with a plus before it; the default, where there is no text
abbrev pub parsed_number : Option Text → ℕ → ℕ
parsed_number given default = option_map_or (λ text. digits_value 10 (without_leading_plus text)) given default

-- the number that an option was given, or its default
abbrev pub option_number : List Row → Text → ℕ → ℕ
option_number rows name default = parsed_number (one_of name rows) default

-- whether a flag was given: `clap` finds a truth value for it as a text
abbrev pub flag_in : List Row → Text → Bool
flag_in rows name = option_map_or (λ text. bytes_eq text (codes "true")) (first_of name rows) false

-- the job of a mode, with what was found for each argument
abbrev pub job_with : Mode → List Row → Job
job_with mode rows = record {
  mode = mode;
  file = word_in rows (codes "FILE");
  inputs = words_in rows (codes "INPUT");
  input = first_of (codes "input") rows;
  workers = option_number rows (codes "workers") 4;
  budget = option_number rows (codes "budget") 1000000;
  quantum = option_number rows (codes "quantum") 64;
  size = option_number rows (codes "size") 1000;
  journal = first_of (codes "journal") rows;
  steal = flag_in rows (codes "steal");
}

-- whether a job has a source of this origin: a source that is generated needs a kind that FILE names
abbrev pub has_origin : Origin → Job → Bool
has_origin Stored job = true
has_origin Generated job = is_some (kind_named job.file)

-- whether a job names no inputs
abbrev pub has_no_inputs : Job → Bool
has_no_inputs job = nat_eq (length job.inputs) 0

-- Whether a job names what is read beside its source. `InputAndJournal` needs the name of a journal. `Inputs` needs 1 to 64 names of inputs, and the others need that INPUT names none.
abbrev pub has_extra : Extra → Job → Bool
has_extra Nothing job = has_no_inputs job
has_extra Input job = has_no_inputs job
has_extra InputAndJournal job = has_no_inputs job && is_some job.journal
has_extra Inputs job = nat_le 1 (length job.inputs) && nat_le (length job.inputs) 64

-- whether the mode takes what was found
abbrev pub suits : Job → Bool
suits job = has_origin (row_of job.mode).origin job && has_extra (row_of job.mode).beside job

-- the job, if its mode takes what was found
abbrev pub where_it_suits : Job → Option Job
where_it_suits job = if suits job then Some job else None

-- the job of the mode, if there is one, with what the rows have, if the mode takes it
abbrev pub job_of : Option Mode → List Row → Option Job
job_of (Some mode) rows = where_it_suits (job_with mode rows)
job_of None rows = None

-- the job of what `clap` found in the words: MODE names a mode, which takes what was found
abbrev pub job_in : List Row → Option Job
job_in rows = job_of (mode_named (word_in rows (codes "MODE"))) rows

-- what was found, if the words have no fault
abbrev pub where_faultless : Kinds → Option Job → Option Job
where_faultless [] found = found
where_faultless (kind ∷ kinds) found = None

-- the job of words, which have none where `clap` finds a fault in them
unfoldable pub job : List Text → Option Job
job words = where_faultless (fault_of shim_app words) (job_in (matches_of shim_app words))

-- the answer is the job that is meant, or that there is none; `NoMemory` may come in place of both
abbrev pub Gives : Option Job → Result Job WordsFault → Type 0
Gives meant (Ok found) = meant ≡ Some found
Gives meant (Err Refused) = meant ≡ None
Gives meant (Err NoMemory) = Unit {0}

-- the numbers of a job are in their ranges, and a job whose mode reads several inputs names 1 to 64 of them
pub record IsWithin (job : Job) : Type 0 where
  pub workers : (1 ≤ job.workers) × (job.workers ≤ 16)
  pub budget : (1 ≤ job.budget) × (job.budget ≤ 4000000)
  pub quantum : (1 ≤ job.quantum) × (job.quantum ≤ 10000)
  pub size : (1 ≤ job.size) × (job.size ≤ 100000)
  pub inputs : (row_of job.mode).beside ≡ Inputs → (1 ≤ length job.inputs) × (length job.inputs ≤ 64)

-- a text, where there is one, is a number from `least` to `most`
abbrev pub IsNumberText : ℕ → ℕ → Option Text → Type 0
IsNumberText least most None = Unit {0}
IsNumberText least most (Some text) = IsUnsignedIn least most text

-- each option of a number that was given has one in its range
abbrev pub FitAll : List Row → Type 0
FitAll rows = IsNumberText 1 16 (one_of (codes "workers") rows)
    × IsNumberText 1 4000000 (one_of (codes "budget") rows)
    × IsNumberText 1 10000 (one_of (codes "quantum") rows)
    × IsNumberText 1 100000 (one_of (codes "size") rows)

-- what is answered to an error of `clap` of this kind
abbrev pub IsErrorOf : ErrorKind → WordsFault → Type 0
IsErrorOf kind Refused = kind ≢ OutOfMemory
IsErrorOf kind NoMemory = kind ≡ OutOfMemory
