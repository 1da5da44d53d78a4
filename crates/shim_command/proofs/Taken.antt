-- The job of words, by what `clap` says of them.
use Rattle.std.proofs.Common.{◌≡◌, List, Option, Some, None, [], ◌∷◌, inl, inr, Bool, true, false, cond, codes, refl, sym, subst, ap, ◌∙◌}
use Rattle.std.specs.Prelude.{Err, unwrap_or}
use Rattle.clap.specs.Kinds.{HasKind, IsAmong, Kinds}
use Rattle.clap.specs.Words.{Row, Text, fault_of, is_simple, is_simple_and_free, kind_of, matches_of}
use Rattle.clap.specs.declared.error.Error.{Error}
use Rattle.clap.specs.declared.error.kind.ErrorKind.{ErrorKind}
use Rattle.shim_command.specs.Command.{command_rules, shim_app}
use Rattle.shim_command.specs.Modes.{mode_named}
use Rattle.shim_command.specs.Jobs.{Gives, IsErrorOf, job, job_in, job_of, job_with, suits, where_faultless, word_in}
use Rattle.shim_command.specs.declared.job.Job.{Job}
use Rattle.shim_command.specs.declared.mode.Mode.{Mode}
use Rattle.shim_command.specs.declared.job.WordsFault.{WordsFault}
use Rattle.shim_command.specs.declared.job.WordsFault.TheVariants.{Refused, NoMemory}

pub shim_is_simple : is_simple shim_app ≡ true
unfolding command_rules shim_app
shim_is_simple = refl

pub shim_is_free : is_simple_and_free shim_app ≡ true
unfolding command_rules shim_app
shim_is_free = refl

-- words without a fault have the job of what is found in them
pub taken : (words : List Text) (rows : List Row) → fault_of shim_app words ≡ [] → rows ≡ matches_of shim_app words → job words ≡ job_in rows
unfolding job
taken words rows none are = ap (λ (ks : Kinds). where_faultless ks (job_in (matches_of shim_app words))) none ∙ ap job_in (sym are)

none_of : (found : Option Job) (k : ErrorKind) (ks : Kinds) → IsAmong k ks → where_faultless ks found ≡ None
none_of found k [] h = absurd h
none_of found k (x ∷ xs) h = refl

-- words with a fault have none
refused : (words : List Text) (k : ErrorKind) → IsAmong k (fault_of shim_app words) → job words ≡ None
unfolding job
refused words k among = none_of (job_in (matches_of shim_app words)) k (fault_of shim_app words) among

-- an error is answered as what it is
pub failed : (words : List Text) (e : Error) (fault : WordsFault) → HasKind (fault_of shim_app words) e → IsErrorOf (kind_of e) fault
    → Gives (job words) (Err fault)
failed words e NoMemory kinds is = tt
failed words e Refused kinds is = elim kinds [
  | inl memory ↦ absurd (is memory)
  | inr among ↦ refused words (kind_of e) among
]

of_suiting : (P : Job → Type 0) (job found : Job) (b : Bool) → suits job ≡ b → (suits job ≡ true → P job) → cond b (Some job) None ≡ Some found → P found
of_suiting P job found true fits holds is = subst (λ (o : Option Job). P (unwrap_or o found)) is (holds fits)
of_suiting P job found false fits holds is = cc

of_mode : (P : Job → Type 0) (mode : Option Mode) (rows : List Row) → ((mode : Mode) → suits (job_with mode rows) ≡ true → P (job_with mode rows)) → (found : Job)
    → job_of mode rows ≡ Some found → P found
of_mode P None rows each found is = cc
of_mode P (Some mode) rows each found is = of_suiting P (job_with mode rows) found (suits (job_with mode rows)) refl (each mode) is

-- what holds of the job of each mode that takes what was found, holds of the job
pub of_job : (P : Job → Type 0) (rows : List Row) → ((mode : Mode) → suits (job_with mode rows) ≡ true → P (job_with mode rows)) → (found : Job) → job_in rows ≡ Some found → P found
of_job P rows each found is = of_mode P (mode_named (word_in rows (codes "MODE"))) rows each found is
