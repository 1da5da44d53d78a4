-- What the calls of `clap` answer, as the definition says it, and that a job's numbers are in their ranges.
use Rattle.std.proofs.Common.{◌≡◌, ◌≤◌, ℕ, true, List, length, Option, Some, None, T, refl, sym, subst, ap, arith, leb→le}
use Rattle.std.specs.Prelude.{Result, Ok, Err, IfOk, nat_le, option_map, unwrap_or}
use Rattle.std.specs.Borrow.{Bor}
use Rattle.std.specs.Str.Parse.{ParsesUnsigned}
use Rattle.clap.specs.Matches.{ReadsOne}
use Rattle.clap.specs.Words.{Row, Text}
use Rattle.shim_base.proofs.Facts.{first_holds, second_holds}
use Rattle.shim_command.specs.declared.job.Job.{Job}
use Rattle.shim_command.specs.declared.mode.Mode.{Mode}
use Rattle.shim_command.specs.declared.job.WordsFault.{WordsFault}
use Rattle.shim_command.proofs.Taken.{of_job}
use Rattle.shim_command.specs.declared.mode.Extra.{Extra}
use Rattle.shim_command.specs.declared.mode.Extra.TheVariants.{Inputs}
use Rattle.shim_command.specs.Jobs.{FitAll, Gives, IsNumberText, IsWithin, has_extra, has_origin, job_in, job_with, parsed_number, suits}
use Rattle.shim_command.specs.Modes.{row_of}

-- what is borrowed, or the default, is what there is, or the default
pub unwrapped : (found : Option (Bor Text)) (default : Bor Text) (text : Option Text) → option_map (λ b. b.now) found ≡ text
    → (unwrap_or found default).now ≡ unwrap_or text default.now
unwrapped None default text is = ap (λ (o : Option Text). unwrap_or o default.now) is
unwrapped (Some b) default text is = ap (λ (o : Option Text). unwrap_or o default.now) is

-- the number that is read of an option's text is the number of the text
pub number_read : {E : Type 0} (G : List ℕ → Result ℕ E → Type 0) → ((u : List ℕ) (x : Result ℕ E) → G u x → ParsesUnsigned 64 10 u x)
    → (least most : ℕ) (given : Option Text) (default : ℕ) (r : Option ℕ) → IsNumberText least most given
    → (given ≡ None → r ≡ None) → ((t : List ℕ) → given ≡ Some t → ReadsOne G t r)
    → unwrap_or r default ≡ parsed_number given default
number_read G only least most None default r fits none some = ap (λ (o : Option ℕ). unwrap_or o default) (none refl)
number_read G only least most (Some t) default (Some v) fits none some = (only t (Ok v) (some t refl)).1
number_read G only least most (Some t) default None fits none some =
    let e = some t refl in
    absurd (only t (Err e.0) e.1 (fits.0, fits.1))

numbered_within : (least most : ℕ) (given : Option Text) (default : ℕ) → IsNumberText least most given → least ≤ default → default ≤ most
    → (least ≤ parsed_number given default) × (parsed_number given default ≤ most)
numbered_within least most None default fits low high = (low, high)
numbered_within least most (Some t) default fits low high = (fits.2, fits.3)

le_of_true : (m n : ℕ) → nat_le m n ≡ true → m ≤ n
le_of_true m n is = leb→le m n (subst T (sym is) tt)

-- a mode that runs its source on several inputs takes 1 to 64 of them
few_inputs : (job : Job) → suits job ≡ true → (row_of job.mode).beside ≡ Inputs → (1 ≤ length job.inputs) × (length job.inputs ≤ 64)
few_inputs job fits are =
    let extra : has_extra (row_of job.mode).beside job ≡ true = second_holds (has_origin (row_of job.mode).origin job) (has_extra (row_of job.mode).beside job) fits in
    let both = subst (λ (e : Extra). has_extra e job ≡ true) are extra in
    (le_of_true 1 (length job.inputs) (first_holds (nat_le 1 (length job.inputs)) (nat_le (length job.inputs) 64) both), le_of_true (length job.inputs) 64 (second_holds (nat_le 1 (length job.inputs)) (nat_le (length job.inputs) 64) both))

with_within : (mode : Mode) (rows : List Row) → FitAll rows → suits (job_with mode rows) ≡ true → IsWithin (job_with mode rows)
with_within how rows fit fits = record {
  workers = numbered_within 1 16 _ 4 fit.0 (omega arith) (omega arith);
  budget = numbered_within 1 4000000 _ 1000000 fit.1 (omega arith) (omega arith);
  quantum = numbered_within 1 10000 _ 64 fit.2 (omega arith) (omega arith);
  size = numbered_within 1 100000 _ 1000 fit.3 (omega arith) (omega arith);
  inputs = few_inputs (job_with how rows) fits;
}

pub answer_within : (rows : List Row) (r : Result Job WordsFault) → FitAll rows → Gives (job_in rows) r → IfOk r IsWithin
answer_within rows (Ok found) fit is = of_job IsWithin rows (λ mode fits. with_within mode rows fit fits) found is
answer_within rows (Err fault) fit is = tt
