-- What is prepared of the contents of a job's files.
use Rattle.std.proofs.Common.{◌≡◌, ◌≤◌, ℕ, List, length, refl, sym, ◌∙◌, subst}
use Rattle.shim_command.specs.declared.job.Job.{Job}
use Rattle.shim_command.specs.declared.mode.Origin.{Origin}
use Rattle.shim_command.specs.declared.mode.Origin.TheVariants.{Stored, Generated}
use Rattle.shim_command.specs.Modes.{row_of}
use Rattle.shim_answers.specs.Tasks.{Beside}
use Rattle.shim_tool.specs.Modes.{beside_in, first_content, journal_in, source_text, text_from}
use Rattle.shim_tool.specs.Reads.{all}
use Rattle.shim_tool.specs.Prepared.{Prepared, PreparesRead, PreparesSource}

-- of two contents that are one if the source was read from a file, the text is one
same_text : (origin : Origin) (job : Job) (one other : List ℕ) → (origin ≡ Stored → one ≡ other) → text_from origin job one ≡ text_from origin job other
same_text Stored job one other same = same refl
same_text Generated job one other same = refl

-- it is what is prepared of the source and of what was read beside it
pub contents_prepared : (job : Job) (contents : List (List ℕ)) (source : List ℕ) (beside : Beside) (text : List ℕ) (p : Prepared) → ((row_of job.mode).origin ≡ Stored → source ≡ first_content contents) → beside ≡ beside_in job contents
    → text ≡ text_from (row_of job.mode).origin job source → PreparesSource job beside text p → PreparesRead job (all contents) p
contents_prepared job contents source beside text p from_first from_beside made prepared =
    subst (λ (b : Beside). PreparesSource job b (source_text job contents) p) from_beside
    (subst (λ (bytes : List ℕ). PreparesSource job beside bytes p) (made ∙ same_text (row_of job.mode).origin job source (first_content contents) from_first) prepared)

-- the journal among them is as short as a journal has to be
pub journal_short : (job : Job) (contents : List (List ℕ)) (beside : Beside) → beside ≡ beside_in job contents → length (journal_in job contents) ≤ 67108864 → length beside.journal ≤ 67108864
journal_short job contents beside from_beside few = subst (λ (b : Beside). length b.journal ≤ 67108864) (sym from_beside) few
