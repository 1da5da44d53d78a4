use Rattle.std.proofs.Common.{◌≡◌, List, Some, codes, ◌∙◌, ap, sym, subst, Option}
use Rattle.std.specs.Prelude.{IfOk}
use Rattle.clap.specs.Kinds.{HasKind}
use Rattle.clap.specs.Words.{App, Row, first_of, fault_of, found_of, is_simple, is_simple_and_free, matches_of, rows_of}
use Rattle.shim_command.specs.Jobs.{Gives, texts_of}
use Rattle.shim_command.specs.declared.job.Job.{Job}
use Rattle.shim_command.proofs.Fits.{fit_all}
use Rattle.shim_command.proofs.Given.{answer_given, file_found}
use Rattle.shim_command.proofs.Numbers.{answer_within}
use Rattle.shim_command.proofs.Taken.{failed, shim_is_free, shim_is_simple, taken}
use Rattle.shim_command.proofs.words.read_words.Goals as goal

pub job_in-requires : goal.job_in-requires
job_in-requires c = fit_all c.in_ok-command.field-0 c.in-Ok.matches c.in-Ok.ensures.parsed c.in_ok-command.ensures

pub returns-in-Ok-clause-job : goal.returns-in-Ok-clause-job
returns-in-Ok-clause-job c =
    let is = c.in_ok-command.ensures in
    let words = texts_of c.args.words.now in
    let rows = rows_of (found_of c.in-Ok.matches) in
    let none = sym (ap (λ (a : App). fault_of a words) is) ∙ c.in-Ok.ensures.kinds (ap is_simple_and_free is ∙ shim_is_free) in
    let are = (c.in-Ok.ensures.matches (ap is_simple is ∙ shim_is_simple)).0 ∙ ap (λ (a : App). matches_of a words) is in
    subst (λ (o : Option Job). Gives o c.job_in.result) (sym (taken words rows none are)) c.job_in.ensures

pub returns-in-Ok-clause-within : goal.returns-in-Ok-clause-within
returns-in-Ok-clause-within c =
    let is = c.in_ok-command.ensures in
    let rows = rows_of (found_of c.in-Ok.matches) in
    answer_within rows c.job_in.result (fit_all c.in_ok-command.field-0 c.in-Ok.matches c.in-Ok.ensures.parsed is) c.job_in.ensures

pub returns-in-Ok-clause-given : goal.returns-in-Ok-clause-given
returns-in-Ok-clause-given c =
    let is = c.in_ok-command.ensures in
    let words = texts_of c.args.words.now in
    let rows = rows_of (found_of c.in-Ok.matches) in
    let are = (c.in-Ok.ensures.matches (ap is_simple is ∙ shim_is_simple)).0 ∙ ap (λ (a : App). matches_of a words) is in
    subst (λ (rs : List Row). IfOk c.job_in.result (λ job. first_of (codes "FILE") rs ≡ Some job.file)) are
    (answer_given rows c.job_in.result (file_found c.in_ok-command.field-0 c.in-Ok.matches c.in-Ok.ensures.parsed is) c.job_in.ensures)

pub returns-in-Err-clause-job : goal.returns-in-Err-clause-job
returns-in-Err-clause-job c =
    let is = c.in_ok-command.ensures in
    let words = texts_of c.args.words.now in
    let kinds = subst (λ (a : App). HasKind (fault_of a words) c.in-Err.error) is (c.in-Err.ensures.kinds (ap is_simple_and_free is ∙ shim_is_free)) in
    failed words c.in-Err.error c.fault_of.result kinds c.fault_of.ensures
