-- What `clap` takes has a word for FILE.
use Rattle.std.proofs.Common.{◌≡◌, ◌≤◌, ◌∙◌, ap, ℕ, true, List, [], ◌∷◌, length, is_some, Option, Some, None, refl, sym, subst, arith, codes}
use Rattle.std.specs.List.{slice_index_or}
use Rattle.std.specs.Prelude.{Result, Ok, Err, IfOk, unwrap_or}
use Rattle.clap.proofs.CallerLemmas.{required_has_value}
use Rattle.clap.proofs.WalkLemmas.{first_value-rows}
use Rattle.clap.specs.Built.{IsParsedFrom}
use Rattle.clap.specs.Facts.{args_of, least_values, unwrap_or_range}
use Rattle.clap.specs.Matches.{first_value, found_of}
use Rattle.clap.specs.Words.{Row, Rule, Text, app_of, first_of, rows_of, rule_of}
use Rattle.clap.specs.declared.builder.arg.Arg.{Arg}
use Rattle.clap.specs.declared.builder.command.Command.{Command}
use Rattle.clap.specs.declared.builder.range.ValueRange.{ValueRange}
use Rattle.clap.specs.declared.parser.matches.ArgMatches.{ArgMatches}
use Rattle.shim_command.proofs.Arguments.{IsArgument, as_many, file_is, here, id_is, is_plain, no_auto, no_delimiter, no_globals, no_negates, not_empty, unique}
use Rattle.shim_command.specs.Command.{command_rules, positional, shim_app}
use Rattle.shim_command.proofs.Taken.{of_job}
use Rattle.shim_command.specs.Jobs.{Gives, job_in}
use Rattle.shim_command.specs.declared.job.Job.{Job}
use Rattle.shim_command.specs.declared.job.WordsFault.{WordsFault}

module _ (old : Command) (m : ArgMatches) (p : IsParsedFrom old m) (is : app_of old ≡ shim_app) where
  module _ (k : ℕ) (name : Text) (own : IsArgument k (positional name)) where
    with_one : (d : Arg) → is_some (first_value (found_of m) name) ≡ true
    with_one d =
        let r = positional name in
        let rule = here old is k r own d in
        subst (λ (t : Text). is_some (first_value (found_of m) t) ≡ true) (id_is old is k r own d)
        (required_has_value old m p (is_plain old is) (no_globals old is) (no_negates old is) k d (rw (as_many old is) own.below)
        (ap (λ (r : Rule). r.required) rule) (ap (λ (r : Rule). r.action) rule) (no_delimiter old is k d (rw (as_many old is) own.below))
        (least d rule) (unique old is k r own d) (not_empty old is k r own d) (no_auto old is k r own d))
      where
        least : (d : Arg) → rule_of (slice_index_or (args_of old) k d) ≡ positional name → 1 ≤ least_values (slice_index_or (args_of old) k d)
        least d rule = subst (λ (o : Option ValueRange). 1 ≤ (unwrap_or_range o).start_inclusive) (sym (ap (λ (r : Rule). r.range) rule)) (omega arith)

    has_value : is_some (first_value (found_of m) name) ≡ true
    has_value = go (args_of old) refl
      where
        go : (xs : List Arg) → args_of old ≡ xs → is_some (first_value (found_of m) name) ≡ true
        go [] none =
            let few : length command_rules ≡ 0 = sym (as_many old is) ∙ ap length none in
            let below = own.below in
            absurd (omega arith)
        go (x ∷ xs) e = with_one x

  pub file_found : is_some (first_of (codes "FILE") (rows_of (found_of m))) ≡ true
  file_found = subst (λ (o : Option Text). is_some o ≡ true) (first_value-rows (found_of m) (codes "FILE")) (has_value 1 (codes "FILE") file_is)

whole : (o : Option Text) → is_some o ≡ true → o ≡ Some (unwrap_or o [])
whole None h = cc
whole (Some text) h = refl

pub answer_given : (rows : List Row) (r : Result Job WordsFault) → is_some (first_of (codes "FILE") rows) ≡ true → Gives (job_in rows) r
    → IfOk r (λ job. first_of (codes "FILE") rows ≡ Some job.file)
answer_given rows (Ok found) has is = of_job (λ (job : Job). first_of (codes "FILE") rows ≡ Some job.file) rows (λ mode fits. whole (first_of (codes "FILE") rows) has) found is
answer_given rows (Err fault) has is = tt
