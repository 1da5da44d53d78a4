-- What an option of numbers was given is a number in its range, as `clap` says of each value that it takes.
use Rattle.std.proofs.Common.{◌≡◌, ◌∙◌, ◌<◌, ap, ℕ, true, List, [], ◌∷◌, length, Option, Some, None, refl, sym, subst, inl, inr, arith, codes}
use Rattle.std.specs.List.{All, slice_index_or}
use Rattle.std.specs.Str.{bytes_eq}
use Rattle.std.specs.Prelude.{option_map, option_and_then, slice_get}
use Rattle.std.specs.Borrow.{Bor}
use Rattle.std.proofs.lemmas.List.Elements.{All-get_or}
use Rattle.std.proofs.lemmas.Slice.Eq.{bytes_eq-Decides}
use Rattle.clap.proofs.CallerLemmas.{entry_by_id, same_rules_by_id}
use Rattle.clap.proofs.WalkLemmas.{one_text-rows}
use Rattle.clap.specs.Facts.{Entry, EntryPasses, HasReading, PassesArg, ValuesPass, args_of, groups_of, parser_of, parser_of_value}
use Rattle.clap.specs.Built.{IsParsedFrom, SameRules}
use Rattle.clap.specs.Matches.{found_of, matched_of}
use Rattle.clap.specs.Values.{Accepts, IsUnsignedIn, read_as, reading_of}
use Rattle.clap.specs.Words.{Rule, Text, app_of, one_of, rows_of}
use Rattle.clap.specs.declared.builder.arg.Arg.{Arg}
use Rattle.clap.specs.declared.builder.command.Command.{Command}
use Rattle.clap.specs.declared.builder.value_parser.Reading.{Reading}
use Rattle.clap.specs.declared.builder.value_parser.Reading.TheVariants.{AsWritten}
use Rattle.clap.specs.declared.builder.value_parser.ValueParser.{ValueParser}
use Rattle.clap.specs.declared.builder.value_parser.ValueParser.TheVariants.{Unsigned}
use Rattle.clap.specs.declared.parser.matches.ArgMatches.{ArgMatches}
use Rattle.clap.specs.declared.parser.matches.MatchedArg.{MatchedArg}
use Rattle.shim_command.proofs.Arguments.{IsArgument, as_many, budget_is, differs, here, id_is, names_no_group, no_auto, no_globals, no_groups, quantum_is, size_is, unique, workers_is}
use Rattle.shim_command.specs.Command.{number_option, shim_app}
use Rattle.shim_command.specs.Jobs.{FitAll, IsNumberText}

module _ (old : Command) (m : ArgMatches) (p : IsParsedFrom old m) (is : app_of old ≡ shim_app) where
  module _ (k : ℕ) (name : Text) (least most : ℕ) (own : IsArgument k (number_option name least most)) where
    parser_is : (d : Arg) → (slice_index_or (args_of old) k d).value_parser ≡ Some (Unsigned least most)
    parser_is d = ap (λ (r : Rule). r.parser) (here old is k (number_option name least most) own d)

    same_rules : (j : ℕ) (x : Arg) → j < length (args_of p.built) → slice_index_or (args_of p.built) j x ≡ x
        → bytes_eq x.id.now name ≡ true → parser_of x ≡ Unsigned least most
    same_rules j x lt at same =
        let r = number_option name least most in
        let s : SameRules (slice_index_or (args_of old) k x) x =
        same_rules_by_id old m p k x (rw (as_many old is) own.below) (unique old is k r own x) (no_auto old is k r own x) j x lt at (rw (id_is old is k r own x) same) in
        ap parser_of_value (s.parser (Unsigned least most) (parser_is x))

    accepted : (v : Text) → PassesArg p.built name v → IsUnsignedIn least most v
    accepted v pass = subst (λ (q : ValueParser). Accepts pass.1.ignore_case q v) (same_rules pass.0 pass.1 pass.2 pass.3 pass.4.0) pass.4.1

    read : (r : Reading) → HasReading p.built name r → r ≡ AsWritten
    read r any = sym any.4.1 ∙ ap reading_of (same_rules any.0 any.1 any.2 any.3 any.4.0)

    first_fits : (how : Reading) → how ≡ AsWritten → (vs : List (Bor Text)) → All (λ v. PassesArg p.built name v.now) vs
        → IsNumberText least most (option_map (λ s. read_as how s.now) (slice_get vs 0))
    first_fits how written [] all = tt
    first_fits how written (v ∷ vs) all =
        let passed = accepted v.now (All-get_or (λ (x : Bor Text). PassesArg p.built name x.now) (v ∷ vs) 0 v (omega arith) all) in
        subst (λ (h : Reading). IsNumberText least most (Some (read_as h v.now))) (sym written) passed

    entry_fits : (x : MatchedArg) (e : Entry) → groups_of p.built ≡ [] → e.1 ≡ x → e.0.now ≡ name → EntryPasses p.built e
        → IsNumberText least most (option_map (λ s. read_as x.reading s.now) (slice_get x.vals.items 0))
    entry_fits x e no_groups same_x key pass =
        let no_group : e.1.is_group ≡ true → ⊥ = λ g. elim (pass.3 g) [
          | inl empty ↦ differs name [] own.named refl (sym key ∙ empty)
          | inr lots ↦
              let bad : 0 < 0 = rw no_groups at lots in
              absurd (omega arith)
        ] in
        let all : All (λ v. PassesArg p.built name v.now) x.vals.items = elim pass.0 [
          | inl g ↦ absurd (no_group g)
          | inr vals ↦ subst (λ (w : Text). All (λ v. PassesArg p.built w v.now) x.vals.items) key (rw same_x at vals)
        ] in
        let is_written : e.1.reading ≡ AsWritten = elim pass.4 [
          | inl g ↦ absurd (no_group g)
          | inr h ↦ read e.1.reading (subst (λ (w : Text). HasReading p.built w e.1.reading) key h)
        ] in
        first_fits x.reading (ap (λ (y : MatchedArg). y.reading) (sym same_x) ∙ is_written) x.vals.items all

    option_fits : groups_of p.built ≡ [] → ValuesPass p.built (found_of m) → IsNumberText least most (one_of name (rows_of (found_of m)))
    option_fits no_groups values = subst (IsNumberText least most) (one_text-rows (found_of m) name) (go (matched_of (found_of m) name) refl)
      where
        step : (x : MatchedArg) → ((e : Entry) × (e.1 ≡ x) × (bytes_eq e.0.now name ≡ true) × EntryPasses p.built e)
            → IsNumberText least most (option_map (λ s. read_as x.reading s.now) (slice_get x.vals.items 0))
        step x got = entry_fits x got.0 no_groups got.1 ((bytes_eq-Decides got.0.0.now name).0 got.2) got.3

        go : (o : Option MatchedArg) → matched_of (found_of m) name ≡ o
            → IsNumberText least most (option_and_then (λ a. option_map (λ s. read_as a.reading s.now) (slice_get a.vals.items 0)) o)
        go None e = tt
        go (Some x) e = step x (entry_by_id (EntryPasses p.built) (found_of m).entries.items name x values e)

  built_no_groups : groups_of p.built ≡ []
  built_no_groups = (p.from.same_groups (names_no_group old is)).1 ∙ no_groups old is

  -- the numbers that a parse of this command found are numbers
  pub fit_all : FitAll (rows_of (found_of m))
  fit_all =
      let values = (p.parsed (p.from.globals ∙ no_globals old is)).values in (
        option_fits 3 (codes "workers") 1 16 workers_is built_no_groups values,
        option_fits 4 (codes "budget") 1 4000000 budget_is built_no_groups values,
        option_fits 5 (codes "quantum") 1 10000 quantum_is built_no_groups values,
        option_fits 6 (codes "size") 1 100000 size_is built_no_groups values,
      )
