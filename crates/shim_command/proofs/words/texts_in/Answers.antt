use Rattle.std.proofs.Common.{◌∙◌, List, [], map, Option, ap, sym}
use Rattle.std.specs.Prelude.{option_map, unwrap_or}
use Rattle.std.specs.Borrow.{Bor}
use Rattle.std.proofs.lemmas.Result.{IfOk-weaker}
use Rattle.clap.proofs.WalkLemmas.{raw_values-rows}
use Rattle.clap.specs.Words.{Text, found_of}
use Rattle.shim_command.proofs.words.texts_in.Goals as goal

abbrev texts_behind : Option (Bor (List (Bor Text))) → Option (List Text)
texts_behind found = option_map (λ s. map (λ v. v.now) s.now) found

abbrev or_none : Option (List Text) → List Text
or_none found = unwrap_or found []

pub returns-in-Some : goal.returns-in-Some
returns-in-Some c =
    let rows = c.get_strs.ensures ∙ raw_values-rows (found_of c.args.matches.now) c.args.name.now in
    IfOk-weaker c.copies_of.result _ _ (λ copies is. is ∙ ap or_none (ap texts_behind (sym c.in-Some.is) ∙ rows)) c.copies_of.ensures

pub returns-in-None : goal.returns-in-None
returns-in-None c =
    let rows = c.get_strs.ensures ∙ raw_values-rows (found_of c.args.matches.now) c.args.name.now in
    c.new.ensures ∙ ap or_none (ap texts_behind (sym c.in-None.is) ∙ rows)
