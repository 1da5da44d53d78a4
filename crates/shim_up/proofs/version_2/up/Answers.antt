use Rattle.std.proofs.Common.{◌≡◌, ◌≢◌, rules}
use Rattle.shim_syntax.specs.Occurrences.{identifiers}
use Rattle.shim_syntax.specs.Terminals.{new_word}
use Rattle.shim_up.specs.Up.{IsLeastNew, fresh_name}
use Rattle.shim_up.proofs.UpCases.{from_version_2, from_another}
use Rattle.shim_up.proofs.version_2.up.Goals as goal

pub returns-then-program-eq2 : goal.returns-then-program-eq2
returns-then-program-eq2 c =
    let two : c.args.program.now.version ≡ 2 = search rules in
    let word : c.in_ok-word.word ≡ new_word = search rules in
    from_version_2 c.args.program.now c.in_ok-word.word c.with_name.result two word c.with_name.ensures

pub returns : goal.returns
returns c =
    let other : c.args.program.now.version ≢ 2 = search rules in
    let least : IsLeastNew (identifiers c.args.program.now.functions) c.in_ok-number.number = search rules in
    let name : c.in_ok-name.name ≡ fresh_name c.in_ok-number.number = search rules in
    from_another c.args.program.now c.in_ok-name.name c.with_name-2.result other c.in_ok-number.number least name c.with_name-2.ensures
