use Rattle.std.proofs.Common.{Ok, ap, sym, ◌∙◌}
use Rattle.std.proofs.lemmas.Grind.{merely}
use Rattle.shim_front_end.proofs.Exits.{only_text, of_text, of_names, of_sharing, of_units, handed_on}
use Rattle.shim_front_end.proofs.read.read_source.Goals as goal

pub returns-in_err-program : goal.returns-in_err-program
returns-in_err-program c =
    handed_on c.args.bytes.now _ c.from_residual.result c.from_residual.ensures
    (of_text c.args.bytes.now c.in_err-program.field-0.0 c.in_err-program.ensures.answers c.in_err-program.ensures.only)

pub returns-in_err-resolved : goal.returns-in_err-resolved
returns-in_err-resolved c =
    handed_on c.args.bytes.now _ c.from_residual-in_err-resolved.result c.from_residual-in_err-resolved.ensures
    (of_names c.args.bytes.now c.in_ok-program.program c.in_err-resolved.field-0.0 (only_text c.args.bytes.now c.in_ok-program.program c.in_ok-program.ensures.answers c.in_ok-program.ensures.only) c.in_err-resolved.ensures)

pub returns-in_err-accepted : goal.returns-in_err-accepted
returns-in_err-accepted c =
    handed_on c.args.bytes.now _ c.from_residual-in_err-accepted.result c.from_residual-in_err-accepted.ensures
    (of_sharing c.args.bytes.now c.in_ok-program.program c.in_ok-resolved.resolved c.in_err-accepted.field-0.0 (only_text c.args.bytes.now c.in_ok-program.program c.in_ok-program.ensures.answers c.in_ok-program.ensures.only) c.in_ok-resolved.ensures c.in_err-accepted.ensures.meant)

pub with_text-requires : goal.with_text-requires
with_text-requires c =
    let text = only_text c.args.bytes.now c.in_ok-program.program c.in_ok-program.ensures.answers c.in_ok-program.ensures.only in
    merely (record {
      program = c.in_ok-program.program;
      text = text.text;
      only = text.only;
      resolved = c.in_ok-resolved.resolved;
      bound = c.in_ok-resolved.ensures;
      meant = sym c.in_ok-accepted.ensures.units;
    })

pub returns-in-Ok : goal.returns-in-Ok
returns-in-Ok c =
    of_units c.args.bytes.now c.in_ok-program.program c.in_ok-resolved.resolved c.in-Ok.kept (only_text c.args.bytes.now c.in_ok-program.program c.in_ok-program.ensures.answers c.in_ok-program.ensures.only) c.in_ok-resolved.ensures (c.in_ok-accepted.ensures.meant ∙ ap Ok (sym c.in-Ok.ensures))
