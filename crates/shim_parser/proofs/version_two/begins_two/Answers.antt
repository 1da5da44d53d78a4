use Rattle.std.proofs.Common.{◌≡◌, ◌≤◌, ◌∙◌, length, true, false, sym, arith}
use Rattle.shim_parser.proofs.Versions.{three_begin}
use Rattle.shim_parser.proofs.version_two.begins_two.Goals as goal
use Rattle.shim_parser.proofs.version_two.begins_two.Goals.{then-is_shim, else-is_shim}

pub returns-then-is_two : goal.returns-then-is_two
returns-then-is_two c = elim c.if-is_shim.branch [
  | then-is_shim w ↦
      let long : 3 ≤ length c.args.tokens.now = let few = c.if-tokens-lt3.false in omega arith in
      c.is_semicolon.ensures _
      ∙ three_begin c.args.tokens.now _ long (sym (c.is_shim.ensures _) ∙ w.if-is_shim.true) (sym (w.is_two.ensures _) ∙ sym w.value-is ∙ c.if-is_two.true)
  | else-is_shim w ↦ absurd (let no : false ≡ true = sym w.if-is_shim.false ∙ sym w.value-is ∙ c.if-is_two.true in cc)
]
