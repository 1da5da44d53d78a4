use Rattle.std.proofs.Common.{length, drop}
use Rattle.std.proofs.lemmas.Slice.Eq.{starts_is}
use Rattle.std.proofs.lemmas.Bool.Decides.{Decides-eqb}
use Rattle.shim_lexer.proofs.comment.begins.Goals as goal

pub returns : goal.returns
returns c =
    let h = starts_is Decides-eqb c.args.text.now c.args.front.now c.starts_with.result c.starts_with.ensures.value in
    ((λ t. (drop (length c.args.front.now) c.args.text.now, h.0 t)), (λ b. h.1 b.0 b.1))
