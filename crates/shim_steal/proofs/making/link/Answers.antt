use Rattle.std.proofs.Common.{[], ◌∷◌, ◌++◌, refl, ap, ◌∙◌}
use Rattle.shim_steal.specs.declared.view.View.{View}
use Rattle.shim_steal.proofs.making.link.Goals as goal

pub returns : goal.returns
returns g c = let theirs = c.in_ok-theirs.ensures.shared in let mine = c.in_ok-mine.ensures.shared in record {
  linked = (
    refl,
    (c.in_ok-mine.ensures.same, ap (λ (v : View _). v.pushed) mine.2, ap (λ (v : View _). v.taken) mine.2),
    (c.in_ok-theirs.ensures.same, ap (λ (v : View _). v.pushed) theirs.2, ap (λ (v : View _). v.taken) theirs.2),
    (mine.0, mine.1),
    (c.in_ok-theirs.theirs, c.push_reserved.ensures.items ∙ ap (λ l. l ++ c.in_ok-theirs.theirs ∷ []) c.in_ok-reserve.ensures.items, (theirs.0, theirs.1)),
  );
}
