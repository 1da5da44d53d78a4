use Rattle.std.proofs.Common.{◌++◌, map, ap, ◌∙◌}
use Rattle.shim_waits.specs.Holding.{lives}
use Rattle.shim_waits.proofs.Judging.{some_not, twice, lacking, by_ring, lent_paths}
use Rattle.shim_waits.proofs.explanation.holds.Goals as goal

pub returns-then-not-are_waits : goal.returns-then-not-are_waits
returns-then-not-are_waits g c = some_not g.L.Local.ops c.args.tree.now.root c.args.e.now c.as_slice-waits.result.now c.as_slice-waits.ensures c.are_waits.result c.if-not-are_waits.true c.are_waits.ensures

pub returns-then-not-are_first : goal.returns-then-not-are_first
returns-then-not-are_first g c =
    twice g.L.Local.ops c.args.tree.now.root c.args.e.now c.as_slice-waits.result.now c.as_slice-waits.ensures c.are_first.result c.if-not-are_first.true (c.are_waits.ensures.0 c.if-not-are_waits.false) c.are_first.ensures

pub returns-then-not-have_waits : goal.returns-then-not-have_waits
returns-then-not-have_waits g c =
    let o = g.L.Local.ops in
    let lent = c.as_slice.result.now in
    let are = ap (λ xs. map (λ x. x.now) xs) c.as_slice.ensures.value ∙ (c.in_ok-gather_waiting.ensures.lives ∙ (ap (λ xs. map (λ x. x.now) xs ++ lives c.root.result) c.new-lives.ensures.items ∙ ap lives c.root.ensures)) in
    lacking o c.args.tree.now.root c.args.e.now c.as_slice-waits.result.now c.as_slice-waits.ensures c.have_waits.result (map (λ x. o.path x.now) lent) (lent_paths o (λ x. x.now) c.args.tree.now.root lent are) c.if-not-have_waits.true
    (c.are_waits.ensures.0 c.if-not-are_waits.false) c.have_waits.ensures

pub returns : goal.returns
returns g c =
    let o = g.L.Local.ops in
    let lent = c.as_slice.result.now in
    let are = ap (λ xs. map (λ x. x.now) xs) c.as_slice.ensures.value ∙ (c.in_ok-gather_waiting.ensures.lives ∙ (ap (λ xs. map (λ x. x.now) xs ++ lives c.root.result) c.new-lives.ensures.items ∙ ap lives c.root.ensures)) in
    by_ring o c.args.tree.now.root c.args.e.now c.as_slice-waits.result.now c.as_slice-waits.ensures c.is_ring.result (map (λ x. o.path x.now) lent) c.as_slice-2.result.now (lent_paths o (λ x. x.now) c.args.tree.now.root lent are) c.as_slice-2.ensures
    (c.are_waits.ensures.0 c.if-not-are_waits.false) (c.are_first.ensures.0 c.if-not-are_first.false) (c.have_waits.ensures.0 c.if-not-have_waits.false) c.is_ring.ensures
