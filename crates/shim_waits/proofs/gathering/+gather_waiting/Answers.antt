use Rattle.std.proofs.Common.{rules, ◌≡◌, ◌++◌, ◌+◌, ◌≤◌, map, length, sym, ap, subst, ◌∙◌, arith}
use Rattle.shim_tree.specs.NodeRefs.{child_count}
use Rattle.shim_tree.proofs.NodeRefs.{smaller, child_there_is}
use Rattle.shim_waits.specs.Gathering.{KeepsFirst}
use Rattle.shim_waits.specs.Holding.{lives}
use Rattle.shim_waits.proofs.Keeping.{KeepsFrom, keeps_child, keeps_to_end, lives_next, lives_to_end, as_many}
use Rattle.shim_waits.proofs.gathering.+gather_waiting.Goals as goal
use Rattle.shim_waits.proofs.gathering.+gather_waiting.Goals.{in-Some-child+in_ok-gather_waiting, in_default-child}

pub gather_waiting-requires : goal.gather_waiting-requires
gather_waiting-requires g t c κs within = (let w = smaller c.loop-i.i c.args.node.now c.in-Some-child.child (sym c.child.ensures ∙ c.in-Some-child.is) in search (rules, w), search rules)

pub loop-i-preserved : goal.loop-i-preserved
loop-i-preserved g t c =
    let o = g.L.Local.ops in
    let i = c.loop-i.i in
    let n = c.args.node.now in
    elim c.match-child.branch [
      | in-Some-child+in_ok-gather_waiting w ↦
          let k = w.in-Some-child.child in
          let there = sym c.child.ensures ∙ w.in-Some-child.is in
          let more = ap (λ v. map (λ x. x.now) v.items) w.lives-is ∙ w.in_ok-gather_waiting.ensures.lives in
          let many : length c.match-child.lives.items ≡ length c.loop-i.lives.items + length (lives k) = as_many (λ x. x.now) c.loop-i.lives.items c.match-child.lives.items (lives k) more in (
            lives_next o i n k (map (λ x. x.now) c.loop-i.lives.items) (map (λ x. x.now) c.match-child.lives.items) (map (λ x. x.now) c.args.lives.now.items ++ lives n) there more c.loop-i.invariant.0,
            subst (λ z. KeepsFrom o (i + 1) n z (length c.args.lives.now.items) c.args.holders.now c.match-child.holders) (sym many)
                (keeps_child o i n k (length c.loop-i.lives.items) (length c.args.lives.now.items) c.args.holders.now c.loop-i.holders c.match-child.holders there
                (subst (KeepsFirst o k (length c.loop-i.lives.items) c.loop-i.holders) (sym w.holders-is) w.in_ok-gather_waiting.ensures.first) c.loop-i.invariant.1),
          )
      | in_default-child w ↦ absurd (child_there_is i n (let h = c.loop-i-test.true in let k = c.children-i-end.ensures in omega (arith, h, k)) (sym c.child.ensures ∙ w.in_default-child.is))
    ]

pub returns-clause-lives : goal.returns-clause-lives
returns-clause-lives g t c =
    let k : child_count c.args.node.now ≤ c.loop-i.i = let h = c.loop-i-test.false in let k = c.children-i-end.ensures in omega (arith, h, k) in
    lives_to_end g.L.Local.ops c.loop-i.i c.args.node.now (map (λ x. x.now) c.loop-i.lives.items) (map (λ x. x.now) c.args.lives.now.items ++ lives c.args.node.now) k c.loop-i.invariant.0

pub returns-clause-first : goal.returns-clause-first
returns-clause-first g t c =
    let k : child_count c.args.node.now ≤ c.loop-i.i = let h = c.loop-i-test.false in let k = c.children-i-end.ensures in omega (arith, h, k) in
    keeps_to_end g.L.Local.ops c.loop-i.i c.args.node.now (length c.loop-i.lives.items) (length c.args.lives.now.items) c.args.holders.now c.loop-i.holders k c.loop-i.invariant.1
