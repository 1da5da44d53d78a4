use Rattle.std.proofs.Common.{◌≡◌, ◌<◌, Some, None, length, map, sym, ap, ◌∙◌}
use Rattle.std.specs.Option.{option_map}
use Rattle.shim_waits.specs.Gathering.{numbered_wait, wait_found, number_found}
use Rattle.shim_waits.specs.Waits.{present}
use Rattle.shim_waits.proofs.NumberedWaits.{present_more, one_present, none_present}
use Rattle.shim_waits.proofs.waiting.numbered_waits.Goals as goal
use Rattle.shim_waits.proofs.waiting.numbered_waits.Goals.{in-Some+in_ok-push+in_ok-push-2, in_default}

pub loop-i-preserved : goal.loop-i-preserved
loop-i-preserved g c =
    let o = g.L.Local.ops in
    let i = c.loop-i.i in
    let lent = c.args.lives.now in
    let ls = map (λ x. x.now) lent in
    let holders = c.args.holders.now in
    let x = c.index-lives-i.result in
    let h : i < length lent = c.loop-i-test.true in
    elim c.match-branch-2.branch [
      | in-Some+in_ok-push+in_ok-push-2 w ↦
          let found : numbered_wait o ls holders x.now ≡ Some (w.in-Some.wait, w.in-Some.number) = sym c.in_ok-wait.ensures ∙ w.in-Some.is in (
            present_more (λ y. y.now) (wait_found o ls holders) lent i x c.loop-i.waits c.match-branch-2.waits (present (map (wait_found o ls holders) ls)) h c.index-lives-i.is
                (one_present (wait_found o ls holders x.now) w.in-Some.wait c.loop-i.waits c.match-branch-2.waits (ap (option_map (λ y. y.0)) found) (w.waits-is ∙ w.in_ok-push.ensures.ok)) c.loop-i.invariant.0,
            present_more (λ y. y.now) (number_found o ls holders) lent i x c.loop-i.next.items c.match-branch-2.next.items (present (map (number_found o ls holders) ls)) h c.index-lives-i.is
                (one_present (number_found o ls holders x.now) w.in-Some.number c.loop-i.next.items c.match-branch-2.next.items (ap (option_map (λ y. y.1)) found) (ap (λ v. v.items) w.next-is ∙ w.in_ok-push-2.ensures.items)) c.loop-i.invariant.1,
          )
      | in_default w ↦
          let found : numbered_wait o ls holders x.now ≡ None = sym c.in_ok-wait.ensures ∙ w.in_default.is in (
            present_more (λ y. y.now) (wait_found o ls holders) lent i x c.loop-i.waits c.match-branch-2.waits (present (map (wait_found o ls holders) ls)) h c.index-lives-i.is
                (none_present (wait_found o ls holders x.now) c.loop-i.waits c.match-branch-2.waits (ap (option_map (λ y. y.0)) found) w.waits-is) c.loop-i.invariant.0,
            present_more (λ y. y.now) (number_found o ls holders) lent i x c.loop-i.next.items c.match-branch-2.next.items (present (map (number_found o ls holders) ls)) h c.index-lives-i.is
                (none_present (number_found o ls holders x.now) c.loop-i.next.items c.match-branch-2.next.items (ap (option_map (λ y. y.1)) found) (ap (λ v. v.items) w.next-is)) c.loop-i.invariant.1,
          )
    ]
