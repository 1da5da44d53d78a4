use Rattle.std.proofs.Common.{rules, ◌≡◌, ◌++◌, ◌∷◌, [], ◌∙◌, ap, arith, Err, ℕ, ◌+◌}
use Rattle.std.proofs.lemmas.List.{map_push}
use Rattle.std.proofs.lemmas.List.Elements.{All-push}
use Rattle.shim_replay.specs.Entries.{entry_of, entries_of, IsUnnamed}
use Rattle.shim_replay.specs.Scanning.{scan_lines}
use Rattle.shim_replay.proofs.Lines.{goes_on, done}
use Rattle.shim_replay.proofs.reading.scan_lines.Goals as goal

pub loop-count-preserved : goal.loop-count-preserved
loop-count-preserved c =
    let pushed = c.in_ok-push.ensures.ok in
    let e : entries_of c.push.new.self ≡ entries_of c.loop-count.entries ++ entry_of c.in_ok-entry.entry ∷ [] = ap entries_of pushed ∙ map_push entry_of c.loop-count.entries c.in_ok-entry.entry in
    let first = goes_on (entries_of c.loop-count.entries) 4294967295 c.loop-count.count c.loop-count.sum c.loop-count.rest.now (entry_of c.in_ok-entry.entry) c.in_ok-entry.after.now
    (scan_lines 4294967295 2 0 c.args.bytes.now) c.loop-count-test.true (search rules) c.in_ok-entry.ensures.is c.loop-count.invariant.0 in
    let few = c.in_ok-entry.ensures.few in
    let steps = c.steps_in-sum.ensures in
    let sum = c.loop-count.invariant.2 in
    (rw (e, steps) first, rw pushed (All-push IsUnnamed c.loop-count.entries c.in_ok-entry.entry c.loop-count.invariant.1 c.in_ok-entry.ensures.name), omega (arith, few, steps, sum))

pub returns-clause-is : goal.returns-clause-is
returns-clause-is c =
    let past = c.loop-count-test.false in
    let most = c.loop-count.auto.count-end in
    let all : c.loop-count.count ≡ 4294967295 = omega (arith, past, most) in
    done (entries_of c.loop-count.entries) 4294967295 c.loop-count.count c.loop-count.sum c.loop-count.rest.now (scan_lines 4294967295 2 0 c.args.bytes.now) (omega (arith, all)) c.loop-count.invariant.0
    ∙ ap (λ (n : ℕ). Err (n + 2)) all
