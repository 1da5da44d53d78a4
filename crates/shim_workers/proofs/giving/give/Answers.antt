use Rattle.std.proofs.Common.{rules}
use Rattle.shim_net.specs.Granting.{GivesNone, Grants}
use Rattle.shim_net.proofs.Progress.{same_net, gave_none}
use Rattle.shim_workers.proofs.Progress.{fresh, gave_on, gave_more, gave_steps, gave_below, gave_none_below, gave_none_steps}
use Rattle.shim_workers.proofs.giving.give.Goals as goal

pub grant-requires-clause-numbers : goal.grant-requires-clause-numbers
grant-requires-clause-numbers g c κs within = fresh c.args.slot c.args.round c.args.net.now.grants c.requires.below

pub returns-in-None-clause-goes_on : goal.returns-in-None-clause-goes_on
returns-in-None-clause-goes_on g c = let none : GivesNone g.L.Local.ops c.args.net.now c.grant.new.self = search rules in same_net g.L.Local.ops c.args.net.now c.grant.new.self none.0

pub returns-in-None-clause-below : goal.returns-in-None-clause-below
returns-in-None-clause-below g c = let none : GivesNone g.L.Local.ops c.args.net.now c.grant.new.self = search rules in gave_none_below g.L.Local.ops c.args.slot c.args.net.now c.grant.new.self none c.requires.below

pub returns-in-None-clause-steps : goal.returns-in-None-clause-steps
returns-in-None-clause-steps g c = let none : GivesNone g.L.Local.ops c.args.net.now c.grant.new.self = search rules in gave_none_steps g.L.Local.ops c.args.net.now c.grant.new.self none c.requires.steps

pub returns-in-None-clause-none : goal.returns-in-None-clause-none
returns-in-None-clause-none g c = let none : GivesNone g.L.Local.ops c.args.net.now c.grant.new.self = search rules in λ _. gave_none g.L.Local.ops c.args.net.now c.grant.new.self none

pub returns-in_ok-assign-in-Some-clause-goes_on : goal.returns-in_ok-assign-in-Some-clause-goes_on
returns-in_ok-assign-in-Some-clause-goes_on g c =
    let p = c.in-Some.parcel in
    let gave : Grants g.L.Local.ops c.args.net.now c.grant.new.self c.args.most c.args.slot c.args.round p.pid p.start p.grant = search rules in
    gave_on g.L.Local.ops c.args.net.now c.grant.new.self c.args.most c.args.slot c.args.round p.pid p.start p.grant gave

pub returns-in_ok-assign-in-Some-clause-below : goal.returns-in_ok-assign-in-Some-clause-below
returns-in_ok-assign-in-Some-clause-below g c =
    let p = c.in-Some.parcel in
    let gave : Grants g.L.Local.ops c.args.net.now c.grant.new.self c.args.most c.args.slot c.args.round p.pid p.start p.grant = search rules in
    gave_below g.L.Local.ops c.args.net.now c.grant.new.self c.args.most c.args.slot c.args.round p.pid p.start p.grant gave c.requires.below

pub returns-in_ok-assign-in-Some-clause-steps : goal.returns-in_ok-assign-in-Some-clause-steps
returns-in_ok-assign-in-Some-clause-steps g c =
    let p = c.in-Some.parcel in
    let gave : Grants g.L.Local.ops c.args.net.now c.grant.new.self c.args.most c.args.slot c.args.round p.pid p.start p.grant = search rules in
    gave_steps g.L.Local.ops c.args.net.now c.grant.new.self c.args.most c.args.slot c.args.round p.pid p.start p.grant gave c.requires.steps

pub returns-in_ok-assign-in-Some-clause-more : goal.returns-in_ok-assign-in-Some-clause-more
returns-in_ok-assign-in-Some-clause-more g c =
    let p = c.in-Some.parcel in
    let gave : Grants g.L.Local.ops c.args.net.now c.grant.new.self c.args.most c.args.slot c.args.round p.pid p.start p.grant = search rules in
    λ _. gave_more g.L.Local.ops c.args.net.now c.grant.new.self c.args.most c.args.slot c.args.round p.pid p.start p.grant gave
