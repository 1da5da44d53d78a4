use Rattle.std.proofs.Common.{◌≡◌, ◌+◌, ◌<◌, ◌++◌, [], ◌∷◌, length, get_or, Ok, Err, refl, rules, arith}
use Rattle.shim_units.proofs.Ascending.{searched_behind, found_next, missed_next, all_done, same_rest}
use Rattle.shim_units.proofs.exceptions.give_ascending.Goals as goal
use Rattle.shim_units.proofs.exceptions.give_ascending.Goals.{in-Ok+in_ok-push-in-Ok, in-Err}

pub loop-raise-preserved : goal.loop-raise-preserved
loop-raise-preserved c =
    let others = c.args.raises.now in
    let numbers = c.args.exceptions.now in
    let start = c.loop-raise.start in
    let i = c.loop-raise.raise-index in
    let inside : i < length others = omega arith in
    elim c.match-binary_search.branch [
      | in-Ok+in_ok-push-in-Ok w ↦
          let s = searched_behind numbers start (get_or others i 0) (Ok w.in-Ok.at) c.requires.ascending w.in-Ok.ensures.position in
          let made : c.match-binary_search.made ≡ c.loop-raise.made ++ get_or others i 0 ∷ [] = search rules in
          same_rest others numbers (i + 1) made w.start-is
          (found_next others numbers c.loop-raise.made start i (get_or others i 0) w.in-Ok.at c.requires.sorted c.requires.ascending inside refl c.loop-raise.invariant s.0 s.1)
      | in-Err w ↦
          let s = searched_behind numbers start (get_or others i 0) (Err w.in-Err.at) c.requires.ascending w.in-Err.ensures.position in
          same_rest others numbers (i + 1) w.made-is w.start-is
          (missed_next others numbers c.loop-raise.made start i (get_or others i 0) w.in-Err.at c.requires.sorted c.requires.ascending inside refl c.loop-raise.invariant s.0 s.1 s.2)
    ]

pub returns : goal.returns
returns c = all_done c.args.raises.now c.args.exceptions.now c.loop-raise.made c.loop-raise.start c.loop-raise.raise-index c.loop-raise.invariant (omega arith)
