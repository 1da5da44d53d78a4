-- The statuses for how runs ended: that of one, and the greatest of several.
use Rattle.std.proofs.Common.{◌≡◌, ◌<◌, ℕ, max, List, [], ◌∷◌, map, refl, sym, ap, ◌∙◌, arith}
use Rattle.std.specs.List.{AllZip}
use Rattle.shim_command.specs.declared.mode.Course.{Course}
use Rattle.shim_command.specs.declared.mode.Course.TheVariants.{InSomeOrder}
use Rattle.shim_local.specs.declared.Ended.{Ended}
use Rattle.shim_local.specs.declared.Outcome.{Outcome as End}
use Rattle.shim_local.specs.declared.Outcome.TheVariants.{Done, Uncaught, Trapped, Blocked, Spent}
use Rattle.shim_results.specs.RunEnds.{Execution, status_of, status_of_outcome, IsEnd, IsEndStatus, as_meant, stopped}
use Rattle.shim_results.specs.Batches.{greatest, statuses_of}

-- what a run comes to has the status of the meaning
pub end_status : (course : Course) (x : Execution) (e : Ended) → IsEnd course x e → status_of_outcome e.outcome ≡ status_of x
end_status course x e (as_meant apart same) = ap (λ (y : Ended). status_of_outcome y.outcome) same
end_status course x e (stopped four may so) = so ∙ sym four

-- the end of a run has a status below 5
pub end_below : (o : End) → status_of_outcome o < 5
end_below Done = omega arith
end_below (Uncaught i) = omega arith
end_below Trapped = omega arith
end_below Blocked = omega arith
end_below Spent = omega arith

-- and not by that of words that ask for nothing
pub end_not_two : (o : End) → status_of_outcome o ≡ 2 → ⊥
end_not_two Done e = omega (arith, e)
end_not_two (Uncaught i) e = omega (arith, e)
end_not_two Trapped e = omega (arith, e)
end_not_two Blocked e = omega (arith, e)
end_not_two Spent e = omega (arith, e)

greater_end : (m n : ℕ) → IsEndStatus m → IsEndStatus n → IsEndStatus (max m n)
greater_end m n one other = (omega (arith, one.0, other.0), λ two. omega (arith, two, one.1, other.1))

-- so is the greatest of the statuses of several
pub greatest_end : (es : List Ended) → IsEndStatus (greatest (statuses_of es))
greatest_end [] = (omega arith, λ two. omega (arith, two))
greatest_end (e ∷ es) = greater_end (status_of_outcome e.outcome) (greatest (statuses_of es)) (end_below e.outcome, end_not_two e.outcome) (greatest_end es)

-- and that is the greatest of the statuses of the meanings
pub each_status : (xs : List Execution) (es : List Ended) → AllZip (IsEnd InSomeOrder) xs es → greatest (statuses_of es) ≡ greatest (map status_of xs)
each_status [] [] h = refl
each_status [] (e ∷ es) h = absurd h
each_status (x ∷ xs) [] h = absurd h
each_status (x ∷ xs) (e ∷ es) h = λ i. max (end_status InSomeOrder x e h.0 i) (each_status xs es h.1 i)
