-- Whatever a child does, it stays one of the children of its parent.
use Rattle.std.specs.Prelude.{◌≡◌, ◌<◌, ℕ, zero, suc, List, [], ◌∷◌, ◌++◌, Bool, length, slice_index_or, slice_set, refl}
use Rattle.std.proofs.Common.{subst, sym, arith}
use Rattle.std.proofs.lemmas.List.{append_assoc}
use Rattle.shim_local.specs.Process.{Ops, Parted, AtFork}
use Rattle.shim_local.specs.Laws.{LocalLaws, Moved, by_quiet, by_fork, by_join, AllOf}
use Rattle.shim_local.specs.Quiets.{QuietSteps}
use Rattle.shim_local.proofs.Quiets.{first_quiet}
use Rattle.shim_base.proofs.Facts.{some_same}
use Rattle.shim_tests_values.specs.Kept.{StaysChild, StayChildren}

pub stays_then : {S : Type 0} (o : Ops S) {k m n : S} → StaysChild o k m → StaysChild o m n → StaysChild o k n
stays_then o first second = λ parent before after born. second parent before after (first parent before after born)

-- by one call
pub one_call : {S : Type 0} (o : Ops S) → LocalLaws o → {k m : S} → o.sound k → Moved o k m → StaysChild o k m
one_call o laws {k} {m} sound moved = λ parent before after born. laws.born_moved parent k m before after sound born moved

pub quiet_steps : {S : Type 0} (o : Ops S) → LocalLaws o → (n : ℕ) (l m : S) → QuietSteps o n l m → o.sound l → StaysChild o l m
quiet_steps o laws zero l m taken sound = λ parent before after born. subst (λ k. o.born parent (before ++ k ∷ after)) (some_same l m taken) born
quiet_steps o laws (suc n) l m taken sound =
    let first = first_quiet o n l m taken in
    let moved : Moved o l (o.quiet l) = by_quiet first.0 refl in
    stays_then o (one_call o laws sound moved) (quiet_steps o laws n (o.quiet l) m first.1 (laws.moved_sound l (o.quiet l) sound moved))

-- by a fork and the close after it, where the children stayed its own
pub fork_and_join : {S : Type 0} (o : Ops S) → LocalLaws o → (l p m : S) (ks ms : List S) (goes_on : Bool) → o.sound l → o.stop l ≡ AtFork → o.fork l ≡ Parted p ks
    → StayChildren o ks ms → AllOf o.sound ms → m ≡ o.join p ms goes_on → StaysChild o l m
fork_and_join o laws l p m ks ms goes_on sound at parts stay sounds is =
    let forks : Moved o l p = by_fork ks at parts in
    let born = stay p (laws.fork_born l p ks sound (at, parts)) in
    stays_then o (one_call o laws sound forks) (one_call o laws (laws.moved_sound l p sound forks) (by_join ms goes_on sounds born is))

-- of the children one is moved, which stands at this place after others
moved_behind : {S : Type 0} (o : Ops S) → (parent k m : S) (before children : List S) (at : ℕ) → at < length children → k ≡ slice_index_or children at k → StaysChild o k m
    → o.born parent (before ++ children) → o.born parent (before ++ slice_set children at m)
moved_behind o parent k m before [] at some is stays born = absurd (omega (arith, some))
moved_behind o parent k m before (x ∷ children) zero some is stays born =
    stays parent before children (subst (λ s. o.born parent (before ++ s ∷ children)) (sym is) born)
moved_behind o parent k m before (x ∷ children) (suc at) some is stays born =
    let there : at < length children = omega (arith, some) in
    subst (λ s. o.born parent s) (append_assoc before (x ∷ []) (slice_set children at m))
    (moved_behind o parent k m (before ++ x ∷ []) children at there is stays (subst (λ s. o.born parent s) (sym (append_assoc before (x ∷ []) children)) born))

pub one_moved : {S : Type 0} (o : Ops S) → (k m : S) (children : List S) (at : ℕ) → at < length children → k ≡ slice_index_or children at k → StaysChild o k m
    → StayChildren o children (slice_set children at m)
one_moved o k m children at some is stays = λ parent born. moved_behind o parent k m [] children at some is stays born

pub stay_then : {S : Type 0} (o : Ops S) {ks ms ns : List S} → StayChildren o ks ms → StayChildren o ms ns → StayChildren o ks ns
stay_then o first second = λ parent born. second parent (first parent born)
