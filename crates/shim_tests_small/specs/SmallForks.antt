-- The forks of the small process, and their children.
use Rattle.std.specs.Prelude.{◌≡◌, ◌≢◌, ◌≤◌, ◌⊎◌, ◌↔◌, ℕ, zero, suc, ◌+◌, Bool, true, false, ◌&&◌, Some, List, [], ◌∷◌, ◌++◌, length, map, drop, slice_get, refl, if◌then◌else◌}
use Rattle.std.proofs.Common.{ap, sym, subst, ◌∙◌, inl, arith, true≢false}
use Rattle.shim_base.specs.Paths.{Path, Channel, NamedChannel, same_channel}
use Rattle.shim_base.specs.declared.operators.Trap.{Trap}
use Rattle.shim_local.specs.Process.{StopView, Parted, Trapped, AtQuiet, AtNext, AtPut, AtFork, AtFinish, AtThrow, AtTrap}
use Rattle.shim_local.specs.Laws.{AllOf, AreChildren, Forks, IsGiven, IsTrapped, how_many}
use Rattle.shim_local.specs.Sameness.{channel_decides}
use Rattle.shim_tests_small.specs.Small.{SmallView, IsSoundSmall, AreOfLastFork, branches, children_from, children_of, child_of, forked, given_to, in_force, is_root, is_trap, identities, identity, identity_of, fork_result, passed, small_ops, stop_at, stop_of, trap_behind}
use Rattle.shim_tests_small.specs.declared.small.Branch.{Branch}
use Rattle.shim_tests_small.specs.declared.small.Step.{Step}
use Rattle.shim_tests_small.specs.declared.small.Step.TheVariants as step

parted : (b : Bool) (s p : SmallView) (ks : List SmallView) → fork_result b s ≡ Parted p ks → (p ≡ forked s) × (ks ≡ children_of s)
parted true s p ks e = absurd cc
parted false s p ks e = (cc, cc)

-- the parent after a fork
pub parent_is : (l p : SmallView) (ks : List SmallView) → small_ops.fork l ≡ Parted p ks → p ≡ forked l
parent_is l p ks e = (parted (trap_behind l l.left) l p ks e).0

-- what holds of `forked l` and `children_of l` holds of each parent and children that the fork of l gives
pub at_fork : (P : SmallView → List SmallView → Type 0) (l p : SmallView) (ks : List SmallView) → Forks small_ops l p ks → P (forked l) (children_of l) → P p ks
at_fork P l p ks forks holds =
    let is = parted (trap_behind l l.left) l p ks forks.1 in
    subst (λ x. P x ks) (sym is.0) (subst (λ xs. P (forked l) xs) (sym is.1) holds)

trapped : (b : Bool) (s m : SmallView) → fork_result b s ≡ Trapped m → (m ≡ passed s) × (b ≡ true)
trapped true s m e = (cc, refl)
trapped false s m e = absurd cc

-- the process after a fork that trapped
pub trapped_is : (l m : SmallView) → small_ops.fork l ≡ Trapped m → m ≡ passed l
trapped_is l m e = (trapped (trap_behind l l.left) l m e).0

-- `trap_behind` is whether the process is trapped where these steps are left, without the first
passed_stands : (s : SmallView) (left : List Step) → is_trap (stop_at s (drop 1 left)) ≡ trap_behind s left
passed_stands s [] = refl
passed_stands s (x ∷ left) = refl

stands_so : (o : StopView) → is_trap o ≡ true → (kind : Trap) × (line : ℕ) × (o ≡ AtTrap kind line)
stands_so AtQuiet e = absurd cc
stands_so (AtNext c) e = absurd cc
stands_so AtPut e = absurd cc
stands_so AtFork e = absurd cc
stands_so AtFinish e = absurd cc
stands_so (AtThrow x) e = absurd cc
stands_so (AtTrap kind line) e = (kind, line, refl)

-- where `trap_behind` holds of the steps left, the process is trapped once its next step is passed
pub is_trapped : (l : SmallView) → trap_behind l l.left ≡ true → IsTrapped small_ops (passed l)
is_trapped l e = stands_so (stop_of (passed l)) (passed_stands l l.left ∙ e)

-- where `trap_behind` doesn't hold of the steps left, the process isn't trapped once its next step is passed
pub not_trapped : (l : SmallView) → trap_behind l l.left ≡ false → IsTrapped small_ops (passed l) → ⊥
not_trapped l none (kind, line, at) = true≢false (sym (ap is_trap at) ∙ (passed_stands l l.left ∙ none))

pub fork_traps : (l m : SmallView) → small_ops.fork l ≡ Trapped m → IsTrapped small_ops m
fork_traps l m e =
    let is = trapped (trap_behind l l.left) l m e in
    subst (IsTrapped small_ops) (sym is.0) (is_trapped l is.1)

-- no child is the root
pub no_root : (p : Path) (x : ℕ × ℕ) → is_root (p ++ x ∷ []) ≡ false
no_root [] x = refl
no_root (y ∷ p) x = refl

-- what holds of a child in any place, of any branch, holds of all
each_child : (P : SmallView → Type 0) (l : SmallView) → ((place : ℕ) (b : Branch) → P (child_of l place b)) → (place : ℕ) (bs : List Branch) → AllOf P (children_from l place bs)
each_child P l holds place [] = tt
each_child P l holds place (b ∷ bs) = (holds place b, each_child P l holds (place + 1) bs)

every_child : (P : SmallView → Type 0) (l : SmallView) → ((place : ℕ) (b : Branch) → P (child_of l place b)) → AllOf P (children_of l)
every_child P l holds = each_child P l holds 0 (branches l.left)

-- a child carries nothing
carries_none : (l : SmallView) (place : ℕ) (b : Branch) (c : Channel) → small_ops.carries (child_of l place b) c ≡ false
carries_none l place b c = ap (λ t. t && same_channel c l.chan.channel) (no_root l.path (l.forks, place))

none_of : {S : Type 0} (f : S → Bool) (ks : List S) → AllOf (λ k. f k ≡ false) ks → how_many f ks ≡ 0
none_of f [] all = refl
none_of f (k ∷ ks) all = ap (λ b. if b then suc (how_many f ks) else how_many f ks) all.0 ∙ none_of f ks all.1

one_of : {S : Type 0} (f : S → Bool) (p : S) (ks : List S) → f p ≡ true → AllOf (λ k. f k ≡ false) ks → how_many f (p ∷ ks) ≡ 1
one_of f p ks e all = ap (λ b. if b then suc (how_many f ks) else how_many f ks) e ∙ ap suc (none_of f ks all)

pub fork_hands_on : (l p : SmallView) (ks : List SmallView) (c : Channel) → Forks small_ops l p ks → small_ops.carries l c ≡ true → how_many (λ s. small_ops.carries s c) (p ∷ ks) ≡ 1
fork_hands_on l p ks c forks e = at_fork (λ p ks. how_many (λ s. small_ops.carries s c) (p ∷ ks) ≡ 1) l p ks forks
    (one_of (λ s. small_ops.carries s c) (forked l) (children_of l) e (every_child (λ k. small_ops.carries k c ≡ false) l (λ place b. carries_none l place b c)))

pub fork_hands_output : (l p : SmallView) (ks : List SmallView) → Forks small_ops l p ks → small_ops.holds_output l ≡ true → how_many small_ops.holds_output (p ∷ ks) ≡ 1
fork_hands_output l p ks forks e = at_fork (λ p ks. how_many small_ops.holds_output (p ∷ ks) ≡ 1) l p ks forks
    (one_of small_ops.holds_output (forked l) (children_of l) e (every_child (λ k. small_ops.holds_output k ≡ false) l (λ place b. no_root l.path (l.forks, place))))

pub children_carry : (l p : SmallView) (ks : List SmallView) (c : Channel) → Forks small_ops l p ks
    → AllOf (λ k. small_ops.carries k c ≡ true → (small_ops.carries l c ≡ true) ⊎ (c.home ≡ k.path)) ks
children_carry l p ks c forks = at_fork (λ p ks. AllOf (λ k. small_ops.carries k c ≡ true → (small_ops.carries l c ≡ true) ⊎ (c.home ≡ k.path)) ks) l p ks forks
    (every_child (λ k. small_ops.carries k c ≡ true → (small_ops.carries l c ≡ true) ⊎ (c.home ≡ k.path)) l (λ place b e. absurd (true≢false (sym e ∙ carries_none l place b c))))

pub children_hold : (l p : SmallView) (ks : List SmallView) → Forks small_ops l p ks → AllOf (λ k. small_ops.holds_output k ≡ true → small_ops.holds_output l ≡ true) ks
children_hold l p ks forks = at_fork (λ p ks. AllOf (λ k. small_ops.holds_output k ≡ true → small_ops.holds_output l ≡ true) ks) l p ks forks
    (every_child (λ k. small_ops.holds_output k ≡ true → small_ops.holds_output l ≡ true) l (λ place b e. absurd (true≢false (sym e ∙ no_root l.path (l.forks, place)))))

-- what a child is given is its channel
given_is : (d : NamedChannel) (at : ℕ) (e : NamedChannel) → slice_get (given_to false d) at ≡ Some e → e ≡ d
given_is d zero e is = cc
given_is d (suc at) e is = absurd cc

pub channel_given : (l : SmallView) (c : Channel) → is_root l.path ≡ false → (small_ops.shares l c ≡ true) ↔ IsGiven small_ops l c
channel_given l c below =
    let given : small_ops.given l ≡ given_to false l.chan = ap (λ b. given_to b l.chan) below in
    let at : (n : ℕ) → slice_get (small_ops.given l) n ≡ slice_get (given_to false l.chan) n = λ n. ap (λ g. slice_get g n) given in (
      λ e. (0, l.chan, at 0, sym ((channel_decides c l.chan.channel).0 e)),
      λ g. (channel_decides c l.chan.channel).1 (sym g.3 ∙ ap (λ d. d.channel) (given_is l.chan g.0 g.1 (sym (at g.0) ∙ g.2))),
    )

child_given : (l : SmallView) (place : ℕ) (b : Branch) (c : Channel) → (small_ops.shares (child_of l place b) c ≡ true) ↔ IsGiven small_ops (child_of l place b) c
child_given l place b c = channel_given (child_of l place b) c (no_root l.path (l.forks, place))

pub children_given : (l p : SmallView) (ks : List SmallView) (c : Channel) → Forks small_ops l p ks → AllOf (λ k. (small_ops.shares k c ≡ true) ↔ IsGiven small_ops k c) ks
children_given l p ks c forks = at_fork (λ p ks. AllOf (λ k. (small_ops.shares k c ≡ true) ↔ IsGiven small_ops k c) ks) l p ks forks
    (every_child (λ k. (small_ops.shares k c ≡ true) ↔ IsGiven small_ops k c) l (λ place b. child_given l place b c))

-- those that have the identities of a fork's children are its children
marked : (p : Path) (base f i n : ℕ) (ks : List SmallView) → map identity_of ks ≡ identities p base f i n → AreChildren small_ops p base f i ks
marked p base f i n [] e = tt
marked p base f i zero (k ∷ ks) e = absurd cc
marked p base f i (suc n) (k ∷ ks) e =
    let first : identity_of k ≡ identity p base f i = cc in
    let rest : map identity_of ks ≡ identities p base f (i + 1) n = cc in
    (ap (λ x. x.0) first, ap (λ x. x.1) first, marked p base f (i + 1) n ks rest)

pub born_children : (l : SmallView) (ks : List SmallView) → AreOfLastFork l ks → (f : ℕ) × AreChildren small_ops l.path (in_force l) f 0 ks
born_children l ks born = (born.0, marked l.path (in_force l) born.0 0 born.1 ks born.3)

pub fork_sound : (l p : SmallView) (ks : List SmallView) → IsSoundSmall l → Forks small_ops l p ks → AllOf IsSoundSmall ks
fork_sound l p ks sound forks =
    let in_it : 1 ≤ l.base + length l.places = omega (arith, sound) in
    at_fork (λ p ks. AllOf IsSoundSmall ks) l p ks forks (every_child IsSoundSmall l (λ place b. in_it))

some_branches : (left : List Step) → branches left ≢ []
some_branches (step.Three a b c ∷ left) e = absurd cc
some_branches _ e = absurd cc

some_children : (l : SmallView) (bs : List Branch) → bs ≢ [] → children_from l 0 bs ≢ []
some_children l [] some e = some refl
some_children l (b ∷ bs) some e = absurd cc

pub fork_some : (l p : SmallView) (ks : List SmallView) → Forks small_ops l p ks → ks ≢ []
fork_some l p ks forks = at_fork (λ p ks. ks ≢ []) l p ks forks (some_children l (branches l.left) (some_branches l.left))

-- the identities of a fork's children
are_identities : (l : SmallView) (place : ℕ) (bs : List Branch) → map identity_of (children_from l place bs) ≡ identities l.path (in_force l) l.forks place (length bs)
are_identities l place [] = refl
are_identities l place (b ∷ bs) = ap (λ xs. identity l.path (in_force l) l.forks place ∷ xs) (are_identities l (place + 1) bs)

pub fork_children : (l p : SmallView) (ks : List SmallView) → Forks small_ops l p ks → (f : ℕ) × AreChildren small_ops l.path (in_force l) f 0 ks
fork_children l p ks forks = at_fork (λ p ks. (f : ℕ) × AreChildren small_ops l.path (in_force l) f 0 ks) l p ks forks
    (l.forks, marked l.path (in_force l) l.forks 0 (length (branches l.left)) (children_of l) (are_identities l 0 (branches l.left)))

pub children_share : (l p : SmallView) (ks : List SmallView) (c : Channel) → Forks small_ops l p ks
    → AllOf (λ k. small_ops.shares k c ≡ true → (small_ops.shares l c ≡ true) ⊎ (c.home ≡ k.path)) ks
children_share l p ks c forks = at_fork (λ p ks. AllOf (λ k. small_ops.shares k c ≡ true → (small_ops.shares l c ≡ true) ⊎ (c.home ≡ k.path)) ks) l p ks forks
    (every_child (λ k. small_ops.shares k c ≡ true → (small_ops.shares l c ≡ true) ⊎ (c.home ≡ k.path)) l (λ place b e. inl e))

pub fork_born : (l p : SmallView) (ks : List SmallView) → Forks small_ops l p ks → AreOfLastFork p ks
fork_born l p ks forks = at_fork AreOfLastFork l p ks forks (l.forks, length (branches l.left), refl, are_identities l 0 (branches l.left))
