-- Pairs of small processes that differ at most in values that no call of a tree gives. A join takes back the value of the first child alone.
use Rattle.std.specs.Prelude.{◌≡◌, ◌+◌, ℕ, zero, ℤ, Bool, true, false, ◌&&◌, eqb, List, [], ◌∷◌, ◌++◌, refl}
use Rattle.std.proofs.Common.{ap, sym, subst, ◌∙◌}
use Rattle.shim_base.specs.Paths.{Path}
use Rattle.shim_base.proofs.Facts.{first_holds, second_holds, both_hold}
use Rattle.shim_tests_small.specs.Small.{SmallView, AreOfLastFork, branches, child_of, children_from, children_of, fork_result, forked, is_root, joined, small_ops, trap_behind, value_given}
use Rattle.shim_tests_small.specs.SmallLaws.{small_laws}
use Rattle.shim_tests_small.specs.declared.small.Branch.{Branch}
use Rattle.shim_laws_tied.specs.Ties.{KeepsTied, AreTied, AllTied, ForksTied}

-- each branch on the way from the root is the first of its fork
abbrev pub in_first_branches : Path → Bool
in_first_branches [] = true
in_first_branches (x ∷ path) = eqb x.1 0 && in_first_branches path

-- The two processes differ at most in their values. Where their path has first branches alone, their values are equal, too.
abbrev pub DifferUnseen : SmallView → SmallView → Type 0
DifferUnseen l m = (m ≡ record l { value = m.value }) × (in_first_branches l.path ≡ true → m.value ≡ l.value)

root_is_first : (p : Path) → is_root p ≡ true → in_first_branches p ≡ true
root_is_first [] e = refl
root_is_first (x ∷ path) e = absurd cc

parent_is_first : (p : Path) (f b : ℕ) → in_first_branches (p ++ (f, b) ∷ []) ≡ true → in_first_branches p ≡ true
parent_is_first [] f b e = refl
parent_is_first (x ∷ p) f b e = both_hold (eqb x.1 0) (in_first_branches p) (first_holds _ (in_first_branches (p ++ (f, b) ∷ [])) e) (parent_is_first p f b (second_holds (eqb x.1 0) _ e))

child_is_first : (p : Path) (f : ℕ) → in_first_branches p ≡ true → in_first_branches (p ++ (f, 0) ∷ []) ≡ true
child_is_first [] f e = refl
child_is_first (x ∷ p) f e = both_hold (eqb x.1 0) (in_first_branches (p ++ (f, 0) ∷ [])) (first_holds _ (in_first_branches p) e) (child_is_first p f (second_holds (eqb x.1 0) _ e))

-- two such processes are equal where their path has first branches alone
seen_is_same : (l m : SmallView) → DifferUnseen l m → in_first_branches l.path ≡ true → m ≡ l
seen_is_same l m h first = h.0 ∙ ap (λ v. (let s : SmallView = record l { value = v } in s)) (h.1 first)

root_is_same : (l m : SmallView) → DifferUnseen l m → is_root l.path ≡ true → m ≡ l
root_is_same l m h root = seen_is_same l m h (root_is_first l.path root)

children_differ : (l m : SmallView) (place : ℕ) (bs : List Branch) → DifferUnseen l m → AllTied DifferUnseen (children_from l place bs) (children_from m place bs)
children_differ l m place [] h = tt
children_differ l m place (b ∷ bs) h = ((ap (λ s. child_of s place b) h.0, λ e. h.1 (parent_is_first l.path l.forks place e)), children_differ l m (place + 1) bs h)

forks_differ : (b : Bool) (l m : SmallView) → DifferUnseen l m → ForksTied DifferUnseen (fork_result b l) (fork_result b m)
forks_differ true l m h = (ap small_ops.put h.0, h.1)
forks_differ false l m h = (
  (ap forked h.0, h.1),
  subst (λ left. AllTied DifferUnseen (children_of l) (children_from m 0 (branches left))) (sym (ap (λ s. s.left) h.0)) (children_differ l m 0 (branches l.left) h),
)

-- where their path has first branches alone, two such parents take back equal values from the first of their children
values_come_back : (l m : SmallView) (ls ms : List SmallView) → DifferUnseen l m → AllTied DifferUnseen ls ms → AreOfLastFork l ls → in_first_branches l.path ≡ true → value_given m.value ms ≡ value_given l.value ls
values_come_back l m [] [] h each born e = h.1 e
values_come_back l m (k ∷ ks) (j ∷ js) h each born e =
    let child = small_laws.born_children l (k ∷ ks) born in
    each.0.1 (subst (λ p. in_first_branches p ≡ true) (sym child.1.0) (child_is_first l.path child.0 e))
values_come_back l m [] (j ∷ js) h each born e = absurd each
values_come_back l m (k ∷ ks) [] h each born e = absurd each

pub unseen_is_kept : KeepsTied small_ops small_ops DifferUnseen
unseen_is_kept = record {
  stop = λ l m h. sym (ap small_ops.stop h.2.0);
  quiet = λ l m h at. (ap small_ops.quiet h.2.0, h.2.1);
  byte = λ l m h at. sym (ap small_ops.byte (root_is_same l m h.2 (small_laws.put_holds l h.0 at)));
  put = λ l m h at. (ap small_ops.put h.2.0, h.2.1);
  receive = λ l m c v h at. (ap (λ s. small_ops.receive s v) h.2.0, λ e. refl);
  fork = λ l m h at. subst (λ b. ForksTied DifferUnseen (small_ops.fork l) (fork_result b m)) (sym (ap (λ s. trap_behind s s.left) h.2.0)) (forks_differ (trap_behind l l.left) l m h.2);
  join = λ l m ls ms goes_on h sound others each born too. (ap (λ s. joined s ms goes_on) h.2.0, values_come_back l m ls ms h.2 each born);
  number = λ l m label h at. sym (ap small_ops.number h.2.0);
  thrown = λ l m label h at. (ap small_ops.thrown h.2.0, h.2.1);
  unwind = λ l m label v h least most. (ap (λ s. small_ops.unwind s label v) h.2.0, λ e. refl);
  value = λ l m c h carries. sym (ap (λ s. s.value) (root_is_same l m h.2 (first_holds (is_root l.path) _ carries)));
  shares = λ l m c h. sym (ap (λ s. small_ops.shares s c) h.2.0);
  carries = λ l m c h. sym (ap (λ s. small_ops.carries s c) h.2.0);
  given = λ l m h. sym (ap small_ops.given h.2.0);
  holds_output = λ l m h. sym (ap small_ops.holds_output h.2.0);
  path = λ l m h. sym (ap small_ops.path h.2.0);
  base = λ l m h. sym (ap small_ops.base h.2.0);
  handlers = λ l m h. sym (ap small_ops.handlers h.2.0);
  handler = λ l m label h least most. sym (ap (λ s. small_ops.handler s label) h.2.0);
}
