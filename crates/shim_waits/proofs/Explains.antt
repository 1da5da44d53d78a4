-- What is found by one walk is what is explained.
use Rattle.std.proofs.Common.{◌≡◌, ℕ, zero, suc, ◌<◌, Option, Some, None, List, [], ◌∷◌, inl, inr, cond, get_or, length, map, refl, sym, ap, subst, ◌∙◌, arith}
use Rattle.std.specs.Prelude.{slice_get}
use Rattle.std.specs.Option.{option_map}
use Rattle.std.specs.BTreeMap.{BTreeMap, is_at}
use Rattle.std.specs.Map.{lookup}
use Rattle.std.specs.declared.cmp.Ordering.TheVariants.{Less}
use Rattle.std.proofs.lemmas.List.{length-map}
use Rattle.std.proofs.lemmas.Option.{slice_get_within, slice_get-map, get_or_from_slice_get}
use Rattle.shim_base.specs.Paths.{Path, NamedChannel, Channel, same_path, path_order, channel_order}
use Rattle.shim_base.proofs.Facts.{some_same, none_some, true_or_false}
use Rattle.shim_base.proofs.SamePaths.{same_path_refl, same_path_is}
use Rattle.shim_local.specs.Process.{Ops, StopView, AtQuiet, AtNext, AtPut, AtFork, AtFinish, AtThrow, AtTrap}
use Rattle.shim_local.specs.Laws.{LocalLaws}
use Rattle.shim_base.specs.Lists.{IsAmong}
use Rattle.shim_semantics.specs.Nodes.{Node, state, next_channel, or_else}
use Rattle.shim_semantics.specs.Trees.{Tree}
use Rattle.shim_semantics.specs.Walks.{head}
use Rattle.shim_waits.specs.Cycles.{by_of, first_path, ring, ring_from, cycle_of, from_least}
use Rattle.shim_waits.specs.Gathering.{KeepsFirst, holder_in, holder_of, numbered_wait, wait_found, number_found}
use Rattle.shim_waits.specs.Holding.{holds_up, first_of, lives}
use Rattle.shim_waits.specs.Laws.{IsBlockedTree, PathsAscend}
use Rattle.shim_waits.specs.Numbers.{first_with, holds_given}
use Rattle.shim_waits.specs.Rings.{number_ring, AllBelow, IsTurned, path_of_wait}
use Rattle.shim_waits.specs.Waits.{wait_by, wait_through, wait_held, wait_at_next, wait_of_process, present, waits, explained}
use Rattle.shim_waits.specs.declared.explained.Explained.{Explained}
use Rattle.shim_waits.specs.declared.explained.Wait.{Wait}
use Rattle.shim_waits.specs.declared.gathering.Holder.{Holder}
use Rattle.shim_waits.proofs.Asked.{given_suffice}
use Rattle.shim_waits.proofs.Following.{no_less_itself}
use Rattle.shim_waits.proofs.HeldUp.{held_up, each}
use Rattle.shim_waits.proofs.NumberedWaits.{its_wait}
use Rattle.shim_waits.proofs.Numbers.{numbers_lead}
use Rattle.shim_waits.proofs.Ordered.{in_order, of_behind}
use Rattle.shim_waits.proofs.PathRings.{AreBelow, ring_mapped, ring_below, turned_is}

-- ---- the parts of a wait that there is

pub stands_next : (v : StopView) (d : NamedChannel) → next_channel v ≡ Some d → v ≡ AtNext d
stands_next (AtNext c) d e = ap AtNext (some_same c d e)
stands_next AtQuiet d e = none_some d e
stands_next AtPut d e = none_some d e
stands_next AtFork d e = none_some d e
stands_next AtFinish d e = none_some d e
stands_next (AtThrow label) d e = none_some d e
stands_next (AtTrap kind line) d e = none_some d e

module _ {S : Type 0} (o : Ops S) where
  by_its : (p : Path) (c : NamedChannel) (f b : Path) (x : Option NamedChannel) (w : Wait) → wait_by p c f b x ≡ Some w → (d : NamedChannel) × (x ≡ Some d) × (w ≡ record { path = p; chan = c; holder = f; by = b; at = d })
  by_its p c f b None w e = none_some w e
  by_its p c f b (Some d) w e = (d, refl, sym (some_same (record { path = p; chan = c; holder = f; by = b; at = d }) w e))

  through_its : (p : Path) (c : NamedChannel) (f : Path) (x : Option S) (w : Wait) → wait_through o p c f x ≡ Some w → (b : S) × (x ≡ Some b) × (wait_by p c f (o.path b) (next_channel (o.stop b)) ≡ Some w)
  through_its p c f None w e = none_some w e
  through_its p c f (Some b) w e = (b, refl, e)

  held_its : (p : Path) (c : NamedChannel) (x : Option (Node S)) (w : Wait) → wait_held o p c x ≡ Some w → (n : Node S) × (x ≡ Some n) × (wait_through o p c (o.path (state n)) (head (lives n)) ≡ Some w)
  held_its p c None w e = none_some w e
  held_its p c (Some n) w e = (n, refl, e)

  next_its : (root : Node S) (p : Path) (x : Option NamedChannel) (w : Wait) → wait_at_next o root p x ≡ Some w → (c : NamedChannel) × (x ≡ Some c) × (wait_held o p c (first_of (holds_up o c.channel) root) ≡ Some w)
  next_its root p None w e = none_some w e
  next_its root p (Some c) w e = (c, refl, e)

-- ---- and with numbers

found_one : {A : Type 0} (x : Option (A × ℕ)) (n : A) → option_map (λ y. y.0) x ≡ Some n → (i : ℕ) × (x ≡ Some (n, i))
found_one None n e = none_some n e
found_one (Some x) n e = (x.1, ap (λ z. Some (z, x.1)) (some_same x.0 n e))

-- the wait of a live process, and who it waits for
record Numbered {S : Type 0} (o : Ops S) (root : Node S) (holders : BTreeMap NamedChannel Holder) (l : S) : Type 0 where
  wait : Wait
  number : ℕ
  by : S
  is : wait_of_process o root l ≡ Some wait
  found : numbered_wait o (lives root) holders l ≡ Some (wait, number)
  there : slice_get (lives root) number ≡ Some by
  its : wait.path ≡ o.path l
  for_it : wait.by ≡ o.path by

-- the first process that holds up those at each channel is kept, of those that were given it
abbrev pub AllKept : {S : Type 0} → Ops S → Node S → BTreeMap NamedChannel Holder → Type 0
AllKept o root holders = (q : Channel) → holder_in holders q ≡ option_map (holder_of o) (first_with (holds_given o q) 0 root)

module _ {S : Type 0} (o : Ops S) (law : LocalLaws o) (t : Tree S) (b : IsBlockedTree o t) (holders : BTreeMap NamedChannel Holder) (kept : AllKept o t.root holders) where
  with_holder : (l : S) (w : Wait) (c : NamedChannel) (n : Node S) (y : S) (d : NamedChannel) (i : ℕ) → IsAmong l (lives t.root) → wait_of_process o t.root l ≡ Some w → next_channel (o.stop l) ≡ Some c
      → first_with (holds_given o c.channel) 0 t.root ≡ Some (n, i) → head (lives n) ≡ Some y → next_channel (o.stop y) ≡ Some d
      → w ≡ record { path = o.path l; chan = c; holder = o.path (state n); by = o.path y; at = d } → Numbered o t.root holders l
  with_holder l w c n y d i a e at_channel first leads other_waits is =
      let there = (numbers_lead S).leads (holds_given o c.channel) t.root n i y first leads in
      record {
        wait = w;
        number = i;
        by = y;
        is = e;
        found = its_wait o (lives t.root) holders l c d (record { path = o.path (state n); number = i }) y at_channel (kept c.channel ∙ ap (option_map (holder_of o)) first) there other_waits ∙ ap (λ z. Some (z, i)) (sym is);
        there = there;
        its = ap (λ z. z.path) is;
        for_it = ap (λ z. z.by) is;
      }

  numbered : (l : S) → IsAmong l (lives t.root) → Numbered o t.root holders l
  numbered l a =
      let h = held_up o law t l b a in
      let c = next_its o t.root (o.path l) (next_channel (o.stop l)) h.wait h.is in
      let n = held_its o (o.path l) c.0 (first_of (holds_up o c.0.channel) t.root) h.wait c.2 in
      let y = through_its o (o.path l) c.0 (o.path (state n.0)) (head (lives n.0)) h.wait n.2 in
      let d = by_its o (o.path l) c.0 (o.path (state n.0)) (o.path y.0) (next_channel (o.stop y.0)) h.wait y.2 in
      let first = (numbers_lead S).finds (holds_given o c.0.channel) t.root ∙ (given_suffice o law t l c.0 b.sound a (stands_next (o.stop l) c.0 c.1) ∙ n.1) in
      let i = found_one (first_with (holds_given o c.0.channel) 0 t.root) n.0 first in
      with_holder l h.wait c.0 n.0 y.0 d.0 i.0 a h.is c.1 i.1 y.1 d.1 d.2

-- the numbers of those that the live processes wait for
abbrev pub numbers_found : {S : Type 0} → Ops S → Node S → BTreeMap NamedChannel Holder → List ℕ
numbers_found o root holders = present (map (number_found o (lives root) holders) (lives root))

-- ---- lists of what is there

map_same : {A B : Type 0} (f g : A → B) (xs : List A) → ((x : A) → IsAmong x xs → f x ≡ g x) → map f xs ≡ map g xs
map_same f g [] h = refl
map_same f g (x ∷ xs) h = λ i. h x (inl refl) i ∷ map_same f g xs (λ y k. h y (inr k)) i

present_long : {A B : Type 0} (f : A → Option B) (xs : List A) → ((x : A) → IsAmong x xs → (y : B) × (f x ≡ Some y)) → length (present (map f xs)) ≡ length xs
present_long f [] h = refl
present_long f (x ∷ xs) h = ap (λ z. length (present (z ∷ map f xs))) (h x (inl refl)).1 ∙ ap suc (present_long f xs (λ y k. h y (inr k)))

present_at : {A B : Type 0} (f : A → Option B) (xs : List A) → ((x : A) → IsAmong x xs → (y : B) × (f x ≡ Some y)) → (i : ℕ) (x : A) (y : B) → slice_get xs i ≡ Some x → f x ≡ Some y → slice_get (present (map f xs)) i ≡ Some y
present_at f [] h i x y e is = none_some x e
present_at f (z ∷ xs) h zero x y e is = ap (λ w. slice_get (present (w ∷ map f xs)) 0) (ap f (some_same z x e) ∙ is)
present_at f (z ∷ xs) h (suc i) x y e is = ap (λ w. slice_get (present (w ∷ map f xs)) (suc i)) (h z (inl refl)).1 ∙ present_at f xs (λ w k. h w (inr k)) i x y e is

at_among : {A : Type 0} (xs : List A) (i : ℕ) (x : A) → slice_get xs i ≡ Some x → IsAmong x xs
at_among [] i x e = none_some x e
at_among (y ∷ xs) zero x e = inl (sym (some_same y x e))
at_among (y ∷ xs) (suc i) x e = inr (at_among xs i x e)

there_is : {A : Type 0} (xs : List A) (i : ℕ) → i < length xs → (x : A) × (slice_get xs i ≡ Some x)
there_is [] i h = absurd (omega (arith, h))
there_is (x ∷ xs) zero h = (x, refl)
there_is (x ∷ xs) (suc i) h = there_is xs i (omega (arith, h))

-- of paths in order
in_order_at : (ps : List Path) (i j : ℕ) → PathsAscend ps → i < j → j < length ps → path_order (get_or ps i []) (get_or ps j []) ≡ Less
in_order_at [] i j o h k = absurd (omega (arith, k))
in_order_at (p ∷ ps) i zero o h k = absurd (omega (arith, h))
in_order_at (p ∷ ps) zero (suc j) o h k = of_behind p ps (get_or ps j []) o.0 (read_there ps j (omega (arith, k)))
  where
    read_there : (qs : List Path) (n : ℕ) → n < length qs → IsAmong (get_or qs n []) qs
    read_there [] n h = absurd (omega (arith, h))
    read_there (q ∷ qs) zero h = inl refl
    read_there (q ∷ qs) (suc n) h = inr (read_there qs n (omega (arith, h)))
in_order_at (p ∷ ps) (suc i) (suc j) o h k = in_order_at ps i j o.1 (omega (arith, h)) (omega (arith, k))

-- who is waited for, by the number of the wait
by_at : (ws : List Wait) (i : ℕ) (w : Wait) → PathsAscend (map (λ v. v.path) ws) → slice_get ws i ≡ Some w → by_of ws w.path ≡ Some w.by
by_at [] i w o e = none_some w e
by_at (v ∷ ws) zero w o e =
    let same = some_same v w e in
    ap (λ z. cond (same_path v.path z) (Some v.by) (by_of ws z)) (ap (λ z. z.path) (sym same)) ∙ (ap (λ z. cond z (Some v.by) (by_of ws v.path)) (same_path_refl v.path) ∙ ap (λ z. Some z.by) same)
by_at (v ∷ ws) (suc i) w o e = elim (true_or_false (same_path v.path w.path)) [
  | inl y ↦ absurd (no_less_itself v.path w.path (of_behind v.path (map (λ z. z.path) ws) w.path o.0 (among_paths ws w (at_among ws i w e))) (same_path_is v.path w.path y))
  | inr n ↦ ap (λ z. cond z (Some v.by) (by_of ws w.path)) n ∙ by_at ws i w o.1 e
]
  where
    among_paths : (us : List Wait) (u : Wait) → IsAmong u us → IsAmong u.path (map (λ z. z.path) us)
    among_paths [] u h = absurd h
    among_paths (x ∷ us) u (inl h) = inl (ap (λ z. z.path) h)
    among_paths (x ∷ us) u (inr h) = inr (among_paths us u h)

read_path : {A : Type 0} (f : A → Path) (ps : List Path) (xs : List A) (i : ℕ) (x : A) → ps ≡ map f xs → slice_get xs i ≡ Some x → get_or ps i [] ≡ f x
read_path f ps xs i x is e = ap (λ z. get_or z i []) is ∙ get_or_from_slice_get (map f xs) i (f x) [] (slice_get-map f xs i ∙ ap (option_map f) e)

-- the ring from the first wait, whatever the waits are
from_first : (ws : List Wait) (n : ℕ) (next : List ℕ) → length ws ≡ n → length next ≡ n
    → (0 < n → ring_from ws (Some (path_of_wait ws 0)) ≡ map (path_of_wait ws) (number_ring (length next) next [] 0)) → ring_from ws (first_path ws) ≡ map (path_of_wait ws) (number_ring (length next) next [] 0)
from_first [] n [] e f h = refl
from_first [] n (x ∷ next) e f h = absurd (omega (arith, e, f))
from_first (w ∷ ws) n next e f h = h (omega (arith, e))

below_from : (n : ℕ) (next : List ℕ) → length next ≡ n → (0 < n → AreBelow n (number_ring (length next) next [] 0)) → AreBelow n (number_ring (length next) next [] 0)
below_from n [] e h = tt
below_from n (x ∷ next) e h = h (omega (arith, e))

module _ {S : Type 0} (o : Ops S) (law : LocalLaws o) (t : Tree S) (b : IsBlockedTree o t) (holders : BTreeMap NamedChannel Holder) (kept : AllKept o t.root holders) where
  its : (l : S) → IsAmong l (lives t.root) → Numbered o t.root holders l
  its = numbered o law t b holders kept

  pub found_waits : present (map (wait_found o (lives t.root) holders) (lives t.root)) ≡ waits o t.root
  found_waits = ap present (map_same (wait_found o (lives t.root) holders) (wait_of_process o t.root) (lives t.root) (λ l a. let w = its l a in ap (option_map (λ z. z.0)) w.found ∙ sym w.is))

  has_number_found : (l : S) → IsAmong l (lives t.root) → (y : ℕ) × (number_found o (lives t.root) holders l ≡ Some y)
  has_number_found l a = let w = its l a in (w.number, ap (option_map (λ z. z.1)) w.found)

  has_wait : (l : S) → IsAmong l (lives t.root) → (w : Wait) × (wait_of_process o t.root l ≡ Some w)
  has_wait l a = let w = its l a in (w.wait, w.is)

  pub next_long : length (numbers_found o t.root holders) ≡ length (lives t.root)
  next_long = present_long (number_found o (lives t.root) holders) (lives t.root) has_number_found

  pub waits_long : length (waits o t.root) ≡ length (lives t.root)
  waits_long = present_long (wait_of_process o t.root) (lives t.root) has_wait

  -- the live process of a number, with its wait and the number of the one that it waits for
  next_of_number : (i to : ℕ) → slice_get (numbers_found o t.root holders) i ≡ Some to → (l : S) × (slice_get (lives t.root) i ≡ Some l) × (w : Numbered o t.root holders l) × (w.number ≡ to)
  next_of_number i to e =
      let h = slice_get_within (numbers_found o t.root holders) i to e in
      let l = there_is (lives t.root) i (let k = next_long in omega (arith, h, k)) in
      let w = its l.0 (at_among (lives t.root) i l.0 l.1) in
      (l.0, l.1, w, some_same w.number to (sym (present_at (number_found o (lives t.root) holders) (lives t.root) has_number_found i l.0 w.number l.1 (ap (option_map (λ z. z.1)) w.found)) ∙ e))

  pub next_below : AllBelow (length (numbers_found o t.root holders)) (numbers_found o t.root holders)
  next_below i to e =
      let w = next_of_number i to e in
      let h = slice_get_within (lives t.root) w.2.number w.2.by w.2.there in
      let k = next_long in
      let same = w.3 in
      omega (arith, h, k, same)

  paths : map (λ w. w.path) (waits o t.root) ≡ map o.path (lives t.root)
  paths = each o law t b

  leads : (i to : ℕ) → slice_get (numbers_found o t.root holders) i ≡ Some to → (by_of (waits o t.root) (path_of_wait (waits o t.root) i) ≡ Some (path_of_wait (waits o t.root) to)) × (to < length (lives t.root))
  leads i to e =
      let w = next_of_number i to e in
      let order = subst PathsAscend (sym paths) (in_order o t.root b.sound.below) in
      let wait_there = present_at (wait_of_process o t.root) (lives t.root) has_wait i w.0 w.2.wait w.1 w.2.is in
      let here = read_path o.path (map (λ v. v.path) (waits o t.root)) (lives t.root) i w.0 paths w.1 ∙ sym w.2.its in
      let there = read_path o.path (map (λ v. v.path) (waits o t.root)) (lives t.root) w.2.number w.2.by paths w.2.there in (
        ap (by_of (waits o t.root)) here ∙ (by_at (waits o t.root) i w.2.wait order wait_there ∙ ap Some (w.2.for_it ∙ (sym there ∙ ap (path_of_wait (waits o t.root)) w.3))),
        let h = slice_get_within (lives t.root) w.2.number w.2.by w.2.there in let same = w.3 in omega (arith, h, same),
      )

  order_of_paths : (i j : ℕ) → i < j → j < length (lives t.root) → path_order (path_of_wait (waits o t.root) i) (path_of_wait (waits o t.root) j) ≡ Less
  order_of_paths i j h k =
      let long = ap length paths ∙ length-map (lives t.root) o.path in
      in_order_at (map (λ w. w.path) (waits o t.root)) i j (subst PathsAscend (sym paths) (in_order o t.root b.sound.below)) h (omega (arith, k, long))

  mapped : 0 < length (lives t.root) → ring_from (waits o t.root) (Some (path_of_wait (waits o t.root) 0)) ≡ map (path_of_wait (waits o t.root)) (number_ring (length (numbers_found o t.root holders)) (numbers_found o t.root holders) [] 0)
  mapped h =
      ap (λ k. ring k (waits o t.root) [] (path_of_wait (waits o t.root) 0)) (waits_long ∙ sym next_long)
      ∙ ring_mapped (length (lives t.root)) (path_of_wait (waits o t.root)) order_of_paths (waits o t.root) (numbers_found o t.root holders) leads next_long (length (numbers_found o t.root holders)) [] 0 tt h

  below : AreBelow (length (lives t.root)) (number_ring (length (numbers_found o t.root holders)) (numbers_found o t.root holders) [] 0)
  below = below_from (length (lives t.root)) (numbers_found o t.root holders) next_long (λ h.
      ring_below (length (lives t.root)) (path_of_wait (waits o t.root)) order_of_paths (waits o t.root) (numbers_found o t.root holders) leads next_long (length (numbers_found o t.root holders)) [] 0 tt h)

  turned_cycle : (cycle : List Path) → IsTurned (path_of_wait (waits o t.root)) (number_ring (length (numbers_found o t.root holders)) (numbers_found o t.root holders) [] 0) cycle → cycle ≡ cycle_of (waits o t.root)
  turned_cycle cycle turned =
      turned_is (length (lives t.root)) (path_of_wait (waits o t.root)) order_of_paths (number_ring (length (numbers_found o t.root holders)) (numbers_found o t.root holders) [] 0) cycle below turned
      ∙ ap from_least (sym (from_first (waits o t.root) (length (lives t.root)) (numbers_found o t.root holders) waits_long next_long mapped))

  pub explains : (e : Explained) → e.waits ≡ waits o t.root → IsTurned (path_of_wait (waits o t.root)) (number_ring (length (numbers_found o t.root holders)) (numbers_found o t.root holders) [] 0) e.cycle → e ≡ explained o t.root
  explains e ws turned = let cycle = turned_cycle e.cycle turned in λ i. record { waits = ws i; cycle = cycle i }

-- ---- as the code has it

pub walk_kept : {S : Type 0} (o : Ops S) (n root : Node S) (number : ℕ) (empty holders : BTreeMap NamedChannel Holder) → empty.entries ≡ [] → n ≡ root → number ≡ 0 → KeepsFirst o n number empty holders → AllKept o root holders
walk_kept o n root number empty holders none is start kept q =
    kept q ∙ (λ i. or_else (lookup (is_at (λ (k : NamedChannel). channel_order q k.channel)) (none i)) (option_map (holder_of o) (first_with (holds_given o q) (start i) (is i))))

module _ {S : Type 0} (o : Ops S) (law : LocalLaws o) (t : Tree S) (b : IsBlockedTree o t) (holders : BTreeMap NamedChannel Holder) (kept : AllKept o t.root holders) (ls : List S) (are : ls ≡ lives t.root) where
  numbers_are : (ns : List ℕ) → ns ≡ present (map (number_found o ls holders) ls) → ns ≡ numbers_found o t.root holders
  numbers_are ns e = e ∙ ap (λ z. present (map (number_found o z holders) z)) are

  waits_are : (ws : List Wait) → ws ≡ present (map (wait_found o ls holders) ls) → ws ≡ waits o t.root
  waits_are ws e = e ∙ (ap (λ z. present (map (wait_found o z holders) z)) are ∙ found_waits o law t b holders kept)

  pub numbers_below : (ns : List ℕ) → ns ≡ present (map (number_found o ls holders) ls) → AllBelow (length ns) ns
  numbers_below ns e = subst (λ z. AllBelow (length z) z) (sym (numbers_are ns e)) (next_below o law t b holders kept)

  pub as_many : (ws : List Wait) (ns : List ℕ) → ws ≡ present (map (wait_found o ls holders) ls) → ns ≡ present (map (number_found o ls holders) ls) → length ws ≡ length ns
  as_many ws ns e f = ap length (waits_are ws e) ∙ (waits_long o law t b holders kept ∙ (sym (next_long o law t b holders kept) ∙ sym (ap length (numbers_are ns f))))

  pub all_explained : (ws : List Wait) (ns : List ℕ) (cycle : List Path) → ws ≡ present (map (wait_found o ls holders) ls) → ns ≡ present (map (number_found o ls holders) ls) → IsTurned (path_of_wait ws) (number_ring (length ns) ns [] 0) cycle
      → record { waits = ws; cycle = cycle } ≡ explained o t.root
  all_explained ws ns cycle e f turned =
      explains o law t b holders kept (record { waits = ws; cycle = cycle }) (waits_are ws e)
      (subst (λ z. IsTurned (path_of_wait z) (number_ring (length (numbers_found o t.root holders)) (numbers_found o t.root holders) [] 0) cycle) (waits_are ws e)
      (subst (λ z. IsTurned (path_of_wait ws) (number_ring (length z) z [] 0) cycle) (numbers_are ns f) turned))
