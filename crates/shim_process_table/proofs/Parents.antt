-- The fork of a process in use, and numbers listed on the way up from it.
use Rattle.std.proofs.Common.{◌≡◌, ◌⊎◌, ◌<◌, ◌≤◌, ℕ, zero, suc, ◌+◌, Bool, true, Option, Some, None, List, [], ◌∷◌, length, slice_set, inl, inr, refl, sym, ap, subst, ◌∙◌, arith}
use Rattle.std.specs.Prelude.{slice_get}
use Rattle.std.proofs.lemmas.List.{length-append, length-set}
use Rattle.std.proofs.lemmas.Option.{slice_get_within}
use Rattle.shim_base.specs.Paths.{Path}
use Rattle.shim_base.proofs.Facts.{some_same}
use Rattle.shim_local.specs.Process.{Ops}
use Rattle.shim_semantics.specs.Nodes.{Node}
use Rattle.shim_laws_table.specs.NodeStatus.{ProcessStatus, forks, place}
use Rattle.shim_laws_table.proofs.Hanging.{tied}
use Rattle.shim_laws_table.proofs.SameTrees.{same_or_not}
use Rattle.shim_records.specs.Pairs.{up_in}
use Rattle.shim_records.specs.declared.record.Record.{Record}
use Rattle.shim_records.proofs.Reaching.{among_more, one_above}
use Rattle.shim_records.proofs.Stepping.{set_there, set_elsewhere}
use Rattle.shim_laws_table_events.specs.keeping.Tables.{TableView, HasProcessState, TableInvariant, HasTableInvariant, views}
use Rattle.shim_laws_table_events.specs.queues.EventQueue.{is_set, is_listed}
use Rattle.shim_laws_table_events.proofs.queues.PairsFound.{record_of}
use Rattle.shim_process_table.specs.Lookups.{IsInUse, IsForAll, ParentIs}
use Rattle.shim_records.specs.Ways.{IsAbove, its_fork, further}
use Rattle.shim_process_table.specs.Touching.{ListsAbove}
use Rattle.shim_process_table.proofs.Above.{none_above, not_among_none, above_fork}

pub there_is : {A : Type 0} (xs : List A) (i : ℕ) → i < length xs → (x : A) × (slice_get xs i ≡ Some x)
there_is [] i h = absurd (omega (arith, h))
there_is (x ∷ xs) zero h = (x, refl)
there_is (x ∷ xs) (suc i) h = there_is xs i (omega (arith, h))

no_items : {A : Type 0} (xs : List A) → length xs ≡ 0 → xs ≡ []
no_items [] e = refl
no_items (x ∷ xs) e = absurd (omega (arith, e))

-- ---- one more flag is set

listed_item : (x : Option Bool) → is_set x ≡ true → (b : Bool) × (x ≡ Some b)
listed_item None e = absurd cc
listed_item (Some b) e = (b, refl)

module _ (old new : List Bool) (n : ℕ) (adds : new ≡ slice_set old n true) where
  pub still_listed : (i : ℕ) → is_listed old i ≡ true → is_listed new i ≡ true
  still_listed i e = ap (λ z. is_listed z i) adds ∙ elim (same_or_not i n) [
    | inl w ↦
        let b = listed_item (slice_get old i) e in
        ap (is_listed (slice_set old n true)) w ∙ ap is_set (set_there old n b.0 true (ap (slice_get old) (sym w) ∙ b.1))
    | inr w ↦ ap is_set (set_elsewhere old n i true w) ∙ e
  ]

  pub now_listed : n < length old → is_listed new n ≡ true
  now_listed h = let b = there_is old n h in ap (λ z. is_listed z n) adds ∙ ap is_set (set_there old n b.0 true b.1)

  pub only_listed : (i : ℕ) → is_listed new i ≡ true → (is_listed old i ≡ true) ⊎ (i ≡ n)
  only_listed i e = elim (same_or_not i n) [
    | inl w ↦ inr w
    | inr w ↦ inl (ap is_set (sym (set_elsewhere old n i true w)) ∙ (ap (λ z. is_listed z i) (sym adds) ∙ e))
  ]

  pub as_long : length new ≡ length old
  as_long = ap length adds ∙ length-set old n true

-- ---- processes in use

one_later : (n : ℕ) → n + 1 ≡ suc n
one_later n = omega arith

module _ {S : Type 0} (o : Ops S) (v : TableView S) where
  pub use_within : (i : ℕ) → IsInUse v i → i < length v.records
  use_within i (f, s, k, has) = let r = record_of v.records i f k has.view_is in slice_get_within v.records i r.0 r.1

  module _ (rp : Path) (root : Node S) (kept : TableInvariant o rp v root) where
    -- its fork is in use, and one branch nearer to the root
    fork_of : (i j f : ℕ) (s : S) (k : ProcessStatus) → HasProcessState v i f s k → up_in v.records i ≡ Some j
        → (g : ℕ) × (n : ℕ) × (t : S) × HasProcessState v j g t (forks n) × (length (place o rp s) ≡ length (place o rp t) + 1)
    fork_of i j f s k has e =
        let b = tied o rp v.states (views v) root kept.represents (up_in v.records) kept.linked i f j s k has e in
        (b.0.first, b.0.many, b.0.parent, subst (λ z. HasProcessState v z b.0.first b.0.parent (forks b.0.many)) b.1 b.0.has, ap length b.0.is ∙ length-append (place o rp b.0.parent) (b.0.branch ∷ []))

  pub fork_in_use : HasTableInvariant o v → (i j : ℕ) → IsInUse v i → up_in v.records i ≡ Some j → IsInUse v j
  fork_in_use kept i j (f, s, k, has) e = let w = fork_of kept.0 kept.1 kept.2 i j f s k has e in (w.0, w.2, forks w.1, w.3)

  -- no fork is further up than a path is long
  module _ (kept : HasTableInvariant o v) where
    at_level : {n i k : ℕ} (f : ℕ) (s : S) (h : ProcessStatus) → HasProcessState v i f s h → IsAbove (up_in v.records) n i k → IsAbove (up_in v.records) (length (place o kept.0 s)) i k
    at_level f s h has (its_fork n i j e) =
        let u = fork_of kept.0 kept.1 kept.2 i j f s h has e in
        subst (λ z. IsAbove (up_in v.records) z i j) (sym (u.4 ∙ one_later (length (place o kept.0 u.2)))) (its_fork (length (place o kept.0 u.2)) i j e)
    at_level f s h has (further n i j k e w) =
        let u = fork_of kept.0 kept.1 kept.2 i j f s h has e in
        subst (λ z. IsAbove (up_in v.records) z i k) (sym (u.4 ∙ one_later (length (place o kept.0 u.2)))) (further (length (place o kept.0 u.2)) i j k e (at_level u.0 u.2 (forks u.1) u.3 w))

    pub none_further : {n i k : ℕ} → IsInUse v i → IsAbove (up_in v.records) n i k → IsAbove (up_in v.records) 4294967295 i k
    none_further {i} (f, s, h, has) w =
        let r = record_of v.records i f h has.view_is in
        among_more (up_in v.records) 4294967295 (kept.2.fit i f s h r.0 has r.1).near (at_level f s h has w)

  -- ---- on the way up

  -- The first so many forks above a number were listed, the last of which has this one.
  pub record IsQueue (number : ℕ) (old now : List Bool) (here walked : ℕ) : Type 0 where
    pub kept : (i : ℕ) → is_listed old i ≡ true → is_listed now i ≡ true
    pub left : (m i : ℕ) → IsAbove (up_in v.records) (walked + m) number i → (is_listed now i ≡ true) ⊎ IsAbove (up_in v.records) m here i
    pub only : (i : ℕ) → is_listed now i ≡ true → (is_listed old i ≡ true) ⊎ IsAbove (up_in v.records) walked number i
    pub as_many : length now ≡ length old
    pub reached : (j : ℕ) → up_in v.records here ≡ Some j → IsAbove (up_in v.records) (walked + 1) number j
    pub used : IsInUse v here

  pub queue_begins : (number : ℕ) (old : List Bool) → IsInUse v number → IsQueue number old old number 0
  queue_begins number old used = record {
    kept = λ i e. e;
    left = λ m i w. inr (subst (λ z. IsAbove (up_in v.records) z number i) (none_yet m) w);
    only = λ i e. inl e;
    as_many = refl;
    reached = λ j e. its_fork 0 number j e;
    used = used;
  }
    where
      none_yet : (m : ℕ) → 0 + m ≡ m
      none_yet m = omega arith

  module _ (number : ℕ) (old now : List Bool) (here walked : ℕ) (so_far : IsQueue number old now here walked) where
    pub queue_goes : HasTableInvariant o v → IsForAll v old → (j : ℕ) (next : List Bool) → up_in v.records here ≡ Some j → next ≡ slice_set now j true → IsQueue number old next j (walked + 1)
    queue_goes all room j next up adds = record {
      kept = λ i e. still_listed now next j adds i (so_far.kept i e);
      left = λ m i w. elim (so_far.left (suc m) i (subst (λ z. IsAbove (up_in v.records) z number i) (one_less walked m) w)) [
        | inl e ↦ inl (still_listed now next j adds i e)
        | inr h ↦ elim (above_fork (up_in v.records) j up h) [ inl e ↦ inl (ap (is_listed next) e ∙ now_listed now next j adds within) | inr h ↦ inr h ]
      ];
      only = λ i e. elim (only_listed now next j adds i e) [
        | inl w ↦ elim (so_far.only i w) [ inl e ↦ inl e | inr h ↦ inr (among_more (up_in v.records) (walked + 1) (omega arith) h) ]
        | inr w ↦ inr (subst (IsAbove (up_in v.records) (walked + 1) number) (sym w) (so_far.reached j up))
      ];
      as_many = as_long now next j adds ∙ so_far.as_many;
      reached = λ k e. subst (λ z. IsAbove (up_in v.records) z number k) (sym (one_later (walked + 1))) (one_above (up_in v.records) k (so_far.reached j up) e);
      used = used;
    }
      where
        used : IsInUse v j
        used = fork_in_use all here j so_far.used up

        within : j < length now
        within = let a = room j used in let b = so_far.as_many in omega (arith, a, b)

        one_less : (walked m : ℕ) → walked + 1 + m ≡ walked + suc m
        one_less walked m = omega arith

    module _ (n : ℕ) where
      -- so many were to be listed
      pub queue_ends : walked ≡ n → ListsAbove v n number old now
      queue_ends all = record {
        kept = so_far.kept;
        above = λ i w. elim (so_far.left 0 i (subst (λ z. IsAbove (up_in v.records) z number i) (sym all ∙ none_more walked) w)) [ inl e ↦ e | inr h ↦ not_among_none (up_in v.records) h ];
        only = λ i e. subst (λ z. (is_listed old i ≡ true) ⊎ IsAbove (up_in v.records) z number i) all (so_far.only i e);
        as_many = so_far.as_many;
      }
        where
          none_more : (n : ℕ) → n ≡ n + 0
          none_more n = omega arith

      -- or the way ends at a process without a fork
      pub queue_tops : walked ≤ n → up_in v.records here ≡ None → ListsAbove v n number old now
      queue_tops few top = record {
        kept = so_far.kept;
        above = λ i w. elim (so_far.left n i (among_more (up_in v.records) (walked + n) (omega arith) w)) [ inl e ↦ e | inr h ↦ none_above (up_in v.records) top h ];
        only = λ i e. elim (so_far.only i e) [ inl w ↦ inl w | inr w ↦ inr (among_more (up_in v.records) n few w) ];
        as_many = so_far.as_many;
      }

-- ---- what readers answer

module _ {S : Type 0} (o : Ops S) (v : TableView S) (kept : HasTableInvariant o v) (i : ℕ) where
  -- of a process in use the number of its parent is known
  pub parent_is_up : IsInUse v i → (r : Option ℕ) → ParentIs v.records i r → r ≡ up_in v.records i
  parent_is_up used None past = on (up_in v.records i) refl
    where
      on : (x : Option ℕ) → up_in v.records i ≡ x → None ≡ up_in v.records i
      on None e = sym e
      on (Some j) e = let a = use_within o v j (fork_in_use o v kept i j used e) in let b = past j e in absurd (omega (arith, a, b))
  parent_is_up used (Some j) is = sym is.0

  -- its record has its path
  pub path_kept : IsInUse v i → (l : S) (r : Record) → slice_get v.states i ≡ Some l → slice_get v.records i ≡ Some r → r.path ≡ o.path l
  path_kept (f, s, k, has) l r is e = (kept.2.fit i f s k r has e).path ∙ ap o.path (some_same s l (sym has.state_is ∙ is))
