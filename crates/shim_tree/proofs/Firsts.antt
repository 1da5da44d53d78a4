-- The first event of a walk, as a search finds it.
use Rattle.std.proofs.Common.{◌≡◌, ℕ, ◌+◌, Bool, true, false, Option, Some, None, is_some, List, [], ◌∷◌, ◌++◌, cond, map, filter, refl, sym, ap, ◌∙◌}
use Rattle.std.specs.Option.{option_map}
use Rattle.std.specs.declared.cmp.Ordering.{Ordering}
use Rattle.std.specs.declared.cmp.Ordering.TheVariants.{Less, Equal, Greater}
use Rattle.shim_base.specs.Paths.{Path, Channel, channel_order}
use Rattle.shim_local.specs.Process.{Ops}
use Rattle.shim_semantics.specs.Nodes.{Node, Nodes, Forked, node_and, state, all_done, or_else}
use Rattle.shim_semantics.specs.Trees.{Event, Meet, Poison, Close}
use Rattle.shim_semantics.specs.Walks.{in_order, waited, all_waited, meets_here, poisons_here, poisons_of, here, walk, walk_all, head}
use Rattle.shim_tree.specs.Inserted.{put_before, inserted, all_inserted}
use Rattle.shim_tree.proofs.InsertedKeys.{inserted_in_order}
use Rattle.shim_tree.specs.Finding.{sooner, or_sooner, least}

-- what stands first after a channel is put in is the sooner of two
head_before : (r : Ordering) (c d : Channel) (cs more : List Channel) → head (put_before r c d cs more) ≡ Some (sooner r c d)
head_before Less c d cs more = refl
head_before Equal c d cs more = refl
head_before Greater c d cs more = refl

head_inserted : (c : Channel) (cs : List Channel) → head (inserted c cs) ≡ Some (or_sooner c (head cs))
head_inserted c [] = refl
head_inserted c (d ∷ cs) = head_before (channel_order c d) c d cs (inserted c cs)

-- the first of those that pass, put in order, is the least that a scan finds
head_all : (passes : Channel → Bool) (done cs : List Channel) → head (all_inserted done (filter passes cs)) ≡ least passes (head done) cs
head_all passes done [] = refl
head_all passes done (c ∷ cs) = one (λ d. head_all passes d cs) (passes c)
  where
    one : ((d : List Channel) → head (all_inserted d (filter passes cs)) ≡ least passes (head d) cs) → (b : Bool) → head (all_inserted done (cond b (c ∷ filter passes cs) (filter passes cs))) ≡ least passes (cond b (Some (or_sooner c (head done))) (head done)) cs
    one rest true = rest (inserted c done) ∙ ap (λ z. least passes z cs) (head_inserted c done)
    one rest false = rest done

head_ordered : (passes : Channel → Bool) (cs : List Channel) → head (in_order (filter passes cs)) ≡ least passes None cs
head_ordered passes cs = ap head (sym (inserted_in_order (filter passes cs))) ∙ head_all passes [] cs

-- a scan goes on in a second list with what it has from the first
pub least_append : (passes : Channel → Bool) (best : Option Channel) (cs ds : List Channel) → least passes best (cs ++ ds) ≡ least passes (least passes best cs) ds
least_append passes best [] ds = refl
least_append passes best (c ∷ cs) ds = least_append passes (cond (passes c) (Some (or_sooner c best)) best) cs ds

-- the first of a list that is mapped, of two lists, and of a close that there may be before others
head_map : {A B : Type 0} (f : A → B) (xs : List A) → head (map f xs) ≡ option_map f (head xs)
head_map f [] = refl
head_map f (x ∷ xs) = refl

head_append : {A : Type 0} (xs ys : List A) → head (xs ++ ys) ≡ or_else (head xs) (head ys)
head_append [] ys = refl
head_append (x ∷ xs) ys = refl

head_close : (p : Path) (b : Bool) (es : List Event) → head (cond b (Close p ∷ []) [] ++ es) ≡ cond b (Some (Close p)) (head es)
head_close p true es = refl
head_close p false es = refl

-- of two that may be there the first one is taken where it is there, and else the second
or_first : {A : Type 0} (x y : Option A) → is_some x ≡ true → x ≡ or_else x y
or_first (Some x) y e = refl
or_first None y e = absurd cc

or_next : {A : Type 0} (x y : Option A) → is_some x ≡ false → or_else x y ≡ y
or_next (Some x) y e = absurd cc
or_next None y e = refl

module _ {S : Type 0} (o : Ops S) where
  -- a fork's close, or else the rendezvous of the least channel that it declared and on which it is ready
  head_here : (l : S) (ks : Nodes S) → head (here o (Forked l ks)) ≡ cond (all_done ks) (Some (Close (o.path l))) (option_map Meet (least (meets_here o (Forked l ks)) None (all_waited o ks)))
  head_here l ks =
      let passes = meets_here o (Forked l ks) in
      let cs = in_order (filter passes (all_waited o ks)) in
      head_close (o.path l) (all_done ks) (map Meet cs)
      ∙ ap (cond (all_done ks) (Some (Close (o.path l)))) (head_map Meet cs ∙ ap (option_map Meet) (head_ordered passes (all_waited o ks)))

  -- the same, where it is known whether all children are done
  head_chosen : (n : Node S) (l : S) (ks : Nodes S) (b : Bool) → n ≡ Forked l ks → all_done ks ≡ b → head (here o n) ≡ cond b (Some (Close (o.path l))) (option_map Meet (least (meets_here o (Forked l ks)) None (all_waited o ks)))
  head_chosen n l ks b e d =
      ap (λ z. head (here o z)) e
      ∙ (head_here l ks ∙ ap (λ z. cond z (Some (Close (o.path l))) (option_map Meet (least (meets_here o (Forked l ks)) None (all_waited o ks)))) d)

  -- what the search finds in either case
  pub closes_here : (n : Node S) (l : S) (ks : Nodes S) → n ≡ Forked l ks → all_done ks ≡ true → Some (Close (o.path l)) ≡ head (here o n)
  closes_here n l ks e d = sym (head_chosen n l ks true e d)

  pub met_here : (n : Node S) (l : S) (ks : Nodes S) (x : Option Channel) → n ≡ Forked l ks → all_done ks ≡ false → x ≡ least (meets_here o n) None (waited o n) → option_map Meet x ≡ head (here o n)
  met_here n l ks x e d h =
      ap (option_map Meet) h
      ∙ (ap (λ z. option_map Meet (least (meets_here o z) None (waited o z))) e ∙ sym (head_chosen n l ks false e d))

  -- the poison of a child on the least channel on which it is ready and doomed
  pub poisoned_first : (l : S) (all : Nodes S) (i : ℕ) (k : Node S) (x : Option Channel) → x ≡ least (poisons_here o l all i k) None (waited o k) → option_map (Poison (o.path (state k))) x ≡ head (poisons_of o l all i k)
  poisoned_first l all i k x h =
      let passes = poisons_here o l all i k in
      let event = Poison (o.path (state k)) in
      ap (option_map event) h
      ∙ sym (head_map event (in_order (filter passes (waited o k))) ∙ ap (option_map event) (head_ordered passes (waited o k)))

  -- first comes what a fork can do itself
  pub here_first : (n : Node S) (l : S) (ks : Nodes S) (x : Option Event) → n ≡ Forked l ks → x ≡ head (here o n) → is_some x ≡ true → x ≡ head (walk o n)
  here_first n l ks x e h s =
      let rest = head (walk_all o l ks 0 ks) in
      or_first x rest s
      ∙ (ap (λ z. or_else z rest) (h ∙ ap (λ z. head (here o z)) e)
      ∙ (sym (head_append (here o (Forked l ks)) (walk_all o l ks 0 ks)) ∙ ap (λ z. head (walk o z)) (sym e)))

  -- and where it can do nothing, what its children can
  pub here_next : (n : Node S) (l : S) (ks : Nodes S) (x : Option Event) → n ≡ Forked l ks → x ≡ head (here o n) → is_some x ≡ false → head (walk_all o l ks 0 ks) ≡ head (walk o n)
  here_next n l ks x e h s =
      let rest = head (walk_all o l ks 0 ks) in
      sym (ap (λ z. head (walk o z)) e
      ∙ (head_append (here o (Forked l ks)) (walk_all o l ks 0 ks)
      ∙ (ap (λ z. or_else z rest) (sym (h ∙ ap (λ z. head (here o z)) e)) ∙ or_next x rest s)))

  -- then comes each child, its poison before its walk
  module _ (l : S) (all : Nodes S) (i : ℕ) (k : Node S) (ks : Nodes S) (x y : Option Event) (poison : x ≡ head (poisons_of o l all i k)) where
    head_child : head (walk_all o l all i (node_and k ks)) ≡ or_else x (or_else (head (walk o k)) (head (walk_all o l all (i + 1) ks)))
    head_child =
        head_append (poisons_of o l all i k) (walk o k ++ walk_all o l all (i + 1) ks)
        ∙ (ap (or_else (head (poisons_of o l all i k))) (head_append (walk o k) (walk_all o l all (i + 1) ks))
        ∙ ap (λ z. or_else z (or_else (head (walk o k)) (head (walk_all o l all (i + 1) ks)))) (sym poison))

    pub poison_first : is_some x ≡ true → x ≡ head (walk_all o l all i (node_and k ks))
    poison_first s = or_first x (or_else (head (walk o k)) (head (walk_all o l all (i + 1) ks))) s ∙ sym head_child

    head_below : is_some x ≡ false → y ≡ head (walk o k) → head (walk_all o l all i (node_and k ks)) ≡ or_else y (head (walk_all o l all (i + 1) ks))
    head_below s e =
        head_child
        ∙ (or_next x (or_else (head (walk o k)) (head (walk_all o l all (i + 1) ks))) s ∙ ap (λ z. or_else z (head (walk_all o l all (i + 1) ks))) (sym e))

    pub child_first : is_some x ≡ false → y ≡ head (walk o k) → is_some y ≡ true → y ≡ head (walk_all o l all i (node_and k ks))
    child_first s e t = or_first y (head (walk_all o l all (i + 1) ks)) t ∙ sym (head_below s e)

    pub child_next : is_some x ≡ false → y ≡ head (walk o k) → is_some y ≡ false → head (walk_all o l all (i + 1) ks) ≡ head (walk_all o l all i (node_and k ks))
    child_next s e t = sym (head_below s e ∙ or_next y (head (walk_all o l all (i + 1) ks)) t)
