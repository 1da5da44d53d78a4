-- Channels that are put in order one after another are the keys of a map.
use Rattle.std.proofs.Common.{◌≡◌, Bool, true, false, Option, Some, None, List, [], ◌∷◌, cond, map, refl, sym, ap, ◌∙◌}
use Rattle.std.specs.declared.cmp.Ordering.{Ordering}
use Rattle.std.specs.declared.cmp.Ordering.TheVariants.{Less, Equal, Greater}
use Rattle.std.specs.FinMap.{FinMap, find, put, get, keys, entries, empty, insert, from_entries, entries-insert, get-empty, get-insert, get-from_entries, same_map}
use Rattle.std.specs.FinMap.Entries.{by_order}
use Rattle.std.specs.Ordering.{eq_by_cmp}
use Rattle.shim_base.specs.Paths.{Channel, channel_order}
use Rattle.shim_base.specs.PathLaws.{channel_order_total, exact_channel}
use Rattle.shim_semantics.specs.Nodes.{or_else}
use Rattle.shim_semantics.specs.Walks.{as_key, in_order}
use Rattle.shim_semantics.proofs.Members.{none_ordered}
use Rattle.shim_tree.specs.Inserted.{put_before, inserted, all_inserted}

abbrev Keys : Type 0
Keys = FinMap channel_order (Unit {0})

firsts : List (Channel × Unit {0}) → List Channel
firsts es = map (λ e. e.0) es

key_before : (r : Ordering) (c : Channel) (e : Channel × Unit {0}) (es more : List (Channel × Unit {0})) (cs : List Channel) → firsts more ≡ cs
    → firsts (by_order r ((c, tt) ∷ e ∷ es) ((e.0, tt) ∷ es) (e ∷ more)) ≡ put_before r c e.0 (firsts es) cs
unfolding firsts
key_before Less c e es more cs h = refl
key_before Equal c e es more cs h = refl
key_before Greater c e es more cs h = ap (λ z. e.0 ∷ z) h

key_put : (c : Channel) (es : List (Channel × Unit {0})) → firsts (put channel_order c tt es) ≡ inserted c (firsts es)
unfolding firsts
key_put c [] = refl
key_put c (e ∷ es) = key_before (channel_order c e.0) c e es (put channel_order c tt es) (inserted c (firsts es)) (key_put c es)

key_inserted : (m : Keys) (c : Channel) → keys (insert m c tt) ≡ inserted c (keys m)
unfolding firsts
key_inserted m c = ap firsts (entries-insert channel_order_total m c tt) ∙ key_put c (entries m)

-- the map with these keys, too
with_keys : Keys → List Channel → Keys
with_keys m [] = m
with_keys m (c ∷ cs) = with_keys (insert m c tt) cs

all_keys : (m : Keys) (cs : List Channel) → keys (with_keys m cs) ≡ all_inserted (keys m) cs
unfolding with_keys
all_keys m [] = refl
all_keys m (c ∷ cs) = all_keys (insert m c tt) cs ∙ ap (λ z. all_inserted z cs) (key_inserted m c)

-- a key that is there twice
twice : (b : Bool) (x y : Option (Unit {0})) → or_else x (cond b (Some tt) y) ≡ or_else (cond b (Some tt) x) y
twice true None y = refl
twice true (Some x) y = refl
twice false x y = refl

got_keys : (m : Keys) (cs : List Channel) (q : Channel) → get (with_keys m cs) q ≡ or_else (find channel_order q (map as_key cs)) (get m q)
unfolding with_keys
got_keys m [] q = refl
got_keys m (c ∷ cs) q =
    got_keys (insert m c tt) cs q
    ∙ (ap (or_else (find channel_order q (map as_key cs))) (get-insert channel_order_total m c tt q)
    ∙ twice (eq_by_cmp channel_order q c) (find channel_order q (map as_key cs)) (get m q))

or_nothing : (x : Option (Unit {0})) → or_else x None ≡ x
or_nothing None = refl
or_nothing (Some x) = refl

pub inserted_in_order : (cs : List Channel) → all_inserted [] cs ≡ in_order cs
inserted_in_order cs =
    ap (λ z. all_inserted z cs) (sym none_ordered)
    ∙ (sym (all_keys empty cs)
    ∙ ap keys (same_map channel_order_total exact_channel (with_keys empty cs) (from_entries (map as_key cs))
    (λ q. got_keys empty cs q ∙ (ap (or_else (find channel_order q (map as_key cs))) (get-empty channel_order q) ∙ (or_nothing _ ∙ sym (get-from_entries channel_order_total (map as_key cs) q))))))
