-- The wait of each live process, by who was kept, with the number of the one that it waits for.
use Rattle.std.proofs.Common.{◌≡◌, ℕ, ◌+◌, ◌<◌, Option, Some, None, List, [], ◌∷◌, ◌++◌, drop, get_or, length, map, refl, sym, ap, ◌∙◌, arith}
use Rattle.std.specs.Prelude.{slice_get}
use Rattle.std.specs.Option.{option_map}
use Rattle.std.specs.BTreeMap.{BTreeMap}
use Rattle.std.proofs.lemmas.List.{append-nil, append_assoc, drop_more, length-map, get_or-map}
use Rattle.std.proofs.lemmas.Option.{slice_get-map}
use Rattle.shim_base.specs.Paths.{NamedChannel}
use Rattle.shim_local.specs.Process.{Ops}
use Rattle.shim_semantics.specs.Nodes.{next_channel}
use Rattle.shim_waits.specs.Gathering.{holder_in, wait_to, wait_on, wait_by_holder, numbered_wait_at, numbered_wait}
use Rattle.shim_waits.specs.Waits.{present}
use Rattle.shim_waits.specs.declared.gathering.Holder.{Holder}
use Rattle.shim_waits.specs.declared.explained.Wait.{Wait}

-- of lent values
pub of_lent : {A B : Type 0} (f : A → B) (xs : List A) (i : ℕ) (x : A) → slice_get xs i ≡ Some x → slice_get (map f xs) i ≡ Some (f x)
of_lent f xs i x e = slice_get-map f xs i ∙ ap (option_map f) e

pub none_lent : {A B : Type 0} (f : A → B) (xs : List A) (i : ℕ) → slice_get xs i ≡ None → slice_get (map f xs) i ≡ None
none_lent f xs i e = slice_get-map f xs i ∙ ap (option_map f) e

module _ {S : Type 0} (o : Ops S) (ls : List S) (holders : BTreeMap NamedChannel Holder) (l : S) where
  pub stands_nowhere : next_channel (o.stop l) ≡ None → None ≡ numbered_wait o ls holders l
  stands_nowhere e = sym (ap (numbered_wait_at o ls holders l) e)

  pub nobody_there : (c : NamedChannel) (h : Holder) → next_channel (o.stop l) ≡ Some c → holder_in holders c.channel ≡ Some h → slice_get ls h.number ≡ None → None ≡ numbered_wait o ls holders l
  nobody_there c h e f k = sym (ap (numbered_wait_at o ls holders l) e ∙ (ap (wait_by_holder o ls l c) f ∙ ap (wait_on o l c h) k))

  pub its_wait : (c d : NamedChannel) (h : Holder) (b : S) → next_channel (o.stop l) ≡ Some c → holder_in holders c.channel ≡ Some h → slice_get ls h.number ≡ Some b → next_channel (o.stop b) ≡ Some d
      → numbered_wait o ls holders l ≡ Some (record { path = o.path l; chan = c; holder = h.path; by = o.path b; at = d }, h.number)
  its_wait c d h b e f k n = ap (numbered_wait_at o ls holders l) e ∙ (ap (wait_by_holder o ls l c) f ∙ (ap (wait_on o l c h) k ∙ ap (wait_to o l c h b) n))

  -- as the code copies it
  pub copied_wait : (c d : NamedChannel) (h : Holder) (b : S) (w : Wait) → next_channel (o.stop l) ≡ Some c → holder_in holders c.channel ≡ Some h → slice_get ls h.number ≡ Some b → next_channel (o.stop b) ≡ Some d
      → w.path ≡ o.path l → w.chan ≡ c → w.holder ≡ h.path → w.by ≡ o.path b → w.at ≡ d → Some (w, h.number) ≡ numbered_wait o ls holders l
  copied_wait c d h b w e f k n path chan holder by at = (λ i. Some (record { path = path i; chan = chan i; holder = holder i; by = by i; at = at i }, h.number)) ∙ sym (its_wait c d h b e f k n)

-- ---- what is there of each

both_present : {B : Type 0} (y : Option B) (ys : List (Option B)) → present (y ∷ []) ++ present ys ≡ present (y ∷ ys)
both_present None ys = refl
both_present (Some z) ys = refl

-- of lent values, those that are left after one
pub left_behind : {A B : Type 0} (v : A → B) (xs : List A) (i : ℕ) (x : A) → i < length xs → x ≡ get_or xs i x → drop i (map v xs) ≡ v x ∷ drop (i + 1) (map v xs)
left_behind v xs i x h is =
    drop_more (map v xs) i (v x) (let w = length-map xs v in omega (arith, h, w)) ∙ ap (λ z. z ∷ drop (i + 1) (map v xs)) (get_or-map v xs i x (v x) h ∙ ap v (sym is))

pub present_more : {A B C : Type 0} (v : A → B) (f : B → Option C) (xs : List A) (i : ℕ) (x : A) (done more all : List C) → i < length xs → x ≡ get_or xs i x → more ≡ done ++ present (f (v x) ∷ [])
    → done ++ present (map f (drop i (map v xs))) ≡ all → more ++ present (map f (drop (i + 1) (map v xs))) ≡ all
present_more v f xs i x done more all h is e rest =
    ap (λ z. z ++ present (map f (drop (i + 1) (map v xs)))) e
    ∙ (append_assoc done (present (f (v x) ∷ [])) (present (map f (drop (i + 1) (map v xs))))
    ∙ (ap (λ z. done ++ z) (both_present (f (v x)) (map f (drop (i + 1) (map v xs))))
    ∙ (ap (λ z. done ++ present (map f z)) (sym (left_behind v xs i x h is)) ∙ rest)))

-- one is there, or none
pub one_present : {B : Type 0} (x : Option B) (b : B) (done more : List B) → x ≡ Some b → more ≡ done ++ b ∷ [] → more ≡ done ++ present (x ∷ [])
one_present x b done more e is = is ∙ ap (λ z. done ++ present (z ∷ [])) (sym e)

pub none_present : {B : Type 0} (x : Option B) (done more : List B) → x ≡ None → more ≡ done → more ≡ done ++ present (x ∷ [])
none_present x done more e is = is ∙ (sym (append-nil done) ∙ ap (λ z. done ++ present (z ∷ [])) (sym e))
