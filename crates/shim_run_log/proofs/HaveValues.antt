-- That each channel which has an entry among the histories has a value.
use Rattle.std.specs.Prelude.{◌≡◌, ◌≢◌, ℕ, ℤ, Bool, true, false, Option, Some, None, List, [], ◌∷◌, ◌++◌, map, cond, Result, Ok, Err, OnOk, OnErr, IfSome, ◌↔◌, slice_get, slice_set, unwrap_or}
use Rattle.std.proofs.Common.{refl, sym, ap, subst, ◌∙◌}
use Rattle.std.specs.FinMap.{FinMap, get, from_entries, get-from_entries, get-insert}
use Rattle.std.specs.BTreeMap.{BTreeMap, is_at}
use Rattle.std.specs.Map.{lookup}
use Rattle.std.proofs.lemmas.Option.{none-some, same_Some}
use Rattle.std.proofs.lemmas.Result.{on_ok_weaker, on_err_weaker}
use Rattle.shim_local.specs.declared.History.{History}
use Rattle.shim_base.specs.Paths.{Channel, NamedChannel, channel_order}
use Rattle.shim_base.specs.PathLaws.{channel_order_total}
use Rattle.shim_semantics.specs.Trees.{Met, with_met, recorded}
use Rattle.shim_semantics.specs.Endings.{values_in}
use Rattle.shim_run_log.specs.Maps.{AllHaveValues, IsHistoryIndex, history_channel, histories_of, met_at, number_in}
use Rattle.shim_run_log.proofs.Numbered.{numbered_more, put_same, recorded_more}

last_there : (vs : List ℤ) (v : ℤ) → vs ++ v ∷ [] ≢ []
last_there [] v e = cc
last_there (w ∷ vs) v e = cc

-- where nothing has an entry
pub none_have : AllHaveValues (from_entries [])
none_have q h got = absurd (none-some h (sym (get-from_entries channel_order_total [] q) ∙ got))

pub none_kept : (numbers : BTreeMap NamedChannel ℕ) (kept : List History) → numbers.entries ≡ [] → kept ≡ [] → IsHistoryIndex numbers kept
none_kept numbers kept none empty = record {
  numbered = λ c i. (
    λ e. absurd (none-some i (sym (ap (lookup (is_at (λ (k : NamedChannel). channel_order c k.channel))) none) ∙ e)),
    λ e. absurd (none-some c (sym (ap (λ hs. history_channel hs i) empty) ∙ e)),
  );
  filled = subst (λ (es : List (NamedChannel × ℕ)). AllHaveValues (from_entries (map (λ e. (e.0.channel, met_at kept e.1)) es))) (sym none) none_have;
}

-- an entry that is put in has a value, and the others have theirs
put_has : (b : Bool) (new : Met) (x : Option Met) (h : Met) → new.values ≢ [] → (x ≡ Some h → h.values ≢ []) → cond b (Some new) x ≡ Some h → h.values ≢ []
put_has true new x h there others e = subst (λ (z : Met). z.values ≢ []) (same_Some new h e) there
put_has false new x h there others e = others e

with_value_has : (name : ℕ) (v : ℤ) (had : Option Met) → (with_met name v had).values ≢ []
with_value_has name v None e = last_there [] v e
with_value_has name v (Some h) e = last_there h.values v e

recorded_have : (m : FinMap channel_order Met) (c : Channel) (name : ℕ) (v : ℤ) → AllHaveValues m → AllHaveValues (recorded m c name v)
recorded_have m c name v all q h got =
    put_has _ (with_met name v (get m c)) (get m q) h (with_value_has name v (get m c)) (all q h) (sym (get-insert channel_order_total m c (with_met name v (get m c)) q) ∙ got)

-- a value is recorded, or nothing changes
pub first_have : {A E : Type 0} (r : Result A E) (m n : FinMap channel_order Met) (c : Channel) (name : ℕ) (v : ℤ) → AllHaveValues m → OnOk r (n ≡ recorded m c name v) → OnErr r (n ≡ m) → AllHaveValues n
first_have (Ok x) m n c name v all ok err = subst AllHaveValues (sym ok) (recorded_have m c name v all)
first_have (Err x) m n c name v all ok err = subst AllHaveValues (sym err) all

-- a history has one value more, or stays
pub more_kept : {A E : Type 0} (r : Result A E) (numbers : BTreeMap NamedChannel ℕ) (kept : List History) (c : Channel) (i : ℕ) (h : History) (new : List ℤ) (v : ℤ)
    → IsHistoryIndex numbers kept → number_in numbers c ≡ Some i → slice_get kept i ≡ Some h → OnOk r (new ≡ h.values ++ v ∷ []) → OnErr r (new ≡ h.values) → IsHistoryIndex numbers (slice_set kept i (record { chan = h.chan; values = new }))
more_kept r numbers kept c i h new v k at there ok err = record {
  numbered = numbered_more numbers kept k.numbered c i at h (record { chan = h.chan; values = new }) there refl;
  filled = first_have r (histories_of numbers kept) (histories_of numbers (slice_set kept i (record { chan = h.chan; values = new }))) c h.chan.name v k.filled
      (on_ok_weaker r (λ is. recorded_more numbers kept k.numbered c i at h (record { chan = h.chan; values = new }) there h.chan.name v (λ j. record { chan = h.chan; values = is j })) ok)
      (on_err_weaker r (λ is. ap (λ (vs : List ℤ). histories_of numbers (slice_set kept i (record { chan = h.chan; values = vs }))) is ∙ ap (histories_of numbers) (put_same kept i h there)) err);
}

-- What is found of a channel, where all have values.
module _ (m : FinMap channel_order Met) (c : Channel) (all : AllHaveValues m) where
  found_some : (x : Option Met) → get m c ≡ x → IfSome (values_in x) (λ values. values ≢ [])
  found_some None is = _
  found_some (Some h) is = all c h is

  found_none : (x : Option Met) → get m c ≡ x → (values_in x ≡ None) ↔ (unwrap_or (values_in x) [] ≡ [])
  found_none None is = (λ _. refl, λ _. refl)
  found_none (Some h) is = (λ e. absurd (none-some h.values (sym e)), λ e. absurd (all c h is e))

  pub some_has : (x : Option (List ℤ)) → x ≡ values_in (get m c) → IfSome x (λ values. values ≢ [])
  some_has x is = subst (λ z. IfSome z (λ values. values ≢ [])) (sym is) (found_some (get m c) refl)

  pub none_where_empty : (x : Option (List ℤ)) → x ≡ values_in (get m c) → (x ≡ None) ↔ (unwrap_or (values_in (get m c)) [] ≡ [])
  none_where_empty x is = subst (λ z. (z ≡ None) ↔ (unwrap_or (values_in (get m c)) [] ≡ [])) (sym is) (found_none (get m c) refl)
