-- The value of a channel's own variable at one process.
use Rattle.std.proofs.Common.{◌≡◌, ◌≤◌, ℕ, ℤ, pos, true, false, cond, Some, length, sym, ap, ◌∙◌, arith}
use Rattle.std.specs.Prelude.{slice_get}
use Rattle.std.proofs.lemmas.Option.{slice_get_within}
use Rattle.shim_base.specs.Paths.{Channel}
use Rattle.shim_base.proofs.Facts.{some_same}
use Rattle.shim_local.specs.Process.{Ops}
use Rattle.shim_laws_table_events.specs.keeping.Tables.{TableView}
use Rattle.shim_laws_table_events.specs.meetings.Plans.{ValueAt}

module _ {S : Type 0} (o : Ops S) (v : TableView S) (c : Channel) (i : ℕ) (x : ℤ) where
  pub none_past : length v.states ≤ i → ValueAt o v c i x
  none_past past s state = absurd (let w = slice_get_within v.states i s state in omega (arith, w, past))

  its_value : (l : S) → slice_get v.states i ≡ Some l → x ≡ cond (o.carries l c) (o.value l c) (pos 0) → ValueAt o v c i x
  its_value l is e s state = e ∙ ap (λ z. cond (o.carries z c) (o.value z c) (pos 0)) (some_same l s (sym is ∙ state))

  pub carries_not : (l : S) → slice_get v.states i ≡ Some l → false ≡ o.carries l c → x ≡ pos 0 → ValueAt o v c i x
  carries_not l is none e = its_value l is (e ∙ ap (λ b. cond b (o.value l c) (pos 0)) none)

  pub value_is : (l : S) → slice_get v.states i ≡ Some l → true ≡ o.carries l c → x ≡ o.value l c → ValueAt o v c i x
  value_is l is some e = its_value l is (e ∙ ap (λ b. cond b (o.value l c) (pos 0)) some)
