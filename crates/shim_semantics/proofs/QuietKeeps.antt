-- A quiet step and the way to a handler keep a tree sound: who comes to share more shares channels of its own.
use Rattle.std.proofs.Common.{◌≡◌, true, false, inl, inr, refl}
use Rattle.shim_base.specs.Paths.{Channel}
use Rattle.shim_local.specs.Process.{Ops, AtQuiet}
use Rattle.shim_local.specs.Laws.{LocalLaws, Moved, Unwound, CarriesNoMore, by_quiet, by_unwind}
use Rattle.shim_semantics.specs.Nodes.{Live}
use Rattle.shim_semantics.proofs.HowMany.{clash, one_for_one, one_at_most}
use Rattle.shim_semantics.proofs.Follows.{KeepsOwn, follows_moved}
use Rattle.shim_base.proofs.Facts.{true_or_false}

module _ {S : Type 0} (o : Ops S) where
  -- the second state, made of the first by one call, shares and carries more only of its own, and holds no more
  record SharesMoreOwn (l m : S) : Type 0 where
    pub moved : Moved o l m
    pub adds : (c : Channel) → o.shares l c ≡ false → o.shares m c ≡ true → c.home ≡ o.path l
    pub carries : (c : Channel) → CarriesNoMore o l m c
    pub holds : o.holds_output m ≡ true → o.holds_output l ≡ true

  more_keeps : LocalLaws o → (l m : S) → o.sound l → SharesMoreOwn l m → KeepsOwn o (Live l) (Live m)
  more_keeps law l m s w = record {
    below = law.moved_sound l m s w.moved;
    follows = follows_moved o law l m s w.moved (λ c y. elim (true_or_false (o.shares l c)) [ inl z ↦ inl z | inr z ↦ inr (w.adds c z y) ]);
    carried = λ c. elim (true_or_false (o.carries m c)) [
      | inl y ↦ elim (w.carries c y) [
        | inl z ↦ inl (one_for_one (λ k. o.carries k c) l m (λ w. z))
        | inr z ↦ inr (one_at_most (λ k. o.carries k c) m, z.0, z.1)
      ]
      | inr n ↦ inl (one_for_one (λ k. o.carries k c) l m (λ w. clash (o.carries m c) w n))
    ];
    no_more_holders = one_for_one o.holds_output l m w.holds;
  }

  pub quiet_keeps : LocalLaws o → (l : S) → o.sound l → o.stop l ≡ AtQuiet → KeepsOwn o (Live l) (Live (o.quiet l))
  quiet_keeps law l s at =
      more_keeps law l (o.quiet l) s (record { moved = by_quiet at refl; adds = λ c n y. law.quiet_adds l c s at n y; carries = λ c. law.quiet_carries l c s at; holds = law.quiet_holds l s at })

  pub unwind_keeps : LocalLaws o → (l m : S) → o.sound l → Unwound o l m → KeepsOwn o (Live l) (Live m)
  unwind_keeps law l m s h =
      more_keeps law l m s (record { moved = by_unwind h; adds = λ c n y. law.unwind_adds l m c s h n y; carries = λ c. law.unwind_carries l m c s h; holds = law.unwind_holds l m s h })
