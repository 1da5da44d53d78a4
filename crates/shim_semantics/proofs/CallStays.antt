-- A put, a rendezvous's value and a throw that traps keep a tree sound: no process shares, carries or holds more.
use Rattle.std.proofs.Common.{◌≡◌, true, inl, inr, sym, ◌∙◌}
use Rattle.shim_base.specs.Paths.{Channel}
use Rattle.shim_local.specs.Process.{Ops}
use Rattle.shim_local.specs.Laws.{LocalLaws, Called, Moved, CarriesNoMore, by_call}
use Rattle.shim_semantics.specs.Nodes.{Live}
use Rattle.shim_semantics.proofs.HowMany.{clash, one_for_one}
use Rattle.shim_semantics.proofs.Follows.{Stays, follows_moved}

module _ {S : Type 0} (o : Ops S) where
  -- the second state, made of the first by one call, shares what that does, and carries and holds no more
  record SharesAlike (l m : S) : Type 0 where
    pub moved : Moved o l m
    pub shares : (c : Channel) → o.shares m c ≡ o.shares l c
    pub carries : (c : Channel) → CarriesNoMore o l m c
    pub holds : o.holds_output m ≡ true → o.holds_output l ≡ true

  carries_less : LocalLaws o → (l m : S) → o.sound l → SharesAlike l m → (c : Channel) → o.carries m c ≡ true → o.carries l c ≡ true
  carries_less law l m s w c y = elim (w.carries c y) [
    | inl z ↦ z
    | inr z ↦ clash (o.shares l c) (sym (w.shares c) ∙ law.carries_shares m c (law.moved_sound l m s w.moved) y) z.1
  ]

  alike_stays : LocalLaws o → (l m : S) → o.sound l → SharesAlike l m → Stays o (Live l) (Live m)
  alike_stays law l m s w = record {
    below = law.moved_sound l m s w.moved;
    follows = follows_moved o law l m s w.moved (λ c y. inl (sym (w.shares c) ∙ y));
    carried = λ c. one_for_one (λ k. o.carries k c) l m (carries_less law l m s w c);
    no_more_holders = one_for_one o.holds_output l m w.holds;
  }

  called_alike : LocalLaws o → (l m : S) → o.sound l → Called o l m → SharesAlike l m
  called_alike law l m s h = record { moved = by_call h; shares = λ c. law.call_shares l m c s h; carries = λ c. law.call_carries l m c s h; holds = law.call_holds l m s h }

  pub call_carries_less : LocalLaws o → (l m : S) → o.sound l → Called o l m → (c : Channel) → o.carries m c ≡ true → o.carries l c ≡ true
  call_carries_less law l m s h = carries_less law l m s (called_alike law l m s h)

  pub call_stays : LocalLaws o → (l m : S) → o.sound l → Called o l m → Stays o (Live l) (Live m)
  call_stays law l m s h = alike_stays law l m s (called_alike law l m s h)
