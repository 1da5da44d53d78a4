-- It is enough to ask those that were given a channel.
use Rattle.std.proofs.Common.{◌≡◌, ℕ, zero, suc, Bool, true, false, Some, None, List, [], ◌∷◌, ◌&&◌, cond, refl, ap, ◌∙◌}
use Rattle.std.specs.Prelude.{slice_get}
use Rattle.shim_base.specs.Paths.{Channel, NamedChannel, same_channel}
use Rattle.shim_base.proofs.Facts.{some_same, none_some, or_left, or_right}
use Rattle.shim_base.proofs.SamePaths.{same_channel_refl}
use Rattle.shim_local.specs.Laws.{LocalLaws, IsGiven}
use Rattle.shim_local.specs.Process.{Ops}
use Rattle.shim_semantics.specs.Nodes.{Node, Nodes, Live, Forked, Ended, Dead, no_node, node_and, state, or_else}
use Rattle.shim_semantics.specs.Places.{at, child_at}
use Rattle.shim_waits.specs.Holding.{holds_up, first_of, first_among}
use Rattle.shim_waits.specs.Numbers.{is_one_of, holds_given, AskingGivenSuffices}
use Rattle.shim_waits.proofs.Given.{holder_given}

-- tests that answer alike at each node find the same
module _ {S : Type 0} (f g : Node S → Bool) where
  one_same : (n : Node S) → f n ≡ g n → cond (f n) (Some n) None ≡ cond (g n) (Some n) None
  one_same n e = ap (λ b. cond b (Some n) None) e

  mutual
    first_same : (n : Node S) → ((q : List ℕ) (m : Node S) → at q n ≡ Some m → f m ≡ g m) → first_of f n ≡ first_of g n
    first_same (Live l) h = one_same (Live l) (h [] (Live l) refl)
    first_same (Ended l) h = one_same (Ended l) (h [] (Ended l) refl)
    first_same (Dead l d) h = one_same (Dead l d) (h [] (Dead l d) refl)
    first_same (Forked l ks) h =
        ap (λ b. cond b (Some (Forked l ks)) (first_among f ks)) (h [] (Forked l ks) refl)
        ∙ ap (cond (g (Forked l ks)) (Some (Forked l ks))) (first_same_in ks (λ i q m e. h (i ∷ q) m e))

    first_same_in : (ks : Nodes S) → ((i : ℕ) (q : List ℕ) (m : Node S) → child_at i q ks ≡ Some m → f m ≡ g m) → first_among f ks ≡ first_among g ks
    first_same_in no_node h = refl
    first_same_in (node_and k ks) h = λ j. or_else (first_same k (λ q m e. h zero q m e) j) (first_same_in ks (λ i q m e. h (suc i) q m e) j)

given_among : (c : Channel) (ds : List NamedChannel) (i : ℕ) (d : NamedChannel) → slice_get ds i ≡ Some d → d.channel ≡ c → is_one_of c ds ≡ true
given_among c [] i d e h = none_some d e
given_among c (x ∷ ds) zero d e h = or_left _ _ (ap (λ z. same_channel z.channel c) (some_same x d e) ∙ (ap (λ z. same_channel z c) h ∙ same_channel_refl c))
given_among c (x ∷ ds) (suc i) d e h = or_right (same_channel x.channel c) _ (given_among c ds i d e h)

both_or_none : (a b : Bool) → (b ≡ true → a ≡ true) → a && b ≡ b
both_or_none true b f = refl
both_or_none false true f = f refl
both_or_none false false f = refl

module _ {S : Type 0} (o : Ops S) where
  is_given : (c : Channel) (l : S) → IsGiven o l c → is_one_of c (o.given l) ≡ true
  is_given c l w = given_among c (o.given l) w.0 w.1 w.2 w.3

  pub given_suffice : LocalLaws o → AskingGivenSuffices o
  given_suffice law t l d s i stops = first_same (holds_given o d.channel) (holds_up o d.channel) t.root (λ q m there.
      both_or_none (is_one_of d.channel (o.given (state m))) (holds_up o d.channel m) (λ h. is_given d.channel (state m) (holder_given o law t l d m q s i stops there h)))
