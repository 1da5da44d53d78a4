-- A change of one place keeps what is at home.
use Rattle.std.proofs.Common.{◌≡◌, ◌≢◌, ℕ, ◌+◌, ◌<◌, List, length, set, get_or, refl, sym, ap, ◌∙◌, subst, ⊎_elim, arith, length-set, get_or-set_other, get_or-set_same, Some}
use mathlib.Core.Logic.{dite}
use mathlib.Core.Option.{none, some}
use mathlib.Core.Option as maybe
use native.Mathlib.Decide.{ℕ_discrete}
use lib.ListN.{get_elem?}
use Rattle.atomic_table.proofs.Lists.{at_set, set_here, set_else}
use Rattle.shim_board.specs.declared.view.View.{View}
use Rattle.shim_board.specs.declared.content.Content.{Content}
use Rattle.shim_board.specs.declared.content.Content.TheVariants.{Net}
use Rattle.shim_board.specs.Kept.{word_of, in_hand, SlotValue, SlotFits, in_hands, Table, ValuesKept}
use Rattle.shim_board.proofs.Totals.{total-set}
use lib.Seq.{set-get_or}

module _ {T N M : Type 0} (label : N → M) (board : M) (s : Table T N M) (h : ValuesKept label board s) (id : ℕ) (v w : View M) (k y : ℕ) (at : get_elem? s.views id ≡ some v) (inside : k + 1 < length s.homes) where
  pub placed : (hs : List (SlotValue T N)) → length hs ≡ length s.homes → ((j : ℕ) → j ≢ k + 1 → get_elem? hs j ≡ get_elem? s.homes j) → ((j : ℕ) → j ≢ k → in_hand j w.hand ≡ in_hand j v.hand)
      → SlotFits {T = T} {N = N} y (in_hands k (set s.views id w)) (get_elem? hs (k + 1)) → w.numbers ≡ v.numbers → w.name ≡ v.name
      → ValuesKept label board record { words = set s.words (k + 1) y; homes = hs; views = set s.views id w }
  placed hs long away others fits numbers name = record {
    one_each = length-set s.words (k + 1) y ∙ h.one_each ∙ sym long;
    slots = λ j l. dite (ℕ_discrete j k)
        (λ (e : j ≡ k). subst (λ (i : ℕ). SlotFits {T = T} {N = N} (word_of (set s.words (k + 1) y) i) (in_hands i (set s.views id w)) (get_elem? hs (i + 1))) (sym e)
        (subst (λ (x : ℕ). SlotFits {T = T} {N = N} x (in_hands k (set s.views id w)) (get_elem? hs (k + 1))) (sym (get_or-set_same s.words (k + 1) y 0 (let d = h.one_each in omega arith))) fits))
        (λ other. subst (λ (z : ℕ × ℕ). SlotFits {T = T} {N = N} z.0 z.1 (get_elem? hs (j + 1)))
        (λ i. (sym (get_or-set_other s.words (k + 1) (j + 1) y 0 (λ e. other (omega arith))) i, sym (same_hands j (others j other)) i))
        (subst (SlotFits {T = T} {N = N} (word_of s.words j) (in_hands j s.views)) (sym (away (j + 1) (λ e. other (omega arith)))) (h.slots j (omega arith))));
    net = λ e. let n = h.net (sym (get_or-set_other s.words (k + 1) 0 y 0 (λ z. omega arith)) ∙ e) in (n.0, away 0 (λ z. omega arith) ∙ n.1, n.2);
    net_out = λ e. away 0 (λ z. omega arith) ∙ h.net_out (sym (get_or-set_other s.words (k + 1) 0 y 0 (λ z. omega arith)) ∙ e);
    names = λ j u e sits. ⊎_elim
        (λ (t : (j ≡ id) × (w ≡ u)). subst (λ (a : View M). a.name ≡ Some board) t.1 (name ∙ h.names id v at (λ z. sits (ap (λ (a : View M). a.numbers) (sym t.1) ∙ numbers ∙ z))))
        (λ (t : (j ≢ id) × (get_elem? s.views j ≡ some u)). h.names j u t.1 sits)
        (at_set s.views id j w u e);
  }
    where
      same_hands : (j : ℕ) → in_hand j w.hand ≡ in_hand j v.hand → in_hands j (set s.views id w) ≡ in_hands j s.views
      same_hands j e = let t = total-set (λ (a : View M). in_hand j a.hand) s.views id v w at in omega arith

  -- the slots stay as they are
  pub stays : word_of s.words k ≡ y → w.hand ≡ v.hand → w.numbers ≡ v.numbers → w.name ≡ v.name → ValuesKept label board record { words = set s.words (k + 1) y; homes = s.homes; views = set s.views id w }
  stays is hand numbers name = placed s.homes refl (λ _ _. refl) (λ j _. ap (in_hand j) hand)
      (subst (λ (z : ℕ × ℕ). SlotFits {T = T} {N = N} z.0 z.1 (get_elem? s.homes (k + 1))) (λ i. (is i, sym hands_same i)) (h.slots k inside)) numbers name
    where
      hands_same : in_hands k (set s.views id w) ≡ in_hands k s.views
      hands_same = let t = total-set (λ (a : View M). in_hand k a.hand) s.views id v w at in let e : in_hand k w.hand ≡ in_hand k v.hand = ap (in_hand k) hand in omega arith

  -- the chair takes the slot, or gives it back
  pub sets : (z : maybe.Option (Content T N)) → ((j : ℕ) → j ≢ k → in_hand j w.hand ≡ in_hand j v.hand) → SlotFits {T = T} {N = N} y (in_hands k (set s.views id w)) (some z) → w.numbers ≡ v.numbers → w.name ≡ v.name
      → ValuesKept label board record { words = set s.words (k + 1) y; homes = set s.homes (k + 1) z; views = set s.views id w }
  sets z others fits numbers name = placed (set s.homes (k + 1) z) (length-set s.homes (k + 1) z) (λ j other. set_else s.homes (k + 1) j z other) others
      (subst (SlotFits {T = T} {N = N} y (in_hands k (set s.views id w))) (sym (set_here s.homes (k + 1) z inside)) fits) numbers name

-- the turn's word becomes y, and its slot has z or is out
module _ {T N M : Type 0} (label : N → M) (board : M) (s : Table T N M) (h : ValuesKept label board s) (id : ℕ) (v w : View M) (y : ℕ) (at : get_elem? s.views id ≡ some v) where
  pub turn_moves : (z : maybe.Option (Content T N)) → 0 < length s.homes → w.hand ≡ v.hand → w.numbers ≡ v.numbers → w.name ≡ v.name → (y ≡ 0 → (x : N) × (z ≡ some (Net x)) × (label x ≡ board)) → (y ≡ 1 → z ≡ none)
      → ValuesKept label board record { words = set s.words 0 y; homes = set s.homes 0 z; views = set s.views id w }
  turn_moves z wide hand numbers name net net_out = record {
    one_each = length-set s.words 0 y ∙ h.one_each ∙ sym (length-set s.homes 0 z);
    slots = λ j l. let long = length-set s.homes 0 z in subst (λ (a : ℕ × ℕ × maybe.Option (maybe.Option (Content T N))). SlotFits {T = T} {N = N} a.0 a.1 a.2)
        (λ i. (sym (get_or-set_other s.words 0 (j + 1) y 0 (λ e. omega arith)) i, sym (same_hands j) i, sym (set_else s.homes 0 (j + 1) z (λ e. omega arith)) i)) (h.slots j (omega arith));
    net = λ e. let n = net (sym (get_or-set_same s.words 0 y 0 (let d = h.one_each in omega arith)) ∙ e) in (n.0, set_here s.homes 0 z wide ∙ ap some n.1, n.2);
    net_out = λ e. set_here s.homes 0 z wide ∙ ap some (net_out (sym (get_or-set_same s.words 0 y 0 (let d = h.one_each in omega arith)) ∙ e));
    names = λ j u e sits. ⊎_elim
        (λ (t : (j ≡ id) × (w ≡ u)). subst (λ (a : View M). a.name ≡ Some board) t.1 (name ∙ h.names id v at (λ none_left. sits (ap (λ (a : View M). a.numbers) (sym t.1) ∙ numbers ∙ none_left))))
        (λ (t : (j ≢ id) × (get_elem? s.views j ≡ some u)). h.names j u t.1 sits)
        (at_set s.views id j w u e);
  }
    where
      same_hands : (j : ℕ) → in_hands j (set s.views id w) ≡ in_hands j s.views
      same_hands j = let t = total-set (λ (a : View M). in_hand j a.hand) s.views id v w at in let e : in_hand j w.hand ≡ in_hand j v.hand = ap (in_hand j) hand in omega arith

  -- the turn's word was read, and its place stays as it is
  pub turn_stays : w.hand ≡ v.hand → w.numbers ≡ v.numbers → w.name ≡ v.name → ValuesKept label board record { words = set s.words 0 (get_or s.words 0 0); homes = s.homes; views = set s.views id w }
  turn_stays hand numbers name = subst (λ (ws : List ℕ). ValuesKept label board record { words = ws; homes = s.homes; views = set s.views id w }) (sym (set-get_or s.words 0 0)) record {
    one_each = h.one_each;
    slots = λ j l. subst (λ (a : ℕ). SlotFits {T = T} {N = N} (word_of s.words j) a (get_elem? s.homes (j + 1))) (sym (same_hands j)) (h.slots j l);
    net = h.net;
    net_out = h.net_out;
    names = λ j u e sits. ⊎_elim
        (λ (t : (j ≡ id) × (w ≡ u)). subst (λ (a : View M). a.name ≡ Some board) t.1 (name ∙ h.names id v at (λ none_left. sits (ap (λ (a : View M). a.numbers) (sym t.1) ∙ numbers ∙ none_left))))
        (λ (t : (j ≢ id) × (get_elem? s.views j ≡ some u)). h.names j u t.1 sits)
        (at_set s.views id j w u e);
  }
    where
      same_hands : (j : ℕ) → in_hands j (set s.views id w) ≡ in_hands j s.views
      same_hands j = let t = total-set (λ (a : View M). in_hand j a.hand) s.views id v w at in let e : in_hand j w.hand ≡ in_hand j v.hand = ap (in_hand j) hand in omega arith
