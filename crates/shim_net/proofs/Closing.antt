-- A grant that closes, with the steps of its piece.
use Rattle.std.proofs.Common.{◌≡◌, ◌≤◌, ◌<◌, ◌+◌, ◌-◌, ℕ, zero, suc, Bool, false, Some, List, [], ◌∷◌, ◌++◌, length, refl, sym, ap, subst, ◌∙◌, arith}
use Rattle.std.specs.Prelude.{slice_index_or, map}
use Rattle.std.specs.List.{remove}
use Rattle.std.proofs.lemmas.List.{map_push}
use Rattle.shim_base.specs.Paths.{Path}
use Rattle.shim_base.proofs.Facts.{some_same}
use Rattle.shim_local.specs.Process.{Ops}
use Rattle.shim_local.specs.Quiets.{QuietSteps}
use Rattle.shim_local.specs.Pieces.{FewerWithCause}
use Rattle.shim_local.specs.Laws.{LocalLaws}
use Rattle.shim_semantics.specs.Trees.{Tree, steps}
use Rattle.shim_semantics.specs.Quiets.{ComesBy, Advances}
use Rattle.shim_laws_replay.specs.Journals as journals
use Rattle.shim_laws_replay.specs.Journals.{quiet_steps}
use Rattle.shim_laws_replay.proofs.Entries.{pieces_are_entries}
use Rattle.shim_run_log.specs.declared.entry.Entry.{Entry}
use Rattle.shim_run_log.specs.declared.entry.Entry.TheVariants as code
use Rattle.shim_net.specs.Entries.{entry_of}
use Rattle.shim_net.specs.Nets.{OpenGrant, NetView, IsNet, reserved_in}
use Rattle.shim_net.specs.Absorbing.{Closes, Redoes, with_piece}
use Rattle.shim_net.proofs.Keeping.{tree_sound, is_out, less_reserved, taken, taken_back}

pub with_more : (p : Path) (n : ℕ) (js : List journals.Entry) → 1 ≤ n → with_piece p n js ≡ js ++ journals.Quiet p n ∷ []
with_more p zero js h = absurd (omega (arith, h))
with_more p (suc n) js h = refl

-- one entry more of the code
pub entries_more : (js : List Entry) (p q : Path) (n : ℕ) (ks : List Entry) → p ≡ q → ks ≡ js ++ code.Quiet p n ∷ [] → map entry_of ks ≡ map entry_of js ++ journals.Quiet q n ∷ []
entries_more js p q n ks same e = ap (map entry_of) e ∙ (map_push entry_of js (code.Quiet p n) ∙ ap (λ z. map entry_of js ++ journals.Quiet z n ∷ []) same)

-- v is the net as the code holds it, and n as its contract names it
module _ {S : Type 0} (o : Ops S) (law : LocalLaws o) (v n : NetView S) (same : v ≡ n) (w : IsNet o v) (i used : ℕ) (last : S)
    (within : i < length n.grants) (ran : (d : OpenGrant S) → QuietSteps o used (slice_index_or n.grants i d).start last) (most : (d : OpenGrant S) → used ≤ (slice_index_or n.grants i d).most)
    (g : OpenGrant S) (its : g ≡ slice_index_or v.grants i g) where
  pub there : i < length v.grants
  there = subst (λ (z : NetView S). i < length z.grants) (sym same) within

  pub its_run : QuietSteps o used g.start last
  its_run = subst (λ (z : OpenGrant S). QuietSteps o used z.start last) (sym (its ∙ ap (λ (z : NetView S). slice_index_or z.grants i g) same)) (ran g)

  its_most : used ≤ g.most
  its_most = subst (λ (z : OpenGrant S). used ≤ z.most) (sym (its ∙ ap (λ (z : NetView S). slice_index_or z.grants i g) same)) (most g)

  both : ComesBy o v.tree used last × (o.path last ≡ o.path g.start)
  both = (pieces_are_entries o law).comes v.tree used g.start last (tree_sound o law v w) (is_out o law v w i g there its).grantable its_run

  -- the grants that are left
  module _ (gs : List (OpenGrant S)) (less : gs ≡ remove v.grants i) where
    pub reserves : g.most ≤ reserved_in v.grants
    reserves = omega (arith, less_reserved o law v w i g there its gs less)

    pub reserves_less : (reserves most : ℕ) → reserves ≡ reserved_in v.grants → most ≡ g.most → reserves - most ≡ reserved_in gs
    reserves_less reserves most e f = omega (arith, less_reserved o law v w i g there its gs less, e, f)

    pub fits : steps v.tree + used ≤ 4000000
    fits = omega (arith, less_reserved o law v w i g there its gs less, its_most, w.keeps.fits, w.most)

    -- what the steps make of the tree
    module _ (u : Tree S) (advances : Advances o (o.path g.start) used v.tree u) where
      its_advances : Advances o (o.path last) used v.tree u
      its_advances = subst (λ p. Advances o p used v.tree u) (sym both.1) advances

      -- with steps
      module _ (some : 1 ≤ used) (js : List journals.Entry) (more : js ≡ v.journal ++ journals.Quiet (o.path g.start) used ∷ []) where
        pub stays : IsNet o (record { root = v.root; budget = v.budget; tree = u; journal = js; grants = gs })
        stays = taken o law v w i g there its gs less used last u its_run some its_most its_advances js more

        pub closes : Closes o n (record { root = v.root; budget = v.budget; tree = u; journal = js; grants = gs }) i used
        closes = subst (λ (z : NetView S). Closes o z (record { root = v.root; budget = v.budget; tree = u; journal = js; grants = gs }) i used) same (record {
          grant = g;
          its = its;
          tree = subst (λ p. quiet_steps o p used v.tree ≡ Some u) both.1 ((pieces_are_entries o law).entry v.tree u used last (tree_sound o law v w) both.0 its_advances).entry;
          after_is = λ j. record { root = v.root; budget = v.budget; tree = u; journal = (more ∙ sym (with_more (o.path g.start) used v.journal some)) j; grants = less j };
        })

      -- without a step
      module _ (none : used ≡ 0) where
        back : v.tree ≡ u
        back = some_same v.tree u (subst (λ n. Advances o (o.path g.start) n v.tree u) none advances)

        pub stays_back : IsNet o (record { root = v.root; budget = v.budget; tree = u; journal = v.journal; grants = gs })
        stays_back = subst (λ t. IsNet o (record { root = v.root; budget = v.budget; tree = t; journal = v.journal; grants = gs })) back (taken_back o law v w i g there its gs less)

        pub closes_back : Closes o n (record { root = v.root; budget = v.budget; tree = u; journal = v.journal; grants = gs }) i used
        closes_back = subst (λ (z : NetView S). Closes o z (record { root = v.root; budget = v.budget; tree = u; journal = v.journal; grants = gs }) i used) same (record {
          grant = g;
          its = its;
          tree = ap (λ n. quiet_steps o (o.path g.start) n v.tree) none ∙ ap Some back;
          after_is = λ j. record { root = v.root; budget = v.budget; tree = u; journal = ap (λ n. with_piece (o.path g.start) n v.journal) (sym none) j; grants = less j };
        })

-- the piece of an open grant that was done again and isn't short has a step
pub redone : {S : Type 0} (o : Ops S) (law : LocalLaws o) (v v' : NetView S) → IsNet o v → (i : ℕ) → i < length v.grants → (used most : ℕ) (short : Bool) (start last : S) (c : Closes o v v' i used)
    → start ≡ c.grant.start → most ≡ c.grant.most → QuietSteps o used start last → used ≤ most → FewerWithCause o used most short last → short ≡ false → Redoes o v v'
redone o law v v' w i there used most short start last c same as_many ran few fewer whole =
    let out = is_out o law v w i c.grant there c.its in
    let ran' = subst (λ z. QuietSteps o used z last) same ran in
    let few' = subst (λ z. used ≤ z) as_many few in
    let fewer' = subst (λ z. FewerWithCause o used z false last) as_many (subst (λ z. FewerWithCause o used most z last) whole fewer) in
    record {
      place = i;
      there = there;
      used = used;
      closes = c;
      last = last;
      steps = ran';
      some = (pieces_are_entries o law).some c.grant.start last used c.grant.most false out.grantable.stop out.some ran' fewer' refl;
      most = few';
      fewer = fewer';
    }
