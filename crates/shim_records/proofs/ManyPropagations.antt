-- The ways up of several channels, one after the other: each moves the counts of its own channel alone.
use Rattle.std.proofs.Common.{◌≡◌, ◌⊎◌, inl, inr, ℕ, zero, suc, Bool, true, false, Option, Some, List, [], ◌∷◌, map, refl, sym, ap, subst, ◌∙◌}
use Rattle.shim_base.specs.Paths.{Channel, same_channel}
use Rattle.shim_base.proofs.Facts.{some_same}
use Rattle.shim_base.proofs.SamePaths.{same_channel_is, same_channel_refl}
use Rattle.shim_local.specs.Process.{Ops}
use Rattle.shim_local.specs.Laws.{LocalLaws}
use Rattle.shim_semantics.proofs.HowMany.{clash}
use Rattle.shim_laws_table.specs.Agrees.{RecordView}
use Rattle.shim_laws_table.specs.Counts.{Tally, ChildStatus as Read, child_status}
use Rattle.shim_laws_table.specs.Tallied.{Tallied, HaveCounts}
use Rattle.shim_laws_table.specs.Updating.{UpdatedAbove}
use Rattle.shim_laws_table.proofs.Brought.{counts_follow}
use Rattle.shim_laws_table.proofs.Suffices.{given_suffice}
use Rattle.shim_records.specs.Members.{IsAmong}
use Rattle.shim_records.specs.Pairs.{child_status_of, counts_in, up_in, rest_of, record_view}
use Rattle.shim_records.specs.UpdatesAbove.{AllUpdatedAbove, none_left, one_more, UpdatesGiveCounts}
use Rattle.shim_records.specs.declared.record.Record.{Record}
use Rattle.shim_records.proofs.FullPropagation.{rest_ups}
use Rattle.shim_records.proofs.ReadOff.{same_views}

-- another channel than the first is among those after it
pub among_rest : (c d : Channel) (cs : List Channel) → same_channel d c ≡ false → IsAmong c (d ∷ cs) → IsAmong c cs
among_rest c d cs far (zero, e) = absurd (clash (same_channel d c) (ap (λ z. same_channel z c) (some_same d c e) ∙ same_channel_refl c) far)
among_rest c d cs far (suc i, e) = (i, e)

module _ (was is : Channel → Read) (n x : ℕ) where
  -- beside the pairs they say what they did
  pub rest_same : {cs : List Channel} {rs behind : List Record} → AllUpdatedAbove was is n x cs rs behind → map rest_of behind ≡ map rest_of rs
  rest_same (none_left rs) = refl
  rest_same (one_more c cs v u before between behind once w r way more) = rest_same more ∙ way.1.rest

  -- no counts of other channels have moved
  pub others : {cs : List Channel} {rs behind : List Record} (c : Channel) → AllUpdatedAbove was is n x cs rs behind → (IsAmong c cs → ⊥) → counts_in c behind ≡ counts_in c rs
  others c (none_left rs) out = refl
  others c (one_more d cs v u before between behind once w r way more) out =
      let far : same_channel d c ≡ false = on (same_channel d c) refl in
      others c more (λ g. out (suc g.0, g.1)) ∙ (λ t i. way.1.elsewhere c far i t)
    where
      on : (b : Bool) → same_channel d c ≡ b → same_channel d c ≡ false
      on true e = absurd (out (0, ap Some (same_channel_is d c e)))
      on false e = e

  -- those of one of the channels have moved once
  pub record Moved_by (c : Channel) (rs behind : List Record) : Type 0 where
    pub updated : UpdatedAbove (up_in rs) 4294967295 n (counts_in c rs) x (was c) (is c) (counts_in c behind)

  pub its_way : {cs : List Channel} {rs behind : List Record} (c : Channel) → AllUpdatedAbove was is n x cs rs behind → IsAmong c cs → Moved_by c rs behind
  its_way c (none_left rs) g = absurd (none_there g)
    where
      none_there : IsAmong c [] → ⊥
      none_there (i, e) = let z : ⊥ = cc in z
  its_way c (one_more d cs v u before between behind once w r way more) g = on (same_channel d c) refl (λ h. its_way c more h)
    where
      on : (b : Bool) → same_channel d c ≡ b → (IsAmong c cs → Moved_by c between behind) → Moved_by c before behind
      on true e ih =
          let same = same_channel_is d c e in
          let stay = others d more once in
          subst (λ z. Moved_by z before behind) same (record {
            updated = subst (λ z. UpdatedAbove (up_in before) 4294967295 n (counts_in d before) x (was d) (is d) z) (sym stay)
                (subst (λ z. UpdatedAbove (up_in before) 4294967295 n (counts_in d before) x z (is d) (counts_in d between)) w
                (subst (λ z. UpdatedAbove (up_in before) 4294967295 n (counts_in d before) x (child_status_of v) z (counts_in d between)) r way.0));
          })
      on false e ih =
          let later = ih (among_rest c d cs e g) in
          record {
            updated = subst (λ z. UpdatedAbove z 4294967295 n (counts_in c before) x (was c) (is c) (counts_in c behind)) (rest_ups before between way.1.rest)
                (subst (λ z. UpdatedAbove (up_in between) 4294967295 n z x (was c) (is c) (counts_in c behind)) (λ t i. way.1.elsewhere c e i t) later.updated);
          }

-- a channel is among others, or not
pub among_or_not : (c : Channel) (cs : List Channel) → IsAmong c cs ⊎ (IsAmong c cs → ⊥)
among_or_not c [] = inr none_there
  where
    none_there : IsAmong c [] → ⊥
    none_there (i, e) = let z : ⊥ = cc in z
among_or_not c (d ∷ cs) = on (same_channel d c) refl (among_or_not c cs)
  where
    on : (b : Bool) → same_channel d c ≡ b → IsAmong c cs ⊎ (IsAmong c cs → ⊥) → IsAmong c (d ∷ cs) ⊎ (IsAmong c (d ∷ cs) → ⊥)
    on true e h = inl (0, ap Some (same_channel_is d c e))
    on false e (inl g) = inl (suc g.0, g.1)
    on false e (inr out) = inr (λ g. out (among_rest c d cs e g))

pub updates_give_counts : {S : Type 0} (o : Ops S) → LocalLaws o → UpdatesGiveCounts o
updates_give_counts {S} o law rp states rs behind old new m a n x f s k cs sound shown linked few has rep acts far all share have way updated = (rest, each)
  where
    rest : map rest_of behind ≡ map rest_of rs
    rest = rest_same (λ z. child_status o z m) (λ z. child_status o z a.node) n x updated

    Both : List RecordView → Channel → (ℕ → Option Tally) → Type 0
    Both views c counts = Tallied o rp states views c counts new × HaveCounts o rp states views c counts new

    brought : (c : Channel) → Both (map record_view rs) c (counts_in c behind)
    brought c = elim (among_or_not c cs) [
      | inl g ↦
          (counts_follow o law).updated rp states (map record_view rs) (up_in rs) c old new m a.node 4294967295 n x f s k (child_status o c m) (child_status o c a.node) (counts_in c rs) (counts_in c behind)
          shown linked few has rep refl refl far (share c g) (have c) (way c) (its_way (λ z. child_status o z m) (λ z. child_status o z a.node) n x c updated g).updated
      | inr out ↦ subst (Both (map record_view rs) c) (sym (others (λ z. child_status o z m) (λ z. child_status o z a.node) n x c updated out)) (
        (given_suffice o law).counts rp states (map record_view rs) c old new m a x f s k (counts_in c rs) sound shown has rep acts (λ given shares. out (all c given shares)) (have c) (way c),
        have c,
      )
    ]

    each : (c : Channel) → Both (map record_view behind) c (counts_in c behind)
    each c = subst (λ z. Both z c (counts_in c behind)) (sym (same_views rs behind rest)) (brought c)
