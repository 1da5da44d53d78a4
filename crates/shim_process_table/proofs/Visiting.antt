-- A walk by what forks know of who shares a channel, block by block.
use Rattle.std.proofs.Common.{◌≡◌, ◌≤◌, ℕ, zero, suc, ◌+◌, ◌-◌, true, false, Option, Some, None, List, [], ◌∷◌, ◌++◌, get_or, length, refl, sym, ap, subst, ◌∙◌, arith}
use Rattle.std.specs.Prelude.{slice_get, Result, Ok, Err, OnOk}
use Rattle.std.specs.Option.{option_map}
use Rattle.std.proofs.lemmas.List.{append_assoc, append-nil}
use Rattle.std.proofs.lemmas.Option.{slice_get_within}
use Rattle.shim_base.specs.Paths.{Channel}
use Rattle.shim_base.proofs.Facts.{some_same, none_some}
use Rattle.shim_laws_table.specs.NodeStatus.{ProcessStatus, lives, forks}
use Rattle.shim_laws_table.specs.Agrees.{used}
use Rattle.shim_records.specs.Pairs.{tally, record_view, status_view, pair_index, known_of, known_for, known_at}
use Rattle.shim_records.specs.declared.pair.Pair.{Pair}
use Rattle.shim_records.specs.declared.pair.Sharing.{Sharing}
use Rattle.shim_records.specs.declared.record.Record.{Record}
use Rattle.shim_records.specs.declared.record.Status.{Status}
use Rattle.shim_records.specs.declared.record.Status.TheVariants as code
use Rattle.shim_records.proofs.Pairing.{put_there, no_place}
use Rattle.shim_records.proofs.Representing.{map_get}
use Rattle.shim_records.proofs.SharingFound.{known_pair, pair_known}
use Rattle.shim_laws_table_events.specs.keeping.Tables.{TableView, HasProcessState}
use Rattle.shim_laws_table_events.specs.meetings.Descents.{numbers_of_length}
use Rattle.shim_laws_table_events.specs.meetings.Plans.{children_between, Plans, at_end, passes, finds, goes_below, SourceChild}
use Rattle.shim_process_table.specs.Stepping.{IsLive}
use Rattle.shim_process_table.specs.Descent.{numbers_of_block, ahead_of}
use Rattle.shim_process_table.specs.Planning.{forked_into, KnowledgeAt, IsSourceOf, PlansOn}
use Rattle.shim_process_table.specs.declared.descent.Block.{Block}
use Rattle.shim_process_table.specs.declared.descent.Knowledge.{Knowledge}
use Rattle.shim_process_table.proofs.Finding.{put_last, first_number}

module _ {S : Type 0} (v : TableView S) (c : Channel) where
  past : {B : Type 0} (i f : ℕ) (s : S) (k : ProcessStatus) → length v.states ≤ i → HasProcessState v i f s k → B
  past i f s k far has = absurd (let w = slice_get_within v.states i s has.state_is in omega (arith, w, far))

  -- numbers past the end are passed by
  pass_all : (n f : ℕ) (ahead found : List ℕ) → length v.states ≤ f → Plans v c ahead found → Plans v c (numbers_of_length f n ++ ahead) found
  pass_all zero f ahead found far h = h
  pass_all (suc n) f ahead found far h =
      passes f (numbers_of_length (suc f) n ++ ahead) found (record { not_live = λ g s has. past f g s lives far has; unknown = λ g m s has. past f g s (forks m) far has })
      (pass_all n (suc f) ahead found (omega (arith, far)) h)

  -- ---- the ways out of a visit

  pub empty_block : (b : Block) (ahead found : List ℕ) → b.count ≡ 0 → PlansOn v c (numbers_of_block b ++ ahead) found ahead found
  empty_block b ahead found e more h = (more, subst (λ z. Plans v c (numbers_of_length b.first z ++ ahead) more) (sym e) h, refl)

  pub past_block : (b : Block) (ahead found : List ℕ) → length v.states ≤ b.first → PlansOn v c (numbers_of_block b ++ ahead) found ahead found
  past_block b ahead found far more h = (more, pass_all b.count b.first ahead more far h, refl)

  module _ (b : Block) (ahead between found : List ℕ) (some : 1 ≤ b.count) (e : between ≡ numbers_of_length (b.first + 1) (b.count - 1) ++ ahead) where
    abbrev rest : List ℕ
    rest = numbers_of_length (b.first + 1) (b.count - 1) ++ ahead

    as_block : (more : List ℕ) → Plans v c (b.first ∷ rest) more → Plans v c (numbers_of_block b ++ ahead) more
    as_block more h = subst (λ z. Plans v c (z ++ ahead) more) (sym (first_number b.first b.count some)) h

    pub passed_by : IsLive b.first v false → KnowledgeAt v c b.first None → PlansOn v c (numbers_of_block b ++ ahead) found between found
    passed_by not_live unknown more h = (more, as_block more (passes b.first rest more (record { not_live = not_live; unknown = unknown }) (subst (λ z. Plans v c z more) e h)), refl)

    pub found_alive : (now : List ℕ) → IsLive b.first v true → now ≡ found ++ b.first ∷ [] → PlansOn v c (numbers_of_block b ++ ahead) found between now
    found_alive now live is more h = (
      b.first ∷ more,
      as_block (b.first ∷ more) (finds b.first live.0 live.1 rest more live.2 (subst (λ z. Plans v c z more) e h)),
      sym (ap (λ z. z ++ more) is ∙ append_assoc found (b.first ∷ []) more),
    )

    pub goes_down : (w : Knowledge) (kids : Block) (behind : List ℕ) → KnowledgeAt v c b.first (Some w) → numbers_of_block kids ≡ children_between w.first w.sharing → behind ≡ numbers_of_length kids.first kids.count ++ between → PlansOn v c (numbers_of_block b ++ ahead) found behind found
    goes_down w kids behind knows are next more h = (
      more,
      as_block more (goes_below b.first w.first w.count knows.0 w.sharing rest more knows.1 knows.2
          (subst (λ z. Plans v c (z ++ rest) more) are (subst (λ z. Plans v c (numbers_of_block kids ++ z) more) e (subst (λ z. Plans v c z more) next h)))),
      refl,
    )

  -- ---- the loop

  -- what is found from here on, after what was found, is found from the start
  abbrev pub VisitedSoFar : ℕ → List ℕ → List Block → Type 0
  VisitedSoFar i found ahead = (more : List ℕ) → Plans v c (ahead_of ahead) more → Plans v c (i ∷ []) (found ++ more)

  pub begins : (i : ℕ) (found : List ℕ) (ahead : List Block) → found ≡ [] → ahead_of ahead ≡ numbers_of_length i 1 ++ [] → VisitedSoFar i found ahead
  begins i found ahead none e more h = subst (λ z. Plans v c (i ∷ []) (z ++ more)) (sym none) (subst (λ z. Plans v c z more) e h)

  pub goes_on : (i : ℕ) (found now : List ℕ) (ahead rest behind : List Block) (b : Block) → ahead ≡ rest ++ b ∷ [] → PlansOn v c (numbers_of_block b ++ ahead_of rest) found (ahead_of behind) now → VisitedSoFar i found ahead → VisitedSoFar i now behind
  goes_on i found now ahead rest behind b e leads so more h =
      let w = leads more h in
      subst (Plans v c (i ∷ [])) w.2 (so w.0 (subst (λ z. Plans v c z w.0) (sym (ap ahead_of e ∙ put_last rest b)) w.1))

  pub all_visited : (i : ℕ) (found : List ℕ) (ahead : List Block) → ahead ≡ [] → VisitedSoFar i found ahead → Plans v c (i ∷ []) found
  all_visited i found ahead none so = subst (Plans v c (i ∷ [])) (append-nil found) (so [] (subst (λ z. Plans v c (ahead_of z) []) (sym none) at_end))

  -- ---- what a fork knows

  fork_only : (f g n : ℕ) (k : Status) → status_view f k ≡ used g (forks n) → forked_into k ≡ Some n
  fork_only f g n code.Free e = absurd (let z : ⊥ = cc in z)
  fork_only f g n code.Live e = absurd (let z : ⊥ = cc in z)
  fork_only f g n (code.Forked m) e = ap Some (cc)
  fork_only f g n code.Ended e = absurd (let z : ⊥ = cc in z)
  fork_only f g n (code.Dead x) e = absurd (let z : ⊥ = cc in z)

  forked_view_is : (f n : ℕ) (k : Status) → forked_into k ≡ Some n → status_view f k ≡ used f (forks n)
  forked_view_is f n code.Free e = none_some n e
  forked_view_is f n code.Live e = none_some n e
  forked_view_is f n (code.Forked m) e = ap (λ z. used f (forks z)) (some_same m n e)
  forked_view_is f n code.Ended e = none_some n e
  forked_view_is f n (code.Dead x) e = none_some n e

  module _ (i : ℕ) where
    pub past_states : length v.states ≤ i → KnowledgeAt v c i None
    past_states far f n s has = past i f s (forks n) far has

    pub past_records : slice_get v.records i ≡ None → KnowledgeAt v c i None
    past_records none f n s has = ap (known_at c) none

    module _ (r : Record) (there : slice_get v.records i ≡ Some r) where
      pub no_fork : forked_into r.status ≡ None → KnowledgeAt v c i None
      no_fork none f n s has = none_some n (sym none ∙ fork_only r.first f n r.status (some_same (record_view r) (used f (forks n)) (sym (map_get record_view v.records i ∙ ap (option_map record_view) there) ∙ has.view_is)))

      pub nothing_known : known_for c (known_of r.pairs.items) ≡ None → KnowledgeAt v c i None
      nothing_known none f n s has = ap (known_at c) there ∙ none

      pub is_known : (s : S) (n : ℕ) (k : Sharing) → slice_get v.states i ≡ Some s → forked_into r.status ≡ Some n → known_for c (known_of r.pairs.items) ≡ Some k → KnowledgeAt v c i (Some (record { first = r.first; count = n; sharing = k }))
      is_known s n k state forked known = (
        s,
        record { state_is = state; view_is = map_get record_view v.records i ∙ (ap (option_map record_view) there ∙ ap Some (forked_view_is r.first n r.status forked)) },
        ap (known_at c) there ∙ known,
      )

    -- ---- and whom it takes for the source

    pub no_source : KnowledgeAt v c i None → SourceChild v c i None
    no_source none f n s k has knows = none_some k (sym (none f n s has) ∙ knows)

    one_count : (f g n m : ℕ) → Some (used f (forks n)) ≡ Some (used g (forks m)) → n ≡ m
    one_count f g n m e = cc

    behind_all : (w : Knowledge) → KnowledgeAt v c i (Some w) → w.count ≤ w.sharing.source → SourceChild v c i None
    behind_all w knows far f n s k has known =
        let same : w.sharing ≡ k = some_same w.sharing k (sym knows.2 ∙ known) in
        let many = one_count w.first f w.count n (sym knows.1.view_is ∙ has.view_is) in
        subst (λ z. z ≤ k.source) many (subst (λ z. w.count ≤ z.source) same far)

    pub source_is : (w : Knowledge) (j : Option ℕ) → KnowledgeAt v c i (Some w) → IsSourceOf w j → SourceChild v c i j
    source_is w None knows far = behind_all w knows far
    source_is w (Some j) knows is = (w.first, w.count, knows.0, w.sharing, knows.1, knows.2, is.0, is.1)

-- the pair in a place says what is known
pub known_by_place : (c : Channel) (ps : List Pair) (i : ℕ) (p : Pair) → pair_index c ps ≡ Some i → p ≡ get_or ps i p → Some p.sharing ≡ known_for c (known_of ps)
known_by_place c ps i p e g = sym (pair_known c ps p (put_there c ps i p p e g refl refl).found)

pub nothing_by_place : (c : Channel) (ps : List Pair) → pair_index c ps ≡ None → None ≡ known_for c (known_of ps)
nothing_by_place c ps e = on (known_for c (known_of ps)) refl
  where
    on : (x : Option Sharing) → known_for c (known_of ps) ≡ x → None ≡ known_for c (known_of ps)
    on None w = sym w
    on (Some k) w = let p = known_pair c ps k w in none_some (tally p.0) (sym (no_place c ps e) ∙ ap (option_map tally) p.1)

-- what holds in any case
pub whatever_comes : {T E : Type 0} (r : Result T E) (P : Type 0) → P → OnOk r P
whatever_comes (Ok x) P h = h
whatever_comes (Err e) P h = tt
