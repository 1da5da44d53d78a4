-- A descent, block by block.
use Rattle.std.proofs.Common.{◌≡◌, ◌≤◌, ℕ, zero, suc, ◌+◌, ◌-◌, true, false, Some, None, List, [], ◌∷◌, ◌++◌, length, refl, sym, ap, subst, ◌∙◌, arith}
use Rattle.std.specs.Prelude.{slice_get}
use Rattle.std.specs.Option.{option_map}
use Rattle.std.proofs.lemmas.List.{append_assoc, append-nil}
use Rattle.std.proofs.lemmas.Option.{slice_get_within}
use Rattle.shim_base.specs.Paths.{Channel}
use Rattle.shim_base.proofs.Facts.{some_same, none_some}
use Rattle.shim_local.specs.Process.{Ops}
use Rattle.shim_laws_table.specs.NodeStatus.{ProcessStatus, lives, forks, ends, dies}
use Rattle.shim_laws_table.specs.Agrees.{used}
use Rattle.shim_records.specs.Members.{IsAmong}
use Rattle.shim_records.specs.Pairs.{record_view, status_view}
use Rattle.shim_records.specs.declared.record.Record.{Record}
use Rattle.shim_records.specs.declared.record.Status.{Status}
use Rattle.shim_records.specs.declared.record.Status.TheVariants as code
use Rattle.shim_records.proofs.Representing.{map_get}
use Rattle.shim_laws_table_events.specs.keeping.Tables.{TableView, HasProcessState}
use Rattle.shim_laws_table_events.specs.meetings.Sharers.{ListsSharers}
use Rattle.shim_laws_table_events.specs.meetings.Descents.{children, numbers_of_length, Descends, at_end, passes, finds}
use Rattle.shim_laws_table_events.proofs.meetings.Descents.{descents_find}
use Rattle.shim_process_table.specs.Lookups.{IsInUse, AreInUse}
use Rattle.shim_process_table.specs.Descent.{numbers_of_block, ahead_of, children_by, IsSharer, DescendsOn}
use Rattle.shim_process_table.specs.declared.descent.Block.{Block}

-- a block after the others comes before them
pub put_last : (bs : List Block) (b : Block) → ahead_of (bs ++ b ∷ []) ≡ numbers_of_block b ++ ahead_of bs
put_last [] b = sym (append-nil (numbers_of_block b))
put_last (x ∷ bs) b = ap (λ z. z ++ numbers_of_block x) (put_last bs b) ∙ append_assoc (numbers_of_block b) (ahead_of bs) (numbers_of_block x)

-- the first number of a block
pub first_number : (f n : ℕ) → 1 ≤ n → numbers_of_length f n ≡ f ∷ numbers_of_length (f + 1) (n - 1)
first_number f zero h = absurd (omega (arith, h))
first_number f (suc n) h = ap (λ z. f ∷ z) (rest (suc f) (f + 1) n (suc n - 1) (omega arith) (omega arith))
  where
    rest : (a b m k : ℕ) → a ≡ b → m ≡ k → numbers_of_length a m ≡ numbers_of_length b k
    rest a b m k e g = λ i. numbers_of_length (e i) (g i)

module _ {S : Type 0} (o : Ops S) (v : TableView S) (c : Channel) where
  none_past : {B : Type 0} (i f : ℕ) (s : S) (k : ProcessStatus) → length v.states ≤ i → HasProcessState v i f s k → B
  none_past i f s k past has = absurd (let w = slice_get_within v.states i s has.state_is in omega (arith, w, past))

  -- numbers past the end are passed by
  pass_all : (n f : ℕ) (ahead found : List ℕ) → length v.states ≤ f → Descends o v c ahead found → Descends o v c (numbers_of_length f n ++ ahead) found
  pass_all zero f ahead found past h = h
  pass_all (suc n) f ahead found past h = passes f (numbers_of_length (suc f) n ++ ahead) found (λ g s k has. none_past f g s k past has) (pass_all n (suc f) ahead found (omega (arith, past)) h)

  -- ---- the ways out of looking at a block

  pub empty_block : (b : Block) (ahead found : List ℕ) → b.count ≡ 0 → DescendsOn o v c (numbers_of_block b ++ ahead) found ahead found
  empty_block b ahead found e more h = (more, subst (λ z. Descends o v c (numbers_of_length b.first z ++ ahead) more) (sym e) h, refl)

  pub past_block : (b : Block) (ahead found : List ℕ) → length v.states ≤ b.first → DescendsOn o v c (numbers_of_block b ++ ahead) found ahead found
  past_block b ahead found past more h = (more, pass_all b.count b.first ahead more past h, refl)

  pub passed : (b : Block) (ahead between found : List ℕ) → 1 ≤ b.count → between ≡ numbers_of_length (b.first + 1) (b.count - 1) ++ ahead → IsSharer o v c b.first None → DescendsOn o v c (numbers_of_block b ++ ahead) found between found
  passed b ahead between found some e lacks more h = (
    more,
    subst (λ z. Descends o v c (z ++ ahead) more) (sym (first_number b.first b.count some))
        (passes b.first (numbers_of_length (b.first + 1) (b.count - 1) ++ ahead) more lacks (subst (λ z. Descends o v c z more) e h)),
    refl,
  )

  pub taken : (b kids : Block) (ahead between behind found now : List ℕ) → 1 ≤ b.count → between ≡ numbers_of_length (b.first + 1) (b.count - 1) ++ ahead → IsSharer o v c b.first (Some kids) → now ≡ found ++ b.first ∷ []
      → behind ≡ numbers_of_length kids.first kids.count ++ between → DescendsOn o v c (numbers_of_block b ++ ahead) found behind now
  taken b kids ahead between behind found now some e its is next more h =
      let rest : Descends o v c (numbers_of_length kids.first (children its.1) ++ (numbers_of_length (b.first + 1) (b.count - 1) ++ ahead)) more =
      subst (λ z. Descends o v c (numbers_of_length kids.first z ++ (numbers_of_length (b.first + 1) (b.count - 1) ++ ahead)) more) its.4 (subst (λ z. Descends o v c (numbers_of_length kids.first kids.count ++ z) more) e (subst (λ z. Descends o v c z more) next h)) in (
        b.first ∷ more,
        subst (λ z. Descends o v c (z ++ ahead) (b.first ∷ more)) (sym (first_number b.first b.count some))
            (finds b.first kids.first its.0 its.1 (numbers_of_length (b.first + 1) (b.count - 1) ++ ahead) more its.2 its.3 rest),
        sym (ap (λ z. z ++ more) is ∙ append_assoc found (b.first ∷ []) more),
      )

  -- ---- the loop

  -- what is found from here on, after what was found, is found from the start
  abbrev pub FoundSoFar : ℕ → List ℕ → List Block → Type 0
  FoundSoFar i found ahead = (more : List ℕ) → Descends o v c (ahead_of ahead) more → Descends o v c (i ∷ []) (found ++ more)

  pub begins : (i : ℕ) (found : List ℕ) (ahead : List Block) → found ≡ [] → ahead_of ahead ≡ numbers_of_length i 1 ++ [] → FoundSoFar i found ahead
  begins i found ahead none e more h = subst (λ z. Descends o v c (i ∷ []) (z ++ more)) (sym none) (subst (λ z. Descends o v c z more) e h)

  pub goes_on : (i : ℕ) (found now : List ℕ) (ahead rest behind : List Block) (b : Block) → ahead ≡ rest ++ b ∷ [] → DescendsOn o v c (numbers_of_block b ++ ahead_of rest) found (ahead_of behind) now → FoundSoFar i found ahead → FoundSoFar i now behind
  goes_on i found now ahead rest behind b e leads so more h =
      let w = leads more h in
      subst (Descends o v c (i ∷ [])) w.2 (so w.0 (subst (λ z. Descends o v c z w.0) (sym (ap ahead_of e ∙ put_last rest b)) w.1))

  all_found : (i : ℕ) (found : List ℕ) (ahead : List Block) → ahead ≡ [] → FoundSoFar i found ahead → Descends o v c (i ∷ []) found
  all_found i found ahead none so = subst (Descends o v c (i ∷ [])) (append-nil found) (so [] (subst (λ z. Descends o v c (ahead_of z) []) (sym none) at_end))

  pub all_looked : (i : ℕ) (found : List ℕ) (ahead : List Block) → ahead ≡ [] → FoundSoFar i found ahead → ListsSharers o v c i found
  all_looked i found ahead none so = descents_find o v c i found (all_found i found ahead none so)

  -- who was found is in use
  found_in_use : {ahead found : List ℕ} → Descends o v c ahead found → (j : ℕ) → IsAmong j found → IsInUse v j
  found_in_use at_end j g = none_some j g.1
  found_in_use (passes i ahead found out more) j g = found_in_use more j g
  found_in_use (finds i f s k ahead found has shares more) j (zero, e) = (f, s, k, subst (λ z. HasProcessState v z f s k) (some_same i j e) has)
  found_in_use (finds i f s k ahead found has shares more) j (suc at, e) = found_in_use more j (at, e)

  pub all_in_use : (i : ℕ) (found : List ℕ) (ahead : List Block) → ahead ≡ [] → FoundSoFar i found ahead → AreInUse v found
  all_in_use i found ahead none so = found_in_use (all_found i found ahead none so)

-- ---- the children of a process

children_are : (f : ℕ) (k : Status) (n : ℕ) → children_by k ≡ Some n → (x : ProcessStatus) × (status_view f k ≡ used f x) × (n ≡ children x)
children_are f code.Free n e = none_some n e
children_are f code.Live n e = (lives, refl, sym (some_same 0 n e))
children_are f (code.Forked m) n e = (forks m, refl, sym (some_same m n e))
children_are f code.Ended n e = (ends, refl, sym (some_same 0 n e))
children_are f (code.Dead x) n e = (dies x, refl, sym (some_same 0 n e))

not_used : {B : Type 0} (f g : ℕ) (k : Status) (x : ProcessStatus) → children_by k ≡ None → status_view f k ≡ used g x → B
not_used f g code.Free x e h = absurd (let z : ⊥ = cc in z)
not_used f g code.Live x e h = absurd (let z : ⊥ = cc in z)
not_used f g (code.Forked m) x e h = absurd (let z : ⊥ = cc in z)
not_used f g code.Ended x e h = absurd (let z : ⊥ = cc in z)
not_used f g (code.Dead y) x e h = absurd (let z : ⊥ = cc in z)

module _ {S : Type 0} (o : Ops S) (v : TableView S) (c : Channel) (i : ℕ) where
  pub past_states : length v.states ≤ i → IsSharer o v c i None
  past_states past f s k has = none_past o v c i f s k past has

  pub past_records : slice_get v.records i ≡ None → IsSharer o v c i None
  past_records none f s k has = none_some (used f k) (sym (map_get record_view v.records i ∙ ap (option_map record_view) none) ∙ has.view_is)

  pub is_free : (r : Record) → slice_get v.records i ≡ Some r → children_by r.status ≡ None → IsSharer o v c i None
  is_free r e none f s k has = not_used r.first f r.status k none (some_same (record_view r) (used f k) (sym (map_get record_view v.records i ∙ ap (option_map record_view) e) ∙ has.view_is))

  pub lacks : (s : S) → slice_get v.states i ≡ Some s → o.shares s c ≡ false → IsSharer o v c i None
  lacks s e no_share f t k has = ap (λ z. o.shares z c) (some_same t s (sym has.state_is ∙ e)) ∙ no_share

  pub shares_it : (r : Record) (s : S) (n : ℕ) → slice_get v.records i ≡ Some r → slice_get v.states i ≡ Some s → children_by r.status ≡ Some n → o.shares s c ≡ true → IsSharer o v c i (Some (record { first = r.first; count = n }))
  shares_it r s n e is kids shares =
      let w = children_are r.first r.status n kids in
      (s, w.0, record { state_is = is; view_is = map_get record_view v.records i ∙ (ap (option_map record_view) e ∙ ap Some w.1) }, shares, w.2)
