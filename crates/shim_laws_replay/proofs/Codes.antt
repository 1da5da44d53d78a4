-- How the checker stores events and the entries of a journal.
use Rattle.std.specs.Prelude.{◌≡◌, ◌⊎◌, ℕ, refl}
use Rattle.std.specs.Coded.{Coded, coded×, coded_ℕ, coded⊎, code_by}
use mathlib.Core.Logic.{inl, inr}
use Rattle.shim_base.specs.Paths.{Path, Channel}
use Rattle.shim_semantics.specs.Trees.{Event, Own, Meet, Poison, Close, End}
use Rattle.shim_semantics.proofs.Codes.{path_code, channel_code}
use Rattle.shim_laws_replay.specs.Journals.{Entry, Quiet, Did}

abbrev Events : Type 0
Events = Path ⊎ (Channel ⊎ ((Path × Channel) ⊎ (Path ⊎ Path)))

abbrev event_parts : Event → Events
event_parts (Own p) = inl p
event_parts (Meet c) = inr (inl c)
event_parts (Poison p c) = inr (inr (inl (p, c)))
event_parts (Close p) = inr (inr (inr (inl p)))
event_parts (End p) = inr (inr (inr (inr p)))

abbrev event_from : Events → Event
event_from (inl p) = Own p
event_from (inr (inl c)) = Meet c
event_from (inr (inr (inl q))) = Poison q.0 q.1
event_from (inr (inr (inr (inl p)))) = Close p
event_from (inr (inr (inr (inr p)))) = End p

pub event_back : (e : Event) → event_from (event_parts e) ≡ e
event_back (Own p) = refl
event_back (Meet c) = refl
event_back (Poison p c) = refl
event_back (Close p) = refl
event_back (End p) = refl

abbrev pub event_code : Coded Event
event_code = code_by Events (coded⊎ path_code (coded⊎ channel_code (coded⊎ (coded× path_code channel_code) (coded⊎ path_code path_code)))) event_parts event_from event_back

abbrev entry_parts : Entry → (Path × ℕ) ⊎ Event
entry_parts (Quiet p n) = inl (p, n)
entry_parts (Did e) = inr e

abbrev entry_from : (Path × ℕ) ⊎ Event → Entry
entry_from (inl q) = Quiet q.0 q.1
entry_from (inr e) = Did e

pub entry_back : (j : Entry) → entry_from (entry_parts j) ≡ j
entry_back (Quiet p n) = refl
entry_back (Did e) = refl

abbrev pub entry_code : Coded Entry
entry_code = code_by ((Path × ℕ) ⊎ Event) (coded⊎ (coded× path_code coded_ℕ) event_code) entry_parts entry_from entry_back
