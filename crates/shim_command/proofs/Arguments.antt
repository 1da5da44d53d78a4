-- What a built command's arguments are, by the defined ones: each is alone with its name, and has no rule on another one.
use Rattle.std.proofs.Common.{zero, suc, ◌≡◌, ◌∙◌, ◌<◌, ◌&&◌, ◌==◌, ap, ℕ, Bool, true, false, not, List, [], ◌∷◌, length, map, Option, Some, None, is_some, refl, sym, inl, inr, arith, codes}
use Rattle.std.specs.List.{slice_index_or}
use Rattle.std.specs.Str.{bytes_eq}
use Rattle.std.proofs.lemmas.List.{get_or-map, length-map}
use Rattle.std.proofs.lemmas.Bool.{ne_eqb}
use Rattle.clap.proofs.WalkLemmas.{both}
use Rattle.clap.specs.Facts.{args_of, groups_of}
use Rattle.clap.specs.Built.{IsAuto, IsPlain, NamesNoGroup}
use Rattle.clap.specs.Simple.{has_plain_fields}
use Rattle.clap.specs.Walk.{is_empty, is_free_arg, is_simple_arg}
use Rattle.clap.specs.Words.{App, Rule, Text, app_of, rule_of}
use Rattle.clap.specs.declared.builder.arg.Arg.{Arg}
use Rattle.clap.specs.declared.builder.command.Command.{Command}
use Rattle.clap.specs.declared.builder.command.Command.TheViews.{out-Command}
use Rattle.shim_command.specs.Command.{command_rules, positional, number_option, shim_app}

-- no rule has the name
none_named : List Rule → Text → Bool
none_named [] name = true
none_named (r ∷ rs) name = not (bytes_eq r.id name) && none_named rs name

-- no rule but the one at a place has the name
pub alone_named : List Rule → ℕ → Text → Bool
alone_named [] k name = true
alone_named (r ∷ rs) zero name = none_named rs name
alone_named (r ∷ rs) (suc k) name = not (bytes_eq r.id name) && alone_named rs k name

-- each rule is one of a simple command, and none is on another argument
all_plain : List Rule → Bool
all_plain [] = true
all_plain (r ∷ rs) = (r.is_simple && r.is_free) && all_plain rs

untrue : (b : Bool) → not b ≡ true → b ≡ false
untrue false h = refl
untrue true h = cc

none_at : (rs : List Rule) (name : Text) (j : ℕ) (d : Rule) → none_named rs name ≡ true → j < length rs
    → bytes_eq (slice_index_or rs j d).id name ≡ true → ⊥
unfolding none_named
none_at [] name j d none lt same = absurd (omega arith)
none_at (r ∷ rs) name zero d none lt same =
    let other : bytes_eq r.id name ≡ false = untrue (bytes_eq r.id name) (both (not (bytes_eq r.id name)) (none_named rs name) none).0 in
    cc
none_at (r ∷ rs) name (suc j) d none lt same =
    none_at rs name j d (both (not (bytes_eq r.id name)) (none_named rs name) none).1 (omega arith) same

alone_at : (rs : List Rule) (k : ℕ) (name : Text) (j : ℕ) (d : Rule) → alone_named rs k name ≡ true → j < length rs
    → bytes_eq (slice_index_or rs j d).id name ≡ true → j ≡ k
unfolding alone_named
alone_at [] k name j d alone lt same = absurd (omega arith)
alone_at (r ∷ rs) zero name zero d alone lt same = refl
alone_at (r ∷ rs) zero name (suc j) d alone lt same = absurd (none_at rs name j d alone (omega arith) same)
alone_at (r ∷ rs) (suc k) name zero d alone lt same =
    let other : bytes_eq r.id name ≡ false = untrue (bytes_eq r.id name) (both (not (bytes_eq r.id name)) (alone_named rs k name) alone).0 in
    cc
alone_at (r ∷ rs) (suc k) name (suc j) d alone lt same =
    ap suc (alone_at rs k name j d (both (not (bytes_eq r.id name)) (alone_named rs k name) alone).1 (omega arith) same)

plain_at : (rs : List Rule) (k : ℕ) (d : Rule) → all_plain rs ≡ true → k < length rs
    → ((slice_index_or rs k d).is_simple ≡ true) × ((slice_index_or rs k d).is_free ≡ true)
unfolding all_plain
plain_at [] k d all lt = absurd (omega arith)
plain_at (r ∷ rs) zero d all lt = both r.is_simple r.is_free (both (r.is_simple && r.is_free) (all_plain rs) all).0
plain_at (r ∷ rs) (suc k) d all lt = plain_at rs k d (both (r.is_simple && r.is_free) (all_plain rs) all).1 (omega arith)

arguments_are_plain : all_plain command_rules ≡ true
unfolding command_rules all_plain
arguments_are_plain = refl

-- a name that isn't the other one
pub differs : (name other : Text) → bytes_eq name other ≡ false → bytes_eq other other ≡ true → name ≡ other → ⊥
differs name other unequal same e = let bad : bytes_eq other other ≡ false = rw e at unequal in cc

absent : {X : Type 0} (o : Option X) → is_some o ≡ false → o ≡ None
absent None h = refl
absent (Some x) h = cc

empty : {X : Type 0} (xs : List X) → is_empty xs ≡ true → xs ≡ []
empty [] h = refl
empty (x ∷ xs) h =
    let no : (length (x ∷ xs) == 0) ≡ false = ne_eqb (length (x ∷ xs)) 0 (λ e. omega arith) in
    let bad : true ≡ false = sym h ∙ no in
    cc

-- a rule stands at a place among the arguments, and has a name of its own
pub record IsArgument (k : ℕ) (r : Rule) : Type 0 where
  pub rule : (d : Rule) → slice_index_or command_rules k d ≡ r
  pub below : k < length command_rules
  pub alone : alone_named command_rules k r.id ≡ true
  pub no_help : bytes_eq r.id (codes "help") ≡ false
  pub no_version : bytes_eq r.id (codes "version") ≡ false
  pub named : bytes_eq r.id [] ≡ false

pub file_is : IsArgument 1 (positional (codes "FILE"))
unfolding command_rules alone_named none_named
file_is = record { rule = λ d. refl; below = omega arith; alone = refl; no_help = refl; no_version = refl; named = refl }

pub workers_is : IsArgument 3 (number_option (codes "workers") 1 16)
unfolding command_rules alone_named none_named
workers_is = record { rule = λ d. refl; below = omega arith; alone = refl; no_help = refl; no_version = refl; named = refl }

pub budget_is : IsArgument 4 (number_option (codes "budget") 1 4000000)
unfolding command_rules alone_named none_named
budget_is = record { rule = λ d. refl; below = omega arith; alone = refl; no_help = refl; no_version = refl; named = refl }

pub quantum_is : IsArgument 5 (number_option (codes "quantum") 1 10000)
unfolding command_rules alone_named none_named
quantum_is = record { rule = λ d. refl; below = omega arith; alone = refl; no_help = refl; no_version = refl; named = refl }

pub size_is : IsArgument 6 (number_option (codes "size") 1 100000)
unfolding command_rules alone_named none_named
size_is = record { rule = λ d. refl; below = omega arith; alone = refl; no_help = refl; no_version = refl; named = refl }

module _ (old : Command) (is : app_of old ≡ shim_app) where
  rules_are : map rule_of (args_of old) ≡ command_rules
  unfolding shim_app
  rules_are = ap (λ (a : App). a.top.rules) is

  pub as_many : length (args_of old) ≡ length command_rules
  as_many = sym (length-map (args_of old) rule_of) ∙ ap length rules_are

  rule_at : (k : ℕ) (d : Arg) → k < length command_rules → rule_of (slice_index_or (args_of old) k d) ≡ slice_index_or command_rules k (rule_of d)
  rule_at k d lt = sym (get_or-map rule_of (args_of old) k d (rule_of d) (rw as_many lt)) ∙ ap (λ rs. slice_index_or rs k (rule_of d)) rules_are

  simple_at : (k : ℕ) (d : Arg) → k < length (args_of old) → is_simple_arg (slice_index_or (args_of old) k d) ≡ true
  simple_at k d lt =
      let below : k < length command_rules = rw as_many at lt in
      ap (λ (r : Rule). r.is_simple) (rule_at k d below) ∙ (plain_at command_rules k (rule_of d) arguments_are_plain below).0

  free_at : (k : ℕ) (d : Arg) → k < length (args_of old) → is_free_arg (slice_index_or (args_of old) k d) ≡ true
  free_at k d lt =
      let below : k < length command_rules = rw as_many at lt in
      ap (λ (r : Rule). r.is_free) (rule_at k d below) ∙ (plain_at command_rules k (rule_of d) arguments_are_plain below).1

  module _ (k : ℕ) (r : Rule) (own : IsArgument k r) where
    pub here : (d : Arg) → rule_of (slice_index_or (args_of old) k d) ≡ r
    here d = rule_at k d own.below ∙ own.rule (rule_of d)

    pub id_is : (d : Arg) → (slice_index_or (args_of old) k d).id.now ≡ r.id
    id_is d = ap (λ (r : Rule). r.id) (here d)

    pub unique : (d : Arg) (j : ℕ) (e : Arg) → j < length (args_of old)
        → bytes_eq (slice_index_or (args_of old) j e).id.now (slice_index_or (args_of old) k d).id.now ≡ true → j ≡ k
    unique d j e lt same =
        let below : j < length command_rules = rw as_many at lt in
        let its : (slice_index_or (args_of old) j e).id.now ≡ (slice_index_or command_rules j (rule_of e)).id = ap (λ (r : Rule). r.id) (rule_at j e below) in
        alone_at command_rules k r.id j (rule_of e) own.alone below (rw (its, id_is d) at same)

    pub no_auto : (d : Arg) → IsAuto (slice_index_or (args_of old) k d) → ⊥
    no_auto d (inl h) = differs r.id (codes "help") own.no_help refl (sym (id_is d) ∙ h)
    no_auto d (inr h) = differs r.id (codes "version") own.no_version refl (sym (id_is d) ∙ h)

    pub not_empty : (d : Arg) → (slice_index_or (args_of old) k d).id.now ≡ [] → ⊥
    not_empty d h = differs r.id [] own.named refl (sym (id_is d) ∙ h)

  plain : has_plain_fields (out-Command old) ≡ true
  unfolding shim_app
  plain = ap (λ (a : App). a.top.is_plain) is

  pub no_groups : groups_of old ≡ []
  no_groups = empty (groups_of old) (both _ _ plain).0

  pub no_globals : (out-Command old).has_globals ≡ false
  no_globals = untrue _ (both _ _ (both _ _ (both _ _ plain).1).1).0

  pub no_negates : (out-Command old).subcommand_negates_reqs ≡ false
  unfolding shim_app
  no_negates = ap (λ (a : App). a.top.subcommand_negates_reqs) is

  pub names_no_group : NamesNoGroup old
  names_no_group k d lt = empty _ (both _ _ (both _ _ (both _ _ (simple_at k d lt)).1).1).0

  pub no_delimiter : (k : ℕ) (d : Arg) → k < length (args_of old) → (slice_index_or (args_of old) k d).val_delim ≡ None
  no_delimiter k d lt =
      let a = slice_index_or (args_of old) k d in
      let rest = not (is_some a.terminator) && (not a.allow_hyphen_values && (not a.allow_negative_numbers
      && (not a.require_equals && (not a.last && not a.global)))) in
      let fourth = not (is_some a.val_delim) && rest in
      let third = is_empty a.groups.items && fourth in
      let second = is_empty a.default_vals_ifs.items && third in
      absent a.val_delim (untrue (is_some a.val_delim) (both (not (is_some a.val_delim)) rest (both (is_empty a.groups.items) fourth
      (both (is_empty a.default_vals_ifs.items) third (both (is_empty a.overrides.items) second (simple_at k d lt)).1).1).1).0)

  pub is_plain : IsPlain old
  is_plain = (
    (λ k d lt.
        let simple = simple_at k d lt in
        let free = free_at k d lt in
        (untrue _ (both _ _ free).0, empty _ (both _ _ (both _ _ free).1).0, empty _ (both _ _ simple).0, names_no_group k d lt)),
    no_groups,
  )
