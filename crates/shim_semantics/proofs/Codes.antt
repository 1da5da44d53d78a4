-- How the checker stores a tree: its nodes as a list of marks, from which they can be restored; and maps of channels.
use Rattle.std.specs.Prelude.{◌≡◌, ◌⊎◌, ℕ, ℤ, zero, suc, Option, None, List, [], ◌∷◌, refl}
use Rattle.std.proofs.Common.{sym, ap, ◌∙◌}
use Rattle.std.specs.Coded.{Coded, coded×, coded_ℕ, coded_ℤ, coded_list, coded_option, coded⊎, code_by}
use Rattle.std.specs.FinMap as finite
use base.Stored.{coded_via}
use mathlib.Core.Logic.{inl, inr}
use Rattle.shim_base.specs.declared.operators.Trap.{Trap}
use Rattle.shim_base.specs.declared.operators.Trap.TheVariants.{Overflow, Zero, Shift, Depth}
use Rattle.shim_local.specs.declared.LogWhat.{LogWhat}
use Rattle.shim_local.specs.declared.LogWhat.TheVariants.{Caught, Trap as LoggedTrap}
use Rattle.shim_semantics.specs.Nodes.{Node, Nodes, Live, Forked, Ended, Dead, no_node, node_and}
use Rattle.shim_base.specs.Paths.{Path, Channel, NamedChannel, path_order, channel_order}
use Rattle.shim_semantics.specs.Trees.{Tree, Met}

abbrev pub count_nodes : {S : Type 0} → Nodes S → ℕ
count_nodes no_node = zero
count_nodes (node_and k ks) = suc (count_nodes ks)

abbrev mutual
  pub marks : {S : Type 0} → Node S → List (ℕ × (ℕ × (Option ℤ × S))) → List (ℕ × (ℕ × (Option ℤ × S)))
  marks (Live l) r = (0, (0, (None, l))) ∷ r
  marks (Ended l) r = (1, (0, (None, l))) ∷ r
  marks (Dead l d) r = (2, (d.label, (d.given, l))) ∷ r
  marks (Forked l ks) r = (3, (count_nodes ks, (None, l))) ∷ all_marks ks r

  pub all_marks : {S : Type 0} → Nodes S → List (ℕ × (ℕ × (Option ℤ × S))) → List (ℕ × (ℕ × (Option ℤ × S)))
  all_marks no_node r = r
  all_marks (node_and k ks) r = marks k (all_marks ks r)

abbrev pub taken : {S : Type 0} → ℕ → List (Node S) → Nodes S
taken zero ns = no_node
taken (suc i) [] = no_node
taken (suc i) (n ∷ ns) = node_and n (taken i ns)

abbrev pub rest : {S : Type 0} → ℕ → List (Node S) → List (Node S)
rest zero ns = ns
rest (suc i) [] = []
rest (suc i) (n ∷ ns) = rest i ns

abbrev pub decode_one : {S : Type 0} → ℕ → ℕ → Option ℤ → S → List (Node S) → List (Node S)
decode_one zero x v l ns = Live l ∷ ns
decode_one (suc zero) x v l ns = Ended l ∷ ns
decode_one (suc (suc zero)) x v l ns = Dead l (record { label = x; given = v }) ∷ ns
decode_one (suc (suc (suc k))) x v l ns = Forked l (taken x ns) ∷ rest x ns

abbrev pub decode : {S : Type 0} → List (ℕ × (ℕ × (Option ℤ × S))) → List (Node S)
decode [] = []
decode (m ∷ ms) = decode_one m.0 m.1.0 m.1.1.0 m.1.1.1 (decode ms)

abbrev pub list_of : {S : Type 0} → Nodes S → List (Node S) → List (Node S)
list_of no_node r = r
list_of (node_and k ks) r = k ∷ list_of ks r

taken_all : {S : Type 0} (ks : Nodes S) (r : List (Node S)) → taken (count_nodes ks) (list_of ks r) ≡ ks
taken_all no_node r = refl
taken_all (node_and k ks) r = ap (node_and k) (taken_all ks r)

rest_all : {S : Type 0} (ks : Nodes S) (r : List (Node S)) → rest (count_nodes ks) (list_of ks r) ≡ r
rest_all no_node r = refl
rest_all (node_and k ks) r = rest_all ks r

mutual
  pub decode_marks : {S : Type 0} (n : Node S) (r : List (ℕ × (ℕ × (Option ℤ × S)))) → decode (marks n r) ≡ n ∷ decode r
  decode_marks (Live l) r = refl
  decode_marks (Ended l) r = refl
  decode_marks (Dead l d) r = refl
  decode_marks (Forked l ks) r =
      ap (λ z. Forked l (taken (count_nodes ks) z) ∷ rest (count_nodes ks) z) (decode_all_marks ks r)
      ∙ (λ i. Forked l (taken_all ks (decode r) i) ∷ rest_all ks (decode r) i)

  pub decode_all_marks : {S : Type 0} (ks : Nodes S) (r : List (ℕ × (ℕ × (Option ℤ × S)))) → decode (all_marks ks r) ≡ list_of ks (decode r)
  decode_all_marks no_node r = refl
  decode_all_marks (node_and k ks) r = decode_marks k (all_marks ks r) ∙ ap (λ z. k ∷ z) (decode_all_marks ks r)

one_of : {A : Type 0} (x y : A) → x ∷ [] ≡ y ∷ [] → x ≡ y
one_of x y e = cc

pub same_marks : {S : Type 0} (m n : Node S) → marks m [] ≡ marks n [] → m ≡ n
same_marks m n e = one_of m n (sym (decode_marks m []) ∙ (ap decode e ∙ decode_marks n []))

abbrev pub node_code : {S : Type 0} → Coded S → Coded (Node S)
node_code s = coded_via (coded_list (coded× coded_ℕ (coded× coded_ℕ (coded× (coded_option coded_ℤ) s)))) (λ n. marks n []) same_marks

abbrev pub path_code : Coded Path
path_code = coded_list (coded× coded_ℕ coded_ℕ)

abbrev pub channel_code : Coded Channel
channel_code = code_by (Path × ℕ) (coded× path_code coded_ℕ) (λ c. (c.home, c.serial)) (λ p. record { home = p.0; serial = p.1 }) (λ _. refl)

abbrev pub named_code : Coded NamedChannel
named_code = code_by (Channel × ℕ) (coded× channel_code coded_ℕ) (λ c. (c.channel, c.name)) (λ p. record { channel = p.0; name = p.1 }) (λ _. refl)

abbrev pub waits_code : Coded (finite.FinMap path_order NamedChannel)
waits_code = finite.code path_code named_code

abbrev pub met_code : Coded Met
met_code = code_by (ℕ × List ℤ) (coded× coded_ℕ (coded_list coded_ℤ)) (λ h. (h.name, h.values)) (λ p. record { name = p.0; values = p.1 }) (λ _. refl)

abbrev pub histories_code : Coded (finite.FinMap channel_order Met)
histories_code = finite.code channel_code met_code

abbrev pub counts_code : Coded (finite.FinMap path_order ℕ)
counts_code = finite.code path_code coded_ℕ

abbrev pub kind_number : Trap → ℕ
kind_number Overflow = 0
kind_number Zero = 1
kind_number Shift = 2
kind_number Depth = 3

abbrev pub kind_of_number : ℕ → Trap
kind_of_number zero = Overflow
kind_of_number (suc zero) = Zero
kind_of_number (suc (suc zero)) = Shift
kind_of_number (suc (suc (suc n))) = Depth

pub kind_back : (k : Trap) → kind_of_number (kind_number k) ≡ k
kind_back Overflow = refl
kind_back Zero = refl
kind_back Shift = refl
kind_back Depth = refl

abbrev pub log_numbers : LogWhat → (ℕ × ℕ) ⊎ (ℕ × ℕ)
log_numbers (Caught name line) = inl (name, line)
log_numbers (LoggedTrap kind line) = inr (kind_number kind, line)

abbrev pub log_of_numbers : (ℕ × ℕ) ⊎ (ℕ × ℕ) → LogWhat
log_of_numbers (inl p) = Caught p.0 p.1
log_of_numbers (inr p) = LoggedTrap (kind_of_number p.0) p.1

pub log_back : (w : LogWhat) → log_of_numbers (log_numbers w) ≡ w
log_back (Caught name line) = refl
log_back (LoggedTrap kind line) = ap (λ k. LoggedTrap k line) (kind_back kind)

abbrev pub log_code : Coded LogWhat
log_code = code_by ((ℕ × ℕ) ⊎ (ℕ × ℕ)) (coded⊎ (coded× coded_ℕ coded_ℕ) (coded× coded_ℕ coded_ℕ)) log_numbers log_of_numbers log_back

abbrev pub logs_code : Coded (finite.FinMap path_order (List LogWhat))
logs_code = finite.code path_code (coded_list log_code)

abbrev pub tree_code : {S : Type 0} → Coded S → Coded (Tree S)
tree_code {S} s = code_by (Node S × (List ℕ × (finite.FinMap channel_order Met × (finite.FinMap path_order (List LogWhat) × (finite.FinMap path_order ℕ × ℕ)))))
    (coded× (node_code s) (coded× (coded_list coded_ℕ) (coded× histories_code (coded× logs_code (coded× counts_code coded_ℕ)))))
    (λ t. (t.root, (t.output, (t.histories, (t.logs, (t.counts, t.events))))))
    (λ p. record { root = p.0; output = p.1.0; histories = p.1.1.0; logs = p.1.1.1.0; counts = p.1.1.1.1.0; events = p.1.1.1.1.1 }) (λ _. refl)
