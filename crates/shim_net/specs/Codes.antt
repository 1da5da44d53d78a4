-- How the checker stores a net.
use Rattle.std.specs.Prelude.{ℕ, List, refl}
use Rattle.std.specs.Coded.{Coded, coded×, coded_ℕ, coded_list, code_by}
use Rattle.shim_semantics.specs.Trees.{Tree}
use Rattle.shim_semantics.proofs.Codes.{tree_code}
use Rattle.shim_laws_replay.specs.Journals.{Entry}
use Rattle.shim_laws_replay.proofs.Codes.{entry_code}
use Rattle.shim_net.specs.Nets.{OpenGrant, NetView}

-- a coding of open grants as nested pairs, from a coding of states
abbrev pub grant_code : {S : Type 0} → Coded S → Coded (OpenGrant S)
grant_code {S} s = code_by (ℕ × (ℕ × (ℕ × (ℕ × S)))) (coded× coded_ℕ (coded× coded_ℕ (coded× coded_ℕ (coded× coded_ℕ s))))
    (λ g. (g.pid, (g.slot, (g.round, (g.most, g.start)))))
    (λ p. record { pid = p.0; slot = p.1.0; round = p.1.1.0; most = p.1.1.1.0; start = p.1.1.1.1 }) (λ _. refl)

-- a coding of nets as nested pairs, from a coding of states
abbrev pub net_code : {S : Type 0} → Coded S → Coded (NetView S)
net_code {S} s = code_by (S × (ℕ × (Tree S × (List Entry × List (OpenGrant S))))) (coded× s (coded× coded_ℕ (coded× (tree_code s) (coded× (coded_list entry_code) (coded_list (grant_code s))))))
    (λ n. (n.root, (n.budget, (n.tree, (n.journal, n.grants)))))
    (λ p. record { root = p.0; budget = p.1.0; tree = p.1.1.0; journal = p.1.1.1.0; grants = p.1.1.1.1 }) (λ _. refl)
