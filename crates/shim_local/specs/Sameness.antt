-- The tests of paths and channels decide whether they are the same.
use Rattle.std.specs.Prelude.{◌≡◌, ℕ}
use Rattle.std.specs.Bool.{Decides}
use Rattle.std.specs.Cmp.Lexicographic.{pointwise_decides}
use Rattle.std.proofs.Common.{ap}
use Rattle.std.proofs.lemmas.Bool.Decides.{Decides-eqb, Decides-and, Decides-like}
use Rattle.shim_base.specs.Paths.{Path, Channel, same_pair, same_path, same_channel}

pub pair_decides : (x y : ℕ × ℕ) → Decides (same_pair x y) (x ≡ y)
pair_decides x y = Decides-like (same_pair x y) (λ e. λ i. (e.0 i, e.1 i)) (λ e. (ap (λ z. z.0) e, ap (λ z. z.1) e))
    (Decides-and _ _ (Decides-eqb x.0 y.0) (Decides-eqb x.1 y.1))

pub path_decides : (p q : Path) → Decides (same_path p q) (p ≡ q)
path_decides p q = pointwise_decides pair_decides p q

pub channel_decides : (c d : Channel) → Decides (same_channel c d) (c ≡ d)
channel_decides c d = Decides-like (same_channel c d) (λ e. λ i. record { home = e.0 i; serial = e.1 i }) (λ e. (ap (λ z. z.home) e, ap (λ z. z.serial) e))
    (Decides-and _ _ (path_decides c.home d.home) (Decides-eqb c.serial d.serial))
