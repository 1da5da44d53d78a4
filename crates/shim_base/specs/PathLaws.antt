-- The laws of the equality and of the order of paths and channels.
use Rattle.std.proofs.Common.{◌≡◌, ℕ, refl, ap}
use Rattle.std.specs.Cmp.{IsPartialEquivalence, IsEquivalence, IsPartialOrder, IsTotalOrder, partial_equiv_from_equiv, partial_order_from_agreeing_total, on_equiv, and_equiv, on_total, then_total, nat_cmp_total, nat_eq_equiv, both_tied, unsigned_ties}
use Rattle.std.specs.Cmp.Lexicographic.{lists_equiv, lists_total, lists_ties}
use Rattle.std.specs.Prelude.{Some}
use Rattle.std.specs.Ordering.{nat_cmp, eq_by_cmp}
use Rattle.std.specs.FinMap.{IsAntisymmetric, slice_cmp-IsAntisymmetric}
use Rattle.std.proofs.lemmas.Map.Lookups.{exact_unsigned, exact_pairs}
use Rattle.shim_base.specs.Paths.{Path, Channel, NamedChannel, same_pair, same_path, same_channel, pair_order, path_order, channel_order}

-- the equality of pairs is an equivalence
same_pair_equivalence : IsEquivalence same_pair
same_pair_equivalence = and_equiv (on_equiv (λ (x : ℕ × ℕ). x.0) nat_eq_equiv) (on_equiv (λ (x : ℕ × ℕ). x.1) nat_eq_equiv)

-- so is that of paths
pub same_path_equivalence : IsEquivalence same_path
same_path_equivalence = lists_equiv same_pair_equivalence

-- and obeys the laws that a type with `==` needs
pub same_path_laws : IsPartialEquivalence same_path
same_path_laws = partial_equiv_from_equiv same_path_equivalence

-- the order of pairs is total
pair_order_total : IsTotalOrder pair_order
pair_order_total = then_total (on_total (λ (x : ℕ × ℕ). x.0) nat_cmp_total) (on_total (λ (x : ℕ × ℕ). x.1) nat_cmp_total)

-- so is that of paths
pub path_order_total : IsTotalOrder path_order
path_order_total = lists_total pair_order_total

-- two pairs are equal exactly if the order has neither first
same_pair_ties : (a b : ℕ × ℕ) → same_pair a b ≡ eq_by_cmp pair_order a b
same_pair_ties a b = both_tied _ _ (nat_cmp a.0 b.0) (nat_cmp a.1 b.1) (unsigned_ties a.0 b.0) (unsigned_ties a.1 b.1)

-- so are two paths
pub same_path_ties : (a b : Path) → same_path a b ≡ eq_by_cmp path_order a b
same_path_ties = lists_ties pair_order same_pair_ties

-- the order of channels is total
pub channel_order_total : IsTotalOrder channel_order
channel_order_total = then_total (on_total (λ (c : Channel). c.home) path_order_total) (on_total (λ (c : Channel). c.serial) nat_cmp_total)

-- two channels are equal exactly if the order has neither first
pub channel_ties : (a b : Channel) → same_channel a b ≡ eq_by_cmp channel_order a b
channel_ties a b = both_tied _ _ (path_order a.home b.home) (nat_cmp a.serial b.serial) (same_path_ties a.home b.home) (unsigned_ties a.serial b.serial)

-- so it is with channels that have a name, which does not count
pub named_order_total : IsTotalOrder (λ (a b : NamedChannel). channel_order a.channel b.channel)
named_order_total = on_total (λ (c : NamedChannel). c.channel) channel_order_total

-- and two of these are equal exactly if the order has neither first
pub same_channel_ties : (a b : NamedChannel) → same_channel a.channel b.channel ≡ eq_by_cmp (λ (x y : NamedChannel). channel_order x.channel y.channel) a b
same_channel_ties a b = channel_ties a.channel b.channel

-- the order of paths obeys the laws that a type with `<` needs
pub path_order_partial : IsPartialOrder same_path (λ a b. Some (path_order a b))
path_order_partial = partial_order_from_agreeing_total path_order path_order_total (λ x y. refl) same_path_ties

-- so does that of channels
pub channel_order_partial : IsPartialOrder (λ (a b : NamedChannel). same_channel a.channel b.channel) (λ a b. Some (channel_order a.channel b.channel))
channel_order_partial = partial_order_from_agreeing_total (λ (x y : NamedChannel). channel_order x.channel y.channel) named_order_total (λ x y. refl) same_channel_ties

-- the equality of channels is an equivalence
channel_equivalence : IsEquivalence same_channel
channel_equivalence = and_equiv (on_equiv (λ (c : Channel). c.home) same_path_equivalence) (on_equiv (λ (c : Channel). c.serial) nat_eq_equiv)

-- so is that of channels that have a name
pub same_channel_equivalence : IsEquivalence (λ (a b : NamedChannel). same_channel a.channel b.channel)
same_channel_equivalence = on_equiv (λ (c : NamedChannel). c.channel) channel_equivalence

-- and obeys the laws that a type with `==` needs
pub same_channel_laws : IsPartialEquivalence (λ (a b : NamedChannel). same_channel a.channel b.channel)
same_channel_laws = partial_equiv_from_equiv same_channel_equivalence

-- two pairs, two paths or two channels that the order compares as equal are the same
exact_pair : IsAntisymmetric pair_order
exact_pair = exact_pairs nat_cmp nat_cmp exact_unsigned exact_unsigned

pub exact_path : IsAntisymmetric path_order
exact_path = slice_cmp-IsAntisymmetric exact_pair

pub exact_channel : IsAntisymmetric channel_order
exact_channel a b e = ap (λ (p : Path × ℕ). record { home = p.0; serial = p.1 }) (exact_pairs path_order nat_cmp exact_path exact_unsigned (a.home, a.serial) (b.home, b.serial) e)
