-- Where a reader stands after one terminal.
use Rattle.std.proofs.Common.{◌≡◌, ℕ, zero, suc, ◌+◌, List, [], ◌∷◌, drop, false, refl, ap, ◌∙◌, subst, add-one}
use Rattle.shim_syntax.specs.Terminals.{Terminal, first}
use Rattle.shim_syntax.specs.Grammar.{TextCounts}
use Rattle.shim_parser.specs.declared.token.Token.{Token}
use Rattle.shim_parser.specs.TokenView.{token_views}
use Rattle.shim_parser.specs.ReaderViews.{ReaderView, Proper, is_last}

pub record Stepped (s r : List Terminal) : Type 0 where
  pub is : s ≡ first s ∷ r
  pub proper : Proper r

one_off : (ts : List Token) → Proper (token_views ts) → is_last (first (token_views ts)) ≡ false → Stepped (token_views ts) (token_views (drop 1 ts))
one_off [] p h = absurd p
one_off (t ∷ []) p h = absurd (cc)
one_off (t ∷ u ∷ ts) p h = record { is = refl; proper = p.2 }

stepped : (ts : List Token) (n : ℕ) → Proper (token_views (drop n ts)) → is_last (first (token_views (drop n ts))) ≡ false → Stepped (token_views (drop n ts)) (token_views (drop (suc n) ts))
stepped ts zero p h = one_off ts p h
stepped [] (suc n) p h = absurd p
stepped (t ∷ ts) (suc n) p h = stepped ts n p h

pub step : (ts : List Token) (n : ℕ) → Proper (token_views (drop n ts)) → is_last (first (token_views (drop n ts))) ≡ false → Stepped (token_views (drop n ts)) (token_views (drop (n + 1) ts))
step ts n p h = rw (add-one n) (stepped ts n p h)

pub record Advanced (now : ReaderView) (rest : List Terminal) (counts : TextCounts) : Type 0 where
  pub is : now ≡ record { rest = first now.rest ∷ rest; counts = counts }
  pub proper : Proper rest

pub advanced : (ts : List Token) (n : ℕ) (counts : TextCounts) (now : ReaderView) → record { rest = token_views (drop n ts); counts = counts } ≡ now → Proper (token_views (drop n ts)) → is_last (first now.rest) ≡ false
    → Advanced now (token_views (drop (n + 1) ts)) counts
advanced ts n counts now e p h =
    let w = step ts n p (ap (λ (u : ReaderView). is_last (first u.rest)) e ∙ h) in
    subst (λ u. Advanced u (token_views (drop (n + 1) ts)) counts) e (record {
      is = ap (λ u. record { rest = u; counts = counts }) w.is;
      proper = w.proper;
    })
