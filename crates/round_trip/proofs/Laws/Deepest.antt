-- No text of a tree nests less deep than its print. Assumes nothing.
use Rattle.std.specs.Prelude.{ℕ, ◌+◌, ◌≤◌, max, ◌≡◌, refl, Bool, true, false, cond, List, ltb}
use native.Mathlib.Omega.{arith}
use Rattle.std.proofs.Common.{ltb-true, ltb-false}
use Rattle.syntax.specs.Bounds.{max_level}
use Rattle.syntax.specs.Tree.{Expr, Ad}
use Rattle.syntax.specs.Token.{Token}
use Rattle.syntax.specs.Grammar.{binds_of, Reads, reads_literal, reads_own, reads_other, reads_parentheses, reads_unary, reads_binary, reads_conditional, reads_tighter, Defines, defines_one, defines_more, IsAd, ad_empty, ad_plain, ad_trailing}
use Rattle.syntax.specs.Print.{binds, wrap_level, level_of, ad_level}

-- parentheses are one level or none
pub wrap_le : (k b n : ℕ) → (n ≤ wrap_level k b n) × (wrap_level k b n ≤ n + 1)
wrap_le k b n = go (ltb b k)
  where
    go : (t : Bool) → (n ≤ cond t (n + 1) n) × (cond t (n + 1) n ≤ n + 1)
    go true = omega arith
    go false = omega arith

pub wrap_more : (k b n : ℕ) → wrap_level k b n ≤ wrap_level (k + 1) b n
wrap_more k b n = go (ltb b k) refl (ltb b (k + 1)) refl
  where
    go : (t : Bool) → ltb b k ≡ t → (u : Bool) → ltb b (k + 1) ≡ u → cond t (n + 1) n ≤ cond u (n + 1) n
    go true h true h' = omega arith
    go true h false h' = absurd (omega (arith, ltb-true b k h, ltb-false b (k + 1) h'))
    go false h true h' = omega arith
    go false h false h' = omega arith

pub wrap_same : (b n : ℕ) → wrap_level b b n ≡ n
wrap_same b n = go (ltb b b) refl
  where
    go : (t : Bool) → ltb b b ≡ t → cond t (n + 1) n ≡ n
    go true h = absurd (omega (arith, ltb-true b b h))
    go false h = refl

-- WHERE SOME TOKENS ARE AN EXPRESSION WITHIN LEVEL 64, SO ARE THOSE OF ITS PRINT
pub deepest : {b d : ℕ} {ts : List Token} {e : Expr} → Reads b d ts e → d ≤ max_level → d + wrap_level b (binds e) (level_of e) ≤ max_level
unfolding binds level_of
deepest reads_literal h = omega arith
deepest reads_own h = omega arith
deepest reads_other h = omega arith
deepest (reads_parentheses {d} {ts} {e} hd r) h = let x = deepest r (omega arith) in omega (arith, wrap_le 8 (binds e) (level_of e), wrap_le 0 (binds e) (level_of e))
deepest (reads_unary {d} {u} {ts} {e} hd r) h = let x = deepest r (omega arith) in omega arith
deepest (reads_binary {d} {j} {xs} {ys} {a} {b} r t) h =
    let x = deepest r h in
    let y = deepest t h in
    omega (arith, wrap_same (binds_of j) (max (wrap_level (binds_of j) (binds a) (level_of a)) (wrap_level (binds_of j + 1) (binds b) (level_of b))))
deepest (reads_conditional {d} {xs} {ys} {zs} {a} {b} {c} hd x y z) h =
    let i = deepest x h in
    let j = deepest y (omega arith) in
    let k = deepest z (omega arith) in
    omega (arith, wrap_le 0 (binds b) (level_of b), wrap_le 0 (binds c) (level_of c))
deepest (reads_tighter {b} {d} {ts} {e} hb r) h = let x = deepest r h in omega (arith, wrap_more b (binds e) (level_of e))

whole : {ts : List Token} {e : Expr} → Reads 0 0 ts e → level_of e ≤ max_level
whole {ts} {e} r = omega (arith, deepest r (omega arith), wrap_le 0 (binds e) (level_of e))

defines_shallow : {ts : List Token} {a : Ad} → Defines ts a → ad_level a ≤ max_level
unfolding ad_level
defines_shallow (defines_one r) = omega (arith, whole r)
defines_shallow (defines_more r d) = omega (arith, whole r, defines_shallow d)

-- the same of an ad
pub shallow_ad : {ts : List Token} {a : Ad} → IsAd ts a → ad_level a ≤ max_level
shallow_ad ad_empty = unfold ad_level in omega arith
shallow_ad (ad_plain d) = defines_shallow d
shallow_ad (ad_trailing d) = defines_shallow d
