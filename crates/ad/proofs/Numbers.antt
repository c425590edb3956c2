-- Numbers that are no kind's. Assumes nothing.
use mathlib.Core.Path.{◌≡◌, refl, sym}
use mathlib.Core.Logic.{◌≢◌}
use Prim.Native.Nat.{ℕ, suc, ◌+◌, ◌-◌, ◌≤◌, ◌<◌}
use native.Mathlib.Omega.{arith}
use native.Mathlib.Decide.{dec_lt}
use Rattle.std.proofs.Common.{None}
use Rattle.std.proofs.lemmas.Option.{slice_get_past}
use Rattle.ad.specs.Stored.{kinds, kind_of}

-- what is none of 1 to 27 is no kind
pub no_kind : (k : ℕ) → ((((((((((((((((((((((((((Unit {0} × (k ≢ 1)) × (k ≢ 2)) × (k ≢ 3)) × (k ≢ 4)) × (k ≢ 5)) × (k ≢ 6)) × (k ≢ 7)) × (k ≢ 8)) × (k ≢ 9)) × (k ≢ 10)) × (k ≢ 11)) × (k ≢ 12)) × (k ≢ 13)) × (k ≢ 14)) × (k ≢ 15)) × (k ≢ 16)) × (k ≢ 17)) × (k ≢ 18)) × (k ≢ 19)) × (k ≢ 20)) × (k ≢ 21)) × (k ≢ 22)) × (k ≢ 23)) × (k ≢ 24)) × (k ≢ 25)) × (k ≢ 26)) × (k ≢ 27) → None ≡ kind_of k
unfolding kind_of
no_kind k h = go (dec_lt k 1)
  where
    up : (n : ℕ) → n ≤ k → k ≢ n → n + 1 ≤ k
    up n l d = omega arith

    past : (j : ℕ) → 27 ≤ j → None ≡ kind_of (suc j)
    past j l = sym (slice_get_past kinds j l)

    go : Dec (k < 1) → None ≡ kind_of k
    go (yes l) = let e : k ≡ 0 = omega arith in rw e refl
    go (no l) =
        let m : 1 ≤ k = omega arith in
        let above : 28 ≤ k = up 27 (up 26 (up 25 (up 24 (up 23 (up 22 (up 21 (up 20 (up 19 (up 18 (up 17 (up 16 (up 15 (up 14 (up 13 (up 12 (up 11 (up 10 (up 9 (up 8 (up 7 (up 6 (up 5 (up 4 (up 3 (up 2 (up 1 m h.0.0.0.0.0.0.0.0.0.0.0.0.0.0.0.0.0.0.0.0.0.0.0.0.0.0.1) h.0.0.0.0.0.0.0.0.0.0.0.0.0.0.0.0.0.0.0.0.0.0.0.0.0.1) h.0.0.0.0.0.0.0.0.0.0.0.0.0.0.0.0.0.0.0.0.0.0.0.0.1) h.0.0.0.0.0.0.0.0.0.0.0.0.0.0.0.0.0.0.0.0.0.0.0.1) h.0.0.0.0.0.0.0.0.0.0.0.0.0.0.0.0.0.0.0.0.0.0.1) h.0.0.0.0.0.0.0.0.0.0.0.0.0.0.0.0.0.0.0.0.0.1) h.0.0.0.0.0.0.0.0.0.0.0.0.0.0.0.0.0.0.0.0.1) h.0.0.0.0.0.0.0.0.0.0.0.0.0.0.0.0.0.0.0.1) h.0.0.0.0.0.0.0.0.0.0.0.0.0.0.0.0.0.0.1) h.0.0.0.0.0.0.0.0.0.0.0.0.0.0.0.0.0.1) h.0.0.0.0.0.0.0.0.0.0.0.0.0.0.0.0.1) h.0.0.0.0.0.0.0.0.0.0.0.0.0.0.0.1) h.0.0.0.0.0.0.0.0.0.0.0.0.0.0.1) h.0.0.0.0.0.0.0.0.0.0.0.0.0.1) h.0.0.0.0.0.0.0.0.0.0.0.0.1) h.0.0.0.0.0.0.0.0.0.0.0.1) h.0.0.0.0.0.0.0.0.0.0.1) h.0.0.0.0.0.0.0.0.0.1) h.0.0.0.0.0.0.0.0.1) h.0.0.0.0.0.0.0.1) h.0.0.0.0.0.0.1) h.0.0.0.0.0.1) h.0.0.0.0.1) h.0.0.0.1) h.0.0.1) h.0.1) h.1 in
        let e : k ≡ suc (k - 1) = omega arith in
        rw e (past (k - 1) (omega arith))
