-- One more byte, and bounds. Assumes nothing.
use Prim.Native.Nat.{ℕ, ◌+◌, ◌≤◌, ◌<◌, min}
use native.Mathlib.Omega.{arith}
use native.Mathlib.Numerals.{add-one}
use mathlib.Core.Path.{◌≡◌, refl, sym, ◌∙◌, ap}
use mathlib.Core.Bool.{Bool, true, false, cond}
use mathlib.Core.List.{List, [], ◌∷◌, ◌++◌}
use lib.ListN.{length, take, get_or}
use native.Mathlib.Nat.{min-eq_left, min-eq_right, min-le_right}
use lib.Seq.{take-suc, take_all}
use lib.Dec.{eqb, leb}
use borrow.Author.Tests.{leb-true, leb-false}
use Rattle.positions.specs.Positions.{line_after, column_after, after, Stands}

after_more : (f : ℕ → ℕ → ℕ) (n : ℕ) (xs : List ℕ) (x : ℕ) → after f n (xs ++ (x ∷ [])) ≡ f (after f n xs) x
unfolding after
after_more f n [] x = refl
after_more f n (y ∷ ys) x = after_more f (f n y) ys x

-- what stood after i bytes stands, by f, after one more
next :
    (f : ℕ → ℕ → ℕ) (s : List ℕ) (i m : ℕ) → i < length s → m ≡ after f 0 (take i s) → f m
    (get_or s i 0) ≡ after f 0 (take (i + 1) s)
next f s i m h e =
    ap (λ (n : ℕ). f n (get_or s i 0)) e
    ∙ sym (after_more f 0 (take i s) (get_or s i 0))
    ∙ ap (after f 0) (sym (take-suc s i 0 h))
    ∙ ap (λ (n : ℕ). after f 0 (take n s)) (sym (add-one i))

line_small : (n x : ℕ) → line_after n x ≤ n + 1
line_small n x = bound (eqb x 10)
  where
    bound : (b : Bool) → cond b (n + 1) n ≤ n + 1
    bound true = omega arith
    bound false = omega arith

column_small : (n x : ℕ) → column_after n x ≤ n + 1
column_small n x = bound (eqb x 10)
  where
    bound : (b : Bool) → cond b 0 (n + 1) ≤ n + 1
    bound true = omega arith
    bound false = omega arith

-- a place beyond the text counts as its length
cut : (s : List ℕ) (place : ℕ) → take (min place (length s)) s ≡ take place s
cut s place = go (leb place (length s)) refl
  where
    go : (b : Bool) → leb place (length s) ≡ b → take (min place (length s)) s ≡ take place s
    go true e = let h : place ≤ length s = leb-true place (length s) e in rw (min-eq_left h) refl
    go false e = let h : length s ≤ place = omega (arith, leb-false place (length s) e) in rw (min-eq_right h) (take_all (length s) s (omega arith) ∙ sym (take_all place s h))

-- the lines and columns counted over the first i bytes, i at most `end`
pub record Reaches (s : List ℕ) (end i line column : ℕ) : Type 0 where
  pub before : i ≤ end
  pub inside : end ≤ length s
  pub lines : line ≡ after line_after 0 (take i s)
  pub columns : column ≡ after column_after 0 (take i s)
  pub few_lines : line ≤ i
  pub few_columns : column ≤ i

pub start : (s : List ℕ) (place end : ℕ) → end ≡ min place (length s) → Reaches s end 0 0 0
unfolding after
start s place end e = record {
  before = omega arith;
  inside = rw e (min-le_right place (length s));
  lines = refl;
  columns = refl;
  few_lines = omega arith;
  few_columns = omega arith;
}

pub more : (s : List ℕ) (end i l c l' c' : ℕ) → i < end → Reaches s end i l c → l' ≡ line_after l (get_or s i 0) → c' ≡ column_after c (get_or s i 0) → Reaches s end (i + 1) l' c'
more s end i l c l' c' h r e g = record {
  before = omega arith;
  inside = r.inside;
  lines = e ∙ next line_after s i l (omega arith) r.lines;
  columns = g ∙ next column_after s i c (omega arith) r.columns;
  few_lines = omega (arith, line_small l (get_or s i 0));
  few_columns = omega (arith, column_small c (get_or s i 0));
}

pub done : (s : List ℕ) (place end i l c : ℕ) → end ≡ min place (length s) → end ≤ i → Reaches s end i l c → Stands s place (l + 1) (c + 1)
done s place end i l c e h r = record { on_line = rw (r.lines, whole) refl; in_column = rw (r.columns, whole) refl }
  where
    whole : take i s ≡ take place s
    whole = let q : i ≡ end = omega arith in rw (q, e) (cut s place)
