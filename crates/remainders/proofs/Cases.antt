-- The remainder where a value is not finite. Assumes nothing.
use mathlib.Core.Path.{◌≡◌, refl}
use mathlib.Core.Bool.{true, false, true≢false, false≢true}
use lib.Dec.{T}
use lib.Ieee.{Float, nan, inf, fin, Format, binary64, is_nan, rem, of_bits, of_fields}
use Rattle.std.specs.Float.{float_is_finite, float_is_infinite}

pub nan_constant : of_bits binary64 9221120237041090560 ≡ nan
unfolding of_bits of_fields
nan_constant = refl

pub rem_of_infinite : (f : Format) (x y : Float) → float_is_finite x ≡ false → nan ≡ rem f x y
unfolding float_is_finite rem
rem_of_infinite f nan y h = refl
rem_of_infinite f (inf s) y h = refl
rem_of_infinite f (fin s m e) y h = absurd (true≢false h)

pub rem_by_nan : (f : Format) (x y : Float) → is_nan y ≡ true → nan ≡ rem f x y
unfolding is_nan rem
rem_by_nan f nan nan h = refl
rem_by_nan f (inf s) nan h = refl
rem_by_nan f (fin s m e) nan h = refl
rem_by_nan f x (inf t) h = absurd (false≢true h)
rem_by_nan f x (fin t n d) h = absurd (false≢true h)

pub rem_by_infinite : (f : Format) (x y : Float) → float_is_finite x ≡ true → float_is_infinite y ≡ true → x ≡ rem f x y
unfolding float_is_finite float_is_infinite rem
rem_by_infinite f (fin s m e) (inf t) h k = refl
rem_by_infinite f (fin s m e) nan h k = absurd (false≢true k)
rem_by_infinite f (fin s m e) (fin t n d) h k = absurd (false≢true k)
rem_by_infinite f nan y h k = absurd (false≢true h)
rem_by_infinite f (inf s) y h k = absurd (false≢true h)

pub finite_left : (y : Float) → is_nan y ≡ false → float_is_infinite y ≡ false → T (float_is_finite y)
unfolding is_nan float_is_infinite float_is_finite
finite_left nan h k = true≢false h
finite_left (inf t) h k = true≢false k
finite_left (fin t n d) h k = tt
