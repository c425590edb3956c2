-- Integers in two's complement, over the width w. An Integer is carried as its code, a number below 2 ^ w. Assumes nothing.
use Rattle.std.specs.Prelude.{ℕ, suc, ◌-◌, ◌%◌, ◌^◌, Bool, cond, ℤ, pos, negsuc, ◌+ℤ◌, ◌-ℤ◌, ◌*ℤ◌, neg_ℤ, int_div, int_lt, int_rem, nat_lt}

-- 'wrap at 32 bits': the one place that says how wide an Integer is
abbrev pub width : ℕ
width = 32

-- the code of a whole number, modulo 2 ^ w
unfoldable pub wrap : ℕ → ℤ → ℕ
wrap w (pos n) = n % 2 ^ w
wrap w (negsuc n) = 2 ^ w - suc (n % 2 ^ w)

-- the whole number of a code: the upper half of the codes stands for the negative ones
unfoldable pub signed : ℕ → ℕ → ℤ
signed w n = cond (nat_lt n (2 ^ (w - 1))) (pos n) (negsuc (2 ^ w - suc n))

-- 'Integer `+ - *` and unary `-` wrap': each is the operation on the whole numbers, wrapped
abbrev pub wrapped_sum : ℕ → ℕ → ℕ → ℕ
wrapped_sum w a b = wrap w (signed w a +ℤ signed w b)

-- .. the same for `-`: 'Integer `+ - *` and unary `-` wrap'
abbrev pub wrapped_difference : ℕ → ℕ → ℕ → ℕ
wrapped_difference w a b = wrap w (signed w a -ℤ signed w b)

-- .. for `*`: 'Integer `+ - *` and unary `-` wrap'
abbrev pub wrapped_product : ℕ → ℕ → ℕ → ℕ
wrapped_product w a b = wrap w (signed w a *ℤ signed w b)

-- .. and for 'unary `-`'
abbrev pub wrapped_negation : ℕ → ℕ → ℕ
wrapped_negation w a = wrap w (neg_ℤ (signed w a))

-- '`/` truncates'; '-2147483648 / -1 is -2147483648'
abbrev pub truncated_quotient : ℕ → ℕ → ℕ → ℕ
truncated_quotient w a b = wrap w (int_div (signed w a) (signed w b))

-- '`%` takes the dividend's sign'
abbrev pub signed_remainder : ℕ → ℕ → ℕ → ℕ
signed_remainder w a b = wrap w (int_rem (signed w a) (signed w b))

-- the order of the whole numbers
abbrev pub less_than : ℕ → ℕ → ℕ → Bool
less_than w a b = int_lt (signed w a) (signed w b)
