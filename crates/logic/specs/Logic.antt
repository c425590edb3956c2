-- The logical operators, by document 01's tables. Assumes nothing.
use Rattle.std.specs.Prelude.{true, false, cond}
use Rattle.values.specs.declared.Value.{Value}
use Rattle.values.specs.declared.Value.TheVariants.{Undefined, Error, Boolean}
use Rattle.logic.specs.declared.Truth.{Truth}
use Rattle.logic.specs.declared.Truth.TheVariants.{F, U, T, O}
use Rattle.values.specs.Values.{kinds}

-- 'Tables (F, U, T, and O for anything else)'
abbrev pub truth_of : Value → Truth
truth_of = kinds U O (λ b. cond b T F) (λ i. O) (λ r. O) (λ side offset length. O)

-- what stands in a row under F, U, T and O: 'Tables (F, U, T, and O for anything else)'
abbrev pub row : Value → Value → Value → Value → Truth → Value
row f u t o F = f
row f u t o U = u
row f u t o T = t
row f u t o O = o

-- '`&&`: F row F F F F; U row F U U E; T row F U T E; O row E E E E.'
abbrev pub and_table : Truth → Truth → Value
and_table F = row (Boolean false) (Boolean false) (Boolean false) (Boolean false)
and_table U = row (Boolean false) Undefined Undefined Error
and_table T = row (Boolean false) Undefined (Boolean true) Error
and_table O = row Error Error Error Error

-- '`||`: F row F U T E; U row U U T E; T row T T T T; O row E E E E.'
abbrev pub or_table : Truth → Truth → Value
or_table F = row (Boolean false) Undefined (Boolean true) Error
or_table U = row Undefined Undefined (Boolean true) Error
or_table T = row (Boolean true) (Boolean true) (Boolean true) (Boolean true)
or_table O = row Error Error Error Error

-- `&&` of two values, by its table: 'Tables (F, U, T, and O for anything else). `&&`: ..'
abbrev pub and_value : Value → Value → Value
and_value a b = and_table (truth_of a) (truth_of b)

-- `||` of two values, by its table: 'Tables (F, U, T, and O for anything else). .. `||`: ..'
abbrev pub or_value : Value → Value → Value
or_value a b = or_table (truth_of a) (truth_of b)

-- '`!`: T, U, F, E.'
abbrev pub not_value : Value → Value
not_value a = row (Boolean true) Undefined (Boolean false) Error (truth_of a)

-- '`?:`: F third operand, U Undefined, T second, O Error.'
abbrev pub conditional_value : Value → Value → Value → Value
conditional_value p a b = row b Undefined a Error (truth_of p)
