-- The reasons of a refusal by their numbers: 'A refusal carries its number and a place'. Assumes nothing.
use Rattle.std.specs.Prelude.{ℕ, ◌-◌, List, [], ◌∷◌, get_or}
use Rattle.syntax.specs.declared.Reason.{Reason}
use Rattle.syntax.specs.declared.Reason.TheVariants.{MemoryTooSmall, TextTooLong, NoToken, Misfit, NumberTooLarge, NestedTooDeep, TokenTooLong, DefinedTwice, TooMany, NotWellFormed, PrintTooLong, TooManyLines}
use Rattle.syntax.specs.declared.Refusal.{Refusal}

-- 'A refusal carries its number': the numbers of documents 01 and 02
abbrev pub number_of : Reason → ℕ
number_of MemoryTooSmall = 1
number_of TextTooLong = 2
number_of NoToken = 3
number_of Misfit = 4
number_of NumberTooLarge = 5
number_of NestedTooDeep = 6
number_of TokenTooLong = 7
number_of DefinedTwice = 8
number_of TooMany = 9
number_of NotWellFormed = 10
number_of PrintTooLong = 11
number_of TooManyLines = 16

-- the reasons in the order of their numbers, up to 11
abbrev pub reasons : List Reason
reasons = MemoryTooSmall ∷ TextTooLong ∷ NoToken ∷ Misfit ∷ NumberTooLarge ∷ NestedTooDeep ∷ TokenTooLong ∷ DefinedTwice ∷ TooMany ∷ NotWellFormed ∷ PrintTooLong ∷ []

-- the refusal with the number k and the place p: 'A refusal carries its number and a place'
abbrev pub refusal : ℕ → ℕ → Refusal
refusal k p = record { reason = get_or reasons (k - 1) TooManyLines; place = p }
