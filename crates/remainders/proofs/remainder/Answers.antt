-- `remainders::remainder` meets its contract. Assumes nothing.
use mathlib.Core.Path.{sym, ◌∙◌}
use lib.Ieee.{binary64}
use Rattle.remainders.proofs.Cases.{nan_constant, rem_of_infinite, rem_by_nan, rem_by_infinite, finite_left}
use Rattle.remainders.proofs.remainder.Goals as goal

pub returns-then-not-is_finite : goal.returns-then-not-is_finite
returns-then-not-is_finite c = nan_constant ∙ rem_of_infinite binary64 c.args.x c.args.y (sym c.is_finite.ensures.value ∙ c.if-not-is_finite.true)

pub returns-then-is_nan : goal.returns-then-is_nan
returns-then-is_nan c = nan_constant ∙ rem_by_nan binary64 c.args.x c.args.y (sym c.is_nan.ensures.value ∙ c.if-is_nan.true)

pub returns-then-is_infinite : goal.returns-then-is_infinite
returns-then-is_infinite c =
    rem_by_infinite binary64 c.args.x c.args.y (sym c.is_finite.ensures.value ∙ c.if-not-is_finite.false)
    (sym c.is_infinite.ensures.value ∙ c.if-is_infinite.true)

pub of_finite-requires-clause-finite_y : goal.of_finite-requires-clause-finite_y
of_finite-requires-clause-finite_y c = finite_left c.args.y (sym c.is_nan.ensures.value ∙ c.if-is_nan.false) (sym c.is_infinite.ensures.value ∙ c.if-is_infinite.false)
