-- `integers::product` meets its contract. Assumes nothing.
use Rattle.std.proofs.Common.{lit<, rules}
use Rattle.integers.specs.Integers.{width}
use Rattle.integers.proofs.Codes.{product_law, product_fits}
use Rattle.integers.proofs.product.Goals as goal

pub overflow_mul-result : goal.overflow_mul-result
overflow_mul-result c = record { fits = product_fits width (search rules) (search rules) }

pub returns : goal.returns
returns c = product_law width c.args.a c.args.b (lit< tt) (search rules) (search rules)
