-- `image::place_at` meets its contract.
-- Assumes nothing.
use native.Mathlib.Omega.{arith}
use borrow.Author.Rules.{rules}
use Rattle.image.proofs.Loading.{few_bytes, place-begins}
use Rattle.image.proofs.place_at.Goals as goal

pub overflow_mul-result : goal.overflow_mul-result
overflow_mul-result c = omega (arith, few_bytes c.args.i c.place_size.result (search rules) (search rules))

pub overflow_add-result : goal.overflow_add-result
overflow_add-result c = omega (arith, few_bytes c.args.i c.place_size.result (search rules) (search rules))

pub returns : goal.returns
returns c =
    let i = c.args.i in (
      place-begins c.args.wide i c.head_size.result c.place_size.result c.head_size.ensures.0 c.place_size.ensures.0,
      omega (arith, few_bytes i c.place_size.result (search rules) (search rules)),
    )
