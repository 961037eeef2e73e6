-- `ip6text::write_number` meets its contract: the digits before the last, and the last.
-- Assumes nothing.
use Rattle.std.proofs.Common.{rules, arith}
use Rattle.ip6text.specs.Writing.{last-digit, smaller, still_small, one-laid, more-laid, one_fits, first-room, last_fits}
use Rattle.ip6text.proofs.+write_number.Goals as goal

pub bounds-out-at : goal.bounds-out-at
bounds-out-at t c = one_fits c.requires.3 (search rules)

pub returns-then-n-base : goal.returns-then-n-base
returns-then-n-base t c = one-laid _ _ _ _ _ (search rules) (search rules)

pub write_number-end-requires : goal.write_number-end-requires
write_number-end-requires t c =
    let p = c.requires in
    let a = c.args in (
      omega (arith, smaller a.base a.n (search rules) (search rules)),
      (
        search rules,
        search rules,
        still_small a.base a.n (search rules) (search rules),
        first-room p.3 (search rules) (search rules) (search rules),
      ),
    )

pub digit-requires-2 : goal.digit-requires-2
digit-requires-2 t c = omega (arith, last-digit c.args.base c.args.n (search rules))

pub bounds-out-end : goal.bounds-out-end
bounds-out-end t c = last_fits c.requires.3 c.write_number-end.ensures (search rules) (search rules) (search rules)

pub overflow_add-result-2 : goal.overflow_add-result-2
overflow_add-result-2 t c =
    omega (arith, last_fits c.requires.3 c.write_number-end.ensures (search rules) (search rules) (search rules))

pub returns : goal.returns
returns t c = more-laid _ _ _ _ _ c.write_number-end.ensures (search rules) (search rules) (search rules) (search rules)
