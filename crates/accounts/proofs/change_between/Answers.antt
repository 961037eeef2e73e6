-- `accounts::change_between` meets its contract: each field is what the list says of the address.
-- Assumes nothing.
use mathlib.Core.Path.{◌∙◌}
use mathlib.Core.Bool.{not, ◌&&◌}
use Rattle.accounts.proofs.change_between.Goals as goal

pub returns : goal.returns
returns c =
    let a = c.args in
    let was = c.find-was.ensures.value in
    let now = c.find-is.ensures.value in
    let enters = c.both.ensures ∙ (λ j. not (was j).listed && (now j).listed) in
    let leaves = c.both-2.ensures ∙ (λ j. (was j).listed && not (now j).listed) in
    λ i. record { address = a.whom; given = a.given; enters = enters i; leaves = leaves i; listed = (was i).listed; state = (was i).state; held = (was i).number; number = (now i).number }
