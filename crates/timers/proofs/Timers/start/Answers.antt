-- `timers::Timers::start` meets its contract: a row with one more behind the last.
-- Assumes nothing.
use Rattle.std.proofs.Common.{◌≡◌, ◌+◌, [], ◌∷◌, ◌++◌, length, refl, arith, length-append, rules}
use Rattle.laws.specs.Packing.{pack_more, view_length}
use Rattle.timers.specs.Views.{to_timer, from_timer, no_timer, timers_view}
use Rattle.timers.proofs.Timers.start.Goals as goal

pub returns : goal.returns
returns c =
    let t = c.args.self in
    let p = c.requires.0 in
    let row = pack_more to_timer from_timer (λ b. refl) 16 no_timer t.entries t.len c.args.t p c.requires.1 in
    let len : t.len + 1 ≡ length (timers_view t ++ (to_timer c.args.t ∷ [])) =
    omega (arith, view_length to_timer from_timer (λ b. refl) 16 no_timer t.entries t.len p, length-append (timers_view t) (to_timer c.args.t ∷ [])) in
    λ i. record { entries = row i; len = len i }
