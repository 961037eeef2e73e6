-- `timers::Timers::end` meets its contract: the row closes up.
-- Assumes nothing.
use Rattle.std.proofs.Common.{◌≡◌, ◌-◌, List, map, length, take, sym, refl, ap, ◌∙◌, arith, rules}
use Rattle.model.specs.Rows.{remove_at, pad_to}
use Rattle.laws.specs.Pad.{length-remove_at}
use Rattle.laws.specs.Packing.{view_length, from_to_all, map-remove_at}
use Rattle.timers.specs.declared.Timer.{Timer}
use Rattle.timers.specs.Views.{to_timer, from_timer, no_timer, timers_view}
use Rattle.timers.proofs.Timers.end.Goals as goal

pub returns : goal.returns
returns c =
    let t = c.args.self in
    let place = c.args.place in
    let v : List Timer = take t.len t.entries in
    let l : length (timers_view t) ≡ t.len = view_length to_timer from_timer (λ b. refl) 16 no_timer t.entries t.len c.requires.0 in
    let row : c.close_up.result ≡ pad_to 16 no_timer (map from_timer (remove_at (timers_view t) place)) =
    c.close_up.ensures
    ∙ sym (ap (pad_to 16 no_timer) (map-remove_at from_timer (timers_view t) place ∙ ap (λ (m : List Timer). remove_at m place) (from_to_all to_timer from_timer (λ b. refl) v))) in
    let len : t.len - 1 ≡ length (remove_at (timers_view t) place) = omega (arith, length-remove_at (timers_view t) place (omega (arith, c.requires.1)), l) in
    λ i. record { entries = row i; len = len i }
