-- NO NODE IS WEDGED, OF THE PROGRAM. Of every run of a program's calls of `swim`, whatever comes in between: with 2817 pings the alive heap had room at some time.
-- Assumes nothing.
use Rattle.std.specs.Prelude.{◌≡◌, refl, true, false, ◌&&◌, List, ◌+◌, ◌≤◌}
use Rattle.std.proofs.Common.{ap, subst, ◌∙◌, arith}
use Rattle.model.specs.declared.Reply.{Reply}
use Rattle.model.specs.Rows.{one}
use Rattle.model.specs.Sound.{sound}
use Rattle.address.specs.Here.{Addr, here}
use Rattle.laws_node.specs.Good.{FullRows}
use Rattle.history.specs.Histories.{Call, Add, Receive, Step, Timer, Lends, outcome}
use Rattle.probing.specs.Stretch.{has_run, is_ping, pings_in, pings_of}
use Rattle.node.specs.declared.Node.{Node}
use Rattle.node.specs.Views.{stored_view}
use Rattle.wait.specs.declared.Wait.{Wait}
use Rattle.wait.specs.Views.{to_wait}
use Rattle.promises.specs.Made.{Held, Said}
use Rattle.promises.specs.Runs.{world, seen, Runs, rests, makes}
use Rattle.promises.proofs.Runs.{made_is}
use Rattle.supply.specs.Meanwhile.{FullAlong}
use Rattle.supply.proofs.Built.{room_meanwhile_here}
use Rattle.supply_promises.specs.Relief.{pings_made, pings_in_run, FullInRun}

made-pings : (h : Held) (c : Call Addr) (s : Said) → s.reply ≡ (outcome here c (seen h)).outcome.reply → pings_made h c s ≡ pings_in here c (seen h)
made-pings h (Add a n ds) s e = refl
made-pings h (Receive action gs ds lent) s e = refl
made-pings h (Step now ds lent) s e = ap (λ (r : Reply). one (is_ping (to_wait h.wait).state && has_run r)) e
made-pings h (Timer now lent) s e = refl
made-pings h (Lends wait) s e = refl

run-pings : {n n' : Node} {w w' : Wait} {cs : List (Call Addr)} (runs : Runs n w cs n' w') → pings_in_run runs ≡ pings_of here cs (world n w)
run-pings (rests n w) = refl
run-pings (makes {cs = cs} h c s h' m rest) =
    let v = made_is h c s h' m in
    let now = made-pings h c s v.reply in
    let later = run-pings rest ∙ ap (pings_of here cs) v.world in
    λ i. now i + later i

run-full : {n n' : Node} {w w' : Wait} {cs : List (Call Addr)} (runs : Runs n w cs n' w') → FullInRun runs → FullAlong here cs (world n w)
run-full (rests n w) f = f
run-full (makes {cs = cs} h c s h' m rest) f = (f.0, subst (FullAlong here cs) (made_is h c s h' m).world (run-full rest f.1))

-- from any sound node with collecting off
pub room_in_run : (n n' : Node) (w w' : Wait) (cs : List (Call Addr)) (runs : Runs n w cs n' w') → FullRows (stored_view n) → sound here (stored_view n) ≡ true
    → (stored_view n).settings.collect ≡ false → 2817 ≤ pings_in_run runs → FullInRun runs → ⊥
room_in_run n n' w w' cs runs rows good off many full =
    room_meanwhile_here cs (world n w) rows good off (omega (arith, many, run-pings runs)) (run-full runs full)
