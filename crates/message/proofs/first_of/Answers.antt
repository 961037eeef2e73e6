-- `message::first_of` meets its contract: after i turns the row holds the first i, and nothing behind them.
-- Assumes nothing.
use mathlib.Core.Path.{◌≡◌, ap, ◌∙◌}
use borrow.Author.Rules.{rules}
use Prim.Native.Nat.{◌-◌, ◌≤◌}
use native.Mathlib.Omega.{arith}
use native.Mathlib.Numerals.{add-one}
use lib.ListN.{length, get_or, take}
use lib.Seq.{length-take-le, get_or-take, take_all}
use Rattle.model.specs.Rows.{pad_to}
use Rattle.laws.specs.Pad.{pad_step}
use Rattle.types.specs.Views.{no_gossip}
use Rattle.message.proofs.first_of.Goals as goal

pub loop-i-init : goal.loop-i-init
loop-i-init c = (omega arith, c.no_gossip-out.ensures)

pub loop-i-preserved : goal.loop-i-preserved
loop-i-preserved c =
    let a = c.args in
    let at = c.loop-i in
    let long : length a.rows ≡ 64 = search rules in
    let n : length (take a.given a.rows) ≡ a.given = length-take-le a.given a.rows (omega arith) in
    (omega arith, rw (at.invariant.1, add-one) (pad_step 64 at.i no_gossip (get_or a.rows at.i no_gossip) (take a.given a.rows) (omega arith) (omega arith) (get_or-take a.given a.rows at.i no_gossip (omega arith))))

pub returns : goal.returns
returns c =
    let a = c.args in
    let at = c.loop-i in
    let long : length a.rows ≡ 64 = search rules in
    let n : length (take a.given a.rows) ≡ a.given = length-take-le a.given a.rows (omega arith) in
    at.invariant.1 ∙ ap (pad_to 64 no_gossip) (take_all at.i (take a.given a.rows) (omega arith))
