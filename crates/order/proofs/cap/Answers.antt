-- `order::cap` meets its contract: by the exclusion.
-- Assumes nothing.
use mathlib.Core.Path.{ap, sym, ◌∙◌}
use native.Mathlib.Omega.{arith}
use Rattle.address.specs.Here.{here}
use Rattle.model.specs.Members.{cap}
use Rattle.order.specs.declared.Exclusion.{Exclusion}
use Rattle.order.specs.Views.{excluded}
use borrow.Author.Rules.{rules}
use Rattle.order.proofs.cap.Goals as goal

pub returns-in-Nobody : goal.returns-in-Nobody
returns-in-Nobody c =
    let a = c.args in
    let e = ap (λ (x : Exclusion). cap here.same here.blank here.blank (excluded x) a.wanted a.n) c.in-Nobody.is in
    record { value = c.at_most.ensures ∙ sym e; within = (omega arith, omega arith) }

pub returns-in-Peer : goal.returns-in-Peer
returns-in-Peer c =
    let a = c.args in
    let e = ap (λ (x : Exclusion). cap here.same here.blank here.blank (excluded x) a.wanted a.n) c.in-Peer.is in
    record { value = c.at_most-in-Peer.ensures ∙ sym e; within = (omega arith, omega arith) }
