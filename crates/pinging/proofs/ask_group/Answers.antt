-- `pinging::ask_group` meets its contract: the group is asked, and its answer waited for.
-- Assumes nothing.
use mathlib.Core.Path.{refl, ap, sym, ◌∙◌}
use mathlib.Core.List.{[], ◌∷◌}
use native.Mathlib.Omega.{arith}
use lib.ListN.{take}
use Rattle.address.specs.Here.{Addr, here}
use Rattle.model.specs.Words as W
use Rattle.model.specs.Node as M
use Rattle.model.specs.Detector as D
use Rattle.types.specs.Views.{to_gossip, from-to_gossip}
use Rattle.node.specs.Views.{view_node}
use Rattle.wait.specs.declared.Stepped.{Stepped}
use Rattle.pinging.specs.declared.Asked.{Asked}
use Rattle.wait.specs.Ends.{kept-rows}
use Rattle.pinging.proofs.ask_group.Goals as goal

pub returns : goal.returns
returns c =
    let a = c.args in
    let e : M.Effect Addr = D.ask_each here a.s.target (take a.picks.count a.picks.row) (view_node a.node) [] in
    record {
      is =
          c.kept.ensures
          ∙ kept-rows a.used c.ask_each-asked.result.node c.ask_each-asked.result.mail _ (a.s.gossip ∷ []) 1 e.node e.messages (to_gossip a.s.gossip ∷ []) a.collected (D.enters (W.WaitingForPingReqAck a.s.target a.s.number) a.tick)
          (ap (λ (x : Asked). x.node) c.ask_each-asked.ensures.value) (ap (λ (x : Asked). x.mail) c.ask_each-asked.ensures.value) refl (λ i. sym (from-to_gossip a.s.gossip) i ∷ []) refl;
      written = omega (arith, ap (λ (x : Stepped). x.written) c.kept.ensures, c.ask_each-asked.ensures.within);
      reported = omega (arith, ap (λ (x : Stepped). x.reported) c.kept.ensures);
    }
