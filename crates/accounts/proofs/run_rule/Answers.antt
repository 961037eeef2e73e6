-- `accounts::run_rule` meets its contract: the rules are run as they are, and the two lists are compared.
-- Assumes nothing.
use Rattle.address.specs.Here.{Addr, here}
use Rattle.laws.specs.After.{After}
use Rattle.model.specs.Node as M
use Rattle.laws_rules.specs.Keeps.{Keeps}
use Rattle.node.specs.Views.{view_node}
use Rattle.accounts.specs.Turns.{rule_of, rule-keeps, heard-held, turn_is}
use Rattle.accounts.proofs.run_rule.Lts as lts
use Rattle.accounts.proofs.run_rule.Tie as tie
use Rattle.accounts.proofs.run_rule.Reads as reads
use Rattle.accounts.proofs.run_rule.Goals as goal

keeps : (s : lts.Start tie.the-claims reads.Pre reads.Post) → After (λ (o : M.Out Addr). Keeps here (view_node s.args.node) o.node) (rule_of s.args.lent s.args.node s.args.draws.now)
keeps s = rule-keeps s.args.lent s.args.node s.args.draws.now s.requires.0 s.requires.1 s.requires.2

pub handle_gossip-heard-requires : goal.handle_gossip-heard-requires
handle_gossip-heard-requires c = c.requires

pub change_between-requires : goal.change_between-requires
change_between-requires c =
    (c.requires.0.members, heard-held c.args.node c.requires.0 c.args.draws.now _ c.handle_gossip-heard.result _ (keeps c.before.before.before.before.before.before) c.handle_gossip-heard.ensures)

pub returns : goal.returns
returns c =
    let a = c.args in
    turn_is a.node c.requires.0 a.draws.now _ c.handle_gossip-heard.result _ a.whom a.given c.change_between.result (keeps c.before.before.before.before.before.before.before) c.handle_gossip-heard.ensures c.change_between.ensures
