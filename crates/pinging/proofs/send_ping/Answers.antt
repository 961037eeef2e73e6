-- `pinging::send_ping` meets its contract: gossip is chosen, then one is picked (8).
-- Assumes nothing.
-- what the code has when it has picked
use mathlib.Core.Path.{◌∙◌}
use native.Mathlib.Omega.{arith}
use Rattle.wait.specs.Ends.{plain_gives}
use Rattle.pinging.proofs.Pings.{Probe, ping_refused, ping_turned, ping_kept}
use Rattle.pinging.proofs.send_ping.Lts as lts
use Rattle.pinging.proofs.send_ping.Tie as tie
use Rattle.pinging.proofs.send_ping.Reads as reads
use Rattle.pinging.proofs.send_ping.Goals as goal

abbrev probe : lts.After-get_member_list tie.the-claims reads.Pre reads.Post tie.handed_clauses → Probe
probe k =
    record {
      node = k.args.node;
      ready = k.requires;
      wait = k.args.wait;
      tick = k.args.tick;
      draws = k.args.draws.now;
      spread = k.spread-spread.result;
      spread_is = k.spread-spread.ensures.value;
      picked = k.get_member_list-picked.result;
      picked_is = k.get_member_list-picked.ensures;
    }

pub pinged-requires : goal.pinged-requires
pinged-requires c =
    let t = ping_turned (probe c.before.before.before.before.before) c.in-Used.is c.with_members.ensures in
    (t.ready, omega (arith, t.few), c.spread-spread.ensures.within)

pub returns-in-Used : goal.returns-in-Used
returns-in-Used c =
    let g = c.pinged.ensures in
    record { is = g.is ∙ ping_kept (probe c.before.before.before.before.before.before) c.in-Used.is c.with_members.ensures; written = g.written; reported = g.reported }

pub returns-in-Refused : goal.returns-in-Refused
returns-in-Refused c =
    plain_gives c.plain.ensures (ping_refused (probe c.before.before.before.before.before) c.in-Refused.refusal c.in-Refused.is)
