-- `pinging::send_ping_req` meets its contract: 9, then 8, then the group is asked.
-- Assumes nothing.
-- what the code has when it has pushed
use mathlib.Core.Path.{refl, ap, ◌∙◌}
use native.Mathlib.Omega.{arith}
use Rattle.address.specs.Here.{here}
use Rattle.model.specs.Members as list
use Rattle.member.specs.declared.Member.{Member}
use Rattle.member.specs.Views.{pack_members, view_members, to_member}
use Rattle.wait.specs.Ends.{plain_gives}
use Rattle.pinging.proofs.Requests.{Request, changed_ready, wanted_few, request_full, request_refused, request_ready, request_few, request_kept}
use Rattle.pinging.proofs.send_ping_req.Lts as lts
use Rattle.pinging.proofs.send_ping_req.Tie as tie
use Rattle.pinging.proofs.send_ping_req.Reads as reads
use Rattle.pinging.proofs.send_ping_req.Goals as goal

abbrev request : lts.After-renew tie.the-claims reads.Pre reads.Post → Request
request p =
    record {
      node = p.args.node;
      ready = p.requires.0;
      wait = p.args.wait;
      target = p.args.target;
      number = p.args.number;
      tick = p.args.tick;
      draws = p.args.draws.now;
      valid = p.requires.1;
      members = p.update_member-changed.result;
      members_is =
          p.update_member-changed.ensures
          ∙ ap (λ (m : Member). pack_members p.args.node.own (list.update here.same (to_member m) (view_members p.args.node.members))) p.suspect.ensures;
      said = p.suspicion_of-suspected.result;
      said_is = p.suspicion_of-suspected.ensures;
      pushed = p.renew-pushed.result;
      pushed_is = p.renew-pushed.ensures;
    }

pub returns-then-pushed : goal.returns-then-pushed
returns-then-pushed c = plain_gives c.plain.ensures (request_full (request c.before.before.before) c.if-pushed.true)

pub get_member_list-picked-requires : goal.get_member_list-picked-requires
get_member_list-picked-requires c =
    let q = request c.before.before in
    let r = changed_ready q in
    (r.members, r.lamps, wanted_few q, omega arith)

pub ask_group-requires : goal.ask_group-requires
ask_group-requires c =
    let q = request c.before.before.before.before.before.before.before.before.before.before in (
      request_ready q c.if-pushed.false c.get_member_list-picked.result c.get_member_list-picked.ensures c.in-Used.is refl,
      request_few q c.if-pushed.false c.get_member_list-picked.result c.get_member_list-picked.ensures c.in-Used.is refl,
    )

pub returns-in-Used : goal.returns-in-Used
returns-in-Used c =
    let g = c.ask_group.ensures in
    record { is = g.is ∙ request_kept (request c.before.before.before.before.before.before.before.before.before.before.before) c.if-pushed.false c.get_member_list-picked.result c.get_member_list-picked.ensures c.in-Used.is refl; written = g.written; reported = g.reported }

pub returns-in-Refused : goal.returns-in-Refused
returns-in-Refused c =
    plain_gives c.plain-in-Refused.ensures (request_refused (request c.before.before.before.before.before.before.before) c.if-pushed.false c.get_member_list-picked.result c.get_member_list-picked.ensures c.in-Refused.missed c.in-Refused.is)
