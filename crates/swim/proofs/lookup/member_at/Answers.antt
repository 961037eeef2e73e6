-- 2, then nobody at or past the count, else the record.
use Rattle.std.proofs.Common.{ap, sym, ◌∙◌, arith}
use Rattle.member.specs.declared.Member.{Member}
use Rattle.member.specs.Views.{to_member}
use Rattle.member.specs.Packing.{view_many}
use Rattle.node.specs.Views.{view_node}
use Rattle.node.specs.Rows.{sound_ready}
use Rattle.swim.specs.Lookups.{listed_as}
use Rattle.swim.proofs.Looking.{at_unsound, at-nobody, at_listed}
use Rattle.swim.proofs.lookup.member_at.Goals as goal

pub returns-then-not-sound : goal.returns-then-not-sound
returns-then-not-sound c = at_unsound c.args.node c.args.place (sym c.sound.ensures ∙ c.if-not-sound.true)

pub len-requires : goal.len-requires
len-requires c = (sound_ready c.args.node c.has_rows.ensures (sym c.sound.ensures ∙ c.if-not-sound.false)).members

pub returns-then-len-place : goal.returns-then-len-place
unfolding view_node
returns-then-len-place c =
    at-nobody c.args.node (sym c.sound.ensures ∙ c.if-not-sound.false) c.args.place (omega (arith, c.if-len-place.true, c.len.ensures.value))

pub member-m-requires : goal.member-m-requires
member-m-requires c =
    let m = c.args.node.members in
    let r = sound_ready c.args.node c.has_rows.ensures (sym c.sound.ensures ∙ c.if-not-sound.false) in
    (r.members, omega (arith, c.if-len-place.false, c.len.ensures.value, view_many m r.members.packed))

pub returns : goal.returns
unfolding view_node
returns c =
    ap (λ (m : Member). listed_as (to_member m)) c.member-m.ensures
    ∙ at_listed c.args.node (sym c.sound.ensures ∙ c.if-not-sound.false) c.args.place (omega (arith, c.if-len-place.false, c.len.ensures.value))
