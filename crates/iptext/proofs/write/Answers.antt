-- `iptext::write` meets its contract: by family.
-- Assumes nothing.
use Rattle.iptext.specs.Saying.{six-room, four-room, six-laid, four-laid}
use Rattle.iptext.proofs.write.Goals as goal

pub write6-requires : goal.write6-requires
write6-requires c = (c.wide.ensures.1, six-room c.args.a _ c.if-a-eq-V6.true c.wide.ensures.0 c.requires)

pub returns-then-a-eq-V6 : goal.returns-then-a-eq-V6
returns-then-a-eq-V6 c = six-laid c.args.a _ c.if-a-eq-V6.true c.wide.ensures.0 c.write6.ensures

pub write-requires : goal.write-requires
write-requires c = four-room c.args.a _ c.if-a-eq-V6.false c.number.ensures.0 c.requires

pub returns : goal.returns
returns c = four-laid c.args.a _ c.if-a-eq-V6.false c.number.ensures.0 c.write.ensures
