-- `detection::waiting::wait_for_ack` meets its contract.
-- Assumes nothing.
use Rattle.detection.proofs.waiting.wait_for_ack.Goals as goal

pub returns-then-heard : goal.returns-then-heard
returns-then-heard c = rw (← c.heard.ensures, c.if-heard.true) c.new.ensures

pub returns : goal.returns
returns c = rw (← c.heard.ensures, c.if-heard.false)
