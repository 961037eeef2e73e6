-- `wait::mail::Mail::none` meets its contract.
-- Assumes nothing.
use lib.ListN.{replicate}
use Rattle.types.specs.Views.{no_gossip}
use Rattle.wait.specs.Views.{mail_of}
use Rattle.wait.proofs.mail.Mail.none.Goals as goal

pub returns : goal.returns
unfolding mail_of
returns c = λ i. record { letters = replicate 4 (c.none-letter.ensures i); sent = 0; gossip = replicate 256 no_gossip; written = 0 }
