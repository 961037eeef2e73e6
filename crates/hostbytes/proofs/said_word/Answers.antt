-- `hostbytes::said_word` meets its contract.
use Rattle.hostbytes.specs.Promised.{said_word}
use Rattle.hostbytes.proofs.said_word.Goals as goal

pub returns-in-Cut : goal.returns-in-Cut
unfolding said_word
returns-in-Cut c = cc

pub returns-in-Address : goal.returns-in-Address
unfolding said_word
returns-in-Address c = cc

pub returns-in-State : goal.returns-in-State
unfolding said_word
returns-in-State c = cc

pub returns-in-Repeat : goal.returns-in-Repeat
unfolding said_word
returns-in-Repeat c = cc

pub returns-in-Kept : goal.returns-in-Kept
unfolding said_word
returns-in-Kept c = cc
