-- The text of an address has 47 bytes at most.
use Rattle.std.proofs.Common.{arith}
use Rattle.address.specs.Here.{here_text-long, here_chars}
use Rattle.salvager.proofs.tell.put_address.Goals as goal

pub write-end-requires : goal.write-end-requires
write-end-requires g c = record { fits = omega (arith, here_text-long c.args.a, (here_chars c.args.a).1) }
