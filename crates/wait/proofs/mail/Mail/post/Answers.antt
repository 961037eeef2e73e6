-- `wait::mail::Mail::post` meets its contract: one letter more, and its records behind the others.
-- Assumes nothing.
use Prim.Native.Nat.{◌+◌}
use native.Mathlib.Omega.{arith}
use lib.ListN.{set}
use Rattle.wait.specs.Views.{posted}
use Rattle.wait.proofs.mail.Mail.post.Goals as goal

pub append-requires : goal.append-requires
append-requires c =
    let p = c.requires in
    (p.0.gossip, omega (arith, p.2), omega (arith, p.2, p.3))

pub returns : goal.returns
unfolding posted
returns c =
    let a = c.args in
    λ i. record {
      letters = set a.self.letters a.self.sent (record { target = a.target; action = a.action; count = a.count });
      sent = a.self.sent + 1;
      gossip = c.append.ensures i;
      written = a.self.written + a.count;
    }
