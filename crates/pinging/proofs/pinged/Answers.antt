-- `pinging::pinged` meets its contract: nobody was picked, or one is pinged.
-- Assumes nothing.
use mathlib.Core.Path.{◌≡◌, ap, ◌∙◌}
use mathlib.Core.List.{List, []}
use Prim.Native.Nat.{ℕ, ◌+◌, ◌*◌, ◌≤◌, ◌<◌}
use native.Mathlib.Omega.{arith}
use lib.ListN.{length, get_or}
use borrow.Author.Rules.{rules}
use Rattle.address.specs.Here.{Addr, here}
use Rattle.model.specs.declared.Reply.TheVariants.{Done}
use Rattle.types.specs.declared.Action.{Action}
use Rattle.types.specs.declared.Gossip.{Gossip}
use Rattle.disseminate.specs.Fit.{most_chosen}
use Rattle.node.specs.Views.{view_node}
use Rattle.node.specs.Parts.{ready_is}
use Rattle.wait.specs.declared.mail.Mail.{Mail}
use Rattle.wait.specs.declared.Stepped.{Stepped}
use Rattle.wait.specs.Views.{step_plain, mail_of, PackedMail, posted}
use Rattle.wait.specs.Ends.{plain_gives}
use Rattle.wait.specs.Posting.{mail-packed}
use Rattle.pinging.proofs.Pings.{pinged-none, pinged-one}
use Rattle.pinging.proofs.pinged.Lts as lts
use Rattle.pinging.proofs.pinged.Tie as tie
use Rattle.pinging.proofs.pinged.Reads as reads
use Rattle.pinging.proofs.pinged.Goals as goal

none-there : (m : Mail) → m ≡ mail_of [] → PackedMail m × (m.sent < 4) × (m.written ≤ 3 * most_chosen)
unfolding mail_of
none-there m e = (rw e (mail-packed [] (omega arith) (omega arith)), omega (arith, ap (λ (x : Mail). x.sent) e), omega (arith, ap (λ (x : Mail). x.written) e))

-- rows have their lengths
long : (c : lts.Start tie.the-claims reads.Pre reads.Post) → length c.args.rows ≡ 64
long c = search rules

written-there : (m mail : Mail) (target : Addr) (action : Action) (rows : List Gossip) (count : ℕ) → m ≡ mail_of [] → mail ≡ posted m target action rows count → mail.written ≡ count
unfolding mail_of posted
written-there m mail target action rows count e f = ap (λ (x : Mail). x.written) f ∙ ap (λ (x : Mail). x.written + count) e ∙ omega arith

pub returns-then-picks-eq0 : goal.returns-then-picks-eq0
returns-then-picks-eq0 c =
    let a = c.args in
    plain_gives (c.plain.ensures ∙ ap (step_plain (Done a.used) a.node) c.new.ensures) (pinged-none a.node a.picks _ a.used a.tick (ready_is a.node c.requires.0) c.if-picks-eq0.true)

pub post-sent-requires : goal.post-sent-requires
post-sent-requires c =
    let q = none-there c.none-mail.result c.none-mail.ensures in
    (q.0, q.1, c.requires.2, q.2)

pub returns : goal.returns
unfolding view_node
returns c =
    let a = c.args in
    record {
      is =
          c.kept.ensures
          ∙ pinged-one a.node a.picks a.rows a.count a.used a.tick c.member_number-number.result c.change-after.result c.post-sent.result
          (omega (arith, c.if-picks-eq0.false)) (omega (arith, c.has_picks.ensures)) (omega (arith, long c.before.before.before.before.before.before.before.before.before.before.before.before.before, c.requires.2)) c.member_number-number.ensures c.change-after.ensures
          (c.post-sent.ensures ∙ (λ i. posted (c.none-mail.ensures i) (get_or a.picks.row 0 here.blank) (c.new_ping-ping.ensures i) a.rows a.count));
      written = omega (arith, ap (λ (x : Stepped). x.written) c.kept.ensures, written-there c.none-mail.result c.post-sent.result _ _ a.rows a.count c.none-mail.ensures c.post-sent.ensures, c.requires.2);
      reported = omega (arith, ap (λ (x : Stepped). x.reported) c.kept.ensures);
    }
