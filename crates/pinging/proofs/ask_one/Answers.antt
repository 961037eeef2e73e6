-- `pinging::ask_one` meets its contract: gossip is chosen, and the letter posted.
-- Assumes nothing.
use mathlib.Core.Path.{ap, ◌∙◌}
use native.Mathlib.Omega.{arith}
use Rattle.wait.specs.declared.mail.Mail.{Mail}
use Rattle.wait.specs.Views.{posted}
use Rattle.pinging.proofs.ask_one.Goals as goal

pub returns : goal.returns
unfolding posted
returns c =
    let a = c.args in
    let e = c.spread-spread.ensures.value in record {
      value = (λ i. record {
        node = (e i).node;
        mail = (c.post.ensures ∙ (λ j. posted a.mail a.target (c.new_ping_req-ping_req.ensures j) (e j).rows (e j).count)) i;
      });
      within = omega (arith, ap (λ (x : Mail). x.written) c.post.ensures, c.spread-spread.ensures.within);
    }
