-- How a step ends: what changes nothing, what sends nothing, and what sends.
-- Assumes nothing.
use Rattle.std.specs.Prelude.{◌≡◌, refl, List, [], map, ℕ, length, replicate}
use Rattle.std.proofs.Common.{ap, sym, ◌∙◌, arith}
use Rattle.model.specs.declared.Reply.{Reply}
use Rattle.model.specs.declared.Reply.TheVariants.{Done}
use Rattle.model.specs.Rows.{pad_to}
use Rattle.address.specs.Here.{Addr, here}
use Rattle.model.specs.Words as W
use Rattle.model.specs.Node as M
use Rattle.model.specs.Calls.{StepOutcome, unchanged}
use Rattle.types.specs.declared.Gossip.{Gossip}
use Rattle.types.specs.Views.{from_gossip, no_gossip}
use Rattle.node.specs.declared.Node.{Node}
use Rattle.node.specs.Views.{pack_node, stored_view, answer_of}
use Rattle.node.specs.Rows.{unstored_pack}
use Rattle.node.specs.Ends.{unchanged_is, kept_is}
use Rattle.wait.specs.declared.Wait.{Wait}
use Rattle.wait.specs.declared.Stepped.{Stepped}
use Rattle.wait.specs.declared.mail.Mail.{Mail}
use Rattle.wait.specs.Views.{to_wait, from_wait, from-to_wait, stepped_of, Gives, step_plain, kept_of, kept_rows, mail_of}

-- a step that hands everything back as it came
pub plain_step : (reply : Reply) (n : Node) (w : Wait) → step_plain reply n w ≡ stepped_of (record { outcome = unchanged reply (stored_view n); wait = to_wait w })
unfolding stepped_of
plain_step reply n w =
    λ i. record {
      answer = sym (unchanged_is reply n) i;
      wait = sym (from-to_wait w) i;
      gossip = replicate 256 no_gossip;
      written = 0;
      events = replicate 1 no_gossip;
      reported = 0;
    }

-- and keeps to any rows
pub plain_gives : {o : StepOutcome Addr} {r : Stepped} {reply : Reply} {n : Node} {w : Wait} → r ≡ step_plain reply n w → step_plain reply n w ≡ stepped_of o → Gives o r
plain_gives e f = record { is = e ∙ f; written = omega (arith, ap (λ (x : Stepped). x.written) e); reported = omega (arith, ap (λ (x : Stepped). x.reported) e) }

-- a kept step that sends nothing
pub kept_step : (used : ℕ) (s : M.Node Addr) (n : Node) (w : W.Wait Addr) (v : Wait) → n ≡ pack_node s → v ≡ from_wait w
    → step_plain (Done used) n v ≡ stepped_of (kept_of used (record { effect = record { node = s; messages = []; events = []; collected = 0 }; wait = w }))
unfolding stepped_of
kept_step used s n w v e f =
    λ i. record {
      answer = kept_is (Done used) s n [] 0 e i;
      wait = f i;
      gossip = replicate 256 no_gossip;
      written = 0;
      events = replicate 1 no_gossip;
      reported = 0;
    }

-- a kept step of rows is the model's
pub kept-rows : (used : ℕ) (n : Node) (m : Mail) (w : Wait) (es : List Gossip) (k : ℕ) (s : M.Node Addr) (ms : List (W.Message Addr)) (gs : List (W.Gossip Addr)) (collected : ℕ) (v : W.Wait Addr)
    → n ≡ pack_node s → m ≡ mail_of ms → w ≡ from_wait v → es ≡ pad_to 1 no_gossip (map from_gossip gs) → k ≡ length gs
    → kept_rows used n m w es k collected ≡ stepped_of (kept_of used (record { effect = record { node = s; messages = ms; events = gs; collected = collected }; wait = v }))
unfolding stepped_of answer_of mail_of
kept-rows used n m w es k s ms gs collected v e f g h l =
    λ i. record {
      answer = record { reply = Done used; node = (e ∙ sym (unstored_pack s)) i; letters = (f i).letters; sent = (f i).sent; collected = collected };
      wait = g i;
      gossip = (f i).gossip;
      written = (f i).written;
      events = h i;
      reported = l i;
    }
