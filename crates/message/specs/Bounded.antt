-- How much a message call writes and reports at most: 64 records and 65 events.
-- Assumes nothing.
use Rattle.std.specs.Prelude.{◌≡◌, true, List, [], ℕ, ◌≤◌, length}
use Rattle.std.proofs.Common.{ap, ◌∙◌}
use Rattle.std.proofs.Math.Option.{none, some}
use native.Mathlib.Omega.{arith}
use Rattle.std.proofs.Math.ListN.{length-append}
use Rattle.model.specs.declared.Cause.{Cause}
use Rattle.model.specs.declared.Reply.{Reply}
use Rattle.model.specs.declared.Kind.TheVariants as kind
use Rattle.model.specs.Rows.{every}
use Rattle.laws.specs.Bools.{and_split}
use Rattle.model.specs.Answers.{Answer, done, refused}
use Rattle.laws.specs.After.{After, gives, after_then, after_both}
use Rattle.address.specs.Here.{Addr, here, here_lawful}
use Rattle.model.specs.Words as W
use Rattle.model.specs.Limit.{limit_of}
use Rattle.model.specs.Choose.{terms_of}
use Rattle.disseminate.specs.Fit.{most_chosen, few_chosen}
use Rattle.model.specs.Node as M
use Rattle.model.specs.Handler as handler
use Rattle.model.specs.Sound.{valid_gossip}
use Rattle.laws_node.specs.Good.{Good}
use Rattle.laws.specs.Ranges.{ranges}
use Rattle.laws_rules.specs.Keeps.{gossip-keeps, admit-keeps}
use Rattle.model.specs.Calls as calls
use Rattle.node.specs.declared.Node.{Node}
use Rattle.message.specs.declared.Received.{Received}
use Rattle.message.specs.Drawn.{gossip_few, admit_few}
use Rattle.message.specs.Answers.{refused_received, received_of}

-- what rules leave of a good node, and at most so many events
abbrev Said : ℕ → M.Out Addr → Type 0
Said k o = Good here o.node × (length o.said ≤ k)

abbrev Within : M.Effect Addr → Type 0
Within e = (length (calls.packed e.messages) ≤ 64) × (length e.events ≤ 65)

spread_few : (s : M.Node Addr) → Good here s → length (M.spread here s).gossip ≤ most_chosen
unfolding M.spread terms_of
spread_few s g =
    few_chosen (terms_of s.settings.max_selected s.settings.max_size (limit_of (length s.members.table) s.settings.send_constant)) s.disseminator.alive s.disseminator.deceased (ranges s.settings g.settings).most_size (g.heaps kind.Alive) (g.heaps kind.Deceased)

answered_within : (target : Addr) (a : W.Action Addr) (o : M.Out Addr) → Said 65 o → Within (handler.answer_to here target a o)
unfolding handler.answer_to
answered_within target a o p = (omega (arith, length-append (M.spread here o.node).gossip [], spread_few o.node p.0), p.1)

module _ (gs : List (W.Gossip Addr)) (s : M.Node Addr) (ds : List ℕ) (good : Good here s) (few : length gs ≤ 64) (valid : every (valid_gossip here) gs ≡ true) where
  heard : After (Said 64) (handler.gossip here gs s ds)
  heard = after_both (λ o k f. (k.good, omega (arith, f, few))) (gossip-keeps here here_lawful gs s ds good valid) (gossip_few here gs s ds)

  admitted : (from : Addr) → here.valid from ≡ true → After (Said 65) (M.and_more (handler.gossip here gs s ds) (handler.admit here from))
  unfolding M.and_more
  admitted from v =
      after_then heard (λ o rest p.
      after_then {P = Said 1} (after_both (λ q k f. (k.good, f)) (admit-keeps here here_lawful from o.node rest p.0 v) (admit_few here from o.node rest)) (λ q rest₂ r.
      gives (r.0, omega (arith, p.1, r.1, length-append o.said q.said))))

  handled : (action : W.Action Addr) → calls.valid_action here action ≡ true → After Within (handler.handle here action gs s ds)
  unfolding handler.handle handler.forwarded calls.valid_action
  handled (W.Ping from by) v = after_then (admitted from (and_split _ _ v).0) (λ o rest p. gives (answered_within _ _ o p))
  handled (W.PingReq from suspect) v = after_then heard (λ o rest p. gives (answered_within _ _ o (p.0, omega (arith, p.1))))
  handled (W.Ack from none) v = after_then heard (λ o rest p. gives (omega arith, omega (arith, p.1)))
  handled (W.Ack from (some to)) v = after_then heard (λ o rest p. gives (omega (arith, few, length-append gs []), omega (arith, p.1)))

  kept_within : (t : M.Stored Addr) (at : Cause) (x : Answer (M.Effect Addr)) → After Within x → ((received_of (calls.kept_message here t at ds x)).written ≤ 64) × ((received_of (calls.kept_message here t at ds x)).reported ≤ 65)
  unfolding received_of
  kept_within t at (refused r) p = (omega arith, omega arith)
  kept_within t at (done e rest) (gives p) = p

  -- the rows of a message call have room for what it gives
  pub received_within : (action : W.Action Addr) → calls.valid_action here action ≡ true → (t : M.Stored Addr) (at : Cause) (r : Received) → r ≡ received_of (calls.kept_message here t at ds (handler.handle here action gs s ds))
      → (r.written ≤ 64) × (r.reported ≤ 65)
  received_within action v t at r e =
      let k = kept_within t at (handler.handle here action gs s ds) (handled action v) in
      (omega (arith, k.0, ap (λ (x : Received). x.written) e), omega (arith, k.1, ap (λ (x : Received). x.reported) e))

-- a refusal writes and reports nothing
pub refused_within : (n : Node) (u : Reply) (r o : Received) (gossips events : ℕ) → r ≡ refused_received n u → refused_received n u ≡ o
    → (r ≡ o) × (r.written ≤ gossips) × (r.written ≤ 64) × (r.reported ≤ events) × (r.reported ≤ 65)
refused_within n u r o gossips events e p =
    let w = ap (λ (x : Received). x.written) e in
    let v = ap (λ (x : Received). x.reported) e in
    (e ∙ p, omega (arith, w), omega (arith, w), omega (arith, v), omega (arith, v))
