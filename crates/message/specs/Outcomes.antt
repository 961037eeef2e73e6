-- What was heard, and the outcome of the call: each kind of answer.
-- Assumes nothing.
use Rattle.std.proofs.Math.Path.{◌≡◌, ap, sym}
use Rattle.std.proofs.Common.{◌∙◌, arith}
use mathlib.Core.List.{List, [], ◌∷◌, ◌++◌, map, append-nil}
use Rattle.std.proofs.Math.Option.{none, some}
use Rattle.std.specs.Prelude.{ℕ, ◌-◌}
use Rattle.std.proofs.Math.ListN.{length, take, replicate}
use Rattle.model.specs.declared.Refusal.{Refusal}
use Rattle.model.specs.declared.Cause.{Cause}
use Rattle.model.specs.declared.Reply.{Reply}
use Rattle.model.specs.declared.Reply.TheVariants as reply
use Rattle.model.specs.Rows.{pad_to}
use Rattle.model.specs.Answers.{Answer, done, refused, and_then}
use Rattle.laws.specs.After.{After, gives}
use Rattle.address.specs.Here.{Addr, here}
use Rattle.model.specs.Words as W
use Rattle.model.specs.Node as M
use Rattle.model.specs.Handler as handler
use Rattle.model.specs.Calls as calls
use Rattle.laws_rules.specs.Keeps.{Keeps}
use Rattle.types.specs.declared.Gossip.{Gossip}
use Rattle.types.specs.declared.Action.{Action}
use Rattle.types.specs.declared.Action.TheVariants as action
use Rattle.types.specs.declared.Optional.{Optional}
use Rattle.types.specs.declared.Optional.TheVariants.{Absent, Given}
use Rattle.types.specs.Views.{from_gossip, no_gossip, to_action, to_optional, from-to_action, from_to_gossips}
use Rattle.model.specs.declared.Drew.{Drew}
use Rattle.model.specs.declared.Drew.TheVariants.{Used, Refused}
use Rattle.node.specs.declared.Node.{Node}
use Rattle.node.specs.Views.{view_node, pack_node, stored_view, unstored, no_letter, answer_of}
use Rattle.node.specs.Rows.{Ready, ready_pack, view_pack, unstored_pack}
use Rattle.node.specs.Ends.{unchanged_is}
use Rattle.message.specs.declared.gossip.Heard.{Heard}
use Rattle.message.specs.Views.{records_of, Heeded, heard_of}
use Rattle.message.specs.Hearing.{records-long}
use Rattle.message.specs.Answers.{no_rows, one_letter, refused_received, answered_of, settled_of, forwarded_of, acknowledged_of, received_of}

is_used : Drew → ℕ
is_used (Used k) = 1
is_used (Refused r) = 0

-- a refused call gives the node as it came, and writes nothing
pub refused_is : (n : Node) (r : Reply) → refused_received n r ≡ received_of (calls.unchanged r (stored_view n))
unfolding received_of
refused_is n r = λ i. record { answer = sym (unchanged_is r n) i; gossip = no_rows; written = 0; events = replicate 65 no_gossip; reported = 0 }

-- what was heard and kept is ready for more
pub heard_ready : (n : Node) (draws : List ℕ) (at : Cause) (x : Answer (M.Out Addr)) (h : Heard) → After (λ o. Keeps here (view_node n) o.node) x → h ≡ heard_of n draws at x
    → (used : ℕ) → h.drew ≡ Used used → Ready h.node
unfolding is_used
heard_ready n draws at (refused u) h k e used d = let z : ◌≡◌ {A = ℕ} 0 1 = ap is_used (ap (λ (v : Heard). v.drew) (sym e) ∙ d) in absurd (omega arith)
heard_ready n draws at (done o rest) h (gives k) e used d = rw e (ready_pack o.node k.good)

module _ (n : Node) (draws : List ℕ) (at : Cause) where
  -- a rule was refused, and so is the call
  pub refused-heard : (x : Answer (M.Out Addr)) (h : Heard) (u : Refusal) (f : M.Out Addr → List ℕ → Answer (M.Effect Addr)) → h ≡ heard_of n draws at x → h.drew ≡ Refused u
      → refused_received n (reply.RefusedAt u h.at) ≡ received_of (calls.kept_message here (stored_view n) at draws (and_then x f))
  unfolding is_used
  refused-heard (refused w) h u f e d = let z : ◌≡◌ {A = Drew} (Refused w) (Refused u) = ap (λ (v : Heard). v.drew) (sym e) ∙ d in
      let q : w ≡ u = cc in
      (λ i. refused_received n (reply.RefusedAt (sym q i) (e i).at)) ∙ refused_is n (reply.RefusedAt w at)
  refused-heard (done o rest) h u f e d = let z : ◌≡◌ {A = ℕ} 1 0 = ap is_used (ap (λ (v : Heard). v.drew) (sym e) ∙ d) in absurd (omega arith)

  -- what was used
  all_used : (o : M.Out Addr) (rest : List ℕ) (h : Heard) (used : ℕ) → h ≡ heard_of n draws at (done o rest) → h.drew ≡ Used used → used ≡ length draws - length rest
  all_used o rest h used e d = let z : ◌≡◌ {A = Drew} (Used used) (Used (length draws - length rest)) = sym d ∙ ap (λ (v : Heard). v.drew) e in cc

  -- one message with gossip chosen for it
  sent : (o : M.Out Addr) (rest : List ℕ) (h : Heard) (target : Addr) (a : Action) (c : M.Spread Addr) → h ≡ heard_of n draws at (done o rest) → M.spread here (view_node (pack_node o.node)) ≡ c
      → answered_of (length draws - length rest) h target a
      ≡ received_of (record { reply = reply.Done (length draws - length rest); node = M.stored here c.node; messages = record { target = target; action = to_action a; gossip = c.gossip } ∷ []; events = o.said; collected = o.collected })
  unfolding received_of answer_of
  sent o rest h target a c k e =
      let whole : c.gossip ++ [] ≡ c.gossip = append-nil c.gossip in
      ap (λ (v : Heard). answered_of (length draws - length rest) v target a) k
      ∙ ap
      (λ (x : M.Spread Addr). record {
        answer = one_letter (length draws - length rest) (pack_node x.node) (record { target = target; action = a; count = length x.gossip }) o.collected;
        gossip = pad_to 64 no_gossip (map from_gossip x.gossip);
        written = length x.gossip;
        events = pad_to 65 no_gossip (map from_gossip o.said);
        reported = length o.said;
      })
      e
      ∙ (λ i. record {
        answer = record {
          reply = reply.Done (length draws - length rest);
          node = sym (unstored_pack c.node) i;
          letters = record { target = target; action = sym (from-to_action a) i; count = length c.gossip } ∷ replicate 3 no_letter;
          sent = 1;
          collected = o.collected;
        };
        gossip = pad_to 64 no_gossip (map from_gossip (sym whole i));
        written = length (sym whole i);
        events = pad_to 65 no_gossip (map from_gossip o.said);
        reported = length o.said;
      })

  pub answered_is : (x : Answer (M.Out Addr)) (h : Heard) (used : ℕ) (target : Addr) (a : Action) → After (λ o. Keeps here (view_node n) o.node) x → h ≡ heard_of n draws at x → h.drew ≡ Used used
      → answered_of used h target a ≡ received_of (calls.kept_message here (stored_view n) at draws (and_then x λ o rest. done (handler.answer_to here target (to_action a) o) rest))
  unfolding handler.answer_to is_used
  answered_is (refused u) h used target a k e d = let z : ◌≡◌ {A = ℕ} 0 1 = ap is_used (ap (λ (v : Heard). v.drew) (sym e) ∙ d) in absurd (omega arith)
  answered_is (done o rest) h used target a (gives k) e d =
      ap (λ (j : ℕ). answered_of j h target a) (all_used o rest h used e d)
      ∙ sent o rest h target a (M.spread here o.node) e (ap (M.spread here) (view_pack o.node k.good.whole))

  -- an Ack's sender is Alive, and nothing is sent
  settled : (o : M.Out Addr) (rest : List ℕ) (h : Heard) (from : Addr) (gs : List (W.Gossip Addr)) → h ≡ heard_of n draws at (done o rest) → Keeps here (view_node n) o.node
      → settled_of (length draws - length rest) h from ≡ received_of (calls.kept_message here (stored_view n) at draws (done (handler.forwarded here from none gs o) rest))
  unfolding handler.forwarded received_of answer_of
  settled o rest h from gs e k =
      let node : pack_node (handler.acked here from (view_node (pack_node o.node))) ≡ unstored (M.stored here (handler.acked here from o.node)) =
      ap (λ (m : M.Node Addr). pack_node (handler.acked here from m)) (view_pack o.node k.good.whole) ∙ sym (unstored_pack (handler.acked here from o.node)) in
      ap (λ (v : Heard). settled_of (length draws - length rest) v from) e
      ∙ (λ i. record {
        answer = record { reply = reply.Done (length draws - length rest); node = node i; letters = replicate 4 no_letter; sent = 0; collected = o.collected };
        gossip = no_rows;
        written = 0;
        events = pad_to 65 no_gossip (map from_gossip o.said);
        reported = length o.said;
      })

  -- an Ack goes on, with the gossip that it came with
  forwarded : (o : M.Out Addr) (rest : List ℕ) (h : Heard) (from to : Addr) (rows : List Gossip) (given : ℕ) → Heeded rows given → h ≡ heard_of n draws at (done o rest)
      → forwarded_of (length draws - length rest) h from to rows given
      ≡ received_of (calls.kept_message here (stored_view n) at draws (done (handler.forwarded here from (some to) (records_of rows given) o) rest))
  unfolding handler.forwarded received_of answer_of
  forwarded o rest h from to rows given heeded e =
      let gs : List (W.Gossip Addr) = records_of rows given in
      let whole : gs ++ [] ≡ gs = append-nil gs in
      let count : given ≡ length gs = sym (records-long rows given heeded) in
      let back : take given rows ≡ map from_gossip (gs ++ []) = sym (ap (map from_gossip) whole ∙ from_to_gossips (take given rows)) in
      let written : given ≡ length (gs ++ []) = count ∙ ap length (sym whole) in
      ap (λ (v : Heard). forwarded_of (length draws - length rest) v from to rows given) e
      ∙ (λ i. record {
        answer = record {
          reply = reply.Done (length draws - length rest);
          node = sym (unstored_pack o.node) i;
          letters = record { target = to; action = action.Ack from Absent; count = count i } ∷ replicate 3 no_letter;
          sent = 1;
          collected = o.collected;
        };
        gossip = pad_to 64 no_gossip (back i);
        written = written i;
        events = pad_to 65 no_gossip (map from_gossip o.said);
        reported = length o.said;
      })

  acknowledged : (o : M.Out Addr) (rest : List ℕ) (h : Heard) (from : Addr) (rows : List Gossip) (given : ℕ) (to : Optional) → Heeded rows given → h ≡ heard_of n draws at (done o rest) → Keeps here (view_node n) o.node
      → acknowledged_of (length draws - length rest) h from rows given to
      ≡ received_of (calls.kept_message here (stored_view n) at draws (done (handler.forwarded here from (to_optional to) (records_of rows given) o) rest))
  acknowledged o rest h from rows given Absent heeded e k = settled o rest h from (records_of rows given) e k
  acknowledged o rest h from rows given (Given to) heeded e k = forwarded o rest h from to rows given heeded e

  pub acknowledged_is : (x : Answer (M.Out Addr)) (h : Heard) (used : ℕ) (from : Addr) (rows : List Gossip) (given : ℕ) (to : Optional) → Heeded rows given → After (λ o. Keeps here (view_node n) o.node) x
      → h ≡ heard_of n draws at x → h.drew ≡ Used used
      → acknowledged_of used h from rows given to ≡ received_of (calls.kept_message here (stored_view n) at draws (and_then x λ o rest. done (handler.forwarded here from (to_optional to) (records_of rows given) o) rest))
  unfolding is_used
  acknowledged_is (refused u) h used from rows given to heeded k e d = let z : ◌≡◌ {A = ℕ} 0 1 = ap is_used (ap (λ (v : Heard). v.drew) (sym e) ∙ d) in absurd (omega arith)
  acknowledged_is (done o rest) h used from rows given to heeded (gives k) e d =
      ap (λ (j : ℕ). acknowledged_of j h from rows given to) (all_used o rest h used e d) ∙ acknowledged o rest h from rows given to heeded e k
