-- WHY, OF THE PROGRAM. Of any answer that meets the contract of `swim::why`, and of any result that meets that of `swim::receive` on the same node, with the same draws and that one record.
-- Assumes nothing.
use Rattle.std.specs.Prelude.{◌≡◌, refl, ◌↔◌, Bool, true, false, not, List, [], ◌∷◌, ℕ, ◌-◌}
use Rattle.std.proofs.Math.Path.{ap, sym}
use Rattle.std.proofs.Common.{◌∙◌, arith}
use Rattle.std.proofs.Math.Option.{some}
use Rattle.std.proofs.Math.ListN.{length}
use Rattle.std.proofs.lemmas.Bool.{not-false}
use Rattle.model.specs.declared.Refusal.{Refusal}
use Rattle.model.specs.declared.Cause.{Cause}
use Rattle.model.specs.declared.Cause.TheVariants.{Record, Sender}
use Rattle.model.specs.declared.Reply.TheVariants.{Done, RefusedAt}
use Rattle.model.specs.Rows.{every}
use Rattle.model.specs.Bounds.{Room}
use Rattle.model.specs.Answers.{Answer, done}
use Rattle.address.specs.Here.{Addr, here}
use Rattle.model.specs.Words as W
use Rattle.model.specs.Node as M
use Rattle.model.specs.Handler as handler
use Rattle.model.specs.Sound.{valid_gossip}
use Rattle.model.specs.Calls as calls
use Rattle.laws.specs.Bools.{and_split}
use Rattle.laws_node.specs.Good.{FullRows}
use Rattle.types.specs.declared.Gossip.{Gossip}
use Rattle.types.specs.declared.Action.{Action}
use Rattle.types.specs.declared.Action.TheVariants.{Ack}
use Rattle.types.specs.declared.Optional.TheVariants.{Given}
use Rattle.types.specs.Views.{to_gossip, to_event, to_action, from_to_gossips}
use Rattle.disseminate.specs.declared.Found.{Found}
use Rattle.node.specs.declared.Node.{Node}
use Rattle.node.specs.Views.{stored_view, pack_node, answer_of}
use Rattle.node.specs.Rows.{loaded_view, sound_pack, unstored_pack}
use Rattle.message.specs.Hearing.{more-quiet}
use Rattle.swim.specs.declared.Outcome.{Outcome}
use Rattle.swim.specs.Promises.{room, outcome_of, row_after, Ends, Receives, Explains}
use Rattle.swim.specs.Lookups.{handed}
use Rattle.promises.specs.Firsts.{FirstFails, fails, passes, Passed}
use Rattle.promises.specs.Stops.{item_stops, StopsAt}
use Rattle.promises.proofs.Exactly.{as_told}
use Rattle.promises.proofs.Table.{receive_record}
use Rattle.why.specs.declared.Reason.{Reason}
use Rattle.why.specs.declared.Grounds.{Grounds}
use Rattle.why.specs.declared.Grounds.TheVariants.{Because, Refused}
use Rattle.why.specs.Why.{why}
use Rattle.why_promises.specs.Acts.{Deed, idles}
use Rattle.why_promises.specs.Explained.{reason_in, HoldsOn, why_stops, Explained}
use Rattle.why_promises.proofs.Explained.{why-refused, why_reason, why_explained}
use Rattle.why_promises.specs.Told.{rest_of, deed_of, Carries, Quiet, Still, of_none, of_unknown, of_equal, of_low}

-- tests that are all passed let a call go on
passed-goes : {B : Type 0} (ts : List (Bool × Refusal)) (refuse : Refusal → B) (go : B) → Passed ts → calls.first_of ts refuse go ≡ go
passed-goes [] refuse go p = refl
passed-goes (t ∷ ts) refuse go p = rw p.0 (passed-goes ts refuse go p.1)

-- two tests that are passed give no refusal
past_two : {x : Refusal} {t u : Bool × Refusal} {ts : List (Bool × Refusal)} → t.0 ≡ false → u.0 ≡ false → FirstFails x (t ∷ u ∷ ts) → FirstFails x ts
past_two p q (fails e _) = let z : ◌≡◌ {A = ℕ} 0 1 = cc in absurd (omega arith)
past_two p q (passes _ (fails e _)) = let z : ◌≡◌ {A = ℕ} 0 1 = cc in absurd (omega arith)
past_two p q (passes _ (passes _ f)) = f

same_done : (o o' : M.Out Addr) (ds ds' : List ℕ) → done o ds ≡ done o' ds' → (o ≡ o') × (ds ≡ ds')
same_done o o' ds ds' e = (cc, cc)

module _ (node : Node) (draws : List ℕ) (g : Gossip) (w : Grounds) (met : Explains node draws g w) where
  abbrev event : W.Event Addr
  event = to_event g.event

  -- 2, 5, then 6 to 9 or 13: each exactly if its test is the first that fails
  pub told_refusal : (x : Refusal) → (w ≡ Refused x) ↔ FirstFails x (why_stops here (stored_view node) (to_gossip g) draws)
  told_refusal x = as_told met.answer (why-refused here (stored_view node) (to_gossip g) draws x)

  -- each reason exactly if none fails and its condition holds
  pub told_reason : (r : Reason) → (reason_in w ≡ some r) ↔ (Passed (why_stops here (stored_view node) (to_gossip g) draws) × HoldsOn here (handed node) r event)
  told_reason r = as_told (ap reason_in met.answer) (why_reason here (stored_view node) (to_gossip g) draws r)

  -- with the reason: its condition, what the handler does, and the numbers
  pub told_explained : (r : Reason) (held number dead : Found) → w ≡ Because r held number dead → Explained here event (handed node) draws r held number dead
  told_explained r held number dead e = why_explained here (stored_view node) (to_gossip g) draws r held number dead (sym met.answer ∙ e)

-- one answer for each input, and there is one
pub why_exists : (node : Node) (draws : List ℕ) (g : Gossip) → (w : Grounds) × Explains node draws g w
why_exists node draws g = (why here (stored_view node) (to_gossip g) draws, record { answer = refl })

pub why_unique : (node : Node) (draws : List ℕ) (g : Gossip) (w w' : Grounds) → Explains node draws g w → Explains node draws g w' → w ≡ w'
why_unique node draws g w w' c c' = c.answer ∙ sym c'.answer

handle-rest : (a : W.Action Addr) (gs : List (W.Gossip Addr)) (s : M.Node Addr) (ds : List ℕ) → handler.handle here a gs s ds ≡ rest_of a gs s.own (handler.gossip here gs s ds)
unfolding handler.handle
handle-rest (W.Ping from by) gs s ds = refl
handle-rest (W.PingReq from suspect) gs s ds = refl
handle-rest (W.Ack from to) gs s ds = refl

-- a record that is through, and none behind it
one-through : (e : W.Event Addr) (s : M.Node Addr) (ds : List ℕ) (d : Deed Addr) → handler.item here e s ds ≡ done d.out d.left → handler.stops_at here (record { event = e } ∷ []) s ds ≡ Sender
unfolding handler.stops_at handler.cause_at
one-through e s ds d i = ap (λ (x : Answer (M.Out Addr)). handler.cause_at (handler.count_on here x (handler.through here [])) 1) i

-- a message with one record that is through
goes_on : (st : M.Stored Addr) (a : W.Action Addr) (e : W.Event Addr) (ds : List ℕ) (lent : Room) (d : Deed Addr) → Passed (calls.message_tests here st a (record { event = e } ∷ []) lent)
    → handler.item here e (M.loaded st) ds ≡ done d.out d.left
    → calls.message here st a (record { event = e } ∷ []) ds lent ≡ calls.kept_message here st Sender ds (rest_of a (record { event = e } ∷ []) (M.loaded st).own (done d.out d.left))
unfolding calls.message
goes_on st a e ds lent d passed i =
    let gs : List (W.Gossip Addr) = record { event = e } ∷ [] in
    passed-goes (calls.message_tests here st a gs lent) (calls.refuses st) _ passed
    ∙ ap (λ (c : Cause). calls.kept_message here st c ds (handler.handle here a gs (M.loaded st) ds)) (one-through e (M.loaded st) ds d i)
    ∙ ap (calls.kept_message here st Sender ds) (handle-rest a gs (M.loaded st) ds ∙ ap (rest_of a gs (M.loaded st).own) (more-quiet (handler.item here e (M.loaded st) ds) ∙ i))

module _ (node : Node) (draws : List ℕ) (g : Gossip) (w : Grounds) (met : Explains node draws g w) (action : Action) (gossip events : List Gossip) (r : Outcome) (g' e' : List Gossip)
    (heard : Receives node action (g ∷ []) draws gossip events r g' e')
    (passed : Passed (calls.message_tests here (stored_view node) (to_action action) (to_gossip g ∷ []) (room gossip events))) where
  in-range : valid_gossip here (to_gossip g) ≡ true
  in-range =
      let v = (and_split (calls.valid_action here (to_action action)) (every (valid_gossip here) (to_gossip g ∷ [])) (not-false _ passed.1.1.1.0)).1 in
      (and_split (valid_gossip here (to_gossip g)) true v).0

  stops_there : (x : Refusal) → StopsAt here (to_gossip g ∷ []) (handed node) draws x 0 → FirstFails x (item_stops here (to_event g.event) (handed node) draws)
  unfolding M.quiet
  stops_there x h =
      let d = same_done _ _ _ _ h.through in
      let a : h.so_far.node ≡ handed node = ap (λ (o : M.Out Addr). o.node) (sym d.0) in
      let b : h.left ≡ draws = sym d.1 in
      rw (a, b) at h.stops

  stops_here : (x : Refusal) → FirstFails x (item_stops here (to_event g.event) (handed node) draws) → StopsAt here (to_gossip g ∷ []) (handed node) draws x 0
  unfolding M.quiet
  stops_here x f = record { there = omega arith; so_far = record { node = handed node; said = []; collected = 0 }; left = draws; through = refl; stops = f }

  -- it refuses exactly where `why` names that refusal, by that record
  pub same_refusal : (x : Refusal) → (w ≡ Refused x) ↔ (r.answer.reply ≡ RefusedAt x (Record 0))
  same_refusal x =
      let told = told_refusal node draws g w met x in
      let at = receive_record node action (g ∷ []) draws gossip events r g' e' heard x 0 in (
        (λ e. at.1 (passed, stops_here x (past_two passed.0 (ap not in-range) (told.0 e)))),
        (λ e. told.1 (passes passed.0 (passes (ap not in-range) (stops_there x (at.0 e).1)))),
      )

  -- and else it goes on from what the reason says: what it does then is its own part
  pub same-message : (x : Reason) (held number dead : Found) → w ≡ Because x held number dead
      → Ends (calls.kept_message here (stored_view node) Sender draws (rest_of (to_action action) (to_gossip g ∷ []) (handed node).own (done (deed_of node draws g x).out (deed_of node draws g x).left))) gossip events r g' e'
  same-message x held number dead e =
      let d = deed_of node draws g x in
      let o = goes_on (stored_view node) (to_action action) (to_event g.event) draws (room gossip events) d passed (told_explained node draws g w met x held number dead e).acts in
      record {
        answer = heard.ends.answer ∙ ap outcome_of o;
        spoken = heard.ends.spoken ∙ ap (λ (c : calls.Outcome Addr). row_after (calls.packed c.messages) gossip) o;
        told = heard.ends.told ∙ ap (λ (c : calls.Outcome Addr). row_after c.events events) o;
      }

module _ (node : Node) (draws : List ℕ) (g : Gossip) (w : Grounds) (met : Explains node draws g w) (from to : Addr) (gossip events : List Gossip) (r : Outcome) (g' e' : List Gossip)
    (heard : Receives node (Ack from (Given to)) (g ∷ []) draws gossip events r g' e')
    (passed : Passed (calls.message_tests here (stored_view node) (W.Ack from (some to)) (to_gossip g ∷ []) (room gossip events))) where
  -- the handler acts as the reason says
  pub same-act : (x : Reason) (held number dead : Found) → w ≡ Because x held number dead → Carries draws events (deed_of node draws g x) r e'
  unfolding outcome_of answer_of handler.forwarded
  same-act x held number dead e =
      let m = same-message node draws g w met (Ack from (Given to)) gossip events r g' e' heard passed x held number dead e in
      record {
        reply = λ i. (m.answer i).answer.reply;
        node = (λ i. (m.answer i).answer.node) ∙ unstored_pack (deed_of node draws g x).out.node;
        reported = λ i. (m.answer i).reported;
        told = m.told;
      }

  quiet-idles : (x : Reason) → Quiet x → deed_of node draws g x ≡ idles here (handed node) draws
  quiet-idles _ of_none = refl
  quiet-idles _ of_unknown = refl
  quiet-idles _ of_equal = refl
  quiet-idles _ of_low = refl

  -- arrays have their lengths, so the rows of any node of a program are full
  pub same_still : FullRows (stored_view node) → (x : Reason) → Quiet x → (held number dead : Found) → w ≡ Because x held number dead → Still node events r e'
  unfolding row_after
  same_still full x q held number dead e =
      let c = same-act x held number dead e in
      let idle = quiet-idles x q in
      let back : pack_node (handed node) ≡ node = ap pack_node (loaded_view node) ∙ sound_pack node full (not-false _ passed.0) in
      record {
        reply = c.reply ∙ ap (λ (d : Deed Addr). Done (length draws - length d.left)) idle ∙ ap Done (omega arith);
        node = c.node ∙ ap (λ (d : Deed Addr). pack_node d.out.node) idle ∙ back;
        reported = c.reported ∙ ap (λ (d : Deed Addr). length d.out.said) idle;
        told = c.told ∙ ap (λ (d : Deed Addr). row_after d.out.said events) idle ∙ from_to_gossips events;
      }
