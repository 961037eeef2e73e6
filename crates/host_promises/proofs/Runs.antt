-- A run of a C program's calls is a run of the calls of `swim`: whatever holds of every run of a program holds of a C host. All that is known of a call is its contract.
-- Assumes nothing.
use Rattle.std.specs.Prelude.{◌≡◌, List, [], ◌∷◌, map, ℕ, length}
use Rattle.std.proofs.Math.Path.{refl, sym, subst}
use Rattle.std.proofs.Common.{◌∙◌}
use Rattle.std.proofs.lemmas.List.{length-map}
use Rattle.model.specs.declared.Reply.{Reply}
use Rattle.model.specs.declared.Reply.TheVariants as reply
use Rattle.model.specs.Calls as calls
use Rattle.address.specs.Here.{Addr, here}
use Rattle.history.specs.Histories.{Call}
use Rattle.types.specs.Views.{to_gossip, to_action}
use Rattle.node.specs.declared.Node.{Node}
use Rattle.node.specs.Views.{stored_view, answer_of}
use Rattle.message.specs.declared.Received.{Received}
use Rattle.message.specs.Answers.{received_of}
use Rattle.wait.specs.declared.Wait.{Wait}
use Rattle.wait.specs.declared.Stepped.{Stepped}
use Rattle.wait.specs.Views.{to_wait, from_wait, stepped_of}
use Rattle.timer_call.specs.declared.Ended.{Ended}
use Rattle.timer_call.specs.Views.{ended_of}
use Rattle.swim.specs.Promises.{outcome_of, row_after, add_of, message_of, step_of, timer_of}
use Rattle.promises.specs.Replies.{NotDone}
use Rattle.promises.specs.Made.{Held, Said, Made, adds, receives, steps, ends_timer, lends}
use Rattle.promises.specs.Runs.{Runs, rests, makes}
use Rattle.promises.proofs.Refused.{add_unkept, receive_unkept, step_unkept, end_timer_unkept}
use Rattle.cwords.specs.Reading.{Rows, address_in, gossip_of, action_of, wait_of, node_of}
use Rattle.cwords.specs.Nowhere.{zero_kept}
use Rattle.cwords.specs.Leaving.{kept, Leaves, kept_not}
use Rattle.host.specs.Promised.{added_at, received_at, stepped_at, ended_in}
use Rattle.host_promises.specs.Runs.{lent, Goes, adds_peer, hears, moves, ends-timer, lends_wait, stops, goes_on}

-- a call that wasn't kept hands back what it was given, so the node of the answer is that of the words either way
by_reply : {A : Type 0} (r : Reply) (n m : A) → (NotDone r → n ≡ m) → kept r n m ≡ n
by_reply (reply.Done used) n m f = refl
by_reply reply.Already n m f = sym (f Prim.tt)
by_reply reply.NotDue n m f = sym (f Prim.tt)
by_reply reply.Refuted n m f = refl
by_reply reply.Gone n m f = refl
by_reply (reply.Refused r) n m f = sym (kept_not (reply.Refused r) n m (zero_kept (reply.Refused r))) ∙ sym (f Prim.tt)
by_reply (reply.RefusedAt r at) n m f = sym (kept_not (reply.RefusedAt r at) n m (zero_kept (reply.RefusedAt r at))) ∙ sym (f Prim.tt)

-- a run of `swim` that begins where a call of `swim` ended
module _ {cs : List (Call Addr)} {n : Node} {w : Wait} where
  onward : (h h' : Held) (c : Call Addr) (s : Said) (node : Node) (wait : Wait) → Made h c s h' → node ≡ h'.node → wait ≡ h'.wait → Runs node wait cs n w → Runs h.node h.wait (c ∷ cs) n w
  onward h h' c s node wait m en ew rest = makes h c s h' m (subst (λ (z : Node × Wait). Runs z.0 z.1 cs n w) (λ i. (en i, ew i)) rest)

module _ (before : Rows) (wait : List ℕ) where
  abbrev held : List (List ℕ) → List (List ℕ) → Held
  held gossip events = record { node = node_of before; wait = wait_of wait; gossip = lent gossip; events = lent events }

  added-node : (peer : List ℕ) (number : ℕ) (draws : List ℕ) (after : Rows) → Leaves (added_at before peer number draws).reply (added_at before peer number draws).node before after
      → node_of after ≡ (answer_of (add_of (node_of before) (address_in peer) number draws)).node
  unfolding added_at
  added-node peer number draws after l =
      let d = answer_of (add_of (node_of before) (address_in peer) number draws) in
      l.again ∙ by_reply d.reply d.node (node_of before) (λ u. λ i. (add_unkept (node_of before) (address_in peer) number draws d (record { answer = refl }) u i).node)

  abbrev heard : List ℕ → List (List ℕ) → List ℕ → List (List ℕ) → List (List ℕ) → calls.Outcome Addr
  heard action records draws gossip events = message_of (node_of before) (action_of action) (map gossip_of records) draws (lent gossip) (lent events)

  -- the contract lends rows by their lengths
  received_so : (action : List ℕ) (records : List (List ℕ)) (draws : List ℕ) (gossip events : List (List ℕ))
      → received_at before action records draws (length gossip) (length events) ≡ received_of (heard action records draws gossip events)
  unfolding received_at
  received_so action records draws gossip events =
      λ i. received_of (calls.message here (stored_view (node_of before)) (to_action (action_of action)) (map to_gossip (map gossip_of records)) draws (record { gossip = sym (length-map gossip gossip_of) i; events = sym (length-map events gossip_of) i }))

  heard-node : (action : List ℕ) (records : List (List ℕ)) (draws : List ℕ) (gossip events : List (List ℕ)) (after : Rows)
      → Leaves (received_at before action records draws (length gossip) (length events)).answer.reply (received_at before action records draws (length gossip) (length events)).answer.node before after
      → node_of after ≡ (answer_of (heard action records draws gossip events)).node
  unfolding received_of outcome_of
  heard-node action records draws gossip events after l =
      let o = heard action records draws gossip events in
      let d = answer_of o in
      (subst (λ (z : Received). Leaves z.answer.reply z.answer.node before after) (received_so action records draws gossip events) l).again
      ∙ by_reply d.reply d.node (node_of before)
      (λ u. λ i. ((receive_unkept (node_of before) draws (lent gossip) (lent events) (outcome_of o) (row_after (calls.packed o.messages) (lent gossip)) (row_after o.events (lent events)) u (action_of action) (map gossip_of records)
      (record { ends = record { answer = refl; spoken = refl; told = refl } })).0 i).answer.node)

  abbrev moved : ℕ → List ℕ → List (List ℕ) → List (List ℕ) → calls.StepOutcome Addr
  moved tick draws gossip events = step_of (node_of before) (wait_of wait) tick draws (lent gossip) (lent events)

  stepped_so : (tick : ℕ) (draws : List ℕ) (gossip events : List (List ℕ)) → stepped_at before wait tick draws (length gossip) (length events) ≡ stepped_of (moved tick draws gossip events)
  unfolding stepped_at
  stepped_so tick draws gossip events =
      λ i. stepped_of (calls.detect here (stored_view (node_of before)) (to_wait (wait_of wait)) tick draws (record { gossip = sym (length-map gossip gossip_of) i; events = sym (length-map events gossip_of) i }))

  -- what the contract says of the node and of the wait record
  abbrev StepLeaves : Stepped → Rows → List ℕ → Type 0
  StepLeaves z after wait' = Leaves z.answer.reply z.answer.node before after × (wait_of wait' ≡ kept z.answer.reply z.wait (wait_of wait))

  moved-node : (tick : ℕ) (draws : List ℕ) (gossip events : List (List ℕ)) (after : Rows) (wait' : List ℕ) → StepLeaves (stepped_at before wait tick draws (length gossip) (length events)) after wait'
      → (node_of after ≡ (answer_of (moved tick draws gossip events).outcome).node) × (wait_of wait' ≡ from_wait (moved tick draws gossip events).wait)
  unfolding stepped_of outcome_of
  moved-node tick draws gossip events after wait' l =
      let o = moved tick draws gossip events in
      let d = answer_of o.outcome in
      let m = subst (λ (z : Stepped). StepLeaves z after wait') (stepped_so tick draws gossip events) l in
      let back : NotDone d.reply → (outcome_of o.outcome ≡ _) × (from_wait o.wait ≡ wait_of wait) × (row_after (calls.packed o.outcome.messages) (lent gossip) ≡ lent gossip) × (row_after o.outcome.events (lent events) ≡ lent events) =
      λ u. step_unkept (node_of before) draws (lent gossip) (lent events) (outcome_of o.outcome) (row_after (calls.packed o.outcome.messages) (lent gossip)) (row_after o.outcome.events (lent events)) u (wait_of wait) (from_wait o.wait) tick
      (record { ends = record { answer = refl; spoken = refl; told = refl }; waits = refl }) in (
        m.0.again ∙ by_reply d.reply d.node (node_of before) (λ u. λ i. ((back u).0 i).answer.node),
        m.1 ∙ by_reply d.reply (from_wait o.wait) (wait_of wait) (λ u. (back u).1),
      )

  abbrev freed : ℕ → List (List ℕ) → calls.Outcome Addr
  freed tick events = timer_of (node_of before) tick (lent events)

  ended_so : (tick : ℕ) (events : List (List ℕ)) → ended_in before tick (length events) ≡ ended_of (freed tick events)
  unfolding ended_in
  ended_so tick events = λ i. ended_of (calls.end_timer here (stored_view (node_of before)) tick (record { gossip = 0; events = sym (length-map events gossip_of) i }))

  freed-node : (tick : ℕ) (events : List (List ℕ)) (after : Rows) → Leaves (ended_in before tick (length events)).answer.reply (ended_in before tick (length events)).answer.node before after
      → node_of after ≡ (answer_of (freed tick events)).node
  unfolding ended_of outcome_of
  freed-node tick events after l =
      let o = freed tick events in
      let d = answer_of o in
      (subst (λ (z : Ended). Leaves z.answer.reply z.answer.node before after) (ended_so tick events) l).again
      ∙ by_reply d.reply d.node (node_of before)
      (λ u. λ i. ((end_timer_unkept (node_of before) tick (lent events) (outcome_of o) (row_after o.events (lent events)) (record { answer = refl; told = refl }) u).0 i).answer.node)

-- the theorem: a run of C's calls is a run of the calls of `swim`
pub goes_runs : {r r' : Rows} {w w' : List ℕ} {cs : List (Call Addr)} → Goes r w cs r' w' → Runs (node_of r) (wait_of w) cs (node_of r') (wait_of w')
unfolding outcome_of
goes_runs (stops r w) = rests (node_of r) (wait_of w)
goes_runs (goes_on before wait _ after _ (adds_peer peer number draws code _ counts met) rest) =
    let d = answer_of (add_of (node_of before) (address_in peer) number draws) in
    onward (held before wait [] []) _ _ _ (node_of after) (wait_of wait) (adds (address_in peer) number draws d (record { answer = refl }))
    (added-node before wait peer number draws after met.node) refl (goes_runs rest)
goes_runs (goes_on before wait _ after _ (hears action records draws gossip events letters code _ gossip' events' letters' counts met) rest) =
    let o = heard before wait action records draws gossip events in
    onward (held before wait gossip events) _ _ _ (node_of after) (wait_of wait)
    (receives (action_of action) (map gossip_of records) draws (outcome_of o) _ _ (record { ends = record { answer = refl; spoken = refl; told = refl } }))
    (heard-node before wait action records draws gossip events after met.node) refl (goes_runs rest)
goes_runs (goes_on before wait _ after wait' (moves tick draws gossip events letters code _ _ gossip' events' letters' counts met) rest) =
    let o = moved before wait tick draws gossip events in
    let n = moved-node before wait tick draws gossip events after wait' (met.node, met.waits_again) in
    onward (held before wait gossip events) _ _ _ (node_of after) (wait_of wait')
    (steps tick draws (outcome_of o.outcome) (from_wait o.wait) _ _ (record { ends = record { answer = refl; spoken = refl; told = refl }; waits = refl }))
    n.0 n.1 (goes_runs rest)
goes_runs (goes_on before wait _ after _ (ends-timer tick events code _ events' counts met) rest) =
    let o = freed before wait tick events in
    onward (held before wait [] events) _ _ _ (node_of after) (wait_of wait) (ends_timer tick (outcome_of o) _ (record { answer = refl; told = refl }))
    (freed-node before wait tick events after met.node) refl (goes_runs rest)
goes_runs (goes_on before wait _ _ wait' (lends_wait _) rest) =
    onward (held before wait [] []) _ _ _ (node_of before) (wait_of wait') (lends (wait_of wait')) refl refl (goes_runs rest)
