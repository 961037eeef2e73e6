-- EXACTLY, 1 TO 5. A call of `swim` gives the number of one of these refusals exactly if its test is the first of the call's list that fails.
-- Assumes nothing.
use Rattle.std.specs.Prelude.{◌≡◌, refl, ◌↔◌, Bool, true, false, List, [], ◌∷◌, map, ℕ, ◌<◌, get_or, ltb}
use Rattle.std.proofs.Common.{sym, ◌∙◌, ap}
use Rattle.std.proofs.Math.ListN.{length}
use Rattle.model.specs.declared.State.{State}
use Rattle.model.specs.declared.Refusal.{Refusal}
use Rattle.model.specs.declared.Settings.{Settings}
use Rattle.model.specs.Answers.{number_of}
use Rattle.model.specs.Rows.{pick}
use Rattle.address.specs.Here.{Addr, here}
use Rattle.model.specs.Words as W
use Rattle.model.specs.Node as M
use Rattle.model.specs.Calls as calls
use Rattle.model.specs.Calls.{reply_number, first_of}
use Rattle.types.specs.declared.Gossip.{Gossip}
use Rattle.types.specs.declared.Action.{Action}
use Rattle.types.specs.Views.{to_gossip, to_action}
use Rattle.node.specs.declared.Node.{Node}
use Rattle.node.specs.declared.Answer.{Answer}
use Rattle.node.specs.Views.{stored_view, answer_of, created_of}
use Rattle.wait.specs.declared.Wait.{Wait}
use Rattle.wait.specs.Views.{to_wait}
use Rattle.swim.specs.declared.Outcome.{Outcome}
use Rattle.swim.specs.declared.lookup.Lookup.{Lookup}
use Rattle.swim.specs.declared.lookup.Lookup.TheVariants as look
use Rattle.swim.specs.declared.lookup.Tally.{Tally}
use Rattle.swim.specs.declared.lookup.Tally.TheVariants as tally
use Rattle.swim.specs.Lookups.{handed, node_test, address_test, look_up, how_many, member_at, lookup_number, tally_number}
use Rattle.swim.specs.Promises.{room, outcome_of, Creates, Adds, Receives, Steps, EndsTimer}
use Rattle.promises.proofs.Replies.{same_number, not_zero}
use Rattle.promises.specs.Firsts.{FirstFails}
use Rattle.promises.proofs.Firsts.{all_among, after-tests, by_tests}
use Rattle.promises.proofs.Given.{add-table, message-table, step-table, timer_table}
use Rattle.promises.specs.Exactly.{ByTests}

-- what is said of what a contract names is said of a result
pub as_told : {R : Type 0} {result told y : R} {P : Type 0} → result ≡ told → (told ≡ y) ↔ P → (result ≡ y) ↔ P
as_told e h = ((λ q. h.0 (sym e ∙ q)), (λ p. e ∙ h.1 p))

pub only-tests : {B : Type 0} (number : B → ℕ) (refuse : Refusal → B) → ((r : Refusal) → number (refuse r) ≡ number_of r) → (go : B) → number go ≡ 0
    → (ts : List (Bool × Refusal)) {n : ℕ} → n ≡ number (first_of ts refuse go) → ByTests n ts
only-tests number refuse says go zero ts told =
    let after = after-tests number number_of refuse says go 0 ts (all_among (λ r e. not_zero r (sym e)) ts) in
    record {
      refuses = λ x. as_told told (by_tests number number_of refuse says go same_number x (λ e. not_zero x (sym zero ∙ e)) ts);
      gives = as_told told ((λ e. (after.0 e).0), (λ p. after.1 (p, zero)));
    }

pub create_exactly : (settings : Settings) (own : Addr) (number : ℕ) (r : Answer) → Creates settings own number r → ByTests (reply_number r.reply) (calls.create_tests here settings own)
unfolding calls.create created_of
create_exactly settings own number r met =
    only-tests (λ (c : calls.Created Addr). reply_number (created_of c).reply) calls.not_created (λ y. refl) _ refl (calls.create_tests here settings own) (λ i. reply_number (met.answer i).reply)

-- what is found of an address, or at a place, has the number 0
found : (u : Bool) (a : Addr) (state : State) (number : ℕ) → lookup_number (pick u (look.Listed a state number) look.NotListed) ≡ 0
found true a state number = refl
found false a state number = refl

pub look_up_exactly : (node : Node) (a : Addr) (r : Lookup) → r ≡ look_up node a → ByTests (lookup_number r) (node_test node ∷ address_test a ∷ [])
unfolding look_up
look_up_exactly node a r met =
    only-tests lookup_number look.Refused (λ y. refl) _ (found (M.lists here a (handed node)) a (M.state_of here a (handed node)) (M.numbered here a (handed node))) (node_test node ∷ address_test a ∷ []) (ap lookup_number met)

pub member_at_exactly : (node : Node) (place : ℕ) (r : Lookup) → r ≡ member_at node place → ByTests (lookup_number r) (node_test node ∷ [])
unfolding member_at
member_at_exactly node place r met =
    let table = (handed node).members.table in
    let m = get_or table place (W.blank_member here) in
    only-tests lookup_number look.Refused (λ y. refl) _ (found (ltb place (length table)) m.addr m.state m.number) (node_test node ∷ []) (ap lookup_number met)

pub how_many_exactly : (node : Node) (r : Tally) → r ≡ how_many node → ByTests (tally_number r) (node_test node ∷ [])
unfolding how_many
how_many_exactly node r met = only-tests tally_number tally.Refused (λ y. refl) _ refl (node_test node ∷ []) (ap tally_number met)

-- ---- the calls that change a node: 6 to 10, "already" and "not due" are in Table.antt
module _ (x : Refusal) (low : number_of x < 6) where
  pub add_exactly : (node : Node) (a : Addr) (number : ℕ) (draws : List ℕ) (r : Answer) → Adds node a number draws r → (reply_number r.reply ≡ number_of x) ↔ FirstFails x (calls.add_tests here (stored_view node) a)
  unfolding answer_of
  add_exactly node a number draws r met = as_told (λ i. reply_number (met.answer i).reply) ((add-table here (stored_view node) a number draws).tests x low)

  pub receive_exactly : (node : Node) (action : Action) (rows : List Gossip) (draws : List ℕ) (gossip events : List Gossip) (r : Outcome) (g e : List Gossip) → Receives node action rows draws gossip events r g e
      → (reply_number r.answer.reply ≡ number_of x) ↔ FirstFails x (calls.message_tests here (stored_view node) (to_action action) (map to_gossip rows) (room gossip events))
  unfolding outcome_of answer_of
  receive_exactly node action rows draws gossip events r g e met =
      as_told (λ i. reply_number (met.ends.answer i).answer.reply) ((message-table here (stored_view node) (to_action action) (map to_gossip rows) draws (room gossip events)).tests x low)

  pub step_exactly : (node : Node) (wait : Wait) (tick : ℕ) (draws : List ℕ) (gossip events : List Gossip) (r : Outcome) (w : Wait) (g e : List Gossip) → Steps node wait tick draws gossip events r w g e
      → (reply_number r.answer.reply ≡ number_of x) ↔ FirstFails x (calls.step_tests here (stored_view node) (to_wait wait) (room gossip events))
  unfolding outcome_of answer_of
  step_exactly node wait tick draws gossip events r w g e met =
      as_told (λ i. reply_number (met.ends.answer i).answer.reply) ((step-table here (stored_view node) (to_wait wait) tick draws (room gossip events)).tests x low)

  pub end_timer_exactly : (node : Node) (tick : ℕ) (events : List Gossip) (r : Outcome) (e : List Gossip) → EndsTimer node tick events r e
      → (reply_number r.answer.reply ≡ number_of x) ↔ FirstFails x (calls.timer_tests here (stored_view node) (record { gossip = 0; events = length events }))
  unfolding outcome_of answer_of
  end_timer_exactly node tick events r e met =
      as_told (λ i. reply_number (met.answer i).answer.reply) ((timer_table here (stored_view node) tick (record { gossip = 0; events = length events })).tests x low)
