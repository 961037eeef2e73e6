-- REFUSALS 2, 3, 4 AND 5 of add, message, step and timer call, in plain words and in their order: the node isn't sound; it is, and a row is short; neither, and more than 64 records come in; none of these,
-- and an address of the inputs is out of range.
-- Assumes nothing.
use Rattle.std.specs.Prelude.{◌≡◌, refl, ◌⊎◌, ◌↔◌, Bool, true, false, not, ◌&&◌, ◌||◌, List, [], ◌∷◌, ◌++◌, map, ℕ, ◌^◌, ◌≤◌, ◌<◌, eqb, ltb, length}
use Rattle.std.proofs.Common.{ap, sym, ◌∙◌, inl, inr, arith, lt-ltb, le-ltb, ltb-true, ltb-false, eq-eqb}
use Rattle.std.proofs.Math.Bool.{and_assoc, and-true, or-true}
use Rattle.std.proofs.Math.Option.{none, some}
use Rattle.std.proofs.lemmas.List.{length-map}
use Rattle.std.proofs.lemmas.Bool.{eqb-false, not-true, not-false}
use Rattle.model.specs.declared.Refusal.{Refusal}
use Rattle.model.specs.declared.Refusal.TheVariants.{Unsound, ShortRow, ManyRecords, AddressRange}
use Rattle.model.specs.Rows.{every}
use Rattle.model.specs.Answers.{number_of}
use Rattle.model.specs.Words as W
use Rattle.model.specs.Sound.{sound, valid_gossip}
use Rattle.model.specs.Calls.{reply_number, valid_action, valid_state}
use Rattle.laws.specs.Bools.{and_join}
use Rattle.address.specs.Here.{Addr, here}
use Rattle.address.specs.Families.{Six, Four, in_range_is, in_range-six, in_range_other}
use Rattle.types.specs.declared.Gossip.{Gossip}
use Rattle.types.specs.declared.Action.{Action}
use Rattle.types.specs.Views.{to_gossip, to_action}
use Rattle.node.specs.declared.Node.{Node}
use Rattle.node.specs.declared.Answer.{Answer}
use Rattle.node.specs.Views.{stored_view}
use Rattle.wait.specs.declared.Wait.{Wait}
use Rattle.wait.specs.Views.{to_wait}
use Rattle.swim.specs.declared.Outcome.{Outcome}
use Rattle.swim.specs.Promises.{Adds, Receives, Steps, EndsTimer}
use Rattle.promises.specs.Firsts.{FirstFails, fails, passes, Among}
use Rattle.promises.proofs.Firsts.{first-among}
use Rattle.laws_node.specs.Good.{FullRows}
use Rattle.promises.proofs.Exactly.{add_exactly, receive_exactly, step_exactly, end_timer_exactly}
use Rattle.plain_promises.specs.SoundNode.{RowsFit}
use Rattle.plain_promises.proofs.SoundNode.{unsound_plainly}
use Rattle.plain_promises.specs.Refusals.{of_action, of_event, of_records, of_state, all_in_range, Short, Enough}

-- and in range means: IPv6 of two halves below 2^64, or IPv4 of one number below 2^32 and nothing above it; a port below 65536
pub in_range_plainly : (a : Addr) → (here.valid a ≡ true) ↔ (Six a ⊎ Four a)
in_range_plainly a = ((λ e. in_range_is a (Six a ⊎ Four a) e (λ s. inl s) (λ f. inr f)), if)
  where
    if : Six a ⊎ Four a → here.valid a ≡ true
    if (inl s) = sym (in_range-six a s.port s.high s.low s.family)
    if (inr f) =
        let few : (eqb a.high 0 && ltb a.low (2 ^ 32)) ≡ true = and_join (eq-eqb a.high 0 f.high) (lt-ltb a.low (2 ^ 32) f.low) in
        let four : (eqb a.family 4 && true) ≡ true = and_join (eq-eqb a.family 4 f.family) refl in
        sym (in_range_other a true true f.port (λ e. absurd (omega (arith, e, f.family))) (sym few) (sym four))

-- ---- the rules' tests in these words
range_append : (l m : List Addr) → all_in_range (l ++ m) ≡ (all_in_range l && all_in_range m)
range_append [] m = refl
range_append (a ∷ l) m = ap (λ (u : Bool). here.valid a && u) (range_append l m) ∙ sym (and_assoc (here.valid a) (all_in_range l) (all_in_range m))

two : (a b : Addr) → (here.valid a && here.valid b) ≡ all_in_range (a ∷ b ∷ [])
two a b = ap (λ (u : Bool). here.valid a && u) (sym (and-true (here.valid b)))

action_is : (x : W.Action Addr) → valid_action here x ≡ all_in_range (of_action x)
unfolding valid_action
action_is (W.Ping from none) = refl
action_is (W.Ping from (some by)) = two from by
action_is (W.PingReq from suspect) = two from suspect
action_is (W.Ack from none) = refl
action_is (W.Ack from (some to)) = two from to

event_is : (e : W.Event Addr) → valid_gossip here (record { event = e }) ≡ all_in_range (of_event e)
unfolding valid_gossip W.parts_of
event_is W.Nothing = refl
event_is (W.Joined from a n) = two from a
event_is (W.Recovered from a n) = two from a
event_is (W.Suspected from a n) = two from a
event_is (W.Deceased from a n) = two from a

records_are : (gs : List (W.Gossip Addr)) → every (valid_gossip here) gs ≡ all_in_range (of_records gs)
records_are [] = refl
records_are (g ∷ gs) =
    (λ i. event_is g.event i && records_are gs i) ∙ sym (range_append (of_event g.event) (of_records gs))

message_is : (x : W.Action Addr) (gs : List (W.Gossip Addr)) → (valid_action here x && every (valid_gossip here) gs) ≡ all_in_range (of_action x ++ of_records gs)
message_is x gs = (λ i. action_is x i && records_are gs i) ∙ sym (range_append (of_action x) (of_records gs))

state_is : (st : W.WaitState Addr) → valid_state here st ≡ all_in_range (of_state st)
unfolding valid_state
state_is W.SendingPing = refl
state_is (W.WaitingForPingAck a n) = sym (and-true (here.valid a))
state_is (W.SendingPingReq a n) = sym (and-true (here.valid a))
state_is (W.WaitingForPingReqAck a n) = sym (and-true (here.valid a))
state_is (W.Declaring a n) = sym (and-true (here.valid a))

-- ---- a test among others
unlike : {x y : Refusal} → eqb (number_of x) (number_of y) ≡ false → x ≡ y → ⊥
unlike {x} {y} e q = eqb-false (number_of x) (number_of y) e (ap number_of q)

-- the first test of a list, if no later one gives its refusal; and one behind another
first_is : {b : Bool} {x : Refusal} {ts : List (Bool × Refusal)} → Among (λ y. y ≡ x → ⊥) ts → FirstFails x ((b, x) ∷ ts) ↔ (b ≡ true)
first_is {b} {x} {ts} apart = (only, (λ e. fails e refl))
  where
    only : FirstFails x ((b, x) ∷ ts) → b ≡ true
    only (fails p q) = p
    only (passes p f) = absurd (first-among (λ y. y ≡ x → ⊥) f apart refl)

behind : {P : Type 0} {b : Bool} {y x : Refusal} {ts : List (Bool × Refusal)} → (y ≡ x → ⊥) → FirstFails x ts ↔ P → FirstFails x ((b, y) ∷ ts) ↔ ((b ≡ false) × P)
behind {P} {b} {y} {x} {ts} apart h = (only, (λ p. passes p.0 (h.1 p.1)))
  where
    only : FirstFails x ((b, y) ∷ ts) → (b ≡ false) × P
    only (fails p q) = absurd (apart q)
    only (passes p f) = (p, h.0 f)

then : {P Q R : Type 0} → P ↔ Q → Q ↔ R → P ↔ R
then f g = ((λ p. g.0 (f.0 p)), (λ r. f.1 (g.1 r)))

both : {P P' Q Q' : Type 0} → P ↔ P' → Q ↔ Q' → (P × Q) ↔ (P' × Q')
both f g = ((λ p. (f.0 p.0, g.0 p.1)), (λ p. (f.1 p.0, g.1 p.1)))

unsound : (u : Bool) → (not u ≡ true) ↔ (u ≡ false)
unsound u = ((λ e. not-true u e), (λ e. ap not e))

is_sound : (u : Bool) → (not u ≡ false) ↔ (u ≡ true)
is_sound u = ((λ e. not-false u e), (λ e. ap not e))

out : {u v : Bool} → u ≡ v → (not u ≡ true) ↔ (v ≡ false)
out {u} e = ((λ p. sym e ∙ not-true u p), (λ p. ap not (e ∙ p)))

short_is : (x g y e : ℕ) → ((ltb x g || ltb y e) ≡ true) ↔ ((x < g) ⊎ (y < e))
short_is x g y e = (only (ltb x g) (ltb y e) (ltb-true x g) (ltb-true y e), if)
  where
    only : (u v : Bool) → (u ≡ true → x < g) → (v ≡ true → y < e) → (u || v) ≡ true → (x < g) ⊎ (y < e)
    only true v p q h = inl (p refl)
    only false v p q h = inr (q h)

    if : (x < g) ⊎ (y < e) → (ltb x g || ltb y e) ≡ true
    if (inl h) = rw (lt-ltb x g h) refl
    if (inr h) = rw (lt-ltb y e h) (or-true (ltb x g))

enough_is : (x g y e : ℕ) → ((ltb x g || ltb y e) ≡ false) ↔ ((g ≤ x) × (e ≤ y))
enough_is x g y e = (only (ltb x g) (ltb y e) (ltb-false x g) (ltb-false y e), (λ h. rw (le-ltb x g h.0) (le-ltb y e h.1)))
  where
    only : (u v : Bool) → (u ≡ false → g ≤ x) → (v ≡ false → e ≤ y) → (u || v) ≡ false → (g ≤ x) × (e ≤ y)
    only true v p q h = let z : ◌≡◌ {A = ℕ} 0 1 = cc in absurd (omega arith)
    only false v p q h = (p refl, q h)

many_is : {n m : ℕ} → n ≡ m → (ltb 64 n ≡ true) ↔ (64 < m)
many_is {n} {m} e = ((λ p. let l : 64 < n = ltb-true 64 n p in omega (arith, l, e)), (λ h. lt-ltb 64 n (omega (arith, h, e))))

few_is : {n m : ℕ} → n ≡ m → (ltb 64 n ≡ false) ↔ (m ≤ 64)
few_is {n} {m} e = ((λ p. let l : n ≤ 64 = ltb-false 64 n p in omega (arith, l, e)), (λ h. le-ltb 64 n (omega (arith, h, e))))

-- ---- adding a peer: 2, then 5
module _ (node : Node) (a : Addr) (number : ℕ) (draws : List ℕ) (r : Answer) (met : Adds node a number draws r) where
  pub add_2 : (reply_number r.reply ≡ 2) ↔ (sound here (stored_view node) ≡ false)
  add_2 = then (add_exactly Unsound (omega arith) node a number draws r met) (then (first_is (unlike refl, tt)) (unsound _))

  -- and what sound means, in numbers and comparisons, of a node whose rows are as long as their arrays
  pub add_2_plainly : FullRows (stored_view node) → (reply_number r.reply ≡ 2) ↔ (RowsFit (stored_view node) → ⊥)
  add_2_plainly full = then add_2 (unsound_plainly (stored_view node) full)

  pub add_5 : (reply_number r.reply ≡ 5) ↔ ((sound here (stored_view node) ≡ true) × (here.valid a ≡ false))
  add_5 =
      then (add_exactly AddressRange (omega arith) node a number draws r met)
      (then (behind (unlike refl) (first_is tt)) (both (is_sound _) (unsound _)))

-- ---- the message: 2, 3, 4, 5
module _ (node : Node) (action : Action) (rows : List Gossip) (draws : List ℕ) (gossip events : List Gossip) (r : Outcome) (g e : List Gossip) (met : Receives node action rows draws gossip events r g e) where
  records-long : length (map to_gossip rows) ≡ length rows
  records-long = length-map rows to_gossip

  pub receive_2 : (reply_number r.answer.reply ≡ 2) ↔ (sound here (stored_view node) ≡ false)
  receive_2 =
      then (receive_exactly Unsound (omega arith) node action rows draws gossip events r g e met)
      (then (first_is (unlike refl, (unlike refl, (unlike refl, tt)))) (unsound _))

  -- and what sound means, in numbers and comparisons, of a node whose rows are as long as their arrays
  pub receive_2_plainly : FullRows (stored_view node) → (reply_number r.answer.reply ≡ 2) ↔ (RowsFit (stored_view node) → ⊥)
  receive_2_plainly full = then receive_2 (unsound_plainly (stored_view node) full)

  pub receive_3 : (reply_number r.answer.reply ≡ 3) ↔ ((sound here (stored_view node) ≡ true) × Short 64 65 gossip events)
  receive_3 =
      then (receive_exactly ShortRow (omega arith) node action rows draws gossip events r g e met)
      (then (behind (unlike refl) (first_is (unlike refl, (unlike refl, tt))))
      (both (is_sound _) (short_is (length gossip) 64 (length events) 65)))

  pub receive_4 : (reply_number r.answer.reply ≡ 4) ↔ ((sound here (stored_view node) ≡ true) × (Enough 64 65 gossip events × (64 < length rows)))
  receive_4 =
      then (receive_exactly ManyRecords (omega arith) node action rows draws gossip events r g e met)
      (then (behind (unlike refl) (behind (unlike refl) (first_is (unlike refl, tt))))
      (both (is_sound _) (both (enough_is (length gossip) 64 (length events) 65) (many_is records-long))))

  pub receive_5 : (reply_number r.answer.reply ≡ 5)
      ↔ ((sound here (stored_view node) ≡ true) × (Enough 64 65 gossip events × ((length rows ≤ 64) × (all_in_range (of_action (to_action action) ++ of_records (map to_gossip rows)) ≡ false))))
  receive_5 =
      then (receive_exactly AddressRange (omega arith) node action rows draws gossip events r g e met)
      (then (behind (unlike refl) (behind (unlike refl) (behind (unlike refl) (first_is tt))))
      (both (is_sound _) (both (enough_is (length gossip) 64 (length events) 65) (both (few_is records-long) (out (message_is (to_action action) (map to_gossip rows)))))))

-- ---- the detector step: 2, 3, 5
module _ (node : Node) (wait : Wait) (tick : ℕ) (draws : List ℕ) (gossip events : List Gossip) (r : Outcome) (w : Wait) (g e : List Gossip) (met : Steps node wait tick draws gossip events r w g e) where
  pub step_2 : (reply_number r.answer.reply ≡ 2) ↔ (sound here (stored_view node) ≡ false)
  step_2 =
      then (step_exactly Unsound (omega arith) node wait tick draws gossip events r w g e met)
      (then (first_is (unlike refl, (unlike refl, tt))) (unsound _))

  -- and what sound means, in numbers and comparisons, of a node whose rows are as long as their arrays
  pub step_2_plainly : FullRows (stored_view node) → (reply_number r.answer.reply ≡ 2) ↔ (RowsFit (stored_view node) → ⊥)
  step_2_plainly full = then step_2 (unsound_plainly (stored_view node) full)

  pub step_3 : (reply_number r.answer.reply ≡ 3) ↔ ((sound here (stored_view node) ≡ true) × Short 256 1 gossip events)
  step_3 =
      then (step_exactly ShortRow (omega arith) node wait tick draws gossip events r w g e met)
      (then (behind (unlike refl) (first_is (unlike refl, tt))) (both (is_sound _) (short_is (length gossip) 256 (length events) 1)))

  pub step_5 : (reply_number r.answer.reply ≡ 5) ↔ ((sound here (stored_view node) ≡ true) × (Enough 256 1 gossip events × (all_in_range (of_state (to_wait wait).state) ≡ false)))
  step_5 =
      then (step_exactly AddressRange (omega arith) node wait tick draws gossip events r w g e met)
      (then (behind (unlike refl) (behind (unlike refl) (first_is tt)))
      (both (is_sound _) (both (enough_is (length gossip) 256 (length events) 1) (out (state_is (to_wait wait).state)))))

-- ---- the timer call: 2, then 3. It needs no row for gossip
module _ (node : Node) (tick : ℕ) (events : List Gossip) (r : Outcome) (e : List Gossip) (met : EndsTimer node tick events r e) where
  pub timer_2 : (reply_number r.answer.reply ≡ 2) ↔ (sound here (stored_view node) ≡ false)
  timer_2 = then (end_timer_exactly Unsound (omega arith) node tick events r e met) (then (first_is (unlike refl, tt)) (unsound _))

  -- and what sound means, in numbers and comparisons, of a node whose rows are as long as their arrays
  pub timer_2_plainly : FullRows (stored_view node) → (reply_number r.answer.reply ≡ 2) ↔ (RowsFit (stored_view node) → ⊥)
  timer_2_plainly full = then timer_2 (unsound_plainly (stored_view node) full)

  pub timer_3 : (reply_number r.answer.reply ≡ 3) ↔ ((sound here (stored_view node) ≡ true) × (length events < 1))
  timer_3 =
      then (end_timer_exactly ShortRow (omega arith) node tick events r e met)
      (then (behind (unlike refl) (first_is tt)) (both (is_sound _) ((λ p. only ((short_is 0 0 (length events) 1).0 p)), (λ h. (short_is 0 0 (length events) 1).1 (inr h)))))
    where
      only : (0 < 0) ⊎ (length events < 1) → length events < 1
      only (inl h) = absurd (omega (arith, h))
      only (inr h) = h
