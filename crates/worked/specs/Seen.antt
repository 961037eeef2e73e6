-- What is seen of an answer: its parts in a row of numbers. Two answers of which different things are seen are different.
-- Assumes nothing.
use Rattle.std.specs.Prelude.{◌≡◌, refl, Bool, true, false, not, ◌&&◌, List, [], ◌∷◌, ◌++◌, ℕ, length, eqb}
use Rattle.std.proofs.Common.{ap, sym, ◌∙◌, arith, eq-eqb, eqb-true}
use Rattle.std.proofs.Math.Option.{Option, none, some}
use Rattle.model.specs.declared.State.{State}
use Rattle.model.specs.declared.State.TheVariants.{Alive, Pending}
use Rattle.model.specs.declared.State.TheVariants as state
use Rattle.model.specs.declared.Lamps.{Lamps}
use Rattle.model.specs.declared.Reply.{Reply}
use Rattle.model.specs.declared.Cause.{Cause}
use Rattle.model.specs.declared.Cause.TheVariants.{Record, Sender}
use Rattle.model.specs.declared.Reply.TheVariants.{Done, Already, NotDue, Refuted, Gone, Refused, RefusedAt}
use Rattle.model.specs.Rows.{one}
use Rattle.laws.specs.Bools.{and_split}
use Rattle.model.specs.Answers.{Answer, done, refused, number_of}
use Rattle.worked.specs.Numbered.{ipv4}
use Rattle.model.specs.Words.{Gossip, Entry, Member, Timer, Wait, WaitState, SendingPing, WaitingForPingAck, SendingPingReq, WaitingForPingReqAck, Declaring, Action, Ping, PingReq, Ack, Message, parts_of}
use Rattle.model.specs.Choose.{Terms, Choice}
use Rattle.model.specs.Members.{Members, Picked}
use Rattle.model.specs.Node.{Node, Out, Effect, loaded}
use Rattle.model.specs.Detector.{Stepped}
use Rattle.model.specs.Calls.{Outcome, StepOutcome}

abbrev pub same_numbers : List ℕ → List ℕ → Bool
same_numbers [] [] = true
same_numbers [] (y ∷ m) = false
same_numbers (x ∷ l) [] = false
same_numbers (x ∷ l) (y ∷ m) = eqb x y && same_numbers l m

same-itself : (l : List ℕ) → same_numbers l l ≡ true
same-itself [] = refl
same-itself (x ∷ l) = rw (eq-eqb x x refl, same-itself l)

-- what the test tells apart is different, and what it finds equal is equal
pub told_apart : (l m : List ℕ) → not (same_numbers l m) ≡ true → l ≡ m → ⊥
told_apart l m e p =
    let z : ◌≡◌ {A = ℕ} 0 1 = ap one (sym (ap not (ap (same_numbers l) (sym p) ∙ same-itself l)) ∙ e) in
    absurd (omega arith)

pub told_equal : (l m : List ℕ) → same_numbers l m ≡ true → l ≡ m
told_equal [] [] e = refl
told_equal [] (y ∷ m) e = cc
told_equal (x ∷ l) [] e = cc
told_equal (x ∷ l) (y ∷ m) e =
    let p = and_split (eqb x y) (same_numbers l m) e in
    rw (eqb-true x y p.0, told_equal l m p.1)

abbrev pub each : {B : Type 0} → (B → List ℕ) → List B → List ℕ
each f [] = []
each f (x ∷ l) = f x ++ each f l

-- a list's length comes before it
abbrev pub counted : {B : Type 0} → (B → List ℕ) → List B → List ℕ
counted f l = length l ∷ each f l

abbrev pub itself : ℕ → List ℕ
itself n = n ∷ []

abbrev pub of_test : Bool → List ℕ
of_test b = one b ∷ []

abbrev pub of_option : Option ℕ → List ℕ
of_option none = []
of_option (some n) = n ∷ []

-- the refusal's number, or 0 with what is given and the draws that are left
abbrev pub of_answer : {B : Type 0} → (B → List ℕ) → Answer B → List ℕ
of_answer f (refused r) = number_of r ∷ []
of_answer f (done b rest) = 0 ∷ f b ++ counted itself rest

abbrev pub of_gossip : Gossip ℕ → List ℕ
of_gossip g =
    let p = parts_of ipv4 g.event in
    p.kind ∷ p.from ∷ p.subject ∷ p.number ∷ []

abbrev pub of_entry : Entry ℕ → List ℕ
of_entry e = e.sends ∷ e.size ∷ of_gossip e.gossip

abbrev pub state_number : State → ℕ
state_number Alive = 0
state_number Pending = 1
state_number state.Suspected = 2

abbrev pub of_member : Member ℕ → List ℕ
of_member m = m.addr ∷ state_number m.state ∷ m.number ∷ []

abbrev pub of_members : Members ℕ → List ℕ
of_members m = m.position ∷ counted of_member m.table ++ counted itself m.order

abbrev pub of_picked : Picked ℕ → List ℕ
of_picked p = counted itself p.picks ++ of_members p.members

abbrev pub of_timer : Timer ℕ → List ℕ
of_timer t = t.addr ∷ t.number ∷ t.since ∷ []

abbrev pub of_node : Node ℕ → List ℕ
of_node s = of_members s.members ++ counted of_entry s.disseminator.alive ++ counted of_entry s.disseminator.deceased ++ counted of_timer s.timers

abbrev pub of_out : Out ℕ → List ℕ
of_out o = o.collected ∷ counted of_gossip o.said ++ of_node o.node

abbrev pub of_action : Action ℕ → List ℕ
of_action (Ping from by) = 0 ∷ from ∷ of_option by
of_action (PingReq from suspect) = 1 ∷ from ∷ suspect ∷ []
of_action (Ack from to) = 2 ∷ from ∷ of_option to

abbrev pub of_message : Message ℕ → List ℕ
of_message m = m.target ∷ of_action m.action ++ counted of_gossip m.gossip

abbrev pub of_effect : Effect ℕ → List ℕ
of_effect e = e.collected ∷ counted of_message e.messages ++ counted of_gossip e.events ++ of_node e.node

abbrev pub of_state : WaitState ℕ → List ℕ
of_state SendingPing = 0 ∷ []
of_state (WaitingForPingAck a n) = 1 ∷ a ∷ n ∷ []
of_state (SendingPingReq a n) = 2 ∷ a ∷ n ∷ []
of_state (WaitingForPingReqAck a n) = 3 ∷ a ∷ n ∷ []
of_state (Declaring a n) = 4 ∷ a ∷ n ∷ []

abbrev pub of_wait : Wait ℕ → List ℕ
of_wait w = w.since ∷ of_state w.state

abbrev pub of_stepped : Stepped ℕ → List ℕ
of_stepped s = of_wait s.wait ++ of_effect s.effect

abbrev pub of_lamps : Lamps → List ℕ
of_lamps l = l.alive ∷ l.pending ∷ l.suspected ∷ []

abbrev pub of_terms : Terms → List ℕ
of_terms t = t.alive_share ∷ t.deceased_share ∷ t.max_size ∷ t.limit ∷ []

abbrev pub of_choice : Choice ℕ → List ℕ
of_choice c = counted of_gossip c.chosen ++ counted of_entry c.alive ++ counted of_entry c.deceased

-- where the rules of a message stopped
abbrev pub of_cause : Cause → List ℕ
of_cause (Record k) = 0 ∷ k ∷ []
of_cause Sender = 1 ∷ []

-- a refusal has its number, which is below 100
abbrev pub of_reply : Reply → List ℕ
of_reply (Done used) = 0 ∷ used ∷ []
of_reply Already = 100 ∷ []
of_reply NotDue = 101 ∷ []
of_reply Refuted = 102 ∷ []
of_reply Gone = 103 ∷ []
of_reply (Refused r) = number_of r ∷ []
of_reply (RefusedAt r at) = number_of r ∷ of_cause at

-- of a call: how it ended, what is sent and reported, and the node that the rows hold
abbrev pub of_outcome : Outcome ℕ → List ℕ
of_outcome o = of_reply o.reply ++ of_effect (record { node = loaded o.node; messages = o.messages; events = o.events; collected = o.collected })

abbrev pub of_step : StepOutcome ℕ → List ℕ
of_step o = of_wait o.wait ++ of_outcome o.outcome
