-- Words that no value has are valid nowhere, so that the rules refuse them: in a node by 2, in an input by 5, in settings by 1. And which code says that a call was kept.
-- Assumes nothing.
use Rattle.std.specs.Prelude.{◌≡◌, refl, false, List, ℕ, ◌≤◌, ◌<◌, get_or}
use Rattle.std.proofs.Common.{ap, arith, le-ltb, ne_eqb}
use Rattle.model.specs.declared.Refusal.{Refusal}
use Rattle.model.specs.declared.Refusal.TheVariants as refusal
use Rattle.model.specs.declared.Reply.{Reply}
use Rattle.model.specs.declared.Reply.TheVariants as reply
use Rattle.model.specs.Answers.{number_of}
use Rattle.model.specs.Words.{parts_of}
use Rattle.model.specs.Sound.{in_range, valid_gossip}
use Rattle.model.specs.Calls.{valid_action, valid_state}
use Rattle.address.specs.Here.{Addr, here}
use Rattle.address.specs.Families as families
use Rattle.types.specs.declared.Event.{Event}
use Rattle.types.specs.declared.Event.TheVariants.{Joined}
use Rattle.types.specs.Views.{to_gossip, to_action}
use Rattle.wait.specs.Views.{to_state}
use Rattle.cwords.specs.Reading.{nowhere, address_of, settings_of, event_of, gossip_of, member_as, member_of, timer_as, timer_of, wait_of, action_as, action_of}
use Rattle.cwords.specs.Writing.{code_of}

pub nowhere_invalid : here.valid nowhere ≡ false
unfolding families.in_range
nowhere_invalid = refl

-- a family and a port of more than 24 bits
pub address_wide : (f h l : ℕ) → 16777216 ≤ f → address_of f h l ≡ nowhere
unfolding address_of
address_wide f h l k = rw (le-ltb f 16777216 k)

-- a kind that no event has
event_unknown : (k n : ℕ) (f s : Addr) → 4 < k → event_of k f s n ≡ Joined nowhere s n
unfolding event_of
event_unknown k n f s h =
    rw (ne_eqb k 1 (λ e. omega (arith, e)), ne_eqb k 2 (λ e. omega (arith, e)), ne_eqb k 3 (λ e. omega (arith, e)), ne_eqb k 4 (λ e. omega (arith, e)), ne_eqb k 0 (λ e. omega (arith, e)))

pub record_unknown : (w : List ℕ) → 4 < get_or w 0 0 → valid_gossip here (to_gossip (gossip_of w)) ≡ false
unfolding gossip_of valid_gossip parts_of families.in_range
record_unknown w h =
    ap (λ (v : Event). valid_gossip here (to_gossip (record { event = v })))
    (event_unknown (get_or w 0 0) (get_or w 7 0) (address_of (get_or w 1 0) (get_or w 2 0) (get_or w 3 0)) (address_of (get_or w 4 0) (get_or w 5 0) (get_or w 6 0)) h)

-- a state that no member has
pub member_unknown : (w : List ℕ) → 2 < get_or w 3 0 → (member_of w).addr ≡ nowhere
unfolding member_of member_as
member_unknown w h =
    rw (ne_eqb (get_or w 3 0) 0 (λ e. omega (arith, e)), ne_eqb (get_or w 3 0) 1 (λ e. omega (arith, e)), ne_eqb (get_or w 3 0) 2 (λ e. omega (arith, e)))

-- a tick of more than 32 bits
pub timer_wide : (w : List ℕ) → 4294967296 ≤ get_or w 4 0 → (timer_of w).addr ≡ nowhere
unfolding timer_of timer_as
timer_wide w h = rw (le-ltb (get_or w 4 0) 4294967296 h)

pub wait-wide : (w : List ℕ) → 4294967296 ≤ get_or w 5 0 → valid_state here (to_state (wait_of w).state) ≡ false
unfolding wait_of valid_state families.in_range
wait-wide w h = rw (le-ltb (get_or w 5 0) 4294967296 h)

-- a kind that no action has
pub action_unknown : (w : List ℕ) → 3 < get_or w 0 0 → valid_action here (to_action (action_of w)) ≡ false
unfolding action_of action_as valid_action families.in_range
action_unknown w h =
    rw (ne_eqb (get_or w 0 0) 1 (λ e. omega (arith, e)), ne_eqb (get_or w 0 0) 3 (λ e. omega (arith, e)), ne_eqb (get_or w 0 0) 2 (λ e. omega (arith, e)))

-- a switch that is neither on nor off
pub switch_unknown : (w : List ℕ) → 1 < get_or w 8 0 → in_range (settings_of w) ≡ false
unfolding settings_of in_range
switch_unknown w h = rw (le-ltb (get_or w 8 0) 2 (omega arith))

-- the replies of a call that was kept
abbrev pub Kept : Reply → Type 0
Kept (reply.Done used) = Unit {0}
Kept reply.Already = ⊥
Kept reply.NotDue = ⊥
Kept reply.Refuted = Unit {0}
Kept reply.Gone = Unit {0}
Kept (reply.Refused r) = ⊥
Kept (reply.RefusedAt r at) = ⊥

some_number : (r : Refusal) → 0 < number_of r
some_number refusal.Setting = omega arith
some_number refusal.Unsound = omega arith
some_number refusal.ShortRow = omega arith
some_number refusal.ManyRecords = omega arith
some_number refusal.AddressRange = omega arith
some_number refusal.NumberEnd = omega arith
some_number refusal.ListFull = omega arith
some_number refusal.DrawsShort = omega arith
some_number refusal.AliveFull = omega arith
some_number refusal.TimersFull = omega arith
some_number refusal.Malformed = omega arith
some_number refusal.NoRoom = omega arith
some_number refusal.DeceasedFull = omega arith
some_number refusal.WrongMark = omega arith
some_number refusal.WrongLength = omega arith
some_number refusal.OutOfRule = omega arith

-- "kept" is the code 0, and no other reply has it
pub kept_zero : (r : Reply) → Kept r → code_of r ≡ 0
kept_zero (reply.Done used) k = refl
kept_zero reply.Already k = absurd k
kept_zero reply.NotDue k = absurd k
kept_zero reply.Refuted k = refl
kept_zero reply.Gone k = refl
kept_zero (reply.Refused r) k = absurd k
kept_zero (reply.RefusedAt r at) k = absurd k

pub zero_kept : (r : Reply) → code_of r ≡ 0 → Kept r
zero_kept (reply.Done used) e = Prim.tt
zero_kept reply.Already e = absurd (omega (arith, e))
zero_kept reply.NotDue e = absurd (omega (arith, e))
zero_kept reply.Refuted e = Prim.tt
zero_kept reply.Gone e = Prim.tt
zero_kept (reply.Refused r) e = absurd (omega (arith, e, some_number r))
zero_kept (reply.RefusedAt r at) e = absurd (omega (arith, e, some_number r))
