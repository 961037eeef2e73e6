-- THE CONDITIONS OF THE REASONS, in the order of the paper: over the own address, the list, D and the event alone. Neither the judge nor the handler is named here.
-- Assumes nothing.
use Rattle.std.specs.Prelude.{◌≡◌, true, false, List, ℕ, ◌+◌, max, ◌≤◌, ◌<◌}
use Rattle.std.proofs.Math.Option.{Option, none, some}
use Rattle.model.specs.declared.State.{State}
use Rattle.model.specs.Words.{Address, is_alive, Member, Event, Nothing, Joined, Recovered, Suspected, Deceased}
use Rattle.model.specs.Members.{listed, held, held_state}
use Rattle.promises.specs.Stops.{plus_one_or0}
use Rattle.why.specs.declared.Reason.{Reason}
use Rattle.why.specs.declared.Reason.TheVariants as reason

-- "raised by a held death": there is one, and D + 1 is greater than the event's number; or there is none, or D + 1 is no greater
pub data RaisedBy : Option ℕ → ℕ → Type 0 where
  greater : {d n : ℕ} → n < d + 1 → RaisedBy (some d) n

pub data AsItCame : Option ℕ → ℕ → Type 0 where
  no_death : {n : ℕ} → AsItCame none n
  no_greater : {d n : ℕ} → d + 1 ≤ n → AsItCame (some d) n

module _ {A : Type 0} (address : Address A) (own : A) (t : List (Member A)) (d : Option ℕ) where
  abbrev pub Listed : A → Type 0
  Listed a = listed address.same a t ≡ true

  abbrev pub Absent : A → Type 0
  Absent a = listed address.same a t ≡ false

  abbrev pub IsSelf : A → Type 0
  IsSelf a = address.same own a ≡ true

  abbrev pub Other : A → Type 0
  Other a = address.same own a ≡ false

  -- the held number and state
  abbrev pub held_at : A → ℕ
  held_at a = held address.same a t

  abbrev pub state_at : A → State
  state_at a = held_state address.same a t

  -- "none is skipped"
  pub data IsNone : Event A → Type 0 where
    no_event : IsNone Nothing

  -- "own address (Suspected only)"
  pub data IsOwn : Event A → Type 0 where
    own-suspected : {f a : A} {n : ℕ} → IsSelf a → IsOwn (Suspected f a n)

  -- "unknown address (not Joined)"
  pub data IsUnknown : Event A → Type 0 where
    unknown_recovered : {f a : A} {n : ℕ} → Absent a → IsUnknown (Recovered f a n)
    unknown_suspected : {f a : A} {n : ℕ} → Other a → Absent a → IsUnknown (Suspected f a n)
    unknown_deceased : {f a : A} {n : ℕ} → Absent a → IsUnknown (Deceased f a n)

  -- "equal number but not Alive (Suspected only)": Pending is not Alive
  pub data IsEqual : Event A → Type 0 where
    equal_suspected : {f a : A} {n : ℕ} → Other a → Listed a → is_alive (state_at a) ≡ false → n ≡ held_at a → IsEqual (Suspected f a n)

  -- "any other number not high enough"
  pub data IsLow : Event A → Type 0 where
    low_joined : {f a : A} {n : ℕ} → Listed a → max (plus_one_or0 d) n ≤ held_at a → IsLow (Joined f a n)
    low_recovered : {f a : A} {n : ℕ} → Listed a → n ≤ held_at a → IsLow (Recovered f a n)
    low_suspected : {f a : A} {n : ℕ} → Other a → Listed a → n < held_at a → IsLow (Suspected f a n)
    low_deceased : {f a : A} {n : ℕ} → Listed a → n < held_at a → IsLow (Deceased f a n)

  -- what is accepted: "Joined .. Listed: if greater .. Absent: add", "Recovered: listed and greater", "Other, listed: if Alive and ≥, or not Alive and >", "Deceased: listed and ≥"
  pub data HighEnough : Event A → Type 0 where
    new-joined : {f a : A} {n : ℕ} → Absent a → HighEnough (Joined f a n)
    higher_joined : {f a : A} {n : ℕ} → Listed a → held_at a < max (plus_one_or0 d) n → HighEnough (Joined f a n)
    higher_recovered : {f a : A} {n : ℕ} → Listed a → held_at a < n → HighEnough (Recovered f a n)
    alive-suspected : {f a : A} {n : ℕ} → Other a → Listed a → is_alive (state_at a) ≡ true → held_at a ≤ n → HighEnough (Suspected f a n)
    other_suspected : {f a : A} {n : ℕ} → Other a → Listed a → is_alive (state_at a) ≡ false → held_at a < n → HighEnough (Suspected f a n)
    no_lower-deceased : {f a : A} {n : ℕ} → Listed a → held_at a ≤ n → HighEnough (Deceased f a n)

  -- "accepted with the number raised by a held death": D plays a part for a Joined alone
  pub data IsRaised : Event A → Type 0 where
    raised-joined : {f a : A} {n : ℕ} → HighEnough (Joined f a n) → RaisedBy d n → IsRaised (Joined f a n)

  -- "or accepted as it came"
  pub data IsAccepted : Event A → Type 0 where
    accepted_joined : {f a : A} {n : ℕ} → HighEnough (Joined f a n) → AsItCame d n → IsAccepted (Joined f a n)
    accepted_recovered : {f a : A} {n : ℕ} → HighEnough (Recovered f a n) → IsAccepted (Recovered f a n)
    accepted_suspected : {f a : A} {n : ℕ} → HighEnough (Suspected f a n) → IsAccepted (Suspected f a n)
    accepted_deceased : {f a : A} {n : ℕ} → HighEnough (Deceased f a n) → IsAccepted (Deceased f a n)

  -- the condition of each reason
  abbrev pub Holds : Reason → Event A → Type 0
  Holds reason.None e = IsNone e
  Holds reason.Own e = IsOwn e
  Holds reason.Unknown e = IsUnknown e
  Holds reason.Equal e = IsEqual e
  Holds reason.Low e = IsLow e
  Holds reason.Raised e = IsRaised e
  Holds reason.Accepted e = IsAccepted e
