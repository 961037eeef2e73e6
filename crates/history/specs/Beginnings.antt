-- What a history begins at: the node that creation gave, or the one that a restart gave.
-- Assumes nothing.
use Rattle.std.specs.Prelude.{◌≡◌, true, List, ℕ, ◌≤◌, length}
use Rattle.model.specs.declared.Settings.{Settings}
use Rattle.model.specs.Rows.{every}
use Rattle.model.specs.Bounds.{list_places}
use Rattle.model.specs.Words.{Address, Member}
use Rattle.model.specs.Members.{addrs}
use Rattle.model.specs.Node.{Node, Stored, stored, fresh, restarted}
use Rattle.model.specs.Sound.{in_range, distinct, positioned}
use Rattle.model.specs.Calls.{create, created}

-- creation's settings, own address and its number; or a restart's settings, and the list of an image: own address, records in probing order, position
pub data Beginning (A : Type 0) : Type 0 where
  Creation : Settings → A → ℕ → Beginning A
  Restart : Settings → A → List (Member A) → ℕ → Beginning A

module _ {A : Type 0} where
  abbrev pub own_of : Beginning A → A
  own_of (Creation settings own n) = own
  own_of (Restart settings own rows position) = own

  abbrev pub first_node : Beginning A → Node A
  first_node (Creation settings own n) = fresh settings own n
  first_node (Restart settings own rows position) = restarted settings own rows position

module _ {A : Type 0} (address : Address A) where
  -- a list that a restart takes: what refusal 16 asks of it
  pub record InRule (own : A) (rows : List (Member A)) (position : ℕ) : Type 0 where
    pub few : length rows ≤ list_places
    pub own_valid : address.valid own ≡ true
    pub valid : every address.valid (addrs rows) ≡ true
    pub once : distinct address.same (addrs rows) ≡ true
    pub placed : positioned position (length rows) ≡ true

  -- creation gave this node, or a restart did
  pub data Gave : Beginning A → Stored A → Type 0 where
    creates : {settings : Settings} {own : A} {n : ℕ} {node : Stored A} → create address settings own n ≡ created node → Gave (Creation settings own n) node
    restarts : {settings : Settings} {own : A} {rows : List (Member A)} {position : ℕ} → in_range settings ≡ true → InRule own rows position
        → Gave (Restart settings own rows position) (stored address (restarted settings own rows position))
