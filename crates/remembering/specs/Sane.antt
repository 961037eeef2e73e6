-- What a sound node's row of the departed is, clause by clause, and that no more is asked of it.
-- Assumes nothing.
use Rattle.std.specs.Prelude.{◌≡◌, true, ◌&&◌, ◌≤◌, take, drop, eqb}
use Rattle.model.specs.Rows.{every, occurs}
use Rattle.model.specs.Words.{Address, Departed}
use Rattle.model.specs.Departed.{gone}
use Rattle.model.specs.Node.{Row}

module _ {A : Type 0} (address : Address A) where
  -- "count within 128", "distinct addresses, in range, unused places zero"
  pub record Sane (r : Row (Departed A)) : Type 0 where
    pub few : r.used ≤ 128
    pub once : (b : A) → occurs address.same b (gone (take r.used r.places)) ≤ 1
    pub valid : every address.valid (gone (take r.used r.places)) ≡ true
    pub zero : every (λ (d : Departed A). address.same d.addr address.blank && eqb d.number 0) (drop r.used r.places) ≡ true
