-- What the tests before a step say of it; who has answered.
-- Assumes nothing.
use Rattle.std.specs.Prelude.{Bool, true, false, not, ℕ}
use Rattle.model.specs.declared.Reply.{Reply}
use Rattle.model.specs.declared.Reply.TheVariants.{Done, NotDue, Refused}
use Rattle.model.specs.Rows.{pick}
use Rattle.model.specs.Bounds.{Room}
use Rattle.address.specs.Here.{Addr, here}
use Rattle.model.specs.Words as W
use Rattle.model.specs.Members as list
use Rattle.model.specs.Node as M
use Rattle.model.specs.Detector as D
use Rattle.model.specs.Calls as calls
use Rattle.member.specs.declared.Members.{Members}
use Rattle.member.specs.Views.{view_members}
use Rattle.detection.specs.declared.Tested.{Tested}

-- Alive or absent, as a list says
abbrev pub heard_in : Members → Addr → Bool
heard_in m a = pick (list.listed here.same a (view_members m).table) (W.is_alive (list.held_state here.same a (view_members m).table)) true

-- a test that fails stops the step, and says its answer
abbrev pub stopped : Reply → Tested
stopped reply = record { due = false; reply = reply }

unfoldable pub or_stop : Bool → Reply → Tested → Tested
or_stop fails reply rest = elim fails [ true ↦ stopped reply | false ↦ rest ]

-- what the tests before a step say of it: 2, 3, 5, not due
unfoldable pub tested_of : M.Stored Addr → W.Wait Addr → ℕ → Room → Tested
tested_of s w tick lent =
    calls.first_of (calls.step_tests here s w lent)
    (λ r. stopped (Refused r))
    (or_stop (not (D.due s.settings w tick)) NotDue (record { due = true; reply = Done 0 }))
