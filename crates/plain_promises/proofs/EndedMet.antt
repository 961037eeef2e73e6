-- A time-out that takes nobody out, of each kind: one that finds its address Alive, and one that finds it gone.
-- Assumes nothing.
use Rattle.std.specs.Prelude.{refl, List}
use Rattle.model.specs.Words.{parts_of}
use Rattle.model.specs.Lamps.{lamps_of}
use Rattle.model.specs.Node.{loaded, stored, quiet}
use Rattle.model.specs.Detector.{is_over, first_over, fate_of, by_fate, end_at}
use Rattle.model.specs.Heap.{all_below}
use Rattle.model.specs.Sound.{in_range, positioned, valid_gossip, sound_entry, sound_heap, sound_rows, sound_members, sound_timers, sound_departed, sound}
use Rattle.model.specs.Calls.{end_timer}
use Rattle.laws_node.specs.Good.{FullRows}
use Rattle.address.specs.Families.{same_address}
use Rattle.address.specs.Families as families
use Rattle.types.specs.declared.Gossip.{Gossip}
use Rattle.node.specs.declared.Node.{Node}
use Rattle.node.specs.Views.{stored_view, unstored, answer_of}
use Rattle.swim.specs.declared.Outcome.{Outcome}
use Rattle.swim.specs.Promises.{outcome_of, row_after, timer_of}
use Rattle.plain_promises.specs.Ended.{TookNobodyOut}
use Rattle.plain_promises.proofs.Ended.{refuted_takes_nobody, gone_takes_nobody}
use Rattle.plain_promises.specs.EndedMet.{answered, alone, lent}

abbrev call : Node → Outcome
call node = outcome_of (timer_of node 12 lent)

abbrev row : Node → List Gossip
row node = row_after (timer_of node 12 lent).events lent

full-answered : FullRows (stored_view answered)
unfolding stored_view unstored stored
full-answered = record { table = refl; order = refl; alive = refl; deceased = refl; timers = refl; departed = refl }

full-alone : FullRows (stored_view alone)
unfolding stored_view unstored stored
full-alone = record { table = refl; order = refl; alive = refl; deceased = refl; timers = refl; departed = refl }

-- at tick 12 it is over, and the peer is listed, Alive
pub refuted_met : TookNobodyOut answered 12 lent (call answered) (row answered)
unfolding outcome_of answer_of stored_view unstored loaded stored quiet parts_of lamps_of all_below is_over first_over fate_of by_fate end_at in_range positioned valid_gossip sound_entry sound_heap sound_rows sound_members sound_timers sound_departed sound end_timer same_address families.in_range
refuted_met = refuted_takes_nobody answered full-answered 12 lent (call answered) (row answered) (record { answer = refl; told = refl }) refl

-- and here it isn't listed
pub gone_met : TookNobodyOut alone 12 lent (call alone) (row alone)
unfolding outcome_of answer_of stored_view unstored loaded stored quiet parts_of lamps_of all_below is_over first_over fate_of by_fate end_at in_range positioned valid_gossip sound_entry sound_heap sound_rows sound_members sound_timers sound_departed sound end_timer same_address families.in_range
gone_met = gone_takes_nobody alone full-alone 12 lent (call alone) (row alone) (record { answer = refl; told = refl }) refl
