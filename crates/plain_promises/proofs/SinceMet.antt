-- A run that meets what `Since` asks: C tells, in one message, that B joined at 3, that it joined at 6, that it is suspected at 6 and that it died at 6. B is reported at 6 behind its entry, and the notice that
-- takes it out is at 6 too: the bound is reached.
-- Assumes nothing.
use Rattle.std.specs.Prelude.{◌≡◌, refl, true, false, [], ◌∷◌, ℕ, zero, suc, ◌+◌, ◌≤◌}
use Rattle.std.proofs.Common.{ap, sym, ◌∙◌, arith}
use Rattle.std.proofs.Math.Option.{none}
use Rattle.model.specs.Bounds.{message_room}
use Rattle.model.specs.Answers as answers
use Rattle.model.specs.Rows as rows
use Rattle.model.specs.Size as size
use Rattle.model.specs.Words as W
use Rattle.model.specs.Heap as heap
use Rattle.model.specs.Choose as choosing
use Rattle.model.specs.Collect as collecting
use Rattle.model.specs.Lamps as lamps
use Rattle.model.specs.Members as list
use Rattle.model.specs.Departed as gone
use Rattle.model.specs.Node as M
use Rattle.model.specs.Handler as handler
use Rattle.model.specs.Sound as sounds
use Rattle.model.specs.Calls as calls
use Rattle.address.specs.Here.{Addr, here}
use Rattle.address.specs.IPv4 as ipv4
use Rattle.address.specs.Families as families
use Rattle.history.specs.Beginnings.{Creation}
use Rattle.history.specs.Moments.{Moment}
use Rattle.history.proofs.Next.{at_is}
use Rattle.node.specs.Views.{stored_view, unstored, created_of}
use Rattle.wait.specs.Views.{fresh_wait}
use Rattle.promises.specs.Runs.{rests}
use Rattle.plain_promises.specs.Since.{joined, deceased, NoEntry}
use Rattle.plain_promises.proofs.Since.{no_lower-since}
use Rattle.plain_promises.specs.EndedMet.{settings}
use Rattle.plain_promises.specs.SinceMet.{own, B, C, told, call, first, begun, there, moment, Happened}

pub happened : Happened
unfolding answers.when rows.swap rows.count rows.those size.varint_from size.varint_length size.size_of_number size.size_over size.size_of ipv4.digits ipv4.text_length families.same_address families.in_range families.number families.chars_of W.parts_of W.same_gossip heap.climb_in heap.climb heap.lower heap.push heap.all_below choosing.or_else choosing.death collecting.collects collecting.cleared list.added list.add list.remove list.update M.quiet M.and_more M.pushed M.emit M.change M.leave M.loaded M.stored M.fresh handler.believed handler.joined_at handler.joined handler.suspected_other handler.suspected handler.deceased gone.make_room gone.look_up gone.without gone.depart gone.departs gone.death_of handler.list_after handler.row_after handler.news_of handler.act handler.item handler.acked handler.forwarded handler.answer_to handler.handle sounds.in_range sounds.positioned sounds.valid_gossip sounds.sound_entry sounds.sound_heap sounds.sound_rows sounds.sound_members sounds.sound_timers sounds.sound_departed sounds.sound lamps.lamps_of calls.create calls.valid_action calls.message created_of stored_view unstored
happened =
    record {
      second = refl;
      reported_6 = record { place = 0; event = record { event = W.Joined own B 6 }; there = refl; says = joined own };
      third = refl;
      listed = refl;
      fourth = refl;
      left = record { was = refl; gone = refl };
      died_at_6 = record { place = 0; event = record { event = W.Deceased own B 6 }; there = refl; says = deceased own };
    }

-- B came in at the first: between the second and the fourth it did not
pub no-entry : NoEntry B there 1 (0 + 3)
no-entry zero m after before at entered = absurd (omega (arith, after))
no-entry (suc zero) m after before at entered = absurd (omega (arith, after))
no-entry (suc (suc zero)) m after before at entered =
    let same : moment 2 ≡ m = at_is there 2 (moment 2) m happened.third at in
    let z : true ≡ false = sym happened.listed ∙ ap (λ (x : Moment Addr). M.lists here B x.before) same ∙ entered.was in
    let y : ◌≡◌ {A = ℕ} 0 1 = cc in
    absurd (omega arith)
no-entry (suc (suc (suc l))) m after before at entered = absurd (omega (arith, before))

-- so the notice carries no less
pub met : 6 ≤ 6
unfolding families.same_address
met =
    no_lower-since (Creation settings own 0) 0 first.node (fresh_wait 0) begun [] first.node (fresh_wait 0) (rests first.node (fresh_wait 0)) B call refl 6 1 (moment 1) happened.second happened.reported_6
    (W.Ack C none) told (0 ∷ []) message_room 3 (moment 3) C 6 refl refl happened.fourth happened.left (omega arith) no-entry

-- and its own report is at 6 too
pub met_itself : 6 ≤ 6
unfolding families.same_address
met_itself =
    no_lower-since (Creation settings own 0) 0 first.node (fresh_wait 0) begun [] first.node (fresh_wait 0) (rests first.node (fresh_wait 0)) B call refl 6 3 (moment 3) happened.fourth happened.died_at_6
    (W.Ack C none) told (0 ∷ []) message_room 3 (moment 3) C 6 refl refl happened.fourth happened.left (omega arith) (λ l m after before at entered. absurd (omega (arith, after, before)))
