-- `timers::sound_timers` meets its contract: each clause in its turn, read off the declared row.
-- Assumes nothing.
-- the model's test, said of the declared row
use Rattle.std.proofs.Common.{◌≡◌, ◌&&◌, leb, map, take, drop, sym, ap, ◌∙◌, rules, le-leb}
use borrow.Author.Tests.{lt-leb}
use Rattle.address.specs.Here.{Addr, here}
use Rattle.model.specs.Rows.{every}
use Rattle.model.specs.Words as W
use Rattle.model.specs.Sound.{is_no_timer, sound_timers}
use Rattle.laws.specs.Bools.{every_map, take-map, drop-map}
use Rattle.timers.specs.declared.Timers.{Timers}
use Rattle.timers.specs.Views.{to_timer, row_view, has_range, is_empty_place}
use Rattle.timers.proofs.sound_timers.Goals as goal

clauses : (t : Timers) → (leb t.len 16 && every has_range (take t.len t.entries) && every is_empty_place (drop t.len t.entries)) ≡ sound_timers here (row_view t)
unfolding sound_timers
clauses t =
    let a : every (λ (x : W.Timer Addr). here.valid x.addr) (take t.len (map to_timer t.entries)) ≡ every has_range (take t.len t.entries) =
    ap (every (λ (x : W.Timer Addr). here.valid x.addr)) (take-map to_timer t.len t.entries) ∙ every_map (λ (x : W.Timer Addr). here.valid x.addr) to_timer (take t.len t.entries) in
    let b : every (is_no_timer here) (drop t.len (map to_timer t.entries)) ≡ every is_empty_place (drop t.len t.entries) =
    ap (every (is_no_timer here)) (drop-map to_timer t.len t.entries) ∙ every_map (is_no_timer here) to_timer (drop t.len t.entries) in
    sym (rw (a, b))

pub returns-then-n-gt-CAPACITY : goal.returns-then-n-gt-CAPACITY
returns-then-n-gt-CAPACITY c = let t = c.args.timers in sym (rw (lt-leb t.len 16 c.if-n-gt-CAPACITY.true)) ∙ clauses t

pub returns : goal.returns
returns c =
    let t = c.args.timers in
    rw (c.both.ensures, c.all_empty-empty.ensures, c.all_in_range-valid.ensures) (sym (rw (le-leb t.len 16 c.if-n-gt-CAPACITY.false)) ∙ clauses t)
