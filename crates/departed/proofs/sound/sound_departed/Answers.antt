-- `departed::sound::sound_departed` meets its contract: each clause in its turn, read off the declared row.
-- Assumes nothing.
use mathlib.Core.Path.{◌≡◌, refl, ap, sym, ◌∙◌}
use mathlib.Core.Bool.{◌&&◌}
use mathlib.Core.List.{List, [], ◌∷◌, map}
use lib.Dec.{leb}
use lib.ListN.{take, drop}
use borrow.Author.Rules.{rules}
use borrow.Author.Tests.{le-leb, lt-leb}
use Rattle.address.specs.Here.{Addr, here}
use Rattle.model.specs.Rows.{every}
use Rattle.model.specs.Departed.{gone}
use Rattle.model.specs.Sound.{distinct, is_no_departed, sound_departed}
use Rattle.laws.specs.Bools.{every_map, take-map, drop-map}
use Rattle.departed.specs.declared.Departed.{Departed}
use Rattle.departed.specs.declared.DepartedRow.{DepartedRow}
use Rattle.departed.specs.Views.{to_departed, addr_of, row_view, has_range, is_empty_place}
use Rattle.departed.proofs.sound.sound_departed.Goals as goal

gone_is : (l : List Departed) → gone (map to_departed l) ≡ map addr_of l
gone_is [] = refl
gone_is (d ∷ l) = ap (λ (m : List Addr). d.addr ∷ m) (gone_is l)

-- the model's test, said of the declared row
clauses : (r : DepartedRow)
    → (leb r.len 128 && distinct here.same (map addr_of (take r.len r.entries)) && every has_range (take r.len r.entries) && every is_empty_place (drop r.len r.entries)) ≡ sound_departed here (row_view r)
unfolding sound_departed
clauses r =
    let g : gone (take r.len (map to_departed r.entries)) ≡ map addr_of (take r.len r.entries) = ap gone (take-map to_departed r.len r.entries) ∙ gone_is (take r.len r.entries) in
    let a : every here.valid (gone (take r.len (map to_departed r.entries))) ≡ every has_range (take r.len r.entries) =
    ap (every here.valid) g ∙ every_map here.valid addr_of (take r.len r.entries) in
    let b : every (is_no_departed here) (drop r.len (map to_departed r.entries)) ≡ every is_empty_place (drop r.len r.entries) =
    ap (every (is_no_departed here)) (drop-map to_departed r.len r.entries) ∙ every_map (is_no_departed here) to_departed (drop r.len r.entries) in
    λ i. leb r.len 128 && distinct here.same (sym g i) && sym a i && sym b i

pub returns-then-n-gt-CAPACITY : goal.returns-then-n-gt-CAPACITY
returns-then-n-gt-CAPACITY c = let r = c.args.row in sym (rw (lt-leb r.len 128 c.if-n-gt-CAPACITY.true)) ∙ clauses r

pub returns : goal.returns
returns c =
    let r = c.args.row in
    rw (c.both-2.ensures, c.both.ensures, c.all_empty-empty.ensures, c.all_in_range-valid.ensures, c.all_distinct-apart.ensures) (sym (rw (le-leb r.len 128 c.if-n-gt-CAPACITY.false)) ∙ clauses r)
