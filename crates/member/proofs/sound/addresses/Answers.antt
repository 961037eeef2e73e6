-- `member::sound::addresses` meets its contract: after i turns the row is the first i addresses, and blanks.
-- Assumes nothing.
use mathlib.Core.Path.{◌≡◌, ap, ◌∙◌}
use mathlib.Core.List.{List, ◌++◌, map, append-nil}
use Prim.Native.Nat.{ℕ, ◌+◌, ◌-◌, ◌≤◌}
use native.Mathlib.Omega.{arith}
use native.Mathlib.Numerals.{add-one}
use lib.ListN.{length, take, replicate, length-map, get_or-map}
use lib.Seq.{take_all}
use Rattle.address.specs.Here.{Addr, here}
use Rattle.model.specs.Rows.{pad_to}
use Rattle.laws.specs.Pad.{pad_step}
use Rattle.member.specs.Views.{addr_of, nobody}
use borrow.Author.Rules.{rules}
use Rattle.member.proofs.sound.addresses.Goals as goal

-- a list of n is a row of n
full : (n : ℕ) (z : Addr) (l : List Addr) → length l ≡ n → pad_to n z l ≡ l
full n z l e =
    let k : n - length l ≡ 0 = omega arith in
    ap (λ (i : ℕ). l ++ replicate i z) k ∙ append-nil l

pub loop-i-init : goal.loop-i-init
loop-i-init c = (omega arith, ap (λ (z : Addr). replicate 64 z) c.blank-out.ensures)

pub loop-i-preserved : goal.loop-i-preserved
loop-i-preserved c =
    let a = c.args in
    let l = c.loop-i in
    let L : List Addr = map addr_of a.table in
    let hl : length a.table ≡ 64 = search rules in
    let n : length L ≡ 64 = length-map a.table addr_of ∙ hl in
    (omega arith, rw (l.invariant.1, add-one l.i) (pad_step 64 l.i here.blank _ L (omega arith) (omega arith) (get_or-map addr_of a.table l.i nobody)))

pub returns : goal.returns
returns c =
    let a = c.args in
    let l = c.loop-i in
    let L : List Addr = map addr_of a.table in
    let hl : length a.table ≡ 64 = search rules in
    let n : length L ≡ 64 = length-map a.table addr_of ∙ hl in
    l.invariant.1 ∙ ap (λ (x : List Addr). pad_to 64 here.blank x) (take_all l.i L (omega arith)) ∙ full 64 here.blank L n
