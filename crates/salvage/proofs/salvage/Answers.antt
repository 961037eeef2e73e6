-- `salvage::salvage` meets its contract: 14, 16, then 12, else the image of what is left.
-- Assumes nothing.
use mathlib.Core.Path.{ap, sym, ◌∙◌}
use Prim.Native.Nat.{ℕ, min}
use native.Mathlib.Omega.{arith}
use Rattle.salvage.proofs.Judging.{headed-long}
use Rattle.salvage.proofs.Ending.{salvage_unmarked, salvage_headless, salvage-short, salvage-whole}
use Rattle.salvage.proofs.salvage.Goals as goal

pub returns-then-not-is_marked : goal.returns-then-not-is_marked
returns-then-not-is_marked c =
    let a = c.args in
    salvage_unmarked a.bytes.now a.out.now _ c.is_wide-wide.ensures _ (sym c.is_marked.ensures ∙ c.if-not-is_marked.true) c.refused.ensures

pub returns-then-not-is_headed : goal.returns-then-not-is_headed
returns-then-not-is_headed c =
    let a = c.args in
    salvage_headless a.bytes.now a.out.now _ c.is_wide-wide.ensures (sym c.is_marked.ensures ∙ c.if-not-is_marked.false) _
    (sym c.is_headed.ensures ∙ c.if-not-is_headed.true) c.refused-then-not-is_headed.ensures

pub count_in-count-requires : goal.count_in-count-requires
count_in-count-requires c = headed-long _ c.args.bytes.now (sym c.is_headed.ensures ∙ c.if-not-is_headed.false)

pub get_address-own-requires : goal.get_address-own-requires
get_address-own-requires c =
    omega (arith, headed-long _ c.args.bytes.now (sym c.is_headed.ensures ∙ c.if-not-is_headed.false))

pub write-written-requires : goal.write-written-requires
write-written-requires c =
    omega (arith, c.sift-sifted.ensures.few, c.at_most_64-places.ensures)

pub returns-in-TooLong : goal.returns-in-TooLong
returns-in-TooLong c =
    let a = c.args in
    salvage-short a.bytes.now a.out.now _ c.is_wide-wide.ensures (sym c.is_marked.ensures ∙ c.if-not-is_marked.false) (sym c.is_headed.ensures ∙ c.if-not-is_headed.false) _ _ c.sift-sifted.result _
    (c.at_most_64-places.ensures ∙ ap (λ (k : ℕ). min k 64) c.count_in-count.ensures.0) c.get_address-own.ensures c.sift-sifted.ensures _ c.place_at.ensures.0
    c.position_at-position.ensures _ _ c.write-written.ensures.0 c.write-written.ensures.1 _ _ c.count_in-count.ensures.0 c.in-TooLong.is c.refused-in-TooLong.ensures

pub returns-in-Whole : goal.returns-in-Whole
returns-in-Whole c =
    let a = c.args in
    salvage-whole a.bytes.now a.out.now _ c.is_wide-wide.ensures (sym c.is_marked.ensures ∙ c.if-not-is_marked.false) (sym c.is_headed.ensures ∙ c.if-not-is_headed.false) _ _ c.sift-sifted.result _
    (c.at_most_64-places.ensures ∙ ap (λ (k : ℕ). min k 64) c.count_in-count.ensures.0) c.get_address-own.ensures c.sift-sifted.ensures _ c.place_at.ensures.0
    c.position_at-position.ensures _ _ c.write-written.ensures.0 c.write-written.ensures.1 _ _ c.count_in-count.ensures.0 c.in-Whole.is
