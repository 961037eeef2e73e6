-- The row laid over a row of no gossip is its first 64 records, and no gossip behind them.
use Rattle.std.proofs.Common.{◌∙◌, length, ltb, refl}
use Rattle.types.specs.Views.{no_gossip}
use Rattle.lent.specs.Lent.{first_padded}
use Rattle.lent.proofs.Rows.{laid}
use Rattle.lent.proofs.first_64.Goals as goal

pub returns : goal.returns
returns c =
    let ys = c.args.s.now in
    c.rows_in.ensures ∙ (λ i. laid (c.capped-n.ensures.0 i) ys (c.blank.ensures i)) ∙ first_padded no_gossip ys (ltb 64 (length ys)) refl
