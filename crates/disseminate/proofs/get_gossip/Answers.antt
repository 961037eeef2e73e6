-- `disseminate::get_gossip` meets its contract: the terms of the settings, at the limit of so many members.
-- Assumes nothing.
use mathlib.Core.Path.{◌≡◌, ◌∙◌, ap}
use Prim.Native.Nat.{ℕ, ◌≤◌}
use native.Mathlib.Omega.{arith}
use borrow.Author.Rules.{rules}
use Rattle.address.specs.Here.{here}
use Rattle.model.specs.Choose.{terms_of, choose}
use Rattle.laws_choose.specs.LimitLaws.{limit_most}
use Rattle.laws.specs.Ranges.{ranges}
use Rattle.heap.specs.Views.{heap_view}
use Rattle.disseminate.specs.declared.Terms.{Terms}
use Rattle.disseminate.specs.Views.{to_terms, from_terms, pack_choice}
use Rattle.disseminate.proofs.get_gossip.Goals as goal

pub send_limit-limit-requires : goal.send_limit-limit-requires
send_limit-limit-requires c = (c.requires.5, (ranges c.args.s c.requires.4).constant)

pub terms_of-t-requires : goal.terms_of-t-requires
terms_of-t-requires c = (ranges c.args.s c.requires.4).most_selected

pub choose-requires : goal.choose-requires
unfolding terms_of
choose-requires c =
    let r = ranges c.args.s c.requires.4 in
    let m : c.terms_of-t.result.max_size ≡ c.args.s.max_size = ap (λ (t : Terms). t.max_size) c.terms_of-t.ensures in
    let n : c.terms_of-t.result.limit ≡ c.send_limit-limit.result = ap (λ (t : Terms). t.limit) c.terms_of-t.ensures in (
      c.requires.0,
      c.requires.1,
      c.requires.2,
      c.requires.3,
      omega (arith, m, r.most_size),
      omega (arith, n, c.send_limit-limit.ensures, limit_most c.args.members c.args.s.send_constant c.requires.5 r.constant),
    )

pub returns : goal.returns
returns c =
    let a = c.args in
    c.choose.ensures
    ∙ ap (λ (t : Terms). pack_choice (choose here (to_terms t) (heap_view a.alive) (heap_view a.deceased)))
    (c.terms_of-t.ensures
    ∙ ap (λ (n : ℕ). from_terms (terms_of a.s.max_selected a.s.max_size n)) c.send_limit-limit.ensures)
