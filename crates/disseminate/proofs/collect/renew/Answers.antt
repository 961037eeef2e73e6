-- `disseminate::collect::renew` meets its contract: what is outdated goes, then the gossip comes.
-- Assumes nothing.
use mathlib.Core.Path.{◌≡◌, ap, sym, subst, ◌∙◌}
use Prim.Native.Nat.{ℕ}
use Rattle.model.specs.declared.Kind.TheVariants as kind
use Rattle.types.specs.Views.{to_gossip}
use Rattle.heap.specs.declared.Heap.{Heap}
use Rattle.heap.specs.Views.{Packed}
use Rattle.disseminate.specs.Views.{grown, cleared_by, cleared_heap}
use Rattle.disseminate.proofs.Pushing.{cleared-packed}
use borrow.Author.Rules.{rules}
use Rattle.disseminate.proofs.collect.renew.Goals as goal

cleared-there : (k : goal.After-clear-cleared) → let a = k.args in k.clear-cleared.result ≡ cleared_heap a.on kind.Alive (to_gossip a.g) a.alive
cleared-there k =
    let a = k.args in
    k.clear-cleared.ensures ∙ ap (λ (n : ℕ). cleared_by n kind.Alive (to_gossip a.g) a.alive) k.old_news-old.ensures.value

pub grow-requires : goal.grow-requires
grow-requires c =
    subst Packed (sym (cleared-there c)) (cleared-packed c.args.on kind.Alive (to_gossip c.args.g) c.args.alive c.requires)

pub returns : goal.returns
returns c =
    let g = to_gossip c.args.g in
    let q = c.grow.ensures ∙ ap (λ (h : Heap). grown h g) (cleared-there c.before) in
    λ i. record { grown = q i; collected = c.old_news-old.ensures.value i }
