-- `actions::merge` meets its contract: the fields passed and the fields left come to the whole.
-- Assumes nothing.
use mathlib.Core.Path.{◌≡◌, refl, sym, ap, ◌∙◌}
use mathlib.Core.List.{List}
use Prim.Native.Nat.{ℕ, ◌+◌, ◌-◌, ◌≤◌}
use Rattle.std.specs.Prelude.{drop}
use Rattle.actions.specs.declared.Piece.{Piece}
use Rattle.actions.specs.declared.FirstRead.TheVariants as first
use native.Mathlib.Omega.{arith}
use lib.ListN.{length, length-drop, length-set}
use Rattle.varint.specs.Parts.{rest_of}
use Rattle.fields.specs.Walks.{going_none, going_end}
use Rattle.actions.specs.Action.{Acting, Shows, put, action_step, first_piece}
use Rattle.actions.specs.Stepping.{first_size, first_stop, first_read, shows_turn, Run, given-stopped, given_read}
use borrow.Author.Rules.{rules}
use Rattle.actions.proofs.merge.Goals as goal

-- the field of a turn takes a byte at least, and none that isn't there
sized : (place at : ℕ) (bytes rest : List ℕ) (s : Piece) (n : ℕ) →
    first.Read s n ≡ first_piece (place + at) rest → rest ≡ drop at bytes → at ≤ length bytes → (1 ≤ n) × (at + n ≤ length bytes)
sized place at bytes rest s n r e h =
    let z = first_size (place + at) rest s n r in
    (z.0, omega (arith, z.1, ap (λ (x : List ℕ). length x) e, length-drop at bytes))

pub loop-at-init : goal.loop-at-init
loop-at-init c =
    (search rules, search rules, λ b h. record { said = b; going = going_none action_step _ _ _; shows = h })

pub overflow_add-place : goal.overflow_add-place
overflow_add-place c = let l = c.loop-at in omega (arith, l.invariant.0)

pub first_piece-requires : goal.first_piece-requires
first_piece-requires c =
    let a = c.args in
    let l = c.loop-at in
    let r = rest_of a.bytes.now l.at in
    omega (arith, l.invariant.0, ap (λ (x : List ℕ). length x) r, length-drop l.at a.bytes.now)

pub returns-in-Stopped : goal.returns-in-Stopped
returns-in-Stopped c =
    let l = c.loop-at in
    let a = c.args in
    given-stopped a.place a.bytes.now a.s a.row _ _ refl refl
    (λ b h.
    let n = l.invariant.2 b h in
    first_stop a.place a.bytes.now b l.at n.said n.going _ (rest_of a.bytes.now l.at) (search rules) _ (sym c.in-Stopped.is ∙ c.first_piece.ensures))

pub bounds-row-slot : goal.bounds-row-slot
bounds-row-slot c =
    let l = c.loop-at in
    omega (arith, l.invariant.1, c.turned-turn.ensures.1)

pub overflow_add-at : goal.overflow_add-at
overflow_add-at c = omega (arith, (sized c.args.place c.loop-at.at c.args.bytes.now _ _ _ (sym c.in-Read.is ∙ c.first_piece.ensures) (rest_of c.args.bytes.now c.loop-at.at) c.loop-at.invariant.0).1)

pub loop-at-smaller : goal.loop-at-smaller
loop-at-smaller c = omega (arith, (sized c.args.place c.loop-at.at c.args.bytes.now _ _ _ (sym c.in-Read.is ∙ c.first_piece.ensures) (rest_of c.args.bytes.now c.loop-at.at) c.loop-at.invariant.0).0, (sized c.args.place c.loop-at.at c.args.bytes.now _ _ _ (sym c.in-Read.is ∙ c.first_piece.ensures) (rest_of c.args.bytes.now c.loop-at.at) c.loop-at.invariant.0).1)

pub loop-at-preserved : goal.loop-at-preserved
loop-at-preserved c =
    let l = c.loop-at in
    let a = c.args in (
      (sized c.args.place c.loop-at.at c.args.bytes.now _ _ _ (sym c.in-Read.is ∙ c.first_piece.ensures) (rest_of c.args.bytes.now c.loop-at.at) c.loop-at.invariant.0).1,
      length-set l.row c.turned-turn.result.slot c.turned-turn.result.gossip ∙ l.invariant.1,
      λ b h.
          let n = l.invariant.2 b h in
          record {
            said = put n.said c.in-Read.said;
            going = first_read a.place a.bytes.now b l.at n.said n.going _ (rest_of a.bytes.now l.at) (search rules) _ _ (sym c.in-Read.is ∙ c.first_piece.ensures);
            shows = shows_turn n.said _ _ n.shows l.invariant.1 _ _ c.turned-turn.ensures.0;
          },
    )

pub returns : goal.returns
returns c =
    let a = c.args in
    let l = c.loop-at in
    given_read a.place a.bytes.now a.s a.row _ refl (λ b h. let n = l.invariant.2 b h in (n.said, going_end action_step a.place a.bytes.now b l.at n.said n.going (search rules), n.shows))
