-- `member::Members::new` meets its contract: one used place in each row.
-- Assumes nothing.
-- the own address is not counted
use mathlib.Core.Path.{◌≡◌, ap, sym, ◌∙◌}
use mathlib.Core.Bool.{Bool, true, false, not, ◌&&◌}
use mathlib.Core.List.{[], ◌∷◌}
use Prim.Native.Nat.{ℕ, ◌+◌}
use lib.ListN.{replicate}
use Rattle.model.specs.declared.State.TheVariants.{Alive}
use Rattle.model.specs.Rows.{one}
use Rattle.model.specs.Lamps.{dark, lamps_of}
use Rattle.address.specs.Here.{Addr, here, here_lawful}
use Rattle.member.specs.Views.{pack_with}
use borrow.Author.Rules.{rules}
use Rattle.member.proofs.Members.new.Goals as goal

alone : (own : Addr) (number : ℕ) → dark ≡ lamps_of here.same own (record { addr = own; state = Alive; number = number } ∷ [])
unfolding lamps_of
alone own number =
    sym (ap (λ (u : Bool). record { alive = one (not u && true) + 0; pending = one (not u && false) + 0; suspected = one (not u && false) + 0 }) (here_lawful.test.same_refl own))

pub returns : goal.returns
unfolding pack_with
returns c =
    let a = c.args in
    λ i. record {
      table = record { addr = a.own; state = Alive; number = a.number } ∷ replicate 63 (c.none-table.ensures i);
      len = 1;
      order = record { row = a.own ∷ replicate 63 (c.blank-row.ensures i); position = 0 };
      lamps = (c.none.ensures ∙ alone a.own a.number) i;
    }
