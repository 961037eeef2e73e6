-- How a save ends.
-- Assumes nothing.
use mathlib.Core.Path.{◌≡◌, refl, ap, sym, ◌∙◌}
use mathlib.Core.Bool.{Bool, true, false, not}
use mathlib.Core.List.{List, [], ◌∷◌, ◌++◌}
use Prim.Native.Nat.{ℕ}
use lib.ListN.{length, drop}
use lib.Dec.{leb, ltb}
use borrow.Author.Tests.{leb-true, leb-false, le-ltb, lt-ltb}
use Rattle.model.specs.declared.Refusal.{Refusal}
use Rattle.model.specs.declared.Refusal.TheVariants.{Unsound, NoRoom}
use Rattle.model.specs.Rows.{pick}
use Rattle.address.specs.Here.{Addr, here}
use Rattle.model.specs.Node as M
use Rattle.model.specs.Sound.{sound}
use Rattle.member.specs.declared.Member.{Member}
use Rattle.member.specs.Views.{view_members, Held}
use Rattle.node.specs.declared.Node.{Node}
use Rattle.node.specs.Views.{view_node, stored_view}
use Rattle.node.specs.Rows.{loaded_view}
use Rattle.node.specs.Ends.{test_fails, test_passes}
use Rattle.image.specs.Image.{Saved}
use Rattle.image.specs.Forms.{image_of}
use Rattle.image.specs.Versions.{versions}
use Rattle.image.specs.Views.{saved_as, written_of, row_of}
use Rattle.image.specs.declared.Written.{Written}
use Rattle.image.specs.declared.Written.TheVariants as written
use Rattle.saving.specs.Saving.{saved, not_saved, Save, saved_list, save}
use Rattle.saving.specs.Views.{row_in_order, ending_of, save_of, Saves}
use Rattle.saving.specs.declared.Saving.{Saving}
use Rattle.saving.specs.declared.Saving.TheVariants as saving
use Rattle.saving.proofs.Ordering.{row-holds}

abbrev pub answer-of : Written → Saving
answer-of written.TooLong = saving.Refused NoRoom
answer-of (written.Whole k) = saving.Whole k

module _ (node : Node) (row : List ℕ) where
  abbrev bytes : List ℕ
  bytes = image_of versions (saved_list here (M.loaded (stored_view node)))

  abbrev refuse : Refusal → Save
  refuse r = record { ends = not_saved r; row = row }

  abbrev whole : Save
  whole = record { ends = saved (length bytes); row = bytes ++ drop (length bytes) row }

  abbrev first : Bool × Refusal
  first = (not (sound here (stored_view node)), Unsound)

  abbrev second : Bool × Refusal
  second = (ltb (length row) (length bytes), NoRoom)

  pub save_unsound : sound here (stored_view node) ≡ false → Saves node row (saving.Refused Unsound) row
  unfolding save
  save_unsound e =
      let q : save_of node row ≡ refuse Unsound = test_fails first (second ∷ []) refuse whole (ap not e) in
      record { answer = sym (ap (λ (s : Save). ending_of s.ends) q); written = sym (ap (λ (s : Save). s.row) q) }

  module _ (e : sound here (stored_view node) ≡ true) (rows : List Member) (n : ℕ) (held : Held node.members) (f : rows ≡ row_in_order node.members) (g : n ≡ node.members.len) where
    list_is : saved_as node.own rows n node.members.order.position ≡ saved_list here (M.loaded (stored_view node))
    unfolding view_node view_members
    list_is =
        let r = row-holds node.members held rows n f g in
        (λ i. record { own = node.own; rows = r i; position = node.members.order.position }) ∙ ap (saved_list here) (sym (loaded_view node))

    abbrev image_written : List ℕ
    image_written = image_of versions (saved_as node.own rows n node.members.order.position)

    passed : save_of node row ≡ pick (ltb (length row) (length bytes)) (refuse NoRoom) whole
    unfolding save
    passed = test_passes first (second ∷ []) refuse whole (ap not e) ∙ by (ltb (length row) (length bytes))
      where
        by : (u : Bool) → (elim u [ true ↦ refuse NoRoom | false ↦ whole ]) ≡ pick u (refuse NoRoom) whole
        by true = refl
        by false = refl

    -- what was written, by whether there was room
    module _ (w : Written) (row' : List ℕ) (a : w ≡ written_of image_written row) (b : row' ≡ row_of image_written row) where
      by-room : (u : Bool) → leb (length bytes) (length row) ≡ u → (w ≡ pick u (written.Whole (length bytes)) written.TooLong) × (row' ≡ pick u (bytes ++ drop (length bytes) row) row)
      unfolding written_of row_of
      by-room u q = (
        a ∙ ap (λ (s : Saved Addr). pick (leb (length (image_of versions s)) (length row)) (written.Whole (length (image_of versions s))) written.TooLong) list_is
            ∙ ap (λ (v : Bool). pick v (written.Whole (length bytes)) written.TooLong) q,
        b ∙ ap (λ (s : Saved Addr). pick (leb (length (image_of versions s)) (length row)) (image_of versions s ++ drop (length (image_of versions s)) row) row) list_is
            ∙ ap (λ (v : Bool). pick v (bytes ++ drop (length bytes) row) row) q,
      )

      pub save-ends : Saves node row (answer-of w) row'
      save-ends =
          (elim (leb (length bytes) (length row)) as (λ u. leb (length bytes) (length row) ≡ u → Saves node row (answer-of w) row') [
            | true ↦ λ q.
                let p = by-room true q in
                let l : ltb (length row) (length bytes) ≡ false = le-ltb (length row) (length bytes) (leb-true (length bytes) (length row) q) in
                let z : save_of node row ≡ whole = passed ∙ ap (λ (v : Bool). pick v (refuse NoRoom) whole) l in
                record { answer = ap answer-of p.0 ∙ sym (ap (λ (s : Save). ending_of s.ends) z); written = p.1 ∙ sym (ap (λ (s : Save). s.row) z) }
            | false ↦ λ q.
                let p = by-room false q in
                let l : ltb (length row) (length bytes) ≡ true = lt-ltb (length row) (length bytes) (leb-false (length bytes) (length row) q) in
                let z : save_of node row ≡ refuse NoRoom = passed ∙ ap (λ (v : Bool). pick v (refuse NoRoom) whole) l in
                record { answer = ap answer-of p.0 ∙ sym (ap (λ (s : Save). ending_of s.ends) z); written = p.1 ∙ sym (ap (λ (s : Save). s.row) z) }
          ]) refl

      pub save-short : w ≡ written.TooLong → Saves node row (saving.Refused NoRoom) row'
      save-short q = rw (sym (ap answer-of q)) save-ends

      pub save-whole : (k : ℕ) → w ≡ written.Whole k → Saves node row (saving.Whole k) row'
      save-whole k q = rw (sym (ap answer-of q)) save-ends
