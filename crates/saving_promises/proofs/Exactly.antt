-- EXACTLY. Saving and restoring give the number of a refusal exactly if its test is the first that fails; and each input has one result.
-- Assumes nothing.
use Rattle.std.specs.Prelude.{◌≡◌, refl, List, ℕ, length}
use Rattle.std.proofs.Common.{ap, sym, ◌∙◌}
use Rattle.model.specs.declared.Settings.{Settings}
use Rattle.model.specs.Calls.{Created, not_created, reply_number}
use Rattle.address.specs.Here.{Addr, here}
use Rattle.node.specs.declared.Node.{Node}
use Rattle.node.specs.Views.{stored_view, created_of}
use Rattle.image.specs.Versions.{versions}
use Rattle.saving.specs.Saving.{Save, not_saved, save_tests, save, restore_tests, restore}
use Rattle.saving.specs.Views.{ending_of, Saves, restored_of}
use Rattle.saving.specs.declared.Saving.{Saving}
use Rattle.saving.specs.declared.Restored.{Restored}
use Rattle.promises.specs.Exactly.{ByTests}
use Rattle.promises.proofs.Exactly.{only-tests}
use Rattle.saving_promises.specs.Exactly.{saving_number}

-- "for save 2, then 12"
pub save_exactly : (node : Node) (row : List ℕ) (r : Saving) (row' : List ℕ) → Saves node row r row' → ByTests (saving_number r) (save_tests here versions (stored_view node) (length row))
unfolding save
save_exactly node row r row' met =
    only-tests (λ (s : Save). saving_number (ending_of s.ends)) (λ x. record { ends = not_saved x; row = row }) (λ y. refl) _ refl (save_tests here versions (stored_view node) (length row))
    (ap saving_number met.answer)

-- "for restore, in this order, 14 .., 15 .., 16 .., then 1"
pub restore_exactly : (bytes : List ℕ) (settings : Settings) (tick : ℕ) (r : Restored) → r ≡ restored_of bytes settings tick
    → ByTests (reply_number r.answer.reply) (restore_tests here versions bytes settings)
unfolding restored_of restore created_of
restore_exactly bytes settings tick r met =
    only-tests (λ (c : Created Addr). reply_number (created_of c).reply) not_created (λ y. refl) _ refl (restore_tests here versions bytes settings) (λ i. reply_number (met i).answer.reply)

-- one result for each input
pub save_unique : (node : Node) (row : List ℕ) (r r' : Saving) (o o' : List ℕ) → Saves node row r o → Saves node row r' o' → (r ≡ r') × (o ≡ o')
save_unique node row r r' o o' c c' = (c.answer ∙ sym c'.answer, c.written ∙ sym c'.written)

pub restore_unique : (bytes : List ℕ) (settings : Settings) (tick : ℕ) (r r' : Restored) → r ≡ restored_of bytes settings tick → r' ≡ restored_of bytes settings tick → r ≡ r'
restore_unique bytes settings tick r r' c c' = c ∙ sym c'
