-- WHAT A RUN BEGINS AT: the node and the wait record that creation, or a restart, handed back.
-- Assumes nothing.
use Rattle.std.specs.Prelude.{◌≡◌, refl, List, ℕ}
use Rattle.std.proofs.Math.Path.{ap}
use Rattle.std.proofs.Common.{sym, ◌∙◌, subst}
use Rattle.model.specs.declared.Reply.TheVariants.{Done}
use Rattle.model.specs.declared.Settings.{Settings}
use Rattle.model.specs.Node as M
use Rattle.model.specs.Calls as calls
use Rattle.model.specs.Calls.{reply_number}
use Rattle.address.specs.Here.{Addr, here, here_lawful}
use Rattle.history.specs.Beginnings.{Beginning, Gave, creates}
use Rattle.node.specs.declared.Node.{Node}
use Rattle.node.specs.declared.Answer.{Answer}
use Rattle.node.specs.Views.{stored_view, created_of}
use Rattle.wait.specs.declared.Wait.{Wait}
use Rattle.wait.specs.Views.{fresh_wait}
use Rattle.image.specs.Forms.{said_by}
use Rattle.image.specs.Versions.{versions}
use Rattle.saving.specs.Saving.{restored_node, restore}
use Rattle.saving.specs.Views.{restored_of}
use Rattle.saving.specs.declared.Restored.{Restored}
use Rattle.laws_saving.specs.Laws.{accepted, gave_restart}
use Rattle.laws_saving.specs.Laws.{Accepted as ListAccepted}
use Rattle.promises.proofs.Replies.{not_zero}
use Rattle.promises.specs.Made.{Accepted}
use Rattle.promises.proofs.Runs.{stored-unstored}
use Rattle.promises.specs.Begun.{restart_of, Begun, created, restored}

-- an accepted call gave a node, and it stands in the answer
gave-node : (x : calls.Created Addr) → (created_of x).reply ≡ Done 0 → x ≡ calls.created (stored_view (created_of x).node)
unfolding created_of
gave-node (calls.created s) e = ap calls.created (sym (stored-unstored s))
gave-node (calls.not_created r) e = absurd (not_zero r (sym (ap reply_number e)))

module _ (bytes : List ℕ) (settings : Settings) (tick : ℕ) (r : Restored) (told : r ≡ restored_of bytes settings tick) (kept : Accepted r.answer) where
  pub restore-gave : restore here versions bytes settings ≡ calls.created (stored_view r.answer.node)
  unfolding restored_of
  restore-gave =
      gave-node (restore here versions bytes settings) (ap (λ (x : Restored). x.answer.reply) (sym told) ∙ kept)
      ∙ ap (λ (x : Restored). calls.created (stored_view x.answer.node)) (sym told)

  -- every test was passed, and the node is that of the list
  pub restore_accepted : ListAccepted here here_lawful versions bytes settings × (stored_view r.answer.node ≡ M.stored here (restored_node here settings (said_by versions bytes)))
  restore_accepted = accepted here here_lawful versions bytes settings (stored_view r.answer.node) restore-gave

pub begun-gave : {b : Beginning Addr} {tick : ℕ} {node : Node} {wait : Wait} → Begun b tick node wait → Gave here b (stored_view node)
begun-gave (created settings own number tick r met kept) =
    creates (gave-node (calls.create here settings own number) (ap (λ (x : Answer). x.reply) (sym met.answer) ∙ kept) ∙ ap (λ (x : Answer). calls.created (stored_view x.node)) (sym met.answer))
begun-gave (restored bytes settings tick r told kept) =
    let a = restore_accepted bytes settings tick r told kept in
    subst (Gave here (restart_of bytes settings)) (sym a.1) (gave_restart here here_lawful versions bytes settings a.0)

pub begun-wait : {b : Beginning Addr} {tick : ℕ} {node : Node} {wait : Wait} → Begun b tick node wait → wait ≡ fresh_wait tick
unfolding restored_of
begun-wait (created settings own number tick r met kept) = refl
begun-wait (restored bytes settings tick r told kept) = ap (λ (x : Restored). x.wait) told
