-- A creation or a restart that a C program made and that was kept is a beginning: with the runs, whatever holds of every history holds of a C host.
-- Assumes nothing.
use Rattle.std.specs.Prelude.{◌≡◌, refl, List, ℕ}
use Rattle.std.proofs.Common.{sym, ◌∙◌, subst}
use Rattle.model.specs.declared.Reply.TheVariants as reply
use Rattle.model.specs.Calls as calls
use Rattle.address.specs.Here.{Addr, here}
use Rattle.history.specs.Beginnings.{Creation}
use Rattle.node.specs.declared.Node.{Node}
use Rattle.node.specs.Views.{created_of}
use Rattle.wait.specs.declared.Wait.{Wait}
use Rattle.wait.specs.Views.{fresh_wait}
use Rattle.image.specs.Versions.{versions}
use Rattle.saving.specs.Saving.{restore}
use Rattle.saving.specs.Views.{restored_of}
use Rattle.promises.specs.Made.{Accepted}
use Rattle.promises.specs.Begun.{Begun, created, restored, restart_of}
use Rattle.cwords.specs.Reading.{Rows, settings_of, address_in, wait_of, node_of}
use Rattle.cwords.specs.Writing.{code_of}
use Rattle.cwords.specs.Nowhere.{zero_kept}
use Rattle.cwords.specs.Leaving.{kept_so}
use Rattle.host.specs.Promised as host
use Rattle.host.specs.Promised.{created_at}
use Rattle.hostbytes.specs.Promised as hostbytes

-- the code 0 says that creation was accepted
accepted_zero : (c : calls.Created Addr) → code_of (created_of c).reply ≡ 0 → Accepted (created_of c)
unfolding created_of
accepted_zero (calls.created s) e = refl
accepted_zero (calls.not_created r) e = absurd (zero_kept (reply.Refused r) e)

-- "creation was accepted, and the host's wait record is a fresh one"
pub creation_begins : (settings own : List ℕ) (number tick : ℕ) (before after : Rows) (wait : List ℕ) → host.Creates (created_at settings own number) before 0 after → wait_of wait ≡ fresh_wait tick
    → Begun (Creation (settings_of settings) (address_in own) number) tick (node_of after) (wait_of wait)
unfolding created_at
creation_begins settings own number tick before after wait met fresh =
    let c = calls.create here (settings_of settings) (address_in own) number in
    let d = created_of c in
    let node : node_of after ≡ d.node = met.node.again ∙ sym (kept_so d.reply d.node (node_of before) (sym met.coded)) in
    subst (λ (z : Node × Wait). Begun (Creation (settings_of settings) (address_in own) number) tick z.0 z.1) (λ i. (sym node i, sym fresh i))
    (created (settings_of settings) (address_in own) number tick d (record { answer = refl }) (accepted_zero c (sym met.coded)))

restart_accepted : (bytes settings : List ℕ) (tick : ℕ) → code_of (restored_of bytes (settings_of settings) tick).answer.reply ≡ 0 → Accepted (restored_of bytes (settings_of settings) tick).answer
unfolding restored_of
restart_accepted bytes settings tick e = accepted_zero (restore here versions bytes (settings_of settings)) e

-- or a restart was
pub restart_begins : (bytes settings : List ℕ) (tick : ℕ) (before after : Rows) (wait wait' : List ℕ) → hostbytes.Restores (restored_of bytes (settings_of settings) tick) before wait 0 after wait'
    → Begun (restart_of bytes (settings_of settings)) tick (node_of after) (wait_of wait')
restart_begins bytes settings tick before after wait wait' met =
    let d = restored_of bytes (settings_of settings) tick in
    let zero : code_of d.answer.reply ≡ 0 = sym met.coded in
    let node : node_of after ≡ d.answer.node = met.node.again ∙ sym (kept_so d.answer.reply d.answer.node (node_of before) zero) in
    let fresh : wait_of wait' ≡ d.wait = met.waits_again ∙ sym (kept_so d.answer.reply d.wait (wait_of wait) zero) in
    subst (λ (z : Node × Wait). Begun (restart_of bytes (settings_of settings)) tick z.0 z.1) (λ i. (sym node i, sym fresh i))
    (restored bytes (settings_of settings) tick d refl (restart_accepted bytes settings tick zero))
