-- "let the panel read them untested": what the three numbers of a read are worth. Of a sound node they are the counts of its list, and a node with any other count is not sound;
-- of a node that is not sound they are the stored numbers, and nothing more.
-- Assumes nothing.
use Rattle.std.specs.Prelude.{◌≡◌, refl, true, false, List}
use Rattle.std.proofs.Common.{ap, ◌∙◌}
use Rattle.model.specs.declared.Lamps.{Lamps}
use Rattle.address.specs.Here.{Addr, here, here_lawful}
use Rattle.model.specs.Words as W
use Rattle.model.specs.Lamps.{lamps_of}
use Rattle.model.specs.Node as M
use Rattle.model.specs.Sound.{sound}
use Rattle.laws.specs.Bools.{take-map}
use Rattle.laws_node.specs.Good.{sound_lamps}
use Rattle.member.specs.Views.{to_member, view_members}
use Rattle.node.specs.declared.Node.{Node}
use Rattle.node.specs.Views.{view_node, stored_view}
use Rattle.promises.specs.Panel.{Shows, relit}

pub shows_true : (own : Addr) (t : List (W.Member Addr)) (l : Lamps) → l ≡ lamps_of here.same own t → Shows own t l
unfolding lamps_of
shows_true own t l e = record { alive = ap (λ (x : Lamps). x.alive) e; pending = ap (λ (x : Lamps). x.pending) e; suspected = ap (λ (x : Lamps). x.suspected) e }

-- of a sound node: the counts of its list
pub read_if_sound : (n : Node) (l : Lamps) → l ≡ n.members.lamps → sound here (stored_view n) ≡ true → Shows n.own (view_node n).members.table l
unfolding stored_view view_node view_members M.loaded
read_if_sound n l e h =
    shows_true n.own (view_node n).members.table l
    (e ∙ sound_lamps here here_lawful (stored_view n) h ∙ ap (lamps_of here.same n.own) (take-map to_member n.members.len n.members.table))

-- "so a wrong stored count is refusal 2"
pub wrong_is_unsound : (n : Node) → (Shows n.own (view_node n).members.table n.members.lamps → ⊥) → sound here (stored_view n) ≡ false
wrong_is_unsound n wrong =
    (elim (sound here (stored_view n)) as (λ u. sound here (stored_view n) ≡ u → u ≡ false) [
      | true ↦ λ e. absurd (wrong (read_if_sound n n.members.lamps refl e))
      | false ↦ λ _. refl
    ]) refl

pub any_three_read : (n : Node) (l : Lamps) → ((relit n l).members.lamps ≡ l) × (view_node (relit n l) ≡ view_node n)
unfolding view_node view_members
any_three_read n l = (refl, refl)
