-- `message::gossip::death_of` meets its contract: a Joined asks for D, no other event does.
-- Assumes nothing.
use mathlib.Core.Path.{◌≡◌, refl, ap, sym, ◌∙◌}
use mathlib.Core.List.{[], ◌∷◌}
use mathlib.Core.Option.{Option}
use Prim.Native.Nat.{ℕ}
use types.Run.{OneOf, miss}
use denote.Enum.Declared.{tag_of}
use borrow.Author.Rules.{rules}
use Rattle.address.specs.Here.{Addr}
use Rattle.types.specs.declared.Event.{Event}
use Rattle.types.specs.declared.Event.TheVariants.{Nothing, Joined, Recovered, Suspected, Deceased}
use Rattle.types.specs.contracts.Event.{the_type}
use Rattle.types.specs.Views.{to_event}
use Rattle.disseminate.specs.declared.Found.TheVariants.{Missing}
use Rattle.disseminate.specs.Views.{from_found}
use Rattle.message.specs.Views.{deaths_of, death_for}
use Rattle.message.proofs.gossip.death_of.Goals as goal

not_asked : (h : Addr → Option ℕ) (v : Event) → ((f s : Addr) (n : ℕ) → v ≡ Joined f s n → ⊥) → Missing ≡ from_found (death_for (to_event v) h)
not_asked h Nothing p = refl
not_asked h (Joined f s n) p = absurd (p f s n refl)
not_asked h (Recovered f s n) p = refl
not_asked h (Suspected f s n) p = refl
not_asked h (Deceased f s n) p = refl

pub returns-in-Joined : goal.returns-in-Joined
returns-in-Joined c = c.death_of.ensures ∙ sym (ap (λ (x : Event). from_found (death_for (to_event x) (let a = c.args in deaths_of a.on a.departed a.deceased))) c.in-Joined.is)

pub returns-in_default : goal.returns-in_default
returns-in_default c = let a = c.args in not_asked (deaths_of a.on a.departed a.deceased) a.event c.in_default.not-Joined
