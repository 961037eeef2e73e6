-- A run that meets what `Since` asks: C tells, in one message, that B joined at 3, that it joined at 6, that it is suspected at 6 and that it died at 6. B is reported at 6 behind its entry, and the notice that
-- takes it out is at 6 too: the bound is reached.
-- Assumes nothing.
use Rattle.std.specs.Prelude.{◌≡◌, refl, true, List, [], ◌∷◌, ℕ, get_or}
use Rattle.std.proofs.Math.Option.{none}
use Rattle.model.specs.Bounds.{message_room}
use Rattle.model.specs.Words as W
use Rattle.model.specs.Node as M
use Rattle.model.specs.Sound as sounds
use Rattle.model.specs.Calls as calls
use Rattle.address.specs.Here.{Addr, here}
use Rattle.address.specs.Families as families
use Rattle.history.specs.Beginnings.{Creation}
use Rattle.history.specs.Moments.{Moment, Other}
use Rattle.history.specs.Histories.{Call, Receive}
use Rattle.history.specs.Tells.{At}
use Rattle.history.specs.Next.{Left}
use Rattle.node.specs.declared.Answer.{Answer}
use Rattle.node.specs.Views.{created_of}
use Rattle.wait.specs.Views.{fresh_wait}
use Rattle.promises.specs.Begun.{Begun, created}
use Rattle.promises.specs.Runs.{rests}
use Rattle.plain_promises.specs.Since.{Reports, next}
use Rattle.plain_promises.specs.EndedMet.{host, settings}

abbrev pub own : Addr
own = host 1

abbrev pub B : Addr
B = host 2

abbrev pub C : Addr
C = host 3

abbrev pub told : List (W.Gossip Addr)
told =
    record { event = W.Joined C B 3 }
    ∷ record { event = W.Joined C B 6 }
    ∷ record { event = W.Suspected C B 6 }
    ∷ record { event = W.Deceased C B 6 }
    ∷ []

abbrev pub call : Call Addr
call = Receive (W.Ack C none) told (0 ∷ []) message_room

-- creation gives a node, and the message is the first call
abbrev pub first : Answer
first = created_of (calls.create here settings own 0)

pub begun : Begun (Creation settings own 0) 0 first.node (fresh_wait 0)
unfolding calls.create created_of sounds.in_range families.in_range
begun = created settings own 0 0 first (record { answer = refl }) refl

abbrev pub there : List (Moment Addr)
there = next (Creation settings own 0) 0 first.node (fresh_wait 0) begun [] first.node (fresh_wait 0) (rests first.node (fresh_wait 0)) B call

abbrev pub moment : ℕ → Moment Addr
moment i = get_or there i (record { before = M.fresh settings own 0; deed = Other; after = M.fresh settings own 0; said = [] })

-- four moments and what follows them: at the second B was reported at 6, before the third it was listed, at the fourth it left
pub record Happened : Type 0 where
  pub second : At there 1 (moment 1)
  pub reported_6 : Reports B 6 (moment 1)
  pub third : At there 2 (moment 2)
  pub listed : M.lists here B (moment 2).before ≡ true
  pub fourth : At there 3 (moment 3)
  pub left : Left here B (moment 3)
  pub died_at_6 : Reports B 6 (moment 3)
