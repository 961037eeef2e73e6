-- What carrying out a verdict leaves of the draws, and how many events it says: one at most.
-- Assumes nothing.
use mathlib.Core.List.{List, [], ◌∷◌}
use Rattle.std.specs.Prelude.{ℕ, ◌≤◌, length}
use Rattle.std.proofs.Common.{arith}
use Rattle.std.proofs.Math.ListN.{length-append}
use Rattle.model.specs.declared.Kind.{Kind}
use Rattle.model.specs.Answers.{Answer, done, refused}
use Rattle.laws.specs.After.{After, halts, gives, after_then}
use Rattle.laws_list.specs.Draws.{Leaves, nothing, leaves_all, add-leaves}
use Rattle.model.specs.Words.{Address, Gossip}
use Rattle.model.specs.Members.{Members}
use Rattle.model.specs.Node.{Node, Out, and_more, quiet, pushed, emit}
use Rattle.model.specs.Handler.{Verdict, Skip, Unknown, Equal, Low, AtEnd, Refute, Enter, Raise, Recover, Suspect, Bury, News, Silent, Emits, list_after, news_of, tell, act, item, gossip, admit}

after_any : {B : Type 0} (x : Answer B) → After (λ _. Unit {0}) x
after_any (refused r) = halts
after_any (done b rest) = gives tt

-- one event at most
abbrev pub Few : {A : Type 0} → Answer (Out A) → Type 0
Few x = After (λ o. length o.said ≤ 1) x

module _ {A : Type 0} (address : Address A) where
  pub list_leaves : (v : Verdict A) (m : Members A) (ds : List ℕ) → Leaves ds (list_after address v m ds)
  unfolding list_after
  list_leaves Skip m ds = leaves_all ds
  list_leaves Unknown m ds = leaves_all ds
  list_leaves Equal m ds = leaves_all ds
  list_leaves Low m ds = leaves_all ds
  list_leaves AtEnd m ds = nothing
  list_leaves (Refute n) m ds = leaves_all ds
  list_leaves (Enter a n) m ds = add-leaves address.same a n m ds
  list_leaves (Raise a n) m ds = leaves_all ds
  list_leaves (Recover a n) m ds = leaves_all ds
  list_leaves (Suspect a n) m ds = leaves_all ds
  list_leaves (Bury a n) m ds = leaves_all ds

  emit_few : (k : Kind) (g : Gossip A) (s : Node A) (ds : List ℕ) → Few (emit address k g s ds)
  unfolding emit
  emit_few k g s ds = after_then (after_any (pushed address s.settings.collect k g s.disseminator ds)) (λ d rest _. gives (omega arith))

  tell_few : (w : News A) (s : Node A) (ds : List ℕ) → Few (tell address w s ds)
  unfolding quiet
  tell_few Silent s ds = gives {b = record { node = s; said = []; collected = 0 }} (omega arith)
  tell_few (Emits k e) s ds = emit_few k (record { event = e }) s ds

  pub act_few : (v : Verdict A) (s : Node A) (ds : List ℕ) → Few (act address v s ds)
  unfolding act
  act_few v s ds = after_then (after_any (list_after address v s.members ds)) (λ m rest _. tell_few (news_of address v s.own) _ rest)

  pub admit_few : (a : A) (s : Node A) (ds : List ℕ) → Few (admit address a s ds)
  unfolding admit
  admit_few a s ds = act_few _ s ds

  -- no more events than records
  pub gossip_few : (gs : List (Gossip A)) (s : Node A) (ds : List ℕ) → After (λ o. length o.said ≤ length gs) (gossip address gs s ds)
  unfolding and_more quiet item
  gossip_few [] s ds = gives {b = record { node = s; said = []; collected = 0 }} (omega arith)
  gossip_few (g ∷ gs) s ds =
      after_then (act_few _ s ds) (λ o rest one.
      after_then (gossip_few gs o.node rest) (λ p rest₂ others. gives (omega (arith, one, others, length-append o.said p.said))))
