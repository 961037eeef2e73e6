-- How a function that writes words ends: its words are those of the value, and they are read as the value again.
-- Assumes nothing.
use mathlib.Core.Path.{◌≡◌, refl, ap, sym, ◌∙◌, subst}
use mathlib.Core.List.{List, [], ◌∷◌}
use Prim.Native.Nat.{ℕ, ◌<◌}
use native.Mathlib.Omega.{arith}
use lib.ListN.{get_or}
use Rattle.model.specs.Words.{parts_of}
use Rattle.address.specs.Here.{Addr, here}
use Rattle.types.specs.declared.Parts.{Parts}
use Rattle.types.specs.declared.Gossip.{Gossip}
use Rattle.types.specs.declared.Event.{Event}
use Rattle.types.specs.declared.Optional.{Optional}
use Rattle.types.specs.declared.Optional.TheVariants.{Absent, Given}
use Rattle.types.specs.declared.Action.{Action}
use Rattle.types.specs.declared.Action.TheVariants.{Ping, PingReq, Ack}
use Rattle.types.specs.Views.{to_event, from_parts}
use Rattle.heap.specs.declared.Entry.{Entry}
use Rattle.member.specs.declared.Member.{Member}
use Rattle.timers.specs.declared.Timer.{Timer}
use Rattle.departed.specs.declared.Departed.{Departed}
use Rattle.node.specs.declared.Letter.{Letter}
use Rattle.wait.specs.declared.WaitState.{WaitState}
use Rattle.wait.specs.declared.Wait.{Wait}
use Rattle.cwords.specs.Reading.{address_of, address_in, gossip_of, entry_of, member_of, timer_of, departed_of, wait_of, optional_in, action_as, action_of}
use Rattle.cwords.specs.Writing.{Narrow, first_word, address_words, parts_words, gossip_words, entry_words, state_word, member_words, timer_words, departed_words, wait_state_words, wait_words, optional_words, action_then, action_words, letter_words, action_in}
use Rattle.cwords.specs.Back.{address_back, address_in-back, NarrowEvent, gossip-back, entry-back, member_back, timer_back, departed_back, NarrowState, wait-back, NarrowOption, optional_back, action_back}

-- what is known of the first word of an address
abbrev pub First : ℕ → Addr → Type 0
First x a = (x ≡ first_word a) × Narrow a

-- a value written and read back
abbrev pub Written : {A : Type 0} → (A → List ℕ) → (List ℕ → A) → List ℕ → A → Type 0
Written f g l v = (l ≡ f v) × (g l ≡ v)

written : {A : Type 0} (f : A → List ℕ) (g : List ℕ → A) (l : List ℕ) (v : A) → l ≡ f v → g (f v) ≡ v → Written f g l v
written f g l v e b = (e, ap g e ∙ b)

pub address_ends : (a : Addr) (x : ℕ) → First x a → Written address_words address_in (x ∷ a.high ∷ a.low ∷ []) a
unfolding address_words
address_ends a x h = written address_words address_in _ a (ap (λ (y : ℕ). y ∷ a.high ∷ a.low ∷ []) h.0) (address_in-back a h.1)

abbrev laid : Parts → ℕ → ℕ → List ℕ → List ℕ
laid p x y l = p.kind ∷ x ∷ p.from.high ∷ p.from.low ∷ y ∷ p.subject.high ∷ p.subject.low ∷ p.number ∷ l

abbrev PartsOf : Parts → Event → Type 0
PartsOf p v = p ≡ from_parts (parts_of here (to_event v))

parts_laid : (v : Event) (p : Parts) (x y : ℕ) (l : List ℕ) → PartsOf p v → First x p.from → First y p.subject → laid p x y l ≡ parts_words (parts_of here (to_event v)) l
parts_laid v p x y l e f s =
    (λ i. laid p (f.0 i) (s.0 i) l) ∙ ap (λ (q : Parts). laid q (first_word q.from) (first_word q.subject) l) e

parts_narrow : (v : Event) (p : Parts) (x y : ℕ) → PartsOf p v → First x p.from → First y p.subject → NarrowEvent v
parts_narrow v p x y e f s = (subst (λ (q : Parts). Narrow q.from) e f.1, subst (λ (q : Parts). Narrow q.subject) e s.1)

pub gossip-ends : (g : Gossip) (p : Parts) (x y : ℕ) → PartsOf p g.event → First x p.from → First y p.subject → Written gossip_words gossip_of (laid p x y []) g
unfolding gossip_words
gossip-ends g p x y e f s =
    written gossip_words gossip_of _ g (parts_laid g.event p x y [] e f s) (gossip-back g (parts_narrow g.event p x y e f s))

pub entry-ends : (n : Entry) (p : Parts) (x y : ℕ) → PartsOf p n.gossip.event → First x p.from → First y p.subject
    → Written entry_words entry_of (laid p x y (n.sends ∷ n.size ∷ [])) n
unfolding entry_words
entry-ends n p x y e f s =
    written entry_words entry_of _ n (parts_laid n.gossip.event p x y (n.sends ∷ n.size ∷ []) e f s)
    (entry-back n (parts_narrow n.gossip.event p x y e f s))

pub member-ends : (m : Member) (x s : ℕ) → First x m.addr → s ≡ state_word m.state → Written member_words member_of (x ∷ m.addr.high ∷ m.addr.low ∷ s ∷ m.number ∷ []) m
unfolding member_words
member-ends m x s h e =
    written member_words member_of _ m (λ i. h.0 i ∷ m.addr.high ∷ m.addr.low ∷ e i ∷ m.number ∷ []) (member_back m h.1)

pub timer_ends : (t : Timer) (x s : ℕ) → First x t.addr → (s ≡ t.since) × (s < 4294967296) → Written timer_words timer_of (x ∷ t.addr.high ∷ t.addr.low ∷ t.number ∷ s ∷ []) t
unfolding timer_words
timer_ends t x s h e =
    written timer_words timer_of _ t (λ i. h.0 i ∷ t.addr.high ∷ t.addr.low ∷ t.number ∷ e.0 i ∷ []) (timer_back t h.1 (omega (arith, e.0, e.1)))

pub departed_ends : (d : Departed) (x : ℕ) → First x d.addr → Written departed_words departed_of (x ∷ d.addr.high ∷ d.addr.low ∷ d.number ∷ []) d
unfolding departed_words
departed_ends d x h =
    written departed_words departed_of _ d (ap (λ (y : ℕ). y ∷ d.addr.high ∷ d.addr.low ∷ d.number ∷ []) h.0) (departed_back d h.1)

-- an address among other words
pub laid-first : (x : ℕ) (a : Addr) (l : List ℕ) → First x a → ◌≡◌ {A = List ℕ} (x ∷ a.high ∷ a.low ∷ l) (first_word a ∷ a.high ∷ a.low ∷ l)
laid-first x a l h = ap (λ (y : ℕ). y ∷ a.high ∷ a.low ∷ l) h.0

pub laid-second : (k x : ℕ) (a : Addr) (l : List ℕ) → First x a → ◌≡◌ {A = List ℕ} (k ∷ x ∷ a.high ∷ a.low ∷ l) (k ∷ first_word a ∷ a.high ∷ a.low ∷ l)
laid-second k x a l h = ap (λ (y : ℕ). k ∷ y ∷ a.high ∷ a.low ∷ l) h.0

-- a wait record by its state
pub wait-ends : (w : Wait) (s : WaitState) (t : ℕ) (l : List ℕ) → w.state ≡ s → (t ≡ w.since) × (t < 4294967296) → l ≡ wait_state_words s t → NarrowState s
    → Written wait_words wait_of l w
unfolding wait_words
wait-ends w s t l e h o k =
    written wait_words wait_of l w (o ∙ (λ i. wait_state_words (sym e i) (h.0 i))) (wait-back w (subst NarrowState (sym e) k) (omega (arith, h.0, h.1)))

pub optional_ends : (o v : Optional) (l : List ℕ) → o ≡ v → l ≡ optional_words v → NarrowOption v → Written optional_words optional_in l o
optional_ends o v l e h k =
    written optional_words optional_in l o (h ∙ ap optional_words (sym e)) (optional_back o (subst NarrowOption (sym e) k))

abbrev three : List ℕ → List ℕ
three w = get_or w 0 0 ∷ get_or w 1 0 ∷ get_or w 2 0 ∷ []

optional_three : (o : Optional) → three (optional_words o) ≡ optional_words o
unfolding optional_words
optional_three Absent = refl
optional_three (Given a) = refl

abbrev before_other : ℕ → ℕ → Addr → List ℕ → List ℕ
before_other k x f l = k ∷ x ∷ f.high ∷ f.low ∷ l

-- an action with another address that may be absent
module _ (a : Action) (f : Addr) (o : Optional) (x : ℕ) (w : List ℕ) (h : First x f) (k : Written optional_words optional_in w o) where
  other : three w ≡ optional_words o
  other = ap three k.0 ∙ optional_three o

  sender : address_of x f.high f.low ≡ f
  sender = ap (λ (y : ℕ). address_of y f.high f.low) h.0 ∙ address_back f h.1

  pub ping_ends : a ≡ Ping f o → Written action_words action_of (before_other 1 x f (three w)) a
  unfolding action_words action_of action_as optional_in optional_words
  ping_ends e = ((λ i. before_other 1 (h.0 i) f (other i)) ∙ ap action_words (sym e), (λ i. Ping (sender i) (k.1 i)) ∙ sym e)

  pub ack_ends : a ≡ Ack f o → Written action_words action_of (before_other 3 x f (three w)) a
  unfolding action_words action_of action_as optional_in optional_words
  ack_ends e = ((λ i. before_other 3 (h.0 i) f (other i)) ∙ ap action_words (sym e), (λ i. Ack (sender i) (k.1 i)) ∙ sym e)

pub request_ends : (a : Action) (f s : Addr) (x y : ℕ) → First x f → First y s → a ≡ PingReq f s
    → Written action_words action_of (before_other 2 x f (y ∷ s.high ∷ s.low ∷ [])) a
unfolding action_words
request_ends a f s x y h k e =
    written action_words action_of _ a ((λ i. before_other 2 (h.0 i) f (k.0 i ∷ s.high ∷ s.low ∷ [])) ∙ ap action_words (sym e))
    (ap (λ (z : Action). action_of (action_words z)) e ∙ action_back (PingReq f s) (h.1, k.1) ∙ sym e)

abbrev seven : List ℕ → List ℕ → List ℕ
seven w l = get_or w 0 0 ∷ get_or w 1 0 ∷ get_or w 2 0 ∷ get_or w 3 0 ∷ get_or w 4 0 ∷ get_or w 5 0 ∷ get_or w 6 0 ∷ l

action_seven : (a : Action) (l : List ℕ) → seven (action_words a) l ≡ action_then a l
unfolding action_words
action_seven (Ping f Absent) l = refl
action_seven (Ping f (Given o)) l = refl
action_seven (PingReq f s) l = refl
action_seven (Ack f Absent) l = refl
action_seven (Ack f (Given o)) l = refl

pub letter-ends : (m : Letter) (x : ℕ) (w : List ℕ) → First x m.target → Written action_words action_of w m.action
    → (◌≡◌ {A = List ℕ} (x ∷ m.target.high ∷ m.target.low ∷ seven w (m.count ∷ [])) (letter_words m))
    × (action_in (x ∷ m.target.high ∷ m.target.low ∷ seven w (m.count ∷ [])) ≡ m.action)
unfolding letter_words action_in action_of
letter-ends m x w h k = (
  (λ i. h.0 i ∷ m.target.high ∷ m.target.low ∷ seven (k.0 i) (m.count ∷ []))
      ∙ ap (λ (l : List ℕ). first_word m.target ∷ m.target.high ∷ m.target.low ∷ l) (action_seven m.action (m.count ∷ [])),
  k.1,
)
