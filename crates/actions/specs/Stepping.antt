-- Each way out of the functions that read an action's fields, and what a row shows after each.
-- Assumes nothing.
use Rattle.std.specs.Prelude.{◌≡◌, true, false, List, [], ◌∷◌, ◌++◌, ℕ, suc, ◌+◌, ◌-◌, ◌≤◌, ◌<◌, min, eqb, ltb, length, take, drop, set}
use Rattle.std.proofs.Math.Path.{refl, ap, sym}
use Rattle.std.proofs.Common.{◌∙◌, subst, arith, length-append, length-drop, take-suc-set, take_all}
use Rattle.std.proofs.lemmas.List.{take-set-le, take-append-le}
use borrow.Author.Tests.{eq-eqb, ne_eqb, ltb-true, ltb-false}
use Rattle.model.specs.Rows.{pick}
use Rattle.types.specs.declared.Gossip.{Gossip}
use Rattle.types.specs.Views.{no_gossip}
use Rattle.fields.specs.declared.Field.{Field}
use Rattle.fields.specs.Field.{content}
use Rattle.fields.specs.Walk.{Read, stopped, read, and_then, walk}
use Rattle.fields.specs.declared.Next.{Next}
use Rattle.fields.specs.declared.Next.TheVariants.{Stopped, Found}
use Rattle.fields.specs.Field.{next_in}
use Rattle.fields.specs.FieldLaws.{next_lies}
use Rattle.fields.specs.Walks.{Going, going_stop, going_refuse, going_more}
use Rattle.iptext.specs.declared.Text.{Text}
use Rattle.events.specs.declared.TextField.{TextField}
use Rattle.events.specs.declared.TextField.TheVariants as text
use Rattle.events.specs.Event.{text_at, put_text}
use Rattle.gossips.specs.declared.Held.{Held}
use Rattle.gossips.specs.declared.Settled.{Settled}
use Rattle.gossips.specs.declared.Settled.TheVariants.{Missing, Whole}
use Rattle.gossips.specs.Gossip.{unheld, gossip_step, settled}
use Rattle.actions.specs.declared.Small.{Small}
use Rattle.actions.specs.declared.Piece.{Piece}
use Rattle.actions.specs.declared.Piece.TheVariants.{Unknown, From, Other, News}
use Rattle.actions.specs.declared.PieceRead.{PieceRead}
use Rattle.actions.specs.declared.PieceRead.TheVariants as piece
use Rattle.actions.specs.declared.FirstRead.TheVariants as first
use Rattle.actions.specs.declared.Turn.{Turn}
use Rattle.actions.specs.declared.Acted.{Acted}
use Rattle.actions.specs.Action.{Acting, piece_at, put, action_step, as_piece, piece_sized, first_piece_in, first_piece, turn_of, Shows, Given, Acts}

module _ (place : ℕ) (bytes : List ℕ) (f : Field) where
  module _ (h : f.number ≡ 1) where
    from_is : piece_at place bytes f ≡ put_text place (text_at bytes f) From
    unfolding piece_at
    from_is = simp (eq-eqb f.number 1 h)

    pub from_stop : text.Stopped ≡ text_at bytes f → stopped place ≡ piece_at place bytes f
    unfolding put_text
    from_stop e = sym (from_is ∙ ap (λ (x : TextField). put_text place x From) (sym e))

    pub from_read : (t : Text) → text.Read t ≡ text_at bytes f → read (From t) ≡ piece_at place bytes f
    unfolding put_text
    from_read t e = sym (from_is ∙ ap (λ (x : TextField). put_text place x From) (sym e))

  module _ (h : f.number ≡ 2) where
    other_is : piece_at place bytes f ≡ put_text place (text_at bytes f) Other
    unfolding piece_at
    other_is = simp (ne_eqb f.number 1 (λ e. omega arith), eq-eqb f.number 2 h)

    pub other_stop : text.Stopped ≡ text_at bytes f → stopped place ≡ piece_at place bytes f
    unfolding put_text
    other_stop e = sym (other_is ∙ ap (λ (x : TextField). put_text place x Other) (sym e))

    pub other_read : (t : Text) → text.Read t ≡ text_at bytes f → read (Other t) ≡ piece_at place bytes f
    unfolding put_text
    other_read t e = sym (other_is ∙ ap (λ (x : TextField). put_text place x Other) (sym e))

  module _ (h : f.number ≡ 3) where
    news_is : piece_at place bytes f
        ≡ pick (eqb f.wire 2) (and_then (walk gossip_step (place + f.head) (content bytes f) unheld) (λ h. read (News (settled h)))) (stopped place)
    unfolding piece_at
    news_is = simp (ne_eqb f.number 1 (λ e. omega arith), ne_eqb f.number 2 (λ e. omega arith), eq-eqb f.number 3 h)

    pub news_wrong : (f.wire ≡ 2 → ⊥) → stopped place ≡ piece_at place bytes f
    news_wrong w = sym (news_is ∙ simp (ne_eqb f.wire 2 w))

    module _ (w : f.wire ≡ 2) where
      inner : piece_at place bytes f ≡ and_then (walk gossip_step (place + f.head) (content bytes f) unheld) (λ h. read (News (settled h)))
      inner = news_is ∙ simp (eq-eqb f.wire 2 w)

      pub news_stop : (p : ℕ) → stopped p ≡ walk gossip_step (place + f.head) (content bytes f) unheld → stopped p ≡ piece_at place bytes f
      unfolding and_then
      news_stop p q = sym (inner ∙ ap (λ (r : Read Held). and_then r (λ h. read (News (settled h)))) (sym q))

      pub news_read : (h : Held) (v : Settled) → read h ≡ walk gossip_step (place + f.head) (content bytes f) unheld → v ≡ settled h → read (News v) ≡ piece_at place bytes f
      unfolding and_then
      news_read h v q e = ap (λ (x : Settled). read (News x)) e ∙ sym (inner ∙ ap (λ (r : Read Held). and_then r (λ h. read (News (settled h)))) (sym q))

  pub unknown_read : (f.number ≡ 1 → ⊥) → (f.number ≡ 2 → ⊥) → (f.number ≡ 3 → ⊥) → read Unknown ≡ piece_at place bytes f
  unfolding piece_at
  unknown_read a b c = sym (simp (ne_eqb f.number 1 a, ne_eqb f.number 2 b, ne_eqb f.number 3 c))

-- the two answers of a field
was-stopped : (r : Read Piece) (m : PieceRead) (p : ℕ) → m ≡ as_piece r → m ≡ piece.Stopped p → stopped p ≡ r
was-stopped (stopped q) m p e h = let z : p ≡ q = cc in ap stopped z
was-stopped (read s) m p e h = let z : ◌≡◌ {A = ℕ} 0 1 = cc in absurd (omega arith)

was_read : (r : Read Piece) (m : PieceRead) (s : Piece) → m ≡ as_piece r → m ≡ piece.Read s → read s ≡ r
was_read (stopped q) m s e h = let z : ◌≡◌ {A = ℕ} 0 1 = cc in absurd (omega arith)
was_read (read t) m s e h = let z : s ≡ t = cc in ap read z

-- what the step of an action makes of them
step_stop : (a : Acting) (place : ℕ) (bytes : List ℕ) (f : Field) (p : ℕ) → stopped p ≡ piece_at place bytes f → stopped p ≡ action_step a place bytes f
unfolding action_step and_then
step_stop a place bytes f p e = sym (ap (λ (r : Read Piece). and_then r (λ p. read (put a p))) (sym e))

pub step_read : (a : Acting) (place : ℕ) (bytes : List ℕ) (f : Field) (p : Piece) → read p ≡ piece_at place bytes f → read (put a p) ≡ action_step a place bytes f
unfolding action_step and_then
step_read a place bytes f p e = sym (ap (λ (r : Read Piece). and_then r (λ p. read (put a p))) (sym e))

-- what a row shows after one more gossip, or after none
module _ (a : Acting) (s : Small) (row : List Gossip) (h : Shows a s row) (l : length row ≡ 65) where
  kept-aside : (g : Gossip) → take (min s.count 64) (set row 64 g) ≡ take 64 a.gossip
  kept-aside g = let k : min s.count 64 ≤ 64 = omega arith in take-set-le (min s.count 64) row 64 g k ∙ h.kept

  few : (g : Gossip) → length a.gossip < 64 → take (suc (length a.gossip)) (set row (length a.gossip) g) ≡ a.gossip ++ (g ∷ [])
  few g k =
      let n : ℕ = length a.gossip in
      let c : min s.count 64 ≡ length a.gossip = omega (arith, h.count) in
      let i : length a.gossip < length row = omega arith in
      let j : length a.gossip ≤ 64 = omega arith in
      take-suc-set row (length a.gossip) g i
      ∙ ap (λ (x : List Gossip). x ++ (g ∷ [])) (ap (λ (m : ℕ). take m row) (sym c) ∙ h.kept ∙ take_all 64 a.gossip j)

  kept_more : (g : Gossip) → take (min (min s.count 64 + 1) 64) (set row (min s.count 64) g) ≡ take 64 (a.gossip ++ (g ∷ []))
  kept_more g =
      (elim (ltb (length a.gossip) 64) as (λ u. ltb (length a.gossip) 64 ≡ u
      → take (min (min s.count 64 + 1) 64) (set row (min s.count 64) g) ≡ take 64 (a.gossip ++ (g ∷ []))) [
        | true ↦ λ e.
            let k : length a.gossip < 64 = ltb-true (length a.gossip) 64 e in
            let c : min s.count 64 ≡ length a.gossip = omega (arith, h.count) in
            let d : min (min s.count 64 + 1) 64 ≡ suc (length a.gossip) = omega (arith, h.count) in
            let z : length (a.gossip ++ (g ∷ [])) ≤ 64 = omega (arith, length-append a.gossip (g ∷ [])) in
            ap (λ (m : ℕ). take m (set row (min s.count 64) g)) d
            ∙ ap (λ (m : ℕ). take (suc (length a.gossip)) (set row m g)) c
            ∙ few g k
            ∙ sym (take_all 64 (a.gossip ++ (g ∷ [])) z)
        | false ↦ λ e.
            let k : 64 ≤ length a.gossip = ltb-false (length a.gossip) 64 e in
            let c : min s.count 64 ≡ 64 = omega (arith, h.count) in
            let d : min (min s.count 64 + 1) 64 ≡ min s.count 64 = omega (arith, h.count) in
            ap (λ (m : ℕ). take m (set row (min s.count 64) g)) d
            ∙ ap (λ (m : ℕ). take (min s.count 64) (set row m g)) c
            ∙ kept-aside g
            ∙ sym (take-append-le 64 a.gossip (g ∷ []) k)
      ]) refl

  count-more : (g : Gossip) → min s.count 64 + 1 ≡ min (length (a.gossip ++ (g ∷ []))) 65
  count-more g = omega (arith, h.count, length-append a.gossip (g ∷ []))

  shows_put : (p : Piece) → Shows (put a p) (turn_of s p).small (set row (turn_of s p).slot (turn_of s p).gossip)
  unfolding put turn_of
  shows_put Unknown = record { from = h.from; other = h.other; bad = h.bad; count = h.count; kept = kept-aside no_gossip }
  shows_put (From t) = record { from = refl; other = h.other; bad = h.bad; count = h.count; kept = kept-aside no_gossip }
  shows_put (Other t) = record { from = h.from; other = refl; bad = h.bad; count = h.count; kept = kept-aside no_gossip }
  shows_put (News Missing) = record { from = h.from; other = h.other; bad = refl; count = count-more no_gossip; kept = kept_more no_gossip }
  shows_put (News (Whole g)) = record { from = h.from; other = h.other; bad = h.bad; count = count-more g; kept = kept_more g }

  pub shows_turn : (p : Piece) (t : Turn) → t ≡ turn_of s p → Shows (put a p) t.small (set row t.slot t.gossip)
  shows_turn p t e = subst (λ (x : Turn). Shows (put a p) x.small (set row x.slot x.gossip)) (sym e) (shows_put p)

-- the loop: whatever the row showed at first, there is what it shows now
pub record Run (place : ℕ) (bytes : List ℕ) (a : Acting) (at : ℕ) (s : Small) (row : List Gossip) : Type 0 where
  pub said : Acting
  pub going : Going action_step place bytes a at said
  pub shows : Shows said s row

pub given-stopped : (place : ℕ) (bytes : List ℕ) (s₀ : Small) (row₀ : List Gossip) (r : Acted) (p : ℕ) → r.stopped ≡ true → r.place ≡ p
    → ((a : Acting) → Shows a s₀ row₀ → stopped p ≡ walk action_step place bytes a) → Acts place bytes s₀ row₀ r
unfolding Given
given-stopped place bytes s₀ row₀ r p e q f = record { acts = λ a h. subst (λ (x : Read Acting). Given x r) (f a h) (e, q) }

pub given_read : (place : ℕ) (bytes : List ℕ) (s₀ : Small) (row₀ : List Gossip) (r : Acted) → r.stopped ≡ false
    → ((a : Acting) → Shows a s₀ row₀ → (b : Acting) × (read b ≡ walk action_step place bytes a) × Shows b r.small r.row) → Acts place bytes s₀ row₀ r
unfolding Given
given_read place bytes s₀ row₀ r e f =
    record { acts = λ a h. let t = f a h in subst (λ (x : Read Acting). Given x r) t.1 (e, t.2) }

-- where a field ends
pub size_at : (bytes rest : List ℕ) (at : ℕ) (f : Field) → rest ≡ drop at bytes → at ≤ length bytes → Found f ≡ next_in rest → (1 ≤ f.size) × (at + f.size ≤ length bytes)
size_at bytes rest at f e h q =
    let w = next_lies rest f (sym q) in
    let l : length rest ≡ length bytes - at = ap (λ (x : List ℕ). length x) e ∙ length-drop at bytes in
    (omega (arith, w.some, w.begins), omega (arith, w.ends))

-- the first field: none is whole, it stops, or it is read
module _ (place : ℕ) (bytes : List ℕ) where
  pub first-none : Stopped ≡ next_in bytes → first.Stopped place ≡ first_piece place bytes
  unfolding first_piece
  first-none q = ap (first_piece_in place bytes) q

  pub first_some : (f : Field) (m : PieceRead) → Found f ≡ next_in bytes → m ≡ as_piece (piece_at place bytes f) → (p : ℕ) → m ≡ piece.Stopped p → first.Stopped p ≡ first_piece place bytes
  unfolding first_piece
  first_some f m q e p h = ap (piece_sized f) (was-stopped (piece_at place bytes f) m p e h) ∙ ap (first_piece_in place bytes) q

  pub first-whole : (f : Field) (m : PieceRead) → Found f ≡ next_in bytes → m ≡ as_piece (piece_at place bytes f) → (s : Piece) → m ≡ piece.Read s → first.Read s f.size ≡ first_piece place bytes
  unfolding first_piece
  first-whole f m q e s h = ap (piece_sized f) (was_read (piece_at place bytes f) m s e h) ∙ ap (first_piece_in place bytes) q

  sized_stop : (f : Field) (r : Read Piece) (p : ℕ) → first.Stopped p ≡ piece_sized f r → stopped p ≡ r
  sized_stop f (stopped q) p e = let z : p ≡ q = cc in ap stopped z
  sized_stop f (read s) p e = let z : ◌≡◌ {A = ℕ} 0 1 = cc in absurd (omega arith)

  sized_read : (f : Field) (r : Read Piece) (s : Piece) (n : ℕ) → first.Read s n ≡ piece_sized f r → (read s ≡ r) × (n ≡ f.size)
  sized_read f (stopped q) s n e = let z : ◌≡◌ {A = ℕ} 0 1 = cc in absurd (omega arith)
  sized_read f (read t) s n e = let z : s ≡ t = cc in (ap read z, cc)

  size_in : (v : Next) → v ≡ next_in bytes → (s : Piece) (n : ℕ) → first.Read s n ≡ first_piece_in place bytes v → (1 ≤ n) × (n ≤ length bytes)
  size_in Stopped q s n e = let z : ◌≡◌ {A = ℕ} 0 1 = cc in absurd (omega arith)
  size_in (Found f) q s n e =
      let w = next_lies bytes f (sym q) in
      let z = sized_read f (piece_at place bytes f) s n e in
      (omega (arith, w.some, w.begins, z.1), omega (arith, w.ends, z.1))

  -- it takes a byte at least, and none that isn't there
  pub first_size : (s : Piece) (n : ℕ) → first.Read s n ≡ first_piece place bytes → (1 ≤ n) × (n ≤ length bytes)
  unfolding first_piece
  first_size s n e = size_in (next_in bytes) refl s n e

-- what it does to a walk
module _ (place : ℕ) (bytes : List ℕ) (a₀ : Acting) (at : ℕ) (a : Acting) (g : Going action_step place bytes a₀ at a) (rest : List ℕ) (e : rest ≡ drop at bytes) (h : at < length bytes) where
  stop-in : (v : Next) → v ≡ next_in rest → (p : ℕ) → first.Stopped p ≡ first_piece_in (place + at) rest v → stopped p ≡ walk action_step place bytes a₀
  stop-in Stopped q p r = let z : p ≡ place + at = cc in ap stopped z ∙ going_stop action_step place bytes a₀ at a g rest e h q
  stop-in (Found f) q p r =
      going_refuse action_step place bytes a₀ at a g rest e h f q p (step_stop a (place + at) rest f p (sized_stop (place + at) rest f (piece_at (place + at) rest f) p r))

  pub first_stop : (p : ℕ) → first.Stopped p ≡ first_piece (place + at) rest → stopped p ≡ walk action_step place bytes a₀
  unfolding first_piece
  first_stop p r = stop-in (next_in rest) refl p r

  read_in : (v : Next) → v ≡ next_in rest → (s : Piece) (n : ℕ) → first.Read s n ≡ first_piece_in (place + at) rest v → Going action_step place bytes a₀ (at + n) (put a s)
  read_in Stopped q s n r = let z : ◌≡◌ {A = ℕ} 0 1 = cc in absurd (omega arith)
  read_in (Found f) q s n r =
      let z = sized_read (place + at) rest f (piece_at (place + at) rest f) s n r in
      subst (λ (k : ℕ). Going action_step place bytes a₀ (at + k) (put a s)) (sym z.1)
      (going_more action_step place bytes a₀ at a g rest e h f q (put a s) (step_read a (place + at) rest f s z.0))

  pub first_read : (s : Piece) (n : ℕ) → first.Read s n ≡ first_piece (place + at) rest → Going action_step place bytes a₀ (at + n) (put a s)
  unfolding first_piece
  first_read s n r = read_in (next_in rest) refl s n r

-- a gossip's turn
module _ (s : Small) (v : Settled) (x : ℕ) (e : x ≡ min s.count 64) where
  pub turn_missing : v ≡ Missing → ◌≡◌ {A = Turn} (record { small = record { from = s.from; other = s.other; bad = true; count = x + 1 }; slot = x; gossip = no_gossip }) (turn_of s (News v))
  unfolding turn_of
  turn_missing q =
      ap (λ (k : ℕ). record { small = record { from = s.from; other = s.other; bad = true; count = k + 1 }; slot = k; gossip = no_gossip }) e
      ∙ sym (ap (λ (y : Settled). turn_of s (News y)) q)

  pub turn-whole : (g : Gossip) → v ≡ Whole g → ◌≡◌ {A = Turn} (record { small = record { from = s.from; other = s.other; bad = s.bad; count = x + 1 }; slot = x; gossip = g }) (turn_of s (News v))
  unfolding turn_of
  turn-whole g q =
      ap (λ (k : ℕ). record { small = record { from = s.from; other = s.other; bad = s.bad; count = k + 1 }; slot = k; gossip = g }) e
      ∙ sym (ap (λ (y : Settled). turn_of s (News y)) q)
