-- The head of an image, its position, and one place.
-- Assumes nothing.
use mathlib.Core.Path.{◌≡◌, refl, ap, sym, ◌∙◌}
use mathlib.Core.Bool.{Bool, true, false, not, ◌&&◌}
use mathlib.Core.List.{List, [], ◌∷◌}
use Prim.Native.Nat.{ℕ, zero, suc, ◌+◌, ◌≤◌, ◌<◌}
use native.Mathlib.Omega.{arith}
use lib.Dec.{ltb, leb}
use lib.ListN.{length, take, drop, length-drop}
use lib.Seq.{length-take-le, drop-nil}
use borrow.Author.Tests.{leb-true, le-leb, lt-leb, le-ltb, lt-ltb, not-true, not-false}
use Rattle.model.specs.Rows.{pick, has}
use Rattle.laws_list.specs.Places.{place_of as place_in, has-place}
use Rattle.address.specs.Here.{Addr, here}
use Rattle.numbers.specs.Numbers.{number_in, number_of}
use Rattle.image.specs.Image.{Form, Entry, head, entry}
use Rattle.image.specs.Views.{place_of, entry_in}
use Rattle.image.specs.declared.Place.{Place}
use Rattle.salvage.specs.Salvage.{verdict, word_of, position_of, own_of, headed}
use Rattle.salvage.specs.Views.{no_place, seen_of}
use Rattle.salvage.specs.declared.Word.{Word}
use Rattle.salvage.specs.declared.Word.TheVariants as word

-- the head
module _ (f : Form Addr) (bytes : List ℕ) where
  pub headed-short : length bytes < (head f).width → false ≡ headed here f bytes
  unfolding headed
  headed-short h = sym (ap (λ (u : Bool). u && here.valid (own_of here f bytes)) (lt-leb (head f).width (length bytes) h))

  pub headed-by : (own : Addr) (r : Bool) → (head f).width ≤ length bytes → own ≡ f.address.get (drop 5 bytes) → r ≡ here.valid own → r ≡ headed here f bytes
  unfolding headed
  headed-by own r h e q = q ∙ ap here.valid e ∙ sym (ap (λ (u : Bool). u && here.valid (own_of here f bytes)) (le-leb (head f).width (length bytes) h))

  pub headed-long : headed here f bytes ≡ true → (head f).width ≤ length bytes
  unfolding headed
  headed-long e =
      (elim (leb (head f).width (length bytes)) as (λ u. leb (head f).width (length bytes) ≡ u → (u && here.valid (own_of here f bytes)) ≡ true → (head f).width ≤ length bytes) [
        | true ↦ λ q r. leb-true (head f).width (length bytes) q
        | false ↦ λ q r. let z : ◌≡◌ {A = ℕ} 0 1 = cc in absurd (omega arith)
      ]) refl e

-- the position
drop_past : (at : ℕ) (bytes : List ℕ) → length bytes ≤ at → drop at bytes ≡ []
drop_past at [] h = drop-nil at
drop_past zero (b ∷ bytes) h = absurd (omega arith)
drop_past (suc at) (b ∷ bytes) h = drop_past at bytes (omega arith)

either_zero : (u : Bool) → ◌≡◌ {A = ℕ} (pick u 0 0) 0
either_zero true = refl
either_zero false = refl

pub position_none : (bytes : List ℕ) (at n : ℕ) → length bytes ≤ at → 0 ≡ position_of (drop at bytes) n
unfolding position_of number_of number_in
position_none bytes at n h = sym (ap (λ (l : List ℕ). position_of l n) (drop_past at bytes h) ∙ either_zero (ltb 0 n))

pub position_in : (bytes : List ℕ) (at n p : ℕ) → p ≡ number_of (take 1 (drop at bytes)) → p < n → p ≡ position_of (drop at bytes) n
unfolding position_of
position_in bytes at n p e h = sym (ap (λ (x : ℕ). pick (ltb x n) x 0) (sym e) ∙ ap (λ (u : Bool). pick u p 0) (lt-ltb p n h))

pub position_out : (bytes : List ℕ) (at n p : ℕ) → p ≡ number_of (take 1 (drop at bytes)) → n ≤ p → 0 ≡ position_of (drop at bytes) n
unfolding position_of
position_out bytes at n p e h = sym (ap (λ (x : ℕ). pick (ltb x n) x 0) (sym e) ∙ ap (λ (u : Bool). pick u p 0) (le-ltb p n h))

-- a place
pub repeat_is : (row : List Addr) (n : ℕ) (a : Addr) (place : ℕ) → n ≤ length row → place ≡ place_in here.same a (take n row) → ltb place n ≡ has here.same a (take n row)
repeat_is row n a place h e =
    ap (λ (x : ℕ). ltb x n) e
    ∙ ap (ltb (place_in here.same a (take n row))) (sym (length-take-le n row h))
    ∙ sym (has-place here.same a (take n row))

module _ (kept : List Addr) (p : Place) where
  abbrev said-by : Bool → Bool → Bool → Word
  said-by a s h = pick (not a) word.Address (pick (not s) word.State (pick h word.Repeat word.Kept))

  by : (a s h : Bool) → here.valid p.addr ≡ a → leb p.state 2 ≡ s → has here.same p.addr kept ≡ h → said-by a s h ≡ verdict here kept (entry_in p)
  unfolding verdict
  by a s h e q g = sym (λ i. said-by (e i) (q i) (g i))

  pub judged_address : (r : Bool) → r ≡ here.valid p.addr → not r ≡ true → word.Address ≡ verdict here kept (entry_in p)
  judged_address r e t = by false (leb p.state 2) (has here.same p.addr kept) (sym e ∙ not-true r t) refl refl

  pub judged_state : (r : Bool) → r ≡ here.valid p.addr → not r ≡ false → 2 < p.state → word.State ≡ verdict here kept (entry_in p)
  judged_state r e t h = by true false (has here.same p.addr kept) (sym e ∙ not-false r t) (lt-leb p.state 2 h) refl

  pub judged_repeat : (r u : Bool) → r ≡ here.valid p.addr → not r ≡ false → p.state ≤ 2 → u ≡ has here.same p.addr kept → u ≡ true → word.Repeat ≡ verdict here kept (entry_in p)
  judged_repeat r u e t h g q = by true true true (sym e ∙ not-false r t) (le-leb p.state 2 h) (sym g ∙ q)

  pub judged-kept : (r u : Bool) → r ≡ here.valid p.addr → not r ≡ false → p.state ≤ 2 → u ≡ has here.same p.addr kept → u ≡ false → word.Kept ≡ verdict here kept (entry_in p)
  judged-kept r u e t h g q = by true true false (sym e ∙ not-false r t) (le-leb p.state 2 h) (sym g ∙ q)

module _ (f : Form Addr) (kept : List Addr) (bytes : List ℕ) (at : ℕ) where
  abbrev there : Entry Addr
  there = (entry f).get (drop at bytes)

  seen_by : (u : Bool) → ltb (length (drop at bytes)) (entry f).width ≡ u
      → record { word = pick u word.Cut (verdict here kept there); place = pick u no_place (place_of there) } ≡ seen_of f kept (drop at bytes)
  unfolding seen_of word_of
  seen_by u e = sym (λ i. record { word = pick (e i) word.Cut (verdict here kept there); place = pick (e i) no_place (place_of there) })

  pub look-cut : (p : Place) → length bytes < at + (entry f).width → p ≡ no_place → record { word = word.Cut; place = p } ≡ seen_of f kept (drop at bytes)
  look-cut p h e =
      ap (λ (x : Place). record { word = word.Cut; place = x }) e
      ∙ seen_by true (lt-ltb (length (drop at bytes)) (entry f).width (omega (arith, length-drop at bytes)))

  pub look-whole : (p : Place) (w : Word) → at + (entry f).width ≤ length bytes → p ≡ place_of there → w ≡ verdict here kept (entry_in p)
      → record { word = w; place = p } ≡ seen_of f kept (drop at bytes)
  look-whole p w h e q =
      let q' : w ≡ verdict here kept there = q ∙ ap (λ (x : Place). verdict here kept (entry_in x)) e in
      (λ i. record { word = q' i; place = e i }) ∙ seen_by false (le-ltb (length (drop at bytes)) (entry f).width (omega (arith, length-drop at bytes)))
