-- A text field and a number field laid down: their room, and what stands there then.
-- Assumes nothing.
use mathlib.Core.Path.{◌≡◌, ap, sym, ◌∙◌, subst}
use mathlib.Core.Bool.{Bool}
use mathlib.Core.List.{List, [], ◌++◌}
use Prim.Native.Nat.{ℕ, ◌+◌, ◌*◌}
use native.Mathlib.Omega.{arith}
use borrow.Author.Tests.{eq-eqb, ne_eqb}
use Rattle.model.specs.Rows.{pick}
use Rattle.address.specs.Here.{Addr, here, here_text as text, here_text-long}
use Rattle.types.specs.Wire.{varint, tag, string, number}
use Rattle.varint.specs.Laid.{Laid, Room, laid_none, laid_then, laid_as, room-first, room_then}
use Rattle.iptext.specs.Texts.{text-long}
use Rattle.events.specs.Back.{string-some}

string_is : (n : ℕ) (a : Addr) (r : ℕ) → r ≡ here.chars a → string n (text a) ≡ tag n 2 ++ (varint r ++ text a)
string_is n a r e =
    string-some n (text a) (text-long a)
    ∙ ap (λ (k : ℕ). tag n 2 ++ (varint k ++ text a)) (here_text-long a ∙ sym e)

module _ {row : List ℕ} {at : ℕ} (n : ℕ) (a : Addr) (r : ℕ) (e : r ≡ here.chars a) (h : Room row at (string n (text a))) where
  whole : Room row at (tag n 2 ++ (varint r ++ text a))
  whole = subst (Room row at) (string_is n a r e) h

  pub key_room : Room row at (tag n 2)
  key_room = room-first (tag n 2) (varint r ++ text a) whole

  module _ {row₁ : List ℕ} {n₁ : ℕ} (f₁ : Laid row at (tag n 2) row₁ n₁) where
    behind : Room row₁ n₁ (varint r ++ text a)
    behind = room_then (tag n 2) (varint r ++ text a) f₁ whole

    pub count_room : Room row₁ n₁ (varint r)
    count_room = room-first (varint r) (text a) behind

    module _ {row₂ : List ℕ} {n₂ : ℕ} (f₂ : Laid row₁ n₁ (varint r) row₂ n₂) where
      pub text-room : Room row₂ n₂ (text a)
      text-room = room_then (varint r) (text a) f₂ behind

      pub text-laid : {row₃ : List ℕ} {n₃ : ℕ} → Laid row₂ n₂ (text a) row₃ n₃ → Laid row at (string n (text a)) row₃ n₃
      text-laid f₃ = laid_as (tag n 2 ++ (varint r ++ text a)) (string n (text a)) (sym (string_is n a r e)) (laid_then f₁ (laid_then f₂ f₃))

none_is : (n v : ℕ) → v ≡ 0 → number n v ≡ []
none_is n v e = simp (eq-eqb v 0 e)

some_is : (n v : ℕ) → (v ≡ 0 → ⊥) → number n v ≡ varint (n * 8) ++ varint v
some_is n v e =
    let z : n * 8 + 0 ≡ n * 8 = omega arith in
    ap (λ (u : Bool). pick u [] (tag n 0 ++ varint v)) (ne_eqb v 0 e) ∙ ap (λ (k : ℕ). varint k ++ varint v) z

pub number-none : (row : List ℕ) (at n v : ℕ) → v ≡ 0 → Laid row at (number n v) row at
number-none row at n v e = laid_as [] (number n v) (sym (none_is n v e)) (laid_none row at)

module _ {row : List ℕ} {at : ℕ} (n v : ℕ) (e : v ≡ 0 → ⊥) where
  pub number_key_room : Room row at (number n v) → Room row at (varint (n * 8))
  number_key_room h = room-first (varint (n * 8)) (varint v) (subst (Room row at) (some_is n v e) h)

  module _ {row₁ : List ℕ} {n₁ : ℕ} (f₁ : Laid row at (varint (n * 8)) row₁ n₁) where
    pub number-room : Room row at (number n v) → Room row₁ n₁ (varint v)
    number-room h = room_then (varint (n * 8)) (varint v) f₁ (subst (Room row at) (some_is n v e) h)

    pub number-laid : {row₂ : List ℕ} {n₂ : ℕ} → Laid row₁ n₁ (varint v) row₂ n₂ → Laid row at (number n v) row₂ n₂
    number-laid f₂ = laid_as (varint (n * 8) ++ varint v) (number n v) (sym (some_is n v e)) (laid_then f₁ f₂)
