-- An advance on a row, by each way out.
-- Assumes nothing.
use mathlib.Core.Logic.{◌≢◌}
use mathlib.Core.Path.{◌≡◌, ap, sym, ◌∙◌}
use mathlib.Core.List.{List, [], ◌++◌}
use Prim.Native.Nat.{ℕ, ◌+◌, ◌-◌, ◌≤◌, ◌%◌}
use native.Mathlib.Omega.{arith}
use lib.ListN.{length, take, drop, length-drop, take-append-drop}
use lib.Seq.{length-take-le}
use borrow.Author.Tests.{eq-eqb, ne_eqb}
use Rattle.address.specs.Here.{Addr, here}
use Rattle.model.specs.declared.Refusal.{Refusal}
use Rattle.model.specs.Answers.{Answer, done, refused, and_then, when}
use Rattle.model.specs.Members as list
use Rattle.model.specs.declared.Drew.TheVariants.{Used, Refused}
use Rattle.order.specs.declared.Order.{Order}
use Rattle.order.specs.declared.Shuffled.{Shuffled}
use Rattle.order.specs.declared.Turned.{Turned}
use Rattle.order.specs.Views.{Ready, shuffled_of, shuffled_as, shuffled_row, view_order, turned_as, turned_of}

module _ {A : Type 0} (blank : A) (m : list.Members A) (ds : List ℕ) where
  pub advance-on : (m.position + 1) % length m.order ≢ 0
      → list.advance blank m ds ≡ done (record { table = m.table; order = m.order; position = (m.position + 1) % length m.order }) ds
  unfolding list.advance when
  advance-on h = rw (ne_eqb ((m.position + 1) % length m.order) 0 h)

  pub advance_round : (m.position + 1) % length m.order ≡ 0
      → list.advance blank m ds
      ≡ and_then (list.shuffle blank m.order ds) λ o rest. done (record { table = m.table; order = o; position = (m.position + 1) % length m.order }) rest
  unfolding list.advance when
  advance_round h = rw (eq-eqb ((m.position + 1) % length m.order) 0 h)

-- as many as the row says
many : (o : Order) (n : ℕ) → Ready o n → length (take n o.row) ≡ n
many o n y = length-take-le n o.row (omega (arith, y.few, y.long))

pub turned_on : (o : Order) (n : ℕ) (draws : List ℕ) (from next : ℕ) → Ready o n → from ≤ length draws → next ≡ (o.position + 1) % n → next ≢ 0
    → ◌≡◌ {A = Turned} (record { order = record { row = o.row; position = next }; drew = Used 0 }) (turned_of o n draws from)
turned_on o n draws from next y h e k =
    let l = many o n y in
    let e₂ : next ≡ (o.position + 1) % length (take n o.row) = e ∙ ap (λ (i : ℕ). (o.position + 1) % i) (sym l) in
    let p : o.row ≡ take n o.row ++ drop n o.row = sym (take-append-drop n o.row) in
    let q : 0 ≡ length draws - from - length (drop from draws) = omega (arith, length-drop from draws) in
    (λ i. record { order = record { row = p i; position = e₂ i }; drew = Used (q i) })
    ∙ ap (turned_as o n (length draws - from)) (sym (advance-on here.blank (view_order o n) (drop from draws) (λ z. k (e₂ ∙ z))))

-- a shuffle that was made, and one that was refused, as an advance's answer
module _ (o : Order) (n k p : ℕ) where
  after-shuffle : Answer (List Addr) → Answer (list.Members Addr)
  after-shuffle x = and_then x λ l rest. done (record { table = []; order = l; position = p }) rest

  shuffled_turned : (x : Answer (List Addr)) (u : ℕ) → (shuffled_as o.row n k x).drew ≡ Used u
      → ◌≡◌ {A = Turned} (record { order = record { row = shuffled_row o.row n x; position = p }; drew = Used u }) (turned_as o n k (after-shuffle x))
  unfolding after-shuffle
  shuffled_turned (refused r) u e = cc
  shuffled_turned (done l rest) u e = λ i. record { order = record { row = l ++ drop n o.row; position = p }; drew = sym e i }

  refused-turned : (x : Answer (List Addr)) (r : Refusal) → (shuffled_as o.row n k x).drew ≡ Refused r
      → ◌≡◌ {A = Turned} (record { order = o; drew = Refused r }) (turned_as o n k (after-shuffle x))
  unfolding after-shuffle
  refused-turned (refused r₁) r e = λ i. record { order = o; drew = sym e i }
  refused-turned (done l rest) r e = cc

module _ (o : Order) (n : ℕ) (draws : List ℕ) (from next : ℕ) (y : Ready o n) (e : next ≡ (o.position + 1) % n) (z : next ≡ 0) where
  around : list.advance here.blank (view_order o n) (drop from draws) ≡ after-shuffle o n (length draws - from) next (list.shuffle here.blank (take n o.row) (drop from draws))
  unfolding after-shuffle
  around =
      let l = many o n y in
      let e₂ : next ≡ (o.position + 1) % length (take n o.row) = e ∙ ap (λ (i : ℕ). (o.position + 1) % i) (sym l) in
      advance_round here.blank (view_order o n) (drop from draws) (sym e₂ ∙ z)
      ∙ ap (λ (p : ℕ). after-shuffle o n (length draws - from) p (list.shuffle here.blank (take n o.row) (drop from draws))) (sym e₂)

  pub turned_round : (s : Shuffled) (u : ℕ) → s ≡ shuffled_of o.row n draws from → s.drew ≡ Used u
      → ◌≡◌ {A = Turned} (record { order = record { row = s.row; position = next }; drew = Used u }) (turned_of o n draws from)
  turned_round s u g d =
      (λ i. record { order = record { row = (g i).row; position = next }; drew = Used u })
      ∙ shuffled_turned o n (length draws - from) next (list.shuffle here.blank (take n o.row) (drop from draws)) u (sym (ap (λ (x : Shuffled). x.drew) g) ∙ d)
      ∙ ap (turned_as o n (length draws - from)) (sym around)

  pub turned-short : (s : Shuffled) (r : Refusal) → s ≡ shuffled_of o.row n draws from → s.drew ≡ Refused r
      → ◌≡◌ {A = Turned} (record { order = o; drew = Refused r }) (turned_of o n draws from)
  turned-short s r g d =
      refused-turned o n (length draws - from) next (list.shuffle here.blank (take n o.row) (drop from draws)) r (sym (ap (λ (x : Shuffled). x.drew) g) ∙ d)
      ∙ ap (turned_as o n (length draws - from)) (sym around)
