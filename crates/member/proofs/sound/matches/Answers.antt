-- `member::sound::matches` meets its contract: each of the first i was found in the order, and its place is marked.
-- Assumes nothing.
use mathlib.Core.Path.{◌≡◌, refl, ap, sym, ◌∙◌, subst}
use mathlib.Core.Bool.{Bool, true, false, ◌&&◌}
use mathlib.Core.List.{List}
use Prim.Native.Nat.{ℕ, ◌+◌, ◌-◌, ◌%◌, ◌≤◌, ◌<◌}
use native.Mathlib.Omega.{arith}
use lib.Dec.{ltb}
use lib.ListN.{length, get_or, set, take, length-set, get_or-replicate}
use lib.Seq.{length-take-le, get_or-take}
use mathlib.Core.Logic.{⊎_elim}
use borrow.Author.Tests.{not-false, ltb-true}
use Rattle.laws.specs.Bools.{and_split}
use Rattle.address.specs.Here.{Addr, here, here_lawful, here_drawer}
use Rattle.laws_list.specs.Places.{place_of}
use Rattle.laws_list.specs.Checks.{Marked, mark-start, mark_absent, mark_again, mark-next, mark_end}
use Rattle.member.specs.Drawers.{Firsts, first_found}
use borrow.Author.Rules.{rules}
use Rattle.member.proofs.sound.matches.Lts as lts
use Rattle.member.proofs.sound.matches.Tie as tie
use Rattle.member.proofs.sound.matches.Reads as reads
use Rattle.member.proofs.sound.matches.Invariants.{Found}
use Rattle.member.proofs.sound.matches.Goals as goal
use Rattle.member.proofs.sound.matches.Goals.{then-not-stands_at, else-not-stands_at}

-- at first sight: the first of its drawer is the address
at-sight : (order : List Addr) (n q : ℕ) (firsts : List ℕ) (a : Addr) (d : ℕ) (u : Bool) → Firsts order n firsts 0 → n ≤ 64 → length order ≡ 64 → q ≡ get_or firsts d 0
    → d ≡ here_drawer a → u ≡ (ltb q n && here.same a (get_or order (q % 64) here.blank)) → u ≡ true → (place_of here.same a (take n order) ≡ q) × (q ≤ n)
at-sight order n q firsts a d u f few long e k w t =
    let s = and_split (ltb q n) (here.same a (get_or order (q % 64) here.blank)) (sym w ∙ t) in
    let h : q < n = ltb-true q n s.0 in
    let z : q % 64 ≡ q = omega (arith, h, few) in
    let held : here.same a (get_or order q here.blank) ≡ true = ap (λ (p : ℕ). here.same a (get_or order p here.blank)) (sym z) ∙ s.1 in
    (sym (first_found order n firsts a q f (omega (arith, few, long)) (e ∙ ap (λ (p : ℕ). get_or firsts p 0) k) h held), omega (arith, h))

-- what is known where a place was sought
module _ (j : lts.Joined1 tie.the-claims reads.Pre reads.Post goal.the-invariant-loop-i goal.the-decreases-loop-i tie.handed_clauses) where
  full-order : length j.args.order ≡ 64
  full-order = search rules

  long_order : length (take j.args.n j.args.order) ≡ j.args.n
  long_order = let a = j.args in length-take-le a.n a.order (omega (arith, full-order, j.requires))

  long-row : length (take j.args.n j.args.row) ≡ j.args.n
  long-row =
      let a = j.args in
      let h : length a.row ≡ 64 = search rules in
      length-take-le a.n a.row (omega (arith, j.requires))

  place_is : (place_of here.same (get_or j.args.row j.loop-i.i here.blank) (take j.args.n j.args.order) ≡ j.if-not-stands_at.place) × (j.if-not-stands_at.place ≤ j.args.n)
  place_is =
      let a = j.args in
      elim j.if-not-stands_at.branch [
        | then-not-stands_at w ↦ (sym (w.place-is ∙ w.find_place-place.ensures.value), omega (arith, w.place-is, w.find_place-place.ensures.within))
        | else-not-stands_at w ↦
            let s = at-sight a.order a.n _ _ _ _ _ j.first_places-firsts.ensures j.requires full-order refl j.drawer.ensures.0 j.stands_at.ensures w.if-not-stands_at.false in
            (s.0 ∙ sym w.place-is, omega (arith, w.place-is, s.1))
      ]

  sought : place_of here.same (get_or (take j.args.n j.args.row) j.loop-i.i here.blank) (take j.args.n j.args.order) ≡ j.if-not-stands_at.place
  sought =
      let a = j.args in
      ap (λ (x : Addr). place_of here.same x (take a.n a.order)) (get_or-take a.n a.row j.loop-i.i here.blank (omega arith)) ∙ place_is.0

pub loop-i-init : goal.loop-i-init
loop-i-init c =
    let a = c.args in
    let ho : length a.order ≡ 64 = search rules in
    let lo : length (take a.n a.order) ≡ a.n = length-take-le a.n a.order (omega arith) in
    record {
      few = omega arith;
      long = refl;
      marked = mark-start here.same here_lawful.test (take a.n a.order) (take a.n a.row) _ (λ p h. get_or-replicate 64 p false false (omega (arith, c.requires)));
    }

pub returns-then-place-n : goal.returns-then-place-n
returns-then-place-n c =
    let a = c.args in
    mark_absent here.same here_lawful.test here.blank (take a.n a.order) (take a.n a.row) c.loop-i.i (omega (arith, long-row c.before))
    (sought c.before ∙ c.if-place-n.true ∙ sym (long_order c.before))

pub bounds-marks-place : goal.bounds-marks-place
bounds-marks-place c = omega (arith, (place_is c.before).1, c.if-place-n.false, c.requires, c.loop-i.invariant.long)

pub returns-then-marks-place : goal.returns-then-marks-place
returns-then-marks-place c =
    let a = c.args in
    let l = c.loop-i in
    mark_again here.same here_lawful.test here.blank (take a.n a.order) (take a.n a.row) l.marks l.i l.invariant.marked (omega (arith, long-row c.before.before))
    (omega (arith, sought c.before.before, long_order c.before.before, (place_is c.before.before).1, c.if-place-n.false)) (ap (λ (p : ℕ). get_or l.marks p false) (sought c.before.before) ∙ c.if-marks-place.true)

pub bounds-marks-place-in-loop-i : goal.bounds-marks-place-in-loop-i
bounds-marks-place-in-loop-i c = omega (arith, (place_is c.before.before).1, c.if-place-n.false, c.requires, c.loop-i.invariant.long)

pub loop-i-preserved : goal.loop-i-preserved
loop-i-preserved c =
    let a = c.args in
    let l = c.loop-i in
    record {
      few = omega arith;
      long = length-set l.marks c.if-not-stands_at.place true ∙ l.invariant.long;
      marked = subst
          (λ (p : ℕ). Marked here.same here_lawful.test (take a.n a.order) (take a.n a.row) (set l.marks p true) (l.i + 1))
          (sought c.before.before)
          (mark-next here.same here_lawful.test here.blank (take a.n a.order) (take a.n a.row) l.marks l.i l.invariant.marked (omega (arith, long-row c.before.before))
          (omega (arith, long_order c.before.before, l.invariant.long, c.requires))
          (omega (arith, sought c.before.before, long_order c.before.before, (place_is c.before.before).1, c.if-place-n.false)) (ap (λ (p : ℕ). get_or l.marks p false) (sought c.before.before) ∙ c.if-marks-place.false));
    }

pub returns : goal.returns
returns c =
    let a = c.args in
    let l = c.loop-i in
    let ho : length a.order ≡ 64 = search rules in
    let hr : length a.row ≡ 64 = search rules in
    let lo : length (take a.n a.order) ≡ a.n = length-take-le a.n a.order (omega arith) in
    let lr : length (take a.n a.row) ≡ a.n = length-take-le a.n a.row (omega arith) in
    mark_end here.same here_lawful.test (take a.n a.order) (take a.n a.row) l.marks l.i l.invariant.marked (omega arith) (omega arith)
