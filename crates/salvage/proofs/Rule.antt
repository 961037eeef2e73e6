-- RECORD BY RECORD. The word for a place is given exactly if its rule holds: a rule reads the bytes of its place and the places before it that are kept.
-- Assumes nothing.
use Rattle.std.proofs.Math.Path.{◌≡◌, refl, ap}
use Rattle.std.proofs.Common.{sym, ◌∙◌, subst, arith, length-drop}
use Rattle.std.specs.Prelude.{◌↔◌, Bool, not, length}
use Rattle.std.proofs.Math.Bool.{true, false}
use mathlib.Core.List.{List, [], ◌∷◌, ◌++◌, map}
use Prim.Native.Nat.{ℕ, zero, suc, ◌+◌, ◌*◌, ◌-◌, ◌≤◌, ◌<◌}
use Rattle.std.proofs.Math.Dec.{ltb}
use Rattle.std.proofs.Math.ListN.{get_or, length-append}
use Rattle.std.proofs.Math.Seq.{get_or_at}
use borrow.Author.Tests.{ltb-true, ltb-false, lt-ltb, le-ltb}
use Rattle.model.specs.Rows.{pick, has}
use Rattle.model.specs.Words.{Address}
use Rattle.image.specs.Image.{Form, Entry, head, entry, addr_in, address_in_rule, state_in_rule}
use Rattle.salvage.specs.Salvage.{after, from, stands_at, verdict, word_of, kept_of, word_at, words_of}
use Rattle.salvage.specs.declared.Word.{Word}
use Rattle.salvage.specs.declared.Word.TheVariants as word
use Rattle.salvage.specs.Rule.{addr_at, Complete, KeptBefore, Fresh, Rule}

-- what stands in a list, and in a longer one
module _ {A : Type 0} (same : A → A → Bool) where
  has_left : (a : A) (l m : List A) → has same a l ≡ true → has same a (l ++ m) ≡ true
  has_left a [] m h = let z : ◌≡◌ {A = ℕ} 0 1 = cc in absurd (omega arith)
  has_left a (y ∷ l) m h =
      (elim (same a y) as (λ u. pick u true (has same a l) ≡ true → pick u true (has same a (l ++ m)) ≡ true) [ true ↦ λ q. refl | false ↦ λ q. has_left a l m q ]) h

  has_end : (a : A) (l : List A) (x : A) → same a x ≡ true → has same a (l ++ (x ∷ [])) ≡ true
  has_end a [] x h = ap (λ (u : Bool). pick u true false) h
  has_end a (y ∷ l) x h = elim (same a y) as (λ u. pick u true (has same a (l ++ (x ∷ []))) ≡ true) [ true ↦ refl | false ↦ has_end a l x h ]

  has_last : (a : A) (l : List A) (x : A) → has same a l ≡ false → has same a (l ++ (x ∷ [])) ≡ true → same a x ≡ true
  has_last a [] x n h = (elim (same a x) as (λ u. pick u true false ≡ true → u ≡ true) [ true ↦ λ q. refl | false ↦ λ q. q ]) h
  has_last a (y ∷ l) x n h =
      (elim (same a y) as (λ u. pick u true (has same a l) ≡ false → pick u true (has same a (l ++ (x ∷ []))) ≡ true → same a x ≡ true) [
        | true ↦ λ p q. let z : ◌≡◌ {A = ℕ} 0 1 = cc in absurd (omega arith)
        | false ↦ λ p q. has_last a l x p q
      ]) n h

pub map_snoc : {A B : Type 0} (g : A → B) (l : List A) (e : A) → map g (l ++ (e ∷ [])) ≡ map g l ++ (g e ∷ [])
map_snoc g [] e = refl
map_snoc g (x ∷ l) e = ap (λ r. g x ∷ r) (map_snoc g l e)

-- a place of w bytes from k on, of l bytes
fits_not : (k w l : ℕ) → 0 < w → ltb (l - k) w ≡ false → k + w ≤ l
fits_not k w l p e = omega (arith, ltb-false (l - k) w e)

cut_short : (k w l : ℕ) → 0 < w → ltb (l - k) w ≡ true → l < k + w
cut_short k w l p e = omega (arith, ltb-true (l - k) w e)

module _ {A : Type 0} (address : Address A) (f : Form A) (bytes : List ℕ) where
  abbrev at : ℕ → ℕ
  at i = (head f).width + i * (entry f).width

  abbrev is_cut_off : ℕ → Bool
  is_cut_off i = ltb (length (from address f bytes i)) (entry f).width

  abbrev repeats : ℕ → Bool
  repeats i = has address.same (addr_at address f bytes i) (map addr_in (kept_of address f bytes i))

  abbrev chain : Bool → Bool → Bool → Bool → Word
  chain c a s h = pick c word.Cut (pick (not a) word.Address (pick (not s) word.State (pick h word.Repeat word.Kept)))

  wide : 0 < (entry f).width
  wide = omega arith

  complete : (i : ℕ) → is_cut_off i ≡ false → Complete address f bytes i
  complete i e = fits_not (at i) (entry f).width (length bytes) wide (sym (ap (λ (l : ℕ). ltb l (entry f).width) (length-drop (at i) bytes)) ∙ e)

  incomplete : (i : ℕ) → is_cut_off i ≡ true → length bytes < at i + (entry f).width
  incomplete i e = cut_short (at i) (entry f).width (length bytes) wide (sym (ap (λ (l : ℕ). ltb l (entry f).width) (length-drop (at i) bytes)) ∙ e)

  pub not_cut : (i : ℕ) → Complete address f bytes i → is_cut_off i ≡ false
  not_cut i h = le-ltb (length (from address f bytes i)) (entry f).width (omega (arith, length-drop (at i) bytes))

  is_cut : (i : ℕ) → length bytes < at i + (entry f).width → is_cut_off i ≡ true
  is_cut i h = lt-ltb (length (from address f bytes i)) (entry f).width (omega (arith, wide, length-drop (at i) bytes))

  -- an address stands among those kept exactly if an earlier kept place has it
  later : (a : A) (i : ℕ) → KeptBefore address f a bytes i → KeptBefore address f a bytes (suc i)
  later a i k = record { place = k.place; earlier = omega (arith, k.earlier); is-kept = k.is-kept; alike = k.alike }

  finds : (a : A) (i : ℕ) → has address.same a (map addr_in (kept_of address f bytes i)) ≡ true → KeptBefore address f a bytes i
  unfolding kept_of word_at
  finds a zero h = let z : ◌≡◌ {A = ℕ} 0 1 = cc in absurd (omega arith)
  finds a (suc i) h =
      (elim (word_at address f bytes i) as (λ w. word_at address f bytes i ≡ w → has address.same a (map addr_in (after w (kept_of address f bytes i) (stands_at address f bytes i))) ≡ true → KeptBefore address f a bytes (suc i)) [
        | word.Cut ↦ λ e k. later a i (finds a i k)
        | word.Address ↦ λ e k. later a i (finds a i k)
        | word.State ↦ λ e k. later a i (finds a i k)
        | word.Repeat ↦ λ e k. later a i (finds a i k)
        | word.Kept ↦ λ e k.
            (elim (has address.same a (map addr_in (kept_of address f bytes i))) as (λ u. has address.same a (map addr_in (kept_of address f bytes i)) ≡ u → KeptBefore address f a bytes (suc i)) [
              | true ↦ λ q. later a i (finds a i q)
              | false ↦ λ q.
                  record {
                    place = i;
                    earlier = omega arith;
                    is-kept = e;
                    alike = has_last address.same a (map addr_in (kept_of address f bytes i)) (addr_at address f bytes i) q (ap (has address.same a) (sym (map_snoc addr_in (kept_of address f bytes i) (stands_at address f bytes i))) ∙ k);
                  }
            ]) refl
      ]) refl h

  grows : (a : A) (w : Word) (l : List (Entry A)) (e : Entry A) → has address.same a (map addr_in l) ≡ true → has address.same a (map addr_in (after w l e)) ≡ true
  grows a w l e h =
      elim w as (λ v. has address.same a (map addr_in (after v l e)) ≡ true) [
        | word.Cut ↦ h
        | word.Address ↦ h
        | word.State ↦ h
        | word.Repeat ↦ h
        | word.Kept ↦ ap (has address.same a) (map_snoc addr_in l e) ∙ has_left address.same a (map addr_in l) (addr_in e ∷ []) h
      ]

  found : (a : A) (i j : ℕ) → j < i → word_at address f bytes j ≡ word.Kept → address.same a (addr_at address f bytes j) ≡ true
      → has address.same a (map addr_in (kept_of address f bytes i)) ≡ true
  unfolding kept_of word_at
  found a zero j h w e = absurd (omega arith)
  found a (suc i) j h w e =
      (elim (ltb j i) as (λ u. ltb j i ≡ u → has address.same a (map addr_in (kept_of address f bytes (suc i))) ≡ true) [
        | true ↦ λ q. grows a (word_at address f bytes i) (kept_of address f bytes i) (stands_at address f bytes i) (found a i j (ltb-true j i q) w e)
        | false ↦ λ q.
            let j-is : j ≡ i = omega (arith, ltb-false j i q) in
            let w' : word_at address f bytes i ≡ word.Kept = ap (word_at address f bytes) (sym j-is) ∙ w in
            let e' : address.same a (addr_at address f bytes i) ≡ true = ap (λ (k : ℕ). address.same a (addr_at address f bytes k)) (sym j-is) ∙ e in
            ap (λ (v : Word). has address.same a (map addr_in (after v (kept_of address f bytes i) (stands_at address f bytes i)))) w'
            ∙ ap (has address.same a) (map_snoc addr_in (kept_of address f bytes i) (stands_at address f bytes i))
            ∙ has_end address.same a (map addr_in (kept_of address f bytes i)) (addr_at address f bytes i) e'
      ]) refl

  apart : (a : A) (i : ℕ) → has address.same a (map addr_in (kept_of address f bytes i)) ≡ false → Fresh address f a bytes i
  apart a i n j h w =
      (elim (address.same a (addr_at address f bytes j)) as (λ u. address.same a (addr_at address f bytes j) ≡ u → u ≡ false) [
        | true ↦ λ q. let k = found a i j h w q in let z : ◌≡◌ {A = ℕ} 0 1 = cc in absurd (omega arith)
        | false ↦ λ q. refl
      ]) refl

  not_found : (a : A) (i : ℕ) → Fresh address f a bytes i → has address.same a (map addr_in (kept_of address f bytes i)) ≡ false
  not_found a i h =
      (elim (has address.same a (map addr_in (kept_of address f bytes i))) as (λ u. has address.same a (map addr_in (kept_of address f bytes i)) ≡ u → u ≡ false) [
        | true ↦ λ q.
            let k = finds a i q in
            let t = k.alike in
            let n = h k.place k.earlier k.is-kept in
            let z : ◌≡◌ {A = ℕ} 0 1 = cc in absurd (omega arith)
        | false ↦ λ q. refl
      ]) refl

  -- the rule of the word that is given holds
  pub rule-holds : (i : ℕ) → Rule address f (word_at address f bytes i) bytes i
  unfolding word_at word_of verdict
  rule-holds i =
      (elim (is_cut_off i) as (λ c. is_cut_off i ≡ c → Rule address f (chain c (address_in_rule address (stands_at address f bytes i)) (state_in_rule address (stands_at address f bytes i)) (repeats i)) bytes i) [
        | true ↦ λ p. incomplete i p
        | false ↦ λ p.
            (elim (address_in_rule address (stands_at address f bytes i)) as (λ a. address_in_rule address (stands_at address f bytes i) ≡ a → Rule address f (chain false a (state_in_rule address (stands_at address f bytes i)) (repeats i)) bytes i) [
              | true ↦ λ q.
                  (elim (state_in_rule address (stands_at address f bytes i)) as (λ s. state_in_rule address (stands_at address f bytes i) ≡ s → Rule address f (chain false true s (repeats i)) bytes i) [
                    | true ↦ λ r.
                        (elim (repeats i) as (λ h. repeats i ≡ h → Rule address f (chain false true true h) bytes i) [
                          | true ↦ λ t. (complete i p, q, r, finds (addr_at address f bytes i) i t)
                          | false ↦ λ t. (complete i p, q, r, apart (addr_at address f bytes i) i t)
                        ]) refl
                    | false ↦ λ r. (complete i p, q, r)
                  ]) refl
              | false ↦ λ q. (complete i p, q)
            ]) refl
      ]) refl

  by : (i : ℕ) (c a s h : Bool) → is_cut_off i ≡ c → address_in_rule address (stands_at address f bytes i) ≡ a → state_in_rule address (stands_at address f bytes i) ≡ s → repeats i ≡ h
      → word_at address f bytes i ≡ chain c a s h
  unfolding word_at word_of verdict
  by i c a s h p q r t = λ j. chain (p j) (q j) (r j) (t j)

  -- kept, if no test fails
  pub kept_if : (i : ℕ) → Complete address f bytes i → address_in_rule address (stands_at address f bytes i) ≡ true → state_in_rule address (stands_at address f bytes i) ≡ true → repeats i ≡ false
      → word_at address f bytes i ≡ word.Kept
  kept_if i h q r t = by i false true true false (not_cut i h) q r t

  -- and a word whose rule holds is given
  pub rule_gives : (i : ℕ) (w : Word) → Rule address f w bytes i → word_at address f bytes i ≡ w
  rule_gives i word.Cut r = by i true (address_in_rule address (stands_at address f bytes i)) (state_in_rule address (stands_at address f bytes i)) (repeats i) (is_cut i r) refl refl refl
  rule_gives i word.Address r = by i false false (state_in_rule address (stands_at address f bytes i)) (repeats i) (not_cut i r.0) r.1 refl refl
  rule_gives i word.State r = by i false true false (repeats i) (not_cut i r.0) r.1 r.2 refl
  rule_gives i word.Repeat r = by i false true true true (not_cut i r.0) r.1 r.2 (found (addr_at address f bytes i) i r.3.place r.3.earlier r.3.is-kept r.3.alike)
  rule_gives i word.Kept r = by i false true true false (not_cut i r.0) r.1 r.2 (not_found (addr_at address f bytes i) i r.3)

  -- each word exactly if its rule holds
  pub exactly : (i : ℕ) (w : Word) → (word_at address f bytes i ≡ w) ↔ Rule address f w bytes i
  exactly i w = ((λ e. subst (λ (v : Word). Rule address f v bytes i) e (rule-holds i)), rule_gives i w)

  -- what is kept is no repeat
  pub kept_new : (i : ℕ) → word_at address f bytes i ≡ word.Kept → repeats i ≡ false
  kept_new i e = not_found (addr_at address f bytes i) i ((exactly i word.Kept).0 e).3

  -- as many words as places, and the word of each
  pub words-many : (n : ℕ) → length (words_of address f bytes n) ≡ n
  unfolding words_of
  words-many zero = refl
  words-many (suc i) =
      let e = words-many i in
      omega (arith, e, length-append (words_of address f bytes i) (word_at address f bytes i ∷ []))

  get_d_left : (d : Word) (l m : List Word) (i : ℕ) → i < length l → get_or (l ++ m) i d ≡ get_or l i d
  get_d_left d [] m i h = absurd (omega arith)
  get_d_left d (x ∷ l) m zero h = refl
  get_d_left d (x ∷ l) m (suc i) h = get_d_left d l m i (omega arith)

  pub word-of : (d : Word) (n i : ℕ) → i < n → get_or (words_of address f bytes n) i d ≡ word_at address f bytes i
  unfolding words_of
  word-of d zero i h = absurd (omega arith)
  word-of d (suc n) i h =
      (elim (ltb i n) as (λ u. ltb i n ≡ u → get_or (words_of address f bytes n ++ (word_at address f bytes n ∷ [])) i d ≡ word_at address f bytes i) [
        | true ↦ λ q.
            let l = ltb-true i n q in
            get_d_left d (words_of address f bytes n) (word_at address f bytes n ∷ []) i (omega (arith, l, words-many n)) ∙ word-of d n i l
        | false ↦ λ q.
            let e : n ≡ i = omega (arith, ltb-false i n q) in
            get_or_at (words_of address f bytes n) (word_at address f bytes n) [] d i (words-many n ∙ e) ∙ ap (word_at address f bytes) e
      ]) refl
