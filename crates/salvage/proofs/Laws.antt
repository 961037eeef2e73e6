-- What is left can be restored; an image that can be restored is left as it is, with every place kept; and salvaged again, a result stays. For any type of address and two forms of its bytes.
-- Assumes nothing.
use Rattle.std.specs.Prelude.{◌≡◌, Bool, true, false, not, ◌&&◌, eqb, ltb, leb, length, get_or, take, drop, replicate}
use Rattle.std.proofs.Math.Path.{refl, ap, sym}
use Rattle.std.proofs.Common.{◌∙◌, arith, suc-mul, length-append, take-suc, take_all, drop-drop}
use mathlib.Core.List.{List, [], ◌∷◌, ◌++◌, map}
use Prim.Native.Nat.{ℕ, zero, suc, ◌+◌, ◌*◌, ◌-◌, ◌^◌, ◌≤◌, ◌<◌}
use Rattle.std.proofs.Math.ListN.{length-map}
use borrow.Author.Tests.{leb-true, eqb-true, eqb-false, eq-eqb, ltb-true, ltb-false, lt-ltb, not-true}
use Rattle.model.specs.Rows.{one, pick, every, has, occurs}
use Rattle.model.specs.Words.{Address, Lawful}
use Rattle.model.specs.Sound.{distinct, positioned}
use Rattle.laws.specs.Bools.{and_split, and_join, every_append}
use Rattle.laws.specs.Counts.{occurs-append, has-none}
use Rattle.laws_list.specs.Distinct.{once_distinct}
use Rattle.numbers.specs.Numbers.{Bytes}
use Rattle.numbers.specs.NumberLaws.{bytes_drop, number_small}
use Rattle.numbers.specs.Codec.{number, many-count, many-at}
use Rattle.image.specs.Image.{Form, Entry, head, entry, layout, addr_in, own_in, entries_in, position_in, member_of, Saved, marked, counted, sized, fields, state_in_rule, address_in_rule, in_rule}
use Rattle.image.specs.Forms.{Forms, wide_of, form_in, image_of, Sure}
use Rattle.image.specs.Round.{Numbered, Savable, Says}
use Rattle.image.proofs.Round.{members-addrs}
use Rattle.image.specs.Chosen.{Tells}
use Rattle.image.proofs.Chosen.{image-opens, tells-image, image-told}
use Rattle.salvage.specs.Salvage.{after, from, stands_at, kept_of, word_at, words_of, places, kept, position_of, own_of, left, left_of, result, headed}
use Rattle.salvage.specs.Salvage as S
use Rattle.salvage.proofs.Rule.{map_snoc, exactly, kept_if, kept_new}
use Rattle.salvage.specs.declared.Word.{Word}
use Rattle.salvage.specs.declared.Word.TheVariants as word

-- a position below the number kept, or 0
placed : (q n : ℕ) → q ≤ n - 1 → positioned q n ≡ true
unfolding positioned
placed q n h =
    (elim (eqb n 0) as (λ u. eqb n 0 ≡ u → pick u (eqb q 0) (ltb q n) ≡ true) [
      | true ↦ λ e. eq-eqb q 0 (omega (arith, eqb-true n 0 e))
      | false ↦ λ e. lt-ltb q n (omega (arith, eqb-false n 0 e))
    ]) refl

in-range : (p n : ℕ) → pick (ltb p n) p 0 ≤ n - 1
in-range p n =
    (elim (ltb p n) as (λ u. ltb p n ≡ u → pick u p 0 ≤ n - 1) [
      | true ↦ λ e. omega (arith, ltb-true p n e)
      | false ↦ λ e. omega arith
    ]) refl

stays : (p n : ℕ) → positioned p n ≡ true → pick (ltb p n) p 0 ≡ p
unfolding positioned
stays p n h =
    (elim (ltb p n) as (λ u. ltb p n ≡ u → pick u p 0 ≡ p) [
      | true ↦ λ e. refl
      | false ↦ λ e. sym (zero_there e)
    ]) refl
  where
    zero_there : ltb p n ≡ false → p ≡ 0
    zero_there e =
        (elim (eqb n 0) as (λ u. pick u (eqb p 0) (ltb p n) ≡ true → p ≡ 0) [
          | true ↦ λ q. eqb-true p 0 q
          | false ↦ λ q. let z : ◌≡◌ {A = ℕ} 0 1 = cc in absurd (omega arith)
        ]) h

-- what is kept is in rule
module _ {A : Type 0} (address : Address A) (lawful : Lawful address) (f : Form A) where
  record Sifted (k : ℕ) (l : List (Entry A)) : Type 0 where
    few : length l ≤ k
    valid : every address.valid (map addr_in l) ≡ true
    once : (a : A) → occurs address.same a (map addr_in l) ≤ 1
    numbers : Numbered (map member_of l)

  same_still : (k : ℕ) (l : List (Entry A)) → Sifted k l → Sifted (suc k) l
  same_still k l s = record { few = omega (arith, s.few); valid = s.valid; once = s.once; numbers = s.numbers }

  numbers_snoc : (l : List (Entry A)) (e : Entry A) → Numbered (map member_of l) → e.second.second < 2 ^ 64 → Numbered (map member_of (l ++ (e ∷ [])))
  numbers_snoc [] e h n = (n, tt)
  numbers_snoc (x ∷ l) e h n = (h.0, numbers_snoc l e h.1 n)

  one_more : (k : ℕ) (l : List (Entry A)) (e : Entry A) → Sifted k l → address.valid (addr_in e) ≡ true → has address.same (addr_in e) (map addr_in l) ≡ false → e.second.second < 2 ^ 64
      → Sifted (suc k) (l ++ (e ∷ []))
  one_more k l e s v h n =
      record {
        few = omega (arith, s.few, length-append l (e ∷ []));
        valid = ap (every address.valid) (map_snoc addr_in l e) ∙ every_append address.valid (map addr_in l) (addr_in e ∷ []) s.valid (and_join v refl);
        once = λ a.
            let z : occurs address.same a (map addr_in (l ++ (e ∷ []))) ≡ occurs address.same a (map addr_in l) + (one (address.same a (addr_in e)) + 0) =
            ap (occurs address.same a) (map_snoc addr_in l e) ∙ occurs-append address.same a (map addr_in l) (addr_in e ∷ []) in
            omega (arith, z, apart a);
        numbers = numbers_snoc l e s.numbers n;
      }
    where
      apart : (a : A) → occurs address.same a (map addr_in l) + one (address.same a (addr_in e)) ≤ 1
      apart a =
          (elim (address.same a (addr_in e)) as (λ u. address.same a (addr_in e) ≡ u → occurs address.same a (map addr_in l) + one u ≤ 1) [
            | true ↦ λ t.
                let m : occurs address.same a (map addr_in l) ≡ 0 =
                ap (λ (x : A). occurs address.same x (map addr_in l)) (lawful.test.same_eq a (addr_in e) t) ∙ has-none address.same (addr_in e) (map addr_in l) h in
                omega arith
            | false ↦ λ t. omega (arith, s.once a)
          ]) refl

  module _ (bytes : List ℕ) (b : Bytes bytes) where
    sifted : (i : ℕ) → Sifted i (kept_of address f bytes i)
    unfolding kept_of word_at
    sifted zero = record { few = omega arith; valid = refl; once = λ a. omega arith; numbers = tt }
    sifted (suc i) =
        let n : (stands_at address f bytes i).second.second < 2 ^ 64 =
        number_small 8 (drop 1 (drop f.address.width (from address f bytes i)))
        (bytes_drop 1 (drop f.address.width (from address f bytes i)) (bytes_drop f.address.width (from address f bytes i) (bytes_drop ((head f).width + i * (entry f).width) bytes b))) in
        let s = sifted i in
        (elim (word_at address f bytes i) as (λ w. word_at address f bytes i ≡ w → Sifted (suc i) (after w (kept_of address f bytes i) (stands_at address f bytes i))) [
          | word.Cut ↦ λ e. same_still i (kept_of address f bytes i) s
          | word.Address ↦ λ e. same_still i (kept_of address f bytes i) s
          | word.State ↦ λ e. same_still i (kept_of address f bytes i) s
          | word.Repeat ↦ λ e. same_still i (kept_of address f bytes i) s
          | word.Kept ↦ λ e.
              one_more i (kept_of address f bytes i) (stands_at address f bytes i) s ((exactly address f bytes i word.Kept).0 e).1 (kept_new address f bytes i e) n
        ]) refl

    -- what is left can be saved
    pub left_savable : address.valid (own_of address f bytes) ≡ true → Savable address (left address f bytes)
    unfolding left places position_of
    left_savable own =
        let s = sifted (places address f bytes) in
        let n = length-map (kept address f bytes) member_of in
        let a = members-addrs (kept address f bytes) in
        record {
          own_valid = own;
          numbers = s.numbers;
          few = omega (arith, n, s.few);
          valid = ap (every address.valid) a ∙ s.valid;
          once = ap (distinct address.same) a ∙ once_distinct address.same lawful.test (map addr_in (kept address f bytes)) s.once;
          placed =
              ap (positioned (left address f bytes).position) n
              ∙ placed (left address f bytes).position (length (kept address f bytes)) (in-range ((number 1).get (from address f bytes (places address f bytes))) (length (kept address f bytes)));
        }

-- ---- an image that passes every test
every-at : {B : Type 0} (p : B → Bool) (l : List B) (i : ℕ) (d : B) → i < length l → every p l ≡ true → p (get_or l i d) ≡ true
every-at p [] i d h e = absurd (omega arith)
every-at p (x ∷ l) zero d h e = (and_split (p x) (every p l) e).0
every-at p (x ∷ l) (suc i) d h e = every-at p l i d (omega arith) (and_split (p x) (every p l) e).1

snoc_same : (i : ℕ) (w : Word) → replicate i w ++ (w ∷ []) ≡ replicate (suc i) w
snoc_same zero w = refl
snoc_same (suc i) w = ap (λ (l : List Word). w ∷ l) (snoc_same i w)

room : (i n w : ℕ) → i < n → i * w + w ≤ n * w
room i zero w h = absurd (omega arith)
room i (suc n) w h =
    let e : suc n * w ≡ n * w + w = suc-mul n w in
    (elim (ltb i n) as (λ u. ltb i n ≡ u → i * w + w ≤ suc n * w) [
      | true ↦ λ q. omega (arith, e, room i n w (ltb-true i n q))
      | false ↦ λ q. let k : i * w ≡ n * w = ap (λ (j : ℕ). j * w) (omega (arith, ltb-false i n q)) in omega (arith, e, k)
    ]) refl

module _ {A : Type 0} (address : Address A) (lawful : Lawful address) where
  has-at : (a : A) (l : List (Entry A)) (i : ℕ) (d : Entry A) → i < length l → address.same a (addr_in (get_or l i d)) ≡ true → has address.same a (map addr_in l) ≡ true
  has-at a [] i d h e = absurd (omega arith)
  has-at a (x ∷ l) zero d h e = ap (λ (u : Bool). pick u true (has address.same a (map addr_in l))) e
  has-at a (x ∷ l) (suc i) d h e =
      elim (address.same a (addr_in x)) as (λ u. pick u true (has address.same a (map addr_in l)) ≡ true) [ true ↦ refl | false ↦ has-at a l i d (omega arith) e ]

  -- of distinct addresses none stands among those before it
  none_before : (l : List (Entry A)) (i : ℕ) (d : Entry A) → i < length l → distinct address.same (map addr_in l) ≡ true
      → has address.same (addr_in (get_or l i d)) (map addr_in (take i l)) ≡ false
  none_before [] i d h e = absurd (omega arith)
  none_before (x ∷ l) zero d h e = refl
  none_before (x ∷ l) (suc i) d h e =
      let p = and_split (not (has address.same (addr_in x) (map addr_in l))) (distinct address.same (map addr_in l)) e in
      let n = not-true (has address.same (addr_in x) (map addr_in l)) p.0 in
      let r = none_before l i d (omega arith) p.1 in
      (elim (address.same (addr_in (get_or l i d)) (addr_in x)) as (λ u. address.same (addr_in (get_or l i d)) (addr_in x) ≡ u → pick u true (has address.same (addr_in (get_or l i d)) (map addr_in (take i l))) ≡ false) [
        | true ↦ λ q.
            let y : addr_in (get_or l i d) ≡ addr_in x = lawful.test.same_eq (addr_in (get_or l i d)) (addr_in x) q in
            let z = has-at (addr_in x) l i d (omega arith) (ap (address.same (addr_in x)) y ∙ lawful.test.same_refl (addr_in x)) in
            sym z ∙ n
        | false ↦ λ q. r
      ]) refl

module _ {A : Type 0} (address : Address A) (lawful : Lawful address) (f : Form A) (bytes : List ℕ) (s : Saved A) (t : Says address f bytes s) where
  abbrev E : List (Entry A)
  E = entries_in (fields f bytes)

  abbrev n : ℕ
  n = counted f bytes

  six : (a b c d e g : Bool) → (a && b && c && d && e && g) ≡ true → (a ≡ true) × (b ≡ true) × (c ≡ true) × (d ≡ true) × (e ≡ true) × (g ≡ true)
  six a b c d e g h =
      let p = and_split (a && b && c && d && e) g h in
      let q = and_split (a && b && c && d) e p.0 in
      let r = and_split (a && b && c) d q.0 in
      let u = and_split (a && b) c r.0 in
      let v = and_split a b u.0 in
      (v.0, v.1, u.1, r.1, q.1, p.1)

  parts : (leb (length E) 64 ≡ true) × (address.valid (own_in (fields f bytes)) ≡ true) × (every (state_in_rule address) E ≡ true) × (every (address_in_rule address) E ≡ true)
      × (distinct address.same (map addr_in E) ≡ true) × (positioned (position_in (fields f bytes)) (length E) ≡ true)
  unfolding in_rule
  parts =
      six (leb (length E) 64) (address.valid (own_in (fields f bytes))) (every (state_in_rule address) E) (every (address_in_rule address) E) (distinct address.same (map addr_in E))
      (positioned (position_in (fields f bytes)) (length E)) t.in-rule

  many : length E ≡ n
  unfolding fields
  many = many-count (entry f) n (drop (head f).width bytes)

  long : length bytes ≡ (head f).width + (n * (entry f).width + 1)
  unfolding sized
  long =
      eqb-true (length bytes) (layout f n).width
      (and_split (leb (head f).width (length bytes)) (eqb (length bytes) (layout f n).width) t.is_sized).1

  abbrev d : Entry A
  d = stands_at address f bytes 0

  stands : (i : ℕ) → i < n → get_or E i d ≡ stands_at address f bytes i
  unfolding fields
  stands i h = many-at (entry f) n (drop (head f).width bytes) i d h ∙ ap (entry f).get (drop-drop (i * (entry f).width) (head f).width bytes)

  complete : (k w l i n : ℕ) → l ≡ k + (n * w + 1) → i < n → k + i * w + w ≤ l
  complete k w l i n e h = omega (arith, e, room i n w h)

  word_kept : (i : ℕ) → i < n → kept_of address f bytes i ≡ take i E → word_at address f bytes i ≡ word.Kept
  word_kept i h q =
      let p = parts in
      let x = stands i h in
      let l : i < length E = omega (arith, many) in
      kept_if address f bytes i (complete (head f).width (entry f).width (length bytes) i n long h)
      (ap (address_in_rule address) (sym x) ∙ every-at (address_in_rule address) E i d l p.3)
      (ap (state_in_rule address) (sym x) ∙ every-at (state_in_rule address) E i d l p.2)
      ((λ j. has address.same (addr_in (sym x j)) (map addr_in (q j))) ∙ none_before address lawful E i d l p.4)

  all-kept : (i : ℕ) → i ≤ n → (kept_of address f bytes i ≡ take i E) × (words_of address f bytes i ≡ replicate i word.Kept)
  unfolding kept_of words_of word_at
  all-kept zero h = (refl, refl)
  all-kept (suc i) h =
      let r = all-kept i (omega arith) in
      let w = word_kept i h r.0 in (
        ap (λ (v : Word). after v (kept_of address f bytes i) (stands_at address f bytes i)) w
            ∙ (λ j. r.0 j ++ (sym (stands i h) j ∷ []))
            ∙ sym (take-suc E i d (omega (arith, many))),
        (λ j. r.1 j ++ (w j ∷ [])) ∙ snoc_same i word.Kept,
      )

  places_all : places address f bytes ≡ n
  unfolding places
  places_all = omega (arith, leb-true (length E) 64 parts.0, many)

  pub own-there : address.valid (own_of address f bytes) ≡ true
  unfolding fields
  own-there = parts.1

  -- "On an image that restore accepts, it changes nothing": every place is kept ..
  pub words_same : S.words address f bytes ≡ replicate n word.Kept
  words_same = ap (words_of address f bytes) places_all ∙ (all-kept n (omega arith)).1

  kept_same : kept address f bytes ≡ E
  kept_same = ap (kept_of address f bytes) places_all ∙ (all-kept n (omega arith)).0 ∙ take_all n E (omega (arith, many))

  -- .. and what is left is what it says
  pub left-same : left address f bytes ≡ s
  unfolding left position_of fields
  left-same =
      let k = kept_same in
      let q : (number 1).get (from address f bytes (places address f bytes)) ≡ position_in (fields f bytes) =
      ap (λ (j : ℕ). (number 1).get (from address f bytes j)) places_all ∙ ap (number 1).get (sym (drop-drop (n * (entry f).width) (head f).width bytes)) in
      (λ j. record { own = own_in (fields f bytes); rows = map member_of (k j); position = pick (ltb (q j) (length (k j))) (q j) 0 })
      ∙ ap (λ (x : ℕ). record { own = own_in (fields f bytes); rows = map member_of E; position = x }) (stays (position_in (fields f bytes)) (length E) parts.5)
      ∙ t.says

  pub headed-there : headed address f bytes ≡ true
  unfolding headed sized
  headed-there = and_join (and_split (leb (head f).width (length bytes)) (eqb (length bytes) (layout f n).width) t.is_sized).0 own-there

-- of either version
module _ {A : Type 0} (address : Address A) (lawful : Lawful address) (forms : Forms A) (bytes : List ℕ) where
  -- what an image says is left of it
  pub result_is : (s : Saved A) → Tells address forms bytes s → result address forms bytes ≡ image_of forms s
  result_is s t = ap (image_of forms) (left-same address lawful (form_in forms bytes) bytes s t.says)

  module _ (sure : Sure address forms) (b : Bytes bytes) where
    savable : headed address (form_in forms bytes) bytes ≡ true → Savable address (left_of address forms bytes)
    unfolding headed
    savable h =
        let own = (and_split (leb (head (form_in forms bytes)).width (length bytes)) (address.valid (own_of address (form_in forms bytes) bytes)) h).1 in
        left_savable address lawful (form_in forms bytes) bytes b own

    -- "Restore with settings in range always accepts its result": its image passes every test, and says what is left
    pub result-tells : headed address (form_in forms bytes) bytes ≡ true → Tells address forms (result address forms bytes) (left_of address forms bytes)
    result-tells h = tells-image address forms sure (left_of address forms bytes) (savable h)

    -- "All others are version 1, also from salvage": it opens as the wide form exactly if own or a kept address needs that
    pub result-opens : headed address (form_in forms bytes) bytes ≡ true → marked forms.wide (result address forms bytes) ≡ wide_of forms (left_of address forms bytes)
    result-opens h = image-opens address forms sure (left_of address forms bytes) (savable h)

    -- "On an image that restore accepts, it changes nothing"
    pub result-same : (s : Saved A) → Tells address forms bytes s → result address forms bytes ≡ bytes
    result-same s t = result_is s t ∙ image-told address forms sure bytes b s t
