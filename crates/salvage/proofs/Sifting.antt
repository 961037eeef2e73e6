-- The places of an image sifted one after the other.
-- Assumes nothing.
use mathlib.Core.Path.{◌≡◌, refl, ap, sym, ◌∙◌, subst}
use mathlib.Core.Bool.{true, false}
use mathlib.Core.List.{List, [], ◌∷◌, ◌++◌, map}
use Prim.Native.Nat.{ℕ, suc, ◌+◌, ◌*◌, ◌≤◌, ◌<◌}
use native.Mathlib.Omega.{arith}
use native.Mathlib.Numerals.{add-one}
use lib.Dec.{ltb}
use lib.ListN.{length, get_or, set, take, drop, replicate, length-append, length-map, length-set, length-replicate}
use lib.Seq.{take_all, take-append_seam, get_or-append_seam, take-suc-set, take-set-le}
use Rattle.model.specs.Rows.{pick, pad_to}
use Rattle.laws.specs.Pad.{pad_step}
use Rattle.address.specs.Here.{Addr, here}
use Rattle.member.specs.declared.Member.{Member}
use Rattle.image.specs.Image.{Form, Entry, head, entry, addr_in, state_of}
use Rattle.image.specs.Views.{place_of, entry_in, read_member}
use Rattle.image.specs.declared.Place.{Place}
use Rattle.salvage.specs.Salvage.{after, from, stands_at, verdict, word_of, kept_of, word_at, words_of}
use Rattle.salvage.proofs.Rule.{map_snoc, words-many}
use Rattle.salvage.specs.Views.{said, row_of_words, no_place, seen_of, more_of, Sifts}
use Rattle.salvage.specs.declared.Word.{Word}
use Rattle.salvage.specs.declared.Word.TheVariants as word
use Rattle.salvage.specs.declared.Said.{Said}
use Rattle.salvage.specs.declared.Seen.{Seen}

-- a row of which the first are kept: a place that isn't is overwritten by the next
row-after : {B : Type 0} (g : Entry Addr → B) (row : List B) (len : ℕ) (l : List (Entry Addr)) (w : Word) (x : B) (e : Entry Addr) → len < length row
    → take len row ≡ map g l → (w ≡ word.Kept → x ≡ g e) → take (len + more_of w) (set row len x) ≡ map g (after w l e)
unfolding more_of
row-after g row len l w x e h q k =
    (elim w as (λ v. w ≡ v → take (len + more_of v) (set row len x) ≡ map g (after v l e)) [
      | word.Cut ↦ λ t. stays
      | word.Address ↦ λ t. stays
      | word.State ↦ λ t. stays
      | word.Repeat ↦ λ t. stays
      | word.Kept ↦ λ t.
          ap (λ (j : ℕ). take j (set row len x)) (add-one len)
          ∙ take-suc-set row len x h
          ∙ (λ i. q i ++ (k t i ∷ []))
          ∙ sym (map_snoc g l e)
    ]) refl
  where
    stays : take (len + 0) (set row len x) ≡ map g l
    stays =
        let z : len + 0 ≡ len = omega arith in
        ap (λ (j : ℕ). take j (set row len x)) z ∙ take-set-le len row len x (omega arith) ∙ q

many-after : {B : Type 0} (l : List B) (w : Word) (e : B) → length l + more_of w ≡ length (after w l e)
unfolding more_of
many-after l w e =
    elim w as (λ v. length l + more_of v ≡ length (after v l e)) [
      | word.Cut ↦ omega arith
      | word.Address ↦ omega arith
      | word.State ↦ omega arith
      | word.Repeat ↦ omega arith
      | word.Kept ↦ omega (arith, length-append l (e ∷ []))
    ]

few_more : (w : Word) → more_of w ≤ 1
unfolding more_of
few_more w = elim w as (λ v. more_of v ≤ 1) [ word.Cut ↦ omega arith | word.Address ↦ omega arith | word.State ↦ omega arith | word.Repeat ↦ omega arith | word.Kept ↦ omega arith ]

-- a word more in its row
pad_push : {B : Type 0} (n : ℕ) (z x : B) (l : List B) (i : ℕ) → length l ≡ i → i < n → set (pad_to n z l) i x ≡ pad_to n z (l ++ (x ∷ []))
pad_push n z x l i e h =
    let m : length (l ++ (x ∷ [])) ≡ suc i = omega (arith, length-append l (x ∷ []), e) in
    let t : take i (l ++ (x ∷ [])) ≡ l = ap (λ (j : ℕ). take j (l ++ (x ∷ []))) (sym e) ∙ take-append_seam l (x ∷ []) in
    let g : get_or (l ++ (x ∷ [])) i z ≡ x = ap (λ (j : ℕ). get_or (l ++ (x ∷ [])) j z) (sym e) ∙ get_or-append_seam l x [] z in
    ap (λ (y : List _). set (pad_to n z y) i x) (sym t)
    ∙ pad_step n i z x (l ++ (x ∷ [])) (omega (arith, m)) (omega (arith, m)) g
    ∙ ap (pad_to n z) (take_all (suc i) (l ++ (x ∷ [])) (omega (arith, m)))

words_more : (l : List Word) (i : ℕ) (w : Word) → length l ≡ i → i < 64 → set (row_of_words l) i (said w) ≡ row_of_words (l ++ (w ∷ []))
unfolding row_of_words
words_more l i w e h =
    pad_push 64 (said word.Cut) (said w) (map said l) i (length-map l said ∙ e) h
    ∙ ap (pad_to 64 (said word.Cut)) (sym (map_snoc said l w))

-- what is kept was all there
rank : Word → ℕ
rank word.Cut = 0
rank word.Address = 1
rank word.State = 1
rank word.Repeat = 1
rank word.Kept = 1

kept-place : (f : Form Addr) (held : List Addr) (bytes : List ℕ) → (seen_of f held bytes).word ≡ word.Kept → (seen_of f held bytes).place ≡ place_of ((entry f).get bytes)
unfolding seen_of word_of rank
kept-place f held bytes e =
    (elim (ltb (length bytes) (entry f).width) as (λ u. pick u word.Cut (verdict here held ((entry f).get bytes)) ≡ word.Kept → pick u no_place (place_of ((entry f).get bytes)) ≡ place_of ((entry f).get bytes)) [
      | true ↦ λ q. let z : ◌≡◌ {A = ℕ} 0 1 = ap rank q in absurd (omega arith)
      | false ↦ λ q. refl
    ]) e

seen-word : (f : Form Addr) (bytes : List ℕ) (i : ℕ) (s : Seen) → s ≡ seen_of f (map addr_in (kept_of here f bytes i)) (from here f bytes i) → s.word ≡ word_at here f bytes i
unfolding seen_of word_at
seen-word f bytes i s d = ap (λ (x : Seen). x.word) d

-- the first i places are sifted
pub record Going (f : Form Addr) (bytes : List ℕ) (n : ℕ) (table : List Member) (kept : List Addr) (words : List Said) (len i : ℕ) : Type 0 where
  pub passed : i ≤ n
  pub many : len ≡ length (kept_of here f bytes i)
  pub few : len ≤ i
  pub table-long : length table ≡ 64
  pub kept-long : length kept ≡ 64
  pub table_is : take len table ≡ map read_member (kept_of here f bytes i)
  pub kept_is : take len kept ≡ map addr_in (kept_of here f bytes i)
  pub words_are : words ≡ row_of_words (words_of here f bytes i)

pub going_none : (f : Form Addr) (bytes : List ℕ) (n : ℕ) (m : Member) (a : Addr) (s : Said) → s ≡ said word.Cut → Going f bytes n (replicate 64 m) (replicate 64 a) (replicate 64 s) 0 0
unfolding kept_of words_of row_of_words
going_none f bytes n m a s e =
    record {
      passed = omega arith;
      many = refl;
      few = omega arith;
      table-long = length-replicate 64 m;
      kept-long = length-replicate 64 a;
      table_is = refl;
      kept_is = refl;
      words_are = ap (replicate 64) e;
    }

module _ (f : Form Addr) (bytes : List ℕ) (n : ℕ) (table : List Member) (kept : List Addr) (words : List Said) (len i : ℕ) (g : Going f bytes n table kept words len i) where
  pub going_more : (at : ℕ) (s : Seen) (m : Member) (k : ℕ) → n ≤ 64 → i < n → at ≡ (head f).width + i * (entry f).width → s ≡ seen_of f (take len kept) (drop at bytes)
      → m ≡ record { addr = s.place.addr; state = state_of s.place.state; number = s.place.number } → k ≡ more_of s.word
      → Going f bytes n (set table len m) (set kept len s.place.addr) (set words i (said s.word)) (len + k) (i + 1)
  unfolding kept_of words_of word_at
  going_more at s m k few h p e r q =
      let seen : s ≡ seen_of f (map addr_in (kept_of here f bytes i)) (from here f bytes i) = e ∙ (λ j. seen_of f (g.kept_is j) (drop (p j) bytes)) in
      let w : s.word ≡ word_at here f bytes i = seen-word f bytes i s seen in
      let place : s.word ≡ word.Kept → s.place ≡ place_of (stands_at here f bytes i) = λ t.
      ap (λ (x : Seen). x.place) seen ∙ kept-place f (map addr_in (kept_of here f bytes i)) (from here f bytes i) (sym (ap (λ (x : Seen). x.word) seen) ∙ t) in
      let q' = q ∙ ap more_of w in
      let t : take (len + k) (set table len m) ≡ map read_member (kept_of here f bytes (suc i)) =
      ap (λ (j : ℕ). take (len + j) (set table len m)) q'
      ∙ row-after read_member table len (kept_of here f bytes i) (word_at here f bytes i) m (stands_at here f bytes i) (omega (arith, g.table-long, g.few)) g.table_is
      (λ z. r ∙ ap (λ (x : Place). read_member (entry_in x)) (place (w ∙ z))) in
      let a : take (len + k) (set kept len s.place.addr) ≡ map addr_in (kept_of here f bytes (suc i)) =
      ap (λ (j : ℕ). take (len + j) (set kept len s.place.addr)) q'
      ∙ row-after addr_in kept len (kept_of here f bytes i) (word_at here f bytes i) s.place.addr (stands_at here f bytes i) (omega (arith, g.kept-long, g.few)) g.kept_is
      (λ z. ap (λ (x : Place). x.addr) (place (w ∙ z))) in
      let c : len + k ≡ length (kept_of here f bytes (suc i)) =
      (λ j. g.many j + q' j) ∙ many-after (kept_of here f bytes i) (word_at here f bytes i) (stands_at here f bytes i) in
      let v : set words i (said s.word) ≡ row_of_words (words_of here f bytes (suc i)) =
      (λ j. set (g.words_are j) i (said (w j)))
      ∙ words_more (words_of here f bytes i) i (word_at here f bytes i) (words-many here f bytes i) (omega arith) in
      let l : k ≤ 1 = omega (arith, q, few_more s.word) in
      subst (λ (j : ℕ). Going f bytes n (set table len m) (set kept len s.place.addr) (set words i (said s.word)) (len + k) j) (sym (add-one i))
      (record {
        passed = omega arith;
        many = c;
        few = omega (arith, g.few);
        table-long = length-set table len m ∙ g.table-long;
        kept-long = length-set kept len s.place.addr ∙ g.kept-long;
        table_is = t;
        kept_is = a;
        words_are = v;
      })

  pub going_done : n ≤ i → Sifts f bytes n (record { table = table; len = len; words = words })
  going_done h =
      let e : i ≡ n = omega (arith, g.passed) in
      subst (λ (j : ℕ). Sifts f bytes j (record { table = table; len = len; words = words })) e (record { many = g.many; few = g.few; table = g.table_is; words = g.words_are })
