-- An image read: a place, the rows, the tests in order.
-- Assumes nothing.
use mathlib.Core.Path.{◌≡◌, refl, ap, sym, ◌∙◌, subst}
use mathlib.Core.Bool.{Bool, true, false, ◌&&◌}
use mathlib.Core.List.{List, [], ◌∷◌, ◌++◌, map}
use Prim.Native.Nat.{ℕ, zero, suc, ◌+◌, ◌*◌, ◌-◌, ◌≤◌, ◌<◌}
use native.Mathlib.Omega.{arith}
use native.Mathlib.Numerals.{add-one}
use native.Mathlib.Nat.{mul-le-mul_right, suc-mul}
use lib.Dec.{leb, eqb}
use lib.ListN.{length, get_or, set, take, drop, replicate, length-map}
use lib.Seq.{take-suc, take_all, drop-drop}
use borrow.Author.Tests.{le-leb, lt-leb, eq-eqb, ne_eqb}
use Rattle.model.specs.declared.State.TheVariants.{Alive, Pending, Suspected}
use Rattle.model.specs.Rows.{pick, every, pad_to}
use Rattle.laws.specs.Pad.{pad_step}
use Rattle.address.specs.Here.{Addr, here}
use Rattle.member.specs.declared.Member.{Member}
use Rattle.member.specs.Views.{nobody}
use Rattle.numbers.specs.Numbers.{number_of}
use Rattle.numbers.specs.Codec.{get_many, many-count, many-at}
use Rattle.image.specs.Image.{opening, Entry, head, entry, layout, addr_in, state_of, state_in_rule, marked, counted, sized}
use Rattle.image.specs.Forms.{form_in}
use Rattle.image.specs.Versions.{v1, v2, versions, version}
use Rattle.image.specs.Views.{place_of, entry_in, entry_at, place_standing, read_member, rows_of, opening_of}
use Rattle.image.specs.declared.Verdict.{Verdict}
use Rattle.image.specs.declared.Verdict.TheVariants.{Accepted, WrongMark, WrongLength}
use Rattle.image.specs.declared.Place.{Place}

pub state_alive : (n : ℕ) → n ≡ 0 → Alive ≡ state_of n
unfolding state_of
state_alive n e = sym (ap state_of e)

pub state_pending : (n : ℕ) → n ≡ 1 → Pending ≡ state_of n
unfolding state_of
state_pending n e = sym (ap state_of e)

pub state_suspected : (n : ℕ) → (n ≡ 0 → ⊥) → (n ≡ 1 → ⊥) → Suspected ≡ state_of n
unfolding state_of
state_suspected n a b = rw (ne_eqb n 0 a, ne_eqb n 1 b)

-- an address of 8 bytes, and of 19
pub narrow_read : (bytes : List ℕ) (at l p : ℕ) → l ≡ number_of (take 6 (drop at bytes)) → p ≡ number_of (take 2 (drop (at + 6) bytes))
    → record { family = 4; port = p; high = 0; low = l } ≡ v1.address.get (drop at bytes)
narrow_read bytes at l p e f =
    let f' : p ≡ number_of (take 2 (drop 6 (drop at bytes))) = f ∙ ap (λ (t : List ℕ). number_of (take 2 t)) (sym (drop-drop 6 at bytes)) in
    λ i. record { family = 4; port = f' i; high = 0; low = e i }

pub wide_read : (bytes : List ℕ) (at a h l p : ℕ) → a ≡ number_of (take 1 (drop at bytes)) → h ≡ number_of (take 8 (drop (at + 1) bytes)) → l ≡ number_of (take 8 (drop (at + 9) bytes))
    → p ≡ number_of (take 2 (drop (at + 17) bytes)) → record { family = a; port = p; high = h; low = l } ≡ v2.address.get (drop at bytes)
wide_read bytes at a h l p e f g k =
    let nine : at + 1 + 8 ≡ at + 9 = omega arith in
    let seventeen : at + 9 + 8 ≡ at + 17 = omega arith in
    let x : drop 1 (drop at bytes) ≡ drop (at + 1) bytes = drop-drop 1 at bytes in
    let y : drop 8 (drop 1 (drop at bytes)) ≡ drop (at + 9) bytes = ap (drop 8) x ∙ drop-drop 8 (at + 1) bytes ∙ ap (λ (j : ℕ). drop j bytes) nine in
    let z : drop 8 (drop 8 (drop 1 (drop at bytes))) ≡ drop (at + 17) bytes = ap (drop 8) y ∙ drop-drop 8 (at + 9) bytes ∙ ap (λ (j : ℕ). drop j bytes) seventeen in
    let f' : h ≡ number_of (take 8 (drop 1 (drop at bytes))) = f ∙ ap (λ (t : List ℕ). number_of (take 8 t)) (sym x) in
    let g' : l ≡ number_of (take 8 (drop 8 (drop 1 (drop at bytes)))) = g ∙ ap (λ (t : List ℕ). number_of (take 8 t)) (sym y) in
    let k' : p ≡ number_of (take 2 (drop 8 (drop 8 (drop 1 (drop at bytes))))) = k ∙ ap (λ (t : List ℕ). number_of (take 2 t)) (sym z) in
    λ i. record { family = e i; port = k' i; high = f' i; low = g' i }

pub got_wide : (w : Bool) (bytes : List ℕ) (a : Addr) → w ≡ true → a ≡ v2.address.get bytes → a ≡ (version w).address.get bytes
got_wide w bytes a e f = f ∙ ap (λ (u : Bool). (version u).address.get bytes) (sym e)

pub got_narrow : (w : Bool) (bytes : List ℕ) (a : Addr) → w ≡ false → a ≡ v1.address.get bytes → a ≡ (version w).address.get bytes
got_narrow w bytes a e f = f ∙ ap (λ (u : Bool). (version u).address.get bytes) (sym e)

pub wide-long : (w : Bool) (at : ℕ) (bytes : List ℕ) → w ≡ true → at + (version w).address.width ≤ length bytes → at + 19 ≤ length bytes
wide-long w at bytes e h = subst (λ (u : Bool). at + (version u).address.width ≤ length bytes) e h

pub narrow_long : (w : Bool) (at : ℕ) (bytes : List ℕ) → w ≡ false → at + (version w).address.width ≤ length bytes → at + 8 ≤ length bytes
narrow_long w at bytes e h = subst (λ (u : Bool). at + (version u).address.width ≤ length bytes) e h

-- sizes
pub opening-wide : (w : Bool) → w ≡ true → 331825152002 ≡ opening (version w)
opening-wide w e = ap (λ (u : Bool). opening (version u)) (sym e)

pub opening_narrow : (w : Bool) → w ≡ false → 331825152001 ≡ opening (version w)
opening_narrow w e = ap (λ (u : Bool). opening (version u)) (sym e)

pub few_bytes : (i p : ℕ) → i ≤ 255 → p ≤ 28 → i * p ≤ 7140
few_bytes i p h k = let e : i * p ≤ 255 * p = mul-le-mul_right p h in omega (arith, e, k)

pub place-begins : (w : Bool) (i h p : ℕ) → h ≡ (head (version w)).width → p ≡ (entry (version w)).width → h + i * p ≡ place_standing w i
place-begins w i h p e f = λ j. e j + i * f j

-- a place
pub place_read : (w : Bool) (bytes : List ℕ) (at k : ℕ) (a : Addr) (s n : ℕ) → k ≡ (version w).address.width → a ≡ (version w).address.get (drop at bytes)
    → s ≡ number_of (take 1 (drop (at + k) bytes)) → n ≡ number_of (take 8 (drop (at + k + 1) bytes)) → record { addr = a; state = s; number = n } ≡ place_of (entry_at w bytes at)
place_read w bytes at k a s n q e f g =
    let x : drop (at + k) bytes ≡ drop (version w).address.width (drop at bytes) =
    ap (λ (j : ℕ). drop (at + j) bytes) q ∙ sym (drop-drop (version w).address.width at bytes) in
    let f' : s ≡ number_of (take 1 (drop (version w).address.width (drop at bytes))) = f ∙ ap (λ (l : List ℕ). number_of (take 1 l)) x in
    let g' : n ≡ number_of (take 8 (drop 1 (drop (version w).address.width (drop at bytes)))) =
    g ∙ ap (λ (l : List ℕ). number_of (take 8 l)) (sym (drop-drop 1 (at + k) bytes) ∙ ap (drop 1) x) in
    λ i. record { addr = e i; state = f' i; number = g' i }

-- places before the last
pub one_more : (i n k : ℕ) → i < n → i * k + k ≤ n * k
one_more i n k h = let e : suc i * k ≤ n * k = mul-le-mul_right k h in omega (arith, e, suc-mul i k)

-- lists
get_d_map_in : {A B : Type 0} (f : A → B) (l : List A) (i : ℕ) (z : B) (d : A) → i < length l → get_or (map f l) i z ≡ f (get_or l i d)
get_d_map_in f [] i z d h = absurd (omega arith)
get_d_map_in f (x ∷ l) zero z d h = refl
get_d_map_in f (x ∷ l) (suc i) z d h = get_d_map_in f l i z d (omega arith)

and_true : (b : Bool) → b ≡ (b && true)
and_true true = refl
and_true false = refl

and_assoc : (a b c : Bool) → ((a && b) && c) ≡ (a && (b && c))
and_assoc true b c = refl
and_assoc false b c = refl

every_snoc : {A : Type 0} (f : A → Bool) (l : List A) (x : A) → (every f l && f x) ≡ every f (l ++ (x ∷ []))
every_snoc f [] x = and_true (f x)
every_snoc f (y ∷ l) x = and_assoc (f y) (every f l) (f x) ∙ ap (λ (b : Bool). f y && b) (every_snoc f l x)

-- the rows
abbrev zeros : Entry Addr
zeros = record { first = here.blank; second = record { first = 0; second = 0 } }

abbrev pub places_of : Bool → List ℕ → ℕ → List (Entry Addr)
places_of w bytes n = get_many (entry (version w)) n (drop (head (version w)).width bytes)

pub record Going (w : Bool) (bytes : List ℕ) (n : ℕ) (table : List Member) (order : List Addr) (good : Bool) (i : ℕ) : Type 0 where
  pub few : i ≤ n
  pub table_is : table ≡ pad_to 64 nobody (take i (map read_member (places_of w bytes n)))
  pub order_is : order ≡ pad_to 64 here.blank (take i (map addr_in (places_of w bytes n)))
  pub good_is : good ≡ every (state_in_rule here) (take i (places_of w bytes n))

pub going_none : (w : Bool) (bytes : List ℕ) (n : ℕ) (m : Member) (a : Addr) → m ≡ nobody → a ≡ here.blank → Going w bytes n (replicate 64 m) (replicate 64 a) true 0
going_none w bytes n m a e f = record { few = omega arith; table_is = ap (replicate 64) e; order_is = ap (replicate 64) f; good_is = refl }

module _ (w : Bool) (bytes : List ℕ) (n : ℕ) (table : List Member) (order : List Addr) (good : Bool) (i : ℕ) (few : n ≤ 64) (g : Going w bytes n table order good i) where
  many : length (places_of w bytes n) ≡ n
  many = many-count (entry (version w)) n (drop (head (version w)).width bytes)

  place_at : i < n → get_or (places_of w bytes n) i zeros ≡ entry_at w bytes (place_standing w i)
  place_at h =
      many-at (entry (version w)) n (drop (head (version w)).width bytes) i zeros h
      ∙ ap (λ (l : List ℕ). (entry (version w)).get l) (drop-drop (i * (entry (version w)).width) (head (version w)).width bytes)

  pub going_more : (x : ℕ) (p : Place) (m : Member) (good' : Bool) → i < n → x ≡ place_standing w i → p ≡ place_of (entry_at w bytes x)
      → m ≡ record { addr = p.addr; state = state_of p.state; number = p.number } → good' ≡ (good && leb p.state 2)
      → Going w bytes n (set table i m) (set order i p.addr) good' (i + 1)
  going_more x p m good' h o e₀ f q =
      let v = place_at h in
      let e : p ≡ place_of (entry_at w bytes (place_standing w i)) = e₀ ∙ ap (λ (j : ℕ). place_of (entry_at w bytes j)) o in
      let k : i < length (places_of w bytes n) = omega (arith, many) in
      let a : get_or (map read_member (places_of w bytes n)) i nobody ≡ m =
      get_d_map_in read_member (places_of w bytes n) i nobody zeros k
      ∙ ap read_member v
      ∙ sym (f ∙ ap (λ (x : Place). read_member (entry_in x)) e) in
      let b : get_or (map addr_in (places_of w bytes n)) i here.blank ≡ p.addr =
      get_d_map_in addr_in (places_of w bytes n) i here.blank zeros k ∙ ap addr_in v ∙ sym (ap (λ (x : Place). x.addr) e) in
      let d : leb p.state 2 ≡ state_in_rule here (get_or (places_of w bytes n) i zeros) =
      ap (λ (x : Place). leb x.state 2) e ∙ sym (ap (state_in_rule here) v) in
      record {
        few = omega arith;
        table_is =
            ap (λ (t : List Member). set t i m) g.table_is
            ∙ pad_step 64 i nobody m (map read_member (places_of w bytes n)) (omega (arith, many, length-map (places_of w bytes n) read_member))
            (omega (arith, many, length-map (places_of w bytes n) read_member)) a
            ∙ ap (λ (j : ℕ). pad_to 64 nobody (take j (map read_member (places_of w bytes n)))) (sym (add-one i));
        order_is =
            ap (λ (t : List Addr). set t i p.addr) g.order_is
            ∙ pad_step 64 i here.blank p.addr (map addr_in (places_of w bytes n)) (omega (arith, many, length-map (places_of w bytes n) addr_in))
            (omega (arith, many, length-map (places_of w bytes n) addr_in)) b
            ∙ ap (λ (j : ℕ). pad_to 64 here.blank (take j (map addr_in (places_of w bytes n)))) (sym (add-one i));
        good_is =
            q
            ∙ ap (λ (u : Bool). u && leb p.state 2) g.good_is
            ∙ ap (λ (u : Bool). every (state_in_rule here) (take i (places_of w bytes n)) && u) d
            ∙ every_snoc (state_in_rule here) (take i (places_of w bytes n)) (get_or (places_of w bytes n) i zeros)
            ∙ ap (every (state_in_rule here)) (sym (take-suc (places_of w bytes n) i zeros k))
            ∙ ap (λ (j : ℕ). every (state_in_rule here) (take j (places_of w bytes n))) (sym (add-one i));
      }

  pub going_done : n ≤ i → record { table = table; order = order; good = good } ≡ rows_of (places_of w bytes n)
  unfolding rows_of
  going_done h =
      let a = g.table_is ∙ ap (pad_to 64 nobody) (take_all i (map read_member (places_of w bytes n)) (omega (arith, many, length-map (places_of w bytes n) read_member))) in
      let b = g.order_is ∙ ap (pad_to 64 here.blank) (take_all i (map addr_in (places_of w bytes n)) (omega (arith, many, length-map (places_of w bytes n) addr_in))) in
      let d = g.good_is ∙ ap (every (state_in_rule here)) (take_all i (places_of w bytes n) (omega (arith, many))) in
      λ j. record { table = a j; order = b j; good = d j }

-- a place before the last is there
pub place-room : (w : Bool) (n i x : ℕ) (bytes : List ℕ) → i < n → x ≡ place_standing w i → place_standing w n ≤ length bytes → x + (entry (version w)).width ≤ length bytes
place-room w n i x bytes h e k = omega (arith, e, k, one_more i n (entry (version w)).width h)

-- 14 and 15
module _ (bytes : List ℕ) where
  abbrev opens : Bool → Bool → Verdict
  opens a b = pick a (pick b Accepted WrongLength) WrongMark

  module _ (w : Bool) where
    pub unmarked_short : length bytes < 5 → false ≡ marked (version w) bytes
    unfolding marked
    unmarked_short h = sym (ap (λ (u : Bool). u && eqb (number_of (take 5 bytes)) (opening (version w))) (lt-leb 5 (length bytes) h))

    pub marked_by : (m k : ℕ) → 5 ≤ length bytes → m ≡ number_of (take 5 bytes) → k ≡ opening (version w) → eqb m k ≡ marked (version w) bytes
    unfolding marked
    marked_by m k h e f =
        (λ i. eqb (e i) (f i)) ∙ sym (ap (λ (u : Bool). u && eqb (number_of (take 5 bytes)) (opening (version w))) (le-leb 5 (length bytes) h))

    pub counted-by : (h n : ℕ) → h ≡ (head (version w)).width → n ≡ number_of (take 1 (drop (h - 1) bytes)) → n ≡ counted (version w) bytes
    unfolding counted
    counted-by h n e f =
        let z : h - 1 ≡ 5 + (version w).address.width = omega (arith, e) in
        f ∙ ap (λ (l : List ℕ). number_of (take 1 l)) (ap (λ (j : ℕ). drop j bytes) z ∙ sym (drop-drop (version w).address.width 5 bytes))

    unsized_short : length bytes < (head (version w)).width → sized (version w) bytes ≡ false
    unfolding sized
    unsized_short h =
        ap (λ (u : Bool). u && eqb (length bytes) (layout (version w) (counted (version w) bytes)).width) (lt-leb (head (version w)).width (length bytes) h)

    sized-by : (n p : ℕ) → (head (version w)).width ≤ length bytes → n ≡ counted (version w) bytes → p ≡ place_standing w n → sized (version w) bytes ≡ eqb (length bytes) (p + 1)
    unfolding sized
    sized-by n p h e f =
        let z : (layout (version w) n).width ≡ p + 1 = omega (arith, f) in
        ap (λ (u : Bool). u && eqb (length bytes) (layout (version w) (counted (version w) bytes)).width) (le-leb (head (version w)).width (length bytes) h)
        ∙ ap (λ (k : ℕ). eqb (length bytes) (layout (version w) k).width) (sym e)
        ∙ ap (eqb (length bytes)) z

  module _ (w : Bool) (told : w ≡ marked v2 bytes) where
    opening-by : (a b : Bool) → marked (version w) bytes ≡ a → sized (version w) bytes ≡ b → opens a b ≡ opening_of bytes
    unfolding opening_of
    opening-by a b e f =
        sym (ap (λ (u : Bool). opens (marked (version u) bytes) (sized (version u) bytes)) (sym told) ∙ ap (λ (u : Bool). opens u (sized (version w) bytes)) e ∙ ap (opens a) f)

    is_marked : (a : Bool) → marked (form_in versions bytes) bytes ≡ a → marked (version w) bytes ≡ a
    is_marked a e = ap (λ (u : Bool). marked (version u) bytes) told ∙ e

    pub opening-head : (h : ℕ) → marked (form_in versions bytes) bytes ≡ true → h ≡ (head (version w)).width → length bytes < h → WrongLength ≡ opening_of bytes
    opening-head h e f k = opening-by true false (is_marked true e) (unsized_short w (omega (arith, f, k)))

    pub opening_size : (h n p : ℕ) → marked (form_in versions bytes) bytes ≡ true → h ≡ (head (version w)).width → h ≤ length bytes → n ≡ counted (version w) bytes
        → p ≡ place_standing w n → (length bytes ≡ p + 1 → ⊥) → WrongLength ≡ opening_of bytes
    opening_size h n p e f g q x k = opening-by true false (is_marked true e) (sized-by w n p (omega (arith, f, g)) q x ∙ ne_eqb (length bytes) (p + 1) k)

    pub opening_good : (h n p : ℕ) → marked (form_in versions bytes) bytes ≡ true → h ≡ (head (version w)).width → h ≤ length bytes → n ≡ counted (version w) bytes
        → p ≡ place_standing w n → length bytes ≡ p + 1 → Accepted ≡ opening_of bytes
    opening_good h n p e f g q x k = opening-by true true (is_marked true e) (sized-by w n p (omega (arith, f, g)) q x ∙ eq-eqb (length bytes) (p + 1) k)

  pub opening-mark : marked (form_in versions bytes) bytes ≡ false → WrongMark ≡ opening_of bytes
  opening-mark e = opening-by (marked v2 bytes) refl false (sized (form_in versions bytes) bytes) e refl
