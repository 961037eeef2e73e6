-- An image laid down: a place, the places, the whole.
-- Assumes nothing.
use mathlib.Core.Path.{◌≡◌, refl, ap, sym, ◌∙◌, subst}
use mathlib.Core.Bool.{Bool, true, false, ◌||◌}
use mathlib.Core.List.{List, [], ◌∷◌, ◌++◌, map}
use Prim.Native.Nat.{ℕ, ◌+◌, ◌*◌, ◌≤◌, ◌<◌}
use native.Mathlib.Omega.{arith}
use native.Mathlib.Numerals.{add-one}
use lib.ListN.{length, get_or, take, drop, length-append, length-map}
use lib.Seq.{take-suc, length-take-le}
use borrow.Author.Tests.{le-leb, lt-leb}
use Rattle.model.specs.Rows.{pick}
use Rattle.address.specs.Here.{Addr}
use Rattle.model.specs.Words as words
use Rattle.model.specs.Members.{addrs}
use Rattle.member.specs.declared.Member.{Member}
use Rattle.member.specs.Views.{to_member, nobody}
use Rattle.numbers.specs.Numbers.{big_endian}
use Rattle.numbers.specs.NumberLaws.{big_long}
use Rattle.varint.specs.Laid.{Laid, Room, laid_none, laid_then, laid_as, laid-first}
use Rattle.numbers.specs.Codec.{put_many, many-wide, many-none, many_snoc}
use Rattle.image.specs.Image.{opening, Entry, head, entry, entry_of, state_number, image}
use Rattle.image.specs.Forms.{some, needs_wide, image_of}
use Rattle.image.specs.Versions.{v1, v2, is_v6, versions, version}
use Rattle.image.specs.Views.{address_bytes, member_bytes, members_bytes, head_bytes, addresses_of, saved_as, place_standing, written_of, row_of}
use Rattle.image.proofs.Loading.{one_more}
use Rattle.image.specs.declared.Written.TheVariants.{TooLong, Whole}

-- lengths
pub address_long : (w : Bool) (a : Addr) → length (address_bytes w a) ≡ (version w).address.width
address_long true a =
    omega (
      arith,
      length-append (big_endian 1 a.family) (big_endian 8 a.high ++ (big_endian 8 a.low ++ big_endian 2 a.port)),
      length-append (big_endian 8 a.high) (big_endian 8 a.low ++ big_endian 2 a.port),
      length-append (big_endian 8 a.low) (big_endian 2 a.port),
      big_long 1 a.family,
      big_long 8 a.high,
      big_long 8 a.low,
      big_long 2 a.port,
    )
address_long false a = omega (arith, length-append (big_endian 6 a.low) (big_endian 2 a.port), big_long 6 a.low, big_long 2 a.port)

wide : (w : Bool) (e : Entry Addr) → length ((entry (version w)).put e) ≡ (entry (version w)).width
wide w e =
    omega (
      arith,
      length-append (address_bytes w e.first) (big_endian 1 e.second.first ++ big_endian 8 e.second.second),
      length-append (big_endian 1 e.second.first) (big_endian 8 e.second.second),
      address_long w e.first,
      big_long 1 e.second.first,
      big_long 8 e.second.second,
    )

pub member-long : (w : Bool) (m : words.Member Addr) → length (member_bytes w m) ≡ (entry (version w)).width
unfolding member_bytes
member-long w m = wide w (entry_of m)

pub members-long : (w : Bool) (l : List (words.Member Addr)) → length (members_bytes w l) ≡ length l * (entry (version w)).width
unfolding members_bytes
members-long w l = many-wide (entry (version w)) (wide w) (map entry_of l) ∙ ap (λ (k : ℕ). k * (entry (version w)).width) (length-map l entry_of)

pub head-long : (w : Bool) (own : Addr) (n : ℕ) → length (head_bytes w own n) ≡ (head (version w)).width
unfolding head_bytes
head-long w own n =
    omega (
      arith,
      length-append (big_endian 5 (opening (version w))) (address_bytes w own ++ big_endian 1 n),
      length-append (address_bytes w own) (big_endian 1 n),
      big_long 5 (opening (version w)),
      address_long w own,
      big_long 1 n,
    )

-- the address, in the bytes of the version
pub wide_room : (w : Bool) {row : List ℕ} {at : ℕ} (a : Addr) → w ≡ true → Room row at (address_bytes w a) → Room row at (v2.address.put a)
wide_room w {row} {at} a e r = subst (λ (u : Bool). Room row at (address_bytes u a)) e r

pub narrow_room : (w : Bool) {row : List ℕ} {at : ℕ} (a : Addr) → w ≡ false → Room row at (address_bytes w a) → Room row at (v1.address.put a)
narrow_room w {row} {at} a e r = subst (λ (u : Bool). Room row at (address_bytes u a)) e r

pub wide-laid : (w : Bool) {row row' : List ℕ} {at next : ℕ} (a : Addr) → w ≡ true → Laid row at (v2.address.put a) row' next → Laid row at (address_bytes w a) row' next
wide-laid w {row} {row'} {at} {next} a e f = subst (λ (u : Bool). Laid row at (address_bytes u a) row' next) (sym e) f

pub narrow_laid : (w : Bool) {row row' : List ℕ} {at next : ℕ} (a : Addr) → w ≡ false → Laid row at (v1.address.put a) row' next → Laid row at (address_bytes w a) row' next
narrow_laid w {row} {row'} {at} {next} a e f = subst (λ (u : Bool). Laid row at (address_bytes u a) row' next) (sym e) f

-- 8 bytes: address, port
module _ {row : List ℕ} {at : ℕ} (a : Addr) (r : Room row at (v1.address.put a)) where
  pub low_room : Room row at (big_endian 6 a.low)
  low_room = record { fits = omega (arith, r.fits, address_long false a, big_long 6 a.low) }

  module _ {row₁ : List ℕ} {n₁ : ℕ} (f₁ : Laid row at (big_endian 6 a.low) row₁ n₁) (p : ℕ) where
    pub port-room : Room row₁ n₁ (big_endian 2 p)
    port-room = record { fits = omega (arith, r.fits, address_long false a, f₁.ends, f₁.long, big_long 6 a.low, big_long 2 p) }

    pub narrow_done : {row₂ : List ℕ} {n₂ : ℕ} → p ≡ a.port → Laid row₁ n₁ (big_endian 2 p) row₂ n₂ → Laid row at (v1.address.put a) row₂ n₂
    narrow_done e f₂ =
        laid_as (big_endian 6 a.low ++ big_endian 2 p) (v1.address.put a) (ap (λ (k : ℕ). big_endian 6 a.low ++ big_endian 2 k) e) (laid_then f₁ f₂)

-- 19 bytes: family, address as two numbers, port
module _ {row : List ℕ} {at : ℕ} (a : Addr) (r : Room row at (v2.address.put a)) (g : ℕ) where
  pub family_room : Room row at (big_endian 1 g)
  family_room = record { fits = omega (arith, r.fits, address_long true a, big_long 1 g) }

  module _ {row₁ : List ℕ} {n₁ : ℕ} (f₁ : Laid row at (big_endian 1 g) row₁ n₁) where
    pub high_room : Room row₁ n₁ (big_endian 8 a.high)
    high_room = record { fits = omega (arith, r.fits, address_long true a, f₁.ends, f₁.long, big_long 1 g, big_long 8 a.high) }

    module _ {row₂ : List ℕ} {n₂ : ℕ} (f₂ : Laid row₁ n₁ (big_endian 8 a.high) row₂ n₂) where
      pub low_room₂ : Room row₂ n₂ (big_endian 8 a.low)
      low_room₂ = record {
        fits = omega (arith, r.fits, address_long true a, f₁.ends, f₁.long, f₂.ends, f₂.long, big_long 1 g, big_long 8 a.high, big_long 8 a.low);
      }

      module _ {row₃ : List ℕ} {n₃ : ℕ} (f₃ : Laid row₂ n₂ (big_endian 8 a.low) row₃ n₃) (p : ℕ) where
        pub port_room₂ : Room row₃ n₃ (big_endian 2 p)
        port_room₂ = record {
          fits =
              omega (
                arith,
                r.fits,
                address_long true a,
                f₁.ends,
                f₁.long,
                f₂.ends,
                f₂.long,
                f₃.ends,
                f₃.long,
                big_long 1 g,
                big_long 8 a.high,
                big_long 8 a.low,
                big_long 2 p,
              );
        }

        pub wide_done : {row₄ : List ℕ} {n₄ : ℕ} → g ≡ a.family → p ≡ a.port → Laid row₃ n₃ (big_endian 2 p) row₄ n₄ → Laid row at (v2.address.put a) row₄ n₄
        wide_done e q f₄ =
            laid_as (big_endian 1 g ++ (big_endian 8 a.high ++ (big_endian 8 a.low ++ big_endian 2 p))) (v2.address.put a)
            (λ i. big_endian 1 (e i) ++ (big_endian 8 a.high ++ (big_endian 8 a.low ++ big_endian 2 (q i)))) (laid_then f₁ (laid_then f₂ (laid_then f₃ f₄)))

-- one place: address, state, number
module _ (w : Bool) {row : List ℕ} {at : ℕ} (m : words.Member Addr) (r : Room row at (member_bytes w m)) where
  pub addr_room : Room row at (address_bytes w m.addr)
  addr_room = record { fits = omega (arith, r.fits, member-long w m, address_long w m.addr) }

  module _ {row₁ : List ℕ} {n₁ : ℕ} (f₁ : Laid row at (address_bytes w m.addr) row₁ n₁) (s : ℕ) where
    pub state_room : Room row₁ n₁ (big_endian 1 s)
    state_room = record { fits = omega (arith, r.fits, member-long w m, f₁.ends, f₁.long, address_long w m.addr, big_long 1 s) }

    module _ {row₂ : List ℕ} {n₂ : ℕ} (f₂ : Laid row₁ n₁ (big_endian 1 s) row₂ n₂) where
      pub number-room : Room row₂ n₂ (big_endian 8 m.number)
      number-room = record {
        fits =
            omega (
              arith,
              r.fits,
              member-long w m,
              f₁.ends,
              f₁.long,
              f₂.ends,
              f₂.long,
              address_long w m.addr,
              big_long 1 s,
              big_long 8 m.number,
            );
      }

      pub member-laid : s ≡ state_number m.state → {row₃ : List ℕ} {n₃ : ℕ} → Laid row₂ n₂ (big_endian 8 m.number) row₃ n₃ → Laid row at (member_bytes w m) row₃ n₃
      unfolding member_bytes
      member-laid e f₃ =
          laid_as (address_bytes w m.addr ++ (big_endian 1 s ++ big_endian 8 m.number)) (member_bytes w m)
          (ap (λ (k : ℕ). address_bytes w m.addr ++ (big_endian 1 k ++ big_endian 8 m.number)) e) (laid_then f₁ (laid_then f₂ f₃))

-- the head: mark and version as one number, own, count
module _ (w : Bool) {row : List ℕ} (own : Addr) (n k : ℕ) (r : Room row 0 (head_bytes w own n)) where
  pub mark-room : Room row 0 (big_endian 5 k)
  mark-room = record { fits = omega (arith, r.fits, head-long w own n, big_long 5 k) }

  module _ {row₁ : List ℕ} {n₁ : ℕ} (f₁ : Laid row 0 (big_endian 5 k) row₁ n₁) where
    pub own_room : Room row₁ n₁ (address_bytes w own)
    own_room = record { fits = omega (arith, r.fits, head-long w own n, f₁.ends, f₁.long, big_long 5 k, address_long w own) }

    module _ {row₂ : List ℕ} {n₂ : ℕ} (f₂ : Laid row₁ n₁ (address_bytes w own) row₂ n₂) where
      pub count_room : Room row₂ n₂ (big_endian 1 n)
      count_room = record {
        fits =
            omega (
              arith,
              r.fits,
              head-long w own n,
              f₁.ends,
              f₁.long,
              f₂.ends,
              f₂.long,
              big_long 5 k,
              address_long w own,
              big_long 1 n,
            );
      }

      pub head-laid : k ≡ opening (version w) → {row₃ : List ℕ} {n₃ : ℕ} → Laid row₂ n₂ (big_endian 1 n) row₃ n₃ → Laid row 0 (head_bytes w own n) row₃ n₃
      unfolding head_bytes
      head-laid e f₃ =
          laid_as (big_endian 5 k ++ (address_bytes w own ++ big_endian 1 n)) (head_bytes w own n)
          (ap (λ (j : ℕ). big_endian 5 j ++ (address_bytes w own ++ big_endian 1 n)) e) (laid_then f₁ (laid_then f₂ f₃))

-- the places
pub none-laid : (w : Bool) (row : List ℕ) (at : ℕ) → Laid row at (members_bytes w []) row at
unfolding members_bytes
none-laid w row at = laid_as [] (members_bytes w []) (sym (many-none (entry (version w)))) (laid_none row at)

map_snoc : {A B : Type 0} (f : A → B) (l : List A) (a : A) → map f (l ++ (a ∷ [])) ≡ map f l ++ (f a ∷ [])
map_snoc f [] a = refl
map_snoc f (x ∷ l) a = ap (λ r. f x ∷ r) (map_snoc f l a)

pub wide-none : (b : Bool) → b ≡ (b || false)
wide-none true = refl
wide-none false = refl

or_assoc : (a b c : Bool) → ((a || b) || c) ≡ (a || (b || c))
or_assoc true b c = refl
or_assoc false b c = refl

some_snoc : (l : List Addr) (x : Addr) → (some is_v6 l || is_v6 x) ≡ some is_v6 (l ++ (x ∷ []))
some_snoc [] x = wide-none (is_v6 x)
some_snoc (y ∷ l) x = or_assoc (is_v6 y) (some is_v6 l) (is_v6 x) ∙ ap (λ (b : Bool). is_v6 y || b) (some_snoc l x)

members_snoc : (w : Bool) (l : List (words.Member Addr)) (m : words.Member Addr) → members_bytes w (l ++ (m ∷ [])) ≡ members_bytes w l ++ member_bytes w m
unfolding members_bytes member_bytes
members_snoc w l m = ap (put_many (entry (version w))) (map_snoc entry_of l m) ∙ many_snoc (entry (version w)) (map entry_of l) (entry_of m)

module _ (rows : List Member) (i : ℕ) (h : i < length rows) where
  pub more : map to_member (take (i + 1) rows) ≡ map to_member (take i rows) ++ (to_member (get_or rows i nobody) ∷ [])
  more =
      ap (λ (n : ℕ). map to_member (take n rows)) (add-one i)
      ∙ ap (map to_member) (take-suc rows i nobody h)
      ∙ map_snoc to_member (take i rows) (get_or rows i nobody)

  pub more-laid : (w : Bool) {out out' out'' : List ℕ} {at next last : ℕ} → Laid out at (members_bytes w (map to_member (take i rows))) out' next
      → Laid out' next (member_bytes w (to_member (get_or rows i nobody))) out'' last → Laid out at (members_bytes w (map to_member (take (i + 1) rows))) out'' last
  more-laid w f g =
      laid_as (members_bytes w (map to_member (take i rows)) ++ member_bytes w (to_member (get_or rows i nobody))) (members_bytes w (map to_member (take (i + 1) rows)))
      (sym (ap (members_bytes w) more ∙ members_snoc w (map to_member (take i rows)) (to_member (get_or rows i nobody)))) (laid_then f g)

  -- one more address
  pub wide-more : (b found v u : Bool) → found ≡ (b || some is_v6 (addresses_of rows i)) → v ≡ is_v6 (get_or rows i nobody).addr → u ≡ (found || v)
      → u ≡ (b || some is_v6 (addresses_of rows (i + 1)))
  wide-more b found v u e f g =
      g
      ∙ (λ j. e j || f j)
      ∙ or_assoc b (some is_v6 (addresses_of rows i)) (is_v6 (get_or rows i nobody).addr)
      ∙ ap (λ (x : Bool). b || x) (some_snoc (addresses_of rows i) (get_or rows i nobody).addr)
      ∙ ap (λ (l : List Addr). b || some is_v6 l) (sym (ap addrs more ∙ map_snoc (λ (x : words.Member Addr). x.addr) (map to_member (take i rows)) (to_member (get_or rows i nobody))))

pub wide-told : (own : Addr) (rows : List Member) (n : ℕ) (b found : Bool) → b ≡ is_v6 own → found ≡ (b || some is_v6 (addresses_of rows n)) → found ≡ needs_wide versions own (addresses_of rows n)
unfolding needs_wide
wide-told own rows n b found e f = f ∙ ap (λ (x : Bool). x || some is_v6 (addresses_of rows n)) e

pub rows_long : (w : Bool) (rows : List Member) (n : ℕ) → n ≤ length rows → length (members_bytes w (map to_member (take n rows))) ≡ n * (entry (version w)).width
rows_long w rows n h =
    members-long w (map to_member (take n rows)) ∙ ap (λ (k : ℕ). k * (entry (version w)).width) (length-map (take n rows) to_member ∙ length-take-le n rows h)

pub place-room : (w : Bool) (rows : List Member) (n i : ℕ) {out out' : List ℕ} {at next : ℕ} (m : words.Member Addr) → i < n → n ≤ length rows
    → Room out at (members_bytes w (map to_member (take n rows))) → Laid out at (members_bytes w (map to_member (take i rows))) out' next → Room out' next (member_bytes w m)
place-room w rows n i m h k r f =
    let a : i ≤ length rows = omega arith in
    record {
      fits =
          omega (arith, member-long w m, rows_long w rows n k, rows_long w rows i a, r.fits, f.ends, f.long, one_more i n (entry (version w)).width h);
    }

-- the whole
module _ (w : Bool) (own : Addr) (rows : List Member) (n position : ℕ) (h : n ≤ length rows) (told : w ≡ needs_wide versions own (addresses_of rows n)) where
  abbrev whole : List ℕ
  whole = image_of versions (saved_as own rows n position)

  count : length (map to_member (take n rows)) ≡ n
  count = length-map (take n rows) to_member ∙ length-take-le n rows h

  image_is : image_of versions (saved_as own rows n position) ≡ head_bytes w own n ++ (members_bytes w (map to_member (take n rows)) ++ big_endian 1 position)
  unfolding image head_bytes members_bytes
  image_is =
      ap (λ (u : Bool). image (version u) (saved_as own rows n position)) (sym told)
      ∙ ap (λ (k : ℕ). head_bytes w own k ++ (members_bytes w (map to_member (take n rows)) ++ big_endian 1 position)) count

  image-long : length (image_of versions (saved_as own rows n position)) ≡ place_standing w n + 1
  image-long =
      omega (
        arith,
        ap (λ (l : List ℕ). length l) image_is,
        length-append (head_bytes w own n) (members_bytes w (map to_member (take n rows)) ++ big_endian 1 position),
        length-append (members_bytes w (map to_member (take n rows))) (big_endian 1 position),
        head-long w own n,
        rows_long w rows n h,
        big_long 1 position,
      )

  module _ (p : ℕ) (at : p ≡ place_standing w n) where
    pub too_long : (row : List ℕ) → length row < p + 1
        → (TooLong ≡ written_of (image_of versions (saved_as own rows n position)) row) × (row ≡ row_of (image_of versions (saved_as own rows n position)) row)
    unfolding written_of row_of
    too_long row k =
        let e = lt-leb (length whole) (length row) (omega (arith, image-long, at)) in (
          sym (ap (λ (u : Bool). pick u (Whole (length whole)) TooLong) e),
          sym (ap (λ (u : Bool). pick u (whole ++ drop (length whole) row) row) e),
        )

    module _ {row : List ℕ} (k : p + 1 ≤ length row) where
      pub room-head : Room row 0 (head_bytes w own n)
      room-head = record { fits = omega (arith, head-long w own n, at) }

      module _ {row₁ : List ℕ} {n₁ : ℕ} (f₁ : Laid row 0 (head_bytes w own n) row₁ n₁) where
        pub room-rows : Room row₁ n₁ (members_bytes w (map to_member (take n rows)))
        room-rows = record { fits = omega (arith, head-long w own n, rows_long w rows n h, at, f₁.ends, f₁.long) }

        module _ {row₂ : List ℕ} {n₂ : ℕ} (f₂ : Laid row₁ n₁ (members_bytes w (map to_member (take n rows))) row₂ n₂) where
          pub room_position : Room row₂ n₂ (big_endian 1 position)
          room_position = record {
            fits = omega (arith, head-long w own n, rows_long w rows n h, big_long 1 position, at, f₁.ends, f₁.long, f₂.ends, f₂.long);
          }

          pub written : {row₃ : List ℕ} {n₃ : ℕ} → Laid row₂ n₂ (big_endian 1 position) row₃ n₃
              → (Whole n₃ ≡ written_of (image_of versions (saved_as own rows n position)) row) × (row₃ ≡ row_of (image_of versions (saved_as own rows n position)) row)
          unfolding written_of row_of
          written {row₃} {n₃} f₃ =
              let b : Laid row 0 whole row₃ n₃ =
              laid_as (head_bytes w own n ++ (members_bytes w (map to_member (take n rows)) ++ big_endian 1 position)) whole (sym image_is) (laid_then f₁ (laid_then f₂ f₃)) in
              let q : length whole ≤ length row = omega (arith, image-long, at) in
              let e = le-leb (length whole) (length row) q in
              let z : n₃ ≡ length whole = omega (arith, b.ends) in (
                ap Whole z ∙ sym (ap (λ (u : Bool). pick u (Whole (length whole)) TooLong) e),
                laid-first q b ∙ sym (ap (λ (u : Bool). pick u (whole ++ drop (length whole) row) row) e),
              )
