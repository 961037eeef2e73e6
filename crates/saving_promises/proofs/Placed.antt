-- THE TABLE OF A RESTORED NODE STANDS IN THE IMAGE'S ORDER: `member_at` of its place i gives the record that stands at place i of the image, and as many are listed as the image's count says.
-- Assumes nothing.
use Rattle.std.specs.Prelude.{◌≡◌, refl, Bool, not, List, [], ◌∷◌, map, ℕ, zero, suc, ◌+◌, ◌*◌, ◌≤◌, ◌<◌, ltb, length, get_or, take, drop}
use Rattle.std.proofs.Math.Path.{ap}
use Rattle.std.proofs.Common.{◌∙◌, arith, drop-drop, lt-ltb, le-ltb}
use Rattle.std.proofs.Math.Bool.{true}
use Rattle.std.proofs.Math.ListN.{length-map}
use Rattle.model.specs.declared.Refusal.TheVariants.{Unsound}
use Rattle.model.specs.declared.Settings.{Settings}
use Rattle.model.specs.declared.State.TheVariants as state
use Rattle.model.specs.Rows.{pick}
use Rattle.model.specs.Words as W
use Rattle.model.specs.Calls.{first_of}
use Rattle.address.specs.Here.{Addr, here}
use Rattle.numbers.specs.Numbers.{number_of}
use Rattle.numbers.specs.Codec.{many-count, many-at}
use Rattle.image.specs.Image.{head, entry, state_of, member_of, entries_in, counted, fields}
use Rattle.image.specs.Forms.{said_by}
use Rattle.image.specs.Versions.{v1, v2, versions}
use Rattle.saving.specs.Views.{restored_of}
use Rattle.saving.specs.declared.Restored.{Restored}
use Rattle.swim.specs.declared.lookup.Lookup.{Lookup}
use Rattle.swim.specs.declared.lookup.Lookup.TheVariants as look
use Rattle.swim.specs.declared.lookup.Tally as counts
use Rattle.swim.specs.declared.lookup.Tally.TheVariants as tally
use Rattle.swim.specs.Lookups.{how_many, member_at}
use Rattle.promises.specs.Made.{Accepted}
use Rattle.saving_promises.proofs.Restarts.{restored_held, restored_sound}
use Rattle.saving_promises.specs.Placed.{record_at, own_at, says, f}

-- version 1: own address from place 5 on; 17 bytes a place from 14 on: six of IPv4, two of port, one of state, eight of number
pub own_1 : (bytes : List ℕ) → own_at v1 bytes ≡ record { family = 4; port = says bytes 11 2; high = 0; low = says bytes 5 6 }
own_1 bytes = ap (λ (l : List ℕ). record { family = 4; port = number_of (take 2 l); high = 0; low = says bytes 5 6 }) (drop-drop 6 5 bytes)

pub record_1 : (bytes : List ℕ) (i : ℕ) → let p = 14 + i * 17 in record_at v1 bytes i
    ≡ record { addr = record { family = 4; port = says bytes (p + 6) 2; high = 0; low = says bytes p 6 }; state = state_of (says bytes (p + 8) 1); number = says bytes (p + 8 + 1) 8 }
record_1 bytes i =
    let p : ℕ = 14 + i * 17 in
    let d : drop 8 (drop p bytes) ≡ drop (p + 8) bytes = drop-drop 8 p bytes in
    let number-there : drop 1 (drop 8 (drop p bytes)) ≡ drop (p + 8 + 1) bytes = ap (λ (l : List ℕ). drop 1 l) d ∙ drop-drop 1 (p + 8) bytes in
    λ j. record {
      addr = record { family = 4; port = number_of (take 2 (drop-drop 6 p bytes j)); high = 0; low = says bytes p 6 };
      state = state_of (number_of (take 1 (d j)));
      number = number_of (take 8 (number-there j));
    }

-- version 2: own address from place 5 on; 28 bytes a place from 25 on: one of family, sixteen of address, two of port, one of state, eight of number
pub own_2 : (bytes : List ℕ) → own_at v2 bytes ≡ record { family = says bytes 5 1; port = says bytes 22 2; high = says bytes 6 8; low = says bytes 14 8 }
own_2 bytes =
    let h : drop 1 (drop 5 bytes) ≡ drop 6 bytes = drop-drop 1 5 bytes in
    let l : drop 8 (drop 1 (drop 5 bytes)) ≡ drop 14 bytes = ap (λ (x : List ℕ). drop 8 x) h ∙ drop-drop 8 6 bytes in
    let p : drop 8 (drop 8 (drop 1 (drop 5 bytes))) ≡ drop 22 bytes = ap (λ (x : List ℕ). drop 8 x) l ∙ drop-drop 8 14 bytes in
    λ j. record { family = says bytes 5 1; port = number_of (take 2 (p j)); high = number_of (take 8 (h j)); low = number_of (take 8 (l j)) }

pub record_2 : (bytes : List ℕ) (i : ℕ) → let p = 25 + i * 28 in record_at v2 bytes i
    ≡ record {
      addr = record { family = says bytes p 1; port = says bytes (p + 1 + 8 + 8) 2; high = says bytes (p + 1) 8; low = says bytes (p + 1 + 8) 8 };
      state = state_of (says bytes (p + 19) 1);
      number = says bytes (p + 19 + 1) 8;
    }
record_2 bytes i =
    let p : ℕ = 25 + i * 28 in
    let h : drop 1 (drop p bytes) ≡ drop (p + 1) bytes = drop-drop 1 p bytes in
    let l : drop 8 (drop 1 (drop p bytes)) ≡ drop (p + 1 + 8) bytes = ap (λ (x : List ℕ). drop 8 x) h ∙ drop-drop 8 (p + 1) bytes in
    let q : drop 8 (drop 8 (drop 1 (drop p bytes))) ≡ drop (p + 1 + 8 + 8) bytes = ap (λ (x : List ℕ). drop 8 x) l ∙ drop-drop 8 (p + 1 + 8) bytes in
    let d : drop 19 (drop p bytes) ≡ drop (p + 19) bytes = drop-drop 19 p bytes in
    let n : drop 1 (drop 19 (drop p bytes)) ≡ drop (p + 19 + 1) bytes = ap (λ (x : List ℕ). drop 1 x) d ∙ drop-drop 1 (p + 19) bytes in
    λ j. record {
      addr = record { family = says bytes p 1; port = number_of (take 2 (q j)); high = number_of (take 8 (h j)); low = number_of (take 8 (l j)) };
      state = state_of (number_of (take 1 (d j)));
      number = number_of (take 8 (n j));
    }

pub states : (state_of 0 ≡ state.Alive) × (state_of 1 ≡ state.Pending) × (state_of 2 ≡ state.Suspected)
unfolding state_of
states = (refl, refl, refl)

map_at : {B C : Type 0} (g : B → C) (l : List B) (i : ℕ) (d : C) (b : B) → i < length l → get_or (map g l) i d ≡ g (get_or l i b)
map_at g [] i d b h = absurd (omega (arith, h))
map_at g (x ∷ l) zero d b h = refl
map_at g (x ∷ l) (suc i) d b h = map_at g l i d b (omega (arith, h))

module _ (bytes : List ℕ) (settings : Settings) (tick : ℕ) (s : Restored) (told : s ≡ restored_of bytes settings tick) (kept : Accepted s.answer) where
  abbrev rows : List (W.Member Addr)
  rows = (said_by versions bytes).rows

  as_many : length rows ≡ counted (f bytes settings tick s told kept) bytes
  unfolding fields
  as_many = length-map (entries_in (fields (f bytes settings tick s told kept) bytes)) member_of ∙ many-count (entry (f bytes settings tick s told kept)) (counted (f bytes settings tick s told kept) bytes) (drop (head (f bytes settings tick s told kept)).width bytes)

  stands : (i : ℕ) → i < counted (f bytes settings tick s told kept) bytes → get_or rows i (W.blank_member here) ≡ record_at (f bytes settings tick s told kept) bytes i
  unfolding fields
  stands i h =
      map_at member_of (entries_in (fields (f bytes settings tick s told kept) bytes)) i (W.blank_member here) ((entry (f bytes settings tick s told kept)).get bytes) (omega (arith, h, many-count (entry (f bytes settings tick s told kept)) (counted (f bytes settings tick s told kept) bytes) (drop (head (f bytes settings tick s told kept)).width bytes)))
      ∙ ap member_of (many-at (entry (f bytes settings tick s told kept)) (counted (f bytes settings tick s told kept) bytes) (drop (head (f bytes settings tick s told kept)).width bytes) i ((entry (f bytes settings tick s told kept)).get bytes) h ∙ ap (entry (f bytes settings tick s told kept)).get (drop-drop (i * (entry (f bytes settings tick s told kept)).width) (head (f bytes settings tick s told kept)).width bytes))

  -- as many as the count says
  pub restored_count : how_many s.answer.node ≡ tally.Listed (counted (f bytes settings tick s told kept) bytes)
  unfolding how_many
  restored_count =
      (λ j. first_of {B = counts.Tally} ((not (restored_sound bytes settings tick s told kept j), Unsound) ∷ []) tally.Refused (tally.Listed (length (restored_held bytes settings tick s told kept j).members.table)))
      ∙ ap tally.Listed as_many

  abbrev at_place : Bool → Bool → W.Member Addr → Lookup
  at_place u v m = first_of ((not u, Unsound) ∷ []) look.Refused (pick v (look.Listed m.addr m.state m.number) look.NotListed)

  by_place : (i : ℕ) → member_at s.answer.node i ≡ at_place true (ltb i (counted (f bytes settings tick s told kept) bytes)) (get_or rows i (W.blank_member here))
  unfolding member_at
  by_place i =
      (λ j. at_place (restored_sound bytes settings tick s told kept j) (ltb i (length (restored_held bytes settings tick s told kept j).members.table)) (get_or (restored_held bytes settings tick s told kept j).members.table i (W.blank_member here)))
      ∙ (λ j. at_place true (ltb i (as_many j)) (get_or rows i (W.blank_member here)))

  -- place i of the list is place i of the image
  pub placed : (i : ℕ) → i < counted (f bytes settings tick s told kept) bytes → let m = record_at (f bytes settings tick s told kept) bytes i in member_at s.answer.node i ≡ look.Listed m.addr m.state m.number
  placed i h = by_place i ∙ (λ j. at_place true (lt-ltb i (counted (f bytes settings tick s told kept) bytes) h j) (stands i h j))

  -- and behind the count there is nobody
  pub nobody-behind : (i : ℕ) → counted (f bytes settings tick s told kept) bytes ≤ i → member_at s.answer.node i ≡ look.NotListed
  nobody-behind i h = by_place i ∙ (λ j. at_place true (le-ltb i (counted (f bytes settings tick s told kept) bytes) h j) (get_or rows i (W.blank_member here)))
