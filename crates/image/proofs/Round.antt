-- What is saved is read again, and what is read is the one list with that image. For any type of address and its bytes.
-- Assumes nothing.
use Rattle.std.specs.Prelude.{◌≡◌, refl, Bool, false, ◌&&◌, ℕ, zero, suc, ◌^◌, ◌≤◌, ◌<◌, eqb, ltb, leb, drop}
use Rattle.std.proofs.Math.Path.{ap}
use Rattle.std.proofs.Common.{sym, ◌∙◌, arith, lit<}
use Rattle.std.proofs.Math.Bool.{true}
use mathlib.Core.List.{List, [], ◌∷◌, map, append-nil}
use Rattle.std.proofs.Math.ListN.{length, length-map}
use Rattle.std.proofs.Math.Seq.{take_all}
use borrow.Author.Tests.{le-leb, leb-true, eq-eqb, eqb-true, ltb-true}
use Rattle.model.specs.declared.State.{State}
use Rattle.model.specs.declared.State.TheVariants.{Alive, Pending, Suspected}
use Rattle.model.specs.Rows.{pick, every}
use Rattle.model.specs.Words.{Address, Member}
use Rattle.model.specs.Members.{addrs}
use Rattle.model.specs.Sound.{distinct, positioned}
use Rattle.laws.specs.Bools.{and_split, and_join}
use Rattle.numbers.specs.Numbers.{Bytes}
use Rattle.numbers.specs.Codec.{Exact, number, Below, number-exact, both, FitBoth, both-exact, many, All, FitMany, many-exact, many-count}
use Rattle.image.specs.Image.{Form, opening, Head, Entry, Image, head, entry, layout, addr_in, own_in, entries_in, position_in, state_number, state_of, entry_of, member_of, Saved, fields_of, saved_of, image, marked, counted, sized, fields, state_in_rule, address_in_rule, in_rule}
use Rattle.image.specs.Round.{Numbered, Savable, Says}

-- states
state_back : (s : State) → state_of (state_number s) ≡ s
unfolding state_of state_number
state_back Alive = refl
state_back Pending = refl
state_back Suspected = refl

state_few : (s : State) → leb (state_number s) 2 ≡ true
unfolding state_number
state_few Alive = refl
state_few Pending = refl
state_few Suspected = refl

state_small : (s : State) → state_number s < 256
unfolding state_number
state_small Alive = lit< tt
state_small Pending = lit< tt
state_small Suspected = lit< tt

state_forth : (n : ℕ) → n ≤ 2 → state_number (state_of n) ≡ n
unfolding state_of state_number
state_forth zero h = refl
state_forth (suc zero) h = refl
state_forth (suc (suc zero)) h = refl
state_forth (suc (suc (suc n))) h = absurd (omega arith)

module _ {A : Type 0} where
  rows_back : (l : List (Member A)) → map member_of (map entry_of l) ≡ l
  rows_back [] = refl
  rows_back (m ∷ l) =
      ap (λ (s : State). record { addr = m.addr; state = s; number = m.number } ∷ map member_of (map entry_of l)) (state_back m.state)
      ∙ ap (λ (r : List (Member A)). m ∷ r) (rows_back l)

module _ {A : Type 0} (address : Address A) where
  rows_forth : (l : List (Entry A)) → every (state_in_rule address) l ≡ true → map entry_of (map member_of l) ≡ l
  rows_forth [] h = refl
  rows_forth (e ∷ l) h =
      let t = and_split (state_in_rule address e) (every (state_in_rule address) l) h in
      ap (λ (s : ℕ). record { first = e.first; second = record { first = s; second = e.second.second } } ∷ map entry_of (map member_of l))
      (state_forth e.second.first (leb-true e.second.first 2 t.0))
      ∙ ap (λ (r : List (Entry A)). e ∷ r) (rows_forth l t.1)

  -- fields in rule are those of the list that they say
  fields_forth : (f : Form A) (i : Image A) → i.first.first ≡ opening f → i.first.second.second ≡ length i.second.first → every (state_in_rule address) i.second.first ≡ true
      → fields_of f (saved_of i) ≡ i
  fields_forth f i m n h =
      let k : length (map member_of i.second.first) ≡ i.first.second.second = length-map i.second.first member_of ∙ sym n in
      let r = rows_forth i.second.first h in
      λ j. record {
        first = record { first = sym m j; second = record { first = i.first.second.first; second = k j } };
        second = record { first = r j; second = i.second.second };
      }

  states_good : (l : List (Member A)) → every (state_in_rule address) (map entry_of l) ≡ true
  states_good [] = refl
  states_good (m ∷ l) = and_join (state_few m.state) (states_good l)

-- the layout is exact if the address's is
module _ {A : Type 0} (f : Form A) (F : A → Type 0) (exact : Exact f.address F) where
  abbrev FitHead : Head A → Type 0
  FitHead = FitBoth (number 5) (both f.address (number 1)) (Below 5) (FitBoth f.address (number 1) F (Below 1))

  abbrev FitEntry : Entry A → Type 0
  FitEntry = FitBoth f.address (both (number 1) (number 8)) F (FitBoth (number 1) (number 8) (Below 1) (Below 8))

  abbrev FitImage : ℕ → Image A → Type 0
  FitImage n = FitBoth (head f) (both (many (entry f) n) (number 1)) FitHead (FitBoth (many (entry f) n) (number 1) (FitMany (entry f) n FitEntry) (Below 1))

  pub head-exact : Exact (head f) FitHead
  head-exact = both-exact (number 5) (both f.address (number 1)) (number-exact 5) (both-exact f.address (number 1) exact (number-exact 1))

  pub entry-exact : Exact (entry f) FitEntry
  entry-exact = both-exact f.address (both (number 1) (number 8)) exact (both-exact (number 1) (number 8) (number-exact 1) (number-exact 8))

  pub layout-exact : (n : ℕ) → Exact (layout f n) (FitImage n)
  layout-exact n =
      both-exact (head f) (both (many (entry f) n) (number 1)) head-exact
      (both-exact (many (entry f) n) (number 1) (many-exact (entry f) entry-exact n) (number-exact 1))

-- a position in rule is a byte
low : (p n : ℕ) → n ≤ 64 → positioned p n ≡ true → p < 256
unfolding positioned
low p n h e =
    (elim (eqb n 0) as (λ u. pick u (eqb p 0) (ltb p n) ≡ true → p < 256) [
      | true ↦ λ q. omega (arith, eqb-true p 0 q)
      | false ↦ λ q. omega (arith, ltb-true p n q)
    ]) e

-- the addresses of a list stand in its fields
module _ {A : Type 0} where
  pub entries_addrs : (l : List (Member A)) → map addr_in (map entry_of l) ≡ addrs l
  entries_addrs [] = refl
  entries_addrs (m ∷ l) = ap (λ (r : List A). m.addr ∷ r) (entries_addrs l)

  pub members-addrs : (l : List (Entry A)) → addrs (map member_of l) ≡ map addr_in l
  members-addrs [] = refl
  members-addrs (e ∷ l) = ap (λ (r : List A). addr_in e ∷ r) (members-addrs l)

module _ {A : Type 0} (address : Address A) where
  pub entries_valid : (l : List (Entry A)) → every (address_in_rule address) l ≡ every address.valid (map addr_in l)
  entries_valid [] = refl
  entries_valid (e ∷ l) = ap (λ (u : Bool). address.valid (addr_in e) && u) (entries_valid l)

module _ {A : Type 0} (address : Address A) (f : Form A) (F : A → Type 0) (exact : Exact f.address F) where
  entries_fit : (l : List (Member A)) → All f.address F (addrs l) → Numbered l → All (entry f) (FitEntry f F exact) (map entry_of l)
  entries_fit [] h n = tt
  entries_fit (m ∷ l) h n = ((h.0, (state_small m.state, n.0)), entries_fit l h.1 n.1)

  -- a list whose addresses fit
  module _ (small : opening f < 256 ^ 5) (s : Saved A) (k : Savable address s) (fit : All f.address F (s.own ∷ addrs s.rows)) where
    abbrev n : ℕ
    n = length s.rows

    fits : FitImage f F exact n (fields_of f s)
    fits = (
      (small, (fit.0, omega (arith, k.few))),
      ((length-map s.rows entry_of, entries_fit s.rows fit.1 k.numbers), low s.position n k.few k.placed),
    )

    all : (layout f n).get (image f s) ≡ fields_of f s
    unfolding image
    all =
        ap (layout f n).get (sym (append-nil ((layout f n).put (fields_of f s))))
        ∙ (layout-exact f F exact n).back (fields_of f s) [] fits

    pub image-long : length (image f s) ≡ (layout f n).width
    unfolding image
    image-long = (layout-exact f F exact n).long (fields_of f s) fits

    counts : counted f (image f s) ≡ n
    unfolding counted
    counts = ap (λ (i : Image A). i.first.second.second) all

    marks : marked f (image f s) ≡ true
    unfolding marked
    marks =
        let m : (number 5).get (image f s) ≡ opening f = ap (λ (i : Image A). i.first.first) all in
        and_join (le-leb 5 (length (image f s)) (omega (arith, image-long))) (eq-eqb ((number 5).get (image f s)) (opening f) m)

    sizes : sized f (image f s) ≡ true
    unfolding sized
    sizes =
        and_join (le-leb (head f).width (length (image f s)) (omega (arith, image-long)))
        (eq-eqb (length (image f s)) (layout f (counted f (image f s))).width (image-long ∙ ap (λ (j : ℕ). (layout f j).width) (sym counts)))

    reads : fields f (image f s) ≡ fields_of f s
    unfolding fields
    reads = ap (λ (j : ℕ). (layout f j).get (image f s)) counts ∙ all

    keeps : in_rule address (fields_of f s) ≡ true
    unfolding in_rule
    keeps =
        let e = length-map s.rows entry_of in
        let a = entries_addrs s.rows in
        and_join
        (and_join
        (and_join
        (and_join
        (and_join (le-leb (length (map entry_of s.rows)) 64 (omega (arith, k.few, e))) k.own_valid)
        (states_good address s.rows))
        (entries_valid address (map entry_of s.rows) ∙ ap (every address.valid) a ∙ k.valid))
        (ap (distinct address.same) a ∙ k.once))
        (ap (positioned s.position) e ∙ k.placed)

    -- what is saved is read again
    pub says-image : Says address f (image f s) s
    says-image =
        record {
          is_marked = marks;
          is_sized = sizes;
          in-rule = ap (in_rule address) reads ∙ keeps;
          says = ap saved_of reads ∙ ap (λ (l : List (Member A)). record { own = s.own; rows = l; position = s.position }) (rows_back s.rows);
        }

  -- what is read is the list with that image
  pub image_read : (bytes : List ℕ) → Bytes bytes → (s : Saved A) → Says address f bytes s → image f s ≡ bytes
  unfolding image marked sized in_rule fields counted
  image_read bytes b s t =
      let i : Image A = fields f bytes in
      let m = and_split (leb 5 (length bytes)) (eqb ((number 5).get bytes) (opening f)) t.is_marked in
      let z = and_split (leb (head f).width (length bytes)) (eqb (length bytes) (layout f (counted f bytes)).width) t.is_sized in
      let r = third (leb (length (entries_in (fields f bytes))) 64) (address.valid (own_in (fields f bytes))) (every (state_in_rule address) (entries_in (fields f bytes)))
      (every (address_in_rule address) (entries_in (fields f bytes))) (distinct address.same (map addr_in (entries_in (fields f bytes))))
      (positioned (position_in (fields f bytes)) (length (entries_in (fields f bytes)))) t.in-rule in
      let l : length bytes ≡ (layout f (counted f bytes)).width = eqb-true (length bytes) (layout f (counted f bytes)).width z.1 in
      let q : length (entries_in (fields f bytes)) ≡ counted f bytes = many-count (entry f) (counted f bytes) (drop (head f).width bytes) in
      let g : fields_of f (saved_of (fields f bytes)) ≡ fields f bytes =
      fields_forth address f (fields f bytes) (eqb-true ((number 5).get bytes) (opening f) m.1) (sym q) r in
      let p : length (saved_of (fields f bytes)).rows ≡ counted f bytes = length-map (entries_in (fields f bytes)) member_of ∙ q in
      ap (image f) (sym t.says)
      ∙ ap (λ (j : ℕ). (layout f j).put (fields_of f (saved_of (fields f bytes)))) p
      ∙ ap (layout f (counted f bytes)).put g
      ∙ (layout-exact f F exact (counted f bytes)).forth bytes b (omega (arith, l))
      ∙ take_all (layout f (counted f bytes)).width bytes (omega (arith, l))
    where
      third : (a b c d e f : Bool) → (a && b && c && d && e && f) ≡ true → c ≡ true
      third a b c d e f h =
          let p = and_split (a && b && c && d && e) f h in
          let q = and_split (a && b && c && d) e p.0 in
          let r = and_split (a && b && c) d q.0 in
          (and_split (a && b) c r.0).1
