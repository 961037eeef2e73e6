-- 16, and the whole answer.
-- Assumes nothing.
use mathlib.Core.Path.{◌≡◌, refl, ap, sym, ◌∙◌}
use mathlib.Core.Bool.{Bool, true, false, not, ◌&&◌}
use mathlib.Core.List.{List, [], ◌∷◌, map}
use Prim.Native.Nat.{ℕ, ◌+◌, ◌*◌, ◌≤◌, ◌<◌}
use native.Mathlib.Omega.{arith}
use lib.Dec.{leb, eqb}
use lib.ListN.{length, take, drop, length-map}
use lib.Seq.{drop-drop}
use borrow.Author.Tests.{le-leb, lt-leb, leb-true, eqb-true, not-true, not-false}
use Rattle.model.specs.Rows.{pick, every, pad_to}
use Rattle.model.specs.Sound.{distinct, permutes, positioned}
use Rattle.laws.specs.Bools.{and_split}
use Rattle.laws.specs.Pad.{take_pad}
use Rattle.laws_list.specs.Distinct.{counts-permutes}
use Rattle.address.specs.Here.{Addr, here, here_lawful}
use Rattle.model.specs.Words as words
use Rattle.model.specs.Members.{addrs}
use Rattle.member.specs.declared.Member.{Member}
use Rattle.member.specs.Views.{to_member, nobody}
use Rattle.numbers.specs.Numbers.{number_of}
use Rattle.numbers.specs.Codec.{many-count}
use Rattle.image.specs.Image.{Entry, Image, head, entry, layout, own_in, entries_in, position_in, addr_in, member_of, saved_of, state_in_rule, address_in_rule, marked, counted, sized, fields, in_rule}
use Rattle.image.specs.Forms.{alike, needs_wide, wide_of, form_in, in_version}
use Rattle.image.proofs.Round.{entries_valid}
use Rattle.image.specs.Versions.{v2, versions, version}
use Rattle.image.specs.Views.{addresses_of, place_standing, read_member, rows_of, opening_of, rows_in_rule, judged_of, nothing, list_of, loaded_of}
use Rattle.image.specs.declared.Verdict.{Verdict}
use Rattle.image.specs.declared.Verdict.TheVariants.{Accepted, WrongMark, WrongLength, OutOfRule}
use Rattle.image.specs.declared.Rows.{Rows}
use Rattle.image.specs.declared.Loaded.{Loaded}
use Rattle.image.proofs.Loading.{places_of}

-- a row beside itself is a permutation of itself, so the pass that marks says whether it is distinct
once : (l : List Addr) → (distinct here.same l && permutes here.same l l) ≡ distinct here.same l
once l =
    ap (λ (u : Bool). distinct here.same l && u) (counts-permutes here.same here_lawful.test l l (λ a. refl)) ∙ and_true (distinct here.same l)
  where
    and_true : (b : Bool) → (b && true) ≡ b
    and_true true = refl
    and_true false = refl

module _ (w : Bool) (own : Addr) (rows : Rows) (n position : ℕ) where
  pub rule_told : (a v m p s f₁ f₂ f₃ f₄ r : Bool) → a ≡ here.valid own → v ≡ every here.valid (take n rows.order)
      → m ≡ (distinct here.same (take n rows.order) && permutes here.same (take n rows.order) (take n rows.order)) → p ≡ positioned position n
      → s ≡ alike w (needs_wide versions own (addresses_of rows.table n))
      → f₁ ≡ (a && rows.good) → f₂ ≡ (f₁ && v) → f₃ ≡ (f₂ && m) → f₄ ≡ (f₃ && p) → r ≡ (f₄ && s) → r ≡ rows_in_rule w own rows n position
  unfolding rows_in_rule
  rule_told a v m p s f₁ f₂ f₃ f₄ r ea ev em ep es e₁ e₂ e₃ e₄ er =
      let em' : m ≡ distinct here.same (take n rows.order) = em ∙ once (take n rows.order) in
      er
      ∙ ap (λ (u : Bool). u && s) (e₄ ∙ ap (λ (u : Bool). u && p) (e₃ ∙ ap (λ (u : Bool). u && m) (e₂ ∙ ap (λ (u : Bool). u && v) e₁)))
      ∙ (λ i. ea i && rows.good && ev i && em' i && ep i && es i)

  by : (u : Bool) → u ≡ rows_in_rule w own rows n position
      → pick u (record { verdict = Accepted; own = own; table = rows.table; order = rows.order; len = n; position = position }) (nothing OutOfRule) ≡ judged_of w own rows n position
  unfolding judged_of
  by u e = ap (λ (b : Bool). pick b (record { verdict = Accepted; own = own; table = rows.table; order = rows.order; len = n; position = position }) (nothing OutOfRule)) e

  pub judged-out : (u : Bool) (r : Loaded) → u ≡ rows_in_rule w own rows n position → not u ≡ true → r ≡ nothing OutOfRule → r ≡ judged_of w own rows n position
  judged-out u r e t q = q ∙ by false (sym (not-true u t) ∙ e)

  pub judged_in : (u : Bool) → u ≡ rows_in_rule w own rows n position → not u ≡ false
      → record { verdict = Accepted; own = own; table = rows.table; order = rows.order; len = n; position = position } ≡ judged_of w own rows n position
  judged_in u e t = by true (sym (not-false u t) ∙ e)

-- rows that were read and the fields
views : (l : List (Entry Addr)) → map to_member (map read_member l) ≡ map member_of l
views [] = refl
views (e ∷ l) = ap (λ (r : List (words.Member Addr)). member_of e ∷ r) (views l)

-- the fields are in rule, and their version is that of their list
abbrev ruled : Bool → Image Addr → Bool
ruled w i = in_rule here i && alike w (wide_of versions (saved_of i))

module _ (w : Bool) (i : Image Addr) (n : ℕ) (few : n ≤ 64) (many : length (entries_in i) ≡ n) where
  abbrev L : List (Entry Addr)
  L = entries_in i

  used : take n (rows_of L).order ≡ map addr_in L
  unfolding rows_of
  used = ap (λ (k : ℕ). take k (pad_to 64 here.blank (map addr_in L))) (sym (length-map L addr_in ∙ many)) ∙ take_pad 64 here.blank (map addr_in L)

  addressed : addresses_of (rows_of L).table n ≡ addrs (map member_of L)
  unfolding rows_of
  addressed =
      ap (λ (k : ℕ). addrs (map to_member (take k (pad_to 64 nobody (map read_member L))))) (sym (length-map L read_member ∙ many))
      ∙ ap (λ (t : List Member). addrs (map to_member t)) (take_pad 64 nobody (map read_member L))
      ∙ ap addrs (views L)

  rule_is : rows_in_rule w (own_in i) (rows_of L) n (position_in i) ≡ ruled w i
  unfolding rows_in_rule in_rule rows_of
  rule_is =
      let v : every here.valid (take n (rows_of L).order) ≡ every (address_in_rule here) L = ap (every here.valid) used ∙ sym (entries_valid here L) in
      let d : distinct here.same (take n (rows_of L).order) ≡ distinct here.same (map addr_in L) = ap (distinct here.same) used in
      let p : positioned (position_in i) n ≡ positioned (position_in i) (length L) = ap (positioned (position_in i)) (sym many) in
      let c : leb (length L) 64 ≡ true = le-leb (length L) 64 (omega (arith, many)) in
      let s : alike w (needs_wide versions (own_in i) (addresses_of (rows_of L).table n)) ≡ alike w (wide_of versions (saved_of i)) =
      ap (λ (l : List Addr). alike w (needs_wide versions (own_in i) l)) addressed in
      (λ j. here.valid (own_in i) && every (state_in_rule here) L && v j && d j && p j && s j)
      ∙ ap (λ (u : Bool). u && here.valid (own_in i) && every (state_in_rule here) L && every (address_in_rule here) L && distinct here.same (map addr_in L) && positioned (position_in i) (length L)
      && alike w (wide_of versions (saved_of i))) (sym c)

  whole : record { verdict = Accepted; own = own_in i; table = (rows_of L).table; order = (rows_of L).order; len = n; position = position_in i } ≡ list_of i
  whole = ap (λ (k : ℕ). record { verdict = Accepted; own = own_in i; table = (rows_of L).table; order = (rows_of L).order; len = k; position = position_in i }) (sym many)

  pub judged_is : judged_of w (own_in i) (rows_of L) n (position_in i) ≡ pick (ruled w i) (list_of i) (nothing OutOfRule)
  unfolding judged_of
  judged_is = λ j. pick (rule_is j) (whole j) (nothing OutOfRule)

-- no image is accepted by its opening and refused for it
abbrev pub kind : Verdict → ℕ
kind Accepted = 0
kind WrongMark = 1
kind WrongLength = 2
kind OutOfRule = 3

-- the whole
module _ (bytes : List ℕ) where
  opens : (a b : Bool) → pick a (pick b Accepted WrongLength) WrongMark ≡ Accepted → (a ≡ true) × (b ≡ true)
  opens true true e = (refl, refl)
  opens true false e = let z : ◌≡◌ {A = ℕ} 2 0 = ap kind e in absurd (omega arith)
  opens false b e = let z : ◌≡◌ {A = ℕ} 1 0 = ap kind e in absurd (omega arith)

  opened : opening_of bytes ≡ Accepted → (marked (form_in versions bytes) bytes ≡ true) × (sized (form_in versions bytes) bytes ≡ true)
  unfolding opening_of
  opened e = opens (marked (form_in versions bytes) bytes) (sized (form_in versions bytes) bytes) e

  -- the answer to an image of a version whose mark and length are right
  abbrev rest : Bool → Loaded
  rest w = pick (ruled w (fields (version w) bytes)) (list_of (fields (version w) bytes)) (nothing OutOfRule)

  not_opened : (a b : Bool) (x : Loaded) (v : Verdict) → pick a (pick b Accepted WrongLength) WrongMark ≡ v → 0 < kind v
      → nothing v ≡ pick a (pick b x (nothing WrongLength)) (nothing WrongMark)
  not_opened true true x v e h = absurd (omega (arith, h, ap kind e))
  not_opened true false x v e h = ap nothing (sym e)
  not_opened false b x v e h = ap nothing (sym e)

  pub load_refused : (v : Verdict) (r : Loaded) → opening_of bytes ≡ v → 0 < kind v → r ≡ nothing v → r ≡ loaded_of bytes
  unfolding loaded_of opening_of in_version
  load_refused v r e h q = q ∙ not_opened (marked (form_in versions bytes) bytes) (sized (form_in versions bytes) bytes) (rest (marked v2 bytes)) v e h

  module _ (w : Bool) (told : w ≡ marked v2 bytes) (e : opening_of bytes ≡ Accepted) where
    is_sized : sized (version w) bytes ≡ true
    is_sized = ap (λ (u : Bool). sized (version u) bytes) told ∙ (opened e).1

    sizes : ((head (version w)).width ≤ length bytes) × (length bytes ≡ (layout (version w) (counted (version w) bytes)).width)
    unfolding sized
    sizes =
        let t = and_split (leb (head (version w)).width (length bytes)) (eqb (length bytes) (layout (version w) (counted (version w) bytes)).width) is_sized in
        (leb-true (head (version w)).width (length bytes) t.0, eqb-true (length bytes) (layout (version w) (counted (version w) bytes)).width t.1)

    pub opened_head : (head (version w)).width ≤ length bytes
    opened_head = sizes.0

    pub opened_long : (n : ℕ) → n ≡ counted (version w) bytes → length bytes ≡ place_standing w n + 1
    opened_long n q =
        let z : (layout (version w) n).width ≡ place_standing w n + 1 = omega arith in
        sizes.1 ∙ ap (λ (k : ℕ). (layout (version w) k).width) (sym q) ∙ z

    load_opened : loaded_of bytes ≡ rest w
    unfolding loaded_of in_version
    load_opened =
        ap (λ (u : Bool). pick u (pick (sized (form_in versions bytes) bytes) (rest (marked v2 bytes)) (nothing WrongLength)) (nothing WrongMark)) (opened e).0
        ∙ ap (λ (u : Bool). pick u (rest (marked v2 bytes)) (nothing WrongLength)) (opened e).1
        ∙ ap rest (sym told)

    count : (n : ℕ) → n ≡ counted (version w) bytes → length (entries_in (fields (version w) bytes)) ≡ n
    unfolding fields
    count n q = many-count (entry (version w)) (counted (version w) bytes) (drop (head (version w)).width bytes) ∙ sym q

    abbrev i : Image Addr
    i = fields (version w) bytes

    pub load_many : (n : ℕ) (r : Loaded) → n ≡ counted (version w) bytes → 64 < n → r ≡ nothing OutOfRule → r ≡ loaded_of bytes
    unfolding in_rule
    load_many n r q h p =
        let z : ruled w i ≡ false =
        ap (λ (u : Bool). u && here.valid (own_in i) && every (state_in_rule here) (entries_in i) && every (address_in_rule here) (entries_in i)
        && distinct here.same (map addr_in (entries_in i)) && positioned (position_in i) (length (entries_in i)) && alike w (wide_of versions (saved_of i)))
        (lt-leb (length (entries_in i)) 64 (omega (arith, count n q))) in
        p ∙ sym (load_opened ∙ ap (λ (u : Bool). pick u (list_of i) (nothing OutOfRule)) z)

    pub load_judged : (n position p : ℕ) (own : Addr) (rows : Rows) (r : Loaded) → n ≡ counted (version w) bytes → n ≤ 64 → own ≡ (version w).address.get (drop 5 bytes)
        → p ≡ place_standing w n → position ≡ number_of (take 1 (drop p bytes)) → rows ≡ rows_of (places_of w bytes n) → r ≡ judged_of w own rows n position → r ≡ loaded_of bytes
    unfolding fields
    load_judged n p x o rows r q few a y b f g =
        let b' : p ≡ position_in i =
        b
        ∙ ap (λ (j : ℕ). number_of (take 1 (drop j bytes))) (y ∙ ap (place_standing w) q)
        ∙ ap (λ (l : List ℕ). number_of (take 1 l)) (sym (drop-drop (counted (version w) bytes * (entry (version w)).width) (head (version w)).width bytes)) in
        let f' : rows ≡ rows_of (entries_in i) = f ∙ ap (λ (k : ℕ). rows_of (places_of w bytes k)) q in
        g
        ∙ (λ j. judged_of w (a j) (f' j) n (b' j))
        ∙ judged_is w i n few (count n q)
        ∙ sym load_opened
