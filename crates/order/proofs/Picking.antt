-- A pick on rows: what is left to look for gives the answer of the whole.
-- Assumes nothing.
use mathlib.Core.Logic.{◌⊎◌, inl, inr, ⊎_elim}
use mathlib.Core.Path.{◌≡◌, refl, ap, sym, ◌∙◌, subst}
use mathlib.Core.Bool.{Bool, true, false}
use mathlib.Core.List.{List, [], ◌∷◌, ◌++◌}
use mathlib.Core.Option.{Option, none, some}
use Prim.Native.Nat.{ℕ, zero, suc, ◌+◌, ◌-◌, ◌*◌, ◌≤◌, ◌<◌}
use native.Mathlib.Omega.{arith}
use lib.ListN.{length, get_or, take, drop, length-append, length-drop, take-append-drop}
use lib.Seq.{length-take-le, get_or-take, take_at, drop_at}
use lib.Dec.{eqb, ltb}
use borrow.Author.Tests.{eqb-true, eqb-false, ltb-true, ltb-false}
use Rattle.model.specs.declared.Refusal.{Refusal}
use Rattle.model.specs.Rows.{pick}
use Rattle.laws.specs.Padded.{pad_snoc}
use Rattle.model.specs.Answers.{Answer, done, refused, and_then}
use Rattle.laws.specs.After.{After, gives, given}
use Rattle.laws_list.specs.Draws.{Leaves, rest_is, advance-leaves}
use Rattle.address.specs.Here.{Addr, here}
use Rattle.model.specs.Members as list
use Rattle.model.specs.declared.Drew.TheVariants.{Used, Refused}
use Rattle.order.specs.declared.Order.{Order}
use Rattle.order.specs.declared.Turned.{Turned}
use Rattle.order.specs.declared.Exclusion.{Exclusion}
use Rattle.order.specs.declared.Picks.{Picks}
use Rattle.order.specs.declared.Picked.{Picked}
use Rattle.order.specs.Views.{Ready, view_order, pack_order, turned_as, turned_of, excluded, picks_of, noted_of, goes_further, picked_as, picked_of}
use Rattle.order.specs.Ends.{drew_refused, drew_used}
use Rattle.laws_list.specs.Aside.{Fits, advance_fits}

-- whether a pick looks on
goes_on : (f c k : ℕ) → goes_further f c k ≡ true → (0 < f) × (c < k)
goes_on f c k e =
    (elim (eqb f 0) as (λ u. eqb f 0 ≡ u → pick u false (ltb c k) ≡ true → (0 < f) × (c < k)) [
      | true ↦ λ _ q. let z : ◌≡◌ {A = ℕ} 0 1 = cc in absurd (omega arith)
      | false ↦ λ p q. (omega (arith, eqb-false f 0 p), ltb-true c k q)
    ]) refl e

goes-off : (f c k : ℕ) → goes_further f c k ≡ false → (f ≡ 0) ⊎ (k ≤ c)
goes-off f c k e =
    (elim (eqb f 0) as (λ u. eqb f 0 ≡ u → pick u false (ltb c k) ≡ false → (f ≡ 0) ⊎ (k ≤ c)) [
      | true ↦ λ p _. inl (eqb-true f 0 p)
      | false ↦ λ _ q. inr (ltb-false c k q)
    ]) refl e

module _ {A : Type 0} (same : A → A → Bool) (blank own : A) where
  -- one look
  seek-look : (f : ℕ) (e : Option A) (k : ℕ) (got : List A) (m : list.Members A) (ds : List ℕ)
      → list.seek same blank own (suc f) e (suc k) got m ds
      ≡ and_then (list.advance blank m ds) λ m' rest.
      list.seek same blank own f e
      (pick (list.passed same blank own e (get_or m.order m.position blank)) (suc k) k)
      (pick (list.passed same blank own e (get_or m.order m.position blank)) got (got ++ (get_or m.order m.position blank ∷ [])))
      m' rest
  unfolding list.seek
  seek-look f e k got m ds =
      elim (list.passed same blank own e (get_or m.order m.position blank)) as (λ u.
      and_then {C = list.Picked A} (list.advance blank m ds)
      (λ m' rest. elim u [
        | true ↦ list.seek same blank own f e (suc k) got m' rest
        | false ↦ list.seek same blank own f e k (got ++ (get_or m.order m.position blank ∷ [])) m' rest
      ])
      ≡ and_then (list.advance blank m ds)
      (λ m' rest. list.seek same blank own f e (pick u (suc k) k) (pick u got (got ++ (get_or m.order m.position blank ∷ []))) m' rest)) [
        | true ↦ refl
        | false ↦ refl
      ]

  -- nobody more is wanted, or the looks are used up
  seek-none : (f : ℕ) (e : Option A) (got : List A) (m : list.Members A) (ds : List ℕ)
      → list.seek same blank own f e 0 got m ds ≡ done (record { picks = got; members = m }) ds
  unfolding list.seek
  seek-none zero e got m ds = refl
  seek-none (suc f) e got m ds = refl

  seek_tired : (e : Option A) (k : ℕ) (got : List A) (m : list.Members A) (ds : List ℕ)
      → list.seek same blank own 0 e k got m ds ≡ done (record { picks = got; members = m }) ds
  unfolding list.seek
  seek_tired e zero got m ds = refl
  seek_tired e (suc k) got m ds = refl

  pub seek_stop : (f : ℕ) (e : Option A) (k c : ℕ) (got : List A) (m : list.Members A) (ds : List ℕ) → goes_further f c k ≡ false
      → list.seek same blank own f e (k - c) got m ds ≡ done (record { picks = got; members = m }) ds
  seek_stop f e k c got m ds h =
      ⊎_elim
      (λ z. ap (λ (i : ℕ). list.seek same blank own i e (k - c) got m ds) z ∙ seek_tired e (k - c) got m ds)
      (λ z. let y : k - c ≡ 0 = omega arith in ap (λ (i : ℕ). list.seek same blank own f e i got m ds) y ∙ seek-none f e got m ds)
      (goes-off f c k h)

-- the cap and the looks do not read the own address
cap-own : (own : Addr) (x : Option Addr) (wanted n : ℕ)
    → list.cap here.same here.blank own x wanted n ≡ list.cap here.same here.blank here.blank x wanted n
cap-own own none wanted n = refl
cap-own own (some y) wanted n = refl

looks-own : (own : Addr) (x : Option Addr) → list.looks here.same here.blank own x ≡ list.looks here.same here.blank here.blank x
looks-own own none = refl
looks-own own (some y) = refl

-- one that is noted is one wish less
wish : (over : Bool) (got : List Addr) (x : Addr) (c : ℕ) → length got < c
    → pick over (suc (c - length got - 1)) (c - length got - 1) ≡ c - length (pick over got (got ++ (x ∷ [])))
wish true got x c h = omega arith
wish false got x c h = omega (arith, length-append got (x ∷ []))

noted_is : (over : Bool) (got : List Addr) (x : Addr) (picks : Picks) → picks ≡ picks_of got → length got < 4
    → noted_of picks x over ≡ picks_of (pick over got (got ++ (x ∷ [])))
noted_is true got x picks e h = e
noted_is false got x picks e h =
    (λ i. noted_of (e i) x false)
    ∙ (λ i. record { row = pad_snoc 4 here.blank got x h i; count = sym (length-append got (x ∷ [])) i })

noted-count : (over : Bool) (got : List Addr) (x : Addr) (c : ℕ) → length got < c → length (pick over got (got ++ (x ∷ []))) ≤ c
noted-count true got x c h = omega arith
noted-count false got x c h = omega (arith, length-append got (x ∷ []))

-- the pick as it stands in the loop
pub record Left (order : Order) (n : ℕ) (own : Addr) (e : Exclusion) (wanted : ℕ) (draws : List ℕ) (from capped left : ℕ) (ahead : Order) (picks : Picks) (next : ℕ) : Type 0 where
  pub few : capped ≤ 4
  pub most : capped ≤ wanted
  pub room : capped ≤ n - 1
  pub ready : Ready ahead n
  pub behind : drop n ahead.row ≡ drop n order.row
  pub after : from ≤ next
  pub within : next ≤ length draws
  pub got : List Addr
  pub picked : picks ≡ picks_of got
  pub count : length got ≤ capped
  pub same :
      list.pick_from here.same here.blank own (excluded e) wanted (view_order order n) (drop from draws)
      ≡ list.seek here.same here.blank own left (excluded e) (capped - length got) got (view_order ahead n) (drop next draws)

module _ (order : Order) (n : ℕ) (own : Addr) (e : Exclusion) (wanted : ℕ) (draws : List ℕ) (from : ℕ) where
  -- before the first look
  pub left-start : (capped looks : ℕ) (picks : Picks) → Ready order n → wanted ≤ 4 → from ≤ length draws
      → capped ≡ list.cap here.same here.blank here.blank (excluded e) wanted n → (capped ≤ wanted) × (capped ≤ n - 1)
      → looks ≡ list.looks here.same here.blank here.blank (excluded e) → picks ≡ picks_of []
      → Left order n own e wanted draws from capped (looks * capped) order picks from
  unfolding list.pick_from
  left-start capped looks picks y w h c b l p =
      let ln : length (take n order.row) ≡ n = length-take-le n order.row (omega (arith, y.few, y.long)) in
      let ek : list.cap here.same here.blank own (excluded e) wanted (length (take n order.row)) ≡ capped =
      ap (list.cap here.same here.blank own (excluded e) wanted) ln ∙ cap-own own (excluded e) wanted n ∙ sym c in
      let el : list.looks here.same here.blank own (excluded e) ≡ looks = looks-own own (excluded e) ∙ sym l in
      let whole : capped ≡ capped - 0 = omega arith in
      record {
        few = omega arith;
        most = b.0;
        room = b.1;
        ready = y;
        behind = refl;
        after = omega arith;
        within = h;
        got = [];
        picked = p;
        count = omega arith;
        same =
            (λ i. list.seek here.same here.blank own (el i * ek i) (excluded e) (ek i) [] (view_order order n) (drop from draws))
            ∙ ap (λ (j : ℕ). list.seek here.same here.blank own (looks * capped) (excluded e) j [] (view_order order n) (drop from draws)) whole;
      }

  -- after the last
  pub left_stop : (capped left : ℕ) (ahead : Order) (picks : Picks) (next : ℕ) → Left order n own e wanted draws from capped left ahead picks next
      → goes_further left picks.count capped ≡ false
      → ◌≡◌ {A = Picked} (record { order = ahead; picks = picks; drew = Used (next - from) }) (picked_of order n own e wanted draws from)
  left_stop capped left ahead picks next f g =
      let c : picks.count ≡ length f.got = ap (λ (p : Picks). p.count) f.picked in
      let s = seek_stop here.same here.blank own left (excluded e) capped (length f.got) f.got (view_order ahead n) (drop next draws)
      (sym (ap (λ (i : ℕ). goes_further left i capped) c) ∙ g) in
      let row : ahead.row ≡ take n ahead.row ++ drop n order.row =
      sym (take-append-drop n ahead.row) ∙ ap (λ (r : List Addr). take n ahead.row ++ r) f.behind in
      let used : next - from ≡ length draws - from - length (drop next draws) = omega (arith, length-drop next draws, f.after, f.within) in
      (λ i. record { order = record { row = row i; position = ahead.position }; picks = f.picked i; drew = Used (used i) })
      ∙ ap (picked_as order n (length draws - from)) (sym (f.same ∙ s))

  pub left-count : (capped left : ℕ) (ahead : Order) (picks : Picks) (next : ℕ) → Left order n own e wanted draws from capped left ahead picks next
      → picks.count ≤ wanted
  left-count capped left ahead picks next f = omega (arith, ap (λ (p : Picks). p.count) f.picked, f.count, f.most)

  -- what follows the advance of a look
  onward : (capped left : ℕ) (ahead : Order) (next : ℕ) (got : List Addr) → list.Members Addr → List ℕ → Answer (list.Picked Addr)
  onward capped left ahead next got m rest =
      let x = get_or (take n ahead.row) ahead.position here.blank in
      let over = list.passed here.same here.blank own (excluded e) x in
      list.seek here.same here.blank own (left - 1) (excluded e)
      (pick over (suc (capped - length got - 1)) (capped - length got - 1))
      (pick over got (got ++ (x ∷ [])))
      m rest

  count_is : (capped left : ℕ) (ahead : Order) (picks : Picks) (next : ℕ) (f : Left order n own e wanted draws from capped left ahead picks next)
      → goes_further left picks.count capped ≡ true → (0 < left) × (length f.got < capped)
  count_is capped left ahead picks next f g =
      goes_on left (length f.got) capped (sym (ap (λ (p : Picks). goes_further left p.count capped) f.picked) ∙ g)

  -- what a look needs: somebody to look at, a look, and a place to note it
  pub look_bounds : (capped left : ℕ) (ahead : Order) (picks : Picks) (next : ℕ) → Left order n own e wanted draws from capped left ahead picks next
      → goes_further left picks.count capped ≡ true → (0 < n) × (0 < left) × (picks.count < 4)
  look_bounds capped left ahead picks next f g =
      let b = goes_on left picks.count capped g in
      (omega (arith, f.room), b.0, omega (arith, f.few))

  pub used_fits : (ahead : Order) (next : ℕ) (turned : Turned) (used : ℕ) → next ≤ length draws → turned ≡ turned_of ahead n draws next → turned.drew ≡ Used used
      → next + used ≤ length draws
  used_fits ahead next turned used h t d =
      let a = drew_used (length draws - next) (list.advance here.blank (view_order ahead n) (drop next draws)) used (sym (ap (λ (y : Turned). y.drew) t) ∙ d) in
      omega (arith, a.3)

  looked : (capped left : ℕ) (ahead : Order) (picks : Picks) (next : ℕ) (f : Left order n own e wanted draws from capped left ahead picks next)
      → goes_further left picks.count capped ≡ true
      → list.seek here.same here.blank own left (excluded e) (capped - length f.got) f.got (view_order ahead n) (drop next draws)
      ≡ and_then (list.advance here.blank (view_order ahead n) (drop next draws)) (onward capped left ahead next f.got)
  unfolding onward
  looked capped left ahead picks next f g =
      let b = count_is capped left ahead picks next f g in
      let p : left ≡ suc (left - 1) = omega arith in
      let q : capped - length f.got ≡ suc (capped - length f.got - 1) = omega arith in
      (λ i. list.seek here.same here.blank own (p i) (excluded e) (q i) f.got (view_order ahead n) (drop next draws))
      ∙ seek-look here.same here.blank own (left - 1) (excluded e) (capped - length f.got - 1) f.got (view_order ahead n) (drop next draws)

  -- a draw is missing
  pub left-short : (capped left : ℕ) (ahead : Order) (picks : Picks) (next : ℕ) (turned : Turned) (r : Refusal)
      → Left order n own e wanted draws from capped left ahead picks next → goes_further left picks.count capped ≡ true
      → turned ≡ turned_of ahead n draws next → turned.drew ≡ Refused r
      → ◌≡◌ {A = Picked} (record { order = order; picks = picks_of []; drew = Refused r }) (picked_of order n own e wanted draws from)
  unfolding onward
  left-short capped left ahead picks next turned r f g t d =
      let x = list.advance here.blank (view_order ahead n) (drop next draws) in
      let q : x ≡ refused r = drew_refused (length draws - next) x r (sym (ap (λ (y : Turned). y.drew) t) ∙ d) in
      ap (picked_as order n (length draws - from)) (sym (f.same ∙ looked capped left ahead picks next f g ∙ ap (λ (y : Answer (list.Members Addr)). and_then y (onward capped left ahead next f.got)) q))

  -- one look
  pub left-look : (capped left : ℕ) (ahead : Order) (picks : Picks) (next : ℕ) (turned : Turned) (used : ℕ) (over : Bool) (picks' : Picks)
      → Left order n own e wanted draws from capped left ahead picks next → goes_further left picks.count capped ≡ true
      → turned ≡ turned_of ahead n draws next → turned.drew ≡ Used used
      → over ≡ list.passed here.same here.blank own (excluded e) (get_or ahead.row ahead.position here.blank)
      → picks' ≡ noted_of picks (get_or ahead.row ahead.position here.blank) over
      → Left order n own e wanted draws from capped (left - 1) turned.order picks' (next + used)
  unfolding onward
  left-look capped left ahead picks next turned used over picks' f g t d o p =
      let x = list.advance here.blank (view_order ahead n) (drop next draws) in
      let got = f.got in
      let seen : Addr = get_or ahead.row ahead.position here.blank in
      let b = count_is capped left ahead picks next f g in
      let a = drew_used (length draws - next) x used (sym (ap (λ (y : Turned). y.drew) t) ∙ d) in
      let m : list.Members Addr = a.0 in
      let rest : List ℕ = a.1 in
      let ln : length (take n ahead.row) ≡ n = length-take-le n ahead.row (omega (arith, f.ready.few, f.ready.long)) in
      let fits : Fits (view_order ahead n) m =
      given (subst (λ (y : Answer (list.Members Addr)). After (Fits (view_order ahead n)) y) a.2 (advance_fits here.blank (view_order ahead n) (drop next draws) (omega (arith, f.room)))) in
      let lv : Leaves (drop next draws) (done m rest) =
      subst (λ (y : Answer (list.Members Addr)). Leaves (drop next draws) y) a.2 (advance-leaves here.blank (view_order ahead n) (drop next draws)) in
      let put : turned.order ≡ pack_order ahead n m =
      ap (λ (y : Turned). y.order) t ∙ ap (λ (y : Answer (list.Members Addr)). (turned_as ahead n (length draws - next) y).order) a.2 in
      let lm : length m.order ≡ n = fits.long ∙ ln in
      let stands : seen ≡ get_or (take n ahead.row) ahead.position here.blank =
      sym (get_or-take n ahead.row ahead.position here.blank (omega (arith, f.room, f.ready.place))) in
      let ov : list.passed here.same here.blank own (excluded e) (get_or (take n ahead.row) ahead.position here.blank) ≡ over =
      sym (o ∙ ap (list.passed here.same here.blank own (excluded e)) stands) in
      let view : m ≡ view_order turned.order n =
      (λ i. record { table = fits.table i; order = sym (take_at m.order (drop n ahead.row) n lm) i; position = m.position })
      ∙ ap (λ (y : Order). view_order y n) (sym put) in
      let on : rest ≡ drop (next + used) draws = sym (rest_is draws next f.within lv) ∙ ap (λ (i : ℕ). drop (next + i) draws) a.3 in
      record {
        few = f.few;
        most = f.most;
        room = f.room;
        ready = subst (λ (y : Order). Ready y n) (sym put)
            (record {
              few = f.ready.few;
              long = omega (arith, length-append m.order (drop n ahead.row), length-drop n ahead.row, f.ready.long, f.ready.few);
              place = omega (arith, fits.place);
            });
        behind = ap (λ (y : Order). drop n y.row) put ∙ drop_at m.order (drop n ahead.row) n lm ∙ f.behind;
        after = omega (arith, f.after);
        within = omega (arith, f.within, a.3);
        got = pick over got (got ++ (seen ∷ []));
        picked = p ∙ noted_is over got seen picks f.picked (omega (arith, f.few));
        count = noted-count over got seen capped b.1;
        same =
            f.same
            ∙ looked capped left ahead picks next f g
            ∙ ap (λ (y : Answer (list.Members Addr)). and_then y (onward capped left ahead next got)) a.2
            ∙ (λ i. list.seek here.same here.blank own (left - 1) (excluded e)
            (pick (ov i) (suc (capped - length got - 1)) (capped - length got - 1))
            (pick (ov i) got (got ++ (sym stands i ∷ [])))
            (view i)
            (on i))
            ∙ ap (λ (k : ℕ). list.seek here.same here.blank own (left - 1) (excluded e) k (pick over got (got ++ (seen ∷ []))) (view_order turned.order n) (drop (next + used) draws))
            (wish over got seen capped b.1);
      }
