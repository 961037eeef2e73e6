-- RESTART WITH THE LIST WE HAD: one list has one image; what was saved is restored; what was restored is saved as the same bytes, and is sound. Of the calls.
-- Assumes nothing.
use Rattle.std.specs.Prelude.{◌≡◌, refl, Bool, not, ◌&&◌, eqb, leb, length, take}
use Rattle.std.proofs.Math.Path.{ap}
use Rattle.std.proofs.Common.{sym, ◌∙◌, subst, arith}
use Rattle.std.proofs.Math.Bool.{true, false}
use mathlib.Core.List.{List, [], ◌∷◌, ◌++◌}
use Prim.Native.Nat.{ℕ, ◌≤◌}
use Rattle.std.proofs.Math.Dec.{ltb}
use Rattle.std.proofs.Math.ListN.{drop}
use Rattle.std.proofs.Math.Seq.{take_at, drop_at}
use borrow.Author.Tests.{le-ltb, eqb-true, ne_eqb}
use Rattle.model.specs.declared.Reply.TheVariants.{Done}
use Rattle.model.specs.declared.Refusal.{Refusal}
use Rattle.model.specs.declared.Refusal.TheVariants.{Unsound, NoRoom}
use Rattle.model.specs.declared.Settings.{Settings}
use Rattle.model.specs.Node as M
use Rattle.model.specs.Sound.{in_range, sound}
use Rattle.model.specs.Calls.{Created, created, first_of}
use Rattle.laws.specs.Bools.{and_split}
use Rattle.laws_node.specs.Good.{Good, good_sound, sound_good, loaded-stored}
use Rattle.address.specs.Here.{Addr, here, here_lawful}
use Rattle.node.specs.declared.Node.{Node}
use Rattle.node.specs.Views.{stored_view, created_of}
use Rattle.promises.proofs.Runs.{stored-unstored}
use Rattle.promises.specs.Made.{Accepted}
use Rattle.promises.proofs.Begun.{restore_accepted}
use Rattle.wait.specs.Views.{fresh_wait}
use Rattle.numbers.specs.Numbers.{Bytes}
use Rattle.numbers.specs.Codec.{number}
use Rattle.image.specs.Image.{opening, Saved, marked}
use Rattle.image.specs.Forms.{wide_of, image_of, said_by}
use Rattle.image.specs.Round.{Savable}
use Rattle.image.proofs.Chosen.{image-opens, tells-image, image-tells}
use Rattle.image.specs.Versions.{v1, v2, versions, version}
use Rattle.image.proofs.Versions.{sure}
use Rattle.saving.specs.Saving.{Save, saved, not_saved, saved_list, restored_node, save, restore}
use Rattle.saving.specs.Views.{ending_of, Saves, restored_as, restored_of}
use Rattle.laws_saving.specs.Laws.{savable, listed_same, state_same, number_same, order_same, accepted, restores, restored_good, saved_again}
use Rattle.laws_saving.specs.Laws.{Accepted as ListAccepted}
use Rattle.saving.specs.declared.Saving.{Saving}
use Rattle.saving.specs.declared.Saving.TheVariants as saving
use Rattle.saving.specs.declared.Restored.{Restored}
use Rattle.saving_promises.specs.Restarts.{held, Whole, Wrote, SameList, Anew, listed}

-- ---- saving
kind_of : Saving → ℕ
kind_of (saving.Whole n) = 0
kind_of (saving.Refused r) = 1

endings : (u t : Bool) (a b : Refusal) (k n : ℕ) (w row : List ℕ)
    → ending_of (first_of {B = Save} ((not u, a) ∷ (t, b) ∷ []) (λ r. record { ends = not_saved r; row = row }) (record { ends = saved k; row = w })).ends ≡ saving.Whole n
    → (u ≡ true) × (n ≡ k) × ((first_of {B = Save} ((not u, a) ∷ (t, b) ∷ []) (λ r. record { ends = not_saved r; row = row }) (record { ends = saved k; row = w })).row ≡ w)
unfolding kind_of
endings true false a b k n w row e = let z : k ≡ n = cc in (refl, sym z, refl)
endings true true a b k n w row e = let z : ◌≡◌ {A = ℕ} 1 0 = ap kind_of e in absurd (omega arith)
endings false t a b k n w row e = let z : ◌≡◌ {A = ℕ} 1 0 = ap kind_of e in absurd (omega arith)

module _ (node : Node) (row : List ℕ) (r : Saving) (row' : List ℕ) (met : Saves node row r row') where
  pub wrote : (n : ℕ) → r ≡ saving.Whole n → Wrote node row n row'
  unfolding save
  wrote n e =
      let bytes : List ℕ = image_of versions (saved_list here (held node)) in
      let q =
      endings (sound here (stored_view node)) (ltb (length row) (length (image_of versions (saved_list here (held node))))) Unsound NoRoom (length (image_of versions (saved_list here (held node)))) n
      (image_of versions (saved_list here (held node)) ++ drop (length (image_of versions (saved_list here (held node)))) row) row (sym met.answer ∙ e) in
      let w : row' ≡ image_of versions (saved_list here (held node)) ++ drop n row =
      met.written ∙ q.2 ∙ ap (λ (k : ℕ). image_of versions (saved_list here (held node)) ++ drop k row) (sym q.1) in
      record {
        is_sound = q.0;
        count = q.1;
        bytes = ap (take n) w ∙ take_at (image_of versions (saved_list here (held node))) (drop n row) n (sym q.1);
        rest = ap (drop n) w ∙ drop_at (image_of versions (saved_list here (held node))) (drop n row) n (sym q.1);
      }

-- ---- a saved list can be read
module _ (node : Node) (whole : Whole node) (is_sound : sound here (stored_view node) ≡ true) where
  good : Good here (held node)
  good = sound_good here here_lawful (stored_view node) whole.rows is_sound

  can_be_saved : Savable here (saved_list here (held node))
  can_be_saved = savable here here_lawful (held node) good.whole good.valid good.own whole.numbers

  -- what restore makes of a sound node's image
  pub image_restores : (settings : Settings) → in_range settings ≡ true
      → restore here versions (image_of versions (saved_list here (held node))) settings ≡ created (M.stored here (restored_node here settings (saved_list here (held node))))
  image_restores settings c =
      restores here here_lawful versions (image_of versions (saved_list here (held node))) settings (saved_list here (held node))
      (tells-image here versions sure (saved_list here (held node)) can_be_saved) c

-- no bytes open with both versions
one-version : (bytes : List ℕ) → marked v2 bytes ≡ true → marked v1 bytes ≡ false
unfolding marked
one-version bytes e =
    let p = and_split (leb 5 (length bytes)) (eqb ((number 5).get bytes) (opening v2)) e in
    let n : (number 5).get bytes ≡ opening v2 = eqb-true ((number 5).get bytes) (opening v2) p.1 in
    let d : eqb ((number 5).get bytes) (opening v1) ≡ false = ne_eqb ((number 5).get bytes) (opening v1) (λ q. absurd (omega (arith, sym q ∙ n))) in
    ap (λ (u : Bool). leb 5 (length bytes) && u) d ∙ ap (λ (u : Bool). u && false) p.0

-- "A list with an IPv6 address, own included, is saved as version 2 .. All others are version 1. A version 1 reader answers 14": its test is whether they open with version 1
pub saved_version : (node : Node) (row : List ℕ) (r : Saving) (row' : List ℕ) → Saves node row r row' → Whole node → (n : ℕ) → r ≡ saving.Whole n
    → (marked v2 (take n row') ≡ wide_of versions (saved_list here (held node))) × (marked v1 (take n row') ≡ not (wide_of versions (saved_list here (held node))))
saved_version node row r row' met whole n e =
    let w = wrote node row r row' met n e in
    let k = can_be_saved node whole w.is_sound in
    let o : marked v2 (image_of versions (saved_list here (held node))) ≡ wide_of versions (saved_list here (held node)) = image-opens here versions sure (saved_list here (held node)) k in
    let t : marked v1 (image_of versions (saved_list here (held node))) ≡ not (marked v2 (image_of versions (saved_list here (held node)))) =
    by (image_of versions (saved_list here (held node))) (marked v2 (image_of versions (saved_list here (held node)))) refl (tells-image here versions sure (saved_list here (held node)) k).says.is_marked in
    (ap (marked v2) w.bytes ∙ o, ap (marked v1) w.bytes ∙ t ∙ ap not o)
  where
    by : (bytes : List ℕ) (u : Bool) → marked v2 bytes ≡ u → marked (version u) bytes ≡ true → marked v1 bytes ≡ not u
    by bytes true q t = one-version bytes q
    by bytes false q t = t

-- "One list has one image": two nodes whose calls wrote the same bytes have the same own address, order, states, numbers and position
pub one-image : (node node₂ : Node) (row row₂ : List ℕ) (r r₂ : Saving) (row' row₂' : List ℕ) → Saves node row r row' → Saves node₂ row₂ r₂ row₂' → Whole node → Whole node₂
    → (n n₂ : ℕ) → r ≡ saving.Whole n → r₂ ≡ saving.Whole n₂ → take n row' ≡ take n₂ row₂' → saved_list here (held node) ≡ saved_list here (held node₂)
one-image node node₂ row row₂ r r₂ row' row₂' met met₂ w w₂ n n₂ e e₂ q =
    let a = wrote node row r row' met n e in
    let b = wrote node₂ row₂ r₂ row₂' met₂ n₂ e₂ in
    image-tells here versions sure (saved_list here (held node)) (saved_list here (held node₂)) (can_be_saved node w a.is_sound) (can_be_saved node₂ w₂ b.is_sound) (sym a.bytes ∙ q ∙ b.bytes)

-- and the same list gives the same bytes, whatever else the nodes hold
pub same-image : (node node₂ : Node) (row row₂ : List ℕ) (r r₂ : Saving) (row' row₂' : List ℕ) → Saves node row r row' → Saves node₂ row₂ r₂ row₂'
    → (n n₂ : ℕ) → r ≡ saving.Whole n → r₂ ≡ saving.Whole n₂ → saved_list here (held node) ≡ saved_list here (held node₂) → take n row' ≡ take n₂ row₂'
same-image node node₂ row row₂ r r₂ row' row₂' met met₂ n n₂ e e₂ q =
    (wrote node row r row' met n e).bytes ∙ ap (image_of versions) q ∙ sym (wrote node₂ row₂ r₂ row₂' met₂ n₂ e₂).bytes

-- "restore of what save wrote gives the list back"
pub restored_back : (node : Node) (row : List ℕ) (r : Saving) (row' : List ℕ) → Saves node row r row' → Whole node → (n : ℕ) → r ≡ saving.Whole n
    → (settings : Settings) (tick : ℕ) (s : Restored) → in_range settings ≡ true → s ≡ restored_of (take n row') settings tick
    → (s.answer.reply ≡ Done 0) × (s.wait ≡ fresh_wait tick) × SameList (held s.answer.node) (held node) × Anew settings (held s.answer.node)
unfolding restored_of created_of
restored_back node row r row' met whole n e settings tick s c told =
    let w = wrote node row r row' met n e in
    let g = good node whole w.is_sound in
    let l : Saved Addr = saved_list here (held node) in
    let i : restore here versions (take n row') settings ≡ created (M.stored here (restored_node here settings (saved_list here (held node)))) =
    ap (λ (bytes : List ℕ). restore here versions bytes settings) w.bytes ∙ image_restores node whole w.is_sound settings c in
    let t : s ≡ restored_as (created_of (created (M.stored here (restored_node here settings (saved_list here (held node)))))) tick =
    told ∙ ap (λ (x : Created Addr). restored_as (created_of x) tick) i in
    let p : Good here (restored_node here settings (saved_list here (held node))) = again node whole w.is_sound settings c in
    let h : held s.answer.node ≡ restored_node here settings (saved_list here (held node)) =
    ap (λ (x : Restored). held x.answer.node) t
    ∙ ap M.loaded (stored-unstored (M.stored here (restored_node here settings (saved_list here (held node)))))
    ∙ loaded-stored here here_lawful (restored_node here settings (saved_list here (held node))) p.whole in (
      ap (λ (x : Restored). x.answer.reply) t,
      ap (λ (x : Restored). x.wait) t,
      subst (λ (x : M.Node Addr). SameList x (held node)) (sym h)
          (record {
            own = refl;
            order = order_same here here_lawful (held node) g.whole g.valid;
            position = refl;
            listed = listed_same here here_lawful (held node) g.whole g.valid;
            state = state_same here here_lawful (held node) g.whole g.valid;
            number = number_same here here_lawful (held node) g.whole g.valid;
          }),
      subst (λ (x : M.Node Addr). Anew settings x) (sym h) (record { settings_are = refl; alive = refl; deceased = refl; timers = refl; departed = refl }),
    )
  where
    again : (m : Node) (v : Whole m) (k : sound here (stored_view m) ≡ true) (c : Settings) → in_range c ≡ true → Good here (restored_node here c (saved_list here (held m)))
    again m v k c d =
        let bytes : List ℕ = image_of versions (saved_list here (held m)) in
        let a = accepted here here_lawful versions (image_of versions (saved_list here (held m))) c _ (image_restores m v k c d) in
        let q : said_by versions (image_of versions (saved_list here (held m))) ≡ saved_list here (held m) = (tells-image here versions sure (saved_list here (held m)) (can_be_saved m v k)).says.says in
        subst (λ (x : Saved Addr). Good here (restored_node here c x)) q (restored_good here here_lawful versions (image_of versions (saved_list here (held m))) c a.0)

-- ---- what restore accepted
module _ (bytes : List ℕ) (settings : Settings) (tick : ℕ) (s : Restored) (told : s ≡ restored_of bytes settings tick) (kept : Accepted s.answer) where
  pub facts : ListAccepted here here_lawful versions bytes settings
  facts = (restore_accepted bytes settings tick s told kept).0

  stored_there : stored_view s.answer.node ≡ M.stored here (restored_node here settings (listed bytes settings tick s told kept))
  stored_there = (restore_accepted bytes settings tick s told kept).1

  restored_is_good : Good here (restored_node here settings (listed bytes settings tick s told kept))
  restored_is_good = restored_good here here_lawful versions bytes settings facts

  -- the node that a restart gives: its list is the one that the bytes say, all else is empty
  pub restored_held : held s.answer.node ≡ restored_node here settings (listed bytes settings tick s told kept)
  restored_held = ap M.loaded stored_there ∙ loaded-stored here here_lawful (restored_node here settings (listed bytes settings tick s told kept)) restored_is_good.whole

  -- "what restore accepts is sound"
  pub restored_sound : sound here (stored_view s.answer.node) ≡ true
  restored_sound = ap (sound here) stored_there ∙ good_sound here here_lawful (restored_node here settings (listed bytes settings tick s told kept)) restored_is_good

  -- "save of what restore accepted writes the same bytes"
  pub saved_same : Bytes bytes → (row : List ℕ) (r : Saving) (row' : List ℕ) → Saves s.answer.node row r row' → length bytes ≤ length row
      → (r ≡ saving.Whole (length bytes)) × (take (length bytes) row' ≡ bytes)
  unfolding save
  saved_same b row r row' met l =
      let i : image_of versions (saved_list here (held s.answer.node)) ≡ bytes =
      ap (λ (x : M.Node Addr). image_of versions (saved_list here x)) restored_held ∙ saved_again here here_lawful versions bytes settings facts sure b in
      let u = restored_sound in
      let z : ltb (length row) (length (image_of versions (saved_list here (held s.answer.node)))) ≡ false =
      ap (λ (x : List ℕ). ltb (length row) (length x)) i ∙ le-ltb (length row) (length bytes) l in
      let q = goes (sound here (stored_view s.answer.node)) (ltb (length row) (length (image_of versions (saved_list here (held s.answer.node))))) Unsound NoRoom (length (image_of versions (saved_list here (held s.answer.node))))
      (image_of versions (saved_list here (held s.answer.node)) ++ drop (length (image_of versions (saved_list here (held s.answer.node)))) row) row u z in
      let e : r ≡ saving.Whole (length bytes) = met.answer ∙ q ∙ ap (λ (x : List ℕ). saving.Whole (length x)) i in
      (e, (wrote s.answer.node row r row' met (length bytes) e).bytes ∙ i)
    where
      goes : (u t : Bool) (a b : Refusal) (k : ℕ) (w row : List ℕ) → u ≡ true → t ≡ false
          → ending_of (first_of {B = Save} ((not u, a) ∷ (t, b) ∷ []) (λ r. record { ends = not_saved r; row = row }) (record { ends = saved k; row = w })).ends ≡ saving.Whole k
      goes u t a b k w row e f = rw (e, f)
