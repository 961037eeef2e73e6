-- SALVAGE: what is written is the image of own, the kept records in order and the position, in the version of that list; the words are the rules'; restore takes every result; an image that
-- restore takes, and so every result, stays as it is; each refusal exactly where the table says, and refused, nothing is written. Of the call.
-- Assumes nothing.
use Rattle.std.specs.Prelude.{◌≡◌, ◌↔◌, Bool, not, get_or, take, replicate}
use Rattle.std.proofs.Math.Path.{refl, ap}
use Rattle.std.proofs.Common.{sym, ◌∙◌, subst, arith}
use Rattle.std.proofs.Math.Bool.{true, false}
use mathlib.Core.List.{List, [], ◌∷◌, ◌++◌, map}
use Prim.Native.Nat.{ℕ, zero, suc, ◌-◌, ◌≤◌, ◌<◌, min}
use Rattle.std.proofs.Math.Dec.{ltb}
use Rattle.std.proofs.Math.ListN.{length, drop, length-replicate}
use Rattle.std.proofs.Math.Seq.{take_at, drop_at}
use borrow.Author.Tests.{le-ltb}
use Rattle.model.specs.declared.Refusal.{Refusal}
use Rattle.model.specs.declared.Refusal.TheVariants.{NoRoom, WrongMark, OutOfRule}
use Rattle.model.specs.declared.Reply.TheVariants.{Done}
use Rattle.model.specs.declared.Settings.{Settings}
use Rattle.model.specs.Node as M
use Rattle.model.specs.Sound.{in_range}
use Rattle.model.specs.Calls.{Created, created, first_of}
use Rattle.address.specs.Here.{Addr, here, here_lawful}
use Rattle.node.specs.Views.{created_of}
use Rattle.numbers.specs.Numbers.{Bytes}
use Rattle.image.specs.Image.{Form, Saved, marked, counted}
use Rattle.image.specs.Forms.{wide_of, form_in, said_by}
use Rattle.image.specs.Chosen.{Tells}
use Rattle.image.specs.Versions.{v2, versions}
use Rattle.image.proofs.Versions.{sure}
use Rattle.saving.specs.Saving.{restored_node, restore}
use Rattle.saving.specs.Views.{restored_as, restored_of}
use Rattle.laws_saving.specs.Laws.{restores}
use Rattle.saving.specs.declared.Restored.{Restored}
use Rattle.salvage.specs.Salvage.{Salvage, salvaged, not_salvaged, word_at, places, left_of, result, headed, salvage_tests, salvage}
use Rattle.salvage.specs.Salvage as S
use Rattle.salvage.specs.Rule.{Rule}
use Rattle.salvage.proofs.Rule.{exactly, words-many, word-of}
use Rattle.salvage.proofs.Laws.{words_same, headed-there, result_is, result-tells, result-opens, result-same}
use Rattle.salvage.specs.Views.{said, row_of_words, not_done, ending_of, Salvages}
use Rattle.salvage.specs.declared.Word.{Word}
use Rattle.salvage.specs.declared.Word.TheVariants as word
use Rattle.salvage.specs.declared.Said.{Said}
use Rattle.salvage.specs.declared.Ends.{Ends}
use Rattle.salvage.specs.declared.Ends.TheVariants as ends
use Rattle.salvage.specs.declared.Salvaged.{Salvaged}
use Rattle.promises.specs.Exactly.{ByTests}
use Rattle.promises.proofs.Exactly.{only-tests}
use Rattle.saving_promises.specs.Restarts.{held}
use Rattle.saving_promises.proofs.Restarts.{facts, restored_held}
use Rattle.saving_promises.specs.Salvages.{ends_number, f, left, Wrote, all_kept, Unchanged, same}

-- what stands at a place of the row of words
get_d_said : (l m : List Said) (ws : List Word) (i : ℕ) → l ≡ map said ws → i < length ws → get_or (l ++ m) i (said word.Cut) ≡ said (get_or ws i word.Cut)
get_d_said l m ws i e h = ap (λ (x : List Said). get_or (x ++ m) i (said word.Cut)) e ∙ at ws i h
  where
    at : (ws : List Word) (i : ℕ) → i < length ws → get_or (map said ws ++ m) i (said word.Cut) ≡ said (get_or ws i word.Cut)
    at [] i h = absurd (omega arith)
    at (w ∷ ws) zero h = refl
    at (w ∷ ws) (suc i) h = at ws i (omega arith)

pub in_row : (ws : List Word) (i : ℕ) → i < length ws → (get_or (row_of_words ws) i (said word.Cut)).word ≡ get_or ws i word.Cut
unfolding row_of_words
in_row ws i k = ap (λ (x : Said). x.word) (get_d_said (map said ws) (replicate (64 - length (map said ws)) (said word.Cut)) ws i refl k)

at_most : (f : Form Addr) (bytes : List ℕ) (i n : ℕ) → n ≡ min (counted f bytes) 64 → i < n → i < places here f bytes
unfolding places
at_most f bytes i n q h = omega (arith, q, h)

abbrev kind_of : Ends → ℕ
kind_of (ends.Whole n) = 0
kind_of (ends.Refused r) = 1

module _ (bytes row : List ℕ) (r : Salvaged) (row' : List ℕ) (met : Salvages bytes row r row') where
  -- "Refusals: 14 as before; then 16 ..; then 12", each exactly if its test is the first that fails
  pub salvage_exactly : ByTests (ends_number r.ends) (salvage_tests here versions bytes (length row))
  unfolding salvage
  salvage_exactly =
      only-tests (λ (s : Salvage). ends_number (ending_of s.ends).ends) (λ x. record { ends = not_salvaged x; row = row }) (λ y. refl) _ refl (salvage_tests here versions bytes (length row))
      (ap (λ (x : Salvaged). ends_number x.ends) met.answer)

  -- refused, nothing is written, and there are no words
  pub salvage-refused : (x : Refusal) → r.ends ≡ ends.Refused x → (row' ≡ row) × (r ≡ not_done (ends.Refused x))
  unfolding salvage
  salvage-refused x e =
      let q =
      by (marked (f bytes row r row' met) bytes) (headed here (f bytes row r row' met) bytes) (ltb (length row) (length (left bytes row r row' met))) WrongMark OutOfRule NoRoom (length (left bytes row r row' met)) (counted (f bytes row r row' met) bytes) (S.words here (f bytes row r row' met) bytes)
      ((left bytes row r row' met) ++ drop (length (left bytes row r row' met)) row) (sym (ap (λ (y : Salvaged). y.ends) met.answer) ∙ e) in
      (met.written ∙ q.0, met.answer ∙ q.1)
    where
      told : {x y : Refusal} → ends.Refused x ≡ ends.Refused y → not_done (ends.Refused x) ≡ not_done (ends.Refused y)
      told e = ap not_done e

      by : (u v w : Bool) (a b c : Refusal) (k n : ℕ) (ws : List Word) (z : List ℕ)
          → (ending_of (first_of {B = Salvage} ((not u, a) ∷ (not v, b) ∷ (w, c) ∷ []) (λ r. record { ends = not_salvaged r; row = row }) (record { ends = salvaged k n ws; row = z })).ends).ends ≡ ends.Refused x
          → ((first_of {B = Salvage} ((not u, a) ∷ (not v, b) ∷ (w, c) ∷ []) (λ r. record { ends = not_salvaged r; row = row }) (record { ends = salvaged k n ws; row = z })).row ≡ row)
          × (ending_of (first_of {B = Salvage} ((not u, a) ∷ (not v, b) ∷ (w, c) ∷ []) (λ r. record { ends = not_salvaged r; row = row }) (record { ends = salvaged k n ws; row = z })).ends ≡ not_done (ends.Refused x))
      by false v w a b c k n ws z e = (refl, told e)
      by true false w a b c k n ws z e = (refl, told e)
      by true true true a b c k n ws z e = (refl, told e)
      by true true false a b c k n ws z e = let y : ◌≡◌ {A = ℕ} 0 1 = ap kind_of e in absurd (omega arith)

  pub wrote : (n : ℕ) → r.ends ≡ ends.Whole n → (Wrote bytes row r row' met) n
  unfolding salvage places
  wrote n e =
      let q =
      by (marked (f bytes row r row' met) bytes) (headed here (f bytes row r row' met) bytes) (ltb (length row) (length (left bytes row r row' met))) WrongMark OutOfRule NoRoom (length (left bytes row r row' met)) (counted (f bytes row r row' met) bytes) (S.words here (f bytes row r row' met) bytes)
      ((left bytes row r row' met) ++ drop (length (left bytes row r row' met)) row) (sym (ap (λ (y : Salvaged). y.ends) met.answer) ∙ e) in
      let w : row' ≡ (left bytes row r row' met) ++ drop n row = met.written ∙ q.3 ∙ ap (λ (k : ℕ). (left bytes row r row' met) ++ drop k row) (sym q.2) in
      record {
        is_marked = q.0;
        is_headed = q.1;
        size = q.2;
        bytes_are = ap (take n) w ∙ take_at (left bytes row r row' met) (drop n row) n (sym q.2);
        rest = ap (drop n) w ∙ drop_at (left bytes row r row' met) (drop n row) n (sym q.2);
        count = ap (λ (y : Salvaged). y.count) (met.answer ∙ q.4);
        many = ap (λ (y : Salvaged). y.places) (met.answer ∙ q.4) ∙ words-many here (f bytes row r row' met) bytes (places here (f bytes row r row' met) bytes);
        words = ap (λ (y : Salvaged). y.words) (met.answer ∙ q.4);
      }
    where
      length_in : Ends → ℕ
      length_in (ends.Whole k) = k
      length_in (ends.Refused x) = 0

      by : (u v w : Bool) (a b c : Refusal) (k m : ℕ) (ws : List Word) (z : List ℕ)
          → (ending_of (first_of {B = Salvage} ((not u, a) ∷ (not v, b) ∷ (w, c) ∷ []) (λ r. record { ends = not_salvaged r; row = row }) (record { ends = salvaged k m ws; row = z })).ends).ends ≡ ends.Whole n
          → (u ≡ true) × (v ≡ true) × (n ≡ k)
          × ((first_of {B = Salvage} ((not u, a) ∷ (not v, b) ∷ (w, c) ∷ []) (λ r. record { ends = not_salvaged r; row = row }) (record { ends = salvaged k m ws; row = z })).row ≡ z)
          × (ending_of (first_of {B = Salvage} ((not u, a) ∷ (not v, b) ∷ (w, c) ∷ []) (λ r. record { ends = not_salvaged r; row = row }) (record { ends = salvaged k m ws; row = z })).ends ≡ ending_of (salvaged k m ws))
      by false v w a b c k m ws z e = let y : ◌≡◌ {A = ℕ} 1 0 = ap kind_of e in absurd (omega arith)
      by true false w a b c k m ws z e = let y : ◌≡◌ {A = ℕ} 1 0 = ap kind_of e in absurd (omega arith)
      by true true true a b c k m ws z e = let y : ◌≡◌ {A = ℕ} 1 0 = ap kind_of e in absurd (omega arith)
      by true true false a b c k m ws z e = (refl, refl, sym (ap length_in e), refl, refl)

  -- each place's word exactly if its rule holds, record by record
  pub each_word : (n : ℕ) → r.ends ≡ ends.Whole n → (i : ℕ) → i < r.places → (w : Word) → ((get_or r.words i (said word.Cut)).word ≡ w) ↔ Rule here (f bytes row r row' met) w bytes i
  each_word n e i h w =
      let q = wrote n e in
      let m = words-many here (f bytes row r row' met) bytes (places here (f bytes row r row' met) bytes) in
      let p : i < places here (f bytes row r row' met) bytes = at_most (f bytes row r row' met) bytes i r.places q.many h in
      let s : (get_or r.words i (said word.Cut)).word ≡ word_at here (f bytes row r row' met) bytes i =
      ap (λ (l : List Said). (get_or l i (said word.Cut)).word) q.words ∙ in_row (S.words here (f bytes row r row' met) bytes) i (omega (arith, m, p)) ∙ word-of here (f bytes row r row' met) bytes word.Cut (places here (f bytes row r row' met) bytes) i p in
      let x = exactly here (f bytes row r row' met) bytes i w in
      ((λ g. x.0 (sym s ∙ g)), (λ g. s ∙ x.1 g))

  -- "Restore with settings in range always accepts its result", and gives the list that is left
  module _ (b : Bytes bytes) (n : ℕ) (e : r.ends ≡ ends.Whole n) where
    pub result-told : Tells here versions (left bytes row r row' met) (left_of here versions bytes)
    result-told = result-tells here here_lawful versions bytes sure b (wrote n e).is_headed

    -- "All others are version 1, also from salvage": of version 2 exactly if own or a kept address is IPv6
    pub result-version : marked v2 (take n row') ≡ wide_of versions (left_of here versions bytes)
    result-version = ap (marked v2) (wrote n e).bytes_are ∙ result-opens here here_lawful versions bytes sure b (wrote n e).is_headed

    pub result_restored : (settings : Settings) (tick : ℕ) (s : Restored) → in_range settings ≡ true → s ≡ restored_of (take n row') settings tick
        → (s.answer.reply ≡ Done 0) × (held s.answer.node ≡ restored_node here settings (left_of here versions bytes))
    unfolding restored_of created_of
    result_restored settings tick s c told =
        let t : s ≡ restored_of (left bytes row r row' met) settings tick = told ∙ ap (λ (x : List ℕ). restored_of x settings tick) (wrote n e).bytes_are in
        let i : restore here versions (left bytes row r row' met) settings ≡ created (M.stored here (restored_node here settings (left_of here versions bytes))) =
        restores here here_lawful versions (left bytes row r row' met) settings (left_of here versions bytes) result-told c in
        let d : s.answer.reply ≡ Done 0 = ap (λ (x : Restored). x.answer.reply) (t ∙ ap (λ (x : Created Addr). restored_as (created_of x) tick) i) in
        (d, restored_held (left bytes row r row' met) settings tick s t d ∙ ap (restored_node here settings) result-told.says.says)

-- one result for each input
pub salvage_unique : (bytes row : List ℕ) (r r₂ : Salvaged) (o o₂ : List ℕ) → Salvages bytes row r o → Salvages bytes row r₂ o₂ → (r ≡ r₂) × (o ≡ o₂)
salvage_unique bytes row r r₂ o o₂ c d = (c.answer ∙ sym d.answer, c.written ∙ sym d.written)

-- bytes that pass every test of an image
module _ (bytes : List ℕ) (s : Saved Addr) (t : Tells here versions bytes s) (i : result here versions bytes ≡ bytes) where
  abbrev g : Form Addr
  g = form_in versions bytes

  pub stays_same : (row : List ℕ) (r : Salvaged) (row' : List ℕ) → Salvages bytes row r row' → length bytes ≤ length row → Unchanged bytes r row'
  unfolding salvage
  stays_same row r row' met l =
      let w = words_same here here_lawful g bytes s t.says in
      let m : length (S.words here g bytes) ≡ counted g bytes = ap (λ (x : List Word). length x) w ∙ length-replicate (counted g bytes) word.Kept in
      let z : ltb (length row) (length (same bytes s t i)) ≡ false = ap (λ (x : List ℕ). ltb (length row) (length x)) i ∙ le-ltb (length row) (length bytes) l in
      let q =
      goes (marked g bytes) (headed here g bytes) (ltb (length row) (length (same bytes s t i))) WrongMark OutOfRule NoRoom
      (record { ends = salvaged (length (same bytes s t i)) (counted g bytes) (S.words here g bytes); row = (same bytes s t i) ++ drop (length (same bytes s t i)) row })
      row t.says.is_marked (headed-there here here_lawful g bytes s t.says) z in
      let a : r ≡ all_kept bytes =
      met.answer
      ∙ ap (λ (x : Salvage). ending_of x.ends) q
      ∙ (λ j. record { ends = ends.Whole (length (i j)); count = counted g bytes; places = m j; words = row_of_words (w j) }) in
      record { answer = a; same = (wrote bytes row r row' met (length bytes) (ap (λ (x : Salvaged). x.ends) a)).bytes_are ∙ i }
    where
      goes : (u v w : Bool) (a b c : Refusal) (go : Salvage) (row : List ℕ) → u ≡ true → v ≡ true → w ≡ false
          → first_of {B = Salvage} ((not u, a) ∷ (not v, b) ∷ (w, c) ∷ []) (λ r. record { ends = not_salvaged r; row = row }) go ≡ go
      goes u v w a b c go row e f g = rw (e, f, g)

-- "On an image that restore accepts, it changes nothing."
pub accepted_stays : (bytes : List ℕ) (settings : Settings) (tick : ℕ) (s : Restored) → s ≡ restored_of bytes settings tick → s.answer.reply ≡ Done 0 → Bytes bytes
    → (row : List ℕ) (r : Salvaged) (row' : List ℕ) → Salvages bytes row r row' → length bytes ≤ length row → Unchanged bytes r row'
accepted_stays bytes settings tick s told kept b row r row' met l =
    let t = (facts bytes settings tick s told kept).tells in
    stays_same bytes (said_by versions bytes) t (result-same here here_lawful versions bytes sure b (said_by versions bytes) t) row r row' met l

-- salvage of a result changes nothing
pub result-stays : (bytes row : List ℕ) (r : Salvaged) (row' : List ℕ) → Salvages bytes row r row' → Bytes bytes → (n : ℕ) → r.ends ≡ ends.Whole n
    → (row₂ : List ℕ) (r₂ : Salvaged) (row₂' : List ℕ) → Salvages (take n row') row₂ r₂ row₂' → n ≤ length row₂ → Unchanged (take n row') r₂ row₂'
result-stays bytes row r row' met b n e row₂ r₂ row₂' met₂ l =
    let w = wrote bytes row r row' met n e in
    let t = result-told bytes row r row' met b n e in
    let g : Salvages (result here versions bytes) row₂ r₂ row₂' = subst (λ (x : List ℕ). Salvages x row₂ r₂ row₂') w.bytes_are met₂ in
    subst (λ (x : List ℕ). Unchanged x r₂ row₂') (sym w.bytes_are)
    (stays_same (result here versions bytes) (left_of here versions bytes) t (result_is here here_lawful versions (result here versions bytes) (left_of here versions bytes) t)
    row₂ r₂ row₂' g (omega (arith, w.size)))
