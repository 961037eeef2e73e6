-- How a restart ends: each refusal, and the node.
-- Assumes nothing.
use mathlib.Core.Path.{◌≡◌, refl, ap, sym, ◌∙◌}
use mathlib.Core.Bool.{Bool, true, false, not, ◌&&◌}
use mathlib.Core.List.{List, [], ◌∷◌, map}
use Prim.Native.Nat.{ℕ}
use lib.ListN.{length, take, length-map}
use borrow.Author.Tests.{not-true, not-false}
use Rattle.model.specs.declared.Refusal.TheVariants as refusal
use Rattle.model.specs.declared.Reply.TheVariants.{Done}
use Rattle.model.specs.declared.Settings.{Settings}
use Rattle.model.specs.Rows.{pick, pad_to}
use Rattle.model.specs.Sound.{in_range}
use Rattle.model.specs.Node as M
use Rattle.model.specs.Members as list
use Rattle.model.specs.Calls.{Created, created, not_created, first_of}
use Rattle.address.specs.Here.{Addr, here}
use Rattle.member.specs.declared.Member.{Member}
use Rattle.laws.specs.Pad.{take_pad}
use Rattle.model.specs.Lamps.{lamps_of}
use Rattle.member.specs.Views.{to_member, from_member, nobody, pack_with}
use Rattle.member.specs.Packing.{to_from}
use Rattle.timers.specs.Views.{pack_timers}
use Rattle.departed.specs.Views.{pack_departed}
use Rattle.disseminate.specs.Views.{pack_disseminator, no_news}
use Rattle.node.specs.declared.Node.{Node}
use Rattle.node.specs.Views.{plain_answer, pack_node, created_of}
use Rattle.node.specs.Rows.{unstored_pack}
use Rattle.image.specs.Image.{Entry, Image, addr_in, member_of, own_in, entries_in, position_in, saved_of, marked, sized, in_rule}
use Rattle.image.specs.Forms.{form_in, fields_in, in_version}
use Rattle.image.proofs.Round.{members-addrs}
use Rattle.image.specs.Versions.{versions}
use Rattle.image.specs.Views.{read_member, rows_of, nothing, list_of, loaded_of}
use Rattle.image.specs.declared.Loaded.{Loaded}
use Rattle.image.specs.declared.Verdict.{Verdict}
use Rattle.image.specs.declared.Verdict.TheVariants as verdict
use Rattle.saving.specs.Saving.{restored_node, restore}
use Rattle.saving.specs.Views.{node_of, not_restored, restored_as, set_up_of, restored_of}
use Rattle.saving.specs.declared.Restored.{Restored}

-- the settings' test
module _ (l : Loaded) (settings : Settings) (tick : ℕ) where
  by_range : (u : Bool) → in_range settings ≡ u → set_up_of l settings tick ≡ pick u (restored_as (plain_answer (Done 0) (node_of l settings)) tick) (not_restored refusal.Setting tick)
  unfolding set_up_of
  by_range u e = ap (λ (v : Bool). pick v (restored_as (plain_answer (Done 0) (node_of l settings)) tick) (not_restored refusal.Setting tick)) e

  pub set_up_refused : (u : Bool) (r : Restored) → u ≡ in_range settings → not u ≡ true → r ≡ not_restored refusal.Setting tick → r ≡ set_up_of l settings tick
  set_up_refused u r e t q = q ∙ sym (by_range false (sym e ∙ not-true u t))

  pub set_up_done : (u : Bool) (n : Node) → u ≡ in_range settings → not u ≡ false → n ≡ node_of l settings → restored_as (plain_answer (Done 0) n) tick ≡ set_up_of l settings tick
  set_up_done u n e t q = ap (λ (m : Node). restored_as (plain_answer (Done 0) m) tick) q ∙ sym (by_range true (sym e ∙ not-false u t))

-- the rows of an image are those of the restored node
map-map : (l : List (Entry Addr)) → map read_member l ≡ map from_member (map member_of l)
map-map [] = refl
map-map (e ∷ l) = ap (λ (r : List Member). read_member e ∷ r) (map-map l)

node_is : (i : Image Addr) (settings : Settings) → node_of (list_of i) settings ≡ pack_node (restored_node here settings (saved_of i))
unfolding pack_node pack_with rows_of
node_is i settings =
    let t : pad_to 64 nobody (map read_member (entries_in i)) ≡ pad_to 64 nobody (map from_member (map member_of (entries_in i))) = ap (pad_to 64 nobody) (map-map (entries_in i)) in
    let o : pad_to 64 here.blank (map addr_in (entries_in i)) ≡ pad_to 64 here.blank (list.addrs (map member_of (entries_in i))) = ap (pad_to 64 here.blank) (sym (members-addrs (entries_in i))) in
    let n : length (entries_in i) ≡ length (map member_of (entries_in i)) = sym (length-map (entries_in i) member_of) in
    let l : lamps_of here.same (own_in i) (map to_member (take (length (entries_in i)) (pad_to 64 nobody (map read_member (entries_in i))))) ≡ lamps_of here.same (own_in i) (map member_of (entries_in i)) =
    ap (lamps_of here.same (own_in i))
    (ap (λ (k : ℕ). map to_member (take k (pad_to 64 nobody (map read_member (entries_in i))))) (sym (length-map (entries_in i) read_member))
    ∙ ap (map to_member) (take_pad 64 nobody (map read_member (entries_in i)))
    ∙ ap (map to_member) (map-map (entries_in i))
    ∙ to_from (map member_of (entries_in i))) in
    λ j. record {
      settings = settings;
      own = own_in i;
      members = record { table = t j; len = n j; order = record { row = o j; position = position_in i }; lamps = l j };
      disseminator = pack_disseminator no_news;
      timers = pack_timers [];
      departed = pack_departed [];
    }

module _ (bytes : List ℕ) (settings : Settings) (tick : ℕ) where
  abbrev i : Image Addr
  i = fields_in versions bytes

  abbrev refused_by : Bool → Bool → Bool → Bool → Created Addr
  refused_by u v w x =
      first_of ((not u, refusal.WrongMark) ∷ (not v, refusal.WrongLength) ∷ (not w, refusal.OutOfRule) ∷ (not x, refusal.Setting) ∷ [])
      not_created
      (created (M.stored here (restored_node here settings (saved_of i))))

  abbrev loaded_by : Bool → Bool → Bool → Loaded
  loaded_by u v w = pick u (pick v (pick w (list_of i) (nothing verdict.OutOfRule)) (nothing verdict.WrongLength)) (nothing verdict.WrongMark)

  set_up_by : (x : Bool) → in_range settings ≡ x → set_up_of (list_of i) settings tick ≡ restored_as (created_of (refused_by true true true x)) tick
  unfolding created_of
  set_up_by true e =
      by_range (list_of i) settings tick true e
      ∙ ap (λ (n : Node). restored_as (plain_answer (Done 0) n) tick) (node_is i settings ∙ sym (unstored_pack (restored_node here settings (saved_of i))))
  set_up_by false e = by_range (list_of i) settings tick false e

  -- what is answered to a list, or to the verdict on an image that gives none
  abbrev answered : Verdict → Loaded → Restored
  answered verdict.Accepted l = set_up_of l settings tick
  answered verdict.WrongMark l = not_restored refusal.WrongMark tick
  answered verdict.WrongLength l = not_restored refusal.WrongLength tick
  answered verdict.OutOfRule l = not_restored refusal.OutOfRule tick

  by_tests : (u v w : Bool) → answered (loaded_by u v w).verdict (loaded_by u v w) ≡ restored_as (created_of (refused_by u v w (in_range settings))) tick
  unfolding created_of
  by_tests true true true = set_up_by (in_range settings) refl
  by_tests true true false = refl
  by_tests true false w = refl
  by_tests false v w = refl

  pub restore-ends : (l : Loaded) → l ≡ loaded_of bytes → (v : Verdict) → l.verdict ≡ v → answered v l ≡ restored_of bytes settings tick
  unfolding restored_of restore loaded_of
  restore-ends l e v q =
      (λ j. answered (sym q j) l)
      ∙ ap (λ (x : Loaded). answered x.verdict x) e
      ∙ by_tests (marked (form_in versions bytes) bytes) (sized (form_in versions bytes) bytes) (in_rule here (fields_in versions bytes) && in_version versions bytes)
