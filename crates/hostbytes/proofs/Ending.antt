-- How a call for bytes ends over words.
-- Assumes nothing.
use mathlib.Core.Path.{◌≡◌, refl, ap, sym, ◌∙◌, subst}
use mathlib.Core.List.{List, [], ◌∷◌, ◌++◌, map}
use Prim.Native.Nat.{ℕ, ◌+◌, ◌*◌}
use lib.ListN.{length, take, drop, length-map}
use Rattle.model.specs.declared.Refusal.{Refusal}
use Rattle.model.specs.declared.Settings.{Settings}
use Rattle.model.specs.Answers.{number_of}
use Rattle.model.specs.Rows.{pad_to}
use Rattle.laws.specs.Bools.{take-map}
use Rattle.types.specs.declared.Action.{Action}
use Rattle.types.specs.declared.Gossip.{Gossip}
use Rattle.types.specs.Views.{no_gossip}
use Rattle.node.specs.declared.Node.{Node}
use Rattle.saving.specs.declared.Saving.{Saving}
use Rattle.saving.specs.declared.Saving.TheVariants as saving
use Rattle.saving.specs.declared.Restored.{Restored}
use Rattle.saving.specs.Views.{restored_of}
use Rattle.saving.specs.Views as saves
use Rattle.salvage.specs.declared.Ends.{Ends}
use Rattle.salvage.specs.declared.Ends.TheVariants as ends
use Rattle.salvage.specs.declared.Salvaged.{Salvaged}
use Rattle.salvage.specs.Views as salvages
use Rattle.incoming.specs.declared.Reading.{Reading}
use Rattle.incoming.specs.declared.Reading.TheVariants as reading
use Rattle.incoming.specs.declared.Taken.{Taken}
use Rattle.incoming.specs.Datagram.{Takes, reading_of, records_of}
use Rattle.outgoing.specs.declared.Writing.{Writing}
use Rattle.outgoing.specs.declared.Writing.TheVariants as writing
use Rattle.outgoing.specs.Outgoing.{Sends}
use Rattle.outgoing.specs.Sending.{sends_bare}
use Rattle.datagram.specs.Promises as datagram
use Rattle.datagram.specs.Laws.{writes_sent}
use Rattle.cwords.specs.Reading.{Rows, settings_of, gossip_of, action_of, wait_of}
use Rattle.cwords.specs.Writing.{gossip_words, action_words, wait_words, code_of}
use Rattle.cwords.specs.Back.{Puts}
use Rattle.cwords.specs.Leaving.{kept_not, kept_so, stays, goes}
use Rattle.hostbytes.specs.Promised.{Saves, saving_code, saving_count, Restores, Salvages, said_word, ends_code, ends_said, ends_counts, salvaged_of, Reads, reading_code, reading_action, reading_count, place_word, Writes, writing_code, writing_count}

-- saving
module _ (N n : Node) (out out' : List ℕ) (r : Saving) (e : n ≡ N) (s : saves.Saves n out r out') where
  saved-as : (v : Saving) (code : ℕ) (count : List ℕ) → r ≡ v → code ≡ saving_code v → count ≡ saving_count v → Saves N out code out' count
  saved-as v code count g c k =
      let says : v ≡ saves.ending_of (saves.save_of n out).ends = sym g ∙ s.answer in
      subst (λ (z : Node). Saves z out code out' count) e
      (record { coded = c ∙ ap saving_code says; written = s.written; counted = k ∙ ap saving_count says })

  pub saved : (k : ℕ) → r ≡ saving.Whole k → Saves N out 0 out' (k ∷ [])
  saved k g = saved-as (saving.Whole k) 0 (k ∷ []) g refl refl

  pub not_saved : (x : Refusal) (code : ℕ) → r ≡ saving.Refused x → code ≡ number_of x → Saves N out code out' (0 ∷ [])
  not_saved x code g c = saved-as (saving.Refused x) code (0 ∷ []) g c refl

-- restoring
pub restored_at : (bytes w : List ℕ) (tick : ℕ) (d : Restored) (set : Settings) → d ≡ restored_of bytes set tick → set ≡ settings_of w → d ≡ restored_of bytes (settings_of w) tick
restored_at bytes w tick d set e es = e ∙ ap (λ (z : Settings). restored_of bytes z tick) es

module _ (D d : Restored) (e : d ≡ D) (before : Rows) (wait : List ℕ) (code : ℕ) (coded : code ≡ code_of d.answer.reply) where
  pub not-restored : (code ≡ 0 → ⊥) → Restores D before wait code before wait
  not-restored h =
      let r = d.answer.reply in
      let n : code_of r ≡ 0 → ⊥ = λ z. h (coded ∙ z) in
      subst (λ (z : Restored). Restores z before wait code before wait) e
      (record {
        coded = coded;
        node = stays r d.answer.node before n;
        waits = kept_not r (wait_words d.wait) wait n;
        waits_again = kept_not r d.wait (wait_of wait) n;
      })

  pub restored : (after : Rows) (wait' : List ℕ) → code ≡ 0 → Puts d.answer.node after → (wait' ≡ wait_words d.wait) × (wait_of wait' ≡ d.wait) → Restores D before wait 0 after wait'
  restored after wait' h p t =
      let r = d.answer.reply in
      let y : code_of r ≡ 0 = sym coded ∙ h in
      subst (λ (z : Restored). Restores z before wait 0 after wait') e
      (record {
        coded = sym y;
        node = goes r d.answer.node before after y p;
        waits = t.0 ∙ kept_so r (wait_words d.wait) wait y;
        waits_again = t.1 ∙ kept_so r d.wait (wait_of wait) y;
      })

-- salvage
module _ (bytes out out' said : List ℕ) (d : Salvaged) (s : salvages.Salvages bytes out d out') where
  salvaged_as : (v : Ends) (code : ℕ) (said' counts : List ℕ) → d.ends ≡ v → code ≡ ends_code v → said' ≡ ends_said v d said → counts ≡ ends_counts v d
      → Salvages bytes out said code out' said' counts
  salvaged_as v code said' counts g c w k =
      let says : d ≡ salvaged_of bytes out = s.answer in
      record {
        coded = c ∙ ap ends_code (sym g) ∙ ap (λ (z : Salvaged). ends_code z.ends) says;
        written = s.written;
        told = w ∙ ap (λ (z : Ends). ends_said z d said) (sym g) ∙ ap (λ (z : Salvaged). ends_said z.ends z said) says;
        counted = k ∙ ap (λ (z : Ends). ends_counts z d) (sym g) ∙ ap (λ (z : Salvaged). ends_counts z.ends z) says;
      }

  pub salvaged : (k : ℕ) (said' : List ℕ) → d.ends ≡ ends.Whole k → said' ≡ map said_word d.words → Salvages bytes out said 0 out' said' (k ∷ d.count ∷ d.places ∷ [])
  salvaged k said' g w = salvaged_as (ends.Whole k) 0 said' (k ∷ d.count ∷ d.places ∷ []) g refl w refl

  pub not-salvaged : (x : Refusal) (code : ℕ) → d.ends ≡ ends.Refused x → code ≡ number_of x → Salvages bytes out said code out' said (0 ∷ 0 ∷ 0 ∷ [])
  not-salvaged x code g c = salvaged_as (ends.Refused x) code said (0 ∷ 0 ∷ 0 ∷ []) g c refl refl

-- a datagram, read
module _ (bytes action : List ℕ) (lent lent' : List (List ℕ)) (t : Taken) (h : Takes bytes (length lent) t) (o : lent' ≡ take t.count (map gossip_words t.row) ++ drop t.count lent) where
  rows_read : lent' ≡ map gossip_words (records_of bytes (length lent)) ++ drop (length (records_of bytes (length lent))) lent
  rows_read = o ∙ (λ i. (take-map gossip_words t.count t.row ∙ ap (map gossip_words) h.hands) i ++ drop (h.counts i) lent)

  read_as : (v : Reading) (code : ℕ) (action' count : List ℕ) → t.answer ≡ v → code ≡ reading_code v → action' ≡ reading_action v action → count ≡ reading_count v
      → Reads bytes action lent code action' lent' count
  read_as v code action' count g c a k =
      let says : v ≡ reading_of bytes (length lent) = sym g ∙ h.says in
      record {
        coded = c ∙ ap reading_code says;
        said = a ∙ ap (λ (z : Reading). reading_action z action) says;
        row = rows_read;
        counted = k ∙ ap reading_count says;
      }

  pub was_read : (a : Action) (n : ℕ) (action' : List ℕ) → t.answer ≡ reading.Whole a n → action' ≡ action_words a → Reads bytes action lent 0 action' lent' (n ∷ [])
  was_read a n action' g w = read_as (reading.Whole a n) 0 action' (n ∷ []) g refl w refl

  pub malformed : (p x : ℕ) → t.answer ≡ reading.Malformed p → x ≡ place_word p → Reads bytes action lent (11 + 256 * x) action lent' (0 ∷ [])
  malformed p x g w = read_as (reading.Malformed p) (11 + 256 * x) action (0 ∷ []) g (ap (λ (z : ℕ). 11 + 256 * z) w) refl refl

  pub not_read : (x : Refusal) (code : ℕ) → t.answer ≡ reading.Refused x → code ≡ number_of x → Reads bytes action lent code action lent' (0 ∷ [])
  not_read x code g c = read_as (reading.Refused x) code action (0 ∷ []) g c refl refl

-- and written
module _ (a : Action) (rs : List (List ℕ)) (out out' : List ℕ) (r : Writing) where
  pub sent_bare : length rs ≡ 0 → Sends a [] 0 out r out' → datagram.Writes a (map gossip_of rs) out r out'
  sent_bare z s =
      let none : length (map gossip_of rs) ≡ 0 = length-map rs gossip_of ∙ z in
      let row : List Gossip = pad_to 64 no_gossip (take 64 (map gossip_of rs)) in
      writes_sent a (map gossip_of rs) out out' r row refl (sends_bare a row (length (map gossip_of rs)) out r out' none s)

  pub sent-at : (first : List Gossip) → first ≡ pad_to 64 no_gossip (take 64 (map gossip_of rs)) → Sends a first (length rs) out r out' → datagram.Writes a (map gossip_of rs) out r out'
  sent-at first f s = writes_sent a (map gossip_of rs) out out' r first f (subst (λ (k : ℕ). Sends a first k out r out') (sym (length-map rs gossip_of)) s)

pub sent-words : (w : List ℕ) (records : List Gossip) (out out' : List ℕ) (r : Writing) (a : Action) → a ≡ action_of w → datagram.Writes a records out r out' → datagram.Writes (action_of w) records out r out'
sent-words w records out out' r a e s = subst (λ (z : Action). datagram.Writes z records out r out') e s

module _ (a : Action) (records : List Gossip) (out out' : List ℕ) (r : Writing) (s : datagram.Writes a records out r out') where
  written_as : (v : Writing) (code : ℕ) (count : List ℕ) → r ≡ v → code ≡ writing_code v → count ≡ writing_count v → Writes a records out code out' count
  written_as v code count g c k =
      let says = sym g ∙ s.answer in
      record { coded = c ∙ ap writing_code says; written = s.row; counted = k ∙ ap writing_count says }

  pub was-written : (k : ℕ) → r ≡ writing.Whole k → Writes a records out 0 out' (k ∷ [])
  was-written k g = written_as (writing.Whole k) 0 (k ∷ []) g refl refl

  pub not_written : (x : Refusal) (code : ℕ) → r ≡ writing.Refused x → code ≡ number_of x → Writes a records out code out' (0 ∷ [])
  not_written x code g c = written_as (writing.Refused x) code (0 ∷ []) g c refl
