-- The same at the address of this build: its text has no more than 47 characters, so that one record of any size goes out with every message.
-- Assumes nothing.
use Rattle.std.specs.Prelude.{◌≡◌, true, false, List, ℕ, ◌≤◌, ◌<◌, length}
use Rattle.address.specs.Here.{Addr, here, here_lawful, here_chars}
use Rattle.model.specs.Bounds.{Room}
use Rattle.model.specs.Node.{Stored}
use Rattle.model.specs.Sound.{sound}
use Rattle.model.specs.Calls.{reply_number, detect}
use Rattle.laws_node.specs.Good.{FullRows}
use Rattle.history.specs.Histories.{World, Call}
use Rattle.probing.specs.Stretch.{pings_of}
use Rattle.supply.specs.Meanwhile.{FullAlong}
use Rattle.supply.proofs.Meanwhile.{room_meanwhile}
use Rattle.supply.specs.Remedy.{fresh_wait, Turn, Ready, ReadyAll, takes_turn, after, Counted}
use Rattle.supply.proofs.Remedy.{never_full, turn-counts, room_most}

short_texts : (a : Addr) → here.valid a ≡ true → here.chars a ≤ 47
short_texts a v = (here_chars a).1

pub never_full-here : (s : Stored Addr) (since now : ℕ) (ds : List ℕ) (lent : Room) → FullRows s
    → (reply_number (detect here s (fresh_wait since) now ds lent).outcome.reply ≡ 9 → ⊥)
    × (reply_number (detect here s (fresh_wait since) now ds lent).outcome.reply ≡ 13 → ⊥)
    × (reply_number (detect here s (fresh_wait since) now ds lent).outcome.reply ≡ 10 → ⊥)
never_full-here = never_full here here_lawful short_texts

pub turn-counts-here : (s : Stored Addr) (t : Turn) → FullRows s → sound here s ≡ true → Ready s.settings s.listed t → Counted here s (takes_turn here s t).outcome
turn-counts-here = turn-counts here here_lawful short_texts

pub room-most-here : (s : Stored Addr) (ts : List Turn) → FullRows s → sound here s ≡ true → ReadyAll s.settings s.listed ts → 2817 ≤ length ts
    → (after here ts s).alive.used < 128
room-most-here = room_most here here_lawful short_texts

pub room_meanwhile_here : (h : List (Call Addr)) (w : World Addr) → FullRows w.node → sound here w.node ≡ true → w.node.settings.collect ≡ false → 2817 ≤ pings_of here h w
    → FullAlong here h w → ⊥
room_meanwhile_here = room_meanwhile here here_lawful short_texts
